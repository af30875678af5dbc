-- The last starts of nodes, as they are kept.
use Rattle.std.specs.Prelude.{ℕ, ◌≡◌, ◌+◌, ◌==◌, nat_eq, List, [], ◌∷◌, length, Option, Some, None, if◌then◌else◌}
use Rattle.std.specs.Map.{lookup}
use Rattle.record_lines.specs.declared.line.Line.{Line}
use Rattle.record_lines.specs.declared.line.Line.TheVariants as line
use Rattle.run_audit.specs.declared.starts.Start.{Start}

-- the last start of the node, in these lines
abbrev pub start_after : ℕ → Line → ℕ → Option Start → Option Start
start_after n (line.Up m j) number old = if m == n then Some (record { inc = j; number = number }) else old
start_after n _ number old = old

abbrev pub start_of : ℕ → List Line → Option Start
start_of n [] = None
start_of n (l ∷ ls) = start_after n l (length ls + 1) (start_of n ls)

-- the entries are the last starts in these lines
abbrev pub AreStarts : List Line → List (ℕ × Start) → Type 0
AreStarts ls es = (n : ℕ) → lookup (nat_eq n) es ≡ start_of n ls

unfoldable pub inc_in : Option Start → Option ℕ
inc_in None = None
inc_in (Some s) = Some s.inc
