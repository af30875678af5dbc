-- What is kept of lines under a key: the first that a line gives, or the last. Lines stand with the latest first.
use Rattle.std.specs.Prelude.{ℕ, ◌≡◌, ◌+◌, true, List, [], ◌∷◌, length, Option, Some, None, if◌then◌else◌}
use Rattle.record_lines.specs.declared.line.Line.{Line}
use Rattle.run_audit.specs.declared.broken.Fault.{Fault}
use Rattle.run_audit.specs.declared.broken.Rule.{Rule}
use Rattle.run_audit.specs.Table.{holds, with_of}

-- what the table says of the line: nothing, or that it breaks the rule, and the line that shows it
abbrev pub fault_of : Rule → Line → List Line → Option Fault
fault_of r l ls = if holds r l ls then None else Some (record { rule = r; with_line = with_of r l ls })

-- each of these lines keeps the rule
abbrev pub Keep : Rule → List Line → Type 0
Keep r [] = Unit {0}
Keep r (l ∷ ls) = (holds r l ls ≡ true) × Keep r ls

-- what was there stays
abbrev pub or_new : {V : Type 0} → Option V → Option V → Option V
or_new None new = new
or_new (Some old) new = Some old

-- each line gives by itself and its number
abbrev pub first_given : {V : Type 0} → (Line → ℕ → Option V) → List Line → Option V
first_given give [] = None
first_given give (l ∷ ls) = or_new (first_given give ls) (give l (length ls + 1))

abbrev pub last_given : {V : Type 0} → (Line → ℕ → Option V) → List Line → Option V
last_given give [] = None
last_given give (l ∷ ls) = or_new (give l (length ls + 1)) (last_given give ls)
