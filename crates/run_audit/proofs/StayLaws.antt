-- The view that a node is in, as it is kept.
use Rattle.std.proofs.Common.{◌≡◌, ℕ, Bool, true, false, List, [], ◌∷◌, Option, Some, None, refl, ◌∙◌, ap, cond}
use Rattle.std.specs.Prelude.{nat_eq, if◌then◌else◌}
use Rattle.std.specs.Map.{lookup}
use Rattle.rsct_packet.specs.declared.ids.Member.{Member}
use Rattle.rsct_packet.specs.declared.ids.ViewId.{ViewId}
use Rattle.record_lines.specs.declared.line.Line.{Line}
use Rattle.record_lines.specs.declared.line.Line.TheVariants as line
use Rattle.run_audit.specs.Past.{view_after, view_of}
use Rattle.run_audit.specs.Views.{AreStays, view_in}

pub none_yet : (es : List (ℕ × Option ViewId)) → es ≡ [] → AreStays [] es
unfolding view_of view_in
none_yet es e n = ap (λ z. view_in (lookup (nat_eq n) z)) e

module _ (n : ℕ) (es fs : List (ℕ × Option ViewId)) (ls : List Line) where
  moved : (o : Option ViewId) (q : ℕ) (t : Bool) → view_in (lookup (nat_eq q) es) ≡ view_of q ls → view_in (cond t (Some o) (lookup (nat_eq q) es)) ≡ (if t then o else view_of q ls)
  unfolding view_in
  moved o q true e = refl
  moved o q false e = e

  pub started : (j : ℕ) → ((q : ℕ) → lookup (nat_eq q) fs ≡ cond (nat_eq n q) (Some None) (lookup (nat_eq q) es)) → AreStays ls es → AreStays (line.Up n j ∷ ls) fs
  unfolding view_of view_after
  started j up are q = ap view_in (up q) ∙ moved None q (nat_eq n q) (are q)

  pub entered : (v : ViewId) (ms : List Member) → ((q : ℕ) → lookup (nat_eq q) fs ≡ cond (nat_eq n q) (Some (Some v)) (lookup (nat_eq q) es)) → AreStays ls es → AreStays (line.In n v ms ∷ ls) fs
  unfolding view_of view_after
  entered v ms up are q = ap view_in (up q) ∙ moved (Some v) q (nat_eq n q) (are q)
