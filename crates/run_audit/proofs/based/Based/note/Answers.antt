use Rattle.std.proofs.Common.{◌≡◌, ℕ, ◌+◌, List, ◌∷◌, length, ◌∙◌, ap, subst}
use Rattle.std.specs.Map.{lookup}
use Rattle.record_lines.specs.declared.line.BaseLine.{BaseLine}
use Rattle.record_lines.specs.declared.line.Line.{Line}
use Rattle.record_lines.specs.declared.line.Line.TheVariants as line
use Rattle.run_audit.specs.Based.{AreFirstBases, AreOwnBases, groups_in, with_group}
use Rattle.run_audit.specs.Keys.{same_stay_key}
use Rattle.run_audit.proofs.BasedLaws.{based_on}
use Rattle.run_audit.proofs.based.Based.note.Goals as goal

pub returns : goal.returns
returns c =
    λ ls b are at. based_on c.args.node c.args.view c.args.group.now b c.args.self.now (record { own = c.note.new.self; groups = c.push.new.self; first = c.note-2.new.self }) ls c.args.number
    (subst (λ g. (ls : List Line) (x : BaseLine) → AreOwnBases ls c.args.self.now.own → c.args.number ≡ length ls + 1 → AreOwnBases (line.Base c.args.node c.args.view g x ∷ ls) c.note.new.self) c.bytes.ensures.value c.in_ok-note.ensures)
    (λ q. c.in_ok-push.ensures q ∙ ap (λ k. with_group (same_stay_key k q) c.args.group.now (groups_in (lookup (same_stay_key q) c.args.self.now.groups))) c.stay_key.ensures)
    (subst (λ g. (ls : List Line) (n : ℕ) (x : BaseLine) → AreFirstBases ls c.args.self.now.first → c.args.number ≡ length ls + 1 → AreFirstBases (line.Base n c.args.view g x ∷ ls) c.note-2.new.self) c.bytes-2.ensures.value c.in_ok-note-2.ensures) are at
