use Rattle.std.proofs.Common.{sym, subst, ◌∙◌}
use Rattle.run_audit.specs.Openings.{AreOpenings}
use Rattle.run_audit.proofs.OpenLaws.{none_opens, open_noted}
use Rattle.run_audit.proofs.openings.Openings.note.Goals as goal

pub returns-in-None : goal.returns-in-None
returns-in-None c = λ ls g are views groups at. none_opens c.args.key c.args.view g c.args.place c.args.entry.now c.args.self.now ls (sym c.in-None.is ∙ c.opening_of.ensures) are

pub returns-in_ok-insert-in-Some : goal.returns-in_ok-insert-in-Some
returns-in_ok-insert-in-Some c =
    λ ls g are views groups at. open_noted c.args.key c.args.view g c.args.place c.args.number c.args.entry.now c.in-Some.opening c.self.inside.by_key.entries c.insert.new.self.entries ls (sym c.in-Some.is ∙ c.opening_of.ensures)
    c.in_ok-insert-in-Some.ensures.updates.1 c.in_ok-insert-in-Some.ensures.updates.3 (subst (AreOpenings ls) (sym c.self.view_is) are) views groups at
