use Rattle.std.proofs.Common.{sym, subst}
use Rattle.run_audit.specs.Lists.{AreRows}
use Rattle.run_audit.proofs.ListLaws.{row_noted}
use Rattle.run_audit.proofs.lists.Rows.note.Goals as goal

pub returns : goal.returns
returns c =
    λ ls e are at. row_noted c.args.node c.args.view c.args.group.now c.args.place c.args.number c.in_ok-key.key c.self.inside.by_key.entries c.insert.new.self.entries ls e c.in_ok-key.ensures.node c.in_ok-key.ensures.view c.in_ok-key.ensures.group
    c.in_ok-insert.ensures.updates.1 c.in_ok-insert.ensures.updates.3 (subst (AreRows ls) (sym c.self.view_is) are) at
