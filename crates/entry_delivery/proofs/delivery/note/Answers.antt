-- Nobody is told where nothing differs.
use Rattle.std.proofs.Common.{sym, ◌∙◌}
use Rattle.entry_delivery.proofs.ReceiveLaws.{receive_unnoted}
use Rattle.entry_delivery.proofs.delivery.note.Goals as goal

pub returns-then-not-differ-clause-received : goal.returns-then-not-differ-clause-received
returns-then-not-differ-clause-received g c =
    receive_unnoted g.C.Callbacks.stands_for c.args.clients.now.items c.args.core.now c.args.group.now c.args.place c.args.before.now c.args.after.now (sym c.differ.ensures ∙ c.if-not-differ.true)
