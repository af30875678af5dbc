-- Nothing is told of a group that has no base.
use Rattle.entry_delivery.proofs.DoingLaws.{receive_nothing}
use Rattle.node_views.proofs.notes.tell_base.Goals as goal

pub returns-in-None-clause-received : goal.returns-in-None-clause-received
returns-in-None-clause-received g c = let none = rw c.as_slice.ensures at c.in-None.ensures in rw (← none) (receive_nothing _ _)
