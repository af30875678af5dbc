-- All groups are idle; or the groups are those that the node leads.
use Rattle.std.proofs.Common.{sym, ◌∙◌}
use Rattle.entry_delivery.proofs.DoingLaws.{receive_nothing}
use Rattle.node_state.specs.Ending.{one_pass}
use Rattle.group_deciding.proofs.IdleLaws.{pass_idle}
use Rattle.group_deciding.proofs.passes.pass.Goals as goal

pub returns-then-are_idle-clause-does : goal.returns-then-are_idle-clause-does
returns-then-are_idle-clause-does g c = pass_idle _ _ (receive_nothing _ _) c.args.core.now c.args.most c.requires.work.order (sym c.are_idle.ensures ∙ c.if-are_idle.true)

pub returns-clause-does : goal.returns-clause-does
unfolding one_pass
returns-clause-does g c = rw (c.as_slice.ensures.value, c.in_ok-names.ensures) at c.begin_in_each.ensures.does
