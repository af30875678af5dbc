-- No tally is open.
use Rattle.std.proofs.Common.{sym, ◌∙◌}
use Rattle.entry_delivery.proofs.DoingLaws.{receive_nothing}
use Rattle.group_deciding.proofs.TickLaws.{phase_rests}
use Rattle.group_deciding.proofs.leader_tick.tick_phase.Goals as goal

pub returns-then-has_no_tally-clause-does : goal.returns-then-has_no_tally-clause-does
returns-then-has_no_tally-clause-does g c = phase_rests _ _ (receive_nothing _ _) c.args.core.now c.args.group.now _ (sym c.has_no_tally.ensures ∙ c.if-has_no_tally.true)
