-- A session that begins, and the end of the step.
use Rattle.std.proofs.Common.{sym}
use Rattle.std.proofs.lemmas.Result.{on_ok_weaker}
use Rattle.node_state.specs.declared.call.CallLine.TheVariants as call
use Rattle.node_state.specs.Calls.{take_call}
use Rattle.group_leading.proofs.WorkLaws.{on_ok_both}
use Rattle.node_core.proofs.StepLaws.{does_by, session_does}
use Rattle.node_core.proofs.sessions.open_session.Goals as goal

pub returns-clause-does : goal.returns-clause-does
unfolding take_call
returns-clause-does g c =
    on_ok_weaker c.end_step.result
    (λ both node votes. session_does _ _ c.args.core.now c.take_init.new.core c.end_step.new.core (call.Init node c.args.name.now votes) (rw c.clear.ensures at c.in_ok-take_init.ensures.rule) (rw (c.in_ok-take_init.ensures.clients, c.clear.ensures) at (does_by _ _ _ _ _ _ (sym both.0) both.1)))
    (on_ok_both _ _ c.end_step.result c.end_step.ensures.scripts c.end_step.ensures.does)
