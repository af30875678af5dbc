-- A subscription ends.
use Rattle.std.proofs.Common.{refl}
use Rattle.node_state.specs.State.{with_sessions}
use Rattle.node_calls.proofs.CallLaws.{always_answers}
use Rattle.node_calls.proofs.calls.unsubscribe.Goals as goal

pub returns-clause-rule : goal.returns-clause-rule
unfolding with_sessions
returns-clause-rule c = c.change.ensures.rule c.args.core.now _ (always_answers _ _ _ _ (rw (c.client_token-t.ensures, c.subscriber-s.ensures) at c.unsubscribe-answer.ensures.answer)) refl

pub returns-clause-keeps : goal.returns-clause-keeps
unfolding with_sessions
returns-clause-keeps c = c.change.ensures.keeps c.args.core.now c.unsubscribe-answer.ensures.same refl
