-- A provider joins.
use Rattle.std.proofs.Common.{refl}
use Rattle.node_state.specs.State.{with_sessions}
use Rattle.node_calls.proofs.calls.join.Goals as goal

pub returns-clause-rule : goal.returns-clause-rule
unfolding with_sessions
returns-clause-rule c = c.propose.ensures.rule c.args.core.now _ (rw (c.client_token-t.ensures, c.in_ok-attrs.ensures) at c.join-answer.ensures.answer) refl

pub returns-clause-keeps : goal.returns-clause-keeps
unfolding with_sessions
returns-clause-keeps c = c.propose.ensures.keeps c.args.core.now c.join-answer.ensures.same refl
