-- A subscription begins.
use Rattle.std.proofs.Common.{refl}
use Rattle.node_state.specs.State.{with_sessions}
use Rattle.node_calls.proofs.calls.subscribe.Goals as goal

pub returns-clause-rule : goal.returns-clause-rule
unfolding with_sessions
returns-clause-rule c = c.change.ensures.rule c.args.core.now _ (rw (c.client_token-t.ensures, c.holds-known.ensures) at c.subscribe-answer.ensures.answer) refl

pub returns-clause-keeps : goal.returns-clause-keeps
unfolding with_sessions
returns-clause-keeps c = c.change.ensures.keeps c.args.core.now c.subscribe-answer.ensures.same refl
