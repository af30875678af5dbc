-- Providers are expelled.
use Rattle.std.proofs.Common.{refl}
use Rattle.node_state.specs.State.{with_sessions}
use Rattle.node_calls.proofs.calls.expel.Goals as goal

pub returns-clause-rule : goal.returns-clause-rule
unfolding with_sessions
returns-clause-rule c = c.propose.ensures.rule c.args.core.now _ (rw (c.caller-m.ensures) at c.expel-answer.ensures.answer) refl

pub returns-clause-keeps : goal.returns-clause-keeps
unfolding with_sessions
returns-clause-keeps c = c.propose.ensures.keeps c.args.core.now c.expel-answer.ensures.same refl
