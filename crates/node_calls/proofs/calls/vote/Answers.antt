-- A provider votes.
use Rattle.std.proofs.Common.{refl}
use Rattle.node_state.specs.State.{with_sessions}
use Rattle.node_calls.proofs.calls.vote.Goals as goal

pub returns-clause-rule : goal.returns-clause-rule
unfolding with_sessions
returns-clause-rule c = c.give_ballot.ensures.rule c.args.core.now _ (rw (c.caller-m.ensures, c.bytes_of.ensures) at c.vote-answer.ensures.answer) refl

pub returns-clause-keeps : goal.returns-clause-keeps
unfolding with_sessions
returns-clause-keeps c = c.give_ballot.ensures.keeps c.args.core.now c.vote-answer.ensures.same refl
