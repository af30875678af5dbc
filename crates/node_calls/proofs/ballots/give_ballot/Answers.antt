-- A ballot that is given, or refused.
use Rattle.std.proofs.Common.{refl}
use Rattle.std.proofs.lemmas.Result.{on_ok_weaker}
use Rattle.node_state.specs.Calls.{give_ballot}
use Rattle.node_groups.proofs.KeepLaws.{stays_then}
use Rattle.group_leading.proofs.WorkLaws.{on_ok_both}
use Rattle.node_calls.proofs.CallLaws.{given_leaves, refused_leaves, sessions_keep}
use Rattle.node_calls.proofs.ballots.give_ballot.Goals as goal

pub returns-in-Ok-clause-rule : goal.returns-in-Ok-clause-rule
returns-in-Ok-clause-rule c = λ s r a e.
    on_ok_weaker c.cast_last.result (λ row. given_leaves s c.args.core.now c.cast_last.new.core c.args.client.now r (rw c.in-Ok.is at a) e row) c.cast_last.ensures.rule

pub returns-in-Ok-clause-keeps : goal.returns-in-Ok-clause-keeps
returns-in-Ok-clause-keeps c = λ s same e.
    on_ok_weaker c.cast_last.result (λ k. stays_then s c.args.core.now c.cast_last.new.core (sessions_keep s c.args.core.now same e) k) c.cast_last.ensures.keeps

pub returns-in-Err-clause-rule : goal.returns-in-Err-clause-rule
unfolding give_ballot
returns-in-Err-clause-rule c = λ s r a e.
    let b = rw c.in-Err.is at a in
    on_ok_weaker c.refuse.result (λ both. refused_leaves s c.args.core.now c.refuse.new.core c.args.client.now c.in-Err.fault r (give_ballot s c.args.client.now) (λ f. refl) b.0 b.1 e both.0 both.1) (on_ok_both _ _ c.refuse.result c.refuse.ensures.rule c.refuse.ensures.refusal)

pub returns-in-Err-clause-keeps : goal.returns-in-Err-clause-keeps
returns-in-Err-clause-keeps c = λ s same e.
    on_ok_weaker c.refuse.result (λ k. stays_then s c.args.core.now c.refuse.new.core (sessions_keep s c.args.core.now same e) k) c.refuse.ensures.keeps
