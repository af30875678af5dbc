-- A change that is taken, or refused.
use Rattle.std.proofs.Common.{refl}
use Rattle.std.proofs.lemmas.Result.{on_ok_weaker}
use Rattle.node_state.specs.Calls.{changed}
use Rattle.node_groups.proofs.KeepLaws.{stays_then}
use Rattle.group_leading.proofs.WorkLaws.{on_ok_both}
use Rattle.node_calls.proofs.CallLaws.{changed_leaves, refused_leaves, sessions_keep}
use Rattle.node_calls.proofs.answers.change.Goals as goal
use Rattle.node_calls.proofs.answers.change.Goals.{in-Ok, in-Err}

pub returns-clause-rule : goal.returns-clause-rule
unfolding changed
returns-clause-rule g c = λ s r a e.
    elim c.match-answer.branch [
      | in-Ok w ↦ rw (w.result-is, w.core-is) (changed_leaves s c.args.core.now c.args.client.now r (rw w.in-Ok.is at a) e)
      | in-Err w ↦
          let b = rw w.in-Err.is at a in
          rw (w.result-is, w.core-is) (on_ok_weaker w.refuse.result (λ both. refused_leaves s c.args.core.now w.refuse.new.core c.args.client.now w.in-Err.fault r (changed s c.args.client.now) (λ f. refl) b.0 b.1 e both.0 both.1) (on_ok_both _ _ w.refuse.result w.refuse.ensures.rule w.refuse.ensures.refusal))
    ]

pub returns-clause-keeps : goal.returns-clause-keeps
returns-clause-keeps g c = λ s same e.
    elim c.match-answer.branch [
      | in-Ok w ↦ rw (w.result-is, w.core-is) (sessions_keep s c.args.core.now same e)
      | in-Err w ↦ rw (w.result-is, w.core-is) (on_ok_weaker w.refuse.result (λ k. stays_then s c.args.core.now w.refuse.new.core (sessions_keep s c.args.core.now same e) k) w.refuse.ensures.keeps)
    ]
