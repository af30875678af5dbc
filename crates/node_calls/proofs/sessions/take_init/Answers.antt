-- A session that begins, or is refused.
use Rattle.std.proofs.Common.{refl}
use Rattle.std.proofs.lemmas.Result.{on_ok_weaker}
use Rattle.node_state.specs.Calls.{changed}
use Rattle.node_state.specs.State.{with_sessions}
use Rattle.group_leading.proofs.WorkLaws.{on_ok_both}
use Rattle.node_calls.proofs.CallLaws.{changed_leaves, refused_leaves}
use Rattle.node_calls.proofs.sessions.take_init.Goals as goal

pub returns-in-Ok-clause-rule : goal.returns-in-Ok-clause-rule
unfolding with_sessions
returns-in-Ok-clause-rule g c =
    changed_leaves c.args.core.now (record (c.args.core.now) { sessions = c.open_session.new.state }) c.args.name.now _ c.in-Ok.ensures.answer refl

pub returns-in-Err-clause-rule : goal.returns-in-Err-clause-rule
unfolding changed with_sessions
returns-in-Err-clause-rule g c =
    on_ok_weaker c.refuse.result
    (λ both. refused_leaves c.args.core.now (record (c.args.core.now) { sessions = c.open_session.new.state }) c.refuse.new.core c.args.name.now c.in-Err.fault _ (changed c.args.core.now c.args.name.now) (λ f. refl) c.in-Err.ensures.answer.0 c.in-Err.ensures.answer.1 refl both.0 both.1)
    (on_ok_both _ _ c.refuse.result c.refuse.ensures.rule c.refuse.ensures.refusal)
