-- A session that ends, or is refused.
use Rattle.std.proofs.Common.{List, filter, refl}
use Rattle.std.proofs.lemmas.Result.{on_ok_weaker}
use Rattle.session_state.specs.declared.state.Provider.{Provider}
use Rattle.session_state.specs.State.{is_client_of, client_token}
use Rattle.node_state.specs.Calls.{goodbye_said, take_call}
use Rattle.node_state.specs.State.{with_sessions}
use Rattle.group_leading.proofs.WorkLaws.{on_ok_both}
use Rattle.node_calls.proofs.CallLaws.{said_leaves, refused_leaves, refused_place}
use Rattle.node_calls.proofs.sessions.take_goodbye.Goals as goal

pub returns-in-Ok-clause-rule : goal.returns-in-Ok-clause-rule
unfolding take_call with_sessions
returns-in-Ok-clause-rule g c =
    on_ok_weaker c.send_all_gone.result
    (λ row. said_leaves c.args.core.now (record (c.args.core.now) { sessions = c.close_session.new.state }) c.send_all_gone.new.core c.args.client.now _ _ (rw c.client_token-t.ensures at c.in-Ok.ensures.answer) refl row)
    (rw (c.as_slice-in-Ok.ensures, c.in_ok-ended.ensures, c.as_slice.ensures, c.client_token-t.ensures) at c.send_all_gone.ensures.rule)

pub returns-clause-rule : goal.returns-clause-rule
unfolding take_call goodbye_said with_sessions
returns-clause-rule g c =
    let ended : List Provider = filter (is_client_of (client_token c.args.core.now.sessions c.args.client.now)) c.args.core.now.sessions.providers in
    let b = rw c.client_token-t.ensures at c.in-Err.ensures.answer in
    on_ok_weaker c.refuse.result
    (λ both. refused_leaves c.args.core.now (record (c.args.core.now) { sessions = c.close_session.new.state }) c.refuse.new.core c.args.client.now c.in-Err.fault _ (goodbye_said c.args.core.now c.args.client.now ended) (λ f. refl) b.0 (λ _. b.1) refl both.0 both.1)
    (on_ok_both _ _ c.refuse.result c.refuse.ensures.rule c.refuse.ensures.refusal)

pub returns-clause-clients : goal.returns-clause-clients
returns-clause-clients g c =
    let b = rw c.client_token-t.ensures at c.in-Err.ensures.answer in
    on_ok_weaker c.refuse.result (λ _. rw (refused_place c.args.core.now.sessions (client_token c.args.core.now.sessions c.args.client.now) c.in-Err.fault b.1) c.in-Err.ensures.refused) c.refuse.ensures.refusal
