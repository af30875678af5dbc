-- The client is there, and votes as its word says.
use Rattle.std.proofs.lemmas.Result.{IfOk-weaker}
use Rattle.session_state.specs.Calls.{inited}
use Rattle.node_state.specs.declared.call.CallLine.TheVariants.{Init}
use Rattle.node_state.specs.Step.{Calls}
use Rattle.net_script.proofs.CallLaws.{init_done}
use Rattle.net_script.proofs.HandLaws.{handed_with, hears_from}
use Rattle.net_script.proofs.calls.begin_session.Goals as goal

pub returns-in-Ok-clause-done : goal.returns-in-Ok-clause-done
returns-in-Ok-clause-done g c =
    IfOk-weaker c.take_left.result _ _
    (λ l left k. init_done c.scripted_clients_fill_their_scripts.ensures c.args.node.now c.begin_session.new.self c.take_left.new.node l _ _ c.args.name.now c.args.votes.now k c.if-has_next.ensures c.in_ok-client.ensures.votes c.in-Ok.ensures.scripts (c.in-Ok.ensures.does k c.args.votes.now) left)
    (rw c.core.ensures at c.take_left.ensures)

pub returns-in-Ok-clause-hears : goal.returns-in-Ok-clause-hears
returns-in-Ok-clause-hears g c =
    IfOk-weaker c.take_left.result _ _
    (λ l left k. hears_from g.C.Callbacks.stands_for c.args.node.now c.begin_session.new.self c.take_left.new.node l _ (Calls (Init k c.args.name.now c.args.votes.now)) _ _ _ c.in-Ok.ensures.order
    (λ rss were. handed_with g.C.Callbacks.stands_for c.in_ok-client.client c.args.node.now.clients rss (inited c.args.node.now.core.sessions c.args.name.now) c.in_ok-client.ensures.stands were) (c.in-Ok.ensures.does k c.args.votes.now) left)
    (rw c.core.ensures at c.take_left.ensures)
