-- The client has gone.
use Rattle.std.proofs.lemmas.Result.{IfOk-weaker}
use Rattle.session_state.specs.State.{client_token, client_place}
use Rattle.node_state.specs.declared.call.CallLine.TheVariants.{Goodbye}
use Rattle.node_state.specs.Step.{Calls}
use Rattle.net_script.proofs.CallLaws.{goodbye_done}
use Rattle.net_script.proofs.HandLaws.{handed_without, hears_from}
use Rattle.net_script.proofs.calls.say_goodbye.Goals as goal

pub returns-in-Ok-clause-done : goal.returns-in-Ok-clause-done
returns-in-Ok-clause-done g c =
    IfOk-weaker c.take_left.result _ _
    (λ l left. goodbye_done c.scripted_clients_fill_their_scripts.ensures c.args.node.now c.say_goodbye.new.self c.take_left.new.node l _ c.args.client.now c.in-Ok.ensures.scripts c.in-Ok.ensures.does left)
    (rw c.core.ensures at c.take_left.ensures)

pub returns-in-Ok-clause-hears : goal.returns-in-Ok-clause-hears
returns-in-Ok-clause-hears g c =
    IfOk-weaker c.take_left.result _ _
    (λ l left. hears_from g.C.Callbacks.stands_for c.args.node.now c.say_goodbye.new.self c.take_left.new.node l _ (Calls (Goodbye c.args.client.now)) _ _ _ c.in-Ok.ensures.order
    (λ rss were. handed_without g.C.Callbacks.stands_for (client_place c.args.node.now.core.sessions (client_token c.args.node.now.core.sessions c.args.client.now)) c.args.node.now.clients rss were) c.in-Ok.ensures.does left)
    (rw c.core.ensures at c.take_left.ensures)
