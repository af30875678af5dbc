-- A call that begins a session, and one within a session.
use Rattle.std.proofs.Common.{rules}
use Rattle.std.proofs.lemmas.Result.{IfOk-weaker}
use Rattle.net_script.proofs.CallLaws.{within_done}
use Rattle.net_script.proofs.calls.call_node.Goals as goal

pub returns-in-Init-clause-done : goal.returns-in-Init-clause-done
returns-in-Init-clause-done g c = IfOk-weaker c.begin_session.result _ _ (λ l done. rw (c.in-Init.is, ← c.as_slice.ensures, ← c.as_slice-in-Init.ensures) (done c.in-Init.node)) c.begin_session.ensures.done

pub returns-in-Init-clause-hears : goal.returns-in-Init-clause-hears
returns-in-Init-clause-hears g c = IfOk-weaker c.begin_session.result _ _ (λ l hears. rw (c.in-Init.is, ← c.as_slice.ensures, ← c.as_slice-in-Init.ensures) (hears c.in-Init.node)) c.begin_session.ensures.hears

pub returns-in_default-clause-done : goal.returns-in_default-clause-done
returns-in_default-clause-done g c = IfOk-weaker c.step_node.result _ _ (λ l done. within_done c.args.node.now c.step_node.new.node l c.args.call.now (search rules) done) c.step_node.ensures.steps

pub returns-in-Goodbye-clause-hears : goal.returns-in-Goodbye-clause-hears
returns-in-Goodbye-clause-hears g c = IfOk-weaker c.say_goodbye.result _ _ (λ l hears. rw (c.in-Goodbye.is, ← c.as_slice-in-Goodbye.ensures) hears) c.say_goodbye.ensures.hears
