-- The node that is up is called, or refuses.
use Rattle.std.proofs.Common.{refl, ap}
use Rattle.std.proofs.lemmas.Result.{on_ok_weaker}
use Rattle.node_state.specs.Step.{Calls}
use Rattle.net_script.proofs.CallLaws.{call_refuses, call_goes, call_passes}
use Rattle.net_script.proofs.HearLaws.{step_heard, refusal_heard}
use Rattle.net_script.proofs.world.World.call.Goals as goal

pub returns-in_ok-refuse-in-None-clause-goes : goal.returns-in_ok-refuse-in-None-clause-goes
returns-in_ok-refuse-in-None-clause-goes g c =
    call_refuses c.args.self.now _ c.args.node c.args.call.now c.args.out.now _ (ap (λ ns. record (c.args.self.now) { nodes = ns }) (rw c.in-None.is at c.in_ok-done.ensures.steps).0) (rw c.in-None.is at c.in_ok-done.ensures.steps).1
    c.in_ok-refuse-in-None.ensures

pub returns-in-Some-clause-goes : goal.returns-in-Some-clause-goes
returns-in-Some-clause-goes g c =
    on_ok_weaker c.settle.result
    (λ settled. call_goes c.args.self.now _ c.settle.new.self c.args.node c.in-Some.left c.args.call.now c.args.out.now c.settle.new.out refl (rw c.in-Some.is at c.in_ok-done.ensures.steps) settled)
    c.settle.ensures.settled

pub returns-in-Some-clause-passes : goal.returns-in-Some-clause-passes
returns-in-Some-clause-passes g c sum err = call_passes c.args.self.now _ c.args.node sum c.in-Some.left c.args.call.now refl (rw c.in-Some.is at c.in_ok-done.ensures.steps) (c.settle.ensures.passes sum err).0

pub returns-in_ok-refuse-in-None-clause-hears : goal.returns-in_ok-refuse-in-None-clause-hears
returns-in_ok-refuse-in-None-clause-hears g c =
    refusal_heard g.C.Callbacks.stands_for g.C.Callbacks.script g.C.Made.script_of c.args.self.now _ c.args.node c.args.call.now c.args.out.now _ (rw c.in-None.is at c.in_ok-done.ensures.steps).0 (rw c.in-None.is at c.in_ok-done.ensures.steps).1 c.in_ok-refuse-in-None.ensures

pub returns-in-Some-clause-hears : goal.returns-in-Some-clause-hears
returns-in-Some-clause-hears g c =
    on_ok_weaker c.settle.result (λ settled. step_heard g.C.Callbacks.stands_for g.C.Callbacks.script g.C.Made.script_of c.args.self.now _ c.settle.new.self c.args.node c.in-Some.left (Calls c.args.call.now) c.args.out.now c.settle.new.out (rw c.in-Some.is at c.in_ok-done.ensures.hears) settled) c.settle.ensures.settled
