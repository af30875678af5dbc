-- The node that is up steps, or nothing happens.
use Rattle.std.proofs.Common.{refl, ap}
use Rattle.std.proofs.lemmas.Result.{on_ok_weaker}
use Rattle.node_core.specs.Event.{event_in}
use Rattle.net_script.proofs.WorldLaws.{step_nowhere, step_goes, step_passes}
use Rattle.net_script.proofs.HearLaws.{step_heard, step_unheard}
use Rattle.net_script.proofs.world.World.step.Goals as goal

pub returns-in-None-clause-goes : goal.returns-in-None-clause-goes
returns-in-None-clause-goes g c =
    step_nowhere c.args.self.now _ c.args.node (event_in c.args.event) c.args.out.now (ap (λ ns. record (c.args.self.now) { nodes = ns }) (rw c.in-None.is at c.in_ok-done.ensures.steps).0) (rw c.in-None.is at c.in_ok-done.ensures.steps).1

pub returns-in-Some-clause-goes : goal.returns-in-Some-clause-goes
returns-in-Some-clause-goes g c =
    on_ok_weaker c.settle.result
    (λ settled. step_goes c.args.self.now _ c.settle.new.self c.args.node c.in-Some.left (event_in c.args.event) c.args.out.now c.settle.new.out refl (rw c.in-Some.is at c.in_ok-done.ensures.steps) settled)
    c.settle.ensures.settled

pub returns-in-Some-clause-passes : goal.returns-in-Some-clause-passes
returns-in-Some-clause-passes g c sum err =
    step_passes c.args.self.now _ c.args.node sum c.in-Some.left (event_in c.args.event) refl (rw c.in-Some.is at c.in_ok-done.ensures.steps) (c.settle.ensures.passes sum err).0

pub returns-in-None-clause-hears : goal.returns-in-None-clause-hears
returns-in-None-clause-hears g c = step_unheard g.C.Callbacks.stands_for g.C.Callbacks.script g.C.Made.script_of c.args.self.now _ c.args.node (event_in c.args.event) c.args.out.now (rw c.in-None.is at c.in_ok-done.ensures.hears)

pub returns-in-Some-clause-hears : goal.returns-in-Some-clause-hears
returns-in-Some-clause-hears g c =
    on_ok_weaker c.settle.result (λ settled. step_heard g.C.Callbacks.stands_for g.C.Callbacks.script g.C.Made.script_of c.args.self.now _ c.settle.new.self c.args.node c.in-Some.left (event_in c.args.event) c.args.out.now c.settle.new.out (rw c.in-Some.is at c.in_ok-done.ensures.hears) settled) c.settle.ensures.settled
