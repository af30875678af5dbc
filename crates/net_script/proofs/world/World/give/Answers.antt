-- The packet is taken, and its receiver steps.
use Rattle.std.proofs.Common.{refl, sym, ap, ◌∙◌}
use Rattle.std.proofs.lemmas.Result.{on_ok_weaker}
use Rattle.node_state.specs.Bytes.{event_of}
use Rattle.world_model.specs.World.{kth_in}
use Rattle.world_packets.specs.Packets.{Kept, world_pairs, find_pair}
use Rattle.net_script.proofs.GivingLaws.{gives_nothing, gives_missing, gives_goes, gives_passes, bytes_given}
use Rattle.net_script.proofs.HearLaws.{nothing_given_heard, given_heard, given_unheard}
use Rattle.net_script.proofs.world.World.give.Goals as goal

pub returns-then-not-can_give-clause-goes : goal.returns-then-not-can_give-clause-goes
returns-then-not-can_give-clause-goes g c = gives_nothing c.args.self.now c.args.from c.args.to c.args.number c.args.out.now (sym c.if-not-can_give.ensures)

pub returns-in-None-clause-goes : goal.returns-in-None-clause-goes
returns-in-None-clause-goes g c =
    gives_missing c.args.self.now _ c.args.from c.args.to c.args.number c.args.out.now _ c.if-not-can_give.ensures (rw c.in-None.is at c.in_ok-done.ensures.steps).1

pub returns-in-Some-done-clause-goes : goal.returns-in-Some-done-clause-goes
returns-in-Some-done-clause-goes g c =
    on_ok_weaker c.settle.result
    (λ settled. gives_goes c.args.self.now _ _ c.settle.new.self c.args.from c.args.to c.args.number c.in-Some.packet.now c.in-Some-done.left (event_of c.bytes.result.now) c.args.out.now c.settle.new.out
    (ap (λ ps. record (c.args.self.now) { packets = ps }) c.take.ensures) (sym (c.in-Some.ensures ∙ ap (λ (z : Kept). kth_in c.args.number (find_pair c.args.from c.args.to (world_pairs z.pairs))) c.take.ensures))
    (bytes_given c.bytes.result.now c.in-Some.packet.now c.bytes.ensures.read) refl (rw c.in-Some-done.is at c.in_ok-done.ensures.steps) settled)
    c.settle.ensures.settled

pub returns-in-Some-done-clause-passes : goal.returns-in-Some-done-clause-passes
returns-in-Some-done-clause-passes g c sum err =
    gives_passes c.args.self.now _ _ c.args.from c.args.to c.args.number sum c.in-Some.packet.now c.in-Some-done.left (event_of c.bytes.result.now)
    (ap (λ ps. record (c.args.self.now) { packets = ps }) c.take.ensures) (sym (c.in-Some.ensures ∙ ap (λ (z : Kept). kth_in c.args.number (find_pair c.args.from c.args.to (world_pairs z.pairs))) c.take.ensures))
    (bytes_given c.bytes.result.now c.in-Some.packet.now c.bytes.ensures.read) refl (rw c.in-Some-done.is at c.in_ok-done.ensures.steps) (c.settle.ensures.passes sum err).0

pub returns-then-not-can_give-clause-hears : goal.returns-then-not-can_give-clause-hears
returns-then-not-can_give-clause-hears g c = nothing_given_heard g.C.Callbacks.stands_for g.C.Callbacks.script g.C.Made.script_of c.args.self.now c.args.from c.args.to c.args.number c.args.out.now (sym c.if-not-can_give.ensures)

pub returns-in-None-clause-hears : goal.returns-in-None-clause-hears
returns-in-None-clause-hears g c =
    given_unheard g.C.Callbacks.stands_for g.C.Callbacks.script g.C.Made.script_of c.args.self.now _ c.args.from c.args.to c.args.number c.in-Some.packet.now (event_of c.bytes.result.now) c.args.out.now
    (sym (c.in-Some.ensures ∙ ap (λ (z : Kept). kth_in c.args.number (find_pair c.args.from c.args.to (world_pairs z.pairs))) c.take.ensures)) (bytes_given c.bytes.result.now c.in-Some.packet.now c.bytes.ensures.read) (rw c.in-None.is at c.in_ok-done.ensures.hears)

pub returns-in-Some-done-clause-hears : goal.returns-in-Some-done-clause-hears
returns-in-Some-done-clause-hears g c =
    on_ok_weaker c.settle.result
    (λ settled. given_heard g.C.Callbacks.stands_for g.C.Callbacks.script g.C.Made.script_of c.args.self.now _ c.settle.new.self c.args.from c.args.to c.args.number c.in-Some.packet.now c.in-Some-done.left (event_of c.bytes.result.now) c.args.out.now c.settle.new.out
    (sym (c.in-Some.ensures ∙ ap (λ (z : Kept). kth_in c.args.number (find_pair c.args.from c.args.to (world_pairs z.pairs))) c.take.ensures)) (bytes_given c.bytes.result.now c.in-Some.packet.now c.bytes.ensures.read) (rw c.in-Some-done.is at c.in_ok-done.ensures.hears) settled)
    c.settle.ensures.settled
