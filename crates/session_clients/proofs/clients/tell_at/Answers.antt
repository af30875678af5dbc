use Rattle.std.proofs.Common.{◌<◌, length}
use Rattle.std.proofs.Math.Seq.{map-set_same}
use Rattle.client_callbacks.specs.Handed.{Informed}
use Rattle.session_clients.proofs.Standing.{stand_more}
use Rattle.session_clients.proofs.clients.tell_at.Goals as goal

pub returns-in_ok-told-clause-stand : goal.returns-in_ok-told-clause-stand
returns-in_ok-told-clause-stand g c = λ hs s.
    let within : c.in-Some.i < length c.args.clients.now.items = rw c.in-Some.is at c.requires in
    rw c.in-Some.is (stand_more g.C.Callbacks.stands_for (Informed c.args.told.now) c.args.clients.now.items hs c.in-Some.i c.index_mut.result.now c.told.new.self within
    (λ h r. c.in_ok-told.ensures.stands h (rw c.index_mut.ensures.value r)) s)

pub returns-in_ok-told-clause-scripts : goal.returns-in_ok-told-clause-scripts
returns-in_ok-told-clause-scripts g c = map-set_same g.C.Callbacks.script _ _ _ c.index_mut.result.now (rw (← c.index_mut.ensures.value) c.in_ok-told.ensures.script)
