use Rattle.std.proofs.Math.Seq.{map-set_same}
use Rattle.client_callbacks.specs.Handed.{Notified, notice_of}
use Rattle.session_clients.proofs.Standing.{stand_more, map_at}
use Rattle.session_clients.proofs.clients.notify_at.Goals as goal

pub returns-clause-stand : goal.returns-clause-stand
returns-clause-stand g c = λ hs s.
    stand_more g.C.Callbacks.stands_for (Notified (notice_of c.args.notice.now) c.in_ok-ballot.ballot.filled) c.args.clients.now.items hs c.args.place c.index_mut.result.now c.hand_to.new.client c.requires.within
    (λ h r. c.in_ok-ballot.ensures.stands h (rw c.index_mut.ensures.value r)) s

pub returns-clause-scripts : goal.returns-clause-scripts
returns-clause-scripts g c = map-set_same g.C.Callbacks.script _ _ _ c.index_mut.result.now (rw (← c.index_mut.ensures.value) c.in_ok-ballot.ensures.script)

pub returns-clause-fills : goal.returns-clause-fills
returns-clause-fills g c =
    rw (map_at g.C.Callbacks.script c.args.clients.now.items c.args.place c.index_mut.result.now c.requires.within, ← c.index_mut.ensures.value) c.in_ok-ballot.ensures.fills
