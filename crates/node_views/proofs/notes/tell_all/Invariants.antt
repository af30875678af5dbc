-- What was told and recorded so far.
use Rattle.std.proofs.Common.{◌≡◌, ◌++◌, take, map, length}
use Rattle.std.specs.List.{flat_map}
use Rattle.entry_delivery.specs.Received.{Receive}
use Rattle.node_views.specs.Arriving.{notes_at, note_handings}
use Rattle.node_views.proofs.notes.tell_all.Given as goal

abbrev pub invariant-loop-u : goal.invariant-loop-u
invariant-loop-u g l =
    (length l.clients.items ≡ length l.initial.clients.items)
    × (map g.C.Callbacks.script l.clients.items ≡ map g.C.Callbacks.script l.initial.clients.items)
    × Receive g.C.Callbacks.stands_for l.initial.clients.items l.clients.items (flat_map (note_handings l.arrival.node l.arrival.view l.arrival.members.now l.sessions l.arrival.bases.now) (take l.u-index l.sessions.subs.live))
    × (l.records ≡ l.initial.records ++ flat_map (notes_at l.arrival.node l.arrival.view l.arrival.members.now l.sessions l.arrival.bases.now) (take l.u-index l.sessions.subs.live))
