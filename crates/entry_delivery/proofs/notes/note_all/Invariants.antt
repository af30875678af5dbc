-- What was told and recorded so far.
use Rattle.std.proofs.Common.{◌≡◌, ◌++◌, take, map, filter, length}
use Rattle.subscribe_core.specs.Subs.{is_of_group}
use Rattle.entry_delivery.specs.Telling.{note_in, note_handing}
use Rattle.entry_delivery.specs.Received.{Receive}
use Rattle.entry_delivery.proofs.notes.note_all.Given as goal

abbrev pub invariant-loop-u : goal.invariant-loop-u
invariant-loop-u g l =
    (length l.clients.items ≡ length l.initial.clients.items)
    × (map g.C.Callbacks.script l.clients.items ≡ map g.C.Callbacks.script l.initial.clients.items)
    × Receive g.C.Callbacks.stands_for l.initial.clients.items l.clients.items (map (note_handing l.news.node l.news.view l.sessions l.news.group.now l.news.place l.news.state.now) (filter (is_of_group l.news.group.now) (take l.u-index l.sessions.subs.live)))
    × (l.records ≡ l.initial.records ++ map (note_in l.news.node l.news.view l.sessions l.news.group.now l.news.place l.news.state.now) (filter (is_of_group l.news.group.now) (take l.u-index l.sessions.subs.live)))
