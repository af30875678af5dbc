-- What the records so far left.
use Rattle.std.proofs.Common.{◌≡◌, take}
use Rattle.std.specs.List.{fold}
use Rattle.remote_clients.specs.Entries.{nothing_shown, noting_of, entry_noted}
use Rattle.remote_clients.proofs.sessions.Sessions.note_all_with.Given as goal

abbrev pub invariant-loop-happened : goal.invariant-loop-happened
invariant-loop-happened l = noting_of l.self l.shown ≡ fold (entry_noted l.calling) (noting_of l.initial.self nothing_shown) (take l.happened-index l.records)
