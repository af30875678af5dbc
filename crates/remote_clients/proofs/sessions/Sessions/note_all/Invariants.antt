-- What the records so far left.
use Rattle.std.proofs.Common.{◌≡◌, take}
use Rattle.std.specs.List.{fold}
use Rattle.remote_clients.specs.Sessions.{noted}
use Rattle.remote_clients.proofs.sessions.Sessions.note_all.Given as goal

abbrev pub invariant-loop-happened : goal.invariant-loop-happened
invariant-loop-happened l = l.self ≡ fold (noted l.calling) l.initial.self (take l.happened-index l.records)
