-- What was recorded so far.
use Rattle.std.proofs.Common.{◌≡◌, ◌++◌, take}
use Rattle.std.specs.List.{flat_map}
use Rattle.entry_delivery.specs.Telling.{heard_in}
use Rattle.entry_delivery.proofs.notes.record_all_heard.Given as goal

abbrev pub invariant-loop-c : goal.invariant-loop-c
invariant-loop-c l = l.records ≡ l.initial.records ++ flat_map (heard_in l.entry.view l.entry.group.now l.entry.place l.entry.entry.now l.entry.after.now) (take l.c-index l.casts)
