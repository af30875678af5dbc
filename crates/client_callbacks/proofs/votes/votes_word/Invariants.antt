use Rattle.std.proofs.Common.{◌≡◌, [], Some, take}
use Rattle.std.specs.List.{fold}
use Rattle.client_callbacks.specs.Votes.{votes_byte}
use Rattle.client_callbacks.proofs.votes.votes_word.Given as goal

abbrev pub invariant-loop-b : goal.invariant-loop-b
invariant-loop-b l = l.read ≡ fold votes_byte (record { items = Some []; piece = [] }) (take l.b-index l.word)
