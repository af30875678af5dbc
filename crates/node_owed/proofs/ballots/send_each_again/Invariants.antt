-- What was sent so far.
use Rattle.std.proofs.Common.{◌≡◌, take}
use Rattle.std.specs.List.{fold}
use Rattle.node_state.specs.Sending.{kept_sent_again}
use Rattle.node_owed.proofs.ballots.send_each_again.Given as goal

abbrev pub invariant-loop-k : goal.invariant-loop-k
invariant-loop-k l = l.core ≡ fold kept_sent_again l.initial.core (take l.k-index l.kept)
