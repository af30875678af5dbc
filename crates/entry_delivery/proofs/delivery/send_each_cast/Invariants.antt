-- What was sent so far.
use Rattle.std.proofs.Common.{◌≡◌, take}
use Rattle.std.specs.List.{fold}
use Rattle.node_state.specs.HandOn.{cast_sent_of}
use Rattle.entry_delivery.proofs.delivery.send_each_cast.Given as goal

abbrev pub invariant-loop-c : goal.invariant-loop-c
invariant-loop-c l = l.core ≡ fold (λ t c. cast_sent_of t l.group l.to c.provider c.cast) l.initial.core (take l.c-index l.casts)
