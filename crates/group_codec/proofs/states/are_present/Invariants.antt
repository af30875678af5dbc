use Rattle.std.proofs.Common.{◌≡◌, length}
use Rattle.std.specs.List.{list_all}
use Rattle.rsct_packet.specs.Providers.{among}
use Rattle.proposal_core.specs.Fold.{present}
use Rattle.group_codec.specs.InPlace.{parts_in}
use Rattle.group_codec.proofs.states.are_present.Given as goal

abbrev pub invariant-loop-p : goal.invariant-loop-p
invariant-loop-p l = list_all (among (present (parts_in l.parts))) l.providers ≡ list_all (among (present (parts_in l.parts))) l.left

abbrev pub decreases-loop-p : goal.decreases-loop-p
decreases-loop-p l = length l.left
