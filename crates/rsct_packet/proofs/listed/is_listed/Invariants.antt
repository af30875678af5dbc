use Rattle.std.proofs.Common.{◌≡◌, length}
use Rattle.rsct_packet.specs.Providers.{among}
use Rattle.rsct_packet.proofs.listed.is_listed.Given as goal

abbrev pub invariant-loop-q : goal.invariant-loop-q
invariant-loop-q l = among l.providers l.provider ≡ among l.left l.provider

abbrev pub decreases-loop-q : goal.decreases-loop-q
decreases-loop-q l = length l.left
