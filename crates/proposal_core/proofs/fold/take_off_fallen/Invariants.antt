use Rattle.std.proofs.Common.{◌≡◌, take}
use Rattle.rsct_packet.specs.Providers.{without_all}
use Rattle.proposal_core.specs.Fold.{fallen_of}
use Rattle.proposal_core.proofs.fold.take_off_fallen.Given as goal

abbrev pub invariant-loop-f : goal.invariant-loop-f
invariant-loop-f l = l.providers ≡ without_all l.initial.providers (fallen_of (take l.f-index l.out))
