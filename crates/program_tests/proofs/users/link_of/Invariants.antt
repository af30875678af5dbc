use Rattle.std.proofs.Common.{map}
use Rattle.hags_io.specs.LinkMemory.{AreWithin}
use Rattle.program_tests.proofs.users.link_of.Given as goal

abbrev pub invariant-loop-piece : goal.invariant-loop-piece
invariant-loop-piece l = AreWithin (map (λ x. (x.0, x.1.items)) l.inbox.items)
