use Rattle.std.proofs.Common.{◌≡◌, drop}
use Rattle.rsct_packet.specs.Providers.{differ}
use Rattle.session_calls.proofs.checks.are_apart.Given as goal

abbrev pub invariant-loop-i : goal.invariant-loop-i
invariant-loop-i l = differ l.out ≡ differ (drop l.i l.out)
