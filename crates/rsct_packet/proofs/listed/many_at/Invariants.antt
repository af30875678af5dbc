use Rattle.rsct_packet.specs.Listed.{Skips}
use Rattle.rsct_packet.proofs.listed.many_at.Given as goal

abbrev pub invariant-loop-i : goal.invariant-loop-i
invariant-loop-i g l = Skips g.T.Item.read_at l._i l.bytes l.rest
