use Rattle.rsct_packet.specs.Fields.{bytes_at}
use Rattle.rsct_packet.specs.Listed.{Skips}
use Rattle.remote_session.proofs.messages.many_at.Given as goal

abbrev pub invariant-loop-i : goal.invariant-loop-i
invariant-loop-i l = Skips bytes_at l._i l.bytes l.rest
