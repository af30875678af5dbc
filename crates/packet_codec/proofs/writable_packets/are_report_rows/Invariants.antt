use Rattle.std.proofs.Common.{◌≡◌, length, map}
use Rattle.rsct_packet.specs.Listed.{ascending_from}
use Rattle.packet_bodies.specs.Body.{are_report_rows}
use Rattle.packet_codec.proofs.writable_packets.are_report_rows.Given as goal

abbrev pub invariant-loop-row : goal.invariant-loop-row
invariant-loop-row l = are_report_rows l.rows ≡ ascending_from l.last (map (λ r. r.node) l.left)

abbrev pub decreases-loop-row : goal.decreases-loop-row
decreases-loop-row l = length l.left
