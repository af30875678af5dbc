-- Packets that are sent in a world: those that are kept, and how many bytes they have.
use Rattle.std.specs.Prelude.{◌≡◌, ℕ, List, map, fold, None}
use Rattle.node_state.specs.declared.packet.Packet.{Packet}
use Rattle.world_model.specs.World as world
use Rattle.world_model.specs.Kept.{Bytes, with_packet}
use Rattle.world_packets.specs.Packets.{Kept, world_pairs, waits_as}

-- the packets that are kept stand for all that were sent and for those that wait
abbrev pub PacketsStand : Kept → world.World → Type 0
PacketsStand k w = (w.pairs ≡ world_pairs k.pairs) × (map waits_as w.queue ≡ k.waiting)

-- the bytes of packets that are sent, from so many on
abbrev pub bytes_after : ℕ → ℕ → List Packet → Bytes
bytes_after limit sum ps = fold (with_packet limit) (record { sum = sum; passed = None }) ps
