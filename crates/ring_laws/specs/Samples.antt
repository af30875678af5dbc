-- A ring of three, as the lowest of them has it, of whose heartbeats four may be missed.
use Rattle.std.specs.Prelude.{ℕ, ◌++◌, List, [], ◌∷◌, replicate}
use Rattle.std.specs.List.{flat_map}
use Rattle.rsct_packet.specs.declared.ids.RingId.{RingId}
use Rattle.rsct_packet.specs.Ids.{risen}
use Rattle.rsct_packet.specs.Mask.{no_nodes, with_node, mask_opens}
use Rattle.ring_commit.specs.Gather.{gather_opens}
use Rattle.adapter_ring.specs.declared.packet.RingPacket.{RingPacket}
use Rattle.adapter_ring.specs.declared.packet.RingPacket.TheVariants.{Heartbeat, Death}
use Rattle.adapter_ring.specs.declared.packet.RingEvent.{RingEvent}
use Rattle.adapter_ring.specs.declared.packet.RingEvent.TheVariants.{Tick, Packet}
use Rattle.adapter_ring.specs.declared.packet.RingSend.{RingSend}
use Rattle.adapter_ring.specs.declared.ring.Ring.{Ring}
use Rattle.adapter_ring.specs.Addresses.{addresses_opens}
use Rattle.adapter_ring.specs.Rings.{ring_step, ring_new, rings_opens}
use Rattle.ring_laws.specs.Missed.{after}

abbrev pub ring_id : RingId
ring_id = record { leader = 3; inc = 1; number = 3 }

-- node 1 watches node 2, and node 3 leads
unfoldable pub three : Ring
three =
    record (ring_new 1 1 1 (record { addr = 1 ∷ 2 ∷ 3 ∷ replicate 29 0; every = 1; misses = 4 })) { id = ring_id; members = with_node (with_node (with_node no_nodes 1) 2) 3 }

abbrev pub silent_for : ℕ → List RingEvent
silent_for n = replicate n Tick

abbrev pub beat : RingEvent
beat = Packet 2 1 (Heartbeat ring_id)

abbrev pub death_in : RingPacket → List ℕ
death_in (Death id d) = d ∷ []
death_in _ = []

-- whose deaths are told by these events, the latest first
unfoldable pub deaths_of : Ring → List RingEvent → List ℕ
deaths_of r [] = []
deaths_of r (e ∷ es) = flat_map (λ (x : RingSend). death_in x.packet) (ring_step (after r es) e).sends ++ deaths_of r es

unfoldable pub all_opens : Unit {0}
unfolding mask_opens gather_opens addresses_opens rings_opens risen three deaths_of
all_opens = tt
