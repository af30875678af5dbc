-- The machine of one adapter's ring.
use Rattle.std.specs.Prelude.{ℕ, Bool, true, false, not, ◌==◌, ◌&&◌, ◌||◌, ◌+◌, ◌*◌, ◌++◌, List, [], ◌∷◌, map, count_by, Option, Some, None, nat_le, is_none}
use Rattle.std.specs.List.{list_all}
use Rattle.rsct_packet.specs.declared.ids.RingId.{RingId}
use Rattle.rsct_packet.specs.declared.mask.Mask.{Mask}
use Rattle.rsct_packet.specs.Ids.{same_ring, last_u32, risen}
use Rattle.rsct_packet.specs.Mask.{no_nodes, has_node, with_node, without_node, union_of, nodes_of, node_numbers}
use Rattle.ring_commit.specs.declared.gather.Gather.{Gather}
use Rattle.ring_commit.specs.Gather.{gather_opened, gather_acked, all_acked}
use Rattle.adapter_ring.specs.declared.packet.RingPacket.{RingPacket}
use Rattle.adapter_ring.specs.declared.packet.RingPacket.TheVariants.{Heartbeat, Proclaim, Join, Ptc, PtcAck, Commit, Death}
use Rattle.adapter_ring.specs.declared.packet.RingEvent.{RingEvent}
use Rattle.adapter_ring.specs.declared.packet.RingEvent.TheVariants.{Tick, Packet}
use Rattle.adapter_ring.specs.declared.ring.Ring.{Ring}
use Rattle.adapter_ring.specs.declared.ring.RingSettings.{RingSettings}
use Rattle.adapter_ring.specs.declared.ring.Gathering.{Gathering}
use Rattle.adapter_ring.specs.declared.work.RingWork.{RingWork}
use Rattle.adapter_ring.specs.Addresses.{has_addr, is_higher, neighbour_in, upstream_in, crown_prince_in, is_highest, outside, all_have_addr}

unfoldable pub neighbour : Ring → ℕ
neighbour r = neighbour_in r.settings r.me r.members

unfoldable pub upstream : Ring → ℕ
upstream r = upstream_in r.settings r.me r.members

unfoldable pub crown_prince : Ring → ℕ
crown_prince r = crown_prince_in r.settings r.members

unfoldable pub ring_leads : Ring → Bool
ring_leads r = r.id.leader == r.me

-- it has two members or more
unfoldable pub is_shared : Ring → Bool
is_shared r = nat_le 2 (count_by (has_node r.members) node_numbers)

-- after so many silent ticks its upstream neighbour counts as dead
unfoldable pub patience : RingSettings → ℕ
patience s = s.every * s.misses

unfoldable pub ring_send : RingWork → ℕ → RingPacket → RingWork
ring_send w to packet = record w { sends = w.sends ++ record { network = w.ring.net; to = to; packet = packet } ∷ [] }

unfoldable pub ring_send_all : RingWork → List ℕ → RingPacket → RingWork
ring_send_all w to packet = record w { sends = w.sends ++ map (λ n. record { network = w.ring.net; to = n; packet = packet }) to }

-- set to a ring: silent is 0 and nothing is promised
unfoldable pub ring_set : RingWork → RingId → Mask → RingWork
ring_set w id ms =
    record w {
      ring = record (w.ring) { id = id; members = ms; silent = 0; promised = None };
      set = Some (record { id = id; members = ms; neighbour = neighbour_in w.ring.settings w.ring.me ms });
    }

-- a gathering closes with those that acknowledged
unfoldable pub ring_close : RingWork → Gather → RingWork
ring_close w g =
    ring_send_all
    (ring_set (record w { ring = record (w.ring) { gathering = None } }) g.id g.acked)
    (nodes_of (without_node g.acked w.ring.me))
    (Commit g.id g.acked)

unfoldable pub ring_gathering : RingWork → Gathering → RingWork
ring_gathering w g = record w { ring = record (w.ring) { gathering = Some g } }

-- the id with the next number
unfoldable pub next_ring : Ring → RingId
next_ring r = record { leader = r.me; inc = r.inc; number = r.last + 1 }

unfoldable pub ring_numbered : RingWork → RingWork
ring_numbered w = record w { ring = record (w.ring) { last = w.ring.last + 1 } }

-- it goes on with the gathering, or closes it where all have acknowledged
unfoldable pub ring_gather_on : RingWork → Gathering → RingWork
ring_gather_on w g = elim (all_acked g.gather) [ true ↦ ring_close w g.gather | false ↦ ring_gathering w g ]

-- a gathering of these; past the last number there is none
unfoldable pub ring_gather : RingWork → Mask → RingWork
ring_gather w asked =
    elim (w.ring.last == last_u32) [
      | true ↦ w
      | false ↦
          ring_gather_on
          (ring_send_all (ring_numbered w) (nodes_of (without_node asked w.ring.me)) (Ptc (next_ring w.ring) asked))
          (record { gather = gather_opened (next_ring w.ring) asked w.ring.me; age = 0 })
    ]

-- the adapter is alone
unfoldable pub ring_alone : RingWork → RingWork
ring_alone w =
    elim (w.ring.last == last_u32) [
      | true ↦ w
      | false ↦
          ring_set
          (record w { ring = record (w.ring) { last = w.ring.last + 1; gathering = None } })
          (next_ring w.ring)
          (with_node no_nodes w.ring.me)
    ]

-- part 1 of a tick
unfoldable pub send_heartbeat : RingWork → RingWork
send_heartbeat w = elim (is_shared w.ring) [ true ↦ ring_send w (neighbour w.ring) (Heartbeat w.ring.id) | false ↦ w ]

unfoldable pub ring_proclaim : RingWork → RingWork
ring_proclaim w =
    elim (ring_leads w.ring && is_none w.ring.gathering) [ true ↦ ring_send_all w (outside w.ring.settings w.ring.members) (Proclaim w.ring.id) | false ↦ w ]

unfoldable pub ring_beat : RingWork → RingWork
ring_beat w =
    elim (risen w.ring.beat == w.ring.settings.every) [
      | true ↦ ring_proclaim (send_heartbeat (record w { ring = record (w.ring) { beat = 0 } }))
      | false ↦ record w { ring = record (w.ring) { beat = risen w.ring.beat } }
    ]

-- the leader acts on a death, and on its own the Crown Prince
unfoldable pub buries : Ring → ℕ → Bool
buries r d = ring_leads r || (d == r.id.leader && crown_prince r == r.me)

unfoldable pub death_counts : Ring → RingId → ℕ → Bool
death_counts r id d = same_ring id r.id && not (d == r.me) && has_node r.members d && is_none r.gathering && buries r d

unfoldable pub death_rule : RingWork → RingId → ℕ → RingWork
death_rule w id d = elim (death_counts w.ring id d) [ true ↦ ring_gather w (without_node w.ring.members d) | false ↦ w ]

-- who is to hear of the death
unfoldable pub death_told_to : Ring → ℕ → ℕ
death_told_to r d = elim (d == r.id.leader) [ true ↦ crown_prince r | false ↦ r.id.leader ]

unfoldable pub tell_death : RingWork → ℕ → ℕ → RingWork
tell_death w d to = elim (to == w.ring.me) [ true ↦ death_rule w w.ring.id d | false ↦ ring_send w to (Death w.ring.id d) ]

-- part 2 of a tick
unfoldable pub ring_wait_on : RingWork → RingWork
ring_wait_on w =
    elim (w.ring.silent == 3 * patience w.ring.settings) [
      | true ↦ ring_alone w
      | false ↦
          elim (nat_le (patience w.ring.settings) w.ring.silent) [
            | true ↦ tell_death w (upstream w.ring) (death_told_to w.ring (upstream w.ring))
            | false ↦ w
          ]
    ]

unfoldable pub ring_wait : RingWork → RingWork
ring_wait w =
    elim (is_shared w.ring) [ true ↦ ring_wait_on (record w { ring = record (w.ring) { silent = risen w.ring.silent } }) | false ↦ w ]

-- part 3 of a tick
unfoldable pub ring_ages_of : RingWork → Option Gathering → RingWork
ring_ages_of w None = w
ring_ages_of w (Some g) =
    elim (risen g.age == 2) [
      | true ↦ ring_close w g.gather
      | false ↦ ring_gathering w (record g { age = risen g.age })
    ]

unfoldable pub ring_age : RingWork → RingWork
ring_age w = ring_ages_of w w.ring.gathering

unfoldable pub ring_tick : RingWork → RingWork
ring_tick w = ring_age (ring_wait (ring_beat w))

unfoldable pub heartbeat_rule : RingWork → ℕ → RingId → RingWork
heartbeat_rule w from id =
    elim (same_ring id w.ring.id && is_shared w.ring && from == upstream w.ring) [ true ↦ record w { ring = record (w.ring) { silent = 0 } } | false ↦ w ]

unfoldable pub answers_proclaim : Ring → ℕ → Bool
answers_proclaim r from =
    ring_leads r && is_none r.gathering && not (has_node r.members from) && has_addr r.settings from && is_higher r.settings from r.me

unfoldable pub proclaim_rule : RingWork → ℕ → RingWork
proclaim_rule w from = elim (answers_proclaim w.ring from) [ true ↦ ring_send w from (Join w.ring.members) | false ↦ w ]

unfoldable pub is_lower : Ring → ℕ → Bool
is_lower r n = has_addr r.settings n && is_higher r.settings r.me n

unfoldable pub all_lower : Ring → Mask → Bool
all_lower r ms = list_all (is_lower r) (nodes_of ms)

unfoldable pub takes_join : Ring → ℕ → Mask → Bool
takes_join r from ms = ring_leads r && is_none r.gathering && has_node ms from && all_lower r ms

unfoldable pub join_rule : RingWork → ℕ → Mask → RingWork
join_rule w from ms = elim (takes_join w.ring from ms) [ true ↦ ring_gather w (union_of w.ring.members ms) | false ↦ w ]

-- from the leader of that ring to a node asked for it, who has the highest address of the asked
unfoldable pub may_promise : Ring → ℕ → ℕ → RingId → Mask → Bool
may_promise r from inc id ms =
    id.leader == from && id.inc == inc && has_node ms r.me && has_node ms from && all_have_addr r.settings ms && is_highest r.settings from ms

unfoldable pub ptc_rule : RingWork → ℕ → ℕ → RingId → Mask → RingWork
ptc_rule w from inc id ms =
    elim (may_promise w.ring from inc id ms) [
      | true ↦ ring_send (record w { ring = record (w.ring) { gathering = None; promised = Some id } }) from (PtcAck id)
      | false ↦ w
    ]

unfoldable pub ack_rule_of : RingWork → ℕ → RingId → Option Gathering → RingWork
ack_rule_of w from id None = w
ack_rule_of w from id (Some g) =
    elim (same_ring g.gather.id id) [ true ↦ ring_gather_on w (record g { gather = gather_acked g.gather from }) | false ↦ w ]

unfoldable pub ack_rule : RingWork → ℕ → RingId → RingWork
ack_rule w from id = ack_rule_of w from id w.ring.gathering

unfoldable pub is_promised : Option RingId → RingId → Bool
is_promised None id = false
is_promised (Some p) id = same_ring p id

unfoldable pub commit_rule : RingWork → ℕ → RingId → Mask → RingWork
commit_rule w from id ms =
    elim (is_promised w.ring.promised id && has_node ms w.ring.me && from == id.leader) [ true ↦ ring_set w id ms | false ↦ w ]

-- the table of packets
unfoldable pub packet_rule : RingWork → ℕ → ℕ → RingPacket → RingWork
packet_rule w from inc (Heartbeat id) = heartbeat_rule w from id
packet_rule w from inc (Proclaim id) = proclaim_rule w from
packet_rule w from inc (Join ms) = join_rule w from ms
packet_rule w from inc (Ptc id ms) = ptc_rule w from inc id ms
packet_rule w from inc (PtcAck id) = ack_rule w from id
packet_rule w from inc (Commit id ms) = commit_rule w from id ms
packet_rule w from inc (Death id d) = death_rule w id d

unfoldable pub ring_rule : RingWork → RingEvent → RingWork
ring_rule w Tick = ring_tick w
ring_rule w (Packet from inc packet) = packet_rule w from inc packet

unfoldable pub at_work : Ring → RingWork
at_work r = record { ring = r; sends = []; set = None }

-- a step: the ring after it, what it sent, and the ring that it was set to
unfoldable pub ring_step : Ring → RingEvent → RingWork
ring_step r e = ring_rule (at_work r) e

-- an adapter that starts is alone, in a ring of number 1
unfoldable pub ring_new : ℕ → ℕ → ℕ → RingSettings → Ring
ring_new net me inc settings =
    record {
      net = net;
      me = me;
      inc = inc;
      settings = settings;
      last = 1;
      id = record { leader = me; inc = inc; number = 1 };
      members = with_node no_nodes me;
      gathering = None;
      promised = None;
      silent = 0;
      beat = 0;
    }

-- opens each word of this file, for a computation
unfoldable pub rings_opens : Unit {0}
unfolding neighbour upstream crown_prince ring_leads is_shared patience ring_send ring_send_all ring_set ring_close ring_gathering next_ring ring_numbered ring_gather_on ring_gather ring_alone send_heartbeat ring_proclaim ring_beat buries death_counts death_rule death_told_to tell_death ring_wait_on ring_wait ring_ages_of ring_age ring_tick heartbeat_rule answers_proclaim proclaim_rule is_lower all_lower takes_join join_rule may_promise ptc_rule ack_rule_of ack_rule is_promised commit_rule packet_rule ring_rule at_work ring_step ring_new
rings_opens = tt
