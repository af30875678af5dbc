-- How many packets an adapter's ring sends in one step: 97 in a tick, 64 for a packet.
use Rattle.std.proofs.Common.{◌≡◌, ◌≤◌, ℕ, ◌+◌, ◌*◌, List, [], ◌∷◌, length, map, Some, None, Option, Bool, true, false, refl, sym, ap, ◌∙◌, subst, arith, length-append}
use Rattle.std.specs.Prelude.{not, ◌&&◌, ◌==◌, nat_le, is_none}
use Rattle.std.proofs.lemmas.Bool.{and_parts}
use Rattle.std.proofs.lemmas.List.{length-map}
use Rattle.rsct_packet.specs.declared.ids.RingId.{RingId}
use Rattle.rsct_packet.specs.declared.mask.Mask.{Mask}
use Rattle.rsct_packet.specs.Ids.{same_ring, last_u32, risen}
use Rattle.rsct_packet.specs.Mask.{no_nodes, has_node, with_node, without_node, union_of, nodes_of, node_numbers}
use Rattle.ring_commit.specs.declared.gather.Gather.{Gather}
use Rattle.ring_commit.specs.Gather.{gather_opened, gather_acked, all_acked}
use Rattle.adapter_ring.specs.declared.packet.RingPacket.{RingPacket}
use Rattle.adapter_ring.specs.declared.packet.RingSend.{RingSend}
use Rattle.adapter_ring.specs.declared.packet.RingPacket.TheVariants.{Heartbeat, Proclaim, Join, Ptc, PtcAck, Commit, Death}
use Rattle.adapter_ring.specs.declared.packet.RingEvent.TheVariants.{Tick, Packet}
use Rattle.adapter_ring.specs.declared.ring.Ring.{Ring}
use Rattle.adapter_ring.specs.declared.ring.RingSettings.{RingSettings}
use Rattle.adapter_ring.specs.declared.ring.Gathering.{Gathering}
use Rattle.adapter_ring.specs.declared.work.RingWork.{RingWork}
use Rattle.adapter_ring.specs.Addresses.{has_addr, outside}
use Rattle.adapter_ring.specs.Rings.{neighbour, upstream, ring_leads, is_shared, patience, ring_send, ring_send_all, ring_set, ring_close, ring_gathering, next_ring, ring_numbered, ring_gather_on, ring_gather, ring_alone, send_heartbeat, ring_proclaim, ring_beat, buries, death_counts, death_rule, death_told_to, tell_death, ring_wait_on, ring_wait, ring_ages_of, ring_age, ring_tick, heartbeat_rule, answers_proclaim, proclaim_rule, takes_join, join_rule, may_promise, ptc_rule, ack_rule_of, ack_rule, is_promised, commit_rule, all_lower, packet_rule, ring_rule, at_work, ring_step}
use Rattle.send_laws.proofs.Counts.{kept_few}

pub nodes_few : (m : Mask) → length (nodes_of m) ≤ 32
unfolding nodes_of
nodes_few m = kept_few (has_node m) node_numbers

outside_few : (s : RingSettings) (m : Mask) → length (outside s m) ≤ 32
unfolding outside
outside_few s m = kept_few (λ n. has_addr s n && not (has_node m n)) node_numbers

abbrev Adds : ℕ → RingWork → RingWork → Type 0
Adds c w x = length x.sends ≤ length w.sends + c

sent_one : (w : RingWork) (to : ℕ) (p : RingPacket) → Adds 1 w (ring_send w to p)
unfolding ring_send
sent_one w to p = omega (arith, length-append w.sends (record { network = w.ring.net; to = to; packet = p } ∷ []))

sent_many : (w : RingWork) (to : List ℕ) (p : RingPacket) → Adds (length to) w (ring_send_all w to p)
unfolding ring_send_all
sent_many w to p =
    let f : ℕ → RingSend = λ n. record { network = w.ring.net; to = n; packet = p } in
    omega (arith, length-append w.sends (map f to), length-map to f)

sent_same : (w : RingWork) (to : ℕ) (p : RingPacket) → (ring_send w to p).ring.gathering ≡ w.ring.gathering
unfolding ring_send
sent_same w to p = refl

-- a gathering that began in this step
abbrev Young : Option Gathering → Type 0
Young None = Unit {0}
Young (Some g) = g.age ≡ 0

closed : (w : RingWork) (g : Gather) → Adds 32 w (ring_close w g) × ((ring_close w g).ring.gathering ≡ None)
unfolding ring_close ring_set ring_send_all
closed w g =
    let v : RingWork = ring_set (record w { ring = record (w.ring) { gathering = None } }) g.id g.acked in
    let few : length (nodes_of (without_node g.acked w.ring.me)) ≤ 32 = nodes_few (without_node g.acked w.ring.me) in
    let a : Adds (length (nodes_of (without_node g.acked w.ring.me))) v (ring_close w g) = sent_many v (nodes_of (without_node g.acked w.ring.me)) (Commit g.id g.acked) in
    (omega (arith, few, a), refl)

gathers_on : (w : RingWork) (g : Gathering) → g.age ≡ 0 → Adds 32 w (ring_gather_on w g) × Young (ring_gather_on w g).ring.gathering
unfolding ring_gather_on ring_gathering
gathers_on w g young = by (all_acked g.gather)
  where
    by : (b : Bool) → Adds 32 w (elim b [ true ↦ ring_close w g.gather | false ↦ ring_gathering w g ]) × Young (elim b as (λ _. RingWork) [ true ↦ ring_close w g.gather | false ↦ ring_gathering w g ]).ring.gathering
    by true = let c = closed w g.gather in (c.0, subst Young (sym c.1) tt)
    by false = (omega arith, young)

-- an acknowledgement, of a gathering of any age
goes_on : (w : RingWork) (g : Gathering) → Adds 32 w (ring_gather_on w g)
unfolding ring_gather_on ring_gathering
goes_on w g = by (all_acked g.gather)
  where
    by : (b : Bool) → Adds 32 w (elim b [ true ↦ ring_close w g.gather | false ↦ ring_gathering w g ])
    by true = (closed w g.gather).0
    by false = omega arith

gathers : (w : RingWork) (asked : Mask) → Young w.ring.gathering → Adds 64 w (ring_gather w asked) × Young (ring_gather w asked).ring.gathering
unfolding ring_gather ring_numbered
gathers w asked young = by (w.ring.last == last_u32)
  where
    ns : List ℕ
    ns = nodes_of (without_node asked w.ring.me)

    v : RingWork
    v = ring_send_all (ring_numbered w) ns (Ptc (next_ring w.ring) asked)

    g : Gathering
    g = record { gather = gather_opened (next_ring w.ring) asked w.ring.me; age = 0 }

    first : Adds (length ns) (ring_numbered w) v
    first = sent_many (ring_numbered w) ns (Ptc (next_ring w.ring) asked)

    by : (b : Bool) → Adds 64 w (elim b [ true ↦ w | false ↦ ring_gather_on v g ]) × Young (elim b as (λ _. RingWork) [ true ↦ w | false ↦ ring_gather_on v g ]).ring.gathering
    by true = (omega arith, young)
    by false = let c = gathers_on v g refl in (omega (arith, nodes_few (without_node asked w.ring.me), first, c.0), c.1)

-- ---- a tick

beats_same : (w : RingWork) → (ring_beat w).ring.gathering ≡ w.ring.gathering
unfolding ring_beat ring_proclaim send_heartbeat ring_send ring_send_all
beats_same w = by (risen w.ring.beat == w.ring.settings.every)
  where
    heart : (v : RingWork) (b : Bool) → (elim b as (λ _. RingWork) [ true ↦ ring_send v (neighbour v.ring) (Heartbeat v.ring.id) | false ↦ v ]).ring.gathering ≡ v.ring.gathering
    heart v true = refl
    heart v false = refl

    proclaim : (v : RingWork) (b : Bool) → (elim b as (λ _. RingWork) [ true ↦ ring_send_all v (outside v.ring.settings v.ring.members) (Proclaim v.ring.id) | false ↦ v ]).ring.gathering ≡ v.ring.gathering
    proclaim v true = refl
    proclaim v false = refl

    z : RingWork
    z = record w { ring = record (w.ring) { beat = 0 } }

    by : (b : Bool) → (elim b as (λ _. RingWork) [ true ↦ ring_proclaim (send_heartbeat z) | false ↦ record w { ring = record (w.ring) { beat = risen w.ring.beat } } ]).ring.gathering ≡ w.ring.gathering
    by true = proclaim (send_heartbeat z) (ring_leads (send_heartbeat z).ring && is_none (send_heartbeat z).ring.gathering) ∙ heart z (is_shared z.ring)
    by false = refl

-- a heartbeat; and where nothing is gathered, PROCLAIM
beats_few : (w : RingWork) (c : ℕ) → (is_none w.ring.gathering ≡ true → 32 ≤ c) → Adds (1 + c) w (ring_beat w)
unfolding ring_beat ring_proclaim send_heartbeat ring_send
beats_few w c few = by (risen w.ring.beat == w.ring.settings.every)
  where
    z : RingWork
    z = record w { ring = record (w.ring) { beat = 0 } }

    heart : (b : Bool) → Adds 1 w (elim b [ true ↦ ring_send z (neighbour z.ring) (Heartbeat z.ring.id) | false ↦ z ]) × ((elim b as (λ _. RingWork) [ true ↦ ring_send z (neighbour z.ring) (Heartbeat z.ring.id) | false ↦ z ]).ring.gathering ≡ w.ring.gathering)
    heart true = (sent_one z (neighbour z.ring) (Heartbeat z.ring.id), refl)
    heart false = (omega arith, refl)

    proclaim : (v : RingWork) (b : Bool) → (b ≡ true → 32 ≤ c) → Adds c v (elim b [ true ↦ ring_send_all v (outside v.ring.settings v.ring.members) (Proclaim v.ring.id) | false ↦ v ])
    proclaim v true h = omega (arith, h refl, outside_few v.ring.settings v.ring.members, sent_many v (outside v.ring.settings v.ring.members) (Proclaim v.ring.id))
    proclaim v false h = omega arith

    by : (b : Bool) → Adds (1 + c) w (elim b [ true ↦ ring_proclaim (send_heartbeat z) | false ↦ record w { ring = record (w.ring) { beat = risen w.ring.beat } } ])
    by true =
        let h = heart (is_shared z.ring) in
        let p : Adds c (send_heartbeat z) (ring_proclaim (send_heartbeat z)) = proclaim (send_heartbeat z) (ring_leads (send_heartbeat z).ring && is_none (send_heartbeat z).ring.gathering) (λ e. few (subst (λ x. is_none x ≡ true) h.1 (and_parts (ring_leads (send_heartbeat z).ring) (is_none (send_heartbeat z).ring.gathering) e).1)) in
        omega (arith, h.0, p)
    by false = omega arith

-- a death counts where nothing is gathered
death_idle : (r : Ring) (id : RingId) (d : ℕ) → death_counts r id d ≡ true → is_none r.gathering ≡ true
unfolding death_counts
death_idle r id d e =
    let a = and_parts (same_ring id r.id && not (d == r.me) && has_node r.members d && is_none r.gathering) (buries r d) e in
    (and_parts (same_ring id r.id && not (d == r.me) && has_node r.members d) (is_none r.gathering) a.0).1

join_idle : (r : Ring) (from : ℕ) (ms : Mask) → takes_join r from ms ≡ true → is_none r.gathering ≡ true
unfolding takes_join
join_idle r from ms e =
    let a = and_parts (ring_leads r && is_none r.gathering && has_node ms from) (all_lower r ms) e in
    let b = and_parts (ring_leads r && is_none r.gathering) (has_node ms from) a.0 in (and_parts (ring_leads r) (is_none r.gathering) b.0).1

none_young : (o : Option Gathering) → is_none o ≡ true → Young o
none_young None e = tt
none_young (Some g) e = absurd cc

-- what a part of a tick leaves of a ring that gathered nothing: at most 64 packets, and a gathering that is new
abbrev Buries : RingWork → RingWork → Type 0
Buries w x = Adds 64 w x × (is_none w.ring.gathering ≡ true → Young x.ring.gathering) × (is_none w.ring.gathering ≡ false → Adds 1 w x)

nothing_buried : (w : RingWork) → Buries w w
nothing_buried w = (omega arith, (λ e. none_young w.ring.gathering e), λ e. omega arith)

false_true : (b : Bool) → b ≡ true → b ≡ false → ⊥
false_true true e f = cc
false_true false e f = cc

buried : (w : RingWork) (id : RingId) (d : ℕ) → Buries w (death_rule w id d)
unfolding death_rule
buried w id d = by (death_counts w.ring id d) refl
  where
    by : (b : Bool) → death_counts w.ring id d ≡ b → Buries w (elim b [ true ↦ ring_gather w (without_node w.ring.members d) | false ↦ w ])
    by false e = nothing_buried w
    by true e =
        let idle = death_idle w.ring id d e in
        let g = gathers w (without_node w.ring.members d) (none_young w.ring.gathering idle) in
        (g.0, (λ z. g.1), λ f. absurd (false_true (is_none w.ring.gathering) idle f))

told : (w : RingWork) (d to : ℕ) → Buries w (tell_death w d to)
unfolding tell_death
told w d to = by (to == w.ring.me)
  where
    one : Adds 1 w (ring_send w to (Death w.ring.id d))
    one = sent_one w to (Death w.ring.id d)

    same : (ring_send w to (Death w.ring.id d)).ring.gathering ≡ w.ring.gathering
    same = sent_same w to (Death w.ring.id d)

    by : (b : Bool) → Buries w (elim b [ true ↦ death_rule w w.ring.id d | false ↦ ring_send w to (Death w.ring.id d) ])
    by true = buried w w.ring.id d
    by false = (omega (arith, one), (λ e. subst Young (sym same) (none_young w.ring.gathering e)), λ e. one)

alone : (w : RingWork) → Buries w (ring_alone w)
unfolding ring_alone ring_set
alone w = by (w.ring.last == last_u32)
  where
    by : (b : Bool) → Buries w (elim b [ true ↦ w | false ↦ ring_set (record w { ring = record (w.ring) { last = w.ring.last + 1; gathering = None } }) (next_ring w.ring) (with_node no_nodes w.ring.me) ])
    by true = nothing_buried w
    by false = (omega arith, (λ e. tt), λ e. omega arith)

waited : (w : RingWork) → Buries w (ring_wait_on w)
unfolding ring_wait_on
waited w = by (w.ring.silent == 3 * patience w.ring.settings) (nat_le (patience w.ring.settings) w.ring.silent)
  where
    by : (b c : Bool) → Buries w (elim b [ true ↦ ring_alone w | false ↦ elim c [ true ↦ tell_death w (upstream w.ring) (death_told_to w.ring (upstream w.ring)) | false ↦ w ] ])
    by true c = alone w
    by false true = told w (upstream w.ring) (death_told_to w.ring (upstream w.ring))
    by false false = nothing_buried w

waits : (w : RingWork) → Buries w (ring_wait w)
unfolding ring_wait
waits w = by (is_shared w.ring)
  where
    by : (b : Bool) → Buries w (elim b [ true ↦ ring_wait_on (record w { ring = record (w.ring) { silent = risen w.ring.silent } }) | false ↦ w ])
    by true = waited (record w { ring = record (w.ring) { silent = risen w.ring.silent } })
    by false = nothing_buried w

young_risen : (n : ℕ) → n ≡ 0 → (risen n == 2) ≡ false
unfolding risen
young_risen n e = rw e refl

ages_young : (w : RingWork) → Young w.ring.gathering → Adds 0 w (ring_age w)
unfolding ring_age ring_ages_of ring_gathering
ages_young w young = by w.ring.gathering young
  where
    at : (g : Gathering) (b : Bool) → b ≡ false → Adds 0 w (elim b [ true ↦ ring_close w g.gather | false ↦ ring_gathering w (record g { age = risen g.age }) ])
    at g true e = absurd cc
    at g false e = omega arith

    by : (o : Option Gathering) → Young o → Adds 0 w (ring_ages_of w o)
    by None y = omega arith
    by (Some g) y = at g (risen g.age == 2) (young_risen g.age y)

ages_any : (w : RingWork) → Adds 32 w (ring_age w)
unfolding ring_age ring_ages_of ring_gathering
ages_any w = by w.ring.gathering
  where
    at : (g : Gathering) (b : Bool) → Adds 32 w (elim b [ true ↦ ring_close w g.gather | false ↦ ring_gathering w (record g { age = risen g.age }) ])
    at g true = (closed w g.gather).0
    at g false = omega arith

    by : (o : Option Gathering) → Adds 32 w (ring_ages_of w o)
    by None = omega arith
    by (Some g) = at g (risen g.age == 2)

tick_few : (w : RingWork) → Adds 97 w (ring_tick w)
unfolding ring_tick
tick_few w = by (is_none w.ring.gathering) refl
  where
    u : RingWork
    u = ring_beat w

    same : is_none u.ring.gathering ≡ is_none w.ring.gathering
    same = ap is_none (beats_same w)

    v : RingWork
    v = ring_wait u

    k : Buries u v
    k = waits u

    by : (b : Bool) → is_none w.ring.gathering ≡ b → Adds 97 w (ring_age v)
    by true e =
        let a : Adds 33 w u = beats_few w 32 (λ z. omega arith) in
        let c : Adds 0 v (ring_age v) = ages_young v (k.1 (same ∙ e)) in omega (arith, a, k.0, c)
    by false e =
        let a : Adds 1 w u = beats_few w 0 (λ z. absurd (false_true (is_none w.ring.gathering) z e)) in
        let b : Adds 1 u v = k.2 (same ∙ e) in
        let c : Adds 32 v (ring_age v) = ages_any v in omega (arith, a, b, c)

-- ---- packets

row_few : (w : RingWork) (from inc : ℕ) (p : RingPacket) → Adds 64 w (packet_rule w from inc p)
unfolding packet_rule heartbeat_rule proclaim_rule join_rule ptc_rule ack_rule ack_rule_of commit_rule ring_set
row_few w from inc (Heartbeat id) = by (same_ring id w.ring.id && is_shared w.ring && from == upstream w.ring)
  where
    by : (b : Bool) → Adds 64 w (elim b [ true ↦ record w { ring = record (w.ring) { silent = 0 } } | false ↦ w ])
    by true = omega arith
    by false = omega arith
row_few w from inc (Proclaim id) = by (answers_proclaim w.ring from)
  where
    by : (b : Bool) → Adds 64 w (elim b [ true ↦ ring_send w from (Join w.ring.members) | false ↦ w ])
    by true = omega (arith, sent_one w from (Join w.ring.members))
    by false = omega arith
row_few w from inc (Join ms) = by (takes_join w.ring from ms) refl
  where
    by : (b : Bool) → takes_join w.ring from ms ≡ b → Adds 64 w (elim b [ true ↦ ring_gather w (union_of w.ring.members ms) | false ↦ w ])
    by true e = (gathers w (union_of w.ring.members ms) (none_young w.ring.gathering (join_idle w.ring from ms e))).0
    by false e = omega arith
row_few w from inc (Ptc id ms) = by (may_promise w.ring from inc id ms)
  where
    v : RingWork
    v = record w { ring = record (w.ring) { gathering = None; promised = Some id } }

    by : (b : Bool) → Adds 64 w (elim b [ true ↦ ring_send v from (PtcAck id) | false ↦ w ])
    by true = omega (arith, sent_one v from (PtcAck id))
    by false = omega arith
row_few w from inc (PtcAck id) = of w.ring.gathering
  where
    at : (g : Gathering) (b : Bool) → Adds 64 w (elim b [ true ↦ ring_gather_on w (record g { gather = gather_acked g.gather from }) | false ↦ w ])
    at g true = omega (arith, goes_on w (record g { gather = gather_acked g.gather from }))
    at g false = omega arith

    of : (o : Option Gathering) → Adds 64 w (ack_rule_of w from id o)
    of None = omega arith
    of (Some g) = at g (same_ring g.gather.id id)
row_few w from inc (Commit id ms) = by (is_promised w.ring.promised id && has_node ms w.ring.me && from == id.leader)
  where
    by : (b : Bool) → Adds 64 w (elim b [ true ↦ ring_set w id ms | false ↦ w ])
    by true = omega arith
    by false = omega arith
row_few w from inc (Death id d) = (buried w id d).0

-- a ring's tick
pub ring_tick_few : (r : Ring) → length (ring_step r Tick).sends ≤ 97
unfolding ring_step ring_rule at_work
ring_tick_few r = let k = tick_few (at_work r) in omega (arith, k)

-- a packet of a ring
pub ring_packet_few : (r : Ring) (from inc : ℕ) (p : RingPacket) → length (ring_step r (Packet from inc p)).sends ≤ 64
unfolding ring_step ring_rule at_work
ring_packet_few r from inc p = let k = row_few (at_work r) from inc p in omega (arith, k)
