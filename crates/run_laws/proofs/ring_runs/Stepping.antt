-- A ring's step leaves the ring's network, node and incarnation, and sends on that network alone.
use Rattle.std.proofs.Common.{◌≡◌, ℕ, ◌+◌, ◌*◌, List, [], ◌∷◌, ◌++◌, Option, Some, None, Bool, true, false, refl, ap, ◌∙◌, subst, ⊎_elim}
use Rattle.std.specs.Prelude.{◌==◌, ◌&&◌, nat_le, map, is_none}
use Rattle.rsct_packet.specs.declared.ids.RingId.{RingId}
use Rattle.rsct_packet.specs.declared.mask.Mask.{Mask}
use Rattle.rsct_packet.specs.Ids.{same_ring, last_u32, risen}
use Rattle.rsct_packet.specs.Mask.{no_nodes, has_node, with_node, without_node, union_of, nodes_of}
use Rattle.rsct_packet.specs.Search.{Has}
use Rattle.rsct_packet.proofs.HasLaws.{has_append, has_map}
use Rattle.ring_commit.specs.declared.gather.Gather.{Gather}
use Rattle.ring_commit.specs.Gather.{gather_opened, gather_acked, all_acked}
use Rattle.adapter_ring.specs.declared.packet.RingPacket.{RingPacket}
use Rattle.adapter_ring.specs.declared.packet.RingPacket.TheVariants.{Heartbeat, Proclaim, Join, Ptc, PtcAck, Commit, Death}
use Rattle.adapter_ring.specs.declared.packet.RingSend.{RingSend}
use Rattle.adapter_ring.specs.declared.packet.RingEvent.{RingEvent}
use Rattle.adapter_ring.specs.declared.packet.RingEvent.TheVariants.{Tick, Packet}
use Rattle.adapter_ring.specs.declared.ring.Ring.{Ring}
use Rattle.adapter_ring.specs.declared.ring.Gathering.{Gathering}
use Rattle.adapter_ring.specs.declared.work.RingWork.{RingWork}
use Rattle.adapter_ring.specs.Addresses.{outside}
use Rattle.adapter_ring.specs.Rings.{ring_send, ring_send_all, ring_set, ring_close, ring_gathering, next_ring, ring_numbered, ring_gather_on, ring_gather, ring_alone, send_heartbeat, ring_proclaim, ring_beat, death_counts, death_rule, tell_death, ring_wait_on, ring_wait, ring_ages_of, ring_age, ring_tick, heartbeat_rule, proclaim_rule, takes_join, join_rule, ptc_rule, ack_rule_of, ack_rule, commit_rule, packet_rule, ring_rule, at_work, ring_step, is_shared, neighbour, upstream, death_told_to, patience, ring_leads, answers_proclaim, may_promise, is_promised}

-- of this network, node and incarnation
pub record OwnWork (net n j : ℕ) (w : RingWork) : Type 0 where
  pub net_is : w.ring.net ≡ net
  pub me : w.ring.me ≡ n
  pub inc : w.ring.inc ≡ j
  pub sends : (x : RingSend) → Has x w.sends → x.network ≡ net

module _ (net n j : ℕ) where
  abbrev Ok : RingWork → Type 0
  Ok w = OwnWork net n j w

  of_either : (b : Bool) (x y : RingWork) → Ok x → Ok y → Ok (elim b as (λ _. RingWork) [ true ↦ x | false ↦ y ])
  of_either true x y p q = p
  of_either false x y p q = q

  -- whose ring it is stays, and nothing more is sent
  again : (w v : RingWork) → v.ring.net ≡ w.ring.net → v.ring.me ≡ w.ring.me → v.ring.inc ≡ w.ring.inc → v.sends ≡ w.sends → Ok w → Ok v
  again w v a b c d o = record { net_is = a ∙ o.net_is; me = b ∙ o.me; inc = c ∙ o.inc; sends = λ x h. o.sends x (subst (Has x) d h) }

  sent_more : (w : RingWork) (more : List RingSend) → ((x : RingSend) → Has x more → x.network ≡ net) → Ok w → Ok (record w { sends = w.sends ++ more })
  sent_more w more all o =
      record { net_is = o.net_is; me = o.me; inc = o.inc; sends = λ x h. ⊎_elim (λ (a : Has x w.sends). o.sends x a) (λ (b : Has x more). all x b) (has_append x w.sends more h) }

  sent_one : (w : RingWork) (to : ℕ) (p : RingPacket) → Ok w → Ok (ring_send w to p)
  unfolding ring_send
  sent_one w to p o =
      let y : RingSend = record { network = w.ring.net; to = to; packet = p } in
      sent_more w (y ∷ []) (λ x h. ⊎_elim (λ (e : x ≡ y). ap (λ (z : RingSend). z.network) e ∙ o.net_is) (λ (f : ⊥). absurd f) h) o

  sent_to : (w : RingWork) (to : List ℕ) (p : RingPacket) → Ok w → Ok (ring_send_all w to p)
  unfolding ring_send_all
  sent_to w to p o =
      let f : ℕ → RingSend = λ k. record { network = w.ring.net; to = k; packet = p } in
      sent_more w (map f to) (λ x h. (let m = has_map f x to h in ap (λ (z : RingSend). z.network) m.2 ∙ o.net_is)) o

  set_now : (w : RingWork) (id : RingId) (ms : Mask) → Ok w → Ok (ring_set w id ms)
  unfolding ring_set
  set_now w id ms o = again w (ring_set w id ms) refl refl refl refl o

  closed : (w : RingWork) (g : Gather) → Ok w → Ok (ring_close w g)
  unfolding ring_close
  closed w g o =
      let v : RingWork = record w { ring = record (w.ring) { gathering = None } } in
      sent_to (ring_set v g.id g.acked) (nodes_of (without_node g.acked w.ring.me)) (Commit g.id g.acked) (set_now v g.id g.acked (again w v refl refl refl refl o))

  gathering_now : (w : RingWork) (g : Gathering) → Ok w → Ok (ring_gathering w g)
  unfolding ring_gathering
  gathering_now w g o = again w (ring_gathering w g) refl refl refl refl o

  gathers_on : (w : RingWork) (g : Gathering) → Ok w → Ok (ring_gather_on w g)
  unfolding ring_gather_on
  gathers_on w g o = of_either (all_acked g.gather) (ring_close w g.gather) (ring_gathering w g) (closed w g.gather o) (gathering_now w g o)

  gathers : (w : RingWork) (asked : Mask) → Ok w → Ok (ring_gather w asked)
  unfolding ring_gather ring_numbered
  gathers w asked o =
      let u : RingWork = record w { ring = record (w.ring) { last = w.ring.last + 1 } } in
      let v : RingWork = ring_send_all u (nodes_of (without_node asked w.ring.me)) (Ptc (next_ring w.ring) asked) in
      let g : Gathering = record { gather = gather_opened (next_ring w.ring) asked w.ring.me; age = 0 } in
      of_either (w.ring.last == last_u32) w (ring_gather_on v g) o (gathers_on v g (sent_to u (nodes_of (without_node asked w.ring.me)) (Ptc (next_ring w.ring) asked) (again w u refl refl refl refl o)))

  alone : (w : RingWork) → Ok w → Ok (ring_alone w)
  unfolding ring_alone
  alone w o =
      let v : RingWork = record w { ring = record (w.ring) { last = w.ring.last + 1; gathering = None } } in
      let ms : Mask = with_node no_nodes w.ring.me in
      of_either (w.ring.last == last_u32) w (ring_set v (next_ring w.ring) ms) o (set_now v (next_ring w.ring) ms (again w v refl refl refl refl o))

  -- ---- a tick

  beats : (w : RingWork) → Ok w → Ok (ring_beat w)
  unfolding ring_beat ring_proclaim send_heartbeat
  beats w o =
      let u : RingWork = record w { ring = record (w.ring) { beat = 0 } } in
      let v : RingWork = send_heartbeat u in
      let p : Ok u = again w u refl refl refl refl o in
      let q : Ok v = of_either (is_shared u.ring) (ring_send u (neighbour u.ring) (Heartbeat u.ring.id)) u (sent_one u (neighbour u.ring) (Heartbeat u.ring.id) p) p in
      let x : RingWork = record w { ring = record (w.ring) { beat = risen w.ring.beat } } in
      of_either (risen w.ring.beat == w.ring.settings.every) (ring_proclaim v) x
      (of_either (ring_leads v.ring && is_none v.ring.gathering) (ring_send_all v (outside v.ring.settings v.ring.members) (Proclaim v.ring.id)) v (sent_to v (outside v.ring.settings v.ring.members) (Proclaim v.ring.id) q) q)
      (again w x refl refl refl refl o)

  deaths : (w : RingWork) (id : RingId) (d : ℕ) → Ok w → Ok (death_rule w id d)
  unfolding death_rule
  deaths w id d o = of_either (death_counts w.ring id d) (ring_gather w (without_node w.ring.members d)) w (gathers w (without_node w.ring.members d) o) o

  death_said : (w : RingWork) (d to : ℕ) → Ok w → Ok (tell_death w d to)
  unfolding tell_death
  death_said w d to o =
      of_either (to == w.ring.me) (death_rule w w.ring.id d) (ring_send w to (Death w.ring.id d)) (deaths w w.ring.id d o) (sent_one w to (Death w.ring.id d) o)

  waited : (w : RingWork) → Ok w → Ok (ring_wait_on w)
  unfolding ring_wait_on
  waited w o =
      let to = death_told_to w.ring (upstream w.ring) in
      let late : RingWork = tell_death w (upstream w.ring) to in
      of_either (w.ring.silent == 3 * patience w.ring.settings) (ring_alone w) (elim (nat_le (patience w.ring.settings) w.ring.silent) [ true ↦ late | false ↦ w ])
      (alone w o)
      (of_either (nat_le (patience w.ring.settings) w.ring.silent) late w (death_said w (upstream w.ring) to o) o)

  waits : (w : RingWork) → Ok w → Ok (ring_wait w)
  unfolding ring_wait
  waits w o =
      let v : RingWork = record w { ring = record (w.ring) { silent = risen w.ring.silent } } in
      of_either (is_shared w.ring) (ring_wait_on v) w (waited v (again w v refl refl refl refl o)) o

  ages : (w : RingWork) → Ok w → Ok (ring_age w)
  unfolding ring_age ring_ages_of
  ages w o = by w.ring.gathering
    where
      by : (g : Option Gathering) → Ok (ring_ages_of w g)
      by None = o
      by (Some g) =
          of_either (risen g.age == 2) (ring_close w g.gather) (ring_gathering w (record g { age = risen g.age })) (closed w g.gather o) (gathering_now w (record g { age = risen g.age }) o)

  -- ---- packets

  packets : (w : RingWork) (from inc : ℕ) (p : RingPacket) → Ok w → Ok (packet_rule w from inc p)
  unfolding packet_rule heartbeat_rule proclaim_rule join_rule ptc_rule ack_rule ack_rule_of commit_rule
  packets w from inc (Heartbeat id) o =
      let v : RingWork = record w { ring = record (w.ring) { silent = 0 } } in
      of_either (same_ring id w.ring.id && is_shared w.ring && from == upstream w.ring) v w (again w v refl refl refl refl o) o
  packets w from inc (Proclaim id) o =
      of_either (answers_proclaim w.ring from) (ring_send w from (Join w.ring.members)) w (sent_one w from (Join w.ring.members) o) o
  packets w from inc (Join ms) o =
      of_either (takes_join w.ring from ms) (ring_gather w (union_of w.ring.members ms)) w (gathers w (union_of w.ring.members ms) o) o
  packets w from inc (Ptc id ms) o =
      let v : RingWork = record w { ring = record (w.ring) { gathering = None; promised = Some id } } in
      of_either (may_promise w.ring from inc id ms) (ring_send v from (PtcAck id)) w (sent_one v from (PtcAck id) (again w v refl refl refl refl o)) o
  packets w from inc (PtcAck id) o = by w.ring.gathering
    where
      by : (g : Option Gathering) → Ok (ack_rule_of w from id g)
      by None = o
      by (Some g) =
          let f : Gathering = record g { gather = gather_acked g.gather from } in
          of_either (same_ring g.gather.id id) (ring_gather_on w f) w (gathers_on w f o) o
  packets w from inc (Commit id ms) o =
      of_either (is_promised w.ring.promised id && has_node ms w.ring.me && from == id.leader) (ring_set w id ms) w (set_now w id ms o) o
  packets w from inc (Death id d) o = deaths w id d o

pub own_step : (r : Ring) (e : RingEvent) → OwnWork r.net r.me r.inc (ring_step r e)
unfolding ring_step at_work ring_rule ring_tick
own_step r e = by e
  where
    begun : OwnWork r.net r.me r.inc (at_work r)
    begun = record { net_is = refl; me = refl; inc = refl; sends = λ x h. absurd h }

    by : (e : RingEvent) → OwnWork r.net r.me r.inc (ring_rule (at_work r) e)
    by Tick = ages r.net r.me r.inc (ring_wait (ring_beat (at_work r))) (waits r.net r.me r.inc (ring_beat (at_work r)) (beats r.net r.me r.inc (at_work r) begun))
    by (Packet from inc p) = packets r.net r.me r.inc (at_work r) from inc p begun
