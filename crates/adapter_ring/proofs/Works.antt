-- Each word of a ring's step keeps what holds of it.
use Rattle.std.proofs.Common.{◌≡◌, ◌≢◌, ℕ, ◌+◌, ◌*◌, ◌≤◌, true, false, List, [], ◌∷◌, ◌++◌, Option, Some, None, refl, sym, ap, ◌∙◌, subst, inl, inr, ⊎_elim, arith}
use Rattle.std.specs.Prelude.{◌==◌, ◌&&◌, not, nat_le, map, is_none, IsTrue}
use Rattle.std.proofs.lemmas.Bool.{and_parts, or_cases, eqb-true, eqb-false, not-true}
use Rattle.rsct_packet.specs.declared.ids.RingId.{RingId}
use Rattle.rsct_packet.specs.declared.mask.Mask.{Mask}
use Rattle.rsct_packet.specs.Ids.{same_ring, last_u32, risen}
use Rattle.rsct_packet.specs.Mask.{no_nodes, has_node, with_node, without_node, union_of, nodes_of}
use Rattle.rsct_packet.specs.Search.{Has}
use Rattle.rsct_packet.proofs.HasLaws.{all_has, has_append, has_map}
use Rattle.rsct_packet.proofs.MaskLaws.{has_listed}
use Rattle.ring_commit.specs.declared.gather.Gather.{Gather}
use Rattle.ring_commit.specs.Gather.{gather_opened, is_awaited, gather_acked, all_acked}
use Rattle.adapter_ring.specs.declared.packet.RingPacket.{RingPacket}
use Rattle.adapter_ring.specs.declared.packet.RingPacket.TheVariants.{Heartbeat, Proclaim, Join, Ptc, PtcAck, Commit, Death}
use Rattle.adapter_ring.specs.declared.packet.RingSend.{RingSend}
use Rattle.adapter_ring.specs.declared.packet.RingEvent.{RingEvent}
use Rattle.adapter_ring.specs.declared.packet.RingEvent.TheVariants.{Tick, Packet}
use Rattle.adapter_ring.specs.declared.ring.Ring.{Ring}
use Rattle.adapter_ring.specs.declared.ring.RingSettings.{RingSettings}
use Rattle.adapter_ring.specs.declared.ring.Gathering.{Gathering}
use Rattle.adapter_ring.specs.declared.work.RingWork.{RingWork}
use Rattle.adapter_ring.specs.Addresses.{has_addr, outside, is_higher, neighbour_in, crown_prince_in}
use Rattle.adapter_ring.specs.Rings.{ring_send, ring_send_all, ring_set, ring_close, ring_gathering, next_ring, ring_numbered, ring_gather_on, ring_gather, ring_alone, send_heartbeat, ring_proclaim, ring_beat, buries, death_counts, death_rule, tell_death, ring_wait_on, ring_wait, ring_ages_of, ring_age, ring_tick, heartbeat_rule, proclaim_rule, is_lower, all_lower, takes_join, join_rule, ptc_rule, ack_rule_of, ack_rule, commit_rule, packet_rule, ring_rule, at_work, ring_step, is_shared, neighbour, upstream, death_told_to, patience, ring_leads, crown_prince, answers_proclaim, may_promise, is_promised}
use Rattle.adapter_ring.specs.Agreement.{AddressesDiffer, HasGreatest, IsNeighbour}
use Rattle.adapter_ring.proofs.AddressLaws.{higher_lt, neighbour_is, greatest_alone, greatest_without, greatest_union, greatest_with, prince_greatest}
use Rattle.adapter_ring.proofs.Parts.{Made, Books, GatheringOk, GathersOk, RingOk, PacketOk, WorkOk, books_more, sets_kept, packet_kept, gathers_later, either}

module _ (s : RingSettings) (differ : AddressesDiffer s) (n inc : ℕ) (before : List Made) where
  abbrev pub Ok : List Made → RingWork → Type 0
  Ok made w = WorkOk s n inc before made w

  -- whatever was made, it is well
  abbrev pub Well : RingWork → Type 0
  Well w = (made : List Made) × WorkOk s n inc before made w

  -- the counts change
  counted : (made : List Made) (w : RingWork) (silent beat : ℕ) → Ok made w → Ok made (record w { ring = record (w.ring) { silent = silent; beat = beat } })
  counted made w silent beat o =
      let k = o.ring in
      record {
        kept = o.kept;
        new = o.new;
        books = o.books;
        me = o.me;
        life = o.life;
        ring = record { settings = k.settings; addr = k.addr; own = k.own; mine = k.mine; below = k.below; gathers = k.gathers };
        sends = o.sends;
        set = o.set;
      }

  -- a gathering is dropped, begun or changed, or something is promised
  gathering : (made : List Made) (w : RingWork) (g : Option Gathering) (p : Option RingId) → Ok made w → GathersOk s made w.ring.me w.ring.inc w.ring.last g → Ok made (record w { ring = record (w.ring) { gathering = g; promised = p } })
  gathering made w g p o h =
      let k = o.ring in
      record {
        kept = o.kept;
        new = o.new;
        books = o.books;
        me = o.me;
        life = o.life;
        ring = record { settings = k.settings; addr = k.addr; own = k.own; mine = k.mine; below = k.below; gathers = h };
        sends = o.sends;
        set = o.set;
      }

  sends_more : (made : List Made) (w : RingWork) (more : List RingSend) → Ok made w → ((x : RingSend) → Has x more → PacketOk made x.packet) → Ok made (record w { sends = w.sends ++ more })
  sends_more made w more o h =
      record {
        kept = o.kept;
        new = o.new;
        books = o.books;
        me = o.me;
        life = o.life;
        ring = o.ring;
        sends = λ x t. ⊎_elim (λ (a : Has x w.sends). o.sends x a) (λ (b : Has x more). h x b) (has_append x w.sends more t);
        set = o.set;
      }

  sent : (made : List Made) (w : RingWork) (to : ℕ) (p : RingPacket) → Ok made w → PacketOk made p → Ok made (ring_send w to p)
  unfolding ring_send
  sent made w to p o h =
      let x : RingSend = record { network = w.ring.net; to = to; packet = p } in
      sends_more made w (x ∷ []) o (λ y t. ⊎_elim (λ (e : y ≡ x). subst (λ (z : RingSend). PacketOk made z.packet) (sym e) h) (λ (f : ⊥). absurd f) t)

  sent_all : (made : List Made) (w : RingWork) (to : List ℕ) (p : RingPacket) → Ok made w → PacketOk made p → Ok made (ring_send_all w to p)
  unfolding ring_send_all
  sent_all made w to p o h =
      let f : ℕ → RingSend = λ k. record { network = w.ring.net; to = k; packet = p } in
      sends_more made w (map f to) o (λ y t. (let m = has_map f y to t in subst (λ (z : RingSend). PacketOk made z.packet) (sym m.2) h))

  -- the ring is set to one that was made
  set_to : (made : List Made) (w : RingWork) (id : RingId) (ms : Mask) → Ok made w → Has (record { id = id; members = ms }) made → IsTrue (has_node ms w.ring.me) → Ok made (ring_set w id ms)
  unfolding ring_set
  set_to made w id ms o own mine =
      let k = o.ring in
      record {
        kept = o.kept;
        new = o.new;
        books = o.books;
        me = o.me;
        life = o.life;
        ring = record { settings = k.settings; addr = k.addr; own = own; mine = mine; below = k.below; gathers = k.gathers };
        sends = o.sends;
        set = record {
          own = own;
          mine = mine;
          beside = subst (λ t. IsNeighbour s w.ring.me ms (neighbour_in t w.ring.me ms)) (sym k.settings) (neighbour_is s w.ring.me ms mine);
        };
      }

  -- a ring is made under a number of one's own that is new
  booked : (made : List Made) (w : RingWork) (id : RingId) (ms : Mask) → Ok made w → ((more : List Made) → GathersOk s more w.ring.me w.ring.inc w.ring.last w.ring.gathering) → id.leader ≡ w.ring.me → id.inc ≡ w.ring.inc → id.number ≤ w.ring.last → ((b : Made) → Has b made → b.id ≡ id → ⊥) → HasGreatest s w.ring.me ms → Ok (record { id = id; members = ms } ∷ made) w
  booked made w id ms o none leader life number fresh great =
      let a : Made = record { id = id; members = ms } in
      let k = o.ring in
      record {
        kept = λ b h. inr (o.kept b h);
        new = λ b h. ⊎_elim (λ (e : b ≡ a). inr (ap (λ (z : Made). z.id.leader) e ∙ leader ∙ o.me, ap (λ (z : Made). z.id.inc) e ∙ life ∙ o.life)) (λ (g : Has b made). o.new b g) h;
        books = books_more s made a o.books fresh (subst (λ l. HasGreatest s l ms) (sym leader) great);
        me = o.me;
        life = o.life;
        ring = record {
          settings = k.settings;
          addr = k.addr;
          own = inr k.own;
          mine = k.mine;
          below = λ b h l i. ⊎_elim (λ (e : b ≡ a). subst (λ (z : Made). z.id.number ≤ w.ring.last) (sym e) number) (λ (g : Has b made). k.below b g l i) h;
          gathers = none (a ∷ made);
        };
        sends = λ x t. packet_kept made (a ∷ made) (λ b h. inr h) x.packet (o.sends x t);
        set = sets_kept s made (a ∷ made) (λ b h. inr h) w.ring.me w.set o.set;
      }

  closed : (made : List Made) (w : RingWork) (g : Gather) → Ok made w → GatheringOk s made w.ring.me w.ring.inc w.ring.last g → Ok (record { id = g.id; members = g.acked } ∷ made) (ring_close w g)
  unfolding ring_close
  closed made w g o h =
      let v : RingWork = record w { ring = record (w.ring) { gathering = None } } in
      let more : List Made = record { id = g.id; members = g.acked } ∷ made in
      let p = booked made v g.id g.acked (gathering made w None w.ring.promised o tt) (λ m. tt) h.leader h.life h.number h.fresh h.acked in
      sent_all more (ring_set v g.id g.acked) (nodes_of (without_node g.acked w.ring.me)) (Commit g.id g.acked) (set_to more v g.id g.acked p (inl refl) h.acked.among) (inl refl)

  gathers_on : (made : List Made) (w : RingWork) (g : Gathering) → Ok made w → GatheringOk s made w.ring.me w.ring.inc w.ring.last g.gather → Well (ring_gather_on w g)
  unfolding ring_gather_on ring_gathering
  gathers_on made w g o h =
      either Well (all_acked g.gather) (ring_close w g.gather) (ring_gathering w g)
      (λ e. (record { id = g.gather.id; members = g.gather.acked } ∷ made, closed made w g.gather o h))
      (λ e. (made, gathering made w (Some g) w.ring.promised o h))

  -- the next number is none of one's own rings
  next_is_new : (made : List Made) (w : RingWork) → Ok made w → (a : Made) → Has a made → a.id ≡ next_ring w.ring → ⊥
  unfolding next_ring
  next_is_new made w o a h e =
      let le = o.ring.below a h (ap (λ (z : RingId). z.leader) e) (ap (λ (z : RingId). z.inc) e) in
      let eq : a.id.number ≡ w.ring.last + 1 = ap (λ (z : RingId). z.number) e in
      omega arith

  numbered : (made : List Made) (w : RingWork) → Ok made w → Ok made (ring_numbered w)
  unfolding ring_numbered
  numbered made w o =
      let k = o.ring in
      record {
        kept = o.kept;
        new = o.new;
        books = o.books;
        me = o.me;
        life = o.life;
        ring = record {
          settings = k.settings;
          addr = k.addr;
          own = k.own;
          mine = k.mine;
          below = λ a h l i. (let le = k.below a h l i in omega arith);
          gathers = gathers_later s made w.ring.me w.ring.inc w.ring.last w.ring.gathering k.gathers;
        };
        sends = o.sends;
        set = o.set;
      }

  gathers : (made : List Made) (w : RingWork) (asked : Mask) → Ok made w → HasGreatest s w.ring.me asked → Well (ring_gather w asked)
  unfolding ring_gather ring_numbered ring_send_all next_ring gather_opened
  gathers made w asked o great =
      let id = next_ring w.ring in
      let v : RingWork = ring_send_all (ring_numbered w) (nodes_of (without_node asked w.ring.me)) (Ptc id asked) in
      let g : Gathering = record { gather = gather_opened id asked w.ring.me; age = 0 } in
      either Well (w.ring.last == last_u32) w (ring_gather_on v g)
      (λ e. (made, o))
      (λ e.
      gathers_on made v g (sent_all made (ring_numbered w) (nodes_of (without_node asked w.ring.me)) (Ptc id asked) (numbered made w o) tt) (record {
        leader = refl;
        life = refl;
        number = omega arith;
        fresh = next_is_new made w o;
        asked = great;
        acked = greatest_alone s w.ring.me o.ring.addr;
      }))

  alone : (made : List Made) (w : RingWork) → Ok made w → Well (ring_alone w)
  unfolding ring_alone ring_numbered next_ring
  alone made w o =
      let id = next_ring w.ring in
      let ms = with_node no_nodes w.ring.me in
      let u = ring_numbered w in
      let v : RingWork = record u { ring = record (u.ring) { gathering = None } } in
      let great = greatest_alone s w.ring.me o.ring.addr in
      let more : List Made = record { id = id; members = ms } ∷ made in
      either Well (w.ring.last == last_u32) w (ring_set v id ms)
      (λ e. (made, o))
      (λ e. (more, set_to more v id ms (booked made v id ms (gathering made u None u.ring.promised (numbered made w o) tt) (λ m. tt) refl refl (omega arith) (next_is_new made w o) great) (inl refl) great.among))

  -- a tick
  beats : (made : List Made) (w : RingWork) → Ok made w → Ok made (ring_beat w)
  unfolding ring_beat ring_proclaim send_heartbeat
  beats made w o =
      let u : RingWork = record w { ring = record (w.ring) { beat = 0 } } in
      let v : RingWork = send_heartbeat u in
      let p : Ok made u = counted made w w.ring.silent 0 o in
      let q : Ok made v = either (Ok made) (is_shared u.ring) (ring_send u (neighbour u.ring) (Heartbeat u.ring.id)) u (λ e. sent made u (neighbour u.ring) (Heartbeat u.ring.id) p tt) (λ e. p) in
      either (Ok made) (risen w.ring.beat == w.ring.settings.every) (ring_proclaim v) (record w { ring = record (w.ring) { beat = risen w.ring.beat } })
      (λ e. either (Ok made) (ring_leads v.ring && is_none v.ring.gathering) (ring_send_all v (outside v.ring.settings v.ring.members) (Proclaim v.ring.id)) v (λ f. sent_all made v (outside v.ring.settings v.ring.members) (Proclaim v.ring.id) q tt) (λ f. q))
      (λ e. counted made w w.ring.silent (risen w.ring.beat) o)

  -- who acts on a death is the highest of those that are left
  left_greatest : (made : List Made) (w : RingWork) (id : RingId) (d : ℕ) → Ok made w → death_counts w.ring id d ≡ true → HasGreatest s w.ring.me (without_node w.ring.members d)
  unfolding death_counts buries ring_leads crown_prince
  left_greatest made w id d o e =
      let r = w.ring in
      let k = o.ring in
      let four = and_parts (same_ring id r.id && not (d == r.me) && has_node r.members d && is_none r.gathering) (buries r d) e in
      let three = and_parts (same_ring id r.id && not (d == r.me) && has_node r.members d) (is_none r.gathering) four.0 in
      let two = and_parts (same_ring id r.id && not (d == r.me)) (has_node r.members d) three.0 in
      let one = and_parts (same_ring id r.id) (not (d == r.me)) two.0 in
      let ne : r.me ≢ d = λ f. eqb-false d r.me (not-true (d == r.me) one.1) (sym f) in
      let led = o.books.led (record { id = r.id; members = r.members }) k.own in
      let up = k.addr in
      let low = led.greatest r.me k.mine in
      ⊎_elim
      (λ (f : (r.id.leader == r.me) ≡ true). greatest_without s r.me r.members d ne (subst (λ l. HasGreatest s l r.members) (eqb-true r.id.leader r.me f) led))
      (λ (f : (d == r.id.leader && crown_prince_in r.settings r.members == r.me) ≡ true).
      (let p = and_parts (d == r.id.leader) (crown_prince_in r.settings r.members == r.me) f in
      let dead : d ≡ r.id.leader = eqb-true d r.id.leader p.0 in
      let prince : crown_prince_in s r.members ≡ r.me = subst (λ t. crown_prince_in t r.members ≡ r.me) k.settings (eqb-true (crown_prince_in r.settings r.members) r.me p.1) in
      subst (λ l. HasGreatest s r.me (without_node r.members l)) (sym dead) (prince_greatest s differ r.id.leader r.me r.members led (omega arith) k.mine (λ g. ne (g ∙ sym dead)) prince)))
      (or_cases (r.id.leader == r.me) (d == r.id.leader && crown_prince_in r.settings r.members == r.me) four.1)

  deaths : (made : List Made) (w : RingWork) (id : RingId) (d : ℕ) → Ok made w → Well (death_rule w id d)
  unfolding death_rule
  deaths made w id d o =
      either Well (death_counts w.ring id d) (ring_gather w (without_node w.ring.members d)) w
      (λ e. gathers made w (without_node w.ring.members d) o (left_greatest made w id d o e))
      (λ e. (made, o))

  told_death : (made : List Made) (w : RingWork) (d to : ℕ) → Ok made w → Well (tell_death w d to)
  unfolding tell_death
  told_death made w d to o =
      either Well (to == w.ring.me) (death_rule w w.ring.id d) (ring_send w to (Death w.ring.id d))
      (λ e. deaths made w w.ring.id d o)
      (λ e. (made, sent made w to (Death w.ring.id d) o tt))

  waited : (made : List Made) (w : RingWork) → Ok made w → Well (ring_wait_on w)
  unfolding ring_wait_on
  waited made w o =
      let to = death_told_to w.ring (upstream w.ring) in
      let late : RingWork = tell_death w (upstream w.ring) to in
      either Well (w.ring.silent == 3 * patience w.ring.settings) (ring_alone w) (elim (nat_le (patience w.ring.settings) w.ring.silent) [ true ↦ late | false ↦ w ])
      (λ e. alone made w o)
      (λ e. either Well (nat_le (patience w.ring.settings) w.ring.silent) late w (λ f. told_death made w (upstream w.ring) to o) (λ f. (made, o)))

  waits : (made : List Made) (w : RingWork) → Ok made w → Well (ring_wait w)
  unfolding ring_wait
  waits made w o =
      let v : RingWork = record w { ring = record (w.ring) { silent = risen w.ring.silent } } in
      either Well (is_shared w.ring) (ring_wait_on v) w (λ e. waited made v (counted made w (risen w.ring.silent) w.ring.beat o)) (λ e. (made, o))

  ages : (made : List Made) (w : RingWork) → Ok made w → Well (ring_age w)
  unfolding ring_age ring_ages_of ring_gathering
  ages made w o = by w.ring.gathering o.ring.gathers
    where
      by : (g : Option Gathering) → GathersOk s made w.ring.me w.ring.inc w.ring.last g → Well (ring_ages_of w g)
      by None h = (made, o)
      by (Some g) h =
          either Well (risen g.age == 2) (ring_close w g.gather) (ring_gathering w (record g { age = risen g.age }))
          (λ e. (record { id = g.gather.id; members = g.gather.acked } ∷ made, closed made w g.gather o h))
          (λ e. (made, gathering made w (Some (record g { age = risen g.age })) w.ring.promised o h))

  ticks : (w : RingWork) → Ok before w → Well (ring_tick w)
  unfolding ring_tick
  ticks w o = let p = waits before (ring_beat w) (beats before w o) in ages p.0 (ring_wait (ring_beat w)) p.1

  -- the rows of packets
  hears : (made : List Made) (w : RingWork) (from : ℕ) (id : RingId) → Ok made w → Well (heartbeat_rule w from id)
  unfolding heartbeat_rule
  hears made w from id o =
      either Well (same_ring id w.ring.id && is_shared w.ring && from == upstream w.ring) (record w { ring = record (w.ring) { silent = 0 } }) w
      (λ e. (made, counted made w 0 w.ring.beat o))
      (λ e. (made, o))

  answers : (made : List Made) (w : RingWork) (from : ℕ) → Ok made w → Well (proclaim_rule w from)
  unfolding proclaim_rule
  answers made w from o =
      either Well (answers_proclaim w.ring from) (ring_send w from (Join w.ring.members)) w
      (λ e. (made, sent made w from (Join w.ring.members) o tt))
      (λ e. (made, o))

  -- who gathers those that want to join is higher than they are
  joined_greatest : (made : List Made) (w : RingWork) (from : ℕ) (ms : Mask) → Ok made w → takes_join w.ring from ms ≡ true → HasGreatest s w.ring.me (union_of w.ring.members ms)
  unfolding takes_join ring_leads all_lower is_lower
  joined_greatest made w from ms o e =
      let r = w.ring in
      let k = o.ring in
      let three = and_parts (ring_leads r && is_none r.gathering && has_node ms from) (all_lower r ms) e in
      let two = and_parts (ring_leads r && is_none r.gathering) (has_node ms from) three.0 in
      let one = and_parts (ring_leads r) (is_none r.gathering) two.0 in
      let led = o.books.led (record { id = r.id; members = r.members }) k.own in
      greatest_union s r.me r.members ms (subst (λ l. HasGreatest s l r.members) (eqb-true r.id.leader r.me one.0) led)
      (λ j h. (let p = and_parts (has_addr r.settings j) (is_higher r.settings r.me j) (all_has (is_lower r) (nodes_of ms) j three.1 (has_listed ms j h)) in
      let lt = higher_lt s r.me j (subst (λ t. is_higher t r.me j ≡ true) k.settings p.1) in
      omega arith))

  joins : (made : List Made) (w : RingWork) (from : ℕ) (ms : Mask) → Ok made w → Well (join_rule w from ms)
  unfolding join_rule
  joins made w from ms o =
      either Well (takes_join w.ring from ms) (ring_gather w (union_of w.ring.members ms)) w
      (λ e. gathers made w (union_of w.ring.members ms) o (joined_greatest made w from ms o e))
      (λ e. (made, o))

  promises : (made : List Made) (w : RingWork) (from j : ℕ) (id : RingId) (ms : Mask) → Ok made w → Well (ptc_rule w from j id ms)
  unfolding ptc_rule
  promises made w from j id ms o =
      let v : RingWork = record w { ring = record (w.ring) { gathering = None; promised = Some id } } in
      either Well (may_promise w.ring from j id ms) (ring_send v from (PtcAck id)) w
      (λ e. (made, sent made v from (PtcAck id) (gathering made w None (Some id) o tt) tt))
      (λ e. (made, o))

  -- an acknowledgement of one that was asked
  acked_ok : (made : List Made) (me j last : ℕ) (g : Gather) (from : ℕ) → GatheringOk s made me j last g → GatheringOk s made me j last (gather_acked g from)
  unfolding gather_acked is_awaited
  acked_ok made me j last g from h =
      either (GatheringOk s made me j last) (is_awaited g from) (record g { acked = with_node g.acked from }) g
      (λ e. record {
        leader = h.leader;
        life = h.life;
        number = h.number;
        fresh = h.fresh;
        asked = h.asked;
        acked = greatest_with s me g.acked from h.acked (h.asked.greatest from (and_parts (has_node g.asked from) (not (has_node g.acked from)) e).0);
      })
      (λ e. h)

  acks : (made : List Made) (w : RingWork) (from : ℕ) (id : RingId) → Ok made w → Well (ack_rule w from id)
  unfolding ack_rule ack_rule_of
  acks made w from id o = by w.ring.gathering o.ring.gathers
    where
      by : (g : Option Gathering) → GathersOk s made w.ring.me w.ring.inc w.ring.last g → Well (ack_rule_of w from id g)
      by None h = (made, o)
      by (Some g) h =
          let f : Gathering = record g { gather = gather_acked g.gather from } in
          either Well (same_ring g.gather.id id) (ring_gather_on w f) w
          (λ e. gathers_on made w f o (acked_ok made w.ring.me w.ring.inc w.ring.last g.gather from h))
          (λ e. (made, o))

  commits : (made : List Made) (w : RingWork) (from : ℕ) (id : RingId) (ms : Mask) → Ok made w → Has (record { id = id; members = ms }) made → Well (commit_rule w from id ms)
  unfolding commit_rule
  commits made w from id ms o was =
      either Well (is_promised w.ring.promised id && has_node ms w.ring.me && from == id.leader) (ring_set w id ms) w
      (λ e.
      (let p = and_parts (is_promised w.ring.promised id && has_node ms w.ring.me) (from == id.leader) e in
      (made, set_to made w id ms o was (and_parts (is_promised w.ring.promised id) (has_node ms w.ring.me) p.0).1)))
      (λ e. (made, o))

  packets : (w : RingWork) (from j : ℕ) (p : RingPacket) → Ok before w → PacketOk before p → Well (packet_rule w from j p)
  unfolding packet_rule
  packets w from j (Heartbeat id) o h = hears before w from id o
  packets w from j (Proclaim id) o h = answers before w from o
  packets w from j (Join ms) o h = joins before w from ms o
  packets w from j (Ptc id ms) o h = promises before w from j id ms o
  packets w from j (PtcAck id) o h = acks before w from id o
  packets w from j (Commit id ms) o h = commits before w from id ms o h
  packets w from j (Death id d) o h = deaths before w id d o

-- what is given was sent
abbrev pub EventOk : List Made → RingEvent → Type 0
EventOk made Tick = Unit {0}
EventOk made (Packet from inc p) = PacketOk made p

-- a step of a ring in the network
pub stepped_ok : (s : RingSettings) (differ : AddressesDiffer s) (made : List Made) (r : Ring) (e : RingEvent) → Books s made → RingOk s made r → EventOk made e → (more : List Made) × WorkOk s r.me r.inc made more (ring_step r e)
unfolding ring_step at_work ring_rule
stepped_ok s differ made r e books k ok = by e ok
  where
    begun : WorkOk s r.me r.inc made made (at_work r)
    begun = record {
      kept = λ a h. h;
      new = λ a h. inl h;
      books = books;
      me = refl;
      life = refl;
      ring = k;
      sends = λ x h. absurd h;
      set = tt;
    }

    by : (e : RingEvent) → EventOk made e → (more : List Made) × WorkOk s r.me r.inc made more (ring_rule (at_work r) e)
    by Tick h = ticks s differ r.me r.inc made (at_work r) begun
    by (Packet from j p) h = packets s differ r.me r.inc made (at_work r) from j p begun h
