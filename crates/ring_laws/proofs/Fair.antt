-- One event of a ring, rule by rule: how long it was silent, what it sends, and what it is set to.
use Rattle.std.proofs.Common.{◌≡◌, ◌≤◌, ◌⊎◌, ℕ, ◌+◌, ◌*◌, List, [], ◌∷◌, ◌++◌, Option, Some, None, Bool, true, false, refl, sym, ap, ◌∙◌, subst, inl, inr, arith}
use Rattle.std.specs.Prelude.{◌==◌, ◌&&◌, ◌||◌, not, map, nat_le, is_none, is_some}
use Rattle.std.proofs.lemmas.Bool.{eqb-true, and_parts}
use Rattle.std.proofs.lemmas.Bool.Decides.{nat_tests}
use Rattle.rsct_packet.specs.declared.ids.RingId.{RingId}
use Rattle.rsct_packet.specs.declared.mask.Mask.{Mask}
use Rattle.rsct_packet.specs.Ids.{same_ring, last_u32, risen}
use Rattle.rsct_packet.specs.Mask.{no_nodes, has_node, with_node, without_node, union_of, common_of, nodes_of}
use Rattle.rsct_packet.specs.Search.{Has}
use Rattle.rsct_packet.proofs.HasLaws.{has_append, has_map}
use Rattle.rsct_packet.proofs.MaskLaws.{has_without, has_union, has_common}
use Rattle.ring_commit.specs.declared.gather.Gather.{Gather}
use Rattle.ring_commit.specs.Gather.{gather_opened, is_awaited, gather_acked, all_acked}
use Rattle.adapter_ring.specs.declared.packet.RingPacket.{RingPacket}
use Rattle.adapter_ring.specs.declared.packet.RingPacket.TheVariants.{Heartbeat, Proclaim, Join, Ptc, PtcAck, Commit, Death}
use Rattle.adapter_ring.specs.declared.packet.RingEvent.{RingEvent}
use Rattle.adapter_ring.specs.declared.packet.RingEvent.TheVariants.{Tick, Packet}
use Rattle.adapter_ring.specs.declared.packet.RingSend.{RingSend}
use Rattle.adapter_ring.specs.declared.ring.Gathering.{Gathering}
use Rattle.adapter_ring.specs.declared.ring.Ring.{Ring}
use Rattle.adapter_ring.specs.declared.ring.RingSet.{RingSet}
use Rattle.adapter_ring.specs.declared.work.RingWork.{RingWork}
use Rattle.adapter_ring.specs.Addresses.{neighbour_in, upstream_in, outside}
use Rattle.adapter_ring.specs.Rings.{neighbour, upstream, ring_leads, is_shared, patience, ring_send, ring_send_all, ring_set, ring_close, ring_gathering, next_ring, ring_numbered, ring_gather_on, ring_gather, ring_alone, send_heartbeat, ring_proclaim, ring_beat, buries, death_counts, death_rule, death_told_to, tell_death, ring_wait_on, ring_wait, ring_ages_of, ring_age, ring_tick, heartbeat_rule, answers_proclaim, proclaim_rule, takes_join, join_rule, may_promise, ptc_rule, ack_rule_of, ack_rule, is_promised, commit_rule, packet_rule, ring_rule, at_work, ring_step}
use Rattle.ring_laws.specs.Missed.{ticks_of, is_beat, IsSilent, IsMissed, CameDead, LeavesOutTheDead, MayBeSent, MayBeSet}

risen_little : (n : ℕ) → risen n ≤ n + 1
unfolding risen
risen_little n = by (n == last_u32)
  where
    by : (b : Bool) → elim b as (λ _. ℕ) [ true ↦ n | false ↦ n + 1 ] ≤ n + 1
    by true = omega arith
    by false = omega arith

-- ---- in one event of a ring, behind k silent ticks

module _ (r : Ring) (e : RingEvent) (k : ℕ) where
  abbrev AllMay : List RingSend → Type 0
  AllMay xs = (x : RingSend) → Has x xs → MayBeSent r e k x.packet

  -- nothing has been set yet, and it was silent for n ticks at most
  pub record Before (n : ℕ) (w : RingWork) : Type 0 where
    pub me : w.ring.me ≡ r.me
    pub settings : w.ring.settings ≡ r.settings
    pub id : w.ring.id ≡ r.id
    pub members : w.ring.members ≡ r.members
    pub gathering : w.ring.gathering ≡ r.gathering
    pub silent : w.ring.silent ≤ n
    pub unset : w.set ≡ None
    pub sends : AllMay w.sends

  pub record Fair (w : RingWork) : Type 0 where
    pub me : w.ring.me ≡ r.me
    pub silent : w.ring.silent ≤ k + ticks_of e
    pub reset : is_some w.set ≡ true → w.ring.silent ≡ 0
    pub sends : AllMay w.sends
    pub sets : (x : RingSet) → w.set ≡ Some x → MayBeSet r e k x

  -- a gathering that goes on was opened in this event, or went on before it
  abbrev Goes : RingWork → Type 0
  Goes w = (g : Gathering) → w.ring.gathering ≡ Some g → (g.age ≡ 0) ⊎ (r.gathering ≡ Some g)

  set_none : (w : RingWork) (x : RingSet) → w.set ≡ None → w.set ≡ Some x → MayBeSet r e k x
  set_none w x a b = absurd (let z : None ≡ Some x = sym a ∙ b in cc)

  unset_no : (w : RingWork) → w.set ≡ None → is_some w.set ≡ true → w.ring.silent ≡ 0
  unset_no w a b = absurd (let z : false ≡ true = sym (ap is_some a) ∙ b in cc)

  fair_of : (n : ℕ) (w : RingWork) → n ≤ k + ticks_of e → Before n w → Fair w
  fair_of n w le b =
      record { me = b.me; silent = (let s = b.silent in omega (arith, s, le)); reset = unset_no w b.unset; sends = b.sends; sets = λ x z. set_none w x b.unset z }

  goes_of : (n : ℕ) (w : RingWork) → Before n w → Goes w
  goes_of n w b g z = inr (sym b.gathering ∙ z)

  -- ---- sending

  one_more : (p : RingPacket) (net to : ℕ) (xs : List RingSend) → MayBeSent r e k p → AllMay xs → AllMay (xs ++ record { network = net; to = to; packet = p } ∷ [])
  one_more p net to xs may all x i = by (has_append x xs (record { network = net; to = to; packet = p } ∷ []) i)
    where
      by : Has x xs ⊎ Has x (record { network = net; to = to; packet = p } ∷ []) → MayBeSent r e k x.packet
      by (inl j) = all x j
      by (inr (inl q)) = subst (λ (z : RingSend). MayBeSent r e k z.packet) (sym q) may
      by (inr (inr z)) = absurd z

  abbrev to_each : RingPacket → ℕ → List ℕ → List RingSend
  to_each p net to = map (λ n. record { network = net; to = n; packet = p }) to

  all_more : (p : RingPacket) (net : ℕ) (to : List ℕ) (xs : List RingSend) → MayBeSent r e k p → AllMay xs → AllMay (xs ++ to_each p net to)
  all_more p net to xs may all x i = by (has_append x xs (to_each p net to) i)
    where
      by : Has x xs ⊎ Has x (to_each p net to) → MayBeSent r e k x.packet
      by (inl j) = all x j
      by (inr j) =
          let m = has_map (λ n. record { network = net; to = n; packet = p }) x to j in
          subst (λ (z : RingSend). MayBeSent r e k z.packet) (sym m.2) may

  sent_before : (n : ℕ) (w : RingWork) (to : ℕ) (p : RingPacket) → MayBeSent r e k p → Before n w → Before n (ring_send w to p)
  unfolding ring_send
  sent_before n w to p may b =
      record { me = b.me; settings = b.settings; id = b.id; members = b.members; gathering = b.gathering; silent = b.silent; unset = b.unset; sends = one_more p w.ring.net to w.sends may b.sends }

  all_before : (n : ℕ) (w : RingWork) (to : List ℕ) (p : RingPacket) → MayBeSent r e k p → Before n w → Before n (ring_send_all w to p)
  unfolding ring_send_all
  all_before n w to p may b =
      record { me = b.me; settings = b.settings; id = b.id; members = b.members; gathering = b.gathering; silent = b.silent; unset = b.unset; sends = all_more p w.ring.net to w.sends may b.sends }

  -- ---- what is set

  set_fair : (w : RingWork) (id : RingId) (ms : Mask) → ((b : ℕ) → MayBeSet r e k (record { id = id; members = ms; neighbour = b })) → w.ring.me ≡ r.me → AllMay w.sends → Fair (ring_set w id ms)
  unfolding ring_set
  set_fair w id ms may me sends =
      record { me = me; silent = omega arith; reset = λ z. refl; sends = sends; sets = λ x z. is x z }
    where
      is : (x : RingSet) → Some (record { id = id; members = ms; neighbour = neighbour_in w.ring.settings w.ring.me ms }) ≡ Some x → MayBeSet r e k x
      is x z =
          let q : record { id = id; members = ms; neighbour = neighbour_in w.ring.settings w.ring.me ms } ≡ x = cc in
          subst (MayBeSet r e k) q (may (neighbour_in w.ring.settings w.ring.me ms))

  close_fair : (w : RingWork) (g : Gather) → ((b : ℕ) → MayBeSet r e k (record { id = g.id; members = g.acked; neighbour = b })) → w.ring.me ≡ r.me → AllMay w.sends → Fair (ring_close w g)
  unfolding ring_close ring_send_all
  close_fair w g may me sends =
      record { me = f.me; silent = f.silent; reset = f.reset; sends = all_more (Commit g.id g.acked) u.ring.net (nodes_of (without_node g.acked w.ring.me)) u.sends tt f.sends; sets = f.sets }
    where
      u : RingWork
      u = ring_set (record w { ring = record (w.ring) { gathering = None } }) g.id g.acked

      f : Fair u
      f = set_fair (record w { ring = record (w.ring) { gathering = None } }) g.id g.acked may me sends

  close_goes : (w : RingWork) (g : Gather) → Goes (ring_close w g)
  unfolding ring_close ring_send_all ring_set
  close_goes w g h z = absurd (let q : None ≡ Some h = z in cc)

  -- ---- a gathering that opens

  own_acked : (g : Gather) → all_acked g ≡ true → (d : ℕ) → has_node g.asked d ≡ true → has_node g.acked d ≡ true
  unfolding all_acked
  own_acked g all d i =
      let same : (common_of g.asked g.acked).bits ≡ g.asked.bits = eqb-true (common_of g.asked g.acked).bits g.asked.bits all in
      let both : has_node (common_of g.asked g.acked) d ≡ true = ap (λ b. has_node (record { bits = b }) d) same ∙ i in
      (and_parts (has_node g.asked d) (has_node g.acked d) (sym (has_common g.asked g.acked d) ∙ both)).1

  gather_fair : (n : ℕ) (w : RingWork) (asked : Mask) → n ≤ k + ticks_of e → LeavesOutTheDead r e k asked → Before n w → Fair (ring_gather w asked) × Goes (ring_gather w asked)
  unfolding ring_gather ring_gather_on ring_numbered gather_opened next_ring ring_gathering
  gather_fair n w asked le out b = by (w.ring.last == last_u32)
    where
      u : RingWork
      u = ring_send_all (ring_numbered w) (nodes_of (without_node asked w.ring.me)) (Ptc (next_ring w.ring) asked)

      numbered : Before n (ring_numbered w)
      numbered =
          record { me = b.me; settings = b.settings; id = b.id; members = b.members; gathering = b.gathering; silent = b.silent; unset = b.unset; sends = b.sends }

      before : Before n u
      before = all_before n (ring_numbered w) (nodes_of (without_node asked w.ring.me)) (Ptc (next_ring w.ring) asked) out numbered

      g : Gather
      g = gather_opened (next_ring w.ring) asked w.ring.me

      opened : all_acked g ≡ true → (m : ℕ) → MayBeSet r e k (record { id = g.id; members = g.acked; neighbour = m })
      opened all m =
          inr (inr (inl (record { asked = asked; leader = b.me; left_out = out; all = own_acked g all })))

      fair : Fair u
      fair = fair_of n u le before

      on : (a : Bool) → all_acked g ≡ a → Fair (elim a as (λ _. RingWork) [ true ↦ ring_close u g | false ↦ ring_gathering u (record { gather = g; age = 0 }) ]) × Goes (elim a as (λ _. RingWork) [ true ↦ ring_close u g | false ↦ ring_gathering u (record { gather = g; age = 0 }) ])
      on true q = (close_fair u g (opened q) before.me before.sends, close_goes u g)
      on false q =
          (record { me = fair.me; silent = fair.silent; reset = fair.reset; sends = fair.sends; sets = fair.sets }, λ h z. inl (young h z))
        where
          young : (h : Gathering) → Some (record { gather = g; age = 0 }) ≡ Some h → h.age ≡ 0
          young h z = let q : record { gather = g; age = 0 } ≡ h = cc in sym (ap (λ (y : Gathering). y.age) q)

      by : (l : Bool) → Fair (elim l as (λ _. RingWork) [ true ↦ w | false ↦ elim (all_acked g) as (λ _. RingWork) [ true ↦ ring_close u g | false ↦ ring_gathering u (record { gather = g; age = 0 }) ] ]) × Goes (elim l as (λ _. RingWork) [ true ↦ w | false ↦ elim (all_acked g) as (λ _. RingWork) [ true ↦ ring_close u g | false ↦ ring_gathering u (record { gather = g; age = 0 }) ] ])
      by true = (fair_of n w le b, goes_of n w b)
      by false = on (all_acked g) refl

  -- ---- a death

  lost_is : (m : Mask) (d x : ℕ) → has_node m x ≡ true → has_node (without_node m d) x ≡ false → x ≡ d
  lost_is m d x i off = by (x == d) refl
    where
      by : (b : Bool) → (x == d) ≡ b → x ≡ d
      by true q = eqb-true x d q
      by false q =
          absurd (let z : has_node (without_node m d) x ≡ true = has_without m d x ∙ (λ j. i j && not (q j)) in let y : true ≡ false = sym z ∙ off in cc)

  death_fair : (n : ℕ) (w : RingWork) (id : RingId) (d : ℕ) → n ≤ k + ticks_of e → (death_counts w.ring id d ≡ true → IsMissed r e k d ⊎ CameDead r e d) → Before n w → Fair (death_rule w id d) × Goes (death_rule w id d)
  unfolding death_rule
  death_fair n w id d le why b = by (death_counts w.ring id d) refl
    where
      by : (c : Bool) → death_counts w.ring id d ≡ c → Fair (elim c as (λ _. RingWork) [ true ↦ ring_gather w (without_node w.ring.members d) | false ↦ w ]) × Goes (elim c as (λ _. RingWork) [ true ↦ ring_gather w (without_node w.ring.members d) | false ↦ w ])
      by false q = (fair_of n w le b, goes_of n w b)
      by true q =
          gather_fair n w (without_node w.ring.members d) le (λ x i off. subst (λ z. IsMissed r e k z ⊎ CameDead r e z) (sym (lost_is w.ring.members d x (ap (λ m. has_node m x) b.members ∙ i) off)) (why q)) b

  tell_fair : (n : ℕ) (w : RingWork) (d to : ℕ) → n ≤ k + ticks_of e → IsMissed r e k d → Before n w → Fair (tell_death w d to) × Goes (tell_death w d to)
  unfolding tell_death
  tell_fair n w d to le missed b = by (to == w.ring.me)
    where
      by : (c : Bool) → Fair (elim c as (λ _. RingWork) [ true ↦ death_rule w w.ring.id d | false ↦ ring_send w to (Death w.ring.id d) ]) × Goes (elim c as (λ _. RingWork) [ true ↦ death_rule w w.ring.id d | false ↦ ring_send w to (Death w.ring.id d) ])
      by true = death_fair n w w.ring.id d le (λ q. inl missed) b
      by false =
          let s : Before n (ring_send w to (Death w.ring.id d)) = sent_before n w to (Death w.ring.id d) (missed, b.id) b in
          (fair_of n (ring_send w to (Death w.ring.id d)) le s, goes_of n (ring_send w to (Death w.ring.id d)) s)

  -- ---- a tick

  module _ (tick : e ≡ Tick) where
    one : ticks_of e ≡ 1
    one = ap ticks_of tick

    abbrev most : ℕ
    most = r.settings.every * r.settings.misses

    silent_for : (n : ℕ) (w : RingWork) (m : ℕ) → n ≤ k + 1 → Before n w → m ≤ w.ring.silent → IsSilent e k m
    silent_for n w m le b long = let s = b.silent in record { tick = tick; long = omega (arith, le, s, long) }

    patience_is : (n : ℕ) (w : RingWork) → Before n w → patience w.ring.settings ≡ most
    unfolding patience
    patience_is n w b = ap (λ s. s.every * s.misses) b.settings

    watched_is : (n : ℕ) (w : RingWork) → Before n w → upstream w.ring ≡ upstream r
    unfolding upstream
    watched_is n w b = λ i. upstream_in (b.settings i) (b.me i) (b.members i)

    alone_fair : (n : ℕ) (w : RingWork) → n ≤ k + 1 → 3 * most ≤ w.ring.silent → Before n w → Fair (ring_alone w) × Goes (ring_alone w)
    unfolding ring_alone ring_set
    alone_fair n w le long b = by (w.ring.last == last_u32)
      where
        u : RingWork
        u = record w { ring = record (w.ring) { last = w.ring.last + 1; gathering = None } }

        own : Fair (ring_set u (next_ring w.ring) (with_node no_nodes w.ring.me))
        own =
            set_fair u (next_ring w.ring) (with_node no_nodes w.ring.me) (λ m. inr (inr (inr (silent_for n w (3 * most) le b long)))) b.me b.sends

        none : Goes (ring_set u (next_ring w.ring) (with_node no_nodes w.ring.me))
        none h z = absurd (let q : None ≡ Some h = z in cc)

        by : (l : Bool) → Fair (elim l as (λ _. RingWork) [ true ↦ w | false ↦ ring_set u (next_ring w.ring) (with_node no_nodes w.ring.me) ]) × Goes (elim l as (λ _. RingWork) [ true ↦ w | false ↦ ring_set u (next_ring w.ring) (with_node no_nodes w.ring.me) ])
        by true = (fair_of n w (omega (arith, le, one)) b, goes_of n w b)
        by false = (own, none)

    wait_on_fair : (n : ℕ) (w : RingWork) → n ≤ k + 1 → Before n w → Fair (ring_wait_on w) × Goes (ring_wait_on w)
    unfolding ring_wait_on
    wait_on_fair n w le b = by (w.ring.silent == 3 * patience w.ring.settings) (nat_le (patience w.ring.settings) w.ring.silent) refl refl
      where
        le' : n ≤ k + ticks_of e
        le' = omega (arith, le, one)

        p : patience w.ring.settings ≡ most
        p = patience_is n w b

        by : (a c : Bool) → (w.ring.silent == 3 * patience w.ring.settings) ≡ a → nat_le (patience w.ring.settings) w.ring.silent ≡ c → Fair (elim a as (λ _. RingWork) [ true ↦ ring_alone w | false ↦ elim c as (λ _. RingWork) [ true ↦ tell_death w (upstream w.ring) (death_told_to w.ring (upstream w.ring)) | false ↦ w ] ]) × Goes (elim a as (λ _. RingWork) [ true ↦ ring_alone w | false ↦ elim c as (λ _. RingWork) [ true ↦ tell_death w (upstream w.ring) (death_told_to w.ring (upstream w.ring)) | false ↦ w ] ])
        by true c q s =
            let z : w.ring.silent ≡ 3 * patience w.ring.settings = eqb-true w.ring.silent (3 * patience w.ring.settings) q in
            alone_fair n w le (let y = z ∙ ap (λ m. 3 * m) p in omega (arith, y)) b
        by false true q s =
            let z : most ≤ w.ring.silent = at_most (patience w.ring.settings) most w.ring.silent p s in
            tell_fair n w (upstream w.ring) (death_told_to w.ring (upstream w.ring)) le' (record { silent = silent_for n w most le b z; watched = watched_is n w b }) b
          where
            at_most : (x y z : ℕ) → x ≡ y → nat_le x z ≡ true → y ≤ z
            at_most x y z q s = grind (arith, nat_tests)
        by false false q s = (fair_of n w le' b, goes_of n w b)

    wait_fair : (w : RingWork) → Before k w → Fair (ring_wait w) × Goes (ring_wait w)
    unfolding ring_wait
    wait_fair w b = by (is_shared w.ring)
      where
        u : RingWork
        u = record w { ring = record (w.ring) { silent = risen w.ring.silent } }

        up : Before (k + 1) u
        up =
            record { me = b.me; settings = b.settings; id = b.id; members = b.members; gathering = b.gathering; silent = (let s = b.silent in let t = risen_little w.ring.silent in omega (arith, s, t)); unset = b.unset; sends = b.sends }

        by : (c : Bool) → Fair (elim c as (λ _. RingWork) [ true ↦ ring_wait_on u | false ↦ w ]) × Goes (elim c as (λ _. RingWork) [ true ↦ ring_wait_on u | false ↦ w ])
        by true = wait_on_fair (k + 1) u (omega arith) up
        by false = (fair_of k w (omega arith) b, goes_of k w b)

    age_fair : (w : RingWork) → Fair w × Goes w → Fair (ring_age w)
    unfolding ring_age ring_ages_of ring_gathering
    age_fair w f = by w.ring.gathering refl
      where
        old : (g : Gathering) → risen g.age ≡ 2 → 1 ≤ g.age
        old g q = let t = risen_little g.age in omega (arith, t, q)

        late : (g : Gathering) → risen g.age ≡ 2 → (g.age ≡ 0) ⊎ (r.gathering ≡ Some g) → (b : ℕ) → MayBeSet r e k (record { id = g.gather.id; members = g.gather.acked; neighbour = b })
        late g q (inl z) b = absurd (let y = old g q in omega (arith, y, z))
        late g q (inr z) b = inr (inl (record { gathering = g; there = z; id = refl; asked = inl (tick, old g q) }))

        by : (o : Option Gathering) → w.ring.gathering ≡ o → Fair (ring_ages_of w o)
        by None q = f.0
        by (Some g) q = at (risen g.age == 2) refl
          where
            at : (c : Bool) → (risen g.age == 2) ≡ c → Fair (elim c as (λ _. RingWork) [ true ↦ ring_close w g.gather | false ↦ ring_gathering w (record g { age = risen g.age }) ])
            at true z = close_fair w g.gather (late g (eqb-true (risen g.age) 2 z) (f.1 g q)) (f.0).me (f.0).sends
            at false z =
                record { me = (f.0).me; silent = (f.0).silent; reset = (f.0).reset; sends = (f.0).sends; sets = (f.0).sets }

    beat_before : (w : RingWork) → Before k w → Before k (ring_beat w)
    unfolding ring_beat ring_proclaim send_heartbeat
    beat_before w b = by (risen w.ring.beat == w.ring.settings.every)
      where
        u : RingWork
        u = record w { ring = record (w.ring) { beat = 0 } }

        zeroed : Before k u
        zeroed =
            record { me = b.me; settings = b.settings; id = b.id; members = b.members; gathering = b.gathering; silent = b.silent; unset = b.unset; sends = b.sends }

        heart : (c : Bool) → Before k (elim c as (λ _. RingWork) [ true ↦ ring_send u (neighbour u.ring) (Heartbeat u.ring.id) | false ↦ u ])
        heart true = sent_before k u (neighbour u.ring) (Heartbeat u.ring.id) tt zeroed
        heart false = zeroed

        proclaims : (v : RingWork) → Before k v → (c : Bool) → Before k (elim c as (λ _. RingWork) [ true ↦ ring_send_all v (outside v.ring.settings v.ring.members) (Proclaim v.ring.id) | false ↦ v ])
        proclaims v a true = all_before k v (outside v.ring.settings v.ring.members) (Proclaim v.ring.id) tt a
        proclaims v a false = a

        by : (c : Bool) → Before k (elim c as (λ _. RingWork) [ true ↦ ring_proclaim (send_heartbeat u) | false ↦ record w { ring = record (w.ring) { beat = risen w.ring.beat } } ])
        by true = proclaims (send_heartbeat u) (heart (is_shared u.ring)) (ring_leads (send_heartbeat u).ring && is_none (send_heartbeat u).ring.gathering)
        by false =
            record { me = b.me; settings = b.settings; id = b.id; members = b.members; gathering = b.gathering; silent = b.silent; unset = b.unset; sends = b.sends }

    pub tick_fair : (w : RingWork) → Before k w → Fair (ring_tick w)
    unfolding ring_tick
    tick_fair w b = age_fair (ring_wait (ring_beat w)) (wait_fair (ring_beat w) (beat_before w b))

  -- ---- packets

  le : k ≤ k + ticks_of e
  le = omega arith

  heartbeat_fair : (w : RingWork) (from : ℕ) (id : RingId) → Before k w → Fair (heartbeat_rule w from id)
  unfolding heartbeat_rule
  heartbeat_fair w from id b = by (same_ring id w.ring.id && is_shared w.ring && from == upstream w.ring)
    where
      by : (c : Bool) → Fair (elim c as (λ _. RingWork) [ true ↦ record w { ring = record (w.ring) { silent = 0 } } | false ↦ w ])
      by true =
          record { me = b.me; silent = omega arith; reset = λ z. refl; sends = b.sends; sets = λ x z. set_none w x b.unset z }
      by false = fair_of k w le b

  proclaim_fair : (w : RingWork) (from : ℕ) → Before k w → Fair (proclaim_rule w from)
  unfolding proclaim_rule
  proclaim_fair w from b = by (answers_proclaim w.ring from)
    where
      by : (c : Bool) → Fair (elim c as (λ _. RingWork) [ true ↦ ring_send w from (Join w.ring.members) | false ↦ w ])
      by true = fair_of k (ring_send w from (Join w.ring.members)) le (sent_before k w from (Join w.ring.members) tt b)
      by false = fair_of k w le b

  join_fair : (w : RingWork) (from : ℕ) (ms : Mask) → Before k w → Fair (join_rule w from ms)
  unfolding join_rule
  join_fair w from ms b = by (takes_join w.ring from ms)
    where
      nobody : LeavesOutTheDead r e k (union_of w.ring.members ms)
      nobody d i off =
          absurd (let z : has_node (union_of w.ring.members ms) d ≡ true = has_union w.ring.members ms d ∙ (λ j. (ap (λ m. has_node m d) b.members ∙ i) j || has_node ms d) in let y : true ≡ false = sym z ∙ off in cc)

      by : (c : Bool) → Fair (elim c as (λ _. RingWork) [ true ↦ ring_gather w (union_of w.ring.members ms) | false ↦ w ])
      by true = (gather_fair k w (union_of w.ring.members ms) le nobody b).0
      by false = fair_of k w le b

  ptc_fair : (w : RingWork) (from inc : ℕ) (id : RingId) (ms : Mask) → Before k w → Fair (ptc_rule w from inc id ms)
  unfolding ptc_rule ring_send
  ptc_fair w from inc id ms b = by (may_promise w.ring from inc id ms)
    where
      u : RingWork
      u = record w { ring = record (w.ring) { gathering = None; promised = Some id } }

      by : (c : Bool) → Fair (elim c as (λ _. RingWork) [ true ↦ ring_send u from (PtcAck id) | false ↦ w ])
      by true =
          record { me = b.me; silent = (let s = b.silent in omega (arith, s)); reset = unset_no w b.unset; sends = one_more (PtcAck id) w.ring.net from w.sends tt b.sends; sets = λ x z. set_none w x b.unset z }
      by false = fair_of k w le b

  acked_id : (g : Gather) (n : ℕ) → ((gather_acked g n).id ≡ g.id) × ((gather_acked g n).asked ≡ g.asked)
  unfolding gather_acked
  acked_id g n = by (is_awaited g n)
    where
      by : (c : Bool) → ((elim c as (λ _. Gather) [ true ↦ record g { acked = with_node g.acked n } | false ↦ g ]).id ≡ g.id) × ((elim c as (λ _. Gather) [ true ↦ record g { acked = with_node g.acked n } | false ↦ g ]).asked ≡ g.asked)
      by true = (refl, refl)
      by false = (refl, refl)

  ack_fair : (w : RingWork) (from : ℕ) (id : RingId) → Before k w → Fair (ack_rule w from id)
  unfolding ack_rule ack_rule_of ring_gather_on ring_gathering
  ack_fair w from id b = by w.ring.gathering refl
    where
      by : (o : Option Gathering) → w.ring.gathering ≡ o → Fair (ack_rule_of w from id o)
      by None q = fair_of k w le b
      by (Some g) q = at (same_ring g.gather.id id)
        where
          h : Gather
          h = gather_acked g.gather from

          whole : all_acked h ≡ true → (m : ℕ) → MayBeSet r e k (record { id = h.id; members = h.acked; neighbour = m })
          whole all m =
              inr (inl (record { gathering = g; there = sym b.gathering ∙ q; id = (acked_id g.gather from).0; asked = inr (λ d i. own_acked h all d (ap (λ z. has_node z d) (acked_id g.gather from).1 ∙ i)) }))

          on : (a : Bool) → all_acked h ≡ a → Fair (elim a as (λ _. RingWork) [ true ↦ ring_close w h | false ↦ ring_gathering w (record g { gather = h }) ])
          on true z = close_fair w h (whole z) b.me b.sends
          on false z =
              let f : Fair w = fair_of k w le b in record { me = f.me; silent = f.silent; reset = f.reset; sends = f.sends; sets = f.sets }

          at : (c : Bool) → Fair (elim c as (λ _. RingWork) [ true ↦ ring_gather_on w (record g { gather = h }) | false ↦ w ])
          at true = on (all_acked h) refl
          at false = fair_of k w le b

  commit_fair : (w : RingWork) (from inc : ℕ) (id : RingId) (ms : Mask) → e ≡ Packet from inc (Commit id ms) → Before k w → Fair (commit_rule w from id ms)
  unfolding commit_rule
  commit_fair w from inc id ms came b = by (is_promised w.ring.promised id && has_node ms w.ring.me && from == id.leader) refl
    where
      own : (is_promised w.ring.promised id && has_node ms w.ring.me && from == id.leader) ≡ true → from ≡ id.leader
      own q =
          eqb-true from id.leader (and_parts (is_promised w.ring.promised id && has_node ms w.ring.me) (from == id.leader) q).1

      by : (c : Bool) → (is_promised w.ring.promised id && has_node ms w.ring.me && from == id.leader) ≡ c → Fair (elim c as (λ _. RingWork) [ true ↦ ring_set w id ms | false ↦ w ])
      by true q =
          set_fair w id ms (λ m. inl (record { inc = inc; came = came ∙ ap (λ f. Packet f inc (Commit id ms)) (own q) })) b.me b.sends
      by false q = fair_of k w le b

  dead_fair : (w : RingWork) (from inc : ℕ) (id : RingId) (d : ℕ) → e ≡ Packet from inc (Death id d) → Before k w → Fair (death_rule w id d)
  unfolding death_counts
  dead_fair w from inc id d came b = (death_fair k w id d le (λ q. inr (told q)) b).0
    where
      told : death_counts w.ring id d ≡ true → CameDead r e d
      told q =
          let a = and_parts (same_ring id w.ring.id && not (d == w.ring.me) && has_node w.ring.members d && is_none w.ring.gathering) (buries w.ring d) q in
          let c = and_parts (same_ring id w.ring.id && not (d == w.ring.me) && has_node w.ring.members d) (is_none w.ring.gathering) a.0 in
          let f = and_parts (same_ring id w.ring.id && not (d == w.ring.me)) (has_node w.ring.members d) c.0 in
          let h = and_parts (same_ring id w.ring.id) (not (d == w.ring.me)) f.0 in
          record { from = from; inc = inc; id = id; came = came; same = ap (same_ring id) (sym b.id) ∙ h.0 }

  pub packet_fair : (w : RingWork) (from inc : ℕ) (p : RingPacket) → e ≡ Packet from inc p → Before k w → Fair (packet_rule w from inc p)
  unfolding packet_rule
  packet_fair w from inc (Heartbeat id) came b = heartbeat_fair w from id b
  packet_fair w from inc (Proclaim id) came b = proclaim_fair w from b
  packet_fair w from inc (Join ms) came b = join_fair w from ms b
  packet_fair w from inc (Ptc id ms) came b = ptc_fair w from inc id ms b
  packet_fair w from inc (PtcAck id) came b = ack_fair w from id b
  packet_fair w from inc (Commit id ms) came b = commit_fair w from inc id ms came b
  packet_fair w from inc (Death id d) came b = dead_fair w from inc id d came b

-- ---- an event

begins : (r : Ring) (e : RingEvent) (k : ℕ) → r.silent ≤ k → Before r e k k (at_work r)
unfolding at_work
begins r e k low =
    record { me = refl; settings = refl; id = refl; members = refl; gathering = refl; silent = low; unset = refl; sends = λ x i. absurd i }

pub step_fair : (r : Ring) (e : RingEvent) (k : ℕ) → r.silent ≤ k → Fair r e k (ring_step r e)
unfolding ring_step ring_rule
step_fair r Tick k low = tick_fair r Tick k refl (at_work r) (begins r Tick k low)
step_fair r (Packet from inc p) k low = packet_fair r (Packet from inc p) k (at_work r) from inc p refl (begins r (Packet from inc p) k low)

-- a heartbeat ends the silence
pub beat_ends : (r : Ring) (e : RingEvent) → is_beat r e ≡ true → (ring_step r e).ring.silent ≡ 0
unfolding ring_step ring_rule packet_rule heartbeat_rule at_work
beat_ends r (Packet from inc (Heartbeat id)) q =
    ap (λ b. (elim b as (λ _. RingWork) [ true ↦ record (at_work r) { ring = record r { silent = 0 } } | false ↦ at_work r ]).ring.silent) q
beat_ends r _ q = absurd cc
