-- Each ring of a network is what came to it makes of it, so what it tells of deaths it tells behind silence.
use Rattle.std.proofs.Common.{◌≡◌, ◌⊎◌, ℕ, List, [], ◌∷◌, Option, Some, None, Bool, true, false, refl, sym, ap, ◌∙◌, subst, inl, inr, arith}
use Rattle.std.specs.Prelude.{◌==◌, ◌&&◌, not, map, filter, find, slice_get, if◌then◌else◌}
use Rattle.std.proofs.lemmas.Bool.{eqb-true, eq-eqb}
use Rattle.rsct_packet.specs.declared.ids.RingId.{RingId}
use Rattle.rsct_packet.specs.Search.{Has}
use Rattle.rsct_packet.proofs.HasLaws.{has_append, has_filter, has_map, find_has}
use Rattle.adapter_ring.specs.declared.packet.RingPacket.TheVariants.{Death}
use Rattle.adapter_ring.specs.declared.packet.RingEvent.{RingEvent}
use Rattle.adapter_ring.specs.declared.packet.RingEvent.TheVariants.{Tick, Packet}
use Rattle.adapter_ring.specs.declared.packet.RingSend.{RingSend}
use Rattle.adapter_ring.specs.declared.ring.Ring.{Ring}
use Rattle.adapter_ring.specs.declared.ring.RingSettings.{RingSettings}
use Rattle.adapter_ring.specs.declared.work.RingWork.{RingWork}
use Rattle.adapter_ring.specs.Network.{Happening, Starts, Stops, Ticks, Given, Sent, Network, quiet, ring_at, may_start, ring_started, sent_by, with_ring, step_taken, stepped_in, given_in, happens}
use Rattle.adapter_ring.specs.Rings.{ring_new, ring_step}
use Rattle.ring_laws.specs.Missed.{after, silence, IsMissed, MayBeSent}
use Rattle.ring_laws.specs.Deaths.{network, given_to, with_event, life, WasSilent, DeathsAreOfTheSilent}
use Rattle.ring_laws.proofs.Fair.{Fair, step_fair}
use Rattle.ring_laws.proofs.Law.{low, new_silent}

-- ---- the ring of a node

same_self : (n : ℕ) → (n == n) ≡ true
same_self n = eq-eqb n n refl

no_same : (a b : ℕ) → (a ≡ b → ⊥) → (a == b) ≡ false
no_same a b ne = by (a == b) refl
  where
    by : (c : Bool) → (a == b) ≡ c → c ≡ false
    by false e = refl
    by true e = absurd (ne (eqb-true a b e))

not_both : (b : Bool) → b ≡ true → b ≡ false → ⊥
not_both b p q = let z : true ≡ false = sym p ∙ q in cc

abbrev found : ℕ → List Ring → Option Ring
found n rs = find (λ (r : Ring). r.me == n) rs

abbrev replaced : Ring → Ring → Ring
replaced r x = elim (x.me == r.me) as (λ _. Ring) [ true ↦ r | false ↦ x ]

-- the ring in the place of its node's
with_here : (r q : Ring) (rs : List Ring) → found r.me rs ≡ Some q → found r.me (map (replaced r) rs) ≡ Some r
with_here r q [] e = absurd cc
with_here r q (x ∷ rs) e = by (x.me == r.me) refl e (with_here r q rs)
  where
    by : (b : Bool) → (x.me == r.me) ≡ b → (if b then Some x else found r.me rs) ≡ Some q → (found r.me rs ≡ Some q → found r.me (map (replaced r) rs) ≡ Some r) → found r.me (elim b as (λ _. Ring) [ true ↦ r | false ↦ x ] ∷ map (replaced r) rs) ≡ Some r
    by true z f rest = ap (λ c. if c then Some r else found r.me (map (replaced r) rs)) (same_self r.me)
    by false z f rest = ap (λ c. if c then Some x else found r.me (map (replaced r) rs)) z ∙ rest f

with_there : (r : Ring) (n : ℕ) (rs : List Ring) → (r.me ≡ n → ⊥) → found n (map (replaced r) rs) ≡ found n rs
with_there r n [] ne = refl
with_there r n (x ∷ rs) ne = by (x.me == r.me) refl (with_there r n rs ne)
  where
    by : (b : Bool) → (x.me == r.me) ≡ b → found n (map (replaced r) rs) ≡ found n rs → found n (elim b as (λ _. Ring) [ true ↦ r | false ↦ x ] ∷ map (replaced r) rs) ≡ found n (x ∷ rs)
    by true z rest =
        let off : (x.me == n) ≡ false = ap (λ m. m == n) (eqb-true x.me r.me z) ∙ no_same r.me n ne in
        ap (λ c. if c then Some r else found n (map (replaced r) rs)) (no_same r.me n ne) ∙ rest ∙ sym (ap (λ c. if c then Some x else found n rs) off)
    by false z rest = ap (λ o. if x.me == n then Some x else o) rest

-- who is found among those that did not stop was found before
stop_there : (m n : ℕ) (q : Ring) (rs : List Ring) → found n (filter (λ (r : Ring). not (r.me == m)) rs) ≡ Some q → (found n rs ≡ Some q) × (m ≡ n → ⊥)
stop_there m n q rs f = (back rs f, apart)
  where
    apart : m ≡ n → ⊥
    apart e =
        let h = find_has (λ (r : Ring). r.me == n) (filter (λ (r : Ring). not (r.me == m)) rs) q f in
        let k = has_filter (λ (r : Ring). not (r.me == m)) q rs h.0 in
        let z : (q.me == m) ≡ true = ap (λ y. q.me == y) e ∙ h.1 in
        not_both (not (q.me == m)) k.1 (ap not z)

    one : (x : Ring) (ys zs : List Ring) → (b c : Bool) → (x.me == m) ≡ b → (x.me == n) ≡ c → (found n ys ≡ Some q → found n zs ≡ Some q) → found n (if not b then x ∷ ys else ys) ≡ Some q → (if c then Some x else found n zs) ≡ Some q
    one x ys zs true true z y rest g = absurd (apart (sym (eqb-true x.me m z) ∙ eqb-true x.me n y))
    one x ys zs true false z y rest g = rest g
    one x ys zs false true z y rest g = sym (ap (λ c. if c then Some x else found n ys) y) ∙ g
    one x ys zs false false z y rest g = rest (sym (ap (λ c. if c then Some x else found n ys) y) ∙ g)

    back : (rs : List Ring) → found n (filter (λ (r : Ring). not (r.me == m)) rs) ≡ Some q → found n rs ≡ Some q
    back [] g = g
    back (x ∷ rs) g = one x (filter (λ (r : Ring). not (r.me == m)) rs) rs (x.me == m) (x.me == n) refl refl (back rs) g

found_me : (n : ℕ) (r : Ring) (rs : List Ring) → found n rs ≡ Some r → r.me ≡ n
found_me n r rs e = eqb-true r.me n (find_has (λ (r : Ring). r.me == n) rs r e).1

-- what is given is no tick
no_tick : (x : Sent) → Packet x.from x.inc x.packet ≡ Tick → ⊥
no_tick x e = cc

-- ---- all rings of a network are what came to them makes of them

module _ (net : ℕ) (s : RingSettings) where
  abbrev IsLife : ℕ → Ring → List RingEvent → Type 0
  IsLife n r es = (inc : ℕ) × (r ≡ after (ring_new net n inc s) es)

  abbrev Alive : Network → (ℕ → List RingEvent) → Type 0
  Alive v lives = (n : ℕ) (r : Ring) → found n v.rings ≡ Some r → IsLife n r (lives n)

  is_more : (n : ℕ) (r : Ring) (es fs : List RingEvent) → fs ≡ es → IsLife n r es → IsLife n r fs
  is_more n r es fs e k = (k.0, k.1 ∙ ap (after (ring_new net n k.0 s)) (sym e))

  stays_me : (q : Ring) (e : RingEvent) → (ring_step q e).ring.me ≡ q.me
  stays_me q e = (step_fair q e q.silent (omega arith)).me

  -- an event comes to node m, where it is up
  alive_step : (v : Network) (old new : ℕ → List RingEvent) (m : ℕ) (e : RingEvent) → new m ≡ e ∷ old m → ((n : ℕ) → (m ≡ n → ⊥) → new n ≡ old n) → Alive v old → Alive (stepped_in v e (found m v.rings)) new
  unfolding stepped_in step_taken with_ring
  alive_step v old new m e own others k = by (found m v.rings) refl
    where
      apart : (n : ℕ) → (m == n) ≡ false → m ≡ n → ⊥
      apart n z q = not_both (m == n) (eq-eqb m n q) z

      by : (o : Option Ring) → found m v.rings ≡ o → Alive (stepped_in v e o) new
      by None f n r g = at (m == n) refl
        where
          at : (b : Bool) → (m == n) ≡ b → IsLife n r (new n)
          at true z =
              absurd (let q : None ≡ Some r = sym f ∙ ap (λ y. found y v.rings) (eqb-true m n z) ∙ g in cc)
          at false z = is_more n r (old n) (new n) (others n (apart n z)) (k n r g)
      by (Some q) f n r g = at (m == n) refl
        where
          x : RingWork
          x = ring_step q e

          me : x.ring.me ≡ m
          me = stays_me q e ∙ found_me m q v.rings f

          was : IsLife m q (old m)
          was = k m q f

          here : found m (map (replaced x.ring) v.rings) ≡ Some x.ring
          here =
              subst (λ y. found y (map (replaced x.ring) v.rings) ≡ Some x.ring) me (with_here x.ring q v.rings (ap (λ y. found y v.rings) me ∙ f))

          at : (b : Bool) → (m == n) ≡ b → IsLife n r (new n)
          at true z =
              let y : m ≡ n = eqb-true m n z in
              let p : Some x.ring ≡ Some r = sym here ∙ ap (λ i. found i (map (replaced x.ring) v.rings)) y ∙ g in
              let same : x.ring ≡ r = cc in
              let now : r ≡ after (ring_new net m was.0 s) (new m) = sym same ∙ ap (λ (z : Ring). (ring_step z e).ring) was.1 ∙ ap (after (ring_new net m was.0 s)) (sym own) in
              subst (λ i. IsLife i r (new i)) y (was.0, now)
          at false z =
              is_more n r (old n) (new n) (others n (apart n z)) (k n r (sym (with_there x.ring n v.rings (λ y. apart n z (sym me ∙ y))) ∙ g))

  -- what it sends is sent by the node's ring
  record Sends (v : Network) (m : ℕ) (e : RingEvent) (x : Sent) : Type 0 where
    ring : Ring
    up : found m v.rings ≡ Some ring
    send : RingSend
    there : Has send (ring_step ring e).sends
    from : x.from ≡ m
    packet : x.packet ≡ send.packet

  sent_step : (v : Network) (m : ℕ) (e : RingEvent) (x : Sent) → Has x (stepped_in v e (found m v.rings)).sent → Has x v.sent ⊎ Sends v m e x
  unfolding stepped_in step_taken sent_by
  sent_step v m e x = by (found m v.rings) refl
    where
      by : (o : Option Ring) → found m v.rings ≡ o → Has x (stepped_in v e o).sent → Has x v.sent ⊎ Sends v m e x
      by None f i = inl i
      by (Some q) f i = at (has_append x v.sent (map (sent_by (ring_step q e).ring) (ring_step q e).sends) i)
        where
          at : Has x v.sent ⊎ Has x (map (sent_by (ring_step q e).ring) (ring_step q e).sends) → Has x v.sent ⊎ Sends v m e x
          at (inl j) = inl j
          at (inr j) =
              let y = has_map (sent_by (ring_step q e).ring) x (ring_step q e).sends j in
              inr (record { ring = q; up = f; send = y.0; there = y.1; from = ap (λ (z : Sent). z.from) y.2 ∙ stays_me q e ∙ found_me m q v.rings f; packet = ap (λ (z : Sent). z.packet) y.2 })

  -- ---- a happening

  abbrev Deaths : List Happening → List Sent → Type 0
  Deaths hs xs = (x : Sent) (id : RingId) (d : ℕ) → Has x xs → x.packet ≡ Death id d → WasSilent net s hs x.from id d

  pub record Rings (hs : List Happening) : Type 0 where
    pub net_is : (network net s hs).net ≡ net
    pub settings : (network net s hs).settings ≡ s
    pub alive : Alive (network net s hs) (life net s hs)
    pub deaths : Deaths hs (network net s hs).sent

  was_more : (h : Happening) (hs : List Happening) (n : ℕ) (id : RingId) (d : ℕ) → WasSilent net s hs n id d → WasSilent net s (h ∷ hs) n id d
  was_more h hs n id d k =
      record { later = h ∷ k.later; front = k.front; moment = ap (λ z. h ∷ z) k.moment; inc = k.inc; missed = k.missed; of = k.of }

  module _ (hs : List Happening) (k : Rings hs) where
    abbrev w : Network
    w = network net s hs

    -- a death that is sent as an event comes to a node
    new_death : (h : Happening) (m : ℕ) (e : RingEvent) (x : Sent) (id : RingId) (d : ℕ) → (e ≡ Tick → h ≡ Ticks m) → Sends w m e x → x.packet ≡ Death id d → WasSilent net s (h ∷ hs) x.from id d
    new_death h m e x id d ticks z is =
        let was : IsLife m z.ring (life net s hs m) = k.alive m z.ring z.up in
        let r0 : Ring = ring_new net m was.0 s in
        let es : List RingEvent = life net s hs m in
        let f : Fair (after r0 es) e (silence r0 es) (ring_step (after r0 es) e) = step_fair (after r0 es) e (silence r0 es) (low r0 (new_silent net m was.0 s) es) in
        let may : MayBeSent (after r0 es) e (silence r0 es) z.send.packet = f.sends z.send (subst (λ (y : Ring). Has z.send (ring_step y e).sends) was.1 z.there) in
        let dead : IsMissed (after r0 es) e (silence r0 es) d × (id ≡ (after r0 es).id) = subst (MayBeSent (after r0 es) e (silence r0 es)) (sym z.packet ∙ is) may in
        let tick : e ≡ Tick = dead.0.silent.tick in
        subst (λ n. WasSilent net s (h ∷ hs) n id d) (sym z.from) (record { later = []; front = hs; moment = ap (λ y. y ∷ hs) (ticks tick); inc = was.0; missed = subst (λ y. IsMissed (after r0 es) y (silence r0 es) d) tick dead.0; of = dead.1 })

    -- an event comes to node m
    comes : (h : Happening) (m : ℕ) (e : RingEvent) → happens w h ≡ stepped_in w e (found m w.rings) → life net s (h ∷ hs) m ≡ e ∷ life net s hs m → ((n : ℕ) → (m ≡ n → ⊥) → life net s (h ∷ hs) n ≡ life net s hs n) → (e ≡ Tick → h ≡ Ticks m) → Rings (h ∷ hs)
    unfolding stepped_in step_taken
    comes h m e is own others ticks =
        record {
          net_is = ap (λ (z : Network). z.net) is ∙ step_net (found m w.rings) ∙ k.net_is;
          settings = ap (λ (z : Network). z.settings) is ∙ step_settings (found m w.rings) ∙ k.settings;
          alive = subst (λ z. Alive z (life net s (h ∷ hs))) (sym is) (alive_step w (life net s hs) (life net s (h ∷ hs)) m e own others k.alive);
          deaths = λ x id d i p. by x id d p (sent_step w m e x (subst (λ (z : Network). Has x z.sent) is i));
        }
      where
        step_net : (o : Option Ring) → (stepped_in w e o).net ≡ w.net
        step_net None = refl
        step_net (Some q) = refl

        step_settings : (o : Option Ring) → (stepped_in w e o).settings ≡ w.settings
        step_settings None = refl
        step_settings (Some q) = refl

        by : (x : Sent) (id : RingId) (d : ℕ) → x.packet ≡ Death id d → Has x w.sent ⊎ Sends w m e x → WasSilent net s (h ∷ hs) x.from id d
        by x id d p (inl i) = was_more h hs x.from id d (k.deaths x id d i p)
        by x id d p (inr z) = new_death h m e x id d ticks z p

    -- nothing comes to anybody
    quietly : (h : Happening) → happens w h ≡ w → ((n : ℕ) → life net s (h ∷ hs) n ≡ life net s hs n) → Rings (h ∷ hs)
    quietly h is same =
        record {
          net_is = ap (λ (z : Network). z.net) is ∙ k.net_is;
          settings = ap (λ (z : Network). z.settings) is ∙ k.settings;
          alive = λ n r f. is_more n r (life net s hs n) (life net s (h ∷ hs) n) (same n) (k.alive n r (ap (λ (z : Network). found n z.rings) (sym is) ∙ f));
          deaths = λ x id d i p. was_more h hs x.from id d (k.deaths x id d (subst (λ (z : Network). Has x z.sent) is i) p);
        }

    ticked : (m : ℕ) → Rings (Ticks m ∷ hs)
    unfolding happens ring_at stepped_in step_taken
    ticked m =
        comes (Ticks m) m Tick refl (ap (λ b. with_event (if b then Some Tick else None) (life net s hs m)) (same_self m)) (λ n ne. ap (λ b. with_event (if b then Some Tick else None) (life net s hs n)) (no_same m n ne)) (λ e. refl)

    given : (i : ℕ) → Rings (Given i ∷ hs)
    unfolding happens given_in ring_at stepped_in step_taken
    given i = by (slice_get w.sent i) refl
      where
        by : (o : Option Sent) → slice_get w.sent i ≡ o → Rings (Given i ∷ hs)
        by None q = quietly (Given i) (ap (given_in w) q) (λ n. ap (λ o. with_event (given_to n o) (life net s hs n)) q)
        by (Some x) q =
            comes (Given i) x.to (Packet x.from x.inc x.packet) (ap (given_in w) q) (ap (λ o. with_event (given_to x.to o) (life net s hs x.to)) q ∙ ap (λ b. with_event (if b then Some (Packet x.from x.inc x.packet) else None) (life net s hs x.to)) (same_self x.to)) (λ n ne. ap (λ o. with_event (given_to n o) (life net s hs n)) q ∙ ap (λ b. with_event (if b then Some (Packet x.from x.inc x.packet) else None) (life net s hs n)) (no_same x.to n ne)) (λ e. absurd (no_tick x e))

    stopped : (m : ℕ) → Rings (Stops m ∷ hs)
    unfolding happens
    stopped m =
        record { net_is = k.net_is; settings = k.settings; alive = λ n r f. k.alive n r (stop_there m n r w.rings f).0; deaths = λ x id d i p. was_more (Stops m) hs x.from id d (k.deaths x id d i p) }

    started : (m inc : ℕ) → Rings (Starts m inc ∷ hs)
    unfolding happens ring_started ring_new
    started m inc = by (may_start w m inc) refl
      where
        own : Ring
        own = ring_new w.net m inc w.settings

        none : (n : ℕ) (b : Bool) → b ≡ false → (if b then [] else life net s hs n) ≡ life net s hs n
        none n b e = ap (λ c. if c then [] else life net s hs n) e

        by : (b : Bool) → may_start w m inc ≡ b → Rings (Starts m inc ∷ hs)
        by false q =
            quietly (Starts m inc) (ap (λ c. elim c as (λ _. Network) [ true ↦ ring_started w own | false ↦ w ]) q) (λ n. none n (m == n && may_start w m inc) (ap (λ c. m == n && c) q ∙ and_false (m == n)))
          where
            and_false : (b : Bool) → (b && false) ≡ false
            and_false true = refl
            and_false false = refl
        by true q =
            record {
              net_is = ap (λ (z : Network). z.net) is ∙ k.net_is;
              settings = ap (λ (z : Network). z.settings) is ∙ k.settings;
              alive = λ n r f. at n r (m == n) refl (ap (λ (z : Network). found n z.rings) (sym is) ∙ f);
              deaths = λ x id d i p. was_more (Starts m inc) hs x.from id d (k.deaths x id d (subst (λ (z : Network). Has x z.sent) is i) p);
            }
          where
            is : happens w (Starts m inc) ≡ ring_started w own
            is = ap (λ c. elim c as (λ _. Network) [ true ↦ ring_started w own | false ↦ w ]) q

            at : (n : ℕ) (r : Ring) (b : Bool) → (m == n) ≡ b → (if m == n then Some own else found n w.rings) ≡ Some r → IsLife n r (if m == n && may_start w m inc then [] else life net s hs n)
            at n r true z f =
                let here : Some own ≡ Some r = sym (ap (λ c. if c then Some own else found n w.rings) z) ∙ f in
                let same : own ≡ r = cc in
                let fresh : own ≡ ring_new net n inc s = λ i. ring_new (k.net_is i) (eqb-true m n z i) inc (k.settings i) in
                is_more n r [] (if m == n && may_start w m inc then [] else life net s hs n) (λ i. if z i && q i then [] else life net s hs n) (inc, sym same ∙ fresh)
            at n r false z f =
                is_more n r (life net s hs n) (if m == n && may_start w m inc then [] else life net s hs n) (λ i. if z i && may_start w m inc then [] else life net s hs n) (k.alive n r (sym (ap (λ c. if c then Some own else found n w.rings) z) ∙ f))

    next : (h : Happening) → Rings (h ∷ hs)
    next (Starts m inc) = started m inc
    next (Stops m) = stopped m
    next (Ticks m) = ticked m
    next (Given i) = given i

  nothing : Rings []
  unfolding quiet
  nothing = record { net_is = refl; settings = refl; alive = λ n r f. absurd cc; deaths = λ x id d i p. absurd i }

  rings : (hs : List Happening) → Rings hs
  rings [] = nothing
  rings (h ∷ hs) = next hs (rings hs) h

pub deaths_are_of_the_silent : DeathsAreOfTheSilent
deaths_are_of_the_silent net s hs x id d i is = (rings net s hs).deaths x id d i is
