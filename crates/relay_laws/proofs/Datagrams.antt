-- What holds of all datagrams, where it holds of each as it leaves a node.
use Rattle.std.proofs.Common.{◌≡◌, ◌⊎◌, ◌==◌, ◌&&◌, ◌-◌, ℕ, Bool, true, false, List, [], ◌∷◌, length, Option, Some, None, refl, sym, ◌∙◌, subst, inl, inr, ⊎_elim}
use Rattle.std.specs.Prelude.{find, fold, take, nat_lt, nat_le, slice_get}
use Rattle.std.proofs.lemmas.Bool.{eqb-true, and_parts}
use Rattle.rsct_packet.specs.Lists.{reverse_onto}
use Rattle.rsct_packet.specs.Search.{Has}
use Rattle.rsct_packet.proofs.HasLaws.{has_take, get_has, find_has}
use Rattle.node_state.specs.declared.packet.Packet.{Packet}
use Rattle.world_model.specs.World.{World}
use Rattle.world_model.specs.Kept.{sent_since}
use Rattle.relay_model.specs.Leaving.{Parcel, Leaving}
use Rattle.relay_model.specs.Relays.{Pair, Relayed, is_pair, pair_with, pairs_with, leaves, datagram_in, datagram_between, leaving_in, leaves_if, sends, settled}
use Rattle.relay_laws.specs.Carrying.{EachDatagram}

-- ---- what an event sent

has_turned : {A : Type 0} (x : A) (xs ys : List A) → Has x (reverse_onto xs ys) → Has x xs ⊎ Has x ys
has_turned x [] ys h = inr h
has_turned {A} x (y ∷ xs) ys h = ⊎_elim (λ (a : Has x xs). inl (inr a)) (λ (b : Has x (y ∷ ys)). by b) (has_turned x xs (y ∷ ys) h)
  where
    by : Has x (y ∷ ys) → Has x (y ∷ xs) ⊎ Has x ys
    by (inl e) = inl (inl e)
    by (inr k) = inr k

since_sent : (old new : World) (p : Packet) → Has p (sent_since old new) → Has p new.sent
unfolding sent_since
since_sent old new p h =
    let n : ℕ = length new.sent - length old.sent in
    ⊎_elim (λ (a : Has p (take n new.sent)). has_take n new.sent p a) (λ (b : Has p []). absurd b) (has_turned p (take n new.sent) [] h)

-- ---- each datagram

module _ (P : ℕ → ℕ → Parcel → Type 0) where
  at_pair : (a b : ℕ) (d : Parcel) (y : Pair) → is_pair a b y ≡ true → P a b d → P y.from y.to d
  unfolding is_pair
  at_pair a b d y e h =
      let two = and_parts (y.from == a) (y.to == b) e in
      subst (λ n. P n y.to d) (sym (eqb-true y.from a two.0)) (subst (λ n. P a n d) (sym (eqb-true y.to b two.1)) h)

  of_pair : (a b : ℕ) (d : Parcel) (y : Pair) → is_pair a b y ≡ true → P y.from y.to d → P a b d
  unfolding is_pair
  of_pair a b d y e h =
      let two = and_parts (y.from == a) (y.to == b) e in
      subst (λ n. P n b d) (eqb-true y.from a two.0) (subst (λ n. P y.from n d) (eqb-true y.to b two.1) h)

  pairs_hold : (a b : ℕ) (d : Parcel) → P a b d → (ys : List Pair) → EachDatagram P ys → EachDatagram P (pairs_with a b d ys)
  unfolding pairs_with pair_with
  pairs_hold a b d c [] old = only
    where
      only : EachDatagram P (record { from = a; to = b; count = 1; parcels = d ∷ [] } ∷ [])
      only x (inl e) g h = here g (subst (λ (z : Pair). Has g z.parcels) e h)
        where
          here : (g : Parcel) → Has g (d ∷ []) → P x.from x.to g
          here g (inl i) = subst (λ (z : Pair). P z.from z.to g) (sym e) (subst (P a b) (sym i) c)
          here g (inr i) = absurd i
      only x (inr z) g h = absurd z
  pairs_hold a b d c (y ∷ ys) old = by (is_pair a b y) refl (pairs_hold a b d c ys (λ x i. old x (inr i)))
    where
      more : is_pair a b y ≡ true → (g : Parcel) → Has g (d ∷ y.parcels) → P y.from y.to g
      more e g (inl i) = subst (P y.from y.to) (sym i) (at_pair a b d y e c)
      more e g (inr i) = old y (inl refl) g i

      by : (t : Bool) → is_pair a b y ≡ t → EachDatagram P (pairs_with a b d ys) → EachDatagram P (elim t [ true ↦ pair_with d y ∷ ys | false ↦ y ∷ pairs_with a b d ys ])
      by true e rest x (inl i) g h = subst (λ (z : Pair). P z.from z.to g) (sym i) (more e g (subst (λ (z : Pair). Has g z.parcels) i h))
      by true e rest x (inr i) g h = old x (inr i) g h
      by false e rest x (inl i) g h = old x (inl i) g h
      by false e rest x (inr i) g h = rest x i g h

  -- as it leaves a node
  pub leaves_hold : (r : Relayed) (d : Leaving) → EachDatagram P r.pairs → P d.from d.to d.parcel → EachDatagram P (leaves r d).pairs
  unfolding leaves
  leaves_hold r d k c = pairs_hold d.from d.to d.parcel c r.pairs k

  if_hold : (r : Relayed) (o : Option Leaving) → EachDatagram P r.pairs → ((d : Leaving) → o ≡ Some d → P d.from d.to d.parcel) → EachDatagram P (leaves_if r o).pairs
  if_hold r None k each = k
  if_hold r (Some d) k each = leaves_hold r d k (each d refl)

  abbrev Fits : World → Packet → Type 0
  Fits w p = (d : Leaving) → leaving_in w p ≡ Some d → P d.from d.to d.parcel

  all_hold : (w : World) (ps : List Packet) (r : Relayed) → EachDatagram P r.pairs → ((p : Packet) → Has p ps → Fits w p) → EachDatagram P (fold (sends w) r ps).pairs
  unfolding sends
  all_hold w [] r k each = k
  all_hold w (p ∷ ps) r k each = all_hold w ps (leaves_if r (leaving_in w p)) (if_hold r (leaving_in w p) k (each p (inl refl))) (λ q h. each q (inr h))

  -- what an event sent goes out
  pub settled_hold : (r : Relayed) (w : World) → EachDatagram P r.pairs → ((p : Packet) → Has p w.sent → Fits w p) → EachDatagram P (settled r w).pairs
  unfolding settled
  settled_hold r w k each = all_hold w (sent_since r.world w) (record r { world = w }) k (λ p h. each p (since_sent r.world w p h))

  kth_holds : (k : ℕ) (y : Pair) → ((d : Parcel) → Has d y.parcels → P y.from y.to d) → (d : Parcel) → datagram_in k (Some y) ≡ Some d → P y.from y.to d
  unfolding datagram_in
  kth_holds k y old d e = by (nat_lt 0 k && nat_le k y.count) e
    where
      by : (b : Bool) → elim b [ true ↦ slice_get y.parcels (y.count - k) | false ↦ None ] ≡ Some d → P y.from y.to d
      by true e = old d (get_has y.parcels (y.count - k) d e)
      by false e = absurd (cc)

  kth_in : (pairs : List Pair) (a b k : ℕ) → EachDatagram P pairs → (o : Option Pair) → find (is_pair a b) pairs ≡ o → (d : Parcel) → datagram_in k o ≡ Some d → P a b d
  unfolding datagram_in
  kth_in pairs a b k each None f d e = absurd (cc)
  kth_in pairs a b k each (Some y) f d e =
      let h = find_has (is_pair a b) pairs y f in
      of_pair a b d y h.1 (kth_holds k y (each y h.0) d e)

  -- the one of a number is one of those
  pub datagram_holds : (r : Relayed) (a b k : ℕ) → EachDatagram P r.pairs → (d : Parcel) → datagram_between r a b k ≡ Some d → P a b d
  unfolding datagram_between
  datagram_holds r a b k each d e = kth_in r.pairs a b k each (find (is_pair a b) r.pairs) refl d e
