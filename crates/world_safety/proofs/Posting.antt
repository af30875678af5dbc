-- Packets that are sent: what else stays in the world, and what holds of each packet there.
use Rattle.std.proofs.Common.{◌≡◌, ℕ, List, [], ◌∷◌, Bool, true, false, Option, Some, None, refl, sym, subst, inl, inr}
use Rattle.std.specs.Prelude.{◌-◌, ◌&&◌, find, fold, nat_lt, nat_le, slice_get}
use Rattle.rsct_packet.specs.Search.{Has}
use Rattle.rsct_packet.proofs.HasLaws.{find_has, get_has}
use Rattle.node_state.specs.declared.packet.Packet.{Packet}
use Rattle.world_model.specs.World.{Pair, World, is_pair, pair_with, pairs_with, posted, kth_in, kth_between}

pub posted_config : (ps : List Packet) (w : World) → (fold posted w ps).config ≡ w.config
unfolding posted
posted_config [] w = refl
posted_config (p ∷ ps) w = posted_config ps (posted w p)

pub posted_nodes : (ps : List Packet) (w : World) → (fold posted w ps).nodes ≡ w.nodes
unfolding posted
posted_nodes [] w = refl
posted_nodes (p ∷ ps) w = posted_nodes ps (posted w p)

pub posted_starts : (ps : List Packet) (w : World) → (fold posted w ps).starts ≡ w.starts
unfolding posted
posted_starts [] w = refl
posted_starts (p ∷ ps) w = posted_starts ps (posted w p)

-- what was sent before stays sent, and what is sent is
pub posted_more : (ps : List Packet) (w : World) (p : Packet) → Has p w.sent → Has p (fold posted w ps).sent
unfolding posted
posted_more [] w p h = h
posted_more (q ∷ ps) w p h = posted_more ps (posted w q) p (inr h)

pub posted_new : (ps : List Packet) (w : World) (p : Packet) → Has p ps → Has p (fold posted w ps).sent
unfolding posted
posted_new [] w p h = absurd h
posted_new (q ∷ ps) w p (inl e) = posted_more ps (posted w q) p (inl e)
posted_new (q ∷ ps) w p (inr h) = posted_new ps (posted w q) p h

-- what holds of each packet between two nodes
abbrev pub OfPairs : (Packet → Type 0) → List Pair → Type 0
OfPairs K pairs = (x : Pair) → Has x pairs → (p : Packet) → Has p x.packets → K p

module _ (K : Packet → Type 0) where
  one_more : (p : Packet) → K p → (qs : List Packet) → ((q : Packet) → Has q qs → K q) → (q : Packet) → Has q (p ∷ qs) → K q
  one_more p k qs old q (inl e) = subst K (sym e) k
  one_more p k qs old q (inr h) = old q h

  pair_holds : (p : Packet) → K p → (y : Pair) → ((q : Packet) → Has q y.packets → K q) → (x : Pair) → x ≡ pair_with p y → (q : Packet) → Has q x.packets → K q
  unfolding pair_with
  pair_holds p k y old x e q h = one_more p k y.packets old q (subst (λ (z : Pair). Has q z.packets) e h)

  pairs_hold : (p : Packet) → K p → (ys : List Pair) → OfPairs K ys → OfPairs K (pairs_with p ys)
  unfolding pairs_with
  pairs_hold p k [] old = only
    where
      only : OfPairs K (record { from = p.from; to = p.to; count = 1; packets = p ∷ [] } ∷ [])
      only x (inl e) q h = one_more p k [] (λ q h. absurd h) q (subst (λ (z : Pair). Has q z.packets) e h)
      only x (inr z) q h = absurd z
  pairs_hold p k (y ∷ ys) old = by (is_pair p.from p.to y) (pairs_hold p k ys (λ x i. old x (inr i)))
    where
      by : (b : Bool) → OfPairs K (pairs_with p ys) → OfPairs K (elim b [ true ↦ pair_with p y ∷ ys | false ↦ y ∷ pairs_with p ys ])
      by true rest x (inl e) q h = pair_holds p k y (old y (inl refl)) x e q h
      by true rest x (inr i) q h = old x (inr i) q h
      by false rest x (inl e) q h = old x (inl e) q h
      by false rest x (inr i) q h = rest x i q h

  pub posted_sent : (ps : List Packet) (w : World) → ((p : Packet) → Has p ps → K p) → ((p : Packet) → Has p w.sent → K p) → (p : Packet) → Has p (fold posted w ps).sent → K p
  unfolding posted
  posted_sent [] w new old p h = old p h
  posted_sent (q ∷ ps) w new old p h = posted_sent ps (posted w q) (λ p i. new p (inr i)) (one_more q (new q (inl refl)) w.sent old) p h

  pub posted_pairs : (ps : List Packet) (w : World) → ((p : Packet) → Has p ps → K p) → OfPairs K w.pairs → OfPairs K (fold posted w ps).pairs
  unfolding posted
  posted_pairs [] w new old = old
  posted_pairs (q ∷ ps) w new old = posted_pairs ps (posted w q) (λ p i. new p (inr i)) (pairs_hold q (new q (inl refl)) w.pairs old)

  kth_holds : (k : ℕ) (y : Pair) → ((p : Packet) → Has p y.packets → K p) → (p : Packet) → kth_in k (Some y) ≡ Some p → K p
  unfolding kth_in
  kth_holds k y old p e = by (nat_lt 0 k && nat_le k y.count) e
    where
      by : (b : Bool) → elim b [ true ↦ slice_get y.packets (y.count - k) | false ↦ None ] ≡ Some p → K p
      by true e = old p (get_has y.packets (y.count - k) p e)
      by false e = absurd (cc)

  kth_of : (k : ℕ) (ys : List Pair) → OfPairs K ys → (test : Pair → Bool) (p : Packet) (o : Option Pair) → find test ys ≡ o → kth_in k o ≡ Some p → K p
  unfolding kth_in
  kth_of k ys old test p None f e = absurd (cc)
  kth_of k ys old test p (Some y) f e = kth_holds k y (old y (find_has test ys y f).0) p e

  -- the k-th packet from one node to another
  pub kth_is : (w : World) (a b k : ℕ) (p : Packet) → OfPairs K w.pairs → kth_between w a b k ≡ Some p → K p
  unfolding kth_between
  kth_is w a b k p old e = kth_of k w.pairs old (is_pair a b) p (find (is_pair a b) w.pairs) refl e
