-- Each packet that was sent is one of those from its sender to its receiver, and has a number there.
use Rattle.std.proofs.Common.{◌≡◌, ◌<◌, ◌-◌, ℕ, List, [], ◌∷◌, length, Bool, true, false, Some, None, refl, sym, ap, ◌∙◌, subst, inl, inr, arith}
use Rattle.std.specs.Prelude.{◌==◌, ◌&&◌, find, fold, nat_lt, nat_le, slice_get}
use Rattle.std.proofs.lemmas.Bool.{eq-eqb, le-leb, lt-ltb}
use Rattle.rsct_packet.specs.Search.{Has}
use Rattle.rsct_packet.proofs.HasLaws.{find_has, has_get}
use Rattle.rsct_packet.proofs.FieldLaws.{both_true}
use Rattle.node_state.specs.declared.packet.Packet.{Packet}
use Rattle.world_model.specs.World.{Pair, World, is_pair, pair_with, pairs_with, posted, kth_in, kth_between}
use Rattle.world_safety.proofs.Finding.{head_passes, head_fails}

-- each pair counts its packets
abbrev pub AreCounted : List Pair → Type 0
AreCounted pairs = (x : Pair) → Has x pairs → x.count ≡ length x.packets

-- a packet stands in the pair of its sender and receiver
abbrev pub IsPaired : Packet → List Pair → Type 0
IsPaired p pairs = (x : Pair) × (find (is_pair p.from p.to) pairs ≡ Some x) × Has p x.packets

pub record AllPaired (w : World) : Type 0 where
  pub counted : AreCounted w.pairs
  pub paired : (p : Packet) → Has p w.sent → IsPaired p w.pairs

-- ---- one more is sent

abbrev first_pair : Packet → Pair
first_pair p = record { from = p.from; to = p.to; count = 1; packets = p ∷ [] }

own_pair : (p : Packet) → is_pair p.from p.to (first_pair p) ≡ true
unfolding is_pair
own_pair p = ap (λ b. b && (p.to == p.to)) (eq-eqb p.from p.from refl) ∙ eq-eqb p.to p.to refl

same_pair : (a b : ℕ) (p : Packet) (x : Pair) → is_pair a b (pair_with p x) ≡ is_pair a b x
unfolding is_pair pair_with
same_pair a b p x = refl

has_more : (p : Packet) (x : Pair) (q : Packet) → Has q x.packets → Has q (pair_with p x).packets
unfolding pair_with
has_more p x q h = inr h

has_itself : (p : Packet) (x : Pair) → Has p (pair_with p x).packets
unfolding pair_with
has_itself p x = inl refl

one_counted : (p : Packet) (x : Pair) → x.count ≡ length x.packets → (pair_with p x).count ≡ length (pair_with p x).packets
unfolding pair_with
one_counted p x e = omega (arith, e)

with_counted : (p : Packet) (ys : List Pair) → AreCounted ys → AreCounted (pairs_with p ys)
unfolding pairs_with
with_counted p [] old = only
  where
    only : AreCounted (first_pair p ∷ [])
    only x (inl e) = subst (λ (z : Pair). z.count ≡ length z.packets) (sym e) refl
    only x (inr h) = absurd h
with_counted p (y ∷ ys) old = by (is_pair p.from p.to y) (with_counted p ys (λ x h. old x (inr h)))
  where
    by : (b : Bool) → AreCounted (pairs_with p ys) → AreCounted (elim b [ true ↦ pair_with p y ∷ ys | false ↦ y ∷ pairs_with p ys ])
    by true rest x (inl e) = subst (λ (z : Pair). z.count ≡ length z.packets) (sym e) (one_counted p y (old y (inl refl)))
    by true rest x (inr h) = old x (inr h)
    by false rest x (inl e) = old x (inl e)
    by false rest x (inr h) = rest x h

new_paired : (p : Packet) (ys : List Pair) → IsPaired p (pairs_with p ys)
unfolding pairs_with
new_paired p [] = (first_pair p, head_passes (is_pair p.from p.to) (first_pair p) [] (own_pair p), inl refl)
new_paired p (y ∷ ys) = by (is_pair p.from p.to y) refl (new_paired p ys)
  where
    by : (b : Bool) → is_pair p.from p.to y ≡ b → IsPaired p (pairs_with p ys) → IsPaired p (elim b [ true ↦ pair_with p y ∷ ys | false ↦ y ∷ pairs_with p ys ])
    by true e rest = (pair_with p y, head_passes (is_pair p.from p.to) (pair_with p y) ys (same_pair p.from p.to p y ∙ e), has_itself p y)
    by false e rest = (rest.0, head_fails (is_pair p.from p.to) y (pairs_with p ys) e ∙ rest.1, rest.2)

old_paired : (q p : Packet) (ys : List Pair) → IsPaired p ys → IsPaired p (pairs_with q ys)
unfolding pairs_with
old_paired q p [] h = absurd (let e : None ≡ Some h.0 = h.1 in cc)
old_paired q p (y ∷ ys) h = here (is_pair p.from p.to y) refl (is_pair q.from q.to y) h (old_paired q p ys)
  where
    here : (b : Bool) → is_pair p.from p.to y ≡ b → (d : Bool) → IsPaired p (y ∷ ys) → (IsPaired p ys → IsPaired p (pairs_with q ys)) → IsPaired p (elim d [ true ↦ pair_with q y ∷ ys | false ↦ y ∷ pairs_with q ys ])
    here true e true h rest =
        let is : y ≡ h.0 = (let f : Some y ≡ Some h.0 = sym (head_passes (is_pair p.from p.to) y ys e) ∙ h.1 in cc) in
        (pair_with q y, head_passes (is_pair p.from p.to) (pair_with q y) ys (same_pair p.from p.to q y ∙ e), has_more q y p (subst (λ (z : Pair). Has p z.packets) (sym is) h.2))
    here true e false h rest = (h.0, head_passes (is_pair p.from p.to) y (pairs_with q ys) e ∙ sym (head_passes (is_pair p.from p.to) y ys e) ∙ h.1, h.2)
    here false e true h rest =
        (h.0, head_fails (is_pair p.from p.to) (pair_with q y) ys (same_pair p.from p.to q y ∙ e) ∙ sym (head_fails (is_pair p.from p.to) y ys e) ∙ h.1, h.2)
    here false e false h rest =
        let r = rest (h.0, sym (head_fails (is_pair p.from p.to) y ys e) ∙ h.1, h.2) in
        (r.0, head_fails (is_pair p.from p.to) y (pairs_with q ys) e ∙ r.1, r.2)

pub posted_paired : (ps : List Packet) (w : World) → AllPaired w → AllPaired (fold posted w ps)
unfolding posted
posted_paired [] w k = k
posted_paired (p ∷ ps) w k = posted_paired ps (posted w p) (record { counted = with_counted p w.pairs k.counted; paired = each })
  where
    each : (q : Packet) → Has q (p ∷ w.sent) → IsPaired q (pairs_with p w.pairs)
    each q (inl e) = subst (λ (z : Packet). IsPaired z (pairs_with p w.pairs)) (sym e) (new_paired p w.pairs)
    each q (inr h) = old_paired p q w.pairs (k.paired q h)

-- ---- its number

got : (xs : List Packet) (p : Packet) (b : Bool) (i j : ℕ) → b ≡ true → i ≡ j → slice_get xs j ≡ Some p → elim b [ true ↦ slice_get xs i | false ↦ None ] ≡ Some p
got xs p true i j e f g = ap (slice_get xs) f ∙ g
got xs p false i j e f g = absurd (cc)

numbered : (p : Packet) (x : Pair) → x.count ≡ length x.packets → Has p x.packets → (k : ℕ) × (kth_in k (Some x) ≡ Some p)
unfolding kth_in
numbered p x counted h =
    let r = has_get p x.packets h in
    let lt : r.0 < length x.packets = r.1 in
    let low : nat_lt 0 (x.count - r.0) ≡ true = lt-ltb 0 (x.count - r.0) (omega (arith, lt, counted)) in
    let high : nat_le (x.count - r.0) x.count ≡ true = le-leb (x.count - r.0) x.count (omega arith) in
    let back : x.count - (x.count - r.0) ≡ r.0 = omega (arith, lt, counted) in
    (x.count - r.0, got x.packets p (nat_lt 0 (x.count - r.0) && nat_le (x.count - r.0) x.count) (x.count - (x.count - r.0)) r.0 (both_true (nat_lt 0 (x.count - r.0)) (nat_le (x.count - r.0) x.count) low high) back r.2)

pub kth_found : (w : World) → AllPaired w → (p : Packet) → Has p w.sent → (k : ℕ) × (kth_between w p.from p.to k ≡ Some p)
unfolding kth_between
kth_found w all p h =
    let x = all.paired p h in
    let counted : x.0.count ≡ length x.0.packets = all.counted x.0 (find_has (is_pair p.from p.to) w.pairs x.0 x.1).0 in
    let k = numbered p x.0 counted x.2 in
    (k.0, ap (kth_in k.0) x.1 ∙ k.1)
