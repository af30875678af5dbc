-- Each packet that was sent has a number among those from its sender to its receiver.
use Rattle.std.proofs.Common.{◌≡◌, ◌==◌, ◌+◌, ◌-◌, ◌≤◌, ℕ, suc, Bool, true, false, cond, List, [], ◌∷◌, Option, Some, None, refl, sym, ap, ◌∙◌, subst, inl, inr, arith}
use Rattle.std.specs.Prelude.{◌&&◌, find, nat_lt, nat_le, slice_get}
use Rattle.std.proofs.lemmas.Bool.{eq-eqb, leb-true, le-leb, lt-ltb, and_parts}
use Rattle.rsct_packet.specs.Mask.{nodes_of}
use Rattle.rsct_packet.specs.Search.{Has}
use Rattle.rsct_packet.proofs.FieldLaws.{both_true}
use Rattle.node_state.specs.declared.config.Config.{Config}
use Rattle.node_state.specs.declared.config.Mode.{Mode}
use Rattle.node_state.specs.declared.config.Mode.TheVariants.{Fixed, Asked, Rings}
use Rattle.node_state.specs.declared.packet.Packet.{Packet}
use Rattle.node_state.specs.HandOn.{Answering}
use Rattle.world_model.specs.declared.event.Event.{Event}
use Rattle.world_model.specs.World.{Pair, World, is_pair, pair_with, pairs_with, posted, kth_in, kth_between, empty_world, world_of, world_new}
use Rattle.world_laws.specs.world_answers.Answers.{happens_by}
use Rattle.relay_laws.proofs.Holding.{happens_holds, all_start}

-- ---- one more is sent

-- where a test holds, what it gives
given_by : {A : Type 0} (b : Bool) (o : Option A) (x : A) → b ≡ true → o ≡ Some x → elim b [ true ↦ o | false ↦ None ] ≡ Some x
given_by true o x e h = h
given_by false o x e h = absurd (cc)

got_by : {A : Type 0} (b : Bool) (o : Option A) (x : A) → elim b [ true ↦ o | false ↦ None ] ≡ Some x → (b ≡ true) × (o ≡ Some x)
got_by true o x h = (refl, h)
got_by false o x h = absurd (cc)

-- the numbers of a pair stay
stays_in : (p q : Packet) (x : Pair) (k : ℕ) → kth_in k (Some x) ≡ Some q → kth_in k (Some (pair_with p x)) ≡ Some q
unfolding kth_in pair_with
stays_in p q x k h =
    let is = got_by (nat_lt 0 k && nat_le k x.count) (slice_get x.packets (x.count - k)) q h in
    let both = and_parts (nat_lt 0 k) (nat_le k x.count) is.0 in
    let le : k ≤ x.count = leb-true k x.count both.1 in
    let place : x.count + 1 - k ≡ suc (x.count - k) = omega (arith, le) in
    given_by (nat_lt 0 k && nat_le k (x.count + 1)) (slice_get (p ∷ x.packets) (x.count + 1 - k)) q
    (both_true (nat_lt 0 k) (nat_le k (x.count + 1)) both.0 (le-leb k (x.count + 1) (omega (arith, le))))
    (ap (slice_get (p ∷ x.packets)) place ∙ is.1)

-- the new one has the last
newest_in : (p : Packet) (x : Pair) → kth_in (x.count + 1) (Some (pair_with p x)) ≡ Some p
unfolding kth_in pair_with
newest_in p x =
    let low : nat_lt 0 (x.count + 1) ≡ true = lt-ltb 0 (x.count + 1) (omega arith) in
    let high : nat_le (x.count + 1) (x.count + 1) ≡ true = le-leb (x.count + 1) (x.count + 1) (omega arith) in
    let place : x.count + 1 - (x.count + 1) ≡ 0 = omega arith in
    given_by (nat_lt 0 (x.count + 1) && nat_le (x.count + 1) (x.count + 1)) (slice_get (p ∷ x.packets) (x.count + 1 - (x.count + 1))) p
    (both_true (nat_lt 0 (x.count + 1)) (nat_le (x.count + 1) (x.count + 1)) low high)
    (ap (slice_get (p ∷ x.packets)) place)

abbrev first_pair : Packet → Pair
first_pair p = record { from = p.from; to = p.to; count = 1; packets = p ∷ [] }

own_pair : (p : Packet) → is_pair p.from p.to (first_pair p) ≡ true
unfolding is_pair
own_pair p = both_true (p.from == p.from) (p.to == p.to) (eq-eqb p.from p.from refl) (eq-eqb p.to p.to refl)

first_in : (p : Packet) → kth_in 1 (Some (first_pair p)) ≡ Some p
unfolding kth_in
first_in p = refl

same_pair : (a b : ℕ) (p : Packet) (x : Pair) → is_pair a b (pair_with p x) ≡ is_pair a b x
unfolding is_pair pair_with
same_pair a b p x = refl

abbrev IsKth : ℕ → ℕ → ℕ → Packet → List Pair → Type 0
IsKth a b k q pairs = kth_in k (find (is_pair a b) pairs) ≡ Some q

stays : (p q : Packet) (a b k : ℕ) (ys : List Pair) → IsKth a b k q ys → IsKth a b k q (pairs_with p ys)
unfolding pairs_with kth_in
stays p q a b k [] h = absurd (cc)
stays p q a b k (y ∷ ys) h = by (is_pair p.from p.to y) (stays p q a b k ys)
  where
    here : (c : Bool) → kth_in k (cond c (Some y) (find (is_pair a b) ys)) ≡ Some q → kth_in k (cond c (Some (pair_with p y)) (find (is_pair a b) ys)) ≡ Some q
    here true h = stays_in p q y k h
    here false h = h

    there : (IsKth a b k q ys → IsKth a b k q (pairs_with p ys)) → (c : Bool) → kth_in k (cond c (Some y) (find (is_pair a b) ys)) ≡ Some q → kth_in k (cond c (Some y) (find (is_pair a b) (pairs_with p ys))) ≡ Some q
    there rest true h = h
    there rest false h = rest h

    by : (d : Bool) → (IsKth a b k q ys → IsKth a b k q (pairs_with p ys)) → IsKth a b k q (elim d [ true ↦ pair_with p y ∷ ys | false ↦ y ∷ pairs_with p ys ])
    by true rest = ap (λ c. kth_in k (cond c (Some (pair_with p y)) (find (is_pair a b) ys))) (same_pair a b p y) ∙ here (is_pair a b y) h
    by false rest = there rest (is_pair a b y) h

newest : (p : Packet) (ys : List Pair) → (k : ℕ) × IsKth p.from p.to k p (pairs_with p ys)
unfolding pairs_with
newest p [] = (1, ap (λ c. kth_in 1 (cond c (Some (first_pair p)) None)) (own_pair p) ∙ first_in p)
newest p (y ∷ ys) = by (is_pair p.from p.to y) refl (newest p ys)
  where
    by : (d : Bool) → is_pair p.from p.to y ≡ d → (k : ℕ) × IsKth p.from p.to k p (pairs_with p ys) → (k : ℕ) × IsKth p.from p.to k p (elim d [ true ↦ pair_with p y ∷ ys | false ↦ y ∷ pairs_with p ys ])
    by true e rest = (y.count + 1, ap (λ c. kth_in (y.count + 1) (cond c (Some (pair_with p y)) (find (is_pair p.from p.to) ys))) (same_pair p.from p.to p y ∙ e) ∙ newest_in p y)
    by false e rest = (rest.0, ap (λ c. kth_in rest.0 (cond c (Some y) (find (is_pair p.from p.to) (pairs_with p ys)))) e ∙ rest.1)

-- ---- all that were sent

abbrev pub AllNumbered : World → Type 0
AllNumbered w = (p : Packet) → Has p w.sent → (k : ℕ) × (kth_between w p.from p.to k ≡ Some p)

same_numbered : (w v : World) → v.pairs ≡ w.pairs → v.sent ≡ w.sent → AllNumbered w → AllNumbered v
unfolding kth_between
same_numbered w v pairs sent all p h =
    let k = all p (subst (Has p) sent h) in
    (k.0, ap (λ ps. kth_in k.0 (find (is_pair p.from p.to) ps)) pairs ∙ k.1)

posted_numbered : (w : World) (p : Packet) → AllNumbered w → AllNumbered (posted w p)
unfolding kth_between posted
posted_numbered w p all q (inl e) = subst (λ (z : Packet). (k : ℕ) × IsKth z.from z.to k z (pairs_with p w.pairs)) (sym e) (newest p w.pairs)
posted_numbered w p all q (inr h) = let k = all q h in (k.0, stays p q q.from q.to k.0 w.pairs k.1)

-- whatever happens
pub happens_numbered : (f : Answering) (w : World) (e : Event) → AllNumbered w → AllNumbered (happens_by f w e)
happens_numbered f w e all = happens_holds AllNumbered same_numbered posted_numbered f w e all

-- and at first
mode_numbered : (c : Config) (m : Mode) → AllNumbered (world_of c m)
unfolding world_of
mode_numbered c Fixed = all_start AllNumbered same_numbered (nodes_of c.nodes) (empty_world c) (λ p h. absurd h)
mode_numbered c Asked = λ p h. absurd h
mode_numbered c Rings = λ p h. absurd h

pub new_numbered : (c : Config) → AllNumbered (world_new c)
unfolding world_new
new_numbered c = mode_numbered c c.mode
