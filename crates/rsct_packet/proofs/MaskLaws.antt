-- The laws of sets of nodes.
use Rattle.std.proofs.Common.{◌≡◌, ◌≢◌, ℕ, zero, suc, ◌<◌, ◌≤◌, ◌+◌, ◌-◌, ◌*◌, ◌^◌, ◌%◌, Bool, true, false, List, [], ◌∷◌, refl, ap, ◌∙◌, inl, inr, ⊎_elim, arith, max, min}
use Rattle.std.specs.Prelude.{◌==◌, ◌&&◌, ◌||◌, not, nat_le, bit_or, bit_and, if◌then◌else◌}
use Rattle.std.specs.Int.{bit_at, bit_not, w32}
use Rattle.std.proofs.lemmas.Bool.{and_parts, cases_eq, leb-true}
use Rattle.std.proofs.lemmas.Bool.Decides.{nat_tests}
use Rattle.std.proofs.lemmas.Nat.Bits.{bit_at-zero, bit_at-lt, bit_at_or, bit_at_and, bit_at_set_same, bit_at_set_other, bit_at_clear_same, bit_at_clear_other}
use Rattle.rsct_packet.specs.declared.mask.Mask.{Mask}
use Rattle.rsct_packet.specs.Mask.{is_node, node_numbers, no_nodes, has_node, with_node, without_node, union_of, common_of, nodes_of}
use Rattle.rsct_packet.specs.Search.{Has}
use Rattle.rsct_packet.proofs.HasLaws.{has_filter, filter_has}

pub node_range : (n : ℕ) → is_node n ≡ true → (1 ≤ n) × (n ≤ 32)
node_range n h = let p = and_parts (nat_le 1 n) (nat_le n 32) h in (leb-true 1 n p.0, leb-true n 32 p.1)

-- a node that is in a set is a node
pub has_is_node : (m : Mask) (n : ℕ) → has_node m n ≡ true → is_node n ≡ true
unfolding has_node
has_is_node m n h = (and_parts (is_node n) (bit_at m.bits (n - 1) == 1) h).0

pub has_no_nodes : (n : ℕ) → has_node no_nodes n ≡ false
unfolding has_node
has_no_nodes n = by (is_node n)
  where
    by : (b : Bool) → (b && (bit_at 0 (n - 1) == 1)) ≡ false
    by true = let z : bit_at 0 (n - 1) ≡ 0 = bit_at-zero (n - 1) in grind (arith, nat_tests)
    by false = refl

-- one bit, set and cleared
set_bit : (x a b : ℕ) → a < 32 → (bit_at (bit_or x (1 * 2 ^ a % 2 ^ 32)) b == 1) ≡ ((bit_at x b == 1) || b == a)
set_bit x a b within = ⊎_elim same other (cases_eq b a)
  where
    same : b ≡ a → (bit_at (bit_or x (1 * 2 ^ a % 2 ^ 32)) b == 1) ≡ ((bit_at x b == 1) || b == a)
    same e =
        let s : bit_at (bit_or x (1 * 2 ^ a % 2 ^ 32)) a ≡ 1 = bit_at_set_same w32 x a within in
        let t : bit_at (bit_or x (1 * 2 ^ a % 2 ^ 32)) b ≡ 1 = ap (bit_at (bit_or x (1 * 2 ^ a % 2 ^ 32))) e ∙ s in
        grind (arith, nat_tests)

    other : (b ≡ a → ⊥) → (bit_at (bit_or x (1 * 2 ^ a % 2 ^ 32)) b == 1) ≡ ((bit_at x b == 1) || b == a)
    other ne =
        let s : bit_at (bit_or x (1 * 2 ^ a % 2 ^ 32)) b ≡ bit_at x b = bit_at_set_other w32 x a within b ne in
        grind (arith, nat_tests)

clear_bit : (x a b : ℕ) → a < 32 → b < 32 → (bit_at (bit_and x (bit_not w32 (1 * 2 ^ a % 2 ^ 32))) b == 1) ≡ ((bit_at x b == 1) && not (b == a))
clear_bit x a b within low = ⊎_elim same other (cases_eq b a)
  where
    same : b ≡ a → (bit_at (bit_and x (bit_not w32 (1 * 2 ^ a % 2 ^ 32))) b == 1) ≡ ((bit_at x b == 1) && not (b == a))
    same e =
        let s : bit_at (bit_and x (bit_not w32 (1 * 2 ^ a % 2 ^ 32))) a ≡ 0 = bit_at_clear_same w32 x a within in
        let t : bit_at (bit_and x (bit_not w32 (1 * 2 ^ a % 2 ^ 32))) b ≡ 0 = ap (bit_at (bit_and x (bit_not w32 (1 * 2 ^ a % 2 ^ 32)))) e ∙ s in
        grind (arith, nat_tests)

    other : (b ≡ a → ⊥) → (bit_at (bit_and x (bit_not w32 (1 * 2 ^ a % 2 ^ 32))) b == 1) ≡ ((bit_at x b == 1) && not (b == a))
    other ne =
        let s : bit_at (bit_and x (bit_not w32 (1 * 2 ^ a % 2 ^ 32))) b ≡ bit_at x b = bit_at_clear_other w32 x a within b low ne in
        grind (arith, nat_tests)

or_bit : (x y b : ℕ) → (bit_at (bit_or x y) b == 1) ≡ ((bit_at x b == 1) || (bit_at y b == 1))
or_bit x y b =
    let o : bit_at (bit_or x y) b ≡ max (bit_at x b) (bit_at y b) = bit_at_or x y b in
    let p : bit_at x b < 2 = bit_at-lt x b in
    let q : bit_at y b < 2 = bit_at-lt y b in
    grind (arith, nat_tests)

and_bit : (x y b : ℕ) → (bit_at (bit_and x y) b == 1) ≡ ((bit_at x b == 1) && (bit_at y b == 1))
and_bit x y b =
    let o : bit_at (bit_and x y) b ≡ min (bit_at x b) (bit_at y b) = bit_at_and x y b in
    let p : bit_at x b < 2 = bit_at-lt x b in
    let q : bit_at y b < 2 = bit_at-lt y b in
    grind (arith, nat_tests)

pub has_with : (m : Mask) (n k : ℕ) → has_node (with_node m n) k ≡ (has_node m k || (is_node n && k == n))
unfolding has_node with_node
has_with m n k = by (is_node n) (is_node k) refl refl
  where
    by : (b c : Bool) → is_node n ≡ b → is_node k ≡ c → (c && (bit_at (if b then record { bits = bit_or m.bits (1 * 2 ^ (n - 1) % 2 ^ 32) } else m).bits (k - 1) == 1)) ≡ ((c && (bit_at m.bits (k - 1) == 1)) || (b && k == n))
    by false true p q = grind (arith, nat_tests)
    by false false p q = refl
    by true false p q =
        let i = node_range n p in
        let ne : k ≢ n = λ e. (let f : is_node k ≡ true = ap is_node e ∙ p in cc) in
        grind (arith, nat_tests)
    by true true p q =
        let i = node_range n p in
        let j = node_range k q in
        let e : (k - 1 == n - 1) ≡ (k == n) = grind (arith, nat_tests) in
        set_bit m.bits (n - 1) (k - 1) (omega arith) ∙ ap (λ t. (bit_at m.bits (k - 1) == 1) || t) e

pub has_without : (m : Mask) (n k : ℕ) → has_node (without_node m n) k ≡ (has_node m k && not (k == n))
unfolding has_node without_node
has_without m n k = by (is_node n) (is_node k) refl refl
  where
    by : (b c : Bool) → is_node n ≡ b → is_node k ≡ c → (c && (bit_at (if b then record { bits = bit_and m.bits (bit_not w32 (1 * 2 ^ (n - 1) % 2 ^ 32)) } else m).bits (k - 1) == 1)) ≡ ((c && (bit_at m.bits (k - 1) == 1)) && not (k == n))
    by false true p q =
        let ne : k ≢ n = λ e. (let f : is_node k ≡ false = ap is_node e ∙ p in cc) in
        grind (arith, nat_tests)
    by false false p q = refl
    by true false p q = refl
    by true true p q =
        let i = node_range n p in
        let j = node_range k q in
        let e : (k - 1 == n - 1) ≡ (k == n) = grind (arith, nat_tests) in
        clear_bit m.bits (n - 1) (k - 1) (omega arith) (omega arith) ∙ ap (λ t. (bit_at m.bits (k - 1) == 1) && not t) e

pub has_union : (a b : Mask) (k : ℕ) → has_node (union_of a b) k ≡ (has_node a k || has_node b k)
unfolding has_node union_of
has_union a b k = by (is_node k)
  where
    by : (c : Bool) → (c && (bit_at (bit_or a.bits b.bits) (k - 1) == 1)) ≡ ((c && (bit_at a.bits (k - 1) == 1)) || (c && (bit_at b.bits (k - 1) == 1)))
    by true = or_bit a.bits b.bits (k - 1)
    by false = refl

pub has_common : (a b : Mask) (k : ℕ) → has_node (common_of a b) k ≡ (has_node a k && has_node b k)
unfolding has_node common_of
has_common a b k = by (is_node k)
  where
    by : (c : Bool) → (c && (bit_at (bit_and a.bits b.bits) (k - 1) == 1)) ≡ ((c && (bit_at a.bits (k - 1) == 1)) && (c && (bit_at b.bits (k - 1) == 1)))
    by true = and_bit a.bits b.bits (k - 1)
    by false = refl

-- the numbers from a on
abbrev up : ℕ → ℕ → List ℕ
up a zero = []
up a (suc k) = a ∷ up (suc a) k

in_up : (a k n : ℕ) → a ≤ n → n < a + k → Has n (up a k)
in_up a zero n low high = absurd (omega arith)
in_up a (suc k) n low high =
    ⊎_elim (λ (e : n ≡ a). inl e) (λ (ne : n ≡ a → ⊥). inr (in_up (suc a) k n (omega arith) (omega arith))) (cases_eq n a)

pub node_numbered : (n : ℕ) → is_node n ≡ true → Has n node_numbers
node_numbered n h = let r = node_range n h in in_up 1 32 n r.0 (omega arith)

-- the list of a set has just its nodes
pub has_listed : (m : Mask) (n : ℕ) → has_node m n ≡ true → Has n (nodes_of m)
unfolding nodes_of
has_listed m n h = filter_has (has_node m) n node_numbers (node_numbered n (has_is_node m n h)) h

pub listed_has : (m : Mask) (n : ℕ) → Has n (nodes_of m) → has_node m n ≡ true
unfolding nodes_of
listed_has m n h = (has_filter (has_node m) n node_numbers h).1
