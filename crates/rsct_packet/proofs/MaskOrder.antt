-- Sets with the same nodes are equal, and the list of a set ascends.
use Rattle.std.proofs.Common.{◌≡◌, ℕ, ◌<◌, ◌≤◌, ◌+◌, ◌-◌, ◌^◌, Bool, true, false, cond, List, [], ◌∷◌, refl, ap, arith}
use Rattle.std.specs.Prelude.{IsTrue, ◌==◌, nat_lt, nat_le, filter}
use Rattle.std.specs.Int.{bit_at}
use Rattle.std.proofs.lemmas.Bool.{ltb-true, lt-ltb, le-leb}
use Rattle.std.proofs.lemmas.Bool.Decides.{nat_tests}
use Rattle.std.proofs.lemmas.Nat.Bits.{bit_at-lt, same_from_bits_below}
use Rattle.rsct_packet.specs.declared.mask.Mask.{Mask}
use Rattle.rsct_packet.specs.Mask.{is_node, node_numbers, has_node, nodes_of}
use Rattle.rsct_packet.specs.Listed.{ascending_from, ascending}
use Rattle.rsct_packet.proofs.FieldLaws.{and_true, both_true}

place_is_node : (i : ℕ) → i < 32 → is_node (i + 1) ≡ true
place_is_node i h = both_true (nat_le 1 (i + 1)) (nat_le (i + 1) 32) (le-leb 1 (i + 1) (omega arith)) (le-leb (i + 1) 32 (omega arith))

same_test : (x y : ℕ) → x < 2 → y < 2 → (x == 1) ≡ (y == 1) → x ≡ y
same_test x y p q e = grind (arith, nat_tests)

same_bit : (a b : Mask) (i : ℕ) → i < 32 → has_node a (i + 1) ≡ has_node b (i + 1) → bit_at a.bits i ≡ bit_at b.bits i
unfolding has_node
same_bit a b i h e =
    let n = place_is_node i h in
    let k : i + 1 - 1 ≡ i = omega arith in
    let f : (bit_at a.bits (i + 1 - 1) == 1) ≡ (bit_at b.bits (i + 1 - 1) == 1) = rw n at e in
    same_test (bit_at a.bits i) (bit_at b.bits i) (bit_at-lt a.bits i) (bit_at-lt b.bits i) (rw k at f)

pub same_nodes : (a b : Mask) → a.bits < 2 ^ 32 → b.bits < 2 ^ 32 → ((n : ℕ) → has_node a n ≡ has_node b n) → a ≡ b
same_nodes a b p q h = ap (λ (n : ℕ). let m : Mask = record { bits = n } in m) (same_from_bits_below 32 a.bits b.bits p q (λ i lt. same_bit a b i lt (h (i + 1))))

lower : (a b : ℕ) (xs : List ℕ) → a ≤ b → IsTrue (ascending_from b xs) → IsTrue (ascending_from a xs)
lower a b [] le h = refl
lower a b (x ∷ xs) le h =
    let p = and_true (nat_lt b x) (ascending_from x xs) h in
    let lt : b < x = ltb-true b x p.0 in
    both_true (nat_lt a x) (ascending_from x xs) (lt-ltb a x (omega arith)) p.1

pub filter_ascends : (f : ℕ → Bool) (last : ℕ) (xs : List ℕ) → IsTrue (ascending_from last xs) → IsTrue (ascending_from last (filter f xs))
filter_ascends f last [] h = refl
filter_ascends f last (x ∷ xs) h =
    let p = and_true (nat_lt last x) (ascending_from x xs) h in
    let lt : last < x = ltb-true last x p.0 in
    let rest = filter_ascends f x xs p.1 in
    elim (f x) as (λ b. IsTrue (ascending_from last (cond b (x ∷ filter f xs) (filter f xs)))) [
      | true ↦ both_true (nat_lt last x) (ascending_from x (filter f xs)) p.0 rest
      | false ↦ lower last x (filter f xs) (omega arith) rest
    ]

pub nodes_ascend : (m : Mask) → IsTrue (ascending (nodes_of m))
unfolding nodes_of
nodes_ascend m = filter_ascends (has_node m) 0 node_numbers refl
