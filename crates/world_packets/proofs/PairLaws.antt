-- The pairs that are kept stand for those of the definitions.
use Rattle.std.proofs.Common.{◌≡◌, ℕ, zero, suc, ◌+◌, ◌-◌, ◌<◌, ◌≤◌, Bool, true, false, cond, ◌==◌, ◌&&◌, List, [], ◌∷◌, ◌++◌, length, map, length-append, get_or, set, Option, Some, None, refl, sym, ap, ◌∙◌, arith}
use Rattle.std.specs.Prelude.{find, slice_get, nat_lt, nat_le}
use Rattle.std.specs.Option.{option_map}
use Rattle.std.proofs.lemmas.Bool.{leb-true, leb-false, lt-ltb}
use Rattle.std.proofs.lemmas.Option.{slice_get_past}
use Rattle.rsct_packet.specs.Lists.{reverse_onto}
use Rattle.rsct_packet.specs.Search.{place_where, edit_where}
use Rattle.rsct_packet.proofs.SearchLaws.{set_is_edit}
use Rattle.node_state.specs.declared.packet.Packet.{Packet}
use Rattle.world_model.specs.World.{is_pair, pair_with, pairs_with, count_in, kth_in}
use Rattle.world_model.specs.World as world
use Rattle.world_packets.specs.declared.pairs.Pair.{Pair}
use Rattle.world_packets.specs.Packets.{is_from, world_pair, world_pairs, find_pair, with_packet}

-- ---- in reverse

onto_end : {A : Type 0} (xs ys : List A) (d : A) → reverse_onto (xs ++ d ∷ []) ys ≡ d ∷ reverse_onto xs ys
onto_end [] ys d = refl
onto_end (x ∷ xs) ys d = onto_end xs (x ∷ ys) d

onto_behind : {A : Type 0} (xs ys : List A) (i j : ℕ) → j ≡ length xs + i → slice_get (reverse_onto xs ys) j ≡ slice_get ys i
onto_behind [] ys i j e = let z : j ≡ i = omega (arith, e) in rw z refl
onto_behind (x ∷ xs) ys i j e = onto_behind xs (x ∷ ys) (suc i) j (omega (arith, e))

onto_at : {A : Type 0} (xs ys : List A) (i j : ℕ) → i + suc j ≡ length xs → slice_get (reverse_onto xs ys) i ≡ slice_get xs j
onto_at [] ys i j e = absurd (omega (arith, e))
onto_at (x ∷ xs) ys i zero e = onto_behind xs (x ∷ ys) 0 i (omega (arith, e))
onto_at (x ∷ xs) ys i (suc j) e = onto_at xs (x ∷ ys) i j (omega (arith, e))

-- ---- the k-th

found_head : (t : Bool) (p : Pair) (x : Option world.Pair) (y : Option Pair) → x ≡ option_map world_pair y → cond t (Some (world_pair p)) x ≡ option_map world_pair (cond t (Some p) y)
found_head true p x y e = refl
found_head false p x y e = e

found_world : (ps : List Pair) (a b : ℕ) → find_pair a b (world_pairs ps) ≡ option_map world_pair (find (is_from a b) ps)
unfolding is_pair
found_world [] a b = refl
found_world (p ∷ ps) a b = found_head (is_from a b p) p _ _ (found_world ps a b)

kth_within : (t : Bool) (p : Pair) (j : ℕ) → nat_le (suc j) (length p.packets) ≡ t → elim t [ true ↦ slice_get (reverse_onto p.packets []) (length p.packets - suc j) | false ↦ None ] ≡ slice_get p.packets j
kth_within true p j e = let le : suc j ≤ length p.packets = leb-true (suc j) (length p.packets) e in onto_at p.packets [] (length p.packets - suc j) j (omega arith)
kth_within false p j e = let past : length p.packets < suc j = leb-false (suc j) (length p.packets) e in sym (slice_get_past p.packets j (omega (arith, past)))

positive : {A : Type 0} (t u : Bool) (x : Option A) → t ≡ true → ◌≡◌ {A = Option A} (elim (t && u) [ true ↦ x | false ↦ None ]) (elim u [ true ↦ x | false ↦ None ])
positive t u x e = rw e refl

kth_one : (p : Pair) (j : ℕ) → kth_in (suc j) (Some (world_pair p)) ≡ slice_get p.packets j
unfolding kth_in
kth_one p j =
    positive (nat_lt 0 (suc j)) (nat_le (suc j) (length p.packets)) (slice_get (reverse_onto p.packets []) (length p.packets - suc j)) (lt-ltb 0 (suc j) (omega arith))
    ∙ kth_within (nat_le (suc j) (length p.packets)) p j refl

pub kth_found : (ps : List Pair) (a b k : ℕ) (p : Pair) → find (is_from a b) ps ≡ Some p → 1 ≤ k → kth_in k (find_pair a b (world_pairs ps)) ≡ slice_get p.packets (k - 1)
kth_found ps a b zero p e le = absurd (omega (arith, le))
kth_found ps a b (suc j) p e le =
    let back : j ≡ suc j - 1 = omega arith in
    ap (kth_in (suc j)) (found_world ps a b ∙ ap (option_map world_pair) e) ∙ (kth_one p j ∙ ap (slice_get p.packets) back)

kth_zero_in : (o : Option Pair) → kth_in 0 (option_map world_pair o) ≡ None
unfolding kth_in
kth_zero_in None = refl
kth_zero_in (Some p) = refl

pub kth_zero : (ps : List Pair) (a b : ℕ) → kth_in 0 (find_pair a b (world_pairs ps)) ≡ None
kth_zero ps a b = ap (kth_in 0) (found_world ps a b) ∙ kth_zero_in (find (is_from a b) ps)

pub kth_missing : (ps : List Pair) (a b k : ℕ) → find (is_from a b) ps ≡ None → kth_in k (find_pair a b (world_pairs ps)) ≡ None
unfolding kth_in
kth_missing ps a b k e = rw (found_world ps a b, e) refl

-- ---- how many

pub count_found : (ps : List Pair) (a b : ℕ) (p : Pair) → find (is_from a b) ps ≡ Some p → count_in (find_pair a b (world_pairs ps)) ≡ length p.packets
count_found ps a b p e = rw (found_world ps a b, e) refl

pub count_missing : (ps : List Pair) (a b : ℕ) → find (is_from a b) ps ≡ None → count_in (find_pair a b (world_pairs ps)) ≡ 0
count_missing ps a b e = rw (found_world ps a b, e) refl

-- ---- one more

one_more : (p : Pair) (d : Packet) → world_pair (with_packet d p) ≡ pair_with d (world_pair p)
unfolding pair_with
one_more p d = rw (length-append p.packets (d ∷ []), onto_end p.packets [] d) refl

added_head : (t : Bool) (o : Option ℕ) (p : Pair) (ps qs : List Pair) (d : Packet) (i : ℕ) → ((j : ℕ) → Some j ≡ o → world_pairs qs ≡ pairs_with d (world_pairs ps)) → Some i ≡ cond t (Some 0) (option_map suc o)
    → world_pairs (cond t (with_packet d p ∷ ps) (p ∷ qs)) ≡ elim t [ true ↦ pair_with d (world_pair p) ∷ world_pairs ps | false ↦ world_pair p ∷ pairs_with d (world_pairs ps) ]
added_head true o p ps qs d i ih e = ap (λ x. x ∷ world_pairs ps) (one_more p d)
added_head false None p ps qs d i ih e = absurd cc
added_head false (Some j) p ps qs d i ih e = ap (λ xs. world_pair p ∷ xs) (ih j refl)

pub added_to : (ps : List Pair) (d : Packet) (i : ℕ) → Some i ≡ place_where (is_from d.from d.to) ps → world_pairs (edit_where (is_from d.from d.to) (with_packet d) ps) ≡ pairs_with d (world_pairs ps)
unfolding pairs_with is_pair
added_to [] d i e = absurd cc
added_to (p ∷ ps) d i e = added_head (is_from d.from d.to p) (place_where (is_from d.from d.to) ps) p ps (edit_where (is_from d.from d.to) (with_packet d) ps) d i (λ j h. added_to ps d j h) e

new_head : (t : Bool) (o : Option ℕ) (p : Pair) (ps qs : List Pair) (d : Packet) → (None ≡ o → world_pairs qs ≡ pairs_with d (world_pairs ps)) → None ≡ cond t (Some 0) (option_map suc o)
    → world_pair p ∷ world_pairs qs ≡ elim t [ true ↦ pair_with d (world_pair p) ∷ world_pairs ps | false ↦ world_pair p ∷ pairs_with d (world_pairs ps) ]
new_head true o p ps qs d ih e = absurd cc
new_head false None p ps qs d ih e = ap (λ xs. world_pair p ∷ xs) (ih refl)
new_head false (Some j) p ps qs d ih e = absurd cc

pub added_new : (ps : List Pair) (d : Packet) → None ≡ place_where (is_from d.from d.to) ps → world_pairs (ps ++ record { from = d.from; to = d.to; packets = d ∷ [] } ∷ []) ≡ pairs_with d (world_pairs ps)
unfolding pairs_with is_pair
added_new [] d e = refl
added_new (p ∷ ps) d e = new_head (is_from d.from d.to p) (place_where (is_from d.from d.to) ps) p ps (ps ++ record { from = d.from; to = d.to; packets = d ∷ [] } ∷ []) d (λ h. added_new ps d h) e

pub put_at : (ps : List Pair) (d : Packet) (a b i : ℕ) (p q : Pair) → a ≡ d.from → b ≡ d.to → Some i ≡ place_where (is_from a b) ps → p ≡ get_or ps i p → q ≡ with_packet d p → world_pairs (set ps i q) ≡ pairs_with d (world_pairs ps)
put_at ps d a b i p q from to at old new =
    let there : Some i ≡ place_where (is_from d.from d.to) ps = at ∙ ap (λ z. place_where (is_from z b) ps) from ∙ ap (λ z. place_where (is_from d.from z) ps) to in
    ap world_pairs (set_is_edit (is_from d.from d.to) (with_packet d) ps i p q there old new) ∙ added_to ps d i there
