-- The pairs that are kept stand for those of the definitions.
use Rattle.std.proofs.Common.{◌≡◌, ℕ, zero, suc, ◌+◌, ◌-◌, ◌<◌, ◌≤◌, Bool, true, false, cond, ◌==◌, ◌&&◌, List, [], ◌∷◌, ◌++◌, length, map, length-append, get_or, set, Option, Some, None, refl, sym, ap, ◌∙◌, arith}
use Rattle.std.specs.Prelude.{find, slice_get, nat_lt, nat_le}
use Rattle.std.specs.Option.{option_map}
use Rattle.std.proofs.lemmas.Bool.{leb-true, leb-false, lt-ltb}
use Rattle.std.proofs.lemmas.Option.{slice_get_past}
use Rattle.rsct_packet.specs.Lists.{reverse_onto}
use Rattle.rsct_packet.specs.Search.{place_where, edit_where}
use Rattle.rsct_packet.proofs.SearchLaws.{set_is_edit}
use Rattle.relay_model.specs.Leaving.{Parcel}
use Rattle.relay_model.specs.Relays.{is_pair, pair_with, pairs_with, count_in, datagram_in}
use Rattle.relay_model.specs.Relays as relays
use Rattle.relay_packets.specs.declared.pairs.Pair.{Pair}
use Rattle.relay_packets.specs.Datagrams.{is_from, relay_pair, relay_pairs, find_pair, with_parcel}

-- ---- in reverse

onto_end : {A : Type 0} (xs ys : List A) (d : A) → reverse_onto (xs ++ d ∷ []) ys ≡ d ∷ reverse_onto xs ys
onto_end [] ys d = refl
onto_end (x ∷ xs) ys d = onto_end xs (x ∷ ys) d

onto_behind : {A : Type 0} (xs ys : List A) (i j : ℕ) → j ≡ length xs + i → slice_get (reverse_onto xs ys) j ≡ slice_get ys i
onto_behind [] ys i j e = let z : j ≡ i = omega (arith, e) in rw z refl
onto_behind (x ∷ xs) ys i j e = onto_behind xs (x ∷ ys) (suc i) j (omega (arith, e))

onto_at : {A : Type 0} (xs ys : List A) (i j : ℕ) → i + suc j ≡ length xs → slice_get (reverse_onto xs ys) i ≡ slice_get xs j
onto_at [] ys i j e = absurd (omega (arith, e))
onto_at (x ∷ xs) ys i zero e = onto_behind xs (x ∷ ys) 0 i (omega (arith, e))
onto_at (x ∷ xs) ys i (suc j) e = onto_at xs (x ∷ ys) i j (omega (arith, e))

-- ---- the k-th

found_head : (t : Bool) (p : Pair) (x : Option relays.Pair) (y : Option Pair) → x ≡ option_map relay_pair y → cond t (Some (relay_pair p)) x ≡ option_map relay_pair (cond t (Some p) y)
found_head true p x y e = refl
found_head false p x y e = e

found_relay : (ps : List Pair) (a b : ℕ) → find_pair a b (relay_pairs ps) ≡ option_map relay_pair (find (is_from a b) ps)
unfolding is_pair
found_relay [] a b = refl
found_relay (p ∷ ps) a b = found_head (is_from a b p) p _ _ (found_relay ps a b)

kth_within : (t : Bool) (p : Pair) (j : ℕ) → nat_le (suc j) (length p.parcels) ≡ t → elim t [ true ↦ slice_get (reverse_onto p.parcels []) (length p.parcels - suc j) | false ↦ None ] ≡ slice_get p.parcels j
kth_within true p j e = let le : suc j ≤ length p.parcels = leb-true (suc j) (length p.parcels) e in onto_at p.parcels [] (length p.parcels - suc j) j (omega arith)
kth_within false p j e = let past : length p.parcels < suc j = leb-false (suc j) (length p.parcels) e in sym (slice_get_past p.parcels j (omega (arith, past)))

positive : {A : Type 0} (t u : Bool) (x : Option A) → t ≡ true → ◌≡◌ {A = Option A} (elim (t && u) [ true ↦ x | false ↦ None ]) (elim u [ true ↦ x | false ↦ None ])
positive t u x e = rw e refl

kth_one : (p : Pair) (j : ℕ) → datagram_in (suc j) (Some (relay_pair p)) ≡ slice_get p.parcels j
unfolding datagram_in
kth_one p j =
    positive (nat_lt 0 (suc j)) (nat_le (suc j) (length p.parcels)) (slice_get (reverse_onto p.parcels []) (length p.parcels - suc j)) (lt-ltb 0 (suc j) (omega arith))
    ∙ kth_within (nat_le (suc j) (length p.parcels)) p j refl

pub kth_found : (ps : List Pair) (a b k : ℕ) (p : Pair) → find (is_from a b) ps ≡ Some p → 1 ≤ k → datagram_in k (find_pair a b (relay_pairs ps)) ≡ slice_get p.parcels (k - 1)
kth_found ps a b zero p e le = absurd (omega (arith, le))
kth_found ps a b (suc j) p e le =
    let back : j ≡ suc j - 1 = omega arith in
    ap (datagram_in (suc j)) (found_relay ps a b ∙ ap (option_map relay_pair) e) ∙ (kth_one p j ∙ ap (slice_get p.parcels) back)

kth_zero_in : (o : Option Pair) → datagram_in 0 (option_map relay_pair o) ≡ None
unfolding datagram_in
kth_zero_in None = refl
kth_zero_in (Some p) = refl

pub kth_zero : (ps : List Pair) (a b : ℕ) → datagram_in 0 (find_pair a b (relay_pairs ps)) ≡ None
kth_zero ps a b = ap (datagram_in 0) (found_relay ps a b) ∙ kth_zero_in (find (is_from a b) ps)

pub kth_missing : (ps : List Pair) (a b k : ℕ) → find (is_from a b) ps ≡ None → datagram_in k (find_pair a b (relay_pairs ps)) ≡ None
unfolding datagram_in
kth_missing ps a b k e = rw (found_relay ps a b, e) refl

-- ---- how many

pub count_found : (ps : List Pair) (a b : ℕ) (p : Pair) → find (is_from a b) ps ≡ Some p → count_in (find_pair a b (relay_pairs ps)) ≡ length p.parcels
count_found ps a b p e = rw (found_relay ps a b, e) refl

pub count_missing : (ps : List Pair) (a b : ℕ) → find (is_from a b) ps ≡ None → count_in (find_pair a b (relay_pairs ps)) ≡ 0
count_missing ps a b e = rw (found_relay ps a b, e) refl

-- ---- one more

one_more : (p : Pair) (d : Parcel) → relay_pair (with_parcel d p) ≡ pair_with d (relay_pair p)
unfolding pair_with
one_more p d = rw (length-append p.parcels (d ∷ []), onto_end p.parcels [] d) refl

added_head : (t : Bool) (o : Option ℕ) (p : Pair) (ps qs : List Pair) (a b : ℕ) (d : Parcel) (i : ℕ) → ((j : ℕ) → Some j ≡ o → relay_pairs qs ≡ pairs_with a b d (relay_pairs ps)) → Some i ≡ cond t (Some 0) (option_map suc o)
    → relay_pairs (cond t (with_parcel d p ∷ ps) (p ∷ qs)) ≡ elim t [ true ↦ pair_with d (relay_pair p) ∷ relay_pairs ps | false ↦ relay_pair p ∷ pairs_with a b d (relay_pairs ps) ]
added_head true o p ps qs a b d i ih e = ap (λ x. x ∷ relay_pairs ps) (one_more p d)
added_head false None p ps qs a b d i ih e = absurd cc
added_head false (Some j) p ps qs a b d i ih e = ap (λ xs. relay_pair p ∷ xs) (ih j refl)

pub added_to : (ps : List Pair) (a b : ℕ) (d : Parcel) (i : ℕ) → Some i ≡ place_where (is_from a b) ps → relay_pairs (edit_where (is_from a b) (with_parcel d) ps) ≡ pairs_with a b d (relay_pairs ps)
unfolding pairs_with is_pair
added_to [] a b d i e = absurd cc
added_to (p ∷ ps) a b d i e = added_head (is_from a b p) (place_where (is_from a b) ps) p ps (edit_where (is_from a b) (with_parcel d) ps) a b d i (λ j h. added_to ps a b d j h) e

new_head : (t : Bool) (o : Option ℕ) (p : Pair) (ps qs : List Pair) (a b : ℕ) (d : Parcel) → (None ≡ o → relay_pairs qs ≡ pairs_with a b d (relay_pairs ps)) → None ≡ cond t (Some 0) (option_map suc o)
    → relay_pair p ∷ relay_pairs qs ≡ elim t [ true ↦ pair_with d (relay_pair p) ∷ relay_pairs ps | false ↦ relay_pair p ∷ pairs_with a b d (relay_pairs ps) ]
new_head true o p ps qs a b d ih e = absurd cc
new_head false None p ps qs a b d ih e = ap (λ xs. relay_pair p ∷ xs) (ih refl)
new_head false (Some j) p ps qs a b d ih e = absurd cc

pub added_new : (ps : List Pair) (a b : ℕ) (d : Parcel) → None ≡ place_where (is_from a b) ps → relay_pairs (ps ++ record { from = a; to = b; parcels = d ∷ [] } ∷ []) ≡ pairs_with a b d (relay_pairs ps)
unfolding pairs_with is_pair
added_new [] a b d e = refl
added_new (p ∷ ps) a b d e = new_head (is_from a b p) (place_where (is_from a b) ps) p ps (ps ++ record { from = a; to = b; parcels = d ∷ [] } ∷ []) a b d (λ h. added_new ps a b d h) e

pub put_at : (ps : List Pair) (a b : ℕ) (d : Parcel) (i : ℕ) (p q : Pair) → Some i ≡ place_where (is_from a b) ps → p ≡ get_or ps i p → q ≡ with_parcel d p → relay_pairs (set ps i q) ≡ pairs_with a b d (relay_pairs ps)
put_at ps a b d i p q at old new = ap relay_pairs (set_is_edit (is_from a b) (with_parcel d) ps i p q at old new) ∙ added_to ps a b d i at
