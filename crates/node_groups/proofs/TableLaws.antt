-- Tables that are searched from the front, and what is kept at the place that is found.
use Rattle.std.proofs.Common.{◌≡◌, ℕ, suc, ◌==◌, Bool, true, false, cond, ◌++◌, List, [], ◌∷◌, get_or, set, Option, Some, None, refl, sym, ap, ◌∙◌, max, min, arith}
use Rattle.std.specs.Prelude.{find, fold}
use Rattle.std.specs.Option.{option_map}
use Rattle.rsct_packet.specs.declared.ids.Member.{Member}
use Rattle.rsct_packet.specs.Search.{place_where}
use Rattle.node_state.specs.declared.group.Acked.{Acked}
use Rattle.node_state.specs.declared.group.Decision.{Decision}
use Rattle.node_state.specs.declared.state.Core.{Core}
use Rattle.node_state.specs.State.{row_of, acked_from, acked_by, least_acked, acked_raised, decisions_with, new_row, has_name}
use Rattle.node_groups.specs.Places.{is_acked_by, is_decision_on}

abbrev pub len_or_none : Option Acked → ℕ
len_or_none None = 0
len_or_none (Some a) = a.len

found_head : (b : Bool) (a : Acked) (rest : ℕ) (next : Option Acked) → len_or_none next ≡ rest → len_or_none (cond b (Some a) next) ≡ elim b [ true ↦ a.len | false ↦ rest ]
found_head true a rest next ih = refl
found_head false a rest next ih = ih

acked_at : (n : ℕ) (xs : List Acked) → len_or_none (find (is_acked_by n) xs) ≡ acked_from n xs
unfolding acked_from
acked_at n [] = refl
acked_at n (a ∷ xs) = found_head (a.node == n) a (acked_from n xs) (find (is_acked_by n) xs) (acked_at n xs)

pub acked_found : (n : ℕ) (xs : List Acked) (r : Option Acked) → r ≡ find (is_acked_by n) xs → acked_from n xs ≡ len_or_none r
acked_found n xs r e = sym (ap len_or_none e ∙ acked_at n xs)

-- ---- a value kept at the place of its key, or at the end

set_head : {A : Type 0} (b : Bool) (o : Option ℕ) (x y d : A) (xs rest : List A) (new : A) → ((k : ℕ) → o ≡ Some k → set xs k new ≡ rest) → (i : ℕ) → cond b (Some 0) (option_map suc o) ≡ Some i → set (x ∷ xs) i new ≡ elim b [ true ↦ new ∷ xs | false ↦ x ∷ rest ]
set_head true o x y d xs rest new ih i e = let k : 0 ≡ i = cc in rw (← k) refl
set_head false None x y d xs rest new ih i e = absurd cc
set_head false (Some k) x y d xs rest new ih i e = let s : suc k ≡ i = cc in rw (← s) (ap (λ (ys : List _). x ∷ ys) (ih k refl))

pub decision_set : (d : Decision) (xs : List Decision) (i : ℕ) → place_where (is_decision_on d.provider) xs ≡ Some i → set xs i d ≡ decisions_with d xs
unfolding decisions_with
decision_set d [] i e = absurd cc
decision_set d (x ∷ xs) i e = set_head (is_decision_on d.provider x) (place_where (is_decision_on d.provider) xs) x x x xs (decisions_with d xs) d (λ k h. decision_set d xs k h) i e

added_head : {A : Type 0} (b : Bool) (o : Option ℕ) (x new there : A) (xs rest : List A) → (o ≡ None → xs ++ new ∷ [] ≡ rest) → cond b (Some 0) (option_map suc o) ≡ None → (x ∷ xs) ++ new ∷ [] ≡ elim b [ true ↦ there ∷ xs | false ↦ x ∷ rest ]
added_head true o x new there xs rest ih e = absurd cc
added_head false None x new there xs rest ih e = ap (λ (ys : List _). x ∷ ys) (ih refl)
added_head false (Some k) x new there xs rest ih e = absurd cc

pub decision_added : (d : Decision) (xs : List Decision) → place_where (is_decision_on d.provider) xs ≡ None → xs ++ d ∷ [] ≡ decisions_with d xs
unfolding decisions_with
decision_added d [] e = refl
decision_added d (x ∷ xs) e = added_head (is_decision_on d.provider x) (place_where (is_decision_on d.provider) xs) x d d xs (decisions_with d xs) (decision_added d xs) e

pub acked_added : (n len : ℕ) (xs : List Acked) (a : Acked) → place_where (is_acked_by n) xs ≡ None → a ≡ record { node = n; len = len } → xs ++ a ∷ [] ≡ acked_raised n len xs
unfolding acked_raised
acked_added n len [] a e made = ap (λ (x : Acked). x ∷ []) made
acked_added n len (x ∷ xs) a e made =
    added_head (x.node == n) (place_where (is_acked_by n) xs) x a (record { node = n; len = max x.len len }) xs (acked_raised n len xs) (λ h. acked_added n len xs a h made) e

raised_head : (b : Bool) (o : Option ℕ) (n len : ℕ) (x d : Acked) (xs rest : List Acked) → ((k : ℕ) → o ≡ Some k → set xs k (record { node = n; len = max (get_or xs k d).len len }) ≡ rest) → (i : ℕ) → cond b (Some 0) (option_map suc o) ≡ Some i → set (x ∷ xs) i (record { node = n; len = max (get_or (x ∷ xs) i d).len len }) ≡ elim b [ true ↦ record { node = n; len = max x.len len } ∷ xs | false ↦ x ∷ rest ]
raised_head true o n len x d xs rest ih i e = let k : 0 ≡ i = cc in rw (← k) refl
raised_head false None n len x d xs rest ih i e = absurd cc
raised_head false (Some k) n len x d xs rest ih i e = let s : suc k ≡ i = cc in rw (← s) (ap (λ (ys : List Acked). x ∷ ys) (ih k refl))

raised_at : (n len : ℕ) (d : Acked) (xs : List Acked) (i : ℕ) → place_where (is_acked_by n) xs ≡ Some i → set xs i (record { node = n; len = max (get_or xs i d).len len }) ≡ acked_raised n len xs
unfolding acked_raised
raised_at n len d [] i e = absurd cc
raised_at n len d (x ∷ xs) i e = raised_head (x.node == n) (place_where (is_acked_by n) xs) n len x d xs (acked_raised n len xs) (λ k h. raised_at n len d xs k h) i e

pub acked_set : (n len : ℕ) (xs : List Acked) (i : ℕ) (x a : Acked) → Some i ≡ place_where (is_acked_by n) xs → x ≡ get_or xs i x → a ≡ record { node = n; len = max x.len len } → set xs i a ≡ acked_raised n len xs
acked_set n len xs i x a e read made = ap (set xs i) (made ∙ ap (λ (y : Acked). record { node = n; len = max y.len len }) read) ∙ raised_at n len x xs i (sym e)

-- ---- the least of none

least_none : (s : Core) (g : List ℕ) (ms : List Member) → fold (λ least (m : Member). min least (acked_by s (new_row g) m.node)) 0 ms ≡ 0
least_none s g [] = refl
least_none s g (m ∷ ms) = let e : min 0 (acked_by s (new_row g) m.node) ≡ 0 = omega arith in rw e (least_none s g ms)

-- of a group without a row
pub least_missing : (s : Core) (g : List ℕ) → None ≡ find (has_name g) s.groups → 0 ≡ least_acked s g
unfolding row_of least_acked
least_missing s g e = rw (← e) (sym (least_none s g s.views.members))
