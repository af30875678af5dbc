-- Entries fit one after another: from the base of a view on, and at the end of a list that shows the whole one.
use Rattle.std.proofs.Common.{◌≡◌, ℕ, suc, ◌+◌, List, [], ◌∷◌, ◌++◌, length, Bool, true, false, refl, sym, ap, ◌∙◌, arith}
use Rattle.rsct_packet.specs.declared.ids.ViewId.{ViewId}
use Rattle.proposal_core.specs.declared.entry.Entry.{Entry}
use Rattle.proposal_core.specs.Sizes.{entry_len}
use Rattle.proposal_core.specs.GroupView.{GroupView, new_list}
use Rattle.proposal_core.specs.Lists.{entry_fits, with_entry}
use Rattle.view_state.specs.Cut.{all_fit}
use Rattle.view_bases.proofs.CutLaws.{fit_begins}
use Rattle.run_safety.specs.Past.{fold_from}
use Rattle.run_safety.specs.Bases.{base_state}
use Rattle.step_refinement.specs.Ghost.{Ghost, Keeps, FitIn, bytes_of}

-- a list with these at the end
abbrev pushed : ViewId → GroupView → List Entry → GroupView
pushed v l [] = l
pushed v l (e ∷ es) = pushed v (with_entry l v e) es

pushed_len : (v : ViewId) (xs : List Entry) (l : GroupView) → (pushed v l xs).len ≡ l.len + length xs
unfolding with_entry
pushed_len v [] l = omega arith
pushed_len v (x ∷ xs) l = let q : (l.len + 1) + length xs ≡ l.len + suc (length xs) = omega arith in pushed_len v xs (with_entry l v x) ∙ q

pushed_bytes : (v : ViewId) (xs : List Entry) (l : GroupView) → (pushed v l xs).bytes ≡ l.bytes + bytes_of xs
unfolding with_entry
pushed_bytes v [] l = omega arith
pushed_bytes v (x ∷ xs) l =
    let q : (l.bytes + entry_len x) + bytes_of xs ≡ l.bytes + (entry_len x + bytes_of xs) = omega arith in pushed_bytes v xs (with_entry l v x) ∙ q

pushed_state : (v : ViewId) (xs : List Entry) (l : GroupView) → (pushed v l xs).state ≡ fold_from v l.state l.len xs
unfolding with_entry
pushed_state v [] l = refl
pushed_state v (x ∷ xs) l = pushed_state v xs (with_entry l v x)

-- what holds together, apart
pub both : (b c : Bool) → elim b as (λ _. Bool) [ false ↦ false | true ↦ c ] ≡ true → (b ≡ true) × (c ≡ true)
both true c e = (refl, e)
both false c e = absurd (cc)

fit_parts : (v : ViewId) (xs ys : List Entry) (l : GroupView) → all_fit v l (xs ++ ys) ≡ true → (all_fit v l xs ≡ true) × (all_fit v (pushed v l xs) ys ≡ true)
unfolding all_fit
fit_parts v [] ys l h = (refl, h)
fit_parts v (x ∷ xs) ys l h =
    let a = both (entry_fits l x) (all_fit v (with_entry l v x) (xs ++ ys)) h in
    let b = fit_parts v xs ys (with_entry l v x) a.1 in
    (ap (λ (t : Bool). elim t as (λ _. Bool) [ false ↦ false | true ↦ all_fit v (with_entry l v x) xs ]) a.0 ∙ b.0, b.1)

fit_joined : (v : ViewId) (xs ys : List Entry) (l : GroupView) → all_fit v l xs ≡ true → all_fit v (pushed v l xs) ys ≡ true → all_fit v l (xs ++ ys) ≡ true
unfolding all_fit
fit_joined v [] ys l h k = k
fit_joined v (x ∷ xs) ys l h k =
    let a = both (entry_fits l x) (all_fit v (with_entry l v x) xs) h in
    ap (λ (t : Bool). elim t as (λ _. Bool) [ false ↦ false | true ↦ all_fit v (with_entry l v x) (xs ++ ys) ]) a.0 ∙ fit_joined v xs ys (with_entry l v x) a.1 k

zero_more : (k : ℕ) → k ≡ 0 + k
zero_more k = omega arith

-- a list that shows a whole one ends as the whole one does
fit_alike : (x : Ghost) (v : ViewId) (full ys : List Entry) (l : GroupView) → Keeps x v full l → all_fit v l ys ≡ all_fit v (pushed v (new_list (base_state (x.bases v))) full) ys
fit_alike x v full ys l k =
    let m : GroupView = pushed v (new_list (base_state (x.bases v))) full in
    let len : l.len ≡ m.len = k.len ∙ zero_more (length full) ∙ sym (pushed_len v full (new_list (base_state (x.bases v)))) in
    let bytes : l.bytes ≡ m.bytes = k.bytes ∙ zero_more (bytes_of full) ∙ sym (pushed_bytes v full (new_list (base_state (x.bases v)))) in
    let state : l.state ≡ m.state = k.state ∙ sym (pushed_state v full (new_list (base_state (x.bases v)))) in
    fit_begins v l ys ∙ (λ i. all_fit v (record { start = 0; len = len i; bytes = bytes i; state = state i; entries = [] }) ys) ∙ sym (fit_begins v m ys)

-- what fits at its end fits behind the whole list, and the other way
pub fits_more : (x : Ghost) (v : ViewId) (full ys : List Entry) (l : GroupView) → Keeps x v full l → all_fit v l ys ≡ true → FitIn x v (full ++ ys)
fits_more x v full ys l k h =
    fit_joined v full ys (new_list (base_state (x.bases v))) k.fits (sym (fit_alike x v full ys l k) ∙ h)

pub fits_rest : (x : Ghost) (v : ViewId) (full ys : List Entry) (l : GroupView) → Keeps x v full l → FitIn x v (full ++ ys) → all_fit v l ys ≡ true
fits_rest x v full ys l k h =
    fit_alike x v full ys l k ∙ (fit_parts v full ys (new_list (base_state (x.bases v))) h).1

pub fits_one : (x : Ghost) (v : ViewId) (full : List Entry) (e : Entry) (l : GroupView) → Keeps x v full l → entry_fits l e ≡ true → FitIn x v (full ++ e ∷ [])
unfolding all_fit
fits_one x v full e l k h =
    fits_more x v full (e ∷ []) l k (ap (λ (t : Bool). elim t as (λ _. Bool) [ false ↦ false | true ↦ true ]) h)

pub fits_front : (x : Ghost) (v : ViewId) (xs ys : List Entry) → FitIn x v (xs ++ ys) → FitIn x v xs
fits_front x v xs ys h = (fit_parts v xs ys (new_list (base_state (x.bases v))) h).0

pub bytes_pushed : (xs : List Entry) (e : Entry) → bytes_of (xs ++ e ∷ []) ≡ bytes_of xs + entry_len e
bytes_pushed [] e = omega arith
bytes_pushed (x ∷ xs) e = let q = bytes_pushed xs e in omega arith
