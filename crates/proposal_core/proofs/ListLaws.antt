-- A list is the fold of all that was put, whatever was forgotten.
use Rattle.std.proofs.Common.{◌≡◌, ℕ, zero, suc, ◌+◌, ◌-◌, ◌≤◌, cond, List, [], ◌∷◌, ◌++◌, length, drop, None, refl, sym, ap, subst, ◌∙◌, arith, length-append, append_assoc, inl, inr, max}
use Rattle.std.specs.Prelude.{IsTrue, map, nat_lt, slice_get}
use Rattle.std.proofs.lemmas.Bool.{cases_lt, lt-ltb, le-ltb, le-leb}
use Rattle.std.proofs.lemmas.List.{map-append, length-map, append-nil, drop-drop, drop-append-le}
use Rattle.std.proofs.lemmas.List.Sums.{sum_by_push}
use Rattle.std.proofs.lemmas.Option.{slice_get_past}
use Rattle.rsct_packet.specs.declared.ids.ViewId.{ViewId}
use Rattle.proposal_core.specs.declared.entry.Entry.{Entry}
use Rattle.proposal_core.specs.declared.group_state.GroupState.{GroupState}
use Rattle.proposal_core.specs.Fold.{fits, apply, after, after_if}
use Rattle.proposal_core.specs.Sizes.{entry_len}
use Rattle.proposal_core.specs.GroupView.{GroupView, new_list}
use Rattle.proposal_core.specs.Lists.{with_entry, forgotten, entry_at}
use Rattle.proposal_core.specs.ListLaw.{ListCall, Put, Forget, all_called, AllTaken, puts_of, fold_from, IsListOf}

pub after_fits : (s : GroupState) (v : ViewId) (i : ℕ) (e : Entry) → IsTrue (fits s e) → after s v i e ≡ apply s v i e
unfolding after after_if
after_fits s v i e h = rw h refl

-- the fold of one entry more
pub fold_from-append : (s : GroupState) (i : ℕ) (xs : List (ViewId × Entry)) (x : ViewId × Entry) → fold_from s i (xs ++ x ∷ []) ≡ after (fold_from s i xs) x.0 (i + length xs) x.1
fold_from-append s i [] x = ap (λ (n : ℕ). after s x.0 n x.1) (omega arith)
fold_from-append s i (y ∷ xs) x =
    let k : suc i + length xs ≡ i + length (y ∷ xs) = omega arith in
    fold_from-append (after s y.0 i y.1) (suc i) xs x ∙ ap (λ (n : ℕ). after (fold_from (after s y.0 i y.1) (suc i) xs) x.0 n x.1) k

-- what is kept from a place on, and what stood there
slice_get-drop : {A : Type 0} (n : ℕ) (xs : List A) (i : ℕ) → n ≤ i → slice_get (drop n xs) (i - n) ≡ slice_get xs i
slice_get-drop zero xs i le = ap (slice_get xs) (omega arith)
slice_get-drop (suc n) [] i le = slice_get_past [] (i - suc n) (omega arith) ∙ sym (slice_get_past [] i (omega arith))
slice_get-drop (suc n) (x ∷ xs) zero le = absurd (omega arith)
slice_get-drop (suc n) (x ∷ xs) (suc i) le =
    let k : suc i - suc n ≡ i - n = omega arith in
    ap (slice_get (drop n xs)) k ∙ slice_get-drop n xs i (omega arith)

abbrev all_of : List (ViewId × Entry) → List Entry
all_of xs = map (λ x. x.1) xs

entries_give : (xs : List (ViewId × Entry)) (g : GroupView) → g.entries ≡ drop g.start (all_of xs) → (i : ℕ) → entry_at g i ≡ cond (nat_lt i g.start) None (slice_get (all_of xs) i)
unfolding entry_at
entries_give xs g e i =
    elim (cases_lt i g.start) [
      | inl lt ↦ rw (lt-ltb i g.start lt) refl
      | inr le ↦ rw (le-ltb i g.start le, e) (slice_get-drop g.start (all_of xs) i le)
    ]

put_keeps : (base : GroupState) (xs : List (ViewId × Entry)) (g : GroupView) (v : ViewId) (e : Entry) → IsListOf base xs g → IsListOf base (xs ++ (v, e) ∷ []) (with_entry g v e)
unfolding with_entry
put_keeps base xs g v e h =
    let len : length (all_of xs) ≡ length xs = length-map xs (λ (x : ViewId × Entry). x.1) in
    let here : g.len ≡ 0 + length xs = omega (arith, h.len) in
    let kept : g.entries ++ e ∷ [] ≡ drop g.start (all_of (xs ++ (v, e) ∷ [])) =
    ap (λ (es : List Entry). es ++ e ∷ []) h.entries
    ∙ sym (drop-append-le g.start (all_of xs) (e ∷ []) (omega (arith, h.start, h.len, len)))
    ∙ sym (ap (drop g.start) (map-append (λ (x : ViewId × Entry). x.1) xs ((v, e) ∷ [])))
    in
    record {
      state =
          ap (λ (s : GroupState). after s v g.len e) h.state
          ∙ ap (λ (n : ℕ). after (fold_from base 0 xs) v n e) here
          ∙ sym (fold_from-append base 0 xs (v, e));
      len = omega (arith, h.len, length-append xs ((v, e) ∷ []));
      bytes = ap (λ (n : ℕ). n + entry_len e) h.bytes ∙ sym (sum_by_push (λ (x : ViewId × Entry). entry_len x.1) xs (v, e));
      start = omega (arith, h.start);
      entries = kept;
      get = entries_give (xs ++ (v, e) ∷ []) (with_entry g v e) kept;
    }

forgotten_below : (g : GroupView) (place : ℕ) → place ≤ g.len → forgotten g place ≡ record g { start = max g.start place; entries = drop (place - g.start) g.entries }
unfolding forgotten
forgotten_below g place le = rw (le-leb place g.len le) refl

forget_keeps : (base : GroupState) (xs : List (ViewId × Entry)) (g : GroupView) (place : ℕ) → place ≤ g.len → IsListOf base xs g → IsListOf base xs (forgotten g place)
forget_keeps base xs g place le h =
    let t : GroupView = record g { start = max g.start place; entries = drop (place - g.start) g.entries } in
    let k : g.start + (place - g.start) ≡ max g.start place = omega arith in
    let kept : drop (place - g.start) g.entries ≡ drop (max g.start place) (all_of xs) =
    ap (λ (es : List Entry). drop (place - g.start) es) h.entries
    ∙ drop-drop (place - g.start) g.start (all_of xs)
    ∙ ap (λ (n : ℕ). drop n (all_of xs)) k
    in
    subst (IsListOf base xs) (sym (forgotten_below g place le))
    (record {
      state = h.state;
      len = h.len;
      bytes = h.bytes;
      start = omega (arith, h.start, le);
      entries = kept;
      get = entries_give xs t kept;
    })

calls_keep : (base : GroupState) (cs : List ListCall) (xs : List (ViewId × Entry)) (g : GroupView) → AllTaken g cs → IsListOf base xs g → IsListOf base (xs ++ puts_of cs) (all_called g cs)
calls_keep base [] xs g t h = subst (λ (ys : List (ViewId × Entry)). IsListOf base ys g) (sym (append-nil xs)) h
calls_keep base (Put v e ∷ cs) xs g t h =
    subst (λ (ys : List (ViewId × Entry)). IsListOf base ys (all_called (with_entry g v e) cs)) (append_assoc xs ((v, e) ∷ []) (puts_of cs))
    (calls_keep base cs (xs ++ (v, e) ∷ []) (with_entry g v e) t.1 (put_keeps base xs g v e h))
calls_keep base (Forget place ∷ cs) xs g t h = calls_keep base cs xs (forgotten g place) t.1 (forget_keeps base xs g place t.0 h)

new_is_empty : (base : GroupState) → IsListOf base [] (new_list base)
new_is_empty base = record { state = refl; len = refl; bytes = refl; start = omega arith; entries = refl; get = entries_give [] (new_list base) refl }

-- after any calls
pub lists_are_folds : (base : GroupState) (cs : List ListCall) → AllTaken (new_list base) cs → IsListOf base (puts_of cs) (all_called (new_list base) cs)
lists_are_folds base cs t = calls_keep base cs [] (new_list base) t (new_is_empty base)
