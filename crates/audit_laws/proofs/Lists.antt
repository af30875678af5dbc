-- The lists of nodes, and that they are fronts of the view's list.
use Rattle.std.proofs.Common.{◌≡◌, ◌⊎◌, ⊎_elim, ℕ, zero, suc, ◌<◌, ◌≤◌, Bool, true, false, List, [], ◌∷◌, ◌++◌, length, Option, Some, None, inl, inr, refl, sym, ◌∙◌, ap, subst, arith}
use Rattle.std.specs.Prelude.{◌==◌, ◌&&◌, map, slice_get, if◌then◌else◌}
use Rattle.std.specs.Str.{bytes_eq}
use Rattle.std.proofs.lemmas.Bool.{and_parts, eqb-true}
use Rattle.rsct_packet.specs.declared.ids.ViewId.{ViewId}
use Rattle.rsct_packet.specs.Ids.{same_view}
use Rattle.rsct_packet.specs.Search.{Has}
use Rattle.proposal_core.specs.declared.entry.Entry.{Entry}
use Rattle.entry_words.specs.Wording.{entry_text}
use Rattle.node_state.specs.declared.happened.Happened.{Happened}
use Rattle.node_state.specs.declared.happened.Happened.TheVariants as happened
use Rattle.run_safety.specs.Past as past
use Rattle.run_safety.proofs.Prefix.{IsPrefix, prefix_refl, prefix_nil, prefix_trans, prefix_push, prefix_next}
use Rattle.run_laws.specs.seen_runs.Seen.{Seen, SeenAt}
use Rattle.line_laws.specs.Shown.{entry_shown}
use Rattle.run_audit.specs.declared.broken.Rule.TheVariants as rule
use Rattle.run_audit.specs.Past.{view_of, is_at, is_list, puts_after, puts_of, list_after, list_of}
use Rattle.run_audit.specs.Table.{holds, same_entry, if_some}
use Rattle.run_audit.proofs.ListLaws.{list_same}
use Rattle.run_audit.proofs.PlaceLaws.{get_in, apart}
use Rattle.audit_laws.specs.Lines.{shown, lines}
use Rattle.audit_laws.specs.Records.{Keeps}
use Rattle.audit_laws.proofs.Nodes.{view_is, at_view}
use Rattle.audit_laws.proofs.Tests.{both, eq_self, text_self, map_length, map_end}

-- ---- a node's list

pub puts_are : (n : ℕ) (v : ViewId) (g : List ℕ) (rs : List Happened) → puts_of n v g (lines rs) ≡ map entry_shown (past.puts_of n v g rs)
unfolding lines shown puts_of puts_after is_list
puts_are n v g [] = refl
puts_are n v g (happened.Put m u h i e ∷ rs) = by (m == n && (same_view u v && bytes_eq h g)) (puts_are n v g rs)
  where
    by : (t : Bool) → puts_of n v g (lines rs) ≡ map entry_shown (past.puts_of n v g rs) → (if t then puts_of n v g (lines rs) ++ entry_shown e ∷ [] else puts_of n v g (lines rs)) ≡ map entry_shown (if t then past.puts_of n v g rs ++ e ∷ [] else past.puts_of n v g rs)
    by true q = ap (λ z. z ++ entry_shown e ∷ []) q ∙ sym (map_end entry_shown (past.puts_of n v g rs) e)
    by false q = q
puts_are n v g (_ ∷ rs) = puts_are n v g rs

pub puts_length : (n : ℕ) (v : ViewId) (g : List ℕ) (rs : List Happened) → length (puts_of n v g (lines rs)) ≡ length (past.puts_of n v g rs)
puts_length n v g rs = ap length (puts_are n v g rs) ∙ map_length entry_shown (past.puts_of n v g rs)

pub places_kept : Keeps rule.Place
unfolding holds shown
places_kept (happened.Put n v g i e) rs k =
    both (is_at v (view_of n (lines rs))) (i == length (puts_of n v g (lines rs))) (at_view v (view_of n (lines rs)) (view_is n v rs k.seen.0.in_view))
    (ap (λ z. i == z) (puts_length n v g rs ∙ sym k.seen.0.place) ∙ eq_self i)
places_kept _ rs k = refl

-- ---- the view's list

-- an entry that was put at the place
pub record WasPut (v : ViewId) (g : List ℕ) (i : ℕ) (y : Entry) (rs : List Happened) : Type 0 where
  pub node : ℕ
  pub entry : Entry
  pub there : Has (happened.Put node v g i entry) rs
  pub is : y ≡ entry_shown entry

put_later : (v : ViewId) (g : List ℕ) (i : ℕ) (y : Entry) (r : Happened) (rs : List Happened) → WasPut v g i y rs → WasPut v g i y (r ∷ rs)
put_later v g i y r rs k = record { node = k.node; entry = k.entry; there = inr k.there; is = k.is }

get_last : (xs : List Entry) (x y : Entry) (i : ℕ) → slice_get (xs ++ x ∷ []) i ≡ Some y → (slice_get xs i ≡ Some y) ⊎ ((i ≡ length xs) × (x ≡ y))
get_last [] x y zero e = let same : x ≡ y = cc in inr (refl, same)
get_last [] x y (suc i) e = absurd cc
get_last (z ∷ xs) x y zero e = inl e
get_last (z ∷ xs) x y (suc i) e =
    ⊎_elim (λ (h : slice_get xs i ≡ Some y). inl h) (λ (h : (i ≡ length xs) × (x ≡ y)). let k : suc i ≡ suc (length xs) = ap suc h.0 in inr (k, h.1)) (get_last xs x y i e)

pub list_has : (v : ViewId) (g : List ℕ) (i : ℕ) (y : Entry) (rs : List Happened) → slice_get (list_of v g (lines rs)) i ≡ Some y → WasPut v g i y rs
unfolding lines shown list_of list_after
list_has v g i y [] e = absurd cc
list_has v g i y (happened.Put m u h k f ∷ rs) e = by (is_list v g u h && k == length (list_of v g (lines rs))) refl e (list_has v g i y rs)
  where
    L : List Entry
    L = list_of v g (lines rs)

    by : (t : Bool) → (is_list v g u h && k == length L) ≡ t → slice_get (if t then L ++ entry_shown f ∷ [] else L) i ≡ Some y → (slice_get L i ≡ Some y → WasPut v g i y rs) → WasPut v g i y (happened.Put m u h k f ∷ rs)
    by false t q old = put_later v g i y (happened.Put m u h k f) rs (old q)
    by true t q old =
        let p = and_parts (is_list v g u h) (k == length L) t in
        let z = list_same v u g h p.0 in
        let c : k ≡ length L = eqb-true k (length L) p.1 in
        ⊎_elim (λ (x : slice_get L i ≡ Some y). put_later v g i y (happened.Put m u h k f) rs (old x))
        (λ (x : (i ≡ length L) × (entry_shown f ≡ y)). record { node = m; entry = f; there = inl (λ j. happened.Put m (sym z.0 j) (sym z.1 j) ((x.0 ∙ sym c) j) f); is = sym x.1 })
        (get_last L (entry_shown f) y i q)
list_has v g i y (r ∷ rs) e = put_later v g i y r rs (list_has v g i y rs e)

same_self : (e f : Entry) → f ≡ entry_shown e → same_entry (entry_shown e) f ≡ true
unfolding same_entry
same_self e f q = subst (λ z. bytes_eq (entry_text (entry_shown e)) (entry_text z) ≡ true) (sym q) (text_self (entry_text (entry_shown e)))

entry_there : (n : ℕ) (v : ViewId) (g : List ℕ) (i : ℕ) (e : Entry) (rs : List Happened) → SeenAt rs (happened.Put n v g i e) → (y : Entry) → slice_get (list_of v g (lines rs)) i ≡ Some y → y ≡ entry_shown e
entry_there n v g i e rs at y q = let k = list_has v g i y rs q in k.is ∙ ap entry_shown (at.entry k.node k.entry k.there)

pub entries_kept : Keeps rule.Entry
unfolding holds shown if_some
entries_kept (happened.Put n v g i e) rs k = by (slice_get (list_of v g (lines rs)) i) refl
  where
    by : (o : Option Entry) → slice_get (list_of v g (lines rs)) i ≡ o → if_some o (same_entry (entry_shown e)) ≡ true
    by None q = refl
    by (Some y) q = same_self e y (entry_there n v g i e rs k.seen.0 y q)
entries_kept _ rs k = refl

-- ---- each node's list is a front of it

pub prefix_length : (xs ys : List Entry) → IsPrefix xs ys → length xs ≤ length ys
prefix_length xs ys p = subst (λ z. length xs ≤ length z) p.is (longer xs p.rest)
  where
    longer : (xs zs : List Entry) → length xs ≤ length (xs ++ zs)
    longer [] zs = omega arith
    longer (x ∷ xs) zs = let h : length xs ≤ length (xs ++ zs) = longer xs zs in omega arith

prefix_whole : (xs ys : List Entry) → IsPrefix xs ys → length xs ≡ length ys → xs ≡ ys
prefix_whole xs ys p e = whole xs p.rest ys p.is e
  where
    whole : (xs zs ys : List Entry) → xs ++ zs ≡ ys → length xs ≡ length ys → xs ≡ ys
    whole [] [] ys q e = q
    whole [] (z ∷ zs) [] q e = absurd cc
    whole [] (z ∷ zs) (y ∷ ys) q e = absurd (omega arith)
    whole (x ∷ xs) zs [] q e = absurd cc
    whole (x ∷ xs) zs (y ∷ ys) q e =
        let a : x ≡ y = cc in
        let b : xs ++ zs ≡ ys = cc in
        let c : xs ≡ ys = whole xs zs ys b (omega arith) in
        λ i. a i ∷ c i

prefix_more : (xs ys : List Entry) (e : Entry) → IsPrefix xs ys → IsPrefix xs (ys ++ e ∷ [])
prefix_more xs ys e p = prefix_trans p (prefix_push ys e)

prefix_pushed : (xs ys : List Entry) (e : Entry) → IsPrefix xs ys → length xs ≡ length ys → IsPrefix (xs ++ e ∷ []) (ys ++ e ∷ [])
prefix_pushed xs ys e p q = subst (λ z. IsPrefix (xs ++ e ∷ []) (z ++ e ∷ [])) (prefix_whole xs ys p q) (prefix_refl (xs ++ e ∷ []))

module _ (n : ℕ) (v : ViewId) (g : List ℕ) (m : ℕ) (u : ViewId) (h : List ℕ) (i : ℕ) (e : Entry) (rs : List Happened) (at : SeenAt rs (happened.Put m u h i e)) where
  abbrev Mine : List Entry
  Mine = puts_of n v g (lines rs)

  abbrev Whole : List Entry
  Whole = list_of v g (lines rs)

  placed : (m == n) ≡ true → is_list v g u h ≡ true → i ≡ length Mine
  placed a t =
      let s = list_same v u g h t in
      let same : m ≡ n = eqb-true m n a in
      at.place ∙ ((λ z. length (past.puts_of (same z) (s.0 z) (s.1 z) rs)) ∙ sym (puts_length n v g rs))

  found : is_list v g u h ≡ true → (y : Entry) → slice_get Whole i ≡ Some y → y ≡ entry_shown e
  found t y q =
      let s = list_same v u g h t in
      entry_there m u h i e rs at y ((λ z. slice_get (list_of (s.0 z) (s.1 z) (lines rs)) i) ∙ q)

  front_more : IsPrefix Mine Whole → (t a b : Bool) → is_list v g u h ≡ t → (m == n) ≡ a → (i == length Whole) ≡ b
      → IsPrefix (if a && t then Mine ++ entry_shown e ∷ [] else Mine) (if t && b then Whole ++ entry_shown e ∷ [] else Whole)
  front_more old false true b x y z = old
  front_more old false false b x y z = old
  front_more old true true true x y z = prefix_pushed Mine Whole (entry_shown e) old (sym (placed y x) ∙ eqb-true i (length Whole) z)
  front_more old true true false x y z =
      let place : i ≡ length Mine = placed y x in
      let l : length Mine ≤ length Whole = prefix_length Mine Whole old in
      let within : i < length Whole = apart i (length Whole) z (omega (arith, place, l)) in
      let k = get_in Whole i within in
      let is : k.0 ≡ entry_shown e = found x k.0 k.1 in
      prefix_next Mine Whole (entry_shown e) old (ap (λ j. slice_get Whole j) (sym place) ∙ (k.1 ∙ ap (λ w. Some w) is))
  front_more old true false true x y z = prefix_more Mine Whole (entry_shown e) old
  front_more old true false false x y z = old

pub front : (n : ℕ) (v : ViewId) (g : List ℕ) (rs : List Happened) → Seen rs → IsPrefix (puts_of n v g (lines rs)) (list_of v g (lines rs))
unfolding lines shown puts_of puts_after list_of list_after
front n v g [] s = prefix_nil []
front n v g (happened.Put m u h i e ∷ rs) s = front_more n v g m u h i e rs s.0 (front n v g rs s.1) (is_list v g u h) (m == n) (i == length (list_of v g (lines rs))) refl refl refl
front n v g (_ ∷ rs) s = front n v g rs s.1
