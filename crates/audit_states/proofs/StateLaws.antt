-- What is kept of lists and their states says what the lines say.
use Rattle.std.proofs.Common.{◌≡◌, ℕ, zero, suc, ◌+◌, ◌<◌, Bool, true, false, List, [], ◌∷◌, ◌++◌, length, take, get_or, Option, Some, None, refl, sym, ◌∙◌, ap, arith, cond, length-append}
use Rattle.std.specs.Prelude.{◌==◌, ◌&&◌, is_none, if◌then◌else◌}
use Rattle.std.specs.Map.{lookup, KeepsOthers}
use Rattle.std.specs.Str.{bytes_eq}
use Rattle.rsct_packet.specs.declared.ids.ViewId.{ViewId}
use Rattle.rsct_packet.specs.Ids.{same_view}
use Rattle.proposal_core.specs.declared.entry.Entry.{Entry}
use Rattle.proposal_core.specs.declared.group_state.GroupState.{GroupState}
use Rattle.proposal_core.specs.Fold.{after, empty_state}
use Rattle.word_laws.proofs.ValueLaws.{and_parts}
use Rattle.record_lines.specs.declared.line.BaseLine.{BaseLine}
use Rattle.record_lines.specs.declared.line.Line.{Line}
use Rattle.record_lines.specs.declared.line.Line.TheVariants as line
use Rattle.record_lines.specs.declared.line.What.{What}
use Rattle.run_audit.specs.declared.broken.Rule.TheVariants as rule
use Rattle.audit_states.specs.declared.list_bases.ListBase.{ListBase}
use Rattle.audit_states.specs.declared.list_states.ListStates.{ListStates}
use Rattle.run_audit.specs.declared.lists.ListKey.{ListKey}
use Rattle.run_audit.specs.declared.lists.RowKey.{RowKey}
use Rattle.audit_states.specs.declared.row_states.RowState.{RowState}
use Rattle.run_audit.specs.Based.{ListAt}
use Rattle.run_audit.specs.Keys.{view_key}
use Rattle.run_audit.specs.Lists.{RowAt, is_list_key, is_row_key, same_list_key, same_row_key}
use Rattle.run_audit.specs.Past.{base_after, base_of, base_state, fold_from, is_list, list_after, list_of, or_base, puts_after, puts_of, state_of}
use Rattle.audit_states.specs.States.{AreListBases, AreListStates, AreRowStates, AreWholeLists, begun_state, cut_of, entries_in, kept_base, kept_row, last_of, row_state}
use Rattle.run_audit.specs.Table.{holds, what_of}
use Rattle.run_audit.proofs.BasedLaws.{list_found, list_put, same_list}
use Rattle.run_audit.proofs.KeyLaws.{equal, view_same, view_words}
use Rattle.run_audit.proofs.ListLaws.{place_is, row_found, row_put, same_row, text_same}
use Rattle.run_audit.proofs.PlaceLaws.{list_self, number_self}

-- ---- tables

pub both_keep : {K V : Type 0} (eq : K → K → Bool) (test : K → Bool) (es ms fs : List (K × V)) → KeepsOthers eq test es ms → KeepsOthers eq test ms fs → KeepsOthers eq test es fs
unfolding KeepsOthers
both_keep eq test es ms fs a b other is apart = b other is apart ∙ a other is apart

-- the keys' words and those of lines
pub list_words : (v : ViewId) (g : List ℕ) (q : ListAt) → same_list (record { view = v; group = g }) q ≡ is_list q.view q.group v g
unfolding same_list is_list
list_words v g q = ap (λ t. t && bytes_eq g q.group) (view_words v q.view)

row_words : (n : ℕ) (v : ViewId) (g : List ℕ) (q : RowAt) → same_row (record { node = n; view = v; group = g }) q ≡ ((n == q.node) && is_list q.view q.group v g)
unfolding same_row is_list
row_words n v g q = ap (λ t. (n == q.node) && (t && bytes_eq g q.group)) (view_words v q.view)

pub list_is : (v : ViewId) (g : List ℕ) (q : ListAt) → same_list (record { view = v; group = g }) q ≡ true → record { view = v; group = g } ≡ q
unfolding is_list
list_is v g q e =
    let p = and_parts (same_view v q.view) (bytes_eq g q.group) (sym (list_words v g q) ∙ e) in
    λ i. record { view = view_same v q.view p.0 i; group = text_same g q.group p.1 i }

row_is : (n : ℕ) (v : ViewId) (g : List ℕ) (q : RowAt) → same_row (record { node = n; view = v; group = g }) q ≡ true → record { node = n; view = v; group = g } ≡ q
unfolding is_list
row_is n v g q e =
    let a = and_parts (n == q.node) (is_list q.view q.group v g) (sym (row_words n v g q) ∙ e) in
    let p = and_parts (same_view v q.view) (bytes_eq g q.group) a.1 in
    λ i. record { node = equal n q.node a.0 i; view = view_same v q.view p.0 i; group = text_same g q.group p.1 i }

-- ---- lists

pub entries_found : (key : ListKey) (v : ViewId) (g : List ℕ) (xs : List Entry) (es : List (ListKey × List Entry)) (ls : List Line) → key.view ≡ view_key v → key.group.items ≡ g → xs ≡ entries_in (lookup (same_list_key key) es) → AreWholeLists ls es → xs ≡ list_of v g ls
entries_found key v g xs es ls k1 k2 is are = is ∙ ap entries_in (list_found key v g es k1 k2) ∙ are (record { view = v; group = g })

abbrev list_at : ViewId → List ℕ → ListAt
list_at v g = record { view = v; group = g }

pub whole_noted : (n : ℕ) (v : ViewId) (g : List ℕ) (i : ℕ) (e : Entry) (key : ListKey) (old new : List Entry) (es ms fs : List (ListKey × List Entry)) (ls : List Line) → key.view ≡ view_key v → key.group.items ≡ g → old ≡ entries_in (lookup (same_list_key key) es)
    → KeepsOthers same_list_key (same_list_key key) es ms → new ≡ cond (i == length old) (old ++ e ∷ []) old → lookup (same_list_key key) fs ≡ Some new → KeepsOthers same_list_key (same_list_key key) ms fs → AreWholeLists ls es → AreWholeLists (line.Put n v g i e ∷ ls) fs
unfolding entries_in list_of list_after
whole_noted n v g i e key old new es ms fs ls k1 k2 was first more put later are q =
    ap entries_in (list_put (list_at v g) q key new es fs k1 k2 put (both_keep same_list_key (same_list_key key) es ms fs first later))
    ∙ by (same_list (list_at v g) q) refl
    ∙ ap (λ t. if t && i == length (list_of q.view q.group ls) then list_of q.view q.group ls ++ e ∷ [] else list_of q.view q.group ls) (list_words v g q)
  where
    by : (t : Bool) → same_list (list_at v g) q ≡ t → entries_in (cond t (Some new) (lookup (is_list_key q.view q.group) es)) ≡ (if t && i == length (list_of q.view q.group ls) then list_of q.view q.group ls ++ e ∷ [] else list_of q.view q.group ls)
    by true same =
        let o : old ≡ list_of q.view q.group ls = entries_found key v g old es ls k1 k2 was are ∙ ap (λ (z : ListAt). list_of z.view z.group ls) (list_is v g q same) in
        more ∙ ap (λ z. cond (i == length z) (z ++ e ∷ []) z) o
    by false same = are q

-- ---- folds

pub fold_grows : (v : ViewId) (s : GroupState) (i : ℕ) (es : List Entry) (e : Entry) → fold_from v s i (es ++ e ∷ []) ≡ after (fold_from v s i es) v (i + length es) e
unfolding fold_from
fold_grows v s i [] e = let z : i ≡ i + 0 = omega arith in ap (λ k. after s v k e) z
fold_grows v s i (x ∷ es) e = let z : i + 1 + length es ≡ i + suc (length es) = omega arith in fold_grows v (after s v i x) (i + 1) es e ∙ ap (λ k. after (fold_from v (after s v i x) (i + 1) es) v k e) z

one_step : (v : ViewId) (s : GroupState) (k i : ℕ) (es : List Entry) (e : Entry) → i < length es → e ≡ get_or es i e → after (fold_from v s k (take i es)) v (k + i) e ≡ fold_from v s k (take (suc i) es)
unfolding fold_from
one_step v s k i [] e h at = absurd (omega arith)
one_step v s k zero (x ∷ es) e h at = let z : k + 0 ≡ k = omega arith in (λ j. after s v (z j) (at j))
one_step v s k (suc i) (x ∷ es) e h at = let z : k + suc i ≡ k + 1 + i = omega arith in ap (λ w. after (fold_from v (after s v k x) (k + 1) (take i es)) v w e) z ∙ one_step v (after s v k x) (k + 1) i es e (omega arith) at

pub fold_step : (v : ViewId) (s t u : GroupState) (i : ℕ) (es : List Entry) (e : Entry) → i < length es → e ≡ get_or es i e → t ≡ fold_from v s 0 (take i es) → u ≡ after t v i e → u ≡ fold_from v s 0 (take (i + 1) es)
fold_step v s t u i es e h at so next =
    let z : i ≡ 0 + i = omega arith in
    let n : suc i ≡ i + 1 = omega arith in
    next ∙ (λ j. after (so j) v (z j) e) ∙ one_step v s 0 i es e h at ∙ ap (λ k. fold_from v s 0 (take k es)) n

-- ---- what lists begin with

no_base : (v : ViewId) (g : List ℕ) (ls : List Line) → base_of v g ls ≡ None → base_state v g ls ≡ empty_state
unfolding base_of base_after or_base base_state
no_base v g [] e = refl
no_base v g (line.Base m u h b ∷ ls) e = by (is_list v g u h) (base_of v g ls) (no_base v g ls) e
  where
    by : (t : Bool) (o : Option BaseLine) → (o ≡ None → base_state v g ls ≡ empty_state) → (if t then or_base o b else o) ≡ None
        → elim (t && is_none o) [ true ↦ record (fold_from b.old (base_state b.old g ls) 0 (take b.len (list_of b.old g ls))) { failed = b.failed } | false ↦ base_state v g ls ] ≡ empty_state
    by true None k f = absurd cc
    by true (Some x) k f = absurd cc
    by false o k f = k f
no_base v g (_ ∷ ls) e = no_base v g ls e

pub begun_is : (v : ViewId) (g : List ℕ) (es : List (ListKey × ListBase)) (ls : List Line) → AreListBases ls es → begun_state (lookup (is_list_key v g) es) ≡ base_state v g ls
unfolding begun_state kept_base
begun_is v g es ls are = ap begun_state (are (record { view = v; group = g })) ∙ by (base_of v g ls) (no_base v g ls)
  where
    by : (o : Option BaseLine) → (o ≡ None → base_state v g ls ≡ empty_state) → begun_state (kept_base o (base_state v g ls)) ≡ base_state v g ls
    by None k = sym (k refl)
    by (Some b) k = refl

-- ---- rows

last_end : (x : Entry) (es : List Entry) (e : Entry) → last_of x (es ++ e ∷ []) ≡ e
last_end x [] e = refl
last_end x (y ∷ es) e = last_end y es e

kept_end : (es : List Entry) (e : Entry) (s : GroupState) → kept_row (es ++ e ∷ []) s ≡ Some (record { place = length es; what = what_of e; state = s })
unfolding kept_row
kept_end [] e s = refl
kept_end (x ∷ es) e s =
    let p = length-append es (e ∷ []) in
    let n : length (es ++ e ∷ []) ≡ suc (length es) = omega (arith, p) in
    λ j. Some (record { place = n j; what = what_of (last_end x es e j); state = s })

row_begins : (v : ViewId) (base : GroupState) (es : List Entry) → row_state (kept_row es (fold_from v base 0 es)) base ≡ fold_from v base 0 es
unfolding kept_row row_state fold_from
row_begins v base [] = refl
row_begins v base (e ∷ es) = refl

-- the state of a node's list, as it is found
pub state_found : (n : ℕ) (v : ViewId) (g : List ℕ) (o : Option RowState) (base s : GroupState) (es : List (RowKey × RowState)) (ls : List Line) → o ≡ lookup (is_row_key (record { node = n; view = v; group = g })) es → base ≡ base_state v g ls → s ≡ row_state o base → AreRowStates ls es → s ≡ state_of n v g ls
unfolding state_of
state_found n v g o base s es ls found begun is are = is ∙ (λ i. row_state ((found ∙ are (record { node = n; view = v; group = g })) i) (begun i)) ∙ row_begins v (base_state v g ls) (puts_of n v g ls)

abbrev row_at : ℕ → ViewId → List ℕ → RowAt
row_at n v g = record { node = n; view = v; group = g }

-- the entries of a row, with one more where it is this one
abbrev grown : Bool → Entry → List Line → RowAt → List Entry
grown b e ls q = if b then puts_of q.node q.view q.group ls ++ e ∷ [] else puts_of q.node q.view q.group ls

abbrev grown_state : Bool → Entry → List Line → RowAt → GroupState
grown_state b e ls q = fold_from q.view (base_state q.view q.group ls) 0 (grown b e ls q)

pub row_comes : (v : ViewId) (g : List ℕ) (i : ℕ) (e : Entry) (key : RowKey) (row : Option RowState) (w : What) (base s t : GroupState) (es ms fs : List (RowKey × RowState)) (ls : List Line) → key.list.view ≡ view_key v → key.list.group.items ≡ g
    → row ≡ lookup (same_row_key key) es → KeepsOthers same_row_key (same_row_key key) es ms → s ≡ row_state row base → t ≡ after s v i e → w ≡ what_of e → lookup (same_row_key key) fs ≡ Some (record { place = i; what = w; state = t }) → KeepsOthers same_row_key (same_row_key key) ms fs
    → AreRowStates ls es → base ≡ base_state v g ls → holds rule.Place (line.Put key.node v g i e) ls ≡ true → AreRowStates (line.Put key.node v g i e ∷ ls) fs
unfolding puts_of puts_after state_of base_state
row_comes v g i e key row w base s t es ms fs ls k1 k2 was first begun taken told put later are at place q =
    row_put (row_at key.node v g) q key (record { place = i; what = w; state = t }) es fs refl k1 k2 put (both_keep same_row_key (same_row_key key) es ms fs first later)
    ∙ by (same_row (row_at key.node v g) q) refl
    ∙ ap (λ b. kept_row (grown b e ls q) (grown_state b e ls q)) (row_words key.node v g q)
  where
    here_is : Some (record { place = i; what = w; state = t }) ≡ kept_row (grown true e ls (row_at key.node v g)) (grown_state true e ls (row_at key.node v g))
    here_is =
        let n : i ≡ length (puts_of key.node v g ls) = place_is key.node key.node v v g g i e ls place (number_self key.node) (list_self v g) in
        let z : i ≡ 0 + length (puts_of key.node v g ls) = omega (arith, n) in
        let o : s ≡ fold_from v (base_state v g ls) 0 (puts_of key.node v g ls) = state_found key.node v g row base s es ls (was ∙ row_found key (row_at key.node v g) es refl k1 k2) at begun are in
        let u : t ≡ fold_from v (base_state v g ls) 0 (puts_of key.node v g ls ++ e ∷ []) = taken ∙ (λ j. after (o j) v (z j) e) ∙ sym (fold_grows v (base_state v g ls) 0 (puts_of key.node v g ls) e) in
        (λ j. Some (record { place = n j; what = told j; state = u j })) ∙ sym (kept_end (puts_of key.node v g ls) e (fold_from v (base_state v g ls) 0 (puts_of key.node v g ls ++ e ∷ [])))

    by : (b : Bool) → same_row (row_at key.node v g) q ≡ b → cond b (Some (record { place = i; what = w; state = t })) (lookup (is_row_key q) es) ≡ kept_row (grown b e ls q) (grown_state b e ls q)
    by true same = here_is ∙ ap (λ (z : RowAt). kept_row (grown true e ls z) (grown_state true e ls z)) (row_is key.node v g q same)
    by false same = are q

-- ---- all of them, as the code has them

pub none_kept : (s : ListStates) → AreWholeLists [] s.lists → AreListBases [] s.bases → AreRowStates [] s.rows → s.empty ≡ empty_state → AreListStates [] s
none_kept s lists bases rows empty = record { lists = lists; bases = bases; rows = rows; empty = empty }

pub cut_is : (g : List ℕ) (b : BaseLine) (begun s : GroupState) (xs front : List Entry) (ls : List Line) → begun ≡ base_state b.old g ls → xs ≡ list_of b.old g ls → front ≡ take b.len xs → s ≡ fold_from b.old begun 0 front → s ≡ cut_of b g ls
unfolding cut_of
cut_is g b begun s xs front ls at list first is = is ∙ (λ i. fold_from b.old (at i) 0 ((first ∙ ap (take b.len) list) i))

pub bases_put : (n : ℕ) (v : ViewId) (g : List ℕ) (i : ℕ) (e : Entry) (es : List (ListKey × ListBase)) (ls : List Line) → AreListBases ls es → AreListBases (line.Put n v g i e ∷ ls) es
unfolding base_of base_after base_state
bases_put n v g i e es ls are q = are q

pub base_with_failed : (n : ℕ) (v : ViewId) (g : List ℕ) (b : BaseLine) (s : GroupState) (ls : List Line) → base_of v g ls ≡ None → s ≡ cut_of b g ls → record s { failed = b.failed } ≡ base_state v g (line.Base n v g b ∷ ls)
unfolding base_state cut_of
base_with_failed n v g b s ls none is =
    ap (λ (z : GroupState). record z { failed = b.failed }) is
    ∙ sym (λ i. elim (list_self v g i && is_none (none i)) [ true ↦ record (fold_from b.old (base_state b.old g ls) 0 (take b.len (list_of b.old g ls))) { failed = b.failed } | false ↦ base_state v g ls ])

pub none_begun : (es : List (ListKey × ListBase)) → es ≡ [] → AreListBases [] es
unfolding base_of kept_base
none_begun es e q = ap (lookup (is_list_key q.view q.group)) e

pub none_listed : (es : List (ListKey × List Entry)) → es ≡ [] → AreWholeLists [] es
unfolding entries_in list_of
none_listed es e q = ap (λ z. entries_in (lookup (is_list_key q.view q.group) z)) e

pub none_put : (es : List (RowKey × RowState)) → es ≡ [] → AreRowStates [] es
unfolding puts_of kept_row
none_put es e r = ap (lookup (is_row_key r)) e
