-- Lists that are folded anew where a first base line comes behind puts.
use Rattle.std.proofs.Common.{◌≡◌, ℕ, suc, ◌+◌, ◌<◌, ◌≤◌, Bool, true, false, List, [], ◌∷◌, ◌++◌, length, take, Option, Some, None, refl, sym, ◌∙◌, ap, arith, cond}
use Rattle.std.specs.Prelude.{◌==◌, ◌&&◌, is_none, nat_le, nat_lt, if◌then◌else◌}
use Rattle.std.specs.List.{list_all}
use Rattle.std.specs.Map.{lookup, KeepsOthers}
use Rattle.std.specs.Str.{bytes_eq}
use Rattle.std.proofs.lemmas.Bool.Decides.{nat_tests}
use Rattle.rsct_packet.specs.declared.ids.ProviderId.{ProviderId}
use Rattle.rsct_packet.specs.declared.ids.ViewId.{ViewId}
use Rattle.rsct_packet.specs.Ids.{same_view}
use Rattle.rsct_packet.specs.Mask.{is_node}
use Rattle.proposal_core.specs.declared.entry.Entry.{Entry}
use Rattle.proposal_core.specs.declared.group_state.GroupState.{GroupState}
use Rattle.value_words.specs.Words.{split_on}
use Rattle.entry_words.specs.Wording.{entry_text}
use Rattle.word_laws.specs.Entries.{entry_read}
use Rattle.word_laws.specs.Ranges.{is_entry, is_view}
use Rattle.word_laws.specs.Values.{spaced}
use Rattle.word_laws.proofs.EntryLaws.{entry_back}
use Rattle.word_laws.proofs.ValueLaws.{and_parts}
use Rattle.rsct_packet.specs.Text.{is_name_of}
use Rattle.word_laws.specs.Ranges.{is_u32}
use Rattle.record_lines.specs.declared.line.BaseLine.{BaseLine}
use Rattle.record_lines.specs.declared.line.Line.{Line}
use Rattle.record_lines.specs.declared.line.Line.TheVariants as line
use Rattle.record_lines.specs.Fits.{entry_holds, fits_entry, line_fits}
use Rattle.record_lines.specs.Writing.{base_words}
use Rattle.run_audit.specs.declared.broken.Rule.TheVariants as rule
use Rattle.audit_states.specs.declared.list_bases.ListBase.{ListBase}
use Rattle.audit_states.specs.declared.list_states.ListStates.{ListStates}
use Rattle.run_audit.specs.declared.lists.ListKey.{ListKey}
use Rattle.run_audit.specs.declared.lists.RowKey.{RowKey}
use Rattle.audit_states.specs.declared.row_states.RowState.{RowState}
use Rattle.run_audit.specs.Based.{ListAt}
use Rattle.run_audit.specs.Fronts.{is_front}
use Rattle.run_audit.specs.Keys.{view_key, same_view_key}
use Rattle.run_audit.specs.Kept.{Keep}
use Rattle.run_audit.specs.Lists.{RowAt, is_list_key, is_row_key, same_list_key, same_row_key}
use Rattle.run_audit.specs.Past.{base_after, base_of, base_state, fold_from, is_list, list_after, list_of, or_base, puts_after, puts_of, state_of}
use Rattle.audit_states.specs.States.{AllFit, AreListBases, AreListStates, AreRowStates, AreWholeLists, cut_of, kept_base, kept_row, last_of, refolded}
use Rattle.run_audit.specs.Table.{same_entry, what_of}
use Rattle.run_audit.proofs.BasedLaws.{list_found, list_put, same_list}
use Rattle.run_audit.proofs.FrontLaws.{fronts}
use Rattle.run_audit.proofs.KeyLaws.{equal, view_key_same, view_words}
use Rattle.run_audit.proofs.ListLaws.{list_same, row_test, text_same}
use Rattle.run_audit.proofs.PlaceLaws.{list_self}
use Rattle.audit_states.proofs.StateLaws.{base_with_failed, both_keep, list_is, list_words}

-- ---- what stands in lists, by the types of lines

both : (a b : Bool) → a ≡ true → b ≡ true → (a && b) ≡ true
both a b e f = rw (e, f) refl

put_node : (m : ℕ) (u : ViewId) (h : List ℕ) (i : ℕ) (e : Entry) → line_fits (line.Put m u h i e) ≡ true → is_node m ≡ true
unfolding line_fits
put_node m u h i e k = (and_parts (is_node m) (is_view u && (is_name_of h && (is_u32 i && fits_entry e))) k).0

put_entry : (m : ℕ) (u : ViewId) (h : List ℕ) (i : ℕ) (e : Entry) → line_fits (line.Put m u h i e) ≡ true → is_entry e ≡ true
unfolding line_fits fits_entry
put_entry m u h i e k =
    let a = and_parts (is_node m) (is_view u && (is_name_of h && (is_u32 i && (is_entry e && entry_holds e)))) k in
    let b = and_parts (is_view u) (is_name_of h && (is_u32 i && (is_entry e && entry_holds e))) a.1 in
    let c = and_parts (is_name_of h) (is_u32 i && (is_entry e && entry_holds e)) b.1 in
    let d = and_parts (is_u32 i) (is_entry e && entry_holds e) c.1 in
    (and_parts (is_entry e) (entry_holds e) d.1).0

all_more : (es : List Entry) (e : Entry) → list_all is_entry es ≡ true → is_entry e ≡ true → list_all is_entry (es ++ e ∷ []) ≡ true
all_more [] e h k = both (is_entry e) true k refl
all_more (x ∷ es) e h k = let p = and_parts (is_entry x) (list_all is_entry es) h in both (is_entry x) (list_all is_entry (es ++ e ∷ [])) p.0 (all_more es e p.1 k)

more_if : (t : Bool) (es : List Entry) (e : Entry) → list_all is_entry es ≡ true → is_entry e ≡ true → list_all is_entry (if t then es ++ e ∷ [] else es) ≡ true
more_if true es e h k = all_more es e h k
more_if false es e h k = h

list_fits : (v : ViewId) (g : List ℕ) (ls : List Line) → AllFit ls → list_all is_entry (list_of v g ls) ≡ true
unfolding list_of list_after
list_fits v g [] f = refl
list_fits v g (line.Put m u h i e ∷ ls) f = more_if (is_list v g u h && i == length (list_of v g ls)) (list_of v g ls) e (list_fits v g ls f.1) (put_entry m u h i e f.0)
list_fits v g (_ ∷ ls) f = list_fits v g ls f.1

puts_fit : (n : ℕ) (v : ViewId) (g : List ℕ) (ls : List Line) → AllFit ls → list_all is_entry (puts_of n v g ls) ≡ true
unfolding puts_of puts_after
puts_fit n v g [] f = refl
puts_fit n v g (line.Put m u h i e ∷ ls) f = more_if (m == n && is_list v g u h) (puts_of n v g ls) e (puts_fit n v g ls f.1) (put_entry m u h i e f.0)
puts_fit n v g (_ ∷ ls) f = puts_fit n v g ls f.1

-- who is no node puts nothing
no_puts : (n : ℕ) (v : ViewId) (g : List ℕ) (ls : List Line) → AllFit ls → is_node n ≡ false → puts_of n v g ls ≡ []
unfolding puts_of puts_after
no_puts n v g [] f e = refl
no_puts n v g (line.Put m u h i x ∷ ls) f e = by (m == n) refl (no_puts n v g ls f.1 e)
  where
    by : (t : Bool) → (m == n) ≡ t → puts_of n v g ls ≡ [] → (if t && is_list v g u h then puts_of n v g ls ++ x ∷ [] else puts_of n v g ls) ≡ []
    by true same old =
        let a : is_node m ≡ true = put_node m u h i x f.0 in
        let b : is_node m ≡ false = ap is_node (equal m n same) ∙ e in
        absurd (let c : true ≡ false = sym a ∙ b in cc)
    by false other old = old
no_puts n v g (_ ∷ ls) f e = no_puts n v g ls f.1 e

-- entries that fit are the same where they are written the same
entries_same : (e f : Entry) → is_entry e ≡ true → is_entry f ≡ true → same_entry e f ≡ true → e ≡ f
unfolding same_entry
entries_same e f a b s =
    let text : entry_text e ≡ entry_text f = text_same (entry_text e) (entry_text f) s in
    let back : Some e ≡ Some f = sym (entry_back e a) ∙ ap (λ z. entry_read (split_on 32 z)) text ∙ entry_back f b in
    cc

front_is : (xs ys : List Entry) → is_front xs ys ≡ true → list_all is_entry xs ≡ true → list_all is_entry ys ≡ true → take (length xs) ys ≡ xs
front_is [] ys h a b = refl
front_is (x ∷ xs) [] h a b = absurd cc
front_is (x ∷ xs) (y ∷ ys) h a b =
    let p = and_parts (same_entry x y) (is_front xs ys) h in
    let q = and_parts (is_entry x) (list_all is_entry xs) a in
    let r = and_parts (is_entry y) (list_all is_entry ys) b in
    λ i. sym (entries_same x y q.0 r.0 p.0) i ∷ front_is xs ys p.1 q.1 r.1 i

pub puts_are : (n : ℕ) (v : ViewId) (g : List ℕ) (ls : List Line) → AllFit ls → Keep rule.Place ls → Keep rule.Entry ls → take (length (puts_of n v g ls)) (list_of v g ls) ≡ puts_of n v g ls
puts_are n v g ls f p e = front_is (puts_of n v g ls) (list_of v g ls) (fronts ls p e n v g) (puts_fit n v g ls f) (list_fits v g ls f)

-- ---- one row and all of a list

key_parts : (a b : RowKey) → same_row_key a b ≡ true → (a.node ≡ b.node) × (a.list.view ≡ b.list.view) × (a.list.group.items ≡ b.list.group.items)
key_parts a b e =
    let x = and_parts (a.node == b.node) (same_list_key a.list b.list) e in
    let y = and_parts (same_view_key a.list.view b.list.view) (bytes_eq a.list.group.items b.list.group.items) x.1 in
    (equal a.node b.node x.0, view_key_same a.list.view b.list.view y.0, text_same a.list.group.items b.list.group.items y.1)

key_finds : (q : RowAt) (key : RowKey) (es : List (RowKey × RowState)) → is_row_key q key ≡ true → lookup (is_row_key q) es ≡ lookup (same_row_key key) es
key_finds q key es e = λ i. lookup (λ (y : RowKey). row_test q key y e i) es

key_apart : (q : RowAt) (key k : RowKey) → is_row_key q key ≡ false → same_row_key key k ≡ true → is_row_key q k ≡ false
key_apart q key k e f = let p = key_parts key k f in (λ i. (q.node == sym p.0 i) && (same_view_key (view_key q.view) (sym p.1 i) && bytes_eq q.group (sym p.2 i))) ∙ e

module _ (key : RowKey) (v : ViewId) (s : GroupState) (xs : List Entry) (es fs : List (RowKey × RowState)) where
  pub row_refolded : (row new : RowState) (ms : List (RowKey × RowState)) → Some row ≡ lookup (same_row_key key) es → KeepsOthers same_row_key (same_row_key key) es ms → Some new ≡ refolded v s xs (Some row) → lookup (same_row_key key) fs ≡ Some new → KeepsOthers same_row_key (same_row_key key) ms fs
      → (q : RowAt) → lookup (is_row_key q) fs ≡ cond (is_row_key q key) (refolded v s xs (lookup (is_row_key q) es)) (lookup (is_row_key q) es)
  unfolding KeepsOthers
  row_refolded row new ms was first is put later q = by (is_row_key q key) refl
    where
      by : (t : Bool) → is_row_key q key ≡ t → lookup (is_row_key q) fs ≡ cond t (refolded v s xs (lookup (is_row_key q) es)) (lookup (is_row_key q) es)
      by true e = key_finds q key fs e ∙ put ∙ is ∙ ap (refolded v s xs) (was ∙ sym (key_finds q key es e))
      by false e = both_keep same_row_key (same_row_key key) es ms fs first later (is_row_key q) (row_test q) (λ k f. key_apart q key k e f)

  pub none_refolded : None ≡ lookup (same_row_key key) es → fs ≡ es → (q : RowAt) → lookup (is_row_key q) fs ≡ cond (is_row_key q key) (refolded v s xs (lookup (is_row_key q) es)) (lookup (is_row_key q) es)
  unfolding refolded
  none_refolded none same q = ap (lookup (is_row_key q)) same ∙ by (is_row_key q key) refl
    where
      by : (t : Bool) → is_row_key q key ≡ t → lookup (is_row_key q) es ≡ cond t (refolded v s xs (lookup (is_row_key q) es)) (lookup (is_row_key q) es)
      by true e = let n : lookup (is_row_key q) es ≡ None = key_finds q key es e ∙ sym none in n ∙ sym (ap (refolded v s xs) n)
      by false e = refl

-- the rows of the list whose nodes are from 1 to below k are folded anew
abbrev pub AreRefolded : ViewId → List ℕ → GroupState → List Entry → ℕ → List (RowKey × RowState) → List (RowKey × RowState) → Type 0
AreRefolded v g s xs k es fs = (q : RowAt) → lookup (is_row_key q) fs ≡ cond (is_list v g q.view q.group && (nat_le 1 q.node && nat_lt q.node k)) (refolded v s xs (lookup (is_row_key q) es)) (lookup (is_row_key q) es)

pub none_yet : (v : ViewId) (g : List ℕ) (s : GroupState) (xs : List Entry) (es : List (RowKey × RowState)) → AreRefolded v g s xs 1 es es
none_yet v g s xs es q = by (is_list v g q.view q.group) (nat_le 1 q.node) (nat_lt q.node 1) refl refl
  where
    by : (t a b : Bool) → nat_le 1 q.node ≡ a → nat_lt q.node 1 ≡ b → lookup (is_row_key q) es ≡ cond (t && (a && b)) (refolded v s xs (lookup (is_row_key q) es)) (lookup (is_row_key q) es)
    by false a b e f = refl
    by true false b e f = refl
    by true true false e f = refl
    by true true true e f = absurd (let x : 1 ≤ q.node = grind (arith, nat_tests, e) in let y : q.node < 1 = grind (arith, nat_tests, f) in omega (arith, x, y))

below_same : (n k : ℕ) → (n == k) ≡ false → nat_lt n k ≡ nat_lt n (k + 1)
below_same n k e = by (nat_lt n k) (nat_lt n (k + 1)) refl refl
  where
    by : (a b : Bool) → nat_lt n k ≡ a → nat_lt n (k + 1) ≡ b → a ≡ b
    by true true f g = refl
    by false false f g = refl
    by true false f g = grind (arith, nat_tests)
    by false true f g = grind (arith, nat_tests)

one_step : (v : ViewId) (s : GroupState) (xs : List Entry) (n k : ℕ) (o : Option RowState) (t e : Bool) → 1 ≤ k → (n == k) ≡ e
    → cond (e && t) (refolded v s xs (cond (t && (nat_le 1 n && nat_lt n k)) (refolded v s xs o) o)) (cond (t && (nat_le 1 n && nat_lt n k)) (refolded v s xs o) o) ≡ cond (t && (nat_le 1 n && nat_lt n (k + 1))) (refolded v s xs o) o
one_step v s xs n k o false true low f = refl
one_step v s xs n k o false false low f = refl
one_step v s xs n k o true true low f =
    let a : nat_le 1 n ≡ true = grind (arith, nat_tests) in
    let b : nat_lt n k ≡ false = grind (arith, nat_tests) in
    let c : nat_lt n (k + 1) ≡ true = grind (arith, nat_tests) in
    (λ i. refolded v s xs (cond (a i && b i) (refolded v s xs o) o)) ∙ sym (λ i. cond (a i && c i) (refolded v s xs o) o)
one_step v s xs n k o true false low f = λ i. cond (nat_le 1 n && below_same n k f i) (refolded v s xs o) o

abbrev refolded_below : ViewId → List ℕ → GroupState → List Entry → ℕ → RowAt → Option RowState → Option RowState
refolded_below v g s xs k q o = cond ((same_view q.view v && bytes_eq q.group g) && (nat_le 1 q.node && nat_lt q.node k)) (refolded v s xs o) o

pub one_refolded : (v : ViewId) (g : List ℕ) (s : GroupState) (xs : List Entry) (k : ℕ) (key : RowKey) (es ms fs : List (RowKey × RowState)) → 1 ≤ k → key.node ≡ k → key.list.view ≡ view_key v → key.list.group.items ≡ g → AreRefolded v g s xs k es ms
    → ((q : RowAt) → lookup (is_row_key q) fs ≡ cond (is_row_key q key) (refolded v s xs (lookup (is_row_key q) ms)) (lookup (is_row_key q) ms)) → AreRefolded v g s xs (k + 1) es fs
unfolding is_list
one_refolded v g s xs k key es ms fs low a b c old new q =
    new q
    ∙ (λ i. cond ((q.node == a i) && (same_view_key (view_key q.view) (b i) && bytes_eq q.group (c i))) (refolded v s xs (old q i)) (old q i))
    ∙ ap (λ t. cond ((q.node == k) && (t && bytes_eq q.group g)) (refolded v s xs (refolded_below v g s xs k q (lookup (is_row_key q) es))) (refolded_below v g s xs k q (lookup (is_row_key q) es))) (view_words q.view v)
    ∙ one_step v s xs q.node k (lookup (is_row_key q) es) (same_view q.view v && bytes_eq q.group g) (q.node == k) low refl

-- ---- after a base line

list_turn : (v u : ViewId) (g h : List ℕ) → is_list v g u h ≡ false → is_list u h v g ≡ false
list_turn v u g h e = by (is_list u h v g) refl
  where
    by : (t : Bool) → is_list u h v g ≡ t → t ≡ false
    by false f = refl
    by true f =
        let p = list_same u v h g f in
        let s : is_list v g u h ≡ true = (λ i. is_list (p.0 i) (p.1 i) u h) ∙ list_self u h in
        sym s ∙ e

row_again : (v : ViewId) (s t : GroupState) (xs es : List Entry) → take (length es) xs ≡ es → refolded v s xs (kept_row es t) ≡ kept_row es (fold_from v s 0 es)
unfolding refolded kept_row
row_again v s t xs [] e = refl
row_again v s t xs (x ∷ es) e =
    let n : length es + 1 ≡ suc (length es) = omega arith in
    λ i. Some (record { place = length es; what = what_of (last_of x es); state = fold_from v s 0 ((ap (λ k. take k xs) n ∙ e) i) })

below_33 : (n : ℕ) → (nat_le 1 n && nat_lt n 33) ≡ is_node n
below_33 n = ap (λ t. nat_le 1 n && t) (by (nat_lt n 33) (nat_le n 32) refl refl)
  where
    by : (a b : Bool) → nat_lt n 33 ≡ a → nat_le n 32 ≡ b → a ≡ b
    by true true f g = refl
    by false false f g = refl
    by true false f g = grind (arith, nat_tests)
    by false true f g = grind (arith, nat_tests)

pub rows_based : (n : ℕ) (v : ViewId) (g : List ℕ) (b : BaseLine) (s : GroupState) (xs : List Entry) (es fs : List (RowKey × RowState)) (ls : List Line) → AreRefolded v g s xs 33 es fs → AreRowStates ls es → AllFit ls → Keep rule.Place ls → Keep rule.Entry ls → xs ≡ list_of v g ls → s ≡ base_state v g (line.Base n v g b ∷ ls)
    → AreRowStates (line.Base n v g b ∷ ls) fs
unfolding puts_of puts_after state_of base_state refolded kept_row fold_from cut_of
rows_based n v g b s xs es fs ls new are fit place entry list is q =
    new q ∙ by (is_list v g q.view q.group) (is_node q.node) refl refl
  where
    none_there : (c : Bool) (o : Option RowState) → o ≡ None → cond c (refolded v s xs o) o ≡ None
    none_there true None e = refl
    none_there false None e = refl
    none_there c (Some x) e = absurd cc

    none_kept : (zs : List Entry) (t : GroupState) → zs ≡ [] → kept_row zs t ≡ None
    none_kept [] t e = refl
    none_kept (z ∷ zs) t e = absurd cc

    by : (t m : Bool) → is_list v g q.view q.group ≡ t → is_node q.node ≡ m
        → cond (t && (nat_le 1 q.node && nat_lt q.node 33)) (refolded v s xs (lookup (is_row_key q) es)) (lookup (is_row_key q) es)
        ≡ kept_row (puts_of q.node q.view q.group ls) (fold_from q.view (base_state q.view q.group (line.Base n v g b ∷ ls)) 0 (puts_of q.node q.view q.group ls))
    by false m e f =
        are q
        ∙ sym (ap (λ t. kept_row (puts_of q.node q.view q.group ls) (fold_from q.view (elim (t && is_none (base_of q.view q.group ls)) [ true ↦ record (cut_of b q.group ls) { failed = b.failed } | false ↦ base_state q.view q.group ls ]) 0 (puts_of q.node q.view q.group ls))) (list_turn v q.view g q.group e))
    by true false e f =
        let p : puts_of q.node q.view q.group ls ≡ [] = no_puts q.node q.view q.group ls fit f in
        none_there (nat_le 1 q.node && nat_lt q.node 33) (lookup (is_row_key q) es) (are q ∙ none_kept (puts_of q.node q.view q.group ls) (state_of q.node q.view q.group ls) p)
        ∙ sym (none_kept (puts_of q.node q.view q.group ls) (fold_from q.view (base_state q.view q.group (line.Base n v g b ∷ ls)) 0 (puts_of q.node q.view q.group ls)) p)
    by true true e f =
        let p = list_same v q.view g q.group e in
        let front : take (length (puts_of q.node q.view q.group ls)) xs ≡ puts_of q.node q.view q.group ls = ap (take (length (puts_of q.node q.view q.group ls))) (list ∙ sym (λ i. list_of (p.0 i) (p.1 i) ls)) ∙ puts_are q.node q.view q.group ls fit place entry in
        ap (λ t. cond t (refolded v s xs (lookup (is_row_key q) es)) (lookup (is_row_key q) es)) (below_33 q.node ∙ f)
        ∙ ap (refolded v s xs) (are q)
        ∙ row_again v s (state_of q.node q.view q.group ls) xs (puts_of q.node q.view q.group ls) front
        ∙ (λ i. kept_row (puts_of q.node q.view q.group ls) (fold_from (sym p.0 i) ((is ∙ sym (λ j. base_state (p.0 j) (p.1 j) (line.Base n v g b ∷ ls))) i) 0 (puts_of q.node q.view q.group ls)))

pub lists_based : (n : ℕ) (v : ViewId) (g : List ℕ) (b : BaseLine) (es : List (ListKey × List Entry)) (ls : List Line) → AreWholeLists ls es → AreWholeLists (line.Base n v g b ∷ ls) es
unfolding list_of list_after
lists_based n v g b es ls are q = are q

-- what is there stays, where the list has a base line
pub base_stays : (n : ℕ) (v : ViewId) (g : List ℕ) (b : BaseLine) (u : ViewId) (h : List ℕ) (ls : List Line) → (is_list u h v g ≡ true → (x : BaseLine) × (base_of u h ls ≡ Some x)) → (base_of u h (line.Base n v g b ∷ ls) ≡ base_of u h ls) × (base_state u h (line.Base n v g b ∷ ls) ≡ base_state u h ls)
unfolding base_of base_after or_base base_state
base_stays n v g b u h ls some = by (is_list u h v g) (base_of u h ls) some
  where
    by : (t : Bool) (o : Option BaseLine) → (t ≡ true → (x : BaseLine) × (o ≡ Some x))
        → ((if t then or_base o b else o) ≡ o) × (elim (t && is_none o) [ true ↦ record (fold_from b.old (base_state b.old h ls) 0 (take b.len (list_of b.old h ls))) { failed = b.failed } | false ↦ base_state u h ls ] ≡ base_state u h ls)
    by false o k = (refl, refl)
    by true None k = absurd (let p = k refl in let e : None ≡ Some p.0 = p.1 in cc)
    by true (Some x) k = (refl, refl)

some_base : (o : Option BaseLine) (s : GroupState) (y : ListBase) → kept_base o s ≡ Some y → (x : BaseLine) × (o ≡ Some x)
unfolding kept_base
some_base None s y e = absurd cc
some_base (Some x) s y e = (x, refl)

pub no_base_kept : (o : Option BaseLine) (s : GroupState) → kept_base o s ≡ None → o ≡ None
unfolding kept_base
no_base_kept None s e = refl
no_base_kept (Some x) s e = absurd cc

module _ (n : ℕ) (v : ViewId) (g : List ℕ) (b : BaseLine) (ls : List Line) where
  pub based_again : (y : ListBase) (key : ListKey) (s : ListStates) → key.view ≡ view_key v → key.group.items ≡ g → lookup (same_list_key key) s.bases ≡ Some y → AreListStates ls s → AreListStates (line.Base n v g b ∷ ls) s
  unfolding puts_of puts_after state_of
  based_again y key s k1 k2 there are =
      let some : (q : ListAt) → is_list q.view q.group v g ≡ true → (x : BaseLine) × (base_of q.view q.group ls ≡ Some x) =
      λ q e. (let p = list_same q.view v q.group g e in
      some_base (base_of q.view q.group ls) (base_state q.view q.group ls) y (sym (are.bases q) ∙ sym (λ i. lookup (is_list_key (p.0 i) (p.1 i)) s.bases) ∙ sym (list_found key v g s.bases k1 k2) ∙ there)) in
      record {
        lists = lists_based n v g b s.lists ls are.lists;
        bases = λ q. are.bases q ∙ sym (λ i. kept_base ((base_stays n v g b q.view q.group ls (some q)).0 i) ((base_stays n v g b q.view q.group ls (some q)).1 i));
        rows = λ r. are.rows r ∙ sym (λ i. kept_row (puts_of r.node r.view r.group ls) (fold_from r.view ((base_stays n v g b r.view r.group ls (some (record { view = r.view; group = r.group }))).1 i) 0 (puts_of r.node r.view r.group ls)));
        empty = are.empty;
      }

  pub base_comes : (key : ListKey) (x : ListBase) (es fs : List (ListKey × ListBase)) → key.view ≡ view_key v → key.group.items ≡ g → lookup (same_list_key key) es ≡ None → x.text ≡ spaced (base_words b) → x.state ≡ base_state v g (line.Base n v g b ∷ ls)
      → lookup (same_list_key key) fs ≡ Some x → KeepsOthers same_list_key (same_list_key key) es fs → AreListBases ls es → AreListBases (line.Base n v g b ∷ ls) fs
  unfolding base_of base_after or_base kept_base
  base_comes key x es fs k1 k2 none text state put others are q = list_put (record { view = v; group = g }) q key x es fs k1 k2 put others ∙ by (same_list (record { view = v; group = g }) q) refl
    where
      kept_is : Some (record { text = spaced (base_words b); state = base_state v g (line.Base n v g b ∷ ls) }) ≡ kept_base (Some b) (base_state v g (line.Base n v g b ∷ ls))
      kept_is = refl

      here_is : Some x ≡ kept_base (base_of v g (line.Base n v g b ∷ ls)) (base_state v g (line.Base n v g b ∷ ls))
      here_is =
          let o : base_of v g ls ≡ None = no_base_kept (base_of v g ls) (base_state v g ls) (sym (are (record { view = v; group = g })) ∙ sym (list_found key v g es k1 k2) ∙ none) in
          let f : base_of v g (line.Base n v g b ∷ ls) ≡ Some b = (λ i. if list_self v g i then or_base (o i) b else base_of v g ls) in
          (λ i. Some (record { text = text i; state = state i })) ∙ kept_is ∙ sym (ap (λ z. kept_base z (base_state v g (line.Base n v g b ∷ ls))) f)

      by : (t : Bool) → same_list (record { view = v; group = g }) q ≡ t → cond t (Some x) (lookup (is_list_key q.view q.group) es) ≡ kept_base (base_of q.view q.group (line.Base n v g b ∷ ls)) (base_state q.view q.group (line.Base n v g b ∷ ls))
      by true e = here_is ∙ ap (λ (z : ListAt). kept_base (base_of z.view z.group (line.Base n v g b ∷ ls)) (base_state z.view z.group (line.Base n v g b ∷ ls))) (list_is v g q e)
      by false e =
          let other : is_list q.view q.group v g ≡ false = sym (list_words v g q) ∙ e in
          let stay = base_stays n v g b q.view q.group ls (λ f. absurd (let c : true ≡ false = sym f ∙ other in cc)) in
          are q ∙ sym (λ i. kept_base (stay.0 i) (stay.1 i))

-- the state that a list begins with, from its first base line on
pub first_base_state : (n : ℕ) (v : ViewId) (g : List ℕ) (b : BaseLine) (key : ListKey) (s t : GroupState) (failed : List ProviderId) (es : List (ListKey × ListBase)) (ls : List Line) → key.view ≡ view_key v → key.group.items ≡ g → lookup (same_list_key key) es ≡ None → AreListBases ls es → s ≡ cut_of b g ls → failed ≡ b.failed
    → t ≡ record s { failed = failed } → t ≡ base_state v g (line.Base n v g b ∷ ls)
first_base_state n v g b key s t failed es ls k1 k2 none are cut f is =
    let o : base_of v g ls ≡ None = no_base_kept (base_of v g ls) (base_state v g ls) (sym (are (record { view = v; group = g })) ∙ sym (list_found key v g es k1 k2) ∙ none) in
    is ∙ (λ i. record s { failed = f i }) ∙ base_with_failed n v g b s ls o cut
