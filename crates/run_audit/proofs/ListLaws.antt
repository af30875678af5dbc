-- The last puts of nodes say what the lines say of their lists.
use Rattle.std.proofs.Common.{◌≡◌, ℕ, ◌+◌, Bool, true, false, List, [], ◌∷◌, ◌++◌, length, Option, Some, None, refl, sym, ◌∙◌, ap, cond, length-append}
use Rattle.std.specs.Prelude.{◌==◌, ◌&&◌, if◌then◌else◌}
use Rattle.std.specs.Map.{lookup, IsKeyTest, KeepsOthers}
use Rattle.std.specs.Option.{option_map}
use Rattle.std.specs.Str.{bytes_eq}
use Rattle.std.proofs.lemmas.Slice.Eq.{bytes_eq-Decides}
use Rattle.rsct_packet.specs.declared.ids.ViewId.{ViewId}
use Rattle.rsct_packet.specs.Ids.{same_view}
use Rattle.proposal_core.specs.declared.entry.Entry.{Entry}
use Rattle.word_laws.proofs.ValueLaws.{and_parts}
use Rattle.record_lines.specs.declared.line.Line.{Line}
use Rattle.record_lines.specs.declared.line.Line.TheVariants as line
use Rattle.run_audit.specs.declared.broken.Rule.TheVariants as rule
use Rattle.run_audit.specs.declared.lists.LastPut.{LastPut}
use Rattle.run_audit.specs.declared.lists.RowKey.{RowKey}
use Rattle.run_audit.specs.Keys.{view_key, same_view_key}
use Rattle.run_audit.specs.Kept.{Keep, fault_of, or_new, last_given}
use Rattle.run_audit.specs.Lists.{RowAt, is_list_key, is_row_key, same_row_key, last_put_at, AreRows, row_line, is_next_place}
use Rattle.run_audit.specs.Past.{last_no, view_of, is_at, is_list, puts_after, puts_of}
use Rattle.run_audit.specs.Table.{holds, with_of, is_put_of}
use Rattle.run_audit.proofs.KeyLaws.{equal, view_key_same, view_same, view_words}
use Rattle.run_audit.proofs.KeptLaws.{last_line, last_noted}
use Rattle.run_audit.proofs.FoundLaws.{put_found}

pub text_same : (a b : List ℕ) → bytes_eq a b ≡ true → a ≡ b
text_same a b e = (bytes_eq-Decides a b).0 e

pub list_same : (v u : ViewId) (g h : List ℕ) → is_list v g u h ≡ true → (u ≡ v) × (h ≡ g)
unfolding is_list
list_same v u g h e = let p = and_parts (same_view u v) (bytes_eq h g) e in (view_same u v p.0, text_same h g p.1)

-- ---- places and counts

-- where a put that keeps the rule on places stands, in the words of another node and list that are the same
pub place_is : (n m : ℕ) (v u : ViewId) (g h : List ℕ) (i : ℕ) (e : Entry) (ls : List Line) → holds rule.Place (line.Put m u h i e) ls ≡ true → (m == n) ≡ true → is_list v g u h ≡ true → i ≡ length (puts_of n v g ls)
unfolding holds
place_is n m v u g h i e ls k a t =
    let p = and_parts (is_at u (view_of m ls)) (i == length (puts_of m u h ls)) k in
    let s = list_same v u g h t in
    let same : m ≡ n = equal m n a in
    equal i (length (puts_of m u h ls)) p.1 ∙ (λ z. length (puts_of (same z) (s.0 z) (s.1 z) ls))

unfoldable pub next_place : Option LastPut → ℕ
next_place None = 0
next_place (Some x) = x.place + 1

pub count_is : (r : RowAt) (ls : List Line) → Keep rule.Place ls → length (puts_of r.node r.view r.group ls) ≡ next_place (last_given (last_put_at r) ls)
unfolding puts_of puts_after next_place
count_is r [] k = refl
count_is r (line.Put m u h i e ∷ ls) k = by (m == r.node) (is_list r.view r.group u h) refl refl (count_is r ls k.1)
  where
    by : (a t : Bool) → (m == r.node) ≡ a → is_list r.view r.group u h ≡ t → length (puts_of r.node r.view r.group ls) ≡ next_place (last_given (last_put_at r) ls)
        → length (if a && t then puts_of r.node r.view r.group ls ++ e ∷ [] else puts_of r.node r.view r.group ls) ≡ next_place (or_new (cond (a && t) (Some (record { place = i; number = length ls + 1 })) None) (last_given (last_put_at r) ls))
    by true true x y old =
        let at : i ≡ length (puts_of r.node r.view r.group ls) = place_is r.node m r.view u r.group h i e ls k.0 x y in
        length-append (puts_of r.node r.view r.group ls) (e ∷ []) ∙ ap (λ z. z + 1) (sym at)
    by true false x y old = old
    by false t x y old = old
count_is r (_ ∷ ls) k = count_is r ls k.1

next_is : (o : Option LastPut) (i : ℕ) → (i == next_place o) ≡ is_next_place o i
unfolding next_place is_next_place
next_is None i = refl
next_is (Some x) i = refl

given_number : (r : RowAt) (l : Line) (k : ℕ) → option_map (λ (x : LastPut). x.number) (last_put_at r l k) ≡ cond (is_put_of r.node r.view r.group l) (Some k) None
unfolding is_put_of
given_number r (line.Put m u h i e) k = by ((m == r.node) && is_list r.view r.group u h)
  where
    by : (t : Bool) → option_map (λ (x : LastPut). x.number) (cond t (Some (record { place = i; number = k })) None) ≡ cond t (Some k) None
    by true = refl
    by false = refl
given_number r _ k = refl

number_is : (o : Option LastPut) → option_map (λ (x : LastPut). x.number) o ≡ row_line o
unfolding row_line
number_is None = refl
number_is (Some x) = refl

pub row_line_is : (r : RowAt) (ls : List Line) → last_no (is_put_of r.node r.view r.group) ls ≡ row_line (last_given (last_put_at r) ls)
row_line_is r ls = last_line (is_put_of r.node r.view r.group) (last_put_at r) (λ (x : LastPut). x.number) (given_number r) ls ∙ number_is (last_given (last_put_at r) ls)

-- ---- as the code has them

-- the key of a row finds it
pub row_found : {V : Type 0} (key : RowKey) (r : RowAt) (es : List (RowKey × V)) → key.node ≡ r.node → key.list.view ≡ view_key r.view → key.list.group.items ≡ r.group → lookup (same_row_key key) es ≡ lookup (is_row_key r) es
row_found key r es a b c = λ i. lookup (λ (q : RowKey). (a i == q.node) && (same_view_key (b i) q.list.view && bytes_eq (c i) q.list.group.items)) es

module _ (n : ℕ) (v : ViewId) (g : List ℕ) (i : ℕ) (e : Entry) (at : Option ViewId) (o : Option LastPut) (ls : List Line) where
  place_fault_is : o ≡ last_given (last_put_at (record { node = n; view = v; group = g })) ls → at ≡ view_of n ls → Keep rule.Place ls
      → fault_of rule.Place (line.Put n v g i e) ls ≡ (if is_at v at && is_next_place o i then None else Some (record { rule = rule.Place; with_line = row_line o }))
  unfolding holds with_of
  place_fault_is f w k =
      let r : RowAt = record { node = n; view = v; group = g } in
      let a : (i == length (puts_of n v g ls)) ≡ is_next_place o i = ap (λ z. i == z) (count_is r ls k ∙ ap next_place (sym f)) ∙ next_is o i in
      let b : last_no (is_put_of n v g) ls ≡ row_line o = row_line_is r ls ∙ ap row_line (sym f) in
      λ j. if is_at v (sym w j) && a j then None else Some (record { rule = rule.Place; with_line = b j })

  pub place_kept : (b : Bool) → o ≡ last_given (last_put_at (record { node = n; view = v; group = g })) ls → at ≡ view_of n ls → Keep rule.Place ls → b ≡ (is_at v at && is_next_place o i) → b ≡ true → None ≡ fault_of rule.Place (line.Put n v g i e) ls
  place_kept b f w k p it_is = sym (place_fault_is f w k ∙ ap (λ t. if t then None else Some (record { rule = rule.Place; with_line = row_line o })) (sym p ∙ it_is))

  pub place_broken : (b : Bool) (with_line : Option ℕ) → o ≡ last_given (last_put_at (record { node = n; view = v; group = g })) ls → at ≡ view_of n ls → Keep rule.Place ls → b ≡ (is_at v at && is_next_place o i) → b ≡ false → with_line ≡ row_line o
      → Some (record { rule = rule.Place; with_line = with_line }) ≡ fault_of rule.Place (line.Put n v g i e) ls
  place_broken b with_line f w k p not_so m =
      ap (λ z. Some (record { rule = rule.Place; with_line = z })) m ∙ sym (place_fault_is f w k ∙ ap (λ t. if t then None else Some (record { rule = rule.Place; with_line = row_line o })) (sym p ∙ not_so))

-- ---- the rows after one more put

unfoldable pub same_row : RowAt → RowAt → Bool
same_row a b = (a.node == b.node) && (same_view_key (view_key a.view) (view_key b.view) && bytes_eq a.group b.group)

row_gives : (n : ℕ) (v : ViewId) (g : List ℕ) (i : ℕ) (e : Entry) (number : ℕ) (q : RowAt) → last_put_at q (line.Put n v g i e) number ≡ cond (same_row (record { node = n; view = v; group = g }) q) (Some (record { place = i; number = number })) None
unfolding is_list same_row
row_gives n v g i e number q = ap (λ t. cond ((n == q.node) && (t && bytes_eq g q.group)) (Some (record { place = i; number = number })) None) (sym (view_words v q.view))

pub row_equal : {V : Type 0} (a q : RowAt) (es : List (RowKey × V)) → same_row a q ≡ true → lookup (is_row_key q) es ≡ lookup (is_row_key a) es
unfolding same_row
row_equal a q es e =
    let x = and_parts (a.node == q.node) (same_view_key (view_key a.view) (view_key q.view) && bytes_eq a.group q.group) e in
    let y = and_parts (same_view_key (view_key a.view) (view_key q.view)) (bytes_eq a.group q.group) x.1 in
    let nodes = equal a.node q.node x.0 in
    let views = view_key_same (view_key a.view) (view_key q.view) y.0 in
    let groups = text_same a.group q.group y.1 in
    sym (λ i. lookup (λ (z : RowKey). (nodes i == z.node) && (same_view_key (views i) z.list.view && bytes_eq (groups i) z.list.group.items)) es)

-- the key of a row, as a test of what it says
row_parts : (r : RowAt) (k : RowKey) → is_row_key r k ≡ true → (r.node ≡ k.node) × (view_key r.view ≡ k.list.view) × (r.group ≡ k.list.group.items)
row_parts r k e =
    let x = and_parts (r.node == k.node) (is_list_key r.view r.group k.list) e in
    let y = and_parts (same_view_key (view_key r.view) k.list.view) (bytes_eq r.group k.list.group.items) x.1 in
    (equal r.node k.node x.0, view_key_same (view_key r.view) k.list.view y.0, text_same r.group k.list.group.items y.1)

pub row_test : (r : RowAt) → IsKeyTest same_row_key (is_row_key r)
row_test r x y e = let p = row_parts r x e in λ i. (p.0 i == y.node) && (same_view_key (p.1 i) y.list.view && bytes_eq (p.2 i) y.list.group.items)

row_joined : (a q : RowAt) (k : RowKey) → is_row_key a k ≡ true → is_row_key q k ≡ true → same_row a q ≡ true
unfolding same_row
row_joined a q k e f = let p = row_parts q k f in (λ i. (a.node == p.0 i) && (same_view_key (view_key a.view) (p.1 i) && bytes_eq a.group (p.2 i))) ∙ e

-- what is found after a row's key was put
pub row_put : {V : Type 0} (a q : RowAt) (key : RowKey) (x : V) (es fs : List (RowKey × V)) → key.node ≡ a.node → key.list.view ≡ view_key a.view → key.list.group.items ≡ a.group
    → lookup (same_row_key key) fs ≡ Some x → KeepsOthers same_row_key (same_row_key key) es fs → lookup (is_row_key q) fs ≡ cond (same_row a q) (Some x) (lookup (is_row_key q) es)
row_put a q key x es fs n v g put others =
    put_found same_row_key is_row_key same_row a q key x es fs (row_test q) (λ k i. (n i == k.node) && (same_view_key (v i) k.list.view && bytes_eq (g i) k.list.group.items)) (row_joined a q) (row_equal a q fs) put others

-- the last put of the node comes
pub row_noted : (n : ℕ) (v : ViewId) (g : List ℕ) (i number : ℕ) (key : RowKey) (es fs : List (RowKey × LastPut)) (ls : List Line) (e : Entry) → key.node ≡ n → key.list.view ≡ view_key v → key.list.group.items ≡ g
    → lookup (same_row_key key) fs ≡ Some (record { place = i; number = number }) → KeepsOthers same_row_key (same_row_key key) es fs → AreRows ls es → number ≡ length ls + 1 → AreRows (line.Put n v g i e ∷ ls) fs
row_noted n v g i number key es fs ls e a b c put others are at =
    let here : RowAt = record { node = n; view = v; group = g } in
    last_noted same_row last_put_at here (line.Put n v g i e) ls (λ q. lookup (is_row_key q) es) (λ q. lookup (is_row_key q) fs) (record { place = i; number = number })
    (λ q. row_gives n v g i e (length ls + 1) q ∙ ap (λ z. cond (same_row here q) (Some (record { place = i; number = z })) None) (sym at))
    (λ q. row_put here q key (record { place = i; number = number }) es fs a b c put others)
    are
