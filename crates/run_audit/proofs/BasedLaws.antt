-- What is kept of base lines says what the lines say of the groups of a view.
use Rattle.std.proofs.Common.{◌≡◌, ℕ, ◌+◌, ◌-◌, ◌<◌, ◌≤◌, Bool, true, false, List, [], ◌∷◌, ◌++◌, length, take, drop, get_or, Option, Some, None, refl, sym, ◌∙◌, ap, arith, cond}
use Rattle.std.specs.Prelude.{◌==◌, ◌&&◌, ◌||◌, is_some, if◌then◌else◌}
use Rattle.std.specs.List.{list_any, list_all}
use Rattle.std.specs.Map.{lookup, IsKeyTest, KeepsOthers}
use Rattle.std.specs.Option.{option_map}
use Rattle.std.specs.Str.{bytes_eq}
use Rattle.std.proofs.lemmas.List.{take_rest}
use Rattle.std.proofs.lemmas.Slice.Eq.{bytes_eq-Decides}
use Rattle.rsct_packet.specs.declared.ids.Member.{Member}
use Rattle.rsct_packet.specs.declared.ids.ViewId.{ViewId}
use Rattle.rsct_packet.specs.Ids.{same_view}
use Rattle.word_laws.proofs.ValueLaws.{and_parts}
use Rattle.record_lines.specs.declared.line.BaseLine.{BaseLine}
use Rattle.record_lines.specs.declared.line.Line.{Line}
use Rattle.record_lines.specs.declared.line.Line.TheVariants as line
use Rattle.run_audit.specs.declared.based.Based.{Based}
use Rattle.run_audit.specs.declared.broken.Rule.TheVariants as rule
use Rattle.run_audit.specs.declared.keys.StayKey.{StayKey}
use Rattle.run_audit.specs.declared.lists.ListKey.{ListKey}
use Rattle.run_audit.specs.declared.lists.RowKey.{RowKey}
use Rattle.run_audit.specs.Based.{groups_in, with_group, ListAt, AreOwnBases, AreGroups, AreFirstBases, AreBased, has_bases, entered_first, agree_in}
use Rattle.run_audit.specs.Keys.{view_key, view_at, stay_key, same_view_key, same_stay_key}
use Rattle.run_audit.specs.Kept.{fault_of, or_new}
use Rattle.run_audit.specs.Lists.{RowAt, is_list_key, is_row_key, same_list_key, same_row_key}
use Rattle.run_audit.specs.Past.{first_no, is_list, view_of}
use Rattle.run_audit.specs.Table.{bases_agree, based_groups, first_in_of, first_node, holds, if_some, is_base_of, is_in, is_own_base, same_groups, with_of}
use Rattle.run_audit.proofs.KeyLaws.{equal, view_key_same, view_words}
use Rattle.run_audit.proofs.FoundLaws.{none_there, one_there, put_found}
use Rattle.run_audit.proofs.KeptLaws.{or_none, any_line}
use Rattle.run_audit.proofs.ListLaws.{same_row, row_equal, row_found, row_put, text_same}
use Rattle.run_audit.proofs.RequestLaws.{first_step, head_rest}

-- ---- lists of groups by stays

pub stay_key_same : (a b : StayKey) → same_stay_key a b ≡ true → a ≡ b
stay_key_same a b e =
    let p = and_parts (a.node == b.node) (same_view_key a.view b.view) e in
    λ i. record { node = equal a.node b.node p.0 i; view = view_key_same a.view b.view p.1 i }

pub pushed : (key : StayKey) (g : List ℕ) (gs hs : List (List ℕ)) (es ms fs : List (StayKey × List (List ℕ))) (q : StayKey)
    → gs ≡ groups_in (lookup (same_stay_key key) es)
    → ((q : StayKey) → same_stay_key key q ≡ false → lookup (same_stay_key q) ms ≡ lookup (same_stay_key q) es)
    → hs ≡ gs ++ g ∷ []
    → ((q : StayKey) → lookup (same_stay_key q) fs ≡ cond (same_stay_key key q) (Some hs) (lookup (same_stay_key q) ms))
    → groups_in (lookup (same_stay_key q) fs) ≡ with_group (same_stay_key key q) g (groups_in (lookup (same_stay_key q) es))
unfolding groups_in
pushed key g gs hs es ms fs q was others more up = ap groups_in (up q) ∙ by (same_stay_key key q) refl
  where
    by : (t : Bool) → same_stay_key key q ≡ t → groups_in (cond t (Some hs) (lookup (same_stay_key q) ms)) ≡ with_group t g (groups_in (lookup (same_stay_key q) es))
    by true e = more ∙ ap (λ z. z ++ g ∷ []) (was ∙ ap (λ z. groups_in (lookup (same_stay_key z) es)) (stay_key_same key q e))
    by false e = ap groups_in (others q e)

-- ---- membership

bytes_swap : (a b : List ℕ) → bytes_eq a b ≡ bytes_eq b a
bytes_swap a b = by (bytes_eq a b) (bytes_eq b a) refl refl
  where
    by : (t u : Bool) → bytes_eq a b ≡ t → bytes_eq b a ≡ u → t ≡ u
    by true true e f = refl
    by false false e f = refl
    by true false e f = sym ((bytes_eq-Decides b a).1 (sym (text_same a b e))) ∙ f
    by false true e f = sym e ∙ (bytes_eq-Decides a b).1 (sym (text_same b a f))

-- a group is named where there is a base line of it
module _ (m : ℕ) (u : ViewId) (g : List ℕ) where
  named : (ls : List Line) → list_any (is_own_base m u g) ls ≡ list_any (bytes_eq g) (based_groups m u ls)
  unfolding is_own_base is_list based_groups
  named [] = refl
  named (line.Base k v h b ∷ ls) = by (k == m) (same_view v u) (named ls)
    where
      by : (t s : Bool) → list_any (is_own_base m u g) ls ≡ list_any (bytes_eq g) (based_groups m u ls)
          → (t && (s && bytes_eq h g) || list_any (is_own_base m u g) ls) ≡ list_any (bytes_eq g) (elim (t && s) [ true ↦ h ∷ based_groups m u ls | false ↦ based_groups m u ls ])
      by true true old = λ i. bytes_swap h g i || old i
      by true false old = old
      by false s old = old
  named (_ ∷ ls) = named ls

pub all_by : {A : Type 0} (s t : A → Bool) (xs : List A) → ((x : A) → s x ≡ t x) → list_all s xs ≡ list_all t xs
all_by s t [] e = refl
all_by s t (x ∷ xs) e = λ i. e x i && all_by s t xs e i

has_are : (m : ℕ) (u : ViewId) (es : List (RowKey × ℕ)) (ls : List Line) (gs : List (List ℕ)) → AreOwnBases ls es → has_bases es m u gs ≡ list_all (is_in bytes_eq (based_groups m u ls)) gs
unfolding has_bases is_in
has_are m u es ls gs are =
    all_by (λ g. is_some (lookup (is_row_key (record { node = m; view = u; group = g })) es)) (is_in bytes_eq (based_groups m u ls)) gs
    (λ g. ap is_some (are (record { node = m; view = u; group = g })) ∙ sym (any_line (is_own_base m u g) ls) ∙ named m u g ls)

agree_is : (n m : ℕ) (u : ViewId) (b : Based) (ls : List Line) → AreBased ls b
    → (has_bases b.own m u (groups_in (lookup (same_stay_key (stay_key n u)) b.groups)) && has_bases b.own n u (groups_in (lookup (same_stay_key (stay_key m u)) b.groups))) ≡ same_groups (based_groups n u ls) (based_groups m u ls)
unfolding same_groups is_in
agree_is n m u b ls are =
    (λ i. has_are m u b.own ls (groups_in (lookup (same_stay_key (stay_key n u)) b.groups)) are.own i && has_are n u b.own ls (groups_in (lookup (same_stay_key (stay_key m u)) b.groups)) are.own i)
    ∙ (λ i. are.groups (stay_key n u) (is_in bytes_eq (based_groups m u ls)) i && are.groups (stay_key m u) (is_in bytes_eq (based_groups n u ls)) i)

-- ---- what the table says

-- as the code has them
pub has_none : (es : List (RowKey × ℕ)) (n : ℕ) (u : ViewId) (gs : List (List ℕ)) → length gs < 1 → true ≡ has_bases es n u gs
unfolding has_bases
has_none es n u [] e = refl
has_none es n u (g ∷ gs) e = absurd (omega arith)

pub all_next : {A : Type 0} (t : A → Bool) (xs : List A) (x : A) (here later : Bool) → 1 ≤ length xs → x ≡ get_or xs 0 x → here ≡ t x → later ≡ list_all t (take (length xs - 1) (drop 1 xs)) → (here && later) ≡ list_all t xs
all_next t xs x here later le is a b = (λ i. a i && b i) ∙ (ap (λ zs. t x && list_all t zs) (take_rest xs 1) ∙ ap (list_all t) (sym (head_rest xs x le is)))

pub has_next : (es : List (RowKey × ℕ)) (n : ℕ) (u : ViewId) (gs : List (List ℕ)) (g : List ℕ) (line : Option ℕ) (here later : Bool) → 1 ≤ length gs → g ≡ get_or gs 0 g → here ≡ is_some line → line ≡ lookup (is_row_key (record { node = n; view = u; group = g })) es
    → later ≡ has_bases es n u (take (length gs - 1) (drop 1 gs)) → (here && later) ≡ has_bases es n u gs
unfolding has_bases
has_next es n u gs g line here later le is some at rest =
    all_next (λ g. is_some (lookup (is_row_key (record { node = n; view = u; group = g })) es)) gs g here later le is (some ∙ ap is_some at) rest

pub agree_at : (n m : ℕ) (u : ViewId) (b : Based) (ls : List Line) (there here : Bool) → there ≡ has_bases b.own m u (groups_in (lookup (same_stay_key (stay_key n u)) b.groups)) → here ≡ has_bases b.own n u (groups_in (lookup (same_stay_key (stay_key m u)) b.groups)) → AreBased ls b
    → (there && here) ≡ same_groups (based_groups n u ls) (based_groups m u ls)
agree_at n m u b ls there here s t are = (λ i. s i && t i) ∙ agree_is n m u b ls are

agree_by : (n : ℕ) (o : Option ViewId) (ls : List Line) → bases_agree n o ls ≡ agree_in n (entered_first o ls) ls
unfolding bases_agree agree_in entered_first if_some
agree_by n None ls = refl
agree_by n (Some u) ls = by (first_node u ls)
  where
    by : (f : Option ℕ) → if_some f (λ m. same_groups (based_groups n u ls) (based_groups m u ls)) ≡ agree_in n (option_map (λ m. (u, m)) f) ls
    by None = refl
    by (Some m) = refl

module _ (n : ℕ) (v : ViewId) (ms : List Member) (ls : List Line) (left : Option ViewId) (first : Option (ViewId × ℕ)) (b : Bool) (at : left ≡ view_of n ls) (entered : first ≡ entered_first left ls) (agrees : b ≡ agree_in n first ls) where
  bases_are : fault_of rule.Bases (line.In n v ms) ls ≡ (if b then None else Some (record { rule = rule.Bases; with_line = first_in_of left ls }))
  unfolding holds with_of
  bases_are =
      (λ i. if bases_agree n (sym at i) ls then None else Some (record { rule = rule.Bases; with_line = first_in_of (sym at i) ls }))
      ∙ ap (λ t. if t then None else Some (record { rule = rule.Bases; with_line = first_in_of left ls })) (agree_by n left ls ∙ (ap (λ f. agree_in n f ls) (sym entered) ∙ sym agrees))

  pub bases_kept : b ≡ true → None ≡ fault_of rule.Bases (line.In n v ms) ls
  bases_kept it_is = sym (bases_are ∙ ap (λ t. if t then None else Some (record { rule = rule.Bases; with_line = first_in_of left ls })) it_is)

  pub bases_broken : (with_line : Option ℕ) → b ≡ false → with_line ≡ first_in_of left ls → Some (record { rule = rule.Bases; with_line = with_line }) ≡ fault_of rule.Bases (line.In n v ms) ls
  bases_broken with_line not_so e =
      ap (λ z. Some (record { rule = rule.Bases; with_line = z })) e ∙ sym (bases_are ∙ ap (λ t. if t then None else Some (record { rule = rule.Bases; with_line = first_in_of left ls })) not_so)

-- ---- after one more base line

own_gives : (n : ℕ) (v : ViewId) (g : List ℕ) (b : BaseLine) (q : RowAt) → is_own_base q.node q.view q.group (line.Base n v g b) ≡ same_row (record { node = n; view = v; group = g }) q
unfolding is_own_base is_list same_row
own_gives n v g b q = ap (λ t. (n == q.node) && (t && bytes_eq g q.group)) (sym (view_words v q.view))

own_again : (n : ℕ) (v : ViewId) (g : List ℕ) (b : BaseLine) (y : ℕ) (es : List (RowKey × ℕ)) (ls : List Line) → Some y ≡ lookup (is_row_key (record { node = n; view = v; group = g })) es → AreOwnBases ls es → AreOwnBases (line.Base n v g b ∷ ls) es
own_again n v g b y es ls some are q = are q ∙ by (same_row (record { node = n; view = v; group = g }) q) refl ∙ sym (first_step (is_own_base q.node q.view q.group) (line.Base n v g b) ls ∙ ap (λ t. or_new (first_no (is_own_base q.node q.view q.group) ls) (cond t (Some (length ls + 1)) None)) (own_gives n v g b q))
  where
    by : (t : Bool) → same_row (record { node = n; view = v; group = g }) q ≡ t → first_no (is_own_base q.node q.view q.group) ls ≡ or_new (first_no (is_own_base q.node q.view q.group) ls) (cond t (Some (length ls + 1)) None)
    by true e =
        let o : first_no (is_own_base q.node q.view q.group) ls ≡ Some y = sym (are q) ∙ row_equal (record { node = n; view = v; group = g }) q es e ∙ sym some in
        rw o refl
    by false e = sym (or_none (first_no (is_own_base q.node q.view q.group) ls))

own_comes : (n : ℕ) (v : ViewId) (g : List ℕ) (b : BaseLine) (number : ℕ) (key : RowKey) (es fs : List (RowKey × ℕ)) (ls : List Line) → key.node ≡ n → key.list.view ≡ view_key v → key.list.group.items ≡ g
    → None ≡ lookup (is_row_key (record { node = n; view = v; group = g })) es → lookup (same_row_key key) fs ≡ Some number → KeepsOthers same_row_key (same_row_key key) es fs → AreOwnBases ls es → number ≡ length ls + 1 → AreOwnBases (line.Base n v g b ∷ ls) fs
own_comes n v g b number key es fs ls k0 k1 k2 none put others are at q =
    row_put (record { node = n; view = v; group = g }) q key number es fs k0 k1 k2 put others
    ∙ (λ j. cond (same_row (record { node = n; view = v; group = g }) q) (Some (at j)) (are q j))
    ∙ by (same_row (record { node = n; view = v; group = g }) q) refl
    ∙ sym (first_step (is_own_base q.node q.view q.group) (line.Base n v g b) ls ∙ ap (λ t. or_new (first_no (is_own_base q.node q.view q.group) ls) (cond t (Some (length ls + 1)) None)) (own_gives n v g b q))
  where
    by : (t : Bool) → same_row (record { node = n; view = v; group = g }) q ≡ t → cond t (Some (length ls + 1)) (first_no (is_own_base q.node q.view q.group) ls) ≡ or_new (first_no (is_own_base q.node q.view q.group) ls) (cond t (Some (length ls + 1)) None)
    by true e =
        let o : first_no (is_own_base q.node q.view q.group) ls ≡ None = sym (are q) ∙ row_equal (record { node = n; view = v; group = g }) q es e ∙ sym none in
        rw o refl
    by false e = sym (or_none (first_no (is_own_base q.node q.view q.group) ls))

pub all_end : (t : List ℕ → Bool) (gs : List (List ℕ)) (g : List ℕ) → list_all t (gs ++ g ∷ []) ≡ (t g && list_all t gs)
all_end t [] g = refl
all_end t (h ∷ gs) g = ap (λ z. t h && z) (all_end t gs g) ∙ swap (t h) (t g) (list_all t gs)
  where
    swap : (a b c : Bool) → (a && (b && c)) ≡ (b && (a && c))
    swap true b c = refl
    swap false true c = refl
    swap false false c = refl

groups_on : (n : ℕ) (v : ViewId) (g : List ℕ) (b : BaseLine) (es fs : List (StayKey × List (List ℕ))) (ls : List Line)
    → ((q : StayKey) → groups_in (lookup (same_stay_key q) fs) ≡ with_group (same_stay_key (stay_key n v) q) g (groups_in (lookup (same_stay_key q) es))) → AreGroups ls es → AreGroups (line.Base n v g b ∷ ls) fs
unfolding based_groups
groups_on n v g b es fs ls up are q t = ap (list_all t) (up q) ∙ by (same_stay_key (stay_key n v) q) (n == q.node && same_view v (view_at q.view)) (ap (λ z. (n == q.node) && z) (view_words v (view_at q.view))) (are q t)
  where
    by : (a c : Bool) → a ≡ c → list_all t (groups_in (lookup (same_stay_key q) es)) ≡ list_all t (based_groups q.node (view_at q.view) ls)
        → list_all t (with_group a g (groups_in (lookup (same_stay_key q) es))) ≡ list_all t (elim c [ true ↦ g ∷ based_groups q.node (view_at q.view) ls | false ↦ based_groups q.node (view_at q.view) ls ])
    by true true e old = all_end t (groups_in (lookup (same_stay_key q) es)) g ∙ ap (λ z. t g && z) old
    by true false e old = absurd cc
    by false true e old = absurd cc
    by false false e old = old

-- ---- the first base line of a list

pub list_found : {V : Type 0} (key : ListKey) (v : ViewId) (g : List ℕ) (es : List (ListKey × V)) → key.view ≡ view_key v → key.group.items ≡ g → lookup (same_list_key key) es ≡ lookup (is_list_key v g) es
list_found key v g es a b = λ i. lookup (λ (q : ListKey). same_view_key (a i) q.view && bytes_eq (b i) q.group.items) es

unfoldable pub same_list : ListAt → ListAt → Bool
same_list a b = same_view_key (view_key a.view) (view_key b.view) && bytes_eq a.group b.group

list_equal : {V : Type 0} (a q : ListAt) (es : List (ListKey × V)) → same_list a q ≡ true → lookup (is_list_key q.view q.group) es ≡ lookup (is_list_key a.view a.group) es
unfolding same_list
list_equal a q es e =
    let y = and_parts (same_view_key (view_key a.view) (view_key q.view)) (bytes_eq a.group q.group) e in
    let views = view_key_same (view_key a.view) (view_key q.view) y.0 in
    let groups = text_same a.group q.group y.1 in
    sym (λ i. lookup (λ (z : ListKey). same_view_key (views i) z.view && bytes_eq (groups i) z.group.items) es)

-- the key of a list, as a test of what it says
list_test_of : ListAt → ListKey → Bool
list_test_of q k = is_list_key q.view q.group k

list_parts : (q : ListAt) (k : ListKey) → list_test_of q k ≡ true → (view_key q.view ≡ k.view) × (q.group ≡ k.group.items)
unfolding list_test_of
list_parts q k e =
    let x = and_parts (same_view_key (view_key q.view) k.view) (bytes_eq q.group k.group.items) e in
    (view_key_same (view_key q.view) k.view x.0, text_same q.group k.group.items x.1)

list_test : (q : ListAt) → IsKeyTest same_list_key (list_test_of q)
unfolding list_test_of
list_test q x y e = let p = list_parts q x e in λ i. same_view_key (p.0 i) y.view && bytes_eq (p.1 i) y.group.items

list_joined : (a q : ListAt) (k : ListKey) → list_test_of a k ≡ true → list_test_of q k ≡ true → same_list a q ≡ true
unfolding same_list list_test_of
list_joined a q k e f = let p = list_parts q k f in (λ i. same_view_key (view_key a.view) (p.0 i) && bytes_eq a.group (p.1 i)) ∙ e

pub list_put : {V : Type 0} (a q : ListAt) (key : ListKey) (x : V) (es fs : List (ListKey × V)) → key.view ≡ view_key a.view → key.group.items ≡ a.group → lookup (same_list_key key) fs ≡ Some x → KeepsOthers same_list_key (same_list_key key) es fs
    → lookup (is_list_key q.view q.group) fs ≡ cond (same_list a q) (Some x) (lookup (is_list_key q.view q.group) es)
unfolding list_test_of
list_put a q key x es fs v g put others =
    put_found same_list_key list_test_of same_list a q key x es fs (list_test q) (λ k i. same_view_key (v i) k.view && bytes_eq (g i) k.group.items) (list_joined a q) (list_equal a q fs) put others

base_gives : (n : ℕ) (v : ViewId) (g : List ℕ) (b : BaseLine) (q : ListAt) → is_base_of q.view q.group (line.Base n v g b) ≡ same_list (record { view = v; group = g }) q
unfolding is_base_of is_list same_list
base_gives n v g b q = ap (λ t. t && bytes_eq g q.group) (sym (view_words v q.view))

base_again : (n : ℕ) (v : ViewId) (g : List ℕ) (b : BaseLine) (y : ℕ) (es : List (ListKey × ℕ)) (ls : List Line) → Some y ≡ lookup (is_list_key v g) es → AreFirstBases ls es → AreFirstBases (line.Base n v g b ∷ ls) es
base_again n v g b y es ls some are q =
    are q ∙ by (same_list (record { view = v; group = g }) q) refl
    ∙ sym (first_step (is_base_of q.view q.group) (line.Base n v g b) ls ∙ ap (λ t. or_new (first_no (is_base_of q.view q.group) ls) (cond t (Some (length ls + 1)) None)) (base_gives n v g b q))
  where
    by : (t : Bool) → same_list (record { view = v; group = g }) q ≡ t → first_no (is_base_of q.view q.group) ls ≡ or_new (first_no (is_base_of q.view q.group) ls) (cond t (Some (length ls + 1)) None)
    by true e =
        let o : first_no (is_base_of q.view q.group) ls ≡ Some y = sym (are q) ∙ list_equal (record { view = v; group = g }) q es e ∙ sym some in
        rw o refl
    by false e = sym (or_none (first_no (is_base_of q.view q.group) ls))

base_comes : (n : ℕ) (v : ViewId) (g : List ℕ) (b : BaseLine) (number : ℕ) (key : ListKey) (es fs : List (ListKey × ℕ)) (ls : List Line) → key.view ≡ view_key v → key.group.items ≡ g
    → None ≡ lookup (is_list_key v g) es → lookup (same_list_key key) fs ≡ Some number → KeepsOthers same_list_key (same_list_key key) es fs → AreFirstBases ls es → number ≡ length ls + 1 → AreFirstBases (line.Base n v g b ∷ ls) fs
base_comes n v g b number key es fs ls k1 k2 none put others are at q =
    list_put (record { view = v; group = g }) q key number es fs k1 k2 put others
    ∙ (λ j. cond (same_list (record { view = v; group = g }) q) (Some (at j)) (are q j))
    ∙ by (same_list (record { view = v; group = g }) q) refl
    ∙ sym (first_step (is_base_of q.view q.group) (line.Base n v g b) ls ∙ ap (λ t. or_new (first_no (is_base_of q.view q.group) ls) (cond t (Some (length ls + 1)) None)) (base_gives n v g b q))
  where
    by : (t : Bool) → same_list (record { view = v; group = g }) q ≡ t → cond t (Some (length ls + 1)) (first_no (is_base_of q.view q.group) ls) ≡ or_new (first_no (is_base_of q.view q.group) ls) (cond t (Some (length ls + 1)) None)
    by true e =
        let o : first_no (is_base_of q.view q.group) ls ≡ None = sym (are q) ∙ list_equal (record { view = v; group = g }) q es e ∙ sym none in
        rw o refl
    by false e = sym (or_none (first_no (is_base_of q.view q.group) ls))

-- as the code has them
module _ (n : ℕ) (v : ViewId) (g : List ℕ) (x : BaseLine) (key : RowKey) (at_node : key.node ≡ n) (at_view : key.list.view ≡ view_key v) (at_group : key.list.group.items ≡ g) (b : Bool) (es : List (RowKey × ℕ)) (there : b ≡ is_some (lookup (same_row_key key) es)) (ls : List Line) where
  pub own_kept : b ≡ true → AreOwnBases ls es → AreOwnBases (line.Base n v g x ∷ ls) es
  own_kept old are =
      let y : (k : ℕ) × (lookup (same_row_key key) es ≡ Some k) = one_there (lookup (same_row_key key) es) (sym there ∙ old) in
      own_again n v g x y.0 es ls (sym y.1 ∙ row_found key (record { node = n; view = v; group = g }) es at_node at_view at_group) are

  pub own_put : (number : ℕ) (fs : List (RowKey × ℕ)) → b ≡ false → lookup (same_row_key key) fs ≡ Some number → KeepsOthers same_row_key (same_row_key key) es fs → AreOwnBases ls es → number ≡ length ls + 1 → AreOwnBases (line.Base n v g x ∷ ls) fs
  own_put number fs new put others are at =
      own_comes n v g x number key es fs ls at_node at_view at_group (sym (none_there (lookup (same_row_key key) es) (sym there ∙ new)) ∙ row_found key (record { node = n; view = v; group = g }) es at_node at_view at_group) put others are at

module _ (n : ℕ) (v : ViewId) (g : List ℕ) (x : BaseLine) (key : ListKey) (at_view : key.view ≡ view_key v) (at_group : key.group.items ≡ g) (b : Bool) (es : List (ListKey × ℕ)) (there : b ≡ is_some (lookup (same_list_key key) es)) (ls : List Line) where
  pub base_kept : b ≡ true → AreFirstBases ls es → AreFirstBases (line.Base n v g x ∷ ls) es
  base_kept old are =
      let y : (k : ℕ) × (lookup (same_list_key key) es ≡ Some k) = one_there (lookup (same_list_key key) es) (sym there ∙ old) in
      base_again n v g x y.0 es ls (sym y.1 ∙ list_found key v g es at_view at_group) are

  pub base_put : (number : ℕ) (fs : List (ListKey × ℕ)) → b ≡ false → lookup (same_list_key key) fs ≡ Some number → KeepsOthers same_list_key (same_list_key key) es fs → AreFirstBases ls es → number ≡ length ls + 1 → AreFirstBases (line.Base n v g x ∷ ls) fs
  base_put number fs new put others are at =
      base_comes n v g x number key es fs ls at_view at_group (sym (none_there (lookup (same_list_key key) es) (sym there ∙ new)) ∙ list_found key v g es at_view at_group) put others are at

pub own_line_is : (n : ℕ) (v : ViewId) (g : List ℕ) (x : Option ℕ) (b : Based) (ls : List Line) → x ≡ lookup (is_row_key (record { node = n; view = v; group = g })) b.own → AreBased ls b → x ≡ first_no (is_own_base n v g) ls
own_line_is n v g x b ls e are = e ∙ are.own (record { node = n; view = v; group = g })

pub base_line_is : (v : ViewId) (g : List ℕ) (x : Option ℕ) (b : Based) (ls : List Line) → x ≡ lookup (is_list_key v g) b.first → AreBased ls b → x ≡ first_no (is_base_of v g) ls
base_line_is v g x b ls e are = e ∙ are.first (record { view = v; group = g })

pub none_based : (b : Based) → AreOwnBases [] b.own → b.groups ≡ [] → AreFirstBases [] b.first → AreBased [] b
unfolding groups_in based_groups
none_based b own none first = record { own = own; groups = λ q t. ap (λ z. list_all t (groups_in (lookup (same_stay_key q) z))) none; first = first }

pub based_on : (n : ℕ) (v : ViewId) (g : List ℕ) (x : BaseLine) (b c : Based) (ls : List Line) (number : ℕ) → ((ls : List Line) (x : BaseLine) → AreOwnBases ls b.own → number ≡ length ls + 1 → AreOwnBases (line.Base n v g x ∷ ls) c.own)
    → ((q : StayKey) → groups_in (lookup (same_stay_key q) c.groups) ≡ with_group (same_stay_key (stay_key n v) q) g (groups_in (lookup (same_stay_key q) b.groups)))
    → ((ls : List Line) (n : ℕ) (x : BaseLine) → AreFirstBases ls b.first → number ≡ length ls + 1 → AreFirstBases (line.Base n v g x ∷ ls) c.first) → AreBased ls b → number ≡ length ls + 1 → AreBased (line.Base n v g x ∷ ls) c
based_on n v g x b c ls number own up first are at = record { own = own ls x are.own at; groups = groups_on n v g x b.groups c.groups ls up are.groups; first = first ls n x are.first at }
