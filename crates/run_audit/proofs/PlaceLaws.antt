-- The first puts of places say what the lines say of lists.
use Rattle.std.proofs.Common.{◌≡◌, ℕ, zero, suc, ◌+◌, ◌<◌, ◌≤◌, Bool, true, false, List, [], ◌∷◌, ◌++◌, length, Option, Some, None, refl, sym, ◌∙◌, ap, arith, cond, length-append}
use Rattle.std.specs.Prelude.{◌==◌, ◌&&◌, is_some, slice_get, if◌then◌else◌}
use Rattle.std.specs.Map.{lookup, IsKeyTest, KeepsOthers}
use Rattle.std.specs.Option.{option_map}
use Rattle.std.specs.Str.{bytes_eq}
use Rattle.std.proofs.lemmas.Bool.Decides.{nat_tests}
use Rattle.std.proofs.lemmas.Option.{slice_get_past}
use Rattle.std.proofs.lemmas.Slice.Eq.{bytes_eq-Decides}
use Rattle.rsct_packet.specs.declared.ids.ViewId.{ViewId}
use Rattle.proposal_core.specs.declared.entry.Entry.{Entry}
use Rattle.entry_words.specs.Wording.{entry_text}
use Rattle.word_laws.proofs.ValueLaws.{and_parts}
use Rattle.record_lines.specs.declared.line.Line.{Line}
use Rattle.record_lines.specs.declared.line.Line.TheVariants as line
use Rattle.run_audit.specs.declared.broken.Rule.TheVariants as rule
use Rattle.run_audit.specs.declared.places.FirstPut.{FirstPut}
use Rattle.run_audit.specs.declared.places.PlaceKey.{PlaceKey}
use Rattle.run_audit.specs.Keys.{view_key, same_view_key}
use Rattle.run_audit.specs.Kept.{Keep, fault_of, or_new, first_given}
use Rattle.run_audit.specs.Lists.{is_list_key}
use Rattle.run_audit.specs.Past.{first_no, is_list, puts_after, puts_of, list_after, list_of}
use Rattle.run_audit.specs.Places.{PlaceAt, is_place_key, same_place_key, first_put_at, ArePlaces, line_of, is_entry_there}
use Rattle.run_audit.specs.Table.{holds, with_of, if_some, same_entry, is_put_at}
use Rattle.run_audit.proofs.KeyLaws.{equal, view_words, view_key_same}
use Rattle.run_audit.proofs.FoundLaws.{none_there, one_there, put_found}
use Rattle.run_audit.proofs.KeptLaws.{or_none, first_line, first_noted, first_again}
use Rattle.run_audit.proofs.ListLaws.{list_same, place_is, text_same}

-- ---- lists that grow at their end

pub get_end : {A : Type 0} (xs : List A) (x : A) (i : ℕ) → i ≡ length xs → slice_get (xs ++ x ∷ []) i ≡ Some x
get_end [] x zero e = refl
get_end [] x (suc i) e = absurd (omega arith)
get_end (y ∷ ys) x zero e = absurd (omega arith)
get_end (y ∷ ys) x (suc i) e = get_end ys x i (omega arith)

get_more : {A : Type 0} (xs : List A) (x : A) (i : ℕ) → (i == length xs) ≡ false → slice_get (xs ++ x ∷ []) i ≡ slice_get xs i
get_more [] x zero e = absurd cc
get_more [] x (suc i) e = refl
get_more (y ∷ ys) x zero e = refl
get_more (y ∷ ys) x (suc i) e = get_more ys x i (grind (arith, nat_tests))

pub get_in : {A : Type 0} (ys : List A) (i : ℕ) → i < length ys → (y : A) × (slice_get ys i ≡ Some y)
get_in [] i h = absurd (omega arith)
get_in (y ∷ ys) zero h = (y, refl)
get_in (y ∷ ys) (suc i) h = get_in ys i (omega arith)

pub number_self : (a : ℕ) → (a == a) ≡ true
number_self a = grind (arith, nat_tests)

pub list_self : (v : ViewId) (g : List ℕ) → is_list v g v g ≡ true
unfolding is_list
list_self v g = (λ i. number_self v.number i && number_self v.coord i && number_self v.inc i && (bytes_eq-Decides g g).1 refl i)

pub apart : (a b : ℕ) → (a == b) ≡ false → a ≤ b → a < b
apart a b e h = grind (arith, nat_tests)

-- no node is ahead of the list
within : (n : ℕ) (v : ViewId) (g : List ℕ) (ls : List Line) → Keep rule.Place ls → length (puts_of n v g ls) ≤ length (list_of v g ls)
unfolding puts_of puts_after list_of list_after
within n v g [] k = omega arith
within n v g (line.Put m u h i e ∷ ls) k = by (is_list v g u h) (m == n) (i == length (list_of v g ls)) refl refl refl (within n v g ls k.1)
  where
    more : {A : Type 0} (xs : List A) (x : A) → length (xs ++ x ∷ []) ≡ length xs + 1
    more xs x = length-append xs (x ∷ [])

    by : (t a b : Bool) → is_list v g u h ≡ t → (m == n) ≡ a → (i == length (list_of v g ls)) ≡ b → length (puts_of n v g ls) ≤ length (list_of v g ls)
        → length (if a && t then puts_of n v g ls ++ e ∷ [] else puts_of n v g ls) ≤ length (if t && b then list_of v g ls ++ e ∷ [] else list_of v g ls)
    by true true true x y z old = let p = more (puts_of n v g ls) e in let q = more (list_of v g ls) e in omega (arith, p, q, old)
    by true true false x y z old =
        let at : i ≡ length (puts_of n v g ls) = place_is n m v u g h i e ls k.0 y x in
        let below : i < length (list_of v g ls) = apart i (length (list_of v g ls)) z (omega (arith, at, old)) in
        let p = more (puts_of n v g ls) e in
        omega (arith, p, at, below)
    by true false true x y z old = let q = more (list_of v g ls) e in omega (arith, q, old)
    by true false false x y z old = old
    by false true b x y z old = old
    by false false b x y z old = old
within n v g (_ ∷ ls) k = within n v g ls k.1

text_in : Option FirstPut → Option (List ℕ)
text_in None = None
text_in (Some x) = Some x.text

entry_in : Option Entry → Option (List ℕ)
entry_in None = None
entry_in (Some e) = Some (entry_text e)

nothing_in : (o : Option FirstPut) → text_in o ≡ None → o ≡ None
unfolding text_in
nothing_in None e = refl
nothing_in (Some x) e = absurd cc

-- the entry of a place is that of its first put
module _ (p : PlaceAt) where
  there : (ls : List Line) → Keep rule.Place ls → entry_in (slice_get (list_of p.view p.group ls) p.place) ≡ text_in (first_given (first_put_at p) ls)
  unfolding list_of list_after entry_in text_in
  there [] k = refl
  there (line.Put m u h j e ∷ ls) k = by (is_list p.view p.group u h) (j == length (list_of p.view p.group ls)) (j == p.place) refl refl refl (there ls k.1)
    where
      kept_on : (o : Option FirstPut) (new : Option FirstPut) (y : Entry) → Some (entry_text y) ≡ text_in o → Some (entry_text y) ≡ text_in (or_new o new)
      kept_on None new y f = absurd cc
      kept_on (Some x) new y f = f

      by : (t b c : Bool) → is_list p.view p.group u h ≡ t → (j == length (list_of p.view p.group ls)) ≡ b → (j == p.place) ≡ c
          → entry_in (slice_get (list_of p.view p.group ls) p.place) ≡ text_in (first_given (first_put_at p) ls)
          → entry_in (slice_get (if t && b then list_of p.view p.group ls ++ e ∷ [] else list_of p.view p.group ls) p.place)
          ≡ text_in (or_new (first_given (first_put_at p) ls) (cond (t && c) (Some (record { text = entry_text e; number = length ls + 1 })) None))
      by false b c x y z old = old ∙ ap text_in (sym (or_none (first_given (first_put_at p) ls)))
      by true true true x y z old =
          let here : p.place ≡ length (list_of p.view p.group ls) = sym (equal j p.place z) ∙ equal j (length (list_of p.view p.group ls)) y in
          let past : slice_get (list_of p.view p.group ls) p.place ≡ None = slice_get_past (list_of p.view p.group ls) p.place (omega (arith, here)) in
          let none : first_given (first_put_at p) ls ≡ None = nothing_in (first_given (first_put_at p) ls) (sym old ∙ ap entry_in past) in
          ap entry_in (get_end (list_of p.view p.group ls) e p.place here) ∙ ap (λ o. text_in (or_new o (Some (record { text = entry_text e; number = length ls + 1 })))) (sym none)
      by true true false x y z old =
          let same : j ≡ length (list_of p.view p.group ls) = equal j (length (list_of p.view p.group ls)) y in
          let other : (p.place == length (list_of p.view p.group ls)) ≡ false = grind (arith, nat_tests, same, z) in
          ap entry_in (get_more (list_of p.view p.group ls) e p.place other) ∙ old ∙ ap text_in (sym (or_none (first_given (first_put_at p) ls)))
      by true false true x y z old =
          let s = list_same p.view u p.group h x in
          let at : j ≡ length (puts_of m u h ls) = place_is m m u u h h j e ls k.0 (number_self m) (list_self u h) in
          let w = within m u h ls k.1 in
          let lists : length (list_of u h ls) ≡ length (list_of p.view p.group ls) = (λ i. length (list_of (s.0 i) (s.1 i) ls)) in
          let below : j < length (list_of p.view p.group ls) = apart j (length (list_of p.view p.group ls)) y (omega (arith, at, w, lists)) in
          let here : j ≡ p.place = equal j p.place z in
          let found = get_in (list_of p.view p.group ls) p.place (omega (arith, below, here)) in
          ap entry_in found.1 ∙ kept_on (first_given (first_put_at p) ls) (Some (record { text = entry_text e; number = length ls + 1 })) found.0 (ap entry_in (sym found.1) ∙ old)
      by true false false x y z old = old ∙ ap text_in (sym (or_none (first_given (first_put_at p) ls)))
  there (_ ∷ ls) k = there ls k.1 ∙ ap text_in (sym (or_none (first_given (first_put_at p) ls)))

entry_by : (e : Entry) (o : Option Entry) (f : Option FirstPut) → entry_in o ≡ text_in f → if_some o (same_entry e) ≡ is_entry_there (entry_text e) f
unfolding entry_in text_in if_some same_entry is_entry_there
entry_by e None None h = refl
entry_by e None (Some x) h = absurd cc
entry_by e (Some y) None h = absurd cc
entry_by e (Some y) (Some x) h = let same : entry_text y ≡ x.text = cc in ap (bytes_eq (entry_text e)) same

given_number : (p : PlaceAt) (l : Line) (k : ℕ) → option_map (λ (x : FirstPut). x.number) (first_put_at p l k) ≡ cond (is_put_at p.view p.group p.place l) (Some k) None
unfolding is_put_at
given_number p (line.Put m u h i e) k = by (is_list p.view p.group u h && (i == p.place))
  where
    by : (t : Bool) → option_map (λ (x : FirstPut). x.number) (cond t (Some (record { text = entry_text e; number = k })) None) ≡ cond t (Some k) None
    by true = refl
    by false = refl
given_number p _ k = refl

number_is : (o : Option FirstPut) → option_map (λ (x : FirstPut). x.number) o ≡ line_of o
unfolding line_of
number_is None = refl
number_is (Some x) = refl

line_is : (p : PlaceAt) (ls : List Line) → first_no (is_put_at p.view p.group p.place) ls ≡ line_of (first_given (first_put_at p) ls)
line_is p ls = first_line (is_put_at p.view p.group p.place) (first_put_at p) (λ (x : FirstPut). x.number) (given_number p) ls ∙ number_is (first_given (first_put_at p) ls)

-- ---- as the code has them

pub place_found : (key : PlaceKey) (p : PlaceAt) (es : List (PlaceKey × FirstPut)) → key.list.view ≡ view_key p.view → key.list.group.items ≡ p.group → key.place ≡ p.place → lookup (same_place_key key) es ≡ lookup (is_place_key p) es
place_found key p es a b c = λ i. lookup (λ (q : PlaceKey). (same_view_key (a i) q.list.view && bytes_eq (b i) q.list.group.items) && (c i == q.place)) es

module _ (n : ℕ) (v : ViewId) (g : List ℕ) (i : ℕ) (e : Entry) (text : List ℕ) (o : Option FirstPut) (ls : List Line) (b : Bool) where
  entry_fault_is : o ≡ first_given (first_put_at (record { view = v; group = g; place = i })) ls → Keep rule.Place ls → text ≡ entry_text e → b ≡ is_entry_there text o
      → fault_of rule.Entry (line.Put n v g i e) ls ≡ (if b then None else Some (record { rule = rule.Entry; with_line = line_of o }))
  unfolding holds with_of
  entry_fault_is f k t s =
      let p : PlaceAt = record { view = v; group = g; place = i } in
      let a : if_some (slice_get (list_of v g ls) i) (same_entry e) ≡ b =
      entry_by e (slice_get (list_of v g ls) i) (first_given (first_put_at p) ls) (there p ls k) ∙ (λ j. is_entry_there (sym t j) (sym f j)) ∙ sym s in
      let w : first_no (is_put_at v g i) ls ≡ line_of o = line_is p ls ∙ ap line_of (sym f) in
      λ j. if a j then None else Some (record { rule = rule.Entry; with_line = w j })

  pub entry_kept : o ≡ first_given (first_put_at (record { view = v; group = g; place = i })) ls → Keep rule.Place ls → text ≡ entry_text e → b ≡ is_entry_there text o → b ≡ true → None ≡ fault_of rule.Entry (line.Put n v g i e) ls
  entry_kept f k t s it_is = sym (entry_fault_is f k t s ∙ ap (λ x. if x then None else Some (record { rule = rule.Entry; with_line = line_of o })) it_is)

  pub entry_broken : (with_line : Option ℕ) → o ≡ first_given (first_put_at (record { view = v; group = g; place = i })) ls → Keep rule.Place ls → text ≡ entry_text e → b ≡ is_entry_there text o → b ≡ false → with_line ≡ line_of o
      → Some (record { rule = rule.Entry; with_line = with_line }) ≡ fault_of rule.Entry (line.Put n v g i e) ls
  entry_broken with_line f k t s not_so m =
      ap (λ z. Some (record { rule = rule.Entry; with_line = z })) m ∙ sym (entry_fault_is f k t s ∙ ap (λ x. if x then None else Some (record { rule = rule.Entry; with_line = line_of o })) not_so)

-- ---- after one more put

same_place : PlaceAt → PlaceAt → Bool
same_place a b = (same_view_key (view_key a.view) (view_key b.view) && bytes_eq a.group b.group) && (a.place == b.place)

place_gives : (n : ℕ) (v : ViewId) (g : List ℕ) (i : ℕ) (e : Entry) (number : ℕ) (q : PlaceAt)
    → first_put_at q (line.Put n v g i e) number ≡ cond (same_place (record { view = v; group = g; place = i }) q) (Some (record { text = entry_text e; number = number })) None
unfolding is_list same_place
place_gives n v g i e number q = ap (λ t. cond ((t && bytes_eq g q.group) && (i == q.place)) (Some (record { text = entry_text e; number = number })) None) (sym (view_words v q.view))

place_equal : (a q : PlaceAt) (es : List (PlaceKey × FirstPut)) → same_place a q ≡ true → lookup (is_place_key q) es ≡ lookup (is_place_key a) es
unfolding same_place
place_equal a q es e =
    let x = and_parts (same_view_key (view_key a.view) (view_key q.view) && bytes_eq a.group q.group) (a.place == q.place) e in
    let y = and_parts (same_view_key (view_key a.view) (view_key q.view)) (bytes_eq a.group q.group) x.0 in
    let views = view_key_same (view_key a.view) (view_key q.view) y.0 in
    let groups = text_same a.group q.group y.1 in
    let places = equal a.place q.place x.1 in
    sym (λ i. lookup (λ (z : PlaceKey). (same_view_key (views i) z.list.view && bytes_eq (groups i) z.list.group.items) && (places i == z.place)) es)

-- the key of a place, as a test of what it says
place_parts : (p : PlaceAt) (k : PlaceKey) → is_place_key p k ≡ true → (view_key p.view ≡ k.list.view) × (p.group ≡ k.list.group.items) × (p.place ≡ k.place)
place_parts p k e =
    let x = and_parts (is_list_key p.view p.group k.list) (p.place == k.place) e in
    let y = and_parts (same_view_key (view_key p.view) k.list.view) (bytes_eq p.group k.list.group.items) x.0 in
    (view_key_same (view_key p.view) k.list.view y.0, text_same p.group k.list.group.items y.1, equal p.place k.place x.1)

place_test : (p : PlaceAt) → IsKeyTest same_place_key (is_place_key p)
place_test p x y e = let s = place_parts p x e in λ i. (same_view_key (s.0 i) y.list.view && bytes_eq (s.1 i) y.list.group.items) && (s.2 i == y.place)

place_joined : (a q : PlaceAt) (k : PlaceKey) → is_place_key a k ≡ true → is_place_key q k ≡ true → same_place a q ≡ true
unfolding same_place
place_joined a q k e f = let s = place_parts q k f in (λ i. (same_view_key (view_key a.view) (s.0 i) && bytes_eq a.group (s.1 i)) && (a.place == s.2 i)) ∙ e

place_put : (a q : PlaceAt) (key : PlaceKey) (x : FirstPut) (es fs : List (PlaceKey × FirstPut)) → key.list.view ≡ view_key a.view → key.list.group.items ≡ a.group → key.place ≡ a.place
    → lookup (same_place_key key) fs ≡ Some x → KeepsOthers same_place_key (same_place_key key) es fs → lookup (is_place_key q) fs ≡ cond (same_place a q) (Some x) (lookup (is_place_key q) es)
place_put a q key x es fs v g n put others =
    put_found same_place_key is_place_key same_place a q key x es fs (place_test q) (λ k i. (same_view_key (v i) k.list.view && bytes_eq (g i) k.list.group.items) && (n i == k.place)) (place_joined a q) (place_equal a q fs) put others

module _ (n : ℕ) (v : ViewId) (g : List ℕ) (i : ℕ) (e : Entry) (key : PlaceKey) (at_view : key.list.view ≡ view_key v) (at_group : key.list.group.items ≡ g) (at_place : key.place ≡ i) (b : Bool) (es : List (PlaceKey × FirstPut)) (there : b ≡ is_some (lookup (same_place_key key) es)) (ls : List Line) where
  pub first_comes : (number : ℕ) (text : List ℕ) (fs : List (PlaceKey × FirstPut)) → b ≡ false → lookup (same_place_key key) fs ≡ Some (record { text = text; number = number }) → KeepsOthers same_place_key (same_place_key key) es fs → ArePlaces ls es → number ≡ length ls + 1 → text ≡ entry_text e
      → ArePlaces (line.Put n v g i e ∷ ls) fs
  first_comes number text fs new put others are at t =
      let here : PlaceAt = record { view = v; group = g; place = i } in
      first_noted same_place first_put_at here (line.Put n v g i e) ls (λ q. lookup (is_place_key q) es) (λ q. lookup (is_place_key q) fs) (record { text = text; number = number })
      (λ q same. place_equal here q es same)
      (λ q. place_gives n v g i e (length ls + 1) q ∙ (λ j. cond (same_place here q) (Some (record { text = sym t j; number = sym at j })) None))
      (sym (place_found key here es at_view at_group at_place) ∙ none_there (lookup (same_place_key key) es) (sym there ∙ new))
      (λ q. place_put here q key (record { text = text; number = number }) es fs at_view at_group at_place put others)
      are

  pub place_again : b ≡ true → ArePlaces ls es → ArePlaces (line.Put n v g i e ∷ ls) es
  place_again old are =
      let here : PlaceAt = record { view = v; group = g; place = i } in
      let y : (x : FirstPut) × (lookup (same_place_key key) es ≡ Some x) = one_there (lookup (same_place_key key) es) (sym there ∙ old) in
      first_again same_place first_put_at here (line.Put n v g i e) ls (λ q. lookup (is_place_key q) es) y.0 (λ q same. place_equal here q es same)
      (λ q other. place_gives n v g i e (length ls + 1) q ∙ ap (λ x. cond x (Some (record { text = entry_text e; number = length ls + 1 })) None) other)
      (sym (place_found key here es at_view at_group at_place) ∙ y.1) are
