-- What is kept of puts that open phases, and of who heard it, says what the lines say of them.
use Rattle.std.proofs.Common.{◌≡◌, ℕ, ◌+◌, ◌<◌, Bool, true, false, List, [], ◌∷◌, ◌++◌, length, Option, Some, None, refl, sym, ◌∙◌, ap, subst, arith, cond, length-append}
use Rattle.std.specs.Prelude.{◌==◌, ◌&&◌, ◌||◌, not, is_none, is_some, slice_get, if◌then◌else◌}
use Rattle.std.specs.Map.{lookup, KeepsOthers}
use Rattle.std.specs.Option.{option_map}
use Rattle.std.specs.Str.{bytes_eq}
use Rattle.std.proofs.lemmas.Bool.Decides.{nat_tests}
use Rattle.rsct_packet.specs.declared.ids.ProtoId.{ProtoId}
use Rattle.rsct_packet.specs.declared.ids.ProviderId.{ProviderId}
use Rattle.rsct_packet.specs.declared.ids.ViewId.{ViewId}
use Rattle.rsct_packet.specs.Ids.{same_proto}
use Rattle.rsct_packet.specs.Providers.{same_provider}
use Rattle.proposal_core.specs.declared.entry.Entry.{Entry}
use Rattle.proposal_core.specs.declared.entry.Entry.TheVariants as entry
use Rattle.proposal_core.specs.declared.entry.Vote.{Vote}
use Rattle.word_laws.proofs.ValueLaws.{and_parts}
use Rattle.record_lines.specs.declared.line.Line.{Line}
use Rattle.record_lines.specs.declared.line.Line.TheVariants as line
use Rattle.record_lines.specs.declared.line.What.{What}
use Rattle.run_audit.specs.declared.broken.Rule.TheVariants as rule
use Rattle.run_audit.specs.declared.keys.CastKey.{CastKey}
use Rattle.run_audit.specs.declared.lists.RowKey.{RowKey}
use Rattle.run_audit.specs.declared.openings.Opening.{Opening}
use Rattle.run_audit.specs.declared.openings.OpenPut.{OpenPut}
use Rattle.run_audit.specs.Keys.{provider_of, view_key, cast_key, same_cast_key}
use Rattle.run_audit.specs.Kept.{Keep, fault_of, or_new, last_given}
use Rattle.run_audit.specs.Lists.{RowAt, is_row_key, same_row_key}
use Rattle.run_audit.specs.Openings.{opening_of, open_put, open_put_at, AreOpenings, open_line, opened_at, proto_of, AreHeardOpen}
use Rattle.run_audit.specs.Past.{first_no, last_no, is_list, puts_after, puts_of, state_of, part_of, takes_part, last_heard}
use Rattle.run_audit.specs.Table.{all_same, heard_holds, heard_open, holds, is_base_of, is_cast_of, is_next, is_opening, is_own_base, last_is, opening_no, opens_phase, opens_there, or_no, same_what, what_of, with_of}
use Rattle.run_audit.proofs.KeptLaws.{any_line, last_line, last_noted}
use Rattle.run_audit.proofs.KeyLaws.{cast_words, equal, view_words}
use Rattle.run_audit.proofs.ListLaws.{list_same, place_is, row_put, same_row}
use Rattle.run_audit.proofs.PlaceLaws.{get_end}

-- ---- the last put that opens

opening_test : (u : ViewId) (i : ℕ) (e : Entry) (k : ℕ) → option_map (λ (o : OpenPut). o.number) (open_put i k (opening_of u i e)) ≡ cond (is_opening e) (Some k) None
unfolding open_put opening_of is_opening
opening_test u i (entry.Once x) k = refl
opening_test u i (entry.Begin x) k = refl
opening_test u i (entry.Phase c) k = refl
opening_test u i (entry.Approve c) k = refl
opening_test u i (entry.Reject c) k = refl
opening_test u i (entry.Late o n ps) k = refl

given_number : (r : RowAt) (l : Line) (k : ℕ) → option_map (λ (o : OpenPut). o.number) (open_put_at r l k) ≡ cond (opens_there r.node r.view r.group l) (Some k) None
unfolding opens_there
given_number r (line.Put m u h i e) k = by (m == r.node) (is_list r.view r.group u h)
  where
    by : (a t : Bool) → option_map (λ (o : OpenPut). o.number) (cond (a && t) (open_put i k (opening_of u i e)) None) ≡ cond (a && (t && is_opening e)) (Some k) None
    by true true = opening_test u i e k
    by true false = refl
    by false t = refl
given_number r _ k = refl

number_is : (o : Option OpenPut) → option_map (λ (o : OpenPut). o.number) o ≡ open_line o
unfolding open_line
number_is None = refl
number_is (Some o) = refl

pub open_line_found : (n : ℕ) (v : ViewId) (g : List ℕ) (o : Option OpenPut) (x : Option ℕ) (es : List (RowKey × OpenPut)) (ls : List Line) → o ≡ lookup (is_row_key (record { node = n; view = v; group = g })) es → x ≡ open_line o → AreOpenings ls es → x ≡ last_no (opens_there n v g) ls
open_line_found n v g o x es ls found is are =
    let r : RowAt = record { node = n; view = v; group = g } in
    is ∙ ap open_line (found ∙ are r) ∙ sym (last_line (opens_there n v g) (open_put_at r) (λ (o : OpenPut). o.number) (given_number r) ls ∙ number_is (last_given (open_put_at r) ls))

module _ (n : ℕ) (v : ViewId) (g : List ℕ) (ls : List Line) where
  pub opening_is : (put own first x y : Option ℕ) → put ≡ last_no (opens_there n v g) ls → own ≡ first_no (is_own_base n v g) ls → first ≡ first_no (is_base_of v g) ls → y ≡ or_no own first → x ≡ or_no put y → x ≡ opening_no n v g ls
  unfolding opening_no
  opening_is put own first x y a b c e f = f ∙ (λ i. or_no (a i) (e i)) ∙ (λ i. or_no (last_no (opens_there n v g) ls) (or_no (b i) (c i)))

pub none_opens : (key : RowKey) (v : ViewId) (g : List ℕ) (i : ℕ) (e : Entry) (es : List (RowKey × OpenPut)) (ls : List Line) → None ≡ opening_of v i e → AreOpenings ls es → AreOpenings (line.Put key.node v g i e ∷ ls) es
unfolding open_put
none_opens key v g i e es ls none are q = are q ∙ sym (ap (λ o. or_new (cond ((key.node == q.node) && is_list q.view q.group v g) (open_put i (length ls + 1) o) None) (last_given (open_put_at q) ls)) (sym none) ∙ by ((key.node == q.node) && is_list q.view q.group v g))
  where
    by : (t : Bool) → or_new (cond t None None) (last_given (open_put_at q) ls) ≡ last_given (open_put_at q) ls
    by true = refl
    by false = refl

pub open_noted : (key : RowKey) (v : ViewId) (g : List ℕ) (i number : ℕ) (e : Entry) (o : Opening) (es fs : List (RowKey × OpenPut)) (ls : List Line) → Some o ≡ opening_of v i e
    → lookup (same_row_key key) fs ≡ Some (record { place = i; opening = o; number = number }) → KeepsOthers same_row_key (same_row_key key) es fs → AreOpenings ls es → key.list.view ≡ view_key v → key.list.group.items ≡ g → number ≡ length ls + 1
    → AreOpenings (line.Put key.node v g i e ∷ ls) fs
unfolding same_row open_put is_list
open_noted key v g i number e o es fs ls some put others are b c at =
    let here : RowAt = record { node = key.node; view = v; group = g } in
    last_noted same_row open_put_at here (line.Put key.node v g i e) ls (λ q. lookup (is_row_key q) es) (λ q. lookup (is_row_key q) fs) (record { place = i; opening = o; number = number })
    (λ q. (λ j. cond ((key.node == q.node) && (sym (view_words v q.view) j && bytes_eq g q.group)) (open_put i (sym at j) (sym some j)) None))
    (λ q. row_put here q key (record { place = i; opening = o; number = number }) es fs refl b c put others)
    are

-- ---- what a put at the list's last place opens

abbrev below : Option OpenPut → ℕ → Type 0
below None k = Unit {0}
below (Some o) k = o.place < k

abbrev is_opened : ProtoId → ℕ → Option Opening → Bool
is_opened proto phase None = false
is_opened proto phase (Some o) = same_proto proto o.proto && phase == o.phase

opens_by : (proto : ProtoId) (phase : ℕ) (v : ViewId) (i : ℕ) (e : Entry) → opens_phase proto phase v i (Some e) ≡ is_opened proto phase (opening_of v i e)
unfolding opens_phase opening_of
opens_by proto phase v i (entry.Once x) = refl
opens_by proto phase v i (entry.Begin x) = refl
opens_by proto phase v i (entry.Phase c) = refl
opens_by proto phase v i (entry.Approve c) = refl
opens_by proto phase v i (entry.Reject c) = refl
opens_by proto phase v i (entry.Late o n ps) = refl

module _ (r : RowAt) where
  all_below : (ls : List Line) → Keep rule.Place ls → below (last_given (open_put_at r) ls) (length (puts_of r.node r.view r.group ls))
  unfolding puts_of puts_after open_put
  all_below [] k = tt
  all_below (line.Put m u h i e ∷ ls) k = by (m == r.node) (is_list r.view r.group u h) refl refl (all_below ls k.1)
    where
      raised : (o : Option OpenPut) → below o (length (puts_of r.node r.view r.group ls)) → below o (length (puts_of r.node r.view r.group ls ++ e ∷ []))
      raised None b = tt
      raised (Some o) b = let p = length-append (puts_of r.node r.view r.group ls) (e ∷ []) in omega (arith, p, b)

      new : (x : Option Opening) → i ≡ length (puts_of r.node r.view r.group ls) → below (last_given (open_put_at r) ls) (length (puts_of r.node r.view r.group ls)) → below (or_new (open_put i (length ls + 1) x) (last_given (open_put_at r) ls)) (length (puts_of r.node r.view r.group ls ++ e ∷ []))
      new None at b = raised (last_given (open_put_at r) ls) b
      new (Some x) at b = let p = length-append (puts_of r.node r.view r.group ls) (e ∷ []) in omega (arith, p, at)

      by : (a t : Bool) → (m == r.node) ≡ a → is_list r.view r.group u h ≡ t → below (last_given (open_put_at r) ls) (length (puts_of r.node r.view r.group ls))
          → below (or_new (cond (a && t) (open_put i (length ls + 1) (opening_of u i e)) None) (last_given (open_put_at r) ls)) (length (if a && t then puts_of r.node r.view r.group ls ++ e ∷ [] else puts_of r.node r.view r.group ls))
      by true true x y b = new (opening_of u i e) (place_is r.node m r.view u r.group h i e ls k.0 x y) b
      by true false x y b = b
      by false t x y b = b
  all_below (_ ∷ ls) k = all_below ls k.1

  none_past : (o : Option OpenPut) (i : ℕ) → below o i → opened_at i o ≡ None
  unfolding opened_at
  none_past None i b = refl
  none_past (Some o) i b = let other : (o.place == i) ≡ false = grind (arith, nat_tests) in ap (λ t. cond t (Some o.opening) None) other

  alike : (i : ℕ) → (i == i) ≡ true
  alike i = grind (arith, nat_tests)

  last_opens : (proto : ProtoId) (phase i : ℕ) (ls : List Line) → Keep rule.Place ls → length (puts_of r.node r.view r.group ls) ≡ i + 1
      → opens_phase proto phase r.view i (slice_get (puts_of r.node r.view r.group ls) i) ≡ is_opened proto phase (opened_at i (last_given (open_put_at r) ls))
  unfolding puts_of puts_after is_list open_put opened_at
  last_opens proto phase i [] k l = absurd (omega arith)
  last_opens proto phase i (line.Put m u h j e ∷ ls) k l = by (m == r.node) (is_list r.view r.group u h) refl refl l (last_opens proto phase i ls k.1)
    where
      new : (x : Option Opening) → x ≡ opening_of r.view i e → i ≡ j → below (last_given (open_put_at r) ls) i
          → is_opened proto phase x ≡ is_opened proto phase (opened_at i (or_new (open_put j (length ls + 1) x) (last_given (open_put_at r) ls)))
      new None is at b = ap (is_opened proto phase) (sym (none_past (last_given (open_put_at r) ls) i b))
      new (Some x) is at b = ap (λ t. is_opened proto phase (cond t (Some x) None)) (sym (ap (λ z. z == i) (sym at) ∙ alike i))

      by : (a t : Bool) → (m == r.node) ≡ a → is_list r.view r.group u h ≡ t → length (if a && t then puts_of r.node r.view r.group ls ++ e ∷ [] else puts_of r.node r.view r.group ls) ≡ i + 1
          → (length (puts_of r.node r.view r.group ls) ≡ i + 1 → opens_phase proto phase r.view i (slice_get (puts_of r.node r.view r.group ls) i) ≡ is_opened proto phase (opened_at i (last_given (open_put_at r) ls)))
          → opens_phase proto phase r.view i (slice_get (if a && t then puts_of r.node r.view r.group ls ++ e ∷ [] else puts_of r.node r.view r.group ls) i)
          ≡ is_opened proto phase (opened_at i (or_new (cond (a && t) (open_put j (length ls + 1) (opening_of u j e)) None) (last_given (open_put_at r) ls)))
      by true true x y l old =
          let p = length-append (puts_of r.node r.view r.group ls) (e ∷ []) in
          let at : j ≡ length (puts_of r.node r.view r.group ls) = place_is r.node m r.view u r.group h j e ls k.0 x y in
          let here : i ≡ length (puts_of r.node r.view r.group ls) = omega (arith, p, l) in
          let views : u ≡ r.view = (list_same r.view u r.group h y).0 in
          let same : opening_of u j e ≡ opening_of r.view i e = (λ z. opening_of (views z) ((at ∙ sym here) z) e) in
          ap (opens_phase proto phase r.view i) (get_end (puts_of r.node r.view r.group ls) e i here)
          ∙ opens_by proto phase r.view i e
          ∙ ap (is_opened proto phase) (sym same)
          ∙ new (opening_of u j e) same (here ∙ sym at) (subst (below (last_given (open_put_at r) ls)) (sym here) (all_below ls k.1))
      by true false x y l old = old l
      by false t x y l old = old l
  last_opens proto phase i (_ ∷ ls) k l = last_opens proto phase i ls k.1 l

-- ---- what was heard

pub none_heard : (es : List (CastKey × ℕ)) → es ≡ [] → AreHeardOpen [] es
unfolding heard_open
none_heard es e q = ap (λ z. is_some (lookup (same_cast_key q) z)) e

numbers_swap : (a b : ℕ) → (a == b) ≡ (b == a)
numbers_swap a b = by (a == b) (b == a) refl refl
  where
    by : (t u : Bool) → (a == b) ≡ t → (b == a) ≡ u → t ≡ u
    by true true e f = refl
    by true false e f = grind (arith, nat_tests)
    by false true e f = grind (arith, nat_tests)
    by false false e f = refl

protos_swap : (a b : ProtoId) (j k : ℕ) → (same_proto a b && j == k) ≡ (same_proto b a && k == j)
protos_swap a b j k =
    (λ i. ((numbers_swap a.view.number b.view.number i && numbers_swap a.view.coord b.view.coord i && numbers_swap a.view.inc b.view.inc i) && numbers_swap a.place b.place i) && numbers_swap j k i)

module _ (p : ProviderId) (v : ViewId) (g : List ℕ) (i : ℕ) (w : What) (ms : List ProviderId) (value : List ℕ) (ls : List Line) where
  length_is : holds rule.Heard (line.Heard p v g i w ms value) ls ≡ true → length (puts_of p.node v g ls) ≡ i + 1
  unfolding holds heard_holds last_is
  length_is h =
      let s = state_of p.node v g ls in
      let a = and_parts (last_is (puts_of p.node v g ls) i w) (all_same same_provider ms s.members && (bytes_eq value s.value && (takes_part i (part_of p v g ls) && is_next (part_of p v g ls) (last_heard p v g ls) i))) h in
      let b = and_parts (length (puts_of p.node v g ls) == i + 1) (elim (slice_get (puts_of p.node v g ls) i) [ None ↦ false | Some e ↦ same_what (what_of e) w ]) a.0 in
      equal (length (puts_of p.node v g ls)) (i + 1) b.0

  opens_is : (proto : ProtoId) (phase : ℕ) (o : Option OpenPut) (es : List (RowKey × OpenPut)) → o ≡ lookup (is_row_key (record { node = p.node; view = v; group = g })) es → AreOpenings ls es → Keep rule.Place ls → holds rule.Heard (line.Heard p v g i w ms value) ls ≡ true
      → opens_phase proto phase v i (slice_get (puts_of p.node v g ls) i) ≡ is_opened proto phase (opened_at i o)
  opens_is proto phase o es found are k h =
      last_opens (record { node = p.node; view = v; group = g }) proto phase i ls k (length_is h) ∙ ap (λ z. is_opened proto phase (opened_at i z)) (sym (found ∙ are (record { node = p.node; view = v; group = g })))

  or_by : (t b : Bool) → elim t [ true ↦ true | false ↦ b ] ≡ (t || b)
  or_by true b = refl
  or_by false b = refl

  module _ (o : Option OpenPut) (es : List (RowKey × OpenPut)) (cs : List (CastKey × ℕ)) (found : o ≡ lookup (is_row_key (record { node = p.node; view = v; group = g })) es) where
    pub heard_nothing : None ≡ opened_at i o → AreHeardOpen ls cs → AreOpenings ls es → Keep rule.Place ls → holds rule.Heard (line.Heard p v g i w ms value) ls ≡ true → AreHeardOpen (line.Heard p v g i w ms value ∷ ls) cs
    unfolding heard_open
    heard_nothing none heard are k h q =
        heard q
        ∙ sym (ap (λ t. elim (same_provider p (provider_of q.provider) && t) [ true ↦ true | false ↦ heard_open (provider_of q.provider) (proto_of q) q.phase ls ]) (opens_is (proto_of q) q.phase o es found are k h ∙ ap (is_opened (proto_of q) q.phase) (sym none))
        ∙ by (same_provider p (provider_of q.provider)))
      where
        by : (t : Bool) → elim (t && false) [ true ↦ true | false ↦ heard_open (provider_of q.provider) (proto_of q) q.phase ls ] ≡ heard_open (provider_of q.provider) (proto_of q) q.phase ls
        by true = refl
        by false = refl

    some_in : (t : Bool) (n : ℕ) (x : Option ℕ) → is_some (cond t (Some n) x) ≡ (t || is_some x)
    some_in true n x = refl
    some_in false n x = refl

    pub heard_noted : (x : Opening) (key : CastKey) (number : ℕ) (ds : List (CastKey × ℕ)) → Some x ≡ opened_at i o → key ≡ cast_key p x.proto x.phase
        → ((q : CastKey) → lookup (same_cast_key q) ds ≡ cond (same_cast_key key q) (Some number) (lookup (same_cast_key q) cs))
        → AreHeardOpen ls cs → AreOpenings ls es → Keep rule.Place ls → holds rule.Heard (line.Heard p v g i w ms value) ls ≡ true → AreHeardOpen (line.Heard p v g i w ms value ∷ ls) ds
    unfolding heard_open
    heard_noted x key number ds some is up heard are k h q =
        ap is_some (up q) ∙ some_in (same_cast_key key q) number (lookup (same_cast_key q) cs)
        ∙ (λ j. (ap (λ z. same_cast_key z q) is ∙ cast_words p (provider_of q.provider) x.proto (proto_of q) x.phase q.phase ∙ ap (λ z. same_provider p (provider_of q.provider) && z) (protos_swap x.proto (proto_of q) x.phase q.phase)) j || heard q j)
        ∙ sym (ap (λ t. elim (same_provider p (provider_of q.provider) && t) [ true ↦ true | false ↦ heard_open (provider_of q.provider) (proto_of q) q.phase ls ]) (opens_is (proto_of q) q.phase o es found are k h ∙ ap (is_opened (proto_of q) q.phase) (sym some))
        ∙ or_by (same_provider p (provider_of q.provider) && (same_proto (proto_of q) x.proto && q.phase == x.phase)) (heard_open (provider_of q.provider) (proto_of q) q.phase ls))

-- ---- what the table says

module _ (p : ProviderId) (o : ProtoId) (k : ℕ) (v : Vote) (x : Option (List ℕ)) (ls : List Line) (key : CastKey) (heard b : Bool) (first : Option ℕ) (es : List (CastKey × ℕ)) (at : first ≡ first_no (is_cast_of p o k) ls) (is : key ≡ cast_key p o k) (has : heard ≡ is_some (lookup (same_cast_key key) es))
    (may : b ≡ (heard && is_none first)) (are : AreHeardOpen ls es) where
  none_by : (o : Option ℕ) → is_none o ≡ not (is_some o)
  none_by None = refl
  none_by (Some n) = refl

  holds_so : holds rule.Cast (line.Cast p o k v x) ls ≡ b
  unfolding holds
  holds_so =
      sym (may ∙ (λ i. (has ∙ ap (λ z. is_some (lookup (same_cast_key z) es)) is ∙ are (cast_key p o k)) i && (none_by first ∙ ap (λ z. not (is_some z)) at ∙ ap not (sym (any_line (is_cast_of p o k) ls))) i))

  pub cast_kept : b ≡ true → None ≡ fault_of rule.Cast (line.Cast p o k v x) ls
  cast_kept it_is = sym (ap (λ t. if t then None else Some (record { rule = rule.Cast; with_line = with_of rule.Cast (line.Cast p o k v x) ls })) (holds_so ∙ it_is))

  pub cast_broken : b ≡ false → Some (record { rule = rule.Cast; with_line = first }) ≡ fault_of rule.Cast (line.Cast p o k v x) ls
  unfolding with_of
  cast_broken not_so =
      ap (λ z. Some (record { rule = rule.Cast; with_line = z })) at ∙ sym (ap (λ t. if t then None else Some (record { rule = rule.Cast; with_line = first_no (is_cast_of p o k) ls })) (holds_so ∙ not_so))
