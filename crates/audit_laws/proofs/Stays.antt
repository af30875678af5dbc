-- The stays of a node, by the lines, are those of its records since it started; so a provider takes part where it does by the records.
use Rattle.std.proofs.Common.{◌≡◌, ℕ, suc, ◌+◌, take, Bool, true, false, List, [], ◌∷◌, ◌++◌, Option, Some, None, inl, inr, refl, sym, ◌∙◌, ap, subst}
use Rattle.std.specs.Prelude.{◌==◌, ◌&&◌, not, map, is_some, is_none, nat_le, if◌then◌else◌}
use Rattle.std.specs.Str.{bytes_eq}
use Rattle.std.specs.Option.{option_map}
use Rattle.std.proofs.lemmas.Bool.{and_parts, eqb-true}
use Rattle.rsct_packet.specs.declared.ids.Member.{Member}
use Rattle.rsct_packet.specs.declared.ids.ProviderId.{ProviderId}
use Rattle.rsct_packet.specs.declared.ids.ViewId.{ViewId}
use Rattle.rsct_packet.specs.Ids.{same_view, view_lt}
use Rattle.rsct_packet.specs.Providers.{among}
use Rattle.rsct_packet.specs.Search.{Has, place_where}
use Rattle.view_state.proofs.ViewOrder.{not_before_itself, same_view_is}
use Rattle.proposal_core.specs.declared.entry.Entry.{Entry}
use Rattle.proposal_core.specs.declared.entry.Entry.TheVariants as entry
use Rattle.proposal_core.specs.declared.group_state.GroupState.{GroupState}
use Rattle.proposal_core.specs.Fold.{empty_state, after, present}
use Rattle.node_state.specs.declared.happened.Happened.{Happened}
use Rattle.node_state.specs.declared.happened.Happened.TheVariants as happened
use Rattle.run_safety.specs.Past as past
use Rattle.run_safety.specs.Sight as sight
use Rattle.run_safety.specs.Stays as stay
use Rattle.run_safety.specs.ViewOrder.{is_before}
use Rattle.log_laws.specs.Logs.{is_up}
use Rattle.run_laws.specs.seen_runs.Seen.{Seen, SeenAt}
use Rattle.line_laws.specs.Shown.{entry_shown}
use Rattle.run_audit.specs.Past.{view_of, view_after, is_list, list_of, fold_from, base_of, base_state, Stay, with_base, with_entry, stays, stays_to, is_join_of, Part, passes, first_in, last_from, last_in, part_with, part, part_of}
use Rattle.run_audit.proofs.ListLaws.{text_same}
use Rattle.audit_laws.specs.Lines.{shown, lines}
use Rattle.audit_laws.specs.Records.{OfRun}
use Rattle.audit_laws.proofs.Nodes.{Entered, view_was}
use Rattle.audit_laws.proofs.Past.{older}
use Rattle.audit_laws.proofs.States.{Knows, base_is, after_shown}
use Rattle.audit_laws.proofs.Tests.{both, view_self, map_end}

-- ---- the same words, of records and of lines

join_same : (p : ProviderId) (e : Entry) → is_join_of p (entry_shown e) ≡ stay.is_join_of p e
unfolding is_join_of
join_same p (entry.Once x) = refl
join_same p (entry.Begin x) = refl
join_same p (entry.Phase c) = refl
join_same p (entry.Approve c) = refl
join_same p (entry.Reject c) = refl
join_same p (entry.Late proto phase ps) = refl

place_same : (p : ProviderId) (es : List Entry) → place_where (is_join_of p) (map entry_shown es) ≡ place_where (stay.is_join_of p) es
place_same p [] = refl
place_same p (e ∷ es) = λ i. if join_same p e i then Some 0 else option_map suc (place_same p es i)

chosen : (i : ℕ) (t : Bool) (x : Option ℕ) → elim t [ true ↦ Some i | false ↦ x ] ≡ (if t then Some i else x)
chosen i true x = refl
chosen i false x = refl

last_same : (p : ProviderId) (v : ViewId) (first : ℕ) (s : GroupState) (i : ℕ) (es : List Entry) → last_from p v first s i (map entry_shown es) ≡ stay.last_from p v first s i es
unfolding last_from
last_same p v first s i [] = refl
last_same p v first s i (e ∷ es) =
    (λ j. elim (nat_le first i && not (among (present (after_shown s v i e j)) p)) [ true ↦ Some i | false ↦ last_from p v first (after_shown s v i e j) (i + 1) (map entry_shown es) ])
    ∙ (ap (λ z. elim (nat_le first i && not (among (present (after s v i e)) p)) [ true ↦ Some i | false ↦ z ]) (last_same p v first (after s v i e) (i + 1) es)
    ∙ chosen i (nat_le first i && not (among (present (after s v i e)) p)) (stay.last_from p v first (after s v i e) (i + 1) es))

-- ---- stays that are over

abbrev pub is_more : List stay.Stay → Bool
is_more [] = false
is_more (x ∷ xs) = true

-- a stay by the lines is this one by the records, which these came before
pub record IsStay (xs : List stay.Stay) (x : stay.Stay) (y : Stay) : Type 0 where
  pub view : y.view ≡ x.view
  pub on : y.on ≡ is_more xs
  pub base : y.base ≡ x.base
  pub entries : y.entries ≡ map entry_shown x.entries

-- those by the lines begin with these
abbrev pub AreStays : List stay.Stay → List Stay → Type 0
AreStays [] ys = Unit {0}
AreStays (x ∷ xs) [] = ⊥
AreStays (x ∷ xs) (y ∷ ys) = IsStay xs x y × AreStays xs ys

-- where a provider takes part is the same
pub record SamePart (x : stay.Part) (y : Part) : Type 0 where
  pub first : y.first ≡ x.first
  pub last : y.last ≡ x.last

first_same : (p : ProviderId) (es : List Entry) (t : Bool) → first_in p (map entry_shown es) t ≡ stay.first_in p es t
unfolding first_in
first_same p es true = refl
first_same p es false = place_same p es

last_in_same : (p : ProviderId) (y : Stay) (x : stay.Stay) → y.view ≡ x.view → y.base ≡ x.base → y.entries ≡ map entry_shown x.entries → (o : Option ℕ) → last_in p y o ≡ stay.last_in p x o
unfolding last_in
last_in_same p y x a b c None = refl
last_in_same p y x a b c (Some first) = (λ i. last_from p (a i) first (b i) 0 (c i)) ∙ last_same p x.view first x.base 0 x.entries

passes_same : (p : ProviderId) (b c : GroupState) (x : stay.Part) (y : Part) → c ≡ b → SamePart x y → passes p c y ≡ stay.passes p b x
unfolding passes
passes_same p b c x y e k = λ i. is_some (k.first i) && (is_none (k.last i) && (among (present (e i)) p && not (among (e i).failed p)))

on_same : (p : ProviderId) (xs : List stay.Stay) (ys : List Stay) (x : stay.Stay) (y : Stay) → IsStay xs x y → (is_more xs ≡ true → SamePart (stay.part p xs) (part p ys)) → (y.on && passes p y.base (part p ys)) ≡ stay.passes p x.base (stay.part p xs)
on_same p [] ys x y k older = ap (λ z. z && passes p y.base (part p ys)) k.on
on_same p (w ∷ xs) ys x y k older = ap (λ z. z && passes p y.base (part p ys)) k.on ∙ passes_same p x.base y.base (stay.part p (w ∷ xs)) (part p ys) k.base (older refl)

part_here : (p : ProviderId) (xs : List stay.Stay) (ys : List Stay) (x : stay.Stay) (y : Stay) → IsStay xs x y → (is_more xs ≡ true → SamePart (stay.part p xs) (part p ys)) → SamePart (stay.part p (x ∷ xs)) (part p (y ∷ ys))
unfolding part part_with
part_here p xs ys x y k older =
    let first : first_in p y.entries (y.on && passes p y.base (part p ys)) ≡ stay.first_in p x.entries (stay.passes p x.base (stay.part p xs)) =
    (λ i. first_in p (k.entries i) (on_same p xs ys x y k older i)) ∙ first_same p x.entries (stay.passes p x.base (stay.part p xs)) in
    record {
      first = first;
      last = ap (last_in p y) first ∙ last_in_same p y x k.view k.base k.entries (stay.first_in p x.entries (stay.passes p x.base (stay.part p xs)));
    }

pub parts_same : (p : ProviderId) (xs : List stay.Stay) (ys : List Stay) → is_more xs ≡ true → AreStays xs ys → SamePart (stay.part p xs) (part p ys)
parts_same p [] ys m k = absurd cc
parts_same p (x ∷ xs) [] m k = absurd k
parts_same p (x ∷ xs) (y ∷ ys) m k = part_here p xs ys x y k.0 (λ more. parts_same p xs ys more k.1)

-- ---- the stay that a node is in

-- the base that the lines have is known at the node once it put something; the others are over
pub record Staying (n : ℕ) (g : List ℕ) (v : ViewId) (rs : List Happened) : Type 0 where
  pub now : stay.Stay
  pub before : List stay.Stay
  pub line : Stay
  pub lines_before : List Stay
  pub are : stay.stays n g rs ≡ now ∷ before
  pub lines_are : stays n g (lines rs) ≡ line ∷ lines_before
  pub view : now.view ≡ v
  pub line_view : line.view ≡ v
  pub on : line.on ≡ is_more before
  pub base : now.base ≡ past.base_of n v g rs
  pub line_base : line.base ≡ base_state v g (lines rs)
  pub entries : line.entries ≡ map entry_shown now.entries
  pub over : AreStays before lines_before

abbrev pub StaysAt : ℕ → List ℕ → List Happened → Option ViewId → Type 0
StaysAt n g rs None = stay.stays n g rs ≡ []
StaysAt n g rs (Some v) = Staying n g v rs

-- while a node is up, it is in the view that the lines say
pub up_view : (n : ℕ) (rs : List Happened) → is_up n rs ≡ true → view_of n (lines rs) ≡ past.view_now n rs
unfolding lines shown view_of view_after
up_view n [] e = absurd cc
up_view n (happened.Up m j ∷ rs) e = by (m == n) e (up_view n rs)
  where
    by : (t : Bool) → (if t then true else is_up n rs) ≡ true → (is_up n rs ≡ true → view_of n (lines rs) ≡ past.view_now n rs) → (if t then None else view_of n (lines rs)) ≡ (if t then None else past.view_now n rs)
    by true q k = refl
    by false q k = k q
up_view n (happened.Down m ∷ rs) e = by (m == n) e (up_view n rs)
  where
    by : (t : Bool) → (if t then false else is_up n rs) ≡ true → (is_up n rs ≡ true → view_of n (lines rs) ≡ past.view_now n rs) → view_of n (lines rs) ≡ (if t then None else past.view_now n rs)
    by true q k = absurd cc
    by false q k = k q
up_view n (happened.In m v ms ∷ rs) e = ap (λ z. if m == n then Some v else z) (up_view n rs e)
up_view n (_ ∷ rs) e = up_view n rs e

-- a node enters no view that it noted a base of
no_base : (n : ℕ) (v : ViewId) (g : List ℕ) (rs : List Happened) → ((t : ViewId) (k : ℕ) (x : GroupState) → Has (happened.Base n v g t k x) rs → ⊥) → past.base_of n v g rs ≡ empty_state
no_base n v g [] h = refl
no_base n v g (happened.Base m u w old len s ∷ rs) h = by (past.is_list n v g m u w) refl (no_base n v g rs (λ t k x q. h t k x (inr q)))
  where
    by : (f : Bool) → past.is_list n v g m u w ≡ f → past.base_of n v g rs ≡ empty_state → (if f then s else past.base_of n v g rs) ≡ empty_state
    by false f q = q
    by true f q =
        let p = and_parts (m == n) (same_view u v && bytes_eq w g) f in
        let z = and_parts (same_view u v) (bytes_eq w g) p.1 in
        let a : m ≡ n = eqb-true m n p.0 in
        let b : u ≡ v = same_view_is u v z.0 in
        let c : w ≡ g = text_same w g z.1 in
        absurd (h old len s (inl (λ i. happened.Base (sym a i) (sym b i) (sym c i) old len s)))
no_base n v g (_ ∷ rs) h = no_base n v g rs (λ t k x q. h t k x (inr q))

base_entered : (n : ℕ) (v : ViewId) (g : List ℕ) (t : ViewId) (k : ℕ) (x : GroupState) (rs : List Happened) → Seen rs → Has (happened.Base n v g t k x) rs → (os : List Member) × Has (happened.In n v os) rs
base_entered n v g t k x [] s h = absurd h
base_entered n v g t k x (happened.Base m u w old len st ∷ rs) s (inl e) =
    let a : n ≡ m = cc in
    let b : v ≡ u = cc in
    (s.0.base.members, inr (subst (λ (z : ℕ × ViewId). Has (happened.In z.0 z.1 s.0.base.members) rs) (λ i. (sym a i, sym b i)) s.0.base.entered))
base_entered n v g t k x (_ ∷ rs) s (inl e) = absurd cc
base_entered n v g t k x (r ∷ rs) s (inr h) = let y = base_entered n v g t k x rs s.1 h in (y.0, inr y.1)

pub new_view : (n : ℕ) (v : ViewId) (ms os : List Member) (rs : List Happened) → SeenAt rs (happened.In n v ms) → Has (happened.In n v os) rs → ⊥
unfolding is_before
new_view n v ms os rs at h =
    let same : os ≡ ms = at.members n os h in
    let up : view_lt v v ≡ true = at.rises v os h (ap (sight.inc_in n) same) in
    let no : view_lt v v ≡ false = not_before_itself v in
    let z : true ≡ false = sym up ∙ no in
    cc

fresh_base : (n : ℕ) (v : ViewId) (ms : List Member) (g : List ℕ) (rs : List Happened) → Seen rs → SeenAt rs (happened.In n v ms) → past.base_of n v g rs ≡ empty_state
fresh_base n v ms g rs s at = no_base n v g rs (λ t k x h. let y = base_entered n v g t k x rs s h in new_view n v ms y.0 rs at y.1)

-- ---- one record more

-- who leaves a view knows the bases there
leaver_knows : (n : ℕ) (w : ViewId) (ms : List Member) (u : ViewId) (g : List ℕ) (rs : List Happened) → Seen rs → SeenAt rs (happened.In n w ms) → Entered n u rs → Knows n u g rs
leaver_knows n w ms u g rs s at k m t len x h =
    let y = base_entered m u g t len x rs s h in
    at.bases m n u y.0 k.members g t len x y.1 k.there h

-- the stay that a node leaves is over
left_behind : (n : ℕ) (w : ViewId) (ms : List Member) (u : ViewId) (g : List ℕ) (rs : List Happened) → Seen rs → SeenAt rs (happened.In n w ms) → Entered n u rs → (k : Staying n g u rs) → AreStays (k.now ∷ k.before) (k.line ∷ k.lines_before)
left_behind n w ms u g rs s at e k = (
  record {
    view = k.line_view ∙ sym k.view;
    on = k.on;
    base = k.line_base ∙ (base_is rs s n u g (leaver_knows n w ms u g rs s at e) ∙ sym k.base);
    entries = k.entries;
  },
  k.over,
)

other_view : (y u v : ViewId) → y ≡ v → same_view y u ≡ false → same_view u v ≡ false
other_view y u v e f = by (same_view u v) refl
  where
    by : (t : Bool) → same_view u v ≡ t → same_view u v ≡ false
    by false q = q
    by true q =
        let a : u ≡ v = same_view_is u v q in
        let b : same_view y u ≡ true = subst (λ z. same_view z u ≡ true) (a ∙ sym e) (view_self u) in
        absurd (let z : true ≡ false = sym b ∙ f in cc)

list_no : (v u : ViewId) (g h : List ℕ) → (same_view u v && bytes_eq h g) ≡ false → is_list v g u h ≡ false
unfolding is_list
list_no v u g h e = e

list_same_view : (v u : ViewId) (g h : List ℕ) → same_view u v ≡ false → (same_view u v && bytes_eq h g) ≡ false
list_same_view v u g h e = ap (λ z. z && bytes_eq h g) e

list_same_group : (v u : ViewId) (g h : List ℕ) → bytes_eq h g ≡ false → (same_view u v && bytes_eq h g) ≡ false
list_same_group v u g h e = ap (λ z. same_view u v && z) e ∙ by (same_view u v)
  where
    by : (t : Bool) → (t && false) ≡ false
    by true = refl
    by false = refl

-- a record that the node's stays and base do not change by
keep : (n : ℕ) (g : List ℕ) (r : Happened) (rs : List Happened) → stay.stays n g (r ∷ rs) ≡ stay.stays n g rs → stays n g (lines (r ∷ rs)) ≡ stays n g (lines rs) → (o : Option ViewId)
    → ((v : ViewId) → o ≡ Some v → (past.base_of n v g (r ∷ rs) ≡ past.base_of n v g rs) × (base_state v g (lines (r ∷ rs)) ≡ base_state v g (lines rs))) → StaysAt n g rs o → StaysAt n g (r ∷ rs) o
keep n g r rs a b None c k = a ∙ k
keep n g r rs a b (Some v) c k =
    let x = c v refl in
    record {
      now = k.now;
      before = k.before;
      line = k.line;
      lines_before = k.lines_before;
      are = a ∙ k.are;
      lines_are = b ∙ k.lines_are;
      view = k.view;
      line_view = k.line_view;
      on = k.on;
      base = k.base ∙ sym x.0;
      line_base = k.line_base ∙ sym x.1;
      entries = k.entries;
      over = k.over;
    }

no_stay_base : (b : Bool) (s : GroupState) (xs : List stay.Stay) → xs ≡ [] → (if b then stay.with_base s xs else xs) ≡ []
no_stay_base b s xs e = ap (λ z. if b then stay.with_base s z else z) e ∙ by b
  where
    by : (t : Bool) → (if t then stay.with_base s [] else []) ≡ []
    by true = refl
    by false = refl

no_stay_entry : (b : Bool) (e : Entry) (xs : List stay.Stay) → xs ≡ [] → (if b then stay.with_entry e xs else xs) ≡ []
no_stay_entry b e xs q = ap (λ z. if b then stay.with_entry e z else z) q ∙ by b
  where
    by : (t : Bool) → (if t then stay.with_entry e [] else []) ≡ []
    by true = refl
    by false = refl

and_right : (a b : Bool) → b ≡ false → (a && b) ≡ false
and_right true b e = e
and_right false b e = refl

same_some : (u v : ViewId) → Some u ≡ Some v → u ≡ v
same_some u v e = cc

-- the node enters a view
module _ (n : ℕ) (g : List ℕ) (m : ℕ) (v : ViewId) (ms : List Member) (rs : List Happened) (k : OfRun (happened.In m v ms ∷ rs)) (f : (m == n) ≡ true) where
  node : m ≡ n
  node = eqb-true m n f

  at_node : SeenAt rs (happened.In n v ms)
  at_node = subst (λ z. SeenAt rs (happened.In z v ms)) node k.seen.0

  up : view_of n (lines rs) ≡ past.view_now n rs
  up = up_view n rs (subst (λ z. is_up z rs ≡ true) node k.in_turn.0)

  entered : (o : Option ViewId) → past.view_now n rs ≡ o → StaysAt n g rs o → Staying n g v (happened.In m v ms ∷ rs)
  unfolding lines shown stays base_state
  entered None q old =
      record {
        now = record { view = v; base = empty_state; entries = [] };
        before = [];
        line = record { view = v; on = is_some (view_of n (lines rs)); base = base_state v g (lines rs); entries = [] };
        lines_before = stays n g (lines rs);
        are = ap (λ z. if z then record { view = v; base = empty_state; entries = [] } ∷ stay.stays n g rs else stay.stays n g rs) f ∙ ap (λ (z : List stay.Stay). record { view = v; base = empty_state; entries = [] } ∷ z) old;
        lines_are = ap (λ z. elim z [ true ↦ record { view = v; on = is_some (view_of n (lines rs)); base = base_state v g (lines rs); entries = [] } ∷ stays n g (lines rs) | false ↦ stays n g (lines rs) ]) f;
        view = refl;
        line_view = refl;
        on = ap is_some (up ∙ q);
        base = sym (fresh_base n v ms g rs k.seen.1 at_node);
        line_base = refl;
        entries = refl;
        over = tt;
      }
  entered (Some u) q old =
      record {
        now = record { view = v; base = empty_state; entries = [] };
        before = old.now ∷ old.before;
        line = record { view = v; on = is_some (view_of n (lines rs)); base = base_state v g (lines rs); entries = [] };
        lines_before = old.line ∷ old.lines_before;
        are = ap (λ z. if z then record { view = v; base = empty_state; entries = [] } ∷ stay.stays n g rs else stay.stays n g rs) f ∙ ap (λ (z : List stay.Stay). record { view = v; base = empty_state; entries = [] } ∷ z) old.are;
        lines_are =
            ap (λ z. elim z [ true ↦ record { view = v; on = is_some (view_of n (lines rs)); base = base_state v g (lines rs); entries = [] } ∷ stays n g (lines rs) | false ↦ stays n g (lines rs) ]) f
            ∙ ap (λ (z : List Stay). record { view = v; on = is_some (view_of n (lines rs)); base = base_state v g (lines rs); entries = [] } ∷ z) old.lines_are;
        view = refl;
        line_view = refl;
        on = ap is_some (up ∙ q);
        base = sym (fresh_base n v ms g rs k.seen.1 at_node);
        line_base = refl;
        entries = refl;
        over = left_behind n v ms u g rs k.seen.1 at_node (view_was n u rs k.seen.1 (up ∙ q)) old;
      }

-- a node notes a base of the group
module _ (n : ℕ) (g : List ℕ) (m : ℕ) (u : ViewId) (h : List ℕ) (old : ViewId) (len : ℕ) (s : GroupState) (rs : List Happened) (k : OfRun (happened.Base m u h old len s ∷ rs)) where
  abbrev its : Happened
  its = happened.Base m u h old len s

  -- of another list
  state_other : (v : ViewId) → (same_view u v && bytes_eq h g) ≡ false → base_state v g (lines (its ∷ rs)) ≡ base_state v g (lines rs)
  unfolding lines shown base_state
  state_other v e = ap (λ z. elim z [ true ↦ Cut | false ↦ base_state v g (lines rs) ]) (ap (λ z. z && None_yet) (list_no v u g h e))
    where
      None_yet : Bool
      None_yet = is_none (base_of v g (lines rs))

      Cut : GroupState
      Cut = record (fold_from old (base_state old g (lines rs)) 0 (take len (list_of old g (lines rs)))) { failed = s.failed }

  own_other : (v : ViewId) → (m == n && (same_view u v && bytes_eq h g)) ≡ false → past.base_of n v g (its ∷ rs) ≡ past.base_of n v g rs
  own_other v e = ap (λ z. if z then s else past.base_of n v g rs) e

  -- the line's stay with the base
  record LineStay (v : ViewId) (y : Stay) (ys : List Stay) : Type 0 where
    line : Stay
    is : with_base u (base_state u g (lines (its ∷ rs))) (y ∷ ys) ≡ line ∷ ys
    view : line.view ≡ y.view
    on : line.on ≡ y.on
    base : line.base ≡ base_state v g (lines (its ∷ rs))
    entries : line.entries ≡ y.entries

  line_stay : (v : ViewId) (y : Stay) (ys : List Stay) → y.view ≡ v → y.base ≡ base_state v g (lines rs) → LineStay v y ys
  unfolding with_base
  line_stay v y ys here base = by (same_view y.view u) refl
    where
      B : GroupState
      B = base_state u g (lines (its ∷ rs))

      by : (t : Bool) → same_view y.view u ≡ t → LineStay v y ys
      by true t =
          let a : u ≡ v = sym (same_view_is y.view u t) ∙ here in
          record { line = record y { base = B }; is = ap (λ z. if z then record y { base = B } ∷ ys else y ∷ ys) t; view = refl; on = refl; base = ap (λ z. base_state z g (lines (its ∷ rs))) a; entries = refl }
      by false t = record { line = y; is = ap (λ z. if z then record y { base = B } ∷ ys else y ∷ ys) t; view = refl; on = refl; base = base ∙ sym (state_other v (list_same_view v u g h (other_view y.view u v here t))); entries = refl }

  -- the record's stay with the base
  record OwnStay (v : ViewId) (x : stay.Stay) (xs : List stay.Stay) : Type 0 where
    now : stay.Stay
    is : (if m == n && bytes_eq h g then stay.with_base s (x ∷ xs) else x ∷ xs) ≡ now ∷ xs
    view : now.view ≡ x.view
    base : now.base ≡ past.base_of n v g (its ∷ rs)
    entries : now.entries ≡ x.entries

  own_stay : (v : ViewId) (x : stay.Stay) (xs : List stay.Stay) → past.view_now n rs ≡ Some v → bytes_eq h g ≡ true → x.base ≡ past.base_of n v g rs → OwnStay v x xs
  own_stay v x xs here f base = by (m == n) refl
    where
      by : (t : Bool) → (m == n) ≡ t → OwnStay v x xs
      by true t =
          let a : m ≡ n = eqb-true m n t in
          let there : past.view_now n rs ≡ Some u = subst (λ z. past.view_now z rs ≡ Some u) a k.in_turn.0.0 in
          let b : u ≡ v = same_some u v (sym there ∙ here) in
          let list : past.is_list n v g m u h ≡ true = both (m == n) (same_view u v && bytes_eq h g) t (both (same_view u v) (bytes_eq h g) (subst (λ z. same_view u z ≡ true) b (view_self u)) f) in
          record {
            now = record x { base = s };
            is = ap (λ z. if z then stay.with_base s (x ∷ xs) else x ∷ xs) (both (m == n) (bytes_eq h g) t f);
            view = refl;
            base = sym (ap (λ z. if z then s else past.base_of n v g rs) list);
            entries = refl;
          }
      by false t =
          record {
            now = x;
            is = ap (λ z. if z && bytes_eq h g then stay.with_base s (x ∷ xs) else x ∷ xs) t;
            view = refl;
            base = base ∙ sym (own_other v (ap (λ z. z && (same_view u v && bytes_eq h g)) t));
            entries = refl;
          }

  based : (o : Option ViewId) → past.view_now n rs ≡ o → StaysAt n g rs o → StaysAt n g (its ∷ rs) o
  unfolding lines shown stays
  based None q st = no_stay_base (m == n && bytes_eq h g) s (stay.stays n g rs) st
  based (Some v) q st = by (bytes_eq h g) refl
    where
      by : (t : Bool) → bytes_eq h g ≡ t → Staying n g v (its ∷ rs)
      by false f =
          keep n g its rs (ap (λ z. if z then stay.with_base s (stay.stays n g rs) else stay.stays n g rs) (and_right (m == n) (bytes_eq h g) f))
          (ap (λ z. elim z [ true ↦ with_base u (base_state u g (lines (its ∷ rs))) (stays n g (lines rs)) | false ↦ stays n g (lines rs) ]) f) (Some v)
          (λ w e. (own_other w (and_right (m == n) (same_view u w && bytes_eq h g) (list_same_group w u g h f)), state_other w (list_same_group w u g h f))) st
      by true f =
          let y = line_stay v st.line st.lines_before st.line_view st.line_base in
          let x = own_stay v st.now st.before q f st.base in
          record {
            now = x.now;
            before = st.before;
            line = y.line;
            lines_before = st.lines_before;
            are = ap (λ z. if m == n && bytes_eq h g then stay.with_base s z else z) st.are ∙ x.is;
            lines_are =
                ap (λ z. elim z [ true ↦ with_base u (base_state u g (lines (its ∷ rs))) (stays n g (lines rs)) | false ↦ stays n g (lines rs) ]) f
                ∙ (ap (with_base u (base_state u g (lines (its ∷ rs)))) st.lines_are ∙ y.is);
            view = x.view ∙ st.view;
            line_view = y.view ∙ st.line_view;
            on = y.on ∙ st.on;
            base = x.base;
            line_base = y.base;
            entries = y.entries ∙ (st.entries ∙ ap (map entry_shown) (sym x.entries));
            over = st.over;
          }

-- a node puts an entry
module _ (n : ℕ) (g : List ℕ) (m : ℕ) (u : ViewId) (h : List ℕ) (i : ℕ) (e : Entry) (rs : List Happened) (k : OfRun (happened.Put m u h i e ∷ rs)) where
  put : (o : Option ViewId) → past.view_now n rs ≡ o → StaysAt n g rs o → StaysAt n g (happened.Put m u h i e ∷ rs) o
  unfolding lines shown stays with_entry base_state
  put None q st = no_stay_entry (m == n && bytes_eq h g) e (stay.stays n g rs) st
  put (Some v) q st = by (m == n && bytes_eq h g) refl
    where
      by : (t : Bool) → (m == n && bytes_eq h g) ≡ t → Staying n g v (happened.Put m u h i e ∷ rs)
      by false f =
          keep n g (happened.Put m u h i e) rs (ap (λ z. if z then stay.with_entry e (stay.stays n g rs) else stay.stays n g rs) f)
          (ap (λ z. elim z [ true ↦ with_entry u (entry_shown e) (stays n g (lines rs)) | false ↦ stays n g (lines rs) ]) f) (Some v) (λ w z. (refl, refl)) st
      by true f =
          let p = and_parts (m == n) (bytes_eq h g) f in
          let a : m ≡ n = eqb-true m n p.0 in
          let there : past.view_now n rs ≡ Some u = subst (λ z. past.view_now z rs ≡ Some u) a k.seen.0.in_view in
          let b : u ≡ v = same_some u v (sym there ∙ q) in
          let here : same_view st.line.view u ≡ true = subst (λ z. same_view st.line.view z ≡ true) (st.line_view ∙ sym b) (view_self st.line.view) in
          record {
            now = record st.now { entries = (st.now).entries ++ e ∷ [] };
            before = st.before;
            line = record st.line { entries = (st.line).entries ++ entry_shown e ∷ [] };
            lines_before = st.lines_before;
            are = ap (λ z. if z then stay.with_entry e (stay.stays n g rs) else stay.stays n g rs) f ∙ ap (stay.with_entry e) st.are;
            lines_are =
                ap (λ z. elim z [ true ↦ with_entry u (entry_shown e) (stays n g (lines rs)) | false ↦ stays n g (lines rs) ]) f
                ∙ (ap (with_entry u (entry_shown e)) st.lines_are ∙ ap (λ z. if z then record st.line { entries = (st.line).entries ++ entry_shown e ∷ [] } ∷ st.lines_before else st.line ∷ st.lines_before) here);
            view = st.view;
            line_view = st.line_view;
            on = st.on;
            base = st.base;
            line_base = st.line_base;
            entries = ap (λ z. z ++ entry_shown e ∷ []) st.entries ∙ sym (map_end entry_shown (st.now).entries e);
            over = st.over;
          }

pub stays_are : (n : ℕ) (g : List ℕ) (rs : List Happened) → OfRun rs → StaysAt n g rs (past.view_now n rs)
unfolding lines shown stays base_state
stays_are n g [] k = refl
stays_are n g (happened.Up m j ∷ rs) k = by (m == n) refl (stays_are n g rs (older (happened.Up m j) rs k))
  where
    by : (t : Bool) → (m == n) ≡ t → StaysAt n g rs (past.view_now n rs) → StaysAt n g (happened.Up m j ∷ rs) (if t then None else past.view_now n rs)
    by true f old = ap (λ z. if z then [] else stay.stays n g rs) f
    by false f old = keep n g (happened.Up m j) rs (ap (λ z. if z then [] else stay.stays n g rs) f) refl (past.view_now n rs) (λ v z. (refl, refl)) old
stays_are n g (happened.Down m ∷ rs) k = by (m == n) refl (stays_are n g rs (older (happened.Down m) rs k))
  where
    by : (t : Bool) → (m == n) ≡ t → StaysAt n g rs (past.view_now n rs) → StaysAt n g (happened.Down m ∷ rs) (if t then None else past.view_now n rs)
    by true f old = ap (λ z. if z then [] else stay.stays n g rs) f
    by false f old = keep n g (happened.Down m) rs (ap (λ z. if z then [] else stay.stays n g rs) f) refl (past.view_now n rs) (λ v z. (refl, refl)) old
stays_are n g (happened.In m v ms ∷ rs) k = by (m == n) refl (stays_are n g rs (older (happened.In m v ms) rs k))
  where
    by : (t : Bool) → (m == n) ≡ t → StaysAt n g rs (past.view_now n rs) → StaysAt n g (happened.In m v ms ∷ rs) (if t then Some v else past.view_now n rs)
    by true f old = entered n g m v ms rs k f (past.view_now n rs) refl old
    by false f old =
        keep n g (happened.In m v ms) rs (ap (λ z. if z then record { view = v; base = empty_state; entries = [] } ∷ stay.stays n g rs else stay.stays n g rs) f)
        (ap (λ z. elim z [ true ↦ record { view = v; on = is_some (view_of n (lines rs)); base = base_state v g (lines rs); entries = [] } ∷ stays n g (lines rs) | false ↦ stays n g (lines rs) ]) f)
        (past.view_now n rs) (λ w z. (refl, refl)) old
stays_are n g (happened.Base m u h old len s ∷ rs) k = based n g m u h old len s rs k (past.view_now n rs) refl (stays_are n g rs (older (happened.Base m u h old len s) rs k))
stays_are n g (happened.Put m u h i e ∷ rs) k = put n g m u h i e rs k (past.view_now n rs) refl (stays_are n g rs (older (happened.Put m u h i e) rs k))
stays_are n g (r ∷ rs) k = keep n g r rs refl refl (past.view_now n rs) (λ v z. (refl, refl)) (stays_are n g rs (older r rs k))

-- the view of a node that knows its base: where its providers take part
pub part_is : (p : ProviderId) (v : ViewId) (g : List ℕ) (rs : List Happened) → OfRun rs → past.view_now p.node rs ≡ Some v → Knows p.node v g rs → SamePart (stay.part p (stay.stays p.node g rs)) (part_of p v g (lines rs))
unfolding part_of stays_to
part_is p v g rs k here knows =
    let st : Staying p.node g v rs = subst (StaysAt p.node g rs) here (stays_are p.node g rs k) in
    let at : same_view st.line.view v ≡ true = subst (λ z. same_view st.line.view z ≡ true) st.line_view (view_self st.line.view) in
    let to : stays_to v (stays p.node g (lines rs)) ≡ st.line ∷ st.lines_before =
    ap (stays_to v) st.lines_are ∙ ap (λ z. elim z [ true ↦ st.line ∷ st.lines_before | false ↦ stays_to v st.lines_before ]) at in
    let whole : AreStays (st.now ∷ st.before) (st.line ∷ st.lines_before) =
    (record { view = st.line_view ∙ sym st.view; on = st.on; base = st.line_base ∙ (base_is rs k.seen p.node v g knows ∙ sym st.base); entries = st.entries }, st.over) in
    let same : SamePart (stay.part p (st.now ∷ st.before)) (part p (st.line ∷ st.lines_before)) = parts_same p (st.now ∷ st.before) (st.line ∷ st.lines_before) refl whole in
    record {
      first = ap (λ z. (part p z).first) to ∙ (same.first ∙ ap (λ z. (stay.part p z).first) (sym st.are));
      last = ap (λ z. (part p z).last) to ∙ (same.last ∙ ap (λ z. (stay.part p z).last) (sym st.are));
    }
