-- Which side's state the sample group goes on with, and with which one it does not.
use Rattle.std.proofs.Common.{◌≡◌, ℕ, zero, suc, ◌<◌, ◌≤◌, ◌⊎◌, Bool, List, [], ◌∷◌, Option, Some, None, true, false, cond, length, refl, sym, ap, ◌∙◌, subst, inl, inr, arith}
use Rattle.std.specs.Prelude.{◌==◌, ◌&&◌, if◌then◌else◌, filter, slice_get}
use Rattle.std.specs.List.{list_any}
use Rattle.std.proofs.lemmas.Bool.{eq-eqb}
use Rattle.rsct_packet.specs.Search.{Has}
use Rattle.rsct_packet.specs.declared.ids.ViewId.{ViewId}
use Rattle.rsct_packet.specs.declared.ids.Member.{Member}
use Rattle.rsct_packet.specs.declared.ids.ProviderId.{ProviderId}
use Rattle.proposal_core.specs.declared.entry.Entry.{Entry}
use Rattle.proposal_core.specs.declared.group_state.GroupState.{GroupState}
use Rattle.proposal_core.specs.Fold.{present}
use Rattle.run_safety.specs.Past.{fold_from}
use Rattle.run_safety.specs.ViewOrder.{is_before, is_same, Lt, Le}
use Rattle.run_safety.specs.Group.{member, Reply, members_of, Origin, Record, In, Put, Begins, Line, Noted, Based, kept}
use Rattle.run_safety.specs.GroupLists.{From, IsCut, held}
use Rattle.run_safety.specs.Bases.{Bases, base_state, side_state, is_candidate, is_live, live_count, BaseIs, Wins}
use Rattle.run_safety.specs.GroupLaws.{Brought}
use Rattle.run_safety.specs.Moves.{Opening}
use Rattle.run_safety.specs.SafeGroups.{SafeLines, SafeGroups, ComesFromNowhere, Settled}
use Rattle.run_safety.specs.Sight.{lines_of}
use Rattle.run_safety.proofs.Order.{eq_same}
use Rattle.run_safety.proofs.Tests.{has_any}
use Rattle.step_refinement.specs.Tied.{opening_of}
use Rattle.world_safety.specs.Samples.{history_after, db, one_member, two, two_view, two_members, own_view, joiner, joined, state_with, more, fewer, two_sides, more_win, fewer_win, none_wins}
use Rattle.world_safety.specs.Opens.{all_opens}

pub two_merged_is : history_after two two_sides ≡ more_win
unfolding all_opens
two_merged_is = refl

-- ---- what records say of one node's views, and of one place

abbrev entered_by : ℕ → List Record → List ViewId
entered_by n [] = []
entered_by n (In m j v ms ∷ records) = if m == n then v ∷ entered_by n records else entered_by n records
entered_by n (Put m v i e ∷ records) = entered_by n records
entered_by n (Begins ∷ records) = entered_by n records

was_entered : (n j : ℕ) (v : ViewId) (ms : List Member) (records : List Record) → Has (In n j v ms) records → Has v (entered_by n records)
was_entered n j v ms [] h = absurd h
was_entered n j v ms (In m k u ns ∷ records) (inl e) =
    let node : m ≡ n = cc in
    let here : (m == n) ≡ true = eq-eqb m n node in
    let view : v ≡ u = cc in subst (λ b. Has v (if b then u ∷ entered_by n records else entered_by n records)) (sym here) (inl view)
was_entered n j v ms (In m k u ns ∷ records) (inr h) = by (m == n) (was_entered n j v ms records h)
  where
    by : (b : Bool) → Has v (entered_by n records) → Has v (if b then u ∷ entered_by n records else entered_by n records)
    by true i = inr i
    by false i = i
was_entered n j v ms (Put m u i e ∷ records) (inl q) = absurd (cc)
was_entered n j v ms (Put m u i e ∷ records) (inr h) = was_entered n j v ms records h
was_entered n j v ms (Begins ∷ records) (inl q) = absurd (cc)
was_entered n j v ms (Begins ∷ records) (inr h) = was_entered n j v ms records h

abbrev put_at : ViewId → ℕ → List Record → List Entry
put_at u i [] = []
put_at u i (In m j v ms ∷ records) = put_at u i records
put_at u i (Put m v k e ∷ records) = if is_same v u && k == i then e ∷ put_at u i records else put_at u i records
put_at u i (Begins ∷ records) = put_at u i records

was_put : (n : ℕ) (u : ViewId) (i : ℕ) (e : Entry) (records : List Record) → Has (Put n u i e) records → Has e (put_at u i records)
was_put n u i e [] h = absurd h
was_put n u i e (In m j v ms ∷ records) (inl q) = absurd (cc)
was_put n u i e (In m j v ms ∷ records) (inr h) = was_put n u i e records h
was_put n u i e (Put m v k f ∷ records) (inl q) =
    let view : v ≡ u = cc in
    let place : k ≡ i = cc in
    let same : is_same v u ≡ true = ap (λ z. is_same z u) view ∙ eq_same u in
    let at : (k == i) ≡ true = eq-eqb k i place in
    let entry : e ≡ f = cc in subst (λ b. Has e (if b then f ∷ put_at u i records else put_at u i records)) (sym ((λ l. same l && at l))) (inl entry)
was_put n u i e (Put m v k f ∷ records) (inr h) = by (is_same v u && k == i) (was_put n u i e records h)
  where
    by : (b : Bool) → Has e (put_at u i records) → Has e (if b then f ∷ put_at u i records else put_at u i records)
    by true x = inr x
    by false x = x
was_put n u i e (Begins ∷ records) (inl q) = absurd (cc)
was_put n u i e (Begins ∷ records) (inr h) = was_put n u i e records h

has_at : {A : Type 0} (x : A) (xs : List A) (i : ℕ) → slice_get xs i ≡ Some x → Has x xs
has_at x [] i e = absurd (cc)
has_at x (y ∷ ys) zero e = let here : x ≡ y = cc in inl here
has_at x (y ∷ ys) (suc i) e = inr (has_at x ys i e)

-- a list of two
two_long : (xs : List Entry) (a b : Entry) → length xs ≡ 2 → ((e : Entry) → slice_get xs 0 ≡ Some e → e ≡ a) → ((e : Entry) → slice_get xs 1 ≡ Some e → e ≡ b) → xs ≡ a ∷ b ∷ []
two_long [] a b n first second = absurd (omega arith)
two_long (x ∷ []) a b n first second = absurd (omega arith)
two_long (x ∷ y ∷ []) a b n first second = λ i. first x refl i ∷ second y refl i ∷ []
two_long (x ∷ y ∷ z ∷ xs) a b n first second = absurd (omega arith)

-- ---- the side of node 1: it entered its own view and that of both, and put two entries in its own

abbrev first_entry : Entry
first_entry = joined (joiner 1 7 1)

abbrev second_entry : Entry
second_entry = joined (joiner 1 8 2)

record Sided (records : List Record) : Type 0 where
  views : entered_by 1 records ≡ two_view ∷ own_view 1 ∷ []
  first : put_at (own_view 1) 0 records ≡ first_entry ∷ []
  second : put_at (own_view 1) 1 records ≡ second_entry ∷ []
  holds : held 1 (own_view 1) records ≡ 2
  other : held 2 (own_view 1) records ≡ 0
  began : Has (In 1 1 (own_view 1) (one_member ∷ [])) records
  enters : Has (In 1 1 two_view two_members) records

-- into the view of both it came from its own, and into its own from nowhere
came : (records : List Record) (s : Sided records) (v : ViewId) → From records 1 1 two_view v → v ≡ own_view 1
unfolding is_before
came records s v f = by (subst (Has v) s.views (was_entered 1 1 v f.was.0 records f.was.1))
  where
    by : Has v (two_view ∷ own_view 1 ∷ []) → v ≡ own_view 1
    by (inl e) = let loop : is_before two_view two_view ≡ true = subst (λ z. Lt z two_view) e f.less in absurd (cc)
    by (inr (inl e)) = e
    by (inr (inr z)) = absurd z

began_there : (records : List Record) (s : Sided records) (v : ViewId) → From records 1 1 (own_view 1) v → ⊥
unfolding is_before
began_there records s v f = by (subst (Has v) s.views (was_entered 1 1 v f.was.0 records f.was.1))
  where
    by : Has v (two_view ∷ own_view 1 ∷ []) → ⊥
    by (inl e) = let back : is_before two_view (own_view 1) ≡ true = subst (λ z. Lt z (own_view 1)) e f.less in absurd (cc)
    by (inr (inl e)) = let loop : is_before (own_view 1) (own_view 1) ≡ true = subst (λ z. Lt z (own_view 1)) e f.less in absurd (cc)
    by (inr (inr z)) = absurd z

from_own : (records : List Record) (s : Sided records) → From records 1 1 two_view (own_view 1)
unfolding is_before
from_own records s =
    record { was = (one_member ∷ [], s.began); less = refl; last = λ t w less. by t less (subst (Has t) s.views (was_entered 1 1 t w.0 records w.1)) }
  where
    by : (t : ViewId) → Lt t two_view → Has t (two_view ∷ own_view 1 ∷ []) → is_before (own_view 1) t ≡ false
    by t less (inl e) = let loop : is_before two_view two_view ≡ true = subst (λ z. Lt z two_view) e less in absurd (cc)
    by t less (inr (inl e)) = ap (is_before (own_view 1)) e
    by t less (inr (inr z)) = absurd z

from_one : (records : List Record) (r : Reply) (v : ViewId) → r.node ≡ 1 → r.inc ≡ 1 → From records r.node r.inc v r.view → From records 1 1 v r.view
from_one records r v node inc f = subst (λ n. From records n 1 v r.view) node (subst (λ j. From records r.node j v r.view) inc f)

-- so its own view has no base
none_there : (o : Opening) (all : List Line) (safe : SafeLines o all) → Sided (kept all) → safe.bases (own_view 1) ≡ None
none_there o all safe s = by (safe.settled 1 1 (own_view 1) (one_member ∷ []) s.began)
  where
    alone : (rs : List Reply) → one_member ∷ [] ≡ members_of rs → ((r : Reply) → Has r rs → From (kept all) r.node r.inc (own_view 1) r.view) → ⊥
    alone [] e from = absurd (cc)
    alone (r ∷ rs) e from =
        let first : member r.node r.inc ≡ one_member = cc in
        let node : r.node ≡ 1 = ap (λ (m : Member). m.node) first in
        let inc : r.inc ≡ 1 = ap (λ (m : Member). m.inc) first in began_there (kept all) s r.view (from_one (kept all) r (own_view 1) node inc (from r (inl refl)))

    by : (ComesFromNowhere (kept all) 1 1 (own_view 1) × (safe.bases (own_view 1) ≡ None)) ⊎ Settled (kept all) safe.bases (own_view 1) (one_member ∷ []) → safe.bases (own_view 1) ≡ None
    by (inl k) = k.1
    by (inr k) = absurd (alone k.replies k.brought.members k.brought.from)

-- ---- what that side brings into the view of both

abbrev one_reply : List Entry → Reply
one_reply es = record { node = 1; inc = 1; view = own_view 1; list = es }

-- it is the first to answer, and its list has both entries
record Brings (rs : List Reply) (ss : ViewId → List Entry) : Type 0 where
  list : List Entry
  rest : List Reply
  replies : rs ≡ one_reply list ∷ rest
  entries : ss (own_view 1) ≡ first_entry ∷ second_entry ∷ []

only : (e x : Entry) → Has e (x ∷ []) → e ≡ x
only e x (inl q) = q
only e x (inr z) = absurd z

brings : (records : List Record) (bases : Bases) (s : Sided records) (rs : List Reply) (ss : ViewId → List Entry) → Brought records bases two_view two_members rs ss → Brings rs ss
brings records bases s [] ss k = let none : two_members ≡ [] = k.members in absurd (cc)
brings records bases s (r ∷ rest) ss k =
    let members : two_members ≡ members_of (r ∷ rest) = k.members in
    let first : member r.node r.inc ≡ one_member = cc in
    let node : r.node ≡ 1 = ap (λ (m : Member). m.node) first in
    let inc : r.inc ≡ 1 = ap (λ (m : Member). m.inc) first in
    let view : r.view ≡ own_view 1 = came records s r.view (from_one records r two_view node inc (k.from r (inl refl))) in
    record {
      list = r.list;
      rest = rest;
      replies = λ i. record { node = node i; inc = inc i; view = view i; list = r.list } ∷ rest;
      entries = two_long (ss (own_view 1)) first_entry second_entry (long (subst (λ u. IsCut records two_members u two_view (length (ss u))) view (k.cut r (inl refl)))) (λ e at. entry 0 e first_entry s.first view at) (λ e at. entry 1 e second_entry s.second view at);
    }
  where
    long : IsCut records two_members (own_view 1) two_view (length (ss (own_view 1))) → length (ss (own_view 1)) ≡ 2
    long cut = by cut.one.0 cut.one.1 cut.one.2 cut.one.4
      where
        by : (m i : ℕ) → Has (member m i) two_members → held m (own_view 1) records ≡ length (ss (own_view 1)) → length (ss (own_view 1)) ≡ 2
        by m i (inl e) h = let node : m ≡ 1 = ap (λ (x : Member). x.node) e in sym h ∙ ap (λ n. held n (own_view 1) records) node ∙ s.holds
        by m i (inr (inl e)) h =
            let node : m ≡ 2 = ap (λ (x : Member). x.node) e in
            let none : held m (own_view 1) records ≡ 0 = ap (λ n. held n (own_view 1) records) node ∙ s.other in
            let some : held 1 (own_view 1) records ≤ length (ss (own_view 1)) = cut.most 1 1 (inl refl) (from_own records s) in
            let two : held 1 (own_view 1) records ≡ 2 = s.holds in absurd (omega arith)
        by m i (inr (inr z)) h = absurd z

    entry : (i : ℕ) (e x : Entry) → put_at (own_view 1) i records ≡ x ∷ [] → r.view ≡ own_view 1 → slice_get (ss (own_view 1)) i ≡ Some e → e ≡ x
    entry i e x one view at =
        let there = k.entries r i e (inl refl) (subst (λ u. slice_get (ss u) i ≡ Some e) (sym view) at) in
        only e x (subst (Has e) one (was_put there.0 (own_view 1) i e records (subst (λ u. Has (Put there.0 u i e) records) view there.1)))

-- the state in which the two leave their view: both are members
two_there : (bases : Bases) (rs : List Reply) (ss : ViewId → List Entry) → Brings rs ss → bases (own_view 1) ≡ None → side_state bases ss (own_view 1) ≡ state_with more
unfolding all_opens
two_there bases rs ss k none =
    λ i. fold_from (own_view 1) (base_state (none i)) 0 (k.entries i)

-- both are live
two_live : (es : List Entry) (rest : List Reply) → live_count (one_reply es ∷ rest) (own_view 1) (state_with more) ≡ 2
unfolding all_opens is_same
two_live es rest = refl

-- ---- what is settled in the view of both

settled_there : (o : Opening) (all : List Line) (safe : SafeLines o all) → Sided (kept all) → Settled (kept all) safe.bases two_view two_members
settled_there o all safe s = by (safe.settled 1 1 two_view two_members s.enters)
  where
    by : (ComesFromNowhere (kept all) 1 1 two_view × (safe.bases two_view ≡ None)) ⊎ Settled (kept all) safe.bases two_view two_members → Settled (kept all) safe.bases two_view two_members
    by (inl k) = absurd (k.0 (own_view 1) (from_own (kept all) s))
    by (inr k) = k

-- ---- the side of the one does not win

one_at_most : (t : ProviderId → Bool) (ps : List ProviderId) → fewer ≡ ps → length (filter t ps) ≤ 1
one_at_most t ps e = subst (λ (qs : List ProviderId). length (filter t qs) ≤ 1) e (by (t (joiner 2 9 1)))
  where
    by : (b : Bool) → length (cond b fewer []) ≤ 1
    by true = omega arith
    by false = omega arith

fewer_lose : (o : Opening) (all : List Line) → Sided (kept all) → Has (Noted (Based 1 two_view (record { old = own_view 2; len = 1; state = state_with fewer }))) all → SafeLines o all → ⊥
unfolding is_before
fewer_lose o all s noted safe = by (settled_there o all safe s)
  where
    none : safe.bases (own_view 1) ≡ None
    none = none_there o all safe s

    lost : (x y : ℕ) (v u : ViewId) → (x < y) ⊎ ((x ≡ y) × Le v u) → x ≡ 2 → y ≤ 1 → ⊥
    lost x y v u (inl l) most least = absurd (omega arith)
    lost x y v u (inr k) most least = let same : x ≡ y = k.0 in absurd (omega arith)

    by : Settled (kept all) safe.bases two_view two_members → ⊥
    by k =
        let rs : List Reply = k.replies in
        let ss : ViewId → List Entry = k.lists in
        let b : Origin = record { old = own_view 2; len = 1; state = state_with fewer } in
        let side : ViewId → GroupState = λ u. side_state safe.bases ss u in
        let count : ViewId → ℕ = λ u. live_count rs u (side u) in
        let brought : Brings rs ss = brings (kept all) safe.bases s rs ss k.brought in
        let wins : Wins rs ss side b = subst (BaseIs rs ss side) (safe.one_base.noted 1 two_view b noted) k.base in
        let there : side (own_view 1) ≡ state_with more = two_there safe.bases rs ss brought none in
        let most : count (own_view 1) ≡ 2 = (λ i. live_count (brought.replies i) (own_view 1) (there i)) ∙ two_live brought.list brought.rest in
        let least : count (own_view 2) ≤ 1 = one_at_most (is_live rs (own_view 2)) (present (side (own_view 2))) (ap present wins.state) in
        let first : Has (one_reply brought.list) rs = subst (Has (one_reply brought.list)) (sym brought.replies) (inl refl) in
        lost (count (own_view 1)) (count (own_view 2)) (own_view 1) (own_view 2) (wins.most (one_reply brought.list) first (ap is_candidate there)) most least

-- ---- and where no side wins, one did

abbrev is_base : Line → Bool
is_base (Noted (Based n v b)) = true
is_base _ = false

none_loses : (o : Opening) (all : List Line) → Sided (kept all) → list_any is_base all ≡ false → SafeLines o all → ⊥
none_loses o all s bare safe = by (safe.bases two_view) refl (settled_there o all safe s)
  where
    none : safe.bases (own_view 1) ≡ None
    none = none_there o all safe s

    by : (b : Option Origin) → safe.bases two_view ≡ b → Settled (kept all) safe.bases two_view two_members → ⊥
    by (Some b) e k =
        let noted = safe.one_base.by_all 1 1 two_view two_members b s.enters e in
        let clash : true ≡ false = sym (has_any is_base all (Noted (Based 1 two_view b)) noted refl) ∙ bare in absurd (cc)
    by None e k =
        let rs : List Reply = k.replies in
        let ss : ViewId → List Entry = k.lists in
        let brought : Brings rs ss = brings (kept all) safe.bases s rs ss k.brought in
        let there : side_state safe.bases ss (own_view 1) ≡ state_with more = two_there safe.bases rs ss brought none in
        let first : Has (one_reply brought.list) rs = subst (Has (one_reply brought.list)) (sym brought.replies) (inl refl) in
        let no_side = subst (BaseIs rs ss (λ u. side_state safe.bases ss u)) e k.base in
        let clash : true ≡ false = sym (ap is_candidate there) ∙ no_side (one_reply brought.list) first in absurd (cc)

-- ---- of the sample's records

fewer_sided : Sided (kept (lines_of db fewer_win))
unfolding all_opens is_same
fewer_sided = record { views = refl; first = refl; second = refl; holds = refl; other = refl; began = has_at (In 1 1 (own_view 1) (one_member ∷ [])) (kept (lines_of db fewer_win)) 24 refl; enters = has_at (In 1 1 two_view two_members) (kept (lines_of db fewer_win)) 2 refl }

none_sided : Sided (kept (lines_of db none_wins))
unfolding all_opens is_same
none_sided = record { views = refl; first = refl; second = refl; holds = refl; other = refl; began = has_at (In 1 1 (own_view 1) (one_member ∷ [])) (kept (lines_of db none_wins)) 24 refl; enters = has_at (In 1 1 two_view two_members) (kept (lines_of db none_wins)) 2 refl }

pub fewer_do_not_win : SafeGroups (opening_of two) fewer_win → ⊥
unfolding all_opens
fewer_do_not_win safe = fewer_lose (opening_of two) (lines_of db fewer_win) fewer_sided (has_at (Noted (Based 1 two_view (record { old = own_view 2; len = 1; state = state_with fewer }))) (lines_of db fewer_win) 5 refl) (safe db)

pub some_side_wins : SafeGroups (opening_of two) none_wins → ⊥
unfolding all_opens
some_side_wins safe = none_loses (opening_of two) (lines_of db none_wins) none_sided refl (safe db)
