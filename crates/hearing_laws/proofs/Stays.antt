-- A node's stays by its records: the view and the list of the latest one, how it came there, and what was heard of it.
use Rattle.std.proofs.Common.{◌≡◌, ◌⊎◌, inl, inr, ℕ, suc, ◌+◌, ◌<◌, ◌≤◌, Bool, true, false, List, [], ◌∷◌, ◌++◌, length, Option, Some, None, refl, sym, ap, subst, ◌∙◌, arith}
use Rattle.std.specs.Prelude.{◌==◌, ◌&&◌, not, is_some, is_none, IsTrue, slice_get, if◌then◌else◌}
use Rattle.std.specs.Option.{option_map}
use Rattle.std.specs.Str.{bytes_eq}
use Rattle.std.proofs.lemmas.Bool.{and_parts, eqb-true, eq-eqb}
use Rattle.std.proofs.lemmas.List.{length-append}
use Rattle.rsct_packet.specs.declared.ids.ViewId.{ViewId}
use Rattle.rsct_packet.specs.declared.ids.Member.{Member}
use Rattle.rsct_packet.specs.declared.ids.ProviderId.{ProviderId}
use Rattle.rsct_packet.specs.Ids.{same_view}
use Rattle.rsct_packet.specs.Providers.{among}
use Rattle.rsct_packet.specs.Search.{Has, place_where}
use Rattle.rsct_packet.proofs.SearchLaws.{place_has, place_is_in}
use Rattle.proposal_core.specs.declared.entry.Entry.{Entry}
use Rattle.proposal_core.specs.declared.group_state.GroupState.{GroupState}
use Rattle.proposal_core.specs.Fold.{empty_state, present}
use Rattle.view_state.proofs.ViewOrder.{same_view_is}
use Rattle.node_state.specs.declared.happened.Happened.{Happened}
use Rattle.node_state.specs.declared.happened.Happened.TheVariants as happened
use Rattle.node_state.proofs.NameOrder.{text_same, text_self}
use Rattle.run_safety.specs.Past.{view_now, inc_now, puts_of}
use Rattle.run_safety.specs.Sight.{inc_in}
use Rattle.run_safety.specs.Stays.{Stay, stays, with_base, with_entry, is_join_of, part, passes, first_in, takes_part}
use Rattle.run_safety.proofs.Order.{lt_not_same}
use Rattle.provider_laws.proofs.attending.Parts.{takes_at}
use Rattle.provider_laws.proofs.attending.Fresh.{Fine, all_fine}
use Rattle.run_laws.specs.failed_causes.Passed.{latest_entries}
use Rattle.run_laws.specs.failed_causes.Entering.{just_entered, FollowsEntering}
use Rattle.run_laws.specs.seen_runs.Seen.{Seen, SeenAt}
use Rattle.run_laws.proofs.failed_causes.Bases.{view_self}
use Rattle.run_laws.proofs.failed_causes.Records.{Every}
use Rattle.run_laws.proofs.failed_causes.Views.{put_entered}
use Rattle.hearing_laws.proofs.Views.{puts_none}

-- ---- the latest stay is in the view that the node is in, and has its list

abbrev AtFront : Option ViewId → (ViewId → List Entry) → List Stay → Type 0
AtFront now puts [] = Unit {0}
AtFront now puts (x ∷ older) = (now ≡ Some x.view) × (x.entries ≡ puts x.view)

module _ (n : ℕ) (g : List ℕ) where
  front_in : (v : ViewId) (ms : List Member) (rs : List Happened) → Seen (happened.In n v ms ∷ rs) → [] ≡ puts_of n v g rs
  front_in v ms rs s = sym (puts_none n v g rs unput)
    where
      unput : (i : ℕ) (e : Entry) → Has (happened.Put n v g i e) rs → ⊥
      unput i e h =
          let a = put_entered n v g i e rs s.1 h in
          let same : a.0 ≡ ms = s.0.members n a.0 a.1 in
          lt_not_same v v (s.0.rises v a.0 a.1 (ap (inc_in n) same)) refl

  front_put : (m : ℕ) (v : ViewId) (h : List ℕ) (e : Entry) (old : ViewId → List Entry) (now : Option ViewId) → ((m ≡ n) → now ≡ Some v) → (a b : Bool) → (m == n) ≡ a → bytes_eq h g ≡ b → (xs : List Stay) → AtFront now old xs
      → AtFront now (λ w. if a && (same_view v w && b) then old w ++ e ∷ [] else old w) (if a && b then with_entry e xs else xs)
  front_put m v h e old now at a b p q [] k = by a b
    where
      by : (a b : Bool) → AtFront now (λ w. if a && (same_view v w && b) then old w ++ e ∷ [] else old w) (if a && b then with_entry e [] else [])
      by true true = tt
      by true false = tt
      by false b = tt
  front_put m v h e old now at true true p q (x ∷ older) k =
      let here : Some v ≡ Some x.view = sym (at (eqb-true m n p)) ∙ k.0 in
      let view : v ≡ x.view = cc in
      let own : (same_view v x.view && true) ≡ true = λ z. view_self v x.view view z && true in
      (k.0, ap (λ (es : List Entry). es ++ e ∷ []) k.1 ∙ ap (λ b. if b then old x.view ++ e ∷ [] else old x.view) (sym own))
  front_put m v h e old now at true false p q (x ∷ older) k = (k.0, k.1 ∙ by (same_view v x.view))
    where
      by : (c : Bool) → old x.view ≡ (if c && false then old x.view ++ e ∷ [] else old x.view)
      by true = refl
      by false = refl
  front_put m v h e old now at false b p q (x ∷ older) k = k

  at_front : (rs : List Happened) → Seen rs → AtFront (view_now n rs) (λ w. puts_of n w g rs) (stays n g rs)
  at_front [] s = tt
  at_front (happened.Up m j ∷ rs) s = by (m == n) (at_front rs s.1)
    where
      by : (b : Bool) → AtFront (view_now n rs) (λ w. puts_of n w g rs) (stays n g rs) → AtFront (if b then None else view_now n rs) (λ w. puts_of n w g rs) (if b then [] else stays n g rs)
      by true k = tt
      by false k = k
  at_front (happened.Down m ∷ rs) s = by (m == n) (at_front rs s.1)
    where
      by : (b : Bool) → AtFront (view_now n rs) (λ w. puts_of n w g rs) (stays n g rs) → AtFront (if b then None else view_now n rs) (λ w. puts_of n w g rs) (if b then [] else stays n g rs)
      by true k = tt
      by false k = k
  at_front (happened.In m v ms ∷ rs) s = by (m == n) refl (at_front rs s.1)
    where
      by : (b : Bool) → (m == n) ≡ b → AtFront (view_now n rs) (λ w. puts_of n w g rs) (stays n g rs) → AtFront (if b then Some v else view_now n rs) (λ w. puts_of n w g rs) (if b then record { view = v; base = empty_state; entries = [] } ∷ stays n g rs else stays n g rs)
      by true q k = (refl, front_in v ms rs (subst (λ z. Seen (happened.In z v ms ∷ rs)) (eqb-true m n q) s))
      by false q k = k
  at_front (happened.Base m v h u len st ∷ rs) s = by (m == n && bytes_eq h g) (stays n g rs) (at_front rs s.1)
    where
      by : (b : Bool) (xs : List Stay) → AtFront (view_now n rs) (λ w. puts_of n w g rs) xs → AtFront (view_now n rs) (λ w. puts_of n w g rs) (if b then with_base st xs else xs)
      by true [] k = tt
      by true (x ∷ older) k = k
      by false xs k = k
  at_front (happened.Put m v h i e ∷ rs) s =
      front_put m v h e (λ w. puts_of n w g rs) (view_now n rs) (λ node. subst (λ z. view_now z rs ≡ Some v) node s.0.in_view) (m == n) (bytes_eq h g) refl refl (stays n g rs) (at_front rs s.1)
  at_front (_ ∷ rs) s = at_front rs s.1

  pub stay_is : (rs : List Happened) → Seen rs → (x : Stay) (older : List Stay) → stays n g rs ≡ x ∷ older → (view_now n rs ≡ Some x.view) × (x.entries ≡ puts_of n x.view g rs)
  stay_is rs s x older q = subst (AtFront (view_now n rs) (λ w. puts_of n w g rs)) q (at_front rs s)

-- ---- a base is noted as the view is entered

with_latest : (s : GroupState) (xs : List Stay) → latest_entries (with_base s xs) ≡ latest_entries xs
with_latest s [] = refl
with_latest s (x ∷ older) = refl

just_there : (n : ℕ) (v : ViewId) (rs : List Happened) → just_entered n v rs ≡ true → (view_now n rs ≡ Some v) × ((g : List ℕ) → latest_entries (stays n g rs) ≡ [])
just_there n v [] q = absurd (cc)
just_there n v (happened.In m u ms ∷ rs) q = by (m == n) q
  where
    by : (b : Bool) → (b && same_view u v) ≡ true → ((if b then Some u else view_now n rs) ≡ Some v) × ((g : List ℕ) → latest_entries (if b then record { view = u; base = empty_state; entries = [] } ∷ stays n g rs else stays n g rs) ≡ [])
    by true t = (ap Some (same_view_is u v t), λ g. refl)
    by false t = absurd (cc)
just_there n v (happened.Base m u h from len s ∷ rs) q =
    let old = just_there n v rs (and_parts (same_view u v) (just_entered n v rs) (and_parts (m == n) (same_view u v && just_entered n v rs) q).1).1 in
    (old.0, λ g. by g (old.1 g) (m == n && bytes_eq h g))
  where
    by : (g : List ℕ) → latest_entries (stays n g rs) ≡ [] → (b : Bool) → latest_entries (if b then with_base s (stays n g rs) else stays n g rs) ≡ []
    by g none true = with_latest s (stays n g rs) ∙ none
    by g none false = none
just_there n v (_ ∷ rs) q = absurd (cc)

-- ---- how the node came into its view

module _ (n : ℕ) (g : List ℕ) where
  -- the base of the group there was noted, if there is one
  abbrev Noted : Stay → List Happened → Type 0
  Noted x rs = (x.base ≡ empty_state) ⊎ ((u : ViewId) × (len : ℕ) × Has (happened.Base n x.view g u len x.base) rs)

  -- since it entered the view it was not started again; before that it had these stays
  pub record Came (rs : List Happened) (x : Stay) (older : List Stay) : Type 0 where
    pub newer : List Happened
    pub members : List Member
    pub before : List Happened
    pub is : rs ≡ newer ++ happened.In n x.view members ∷ before
    pub stayed : stays n g before ≡ older
    pub inc : inc_now n before ≡ inc_now n rs
    pub base : Noted x rs

  noted_more : (r : Happened) (rs : List Happened) (x : Stay) → Noted x rs → Noted x (r ∷ rs)
  noted_more r rs x (inl q) = inl q
  noted_more r rs x (inr (u, len, h)) = inr (u, len, inr h)

  -- one record more, which may change the stay, but not its view
  came_more : (r : Happened) (rs : List Happened) (x y : Stay) (older : List Stay) → inc_now n rs ≡ inc_now n (r ∷ rs) → y.view ≡ x.view → Noted y (r ∷ rs) → Came rs x older → Came (r ∷ rs) y older
  came_more r rs x y older inc view base k =
      record {
        newer = r ∷ k.newer;
        members = k.members;
        before = k.before;
        is = (λ z. r ∷ k.is z) ∙ (λ z. r ∷ k.newer ++ happened.In n (sym view z) k.members ∷ k.before);
        stayed = k.stayed;
        inc = k.inc ∙ inc;
        base = base;
      }

  came_on : (r : Happened) (rs : List Happened) (x : Stay) (older : List Stay) → inc_now n rs ≡ inc_now n (r ∷ rs) → Came rs x older → Came (r ∷ rs) x older
  came_on r rs x older inc k = came_more r rs x x older inc refl (noted_more r rs x k.base) k

  came_in : (v : ViewId) (ms : List Member) (rs : List Happened) (x : Stay) (older : List Stay) → record { view = v; base = empty_state; entries = [] } ∷ stays n g rs ≡ x ∷ older → Came (happened.In n v ms ∷ rs) x older
  came_in v ms rs x older q =
      let y : Stay = record { view = v; base = empty_state; entries = [] } in
      let stay : x ≡ y = cc in
      let before : stays n g rs ≡ older = cc in
      record {
        newer = [];
        members = ms;
        before = rs;
        is = λ z. happened.In n ((sym stay z).view) ms ∷ rs;
        stayed = before;
        inc = refl;
        base = inl (ap (λ (s : Stay). s.base) stay);
      }

  came_based : (v u : ViewId) (len : ℕ) (st : GroupState) (rs : List Happened) → Seen rs → just_entered n v rs ≡ true → (xs : List Stay) → stays n g rs ≡ xs → ((y : Stay) (o : List Stay) → stays n g rs ≡ y ∷ o → Came rs y o) → (x : Stay) (older : List Stay) → with_base st xs ≡ x ∷ older → Came (happened.Base n v g u len st ∷ rs) x older
  came_based v u len st rs s just [] at rest x older q = absurd (cc)
  came_based v u len st rs s just (y ∷ o) at rest x older q =
      let z : Stay = record y { base = st } in
      let stay : x ≡ z = cc in
      let tail : o ≡ older = cc in
      let here : Some v ≡ Some y.view = sym (just_there n v rs just).0 ∙ (stay_is n g rs s y o at).0 in
      let view : v ≡ x.view = let same : v ≡ y.view = cc in same ∙ ap (λ (w : Stay). w.view) (sym stay) in
      let base : st ≡ x.base = ap (λ (w : Stay). w.base) (sym stay) in
      came_more (happened.Base n v g u len st) rs y x older refl (ap (λ (w : Stay). w.view) stay) (inr (u, len, inl (λ i. happened.Base n (sym view i) g u len (sym base i)))) (subst (Came rs y) tail (rest y o at))

  came_put : (m : ℕ) (v : ViewId) (h : List ℕ) (i : ℕ) (e : Entry) (rs : List Happened) (xs : List Stay) → stays n g rs ≡ xs → ((y : Stay) (o : List Stay) → stays n g rs ≡ y ∷ o → Came rs y o) → (x : Stay) (older : List Stay) → with_entry e xs ≡ x ∷ older → Came (happened.Put m v h i e ∷ rs) x older
  came_put m v h i e rs [] at rest x older q = absurd (cc)
  came_put m v h i e rs (y ∷ o) at rest x older q =
      let z : Stay = record y { entries = y.entries ++ e ∷ [] } in
      let stay : z ≡ x = cc in
      let tail : o ≡ older = cc in
      let r : Happened = happened.Put m v h i e in
      let old : Came rs y older = subst (Came rs y) tail (rest y o at) in
      subst (λ (w : Stay). Came (r ∷ rs) w older) stay (came_more r rs y z older refl refl (noted_more r rs y old.base) old)

  pub came : (rs : List Happened) → Seen rs → Every FollowsEntering rs → (x : Stay) (older : List Stay) → stays n g rs ≡ x ∷ older → Came rs x older
  came [] s f x older q = absurd (cc)
  came (happened.Up m j ∷ rs) s f x older q = by (λ y o at. came rs s.1 f.1 y o at) (m == n) refl q
    where
      by : ((y : Stay) (o : List Stay) → stays n g rs ≡ y ∷ o → Came rs y o) → (b : Bool) → (m == n) ≡ b → (if b then [] else stays n g rs) ≡ x ∷ older → Came (happened.Up m j ∷ rs) x older
      by rest true t z = absurd (cc)
      by rest false t z = came_on (happened.Up m j) rs x older (ap (λ b. if b then j else inc_now n rs) (sym t)) (rest x older z)
  came (happened.Down m ∷ rs) s f x older q = by (λ y o at. came rs s.1 f.1 y o at) (m == n) q
    where
      by : ((y : Stay) (o : List Stay) → stays n g rs ≡ y ∷ o → Came rs y o) → (b : Bool) → (if b then [] else stays n g rs) ≡ x ∷ older → Came (happened.Down m ∷ rs) x older
      by rest true z = absurd (cc)
      by rest false z = came_on (happened.Down m) rs x older refl (rest x older z)
  came (happened.In m v ms ∷ rs) s f x older q = by (λ y o at. came rs s.1 f.1 y o at) (m == n) refl q
    where
      by : ((y : Stay) (o : List Stay) → stays n g rs ≡ y ∷ o → Came rs y o) → (b : Bool) → (m == n) ≡ b → (if b then record { view = v; base = empty_state; entries = [] } ∷ stays n g rs else stays n g rs) ≡ x ∷ older → Came (happened.In m v ms ∷ rs) x older
      by rest true t z = subst (λ k. Came (happened.In k v ms ∷ rs) x older) (sym (eqb-true m n t)) (came_in v ms rs x older z)
      by rest false t z = came_on (happened.In m v ms) rs x older refl (rest x older z)
  came (happened.Base m v h u len st ∷ rs) s f x older q = by (λ y o at. came rs s.1 f.1 y o at) (m == n) (bytes_eq h g) refl refl q
    where
      by : ((y : Stay) (o : List Stay) → stays n g rs ≡ y ∷ o → Came rs y o) → (a b : Bool) → (m == n) ≡ a → bytes_eq h g ≡ b → (if a && b then with_base st (stays n g rs) else stays n g rs) ≡ x ∷ older → Came (happened.Base m v h u len st ∷ rs) x older
      by rest true true p t z =
          let node : m ≡ n = eqb-true m n p in
          let name : h ≡ g = text_same h g t in
          let just : just_entered n v rs ≡ true = subst (λ k. just_entered k v rs ≡ true) node f.0 in
          subst (λ (k : ℕ × List ℕ). Came (happened.Base k.0 v k.1 u len st ∷ rs) x older) (λ j. (sym node j, sym name j)) (came_based v u len st rs s.1 just (stays n g rs) refl rest x older z)
      by rest true false p t z = came_on (happened.Base m v h u len st) rs x older refl (rest x older z)
      by rest false b p t z = came_on (happened.Base m v h u len st) rs x older refl (rest x older z)
  came (happened.Put m v h i e ∷ rs) s f x older q = by (λ y o at. came rs s.1 f.1 y o at) (m == n && bytes_eq h g) q
    where
      by : ((y : Stay) (o : List Stay) → stays n g rs ≡ y ∷ o → Came rs y o) → (b : Bool) → (if b then with_entry e (stays n g rs) else stays n g rs) ≡ x ∷ older → Came (happened.Put m v h i e ∷ rs) x older
      by rest true z = came_put m v h i e rs (stays n g rs) refl rest x older z
      by rest false z = came_on (happened.Put m v h i e) rs x older refl (rest x older z)
  came (r ∷ rs) s f x older q = came_on r rs x older refl (came rs s.1 f.1 x older q)

-- ---- what was put last there was heard

-- each put is heard, among these records, by the provider that takes part at its place
abbrev pub IsHeardBy : ProviderId → List Happened → List Happened → Happened → Type 0
IsHeardBy p all rs (happened.Put n v g i e) =
    p.node ≡ n → IsTrue (takes_part i (part p (stays n g (happened.Put n v g i e ∷ rs)))) → (members : List ProviderId) × (value : List ℕ) × Has (happened.Heard p v g i e members value) all
IsHeardBy p all rs _ = Unit {0}

-- a first place is that of an entry
first_below : (p : ProviderId) (es : List Entry) (b : Bool) (f : ℕ) → 0 < length es → first_in p es b ≡ Some f → f < length es
first_below p es true f l q = let e : 0 ≡ f = cc in omega (arith, e, l)
first_below p es false f l q = place_is_in (is_join_of p) es f q

module _ (p : ProviderId) (g : List ℕ) (all : List Happened) (x : Stay) (older : List Stay) (m f : ℕ) (len : length x.entries ≡ m + 1) (first : (part p (x ∷ older)).first ≡ Some f) (last : (part p (x ∷ older)).last ≡ None) where
  abbrev HeardLast : Type 0
  HeardLast = (e : Entry) × (members : List ProviderId) × (value : List ℕ) × Has (happened.Heard p x.view g m e members value) all

  -- a stay in which nothing was put is another one
  some : x.entries ≡ [] → ⊥
  some q = let none : length x.entries ≡ 0 = ap (λ (es : List Entry). length es) q in absurd (omega (arith, none, len))

  heard_put : (v : ViewId) (i : ℕ) (e : Entry) (rs : List Happened) → SeenAt rs (happened.Put p.node v g i e) → Seen rs → IsHeardBy p all rs (happened.Put p.node v g i e) → (xs : List Stay) → stays p.node g rs ≡ xs → with_entry e xs ≡ x ∷ older → HeardLast
  heard_put v i e rs here s hears [] at q = absurd (cc)
  heard_put v i e rs here s hears (y ∷ o) at q =
      let z : Stay = record y { entries = y.entries ++ e ∷ [] } in
      let stay : z ≡ x = cc in
      let is = stay_is p.node g rs s y o at in
      let views : Some v ≡ Some y.view = sym here.in_view ∙ is.0 in
      let view : v ≡ x.view = let same : v ≡ y.view = cc in same ∙ ap (λ (w : Stay). w.view) stay in
      let puts : i ≡ length y.entries = here.place ∙ ap (λ w. length (puts_of p.node w g rs)) (let same : v ≡ y.view = cc in same) ∙ ap (λ (es : List Entry). length es) (sym is.1) in
      let pushed : length (y.entries ++ e ∷ []) ≡ length y.entries + 1 = length-append y.entries (e ∷ []) in
      let whole : length (y.entries ++ e ∷ []) ≡ m + 1 = ap (λ (w : Stay). length w.entries) stay ∙ len in
      let place : i ≡ m = omega (arith, puts, pushed, whole) in
      let below : f < length x.entries = first_below p x.entries (passes p x.base (part p older)) f (omega (arith, len)) first in
      let le : f ≤ i = omega (arith, below, len, place) in
      let own : (p.node == p.node && bytes_eq g g) ≡ true = λ j. eq-eqb p.node p.node refl j && text_self g j in
      let now : stays p.node g (happened.Put p.node v g i e ∷ rs) ≡ x ∷ older = ap (λ b. if b then with_entry e (stays p.node g rs) else stays p.node g rs) own ∙ ap (with_entry e) at ∙ q in
      let takes : IsTrue (takes_part i (part p (x ∷ older))) = takes_at (part p (x ∷ older)) f i first le (inl last) in
      let k = hears refl (subst (λ xs. IsTrue (takes_part i (part p xs))) (sym now) takes) in
      (e, k.0, k.1, subst (λ (w : ViewId × ℕ). Has (happened.Heard p w.0 g w.1 e k.0 k.1) all) (λ j. (view j, place j)) k.2)

  pub heard_last : (rs : List Happened) → Seen rs → Every FollowsEntering rs → Every (IsHeardBy p all) rs → stays p.node g rs ≡ x ∷ older → HeardLast
  heard_last [] s b h q = absurd (cc)
  heard_last (happened.Up n j ∷ rs) s b h q = by (λ z. heard_last rs s.1 b.1 h.1 z) (n == p.node) q
    where
      by : (stays p.node g rs ≡ x ∷ older → HeardLast) → (t : Bool) → (if t then [] else stays p.node g rs) ≡ x ∷ older → HeardLast
      by rest true z = absurd (cc)
      by rest false z = rest z
  heard_last (happened.Down n ∷ rs) s b h q = by (λ z. heard_last rs s.1 b.1 h.1 z) (n == p.node) q
    where
      by : (stays p.node g rs ≡ x ∷ older → HeardLast) → (t : Bool) → (if t then [] else stays p.node g rs) ≡ x ∷ older → HeardLast
      by rest true z = absurd (cc)
      by rest false z = rest z
  heard_last (happened.In n v ms ∷ rs) s b h q = by (λ z. heard_last rs s.1 b.1 h.1 z) (n == p.node) q
    where
      by : (stays p.node g rs ≡ x ∷ older → HeardLast) → (t : Bool) → (if t then record { view = v; base = empty_state; entries = [] } ∷ stays p.node g rs else stays p.node g rs) ≡ x ∷ older → HeardLast
      by rest true z =
          let y : Stay = record { view = v; base = empty_state; entries = [] } in
          let stay : x ≡ y = cc in
          absurd (some (ap (λ (w : Stay). w.entries) stay))
      by rest false z = rest z
  heard_last (happened.Base n v k u l st ∷ rs) s b h q = by (λ z. heard_last rs s.1 b.1 h.1 z) (n == p.node) refl (bytes_eq k g) q
    where
      by : (stays p.node g rs ≡ x ∷ older → HeardLast) → (t : Bool) → (n == p.node) ≡ t → (c : Bool) → (if t && c then with_base st (stays p.node g rs) else stays p.node g rs) ≡ x ∷ older → HeardLast
      by rest true e true z =
          let just : just_entered p.node v rs ≡ true = subst (λ m. just_entered m v rs ≡ true) (eqb-true n p.node e) b.0 in
          let none : latest_entries (x ∷ older) ≡ [] = ap latest_entries (sym z) ∙ with_latest st (stays p.node g rs) ∙ (just_there p.node v rs just).1 g in
          absurd (some none)
      by rest true e false z = rest z
      by rest false e c z = rest z
  heard_last (happened.Put n v k i e ∷ rs) s b h q = by (λ z. heard_last rs s.1 b.1 h.1 z) (n == p.node) (bytes_eq k g) refl refl q
    where
      by : (stays p.node g rs ≡ x ∷ older → HeardLast) → (a c : Bool) → (n == p.node) ≡ a → bytes_eq k g ≡ c → (if a && c then with_entry e (stays p.node g rs) else stays p.node g rs) ≡ x ∷ older → HeardLast
      by rest true true t d z =
          let node : n ≡ p.node = eqb-true n p.node t in
          let name : k ≡ g = text_same k g d in
          heard_put v i e rs (subst (λ (w : ℕ × List ℕ). SeenAt rs (happened.Put w.0 v w.1 i e)) (λ j. (node j, name j)) s.0) s.1 (subst (λ (w : ℕ × List ℕ). IsHeardBy p all rs (happened.Put w.0 v w.1 i e)) (λ j. (node j, name j)) h.0) (stays p.node g rs) refl z
      by rest true false t d z = rest z
      by rest false c t d z = rest z
  heard_last (_ ∷ rs) s b h q = heard_last rs s.1 b.1 h.1 q

-- ---- who has a first place joined there

-- a join of the provider stands in one of the stays
part_joined : (p : ProviderId) (xs : List Stay) (f : ℕ) → (part p xs).first ≡ Some f → (x : Stay) × Has x xs × (e : Entry) × Has e x.entries × (is_join_of p e ≡ true)
part_joined p [] f q = absurd (cc)
part_joined p (x ∷ older) f q = by (λ k t. part_joined p older k t) (passes p x.base (part p older)) refl q
  where
    old : ((k : ℕ) → (part p older).first ≡ Some k → (y : Stay) × Has y older × (e : Entry) × Has e y.entries × (is_join_of p e ≡ true)) → (o : Option ℕ) → (part p older).first ≡ o → is_some o ≡ true → (y : Stay) × Has y (x ∷ older) × (e : Entry) × Has e y.entries × (is_join_of p e ≡ true)
    old rest None t z = absurd (cc)
    old rest (Some k) t z = let a = rest k t in (a.0, inr a.1, a.2, a.3, a.4)

    by : ((k : ℕ) → (part p older).first ≡ Some k → (y : Stay) × Has y older × (e : Entry) × Has e y.entries × (is_join_of p e ≡ true)) → (b : Bool) → passes p x.base (part p older) ≡ b → first_in p x.entries b ≡ Some f → (y : Stay) × Has y (x ∷ older) × (e : Entry) × Has e y.entries × (is_join_of p e ≡ true)
    by rest true t z = old rest (part p older).first refl (and_parts (is_some (part p older).first) (is_none (part p older).last && (among (present x.base) p && not (among x.base.failed p))) t).0
    by rest false t z = let a = place_has (is_join_of p) x.entries f z in (x, inl refl, a.0, a.1, a.2)

-- its node put it
pub joined_put : (p : ProviderId) (g : List ℕ) (rs : List Happened) (f : ℕ) → (part p (stays p.node g rs)).first ≡ Some f → (u : ViewId) × (k : ℕ) × (e : Entry) × Has (happened.Put p.node u g k e) rs × (is_join_of p e ≡ true)
joined_put p g rs f q =
    let a = part_joined p (stays p.node g rs) f q in
    let fine : Fine (λ s. Unit {0}) WasPut a.0 = all_fine p.node g (λ s. Unit {0}) WasPut tt rs (λ v i e h. (v, i, h)) (λ v u len s h. tt) a.0 a.1 in
    let k = fine.entries a.2 a.3 in
    (k.0, k.1, a.2, k.2, a.4)
  where
    WasPut : Entry → Type 0
    WasPut e = (u : ViewId) × (k : ℕ) × Has (happened.Put p.node u g k e) rs

-- the entry at the place of a join is one
pub place_joins : (p : ProviderId) (es : List Entry) (i : ℕ) (e : Entry) → place_where (is_join_of p) es ≡ Some i → slice_get es i ≡ Some e → is_join_of p e ≡ true
place_joins p [] i e q h = absurd (cc)
place_joins p (x ∷ es) i e q h = by (is_join_of p x) refl (place_where (is_join_of p) es) (λ j k l. place_joins p es j e k l) q
  where
    by : (b : Bool) → is_join_of p x ≡ b → (o : Option ℕ) → ((j : ℕ) → o ≡ Some j → slice_get es j ≡ Some e → is_join_of p e ≡ true) → (if b then Some 0 else option_map suc o) ≡ Some i → is_join_of p e ≡ true
    by true t o rest z =
        let at : i ≡ 0 = cc in
        let first : Some x ≡ Some e = subst (λ k. slice_get (x ∷ es) k ≡ Some e) at h in
        let same : x ≡ e = cc in
        subst (λ y. is_join_of p y ≡ true) same t
    by false t None rest z = absurd (cc)
    by false t (Some j) rest z = let at : i ≡ suc j = cc in rest j refl (subst (λ k. slice_get (x ∷ es) k ≡ Some e) at h)
