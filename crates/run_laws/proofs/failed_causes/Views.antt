-- The view that a node is in by its stays: it entered no later one in that incarnation, and what it put there stands in that stay.
use Rattle.std.proofs.Common.{◌≡◌, ℕ, List, [], ◌∷◌, ◌++◌, Some, None, Bool, true, false, refl, sym, ap, ◌∙◌, subst, inl, inr}
use Rattle.std.specs.Prelude.{◌==◌, ◌&&◌, if◌then◌else◌}
use Rattle.std.specs.Str.{bytes_eq}
use Rattle.std.proofs.lemmas.Bool.{eqb-true, eq-eqb}
use Rattle.rsct_packet.specs.declared.ids.ViewId.{ViewId}
use Rattle.rsct_packet.specs.declared.ids.Member.{Member}
use Rattle.rsct_packet.specs.Search.{Has}
use Rattle.rsct_packet.proofs.HasLaws.{append_has_left, append_has_right}
use Rattle.proposal_core.specs.declared.entry.Entry.{Entry}
use Rattle.proposal_core.specs.declared.group_state.GroupState.{GroupState}
use Rattle.proposal_core.specs.Fold.{empty_state}
use Rattle.node_state.specs.declared.happened.Happened.{Happened}
use Rattle.node_state.specs.declared.happened.Happened.TheVariants as happened
use Rattle.run_safety.specs.Group.{In, kept}
use Rattle.run_safety.specs.Past.{History, records_of, view_now}
use Rattle.run_safety.specs.SafeLists.{InItsView}
use Rattle.run_safety.specs.Sight.{inc_in, lines_of}
use Rattle.run_safety.specs.Stays.{Stay, stays, with_base, with_entry}
use Rattle.run_safety.specs.ViewOrder.{Lt, Le}
use Rattle.run_safety.proofs.Order.{lt_refl, lt_le, lt_not_same}
use Rattle.node_state.proofs.NameOrder.{text_same, text_self}
use Rattle.run_laws.specs.seen_runs.Seen.{Seen}
use Rattle.run_laws.proofs.seen_runs.LineRules.{bare}
use Rattle.run_laws.proofs.seen_runs.BareLines.{kept_bare}
use Rattle.run_laws.proofs.seen_runs.Sights.{cut}
use Rattle.run_laws.proofs.seen_runs.Froms.{in_kept}
use Rattle.run_laws.proofs.seen_runs.Shown.{AllShow, in_line, each_shown}
use Rattle.run_laws.proofs.failed_causes.Records.{Every, every_of}

-- ---- views rise in an incarnation

-- a node enters a view greater than each that it entered in that incarnation
abbrev pub RisesAt : List Happened → Happened → Type 0
RisesAt rs (happened.In n v ms) =
    (u : ViewId) (ns : List Member) → Has (happened.In n u ns) rs → inc_in n ns ≡ inc_in n ms → Lt u v
RisesAt rs _ = Unit {0}

abbrev pub Rises : List Happened → Type 0
Rises = Every RisesAt

rises_at : (r : Happened) (now : List Happened) (before : History) → AllShow (cut (r ∷ now) before) → RisesAt (now ++ records_of before) r
rises_at (happened.In n v ms) now before all = λ u ns h same. let there : Has (In n (inc_in n ns) u ns) (kept (bare (lines_of [] (cut now before)))) = subst (Has (In n (inc_in n ns) u ns)) (sym (kept_bare (lines_of [] (cut now before)))) (in_kept [] n u ns (cut now before) h) in
    (in_line now before n v ms all []).rising u ns (subst (λ j. Has (In n j u ns) (kept (bare (lines_of [] (cut now before))))) same there)
rises_at _ now before all = tt

pub rises_of : (h : History) → AllShow h → Rises (records_of h)
rises_of h all =
    every_of RisesAt (λ now before r. RisesAt (now ++ records_of before) r) (λ now before r k. k) h (each_shown RisesAt rises_at h all)

-- ---- a node is in a view that it entered

abbrev IsEntered : ℕ → ViewId → Happened → List Happened → Type 0
IsEntered n v r rs = (ms : List Member) × Has (happened.In n v ms) (r ∷ rs)

now_if : (n : ℕ) (v : ViewId) (r : Happened) (rs : List Happened) (b : Bool) → (view_now n rs ≡ Some v → IsEntered n v r rs) → (if b then None else view_now n rs) ≡ Some v → IsEntered n v r rs
now_if n v r rs true old q = absurd (cc)
now_if n v r rs false old q = old q

pub now_entered : (n : ℕ) (v : ViewId) (rs : List Happened) → view_now n rs ≡ Some v → (ms : List Member) × Has (happened.In n v ms) rs
now_entered n v [] q = absurd (cc)
now_entered n v (happened.Up m j ∷ rs) q =
    now_if n v (happened.Up m j) rs (m == n) (λ z. let a = now_entered n v rs z in (a.0, inr a.1)) q
now_entered n v (happened.Down m ∷ rs) q =
    now_if n v (happened.Down m) rs (m == n) (λ z. let a = now_entered n v rs z in (a.0, inr a.1)) q
now_entered n v (happened.In m u ms ∷ rs) q = by (m == n) refl (λ z. let a = now_entered n v rs z in (a.0, inr a.1)) q
  where
    by : (b : Bool) → (m == n) ≡ b → (view_now n rs ≡ Some v → IsEntered n v (happened.In m u ms) rs) → (if b then Some u else view_now n rs) ≡ Some v → IsEntered n v (happened.In m u ms) rs
    by true e old z =
        let node : m ≡ n = eqb-true m n e in
        let view : u ≡ v = cc in
        (ms, inl (λ i. happened.In (sym node i) (sym view i) ms))
    by false e old z = old z
now_entered n v (r ∷ rs) q = let a = now_entered n v rs q in (a.0, inr a.1)

-- so is whoever puts
pub put_entered : (n : ℕ) (v : ViewId) (g : List ℕ) (i : ℕ) (e : Entry) (rs : List Happened) → Seen rs → Has (happened.Put n v g i e) rs → (ms : List Member) × Has (happened.In n v ms) rs
put_entered n v g i e [] s h = absurd h
put_entered n v g i e (r ∷ rs) s (inl q) =
    let at : InItsView rs (happened.Put n v g i e) = subst (InItsView rs) (sym q) s.0.in_view in
    let a = now_entered n v rs at in
    (a.0, inr a.1)
put_entered n v g i e (r ∷ rs) s (inr h) = let a = put_entered n v g i e rs s.1 h in (a.0, inr a.1)

-- ---- the latest stay

module _ (n : ℕ) (g : List ℕ) where
  -- the node entered the stay's view, and none later in that incarnation; what it put there stands in the stay
  pub record AtStay (rs : List Happened) (x : Stay) : Type 0 where
    pub members : List Member
    pub entered : Has (happened.In n x.view members) rs
    pub latest : (u : ViewId) (ns : List Member) → Has (happened.In n u ns) rs → inc_in n ns ≡ inc_in n members → Le u x.view
    pub puts : (i : ℕ) (e : Entry) → Has (happened.Put n x.view g i e) rs → Has e x.entries

  abbrev pub AtFront : List Happened → List Stay → Type 0
  AtFront rs [] = Unit {0}
  AtFront rs (x ∷ older) = AtStay rs x

  had : (y r : Happened) (rs : List Happened) → (y ≡ r → ⊥) → Has y (r ∷ rs) → Has y rs
  had y r rs other (inl q) = absurd (other q)
  had y r rs other (inr h) = h

  -- a record that is no entering and no put of the node
  front_on : (r : Happened) (rs : List Happened) (xs : List Stay) → ((u : ViewId) (ns : List Member) → happened.In n u ns ≡ r → ⊥) → ((u : ViewId) (i : ℕ) (e : Entry) → happened.Put n u g i e ≡ r → ⊥) → AtFront rs xs → AtFront (r ∷ rs) xs
  front_on r rs [] a b k = tt
  front_on r rs (x ∷ older) a b k =
      record {
        members = k.members;
        entered = inr k.entered;
        latest = λ u ns h q. k.latest u ns (had (happened.In n u ns) r rs (a u ns) h) q;
        puts = λ i e h. k.puts i e (had (happened.Put n x.view g i e) r rs (b x.view i e) h);
      }

  front_if : (r : Happened) (rs : List Happened) (xs : List Stay) (b : Bool) → AtFront (r ∷ rs) xs → AtFront (r ∷ rs) (if b then [] else xs)
  front_if r rs xs true k = tt
  front_if r rs xs false k = k

  front_base : (s : GroupState) (rs : List Happened) (xs : List Stay) → AtFront rs xs → AtFront rs (with_base s xs)
  front_base s rs [] k = tt
  front_base s rs (x ∷ older) k = record { members = k.members; entered = k.entered; latest = k.latest; puts = k.puts }

  -- its own put
  front_put : (v : ViewId) (i : ℕ) (e : Entry) (rs : List Happened) (xs : List Stay) → AtFront rs xs → AtFront (happened.Put n v g i e ∷ rs) (with_entry e xs)
  front_put v i e rs [] k = tt
  front_put v i e rs (x ∷ older) k =
      record {
        members = k.members;
        entered = inr k.entered;
        latest = λ u ns h q. k.latest u ns (had (happened.In n u ns) (happened.Put n v g i e) rs (λ z. cc) h) q;
        puts = λ j f h. puts j f h;
      }
    where
      puts : (j : ℕ) (f : Entry) → Has (happened.Put n x.view g j f) (happened.Put n v g i e ∷ rs) → Has f (x.entries ++ e ∷ [])
      puts j f (inl q) = let same : f ≡ e = cc in append_has_right f x.entries (e ∷ []) (inl same)
      puts j f (inr h) = append_has_left f x.entries (e ∷ []) (k.puts j f h)

  -- it enters a view
  front_in : (v : ViewId) (ms : List Member) (rs : List Happened) (older : List Stay) → Seen (happened.In n v ms ∷ rs) → RisesAt rs (happened.In n v ms) → AtFront (happened.In n v ms ∷ rs) (record { view = v; base = empty_state; entries = [] } ∷ older)
  front_in v ms rs older s k =
      record {
        members = ms;
        entered = inl refl;
        latest = λ u ns h q. latest u ns q h;
        puts = λ i e h. absurd (unput i e h);
      }
    where
      latest : (u : ViewId) (ns : List Member) → inc_in n ns ≡ inc_in n ms → Has (happened.In n u ns) (happened.In n v ms ∷ rs) → Le u v
      latest u ns same (inl q) = let view : v ≡ u = cc in subst (λ z. Le z v) view (lt_refl v)
      latest u ns same (inr h) = lt_le u v (k u ns h same)

      unput : (i : ℕ) (e : Entry) → Has (happened.Put n v g i e) (happened.In n v ms ∷ rs) → ⊥
      unput i e (inl q) = absurd (cc)
      unput i e (inr h) =
          let a = put_entered n v g i e rs s.1 h in
          let same : a.0 ≡ ms = s.0.members n a.0 a.1 in
          lt_not_same v v (k v a.0 a.1 (ap (inc_in n) same)) refl

  pub at_front : (rs : List Happened) → Seen rs → Rises rs → AtFront rs (stays n g rs)
  at_front [] s k = tt
  at_front (happened.Up m j ∷ rs) s k =
      front_if (happened.Up m j) rs (stays n g rs) (m == n) (front_on (happened.Up m j) rs (stays n g rs) (λ u ns q. cc) (λ u i e q. cc) (at_front rs s.1 k.1))
  at_front (happened.Down m ∷ rs) s k =
      front_if (happened.Down m) rs (stays n g rs) (m == n) (front_on (happened.Down m) rs (stays n g rs) (λ u ns q. cc) (λ u i e q. cc) (at_front rs s.1 k.1))
  at_front (happened.In m v ms ∷ rs) s k = by (m == n) refl (at_front rs s.1 k.1)
    where
      now : List Stay
      now = record { view = v; base = empty_state; entries = [] } ∷ stays n g rs

      here : m ≡ n → AtFront (happened.In m v ms ∷ rs) now
      here node =
          subst (λ z. Seen (happened.In z v ms ∷ rs) → RisesAt rs (happened.In z v ms) → AtFront (happened.In z v ms ∷ rs) now) (sym node) (front_in v ms rs (stays n g rs)) s k.0

      by : (b : Bool) → (m == n) ≡ b → AtFront rs (stays n g rs) → AtFront (happened.In m v ms ∷ rs) (if b then now else stays n g rs)
      by true q z = here (eqb-true m n q)
      by false q z =
          front_on (happened.In m v ms) rs (stays n g rs) (λ u ns e. let node : n ≡ m = cc in let y : true ≡ false = sym (eq-eqb m n (sym node)) ∙ q in cc) (λ u i d e. cc) z
  at_front (happened.Base m v h u len st ∷ rs) s k =
      by (m == n && bytes_eq h g) (front_on (happened.Base m v h u len st) rs (stays n g rs) (λ w ns q. cc) (λ w i e q. cc) (at_front rs s.1 k.1))
    where
      by : (b : Bool) → AtFront (happened.Base m v h u len st ∷ rs) (stays n g rs) → AtFront (happened.Base m v h u len st ∷ rs) (if b then with_base st (stays n g rs) else stays n g rs)
      by true z = front_base st (happened.Base m v h u len st ∷ rs) (stays n g rs) z
      by false z = z
  at_front (happened.Put m v h i d ∷ rs) s k = by (m == n) (bytes_eq h g) refl refl (at_front rs s.1 k.1)
    where
      here : m ≡ n → h ≡ g → AtFront rs (stays n g rs) → AtFront (happened.Put m v h i d ∷ rs) (with_entry d (stays n g rs))
      here node name z =
          subst (λ (y : ℕ × List ℕ). AtFront (happened.Put y.0 v y.1 i d ∷ rs) (with_entry d (stays n g rs))) (λ j. (sym node j, sym name j)) (front_put v i d rs (stays n g rs) z)

      by : (a b : Bool) → (m == n) ≡ a → bytes_eq h g ≡ b → AtFront rs (stays n g rs) → AtFront (happened.Put m v h i d ∷ rs) (if a && b then with_entry d (stays n g rs) else stays n g rs)
      by true true p q z = here (eqb-true m n p) (text_same h g q) z
      by true false p q z =
          front_on (happened.Put m v h i d) rs (stays n g rs) (λ u ns e. cc) (λ u j f e. let name : g ≡ h = cc in let y : true ≡ false = sym (text_self g) ∙ ap (λ x. bytes_eq x g) name ∙ q in cc) z
      by false b p q z =
          front_on (happened.Put m v h i d) rs (stays n g rs) (λ u ns e. cc) (λ u j f e. let node : n ≡ m = cc in let y : true ≡ false = sym (eq-eqb m n (sym node)) ∙ p in cc) z
  at_front (r ∷ rs) s k = front_on r rs (stays n g rs) (λ u ns q. cc) (λ u i e q. cc) (at_front rs s.1 k.1)
