-- What Seen records say of nodes and of the views that they entered; and where logs have what is put and noted in a view, they have
-- that its node entered it.
use Rattle.std.proofs.Common.{◌≡◌, ◌<◌, ◌≤◌, ℕ, ⊎_elim, inl, inr, refl, sym, ap, ◌∙◌, subst, Bool, true, false, List, [], ◌∷◌, Option, Some, None, arith}
use Rattle.std.specs.Prelude.{◌==◌, ◌&&◌, if◌then◌else◌}
use Rattle.std.proofs.lemmas.Bool.{cases_eq, eqb-true, and_parts}
use Rattle.rsct_packet.specs.declared.ids.Member.{Member}
use Rattle.rsct_packet.specs.declared.ids.ViewId.{ViewId}
use Rattle.rsct_packet.specs.Ids.{is_member, view_lt}
use Rattle.rsct_packet.specs.Search.{Has}
use Rattle.proposal_core.specs.declared.group_state.GroupState.{GroupState}
use Rattle.node_state.specs.declared.happened.Happened.{Happened}
use Rattle.node_state.specs.declared.happened.Happened.TheVariants.{Up, Down, Ring, In, Base, Put}
use Rattle.run_safety.specs.Past.{inc_now, inc_after, view_now, place_after}
use Rattle.run_safety.specs.Sight.{inc_in}
use Rattle.run_safety.specs.ViewOrder.{Lt}
use Rattle.run_safety.specs.SafeLists.{AmongMembers}
use Rattle.run_safety.proofs.Order.{lt_not_same}
use Rattle.run_safety.proofs.Tests.{any_has}
use Rattle.run_laws.specs.seen_runs.Seen.{StartsLater, StartedSeen, RisesSeen, SameSeen, from_of, from_after, greater, SeenAt, Seen}
use Rattle.log_laws.specs.Logs.{is_up, up_after, LivesAreLogged, IsLeftOut, Logs, Nothing, Writes, LeavesOut, Upright, AllUpright, PutThere, BaseThere, BasesComeFromGroups}
use Rattle.log_laws.proofs.Kept.{if_same, if_other, was_recorded, IsWork, not_left_out, entered_or_alone, same_view_now}

-- ---- starts

-- the incarnation of a node is that of a start
pub last_start : (n : ℕ) (rs : List Happened) → 0 < inc_now n rs → Has (Up n (inc_now n rs)) rs
last_start n [] some = absurd (omega (arith, some))
last_start n (r ∷ rs) some = by r some (λ s. last_start n rs s)
  where
    by : (r : Happened) → 0 < inc_after n r (inc_now n rs) → (0 < inc_now n rs → Has (Up n (inc_now n rs)) rs) → Has (Up n (inc_after n r (inc_now n rs))) (r ∷ rs)
    by (Up m j) some older = elim (cases_eq m n) [
      | inl e ↦ inl (λ i. Up (sym e i) (if_same m n j (inc_now n rs) e i))
      | inr ne ↦ subst (λ i. Has (Up n i) (Up m j ∷ rs)) (sym (if_other m n j (inc_now n rs) ne)) (inr (older (subst (λ i. 0 < i) (if_other m n j (inc_now n rs) ne) some)))
    ]
    by r some older = inr (older some)

-- and the greatest of all its starts
pub starts_rise : (n j : ℕ) (rs : List Happened) → Seen rs → Has (Up n j) rs → j ≤ inc_now n rs
starts_rise n j [] s h = absurd h
starts_rise n j (r ∷ rs) s h = by r s.0.life h (λ g. starts_rise n j rs s.1 g)
  where
    by : (r : Happened) → StartsLater rs r → Has (Up n j) (r ∷ rs) → (Has (Up n j) rs → j ≤ inc_now n rs) → j ≤ inc_after n r (inc_now n rs)
    by (Up m k) later (inl q) older =
        let e : n ≡ m = cc in
        let f : j ≡ k = cc in
        let z = if_same m n k (inc_now n rs) (sym e) in omega (arith, f, z)
    by (Up m k) later (inr g) older = elim (cases_eq m n) [
      | inl e ↦ (let less : j < k = later j (subst (λ i. Has (Up i j) rs) (sym e) g) in let z = if_same m n k (inc_now n rs) e in omega (arith, less, z))
      | inr ne ↦ (let le : j ≤ inc_now n rs = older g in let z = if_other m n k (inc_now n rs) ne in omega (arith, le, z))
    ]
    by r later (inl q) older = absurd (cc)
    by r later (inr g) older = older g

-- ---- views

-- a node enters a view in an incarnation in which it started
pub entered_started : (n : ℕ) (v : ViewId) (ms : List Member) (rs : List Happened) → Seen rs → Has (In n v ms) rs → Has (Up n (inc_in n ms)) rs
entered_started n v ms [] s h = absurd h
entered_started n v ms (r ∷ rs) s (inl e) =
    let k : StartedSeen rs (In n v ms) = subst (StartedSeen rs) (sym e) s.0.started in
    inr (subst (λ j. Has (Up n j) rs) (sym k.1) (last_start n rs k.0))
entered_started n v ms (r ∷ rs) s (inr h) = inr (entered_started n v ms rs s.1 h)

-- with the same members as each other node
pub members_same : (n m : ℕ) (v : ViewId) (ms ns : List Member) (rs : List Happened) → Seen rs → Has (In n v ms) rs → Has (In m v ns) rs → ns ≡ ms
members_same n m v ms ns [] s h g = absurd h
members_same n m v ms ns (r ∷ rs) s (inl e) (inl f) = let q : In n v ms ≡ In m v ns = e ∙ sym f in cc
members_same n m v ms ns (r ∷ rs) s (inl e) (inr g) =
    let k : SameSeen rs (In n v ms) = subst (SameSeen rs) (sym e) s.0.members in k m ns g
members_same n m v ms ns (r ∷ rs) s (inr h) (inl f) =
    let k : SameSeen rs (In m v ns) = subst (SameSeen rs) (sym f) s.0.members in sym (k n ms h)
members_same n m v ms ns (r ∷ rs) s (inr h) (inr g) = members_same n m v ms ns rs s.1 h g

-- it is one of them
pub among_members : (n : ℕ) (v : ViewId) (ms : List Member) (rs : List Happened) → Seen rs → Has (In n v ms) rs → (j : ℕ) × (is_member ms n j ≡ true)
among_members n v ms [] s h = absurd h
among_members n v ms (r ∷ rs) s (inl e) =
    let k : AmongMembers rs (In n v ms) = subst (AmongMembers rs) (sym e) s.0.among in (inc_now n rs, k)
among_members n v ms (r ∷ rs) s (inr h) = among_members n v ms rs s.1 h

member_alone : (n m i j : ℕ) → is_member (record { node = m; inc = i } ∷ []) n j ≡ true → m ≡ n
member_alone n m i j t = at (any_has (λ (x : Member). x.node == n && x.inc == j) (record { node = m; inc = i } ∷ []) t)
  where
    at : (x : Member) × Has x (record { node = m; inc = i } ∷ []) × ((x.node == n && x.inc == j) ≡ true) → m ≡ n
    at (x, inl e, q) = sym (ap (λ (z : Member). z.node) e) ∙ eqb-true x.node n (and_parts (x.node == n) (x.inc == j) q).0
    at (x, inr h, q) = absurd h

-- it enters it once
pub entered_once : (n : ℕ) (v : ViewId) (ms : List Member) (r : Happened) (rs : List Happened) → RisesSeen rs r → In n v ms ≡ r → Has (In n v ms) rs → ⊥
entered_once n v ms r rs rises e h =
    let k : RisesSeen rs (In n v ms) = subst (RisesSeen rs) (sym e) rises in
    let l : Lt v v = k v ms h refl in lt_not_same v v l refl

-- a node that is in a view entered it, and is up
pub view_entered : (n : ℕ) (v : ViewId) (rs : List Happened) → view_now n rs ≡ Some v → (ms : List Member) × Has (In n v ms) rs
view_entered n v [] e = absurd (cc)
view_entered n v (r ∷ rs) e = by r e (λ q. view_entered n v rs q)
  where
    Entered : List Happened → Type 0
    Entered xs = (ms : List Member) × Has (In n v ms) xs

    more : (r : Happened) → Entered rs → Entered (r ∷ rs)
    more r k = (k.0, inr k.1)

    by : (r : Happened) → place_after n r (view_now n rs) ≡ Some v → (view_now n rs ≡ Some v → Entered rs) → Entered (r ∷ rs)
    by (Up m j) e older = elim (cases_eq m n) [
      | inl q ↦ absurd (let z : None ≡ Some v = sym (if_same m n None (view_now n rs) q) ∙ e in cc)
      | inr ne ↦ more (Up m j) (older (sym (if_other m n None (view_now n rs) ne) ∙ e))
    ]
    by (Down m) e older = elim (cases_eq m n) [
      | inl q ↦ absurd (let z : None ≡ Some v = sym (if_same m n None (view_now n rs) q) ∙ e in cc)
      | inr ne ↦ more (Down m) (older (sym (if_other m n None (view_now n rs) ne) ∙ e))
    ]
    by (In m u ms) e older = elim (cases_eq m n) [
      | inl q ↦ (let z : Some u ≡ Some v = sym (if_same m n (Some u) (view_now n rs) q) ∙ e in let y : u ≡ v = cc in (ms, inl (λ i. In (sym q i) (sym y i) ms)))
      | inr ne ↦ more (In m u ms) (older (sym (if_other m n (Some u) (view_now n rs) ne) ∙ e))
    ]
    by r e older = more r (older e)

pub view_up : (n : ℕ) (v : ViewId) (rs : List Happened) → AllUpright rs → view_now n rs ≡ Some v → is_up n rs ≡ true
view_up n v [] a e = absurd (cc)
view_up n v (r ∷ rs) a e = by r a.0 e (λ q. view_up n v rs a.1 q)
  where
    by : (r : Happened) → Upright rs r → place_after n r (view_now n rs) ≡ Some v → (view_now n rs ≡ Some v → is_up n rs ≡ true) → up_after n r (is_up n rs) ≡ true
    by (Up m j) a e older = elim (cases_eq m n) [
      | inl q ↦ if_same m n true (is_up n rs) q
      | inr ne ↦ if_other m n true (is_up n rs) ne ∙ older (sym (if_other m n None (view_now n rs) ne) ∙ e)
    ]
    by (Down m) a e older = elim (cases_eq m n) [
      | inl q ↦ absurd (let z : None ≡ Some v = sym (if_same m n None (view_now n rs) q) ∙ e in cc)
      | inr ne ↦ if_other m n false (is_up n rs) ne ∙ older (sym (if_other m n None (view_now n rs) ne) ∙ e)
    ]
    by (In m u ms) a e older = elim (cases_eq m n) [
      | inl q ↦ subst (λ i. is_up i rs ≡ true) q a
      | inr ne ↦ older (sym (if_other m n (Some u) (view_now n rs) ne) ∙ e)
    ]
    by r a e older = older e

-- ---- by the logs

module _ (rs ls : List Happened) (k : Logs rs ls) (a : LivesAreLogged rs ls) (upright : AllUpright rs) (n : ℕ) (v : ViewId) (is_in : view_now n rs ≡ Some v) where
  -- it is in that view by the logs
  pub in_by_logs : view_now n ls ≡ Some v
  in_by_logs = let up = view_up n v rs upright is_in in sym (same_view_now rs ls k n up (a n up)) ∙ is_in

  -- and they have that it entered it
  pub entered_by_logs : (ms : List Member) × Has (In n v ms) ls
  entered_by_logs = view_entered n v ls in_by_logs

-- what a node does in the view that it is in is logged, and so is that it entered it
pub work_entered : (n : ℕ) (v : ViewId) (x : Happened) → IsWork x → ((rs : List Happened) → SeenAt rs x → Upright rs x → view_now n rs ≡ Some v)
    → (rs ls : List Happened) → Logs rs ls → Seen rs → AllUpright rs → Has x rs → (ms : List Member) × Has (In n v ms) ls
work_entered n v x w in_view _ _ Nothing s upright h = absurd h
work_entered n v x w in_view _ _ (Writes r rs ls k a) s upright (inl e) =
    let q = entered_by_logs rs ls k a upright.1 n v (in_view rs (subst (SeenAt rs) (sym e) s.0) (subst (Upright rs) (sym e) upright.0)) in (q.0, inr q.1)
work_entered n v x w in_view _ _ (Writes r rs ls k a) s upright (inr h) =
    let q = work_entered n v x w in_view rs ls k s.1 upright.1 h in (q.0, inr q.1)
work_entered n v x w in_view _ _ (LeavesOut r rs ls k o) s upright (inl e) = absurd (not_left_out rs ls x (subst (IsLeftOut rs ls) (sym e) o) w)
work_entered n v x w in_view _ _ (LeavesOut r rs ls k o) s upright (inr h) = work_entered n v x w in_view rs ls k s.1 upright.1 h

-- whoever entered a view from which bases come entered it by the logs
abbrev pub OldEntered : List Happened → List Happened → Type 0
OldEntered rs ls =
    (n : ℕ) (v : ViewId) (g : List ℕ) (u : ViewId) (len : ℕ) (s : GroupState) → Has (Base n v g u len s) rs → (m : ℕ) (ms : List Member) → Has (In m u ms) rs → Has (In m u ms) ls

module _ (rs ls : List Happened) (k : Logs rs ls) (s : Seen rs) (upright : AllUpright rs) where
  put_entered : (u : ViewId) (g : List ℕ) (p : PutThere rs u g) → (ns : List Member) × Has (In p.node u ns) ls
  put_entered u g p =
      work_entered p.node u (Put p.node u g p.place p.entry) tt (λ xs seen up. seen.in_view) rs ls k s upright p.there

  base_entered : (m : ℕ) (u : ViewId) (g : List ℕ) → BaseThere rs m u g → (ns : List Member) × Has (In m u ns) ls
  base_entered m u g b =
      work_entered m u (Base m u g b.old b.len b.state) tt (λ xs seen up. up) rs ls k s upright b.there

  pub old_entered : BasesComeFromGroups rs → OldEntered rs ls
  old_entered come n v g u len st base m ms h =
      ⊎_elim (λ (q : Has (In m u ms) ls). q) (λ (q : (j : ℕ) × (ms ≡ record { node = m; inc = j } ∷ [])). alone q.0 q.1) (entered_or_alone rs ls k m u ms h)
    where
      -- some node entered it by the logs, and that was this one
      it_was : (j : ℕ) → ms ≡ record { node = m; inc = j } ∷ [] → (l : ℕ) (ns : List Member) → Has (In l u ns) ls → Has (In m u ms) ls
      it_was j is l ns there =
          let was : Has (In l u ns) rs = was_recorded rs ls k (In l u ns) there in
          let same : ns ≡ ms = members_same m l u ms ns rs s h was in
          let own = among_members l u ns rs s was in
          let l_is : m ≡ l = member_alone l m j own.0 (subst (λ z. is_member z l own.0 ≡ true) (same ∙ is) own.1) in
          subst (λ (z : ℕ × List Member). Has (In z.0 u z.1) ls) (λ i. (sym l_is i, same i)) there

      alone : (j : ℕ) → ms ≡ record { node = m; inc = j } ∷ [] → Has (In m u ms) ls
      alone j is =
          ⊎_elim (λ (p : PutThere rs u g). (let q = put_entered u g p in it_was j is p.node q.0 q.1)) (λ (each : (l : ℕ) (ns : List Member) → Has (In l u ns) rs → BaseThere rs l u g). (let q = base_entered m u g (each m ms h) in it_was j is m q.0 q.1)) (come n v g u len st base)

-- ---- where a node came from

-- a view that it entered
pub from_entered : (m j : ℕ) (v u : ViewId) (rs : List Happened) → from_of m j v rs ≡ Some u → (ms : List Member) × Has (In m u ms) rs × (inc_in m ms ≡ j)
from_entered m j v u [] e = absurd (cc)
from_entered m j v u (r ∷ rs) e = by r e (λ q. from_entered m j v u rs q)
  where
    Entered : List Happened → Type 0
    Entered xs = (ms : List Member) × Has (In m u ms) xs × (inc_in m ms ≡ j)

    more : (r : Happened) → Entered rs → Entered (r ∷ rs)
    more r k = (k.0, inr k.1, k.2)

    by : (r : Happened) → from_after m j v r (from_of m j v rs) ≡ Some u → (from_of m j v rs ≡ Some u → Entered rs) → Entered (r ∷ rs)
    by (In n w ms) e older = test (n == m) (inc_in m ms == j) (view_lt w v) refl refl e
      where
        here : n ≡ m → inc_in m ms ≡ j → w ≡ u → Entered (In n w ms ∷ rs)
        here p q z = (ms, inl (λ i. In (sym p i) (sym z i) ms), q)

        which : n ≡ m → inc_in m ms ≡ j → (o : Option ViewId) → from_of m j v rs ≡ o → Some (greater w o) ≡ Some u → Entered (In n w ms ∷ rs)
        which p q None was e = here p q (let z : Some w ≡ Some u = e in cc)
        which p q (Some t) was e = side (view_lt t w) e
          where
            side : (b : Bool) → Some (if b then w else t) ≡ Some u → Entered (In n w ms ∷ rs)
            side true e = here p q (let z : Some w ≡ Some u = e in cc)
            side false e = more (In n w ms) (older (was ∙ e))

        test : (a b c : Bool) → (n == m) ≡ a → (inc_in m ms == j) ≡ b → (if a && (b && c) then Some (greater w (from_of m j v rs)) else from_of m j v rs) ≡ Some u → Entered (In n w ms ∷ rs)
        test true true true p q e = which (eqb-true n m p) (eqb-true (inc_in m ms) j q) (from_of m j v rs) refl e
        test true true false p q e = more (In n w ms) (older e)
        test true false c p q e = more (In n w ms) (older e)
        test false b c p q e = more (In n w ms) (older e)
    by r e older = more r (older e)

-- none where it entered none
from_none : (m j : ℕ) (v : ViewId) (rs : List Happened) → ((u : ViewId) (ms : List Member) → Has (In m u ms) rs → inc_in m ms ≡ j → ⊥) → from_of m j v rs ≡ None
from_none m j v rs never = by (from_of m j v rs) refl
  where
    by : (o : Option ViewId) → from_of m j v rs ≡ o → from_of m j v rs ≡ None
    by None e = e
    by (Some u) e = absurd (let k = from_entered m j v u rs e in never u k.0 k.1 k.2)

-- what another node enters, or it in another incarnation, changes nothing
from_other : (n m j : ℕ) (v u : ViewId) (ms : List Member) (old : Option ViewId) → (n ≡ m → inc_in m ms ≡ j → ⊥) → from_after m j v (In n u ms) old ≡ old
from_other n m j v u ms old never = by (n == m) (inc_in m ms == j) (view_lt u v) refl refl
  where
    by : (a b c : Bool) → (n == m) ≡ a → (inc_in m ms == j) ≡ b → (if a && (b && c) then Some (greater u old) else old) ≡ old
    by true true c p q = absurd (never (eqb-true n m p) (eqb-true (inc_in m ms) j q))
    by true false c p q = refl
    by false b c p q = refl

-- a node that by the logs started in this incarnation came from the same by them
pub same_from : (m j : ℕ) (v : ViewId) (rs ls : List Happened) → Logs rs ls → Seen rs → Seen ls → Has (Up m j) ls → from_of m j v rs ≡ from_of m j v ls
same_from m j v _ _ Nothing s t h = refl
same_from m j v _ _ (Writes r rs ls k a) s t (inr h) = ap (from_after m j v r) (same_from m j v rs ls k s.1 t.1 h)
same_from m j v _ _ (Writes r rs ls k a) s t (inl e) =
    ap (from_after m j v r) (from_none m j v rs not_before ∙ sym (from_none m j v ls (λ u ms h. not_before u ms (was_recorded rs ls k (In m u ms) h))))
  where
    not_before : (u : ViewId) (ms : List Member) → Has (In m u ms) rs → inc_in m ms ≡ j → ⊥
    not_before u ms h q =
        let later : StartsLater rs (Up m j) = subst (StartsLater rs) (sym e) s.0.life in
        let less : j < j = later j (subst (λ i. Has (Up m i) rs) q (entered_started m u ms rs s.1 h)) in omega (arith, less)
same_from m j v _ _ (LeavesOut r rs ls k o) s t h = by r o s.0.started ∙ same_from m j v rs ls k s.1 t h
  where
    by : (r : Happened) → IsLeftOut rs ls r → StartedSeen rs r → from_after m j v r (from_of m j v rs) ≡ from_of m j v rs
    by (In n u ms) o started = from_other n m j v u ms (from_of m j v rs) never
      where
        never : n ≡ m → inc_in m ms ≡ j → ⊥
        never p q =
            let less : inc_now m ls < inc_now m rs = subst (λ i. inc_now i ls < inc_now i rs) p o.0 in
            let is : inc_in m ms ≡ inc_now m rs = subst (λ i. inc_in i ms ≡ inc_now i rs) p started.1 in
            let most : j ≤ inc_now m ls = starts_rise m j ls t h in
            omega (arith, less, is, most, q)
    by (Up n i) o started = refl
    by (Down n) o started = refl
    by (Ring n network id ms b) o started = refl
    by _ o started = absurd o
