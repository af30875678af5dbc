-- What the lines say of nodes: in which view a node is, in which incarnation, who is in a view, and where a node came from.
use Rattle.std.proofs.Common.{◌≡◌, ℕ, ◌<◌, Bool, true, false, List, [], ◌∷◌, Option, Some, None, inl, inr, refl, sym, ◌∙◌, ap, subst, arith}
use Rattle.std.specs.Prelude.{◌==◌, ◌&&◌, if◌then◌else◌}
use Rattle.std.proofs.lemmas.Bool.{and_parts, eqb-true, eq-eqb}
use Rattle.rsct_packet.specs.declared.ids.Member.{Member}
use Rattle.rsct_packet.specs.declared.ids.ViewId.{ViewId}
use Rattle.rsct_packet.specs.Ids.{same_view, view_lt}
use Rattle.rsct_packet.specs.Search.{Has}
use Rattle.view_state.proofs.ViewOrder.{same_view_is}
use Rattle.node_state.specs.declared.happened.Happened.{Happened}
use Rattle.node_state.specs.declared.happened.Happened.TheVariants as happened
use Rattle.run_safety.specs.Past as past
use Rattle.run_safety.specs.Sight as sight
use Rattle.run_safety.specs.ViewOrder.{is_before}
use Rattle.run_laws.specs.seen_runs.Seen as seen
use Rattle.run_laws.specs.seen_runs.Seen.{Seen}
use Rattle.run_audit.specs.Past.{inc_after, inc_of, view_after, view_of, is_at, or_members, members_after, members_of, inc_in, greater, from_after, from_of}
use Rattle.audit_laws.specs.Lines.{shown, lines}
use Rattle.audit_laws.proofs.Tests.{view_self}

-- ---- the same words, of records and of lines

pub inc_same : (n : ℕ) (ms : List Member) → inc_in n ms ≡ sight.inc_in n ms
unfolding inc_in
inc_same n [] = refl
inc_same n (m ∷ ms) = ap (λ z. if m.node == n then m.inc else z) (inc_same n ms)

greater_same : (u : ViewId) (o : Option ViewId) → greater u o ≡ seen.greater u o
unfolding greater
greater_same u None = refl
greater_same u (Some t) = refl

pub from_same : (m j : ℕ) (v : ViewId) (rs : List Happened) → from_of m j v (lines rs) ≡ seen.from_of m j v rs
unfolding lines shown from_of from_after
from_same m j v [] = refl
from_same m j v (happened.In n u ms ∷ rs) =
    (λ i. if n == m && (inc_same m ms i == j && view_lt u v) then Some (greater_same u (from_of m j v (lines rs)) i) else from_of m j v (lines rs))
    ∙ ap (λ o. if n == m && (sight.inc_in m ms == j && view_lt u v) then Some (seen.greater u o) else o) (from_same m j v rs)
from_same m j v (_ ∷ rs) = from_same m j v rs

-- ---- the view of a node

-- what the node is in, it is in by the lines
pub view_is : (n : ℕ) (v : ViewId) (rs : List Happened) → past.view_now n rs ≡ Some v → view_of n (lines rs) ≡ Some v
unfolding lines shown view_of view_after
view_is n v [] e = absurd cc
view_is n v (happened.Up m j ∷ rs) e = by (m == n) e (view_is n v rs)
  where
    by : (t : Bool) → (if t then None else past.view_now n rs) ≡ Some v → (past.view_now n rs ≡ Some v → view_of n (lines rs) ≡ Some v) → (if t then None else view_of n (lines rs)) ≡ Some v
    by true q h = absurd cc
    by false q h = h q
view_is n v (happened.Down m ∷ rs) e = by (m == n) e (view_is n v rs)
  where
    by : (t : Bool) → (if t then None else past.view_now n rs) ≡ Some v → (past.view_now n rs ≡ Some v → view_of n (lines rs) ≡ Some v) → view_of n (lines rs) ≡ Some v
    by true q h = absurd cc
    by false q h = h q
view_is n v (happened.In m u ms ∷ rs) e = by (m == n) e (view_is n v rs)
  where
    by : (t : Bool) → (if t then Some u else past.view_now n rs) ≡ Some v → (past.view_now n rs ≡ Some v → view_of n (lines rs) ≡ Some v) → (if t then Some u else view_of n (lines rs)) ≡ Some v
    by true q h = q
    by false q h = h q
view_is n v (_ ∷ rs) e = view_is n v rs e

pub at_view : (v : ViewId) (o : Option ViewId) → o ≡ Some v → is_at v o ≡ true
unfolding is_at
at_view v o e = ap (is_at v) e ∙ view_self v

pub view_at : (v : ViewId) (o : Option ViewId) → is_at v o ≡ true → o ≡ Some v
unfolding is_at
view_at v None e = absurd cc
view_at v (Some u) e = ap (λ z. Some z) (same_view_is u v e)

-- the node entered the view in the incarnation of its last start
pub record Entered (n : ℕ) (u : ViewId) (rs : List Happened) : Type 0 where
  pub members : List Member
  pub there : Has (happened.In n u members) rs
  pub inc : sight.inc_in n members ≡ past.inc_now n rs

later : (n : ℕ) (u : ViewId) (r : Happened) (rs : List Happened) → past.inc_now n (r ∷ rs) ≡ past.inc_now n rs → Entered n u rs → Entered n u (r ∷ rs)
later n u r rs e k = record { members = k.members; there = inr k.there; inc = k.inc ∙ sym e }

pub view_was : (n : ℕ) (u : ViewId) (rs : List Happened) → Seen rs → view_of n (lines rs) ≡ Some u → Entered n u rs
unfolding lines shown view_of view_after
view_was n u [] s e = absurd cc
view_was n u (happened.Up m j ∷ rs) s e = by (m == n) refl e (view_was n u rs s.1)
  where
    by : (t : Bool) → (m == n) ≡ t → (if t then None else view_of n (lines rs)) ≡ Some u → (view_of n (lines rs) ≡ Some u → Entered n u rs) → Entered n u (happened.Up m j ∷ rs)
    by true f q h = absurd cc
    by false f q h = later n u (happened.Up m j) rs (ap (λ t. if t then j else past.inc_now n rs) f) (h q)
view_was n u (happened.In m w ms ∷ rs) s e = by (m == n) refl e (view_was n u rs s.1)
  where
    by : (t : Bool) → (m == n) ≡ t → (if t then Some w else view_of n (lines rs)) ≡ Some u → (view_of n (lines rs) ≡ Some u → Entered n u rs) → Entered n u (happened.In m w ms ∷ rs)
    by true f q h =
        let a : m ≡ n = eqb-true m n f in
        let b : w ≡ u = cc in
        record { members = ms; there = inl (λ i. happened.In (sym a i) (sym b i) ms); inc = subst (λ k. sight.inc_in k ms ≡ past.inc_now k rs) a s.0.started.1 }
    by false f q h = later n u (happened.In m w ms) rs refl (h q)
view_was n u (r ∷ rs) s e = later n u r rs refl (view_was n u rs s.1 e)

-- ---- incarnations

pub inc_is : (n : ℕ) (rs : List Happened) → 0 < past.inc_now n rs → inc_of n (lines rs) ≡ Some (past.inc_now n rs)
unfolding lines shown inc_of inc_after
inc_is n [] h = absurd (omega arith)
inc_is n (happened.Up m j ∷ rs) h = by (m == n) h (inc_is n rs)
  where
    by : (t : Bool) → 0 < (if t then j else past.inc_now n rs) → (0 < past.inc_now n rs → inc_of n (lines rs) ≡ Some (past.inc_now n rs)) → (if t then Some j else inc_of n (lines rs)) ≡ Some (if t then j else past.inc_now n rs)
    by true p k = refl
    by false p k = k p
inc_is n (_ ∷ rs) h = inc_is n rs h

-- ---- members

-- somebody entered the view, and named these
pub record Named (v : ViewId) (ms : List Member) (rs : List Happened) : Type 0 where
  pub node : ℕ
  pub there : Has (happened.In node v ms) rs

named_later : (v : ViewId) (ms : List Member) (r : Happened) (rs : List Happened) → Named v ms rs → Named v ms (r ∷ rs)
named_later v ms r rs k = record { node = k.node; there = inr k.there }

pub members_were : (v : ViewId) (ms : List Member) (rs : List Happened) → members_of v (lines rs) ≡ Some ms → Named v ms rs
unfolding lines shown members_of members_after or_members
members_were v ms [] e = absurd cc
members_were v ms (happened.In m u ns ∷ rs) e = by (same_view u v) refl (members_of v (lines rs)) e (members_were v ms rs)
  where
    by : (t : Bool) → same_view u v ≡ t → (o : Option (List Member)) → (if t then or_members o ns else o) ≡ Some ms → (o ≡ Some ms → Named v ms rs) → Named v ms (happened.In m u ns ∷ rs)
    by true f None q h =
        let a : u ≡ v = same_view_is u v f in
        let b : ns ≡ ms = cc in
        record { node = m; there = inl (λ i. happened.In m (sym a i) (sym b i)) }
    by true f (Some os) q h = named_later v ms (happened.In m u ns) rs (h q)
    by false f o q h = named_later v ms (happened.In m u ns) rs (h q)
members_were v ms (r ∷ rs) e = named_later v ms r rs (members_were v ms rs e)

pub members_are : (m : ℕ) (v : ViewId) (ms : List Member) (rs : List Happened) → Seen rs → Has (happened.In m v ms) rs → members_of v (lines rs) ≡ Some ms
unfolding lines shown members_of members_after or_members
members_are m v ms [] s h = absurd h
members_are m v ms (happened.In k u ns ∷ rs) s (inl e) =
    let a : v ≡ u = cc in
    let b : ms ≡ ns = cc in
    by (members_of v (lines rs)) refl (ap (λ z. same_view z v) (sym a) ∙ view_self v) a b
  where
    by : (o : Option (List Member)) → members_of v (lines rs) ≡ o → same_view u v ≡ true → v ≡ u → ms ≡ ns → (if same_view u v then or_members (members_of v (lines rs)) ns else members_of v (lines rs)) ≡ Some ms
    by None q t a b = (λ i. if t i then or_members (q i) ns else members_of v (lines rs)) ∙ ap (λ z. Some z) (sym b)
    by (Some os) q t a b =
        let w = members_were v os rs q in
        let c : os ≡ ns = s.0.members w.node os (subst (λ z. Has (happened.In w.node z os) rs) a w.there) in
        (λ i. if t i then or_members (q i) ns else members_of v (lines rs)) ∙ ap (λ z. Some z) (c ∙ sym b)
members_are m v ms (happened.In k u ns ∷ rs) s (inr h) = by (same_view u v) (members_of v (lines rs)) (members_are m v ms rs s.1 h)
  where
    by : (t : Bool) (o : Option (List Member)) → o ≡ Some ms → (if t then or_members o ns else o) ≡ Some ms
    by true None q = absurd cc
    by true (Some os) q = q
    by false o q = q
members_are m v ms (_ ∷ rs) s (inl e) = absurd cc
members_are m v ms (_ ∷ rs) s (inr h) = members_are m v ms rs s.1 h

-- ---- where a node came from

-- it entered that view in this incarnation
pub record CameFrom (m j : ℕ) (v t : ViewId) (rs : List Happened) : Type 0 where
  pub members : List Member
  pub there : Has (happened.In m t members) rs
  pub inc : sight.inc_in m members ≡ j
  pub less : view_lt t v ≡ true

came_later : (m j : ℕ) (v t : ViewId) (r : Happened) (rs : List Happened) → CameFrom m j v t rs → CameFrom m j v t (r ∷ rs)
came_later m j v t r rs k = record { members = k.members; there = inr k.there; inc = k.inc; less = k.less }

pub from_was : (m j : ℕ) (v t : ViewId) (rs : List Happened) → seen.from_of m j v rs ≡ Some t → CameFrom m j v t rs
from_was m j v t [] e = absurd cc
from_was m j v t (happened.In n u ms ∷ rs) e = by (n == m && (sight.inc_in m ms == j && view_lt u v)) refl (seen.from_of m j v rs) e (from_was m j v t rs)
  where
    here : (n == m && (sight.inc_in m ms == j && view_lt u v)) ≡ true → u ≡ t → CameFrom m j v t (happened.In n u ms ∷ rs)
    here f a =
        let p = and_parts (n == m) (sight.inc_in m ms == j && view_lt u v) f in
        let q = and_parts (sight.inc_in m ms == j) (view_lt u v) p.1 in
        let b : n ≡ m = eqb-true n m p.0 in
        record { members = ms; there = inl (λ i. happened.In (sym b i) (sym a i) ms); inc = eqb-true (sight.inc_in m ms) j q.0; less = subst (λ z. view_lt z v ≡ true) a q.1 }

    chosen : (w : ViewId) (c : Bool) → (n == m && (sight.inc_in m ms == j && view_lt u v)) ≡ true → Some (if c then u else w) ≡ Some t → (Some w ≡ Some t → CameFrom m j v t rs) → CameFrom m j v t (happened.In n u ms ∷ rs)
    chosen w true f q h = let a : u ≡ t = cc in here f a
    chosen w false f q h = came_later m j v t (happened.In n u ms) rs (h q)

    by : (b : Bool) → (n == m && (sight.inc_in m ms == j && view_lt u v)) ≡ b → (o : Option ViewId) → (if b then Some (seen.greater u o) else o) ≡ Some t → (o ≡ Some t → CameFrom m j v t rs) → CameFrom m j v t (happened.In n u ms ∷ rs)
    by true f None q h = let a : u ≡ t = cc in here f a
    by true f (Some w) q h = chosen w (view_lt w u) f q h
    by false f o q h = came_later m j v t (happened.In n u ms) rs (h q)
from_was m j v t (r ∷ rs) e = came_later m j v t r rs (from_was m j v t rs e)

-- the view that a node is in is where it comes from into a greater one
pub from_view : (m : ℕ) (u v : ViewId) (rs : List Happened) → Seen rs → view_of m (lines rs) ≡ Some u → view_lt u v ≡ true → seen.from_of m (past.inc_now m rs) v rs ≡ Some u
unfolding lines shown view_of view_after is_before
from_view m u v [] s e l = absurd cc
from_view m u v (happened.Up k j ∷ rs) s e l = by (k == m) e (from_view m u v rs s.1)
  where
    by : (t : Bool) → (if t then None else view_of m (lines rs)) ≡ Some u → (view_of m (lines rs) ≡ Some u → view_lt u v ≡ true → seen.from_of m (past.inc_now m rs) v rs ≡ Some u) → seen.from_of m (if t then j else past.inc_now m rs) v rs ≡ Some u
    by true q h = absurd cc
    by false q h = h q l
from_view m u v (happened.In k w ms ∷ rs) s e l = by (k == m) refl e (from_view m u v rs s.1)
  where
    J : ℕ
    J = past.inc_now m rs

    test : (k == m) ≡ true → w ≡ u → (k == m && (sight.inc_in m ms == J && view_lt w v)) ≡ true
    test f a =
        let b : k ≡ m = eqb-true k m f in
        let c : sight.inc_in m ms ≡ J = subst (λ z. sight.inc_in z ms ≡ past.inc_now z rs) b s.0.started.1 in
        let d : view_lt w v ≡ true = subst (λ z. view_lt z v ≡ true) (sym a) l in
        λ i. f i && (eq-eqb (sight.inc_in m ms) J c i && d i)

    top : (k == m) ≡ true → (o : Option ViewId) → seen.from_of m J v rs ≡ o → seen.greater w o ≡ w
    top f None q = refl
    top f (Some t) q =
        let b : k ≡ m = eqb-true k m f in
        let c : sight.inc_in m ms ≡ J = subst (λ z. sight.inc_in z ms ≡ past.inc_now z rs) b s.0.started.1 in
        let x = from_was m J v t rs q in
        let y : view_lt t w ≡ true = s.0.rises t x.members (subst (λ z. Has (happened.In z t x.members) rs) (sym b) x.there) (subst (λ z. sight.inc_in z x.members ≡ sight.inc_in z ms) (sym b) (x.inc ∙ sym c)) in
        ap (λ z. if z then w else t) y

    by : (t : Bool) → (k == m) ≡ t → (if t then Some w else view_of m (lines rs)) ≡ Some u → (view_of m (lines rs) ≡ Some u → view_lt u v ≡ true → seen.from_of m J v rs ≡ Some u)
        → (if k == m && (sight.inc_in m ms == J && view_lt w v) then Some (seen.greater w (seen.from_of m J v rs)) else seen.from_of m J v rs) ≡ Some u
    by true f q h =
        let a : w ≡ u = cc in
        ap (λ z. if z then Some (seen.greater w (seen.from_of m J v rs)) else seen.from_of m J v rs) (test f a) ∙ (ap (λ z. Some z) (top f (seen.from_of m J v rs) refl) ∙ ap (λ z. Some z) a)
    by false f q h = ap (λ z. if z && (sight.inc_in m ms == J && view_lt w v) then Some (seen.greater w (seen.from_of m J v rs)) else seen.from_of m J v rs) f ∙ h q l
from_view m u v (_ ∷ rs) s e l = from_view m u v rs s.1 e l
