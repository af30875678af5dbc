-- What is kept of the views that nodes entered says where they came from.
use Rattle.std.proofs.Common.{◌≡◌, ℕ, ◌+◌, ◌<◌, ◌≤◌, Bool, true, false, List, [], ◌∷◌, ◌++◌, Option, Some, None, refl, sym, ◌∙◌, ap, subst, arith, cond}
use Rattle.std.specs.Prelude.{◌==◌, ◌&&◌, ◌||◌, not, find, nat_lt, reverse, if◌then◌else◌}
use Rattle.std.specs.List.{list_all, list_any}
use Rattle.std.specs.Map.{lookup}
use Rattle.std.proofs.lemmas.Bool.Decides.{nat_tests}
use Rattle.std.proofs.lemmas.List.{reverse-append}
use Rattle.rsct_packet.specs.declared.ids.Member.{Member}
use Rattle.rsct_packet.specs.declared.ids.ViewId.{ViewId}
use Rattle.rsct_packet.specs.Ids.{is_member, same_member, view_lt}
use Rattle.rsct_packet.specs.Mask.{is_node}
use Rattle.word_laws.specs.Ranges.{is_view}
use Rattle.word_laws.specs.Ranges.{is_member as is_member_line}
use Rattle.word_laws.proofs.ValueLaws.{and_parts}
use Rattle.record_lines.specs.declared.line.Line.{Line}
use Rattle.record_lines.specs.declared.line.Line.TheVariants as line
use Rattle.record_lines.specs.Fits.{are_members, line_fits, members_ascend}
use Rattle.run_audit.specs.declared.broken.Rule.TheVariants as rule
use Rattle.audit_states.specs.declared.comings.IncKey.{IncKey}
use Rattle.audit_states.specs.Comings.{AreComings, came_from, entered_in, last_below, same_inc_key, views_in, with_view}
use Rattle.run_audit.specs.Kept.{Keep}
use Rattle.run_audit.specs.Past.{from_after, from_of, greater, inc_after, inc_in, inc_of, members_of, view_after, view_of}
use Rattle.audit_states.specs.States.{AllFit}
use Rattle.run_audit.specs.Table.{holds, in_holds, is_above, is_own, starts_below, all_same, if_some}
use Rattle.run_audit.proofs.KeyLaws.{equal}
use Rattle.run_audit.proofs.PlaceLaws.{number_self}

-- ---- as the code has them

inc_key_same : (a b : IncKey) → same_inc_key a b ≡ true → a ≡ b
inc_key_same a b e =
    let p = and_parts (a.node == b.node) (a.inc == b.inc) e in
    λ i. record { node = equal a.node b.node p.0 i; inc = equal a.inc b.inc p.1 i }

pub view_pushed : (key : IncKey) (u : ViewId) (us ws : List ViewId) (es ms fs : List (IncKey × List ViewId)) (q : IncKey) → us ≡ views_in (lookup (same_inc_key key) es) → ((q : IncKey) → same_inc_key key q ≡ false → lookup (same_inc_key q) ms ≡ lookup (same_inc_key q) es)
    → ws ≡ us ++ u ∷ [] → ((q : IncKey) → lookup (same_inc_key q) fs ≡ cond (same_inc_key key q) (Some ws) (lookup (same_inc_key q) ms)) → views_in (lookup (same_inc_key q) fs) ≡ with_view (same_inc_key key q) u (views_in (lookup (same_inc_key q) es))
unfolding views_in
view_pushed key u us ws es ms fs q was others more up = ap views_in (up q) ∙ by (same_inc_key key q) refl
  where
    by : (t : Bool) → same_inc_key key q ≡ t → views_in (cond t (Some ws) (lookup (same_inc_key q) ms)) ≡ with_view t u (views_in (lookup (same_inc_key q) es))
    by true e = more ∙ ap (λ z. z ++ u ∷ []) (was ∙ ap (λ z. views_in (lookup (same_inc_key z) es)) (inc_key_same key q e))
    by false e = ap views_in (others q e)

numbers_turn : (a b : ℕ) → (a == b) ≡ (b == a)
numbers_turn a b = by (a == b) (b == a) refl refl
  where
    by : (t u : Bool) → (a == b) ≡ t → (b == a) ≡ u → t ≡ u
    by true true e f = refl
    by true false e f = grind (arith, nat_tests)
    by false true e f = grind (arith, nat_tests)
    by false false e f = refl

pub none_came : (es : List (IncKey × List ViewId)) → es ≡ [] → AreComings [] es
unfolding views_in entered_in
none_came es none k = ap (λ z. views_in (lookup (same_inc_key k) z)) none

pub view_noted : (n : ℕ) (u : ViewId) (ms : List Member) (inc : ℕ) (es fs : List (IncKey × List ViewId)) (ls : List Line) → inc ≡ inc_in n ms
    → ((q : IncKey) → views_in (lookup (same_inc_key q) fs) ≡ with_view (same_inc_key (record { node = n; inc = inc }) q) u (views_in (lookup (same_inc_key q) es))) → AreComings ls es → AreComings (line.In n u ms ∷ ls) fs
unfolding entered_in
view_noted n u ms inc es fs ls is up are q = up q ∙ by (n == q.node) refl
  where
    by : (t : Bool) → (n == q.node) ≡ t → with_view ((n == q.node) && (inc == q.inc)) u (views_in (lookup (same_inc_key q) es)) ≡ with_view ((n == q.node) && (inc_in q.node ms == q.inc)) u (entered_in q.node q.inc ls)
    by true e =
        let same : inc ≡ inc_in q.node ms = is ∙ ap (λ z. inc_in z ms) (equal n q.node e) in
        λ i. with_view ((n == q.node) && (same i == q.inc)) u (are q i)
    by false e = ap (λ t. with_view (t && (inc == q.inc)) u (views_in (lookup (same_inc_key q) es))) e ∙ are q ∙ sym (ap (λ t. with_view (t && (inc_in q.node ms == q.inc)) u (entered_in q.node q.inc ls)) e)

-- ---- views rise in an incarnation

before_trans : (a b c : ViewId) → view_lt a b ≡ true → view_lt b c ≡ true → view_lt a c ≡ true
before_trans a b c p q = grind (arith, nat_tests)

not_past : (a b c : ViewId) → view_lt b a ≡ false → view_lt b c ≡ true → view_lt a c ≡ true
not_past a b c p q = grind (arith, nat_tests)

not_before_itself : (a : ViewId) → view_lt a a ≡ false
not_before_itself a = grind (arith, nat_tests)

not_after : (a b : ViewId) → view_lt a b ≡ true → view_lt b a ≡ false
not_after a b p = grind (arith, nat_tests)

both : (a b : Bool) → a ≡ true → b ≡ true → (a && b) ≡ true
both a b e f = rw (e, f) refl

negated : (t : Bool) → t ≡ false → not t ≡ true
negated t e = rw e refl

unnegated : (t : Bool) → not t ≡ true → t ≡ false
unnegated true e = absurd cc
unnegated false e = refl

-- no view is greater than this one; where there is none, there are no views
abbrev AtMost : Option ViewId → List ViewId → Type 0
AtMost None us = us ≡ []
AtMost (Some w) us = list_all (λ u. not (view_lt w u)) us ≡ true

-- of views that were entered in an incarnation: that of the node is not less
abbrev NotBefore : List ViewId → ℕ → Option ℕ → Type 0
NotBefore [] j o = Unit {0}
NotBefore (u ∷ us) j None = ⊥
NotBefore (u ∷ us) j (Some k) = j ≤ k

below_all : (w u : ViewId) (us : List ViewId) → list_all (λ z. not (view_lt w z)) us ≡ true → view_lt w u ≡ true → list_all (λ z. view_lt z u) us ≡ true
below_all w u [] h e = refl
below_all w u (x ∷ us) h e = let p = and_parts (not (view_lt w x)) (list_all (λ z. not (view_lt w z)) us) h in both (view_lt x u) (list_all (λ z. view_lt z u) us) (not_past x w u (unnegated (view_lt w x) p.0) e) (below_all w u us p.1 e)

most_all : (u : ViewId) (us : List ViewId) → list_all (λ z. view_lt z u) us ≡ true → list_all (λ z. not (view_lt u z)) (us ++ u ∷ []) ≡ true
most_all u [] h = both (not (view_lt u u)) true (negated (view_lt u u) (not_before_itself u)) refl
most_all u (x ∷ us) h = let p = and_parts (view_lt x u) (list_all (λ z. view_lt z u) us) h in both (not (view_lt u x)) (list_all (λ z. not (view_lt u z)) (us ++ u ∷ [])) (negated (view_lt u x) (not_after x u p.0)) (most_all u us p.1)

-- what stands before a view that the node enters
above_all : (o : Option ViewId) (u : ViewId) (us : List ViewId) → AtMost o us → is_above o u ≡ true → list_all (λ z. view_lt z u) us ≡ true
unfolding is_above
above_all None u us h e = ap (list_all (λ z. view_lt z u)) h
above_all (Some w) u us h e = below_all w u us h e

-- the incarnation of a member, in a list with each node once
member_past : (b n k : ℕ) (ms : List Member) → members_ascend b ms ≡ true → is_member ms n k ≡ true → b < n
unfolding members_ascend
member_past b n k [] h e = absurd cc
member_past b n k (m ∷ ms) h e =
    let p = and_parts (nat_lt b m.node) (members_ascend m.node ms) h in
    by (m.node == n) refl (member_past m.node n k ms p.1) p.0 e
  where
    by : (t : Bool) → (m.node == n) ≡ t → (is_member ms n k ≡ true → m.node < n) → nat_lt b m.node ≡ true → ((t && m.inc == k) || is_member ms n k) ≡ true → b < n
    by true a old x f = let y : m.node ≡ n = equal m.node n a in let z : b < m.node = grind (arith, nat_tests) in omega (arith, y, z)
    by false a old x f = let z : b < m.node = grind (arith, nat_tests) in let y : m.node < n = old f in omega (arith, y, z)

pub member_inc : (b n k : ℕ) (ms : List Member) → members_ascend b ms ≡ true → is_member ms n k ≡ true → inc_in n ms ≡ k
unfolding members_ascend inc_in
member_inc b n k [] h e = absurd cc
member_inc b n k (m ∷ ms) h e =
    let p = and_parts (nat_lt b m.node) (members_ascend m.node ms) h in
    by (m.node == n) (m.inc == k) refl refl (member_inc m.node n k ms p.1) (member_past m.node n k ms p.1) e
  where
    by : (t s : Bool) → (m.node == n) ≡ t → (m.inc == k) ≡ s → (is_member ms n k ≡ true → inc_in n ms ≡ k) → (is_member ms n k ≡ true → m.node < n) → ((t && s) || is_member ms n k) ≡ true → (if t then m.inc else inc_in n ms) ≡ k
    by true true a c old past f = equal m.inc k c
    by true false a c old past f = absurd (let y : m.node ≡ n = equal m.node n a in let z : m.node < n = past f in omega (arith, y, z))
    by false s a c old past f = old f

-- where the node enters a view: it is above the one that it was in, and a member in its incarnation
module _ (n : ℕ) (u : ViewId) (ms : List Member) (ls : List Line) (fits : line_fits (line.In n u ms) ≡ true) (kept : holds rule.In (line.In n u ms) ls ≡ true) where
  pub ascends : members_ascend 0 ms ≡ true
  unfolding line_fits are_members
  ascends =
      let a = and_parts (is_node n) (is_view u && (members_ascend 0 ms && list_all is_member_line ms)) fits in
      let b = and_parts (is_view u) (members_ascend 0 ms && list_all is_member_line ms) a.1 in
      (and_parts (members_ascend 0 ms) (list_all is_member_line ms) b.1).0

  pub goes_up : is_above (view_of n ls) u ≡ true
  unfolding holds in_holds
  goes_up = (and_parts (is_above (view_of n ls) u) (is_own (inc_of n ls) n ms && if_some (members_of u ls) (all_same same_member ms)) kept).0

  pub own_inc : inc_of n ls ≡ Some (inc_in n ms)
  unfolding holds in_holds is_own
  own_inc =
      let a = and_parts (is_above (view_of n ls) u) (is_own (inc_of n ls) n ms && if_some (members_of u ls) (all_same same_member ms)) kept in
      let b = and_parts (is_own (inc_of n ls) n ms) (if_some (members_of u ls) (all_same same_member ms)) a.1 in
      by (inc_of n ls) b.0
    where
      by : (o : Option ℕ) → is_own o n ms ≡ true → o ≡ Some (inc_in n ms)
      by None e = absurd cc
      by (Some k) e = ap Some (sym (member_inc 0 n k ms ascends e))

-- an earlier start is of a lesser incarnation
pub starts_less : (n j : ℕ) (ls : List Line) (k : ℕ) → list_all (starts_below n j) ls ≡ true → inc_of n ls ≡ Some k → k < j
unfolding inc_of inc_after starts_below
starts_less n j [] k h e = absurd cc
starts_less n j (line.Up m i ∷ ls) k h e =
    let p = and_parts (not (m == n) || nat_lt i j) (list_all (starts_below n j) ls) h in
    by (m == n) p.0 (starts_less n j ls k p.1) e
  where
    by : (t : Bool) → (not t || nat_lt i j) ≡ true → (inc_of n ls ≡ Some k → k < j) → (if t then Some i else inc_of n ls) ≡ Some k → k < j
    by true x old f = let y : i ≡ k = cc in let z : i < j = grind (arith, nat_tests) in omega (arith, y, z)
    by false x old f = old f
starts_less n j (_ ∷ ls) k h e = starts_less n j ls k h e

no_start : (us : List ViewId) (j k : ℕ) (o : Option ℕ) → NotBefore us j o → ((i : ℕ) → o ≡ Some i → i < k) → NotBefore us j (Some k)
no_start [] j k o h less = tt
no_start (u ∷ us) j k None h less = absurd h
no_start (u ∷ us) j k (Some i) h less = let x : i < k = less i refl in omega (arith, h, x)

nothing_yet : (us : List ViewId) (j : ℕ) (o : Option ℕ) → NotBefore us j o → ((i : ℕ) → o ≡ Some i → i < j) → us ≡ []
nothing_yet [] j o h less = refl
nothing_yet (u ∷ us) j None h less = absurd h
nothing_yet (u ∷ us) j (Some i) h less = absurd (let x : i < j = less i refl in omega (arith, h, x))

-- the views that were entered in an incarnation, by the node's present one and the view that it is in
record IsCurrent (j : ℕ) (us : List ViewId) (inc : Option ℕ) (at : Option ViewId) : Type 0 where
  not_before : NotBefore us j inc
  at_most : inc ≡ Some j → AtMost at us

same_end : (us : List ViewId) (u : ViewId) (j : ℕ) → NotBefore (us ++ u ∷ []) j (Some j)
same_end [] u j = omega arith
same_end (x ∷ us) u j = omega arith

same_number : (a b : ℕ) → Some a ≡ Some b → a ≡ b
same_number a b e = cc

are_current : (m j : ℕ) (ls : List Line) → AllFit ls → Keep rule.Life ls → Keep rule.In ls → IsCurrent j (entered_in m j ls) (inc_of m ls) (view_of m ls)
unfolding entered_in inc_of inc_after view_of view_after holds
are_current m j [] f life into = record { not_before = tt; at_most = λ e. refl }
are_current m j (line.Up n i ∷ ls) f life into = by (n == m) refl (are_current m j ls f.1 life.1 into.1)
  where
    less : (n == m) ≡ true → (k : ℕ) → inc_of m ls ≡ Some k → k < i
    less a k e = starts_less n i ls k life.0 (ap (λ z. inc_of z ls) (equal n m a) ∙ e)

    by : (t : Bool) → (n == m) ≡ t → IsCurrent j (entered_in m j ls) (inc_of m ls) (view_of m ls) → IsCurrent j (entered_in m j ls) (if t then Some i else inc_of m ls) (if t then None else view_of m ls)
    by true a old =
        record {
          not_before = no_start (entered_in m j ls) j i (inc_of m ls) old.not_before (less a);
          at_most = λ e. nothing_yet (entered_in m j ls) j (inc_of m ls) old.not_before (λ k x. subst (λ z. k < z) (same_number i j e) (less a k x));
        }
    by false a old = old
are_current m j (line.In n u ms ∷ ls) f life into = by (n == m) (inc_in m ms == j) refl refl (are_current m j ls f.1 life.1 into.1)
  where
    own : (n == m) ≡ true → inc_of m ls ≡ Some (inc_in m ms)
    own a = let e : n ≡ m = equal n m a in subst (λ z. inc_of z ls ≡ Some (inc_in z ms)) e (own_inc n u ms ls f.0 into.0)

    up : (n == m) ≡ true → is_above (view_of m ls) u ≡ true
    up a = let e : n ≡ m = equal n m a in subst (λ z. is_above (view_of z ls) u ≡ true) e (goes_up n u ms ls f.0 into.0)

    by : (t s : Bool) → (n == m) ≡ t → (inc_in m ms == j) ≡ s → IsCurrent j (entered_in m j ls) (inc_of m ls) (view_of m ls) → IsCurrent j (with_view (t && s) u (entered_in m j ls)) (inc_of m ls) (if t then Some u else view_of m ls)
    by false s a b old = old
    by true true a b old =
        let now : inc_of m ls ≡ Some j = own a ∙ ap Some (equal (inc_in m ms) j b) in
        record {
          not_before = subst (λ o. NotBefore (entered_in m j ls ++ u ∷ []) j o) (sym now) (same_end (entered_in m j ls) u j);
          at_most = λ e. most_all u (entered_in m j ls) (above_all (view_of m ls) u (entered_in m j ls) (old.at_most now) (up a));
        }
    by true false a b old =
        record {
          not_before = old.not_before;
          at_most = λ e. absurd (let x : inc_in m ms ≡ j = same_number (inc_in m ms) j (sym (own a) ∙ e) in
              let y : (inc_in m ms == j) ≡ true = ap (λ z. z == j) x ∙ number_self j in
              let z : true ≡ false = sym y ∙ b in
              cc);
        }
are_current m j (_ ∷ ls) f life into = are_current m j ls f.1 life.1 into.1

-- ---- where a node came from

find_all : (p q : ViewId → Bool) (us : List ViewId) (t : ViewId) → list_all q us ≡ true → find p us ≡ Some t → q t ≡ true
find_all p q [] t h e = absurd cc
find_all p q (u ∷ us) t h e = let a = and_parts (q u) (list_all q us) h in by (p u) a.0 (find_all p q us t a.1) e
  where
    by : (s : Bool) → q u ≡ true → (find p us ≡ Some t → q t ≡ true) → (if s then Some u else find p us) ≡ Some t → q t ≡ true
    by true a old f = let same : u ≡ t = cc in ap q (sym same) ∙ a
    by false a old f = old f

all_join : (q : ViewId → Bool) (us ws : List ViewId) → list_all q us ≡ true → list_all q ws ≡ true → list_all q (us ++ ws) ≡ true
all_join q [] ws h k = k
all_join q (u ∷ us) ws h k = let a = and_parts (q u) (list_all q us) h in both (q u) (list_all q (us ++ ws)) a.0 (all_join q us ws a.1 k)

all_turned : (q : ViewId → Bool) (us : List ViewId) → list_all q us ≡ true → list_all q (reverse us) ≡ true
all_turned q [] h = refl
all_turned q (u ∷ us) h =
    let a = and_parts (q u) (list_all q us) h in
    ap (list_all q) (reverse-append (u ∷ []) us) ∙ all_join q (reverse us) (u ∷ []) (all_turned q us a.1) (both (q u) true a.0 refl)

from_end : (v u : ViewId) (us : List ViewId) → last_below v (us ++ u ∷ []) ≡ (if view_lt u v then Some u else last_below v us)
unfolding last_below
from_end v u us = ap (find (λ z. view_lt z v)) (reverse-append us (u ∷ []))

pub from_is : (m j : ℕ) (v : ViewId) (ls : List Line) → AllFit ls → Keep rule.Life ls → Keep rule.In ls → last_below v (entered_in m j ls) ≡ from_of m j v ls
unfolding entered_in from_of from_after greater last_below
from_is m j v [] f life into = refl
from_is m j v (line.In n u ms ∷ ls) f life into = by (n == m) (inc_in m ms == j) refl refl (from_is m j v ls f.1 life.1 into.1)
  where
    top : (o : Option ViewId) → ((t : ViewId) → o ≡ Some t → view_lt t u ≡ true) → Some u ≡ Some (greater u o)
    top None less = refl
    top (Some t) less = ap (λ b. Some (if b then u else t)) (sym (less t refl))

    by : (t s : Bool) → (n == m) ≡ t → (inc_in m ms == j) ≡ s → last_below v (entered_in m j ls) ≡ from_of m j v ls
        → last_below v (with_view (t && s) u (entered_in m j ls)) ≡ (if t && (s && view_lt u v) then Some (greater u (from_of m j v ls)) else from_of m j v ls)
    by false s a b old = old
    by true false a b old = old
    by true true a b old =
        let now : inc_of m ls ≡ Some j = subst (λ z. inc_of z ls ≡ Some (inc_in z ms)) (equal n m a) (own_inc n u ms ls f.0 into.0) ∙ ap Some (equal (inc_in m ms) j b) in
        let up : is_above (view_of m ls) u ≡ true = subst (λ z. is_above (view_of z ls) u ≡ true) (equal n m a) (goes_up n u ms ls f.0 into.0) in
        let below = above_all (view_of m ls) u (entered_in m j ls) ((are_current m j ls f.1 life.1 into.1).at_most now) up in
        from_end v u (entered_in m j ls)
        ∙ last (view_lt u v) (λ t e. find_all (λ z. view_lt z v) (λ z. view_lt z u) (reverse (entered_in m j ls)) t (all_turned (λ z. view_lt z u) (entered_in m j ls) below) (found t (old ∙ e))) old
      where
        found : (t : ViewId) → last_below v (entered_in m j ls) ≡ Some t → find (λ z. view_lt z v) (reverse (entered_in m j ls)) ≡ Some t
        found t e = e

        last : (c : Bool) → ((t : ViewId) → from_of m j v ls ≡ Some t → view_lt t u ≡ true) → last_below v (entered_in m j ls) ≡ from_of m j v ls
            → (if c then Some u else last_below v (entered_in m j ls)) ≡ (if true && (true && c) then Some (greater u (from_of m j v ls)) else from_of m j v ls)
        last true less old = top (from_of m j v ls) less
        last false less old = old
from_is m j v (_ ∷ ls) f life into = from_is m j v ls f.1 life.1 into.1

pub came_is : (es : List (IncKey × List ViewId)) (n j : ℕ) (v : ViewId) (ls : List Line) → AreComings ls es → AllFit ls → Keep rule.Life ls → Keep rule.In ls → came_from es n j v ≡ from_of n j v ls
unfolding came_from
came_is es n j v ls are f life into = ap (last_below v) (are (record { node = n; inc = j })) ∙ from_is n j v ls f life into
