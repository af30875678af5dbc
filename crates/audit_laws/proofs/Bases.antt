-- A base is what the old list comes to, and who leaves a view noted the bases there that others noted.
use Rattle.std.proofs.Common.{◌≡◌, ℕ, ◌≤◌, Bool, true, false, List, [], ◌∷◌, length, take, Option, Some, None, inl, inr, refl, sym, ◌∙◌, ap, subst, arith}
use Rattle.std.specs.Prelude.{◌==◌, ◌&&◌, not, filter, nat_le}
use Rattle.std.specs.List.{list_any, list_all}
use Rattle.std.specs.Str.{bytes_eq}
use Rattle.std.proofs.lemmas.Bool.{and_parts, eqb-true}
use Rattle.std.proofs.lemmas.Bool.Decides.{nat_tests}
use Rattle.rsct_packet.specs.declared.ids.Member.{Member}
use Rattle.rsct_packet.specs.declared.ids.ProviderId.{ProviderId}
use Rattle.rsct_packet.specs.declared.ids.ViewId.{ViewId}
use Rattle.rsct_packet.specs.Ids.{same_view, is_member}
use Rattle.rsct_packet.specs.Providers.{same_provider}
use Rattle.rsct_packet.specs.Search.{Has}
use Rattle.view_state.proofs.ViewOrder.{same_view_is}
use Rattle.proposal_core.specs.declared.group_state.GroupState.{GroupState}
use Rattle.proposal_core.specs.declared.group_state.Running.{Running}
use Rattle.proposal_core.specs.Fold.{present}
use Rattle.word_laws.specs.Values.{spaced}
use Rattle.record_lines.specs.declared.line.BaseLine.{BaseLine}
use Rattle.record_lines.specs.Writing.{base_words}
use Rattle.node_state.specs.declared.happened.Happened.{Happened}
use Rattle.node_state.specs.declared.happened.Happened.TheVariants as happened
use Rattle.run_safety.specs.Past as past
use Rattle.run_safety.proofs.Tests.{has_any}
use Rattle.run_laws.specs.seen_runs.Seen as seen
use Rattle.run_laws.specs.seen_runs.Seen.{Seen, SeenAt, BaseSeenAt, CutFrom}
use Rattle.line_laws.specs.Shown.{open_shown, base_shown}
use Rattle.run_audit.specs.declared.broken.Rule.TheVariants as rule
use Rattle.run_audit.specs.Past.{view_of, is_at, members_of, listed, from_of, puts_of, list_of, fold_from, base_of, base_state}
use Rattle.run_audit.specs.Table.{all_same, same_base, if_some, is_in, based_groups, same_groups, or_node, first_node, bases_agree, lives, same_open, shows_cut, base_holds, holds}
use Rattle.audit_laws.specs.Lines.{shown, lines}
use Rattle.audit_laws.specs.Records.{Keeps}
use Rattle.audit_laws.proofs.Lists.{puts_length, front, prefix_length}
use Rattle.audit_laws.proofs.Nodes.{at_view, view_is, view_was, members_are, from_same}
use Rattle.audit_laws.proofs.States.{base_was, bases_are, cut_state}
use Rattle.audit_laws.proofs.Tests.{both, all_equal, all_by, eq_self, view_self, text_self, provider_self, filter_alike}

-- ---- the cut

at_from : (u : ViewId) (o : Option ViewId) → is_at u o ≡ seen.is_from u o
unfolding is_at
at_from u None = refl
at_from u (Some t) = refl

lives_same : (v : ViewId) (ms : List Member) (u : ViewId) (rs : List Happened) (p : ProviderId) → lives v ms u (lines rs) p ≡ seen.lives rs v ms u p
unfolding lives
lives_same v ms u rs p = ap (λ z. is_member ms p.node p.inc && z) (ap (is_at u) (from_same p.node p.inc v rs) ∙ at_from u (seen.from_of p.node p.inc v rs))

open_self : (o : Option Running) → same_open (open_shown o) o ≡ true
unfolding same_open
open_self None = refl
open_self (Some run) = grind (arith, nat_tests)

base_self : (b : BaseLine) → same_base b b ≡ true
unfolding same_base
base_self b = text_self (spaced (base_words b))

module _ (n : ℕ) (v : ViewId) (g : List ℕ) (u : ViewId) (len : ℕ) (st : GroupState) (rs : List Happened) (s : Seen rs) (b : BaseSeenAt rs n v g u len st) where
  abbrev M : List Member
  M = listed (members_of v (lines rs))

  abbrev Old : GroupState
  Old = fold_from u (base_state u g (lines rs)) 0 (take len (list_of u g (lines rs)))

  abbrev F : GroupState
  F = past.fold_from u (past.base_of b.cut.node u g rs) 0 (take len (past.puts_of b.cut.node u g rs))

  old_is : Old ≡ F
  old_is = cut_state rs s (bases_are rs s) v b.members g u len st b.cut

  members : M ≡ b.members
  unfolding listed
  members = ap listed (members_are n v b.members rs s b.entered)

  came : list_any (λ (m : Member). is_at u (from_of m.node m.inc v (lines rs))) M ≡ true
  came =
      let x = b.cut.from in
      subst (λ z. list_any (λ (m : Member). is_at u (from_of m.node m.inc v (lines rs))) z ≡ true) (sym members)
      (has_any (λ (m : Member). is_at u (from_of m.node m.inc v (lines rs))) b.members x.0 x.1 (at_view u (from_of x.0.node x.0.inc v (lines rs)) (from_same x.0.node x.0.inc v rs ∙ x.2)))

  reaches : nat_le len (length (list_of u g (lines rs))) ≡ true
  reaches =
      let a : len ≤ length (past.puts_of b.cut.node u g rs) = b.cut.reaches in
      let c : length (puts_of b.cut.node u g (lines rs)) ≡ length (past.puts_of b.cut.node u g rs) = puts_length b.cut.node u g rs in
      let d : length (puts_of b.cut.node u g (lines rs)) ≤ length (list_of u g (lines rs)) = prefix_length (puts_of b.cut.node u g (lines rs)) (list_of u g (lines rs)) (front b.cut.node u g rs s) in
      let e : len ≤ length (list_of u g (lines rs)) = omega (arith, a, c, d) in
      grind (arith, nat_tests)

  failed : st.failed ≡ filter (λ p. not (lives v M u (lines rs) p)) (present Old)
  failed =
      let a : st ≡ seen.marked rs v b.members u F = b.cut.state in
      let c : st.failed ≡ filter (λ p. not (seen.lives rs v b.members u p)) (present F) = ap (λ (x : GroupState). x.failed) a in
      c
      ∙ (filter_alike (λ p. not (seen.lives rs v b.members u p)) (λ p. not (lives v b.members u (lines rs) p)) (λ p. ap not (sym (lives_same v b.members u rs p))) (present F)
      ∙ (λ i. filter (λ p. not (lives v (sym members i) u (lines rs) p)) (present (sym old_is i))))

  cut_shown : shows_cut v M (base_shown u len st) Old (lines rs) ≡ true
  unfolding shows_cut
  cut_shown =
      let a : st ≡ seen.marked rs v b.members u F = b.cut.state in
      let ms : st.members ≡ Old.members = ap (λ (x : GroupState). x.members) a ∙ ap (λ (x : GroupState). x.members) (sym old_is) in
      let value : st.value ≡ Old.value = ap (λ (x : GroupState). x.value) a ∙ ap (λ (x : GroupState). x.value) (sym old_is) in
      let run : st.running ≡ Old.running = ap (λ (x : GroupState). x.running) a ∙ ap (λ (x : GroupState). x.running) (sym old_is) in
      both (all_same same_provider st.members Old.members)
      (bytes_eq st.value Old.value && (same_open (open_shown st.running) Old.running && all_same same_provider st.failed (filter (λ p. not (lives v M u (lines rs) p)) (present Old))))
      (all_equal same_provider provider_self st.members Old.members ms)
      (both (bytes_eq st.value Old.value) (same_open (open_shown st.running) Old.running && all_same same_provider st.failed (filter (λ p. not (lives v M u (lines rs) p)) (present Old)))
      (subst (λ z. bytes_eq st.value z ≡ true) value (text_self st.value))
      (both (same_open (open_shown st.running) Old.running) (all_same same_provider st.failed (filter (λ p. not (lives v M u (lines rs) p)) (present Old)))
      (subst (λ z. same_open (open_shown st.running) z ≡ true) run (open_self st.running))
      (all_equal same_provider provider_self st.failed (filter (λ p. not (lives v M u (lines rs) p)) (present Old)) failed)))

  only : if_some (base_of v g (lines rs)) (same_base (base_shown u len st)) ≡ true
  unfolding if_some
  only = by (base_of v g (lines rs)) refl
    where
      by : (o : Option BaseLine) → base_of v g (lines rs) ≡ o → if_some o (same_base (base_shown u len st)) ≡ true
      by None e = refl
      by (Some c) e =
          let w = base_was v g c rs e in
          let z = b.same w.node w.old w.len w.state w.there in
          let is : c ≡ base_shown u len st = w.is ∙ (λ i. base_shown (z.0 i) (z.1 i) (z.2 i)) in
          subst (λ x. same_base (base_shown u len st) x ≡ true) (sym is) (base_self (base_shown u len st))

  base_kept : past.view_now n rs ≡ Some v → base_holds n v g (base_shown u len st) (lines rs) ≡ true
  unfolding base_holds
  base_kept here =
      both (is_at v (view_of n (lines rs)))
      (list_any (λ (m : Member). is_at u (from_of m.node m.inc v (lines rs))) M && (nat_le len (length (list_of u g (lines rs))) && (shows_cut v M (base_shown u len st) Old (lines rs) && if_some (base_of v g (lines rs)) (same_base (base_shown u len st)))))
      (at_view v (view_of n (lines rs)) (view_is n v rs here))
      (both (list_any (λ (m : Member). is_at u (from_of m.node m.inc v (lines rs))) M) (nat_le len (length (list_of u g (lines rs))) && (shows_cut v M (base_shown u len st) Old (lines rs) && if_some (base_of v g (lines rs)) (same_base (base_shown u len st)))) came
      (both (nat_le len (length (list_of u g (lines rs)))) (shows_cut v M (base_shown u len st) Old (lines rs) && if_some (base_of v g (lines rs)) (same_base (base_shown u len st))) reaches
      (both (shows_cut v M (base_shown u len st) Old (lines rs)) (if_some (base_of v g (lines rs)) (same_base (base_shown u len st))) cut_shown only)))

pub bases_kept : Keeps rule.Base
unfolding holds shown
bases_kept (happened.Base n v g u len st) rs k = base_kept n v g u len st rs k.seen.1 k.seen.0.base k.in_turn.0.0
bases_kept _ rs k = refl

-- ---- who noted which

-- the node noted a base of the group in the view
pub record Based (n : ℕ) (u : ViewId) (g : List ℕ) (rs : List Happened) : Type 0 where
  pub old : ViewId
  pub len : ℕ
  pub state : GroupState
  pub there : Has (happened.Base n u g old len state) rs

based_later : (n : ℕ) (u : ViewId) (g : List ℕ) (r : Happened) (rs : List Happened) → Based n u g rs → Based n u g (r ∷ rs)
based_later n u g r rs k = record { old = k.old; len = k.len; state = k.state; there = inr k.there }

based_was : (n : ℕ) (u : ViewId) (g : List ℕ) (rs : List Happened) → Has g (based_groups n u (lines rs)) → Based n u g rs
unfolding lines shown based_groups
based_was n u g [] h = absurd h
based_was n u g (happened.Base m v w old len s ∷ rs) h = by (m == n && same_view v u) refl h (based_was n u g rs)
  where
    by : (t : Bool) → (m == n && same_view v u) ≡ t → Has g (elim t [ true ↦ w ∷ based_groups n u (lines rs) | false ↦ based_groups n u (lines rs) ]) → (Has g (based_groups n u (lines rs)) → Based n u g rs) → Based n u g (happened.Base m v w old len s ∷ rs)
    by true f (inl e) more =
        let p = and_parts (m == n) (same_view v u) f in
        let a : m ≡ n = eqb-true m n p.0 in
        let b : v ≡ u = same_view_is v u p.1 in
        record { old = old; len = len; state = s; there = inl (λ i. happened.Base (sym a i) (sym b i) (e i) old len s) }
    by true f (inr k) more = based_later n u g (happened.Base m v w old len s) rs (more k)
    by false f k more = based_later n u g (happened.Base m v w old len s) rs (more k)
based_was n u g (r ∷ rs) h = based_later n u g r rs (based_was n u g rs h)

based_there : (n : ℕ) (u : ViewId) (g : List ℕ) (t : ViewId) (k : ℕ) (x : GroupState) (rs : List Happened) → Has (happened.Base n u g t k x) rs → Has g (based_groups n u (lines rs))
unfolding lines shown based_groups
based_there n u g t k x [] h = absurd h
based_there n u g t k x (happened.Base m v w old len s ∷ rs) (inl e) =
    let a : n ≡ m = cc in
    let b : u ≡ v = cc in
    let c : g ≡ w = cc in
    subst (λ z. Has g (elim z [ true ↦ w ∷ based_groups n u (lines rs) | false ↦ based_groups n u (lines rs) ])) (sym ((λ i. sym a i == n && same_view (sym b i) u) ∙ both (n == n) (same_view u u) (eq_self n) (view_self u))) (inl c)
based_there n u g t k x (happened.Base m v w old len s ∷ rs) (inr h) = by (m == n && same_view v u) (based_there n u g t k x rs h)
  where
    by : (f : Bool) → Has g (based_groups n u (lines rs)) → Has g (elim f [ true ↦ w ∷ based_groups n u (lines rs) | false ↦ based_groups n u (lines rs) ])
    by true y = inr y
    by false y = y
based_there n u g t k x (_ ∷ rs) (inl e) = absurd cc
based_there n u g t k x (_ ∷ rs) (inr h) = based_there n u g t k x rs h

-- the node entered the view
pub record WasIn (n : ℕ) (u : ViewId) (rs : List Happened) : Type 0 where
  pub members : List Member
  pub there : Has (happened.In n u members) rs

first_was : (n : ℕ) (u : ViewId) (rs : List Happened) → first_node u (lines rs) ≡ Some n → WasIn n u rs
unfolding lines shown first_node or_node
first_was n u [] e = absurd cc
first_was n u (happened.In m v ms ∷ rs) e = by (same_view v u) refl (first_node u (lines rs)) e (first_was n u rs)
  where
    more : WasIn n u rs → WasIn n u (happened.In m v ms ∷ rs)
    more k = record { members = k.members; there = inr k.there }

    by : (t : Bool) → same_view v u ≡ t → (o : Option ℕ) → elim t [ true ↦ or_node o m | false ↦ o ] ≡ Some n → (o ≡ Some n → WasIn n u rs) → WasIn n u (happened.In m v ms ∷ rs)
    by true f None h old =
        let a : m ≡ n = cc in
        let b : v ≡ u = same_view_is v u f in
        record { members = ms; there = inl (λ i. happened.In (sym a i) (sym b i) ms) }
    by true f (Some x) h old = more (old h)
    by false f o h old = more (old h)
first_was n u (r ∷ rs) e = let k = first_was n u rs e in record { members = k.members; there = inr k.there }

any_same : (g : List ℕ) (hs : List (List ℕ)) → Has g hs → is_in bytes_eq hs g ≡ true
unfolding is_in
any_same g hs h = has_any (bytes_eq g) hs g h (text_self g)

both_noted : (n m : ℕ) (w : ViewId) (ms : List Member) (u : ViewId) (rs : List Happened) → SeenAt rs (happened.In n w ms) → (a b : ℕ) → WasIn a u rs → WasIn b u rs → list_all (is_in bytes_eq (based_groups b u (lines rs))) (based_groups a u (lines rs)) ≡ true
both_noted n m w ms u rs at a b x y =
    all_by (is_in bytes_eq (based_groups b u (lines rs))) (based_groups a u (lines rs))
    (λ g h. let z = based_was a u g rs h in any_same g (based_groups b u (lines rs)) (based_there b u g z.old z.len z.state rs (at.bases a b u x.members y.members g z.old z.len z.state x.there y.there z.there)))

agree : (n : ℕ) (w : ViewId) (ms : List Member) (rs : List Happened) → Seen rs → SeenAt rs (happened.In n w ms) → bases_agree n (view_of n (lines rs)) (lines rs) ≡ true
unfolding if_some same_groups bases_agree
agree n w ms rs s at = by (view_of n (lines rs)) refl
  where
    first : (u : ViewId) → WasIn n u rs → (o : Option ℕ) → first_node u (lines rs) ≡ o → if_some o (λ m. same_groups (based_groups n u (lines rs)) (based_groups m u (lines rs))) ≡ true
    first u x None e = refl
    first u x (Some m) e =
        let y = first_was m u rs e in
        both (list_all (is_in bytes_eq (based_groups m u (lines rs))) (based_groups n u (lines rs))) (list_all (is_in bytes_eq (based_groups n u (lines rs))) (based_groups m u (lines rs))) (both_noted n m w ms u rs at n m x y) (both_noted n m w ms u rs at m n y x)

    by : (o : Option ViewId) → view_of n (lines rs) ≡ o → bases_agree n o (lines rs) ≡ true
    by None e = refl
    by (Some u) e = let k = view_was n u rs s e in first u (record { members = k.members; there = k.there }) (first_node u (lines rs)) refl

pub bases_agreed : Keeps rule.Bases
unfolding holds shown
bases_agreed (happened.In n v ms) rs k = agree n v ms rs k.seen.1 k.seen.0
bases_agreed _ rs k = refl
