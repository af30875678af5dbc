-- Who enters a view leaves the one before with the same lists as each who came from there.
use Rattle.std.proofs.Common.{◌≡◌, ⊎_elim, ℕ, ◌+◌, Bool, true, false, List, [], ◌∷◌, ◌++◌, length, Option, Some, None, inl, inr, refl, sym, ◌∙◌, ap, subst}
use Rattle.std.specs.Prelude.{◌==◌, ◌&&◌, not, map, is_none, if◌then◌else◌}
use Rattle.std.proofs.lemmas.Bool.{and_parts, eqb-true}
use Rattle.rsct_packet.specs.declared.ids.Member.{Member}
use Rattle.rsct_packet.specs.declared.ids.ViewId.{ViewId}
use Rattle.rsct_packet.specs.Ids.{same_view, view_lt}
use Rattle.rsct_packet.specs.Search.{Has}
use Rattle.rsct_packet.proofs.HasLaws.{has_append}
use Rattle.view_state.proofs.ViewOrder.{not_before_itself, not_before_and_after, same_view_is}
use Rattle.proposal_core.specs.declared.entry.Entry.{Entry}
use Rattle.entry_words.specs.Wording.{entry_text}
use Rattle.node_state.specs.declared.happened.Happened.{Happened}
use Rattle.node_state.specs.declared.happened.Happened.TheVariants as happened
use Rattle.run_safety.specs.Past as past
use Rattle.run_safety.specs.Sight as sight
use Rattle.run_safety.specs.ViewOrder.{is_before}
use Rattle.run_laws.specs.seen_runs.Seen as seen
use Rattle.run_laws.specs.seen_runs.Seen.{Seen, SeenAt}
use Rattle.line_laws.specs.Shown.{entry_shown}
use Rattle.run_audit.specs.declared.broken.Rule.TheVariants as rule
use Rattle.run_audit.specs.Past.{view_of, is_at, puts_of}
use Rattle.run_audit.specs.Table.{all_same, same_entry, Leaver, leavers, groups_put, same_lists, parts_from, who_parts, holds}
use Rattle.audit_laws.specs.Lines.{shown, lines}
use Rattle.audit_laws.specs.Records.{OfRun, Keeps}
use Rattle.audit_laws.proofs.Nodes.{view_at, from_view}
use Rattle.audit_laws.proofs.Enters.{goes_up}
use Rattle.audit_laws.proofs.Lists.{puts_are}
use Rattle.audit_laws.proofs.Tests.{all_equal, all_by, found_none, and_not, text_self}

-- the node entered v from u
pub record Left (v u : ViewId) (x : Leaver) (rs : List Happened) : Type 0 where
  pub members : List Member
  pub there : Has (happened.In x.node v members) rs
  pub from : seen.from_of x.node (sight.inc_in x.node members) v rs ≡ Some u

-- where it came from does not change, since it enters greater views from then on
stays_from : (m j : ℕ) (v u : ViewId) (ms : List Member) (r : Happened) (rs : List Happened) → SeenAt rs r → Has (happened.In m v ms) rs → sight.inc_in m ms ≡ j → seen.from_of m j v rs ≡ Some u → seen.from_of m j v (r ∷ rs) ≡ Some u
unfolding is_before
stays_from m j v u ms (happened.In n w os) rs s h c e = by (n == m && (sight.inc_in m os == j && view_lt w v)) refl
  where
    by : (t : Bool) → (n == m && (sight.inc_in m os == j && view_lt w v)) ≡ t → (if t then Some (seen.greater w (seen.from_of m j v rs)) else seen.from_of m j v rs) ≡ Some u
    by true f =
        let p = and_parts (n == m) (sight.inc_in m os == j && view_lt w v) f in
        let q = and_parts (sight.inc_in m os == j) (view_lt w v) p.1 in
        let a : n ≡ m = eqb-true n m p.0 in
        let b : sight.inc_in m os ≡ j = eqb-true (sight.inc_in m os) j q.0 in
        let up : view_lt v w ≡ true = s.rises v ms (subst (λ z. Has (happened.In z v ms) rs) (sym a) h) (subst (λ z. sight.inc_in z ms ≡ sight.inc_in z os) (sym a) (c ∙ sym b)) in
        let no : view_lt w v ≡ false = not_before_and_after v w up in
        absurd (let z : true ≡ false = sym q.1 ∙ no in cc)
    by false f = e
stays_from m j v u ms _ rs s h c e = e

left_later : (v u : ViewId) (x : Leaver) (r : Happened) (rs : List Happened) → SeenAt rs r → Left v u x rs → Left v u x (r ∷ rs)
left_later v u x r rs s k = record { members = k.members; there = inr k.there; from = stays_from x.node (sight.inc_in x.node k.members) v u k.members r rs s k.there refl k.from }

-- one who enters it now
left_now : (m : ℕ) (w v u : ViewId) (ms : List Member) (number : ℕ) (rs : List Happened) → Seen rs → SeenAt rs (happened.In m w ms) → w ≡ v → view_of m (lines rs) ≡ Some u → Left v u (record { node = m; no = number }) (happened.In m w ms ∷ rs)
left_now m w v u ms number rs s at a e =
    record {
      members = ms;
      there = inl (λ i. happened.In m (sym a i) ms);
      from = subst (λ z. seen.from_of m (sight.inc_in m ms) z (happened.In m w ms ∷ rs) ≡ Some u) a here;
    }
  where
    there : seen.from_of m (sight.inc_in m ms) w rs ≡ Some u
    there = subst (λ j. seen.from_of m j w rs ≡ Some u) (sym at.started.1) (from_view m u w rs s e (goes_up m w ms rs s at u e))

    here : (if m == m && (sight.inc_in m ms == sight.inc_in m ms && view_lt w w) then Some (seen.greater w (seen.from_of m (sight.inc_in m ms) w rs)) else seen.from_of m (sight.inc_in m ms) w rs) ≡ Some u
    here = ap (λ b. if b then Some (seen.greater w (seen.from_of m (sight.inc_in m ms) w rs)) else seen.from_of m (sight.inc_in m ms) w rs) (neither (m == m) (sight.inc_in m ms == sight.inc_in m ms) (view_lt w w) (not_before_itself w)) ∙ there
      where
        neither : (a b c : Bool) → c ≡ false → (a && (b && c)) ≡ false
        neither true true c e = e
        neither true false c e = refl
        neither false b c e = refl

pub left : (v u : ViewId) (x : Leaver) (rs : List Happened) → Seen rs → Has x (leavers v u (lines rs)) → Left v u x rs
unfolding lines shown leavers
left v u x [] s h = absurd h
left v u x (happened.In m w ms ∷ rs) s h = by (same_view w v && is_at u (view_of m (lines rs))) refl h (λ k. left_later v u x (happened.In m w ms) rs s.0 (left v u x rs s.1 k))
  where
    its : Leaver
    its = record { node = m; no = length (lines rs) + 1 }

    by : (t : Bool) → (same_view w v && is_at u (view_of m (lines rs))) ≡ t → Has x (elim t [ true ↦ leavers v u (lines rs) ++ its ∷ [] | false ↦ leavers v u (lines rs) ]) → (Has x (leavers v u (lines rs)) → Left v u x (happened.In m w ms ∷ rs)) → Left v u x (happened.In m w ms ∷ rs)
    by false f k old = old k
    by true f k old =
        let p = and_parts (same_view w v) (is_at u (view_of m (lines rs))) f in
        let now : Left v u its (happened.In m w ms ∷ rs) = left_now m w v u ms (length (lines rs) + 1) rs s.1 s.0 (same_view_is w v p.0) (view_at u (view_of m (lines rs)) p.1) in
        ⊎_elim old (λ (y : Has x (its ∷ [])). one y now) (has_append x (leavers v u (lines rs)) (its ∷ []) k)
      where
        one : Has x (its ∷ []) → Left v u its (happened.In m w ms ∷ rs) → Left v u x (happened.In m w ms ∷ rs)
        one (inl e) l = subst (λ z. Left v u z (happened.In m w ms ∷ rs)) (sym e) l
        one (inr e) l = absurd e
left v u x (r ∷ rs) s h = left_later v u x r rs s.0 (left v u x rs s.1 h)

entry_self : (e : Entry) → same_entry e e ≡ true
unfolding same_entry
entry_self e = text_self (entry_text e)

alike : (n m : ℕ) (u : ViewId) (rs : List Happened) → ((g : List ℕ) → past.puts_of n u g rs ≡ past.puts_of m u g rs) → same_lists n m u (lines rs) ≡ true
unfolding same_lists
alike n m u rs h =
    all_by (λ g. all_same same_entry (puts_of n u g (lines rs)) (puts_of m u g (lines rs))) (groups_put u (lines rs))
    (λ g k. all_equal same_entry entry_self (puts_of n u g (lines rs)) (puts_of m u g (lines rs)) (puts_are n u g rs ∙ (ap (map entry_shown) (h g) ∙ sym (puts_are m u g rs))))

together : (n : ℕ) (v : ViewId) (ms : List Member) (rs : List Happened) → OfRun (happened.In n v ms ∷ rs) → (u : ViewId) → view_of n (lines rs) ≡ Some u → (x : Leaver) → Left v u x rs → same_lists n x.node u (lines rs) ≡ true
together n v ms rs k u e x l =
    let at = k.seen.0 in
    let same : l.members ≡ ms = at.members x.node l.members l.there in
    let there : Has (happened.In x.node v ms) rs = subst (λ z. Has (happened.In x.node v z) rs) same l.there in
    let from : seen.from_of x.node (sight.inc_in x.node ms) v rs ≡ Some u = subst (λ z. seen.from_of x.node (sight.inc_in x.node z) v rs ≡ Some u) same l.from in
    let mine : seen.from_of n (sight.inc_in n ms) v rs ≡ Some u = subst (λ j. seen.from_of n j v rs ≡ Some u) (sym at.started.1) (from_view n u v rs k.seen.1 e (goes_up n v ms rs k.seen.1 at u e)) in
    alike n x.node u rs (λ g. at.together x.node u g there from mine)

nobody_parts : (n : ℕ) (v : ViewId) (ms : List Member) (rs : List Happened) → OfRun (happened.In n v ms ∷ rs) → is_none (who_parts n v (view_of n (lines rs)) (lines rs)) ≡ true
unfolding who_parts parts_from
nobody_parts n v ms rs k = by (view_of n (lines rs)) refl
  where
    by : (o : Option ViewId) → view_of n (lines rs) ≡ o → is_none (who_parts n v o (lines rs)) ≡ true
    by None e = refl
    by (Some u) e =
        found_none (parts_from n u (lines rs)) (leavers v u (lines rs))
        (λ x h. and_not (not (x.node == n)) (same_lists n x.node u (lines rs)) (together n v ms rs k u e x (left v u x rs k.seen.1 h)))

pub passing_kept : Keeps rule.Pass
unfolding holds shown
passing_kept (happened.In n v ms) rs k = nobody_parts n v ms rs k
passing_kept _ rs k = refl
