-- What a provider hears is what its node put last, in turn, with the members and the value that the node's list makes of its base.
use Rattle.std.proofs.Common.{◌≡◌, ℕ, ◌+◌, Bool, true, false, List, [], ◌∷◌, length, take, Option, Some, None, inl, inr, refl, sym, ◌∙◌, ap, subst, arith}
use Rattle.std.specs.Prelude.{◌==◌, ◌&&◌, slice_get, IsTrue, if◌then◌else◌}
use Rattle.std.specs.Str.{bytes_eq}
use Rattle.std.proofs.Math.Seq.{take-length}
use Rattle.std.proofs.lemmas.Bool.{and_parts, eqb-true}
use Rattle.rsct_packet.specs.declared.ids.ProviderId.{ProviderId}
use Rattle.rsct_packet.specs.declared.ids.ViewId.{ViewId}
use Rattle.rsct_packet.specs.Ids.{same_view}
use Rattle.rsct_packet.specs.Providers.{same_provider}
use Rattle.rsct_packet.specs.Search.{Has}
use Rattle.view_state.proofs.ViewOrder.{same_view_is}
use Rattle.proposal_core.specs.declared.entry.Entry.{Entry}
use Rattle.proposal_core.specs.declared.entry.Entry.TheVariants as entry
use Rattle.proposal_core.specs.declared.group_state.GroupState.{GroupState}
use Rattle.record_lines.specs.declared.line.What.{What}
use Rattle.record_lines.specs.Writing.{what_name}
use Rattle.node_state.specs.declared.happened.Happened.{Happened}
use Rattle.node_state.specs.declared.happened.Happened.TheVariants as happened
use Rattle.run_safety.specs.Past as past
use Rattle.run_safety.specs.SafeHeard.{latest_put, heard_count, is_after}
use Rattle.run_safety.specs.Stays as stay
use Rattle.row_laws.specs.hearing.Hearing as hearing
use Rattle.provider_laws.specs.attending.Places.{IsNext}
use Rattle.line_laws.specs.Shown.{entry_shown, what_shown}
use Rattle.run_audit.specs.declared.broken.Rule.TheVariants as rule
use Rattle.run_audit.specs.Past.{is_list, puts_of, state_of, Part, part_of, from_first, up_to_last, takes_part, heard_after, last_heard}
use Rattle.run_audit.specs.Table.{all_same, what_of, same_what, last_is, is_next, heard_holds, holds}
use Rattle.run_audit.proofs.ListLaws.{text_same}
use Rattle.audit_laws.specs.Lines.{shown, lines}
use Rattle.audit_laws.specs.Records.{OfRun, Keeps}
use Rattle.audit_laws.proofs.Casts.{IsLast, map_get}
use Rattle.audit_laws.proofs.Casts as casts
use Rattle.audit_laws.proofs.Lists.{puts_are, puts_length}
use Rattle.audit_laws.proofs.Past.{older}
use Rattle.audit_laws.proofs.States.{Knows, state_is}
use Rattle.audit_laws.proofs.Stays.{SamePart, part_is}
use Rattle.audit_laws.proofs.Tests.{both, all_equal, eq_self, text_self, provider_self}

-- ---- who hears of a list knows its base

-- the node put that
latest_there : (n : ℕ) (v : ViewId) (g : List ℕ) (i : ℕ) (e : Entry) (rs : List Happened) → latest_put n v g rs ≡ Some (i, e) → Has (happened.Put n v g i e) rs
latest_there n v g i e [] q = absurd cc
latest_there n v g i e (happened.Put m u h k f ∷ rs) q = by (past.is_list n v g m u h) refl q (latest_there n v g i e rs)
  where
    by : (b : Bool) → past.is_list n v g m u h ≡ b → (if b then Some (k, f) else latest_put n v g rs) ≡ Some (i, e) → (latest_put n v g rs ≡ Some (i, e) → Has (happened.Put n v g i e) rs) → Has (happened.Put n v g i e) (happened.Put m u h k f ∷ rs)
    by false t q old = inr (old q)
    by true t q old =
        let p = and_parts (m == n) (same_view u v && bytes_eq h g) t in
        let z = and_parts (same_view u v) (bytes_eq h g) p.1 in
        let a : m ≡ n = eqb-true m n p.0 in
        let b : u ≡ v = same_view_is u v z.0 in
        let c : h ≡ g = text_same h g z.1 in
        let mine : ℕ × Entry = (k, f) in
        let its : ℕ × Entry = (i, e) in
        let same : mine ≡ its = cc in
        inl (λ j. happened.Put (sym a j) (sym b j) (sym c j) (sym same j).0 (sym same j).1)
latest_there n v g i e (_ ∷ rs) q = inr (latest_there n v g i e rs q)

hearer_knows : (p : ProviderId) (v : ViewId) (g : List ℕ) (i : ℕ) (e : Entry) (ms : List ProviderId) (value : List ℕ) (rs : List Happened) → OfRun (happened.Heard p v g i e ms value ∷ rs) → Knows p.node v g rs
hearer_knows p v g i e ms value rs k m t len x h = at (k.known p.node m v g i e t len x (inr (latest_there p.node v g i e rs k.seen.0.heard.0)) (inr h))
  where
    at : Has (happened.Base p.node v g t len x) (happened.Heard p v g i e ms value ∷ rs) → Has (happened.Base p.node v g t len x) rs
    at (inl q) = absurd cc
    at (inr q) = q

-- ---- it stands last in the list

what_same : (e : Entry) → what_of (entry_shown e) ≡ what_shown e
unfolding what_of
what_same (entry.Once x) = refl
what_same (entry.Begin x) = refl
what_same (entry.Phase c) = refl
what_same (entry.Approve c) = refl
what_same (entry.Reject c) = refl
what_same (entry.Late proto phase ps) = refl

what_self : (w : What) → same_what w w ≡ true
unfolding same_what
what_self w = text_self (what_name w)

last_there : (n : ℕ) (v : ViewId) (g : List ℕ) (i : ℕ) (e : Entry) (rs : List Happened) → IsLast (past.puts_of n v g rs) i e → last_is (puts_of n v g (lines rs)) i (what_shown e) ≡ true
unfolding last_is
last_there n v g i e rs l =
    both (length (puts_of n v g (lines rs)) == i + 1) (elim (slice_get (puts_of n v g (lines rs)) i) [ None ↦ false | Some f ↦ same_what (what_of f) (what_shown e) ])
    (ap (λ z. z == i + 1) (puts_length n v g rs ∙ l.end) ∙ eq_self (i + 1))
    (ap (λ (o : Option Entry). elim o [ None ↦ false | Some f ↦ same_what (what_of f) (what_shown e) ]) (ap (λ z. slice_get z i) (puts_are n v g rs) ∙ map_get entry_shown (past.puts_of n v g rs) i e l.there)
    ∙ (ap (λ w. same_what w (what_shown e)) (what_same e) ∙ what_self (what_shown e)))

-- ---- in turn

heard_same : (p : ProviderId) (v : ViewId) (g : List ℕ) (rs : List Happened) → last_heard p v g (lines rs) ≡ hearing.last_heard p v g rs
unfolding lines shown last_heard heard_after is_list
heard_same p v g [] = refl
heard_same p v g (happened.Heard q u h i e ms value ∷ rs) = ap (λ z. if same_provider q p && (same_view u v && bytes_eq h g) then Some i else z) (heard_same p v g rs)
heard_same p v g (_ ∷ rs) = heard_same p v g rs

none_heard : (p : ProviderId) (v : ViewId) (g : List ℕ) (rs : List Happened) → hearing.last_heard p v g rs ≡ None → heard_count p v g rs ≡ 0
none_heard p v g [] e = refl
none_heard p v g (happened.Heard q u h i x ms value ∷ rs) e = by (same_provider q p && (same_view u v && bytes_eq h g)) e (none_heard p v g rs)
  where
    by : (t : Bool) → (if t then Some i else hearing.last_heard p v g rs) ≡ None → (hearing.last_heard p v g rs ≡ None → heard_count p v g rs ≡ 0) → (if t then heard_count p v g rs + 1 else heard_count p v g rs) ≡ 0
    by true q old = absurd cc
    by false q old = old q
none_heard p v g (_ ∷ rs) e = none_heard p v g rs e

first_is : (count : ℕ) (o : Option ℕ) (i : ℕ) → count ≡ 0 → IsTrue (is_after count o i) → elim o [ None ↦ false | Some first ↦ first == i ] ≡ true
first_is count None i z k = absurd cc
first_is count (Some first) i z k =
    let a : i ≡ first + count = eqb-true i (first + count) k in
    let b : first ≡ i = omega (arith, a, z) in
    subst (λ w. (first == w) ≡ true) b (eq_self first)

next_is : (p : ProviderId) (v : ViewId) (g : List ℕ) (i : ℕ) (e : Entry) (x : stay.Part) (y : Part) (rs : List Happened) → SamePart x y → IsTrue (is_after (heard_count p v g rs) x.first i) → IsNext p e (hearing.last_heard p v g rs) i → is_next y (hearing.last_heard p v g rs) i ≡ true
unfolding is_next
next_is p v g i e x y rs same order next = by (hearing.last_heard p v g rs) refl next
  where
    by : (o : Option ℕ) → hearing.last_heard p v g rs ≡ o → IsNext p e o i → is_next y o i ≡ true
    by None q n = ap (λ o. elim o [ None ↦ false | Some first ↦ first == i ]) same.first ∙ first_is (heard_count p v g rs) x.first i (none_heard p v g rs q) order
    by (Some j) q n = subst (λ z. (i == z) ≡ true) n (eq_self i)

takes_same : (i : ℕ) (x : stay.Part) (y : Part) → SamePart x y → takes_part i y ≡ stay.takes_part i x
unfolding takes_part from_first up_to_last
takes_same i x y k = (λ j. from_first i (k.first j) && up_to_last i (k.last j)) ∙ (λ j. from_same x.first j && to_same x.last j)
  where
    from_same : (o : Option ℕ) → from_first i o ≡ stay.from_first i o
    from_same None = refl
    from_same (Some first) = refl

    to_same : (o : Option ℕ) → up_to_last i o ≡ stay.up_to_last i o
    to_same None = refl
    to_same (Some last) = refl

-- ---- all of it

module _ (p : ProviderId) (v : ViewId) (g : List ℕ) (i : ℕ) (e : Entry) (ms : List ProviderId) (value : List ℕ) (rs : List Happened) (k : OfRun (happened.Heard p v g i e ms value ∷ rs)) where
  knows : Knows p.node v g rs
  knows = hearer_knows p v g i e ms value rs k

  last : IsLast (past.puts_of p.node v g rs) i e
  last = casts.last_is p.node v g i e rs k.seen.1 k.seen.0.heard.0

  state : state_of p.node v g (lines rs) ≡ past.state_at p.node v g (i + 1) rs
  state = state_is rs k.seen.1 p.node v g knows ∙ ap (past.fold_from v (past.base_of p.node v g rs) 0) (sym (ap (λ z. take z (past.puts_of p.node v g rs)) (sym last.end) ∙ take-length (past.puts_of p.node v g rs)))

  same : SamePart (stay.part p (stay.stays p.node g rs)) (part_of p v g (lines rs))
  same = part_is p v g rs (older (happened.Heard p v g i e ms value) rs k) k.seen.0.heard.2.0 knows

  heard_kept : heard_holds p v g i (what_shown e) ms value (lines rs) ≡ true
  unfolding heard_holds
  heard_kept =
      let s : GroupState = state_of p.node v g (lines rs) in
      let x : Part = part_of p v g (lines rs) in
      both (last_is (puts_of p.node v g (lines rs)) i (what_shown e)) (all_same same_provider ms s.members && (bytes_eq value s.value && (takes_part i x && is_next x (last_heard p v g (lines rs)) i))) (last_there p.node v g i e rs last)
      (both (all_same same_provider ms s.members) (bytes_eq value s.value && (takes_part i x && is_next x (last_heard p v g (lines rs)) i))
      (all_equal same_provider provider_self ms s.members (k.seen.0.carries.0 ∙ ap (λ (z : GroupState). z.members) (sym state)))
      (both (bytes_eq value s.value) (takes_part i x && is_next x (last_heard p v g (lines rs)) i)
      (subst (λ z. bytes_eq value z ≡ true) (k.seen.0.carries.1 ∙ ap (λ (z : GroupState). z.value) (sym state)) (text_self value))
      (both (takes_part i x) (is_next x (last_heard p v g (lines rs)) i) (takes_same i (stay.part p (stay.stays p.node g rs)) x same ∙ k.seen.0.takes_part.1)
      (ap (λ o. is_next x o i) (heard_same p v g rs) ∙ next_is p v g i e (stay.part p (stay.stays p.node g rs)) x rs same k.seen.0.takes_part.0 k.seen.0.heard.1))))

pub hearing_kept : Keeps rule.Heard
unfolding holds shown
hearing_kept (happened.Heard p v g i e ms value) rs k = heard_kept p v g i e ms value rs k
hearing_kept _ rs k = refl
