-- In an idle group nothing begins, and a pass over groups that are all idle does nothing.
use Rattle.std.proofs.Common.{◌≡◌, ℕ, zero, suc, Bool, true, false, cond, List, [], ◌∷◌, length, map, filter, Option, Some, None, refl, sym, ap, ◌∙◌, inl, inr, eqb-true, arith}
use Rattle.std.specs.Prelude.{fold, not, ◌||◌, is_none}
use Rattle.std.specs.List.{list_all}
use Rattle.std.proofs.lemmas.Bool.{and_parts}
use Rattle.rsct_packet.specs.Search.{Has}
use Rattle.proposal_core.specs.declared.group_state.GroupState.{GroupState}
use Rattle.proposal_core.specs.Lists.{list_or_new}
use Rattle.client_callbacks.specs.declared.votes.VoteItem.{VoteItem}
use Rattle.node_state.specs.declared.group.GroupRow.{GroupRow}
use Rattle.node_state.specs.declared.state.Core.{Core}
use Rattle.node_state.specs.State.{InNameOrder, row_of, led_of, list_of, state_of, leads_in, led_groups}
use Rattle.node_state.specs.HandOn.{Answering}
use Rattle.node_state.specs.Ending.{Pass, quiet, failures_begin, source_begins, joins_begin, or_due, or_joins, may_begin, first_begins, group_begins, one_pass}
use Rattle.node_state.proofs.NameOrder.{row_itself}
use Rattle.entry_delivery.specs.Received.{Handing}
use Rattle.group_deciding.specs.Passing.{passed, DoesPass}
use Rattle.group_deciding.specs.Idle.{owes_nothing, is_idle, is_idle_or_not_led}
use Rattle.group_deciding.proofs.PassLaws.{pass_nothing, pass_as}
use Rattle.group_deciding.proofs.EndingLaws.{failures_first}

no_failures : (n : ℕ) (f : Answering) (s : Core) (g : List ℕ) → n ≡ 0 → failures_begin n f s g ≡ quiet s
unfolding failures_begin
no_failures zero f s g e = refl
no_failures (suc n) f s g e = absurd (omega arith)

no_joins : (n : ℕ) (f : Answering) (s : Core) (g : List ℕ) → n ≡ 0 → joins_begin n f s g ≡ quiet s
unfolding joins_begin
no_joins zero f s g e = refl
no_joins (suc n) f s g e = absurd (omega arith)

no_source : (f : Answering) (s : Core) (g : List ℕ) (st : GroupState) (h : Option (List ℕ)) → is_none h ≡ true → source_begins f s g st h ≡ quiet s
unfolding source_begins
no_source f s g st None e = refl
no_source f s g st (Some h) e = absurd cc

nothing_first : (f : Answering) (s : Core) (g : List ℕ) → owes_nothing (row_of s g) ≡ true → failures_first f s g ≡ quiet s
unfolding or_due or_joins state_of list_of led_of
nothing_first f s g e =
    let failures = and_parts _ _ e in
    let joins = and_parts _ _ failures.1 in
    ap (λ (p : Pass). or_joins f g (or_due f g p)) (no_failures (length (led_of s g).waiting.failures) f s g (eqb-true _ 0 failures.0))
    ∙ (ap (or_joins f g) (no_source f s g (state_of s g) (state_of s g).attrs.source joins.1) ∙ no_joins (length (led_of s g).waiting.joins) f s g (eqb-true _ 0 joins.0))

idle_by : (f : Answering) (s : Core) (g : List ℕ) (may : Bool) → (not may || owes_nothing (row_of s g)) ≡ true → elim may [ false ↦ quiet s | true ↦ failures_first f s g ] ≡ quiet s
idle_by f s g true e = nothing_first f s g e
idle_by f s g false e = refl

idle_first : (f : Answering) (s : Core) (g : List ℕ) → is_idle (row_of s g) ≡ true → first_begins f s g (row_of s g) ≡ quiet s
unfolding first_begins led_of is_idle
idle_first f s g e = idle_by f s g (may_begin (list_or_new (row_of s g).list)) e

idle_group : (n : ℕ) (f : Answering) (s : Core) (g : List ℕ) (began : Bool) → is_idle (row_of s g) ≡ true → group_begins n f g (passed s began) ≡ passed s began
unfolding group_begins
idle_group zero f s g began e = refl
idle_group (suc n) f s g began e = ap (λ (q : Pass). elim q.began [ true ↦ group_begins n f g q | false ↦ passed q.core began ]) (idle_first f s g e)

-- ---- a row of the table is that of its name

-- ---- a pass

abbrev begun_in_each : ℕ → Answering → Pass → List GroupRow → Pass
begun_in_each most f p rows = fold (λ p g. group_begins most f g p) p (map (λ (row : GroupRow). row.name) rows)

idle_rows : (most : ℕ) (f : Answering) (s : Core) (began : Bool) (rows : List GroupRow) → InNameOrder s.groups → ((row : GroupRow) → Has row rows → Has row s.groups) → list_all (is_idle_or_not_led s) rows ≡ true
    → begun_in_each most f (passed s began) (filter (leads_in s) rows) ≡ passed s began
idle_rows most f s began [] order within idle = refl
idle_rows most f s began (row ∷ rows) order within idle =
    let parts = and_parts _ _ idle in
    by (leads_in s row) parts.0 (idle_rows most f s began rows order (λ r h. within r (inr h)) parts.1)
  where
    by : (led : Bool) → (not led || is_idle row) ≡ true → begun_in_each most f (passed s began) (filter (leads_in s) rows) ≡ passed s began → begun_in_each most f (passed s began) (cond led (row ∷ filter (leads_in s) rows) (filter (leads_in s) rows)) ≡ passed s began
    by true e rest =
        let itself : row_of s row.name ≡ row = row_itself s row order (within row (inl refl)) in
        ap (λ (p : Pass). begun_in_each most f p (filter (leads_in s) rows)) (idle_group most f s row.name began (ap is_idle itself ∙ e)) ∙ rest
    by false e rest = rest

-- nothing begins in any of the groups
pub pass_idle : (scripts : List (Option (List (Option VoteItem)))) (P : List Handing → Type 0) → P [] → (s : Core) (most : ℕ) → InNameOrder s.groups → list_all (is_idle_or_not_led s) s.groups ≡ true → DoesPass scripts P s s false (λ f. one_pass most f s)
unfolding one_pass led_groups
pass_idle scripts P p s most order idle =
    pass_as scripts P s s false (λ f. passed s false) (λ f. one_pass most f s) (λ f. sym (idle_rows most f s false s.groups order (λ row h. h) idle)) (pass_nothing scripts P p s false)

-- nothing begins in the group
pub first_none : (scripts : List (Option (List (Option VoteItem)))) (P : List Handing → Type 0) → P [] → (s : Core) (g : List ℕ) → is_idle (row_of s g) ≡ true → DoesPass scripts P s s false (λ f. first_begins f s g (row_of s g))
first_none scripts P p s g e = pass_as scripts P s s false (λ f. passed s false) (λ f. first_begins f s g (row_of s g)) (λ f. sym (idle_first f s g e)) (pass_nothing scripts P p s false)

-- it begins where it may
pub first_some : (scripts : List (Option (List (Option VoteItem)))) (P : List Handing → Type 0) (s t : Core) (began : Bool) (g : List ℕ) → is_idle (row_of s g) ≡ false → DoesPass scripts P s t began (λ f. failures_first f s g) → DoesPass scripts P s t began (λ f. first_begins f s g (row_of s g))
unfolding first_begins led_of is_idle
first_some scripts P s t began g e done = pass_as scripts P s t began (λ f. failures_first f s g) (λ f. first_begins f s g (row_of s g)) (λ f. by f (may_begin (list_or_new (row_of s g).list)) e) done
  where
    by : (f : Answering) (may : Bool) → (not may || owes_nothing (row_of s g)) ≡ false → failures_first f s g ≡ elim may [ false ↦ quiet s | true ↦ failures_first f s g ]
    by f true n = refl
    by f false n = absurd cc
