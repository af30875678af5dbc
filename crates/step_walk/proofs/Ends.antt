-- What keeps each change of a leader keeps the end of a step.
use Rattle.std.proofs.Common.{◌≡◌, ℕ, zero, suc, List, [], ◌∷◌, length, Option, Some, None, Bool, true, false, refl}
use Rattle.std.specs.Prelude.{fold}
use Rattle.rsct_packet.specs.declared.ids.ProviderId.{ProviderId}
use Rattle.rsct_packet.specs.Lists.{is_empty}
use Rattle.group_attr.specs.declared.attrs.Attrs.{Attrs}
use Rattle.proposal_core.specs.declared.proposal.Proposal.TheVariants.{Join, Fail, Reflect}
use Rattle.proposal_core.specs.Lists.{list_or_new}
use Rattle.batch_rules.specs.Waiting.{batches_failures, chosen_of, failures_left, joins_left}
use Rattle.source_target.specs.declared.Due.{Due}
use Rattle.source_target.specs.declared.Due.TheVariants as due
use Rattle.source_target.specs.Due as target
use Rattle.client_callbacks.specs.declared.told.Why.TheVariants.{NoSource}
use Rattle.node_state.specs.declared.group.GroupRow.{GroupRow}
use Rattle.node_state.specs.declared.state.Core.{Core}
use Rattle.node_state.specs.State.{row_of, led_of, state_of, frozen, led_groups}
use Rattle.node_state.specs.HandOn.{Answering}
use Rattle.node_state.specs.Leading.{with_waiting}
use Rattle.node_state.specs.Leading as leading
use Rattle.proposal_core.specs.declared.proposal.Proposal.{Proposal}
use Rattle.group_attr.specs.declared.attrs.Phases.{Phases}
use Rattle.std.proofs.Common.{inl, inr}
use Rattle.node_state.specs.Deciding.{refused, known_state, source_len}
use Rattle.node_state.specs.Ending.{Pass, quiet, begun_now, failures_begin, due_begins, source_begins, carried_len, source_refused, joins_begin, or_due, or_joins, may_begin, first_begins, group_begins, one_pass, passes, most_begun, end_step}
use Rattle.rsct_packet.specs.Search.{Has}
use Rattle.step_walk.proofs.Waiting.{failures_few, failures_apart, joins_few, joins_apart}
use Rattle.step_walk.proofs.Evidence.{IsLed, fallen, chosen_attrs, joiners, sourceless, joins_taken, KeepsBeside, KeepsLed, KeepsEnding, Keeping}
use Rattle.step_walk.proofs.Asides.{at_either, at_fold, at_waiting}
use Rattle.step_walk.proofs.Appending.{at_begins, at_refused}
use Rattle.step_walk.proofs.Steady.{Steady, begun, are_led, steady_beside, steady_between, steady_led, steady_ending}

module _ (P : Core → Type 0) (Between : List ℕ → Core → Type 0) (Begun : Core → List ℕ → Phases → Proposal → Type 0) (Ok : List ℕ → Type 0) (b : KeepsBeside P Ok) (m : (g : List ℕ) → KeepsBeside (Between g) Ok) (k : KeepsLed P Between Begun (λ s. Ok)) (ends : KeepsEnding P Begun) (f : Answering) where
  module _ (g : List ℕ) (ok : Ok g) where
    begins : {s : Core} (x : Proposal) (phases : Phases) → Begun s g phases x → P s → P (leading.begins f s g x phases)
    begins x phases begun p = at_begins P Between Begun Ok b m k f g ok x phases begun p

    at_failures : (n : ℕ) (s : Core) → P s → P (failures_begin n f s g).core
    unfolding failures_begin
    at_failures zero s p = p
    at_failures (suc n) s p = by (is_empty (fallen s g)) (at_failures n)
      where
        t : Core
        t = with_waiting s g (failures_left (state_of s g).attrs.batch)

        left : P t
        left = at_waiting P Ok b g ok (failures_left (state_of s g).attrs.batch) (failures_few (state_of s g).attrs.batch) (failures_apart (state_of s g).attrs.batch) p

        by : (c : Bool) → ((s : Core) → P s → P (failures_begin n f s g).core) → P (elim c as (λ _. Pass) [ true ↦ failures_begin n f t g | false ↦ begun_now (leading.begins f t g (Fail (fallen s g)) (state_of s g).attrs.phases) ]).core
        by true rest = rest t left
        by false rest = begins (Fail (fallen s g)) (state_of s g).attrs.phases (ends.fails s g p) left

    at_due : (s : Core) (h : List ℕ) (o : Option Due) → (state_of s g).attrs.source ≡ Some h → target.due (state_of s g) (known_state s h) ≡ o → P s → P (due_begins f s g (state_of s g) h o).core
    unfolding due_begins
    at_due s h None from is p = p
    at_due s h (Some (due.CastOut out)) from is p = begins (Fail (chosen_of (batches_failures (state_of s g).attrs.batch) out)) (state_of s g).attrs.phases (ends.casts_out s g h out from is p) p
    at_due s h (Some (due.Reflect v i)) from is p = begins (Reflect v i (state_of s h).value) (state_of s g).attrs.source_phases (ends.reflects s g h v i from is p) p

    at_source : (s : Core) (o : Option (List ℕ)) → (state_of s g).attrs.source ≡ o → P s → P (source_begins f s g (state_of s g) o).core
    unfolding source_begins
    at_source s None from p = p
    at_source s (Some h) from p = at_due s h (target.due (state_of s g) (known_state s h)) from refl p

    at_source_refused : {s : Core} (source : Option (List ℕ)) (ps : List ProviderId) → P s → P (source_refused s g source ps)
    unfolding source_refused
    at_source_refused source ps p =
        at_fold P (λ t (q : ProviderId). refused t g q q.join (NoSource (source_len t source))) (λ t q h. at_refused P Between Begun Ok b m k g ok q q.join (NoSource (source_len t source)) refl h) ps p

    at_joins : (n : ℕ) (s : Core) → P s → P (joins_begin n f s g).core
    unfolding joins_begin
    at_joins zero s p = p
    at_joins (suc n) s p = by (is_empty (joiners s g)) (at_joins n)
      where
        a : Attrs
        a = chosen_attrs s g

        t : Core
        t = joins_taken s g

        left : P t
        left = at_source_refused a.source (sourceless s g) (at_waiting P Ok b g ok (joins_left (state_of s g).attrs.batch) (joins_few (state_of s g).attrs.batch) (joins_apart (state_of s g).attrs.batch) p)

        by : (c : Bool) → ((s : Core) → P s → P (joins_begin n f s g).core) → P (elim c as (λ _. Pass) [ true ↦ joins_begin n f t g | false ↦ begun_now (leading.begins f t g (Join (joiners s g) a (carried_len t a.source)) a.phases) ]).core
        by true rest = rest t left
        by false rest = begins (Join (joiners s g) a (carried_len t a.source)) a.phases (ends.joins s g p left) left

    at_or_due : (q : Pass) → P q.core → P (or_due f g q).core
    unfolding or_due
    at_or_due q p = by q.began
      where
        by : (c : Bool) → P (elim c as (λ _. Pass) [ true ↦ q | false ↦ source_begins f q.core g (state_of q.core g) (state_of q.core g).attrs.source ]).core
        by true = p
        by false = at_source q.core (state_of q.core g).attrs.source refl p

    at_or_joins : (q : Pass) → P q.core → P (or_joins f g q).core
    unfolding or_joins
    at_or_joins q p = by q.began
      where
        by : (c : Bool) → P (elim c as (λ _. Pass) [ true ↦ q | false ↦ joins_begin (length (led_of q.core g).waiting.joins) f q.core g ]).core
        by true = p
        by false = at_joins (length (led_of q.core g).waiting.joins) q.core p

    at_first : (s : Core) (row : GroupRow) → P s → P (first_begins f s g row).core
    unfolding first_begins
    at_first s row p = by (may_begin (list_or_new row.list))
      where
        q : Pass
        q = failures_begin (length row.led.waiting.failures) f s g

        by : (c : Bool) → P (elim c as (λ _. Pass) [ false ↦ quiet s | true ↦ or_joins f g (or_due f g q) ]).core
        by false = p
        by true = at_or_joins (or_due f g q) (at_or_due q (at_failures (length row.led.waiting.failures) s p))

    at_group : (n : ℕ) (q : Pass) → P q.core → P (group_begins n f g q).core
    unfolding group_begins
    at_group zero q p = p
    at_group (suc n) q p = by (first_begins f q.core g (row_of q.core g)) (at_first q.core (row_of q.core g) p) (at_group n)
      where
        at : (x : Pass) → P x.core → ((q : Pass) → P q.core → P (group_begins n f g q).core) → (c : Bool) → P (elim c as (λ _. Pass) [ true ↦ group_begins n f g x | false ↦ record { core = x.core; began = q.began } ]).core
        at x h rest true = rest x h
        at x h rest false = h

        by : (x : Pass) → P x.core → ((q : Pass) → P q.core → P (group_begins n f g q).core) → P (elim x.began as (λ _. Pass) [ true ↦ group_begins n f g x | false ↦ record { core = x.core; began = q.began } ]).core
        by x h rest = at x h rest x.began

  pub at_groups : (most : ℕ) (gs : List (List ℕ)) → ((g : List ℕ) → Has g gs → Ok g) → (q : Pass) → P q.core → P (fold (λ q g. group_begins most f g q) q gs).core
  at_groups most [] all q p = p
  at_groups most (g ∷ gs) all q p = at_groups most gs (λ h i. all h (inr i)) (group_begins most f g q) (at_group g (all g (inl refl)) most q p)

module _ (P : Core → Type 0) (Between : List ℕ → Core → Type 0) (Begun : Core → List ℕ → Phases → Proposal → Type 0) (Unasked : Type 0) (k : Keeping P Between Begun Unasked) (ends : KeepsEnding P Begun) where
  at_pass : (most : ℕ) (f : Answering) (s : Core) → P s → P (one_pass most f s).core
  unfolding one_pass
  at_pass most f s p =
      (at_groups (Steady P Unasked s) (λ g. Steady (Between g) Unasked s) Begun (IsLed Unasked s) (steady_beside P Between Begun Unasked k s) (steady_between P Between Begun Unasked k s) (steady_led P Between Begun Unasked k s) (steady_ending P Begun Unasked s ends) f most (led_groups s) (are_led P Between Begun Unasked k s p) (quiet s) (begun P Unasked s p)).0

  at_passes : (n most : ℕ) (f : Answering) (s : Core) → P s → P (passes n most f s)
  unfolding passes
  at_passes zero most f s p = p
  at_passes (suc n) most f s p = by (one_pass most f s) (at_pass most f s p) (at_passes n)
    where
      at : (x : Pass) → P x.core → ((most : ℕ) (f : Answering) (s : Core) → P s → P (passes n most f s)) → (c : Bool) → P (elim c as (λ _. Core) [ true ↦ passes n most f x.core | false ↦ x.core ])
      at x h rest true = rest most f x.core h
      at x h rest false = h

      by : (x : Pass) → P x.core → ((most : ℕ) (f : Answering) (s : Core) → P s → P (passes n most f s)) → P (elim x.began as (λ _. Core) [ true ↦ passes n most f x.core | false ↦ x.core ])
      by x h rest = at x h rest x.began

  pub at_ended : (f : Answering) {s : Core} → P s → P (end_step f s)
  unfolding end_step
  at_ended f {s} p = at_either P (frozen s) p (at_passes (most_begun s) (most_begun s) f s p)
