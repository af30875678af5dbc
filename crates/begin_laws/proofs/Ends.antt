-- What begins at the end of a step begins as is meant, where the records say what states the lists have.
use Rattle.std.proofs.Common.{◌≡◌, ◌≤◌, ℕ, List, [], ◌∷◌, Bool, true, false, cond, refl, sym, ap, ◌∙◌, subst, inl, inr, length, arith}
use Rattle.std.specs.Prelude.{filter, not, reverse}
use Rattle.rsct_packet.specs.declared.ids.ProviderId.{ProviderId}
use Rattle.rsct_packet.specs.Providers.{among}
use Rattle.group_attr.specs.declared.attrs.Batch.{Batch}
use Rattle.group_attr.specs.declared.attrs.Batch.TheVariants.{Neither, Joins, Failures, Both}
use Rattle.proposal_core.specs.declared.group_state.GroupState.{GroupState}
use Rattle.proposal_core.specs.declared.proposal.Failure.{Failure}
use Rattle.batch_rules.specs.Waiting.{batches_failures, batches_joins, chosen_of, joins_left}
use Rattle.node_state.specs.declared.state.Core.{Core}
use Rattle.node_state.specs.State.{row_of, list_of, led_of, state_of, with_row, with_led}
use Rattle.node_state.specs.Leading.{with_waiting}
use Rattle.node_state.specs.Deciding.{lacks_source}
use Rattle.run_safety.specs.Past.{earlier, state_now}
use Rattle.step_walk.proofs.Evidence.{chosen, chosen_attrs, sourceless, joins_taken, KeepsEnding}
use Rattle.entry_laws.proofs.source_order.Ending.{Still, refused_still, waits_still}
use Rattle.begin_laws.specs.Begins.{joins_together, failures_together, IsBatch}
use Rattle.begin_laws.proofs.At.{Course, At}
use Rattle.begin_laws.proofs.Changes.{Begun}

-- ---- batches

fewer_of : {A : Type 0} (test : A → Bool) (xs : List A) → length (filter test xs) ≤ length xs
fewer_of test [] = omega arith
fewer_of test (x ∷ xs) = by (test x) (fewer_of test xs)
  where
    by : (b : Bool) → length (filter test xs) ≤ length xs → length (cond b (x ∷ filter test xs) (filter test xs)) ≤ length (x ∷ xs)
    by true h = omega (arith, h)
    by false h = omega (arith, h)

filtered_batch : {A : Type 0} (b : Bool) (test : A → Bool) (xs : List A) → IsBatch b xs → IsBatch b (filter test xs)
filtered_batch b test xs (inl e) = inl e
filtered_batch b test xs (inr l) = inr (let h = fewer_of test xs in omega (arith, h, l))

chosen_batch : {A : Type 0} (b : Bool) (xs : List A) → IsBatch b (chosen_of b xs)
chosen_batch true xs = inl refl
chosen_batch false [] = inr (omega arith)
chosen_batch false (x ∷ xs) = inr (omega arith)

joins_same : (b : Batch) → batches_joins b ≡ joins_together b
joins_same Neither = refl
joins_same Joins = refl
joins_same Failures = refl
joins_same Both = refl

failures_same : (b : Batch) → batches_failures b ≡ failures_together b
failures_same Neither = refl
failures_same Joins = refl
failures_same Failures = refl
failures_same Both = refl

module _ (h : Course) where
  abbrev Full : Core → Type 0
  Full s = At h (Unit {0}) s

  -- the state of the records is that of the list
  state_is : (s : Core) (g : List ℕ) → Full s → state_of s g ≡ state_now s.views.me s.views.view g (earlier (reverse s.records) h.before)
  unfolding state_of list_of row_of
  state_is s g a = (a.states tt g).state

  fail_batch : (s : Core) (g : List ℕ) (xs : List Failure) → Full s → IsBatch (batches_failures (state_of s g).attrs.batch) xs → IsBatch (failures_together (state_now s.views.me s.views.view g (earlier (reverse s.records) h.before)).attrs.batch) xs
  fail_batch s g xs a k = subst (λ b. IsBatch b xs) (failures_same (state_of s g).attrs.batch ∙ ap (λ (st : GroupState). failures_together st.attrs.batch) (state_is s g a)) k

  -- those who are refused change no state
  state_stays : (s : Core) (g : List ℕ) → Full s → Full (joins_taken s g) → state_now s.views.me s.views.view g (earlier (reverse s.records) h.before) ≡ state_now (joins_taken s g).views.me (joins_taken s g).views.view g (earlier (reverse (joins_taken s g).records) h.before)
  state_stays s g a b =
      let d : Core = with_waiting s g (joins_left (state_of s g).attrs.batch) in
      let still : Still s (joins_taken s g) = refused_still g (chosen_attrs s g).source (sourceless s g) s d (waits_still s g (state_of s g).attrs) in
      λ i. state_now (sym still.views i).me (sym still.views i).view g (earlier (reverse (sym still.records i)) h.before)

  pub ending : KeepsEnding Full (Begun h)
  unfolding with_waiting with_led with_row
  ending =
      record {
        fails = λ s g a. (ap (λ (st : GroupState). st.attrs.phases) (state_is s g a), fail_batch s g _ a (filtered_batch (batches_failures (state_of s g).attrs.batch) (λ (x : Failure). among (state_of s g).members x.provider) _ (chosen_batch (batches_failures (state_of s g).attrs.batch) (led_of s g).waiting.failures)));
        casts_out = λ s g k out from due a. (ap (λ (st : GroupState). st.attrs.phases) (state_is s g a), fail_batch s g _ a (chosen_batch (batches_failures (state_of s g).attrs.batch) out));
        reflects = λ s g k v i from due a. ap (λ (st : GroupState). st.attrs.source_phases) (state_is s g a);
        joins = λ s g a taken. (refl, subst (λ b. IsBatch b (filter (λ (q : ProviderId). not (lacks_source s (chosen_attrs s g).source q.node)) (chosen s g))) (joins_same (state_of s g).attrs.batch ∙ ap (λ (st : GroupState). joins_together st.attrs.batch) (state_is s g a ∙ state_stays s g a taken)) (filtered_batch (batches_joins (state_of s g).attrs.batch) (λ (q : ProviderId). not (lacks_source s (chosen_attrs s g).source q.node)) (chosen s g) (chosen_batch (batches_joins (state_of s g).attrs.batch) (led_of s g).waiting.joins)));
      }
