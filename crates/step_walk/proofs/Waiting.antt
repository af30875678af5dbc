-- In a group at most 64 joins and 64 failures wait, and joins that wait differ, whatever changes.
use Rattle.std.proofs.Common.{ap, ◌∙◌, ◌≡◌, ◌≤◌, ◌<◌, ℕ, List, [], ◌∷◌, ◌++◌, length, Option, Some, None, Bool, true, false, cond, refl, arith, length-append}
use Rattle.std.specs.Prelude.{◌&&◌, not, filter, nat_lt, if◌then◌else◌}
use Rattle.std.proofs.lemmas.Bool.{ltb-true}
use Rattle.rsct_packet.specs.declared.ids.ProviderId.{ProviderId}
use Rattle.rsct_packet.specs.Providers.{same_provider, among, without, differ}
use Rattle.rsct_packet.proofs.ProviderLaws.{filter_differs}
use Rattle.std.proofs.lemmas.Bool.{and_parts}
use Rattle.group_attr.specs.declared.attrs.Batch.{Batch}
use Rattle.proposal_core.specs.declared.proposal.Cause.{Cause}
use Rattle.proposal_core.specs.declared.entry.Vote.{Vote}
use Rattle.vote_phases.specs.Tally.{TallyView}
use Rattle.batch_rules.specs.Waiting.{WaitingView, is_failing, add_failure, drop_join, batches_joins, batches_failures, left_of, chosen_of, takes_failure, failures_left, joins_left}
use Rattle.node_state.specs.declared.group.Led.{Led}
use Rattle.node_state.specs.Following.{vote_cast}

abbrev pub Few : WaitingView → Type 0
Few w = (length w.joins ≤ 64) × (length w.failures ≤ 64)

abbrev pub MildWaits : (WaitingView → WaitingView) → Type 0
MildWaits f = (w : WaitingView) → Few w → Few (f w)

pub fails_few : (q : ProviderId) (c : Cause) → MildWaits (add_failure q c)
fails_few q c w k = by (is_failing q w) (nat_lt (length w.failures) 64) refl
  where
    more : WaitingView
    more = record w { failures = w.failures ++ record { provider = q; cause = c } ∷ [] }

    by : (a b : Bool) → nat_lt (length w.failures) 64 ≡ b → Few (if not a && b then more else w)
    by true b e = k
    by false false e = k
    by false true e = (k.0, let z : length w.failures < 64 = ltb-true (length w.failures) 64 e in omega (arith, z, length-append w.failures (record { provider = q; cause = c } ∷ [])))

pub dropped_few : (q : ProviderId) → MildWaits (drop_join q)
dropped_few q w k = (let z = shorter w.joins in omega (arith, z, k.0), k.1)
  where
    shorter : (ps : List ProviderId) → length (without ps q) ≤ length ps
    shorter ps = filtered _ ps
      where
        filtered : (test : ProviderId → Bool) (xs : List ProviderId) → length (filter test xs) ≤ length xs
        filtered test [] = omega arith
        filtered test (x ∷ xs) = at (test x) (filtered test xs)
          where
            at : (b : Bool) → length (filter test xs) ≤ length xs → length (cond b (x ∷ filter test xs) (filter test xs)) ≤ length (x ∷ xs)
            at true h = omega (arith, h)
            at false h = omega (arith, h)

left_few : {A : Type 0} (b : Bool) (xs : List A) → length xs ≤ 64 → length (left_of b xs) ≤ 64
left_few true xs k = omega arith
left_few false [] k = omega arith
left_few false (x ∷ xs) k = omega (arith, k)

pub failures_few : (b : Batch) → MildWaits (failures_left b)
failures_few b w k = (k.0, left_few (batches_failures b) w.failures k.1)

pub joins_few : (b : Batch) → MildWaits (joins_left b)
joins_few b w k = (left_few (batches_joins b) w.joins k.0, k.1)

pub cast_few : (l : Led) (p : ProviderId) (v : Vote) (value message : Option (List ℕ)) (t : Option TallyView) → Few l.waiting → Few (vote_cast l p v value message t).waiting
unfolding vote_cast
cast_few l p v value message None k = k
cast_few l p v value message (Some t) k = k

-- ---- joins that wait differ

-- those that are left, and those that are chosen
pub left_differ : (b : Bool) (xs : List ProviderId) → differ xs ≡ true → differ (left_of b xs) ≡ true
left_differ true xs e = refl
left_differ false [] e = e
left_differ false (x ∷ xs) e = (and_parts (not (among xs x)) (differ xs) e).1

pub chosen_differ : (b : Bool) (xs : List ProviderId) → differ xs ≡ true → differ (chosen_of b xs) ≡ true
chosen_differ true xs e = e
chosen_differ false [] e = refl
chosen_differ false (x ∷ xs) e = refl

abbrev pub Apart : (WaitingView → WaitingView) → Type 0
Apart f = (w : WaitingView) → differ w.joins ≡ true → differ (f w).joins ≡ true

-- a failure that waits leaves the joins as they are
pub fails_apart : (q : ProviderId) (c : Cause) → Apart (add_failure q c)
fails_apart q c w e = ap differ (stay (takes_failure q w)) ∙ e
  where
    stay : (b : Bool) → (if b then record w { failures = w.failures ++ record { provider = q; cause = c } ∷ [] } else w).joins ≡ w.joins
    stay true = refl
    stay false = refl

pub dropped_apart : (q : ProviderId) → Apart (drop_join q)
dropped_apart q w e = filter_differs (λ p. not (same_provider p q)) w.joins e

pub failures_apart : (b : Batch) → Apart (failures_left b)
failures_apart b w e = e

pub joins_apart : (b : Batch) → Apart (joins_left b)
joins_apart b w e = left_differ (batches_joins b) w.joins e

pub cast_apart : (l : Led) (p : ProviderId) (v : Vote) (value message : Option (List ℕ)) (t : Option TallyView) → differ l.waiting.joins ≡ true → differ (vote_cast l p v value message t).waiting.joins ≡ true
unfolding vote_cast
cast_apart l p v value message None e = e
cast_apart l p v value message (Some t) e = e
