-- Who waits as a failure.
use Rattle.std.proofs.Common.{◌≡◌, ◌⊎◌, ℕ, suc, ◌≤◌, List, [], ◌∷◌, ◌++◌, length, Bool, true, false, refl, sym, subst, inl, inr, arith}
use Rattle.std.specs.Prelude.{if◌then◌else◌}
use Rattle.rsct_packet.specs.declared.ids.ProviderId.{ProviderId}
use Rattle.rsct_packet.specs.Search.{Has}
use Rattle.rsct_packet.proofs.HasLaws.{has_append, has_drop, has_take}
use Rattle.proposal_core.specs.declared.proposal.Cause.{Cause}
use Rattle.proposal_core.specs.declared.proposal.Failure.{Failure}
use Rattle.proposal_core.specs.declared.group_state.GroupState.{GroupState}
use Rattle.batch_rules.specs.Waiting.{WaitingView, takes_failure, add_failure, chosen_of, left_of}
use Rattle.row_laws.proofs.failed_rows.Facts.{Waits, AllWait}

-- those who are chosen, and those who are left, were there
pub chosen_has : {A : Type 0} (b : Bool) (xs : List A) (x : A) → Has x (chosen_of b xs) → Has x xs
chosen_has true xs x i = i
chosen_has false xs x i = has_take 1 xs x i

pub left_has : {A : Type 0} (b : Bool) (xs : List A) (x : A) → Has x (left_of b xs) → Has x xs
left_has true xs x i = absurd i
left_has false xs x i = has_drop 1 xs x i

-- one less, at least
pub left_fewer : {A : Type 0} (b : Bool) (n : ℕ) (xs : List A) → length xs ≤ suc n → length (left_of b xs) ≤ n
left_fewer true n xs k = omega arith
left_fewer false n [] k = omega arith
left_fewer false n (x ∷ xs) k = omega (arith, k)

pub none_left : {A : Type 0} (xs : List A) → length xs ≤ 0 → xs ≡ []
none_left [] k = refl
none_left (x ∷ xs) k = absurd (omega (arith, k))

module _ (gone : ProviderId → Type 0) (st : GroupState) where
  -- one more waits
  pub one_waits : (p : ProviderId) (c : Cause) (w : WaitingView) → Waits gone st p c → AllWait gone st w.failures → AllWait gone st (add_failure p c w).failures
  one_waits p c w new old = by (takes_failure p w)
    where
      by : (b : Bool) → AllWait gone st (if b then record w { failures = w.failures ++ record { provider = p; cause = c } ∷ [] } else w).failures
      by false f i = old f i
      by true f i = at (has_append f w.failures (record { provider = p; cause = c } ∷ []) i)
        where
          at : Has f w.failures ⊎ Has f (record { provider = p; cause = c } ∷ []) → Waits gone st f.provider f.cause
          at (inl j) = old f j
          at (inr (inl e)) = subst (λ (z : Failure). Waits gone st z.provider z.cause) (sym e) new
          at (inr (inr z)) = absurd z
