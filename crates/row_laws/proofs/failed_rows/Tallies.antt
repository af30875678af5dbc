-- The default rows of a tally, and of the entry that it makes.
use Rattle.std.proofs.Common.{◌≡◌, ◌⊎◌, ℕ, List, [], ◌∷◌, Option, Some, None, Bool, true, false, refl, sym, subst, inl, inr}
use Rattle.std.specs.Prelude.{◌||◌, fold, map, nat_le, if◌then◌else◌}
use Rattle.rsct_packet.specs.declared.ids.ProviderId.{ProviderId}
use Rattle.rsct_packet.specs.Providers.{among}
use Rattle.rsct_packet.specs.Search.{Has}
use Rattle.rsct_packet.proofs.HasLaws.{has_map}
use Rattle.proposal_core.specs.declared.entry.Entry.{Entry}
use Rattle.proposal_core.specs.declared.entry.Vote.{Vote}
use Rattle.proposal_core.specs.declared.entry.Vote.TheVariants as vote
use Rattle.proposal_core.specs.declared.entry.RowVote.{RowVote}
use Rattle.proposal_core.specs.declared.entry.RowVote.TheVariants as row_vote
use Rattle.proposal_core.specs.declared.entry.Row.{Row}
use Rattle.proposal_core.specs.declared.group_state.GroupState.{GroupState}
use Rattle.proposal_core.specs.declared.group_state.Running.{Running}
use Rattle.proposal_core.specs.Fold.{max_phases, voters}
use Rattle.vote_phases.specs.declared.voter.Voter.{Voter}
use Rattle.vote_phases.specs.Tally.{TallyView, tally_new, tally_cast, tally_fail, tally_tick, given, given_to, or_vote, is_voter, late_if, passes, no_vote, row_or, rows_of, outcome}
use Rattle.node_state.specs.declared.group.Led.{Led}
use Rattle.node_state.specs.Leading.{limit_of, fails_if, tally_for, closed_by, closing, closing_of, closing_entry}
use Rattle.step_refinement.proofs.SessionLaws.{provider_same}
use Rattle.row_laws.specs.failed_rows.Failures.{RowFails, EntryFails}
use Rattle.row_laws.proofs.failed_rows.Facts.{VoterFails, TallyRuns, TallyWhile, TallyFails}

module _ (gone : ProviderId → Type 0) (st : GroupState) where
  rows_fail : (xs : List Voter) → ((x : Voter) → Has x xs → VoterFails gone st x.provider x.vote) → (r : Row) → Has r (rows_of xs) → RowFails gone st r.provider r.vote
  rows_fail [] all r i = absurd i
  rows_fail (x ∷ xs) all r i = by x.vote (all x (inl refl)) i (rows_fail xs (λ y j. all y (inr j)) r)
    where
      by : (v : Option RowVote) → VoterFails gone st x.provider v → Has {A = Row} r (row_or (elim v as (λ _. Option Row) [ None ↦ None | Some v ↦ Some (record { provider = x.provider; vote = v }) ]) (rows_of xs)) → (Has r (rows_of xs) → RowFails gone st r.provider r.vote) → RowFails gone st r.provider r.vote
      by None k j rest = rest j
      by (Some v) k (inl e) rest = subst (λ (z : Row). RowFails gone st z.provider z.vote) (sym e) k
      by (Some v) k (inr j) rest = rest j

  -- the entry that closes a phase
  pub closing_fails : (source : List ℕ → GroupState) (l : Led) (t : Option TallyView) (run : Option Running) (e : Entry) → st.running ≡ run → TallyFails gone st t → closing_entry l t run ≡ Some e → EntryFails gone source st e
  unfolding closing_entry closing_of closing closed_by
  closing_fails source l None run e at k q = absurd (cc)
  closing_fails source l (Some t) None e at k q = absurd (cc)
  closing_fails source l (Some t) (Some run) e at k q = by (outcome t) q
    where
      all : TallyRuns gone st t
      all = subst (TallyWhile gone st t) at k

      one : (v : Vote) (last : Bool) → EntryFails gone source st (closing l t run v last)
      one vote.Approve last = rows_fail t.voters all.voters
      one vote.Reject last = rows_fail t.voters all.voters
      one vote.Continue true = rows_fail t.voters all.voters
      one vote.Continue false = rows_fail t.voters all.voters

      by : (o : Option Vote) → closing_of l t run o ≡ Some e → EntryFails gone source st e
      by None q = absurd (cc)
      by (Some v) q = let z : closing l t run v (nat_le max_phases run.phase) ≡ e = cc in subst (EntryFails gone source st) z (one v (nat_le max_phases run.phase))

  -- ---- what changes of a tally

  or_vote_fails : (p : ProviderId) (v : RowVote) (old : Option RowVote) → RowFails gone st p v → VoterFails gone st p old → VoterFails gone st p (or_vote v old)
  or_vote_fails p v None k old = k
  or_vote_fails p v (Some w) k old = old

  each_given : (f : Voter → Voter) (xs : List Voter) → ((x : Voter) → VoterFails gone st x.provider x.vote → VoterFails gone st (f x).provider (f x).vote) → ((x : Voter) → Has x xs → VoterFails gone st x.provider x.vote) → (y : Voter) → Has y (map f xs) → VoterFails gone st y.provider y.vote
  each_given f xs step all y i =
      let k = has_map f y xs i in
      subst (λ (z : Voter). VoterFails gone st z.provider z.vote) (sym k.2) (step k.0 (all k.0 k.1))

  given_fails : (p : ProviderId) (v : RowVote) → ((q : ProviderId) → q ≡ p → RowFails gone st q v) → (x : Voter) → VoterFails gone st x.provider x.vote → VoterFails gone st (given_to p v x).provider (given_to p v x).vote
  given_fails p v ok x k = by (is_voter p x) refl
    where
      by : (b : Bool) → is_voter p x ≡ b → VoterFails gone st (if b then given v x else x).provider (if b then given v x else x).vote
      by false e = k
      by true e = or_vote_fails x.provider v x.vote (ok x.provider (provider_same x.provider p e)) k

  -- one who failed, or is gone, has the default vote
  failed_runs : (p : ProviderId) (t : TallyView) → (among st.failed p ≡ true) ⊎ gone p → TallyRuns gone st t → TallyRuns gone st (tally_fail p t)
  failed_runs p t why k =
      record {
        default = k.default;
        voters = each_given (given_to p (row_vote.Failed t.default_vote)) t.voters (given_fails p (row_vote.Failed t.default_vote) (λ q e. (k.default, subst (λ z. (among st.failed z ≡ true) ⊎ gone z) (sym e) why))) k.voters;
      }

  pub failed_fails : (p : ProviderId) (t : TallyView) → (among st.failed p ≡ true) ⊎ gone p → TallyFails gone st (Some t) → TallyFails gone st (Some (tally_fail p t))
  failed_fails p t why k = by st.running k
    where
      by : (run : Option Running) → TallyWhile gone st t run → TallyWhile gone st (tally_fail p t) run
      by None k = tt
      by (Some run) k = failed_runs p t why k

  pub ticked_fails : (t : TallyView) → TallyFails gone st (Some t) → TallyFails gone st (Some (tally_tick t))
  ticked_fails t k = by st.running k
    where
      late : (b : Bool) → TallyRuns gone st t → (x : Voter) → Has x (late_if b t.default_vote t.voters) → VoterFails gone st x.provider x.vote
      late true k = each_given (given (row_vote.Late t.default_vote)) t.voters (λ x a. or_vote_fails x.provider (row_vote.Late t.default_vote) x.vote tt a) k.voters
      late false k = k.voters

      by : (run : Option Running) → TallyWhile gone st t run → TallyWhile gone st (tally_tick t) run
      by None k = tt
      by (Some run) k = record { default = k.default; voters = late (passes t.limit t.count) k }

  pub voted_fails : (p : ProviderId) (v : Vote) (t : TallyView) → TallyFails gone st (Some t) → TallyFails gone st (Some (tally_cast p v t))
  voted_fails p v t k = by st.running k
    where
      by : (run : Option Running) → TallyWhile gone st t run → TallyWhile gone st (tally_cast p v t) run
      by None k = tt
      by (Some run) k =
          record { default = k.default; voters = each_given (given_to p (row_vote.Cast v)) t.voters (given_fails p (row_vote.Cast v) (λ q e. tt)) k.voters }

  -- a tally that is opened anew has just such rows
  fails_run : (marks : List ProviderId) → ((p : ProviderId) → among marks p ≡ true → gone p) → (ps : List ProviderId) (t : TallyView) → TallyRuns gone st t → TallyRuns gone st (fold (fails_if st.failed marks) t ps)
  unfolding fails_if
  fails_run marks all [] t k = k
  fails_run marks all (p ∷ ps) t k =
      fails_run marks all ps (fails_if st.failed marks t p) (by (among st.failed p) (among marks p) refl refl)
    where
      by : (a b : Bool) → among st.failed p ≡ a → among marks p ≡ b → TallyRuns gone st (elim (a || b) as (λ _. TallyView) [ true ↦ tally_fail p t | false ↦ t ])
      by true b e q = failed_runs p t (inl e) k
      by false true e q = failed_runs p t (inr (all p q)) k
      by false false e q = k

  pub opened_fails : (marks : List ProviderId) → ((p : ProviderId) → among marks p ≡ true → gone p) → TallyFails gone st (Some (tally_for st marks))
  unfolding tally_for
  opened_fails marks all = by st.running
    where
      t : TallyView
      t = tally_new (voters st) st.attrs.default_vote (limit_of st.attrs st.running)

      runs : TallyRuns gone st (fold (fails_if st.failed marks) t (voters st))
      runs =
          fails_run marks all (voters st) t (record { default = refl; voters = λ x i. let k = has_map no_vote x (voters st) i in subst (λ (z : Voter). VoterFails gone st z.provider z.vote) (sym k.2) tt })

      by : (run : Option Running) → TallyWhile gone st (fold (fails_if st.failed marks) t (voters st)) run
      by None = tt
      by (Some run) = runs
