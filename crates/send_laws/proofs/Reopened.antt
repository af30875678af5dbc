-- A phase that is opened anew closes at once only where all its voters failed, and then no other phase follows.
use Rattle.std.proofs.Common.{◌≡◌, List, [], ◌∷◌, map, fold, Some, None, Option, Bool, true, false, refl, sym, ap, ◌∙◌, subst}
use Rattle.std.specs.Prelude.{◌||◌, if◌then◌else◌}
use Rattle.rsct_packet.specs.declared.ids.ProviderId.{ProviderId}
use Rattle.rsct_packet.specs.Providers.{among}
use Rattle.group_attr.specs.declared.attrs.DefaultVote.{DefaultVote}
use Rattle.group_attr.specs.declared.attrs.DefaultVote.TheVariants as default_vote
use Rattle.proposal_core.specs.declared.entry.Vote.TheVariants.{Approve, Continue, Reject}
use Rattle.proposal_core.specs.declared.entry.RowVote.{RowVote}
use Rattle.proposal_core.specs.declared.entry.RowVote.TheVariants as row_vote
use Rattle.proposal_core.specs.declared.entry.Row.{Row}
use Rattle.proposal_core.specs.declared.group_state.GroupState.{GroupState}
use Rattle.proposal_core.specs.Fold.{voters}
use Rattle.vote_phases.specs.declared.voter.Voter.{Voter}
use Rattle.vote_phases.specs.Tally.{TallyView, no_vote, tally_new, is_voter, or_vote, given, given_to, tally_fail, has_open, vote_of_default, vote_of_row, row_or, rows_of, is_reject, is_continue, any_stands, tally_of, outcome}
use Rattle.node_state.specs.Leading.{limit_of, fails_if, tally_for}

-- it failed, or has no row
abbrev FailedOr : DefaultVote → Option RowVote → Type 0
FailedOr d None = Unit {0}
FailedOr d (Some v) = v ≡ row_vote.Failed d

abbrev AllFailed : DefaultVote → List Voter → Type 0
AllFailed d [] = Unit {0}
AllFailed d (x ∷ xs) = FailedOr d x.vote × AllFailed d xs

default_ends : (d : DefaultVote) → is_continue (vote_of_default d) ≡ false
default_ends default_vote.Approve = refl
default_ends default_vote.Reject = refl

row_ends : (d : DefaultVote) (v : RowVote) → v ≡ row_vote.Failed d → is_continue (vote_of_row v) ≡ false
row_ends d v e = ap (λ (w : RowVote). is_continue (vote_of_row w)) e ∙ default_ends d

rows_end : (d : DefaultVote) (xs : List Voter) → AllFailed d xs → any_stands is_continue (rows_of xs) ≡ false
rows_end d [] h = refl
rows_end d (x ∷ xs) h = by x.vote h.0 (rows_end d xs h.1)
  where
    by : (o : Option RowVote) → FailedOr d o → any_stands is_continue (rows_of xs) ≡ false → any_stands is_continue (row_or (elim o as (λ _. Option Row) [ None ↦ None | Some v ↦ Some (record { provider = x.provider; vote = v }) ]) (rows_of xs)) ≡ false
    by None f k = k
    by (Some v) f k = ap (λ b. b || any_stands is_continue (rows_of xs)) (row_ends d v f) ∙ k

-- who fails keeps an earlier row
failed_more : (d : DefaultVote) (o : Option RowVote) → FailedOr d o → FailedOr d (or_vote (row_vote.Failed d) o)
failed_more d None f = refl
failed_more d (Some v) f = f

failed_given : (d : DefaultVote) (p : ProviderId) (xs : List Voter) → AllFailed d xs → AllFailed d (map (given_to p (row_vote.Failed d)) xs)
failed_given d p [] h = tt
failed_given d p (x ∷ xs) h = (by (is_voter p x), failed_given d p xs h.1)
  where
    by : (b : Bool) → FailedOr d (if b then given (row_vote.Failed d) x else x).vote
    by true = failed_more d x.vote h.0
    by false = h.0

-- a tally in which nobody has cast
record Failing (d : DefaultVote) (t : TallyView) : Type 0 where
  pub default_is : t.default_vote ≡ d
  pub failed : AllFailed d t.voters

failing_more : (d : DefaultVote) (t : TallyView) (p : ProviderId) → Failing d t → Failing d (tally_fail p t)
failing_more d t p f =
    record {
      default_is = f.default_is;
      failed = subst (λ e. AllFailed d (map (given_to p (row_vote.Failed e)) t.voters)) (sym f.default_is) (failed_given d p t.voters f.failed);
    }

failing_if : (failed gone : List ProviderId) (d : DefaultVote) (t : TallyView) (p : ProviderId) → Failing d t → Failing d (fails_if failed gone t p)
unfolding fails_if
failing_if failed gone d t p f = by (among failed p || among gone p)
  where
    by : (b : Bool) → Failing d (elim b [ true ↦ tally_fail p t | false ↦ t ])
    by true = failing_more d t p f
    by false = f

failing_fold : (failed gone : List ProviderId) (d : DefaultVote) (ps : List ProviderId) (t : TallyView) → Failing d t → Failing d (fold (fails_if failed gone) t ps)
failing_fold failed gone d [] t f = f
failing_fold failed gone d (p ∷ ps) t f = failing_fold failed gone d ps (fails_if failed gone t p) (failing_if failed gone d t p f)

none_failed : (d : DefaultVote) (ps : List ProviderId) → AllFailed d (map no_vote ps)
none_failed d [] = tt
none_failed d (p ∷ ps) = (tt, none_failed d ps)

failing : (st : GroupState) (gone : List ProviderId) → Failing st.attrs.default_vote (tally_for st gone)
unfolding tally_for
failing st gone =
    let d : DefaultVote = st.attrs.default_vote in
    failing_fold st.failed gone d (voters st) (tally_new (voters st) d (limit_of st.attrs st.running)) (record { default_is = refl; failed = none_failed d (voters st) })

ends : (rows : List Row) → any_stands is_continue rows ≡ false → tally_of rows ≡ Continue → ⊥
ends rows e = by (any_stands is_reject rows) (any_stands is_continue rows) e
  where
    by : (b c : Bool) → c ≡ false → (if b then Reject else if c then Continue else Approve) ≡ Continue → ⊥
    by true c e q = cc
    by false true e q = cc
    by false false e q = cc

-- the outcome of a phase that is opened anew
pub reopened_ends : (st : GroupState) (gone : List ProviderId) → outcome (tally_for st gone) ≡ Some Continue → ⊥
reopened_ends st gone q = by (has_open t) q
  where
    t : TallyView
    t = tally_for st gone

    by : (b : Bool) → (if b then None else Some (tally_of (rows_of t.voters))) ≡ Some Continue → ⊥
    by true q = cc
    by false q =
        let z : tally_of (rows_of t.voters) ≡ Continue = cc in ends (rows_of t.voters) (rows_end st.attrs.default_vote t.voters (failing st gone).failed) z
