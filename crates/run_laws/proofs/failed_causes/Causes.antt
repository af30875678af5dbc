-- So it is with the causes of each entry.
use Rattle.std.proofs.Common.{◌≡◌, ◌⊎◌, ℕ, List, [], ◌∷◌, ◌++◌, true, refl, sym, ◌∙◌, inl, inr, append_assoc}
use Rattle.rsct_packet.specs.declared.ids.ViewId.{ViewId}
use Rattle.rsct_packet.specs.declared.ids.ProviderId.{ProviderId}
use Rattle.rsct_packet.specs.Providers.{among}
use Rattle.proposal_core.specs.declared.entry.RowVote.{RowVote}
use Rattle.proposal_core.specs.declared.entry.RowVote.TheVariants as row_vote
use Rattle.proposal_core.specs.declared.entry.Closed.{Closed}
use Rattle.proposal_core.specs.declared.entry.Entry.{Entry}
use Rattle.proposal_core.specs.declared.entry.Entry.TheVariants.{Once, Begin, Phase, Approve, Reject, Late}
use Rattle.proposal_core.specs.declared.proposal.Cause.{Cause}
use Rattle.proposal_core.specs.declared.proposal.Cause.TheVariants.{Died, Gone, Cast}
use Rattle.proposal_core.specs.declared.proposal.Proposal.{Proposal}
use Rattle.proposal_core.specs.declared.proposal.Proposal.TheVariants.{Fail}
use Rattle.proposal_core.specs.declared.group_state.GroupState.{GroupState}
use Rattle.node_state.specs.declared.happened.Happened.{Happened}
use Rattle.node_state.specs.declared.happened.Happened.TheVariants as happened
use Rattle.run_safety.specs.Past.{History, records_of, earlier, EachEvent}
use Rattle.row_laws.specs.failed_rows.Failures.{GoneCause, RowFails, RowsFail, CauseHolds, LeavesFail, EntryFails, PutHolds, Since, EachPut, FailuresHaveCauses, state_held}
use Rattle.row_laws.proofs.failed_rows.Law.{reached, failures_are_honest}
use Rattle.provider_laws.proofs.attending.OrderLaw.{heard_in_order}
use Rattle.run_laws.specs.seen_runs.Seen.{Seen}
use Rattle.run_laws.proofs.seen_runs.Scenes.{all_show}
use Rattle.run_laws.proofs.seen_runs.Law.{traces_seen, seen_after}
use Rattle.run_laws.specs.failed_causes.Causes.{ExactCause, PutHasCause, EachPutHasCause, FailuresAreExact}
use Rattle.run_laws.proofs.failed_causes.Ended.{Firsts}
use Rattle.run_laws.proofs.failed_causes.Bases.{bases_come_first, bases_follow}
use Rattle.run_laws.proofs.failed_causes.Cut.{Entries}
use Rattle.run_laws.proofs.failed_causes.Elsewhere.{Aways, aways_of, bases_away}
use Rattle.run_laws.proofs.failed_causes.Held.{Held, held_asked}
use Rattle.run_laws.proofs.failed_causes.Renamed.{joined_in_one}
use Rattle.run_laws.proofs.failed_causes.Views.{Rises, rises_of, RisesAt}
use Rattle.run_laws.proofs.failed_causes.Sent.{JoinsSent, joins_sent}
use Rattle.run_laws.proofs.failed_causes.Law.{Ordered, OneGroup, IsFront, firsts_of, ordered_of, entries_of, did_not_pass}
use Rattle.run_laws.proofs.failed_causes.Records.{every_after}
use Rattle.run_laws.specs.failed_causes.Passed.{BaseFirst, ElsewhereFails}
use Rattle.run_laws.specs.failed_causes.Entering.{FollowsEntering}
use Rattle.run_safety.specs.SafeHeard.{InOrder}

-- ---- one cause in place of another

module _ (gone now : ProviderId → Type 0) (on : (p : ProviderId) → gone p → now p) where
  row_on : (s : GroupState) (p : ProviderId) (v : RowVote) → RowFails gone s p v → RowFails now s p v
  row_on s p (row_vote.Cast v) k = tt
  row_on s p (row_vote.Late d) k = tt
  row_on s p (row_vote.Failed d) k = (k.0, by k.1)
    where
      by : (among s.failed p ≡ true) ⊎ gone p → (among s.failed p ≡ true) ⊎ now p
      by (inl q) = inl q
      by (inr g) = inr (on p g)

  rows_on : (s : GroupState) (c : Closed) → RowsFail gone s c → RowsFail now s c
  rows_on s c k r h = row_on s r.provider r.vote (k r h)

  cause_on : (source : List ℕ → GroupState) (s : GroupState) (p : ProviderId) (c : Cause) → CauseHolds gone source s p c → CauseHolds now source s p c
  cause_on source s p Died k = k
  cause_on source s p Gone k = on p k
  cause_on source s p Cast k = k

  leaves_on : (source : List ℕ → GroupState) (s : GroupState) (x : Proposal) → LeavesFail gone source s x → LeavesFail now source s x
  leaves_on source s (Fail out) k = λ f h. let z = k f h in (z.0, cause_on source s f.provider f.cause z.1)
  leaves_on source s _ k = tt

  entry_on : (source : List ℕ → GroupState) (s : GroupState) (e : Entry) → EntryFails gone source s e → EntryFails now source s e
  entry_on source s (Once x) k = leaves_on source s x k
  entry_on source s (Begin x) k = leaves_on source s x k
  entry_on source s (Phase c) k = rows_on s c k
  entry_on source s (Approve c) k = rows_on s c k
  entry_on source s (Reject c) k = rows_on s c k
  entry_on source s (Late proto phase ps) k = tt

-- ---- each put

module _ (before : History) (seen : Seen (records_of before)) (firsts : Firsts (records_of before)) (order : Ordered (records_of before)) (entries : Entries (records_of before)) (away : Aways (records_of before)) (rises : Rises (records_of before)) (all : List Happened) (front : IsFront (records_of before) all) (single : OneGroup all) (held : Held all) (sent : JoinsSent all) where
  exact : (v : ViewId) (g : List ℕ) (p : ProviderId) → GoneCause before v g p → ExactCause all before v g p
  exact v g p (inl k) = inl k
  exact v g p (inr st) = inr (did_not_pass (records_of before) v g p seen firsts order entries away all front single held st rises sent)

  put_on : (r : Happened) (now : List Happened) → PutHolds now before r → PutHasCause all now before r
  put_on (happened.Put n v g i e) now k = λ first. entry_on (GoneCause before v g) (ExactCause all before v g) (exact v g) (λ h. state_held n h (earlier now before)) (state_held n g (earlier now before)) e (k first)
  put_on _ now k = tt

  since_on : (r : Happened) (A B : Type 0) → (A → B) → Since r A → Since r B
  since_on (happened.In n v ms) A B f k = tt
  since_on _ A B f k = f k

  each_on : (now : List Happened) → EachPut now before → EachPutHasCause all now before
  each_on [] k = tt
  each_on (r ∷ now) k =
      since_on r (PutHolds now before r × EachPut now before) (PutHasCause all now before r × EachPutHasCause all now before) (pair (each_on now)) k
    where
      pair : (EachPut now before → EachPutHasCause all now before) → PutHolds now before r × EachPut now before → PutHasCause all now before r × EachPutHasCause all now before
      pair rest k = (put_on r now k.0, rest k.1)

all_on : (all : List Happened) → OneGroup all → Held all → JoinsSent all → (h : History) → IsFront (records_of h) all → Seen (records_of h) → Firsts (records_of h) → Ordered (records_of h) → Entries (records_of h) → Aways (records_of h) → Rises (records_of h) → FailuresHaveCauses h → EachEvent (λ e before. EachPutHasCause all e.records before) h
all_on all single held sent [] front seen firsts order entries away rises k = tt
all_on all single held sent (e ∷ before) front seen firsts order entries away rises k =
    let s = seen_after e.records (records_of before) seen in
    let f = every_after BaseFirst e.records (records_of before) firsts in
    let o = every_after InOrder e.records (records_of before) order in
    let a = every_after FollowsEntering e.records (records_of before) entries in
    let b = every_after ElsewhereFails e.records (records_of before) away in
    let r = every_after RisesAt e.records (records_of before) rises in
    let m : IsFront (records_of before) all = (front.0 ++ e.records, front.1 ∙ sym (append_assoc front.0 e.records (records_of before))) in
    (each_on before s f o a b r all m single held sent e.records k.0, all_on all single held sent before m s f o a b r k.1)

pub failures_are_exact : FailuresAreExact
failures_are_exact c w k =
    let r = reached c w k in
    all_on (records_of w.before) (joined_in_one c w r) (held_asked c w r) (joins_sent c w r) w.before ([], refl) (traces_seen c w r) (firsts_of w.before (bases_come_first c w r)) (ordered_of w.before (heard_in_order c w r)) (entries_of w.before (bases_follow c w r)) (aways_of w.before (bases_away c w r)) (rises_of w.before (all_show c w r)) (failures_are_honest c w k)
