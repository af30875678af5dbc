-- The tally of one phase.
use Rattle.std.specs.Prelude.{ℕ, Bool, true, false, ◌==◌, ◌&&◌, ◌+◌, List, [], ◌∷◌, map, filter, find, Option, Some, None, nat_lt, is_none, slice_get, if◌then◌else◌}
use Rattle.std.specs.List.{list_any}
use Rattle.rsct_packet.specs.declared.ids.ProviderId.{ProviderId}
use Rattle.rsct_packet.specs.Ids.{last_u32}
use Rattle.rsct_packet.specs.Providers.{same_provider, AreProviders}
use Rattle.group_attr.specs.declared.attrs.DefaultVote.{DefaultVote}
use Rattle.group_attr.specs.declared.attrs.DefaultVote.TheVariants as default_vote
use Rattle.proposal_core.specs.declared.entry.Vote.{Vote}
use Rattle.proposal_core.specs.declared.entry.Vote.TheVariants.{Approve, Continue, Reject}
use Rattle.proposal_core.specs.declared.entry.RowVote.{RowVote}
use Rattle.proposal_core.specs.declared.entry.RowVote.TheVariants as row_vote
use Rattle.proposal_core.specs.declared.entry.Row.{Row}
use Rattle.vote_phases.specs.declared.voter.Voter.{Voter}
use Rattle.vote_phases.specs.declared.tally.Cast.{Cast}
use Rattle.vote_phases.specs.declared.tally.Cast.TheVariants.{Recorded, NotVoter, Already}

-- the voters in order, with what stands for each; the limit in ticks, 0 for none, and the ticks counted
pub record TallyView : Type 0 where
  pub voters : List Voter
  pub default_vote : DefaultVote
  pub limit : ℕ
  pub count : ℕ

-- voters that differ, at most 64
abbrev pub AreVoters : List Voter → Type 0
AreVoters xs = AreProviders (map (λ x. x.provider) xs)

abbrev pub no_vote : ProviderId → Voter
no_vote p = record { provider = p; vote = None }

abbrev pub tally_new : List ProviderId → DefaultVote → ℕ → TallyView
tally_new ps d limit = record { voters = map no_vote ps; default_vote = d; limit = limit; count = 0 }

abbrev pub is_voter : ProviderId → Voter → Bool
is_voter p x = same_provider x.provider p

-- what stands for a voter already stays
abbrev pub or_vote : RowVote → Option RowVote → Option RowVote
or_vote v None = Some v
or_vote v (Some w) = Some w

abbrev pub given : RowVote → Voter → Voter
given v x = record x { vote = or_vote v x.vote }

abbrev pub given_to : ProviderId → RowVote → Voter → Voter
given_to p v x = if is_voter p x then given v x else x

abbrev pub gives : ProviderId → RowVote → TallyView → TallyView
gives p v t = record t { voters = map (given_to p v) t.voters }

abbrev pub tally_cast : ProviderId → Vote → TallyView → TallyView
tally_cast p v t = gives p (row_vote.Cast v) t

abbrev pub tally_fail : ProviderId → TallyView → TallyView
tally_fail p t = gives p (row_vote.Failed t.default_vote) t

abbrev pub is_open : Voter → Bool
is_open x = is_none x.vote

abbrev pub has_open : TallyView → Bool
has_open t = list_any is_open t.voters

-- the voters without a row, in order
abbrev pub open_voters : TallyView → List ProviderId
open_voters t = map (λ x. x.provider) (filter is_open t.voters)

-- the count after one more tick; it stands still at its type's last value
abbrev pub counted : ℕ → ℕ
counted n = if nat_lt n last_u32 then n + 1 else n

-- a tick after n brings the count to the limit
abbrev pub passes : ℕ → ℕ → Bool
passes limit n = nat_lt 0 limit && (counted n == limit)

-- whether the next tick passes the limit for someone
abbrev pub expires : TallyView → Bool
expires t = passes t.limit t.count && has_open t

abbrev pub late_if : Bool → DefaultVote → List Voter → List Voter
late_if true d xs = map (given (row_vote.Late d)) xs
late_if false d xs = xs

abbrev pub tally_tick : TallyView → TallyView
tally_tick t = record t { count = counted t.count; voters = late_if (passes t.limit t.count) t.default_vote t.voters }

abbrev pub vote_of_default : DefaultVote → Vote
vote_of_default default_vote.Approve = Approve
vote_of_default default_vote.Reject = Reject

-- the vote that a row stands for
abbrev pub vote_of_row : RowVote → Vote
vote_of_row (row_vote.Cast v) = v
vote_of_row (row_vote.Late d) = vote_of_default d
vote_of_row (row_vote.Failed d) = vote_of_default d

abbrev pub answer_of : Option Voter → Cast
answer_of None = NotVoter
answer_of (Some x) = elim x.vote [ None ↦ Recorded | Some v ↦ Already (vote_of_row v) ]

-- what a vote of this provider becomes
abbrev pub cast_answer : ProviderId → TallyView → Cast
cast_answer p t = answer_of (find (is_voter p) t.voters)

abbrev pub row_in : Option Voter → Option Row
row_in None = None
row_in (Some x) = elim x.vote [ None ↦ None | Some v ↦ Some (record { provider = x.provider; vote = v }) ]

-- the row of a voter by its place; none while it has none, or where no voter stands there
abbrev pub row_at : ℕ → TallyView → Option Row
row_at i t = row_in (slice_get t.voters i)

abbrev pub row_or : Option Row → List Row → List Row
row_or None rows = rows
row_or (Some row) rows = row ∷ rows

-- a row stands for it, and for a vote that passes the test
abbrev pub voter_stands : (Vote → Bool) → Voter → Bool
voter_stands test x = elim x.vote [ None ↦ false | Some v ↦ test (vote_of_row v) ]

-- the rows in voters' order, of those who have one
abbrev pub rows_of : List Voter → List Row
rows_of [] = []
rows_of (x ∷ xs) = row_or (row_in (Some x)) (rows_of xs)

abbrev pub is_reject : Vote → Bool
is_reject Approve = false
is_reject Continue = false
is_reject Reject = true

abbrev pub is_continue : Vote → Bool
is_continue Approve = false
is_continue Continue = true
is_continue Reject = false

-- one of the rows stands for a vote that passes the test
abbrev pub any_stands : (Vote → Bool) → List Row → Bool
any_stands test rows = list_any (λ r. test (vote_of_row r.vote)) rows

-- the tally of rows: REJECT if any stands for it, else CONTINUE if any does, else APPROVE
abbrev pub tally_of : List Row → Vote
tally_of rows = if any_stands is_reject rows then Reject else if any_stands is_continue rows then Continue else Approve

-- none while a voter has no row
abbrev pub outcome : TallyView → Option Vote
outcome t = if has_open t then None else Some (tally_of (rows_of t.voters))
