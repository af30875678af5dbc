-- What clients are handed, and how they answer.
use Rattle.std.specs.Prelude.{◌≡◌, ℕ, Bool, ◌-◌, List, [], ◌∷◌, length, Option, Some, None, nat_lt, slice_get, if◌then◌else◌}
use Rattle.std.specs.Option.{option_flatten}
use Rattle.rsct_packet.specs.declared.ids.ProviderId.{ProviderId}
use Rattle.rsct_packet.specs.declared.ids.ViewId.{ViewId}
use Rattle.proposal_core.specs.declared.entry.Entry.{Entry}
use Rattle.proposal_core.specs.declared.group_state.GroupState.{GroupState}
use Rattle.proposal_core.specs.declared.group_state.Running.{Running}
use Rattle.proposal_core.specs.declared.entry.Vote.TheVariants.{Approve}
use Rattle.client_callbacks.specs.declared.notice.Notice.{Notice}
use Rattle.client_callbacks.specs.declared.told.Told.{Told}
use Rattle.client_callbacks.specs.declared.votes.VoteItem.{VoteItem}
use Rattle.client_callbacks.specs.declared.ballot.Filled.{Filled}
use Rattle.client_callbacks.specs.Ballots.{BallotView, filled_with}

-- a notice, as a plain value
pub record NoticeView : Type 0 where
  pub provider : ProviderId
  pub view : ViewId
  pub group : List ℕ
  pub place : ℕ
  pub entry : Entry
  pub after : GroupState
  pub votes : Bool

abbrev pub notice_of : Notice → NoticeView
notice_of n = record { provider = n.provider; view = n.view; group = n.group.now; place = n.place; entry = n.entry.now; after = n.after.now; votes = n.votes }

-- what a client is handed, with what it filled into the ballot that comes with the notice, or told
pub data Handed : Type 0 where
  Notified : (n : NoticeView) (filled : Option Filled) → Handed
  Informed : (t : Told) → Handed

-- the phase that runs, 0 where nothing does
abbrev pub phase_in : Option Running → ℕ
phase_in None = 0
phase_in (Some run) = run.phase

-- the item of a phase is that of its number, the last one for later phases
unfoldable pub item_at : List (Option VoteItem) → ℕ → Option VoteItem
item_at items phase = option_flatten (slice_get items (if nat_lt (phase - 1) (length items) then phase - 1 else length items - 1))

abbrev pub filled_of : VoteItem → Filled
filled_of i = record { vote = i.vote; value = i.value; message = None }

unfoldable pub filled_by : Option VoteItem → BallotView → BallotView
filled_by None b = b
filled_by (Some i) b = filled_with b (filled_of i)

-- the ballot after a client that votes by these items
unfoldable pub voted_by : List (Option VoteItem) → GroupState → BallotView → BallotView
voted_by items after b = filled_by (item_at items (phase_in after.running)) b

-- a client that votes by items fills what they say, another one anything
abbrev pub Fills : Option (List (Option VoteItem)) → GroupState → BallotView → BallotView → Type 0
Fills None after b c = Unit {0}
Fills (Some items) after b c = c ≡ voted_by items after b

-- the items of a client that always approves
abbrev pub steady_items : List (Option VoteItem)
steady_items = Some (record { vote = Approve; value = None }) ∷ []

-- opens each word of this file, for a computation
unfoldable pub handed_opens : Unit {0}
unfolding item_at filled_by voted_by
handed_opens = tt
