-- What a notice tells of the lists of its group.
use Rattle.std.specs.Prelude.{◌≡◌, ℕ, ◌+◌, List, Some, slice_get}
use Rattle.rsct_packet.specs.declared.ids.ViewId.{ViewId}
use Rattle.rsct_packet.specs.declared.ids.ProviderId.{ProviderId}
use Rattle.proposal_core.specs.declared.entry.Entry.{Entry}
use Rattle.proposal_core.specs.declared.group_state.GroupState.{GroupState}
use Rattle.client_callbacks.specs.Handed.{NoticeView}
use Rattle.session_clients.specs.Notices.{notice_to}
use Rattle.node_state.specs.declared.config.Config.{Config}
use Rattle.node_state.specs.declared.happened.Happened.TheVariants.{Heard}
use Rattle.agreed_table.specs.Pairs.{Pairs}
use Rattle.table_client.specs.Maps.{Lists, state_at, MapIs}
use Rattle.world_laws.specs.world_answers.Answers.{Answered, events_in, answered_after}
use Rattle.world_safety.specs.Events.{AllMayHappen}
use Rattle.world_safety.specs.HeardStates.{FoldAt}
use Rattle.table_laws.specs.Maps.{group_lists}

-- the entry at its place, and the state after it; and there is a map at the place
pub record IsOfLists (x : Lists) (n : NoticeView) : Type 0 where
  pub entry : slice_get (x.list n.view) n.place ≡ Some n.entry
  pub after : n.after ≡ state_at x n.view (n.place + 1)
  pub mapped : (m : Pairs) × MapIs x n.view n.place m

-- so does each notice of a run, with the fold of its node's list as the state that comes with it
abbrev pub NoticesAreOfLists : Type 0
NoticesAreOfLists =
    (c : Config) (es : List Answered) → AllMayHappen c (events_in es) → (p : ProviderId) (v : ViewId) (g : List ℕ) (i : ℕ) (e : Entry) (members : List ProviderId) (value : List ℕ) (state : GroupState)
    → FoldAt (answered_after c es).trace (Heard p v g i e members value) state → IsOfLists (group_lists c es g) (notice_to v g i e state p)
