-- Default votes of voters that were late: whose time was over, by the ticks of the node that puts the entry first.
use Rattle.std.specs.Prelude.{ℕ, ◌+◌, ◌==◌, ◌&&◌, ◌≤◌, ◌<◌, ◌≡◌, Bool, true, false, List, [], ◌∷◌, Option, Some, None, if◌then◌else◌}
use Rattle.std.specs.List.{list_any}
use Rattle.std.specs.Str.{bytes_eq}
use Rattle.rsct_packet.specs.declared.ids.ViewId.{ViewId}
use Rattle.rsct_packet.specs.declared.ids.ProviderId.{ProviderId}
use Rattle.rsct_packet.specs.Search.{Has}
use Rattle.proposal_core.specs.declared.entry.RowVote.{RowVote}
use Rattle.proposal_core.specs.declared.entry.RowVote.TheVariants as row_vote
use Rattle.proposal_core.specs.declared.entry.Row.{Row}
use Rattle.proposal_core.specs.declared.entry.Closed.{Closed}
use Rattle.proposal_core.specs.declared.entry.Entry.{Entry}
use Rattle.proposal_core.specs.declared.entry.Entry.TheVariants.{Once, Begin, Phase, Approve, Reject, Late}
use Rattle.proposal_core.specs.declared.group_state.GroupState.{GroupState}
use Rattle.proposal_core.specs.Fold.{empty_state, voters}
use Rattle.node_state.specs.declared.happened.Happened.{Happened}
use Rattle.node_state.specs.declared.happened.Happened.TheVariants as happened
use Rattle.node_state.specs.Leading.{limit_of}
use Rattle.world_model.specs.declared.event.Event.{Event}
use Rattle.world_model.specs.declared.event.Event.TheVariants.{Tick}
use Rattle.world_model.specs.Run.{Happening}
use Rattle.run_safety.specs.Past.{History, earlier, fold_from, Within, EachEvent}
use Rattle.run_safety.specs.Stays.{Stay, stays}
use Rattle.run_safety.specs.SafeHeard.{enters}

-- ---- the state before an entry

abbrev pub stay_state : List Stay → GroupState
stay_state [] = empty_state
stay_state (s ∷ older) = fold_from s.view s.base 0 s.entries

-- the group's state at the node: the base of the view that it is in, and all that it put there
abbrev pub state_here : ℕ → List ℕ → List Happened → GroupState
state_here n g rs = stay_state (stays n g rs)

-- ---- ticks

-- 1 for a tick of the node
abbrev pub tick_of : ℕ → Option Event → ℕ
tick_of n None = 0
tick_of n (Some (Tick m)) = if m == n then 1 else 0
tick_of n (Some _) = 0

abbrev pub opens_phase : Entry → Bool
opens_phase (Begin x) = true
opens_phase (Phase c) = true
opens_phase _ = false

-- the node puts an entry that opens a phase of the group
abbrev pub opens : ℕ → List ℕ → Happened → Bool
opens n g (happened.Put m v h i e) = m == n && (bytes_eq h g && opens_phase e)
opens n g _ = false

-- with an event and its records so far: a node that enters a view in it counts anew, this event included; one that opens
-- a phase counts anew from the next event on
abbrev pub ticks_with : ℕ → List ℕ → Option Event → List Happened → ℕ → ℕ
ticks_with n g event now older =
    if list_any (enters n) now then tick_of n event else if list_any (opens n g) now then 0 else tick_of n event + older

-- the ticks of the node since it opened the group's phase or entered its view, whichever was later
abbrev pub ticks_of : ℕ → List ℕ → History → ℕ
ticks_of n g [] = 0
ticks_of n g (e ∷ before) = ticks_with n g e.event e.records (ticks_of n g before)

-- ---- what an entry says of who was late

-- there is a time limit, of the source's changes for a reflection, and so many ticks are over
pub record TimeIsOver (st : GroupState) (ticks : ℕ) : Type 0 where
  pub limited : 0 < limit_of st.attrs st.running
  pub over : limit_of st.attrs st.running ≤ ticks

-- a row of one who was late has the default vote, and its time was over
abbrev pub LateVote : GroupState → ℕ → RowVote → Type 0
LateVote st ticks (row_vote.Late d) = (d ≡ st.attrs.default_vote) × TimeIsOver st ticks
LateVote st ticks _ = Unit {0}

abbrev pub LateRows : GroupState → ℕ → Closed → Type 0
LateRows st ticks c = (r : Row) → Has r c.rows → LateVote st ticks r.vote

-- who is announced as late is a voter, and its time is over
abbrev pub EntryLate : GroupState → ℕ → Entry → Type 0
EntryLate st ticks (Once x) = Unit {0}
EntryLate st ticks (Begin x) = Unit {0}
EntryLate st ticks (Phase c) = LateRows st ticks c
EntryLate st ticks (Approve c) = LateRows st ticks c
EntryLate st ticks (Reject c) = LateRows st ticks c
EntryLate st ticks (Late proto phase ps) = TimeIsOver st ticks × ((p : ProviderId) → Has p ps → Has p (voters st))

-- ---- over records

-- a node put that place of the view's list
abbrev pub PutBefore : List Happened → ViewId → List ℕ → ℕ → Type 0
PutBefore rs v g i = (m : ℕ) × (f : Entry) × Has (happened.Put m v g i f) rs

-- what the node that puts an entry first says of who was late, by its state before and its ticks up to this event
abbrev pub RecordLate : Option Event → List Happened → History → Happened → Type 0
RecordLate event now before (happened.Put n v g i e) =
    (PutBefore (earlier now before) v g i → ⊥) → EntryLate (state_here n g (earlier now before)) (ticks_with n g event now (ticks_of n g before)) e
RecordLate event now before _ = Unit {0}

-- Each default vote of one who was late, and each announcement of who is late, where the entry is first put: the vote is
-- the default of the state before, there is a time limit, and at least so many ticks of that node stand between its
-- opening of the phase, or its entering the view, and this put: the put's own event is counted, and the opening's own
-- where the node entered the view in it.
abbrev pub LateHadTime : History → Type 0
LateHadTime h = EachEvent (λ (e : Happening) before. Within (RecordLate e.event) e.records before) h
