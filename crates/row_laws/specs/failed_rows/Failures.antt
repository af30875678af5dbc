-- Why entries say that providers failed: the default rows of those who failed, and what failure leaves name.
use Rattle.std.specs.Prelude.{◌≡◌, ◌⊎◌, ℕ, true, false, List, [], ◌∷◌, ◌++◌, Some}
use Rattle.std.specs.List.{list_any}
use Rattle.rsct_packet.specs.declared.ids.ViewId.{ViewId}
use Rattle.rsct_packet.specs.declared.ids.ProviderId.{ProviderId}
use Rattle.rsct_packet.specs.Ids.{same_view}
use Rattle.rsct_packet.specs.Providers.{among}
use Rattle.rsct_packet.specs.Search.{Has}
use Rattle.proposal_core.specs.declared.entry.RowVote.{RowVote}
use Rattle.proposal_core.specs.declared.entry.RowVote.TheVariants as row_vote
use Rattle.proposal_core.specs.declared.entry.Row.{Row}
use Rattle.proposal_core.specs.declared.entry.Closed.{Closed}
use Rattle.proposal_core.specs.declared.entry.Entry.{Entry}
use Rattle.proposal_core.specs.declared.entry.Entry.TheVariants.{Once, Begin, Phase, Approve, Reject, Late}
use Rattle.proposal_core.specs.declared.proposal.Cause.{Cause}
use Rattle.proposal_core.specs.declared.proposal.Cause.TheVariants.{Died, Gone, Cast}
use Rattle.proposal_core.specs.declared.proposal.Failure.{Failure}
use Rattle.proposal_core.specs.declared.proposal.Proposal.{Proposal}
use Rattle.proposal_core.specs.declared.proposal.Proposal.TheVariants.{Join, Leave, Fail, Expel, State, Message, Attributes, Reflect}
use Rattle.proposal_core.specs.declared.group_state.GroupState.{GroupState}
use Rattle.proposal_core.specs.Fold.{empty_state, present}
use Rattle.source_target.specs.Due.{allowed}
use Rattle.client_callbacks.specs.declared.told.Why.{Why}
use Rattle.session_state.specs.HandOn.{is_dissolved}
use Rattle.node_state.specs.declared.happened.Happened.{Happened}
use Rattle.node_state.specs.declared.happened.Happened.TheVariants.{In, Base, Put, Heard, Told}
use Rattle.world_model.specs.Run.{Happening}
use Rattle.run_safety.specs.Past.{History, records_of, earlier, fold_from, view_now, inc_now, EachEvent}
use Rattle.run_safety.specs.Stays.{Stay, stays, is_join_of, is_refused, client_of, goodbye_of, was_let_go}

-- ---- the group's state at a node, by its records

-- from the base of the view by what the node put since it entered it
abbrev pub state_of_stay : Stay → GroupState
state_of_stay x = fold_from x.view x.base 0 x.entries

abbrev pub state_in_stays : List Stay → GroupState
state_in_stays [] = empty_state
state_in_stays (x ∷ older) = state_of_stay x

abbrev pub state_held : ℕ → List ℕ → List Happened → GroupState
state_held n g rs = state_in_stays (stays n g rs)

-- ---- who is gone

-- in an earlier event its own client, whose call joined it, said goodbye at its node, and the call was taken
pub record SaidGoodbye (before : History) (p : ProviderId) : Type 0 where
  pub event : Happening
  pub newer : History
  pub older : History
  pub moment : before ≡ newer ++ event ∷ older
  pub said : goodbye_of p.node (client_of p older) event.event ≡ true
  pub taken : list_any is_refused event.records ≡ false

-- and so it was let go
abbrev pub GoodbyesLetGo : Type 0
GoodbyesLetGo = (before : History) (p : ProviderId) → SaidGoodbye before p → was_let_go p before ≡ true

-- the number is that of its join, its own node was in a view, and had put no entry that names it in a join, of any group
pub record IsRefused (rs : List Happened) (p : ProviderId) (number : ℕ) : Type 0 where
  pub join : number ≡ p.join
  pub in_view : (v : ViewId) × (view_now p.node rs ≡ Some v)
  pub unput : (v : ViewId) (g : List ℕ) (i : ℕ) (e : Entry) → Has (Put p.node v g i e) rs → is_join_of p e ≡ true → ⊥

-- At some moment since it entered the view the provider's node, which was in the view of `last` before and in the provider's
-- incarnation, noted the base, from another view.
pub record FromElsewhere (rs : List Happened) (p : ProviderId) (g : List ℕ) (stay last : Stay) : Type 0 where
  pub from : ViewId
  pub len : ℕ
  pub newer : List Happened
  pub older : List Happened
  pub moment : rs ≡ newer ++ Base p.node stay.view g from len stay.base ∷ older
  pub entered : Stay
  pub rest : List Stay
  pub stays_so : stays p.node g older ≡ entered ∷ last ∷ rest
  pub apart : same_view from last.view ≡ false
  pub inc : inc_now p.node older ≡ p.inc

-- Its own node has just entered a view, and put nothing there yet; it had put its join in the group, and held it there up to then; and
-- it is not in the base there, or the base came from another view than the node's.
pub record IsCut (rs : List Happened) (p : ProviderId) : Type 0 where
  pub group : List ℕ
  pub stay : Stay
  pub last : Stay
  pub rest : List Stay
  pub stays_so : stays p.node group rs ≡ stay ∷ last ∷ rest
  pub empty : stay.entries ≡ []
  pub joined : (v : ViewId) × (i : ℕ) × (e : Entry) × Has (Put p.node v group i e) rs × (is_join_of p e ≡ true)
  pub held : among (present (state_of_stay last)) p ≡ true
  pub cut : (among (present stay.base) p ≡ false) ⊎ FromElsewhere rs p group stay last

-- it was told that its join was refused, or that its group was dissolved
pub record WasTold (rs : List Happened) (p : ProviderId) : Type 0 where
  pub number : ℕ
  pub why : Why
  pub newer : List Happened
  pub older : List Happened
  pub moment : rs ≡ newer ++ Told p number why ∷ older
  pub ends : IsRefused older p number ⊎ ((is_dissolved why ≡ true) × IsCut older p)

-- its own node put an entry after which it is neither member nor running joiner, as it was before, or was by that entry; and it heard
-- that entry, before its node put anything else of the group or left the view
pub record TakenOff (rs : List Happened) (p : ProviderId) : Type 0 where
  pub group : List ℕ
  pub view : ViewId
  pub place : ℕ
  pub entry : Entry
  pub members : List ProviderId
  pub value : List ℕ
  pub newer : List Happened
  pub between : List Happened
  pub older : List Happened
  pub moment : rs ≡ newer ++ Heard p view group place entry members value ∷ (between ++ Put p.node view group place entry ∷ older)
  pub still : stays p.node group (between ++ Put p.node view group place entry ∷ older) ≡ stays p.node group (Put p.node view group place entry ∷ older)
  pub was : (among (present (state_held p.node group older)) p ≡ true) ⊎ (is_join_of p entry ≡ true)
  pub off : among (present (state_held p.node group (Put p.node view group place entry ∷ older))) p ≡ false

-- a provider is none of its node any more, and it is recorded why
abbrev pub IsOver : List Happened → ProviderId → Type 0
IsOver rs p = WasTold rs p ⊎ TakenOff rs p

-- at some moment the provider's own node was in the view and held it as a member or a running joiner, although it was over
pub record StoodThere (rs : List Happened) (v : ViewId) (g : List ℕ) (p : ProviderId) : Type 0 where
  pub newer : List Happened
  pub older : List Happened
  pub moment : rs ≡ newer ++ older
  pub stay : Stay
  pub rest : List Stay
  pub stays_so : stays p.node g older ≡ stay ∷ rest
  pub view : stay.view ≡ v
  pub holds : among (present (state_of_stay stay)) p ≡ true
  pub over : IsOver older p

-- its own node gave it up
abbrev pub GoneCause : History → ViewId → List ℕ → ProviderId → Type 0
GoneCause before v g p = SaidGoodbye before p ⊎ StoodThere (records_of before) v g p

-- ---- what entries say

-- a row of who failed has the default vote of the state's attributes, and the provider failed in the state or is gone
abbrev pub RowFails : (ProviderId → Type 0) → GroupState → ProviderId → RowVote → Type 0
RowFails gone s p (row_vote.Cast v) = Unit {0}
RowFails gone s p (row_vote.Late d) = Unit {0}
RowFails gone s p (row_vote.Failed d) = (d ≡ s.attrs.default_vote) × ((among s.failed p ≡ true) ⊎ gone p)

abbrev pub RowsFail : (ProviderId → Type 0) → GroupState → Closed → Type 0
RowsFail gone s c = (r : Row) → Has r c.rows → RowFails gone s r.provider r.vote

-- a node without a member of the source, where the node that puts the entry has the source in these states
pub record CastOut (source : List ℕ → GroupState) (s : GroupState) (p : ProviderId) : Type 0 where
  pub group : List ℕ
  pub named : s.attrs.source ≡ Some group
  pub lacks : allowed (Some (source group)) p.node ≡ false

abbrev pub CauseHolds : (ProviderId → Type 0) → (List ℕ → GroupState) → GroupState → ProviderId → Cause → Type 0
CauseHolds gone source s p Died = among s.failed p ≡ true
CauseHolds gone source s p Gone = gone p
CauseHolds gone source s p Cast = CastOut source s p

-- a failure leave names members alone, each with a cause that holds
abbrev pub LeavesFail : (ProviderId → Type 0) → (List ℕ → GroupState) → GroupState → Proposal → Type 0
LeavesFail gone source s (Fail out) =
    (f : Failure) → Has f out → (among s.members f.provider ≡ true) × CauseHolds gone source s f.provider f.cause
LeavesFail gone source s (Join ps attrs n) = Unit {0}
LeavesFail gone source s (Leave p r) = Unit {0}
LeavesFail gone source s (Expel p r out) = Unit {0}
LeavesFail gone source s (State p r value) = Unit {0}
LeavesFail gone source s (Message p r bytes) = Unit {0}
LeavesFail gone source s (Attributes p r attrs) = Unit {0}
LeavesFail gone source s (Reflect v i value) = Unit {0}

abbrev pub EntryFails : (ProviderId → Type 0) → (List ℕ → GroupState) → GroupState → Entry → Type 0
EntryFails gone source s (Once x) = LeavesFail gone source s x
EntryFails gone source s (Begin x) = LeavesFail gone source s x
EntryFails gone source s (Phase c) = RowsFail gone s c
EntryFails gone source s (Approve c) = RowsFail gone s c
EntryFails gone source s (Reject c) = RowsFail gone s c
EntryFails gone source s (Late proto phase ps) = Unit {0}

-- no node put that place before
abbrev pub IsFirst : List Happened → ViewId → List ℕ → ℕ → Type 0
IsFirst rs v g i = (m : ℕ) (e : Entry) → Has (Put m v g i e) rs → ⊥

-- who puts a place first has the causes, in its state before it
abbrev pub PutHolds : List Happened → History → Happened → Type 0
PutHolds now before (Put n v g i e) =
    IsFirst (earlier now before) v g i → EntryFails (GoneCause before v g) (λ h. state_held n h (earlier now before)) (state_held n g (earlier now before)) e
PutHolds now before _ = Unit {0}

-- what is put in an event before a view is entered there was put by others before: that is not spoken of here
abbrev pub Since : Happened → Type 0 → Type 0
Since (In n v ms) rest = Unit {0}
Since _ rest = rest

abbrev pub EachPut : List Happened → History → Type 0
EachPut [] before = Unit {0}
EachPut (r ∷ now) before = Since r (PutHolds now before r × EachPut now before)

-- Who is said to have failed did: where a place is put first, a row of who failed has the default vote, and the provider is on
-- the failed list or gone; and a failure leave names members alone, each with its cause.
abbrev pub FailuresHaveCauses : History → Type 0
FailuresHaveCauses h = EachEvent (λ e before. EachPut e.records before) h
