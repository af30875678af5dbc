-- Who asks first for a group leads it, where it has no base.
use Rattle.std.specs.Prelude.{ℕ, ◌≡◌, ◌⊎◌, true, false, List, ◌∷◌, ◌++◌, Some}
use Rattle.rsct_packet.specs.declared.ids.ViewId.{ViewId}
use Rattle.rsct_packet.specs.Search.{Has}
use Rattle.proposal_core.specs.declared.group_state.GroupState.{GroupState}
use Rattle.node_state.specs.declared.config.Config.{Config}
use Rattle.node_state.specs.declared.happened.Happened.{Happened}
use Rattle.node_state.specs.declared.happened.Happened.TheVariants.{Base, Put}
use Rattle.node_state.specs.declared.packet.Body.TheVariants.{Lookup}
use Rattle.node_state.specs.declared.packet.Packet.{Packet}
use Rattle.node_state.specs.declared.state.Core.{Core}
use Rattle.node_state.specs.Settings.{is_fixed}
use Rattle.node_state.specs.State.{coordinates}
use Rattle.node_state.specs.Step.{is_used}
use Rattle.world_model.specs.declared.event.Event.{Event}
use Rattle.world_model.specs.declared.event.Event.TheVariants as event
use Rattle.world_model.specs.World.{World, kth_between}
use Rattle.run_safety.specs.Past.{History, EachRecord, earlier, records_of, history_of}
use Rattle.entry_laws.specs.source_order.Sources.{PutBefore}
use Rattle.world_laws.specs.world_answers.Answers.{Answered, events_in, answered_after}
use Rattle.world_safety.specs.Events.{run_of_events, AllMayHappen}
use Rattle.world_safety.specs.Mirrors.{core_at}

-- in this world the event gives the coordinator of the view a LOOKUP of the group, which it takes: this node asks
pub record LooksUp (w : World) (what : Event) (v : ViewId) (g : List ℕ) (asker : ℕ) : Type 0 where
  pub coordinator : Core
  pub up : core_at w.nodes v.coord ≡ Some coordinator
  pub coordinates_it : coordinates coordinator ≡ true
  pub sender : ℕ
  pub number : ℕ
  pub happens : what ≡ event.Deliver sender v.coord number
  pub packet : Packet
  pub given : kth_between w sender v.coord number ≡ Some packet
  pub to : packet.to ≡ v.coord
  pub from : packet.from ≡ asker
  pub looks_up : packet.body ≡ Lookup v g
  pub used : is_used coordinator packet v ≡ true

-- one of these events does so
pub record LookedUp (c : Config) (es : List Answered) (v : ViewId) (g : List ℕ) : Type 0 where
  pub before : List Answered
  pub event : Answered
  pub rest : List Answered
  pub at : es ≡ before ++ event ∷ rest
  pub asker : ℕ
  pub asks : LooksUp (answered_after c before) event.event v g asker

-- the first LOOKUP of the group in the view that the coordinator took is of this node
pub record FirstAsks (c : Config) (es : List Answered) (v : ViewId) (g : List ℕ) (asker : ℕ) : Type 0 where
  pub before : List Answered
  pub event : Answered
  pub rest : List Answered
  pub at : es ≡ before ++ event ∷ rest
  pub asks : LooksUp (answered_after c before) event.event v g asker
  pub first : LookedUp c before v g → ⊥

-- nobody notes a base of the group in the view
abbrev pub NoBase : ViewId → List ℕ → List Happened → Type 0
NoBase v g rs = (n : ℕ) (old : ViewId) (len : ℕ) (st : GroupState) → Has (Base n v g old len st) rs → ⊥

-- each first put into that list is this node's
abbrev pub RecordLed : ℕ → ViewId → List ℕ → List Happened → History → Happened → Type 0
RecordLed leader v g now before (Put n u h i e) = u ≡ v → h ≡ g → (n ≡ leader) ⊎ PutBefore (earlier now before) v g i
RecordLed leader v g now before _ = Unit {0}

-- outside of mode fixed, of each view and group
abbrev pub FirstAskersLead : Config → List Answered → Type 0
FirstAskersLead c es =
    is_fixed c.mode ≡ false → (v : ViewId) (g : List ℕ) (asker : ℕ) → FirstAsks c es v g asker → NoBase v g (records_of (history_of (run_of_events c es))) → EachRecord (RecordLed asker v g) (history_of (run_of_events c es))

-- in every run of events that may happen
abbrev pub FirstAskersAlwaysLead : Type 0
FirstAskersAlwaysLead = (c : Config) (es : List Answered) → AllMayHappen c (events_in es) → FirstAskersLead c es
