-- Where lists start: at a node that does not lead the group, where it was told; at its leader, at what all members hold.
use Rattle.std.specs.Prelude.{ℕ, ◌≡◌, ◌≢◌, ◌≤◌, ◌⊎◌, true, false, List, ◌∷◌, ◌++◌, Some}
use Rattle.rsct_packet.specs.declared.ids.ViewId.{ViewId}
use Rattle.rsct_packet.specs.declared.ids.Member.{Member}
use Rattle.rsct_packet.specs.Search.{Has}
use Rattle.node_state.specs.declared.config.Config.{Config}
use Rattle.node_state.specs.declared.packet.Packet.{Packet}
use Rattle.node_state.specs.declared.state.Core.{Core}
use Rattle.node_state.specs.State.{len_of, leads}
use Rattle.node_state.specs.Step.{NodeEvent, Given}
use Rattle.world_model.specs.declared.event.Event.{Event}
use Rattle.world_model.specs.declared.event.Event.TheVariants as event
use Rattle.world_model.specs.World.{World, kth_between}
use Rattle.entry_laws.specs.closing_rows.Rows.{start_of, Tells, Acknowledges}
use Rattle.world_laws.specs.world_answers.Answers.{Answered, answered_after}
use Rattle.world_safety.specs.Mirrors.{core_at}

-- in this world the event gives the node, which is in the view, a packet of which this holds
pub record IsGiven (w : World) (what : Event) (n : ℕ) (v : ViewId) (Says : Core → NodeEvent → Type 0) : Type 0 where
  pub core : Core
  pub up : core_at w.nodes n ≡ Some core
  pub view : core.views.view ≡ v
  pub sender : ℕ
  pub number : ℕ
  pub happens : what ≡ event.Deliver sender n number
  pub packet : Packet
  pub given : kth_between w sender n number ≡ Some packet
  pub says : Says core (Given packet)

-- one of these events does so
pub record WasGiven (c : Config) (es : List Answered) (n : ℕ) (v : ViewId) (Says : Core → NodeEvent → Type 0) : Type 0 where
  pub before : List Answered
  pub event : Answered
  pub rest : List Answered
  pub at : es ≡ before ++ event ∷ rest
  pub gives : IsGiven (answered_after c before) event.event n v Says

-- in the view the node took an ENTRY that says that all members hold so many entries of the group
abbrev pub ToldToForget : Config → List Answered → ℕ → ViewId → List ℕ → ℕ → Type 0
ToldToForget c es n v g k = WasGiven c es n v (λ s e. Tells s e g k)

-- the greatest number of which this holds, and 0 where it holds of none
pub record IsGreatest (Said : ℕ → Type 0) (k : ℕ) : Type 0 where
  pub all : (i : ℕ) → Said i → i ≤ k
  pub one : (k ≡ 0) ⊎ Said k

-- at each node that is up, of each group that it does not lead: its list starts at the greatest place that it was told in its view
abbrev pub ListsStartAsTold : Config → List Answered → Type 0
ListsStartAsTold c es =
    (n : ℕ) (s : Core) → core_at (answered_after c es).nodes n ≡ Some s → (g : List ℕ) → leads s g ≡ false → IsGreatest (ToldToForget c es n s.views.view g) (start_of s g)

-- in the view the node, as the leader of the group, took an ACK in which the member says that it holds so many entries
abbrev pub HasAcknowledged : Config → List Answered → ℕ → ViewId → List ℕ → ℕ → ℕ → Type 0
HasAcknowledged c es n v g m k = WasGiven c es n v (λ s e. Acknowledges s e g m k)

-- how many entries of the group a member of its view holds, as the node knows it: itself as many as its list has, and another one as
-- many as it acknowledged at most
abbrev pub KnowsHeld : Config → List Answered → Core → List ℕ → ℕ → ℕ → Type 0
KnowsHeld c es s g m k =
    ((m ≡ s.views.me) × (k ≡ len_of s g)) ⊎ ((m ≢ s.views.me) × IsGreatest (HasAcknowledged c es s.views.me s.views.view g m) k)

-- the least of that, over the members of its view
pub record IsLeastHeld (c : Config) (es : List Answered) (s : Core) (g : List ℕ) (k : ℕ) : Type 0 where
  pub all : (m : Member) → Has m s.views.members → (i : ℕ) × KnowsHeld c es s g m.node i × (k ≤ i)
  pub one : (m : Member) × Has m s.views.members × KnowsHeld c es s g m.node k

-- at each node that is up, of each group that it leads: its list starts at the least number of entries that a member holds
abbrev pub LedListsStartAsHeld : Config → List Answered → Type 0
LedListsStartAsHeld c es =
    (n : ℕ) (s : Core) → core_at (answered_after c es).nodes n ≡ Some s → (g : List ℕ) → leads s g ≡ true → IsLeastHeld c es s g (start_of s g)
