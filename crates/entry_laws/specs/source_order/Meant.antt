-- Which attributes a join begins with: those of its request, or the group's.
use Rattle.std.specs.Prelude.{ℕ, ◌≡◌, ◌⊎◌, ◌&&◌, Bool, true, false, IsTrue, List, [], ◌∷◌, Option, Some, is_none}
use Rattle.rsct_packet.specs.declared.ids.ViewId.{ViewId}
use Rattle.rsct_packet.specs.declared.ids.ProviderId.{ProviderId}
use Rattle.rsct_packet.specs.Lists.{is_empty}
use Rattle.rsct_packet.specs.Providers.{among}
use Rattle.rsct_packet.specs.Search.{Has}
use Rattle.group_attr.specs.declared.attrs.Attrs.{Attrs}
use Rattle.proposal_core.specs.declared.proposal.Proposal.TheVariants.{Join}
use Rattle.proposal_core.specs.declared.group_state.GroupState.{GroupState}
use Rattle.node_state.specs.declared.config.Config.{Config}
use Rattle.node_state.specs.declared.happened.Happened.TheVariants.{Asked}
use Rattle.node_state.specs.Step.{NodeEvent, Given}
use Rattle.world_model.specs.declared.event.Event.{Event}
use Rattle.world_model.specs.declared.event.Event.TheVariants as event
use Rattle.run_safety.specs.Past.{History, records_of, view_now, state_now}
use Rattle.step_refinement.specs.Tied.{Scene}
use Rattle.step_refinement.specs.Runs.{Reached, Nothing, AllStart, Starts, Stops, Steps, Notes}

-- the node is given a packet
abbrev pub IsDelivery : ℕ → Option Event → Type 0
IsDelivery n (Some (event.Deliver a b k)) = b ≡ n
IsDelivery n _ = ⊥

-- nobody is there, and nothing runs
abbrev pub is_idle : GroupState → Bool
is_idle st = is_empty st.members && is_none st.running

-- In this event, with these before it, node n, which is in the view, is given a packet, and decides a request to join that asks for
-- these attributes; and the group is empty and idle then, or it is not.
pub record DecidedIn (what : Option Event) (before : History) (n : ℕ) (v : ViewId) (g : List ℕ) (p : ProviderId) (idle : Bool) (a : Attrs) : Type 0 where
  pub given : IsDelivery n what
  pub there : view_now n (records_of before) ≡ Some v
  pub joiners : List ProviderId
  pub len : Option ℕ
  pub asked : Has (Asked p p.join g (Join joiners a len)) (records_of before)
  pub named : IsTrue (among joiners p)
  pub state : is_idle (state_now n v g (records_of before)) ≡ idle

-- in one of these events
abbrev pub Decided : History → ℕ → ViewId → List ℕ → ProviderId → Bool → Attrs → Type 0
Decided [] n v g p idle a = ⊥
Decided (e ∷ before) n v g p idle a = DecidedIn e.event before n v g p idle a ⊎ Decided before n v g p idle a

-- those of the request where it was decided in an empty idle group, else those that the group has
abbrev pub meant : Bool → Attrs → Attrs → Attrs
meant true asked own = asked
meant false asked own = own

-- ---- runs whose deliveries are noted

-- a packet that a node is given is noted as a delivery to it
abbrev pub DeliveryNoted : ℕ → NodeEvent → Event → Type 0
DeliveryNoted n (Given p) v = IsDelivery n (Some v)
DeliveryNoted n _ v = Unit {0}

-- each delivery of the run is
abbrev pub DeliveriesAreNoted : (c : Config) (w : Scene) → Reached c w → Type 0
DeliveriesAreNoted c _ Nothing = Unit {0}
DeliveriesAreNoted c _ (AllStart fixed) = Unit {0}
DeliveriesAreNoted c _ (Starts w n e k free real down) = DeliveriesAreNoted c w k
DeliveriesAreNoted c _ (Stops w n e s k up) = DeliveriesAreNoted c w k
DeliveriesAreNoted c _ (Steps w n f s e v k up arises) = DeliveryNoted n e v × DeliveriesAreNoted c w k
DeliveriesAreNoted c _ (Notes w e rs k notes) = DeliveriesAreNoted c w k
