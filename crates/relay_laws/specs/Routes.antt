-- By which nodes an envelope came.
use Rattle.std.specs.Prelude.{ℕ, ◌≡◌, ◌+◌, List, [], ◌∷◌, ◌++◌, length, Some}
use Rattle.node_reach.specs.Hops.{next_hop, IsNextHop}
use Rattle.node_state.specs.declared.config.Config.{Config}
use Rattle.node_state.specs.declared.state.Core.{Core}
use Rattle.route_state.specs.declared.front.Front.{Front}
use Rattle.route_state.specs.Envelope.{max_hops}
use Rattle.world_laws.specs.world_answers.Answers.{Answered}
use Rattle.relay_model.specs.Leaving.{Parcel, Bare, Wrapped}
use Rattle.relay_model.specs.Relays.{core_in, relayed_after}
use Rattle.relay_laws.specs.Carrying.{EachDatagram}

-- at a moment of the run the next hop of the one node to the target was the other
pub record Hopped (c : Config) (es : List Answered) (target from to : ℕ) : Type 0 where
  pub front : List Answered
  pub rest : List Answered
  pub whole : es ≡ front ++ rest
  pub core : Core
  pub up : core_in (relayed_after c front).world from ≡ Some core
  pub hop : next_hop core.reach target ≡ Some to
  -- the least that is second on a shortest walk of its rows
  pub shortest : IsNextHop core.reach target to

-- each node was the next hop of the one behind it; the last of them comes first
abbrev pub AreHops : Config → List Answered → ℕ → ℕ → List ℕ → Type 0
AreHops c es target to [] = Unit {0}
AreHops c es target to (n ∷ ns) = Hopped c es target n to × AreHops c es target n ns

-- the node that is behind all others
abbrev pub first_of : ℕ → List ℕ → ℕ
first_of n [] = n
first_of n (m ∷ ns) = first_of m ns

-- An envelope that goes from one node to another: the nodes by which it came to the one, which had it from the origin. With each
-- step a hop less is left, of 31: so it is sent 32 times at most.
pub record Routed (c : Config) (es : List Answered) (a b : ℕ) (f : Front) : Type 0 where
  pub before : List ℕ
  pub hops : AreHops c es f.target b (a ∷ before)
  pub origin : first_of a before ≡ f.origin
  pub left : length before + f.hops ≡ max_hops

abbrev pub RoutedBy : Config → List Answered → ℕ → ℕ → Parcel → Type 0
RoutedBy c es a b (Bare p) = Unit {0}
RoutedBy c es a b (Wrapped f p) = Routed c es a b f

-- after all events each envelope is so
abbrev pub EnvelopesAreRouted : Type 0
EnvelopesAreRouted = (c : Config) (es : List Answered) → EachDatagram (RoutedBy c es) (relayed_after c es).pairs
