-- Runs in which nothing is relayed: those of the direct world, datagram for datagram.
use Rattle.std.specs.Prelude.{◌≡◌, ◌≢◌, List, map}
use Rattle.rsct_packet.specs.Search.{Has}
use Rattle.node_state.specs.declared.config.Config.{Config}
use Rattle.node_state.specs.declared.packet.Packet.{Packet}
use Rattle.world_model.specs.World.{World}
use Rattle.world_model.specs.World as direct
use Rattle.world_laws.specs.world_runs.Runs.{SameRun}
use Rattle.world_laws.specs.world_answers.Answers.{Answered, answered_after}
use Rattle.relay_model.specs.Leaving.{Bare}
use Rattle.relay_model.specs.Relays.{Pair, Relayed, relayed_after}

-- the packets from one node to another, as datagrams
abbrev pub bare_pair : direct.Pair → Pair
bare_pair x = record { from = x.from; to = x.to; count = x.count; parcels = map Bare x.packets }

-- each packet that was sent left its node by itself, to who it was sent to
pub record AllBare (r : Relayed) : Type 0 where
  pub pairs : r.pairs ≡ map bare_pair r.world.pairs
  pub left : r.left ≡ map Bare r.world.sent

-- each packet that was sent has a network, as where each two nodes share one
abbrev pub HaveNetworks : World → Type 0
HaveNetworks w = (p : Packet) → Has p w.sent → p.network ≢ 0

-- then the run with relays of the same events is that of the direct world: so the layer changes nothing where nothing is relayed
abbrev pub RunsWithoutRelays : Type 0
RunsWithoutRelays = (c : Config) (es : List Answered) → HaveNetworks (answered_after c es) → SameRun (answered_after c es) (relayed_after c es).world × AllBare (relayed_after c es)
