-- A chain of three nodes on two networks, for worked examples.
use Rattle.std.specs.Prelude.{ℕ, List, [], ◌∷◌, map, codes, length}
use Rattle.rsct_packet.specs.declared.ids.ViewId.{ViewId}
use Rattle.node_reach.specs.Samples.{these, chain}
use Rattle.adapter_ring.specs.declared.packet.RingPacket.TheVariants.{Heartbeat}
use Rattle.node_state.specs.declared.config.Config.{Config}
use Rattle.node_state.specs.declared.packet.Body.{Body}
use Rattle.node_state.specs.declared.packet.Body.TheVariants as body
use Rattle.node_state.specs.declared.packet.Packet.{Packet}
use Rattle.node_state.specs.declared.state.Core.{Core}
use Rattle.node_state.specs.Step.{started}
use Rattle.world_model.specs.declared.event.Event.TheVariants as event
use Rattle.world_model.specs.declared.script.Line.{Line}
use Rattle.world_model.specs.declared.script.Line.TheVariants as line
use Rattle.world_model.specs.Reading.{first_settings}
use Rattle.world_model.specs.World.{World, empty_world}
use Rattle.relay_model.specs.Leaving.{Parcel, Wrapped}
use Rattle.relay_model.specs.Relays.{Relayed}

-- node 2 alone is on both networks
unfoldable pub chain_settings : Config
chain_settings = record first_settings { nodes = these (1 ∷ 2 ∷ 3 ∷ []); addr = (167837697 ∷ 167837698 ∷ []) ∷ (0 ∷ 167903234 ∷ 167903235 ∷ []) ∷ [] }

-- all start, and some rounds are run
unfoldable pub all_run : ℕ → List Line
all_run k = line.Plain (event.Start 1) ∷ line.Plain (event.Start 2) ∷ line.Plain (event.Start 3) ∷ line.Run k ∷ []

-- one of them, which has heard the rows of all
unfoldable pub chained : ℕ → Core
chained n = let s : Core = started chain_settings n 1 in record s { reach = chain n }

abbrev pub one_view : ViewId
one_view = record { number = 1; coord = 1; inc = 1 }

abbrev pub asks_leader : Body
asks_leader = body.Lookup one_view (codes "db")

abbrev pub beats : Body
beats = body.Ring (Heartbeat (record { leader = 1; inc = 1; number = 1 }))

-- from node 1, on a network; 0 where it shares none
abbrev pub said_on : ℕ → ℕ → Body → Packet
said_on network to b = record { network = network; from = 1; to = to; inc = 1; level = 1; domain = 1; body = b }

-- an envelope to node 3 with so many hops left
abbrev pub around : ℕ → Parcel
around hops = Wrapped (record { hops = hops; origin = 1; target = 3 }) (said_on 1 3 asks_leader)

-- the three are up, and these envelopes went from node 1 to node 2, newest first
unfoldable pub with_sent : List Parcel → Relayed
with_sent ds =
    record {
      world = let w : World = empty_world chain_settings in record w { nodes = map (λ n. record { core = chained n; scripts = [] }) (1 ∷ 2 ∷ 3 ∷ []) };
      pairs = record { from = 1; to = 2; count = length ds; parcels = ds } ∷ [];
      queue = [];
      left = ds;
    }

-- opens each word of this file, for a computation
unfoldable pub samples_opens : Unit {0}
unfolding chain_settings all_run chained with_sent
samples_opens = tt
