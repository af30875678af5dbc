-- Runs of a few rings, as an operator would let them run.
use Rattle.std.specs.Prelude.{ℕ, zero, suc, true, false, ◌+◌, List, [], ◌∷◌, map, length, nat_lt, replicate}
use Rattle.std.specs.List.{fold}
use Rattle.rsct_packet.specs.Mask.{nodes_of, mask_opens}
use Rattle.rsct_packet.specs.Ids.{risen}
use Rattle.ring_commit.specs.Gather.{gather_opens}
use Rattle.adapter_ring.specs.declared.ring.RingSettings.{RingSettings}
use Rattle.adapter_ring.specs.Addresses.{addresses_opens}
use Rattle.adapter_ring.specs.Rings.{rings_opens}
use Rattle.adapter_ring.specs.Network.{Happening, Starts, Stops, Ticks, Given, Network, Told, quiet, happens, network_opens}

-- a network of which so many packets were given
pub record Playing : Type 0 where
  pub network : Network
  pub given : ℕ

-- packets are given in the order in which they were sent, until none is left
unfoldable pub flowed : ℕ → Playing → Playing
flowed zero p = p
flowed (suc k) p =
    elim (nat_lt p.given (length p.network.sent)) [
      | true ↦ flowed k (record { network = happens p.network (Given p.given); given = p.given + 1 })
      | false ↦ p
    ]

unfoldable pub ticked_all : List ℕ → Network → Network
ticked_all ns w = fold (λ (u : Network) n. happens u (Ticks n)) w ns

-- rounds: each of these nodes has a tick, and all packets are given
unfoldable pub rounds : ℕ → List ℕ → Playing → Playing
rounds zero ns p = p
rounds (suc k) ns p = rounds k ns (flowed 1000 (record p { network = ticked_all ns p.network }))

unfoldable pub with_happening : Happening → Playing → Playing
with_happening e p = record p { network = happens p.network e }

-- nodes 1 to 3 have adapters, of higher addresses the higher the node; a heartbeat each tick, of which 4 may be missed
abbrev pub three_nodes : RingSettings
three_nodes = record { addr = 1 ∷ 2 ∷ 3 ∷ replicate 29 0; every = 1; misses = 4 }

-- one ring record, in short: node; leader, incarnation and number; members; neighbour
pub record Line : Type 0 where
  pub node : ℕ
  pub leader : ℕ
  pub inc : ℕ
  pub number : ℕ
  pub members : List ℕ
  pub neighbour : ℕ

unfoldable pub line : ℕ → ℕ → ℕ → ℕ → List ℕ → ℕ → Line
line n l j k ms b = record { node = n; leader = l; inc = j; number = k; members = ms; neighbour = b }

unfoldable pub line_of : Told → Line
line_of t = line t.node t.id.leader t.id.inc t.id.number (nodes_of t.members) t.neighbour

unfoldable pub lines_told : Playing → List Line
lines_told p = map line_of p.network.told

-- two nodes start and find each other
unfoldable pub two_meet : Playing
two_meet =
    rounds 2 (1 ∷ 2 ∷ []) (with_happening (Starts 2 1) (with_happening (Starts 1 1) (record { network = quiet 1 three_nodes; given = 0 })))

-- three nodes start and find one another, and the third stops
unfoldable pub third_stops : Playing
third_stops =
    rounds
    4
    (1 ∷ 2 ∷ [])
    (with_happening (Stops 3) (rounds 2 (1 ∷ 2 ∷ 3 ∷ []) (with_happening (Starts 3 1) (with_happening (Starts 2 1) (with_happening (Starts 1 1) (record { network = quiet 1 three_nodes; given = 0 }))))))

-- opens all words of the rings, for a computation
unfoldable pub all_opens : Unit {0}
unfolding mask_opens gather_opens addresses_opens rings_opens network_opens risen flowed ticked_all rounds with_happening line line_of lines_told two_meet third_stops
all_opens = tt
