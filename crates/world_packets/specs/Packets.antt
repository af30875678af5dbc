-- The packets of a world as it is kept, and the definitions' packets that they stand for.
use Rattle.std.specs.Prelude.{◌≡◌, ℕ, ◌+◌, Bool, false, ◌==◌, ◌&&◌, List, [], ◌∷◌, ◌++◌, length, map, find, Option, Some, None}
use Rattle.rsct_packet.specs.Lists.{reverse_onto}
use Rattle.node_state.specs.declared.packet.Packet.{Packet}
use Rattle.world_model.specs.World.{is_pair, count_in}
use Rattle.world_model.specs.World as world
use Rattle.world_packets.specs.declared.pairs.Pair.{Pair}
use Rattle.world_packets.specs.declared.waiting.Waiting.{Waiting}

-- all pairs of nodes, and what waits, in the order of sending
pub record Kept : Type 0 where
  pub pairs : List Pair
  pub waiting : List Waiting

abbrev pub is_from : ℕ → ℕ → Pair → Bool
is_from a b p = p.from == a && p.to == b

abbrev pub is_right : ℕ → ℕ → Option Pair → Bool
is_right a b None = false
is_right a b (Some p) = is_from a b p

-- no two pairs are of the same two nodes in the same order
abbrev pub AreApart : List Pair → Type 0
AreApart [] = Unit {0}
AreApart (p ∷ ps) = (find (is_from p.from p.to) ps ≡ None) × AreApart ps

abbrev pub with_packet : Packet → Pair → Pair
with_packet d p = record p { packets = p.packets ++ d ∷ [] }

-- the definitions have a pair's packets newest first
abbrev pub world_pair : Pair → world.Pair
world_pair p = record { from = p.from; to = p.to; count = length p.packets; packets = reverse_onto p.packets [] }

abbrev pub world_pairs : List Pair → List world.Pair
world_pairs ps = map world_pair ps

abbrev pub find_pair : ℕ → ℕ → List world.Pair → Option world.Pair
find_pair a b ps = find (is_pair a b) ps

-- what is kept of a packet that waits
abbrev pub waits_as : world.Sent → Waiting
waits_as x = record { from = x.packet.from; to = x.packet.to; number = x.number; network = x.packet.network }

abbrev pub is_waiting : ℕ → ℕ → ℕ → Waiting → Bool
is_waiting a b k x = x.number == k && x.from == a && x.to == b

abbrev pub is_between : ℕ → ℕ → Waiting → Bool
is_between a b x = x.from == a && x.to == b

-- what is kept of a packet that is sent
abbrev pub waits_next : List world.Pair → Packet → Waiting
waits_next ps p = record { from = p.from; to = p.to; number = count_in (find_pair p.from p.to ps) + 1; network = p.network }

abbrev pub first_of : List Waiting → Option Waiting
first_of [] = None
first_of (x ∷ xs) = Some x
