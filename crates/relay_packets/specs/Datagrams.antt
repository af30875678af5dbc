-- The datagrams of a world as it is kept, and those of the definitions that they stand for.
use Rattle.std.specs.Prelude.{◌≡◌, ℕ, ◌+◌, Bool, false, ◌==◌, ◌&&◌, List, [], ◌∷◌, ◌++◌, length, map, find, Option, Some, None}
use Rattle.rsct_packet.specs.Lists.{reverse_onto}
use Rattle.relay_model.specs.Leaving.{Parcel}
use Rattle.relay_model.specs.Relays.{Sent, is_pair, count_in}
use Rattle.relay_model.specs.Relays as relays
use Rattle.relay_packets.specs.declared.leaving.Departure.{Departure}
use Rattle.relay_packets.specs.declared.pairs.Pair.{Pair}
use Rattle.relay_packets.specs.declared.waiting.Waiting.{Waiting}

-- all pairs of nodes, and what waits, in the order of sending
pub record Kept : Type 0 where
  pub pairs : List Pair
  pub waiting : List Waiting

abbrev pub is_from : ℕ → ℕ → Pair → Bool
is_from a b p = p.from == a && p.to == b

abbrev pub is_right : ℕ → ℕ → Option Pair → Bool
is_right a b None = false
is_right a b (Some p) = is_from a b p

-- no two pairs are of the same two nodes in the same order
abbrev pub AreApart : List Pair → Type 0
AreApart [] = Unit {0}
AreApart (p ∷ ps) = (find (is_from p.from p.to) ps ≡ None) × AreApart ps

abbrev pub with_parcel : Parcel → Pair → Pair
with_parcel d p = record p { parcels = p.parcels ++ d ∷ [] }

-- the definitions have a pair's datagrams newest first
abbrev pub relay_pair : Pair → relays.Pair
relay_pair p = record { from = p.from; to = p.to; count = length p.parcels; parcels = reverse_onto p.parcels [] }

abbrev pub relay_pairs : List Pair → List relays.Pair
relay_pairs ps = map relay_pair ps

abbrev pub find_pair : ℕ → ℕ → List relays.Pair → Option relays.Pair
find_pair a b ps = find (is_pair a b) ps

-- what is kept of a datagram that waits
abbrev pub waits_as : Sent → Waiting
waits_as x = record { from = x.from; to = x.to; number = x.number; network = x.network }

abbrev pub is_waiting : ℕ → ℕ → ℕ → Waiting → Bool
is_waiting a b k x = x.number == k && x.from == a && x.to == b

abbrev pub is_between : ℕ → ℕ → Waiting → Bool
is_between a b x = x.from == a && x.to == b

-- what is kept of a datagram that leaves
abbrev pub waits_next : List relays.Pair → Departure → Waiting
waits_next ps d = record { from = d.from; to = d.to; number = count_in (find_pair d.from d.to ps) + 1; network = d.network }

abbrev pub first_of : List Waiting → Option Waiting
first_of [] = None
first_of (x ∷ xs) = Some x
