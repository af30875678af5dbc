-- The next hop: where a packet goes first that is for a node that may be several steps away.
use Rattle.std.specs.Prelude.{ℕ, zero, suc, ◌==◌, ◌&&◌, ◌≤◌, Bool, true, false, not, List, [], ◌∷◌, length, filter, find, Option, Some, None}
use Rattle.std.specs.List.{fold, list_any}
use Rattle.rsct_packet.specs.declared.mask.Mask.{Mask}
use Rattle.rsct_packet.specs.Mask.{node_numbers, no_nodes, has_node, with_node, union_of}
use Rattle.node_reach.specs.declared.reach.Reach.{Reach}
use Rattle.node_reach.specs.Reach.{names}
use Rattle.node_reach.specs.Walks.{IsWalk, Reached}

-- each of the two stands in the kept row of the other
unfoldable pub is_linked : Reach → ℕ → ℕ → Bool
is_linked r a b = names r a b && names r b a

-- it is linked with one of these
unfoldable pub touches : Reach → Mask → ℕ → Bool
touches r near b = list_any (λ a. has_node near a && is_linked r b a) node_numbers

-- it is linked with one of these, and none of them
unfoldable pub is_further : Reach → Mask → ℕ → Bool
is_further r near b = not (has_node near b) && touches r near b

unfoldable pub further : Reach → Mask → Mask
further r near = fold with_node no_nodes (filter (is_further r near) node_numbers)

-- one of these with which the own node is linked
unfoldable pub is_hop : Reach → Mask → ℕ → Bool
is_hop r near n = has_node near n && is_linked r r.me n

unfoldable pub hop_in : Reach → Mask → Option ℕ
hop_in r near = find (is_hop r near) node_numbers

-- these nodes have not the own one among them or beside them: the search goes on from them, at most so often
unfoldable pub hop_from : ℕ → Reach → Mask → Option ℕ
hop_from zero r near = None
hop_from (suc k) r near =
    elim (hop_in r near) [
      | Some n ↦ Some n
      | None ↦ elim (find (has_node (further r near)) node_numbers) [ None ↦ None | Some b ↦ hop_from k r (union_of near (further r near)) ]
    ]

-- the least node of the first that the own one is linked with, of those that are 0, 1, 2 and more steps from the target
unfoldable pub next_hop : Reach → ℕ → Option ℕ
next_hop r to = elim (to == r.me) [ true ↦ None | false ↦ hop_from 32 r (with_node no_nodes to) ]

-- ---- what it is

-- second on a shortest walk from the own node to the target
pub record IsSecond (r : Reach) (to n : ℕ) : Type 0 where
  pub rest : List ℕ
  pub walk : IsWalk r r.me (n ∷ rest) to
  pub shortest : (bs : List ℕ) → IsWalk r r.me bs to → length (n ∷ rest) ≤ length bs

-- the least of these
pub record IsNextHop (r : Reach) (to n : ℕ) : Type 0 where
  pub second : IsSecond r to n
  pub least : (m : ℕ) → IsSecond r to m → n ≤ m

-- a shortest walk has at most 31 steps: no node stands in it twice
abbrev pub WalksAreShort : Type 0
WalksAreShort = (r : Reach) (to n : ℕ) (second : IsSecond r to n) → length (n ∷ second.rest) ≤ 31

-- ---- routes over rows that all nodes have alike

-- each node sends on to its next hop, at most so often
unfoldable pub route : ℕ → Reach → ℕ → List ℕ
route zero r to = []
route (suc k) r to = elim (next_hop r to) [ None ↦ [] | Some n ↦ n ∷ route k (record r { me = n }) to ]

-- a shortest walk
pub record IsShortest (r : Reach) (from : ℕ) (bs : List ℕ) (to : ℕ) : Type 0 where
  pub walk : IsWalk r from bs to
  pub shortest : (cs : List ℕ) → IsWalk r from cs to → length bs ≤ length cs

-- Where all nodes have the same rows, what is sent on from next hop to next hop comes to each node that is reached, on a
-- shortest walk, in at most 31 steps.
abbrev pub RoutesArrive : Type 0
RoutesArrive = (r : Reach) (to : ℕ) → Reached r to → IsShortest r r.me (route 31 r to) to × (length (route 31 r to) ≤ 31)

-- opens each word of this file, for a computation
unfoldable pub hops_opens : Unit {0}
unfolding is_linked touches is_further further is_hop hop_in hop_from next_hop route
hops_opens = tt
