-- What it means that the rings of one network agree.
use Rattle.std.specs.Prelude.{◌≡◌, ◌⊎◌, ◌<◌, ◌≤◌, ℕ, List, IsTrue}
use Rattle.rsct_packet.specs.declared.mask.Mask.{Mask}
use Rattle.rsct_packet.specs.Mask.{has_node}
use Rattle.rsct_packet.specs.Search.{Has}
use Rattle.adapter_ring.specs.declared.ring.RingSettings.{RingSettings}
use Rattle.adapter_ring.specs.Addresses.{addr_of}
use Rattle.adapter_ring.specs.Network.{Happening, Told, quiet, after}

-- no address stands twice
abbrev pub AddressesDiffer : RingSettings → Type 0
AddressesDiffer s = (a b : ℕ) → 0 < addr_of s a → addr_of s a ≡ addr_of s b → a ≡ b

-- the node is one of them, and none has a greater address
pub record HasGreatest (s : RingSettings) (n : ℕ) (ms : Mask) : Type 0 where
  pub among : IsTrue (has_node ms n)
  pub greatest : (k : ℕ) → IsTrue (has_node ms k) → addr_of s k ≤ addr_of s n

-- b is lower than n, and no member stands between them
pub record IsNextLower (s : RingSettings) (n : ℕ) (ms : Mask) (b : ℕ) : Type 0 where
  pub lower : addr_of s b < addr_of s n
  pub next : (k : ℕ) → IsTrue (has_node ms k) → addr_of s k < addr_of s n → addr_of s k ≤ addr_of s b

-- n is the lowest member, and b the highest
pub record IsRoundTheEnd (s : RingSettings) (n : ℕ) (ms : Mask) (b : ℕ) : Type 0 where
  pub lowest : (k : ℕ) → IsTrue (has_node ms k) → addr_of s n ≤ addr_of s k
  pub highest : (k : ℕ) → IsTrue (has_node ms k) → addr_of s k ≤ addr_of s b

-- the next lower member, or of the lowest the highest
pub record IsNeighbour (s : RingSettings) (n : ℕ) (ms : Mask) (b : ℕ) : Type 0 where
  pub among : IsTrue (has_node ms b)
  pub place : IsNextLower s n ms b ⊎ IsRoundTheEnd s n ms b

-- two records of one id have the same members; the node is one of them; the id's leader has their greatest address;
-- the neighbour is the next lower member, or of the lowest the highest
pub record RingsAgree (s : RingSettings) (told : List Told) : Type 0 where
  pub same : (a b : Told) → Has a told → Has b told → a.id ≡ b.id → a.members ≡ b.members
  pub mine : (a : Told) → Has a told → IsTrue (has_node a.members a.node)
  pub led : (a : Told) → Has a told → HasGreatest s a.id.leader a.members
  pub beside : (a : Told) → Has a told → IsNeighbour s a.node a.members a.neighbour

-- whatever happens to the rings of a network whose addresses differ
abbrev pub RingsAlwaysAgree : Type 0
RingsAlwaysAgree = (net : ℕ) (s : RingSettings) → AddressesDiffer s → (es : List Happening) → RingsAgree s (after (quiet net s) es).told
