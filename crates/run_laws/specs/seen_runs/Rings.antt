-- What the ring records of a network show by themselves, one after another. They have no addresses, so they do not tell that the
-- leader's is the greatest, nor that the neighbour is the next lower member.
use Rattle.std.specs.Prelude.{ℕ, ◌≡◌, List, [], ◌∷◌, IsTrue}
use Rattle.rsct_packet.specs.declared.ids.RingId.{RingId}
use Rattle.rsct_packet.specs.declared.mask.Mask.{Mask}
use Rattle.rsct_packet.specs.Mask.{has_node}
use Rattle.rsct_packet.specs.Search.{Has}
use Rattle.node_state.specs.declared.happened.Happened.{Happened}
use Rattle.node_state.specs.declared.happened.Happened.TheVariants as happened
use Rattle.run_laws.specs.seen_runs.Seen.{Seen}

-- a ring has the members that it had in each earlier record of its id; the node that is set to it, the id's leader and the
-- neighbour are among them
pub record RingSeenAt (rs : List Happened) (n net : ℕ) (id : RingId) (ms : Mask) (b : ℕ) : Type 0 where
  pub same : (m : ℕ) (ns : Mask) (d : ℕ) → Has (happened.Ring m net id ns d) rs → ns ≡ ms
  pub mine : IsTrue (has_node ms n)
  pub led : IsTrue (has_node ms id.leader)
  pub beside : IsTrue (has_node ms b)

abbrev pub RingSeen : ℕ → List Happened → Happened → Type 0
RingSeen net rs (happened.Ring n k id ms b) = k ≡ net → RingSeenAt rs n net id ms b
RingSeen net rs _ = Unit {0}

abbrev pub RingsSeen : ℕ → List Happened → Type 0
RingsSeen net [] = Unit {0}
RingsSeen net (r ∷ rs) = RingSeen net rs r × RingsSeen net rs

-- all that is seen, with the rings of each network
pub record SeenWithRings (rs : List Happened) : Type 0 where
  pub seen : Seen rs
  pub rings : (net : ℕ) → RingsSeen net rs
