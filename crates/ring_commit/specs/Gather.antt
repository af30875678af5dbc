-- A gathering for a ring.
use Rattle.std.specs.Prelude.{ℕ, Bool, true, false, not, ◌&&◌}
use Rattle.rsct_packet.specs.declared.ids.RingId.{RingId}
use Rattle.rsct_packet.specs.declared.mask.Mask.{Mask}
use Rattle.rsct_packet.specs.Mask.{no_nodes, has_node, with_node, common_of, same_mask}
use Rattle.ring_commit.specs.declared.gather.Gather.{Gather}

-- who gathers has acknowledged
unfoldable pub gather_opened : RingId → Mask → ℕ → Gather
gather_opened id asked me = record { id = id; asked = asked; acked = with_node no_nodes me }

-- asked, and has not acknowledged
unfoldable pub is_awaited : Gather → ℕ → Bool
is_awaited g n = has_node g.asked n && not (has_node g.acked n)

unfoldable pub gather_acked : Gather → ℕ → Gather
gather_acked g n = elim (is_awaited g n) [ true ↦ record g { acked = with_node g.acked n } | false ↦ g ]

unfoldable pub all_acked : Gather → Bool
all_acked g = same_mask (common_of g.asked g.acked) g.asked

-- opens each word of this file, for a computation
unfoldable pub gather_opens : Unit {0}
unfolding gather_opened is_awaited gather_acked all_acked
gather_opens = tt
