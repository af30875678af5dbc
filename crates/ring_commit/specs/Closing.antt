-- With whom a gathering closes.
use Rattle.std.specs.Prelude.{◌≡◌, ◌⊎◌, ◌↔◌, ℕ, List, IsTrue}
use Rattle.std.specs.List.{fold}
use Rattle.rsct_packet.specs.declared.ids.RingId.{RingId}
use Rattle.rsct_packet.specs.declared.mask.Mask.{Mask}
use Rattle.rsct_packet.specs.Mask.{is_node, has_node}
use Rattle.rsct_packet.specs.Search.{Has}
use Rattle.ring_commit.specs.declared.gather.Gather.{Gather}
use Rattle.ring_commit.specs.Gather.{gather_opened, gather_acked}

-- acknowledgements that came, in any order and any number of times
abbrev pub after_acks : Gather → List ℕ → Gather
after_acks g ns = fold gather_acked g ns

-- a gathering has those that were asked and acknowledged, and the node that opened it
abbrev pub ClosesWithTheAcknowledged : Type 0
ClosesWithTheAcknowledged =
    (id : RingId) (asked : Mask) (me : ℕ) → IsTrue (is_node me) → (acks : List ℕ) (n : ℕ) → IsTrue (has_node (after_acks (gather_opened id asked me) acks).acked n) ↔ ((n ≡ me) ⊎ (IsTrue (has_node asked n) × Has n acks))
