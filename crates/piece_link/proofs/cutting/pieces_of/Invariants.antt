use Rattle.std.proofs.Common.{◌≡◌}
use Rattle.std.specs.Prelude.{map}
use Rattle.piece_link.specs.Pieces.{pieces_from, message_of}
use Rattle.piece_link.proofs.cutting.pieces_of.Given as goal

abbrev pub invariant-loop-index : goal.invariant-loop-index
invariant-loop-index l = map (λ d. d.items) l.pieces.items ≡ pieces_from (message_of l.first l.message) 0 l.index
