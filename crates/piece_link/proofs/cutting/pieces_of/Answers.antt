use Rattle.std.proofs.Common.{◌<◌, length, arith}
use Rattle.piece_link.specs.Pieces.{piece_count}
use Rattle.piece_link.proofs.PieceLaws.{within_message, pieces_push}
use Rattle.piece_link.proofs.cutting.pieces_of.Goals as goal

pub data_of-requires : goal.data_of-requires
data_of-requires c =
    let below : c.loop-index.index < piece_count (length c.args.message.now) = omega (arith, c.requires.count) in
    within_message _ _ below

pub loop-index-preserved : goal.loop-index-preserved
loop-index-preserved c = pieces_push c.args.first.now c.args.message.now c.loop-index.index _ _ c.in_ok-piece.piece _ c.requires.count c.loop-index.invariant c.in_ok-push.ensures.items c.in_ok-piece.ensures c.data_of.ensures
