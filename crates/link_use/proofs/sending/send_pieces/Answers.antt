use Rattle.std.proofs.Common.{Vec, ℕ, Global}
use Rattle.link_use.proofs.SendLaws.{on_err, piece_front}
use Rattle.link_use.proofs.sending.send_pieces.Goals as goal

pub returns-in_err-send_piece-clause-broke : goal.returns-in_err-send_piece-clause-broke
returns-in_err-send_piece-clause-broke g c =
    on_err c.from_residual.result
    (piece_front {V = Vec ℕ Global} (λ d. d.items) c.args.to.node c.args.to.network _ _ _ _ _ c.loop-piece.invariant c.in_err-send_piece.ensures.broke)
