use Rattle.std.proofs.Common.{drop}
use Rattle.link_use.proofs.SendLaws.{WentTo, pieces_left}
use Rattle.link_use.proofs.sending.send_pieces.Given as goal

abbrev pub invariant-loop-piece : goal.invariant-loop-piece
invariant-loop-piece g l =
    WentTo (g.O.Outside.told l.initial.outside) (g.O.Outside.told l.outside) (pieces_left (λ d. d.items) l.to.node l.to.network (drop l.piece-index l.pieces)) (pieces_left (λ d. d.items) l.to.node l.to.network l.pieces)
