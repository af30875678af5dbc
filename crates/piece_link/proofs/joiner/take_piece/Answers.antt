use Rattle.std.proofs.Common.{◌≡◌, sym, Some, None}
use Rattle.std.specs.Prelude.{◌==◌, position}
use Rattle.piece_link.proofs.RowLaws.{row_answered, row_added}
use Rattle.piece_link.proofs.joiner.take_piece.Goals as goal

pub returns-in_default-clause-ok : goal.returns-in_default-clause-ok
returns-in_default-clause-ok c =
    let missed : position (λ k. k.sender == c.args.head.now.sender) c.args.rows.now.items ≡ None = rw (← c.as_slice.ensures.value) (sym c.in_default.ensures) in
    row_added c.args.rows.now.items c.push.new.self.items c.args.head.now c.args.text.now c.in_ok-kept.kept _ missed c.in_ok-kept.ensures c.in_ok-push.ensures.items

pub returns-clause-ok : goal.returns-clause-ok
returns-clause-ok c =
    let found : position (λ k. k.sender == c.args.head.now.sender) c.args.rows.now.items ≡ Some c.in-Some.place = rw (← c.as_slice.ensures.value) (sym c.in-Some.ensures) in
    row_answered c.args.rows.now.items c.args.head.now c.args.text.now c.in-Some.place c.index_mut.result.now c.take-answer.new.self c.take-answer.result found c.index_mut.ensures.value c.take-answer.ensures.ok
