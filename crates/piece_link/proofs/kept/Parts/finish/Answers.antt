use Rattle.std.proofs.Common.{◌++◌, sym, ◌∙◌, ap}
use Rattle.piece_link.specs.Slots.{text_at}
use Rattle.piece_link.proofs.SlotLaws.{whole_last}
use Rattle.piece_link.proofs.kept.Parts.finish.Goals as goal

pub returns-clause-ok : goal.returns-clause-ok
returns-clause-ok c =
    rw (← c.self.view_is) (
    ap (λ v. v.items) c.replace-message.ensures.value
    ∙ (c.in_ok-extend_from_slice.ensures.items
    ∙ (ap (λ xs. xs ++ c.args.text.now) (sym (c.self.invariant.ordered c.if-not-self.false))
    ∙ sym (whole_last c.self.inside.end c.args.index (text_at c.self.inside.slots c.self.inside.bytes.items) c.args.text.now c.if-at-self.false))))
