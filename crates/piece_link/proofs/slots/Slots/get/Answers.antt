use Rattle.std.proofs.Common.{◌/◌, ◌%◌, length, get_or, sym, ◌∙◌, ap, arith}
use Rattle.piece_link.proofs.PageLaws.{no_page, no_slot, slot_is}
use Rattle.piece_link.proofs.slots.Slots.get.Goals as goal

pub returns-in_err-page : goal.returns-in_err-page
returns-in_err-page c = c.from_residual.ensures ∙ sym (no_page c.args.self.now c.args.index (omega (arith, c.in_err-page.ensures.lookup.3, ap length c.deref.ensures.value)))

pub returns-in_err-slot : goal.returns-in_err-slot
returns-in_err-slot c = c.from_residual-in_err-slot.ensures ∙ sym (
    no_slot c.args.self.now c.in_ok-page.page.now c.args.index
    (omega (arith, c.in_ok-page.ensures.lookup.3.0, ap length c.deref.ensures.value))
    (c.in_ok-page.ensures.lookup.1 ∙ ap (λ pages. get_or pages (c.args.index / 256) c.in_ok-page.page.now) c.deref.ensures.value)
    (omega (arith, c.in_err-slot.ensures.lookup.3, ap length c.deref-2.ensures.value)))

pub returns : goal.returns
returns c =
    slot_is c.args.self.now c.in_ok-page.page.now c.args.index c.in_ok-slot.slot.now
    (omega (arith, c.in_ok-page.ensures.lookup.3.0, ap length c.deref.ensures.value))
    (c.in_ok-page.ensures.lookup.1 ∙ ap (λ pages. get_or pages (c.args.index / 256) c.in_ok-page.page.now) c.deref.ensures.value)
    (omega (arith, c.in_ok-slot.ensures.lookup.3.0, ap length c.deref-2.ensures.value))
    (c.in_ok-slot.ensures.lookup.1 ∙ ap (λ slots. get_or slots (c.args.index % 256) c.in_ok-slot.slot.now) c.deref-2.ensures.value)
