use Rattle.std.proofs.Common.{◌-◌, take, drop, sym, ◌∙◌, ap, arith}
use Rattle.piece_link.specs.Slots.{text_at}
use Rattle.piece_link.proofs.SlotLaws.{joined_none, joined_here, joined_slot, joined_empty, put_together_is}
use Rattle.piece_link.proofs.kept.Parts.put_together.Goals as goal
use Rattle.piece_link.proofs.kept.Parts.put_together.Goals.{then-i-at+in_ok-extend_from_slice, else-i-at+in-Some+in_ok-extend_from_slice-2, else-i-at+in_default}

pub loop-i-init : goal.loop-i-init
loop-i-init c = c.in_ok-message.ensures.items ∙ sym (joined_none _)

pub loop-i-preserved : goal.loop-i-preserved
loop-i-preserved c =
    elim c.if-i-at.branch [
      | then-i-at+in_ok-extend_from_slice w ↦
          joined_here (text_at c.self.inside.slots c.self.inside.bytes.items) c.args.index c.loop-i.i c.args.text.now c.loop-i.message.items c.if-i-at.message.items w.if-i-at.true c.loop-i.invariant
          (ap (λ v. v.items) w.message-is ∙ w.in_ok-extend_from_slice.ensures.items)
      | else-i-at+in-Some+in_ok-extend_from_slice-2 w ↦
          joined_slot c.self.inside.slots c.self.inside.bytes.items c.args.index c.loop-i.i c.args.text.now c.loop-i.message.items c.if-i-at.message.items _ w.in-Some.place w.if-i-at.false
          (sym w.get.ensures ∙ w.in-Some.is)
          (ap (λ xs. take (w.in-Some.place.end - w.in-Some.place.start) (drop w.in-Some.place.start xs)) w.deref.ensures.value)
          c.loop-i.invariant
          (ap (λ v. v.items) w.message-is ∙ w.in_ok-extend_from_slice-2.ensures.items)
      | else-i-at+in_default w ↦
          joined_empty c.self.inside.slots c.self.inside.bytes.items c.args.index c.loop-i.i c.args.text.now c.loop-i.message.items c.if-i-at.message.items w.if-i-at.false
          (sym w.get.ensures ∙ w.in_default.is)
          c.loop-i.invariant
          (ap (λ v. v.items) w.message-is)
    ]

pub returns : goal.returns
returns c = rw (← c.self.view_is) (c.loop-i.invariant ∙ put_together_is c.self.inside.slots c.self.inside.bytes.items c.self.inside.len c.self.inside.end c.args.index c.loop-i.i c.self.inside.in_order c.args.text.now c.self.invariant (rw c.self.view_is c.requires) (omega arith))
