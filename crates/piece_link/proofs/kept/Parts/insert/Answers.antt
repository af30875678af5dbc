use Rattle.std.proofs.Common.{sym, ◌∙◌, arith}
use Rattle.std.proofs.lemmas.Bool.{leb-true}
use Rattle.piece_link.proofs.SlotLaws.{Puts, few_parts, not_came, parts_put, held_put}
use Rattle.piece_link.proofs.kept.Parts.insert.Goals as goal
use Rattle.piece_link.proofs.kept.Parts.insert.Goals.{then-self, else-self}

pub overflow_add-self : goal.overflow_add-self
overflow_add-self c = omega (arith, few_parts c.self.inside.slots c.self.inside.bytes.items c.self.inside.len c.self.inside.end c.self.inside.in_order c.self.invariant)

puts : (c : goal.After-self-3-1) → Puts c.self.inside.slots c.put.new.self c.self.inside.bytes.items c.extend_from_slice.new.self.items c.args.text.now c.args.index
puts c = record {
  none = not_came c.self.inside.slots c.self.inside.bytes.items c.self.inside.len c.self.inside.end c.args.index c.self.inside.in_order c.self.invariant (rw c.self.view_is c.requires);
  start = c.len-start.result;
  end = c.len-end.result;
  here = c.put.ensures.put;
  others = λ i ne. c.put.ensures.others i ne ∙ c.in_ok-make.ensures.same i;
  starts = omega (arith, c.len-start.ensures);
  ends = omega (arith, c.len-end.ensures, c.in_ok-extend_from_slice.ensures.len);
  appended = c.in_ok-extend_from_slice.ensures.items;
}

pub invariant_of-self-2 : goal.invariant_of-self-2
invariant_of-self-2 c =
    held_put c.self.inside.slots c.put.new.self c.self.inside.bytes.items c.extend_from_slice.new.self.items c.args.text.now c.self.inside.len c.self.inside.end c.args.index c.max-self-inside.result c.self.inside.in_order c.if-self.self
    c.self.invariant (puts c) (rw c.self.view_is c.requires) (omega arith) c.max-self-inside.ensures
    (elim c.if-self.branch [
      | then-self w ↦ λ e. (w.if-self.true, leb-true c.self.inside.end c.args.index (sym w.self-is ∙ e))
      | else-self w ↦ λ e. absurd (cc (w.self-is, w.if-self.false))
    ])

pub returns-clause-ok : goal.returns-clause-ok
returns-clause-ok c =
    rw (← c.self.view_is) (parts_put c.self.inside.slots c.put.new.self c.self.inside.bytes.items c.extend_from_slice.new.self.items c.args.text.now c.self.inside.len c.self.inside.end c.args.index c.max-self-inside.result c.self.inside.in_order c.self.invariant (puts c) c.max-self-inside.ensures)
