use Rattle.std.proofs.Common.{◌+◌, ◌/◌, ◌%◌, refl, ◌∙◌, arith}
use Rattle.piece_link.proofs.PageLaws.{slots_pushed, slots_same, slots_resized, slots_put_back, has_slot}
use Rattle.piece_link.proofs.slots.Slots.make.Goals as goal

pub loop-init : goal.loop-init
loop-init c = record { same = λ i. refl; made = omega (arith, c.len-counter.ensures) }

pub returns-in_err-push-clause-same : goal.returns-in_err-push-clause-same
returns-in_err-push-clause-same c = λ i. slots_same c.loop.self (record { pages = c.push.new.self }) i c.in_err-push.ensures.items ∙ c.loop.invariant.same i

pub loop-preserved : goal.loop-preserved
loop-preserved c = record {
  same = λ i. slots_pushed c.loop.self (record { pages = c.push.new.self }) c.new.result i c.in_ok-push.ensures.items c.new.ensures.items ∙ c.loop.invariant.same i;
  made = omega (arith, c.in_ok-push.ensures.len, c.loop.invariant.made);
}

pub index_mut-page-requires : goal.index_mut-page-requires
index_mut-page-requires c = omega (arith, c.loop.invariant.made)

pub returns-in_err-resize-clause-same : goal.returns-in_err-resize-clause-same
returns-in_err-resize-clause-same c = λ i. slots_put_back c.loop.self _ c.index_mut-page.result.now c.resize.new.self (c.args.index / 256) i refl (omega (arith, c.loop.invariant.made)) c.index_mut-page.ensures.value c.in_err-resize.ensures.items ∙ c.loop.invariant.same i

pub returns-in_ok-resize-clause-made : goal.returns-in_ok-resize-clause-made
returns-in_ok-resize-clause-made c = has_slot c.loop.self _ c.resize.new.self _ refl (omega (arith, c.loop.invariant.made)) (omega (arith, c.in_ok-resize.ensures.len))

pub returns-in_ok-resize-clause-same : goal.returns-in_ok-resize-clause-same
returns-in_ok-resize-clause-same c = λ i. slots_resized c.loop.self _ c.index_mut-page.result.now c.resize.new.self (c.args.index / 256) (c.args.index % 256 + 1) _ i refl (omega (arith, c.loop.invariant.made)) c.index_mut-page.ensures.value (omega (arith, c.len.ensures, c.if-len-room.true)) c.in_ok-resize.ensures.items ∙ c.loop.invariant.same i

pub returns-else-len-room-clause-made : goal.returns-else-len-room-clause-made
returns-else-len-room-clause-made c = has_slot c.loop.self _ c.index_mut-page.result.now _ refl (omega (arith, c.loop.invariant.made)) (omega (arith, c.len.ensures, c.if-len-room.false))

pub returns-else-len-room-clause-same : goal.returns-else-len-room-clause-same
returns-else-len-room-clause-same c = λ i. slots_put_back c.loop.self _ c.index_mut-page.result.now c.index_mut-page.result.now (c.args.index / 256) i refl (omega (arith, c.loop.invariant.made)) c.index_mut-page.ensures.value refl ∙ c.loop.invariant.same i
