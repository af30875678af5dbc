use Rattle.std.proofs.Common.{arith}
use Rattle.view_exchange.proofs.InOrder.{leads_more, leads_stop, leads_astray, leads_all, leads_some}
use Rattle.view_exchange.proofs.in_place.read_group_parts.Goals as goal

pub returns-in_err-part : goal.returns-in_err-part
returns-in_err-part c =
    let e = leads_stop c.args.count c.loop-i._i c.args.bytes.now c.loop-i.rest.now _ c.loop-i.invariant c.in_err-part.ensures.value c.loop-i-test.true in
    grind (arith, e, c.from_residual.ensures)

pub returns-then-not-is_after : goal.returns-then-not-is_after
returns-then-not-is_after c = leads_astray c.args.count c.loop-i._i c.args.bytes.now c.loop-i.rest.now c.in_ok-part.after.now _ _ c.loop-i.invariant c.in_ok-part.ensures.value (grind (arith, c.is_after.ensures, c.if-not-is_after.true)) c.loop-i-test.true

pub loop-i-preserved : goal.loop-i-preserved
loop-i-preserved c = leads_more c.args.count c.loop-i._i c.args.bytes.now c.loop-i.rest.now c.in_ok-part.after.now _ _ c.loop-i.invariant c.in_ok-part.ensures.value (grind (arith, c.is_after.ensures, c.if-not-is_after.false)) c.loop-i-test.true

pub invariant_of-result : goal.invariant_of-result
invariant_of-result c = leads_some c.args.count c.loop-i._i c.args.bytes.now c.loop-i.rest.now _ c.loop-i.invariant c.loop-i-test.false

pub returns : goal.returns
returns c = leads_all c.args.count c.loop-i._i c.args.bytes.now c.loop-i.rest.now _ c.loop-i.invariant c.loop-i-test.false
