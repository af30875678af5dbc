-- A node that starts is at work.
use Rattle.node_core.proofs.StartLaws.{starts_at_work}
use Rattle.node_core.proofs.node.Node.start.Goals as goal

pub invariant_of-result : goal.invariant_of-result
invariant_of-result g c = λ _. starts_at_work c.args.config c.args.me c.args.inc c.in_ok-start_core.field-0 c.new.result.items c.in_ok-start_core.ensures c.new.ensures.items
