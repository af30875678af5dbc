use Rattle.run_audit.proofs.RequestLaws.{undue_here, undue_elsewhere}
use Rattle.run_audit.proofs.requests.Requests.is_undue.Goals as goal

pub returns-then-is_other : goal.returns-then-is_other
returns-then-is_other c = λ ls are. undue_elsewhere c.args.node c.args.group.now c.args.kind c.args.provider c.args.request c.args.self.now ls c.is_other.result c.is_other.ensures c.if-is_other.true

pub returns : goal.returns
returns c =
    λ ls are. undue_here c.args.node c.args.group.now c.args.kind c.args.provider c.args.request c.args.self.now ls c.request_key-key.result c.in_ok-asked.asked c.is_barred.result c.is_other.result c.line.result c.line-2.result c.is_other.ensures c.if-is_other.false c.request_key-key.ensures
    (c.in_ok-asked.ensures ls are.asked) c.line.ensures c.line-2.ensures c.is_barred.ensures are
