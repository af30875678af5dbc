use Rattle.std.proofs.Common.{[], sym, ◌∙◌}
use Rattle.run_audit.specs.Table.{is_undue}
use Rattle.run_audit.proofs.RequestLaws.{found_first, found_later}
use Rattle.run_audit.proofs.requests.Requests.undue_request.Goals as goal

pub returns-then-undue : goal.returns-then-undue
returns-then-undue c = λ ls are. sym (found_first (is_undue c.args.node c.args.group.now c.args.kind ls) (c.args.provider, c.args.request) [] (sym (c.in_ok-undue.ensures ls are) ∙ c.if-undue.true))

pub returns-else-undue : goal.returns-else-undue
returns-else-undue c = λ ls are. sym (found_later (is_undue c.args.node c.args.group.now c.args.kind ls) (c.args.provider, c.args.request) [] (sym (c.in_ok-undue.ensures ls are) ∙ c.if-undue.false))
