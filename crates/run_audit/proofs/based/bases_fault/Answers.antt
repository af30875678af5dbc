use Rattle.run_audit.proofs.BasedLaws.{bases_kept, bases_broken}
use Rattle.run_audit.proofs.based.bases_fault.Goals as goal

pub returns-then-agree : goal.returns-then-agree
returns-then-agree c =
    λ ls v ms based views stays. bases_kept c.args.node v ms ls c.view-left.result c.first_in-first.result c.in_ok-agree.agree (c.view-left.ensures ls stays) (c.first_in-first.ensures ls views) (c.in_ok-agree.ensures ls based) c.if-agree.true

pub returns-else-agree : goal.returns-else-agree
returns-else-agree c =
    λ ls v ms based views stays. bases_broken c.args.node v ms ls c.view-left.result c.first_in-first.result c.in_ok-agree.agree (c.view-left.ensures ls stays) (c.first_in-first.ensures ls views) (c.in_ok-agree.ensures ls based) c.line_in.result c.if-agree.false (c.line_in.ensures ls views)
