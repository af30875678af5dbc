use Rattle.run_audit.proofs.OpenLaws.{cast_kept, cast_broken}
use Rattle.run_audit.proofs.opened.cast_fault.Goals as goal

pub returns-then-may_cast : goal.returns-then-may_cast
returns-then-may_cast c =
    λ ls v x heard casts. cast_kept c.args.provider c.args.proto c.args.phase v x ls c.cast_key.result c.has.result c.may_cast.result c.first_line-first.result c.args.heard.now (c.first_line-first.ensures ls casts) c.cast_key.ensures c.has.ensures c.may_cast.ensures heard c.if-may_cast.true

pub returns-else-may_cast : goal.returns-else-may_cast
returns-else-may_cast c =
    λ ls v x heard casts. cast_broken c.args.provider c.args.proto c.args.phase v x ls c.cast_key.result c.has.result c.may_cast.result c.first_line-first.result c.args.heard.now (c.first_line-first.ensures ls casts) c.cast_key.ensures c.has.ensures c.may_cast.ensures heard c.if-may_cast.false
