use Rattle.run_audit.proofs.OpenLaws.{opening_is}
use Rattle.run_audit.proofs.openings.opening_line.Goals as goal

pub returns : goal.returns
returns c =
    λ ls openings based. opening_is c.args.node c.args.view c.args.group.now ls c.in_ok-put.put c.in_ok-own.own c.in_ok-first.first c.or_number.result c.or_number-base.result (c.in_ok-put.ensures ls openings) (c.in_ok-own.ensures ls based) (c.in_ok-first.ensures ls based) c.or_number-base.ensures c.or_number.ensures
