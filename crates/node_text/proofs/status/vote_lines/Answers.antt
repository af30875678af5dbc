-- One row more.
use Rattle.std.proofs.Common.{◌<◌, length, arith}
use Rattle.node_text.proofs.StatusLaws.{votes_on}
use Rattle.node_text.proofs.status.vote_lines.Goals as goal

pub loop-row-preserved : goal.loop-row-preserved
loop-row-preserved c =
    let within : c.loop-row.row-index < length c.args.rows.now = omega arith in
    votes_on c.args.core.now c.args.rows.now c.loop-row.row-index c.row-item.result _ _ within c.row-item.is c.loop-row.invariant c.in_ok-push_vote_line.ensures
