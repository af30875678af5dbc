-- One group after another.
use Rattle.std.proofs.Common.{refl, ◌∙◌, arith}
use Rattle.node_groups.proofs.KeepLaws.{stays_itself, stays_then}
use Rattle.entry_delivery.proofs.DoingLaws.{does_nothing, receive_nothing, receive_then}
use Rattle.node_views.proofs.SideLaws.{sides_more, sides_all}
use Rattle.node_views.proofs.dissolved.dissolve_sides.Goals as goal

pub loop-row-init : goal.loop-row-init
loop-row-init g c = (refl, refl, does_nothing _ _ _ (receive_nothing _ _), stays_itself _)

pub loop-row-preserved : goal.loop-row-preserved
loop-row-preserved g c = (
  c.in_ok-dissolve_group.ensures.length ∙ c.loop-row.invariant.0,
  c.in_ok-dissolve_group.ensures.scripts ∙ c.loop-row.invariant.1,
  sides_more _ _ _ _ (receive_then _ _ _ _) c.args.old c.args.bases.now c.args.core.now c.loop-row.core c.dissolve_group.new.core c.args.rows.now c.loop-row.row-index c.row-item.result c.loop-row-test.true c.row-item.is c.loop-row.invariant.2
      (rw c.loop-row.invariant.1 at c.in_ok-dissolve_group.ensures.does),
  stays_then _ _ _ c.loop-row.invariant.3 c.in_ok-dissolve_group.ensures.stays,
)

pub returns-clause-does : goal.returns-clause-does
returns-clause-does g c = sides_all _ _ c.args.old c.args.bases.now c.args.core.now c.loop-row.core c.args.rows.now c.loop-row.row-index (omega arith) c.loop-row.invariant.2
