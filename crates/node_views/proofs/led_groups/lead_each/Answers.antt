-- One group after another.
use Rattle.std.proofs.Common.{refl, ◌∙◌, arith}
use Rattle.node_state.specs.Applying.{lead}
use Rattle.entry_delivery.proofs.DoingLaws.{does_nothing, does_more, does_all, receive_nothing, receive_then}
use Rattle.node_views.proofs.led_groups.lead_each.Goals as goal

pub loop-g-init : goal.loop-g-init
loop-g-init g c = (c.requires.work, refl, does_nothing _ _ _ (receive_nothing _ _))

pub loop-g-preserved : goal.loop-g-preserved
loop-g-preserved g c = (
  c.in_ok-lead.ensures.work,
  c.in_ok-lead.ensures.scripts ∙ c.loop-g.invariant.1,
  does_more _ _ _ _ (receive_then _ _ _ _) c.args.core.now c.loop-g.core c.lead.new.core lead c.args.groups.now c.loop-g.g-index c.g-item.result c.loop-g-test.true c.g-item.is c.loop-g.invariant.2
      (rw c.loop-g.invariant.1 at c.in_ok-lead.ensures.does),
)

pub returns-clause-does : goal.returns-clause-does
returns-clause-does g c = does_all _ _ c.args.core.now c.loop-g.core lead c.args.groups.now c.loop-g.g-index (omega arith) c.loop-g.invariant.2
