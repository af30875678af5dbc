-- One after another.
use Rattle.std.proofs.Common.{refl, ◌∙◌, arith}
use Rattle.std.specs.Prelude.{option_copied}
use Rattle.std.proofs.lemmas.List.{get_or_default}
use Rattle.node_groups.proofs.KeepLaws.{stays_itself, stays_then}
use Rattle.entry_delivery.proofs.DoingLaws.{does_nothing, does_more, does_all, receive_nothing, receive_then}
use Rattle.node_views.proofs.SideLaws.{one_dissolved}
use Rattle.node_views.proofs.dissolved.dissolve_each.Goals as goal

pub loop-p-init : goal.loop-p-init
loop-p-init g c = (refl, refl, does_nothing _ _ _ (receive_nothing _ _), stays_itself _)

pub loop-p-preserved : goal.loop-p-preserved
loop-p-preserved g c = (
  c.in_ok-dissolve_if.ensures.length ∙ c.loop-p.invariant.0,
  c.in_ok-dissolve_if.ensures.scripts ∙ c.loop-p.invariant.1,
  does_more _ _ _ _ (receive_then _ _ _ _) c.args.core.now c.loop-p.core c.dissolve_if.new.core (one_dissolved c.args.group.now c.args.old (option_copied c.args.base)) c.args.providers.now c.loop-p.p-index _ c.loop-p-test.true (get_or_default c.args.providers.now c.loop-p.p-index _ _ c.loop-p-test.true) c.loop-p.invariant.2
      (rw c.loop-p.invariant.1 at c.in_ok-dissolve_if.ensures.does),
  stays_then _ _ _ c.loop-p.invariant.3 c.in_ok-dissolve_if.ensures.stays,
)

pub returns-clause-does : goal.returns-clause-does
returns-clause-does g c =
    does_all _ _ c.args.core.now c.loop-p.core (one_dissolved c.args.group.now c.args.old (option_copied c.args.base)) c.args.providers.now c.loop-p.p-index (omega arith) c.loop-p.invariant.2
