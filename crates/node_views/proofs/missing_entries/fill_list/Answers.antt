-- One entry after another.
use Rattle.std.proofs.Common.{refl, ◌∙◌, None, arith}
use Rattle.node_state.specs.Leading.{put_and_hand}
use Rattle.entry_delivery.proofs.DoingLaws.{does_nothing, does_more, does_all, receive_nothing, receive_then}
use Rattle.node_views.proofs.missing_entries.fill_list.Goals as goal

pub loop-e-init : goal.loop-e-init
loop-e-init g c = (c.requires.work, refl, does_nothing _ _ _ (receive_nothing _ _))

pub loop-e-preserved : goal.loop-e-preserved
loop-e-preserved g c = (
  c.in_ok-fill_one.ensures.work,
  c.in_ok-fill_one.ensures.scripts ∙ c.loop-e.invariant.1,
  does_more _ _ _ _ (receive_then _ _ _ _) c.args.core.now c.loop-e.core c.fill_one.new.core (λ f t e. put_and_hand f t None c.args.group.now e) c.args.entries.now c.loop-e.e-index c.e-item.result c.loop-e-test.true c.e-item.is c.loop-e.invariant.2
      (rw c.loop-e.invariant.1 at c.in_ok-fill_one.ensures.does),
)

pub returns-clause-does : goal.returns-clause-does
returns-clause-does g c = does_all _ _ c.args.core.now c.loop-e.core (λ f t e. put_and_hand f t None c.args.group.now e) c.args.entries.now c.loop-e.e-index (omega arith) c.loop-e.invariant.2
