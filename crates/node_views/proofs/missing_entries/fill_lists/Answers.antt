-- One list after another.
use Rattle.std.proofs.Common.{refl, ◌∙◌, arith}
use Rattle.node_state.specs.declared.state.Core.{Core}
use Rattle.node_state.specs.HandOn.{Answering}
use Rattle.node_views.specs.declared.missing_entries.Missing.{Missing}
use Rattle.node_views.specs.Filling.{list_filled}
use Rattle.entry_delivery.proofs.DoingLaws.{does_nothing, does_more, does_all, receive_nothing, receive_then}
use Rattle.node_views.proofs.WorkLaws.{filled_does}
use Rattle.node_views.proofs.missing_entries.fill_lists.Goals as goal

abbrev one_list : Answering → Core → Missing → Core
one_list f t m = list_filled f m.group.now t m.entries.now

pub loop-m-init : goal.loop-m-init
loop-m-init g c = (c.requires.work, refl, does_nothing _ _ _ (receive_nothing _ _))

pub loop-m-preserved : goal.loop-m-preserved
loop-m-preserved g c = (
  c.in_ok-fill_list.ensures.work,
  c.in_ok-fill_list.ensures.scripts ∙ c.loop-m.invariant.1,
  does_more _ _ _ _ (receive_then _ _ _ _) c.args.core.now c.loop-m.core c.fill_list.new.core one_list c.args.missing.now c.loop-m.m-index c.m-item.result c.loop-m-test.true c.m-item.is c.loop-m.invariant.2
      (rw c.loop-m.invariant.1 at c.in_ok-fill_list.ensures.does),
)

pub returns-clause-does : goal.returns-clause-does
returns-clause-does g c =
    filled_does _ _ c.args.core.now c.loop-m.core c.args.missing.now (does_all _ _ c.args.core.now c.loop-m.core one_list c.args.missing.now c.loop-m.m-index (omega arith) c.loop-m.invariant.2)
