-- The bases are those of the install, in the order of their names.
use Rattle.std.proofs.Common.{◌∙◌}
use Rattle.std.proofs.lemmas.Result.{on_ok_weaker}
use Rattle.entry_delivery.proofs.DoingLaws.{receive_then}
use Rattle.node_views.proofs.BaseOrder.{bases_ordered}
use Rattle.node_views.proofs.WorkLaws.{enter_does}
use Rattle.node_views.proofs.entry.enter.Goals as goal

pub arrive-requires-clause-order : goal.arrive-requires-clause-order
arrive-requires-clause-order g c = rw (c.as_slice.ensures, c.in_ok-bases.ensures.value) (bases_ordered c.args.install)

pub arrive-requires-clause-sound : goal.arrive-requires-clause-sound
arrive-requires-clause-sound g c = rw c.as_slice.ensures c.in_ok-bases.ensures.sound

pub returns-clause-does : goal.returns-clause-does
returns-clause-does g c =
    on_ok_weaker c.lead_groups.result
    (λ leading. enter_does _ _ _ _ (receive_then _ _ _ _) c.args.core.now c.arrive.new.core c.lead_groups.new.core c.args.install c.as_slice.result.now (c.as_slice.ensures ∙ c.in_ok-bases.ensures.value) c.in_ok-arrive.ensures.does leading)
    (rw c.in_ok-arrive.ensures.scripts at c.lead_groups.ensures.does)
