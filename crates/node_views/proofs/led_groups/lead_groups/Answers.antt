-- The groups are those that the node leads.
use Rattle.std.proofs.Common.{◌∙◌}
use Rattle.std.proofs.lemmas.Result.{on_ok_weaker}
use Rattle.node_views.proofs.WorkLaws.{all_led_does}
use Rattle.node_views.proofs.led_groups.lead_groups.Goals as goal

pub returns-clause-does : goal.returns-clause-does
returns-clause-does g c =
    on_ok_weaker c.lead_each.result (λ leading. all_led_does _ _ c.args.core.now c.lead_each.new.core c.as_slice.result.now (c.as_slice.ensures.value ∙ c.in_ok-groups.ensures) leading) c.lead_each.ensures.does
