-- The failed members wait, and then the phase is opened anew.
use Rattle.std.proofs.Common.{◌∙◌}
use Rattle.std.proofs.lemmas.Result.{on_ok_weaker}
use Rattle.node_views.proofs.WorkLaws.{led_does}
use Rattle.node_views.proofs.led_groups.lead_from.Goals as goal

pub returns-clause-does : goal.returns-clause-does
returns-clause-does g c =
    on_ok_weaker c.reopen.result
    (λ leading. led_does _ _ c.args.core.now c.wait_failed.new.core c.reopen.new.core c.args.group.now c.args.state.now c.as_slice.result.now c.is_some.result
    c.requires.state (c.as_slice.ensures.value ∙ c.in_ok-failed.ensures) c.is_some.ensures c.in_ok-wait_failed.ensures.rule c.in_ok-wait_failed.ensures.keeps leading)
    c.reopen.ensures.does
