-- The parts of a tick, one after another.
use Rattle.std.proofs.Common.{◌∙◌}
use Rattle.std.proofs.lemmas.Result.{on_ok_weaker}
use Rattle.entry_delivery.proofs.DoingLaws.{receive_then}
use Rattle.node_core.proofs.StepLaws.{does_by, tick_does}
use Rattle.node_core.proofs.events.tick.Goals as goal

pub returns-clause-does : goal.returns-clause-does
returns-clause-does g c =
    on_ok_weaker c.end_step.result
    (λ ends. tick_does _ _ _ _ _ _ (receive_then _ _ _ _) (receive_then _ _ _ _) c.args.core.now c.tick_rings.new.core c.tick_views.new.core c.tick_owed.new.core c.tick_led.new.core c.end_step.new.core
    c.in_ok-tick_rings.ensures.rule c.in_ok-tick_rings.ensures.keeps c.in_ok-tick_views.ensures.does c.in_ok-tick_owed.ensures.rule c.in_ok-tick_owed.ensures.keeps
    (does_by _ _ _ _ _ _ c.in_ok-tick_views.ensures.scripts c.in_ok-tick_led.ensures.does)
    (does_by _ _ _ _ _ _ (c.in_ok-tick_led.ensures.scripts ∙ c.in_ok-tick_views.ensures.scripts) ends))
    c.end_step.ensures.does
