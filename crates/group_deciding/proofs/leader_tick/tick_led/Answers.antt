-- A frozen node does nothing.
use Rattle.std.proofs.Common.{sym, ◌∙◌}
use Rattle.std.proofs.lemmas.Result.{on_ok_weaker}
use Rattle.entry_delivery.proofs.DoingLaws.{receive_nothing}
use Rattle.group_deciding.proofs.TickLaws.{led_frozen, led_runs}
use Rattle.group_deciding.proofs.leader_tick.tick_led.Goals as goal

pub returns-then-is_frozen-clause-does : goal.returns-then-is_frozen-clause-does
returns-then-is_frozen-clause-does g c = led_frozen _ _ (receive_nothing _ _) c.args.core.now (sym c.is_frozen.ensures ∙ c.if-is_frozen.true)

pub returns-clause-does : goal.returns-clause-does
returns-clause-does g c =
    on_ok_weaker c.tick_each_led.result (λ done. led_runs _ _ c.args.core.now c.tick_each_led.new.core (sym c.is_frozen.ensures ∙ c.if-is_frozen.false) done) c.tick_each_led.ensures.does
