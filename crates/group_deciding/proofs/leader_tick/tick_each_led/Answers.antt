-- The names are those of the led groups.
use Rattle.group_deciding.proofs.leader_tick.tick_each_led.Goals as goal

pub returns-clause-does : goal.returns-clause-does
returns-clause-does g c = rw c.in_ok-names.ensures at (rw c.as_slice.ensures.value at c.tick_groups.ensures.does)
