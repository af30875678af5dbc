-- How many packets a step of a node sends at most.
use Rattle.std.specs.Prelude.{ℕ, ◌+◌, ◌*◌, ◌≤◌, length}
use Rattle.node_state.specs.declared.state.Core.{Core}
use Rattle.node_state.specs.Step.{NodeEvent, at_work}
use Rattle.send_laws.specs.Bound.{puts_of, led_count, owed_count, Ready}

-- where the node is ready for the event, as each node of a run is: 600 packets, 600 for each group that it leads, 100 for each entry
-- that it puts, and two for each request, ballot and provider that it keeps
abbrev pub SendsFew : Core → NodeEvent → Core → Type 0
SendsFew s e t = Ready (at_work s) e → length t.sends ≤ 600 + 600 * led_count s + 100 * puts_of t.records + 2 * owed_count s
