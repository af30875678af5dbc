-- That every step of a run sends few packets, whatever started, stopped and stepped before it, in any order.
use Rattle.std.specs.Prelude.{ℕ, ◌+◌, ◌*◌, ◌≤◌, ◌≡◌, length, Some}
use Rattle.rsct_packet.specs.Search.{Has}
use Rattle.view_state.specs.declared.install.Install.{Install}
use Rattle.view_state.specs.declared.packet.ViewPacket.TheVariants as view
use Rattle.node_state.specs.declared.config.Config.{Config}
use Rattle.node_state.specs.declared.packet.Body.TheVariants as body
use Rattle.node_state.specs.declared.packet.Packet.{Packet}
use Rattle.node_state.specs.declared.state.Core.{Core}
use Rattle.node_state.specs.HandOn.{Answering}
use Rattle.node_state.specs.Step.{NodeEvent, at_work, stepped}
use Rattle.step_refinement.specs.Tied.{Scene}
use Rattle.step_refinement.specs.Rules.{Arises}
use Rattle.step_refinement.specs.Runs.{Reached}
use Rattle.send_laws.specs.Bound.{puts_of, led_count, owed_count, Ready}

-- each node that is up is ready for an event, where a packet that it is given was sent
abbrev pub RunsAreReady : Type 0
RunsAreReady =
    (c : Config) (w : Scene) → Reached c w → (n : ℕ) (s : Core) → w.cores n ≡ Some s → (e : NodeEvent) → Arises w e → Ready (at_work s) e

-- whatever its clients answer: at most 600 packets, 600 for each group that it leads, 100 for each entry that it puts, and
-- two for each packet that it owes
abbrev pub StepsOfRunsSend : Type 0
StepsOfRunsSend =
    (c : Config) (w : Scene) → Reached c w → (n : ℕ) (s : Core) → w.cores n ≡ Some s → (e : NodeEvent) → Arises w e → (f : Answering) →
    length (stepped f s e).sends ≤ 600 + 600 * led_count s + 100 * puts_of (stepped f s e).records + 2 * owed_count s

abbrev pub SentInstallsAreFew : Type 0
SentInstallsAreFew =
    (c : Config) (w : Scene) → Reached c w → (p : Packet) (i : Install) → Has p w.sent → p.body ≡ body.View (view.Install i) → length i.members ≤ 32
