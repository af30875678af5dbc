-- A node that starts is at work.
use Rattle.std.proofs.Common.{◌≡◌, ℕ, Bool, true, false, List, [], refl, sym, ap, ◌∙◌}
use Rattle.std.specs.Prelude.{IsTrue}
use Rattle.rsct_packet.specs.declared.ids.Member.{Member}
use Rattle.client_callbacks.specs.Ballots.{is_level}
use Rattle.node_state.specs.declared.config.Config.{Config}
use Rattle.node_state.specs.declared.state.Core.{Core}
use Rattle.node_state.specs.Settings.{level_if, view_level}
use Rattle.node_state.specs.State.{with_sessions}
use Rattle.node_state.specs.Applying.{level_set}
use Rattle.node_state.specs.Step.{started}
use Rattle.group_leading.specs.Working.{AtWork}

level_there : (b : Bool) → IsTrue (is_level (level_if b))
unfolding level_if
level_there true = refl
level_there false = refl

view_level_there : (c : Config) (ms : List Member) → IsTrue (is_level (view_level c ms))
unfolding view_level
view_level_there c ms = level_there _

started_at_work : {C : Type 0} (c : Config) (me inc : ℕ) → AtWork {C = C} (started c me inc) []
unfolding started with_sessions level_set
started_at_work c me inc = record { ready = record { level = view_level_there c _; aligned = refl }; order = tt }

pub starts_at_work : {C : Type 0} (c : Config) (me inc : ℕ) (s : Core) (cs : List C) → s ≡ started c me inc → cs ≡ [] → AtWork s cs
starts_at_work c me inc s cs e none = rw (e, none) (started_at_work c me inc)
