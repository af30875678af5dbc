-- What leaders at rest have done at each moment of every run.
use Rattle.std.specs.Prelude.{◌≡◌, ℕ, List, Some}
use Rattle.node_state.specs.declared.config.Config.{Config}
use Rattle.node_state.specs.declared.state.Core.{Core}
use Rattle.world_model.specs.World.{World}
use Rattle.run_safety.specs.Past.{History}
use Rattle.world_laws.specs.world_answers.Answers.{Answered, events_in}
use Rattle.world_safety.specs.Events.{AllMayHappen}
use Rattle.world_safety.specs.Mirrors.{core_at}
use Rattle.world_safety.specs.Moments.{AtEachMoment}
use Rattle.rest_laws.specs.Leaders.{LeadsAtRest}

-- each node that is up
abbrev pub AllLeadAtRest : World → History → Type 0
AllLeadAtRest w h = (n : ℕ) (s : Core) → core_at w.nodes n ≡ Some s → LeadsAtRest s h

-- whatever the clients answer
abbrev pub EveryLeaderIsAtRest : Type 0
EveryLeaderIsAtRest = (c : Config) (es : List Answered) → AllMayHappen c (events_in es) → AtEachMoment AllLeadAtRest c es
