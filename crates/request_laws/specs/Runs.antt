-- What becomes of requests, at each moment of every run.
use Rattle.std.specs.Prelude.{◌≡◌, ℕ, List, Some}
use Rattle.node_state.specs.declared.config.Config.{Config}
use Rattle.node_state.specs.declared.state.Core.{Core}
use Rattle.world_model.specs.World.{World}
use Rattle.run_safety.specs.Past.{History}
use Rattle.world_laws.specs.world_answers.Answers.{Answered, events_in}
use Rattle.world_safety.specs.Events.{AllMayHappen}
use Rattle.world_safety.specs.Mirrors.{core_at}
use Rattle.world_safety.specs.Moments.{AtEachMoment}
use Rattle.request_laws.specs.Requests.{KeepsRequests}

-- at each node that is up
abbrev pub AllKeepRequests : World → History → Type 0
AllKeepRequests w h = (n : ℕ) (s : Core) → core_at w.nodes n ≡ Some s → KeepsRequests n s.sessions h

-- whatever the clients answer
abbrev pub EveryRequestIsKept : Type 0
EveryRequestIsKept = (c : Config) (es : List Answered) → AllMayHappen c (events_in es) → AtEachMoment AllKeepRequests c es
