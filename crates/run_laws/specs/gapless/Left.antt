-- Just who is left behind is told DISSOLVED.
use Rattle.std.specs.Prelude.{ℕ}
use Rattle.rsct_packet.specs.declared.ids.ProviderId.{ProviderId}
use Rattle.rsct_packet.specs.Search.{Has}
use Rattle.client_callbacks.specs.declared.told.Why.TheVariants.{Dissolved}
use Rattle.node_state.specs.declared.config.Config.{Config}
use Rattle.node_state.specs.declared.happened.Happened.TheVariants.{Told}
use Rattle.world_model.specs.Run.{Happening}
use Rattle.run_safety.specs.Past.{History, EachEvent}
use Rattle.run_safety.specs.SafeHeard.{LeftBehind, Dissolves}
use Rattle.step_refinement.specs.Tied.{Scene}
use Rattle.provider_laws.specs.leaving.Scenes.{Recounted}

-- whoever is told DISSOLVED in the event is left behind in it
abbrev pub ToldWereLeft : Happening → History → Type 0
ToldWereLeft event before = (p : ProviderId) (r : ℕ) → Has (Told p r Dissolved) event.records → LeftBehind p event before

-- whoever is left behind in the event is told DISSOLVED in it
abbrev pub LeftAreTold : Happening → History → Type 0
LeftAreTold event before = (p : ProviderId) → LeftBehind p event before → (r : ℕ) × Has (Told p r Dissolved) event.records

-- in every scene whose history names calls, and calls alone, as calls
abbrev pub TheToldWereLeftBehind : Type 0
TheToldWereLeftBehind = (c : Config) (w : Scene) → Recounted c w → EachEvent ToldWereLeft w.before

-- and there just who is left behind is told
abbrev pub JustTheLeftBehindAreTold : Type 0
JustTheLeftBehindAreTold = (c : Config) (w : Scene) → Recounted c w → EachEvent Dissolves w.before
