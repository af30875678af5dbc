-- Who is let go hears nothing.
use Rattle.std.specs.Prelude.{◌≡◌, ℕ, false, Some}
use Rattle.rsct_packet.specs.Search.{Has}
use Rattle.session_state.specs.declared.state.Provider.{Provider}
use Rattle.node_state.specs.declared.config.Config.{Config}
use Rattle.node_state.specs.declared.state.Core.{Core}
use Rattle.run_safety.specs.Past.{EachRecord}
use Rattle.run_safety.specs.SafeHeard.{NotLetGo}
use Rattle.run_safety.specs.Stays.{was_let_go}
use Rattle.step_refinement.specs.Tied.{Scene}
use Rattle.provider_laws.specs.leaving.Scenes.{Recounted}

-- whoever was let go by an earlier event, as its client said goodbye, it was told DISSOLVED or its node stopped, hears nothing
abbrev pub WhoIsLetGoHearsNothing : Type 0
WhoIsLetGoHearsNothing = (c : Config) (w : Scene) → Recounted c w → EachRecord NotLetGo w.before

-- and whoever is a provider of a node that is up was not let go
abbrev pub ProvidersWereNotLetGo : Type 0
ProvidersWereNotLetGo =
    (c : Config) (w : Scene) → Recounted c w → (n : ℕ) (s : Core) → w.cores n ≡ Some s → (x : Provider) → Has x s.sessions.providers → was_let_go x.provider w.before ≡ false
