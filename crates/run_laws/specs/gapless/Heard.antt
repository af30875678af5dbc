-- Each put is heard by each provider of the node that takes part at its place.
use Rattle.std.specs.Prelude.{◌≡◌, ℕ, false, not, ◌&&◌, Bool, List, ◌∷◌, IsTrue}
use Rattle.std.specs.List.{list_any}
use Rattle.rsct_packet.specs.declared.ids.ProviderId.{ProviderId}
use Rattle.rsct_packet.specs.Search.{Has}
use Rattle.node_state.specs.declared.config.Config.{Config}
use Rattle.node_state.specs.declared.happened.Happened.{Happened}
use Rattle.node_state.specs.declared.happened.Happened.TheVariants.{Put, Heard}
use Rattle.world_model.specs.Run.{Happening}
use Rattle.run_safety.specs.Past.{History, EachEvent, Within, earlier}
use Rattle.run_safety.specs.SafeHeard.{AllHear}
use Rattle.run_safety.specs.Stays.{stays, part, takes_part, client_of, goodbye_of, is_refused, was_let_go}
use Rattle.step_refinement.specs.Tied.{Scene}
use Rattle.provider_laws.specs.leaving.Scenes.{Recounted}

-- in this very event the provider's client says goodbye, and the call is taken
abbrev pub leaves : ProviderId → Happening → History → Bool
leaves p e before = goodbye_of p.node (client_of p before) e.event && not (list_any is_refused e.records)

-- in the event of a put, each provider of the node that takes part at its place hears it, unless an earlier event let it go, or its
-- client says goodbye in this one
abbrev pub AllHearUnlessLeaving : Happening → List Happened → History → Happened → Type 0
AllHearUnlessLeaving event now before (Put n v g i e) =
    (p : ProviderId) → p.node ≡ n → IsTrue (takes_part i (part p (stays n g (Put n v g i e ∷ earlier now before)))) → was_let_go p before ≡ false → leaves p event before ≡ false → (ms : List ProviderId) × (value : List ℕ) × Has (Heard p v g i e ms value) event.records
AllHearUnlessLeaving event now before _ = Unit {0}

-- at each record of a history
abbrev pub EachIsHeard : History → Type 0
EachIsHeard h = EachEvent (λ event before. Within (AllHearUnlessLeaving event) event.records before) h

-- in every scene whose history names calls, and calls alone, as calls
abbrev pub EachPutIsHeard : Type 0
EachPutIsHeard = (c : Config) (w : Scene) → Recounted c w → EachIsHeard w.before

-- each provider that takes part hears each put, unless an earlier event let it go: in every scene whose history names calls, and calls
-- alone, as calls
abbrev pub AllHearEachPut : Type 0
AllHearEachPut = (c : Config) (w : Scene) → Recounted c w → EachEvent (λ event before. Within (AllHear event) event.records before) w.before
