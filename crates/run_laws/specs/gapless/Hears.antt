-- In the event of a put each provider of the node that takes part hears it.
use Rattle.std.specs.Prelude.{◌≡◌, ℕ, false, List, ◌∷◌, IsTrue}
use Rattle.rsct_packet.specs.declared.ids.ProviderId.{ProviderId}
use Rattle.rsct_packet.specs.Search.{Has}
use Rattle.node_state.specs.declared.config.Config.{Config}
use Rattle.node_state.specs.declared.happened.Happened.{Happened}
use Rattle.node_state.specs.declared.happened.Happened.TheVariants.{Put, Heard}
use Rattle.world_model.specs.Run.{Happening}
use Rattle.run_safety.specs.Past.{History, EachEvent, Within, earlier}
use Rattle.run_safety.specs.Stays.{stays, part, takes_part, lets_go, was_let_go}
use Rattle.step_refinement.specs.Tied.{Scene}
use Rattle.provider_laws.specs.leaving.Scenes.{Recounted}

-- each provider of the node that takes part at the place of the put hears it in that event, unless it was let go, by an earlier
-- event or by this one
abbrev pub AllHearUnlessLetGo : Happening → List Happened → History → Happened → Type 0
AllHearUnlessLetGo event now before (Put n v g i e) =
    (p : ProviderId) → p.node ≡ n → IsTrue (takes_part i (part p (stays n g (Put n v g i e ∷ earlier now before)))) → was_let_go p before ≡ false → lets_go p event before ≡ false → (ms : List ProviderId) × (value : List ℕ) × Has (Heard p v g i e ms value) event.records
AllHearUnlessLetGo event now before _ = Unit {0}

-- at each record of a history
abbrev pub EachHears : History → Type 0
EachHears h = EachEvent (λ event before. Within (AllHearUnlessLetGo event) event.records before) h

-- in every scene whose history names calls, and calls alone, as calls
abbrev pub TakersHear : Type 0
TakersHear = (c : Config) (w : Scene) → Recounted c w → EachHears w.before
