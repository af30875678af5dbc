-- The run that plain events make, one after another, with what clients answer at them, and what is asked of them.
use Rattle.std.specs.Prelude.{◌-◌, ◌≡◌, ◌≢◌, false, List, [], ◌∷◌, ◌++◌, length, take, Some, None}
use Rattle.rsct_packet.specs.Lists.{reverse_onto}
use Rattle.node_state.specs.declared.config.Config.{Config}
use Rattle.node_state.specs.declared.config.Mode.{Mode}
use Rattle.node_state.specs.declared.config.Mode.TheVariants.{Fixed, Asked, Rings}
use Rattle.node_state.specs.declared.happened.Happened.{Happened}
use Rattle.node_state.specs.Settings.{is_fixed}
use Rattle.world_model.specs.declared.event.Event.{Event}
use Rattle.world_model.specs.declared.event.Event.TheVariants as event
use Rattle.world_model.specs.World.{World, world_new}
use Rattle.world_model.specs.Run.{Happening, Run}
use Rattle.world_laws.specs.world_answers.Answers.{Answered, goes_on}

-- the records that a world has more than an older one, in order
abbrev pub records_since : World → World → List Happened
records_since old new = reverse_onto (take (length new.trace - length old.trace) new.trace) []

-- an event, with the records that it adds
abbrev pub happening : World → Answered → Happening
happening w e = record { event = Some e.event; records = records_since w (goes_on w e) }

abbrev pub events_from : World → List Answered → Run
events_from w [] = []
events_from w (e ∷ es) = happening w e ∷ events_from (goes_on w e) es

-- in mode fixed every node starts first, without an event
abbrev pub beginning : World → Mode → Run
beginning w Fixed = record { event = None; records = reverse_onto w.trace [] } ∷ []
beginning w Asked = []
beginning w Rings = []

-- the run of a list of events
abbrev pub run_of_events : Config → List Answered → Run
run_of_events c es = beginning (world_new c) c.mode ++ events_from (world_new c) es

-- what an event asks for: no node is 0, and in mode fixed none starts but at the beginning
abbrev pub MayHappen : Config → Event → Type 0
MayHappen c (event.Start n) = (is_fixed c.mode ≡ false) × (n ≢ 0)
MayHappen c _ = Unit {0}

abbrev pub AllMayHappen : Config → List Event → Type 0
AllMayHappen c [] = Unit {0}
AllMayHappen c (e ∷ es) = MayHappen c e × AllMayHappen c es
