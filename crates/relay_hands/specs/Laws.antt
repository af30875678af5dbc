-- What a run with relays hands to clients is what its direct run hands to them.
use Rattle.std.specs.Prelude.{List}
use Rattle.client_callbacks.specs.Handed.{Handed}
use Rattle.node_state.specs.declared.config.Config.{Config}
use Rattle.world_model.specs.World.{world_new}
use Rattle.world_laws.specs.world_answers.Answers.{Answered}
use Rattle.relay_model.specs.Relays.{relayed_new}
use Rattle.relay_laws.specs.Direct.{AreDirect}
use Rattle.run_hands.specs.Hands.{Logs, RunHands}
use Rattle.relay_hands.specs.Hands.{RelayRunHands}

abbrev pub HandsDirectly : {C : Type 0} → (C → List Handed → Type 0) → Type 0
HandsDirectly R = (c : Config) (es ds : List Answered) (old new : Logs) → AreDirect c es ds → RelayRunHands R (relayed_new c) es old new → RunHands R (world_new c) ds old new
