-- What the events of a run hand to clients, part by part.
use Rattle.std.proofs.Common.{◌≡◌, List, [], ◌∷◌, ◌++◌, fold, sym, subst}
use Rattle.client_callbacks.specs.Handed.{Handed}
use Rattle.node_state.specs.declared.happened.Happened.{Happened}
use Rattle.node_core.specs.Node.{NodeView}
use Rattle.world_model.specs.declared.event.Event.{Event}
use Rattle.world_model.specs.declared.event.Event.TheVariants as event
use Rattle.world_model.specs.World.{World, Sent, node_at, kth_between}
use Rattle.world_laws.specs.world_runs.Runs.{SameRun}
use Rattle.world_laws.specs.world_answers.Answers.{Answered, goes_on}
use Rattle.run_hands.specs.Hands.{Logs, EventHands, RunHands}
use Rattle.net_script.specs.Stage.{RunHears}

-- ---- one event

-- what waits is not read
hands_alike : (w : World) (q : List Sent) (e : Event) (rs : List Happened) (old new : Logs) → EventHands w e rs old new → EventHands (record w { queue = q }) e rs old new
unfolding node_at kth_between
hands_alike w q (event.Start n) rs old new h = h
hands_alike w q (event.Stop n) rs old new h = h
hands_alike w q (event.Tick n) rs old new h = h
hands_alike w q (event.Ask n mask) rs old new h = h
hands_alike w q (event.Call n c) rs old new h = h
hands_alike w q (event.Show n what) rs old new h = h
hands_alike w q (event.Deliver a b k) rs old new h = h
hands_alike w q (event.Garbage n bytes) rs old new h = h

pub hands_same : (w v : World) (e : Event) (rs : List Happened) (old new : Logs) → SameRun w v → EventHands w e rs old new → EventHands v e rs old new
hands_same w v e rs old new same h = subst (λ z. EventHands z e rs old new) (sym same) (hands_alike w v.queue e rs old new h)

-- ---- one part and then the next

hands_then : {C : Type 0} (R : C → List Handed → Type 0) (w : World) (es fs : List Answered) (old mid new : Logs) → RunHands R w es old mid → RunHands R (fold goes_on w es) fs mid new → RunHands R w (es ++ fs) old new
hands_then R w [] fs old mid new e h = subst (λ ls. RunHands R w fs ls new) e h
hands_then R w (a ∷ es) fs old mid new f h = (f.0, f.1, f.2, f.3, f.4, hands_then R (goes_on w a) es fs f.1 mid new f.5 h)

pub hears_then : {C : Type 0} (R : C → List Handed → Type 0) (ns ms os : List (NodeView C)) (w v : World) (es fs : List Answered) → v ≡ fold goes_on w es → RunHears R ns ms w es → RunHears R ms os v fs → RunHears R ns os w (es ++ fs)
hears_then R ns ms os w v es fs comes f g old stand =
    let x = f old stand in
    let y = g x.0 x.2 in
    (y.0, hands_then R w es fs old x.0 y.0 x.1 (subst (λ z. RunHands R z fs x.0 y.0) comes y.1), y.2)
