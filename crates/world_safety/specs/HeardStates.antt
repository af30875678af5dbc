-- The state that comes with what a provider hears: what its node's list of the group makes of the base, up to the entry that
-- is heard.
use Rattle.std.specs.Prelude.{ℕ, ◌+◌, ◌≡◌, List, [], ◌∷◌, ◌++◌, Option, Some, None, slice_get}
use Rattle.proposal_core.specs.declared.group_state.GroupState.{GroupState}
use Rattle.node_state.specs.declared.config.Config.{Config}
use Rattle.node_state.specs.declared.happened.Happened.{Happened}
use Rattle.node_state.specs.declared.happened.Happened.TheVariants.{Heard}
use Rattle.node_state.specs.State.{state_of}
use Rattle.node_state.specs.Handed.{Logged, logged_in}
use Rattle.world_model.specs.declared.event.Event.{Event}
use Rattle.world_model.specs.declared.event.Event.TheVariants as event
use Rattle.world_model.specs.World.{Node, node_at}
use Rattle.run_safety.specs.Past.{puts_of, state_at}
use Rattle.world_laws.specs.world_runs.Runs.{Recorded}
use Rattle.world_laws.specs.world_answers.Answers.{Answered, events_in, answered_after}
use Rattle.world_safety.specs.Events.{AllMayHappen}

-- The entry that is heard at place i stands at place i of its node's list of the group in that view, as these records tell it,
-- the latest first; and the state is the fold of the first i + 1 entries of that list, from the base of the group there.
abbrev pub FoldAt : List Happened → Happened → GroupState → Type 0
FoldAt rs (Heard p v g i e members value) state =
    (slice_get (puts_of p.node v g rs) i ≡ Some e) × (state ≡ state_at p.node v g (i + 1) rs)
FoldAt rs _ state = Unit {0}

-- so it is with each record of a log
abbrev pub AreFolds : List Happened → List Logged → Type 0
AreFolds rs [] = Unit {0}
AreFolds rs (l ∷ ls) = FoldAt rs l.what l.after × AreFolds rs ls

-- the node that takes a step at an event, where one may
abbrev pub stepping : Event → Option ℕ
stepping (event.Start n) = None
stepping (event.Stop n) = None
stepping (event.Tick n) = Some n
stepping (event.Ask n mask) = Some n
stepping (event.Call n c) = Some n
stepping (event.Show n what) = None
stepping (event.Deliver a b k) = Some b
stepping (event.Garbage n bytes) = Some n

-- After events that may happen, whatever clients answer, comes one more, at which a node takes a step. Each state that its
-- records make of those of the node's groups, where a provider hears an entry, is the fold.
abbrev pub HeardStatesAreFolds : Type 0
HeardStatesAreFolds =
    (c : Config) (es : List Answered) (e : Answered) (n : ℕ) (x : Node) (rs : List Happened) → AllMayHappen c (events_in (es ++ e ∷ [])) → stepping e.event ≡ Some n → node_at (answered_after c es) n ≡ Some x
    → Recorded (answered_after c es) (answered_after c (es ++ e ∷ [])) rs → AreFolds (answered_after c (es ++ e ∷ [])).trace (logged_in rs (state_of x.core))

-- and what was the fold stays it, whatever comes after it
abbrev pub FoldsStay : Type 0
FoldsStay =
    (c : Config) (es : List Answered) (e : Answered) (ls : List Logged) → AllMayHappen c (events_in (es ++ e ∷ [])) → AreFolds (answered_after c es).trace ls → AreFolds (answered_after c (es ++ e ∷ [])).trace ls
