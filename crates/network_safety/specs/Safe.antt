-- The events of a network's acts in a world, and that the run of every network is safe.
use Rattle.std.specs.Prelude.{ℕ, zero, suc, map, ◌≡◌, Bool, true, false, List, [], ◌∷◌, ◌++◌, Option, Some, None}
use Rattle.node_reach.specs.Reach.{reach_of}
use Rattle.node_state.specs.declared.call.CallLine.{CallLine}
use Rattle.node_state.specs.declared.config.Config.{Config}
use Rattle.node_state.specs.HandOn.{Answering}
use Rattle.world_model.specs.declared.event.Event.{Event}
use Rattle.world_model.specs.declared.event.Event.TheVariants as event
use Rattle.world_laws.specs.world_answers.Answers.{Answered, events_in}
use Rattle.remote_session.specs.Daemon.{SeenUp, NotUp, EndedKey, KeysFull, KnownKey, CallMade}
use Rattle.self_questions.specs.declared.messages.SelfQuestion.{SelfQuestion}
use Rattle.self_questions.specs.Messages.{question_of}
use Rattle.world_safety.specs.Events.{AllMayHappen}
use Rattle.world_safety.specs.Scripts.{IsSafe}
use Rattle.daemon_model.specs.Daemon.{Daemon, is_due, joined_by, received, up_in, with_up, call_in, goodbye_in}
use Rattle.daemon_model.specs.Actions.{Action, Opens, Ticks, EndsKey, Mends, Hears}
use Rattle.network_model.specs.Network.{Act, Begins, Does, Ends, Net, no_net, skipped, acted, net_after}
use Rattle.network_model.specs.Fits.{OfUp, IsSpelledSend, NetworkRun}
use Rattle.network_model.specs.Executions.{IsLinear, what_of, TimedLife, untimed, Execution, Ordered}
use Rattle.network_model.specs.Lives.{records_at, lives_records}
use Rattle.daemon_model.specs.Sent.{Exchange}

-- ---- the events of an act

abbrev pub answered_by : Answering → Event → Answered
answered_by f e = record { event = e; answers = f }

-- nobody is asked
abbrev pub silent : Event → Answered
silent e = record { event = e; answers = λ place sessions entry after p. None }

-- so many lives in which a node does nothing
abbrev pub idle_events : ℕ → ℕ → List Answered
idle_events n zero = []
idle_events n (suc k) = silent (event.Start n) ∷ silent (event.Stop n) ∷ idle_events n k

abbrev pub tick_events : Bool → ℕ → Answering → List Answered
tick_events true n f = answered_by f (event.Tick n) ∷ []
tick_events false n f = []

-- a node is given a packet that was sent to it, or bytes that do nothing there
abbrev pub IsGivenTo : ℕ → Event → Type 0
IsGivenTo n (event.Deliver from to k) = to ≡ n
IsGivenTo n (event.Garbage to bytes) = to ≡ n
IsGivenTo n _ = ⊥

-- a message is given to the node, in one event
abbrev pub IsGiven : ℕ → Answering → List Answered → Type 0
IsGiven n f es = (e : Event) × IsGivenTo n e × (es ≡ answered_by f e ∷ [])

-- a line of a client on another machine is a call of the node, if it is one
abbrev pub call_events : ℕ → Option CallLine → Answering → List Answered
call_events n None f = []
call_events n (Some call) f = answered_by f (event.Call n call) ∷ []

-- what a client on another machine says brings its call, or nothing; every other message is given to the node
abbrev pub BroughtEvents : ℕ → Daemon → SeenUp → List ℕ → Answering → List Answered → Type 0
BroughtEvents n d NotUp message f es = IsGiven n f es
BroughtEvents n d (EndedKey key) message f es = es ≡ []
BroughtEvents n d (KeysFull key limit) message f es = es ≡ []
BroughtEvents n d (KnownKey key) message f es = es ≡ []
BroughtEvents n d (CallMade key line) message f es = es ≡ call_events n (call_in (with_up message d).sessions d.me key line) f

-- a question about the daemon itself is no event
abbrev pub AskedEvents : ℕ → Daemon → Option SelfQuestion → List ℕ → Answering → List Answered → Type 0
AskedEvents n d None message f es = BroughtEvents n d (up_in d.sessions message) message f es
AskedEvents n d (Some q) message f es = es ≡ []

-- a message that is whole, if one is
abbrev pub GivenEvents : ℕ → Daemon → Option (List ℕ) → Answering → List Answered → Type 0
GivenEvents n d None f es = es ≡ []
GivenEvents n d (Some message) f es = AskedEvents n d (question_of message) message f es

-- an act of a daemon: a call; a tick, where one is due; the goodbye that a key owes as it ends; an order to ask for a view of the
-- nodes that it reaches; or the message that is whole by what it receives
abbrev pub ActionEvents : ℕ → Daemon → Action → List Answered → Type 0
ActionEvents n d (Opens opening) es = es ≡ answered_by opening.answers (event.Call n opening.call) ∷ []
ActionEvents n d (Ticks moment answers) es = es ≡ tick_events (is_due d.last moment) n answers
ActionEvents n d (EndsKey key answers) es = es ≡ call_events n (goodbye_in d.sessions key) answers
ActionEvents n d (Mends answers) es = es ≡ answered_by answers (event.Ask n (reach_of d.core.reach)) ∷ []
ActionEvents n d (Hears got answers) es = GivenEvents n (received got d) (joined_by got d.joining).message answers es

abbrev pub ActEvents : Net → Act → List Answered → Type 0
ActEvents net (Begins n incarnation moment service) es = es ≡ idle_events n (skipped net n incarnation) ++ silent (event.Start n) ∷ []
ActEvents net (Does n action) es = OfUp (λ d. ActionEvents n d action es) (net.daemons n)
ActEvents net (Ends n) es = es ≡ silent (event.Stop n) ∷ []

-- the events of acts, in their order
abbrev pub AreEventsOf : Config → Net → List Act → List Answered → Type 0
AreEventsOf c net [] es = es ≡ []
AreEventsOf c net (a ∷ acts) es =
    (first : List Answered) × (rest : List Answered) × ActEvents net a first × AreEventsOf c (acted c net a) acts rest × (es ≡ first ++ rest)

-- ---- the law

-- the records of the daemons, in the order of their acts, are those of a run of a world: its events are those of the acts,
-- they may happen, and that run is safe
pub record IsSafeNetwork (c : Config) (acts : List Act) : Type 0 where
  pub events : List Answered
  pub are : AreEventsOf c no_net acts events
  pub may : AllMayHappen c (events_in events)
  pub safe : IsSafe c events (net_after c acts).records

abbrev pub NetworksOfDaemonsAreSafe : Type 0
NetworksOfDaemonsAreSafe = (c : Config) (acts : List Act) → NetworkRun IsSpelledSend c acts → IsSafeNetwork c acts

-- Whatever daemons did up to now, each act at its time, of whatever linear order, where no datagram was received before it was
-- sent: their acts have an order that is a network's run; in it their records are safe; and what each node recorded are the
-- records of its daemons' lives.
pub record IsSafeExecution (T : Type 0) (no_later : T → T → Bool) (P : Exchange → Type 0) (c : Config) (lives : ℕ → List (TimedLife T)) : Type 0 where
  pub order : Ordered T no_later P c lives
  pub safe : IsSafeNetwork c (map what_of order.acts)
  pub records : (n : ℕ) → records_at c n no_net (map what_of order.acts) ≡ lives_records c n 0 (map untimed (lives n))

abbrev pub ExecutionsAreSafe : Type 0 → Type 0
ExecutionsAreSafe T = (no_later : T → T → Bool) → IsLinear T no_later → (c : Config) (lives : ℕ → List (TimedLife T)) → Execution T no_later IsSpelledSend c lives → IsSafeExecution T no_later IsSpelledSend c lives
