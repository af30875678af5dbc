-- What the events of a run hand to clients, as its records tell it: a log for each client of each node that is up.
use Rattle.std.specs.Prelude.{◌≡◌, ◌==◌, ◌++◌, ℕ, Bool, true, false, List, [], ◌∷◌, map, find, nat_lt, Option, Some, None}
use Rattle.rsct_packet.specs.Lists.{drop_where, reverse_onto}
use Rattle.rsct_packet.specs.Search.{insert_before}
use Rattle.client_callbacks.specs.Handed.{Handed}
use Rattle.session_state.specs.State.{client_token, client_place}
use Rattle.session_state.specs.Calls.{inited, removed_at}
use Rattle.node_state.specs.declared.call.CallLine.{CallLine}
use Rattle.node_state.specs.declared.call.CallLine.TheVariants as call
use Rattle.node_state.specs.declared.happened.Happened.{Happened}
use Rattle.node_state.specs.declared.packet.Packet.{Packet}
use Rattle.node_state.specs.declared.state.Core.{Core}
use Rattle.rsct_packet.specs.Ids.{last_u32}
use Rattle.node_state.specs.Step.{NodeEvent, Ticks, Asks, Given, Calls, at_work}
use Rattle.node_state.specs.Step as step
use Rattle.node_state.specs.Calls.{take_call}
use Rattle.node_state.specs.State.{state_of}
use Rattle.node_state.specs.Handed.{handed_in, Logged, logged_in}
use Rattle.node_calls.specs.Calling.{clients_with}
use Rattle.entry_delivery.specs.Received.{WereHanded, Handing, AreFor, told_by, logged_by, after_handings}
use Rattle.node_core.specs.Node.{NodeView}
use Rattle.node_core.specs.Event.{called}
use Rattle.world_model.specs.declared.event.Event.{Event}
use Rattle.world_model.specs.declared.event.Event.TheVariants as event
use Rattle.world_model.specs.World.{inc_in, node_at, kth_between}
use Rattle.world_model.specs.World as world
use Rattle.world_laws.specs.world_answers.Answers.{Answered, goes_on}

-- the records of what each client of a node was handed and what it filled, with the states of groups, in the order of
-- the sessions
pub record ClientLogs : Type 0 where
  pub node : ℕ
  pub logs : List (List Logged)

-- in the order of the nodes
abbrev pub Logs : Type 0
Logs = List ClientLogs

abbrev pub is_log : ℕ → ClientLogs → Bool
is_log n x = x.node == n

abbrev pub logs_in : Option ClientLogs → List (List Logged)
logs_in None = []
logs_in (Some x) = x.logs

-- those of the node of a number
abbrev pub logs_of : ℕ → Logs → List (List Logged)
logs_of n xs = logs_in (find (is_log n) xs)

-- with those of the node of a number changed
abbrev pub logs_with : ℕ → List (List Logged) → Logs → Logs
logs_with n ls [] = []
logs_with n ls (x ∷ xs) = elim (is_log n x) [ true ↦ record x { logs = ls } ∷ xs | false ↦ x ∷ logs_with n ls xs ]

-- each client of each node stands for what its log tells
abbrev pub LogsStand : {C : Type 0} → (C → List Handed → Type 0) → List (NodeView C) → Logs → Type 0
LogsStand R [] [] = Unit {0}
LogsStand R [] (x ∷ xs) = ⊥
LogsStand R (n ∷ ns) [] = ⊥
LogsStand R (n ∷ ns) (x ∷ xs) = (x.node ≡ n.core.views.me) × WereHanded R n.clients x.logs × LogsStand R ns xs

-- a session that begins has an empty log, and the log of one that ends is dropped
abbrev pub logs_called_by : Core → CallLine → List (List Logged) → List (List Logged)
logs_called_by s (call.Init node name votes) ls = clients_with [] ls (inited s.sessions name)
logs_called_by s (call.Goodbye client) ls = removed_at (client_place s.sessions (client_token s.sessions client)) ls
logs_called_by s _ ls = ls

abbrev pub logs_called : Core → NodeEvent → List (List Logged) → List (List Logged)
logs_called s Ticks ls = ls
logs_called s (Asks mask) ls = ls
logs_called s (Given p) ls = ls
logs_called s step.Garbage ls = ls
logs_called s (Calls c) ls = logs_called_by s c ls

-- what a `vote` call records: the ballot that it gives, where it is taken. No object filled that one
abbrev pub given_by : Core → NodeEvent → List Happened
given_by s (Calls (call.Vote client g vote value)) = (take_call s (call.Vote client g vote value)).records
given_by s _ = []

-- what the step of a node hands to its clients, and what they fill: all that its records tell but the ballot that a call
-- gives, with the states that they make of those of its groups, each to the client whose it is once a call is taken
pub record StepHands (s : Core) (ev : NodeEvent) (rs : List Happened) (old new : List (List Logged)) : Type 0 where
  pub handings : List Handing
  pub told : handed_in rs ≡ handed_in (given_by (at_work s) ev) ++ told_by handings
  pub stated : logged_in rs (state_of s) ≡ logged_in (given_by (at_work s) ev) (state_of s) ++ logged_by handings
  pub owned : AreFor (called (at_work s) ev).sessions handings
  pub logs : new ≡ after_handings handings (logs_called s ev old)

-- nothing is handed to anyone
abbrev pub HandsNothing : List Happened → Logs → Logs → Type 0
HandsNothing rs old new = (handed_in rs ≡ []) × (new ≡ old)

-- a step of the node of a number, if it is up
abbrev pub NodeHands : Option world.Node → ℕ → NodeEvent → List Happened → Logs → Logs → Type 0
NodeHands None n ev rs old new = HandsNothing rs old new
NodeHands (Some x) n ev rs old new = (ls : List (List Logged)) × StepHands x.core ev rs (logs_of n old) ls × (new ≡ logs_with n ls old)

abbrev pub DeliveryHands : Option world.Node → Option Packet → ℕ → List Happened → Logs → Logs → Type 0
DeliveryHands None p n rs old new = HandsNothing rs old new
DeliveryHands (Some x) None n rs old new = HandsNothing rs old new
DeliveryHands (Some x) (Some p) n rs old new = NodeHands (Some x) n (Given p) rs old new

-- a node that starts has no client
abbrev pub logs_begun : ℕ → Logs → Logs
logs_begun n xs = insert_before (λ (x : ClientLogs). nat_lt n x.node) (record { node = n; logs = [] }) xs

abbrev pub logs_started : Option world.Node → ℕ → ℕ → Logs → Logs
logs_started (Some x) n last xs = xs
logs_started None n last xs = elim (last == last_u32) [ true ↦ xs | false ↦ logs_begun n xs ]

abbrev pub BeginHands : ℕ → List Happened → Logs → Logs → Type 0
BeginHands n rs old new = (handed_in rs ≡ []) × (new ≡ logs_begun n old)

abbrev pub last_start : world.World → ℕ → ℕ
last_start w n = inc_in (find (λ (x : world.Started). x.node == n) w.starts)

-- what an event that records this in the world w hands to clients
abbrev pub EventHands : world.World → Event → List Happened → Logs → Logs → Type 0
EventHands w (event.Start n) rs old new = (handed_in rs ≡ []) × (new ≡ logs_started (node_at w n) n (last_start w n) old)
EventHands w (event.Stop n) rs old new = (handed_in rs ≡ []) × (new ≡ drop_where (is_log n) old)
EventHands w (event.Tick n) rs old new = NodeHands (node_at w n) n Ticks rs old new
EventHands w (event.Ask n mask) rs old new = NodeHands (node_at w n) n (Asks mask) rs old new
EventHands w (event.Call n c) rs old new = NodeHands (node_at w n) n (Calls c) rs old new
EventHands w (event.Show n what) rs old new = HandsNothing rs old new
EventHands w (event.Deliver a b k) rs old new = DeliveryHands (node_at w b) (kth_between w a b k) b rs old new
EventHands w (event.Garbage n bytes) rs old new = NodeHands (node_at w n) n step.Garbage rs old new

-- at some nodes each client stood for what its log tells
abbrev pub Stood : {C : Type 0} → (C → List Handed → Type 0) → Logs → Type 0
Stood {C} R logs = (ns : List (NodeView C)) × LogsStand R ns logs

-- what these events, from the world w on, hand to clients. After each of them some client stood for each log, also where
-- it is gone at the end
abbrev pub RunHands : {C : Type 0} → (C → List Handed → Type 0) → world.World → List Answered → Logs → Logs → Type 0
RunHands R w [] old new = new ≡ old
RunHands R w (e ∷ es) old new =
    (rs : List Happened) × (mid : Logs) × ((goes_on w e).trace ≡ reverse_onto rs w.trace) × EventHands w e.event rs old mid × Stood R mid × RunHands R (goes_on w e) es mid new

-- no client is there yet
abbrev pub empty_logs : world.World → Logs
empty_logs w = map (λ (x : world.Node). record { node = x.core.views.me; logs = [] }) w.nodes
