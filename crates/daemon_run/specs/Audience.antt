-- What a daemon's run hands to the clients of its sessions, and the lists that they stand for.
use Rattle.std.specs.Prelude.{◌≡◌, ℕ, ◌+◌, Bool, true, false, List, [], ◌∷◌, ◌++◌, length, map, drop, get_or, is_none, is_some, Option, Some, None, option_map}
use Rattle.std.specs.Str.{bytes_eq}
use Rattle.hags_io.specs.declared.link.LinkCall.{LinkCall}
use Rattle.client_callbacks.specs.declared.votes.VoteItem.{VoteItem}
use Rattle.client_callbacks.specs.Handed.{Handed}
use Rattle.session_state.specs.State.{client_token, client_place}
use Rattle.session_state.specs.Calls.{inited, removed_at}
use Rattle.node_reach.specs.Reach.{reach_of}
use Rattle.node_state.specs.declared.call.CallLine.{CallLine}
use Rattle.node_state.specs.declared.call.CallLine.TheVariants as call
use Rattle.node_state.specs.declared.happened.Happened.{Happened}
use Rattle.node_state.specs.declared.state.Core.{Core}
use Rattle.node_state.specs.HandOn.{Answering}
use Rattle.node_state.specs.Bytes.{event_of}
use Rattle.node_state.specs.Handed.{Logged, logged_in}
use Rattle.node_state.specs.State.{state_of}
use Rattle.node_state.specs.Step.{NodeEvent, Ticks, Asks, Given, Calls, stepped}
use Rattle.node_state.specs.Step as step
use Rattle.node_calls.specs.Calling.{clients_with}
use Rattle.entry_delivery.specs.Received.{handed_by, AreLogs, Handing, AreFor, logged_by, after_handings}
use Rattle.node_core.specs.Event.{called}
use Rattle.world_model.specs.declared.script.Script.{Script}
use Rattle.world_model.specs.Reading.{boxed_word}
use Rattle.remote_session.specs.Daemon.{SeenUp, NotUp, EndedKey, KeysFull, KnownKey, CallMade}
use Rattle.self_questions.specs.declared.messages.SelfQuestion.{SelfQuestion}
use Rattle.self_questions.specs.Messages.{question_of}
use Rattle.daemon_model.specs.Daemon.{Daemon, Life, is_due, joined_by, up_in, with_up, call_in, goodbye_in, begun_for}
use Rattle.daemon_model.specs.Actions.{Action, did}
use Rattle.daemon_model.specs.Actions as actions
use Rattle.daemon_run.specs.declared.hosted.Hosted.{Hosted}
use Rattle.daemon_run.specs.Hosting.{Known, StandWhere}

-- Whose the clients of a daemon are, and what they were handed: how many of the objects clients have taken; and of each
-- session, in order, which of the objects its client is, if it is one, and the records of what it was handed and filled,
-- with the states of groups.
pub record Audience : Type 0 where
  pub next : ℕ
  pub objects : List (Option ℕ)
  pub logs : List (List Logged)

-- before the first session
abbrev pub no_audience : Audience
no_audience = record { next = 0; objects = []; logs = [] }

-- ---- objects that are taken

abbrev pub is_boxed : List ℕ → Bool
is_boxed votes = bytes_eq votes boxed_word

abbrev pub object_if : Bool → ℕ → Option ℕ
object_if true n = Some n
object_if false n = None

abbrev pub next_if : Bool → ℕ → ℕ
next_if true n = n + 1
next_if false n = n

-- the client of a votes word: for the word `boxed` the next of the objects, and else none of them
abbrev pub object_for : List ℕ → ℕ → Option ℕ
object_for votes n = object_if (is_boxed votes) n

abbrev pub next_for : List ℕ → ℕ → ℕ
next_for votes n = next_if (is_boxed votes) n

-- what is known of these clients, where this is known of the objects that are left: one that is none of them was handed
-- nothing
abbrev pub first_if : Bool → Known → Option (List Handed)
first_if true left = get_or left 0 None
first_if false left = Some []

abbrev pub left_if : Bool → Known → Known
left_if true left = drop 1 left
left_if false left = left

abbrev pub first_for : List ℕ → Known → Option (List Handed)
first_for votes left = first_if (is_boxed votes) left

abbrev pub left_for : List ℕ → Known → Known
left_for votes left = left_if (is_boxed votes) left

-- ---- a call

-- A client's line takes its object, also where the session is refused. A session that begins has its client behind all
-- others, with an empty log; one that ends takes its client and its log away.
abbrev pub audience_called : Core → CallLine → Audience → Audience
audience_called s (call.Init node name votes) x = record {
  next = next_for votes x.next;
  objects = clients_with (object_for votes x.next) x.objects (inited s.sessions name);
  logs = clients_with [] x.logs (inited s.sessions name);
}
audience_called s (call.Goodbye client) x = record {
  next = x.next;
  objects = removed_at (client_place s.sessions (client_token s.sessions client)) x.objects;
  logs = removed_at (client_place s.sessions (client_token s.sessions client)) x.logs;
}
audience_called s _ x = x

abbrev pub attended : Core → NodeEvent → Audience → Audience
attended s Ticks x = x
attended s (Asks mask) x = x
attended s (Given p) x = x
attended s step.Garbage x = x
attended s (Calls c) x = audience_called s c x

-- ---- a step

-- The rules of a step make t of s. What the records tell behind those of s, with the states that they make of those of
-- the groups, is handed to the clients: each to that whose it is.
pub record RowsHand (s t : Core) (old new : Audience) : Type 0 where
  pub records : List Happened
  pub more : t.records ≡ s.records ++ records
  pub handings : List Handing
  pub told : logged_in records (state_of s) ≡ logged_by handings
  pub owned : AreFor s.sessions handings
  pub logs : new ≡ record old { logs = after_handings handings old.logs }

-- a step of a node at work whose clients answer like this: what a call itself records is handed to nobody
abbrev pub StepHands : Answering → NodeEvent → Core → Audience → Audience → Type 0
StepHands f e s old new = RowsHand (called s e) (stepped f s e) (attended s e old) new

-- ---- a life

abbrev pub TickHands : Bool → Answering → Core → Audience → Audience → Type 0
TickHands true f s old new = StepHands f Ticks s old new
TickHands false f s old new = new ≡ old

-- the line of a key: a call of the node, or none
abbrev pub LineHands : Option CallLine → Answering → Core → Audience → Audience → Type 0
LineHands None f s old new = new ≡ old
LineHands (Some a) f s old new = StepHands f (Calls a) s old new

-- what an Up brings; every other message is the node's
abbrev pub BroughtHands : SeenUp → List ℕ → Answering → Daemon → Audience → Audience → Type 0
BroughtHands NotUp message f d old new = StepHands f (event_of message) d.core old new
BroughtHands (EndedKey key) message f d old new = new ≡ old
BroughtHands (KeysFull key limit) message f d old new = new ≡ old
BroughtHands (KnownKey key) message f d old new = new ≡ old
BroughtHands (CallMade key line) message f d old new = LineHands (call_in (with_up message d).sessions d.me key line) f d.core old new

-- a question about the daemon itself brings nothing
abbrev pub AskedHands : Option SelfQuestion → List ℕ → Answering → Daemon → Audience → Audience → Type 0
AskedHands None message f d old new = BroughtHands (up_in d.sessions message) message f d old new
AskedHands (Some q) message f d old new = new ≡ old

abbrev pub GivenHands : Option (List ℕ) → Answering → Daemon → Audience → Audience → Type 0
GivenHands None f d old new = new ≡ old
GivenHands (Some message) f d old new = AskedHands (question_of message) message f d old new

abbrev pub HeardHands : LinkCall → Answering → Daemon → Audience → Audience → Type 0
HeardHands got f d old new = GivenHands (joined_by got d.joining).message f d old new

-- an act
abbrev pub ActionHands : Daemon → Action → Audience → Audience → Type 0
ActionHands d (actions.Opens o) old new = StepHands o.answers (Calls o.call) d.core old new
ActionHands d (actions.Ticks moment f) old new = TickHands (is_due d.last moment) f d.core old new
ActionHands d (actions.EndsKey key f) old new = LineHands (goodbye_in d.sessions key) f d.core old new
ActionHands d (actions.Mends f) old new = StepHands f (Asks (reach_of d.core.reach)) d.core old new
ActionHands d (actions.Hears got f) old new = HeardHands got f d old new

-- acts, one after another
abbrev pub ActionsHand : Daemon → List Action → Audience → Audience → Type 0
ActionsHand d [] old new = new ≡ old
ActionsHand d (a ∷ acts) old new = (mid : Audience) × ActionHands d a old mid × ActionsHand (did d a) acts mid new

-- the acts with which a life begins, or all of it: what they hand, from its start on
abbrev pub LifeHands : Script → ℕ → ℕ → Life → List Action → Audience → Audience → Type 0
LifeHands script me incarnation life acts old new = ActionsHand (begun_for life.service script.config me incarnation life.start) acts old new

-- ---- clients

-- what a client stood for at first, where this is known of the objects: for nothing if it is none of them
abbrev pub first_of_client : Known → Option ℕ → Option (List Handed)
first_of_client known (Some k) = get_or known k None
first_of_client known None = Some []

-- for which lists clients stand that stood for these at first: each with what its log tells behind it, in order
abbrev pub heard_since : Option (List Handed) → List Logged → Option (List Handed)
heard_since first rs = option_map (λ h. h ++ handed_by rs) first

abbrev pub lists_now : Known → List (List Logged) → Known
lists_now [] rss = []
lists_now (f ∷ fs) [] = []
lists_now (f ∷ fs) (rs ∷ rss) = heard_since f rs ∷ lists_now fs rss

abbrev pub client_stands : {C : Type 0} → (C → List Handed → Type 0) → Hosted C → List Handed → Type 0
client_stands R c h = R c.client h

abbrev pub client_script : {C : Type 0} → (C → Option (List (Option VoteItem))) → Hosted C → Option (List (Option VoteItem))
client_script script c = script c.client

-- The clients of sessions are these. Each of which it is known what it stood for at first stands for that and for what its
-- log tells, in order, whatever is known of the others; and just those that are objects vote by no items.
pub record Attend {C : Type 0} (R : C → List Handed → Type 0) (script : C → Option (List (Option VoteItem))) (known : Known) (clients : List (Hosted C)) (x : Audience) : Type 0 where
  pub stand : StandWhere (client_stands R) clients (lists_now (map (first_of_client known) x.objects) x.logs)
  pub even : length x.objects ≡ length x.logs
  pub logs : AreLogs x.logs
  pub boxed : map is_none (map (client_script script) clients) ≡ map is_some x.objects

-- and this holds of the objects that are left
pub record AttendWith {C : Type 0} (P : Known → Type 0) (R : C → List Handed → Type 0) (script : C → Option (List (Option VoteItem))) (known : Known) (clients : List (Hosted C)) (x : Audience) : Type 0 where
  pub left : P (drop x.next known)
  pub attend : Attend R script known clients x
