-- How a daemon that runs follows the one of the definitions.
use Rattle.std.specs.Prelude.{◌≡◌, ℕ, Bool, false, List, [], ◌∷◌, ◌++◌, Option, Some, option_map, map}
use Rattle.hags_io.specs.Deeds.{Wrote}
use Rattle.hags_io.specs.Telling.{Telling, Did}
use Rattle.hags_io.specs.declared.link.LinkCall.{LinkCall}
use Rattle.piece_link.specs.Pieces.{can_cut}
use Rattle.node_state.specs.declared.happened.Happened.{Happened}
use Rattle.node_state.specs.HandOn.{Answering}
use Rattle.node_state.specs.declared.call.CallLine.{CallLine}
use Rattle.node_state.specs.Step.{NodeEvent, Calls, at_work, stepped}
use Rattle.remote_session.specs.Daemon.{up_taken}
use Rattle.remote_clients.specs.declared.sessions.Sessions.{Sessions}
use Rattle.remote_clients.specs.Sessions.{is_refused}
use Rattle.remote_clients.specs.Entries.{noted_with}
use Rattle.self_questions.specs.declared.messages.SelfQuestion.{SelfQuestion}
use Rattle.self_questions.specs.Messages.{reply_text}
use Rattle.daemon_model.specs.Counts.{sent_more}
use Rattle.daemon_model.specs.Sent.{Exchange, said, number_if, message_calls, sent_calls, number_after}
use Rattle.daemon_model.specs.Daemon.{Daemon, stepped_for, is_due, ticked, up_in, call_in, called_by, brought, self_text, given_on, records_text}
use Rattle.daemon_model.specs.Actions.{Action, Hears, did_all}
use Rattle.daemon_model.specs.Doings.{Doing, Exchanges, Writes, step_doings, since, doings_of, Made, MadeFront}
use Rattle.daemon_run.specs.declared.hosted.Hosted.{Hosted}
use Rattle.daemon_run.specs.declared.running.Running.{Running}
use Rattle.daemon_run.specs.Hosting.{Known}
use Rattle.daemon_run.specs.Audience.{Audience, StepHands, TickHands, LineHands, BroughtHands, GivenHands, ActionsHand}

-- the daemon that stands like this, and did this so far
abbrev pub daemon_of : {C : Type 0} → Running C → List Exchange → List Happened → Daemon
daemon_of r calls records = record {
  me = r.outbox.me;
  incarnation = r.outbox.incarnation;
  core = at_work r.node.core;
  last = r.last;
  joining = r.receiving.joiner;
  number = r.outbox.number;
  failed = r.receiving.failed;
  calls = calls;
  records = records;
  sessions = r.sessions;
  entries = r.entries;
  about = r.about;
  ticks = r.ticks;
  receives = r.receiving.counts;
  sent = r.sent;
}

-- the one that runs came from r to s as f says, with these calls and records more
abbrev pub Comes : {C : Type 0} → Running C → Running C → (Daemon → Daemon) → List Exchange → List Happened → Type 0
Comes r s f calls records = (before : List Exchange) (noted : List Happened) → f (daemon_of r before noted) ≡ daemon_of s (before ++ calls) (noted ++ records)

-- in one step: its lines were written, and its packets went out
pub record Goes {C : Type 0} (r s : Running C) (old new : Telling) (f : Daemon → Daemon) : Type 0 where
  pub calls : List Exchange
  pub records : List Happened
  pub is : Comes r s f calls records
  pub made : Made old new (step_doings records calls)

-- on the way it broke off: a front of that was done
abbrev pub Breaks : {C : Type 0} → Running C → Telling → Telling → (Daemon → Daemon) → Type 0
Breaks r old new f = (before : List Exchange) (noted : List Happened) → MadeFront old new (since (daemon_of r before noted) (f (daemon_of r before noted)))

-- where A held of clients with their audience, B holds of those now, whatever is known of the objects
abbrev pub Passes : {C : Type 0} → (Known → List (Hosted C) → Audience → Type 0) → (Known → List (Hosted C) → Audience → Type 0) → List (Hosted C) → List (Hosted C) → Audience → Audience → Type 0
Passes A B old new x y = (known : Known) → A known old x → B known new y

-- from each audience H comes to one of the clients now
abbrev pub Attends : {C : Type 0} → (Known → List (Hosted C) → Audience → Type 0) → (Known → List (Hosted C) → Audience → Type 0) → Running C → Running C → (Daemon → Audience → Audience → Type 0) → Type 0
Attends A B r s H =
    (before : List Exchange) (noted : List Happened) (x : Audience) → (y : Audience) × H (daemon_of r before noted) x y × Passes A B r.node.clients s.node.clients x y

-- by these acts, with their doings, and with what they hand
pub record Acts {C : Type 0} (A B : Known → List (Hosted C) → Audience → Type 0) (r s : Running C) (old new : Telling) (actions : List Action) : Type 0 where
  pub calls : List Exchange
  pub records : List Happened
  pub is : Comes r s (λ d. did_all d actions) calls records
  pub done : List Doing
  pub are : (before : List Exchange) (noted : List Happened) → doings_of (daemon_of r before noted) actions ≡ done
  pub made : Made old new done
  pub attends : Attends A B r s (λ d. ActionsHand d actions)

-- of their doings there is a front
abbrev pub ActsBreak : {C : Type 0} → Running C → Telling → Telling → List Action → Type 0
ActsBreak r old new actions = (before : List Exchange) (noted : List Happened) → MadeFront old new (doings_of (daemon_of r before noted) actions)

-- ---- a write that failed

-- All of this was done up to a write, which failed: and what is left of it are sends.
pub record WriteFails (old new : Telling) (more : List Doing) : Type 0 where
  pub before : List Doing
  pub records : List Happened
  pub sends : List Exchange
  pub whole : before ++ Writes records ∷ map Exchanges sends ≡ more
  pub reached : Telling
  pub made : Made old reached before
  pub failed : Did reached new (Wrote (records_text records) false ∷ [])

-- A write failed on the way of the one that runs from r to s as f says. Its node has done its part, and nothing is left in it.
pub record Fails {C : Type 0} (r s : Running C) (old new : Telling) (f : Daemon → Daemon) : Type 0 where
  pub core : (before : List Exchange) (noted : List Happened) → (f (daemon_of r before noted)).core ≡ at_work s.node.core
  pub made : (before : List Exchange) (noted : List Happened) → WriteFails old new (since (daemon_of r before noted) (f (daemon_of r before noted)))

-- in the last of these acts; what they hand was handed
pub record ActsFail {C : Type 0} (A B : Known → List (Hosted C) → Audience → Type 0) (r s : Running C) (old new : Telling) (actions : List Action) : Type 0 where
  pub core : (before : List Exchange) (noted : List Happened) → (did_all (daemon_of r before noted) actions).core ≡ at_work s.node.core
  pub made : (before : List Exchange) (noted : List Happened) → WriteFails old new (doings_of (daemon_of r before noted) actions)
  pub attends : Attends A B r s (λ d. ActionsHand d actions)

-- which node it is stays, and how many receives failed in a row
abbrev pub IsSame : {C : Type 0} → Running C → Running C → Type 0
IsSame r s = (s.outbox.me ≡ r.outbox.me) × (s.receiving.failed ≡ r.receiving.failed)

-- ---- steps

-- the doings of what the node left
abbrev pub left_doings : {C : Type 0} → Running C → List Doing
left_doings r = step_doings r.node.core.records (sent_calls r.outbox.me r.outbox.incarnation r.outbox.number r.node.core.sends)

-- what the node left is written and sent, and comes to who is to hear it; the step was a call of this key, or of none
pub record Settles {C : Type 0} (calling : Option ℕ) (r s : Running C) (old new : Telling) : Type 0 where
  pub is : s ≡ record r { node = record (r.node) { core = at_work r.node.core }; outbox = record (r.outbox) { number = number_after r.outbox.number r.node.core.sends }; sent = sent_more r.sent (sent_calls r.outbox.me r.outbox.incarnation r.outbox.number r.node.core.sends); sessions = option_map (noted_with r.entries calling r.node.core.records) r.sessions }
  pub made : Made old new (left_doings r)

-- The write failed: the node did what it left, and has nothing left.
pub record SettleFails {C : Type 0} (r s : Running C) (old new : Telling) : Type 0 where
  pub node : s.node ≡ record (r.node) { core = at_work r.node.core }
  pub made : WriteFails old new (left_doings r)

-- the node did the event, with some answers of its clients, and nothing else changed
pub record IsStep {C : Type 0} (A B : Known → List (Hosted C) → Audience → Type 0) (r s : Running C) (e : NodeEvent) : Type 0 where
  pub answers : Answering
  pub core : s.node.core ≡ stepped answers r.node.core e
  pub is : s ≡ record r { node = s.node }
  pub attends : (x : Audience) → (y : Audience) × StepHands answers e (at_work r.node.core) x y × Passes A B r.node.clients s.node.clients x y

-- an event, with what it records and sends; it is a call of this key, or of none
pub record StepsAs {C : Type 0} (A B : Known → List (Hosted C) → Audience → Type 0) (calling : Option ℕ) (r s : Running C) (old new : Telling) (e : NodeEvent) : Type 0 where
  pub answers : Answering
  pub goes : Goes r s old new (stepped_for calling answers e)
  pub attends : Attends A B r s (λ d. StepHands answers e d.core)

pub record StepBreaks {C : Type 0} (calling : Option ℕ) (r : Running C) (old new : Telling) (e : NodeEvent) : Type 0 where
  pub answers : Answering
  pub breaks : Breaks r old new (stepped_for calling answers e)

pub record StepFails {C : Type 0} (A B : Known → List (Hosted C) → Audience → Type 0) (calling : Option ℕ) (r s : Running C) (old new : Telling) (e : NodeEvent) : Type 0 where
  pub answers : Answering
  pub fails : Fails r s old new (stepped_for calling answers e)
  pub attends : Attends A B r s (λ d. StepHands answers e d.core)

-- a call, in which it was refused or taken
pub record CallSteps {C : Type 0} (A : Known → List (Hosted C) → Audience → Type 0) (calling : Option ℕ) (r s : Running C) (refused : Bool) (old new : Telling) (c : CallLine) : Type 0 where
  pub answers : Answering
  pub goes : Goes r s old new (stepped_for calling answers (Calls c))
  pub attends : Attends A A r s (λ d. StepHands answers (Calls c) d.core)
  pub was : refused ≡ is_refused (stepped answers (at_work r.node.core) (Calls c)).records

-- ---- a tick, where it is due

pub record TicksAs {C : Type 0} (A : Known → List (Hosted C) → Audience → Type 0) (r s : Running C) (old new : Telling) (moment : ℕ) : Type 0 where
  pub answers : Answering
  pub goes : Goes r s old new (ticked moment answers)
  pub attends : Attends A A r s (λ d. TickHands (is_due d.last moment) answers d.core)

pub record TickBreaks {C : Type 0} (r : Running C) (old new : Telling) (moment : ℕ) : Type 0 where
  pub answers : Answering
  pub breaks : Breaks r old new (ticked moment answers)

pub record TickFails {C : Type 0} (A : Known → List (Hosted C) → Audience → Type 0) (r s : Running C) (old new : Telling) (moment : ℕ) : Type 0 where
  pub answers : Answering
  pub fails : Fails r s old new (ticked moment answers)
  pub attends : Attends A A r s (λ d. TickHands (is_due d.last moment) answers d.core)

-- ---- clients on other machines

-- the sessions take a message, which may be an Up
abbrev pub is_up_taken : {C : Type 0} → Running C → List ℕ → Running C
is_up_taken r message = record r { sessions = option_map (λ (t : Sessions). record t { remote = up_taken t.remote message }) r.sessions }

-- the exchanges of a message to the sender of the datagram that came last
abbrev pub down_exchanges : {C : Type 0} → Running C → ℕ → List ℕ → List Exchange
down_exchanges r network message = map (said r.outbox.number) (message_calls r.outbox.me r.outbox.incarnation r.outbox.number 0 network message)

-- it went, or a front of it did
pub record Sends {C : Type 0} (r s : Running C) (old new : Telling) (network : ℕ) (message : List ℕ) : Type 0 where
  pub is : s ≡ record r { outbox = record (r.outbox) { number = number_if (can_cut message) r.outbox.number }; sent = sent_more r.sent (down_exchanges r network message) }
  pub made : Made old new (map Exchanges (down_exchanges r network message))

abbrev pub SendsFront : {C : Type 0} → Running C → Telling → Telling → ℕ → List ℕ → Type 0
SendsFront r old new network message = MadeFront old new (map Exchanges (down_exchanges r network message))

-- the line of a key
pub record CallsKey {C : Type 0} (A : Known → List (Hosted C) → Audience → Type 0) (r s : Running C) (old new : Telling) (key : ℕ) (line : List ℕ) : Type 0 where
  pub answers : Answering
  pub goes : Goes r s old new (called_by key line answers)
  pub attends : Attends A A r s (λ d. LineHands (call_in d.sessions d.me key line) answers d.core)

pub record CallKeyBreaks {C : Type 0} (r : Running C) (old new : Telling) (key : ℕ) (line : List ℕ) : Type 0 where
  pub answers : Answering
  pub breaks : Breaks r old new (called_by key line answers)

pub record CallKeyFails {C : Type 0} (A : Known → List (Hosted C) → Audience → Type 0) (r s : Running C) (old new : Telling) (key : ℕ) (line : List ℕ) : Type 0 where
  pub answers : Answering
  pub fails : Fails r s old new (called_by key line answers)
  pub attends : Attends A A r s (λ d. LineHands (call_in d.sessions d.me key line) answers d.core)

-- ---- a message that asks the daemon nothing about itself

abbrev pub brought_on : ℕ → List ℕ → Answering → Daemon → Daemon
brought_on network message f d = brought (up_in d.sessions message) network message f d

abbrev pub BroughtOnHands : List ℕ → Answering → Daemon → Audience → Audience → Type 0
BroughtOnHands message f d old new = BroughtHands (up_in d.sessions message) message f d old new

pub record BringsAs {C : Type 0} (A : Known → List (Hosted C) → Audience → Type 0) (r s : Running C) (old new : Telling) (network : ℕ) (message : List ℕ) : Type 0 where
  pub answers : Answering
  pub goes : Goes r s old new (brought_on network message answers)
  pub attends : Attends A A r s (BroughtOnHands message answers)

pub record BringBreaks {C : Type 0} (r : Running C) (old new : Telling) (network : ℕ) (message : List ℕ) : Type 0 where
  pub answers : Answering
  pub breaks : Breaks r old new (brought_on network message answers)

pub record BringFails {C : Type 0} (A : Known → List (Hosted C) → Audience → Type 0) (r s : Running C) (old new : Telling) (network : ℕ) (message : List ℕ) : Type 0 where
  pub answers : Answering
  pub fails : Fails r s old new (brought_on network message answers)
  pub attends : Attends A A r s (BroughtOnHands message answers)

-- ---- a question about the daemon itself

-- the reply, as it is now
abbrev pub reply_in : {C : Type 0} → Running C → SelfQuestion → List ℕ
reply_in r q = reply_text q (self_text q.what (daemon_of r [] []))

-- ---- a whole message, which came on this network

pub record GivesAs {C : Type 0} (A : Known → List (Hosted C) → Audience → Type 0) (r s : Running C) (old new : Telling) (network : ℕ) (message : List ℕ) : Type 0 where
  pub answers : Answering
  pub goes : Goes r s old new (given_on network (Some message) answers)
  pub attends : Attends A A r s (GivenHands (Some message) answers)

pub record GiveBreaks {C : Type 0} (r : Running C) (old new : Telling) (network : ℕ) (message : List ℕ) : Type 0 where
  pub answers : Answering
  pub breaks : Breaks r old new (given_on network (Some message) answers)

pub record GiveFails {C : Type 0} (A : Known → List (Hosted C) → Audience → Type 0) (r s : Running C) (old new : Telling) (network : ℕ) (message : List ℕ) : Type 0 where
  pub answers : Answering
  pub fails : Fails r s old new (given_on network (Some message) answers)
  pub attends : Attends A A r s (GivenHands (Some message) answers)

-- a receive, with what it brings
pub record HearsAs {C : Type 0} (A : Known → List (Hosted C) → Audience → Type 0) (r s : Running C) (old new : Telling) : Type 0 where
  pub got : LinkCall
  pub answers : Answering
  pub acts : Acts A A r s old new (Hears got answers ∷ [])

pub record HearBreaks {C : Type 0} (r : Running C) (old new : Telling) : Type 0 where
  pub got : LinkCall
  pub answers : Answering
  pub breaks : ActsBreak r old new (Hears got answers ∷ [])

pub record HearFails {C : Type 0} (A : Known → List (Hosted C) → Audience → Type 0) (r s : Running C) (old new : Telling) : Type 0 where
  pub got : LinkCall
  pub answers : Answering
  pub fails : ActsFail A A r s old new (Hears got answers ∷ [])
