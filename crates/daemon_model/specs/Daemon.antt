-- What a daemon does: a fold over what comes to it from outside, turn by turn.
use Rattle.std.specs.Prelude.{◌≡◌, ℕ, ◌+◌, ◌-◌, ◌==◌, min, nat_le, Bool, true, false, List, [], ◌∷◌, ◌++◌, length, not, map, fold, flat_map, Option, Some, None, option_map, if◌then◌else◌}
use Rattle.hags_io.specs.declared.link.LinkCall.{LinkCall}
use Rattle.hags_io.specs.declared.link.LinkCall.TheVariants as call
use Rattle.piece_link.specs.Joining.{Joining, Joined, taken}
use Rattle.piece_link.specs.Pieces.{can_cut}
use Rattle.node_state.specs.declared.call.CallLine.{CallLine}
use Rattle.node_state.specs.declared.config.Config.{Config}
use Rattle.node_state.specs.declared.happened.Happened.{Happened}
use Rattle.node_state.specs.declared.state.Core.{Core}
use Rattle.node_reach.specs.Reach.{reach_of}
use Rattle.node_state.specs.HandOn.{Answering}
use Rattle.node_state.specs.Bytes.{event_of}
use Rattle.node_state.specs.Step.{NodeEvent, Ticks, Asks, Calls, at_work, started, stepped}
use Rattle.world_model.specs.declared.event.Event.TheVariants as event
use Rattle.world_model.specs.declared.script.Line.{Line}
use Rattle.world_model.specs.declared.script.Line.TheVariants as line
use Rattle.world_model.specs.Text.{line_of}
use Rattle.remote_session.specs.Messages.{down_text}
use Rattle.remote_session.specs.Daemon.{SeenUp, NotUp, EndedKey, KeysFull, KnownKey, CallMade, up_seen, up_taken, down_for}
use Rattle.remote_session.specs.Ending.{remote_ticked}
use Rattle.remote_clients.specs.declared.sessions.Sessions.{Sessions}
use Rattle.remote_clients.specs.Clients.{goodbye_owed}
use Rattle.remote_clients.specs.Sessions.{sessions_new, call_for, is_refused, finished, turned_down}
use Rattle.remote_clients.specs.Entries.{noted_with}
use Rattle.remote_clients.specs.Ending.{session_ended}
use Rattle.self_questions.specs.declared.messages.SelfWhat.{SelfWhat}
use Rattle.self_questions.specs.declared.messages.SelfWhat.TheVariants.{Hagscl, Hagsd}
use Rattle.self_questions.specs.declared.messages.SelfQuestion.{SelfQuestion}
use Rattle.self_questions.specs.Messages.{question_of, reply_text}
use Rattle.daemon_model.specs.declared.counts.ReceiveCounts.{ReceiveCounts}
use Rattle.daemon_model.specs.declared.counts.Counts.{Counts}
use Rattle.daemon_model.specs.declared.options.About.{About}
use Rattle.daemon_model.specs.declared.options.Service.{Service}
use Rattle.daemon_model.specs.declared.options.RemoteService.{RemoteService}
use Rattle.daemon_model.specs.declared.options.RemoteService.TheVariants as remotes
use Rattle.daemon_model.specs.Counts.{one_more, sent_more, nothing_counted, counted_by}
use Rattle.daemon_model.specs.SelfLines.{clients_text, daemon_text}
use Rattle.daemon_model.specs.Sent.{Exchange, plain, said, as_sent, number_if, message_calls, sent_calls, number_after}

-- Where a daemon stands, and what it did: which node it is, in which incarnation; its node, at work; the moment of its
-- last tick, or of its start; what it joins; the number of the next message that it cuts; how many receives failed in a
-- row, up to 16; what it received and sent so far, with each send as if it went out; what its node recorded so far; the
-- sessions of clients on other machines, where it serves them, and whether it tells those the lines of entries; and for who
-- asks it about itself, what it was told at its start, how often it ticked, what came, and how many datagrams it sent.
pub record Daemon : Type 0 where
  pub me : ℕ
  pub incarnation : ℕ
  pub core : Core
  pub last : ℕ
  pub joining : Joining
  pub number : ℕ
  pub failed : ℕ
  pub calls : List Exchange
  pub records : List Happened
  pub sessions : Option Sessions
  pub entries : Bool
  pub about : About
  pub ticks : ℕ
  pub receives : ReceiveCounts
  pub sent : ℕ

-- What a step of the node leaves is sent, and recorded; and each line of its records goes to the client on another machine
-- that is to hear it. The step was a call of this key, or of none.
unfoldable pub left_for : Option ℕ → Daemon → Core → Daemon
left_for calling d s = record d {
  core = at_work s;
  number = number_after d.number s.sends;
  sent = sent_more d.sent (sent_calls d.me d.incarnation d.number s.sends);
  calls = d.calls ++ sent_calls d.me d.incarnation d.number s.sends;
  records = d.records ++ s.records;
  sessions = option_map (noted_with d.entries calling s.records) d.sessions;
}

abbrev pub left_by : Daemon → Core → Daemon
left_by d s = left_for None d s

-- an event happens to the node, whose clients answer like this; it is a call of this key, or of none
unfoldable pub stepped_for : Option ℕ → Answering → NodeEvent → Daemon → Daemon
stepped_for calling f e d = left_for calling d (stepped f d.core e)

abbrev pub stepped_by : Answering → NodeEvent → Daemon → Daemon
stepped_by f e d = stepped_for None f e d

-- ---- the start

-- the sessions of clients on other machines, where they are served
abbrev pub sessions_if : RemoteService → ℕ → Option Sessions
sessions_if remotes.Off incarnation = None
sessions_if (remotes.On entries) incarnation = Some (sessions_new incarnation)

abbrev pub tells_entries : RemoteService → Bool
tells_entries remotes.Off = false
tells_entries (remotes.On entries) = entries

-- before its node starts; whom it serves on other machines, and what it tells of itself
abbrev pub fresh : Service → Config → ℕ → ℕ → ℕ → Daemon
fresh service c me incarnation moment = record {
  me = me;
  incarnation = incarnation;
  core = started c me incarnation;
  last = moment;
  joining = [];
  number = 1;
  failed = 0;
  calls = [];
  records = [];
  sessions = sessions_if service.remote incarnation;
  entries = tells_entries service.remote;
  about = service.about;
  ticks = 0;
  receives = nothing_counted;
  sent = 0;
}

unfoldable pub begun_for : Service → Config → ℕ → ℕ → ℕ → Daemon
begun_for service c me incarnation moment = left_by (fresh service c me incarnation moment) (started c me incarnation)

-- told nothing of itself
abbrev pub plain_service : RemoteService → Service
plain_service remote = record { remote = remote; about = record { version = record { major = 0; minor = 0; patch = 0 }; settings = 0 } }

-- one that serves no clients on other machines
abbrev pub serves_nobody : Service
serves_nobody = plain_service remotes.Off

abbrev pub begun : Config → ℕ → ℕ → ℕ → Daemon
begun c me incarnation moment = begun_for serves_nobody c me incarnation moment

-- a call of the settings, and what the clients answer at it
pub record Opening : Type 0 where
  pub call : CallLine
  pub answers : Answering

unfoldable pub opened : Daemon → Opening → Daemon
opened d o = stepped_by o.answers (Calls o.call) d

unfoldable pub opened_all : Daemon → List Opening → Daemon
opened_all d os = fold opened d os

-- the calls of the settings that are of a node's clients, in the order of their lines
abbrev pub own_call : ℕ → Line → List CallLine
own_call me (line.Plain (event.Call n c)) = if n == me then c ∷ [] else []
own_call me _ = []

unfoldable pub own_calls : ℕ → List Line → List CallLine
own_calls me ls = flat_map (own_call me) ls

-- ---- turns

-- a tick is due where 100 milliseconds have passed since the last one, or since the start
abbrev pub is_due : ℕ → ℕ → Bool
is_due last moment = nat_le 100 (moment - last)

-- each key was silent for one tick more
abbrev pub counted_in : Option Sessions → Option Sessions
counted_in o = option_map (λ (s : Sessions). record s { remote = remote_ticked s.remote }) o

abbrev pub counted : Daemon → Daemon
counted d = record d { sessions = counted_in d.sessions; ticks = one_more d.ticks }

abbrev pub ticked_if : Bool → ℕ → Answering → Daemon → Daemon
ticked_if true moment f d = counted (stepped_by f Ticks (record d { last = moment }))
ticked_if false moment f d = d

abbrev pub ticked : ℕ → Answering → Daemon → Daemon
ticked moment f d = ticked_if (is_due d.last moment) moment f d

-- what a receive makes of the messages that are joined
abbrev pub joined_by : LinkCall → Joining → Joined
joined_by (call.Received network bytes) joining = taken joining bytes
joined_by _ joining = record { joining = joining; message = None }

-- how many receives failed in a row, where 16 stands for any more
abbrev pub failed_by : LinkCall → ℕ → ℕ
failed_by call.Failed failed = min (failed + 1) 16
failed_by _ failed = 0

unfoldable pub received : LinkCall → Daemon → Daemon
received got d = record d {
  joining = (joined_by got d.joining).joining;
  failed = failed_by got d.failed;
  receives = counted_by got d.receives;
  calls = d.calls ++ plain (as_sent got) ∷ [];
}

-- a whole message that is one for the node: a packet, or bytes that are none
unfoldable pub given : Option (List ℕ) → Answering → Daemon → Daemon
given None f d = d
given (Some message) f d = stepped_by f (event_of message) d

-- ---- clients on other machines

-- what a message is to the sessions; where none are served it is no Up
abbrev pub up_in : Option Sessions → List ℕ → SeenUp
up_in None message = NotUp
up_in (Some s) message = up_seen s.remote message

abbrev pub with_up : List ℕ → Daemon → Daemon
with_up message d = record d { sessions = option_map (λ (s : Sessions). record s { remote = up_taken s.remote message }) d.sessions }

-- the call of the node that a key's line is, if it is one
abbrev pub call_in : Option Sessions → ℕ → ℕ → List ℕ → Option CallLine
call_in None me key line = None
call_in (Some s) me key line = call_for s me key line

-- a call of the key is a step, whose records say whether it was refused
abbrev pub key_called : ℕ → CallLine → Core → Daemon → Daemon
key_called key a s d = record (left_for (Some key) d s) { sessions = option_map (finished key a (not (is_refused s.records))) (left_for (Some key) d s).sessions }

-- a line of the key: a call of the node, or refused without a step
abbrev pub line_carried : ℕ → Option CallLine → Answering → Daemon → Daemon
line_carried key None f d = record d { sessions = option_map (turned_down key) d.sessions }
line_carried key (Some a) f d = key_called key a (stepped f d.core (Calls a)) d

unfoldable pub called_by : ℕ → List ℕ → Answering → Daemon → Daemon
called_by key line f d = line_carried key (call_in d.sessions d.me key line) f d

abbrev pub down_in : Option Sessions → ℕ → List ℕ
down_in None key = []
down_in (Some s) key = down_text (down_for s.remote key)

-- the pieces of a message that is no packet, to the sender of the datagram that came last, on this network
abbrev pub said_back : ℕ → List ℕ → Daemon → List Exchange
said_back network message d = map (said d.number) (message_calls d.me d.incarnation d.number 0 network message)

abbrev pub sent_back : ℕ → List ℕ → Daemon → Daemon
sent_back network message d = record d {
  number = number_if (can_cut message) d.number;
  sent = sent_more d.sent (said_back network message d);
  calls = d.calls ++ said_back network message d;
}

-- the Down of a key, as it is now, goes there
unfoldable pub down_sent : ℕ → ℕ → Daemon → Daemon
down_sent key network d = sent_back network (down_in d.sessions key) d

-- what an Up brings, and then one Down of its key; every other message is the node's. An Up of a key that has ended brings
-- nothing.
unfoldable pub brought : SeenUp → ℕ → List ℕ → Answering → Daemon → Daemon
brought NotUp network message f d = given (Some message) f d
brought (EndedKey key) network message f d = down_sent key network (with_up message d)
brought (KeysFull key limit) network message f d = down_sent key network (with_up message d)
brought (KnownKey key) network message f d = down_sent key network (with_up message d)
brought (CallMade key line) network message f d = down_sent key network (called_by key line f (with_up message d))

-- ---- questions about itself

abbrev pub keys_in : Option Sessions → ℕ
keys_in None = 0
keys_in (Some s) = length s.remote.sessions

abbrev pub ended_in : Option Sessions → ℕ
ended_in None = 0
ended_in (Some s) = length s.remote.ended

-- what it counts, up to now
abbrev pub counts_of : Daemon → Counts
counts_of d = record { ticks = d.ticks; receives = d.receives; sent = d.sent; keys = keys_in d.sessions; ended = ended_in d.sessions }

-- what it says of itself, as it is now
unfoldable pub self_text : SelfWhat → Daemon → List ℕ
self_text Hagscl d = clients_text d.sessions d.core.sessions
self_text Hagsd d = daemon_text (record { node = d.me; inc = d.incarnation }) d.about (counts_of d)

-- the reply goes to the sender of the datagram that came last, on the question's network: its node makes no step
unfoldable pub told_itself : SelfQuestion → ℕ → Daemon → Daemon
told_itself q network d = sent_back network (reply_text q (self_text q.what d)) d

-- A question about itself is answered, whomever the daemon serves; any other message is an Up or the node's. A question is no
-- Up and no packet: without an answer it would be bytes that come to nothing but the end of a step.
unfoldable pub asked : Option SelfQuestion → ℕ → List ℕ → Answering → Daemon → Daemon
asked None network message f d = brought (up_in d.sessions message) network message f d
asked (Some q) network message f d = told_itself q network d

-- no message, or one that asks it nothing about itself
abbrev pub AsksNothing : Option (List ℕ) → Type 0
AsksNothing None = Unit {0}
AsksNothing (Some message) = question_of message ≡ None

-- a whole message that came on this network
unfoldable pub given_on : ℕ → Option (List ℕ) → Answering → Daemon → Daemon
given_on network None f d = d
given_on network (Some message) f d = asked (question_of message) network message f d

abbrev pub network_of : LinkCall → ℕ
network_of (call.Received network bytes) = network
network_of _ = 0

unfoldable pub heard : LinkCall → Answering → Daemon → Daemon
heard got f d = given_on (network_of got) (joined_by got d.joining).message f (received got d)

-- ---- what a daemon does of its own

abbrev pub goodbye_in : Option Sessions → ℕ → Option CallLine
goodbye_in None key = None
goodbye_in (Some s) key = goodbye_owed s.clients key

-- the goodbye that the key owes is a step, as a call of that key
abbrev pub goodbye_said : ℕ → Option CallLine → Answering → Daemon → Daemon
goodbye_said key None f d = d
goodbye_said key (Some a) f d = key_called key a (stepped f d.core (Calls a)) d

abbrev pub without_key : ℕ → Daemon → Daemon
without_key key d = record d { sessions = option_map (session_ended key) d.sessions }

-- the key says the goodbye that it owes, and ends
unfoldable pub key_over : ℕ → Answering → Daemon → Daemon
key_over key f d = without_key key (goodbye_said key (goodbye_in d.sessions key) f d)

-- the order to ask for a view of its reach is a step of the node
unfoldable pub mended : Answering → Daemon → Daemon
mended f d = stepped_by f (Asks (reach_of d.core.reach)) d

-- a key that ends, and what the clients answer at the goodbye that it owes, if it owes one
pub record KeyEnd : Type 0 where
  pub key : ℕ
  pub answers : Answering

abbrev pub key_ends : Daemon → KeyEnd → Daemon
key_ends d e = key_over e.key e.answers d

-- keys end, one after another
abbrev pub keys_over : List KeyEnd → Daemon → Daemon
keys_over ends d = fold key_ends d ends

-- it mends, where it does, with what the clients answer then
abbrev pub mended_if : Option Answering → Daemon → Daemon
mended_if None d = d
mended_if (Some f) d = mended f d

-- ---- whole turns

-- What a turn is made of: the moment; what the clients answer at the tick, if one is due; which keys end behind it, and
-- whether the daemon mends then, as its options say (`Options`); what is received; and what the clients answer at the step
-- of the message that is whole then, if one is.
pub record Turn : Type 0 where
  pub moment : ℕ
  pub tick : Answering
  pub ends : List KeyEnd
  pub mends : Option Answering
  pub got : LinkCall
  pub answers : Answering

-- behind a tick of its node, where that was due
abbrev pub kept_up : Daemon → Turn → Daemon
kept_up d t = mended_if t.mends (keys_over t.ends (ticked t.moment t.tick d))

-- a turn: a tick where one is due, what the daemon does of its own, one receive, and the message that is whole by it
unfoldable pub turned : Daemon → Turn → Daemon
turned d t = heard t.got t.answers (kept_up d t)

unfoldable pub turned_all : Daemon → List Turn → Daemon
turned_all d ts = fold turned d ts

-- ---- a life

-- all that comes from outside in a life: whom it serves on other machines and what it tells of itself, the moment of the
-- start, the calls of the settings, and turns
pub record Life : Type 0 where
  pub service : Service
  pub start : ℕ
  pub opening : List Opening
  pub turns : List Turn

abbrev pub opening_calls : Life → List CallLine
opening_calls life = map (λ (o : Opening). o.call) life.opening

-- the moments that are read, in their order
abbrev pub turn_moments : List Turn → List ℕ
turn_moments ts = map (λ (t : Turn). t.moment) ts

abbrev pub life_moments : Life → List ℕ
life_moments life = life.start ∷ turn_moments life.turns

-- the daemon after its turns
unfoldable pub lived : Config → ℕ → ℕ → Life → Daemon
lived c me incarnation life = turned_all (opened_all (begun_for life.service c me incarnation life.start) life.opening) life.turns

-- what is written of records: a line each
unfoldable pub records_text : List Happened → List ℕ
records_text rs = flat_map line_of rs

-- opens each word of this file, for a computation
unfoldable pub daemon_opens : Unit {0}
unfolding left_for stepped_for begun_for opened opened_all own_calls received given called_by down_sent brought self_text told_itself asked given_on heard key_over mended turned turned_all lived records_text
daemon_opens = tt
