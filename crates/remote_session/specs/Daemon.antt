-- The daemon's end of all client sessions.
use Rattle.std.specs.Prelude.{ℕ, ◌+◌, ◌-◌, Bool, true, false, not, ◌&&◌, ◌==◌, nat_le, nat_lt, nat_eq, List, [], ◌∷◌, ◌++◌, length, take, drop, Option, Some, None, is_none, if◌then◌else◌}
use Rattle.std.specs.Map.{lookup, set_value}
use Rattle.std.specs.List.{list_any}
use Rattle.std.specs.Option.{option_map_or}
use Rattle.rsct_packet.specs.Lists.{is_empty}
use Rattle.rsct_packet.specs.Ids.{risen, last_u32}
use Rattle.remote_session.specs.declared.messages.Answer.{Answer}
use Rattle.remote_session.specs.declared.messages.Answer.TheVariants.{NoAnswer, Taken, Refused, Full}
use Rattle.remote_session.specs.declared.session.Session.{Session}
use Rattle.remote_session.specs.declared.remote.UpSeen.{UpSeen}
use Rattle.remote_session.specs.declared.remote.UpSeen.TheVariants as seen
use Rattle.remote_session.specs.Messages.{UpIn, DownIn, max_events, up_of}

-- how many keys a daemon keeps
abbrev pub max_keys : ℕ
max_keys = 1024

-- one key's session

unfoldable pub new_session : Session
new_session = record { ack = 0; done = 0; answer = NoAnswer; is_open = false; newest = 0; events = []; silent = 0 }

-- what the client's end has heard is let go
unfoldable pub acknowledged : ℕ → Session → Session
acknowledged ack s = if nat_lt s.ack ack then record s { ack = ack; events = drop (ack - s.ack) s.events } else s

-- does this Up make the call after the last one that was answered, while none waits for its answer?
unfoldable pub makes_call : UpIn → Session → Bool
makes_call u s = (u.number == s.done + 1) && not (is_empty u.line) && not s.is_open

unfoldable pub opened : Bool → Session → Session
opened calls s = if calls then record s { is_open = true } else s

-- an Up of it came just now
abbrev pub spoken : Session → Session
spoken s = record s { silent = 0 }

-- a session after an Up
unfoldable pub session_up : UpIn → Session → Session
session_up u s = opened (makes_call u s) (spoken (acknowledged u.ack s))

unfoldable pub answer_told : Bool → Answer
answer_told taken = if taken then Taken else Refused

-- the open call has its answer; where none is open nothing changes
unfoldable pub session_done : Bool → Session → Session
session_done taken s = if s.is_open then record s { done = risen s.done; answer = answer_told taken; is_open = false } else s

-- an event is kept, unless it was acknowledged before it came
unfoldable pub with_event : List ℕ → Session → List (List ℕ)
with_event line s = if nat_le s.ack s.newest then s.events ++ line ∷ [] else s.events

-- an event takes the next number; after the last number it is dropped
unfoldable pub session_event : List ℕ → Session → Session
session_event line s = if s.newest == last_u32 then s else record s { newest = s.newest + 1; events = with_event line s }

-- the sessions of all keys, in the order in which the keys came

abbrev pub Sessions : Type 0
Sessions = List (ℕ × Session)

abbrev pub session_of : ℕ → Sessions → Option Session
session_of key sessions = lookup (nat_eq key) sessions

abbrev pub with_session : ℕ → Session → Sessions → Sessions
with_session key s sessions = set_value (nat_eq key) sessions s

abbrev pub edited_as : ℕ → (Session → Session) → Sessions → Option Session → Sessions
edited_as key f sessions None = sessions
edited_as key f sessions (Some s) = with_session key (f s) sessions

-- the key's session is changed, where it has one
unfoldable pub edited : ℕ → (Session → Session) → Sessions → Sessions
edited key f sessions = edited_as key f sessions (session_of key sessions)

-- a new key has a session from now on
unfoldable pub kept : ℕ → Sessions → Sessions
kept key sessions = if is_none (session_of key sessions) then sessions ++ (key, new_session) ∷ [] else sessions

-- a new key where as many are kept as may be
unfoldable pub is_full_for : ℕ → Sessions → Bool
is_full_for key sessions = is_none (session_of key sessions) && nat_le max_keys (length sessions)

unfoldable pub call_made : UpIn → Sessions → Bool
call_made u sessions = option_map_or (makes_call u) (session_of u.key sessions) false

-- the daemon's end in one life of the daemon

-- its incarnation; the sessions of the keys that it keeps; and the keys that have ended, in their order
pub record RemoteState : Type 0 where
  pub incarnation : ℕ
  pub sessions : Sessions
  pub ended : List ℕ

abbrev pub is_ended : ℕ → List ℕ → Bool
is_ended key ended = list_any (nat_eq key) ended

-- what an Up is to the daemon: none, of a key that has ended, of a new key where no more are kept, of a key whose call it does
-- not bring, or a call with its line
pub data SeenUp : Type 0 where
  NotUp : SeenUp
  EndedKey : (key : ℕ) → SeenUp
  KeysFull : (key limit : ℕ) → SeenUp
  KnownKey : (key : ℕ) → SeenUp
  CallMade : (key : ℕ) (line : List ℕ) → SeenUp

abbrev pub seen_up : UpSeen → SeenUp
seen_up seen.NoMessage = NotUp
seen_up (seen.Ended key) = EndedKey key
seen_up (seen.Full key limit) = KeysFull key limit
seen_up (seen.Known key) = KnownKey key
seen_up (seen.Call key line) = CallMade key line.now

unfoldable pub remote_new : ℕ → RemoteState
remote_new incarnation = record { incarnation = incarnation; sessions = []; ended = [] }

unfoldable pub up_seen_as : Sessions → Option UpIn → SeenUp
up_seen_as sessions None = NotUp
up_seen_as sessions (Some u) =
    if is_full_for u.key sessions then KeysFull u.key max_keys else if call_made u (kept u.key sessions) then CallMade u.key u.line else KnownKey u.key

-- the key of an Up, where that has ended
abbrev pub ended_key_in : List ℕ → Option UpIn → Option ℕ
ended_key_in ended None = None
ended_key_in ended (Some u) = if is_ended u.key ended then Some u.key else None

-- the key of the Up that these bytes are, where that has ended
unfoldable pub ended_up : RemoteState → List ℕ → Option ℕ
ended_up r bytes = ended_key_in r.ended (up_of bytes)

-- an Up of a key that has ended brings nothing, however late it comes
abbrev pub up_seen_by : Option ℕ → Sessions → Option UpIn → SeenUp
up_seen_by (Some key) sessions o = EndedKey key
up_seen_by None sessions o = up_seen_as sessions o

unfoldable pub up_seen : RemoteState → List ℕ → SeenUp
up_seen r bytes = up_seen_by (ended_up r bytes) r.sessions (up_of bytes)

unfoldable pub up_taken_as : Sessions → Option UpIn → Sessions
up_taken_as sessions None = sessions
up_taken_as sessions (Some u) = if is_full_for u.key sessions then sessions else edited u.key (session_up u) (kept u.key sessions)

-- and changes nothing
abbrev pub up_taken_by : Option ℕ → Sessions → Option UpIn → Sessions
up_taken_by (Some key) sessions o = sessions
up_taken_by None sessions o = up_taken_as sessions o

unfoldable pub up_taken : RemoteState → List ℕ → RemoteState
up_taken r bytes = record r { sessions = up_taken_by (ended_up r bytes) r.sessions (up_of bytes) }

-- the key's open call is answered
unfoldable pub done_told : ℕ → Bool → RemoteState → RemoteState
done_told key taken r = record r { sessions = edited key (session_done taken) r.sessions }

-- the key's client is to hear this
unfoldable pub event_added : ℕ → List ℕ → RemoteState → RemoteState
event_added key line r = record r { sessions = edited key (session_event line) r.sessions }

unfoldable pub down_as : ℕ → ℕ → Option Session → DownIn
down_as incarnation key None = record { key = key; incarnation = incarnation; done = 0; answer = Full; first = 1; events = [] }
down_as incarnation key (Some s) =
    record { key = key; incarnation = incarnation; done = s.done; answer = s.answer; first = risen s.ack; events = take max_events s.events }

-- the incarnation that a key is told: 0 where it has ended, so that its far end gives it up
abbrev pub life_told : ℕ → RemoteState → ℕ
life_told key r = if is_ended key r.ended then 0 else r.incarnation

-- the Down of a key at this moment
unfoldable pub down_for : RemoteState → ℕ → DownIn
down_for r key = down_as (life_told key r) key (session_of key r.sessions)

-- opens each word of this file, for a computation
unfoldable pub daemon_opens : Unit {0}
unfolding new_session acknowledged makes_call opened session_up answer_told session_done with_event session_event edited kept is_full_for call_made remote_new up_seen_as ended_up up_seen up_taken_as up_taken done_told event_added down_as down_for
daemon_opens = tt
