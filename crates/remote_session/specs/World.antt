-- Client ends with different keys, one daemon from life to life, and all datagrams that they ever sent.
use Rattle.std.specs.Prelude.{ℕ, ◌^◌, Bool, false, ◌&&◌, ◌==◌, nat_le, nat_lt, List, [], ◌∷◌, ◌++◌, length, Option, Some, None, is_some, is_none, slice_get, if◌then◌else◌}
use Rattle.std.specs.List.{fold}
use Rattle.std.specs.Option.{option_map_or}
use Rattle.rsct_packet.specs.Ids.{last_u32}
use Rattle.remote_session.specs.declared.session.Session.{Session}
use Rattle.remote_session.specs.declared.far.DownSeen.{DownSeen}
use Rattle.remote_session.specs.declared.far.DownSeen.TheVariants.{NoMessage, Nothing, Answer, Lost, Full}
use Rattle.remote_session.specs.Messages.{max_line, up_text, down_text}
use Rattle.remote_session.specs.Daemon.{Sessions, session_of, RemoteState, SeenUp, NotUp, EndedKey, KeysFull, KnownKey, CallMade, remote_new, up_seen, up_taken, done_told, event_added, down_for}
use Rattle.remote_session.specs.Ending.{remote_ticked, key_ended}
use Rattle.remote_session.specs.Client.{FarState, far_new, may_call, far_called, up_from, far_seen, far_taken}

-- what may happen next. A datagram that was sent comes never, once or often, whenever it may be: so a loss is one that
-- never comes
pub data Happening : Type 0 where
  -- a client's end begins with a key that no other has
  Begins : (key : ℕ) → Happening
  -- its client makes a call
  Calls : (key : ℕ) (line : List ℕ) → Happening
  -- it sends an Up
  Sends_up : (key : ℕ) → Happening
  -- the daemon is given the Up at this place of all
  Up_comes : (place : ℕ) → Happening
  -- the daemon takes or refuses the open call of a key
  Answers : (key : ℕ) (taken : Bool) → Happening
  -- the client of a key is to hear a line
  Occurs : (key : ℕ) (line : List ℕ) → Happening
  -- the daemon ticks
  Ticks : Happening
  -- the daemon ends a key that it keeps
  Ends : (key : ℕ) → Happening
  -- the daemon sends a Down of a key
  Sends_down : (key : ℕ) → Happening
  -- the end with this key, whosever Down it is, is given the one at this place of all
  Down_comes : (place key : ℕ) → Happening
  -- the daemon starts anew, with a greater incarnation: its next life
  Restarts : (incarnation : ℕ) → Happening

-- The daemon in its present life; the client ends by their keys; all Ups and Downs, the last one first. And what the
-- laws speak of, each in order: the lines of the calls that each end took and the answers that it heard; the lines that
-- the daemon gave out, the answers that it told and the events that it was handed, by its life and the key.
pub record World : Type 0 where
  pub remote : RemoteState
  pub fars : ℕ → Option FarState
  pub ups : List (List ℕ)
  pub downs : List (List ℕ)
  pub called : ℕ → List (List ℕ)
  pub answered : ℕ → List Bool
  pub given : ℕ → ℕ → List (List ℕ)
  pub told : ℕ → ℕ → List Bool
  pub events : ℕ → ℕ → List (List ℕ)

-- the daemon of this incarnation is there, and nothing else
unfoldable pub quiet : ℕ → World
quiet incarnation =
    record {
      remote = remote_new incarnation;
      fars = λ key. None;
      ups = [];
      downs = [];
      called = λ key. [];
      answered = λ key. [];
      given = λ life key. [];
      told = λ life key. [];
      events = λ life key. [];
    }

-- one more of a key
unfoldable pub added : {A : Type 0} → ℕ → A → (ℕ → List A) → ℕ → List A
added key x lists k = if k == key then lists k ++ x ∷ [] else lists k

-- one more of a life and a key
unfoldable pub added_in : {A : Type 0} → ℕ → ℕ → A → (ℕ → ℕ → List A) → ℕ → ℕ → List A
added_in life key x lists l k = if l == life then added key x (lists l) k else lists l k

unfoldable pub with_far : ℕ → FarState → (ℕ → Option FarState) → ℕ → Option FarState
with_far key f fars k = if k == key then Some f else fars k

abbrev pub is_key : ℕ → Bool
is_key key = nat_le key last_u32

-- a line of 1 to 1,100 bytes
abbrev pub is_line : List ℕ → Bool
is_line line = nat_le 1 (length line) && nat_le (length line) max_line

abbrev pub is_event : List ℕ → Bool
is_event line = nat_lt (length line) (2 ^ 16)

unfoldable pub calls_at : ℕ → List ℕ → World → Option FarState → World
calls_at key line w None = w
calls_at key line w (Some f) =
    if is_line line && may_call f then record w { fars = with_far key (far_called line f) w.fars; called = added key line w.called } else w

unfoldable pub sends_up_at : World → Option FarState → World
sends_up_at w None = w
sends_up_at w (Some f) = record w { ups = up_text (up_from f) ∷ w.ups }

-- a line that is given out is noted
unfoldable pub given_out : SeenUp → World → World
given_out NotUp w = w
given_out (EndedKey key) w = w
given_out (KeysFull key limit) w = w
given_out (KnownKey key) w = w
given_out (CallMade key line) w = record w { given = added_in w.remote.incarnation key line w.given }

unfoldable pub up_comes_at : World → Option (List ℕ) → World
up_comes_at w None = w
up_comes_at w (Some bytes) = given_out (up_seen w.remote bytes) (record w { remote = up_taken w.remote bytes })

-- has the key an open call?
abbrev pub has_open : ℕ → Sessions → Bool
has_open key sessions = option_map_or (λ (s : Session). s.is_open) (session_of key sessions) false

-- an answer that is heard is noted
unfoldable pub answer_heard : ℕ → DownSeen → World → World
answer_heard key NoMessage w = w
answer_heard key Nothing w = w
answer_heard key (Answer taken) w = record w { answered = added key taken w.answered }
answer_heard key (Lost first now) w = w
answer_heard key Full w = w

unfoldable pub down_comes_at : ℕ → World → Option (List ℕ) → Option FarState → World
down_comes_at key w None f = w
down_comes_at key w (Some bytes) None = w
down_comes_at key w (Some bytes) (Some f) = answer_heard key (far_seen f bytes) (record w { fars = with_far key (far_taken f bytes) w.fars })

-- what cannot happen changes nothing
unfoldable pub happens : World → Happening → World
happens w (Begins key) = if is_key key && is_none (w.fars key) then record w { fars = with_far key (far_new key) w.fars } else w
happens w (Calls key line) = calls_at key line w (w.fars key)
happens w (Sends_up key) = sends_up_at w (w.fars key)
happens w (Up_comes place) = up_comes_at w (slice_get w.ups place)
happens w (Answers key taken) =
    if has_open key w.remote.sessions then record w { remote = done_told key taken w.remote; told = added_in w.remote.incarnation key taken w.told } else w
happens w (Occurs key line) =
    if is_some (session_of key w.remote.sessions) && is_event line
    then record w { remote = event_added key line w.remote; events = added_in w.remote.incarnation key line w.events }
    else w
happens w Ticks = record w { remote = remote_ticked w.remote }
happens w (Ends key) = if is_some (session_of key w.remote.sessions) then record w { remote = key_ended key w.remote } else w
happens w (Sends_down key) = if is_key key then record w { downs = down_text (down_for w.remote key) ∷ w.downs } else w
happens w (Down_comes place key) = down_comes_at key w (slice_get w.downs place) (w.fars key)
happens w (Restarts incarnation) =
    if nat_lt w.remote.incarnation incarnation && is_key incarnation then record w { remote = remote_new incarnation } else w

-- after all of these
unfoldable pub after : World → List Happening → World
after w happenings = fold happens w happenings

-- opens each word of this file, for a computation
unfoldable pub world_opens : Unit {0}
unfolding quiet added added_in with_far calls_at sends_up_at given_out up_comes_at answer_heard down_comes_at happens after
world_opens = tt
