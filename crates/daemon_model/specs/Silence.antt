-- What is left of a client that was silent for too long.
use Rattle.std.specs.Prelude.{◌≡◌, ℕ, ◌+◌, ◌≤◌, true, length, find, Option, Some, None}
use Rattle.rsct_packet.specs.Search.{Has}
use Rattle.remote_session.specs.Daemon.{session_of, is_ended}
use Rattle.remote_session.specs.Ending.{max_ended, silent_keys}
use Rattle.remote_clients.specs.declared.sessions.Sessions.{Sessions}
use Rattle.remote_clients.specs.Clients.{is_of_key}
use Rattle.daemon_model.specs.declared.options.Options.{Options}
use Rattle.daemon_model.specs.Daemon.{Daemon, Turn, ticked}
use Rattle.daemon_model.specs.Options.{ended_by, Keeps}

-- the key has ended, it has no session, and it has no client
pub record IsOver (key : ℕ) (s : Sessions) : Type 0 where
  pub ended : is_ended key s.remote.ended ≡ true
  pub session : session_of key s.remote.sessions ≡ None
  pub client : find (is_of_key key) s.clients.made ≡ None

pub record IsOverIn (key : ℕ) (o : Option Sessions) : Type 0 where
  pub sessions : Sessions
  pub are : o ≡ Some sessions
  pub over : IsOver key sessions

-- Behind a tick each key of which no Up came for so many ticks is over, where so many keys may end.
abbrev pub SilentKeysEnd : Type 0
SilentKeysEnd =
    (o : Options) (least ticks : ℕ) (d : Daemon) (t : Turn) (s : Sessions) (key : ℕ)
    → o.silence ≡ Some least → Keeps o ticks d t → (ticked t.moment t.tick d).sessions ≡ Some s → Has key (silent_keys least s.remote) → length s.remote.ended + length (silent_keys least s.remote) ≤ max_ended
    → IsOverIn key (ended_by d t).sessions
