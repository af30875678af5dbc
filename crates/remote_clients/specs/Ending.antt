-- A key ends, with its client.
use Rattle.std.specs.Prelude.{ℕ, Bool, true, false}
use Rattle.remote_session.specs.Ending.{may_end, key_ended}
use Rattle.remote_clients.specs.declared.sessions.Sessions.{Sessions}
use Rattle.remote_clients.specs.Clients.{ClientsState, with_end}

abbrev pub clients_left : Bool → ℕ → ClientsState → ClientsState
clients_left true key c = with_end key c
clients_left false key c = c

-- where as many keys have ended as may, the key stays, and so does what is known of its client
unfoldable pub session_ended : ℕ → Sessions → Sessions
session_ended key s = record { remote = key_ended key s.remote; clients = clients_left (may_end s.remote) key s.clients }

-- opens each word of this file, for a computation
unfoldable pub session_ending_opens : Unit {0}
unfolding session_ended
session_ending_opens = tt
