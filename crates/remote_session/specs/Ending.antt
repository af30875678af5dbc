-- Keys that end: how long each was silent, and what is left of one that ended; and how a key stands.
use Rattle.std.specs.Prelude.{ℕ, Bool, not, nat_eq, nat_le, nat_lt, List, [], ◌∷◌, ◌++◌, length, map, filter, Option, option_map, if◌then◌else◌}
use Rattle.rsct_packet.specs.Ids.{risen}
use Rattle.remote_session.specs.declared.session.Session.{Session}
use Rattle.remote_session.specs.declared.remote.Standing.{Standing}
use Rattle.remote_session.specs.Daemon.{Sessions, RemoteState, session_of, is_ended}

-- how many keys end in a daemon's life
abbrev pub max_ended : ℕ
max_ended = 1048576

-- ---- silence

-- no Up came since one tick more
abbrev pub silent_longer : Session → Session
silent_longer s = record s { silent = risen s.silent }

-- each key's count of ticks since its last Up rises
unfoldable pub waited : Sessions → Sessions
waited sessions = map (λ e. (e.0, silent_longer e.1)) sessions

-- the daemon ticks
unfoldable pub remote_ticked : RemoteState → RemoteState
remote_ticked r = record r { sessions = waited r.sessions }

-- the keys of which no Up came for so many ticks, in the order in which they came
unfoldable pub silent_keys : ℕ → RemoteState → List ℕ
silent_keys least r = map (λ e. e.0) (filter (λ e. nat_le least e.1.silent) r.sessions)

-- ---- the end of a key

unfoldable pub may_end : RemoteState → Bool
may_end r = nat_lt (length r.ended) max_ended

-- all sessions but the key's
unfoldable pub without : ℕ → Sessions → Sessions
without key sessions = filter (λ e. not (nat_eq key e.0)) sessions

abbrev pub with_ended : ℕ → List ℕ → List ℕ
with_ended key ended = if is_ended key ended then ended else ended ++ key ∷ []

-- the key's session goes with its events, and the key has ended; where as many have ended as may nothing changes
unfoldable pub key_ended : ℕ → RemoteState → RemoteState
key_ended key r = if may_end r then record r { sessions = without key r.sessions; ended = with_ended key r.ended } else r

-- ---- how a key stands

abbrev pub standing : Session → Standing
standing s = record { silent = s.silent; unread = length s.events }

-- nothing of a key that is not kept
unfoldable pub standing_of : ℕ → RemoteState → Option Standing
standing_of key r = option_map standing (session_of key r.sessions)

-- opens each word of this file, for a computation
unfoldable pub ending_opens : Unit {0}
unfolding waited remote_ticked silent_keys may_end without key_ended standing_of
ending_opens = tt
