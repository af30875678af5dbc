-- The lines in which a daemon tells of itself.
use Rattle.std.specs.Prelude.{ℕ, ◌+◌, ◌/◌, ◌%◌, ◌&&◌, nat_lt, Bool, List, [], ◌∷◌, ◌++◌, map, filter, flat_map, codes, decimal, Option, Some, None, if◌then◌else◌}
use Rattle.rsct_packet.specs.declared.ids.Member.{Member}
use Rattle.rsct_packet.specs.declared.ids.ProviderId.{ProviderId}
use Rattle.rsct_packet.specs.Fields.{u64_text}
use Rattle.value_words.specs.Wording.{word, member_text, providers_text}
use Rattle.subscribe_core.specs.declared.subs.ClientToken.{ClientToken}
use Rattle.session_state.specs.declared.state.Session.{Session}
use Rattle.session_state.specs.declared.state.Provider.{Provider}
use Rattle.session_state.specs.declared.state.SessionState.{SessionState}
use Rattle.session_state.specs.State.{is_client_of}
use Rattle.remote_session.specs.declared.remote.Standing.{Standing}
use Rattle.remote_session.specs.Ending.{standing_of}
use Rattle.remote_clients.specs.declared.sessions.Sessions.{Sessions}
use Rattle.remote_clients.specs.Clients.{key_of_name}
use Rattle.daemon_model.specs.declared.options.About.{About}
use Rattle.daemon_model.specs.declared.options.Version.{Version}
use Rattle.daemon_model.specs.declared.counts.Counts.{Counts}

-- ---- the clients of its sessions

abbrev pub number_or_none : Option ℕ → List ℕ
number_or_none None = codes "-"
number_or_none (Some n) = decimal n

-- the client's key, where it is one on another machine
abbrev pub key_in : Option Sessions → List ℕ → Option ℕ
key_in None name = None
key_in (Some s) name = key_of_name s.clients.made s.clients.gone name

abbrev pub standing_for : Sessions → Option ℕ → Option Standing
standing_for s None = None
standing_for s (Some key) = standing_of key s.remote

-- and how that key stands
abbrev pub standing_in : Option Sessions → List ℕ → Option Standing
standing_in None name = None
standing_in (Some s) name = standing_for s (key_of_name s.clients.made s.clients.gone name)

abbrev pub silent_of : Option Standing → Option ℕ
silent_of None = None
silent_of (Some s) = Some s.silent

abbrev pub unread_of : Option Standing → Option ℕ
unread_of None = None
unread_of (Some s) = Some s.unread

-- the client's providers that have joined, and have not been let go
abbrev pub is_member_of : ClientToken → Provider → Bool
is_member_of t x = is_client_of t x && x.takes_part

unfoldable pub members_in : SessionState → ClientToken → List ProviderId
members_in s t = map (λ (x : Provider). x.provider) (filter (is_member_of t) s.providers)

-- its key; the ticks since the last Up of that; how many of its events are kept; and its providers that have joined
unfoldable pub client_text : List ℕ → Option ℕ → Option Standing → List ProviderId → List ℕ
client_text name key standing members =
    codes "hagscl " ++ word name ++ codes "key=" ++ word (number_or_none key) ++ codes "silent=" ++ word (number_or_none (silent_of standing))
    ++ codes "unread=" ++ word (number_or_none (unread_of standing)) ++ codes "members=" ++ providers_text members ++ codes "\n"

unfoldable pub client_line : Option Sessions → SessionState → Session → List ℕ
client_line o s x = client_text x.name (key_in o x.name) (standing_in o x.name) (members_in s x.token)

-- a line for each client whose session is there, in the order of the sessions
unfoldable pub clients_text : Option Sessions → SessionState → List ℕ
clients_text o s = flat_map (client_line o s) s.sessions

-- ---- what it counts

-- a digit of a number below 16
unfoldable pub low_digit : ℕ → ℕ
low_digit n = if nat_lt n 10 then 48 + n else 87 + n

abbrev pub byte_digits : ℕ → List ℕ
byte_digits b = low_digit (b / 16) ∷ low_digit (b % 16) ∷ []

-- sixteen digits
unfoldable pub digest_text : ℕ → List ℕ
digest_text n = flat_map byte_digits (u64_text n)

unfoldable pub version_text : Version → List ℕ
version_text v = decimal v.major ++ codes "." ++ decimal v.minor ++ codes "." ++ decimal v.patch

unfoldable pub daemon_text : Member → About → Counts → List ℕ
daemon_text me about n =
    codes "hagsd " ++ word (member_text me) ++ codes "version=" ++ word (version_text about.version) ++ codes "settings=" ++ word (digest_text about.settings)
    ++ codes "turns=" ++ word (decimal n.receives.turns) ++ codes "ticks=" ++ word (decimal n.ticks) ++ codes "received=" ++ word (decimal n.receives.received)
    ++ codes "strays=" ++ word (decimal n.receives.strays) ++ codes "sent=" ++ word (decimal n.sent) ++ codes "failed=" ++ word (decimal n.receives.failed)
    ++ codes "keys=" ++ word (decimal n.keys) ++ codes "ended=" ++ decimal n.ended ++ codes "\n"

-- opens each word of this file, for a computation
unfoldable pub self_lines_opens : Unit {0}
unfolding members_in client_text client_line clients_text low_digit digest_text version_text daemon_text
self_lines_opens = tt
