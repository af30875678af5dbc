-- The names of a node's clients, in order.
use Rattle.std.specs.Prelude.{ℕ, List, []}
use Rattle.std.specs.List.{fold}
use Rattle.rsct_packet.specs.Search.{insert_before}
use Rattle.rsct_packet.specs.Text.{name_lt}
use Rattle.session_state.specs.declared.state.Session.{Session}

-- a name stands before the first that is greater
abbrev pub with_name : List (List ℕ) → List ℕ → List (List ℕ)
with_name names name = insert_before (name_lt name) name names

abbrev pub with_session : List (List ℕ) → Session → List (List ℕ)
with_session names x = with_name names x.name

-- those of these sessions
unfoldable pub names_of : List Session → List (List ℕ)
names_of xs = fold with_session [] xs
