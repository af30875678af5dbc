-- The sessions of a node with its clients, and what the clients stand for.
use Rattle.std.specs.Prelude.{◌≡◌, ℕ, zero, suc, Bool, false, ◌==◌, List, [], ◌∷◌, ◌++◌, Option, Some, None, slice_get, map}
use Rattle.rsct_packet.specs.Search.{place_where}
use Rattle.client_callbacks.specs.declared.votes.VoteItem.{VoteItem}
use Rattle.client_callbacks.specs.Handed.{Handed}
use Rattle.session_state.specs.declared.state.SessionState.{SessionState}
use Rattle.session_state.specs.State.{is_named}

-- the clients stand in the order of their sessions
pub record SessionsView (C : Type 0) : Type 0 where
  pub state : SessionState
  pub clients : List C

abbrev pub client_at : {C : Type 0} → Option ℕ → List C → Option C
client_at None cs = None
client_at (Some i) cs = slice_get cs i

-- the client of the live session of this name
abbrev pub client_named : {C : Type 0} → SessionsView C → List ℕ → Option C
client_named v name = client_at (place_where (is_named name) v.state.sessions) v.clients

-- each client stands for its list
abbrev pub StandFor : {C : Type 0} → (C → List Handed → Type 0) → List C → List (List Handed) → Type 0
StandFor R [] [] = Unit {0}
StandFor R [] (h ∷ hs) = ⊥
StandFor R (c ∷ cs) [] = ⊥
StandFor R (c ∷ cs) (h ∷ hs) = R c h × StandFor R cs hs

-- where the clients stood for lists, they stand for these after a change
abbrev pub StandAfter : {C : Type 0} → (C → List Handed → Type 0) → List C → List C → (List (List Handed) → List (List Handed)) → Type 0
StandAfter R old new change = (hs : List (List Handed)) → StandFor R old hs → StandFor R new (change hs)

-- the lists of clients with one more thing at the end of one
abbrev pub add_at : ℕ → Handed → List (List Handed) → List (List Handed)
add_at i x [] = []
add_at zero x (h ∷ hs) = (h ++ x ∷ []) ∷ hs
add_at (suc i) x (h ∷ hs) = h ∷ add_at i x hs

abbrev pub add_for : Option ℕ → Handed → List (List Handed) → List (List Handed)
add_for None x hs = hs
add_for (Some i) x hs = add_at i x hs

-- whether this is the place of a client
abbrev pub is_at : ℕ → Option ℕ → Bool
is_at i None = false
is_at i (Some k) = k == i

-- each client keeps its value, apart from those at the places that pass the test
abbrev pub KeepsAllBut : {C : Type 0} → (ℕ → Bool) → List C → List C → Type 0
KeepsAllBut test old new = (i : ℕ) → test i ≡ false → slice_get new i ≡ slice_get old i

-- the clients vote by the scripts that they voted by before
abbrev pub KeepsScripts : {C : Type 0} → (C → Option (List (Option VoteItem))) → List C → List C → Type 0
KeepsScripts script old new = map script new ≡ map script old
