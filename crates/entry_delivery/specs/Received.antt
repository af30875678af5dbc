-- What clients were handed and told, and what they filled, as the records of their node tell it.
use Rattle.std.specs.Prelude.{◌≡◌, ℕ, zero, suc, List, [], ◌∷◌, ◌++◌, fold, map, Option, Some, None}
use Rattle.std.specs.Option.{unwrap_or}
use Rattle.proposal_core.specs.declared.group_state.GroupState.{GroupState}
use Rattle.rsct_packet.specs.declared.ids.ProviderId.{ProviderId}
use Rattle.subscribe_core.specs.declared.subs.ClientToken.{ClientToken}
use Rattle.client_callbacks.specs.declared.ballot.Filled.{Filled}
use Rattle.client_callbacks.specs.declared.told.Told.TheVariants as told
use Rattle.client_callbacks.specs.Handed.{Handed, Notified, Informed}
use Rattle.session_state.specs.declared.state.SessionState.{SessionState}
use Rattle.session_state.specs.State.{client_place, provider_of, place_of, outstanding, client_name}
use Rattle.session_clients.specs.Clients.{StandFor}
use Rattle.session_clients.specs.Notices.{notice_to}
use Rattle.node_state.specs.declared.happened.Happened.{Happened}
use Rattle.node_state.specs.declared.happened.Happened.TheVariants as happened
use Rattle.node_state.specs.Handed.{Logged}

-- ---- what a log tells

-- the ballot that a record tells
abbrev pub ballot_told : Happened → Option Filled
ballot_told (happened.Cast p proto phase vote value message) = Some (record { vote = vote; value = value; message = message })
ballot_told _ = None

-- the ballot that was filled with a notice: the record directly behind that of the notice tells it, where there is one
abbrev pub ballot_behind : List Logged → Option Filled
ballot_behind [] = None
ballot_behind (r ∷ rs) = ballot_told r.what

-- the record tells that this was handed: a notice with this state after it, of which this ballot was filled, or a telling
abbrev pub handed_if : Happened → GroupState → Option Filled → List Handed
handed_if (happened.Heard p v g i e members value) after b = Notified (notice_to v g i e after p) b ∷ []
handed_if (happened.Told p r why) after b = Informed (told.Refused p r why) ∷ []
handed_if (happened.Noted n client v i t) after b = Informed t ∷ []
handed_if _ after b = []

-- what a client was handed, as its log tells it
abbrev pub handed_by : List Logged → List Handed
handed_by [] = []
handed_by (r ∷ rs) = handed_if r.what r.after (ballot_behind rs) ++ handed_by rs

-- the provider that heard
abbrev pub hearer : Happened → Option ProviderId
hearer (happened.Heard p v g i e members value) = Some p
hearer _ = None

-- a record of a log, directly behind what this provider heard: the record of a notice has members and value of the state
-- that was handed, and that of a ballot stands directly behind the notice that its own provider heard
abbrev pub IsLogged : Option ProviderId → Happened → GroupState → Type 0
IsLogged o (happened.Heard p v g i e members value) after = (after.members ≡ members) × (after.value ≡ value)
IsLogged o (happened.Cast p proto phase vote value message) after = o ≡ Some p
IsLogged o (happened.Told p r why) after = Unit {0}
IsLogged o (happened.Noted n client v i t) after = Unit {0}
IsLogged o _ after = ⊥

abbrev pub AreLogged : Option ProviderId → List Logged → Type 0
AreLogged o [] = Unit {0}
AreLogged o (r ∷ rs) = IsLogged o r.what r.after × AreLogged (hearer r.what) rs

-- the log of a client
abbrev pub IsLog : List Logged → Type 0
IsLog rs = AreLogged None rs

abbrev pub AreLogs : List (List Logged) → Type 0
AreLogs [] = Unit {0}
AreLogs (rs ∷ rss) = IsLog rs × AreLogs rss

-- what clients stood for at first, with what each was handed since; one behind them stood for nothing
abbrev pub joined : List (List Handed) → List (List Handed) → List (List Handed)
joined [] hs = hs
joined (f ∷ fs) [] = []
joined (f ∷ fs) (h ∷ hs) = (f ++ h) ∷ joined fs hs

-- each client, which stood for one of these lists at first, stands for that and for what its log tells, in order
pub record WereHandedFrom {C : Type 0} (R : C → List Handed → Type 0) (firsts : List (List Handed)) (clients : List C) (rss : List (List Logged)) : Type 0 where
  pub stand : StandFor R clients (joined firsts (map handed_by rss))
  pub logs : AreLogs rss

-- each client stands for what its log tells
abbrev pub WereHanded : {C : Type 0} → (C → List Handed → Type 0) → List C → List (List Logged) → Type 0
WereHanded R clients rss = WereHandedFrom R [] clients rss

-- ---- what is handed in a row

-- what a record tells, and the place of the client that was handed or filled it: none where there is no such client
pub record Handing : Type 0 where
  pub place : Option ℕ
  pub what : Happened
  pub after : GroupState

-- the client is that of the record's provider, which is live, or also whose request is outstanding where it is told; or
-- that of its name
abbrev pub IsFor : SessionState → Option ℕ → Happened → Type 0
IsFor s place (happened.Heard p v g i e members value) = (place ≡ place_of s p) × (provider_of s p ≡ None → ⊥)
IsFor s place (happened.Cast p proto phase vote value message) = (place ≡ place_of s p) × (provider_of s p ≡ None → ⊥)
IsFor s place (happened.Told p r why) = (place ≡ place_of s p) × (provider_of s p ≡ None → outstanding s p ≡ None → ⊥)
IsFor s place (happened.Noted n name v i t) = (c : ClientToken) × (place ≡ client_place s c) × (name ≡ unwrap_or (client_name s c) [])
IsFor s place _ = ⊥

abbrev pub AreFor : SessionState → List Handing → Type 0
AreFor s [] = Unit {0}
AreFor s (h ∷ hs) = IsFor s h.place h.what × AreFor s hs

abbrev pub told_by : List Handing → List Happened
told_by [] = []
told_by (h ∷ hs) = h.what ∷ told_by hs

abbrev pub logged : Handing → Logged
logged h = record { what = h.what; after = h.after }

abbrev pub logged_by : List Handing → List Logged
logged_by [] = []
logged_by (h ∷ hs) = logged h ∷ logged_by hs

-- the records of clients with one more at the end of one's
abbrev pub given_at : ℕ → Logged → List (List Logged) → List (List Logged)
given_at i r [] = []
given_at zero r (rs ∷ rss) = (rs ++ r ∷ []) ∷ rss
given_at (suc i) r (rs ∷ rss) = rs ∷ given_at i r rss

abbrev pub given_to : Option ℕ → Logged → List (List Logged) → List (List Logged)
given_to None r rss = rss
given_to (Some i) r rss = given_at i r rss

-- the records of clients after these were handed to them
unfoldable pub after_handings : List Handing → List (List Logged) → List (List Logged)
after_handings hs rss = fold (λ (t : List (List Logged)) (h : Handing). given_to h.place (logged h) t) rss hs

-- these, and no others, were handed to the clients, whatever each stood for at first
abbrev pub Receive : {C : Type 0} → (C → List Handed → Type 0) → List C → List C → List Handing → Type 0
Receive R old new hs = (firsts : List (List Handed)) (rss : List (List Logged)) → WereHandedFrom R firsts old rss → WereHandedFrom R firsts new (after_handings hs rss)
