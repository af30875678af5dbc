-- What calls keep, and what their answers come to.
use Rattle.std.proofs.Common.{◌≡◌, ℕ, suc, ◌-◌, Bool, true, false, List, [], ◌∷◌, length, Option, Some, None, Result, Ok, Err, refl, sym, ap, ◌∙◌, arith, eqb-true}
use Rattle.std.specs.Prelude.{slice_get, not}
use Rattle.std.specs.List.{last_or, list_any}
use Rattle.rsct_packet.specs.Search.{place_where}
use Rattle.rsct_packet.proofs.SearchLaws.{place_nowhere}
use Rattle.subscribe_core.specs.declared.subs.ClientToken.{ClientToken}
use Rattle.client_callbacks.specs.declared.ballot.Filled.{Filled}
use Rattle.session_state.specs.declared.fault.GsFault.{GsFault}
use Rattle.session_state.specs.declared.fault.GsFault.TheVariants as fault
use Rattle.session_state.specs.declared.state.KeptBallot.{KeptBallot}
use Rattle.session_state.specs.declared.state.Provider.{Provider}
use Rattle.session_state.specs.declared.state.Session.{Session}
use Rattle.session_state.specs.declared.state.SessionState.{SessionState}
use Rattle.session_state.specs.State.{is_session, client_place}
use Rattle.session_state.specs.Calls.{Answers, AnswersAlways, SameSessions, is_empty, or_fault, fault_if, unless_fault, no_session_fault, client_fault, end_session, goodbye_taken}
use Rattle.node_state.specs.declared.happened.Happened.{Happened}
use Rattle.node_state.specs.declared.packet.Body.{Body}
use Rattle.node_state.specs.declared.state.Core.{Core}
use Rattle.node_state.specs.State.{recorded, with_sessions, leader_of}
use Rattle.node_state.specs.Sending.{send_on, sent, send_if_known}
use Rattle.node_state.specs.Calls.{refuse_call, changed, ask_last, proposed, cast_last, give_ballot, record_ballot, send_gone, send_all_gone, goodbye_said}
use Rattle.node_groups.specs.Keeps.{Stays}
use Rattle.node_groups.proofs.KeepLaws.{stays_itself, stays_as, record_stays}

-- ---- what is kept

pub recorded_keeps : (s t : Core) (r : Happened) → t ≡ recorded s r → Stays s t
recorded_keeps s t r e = stays_as s (recorded s r) t e (record_stays s r)

pub refused_keeps : (s t : Core) (client : List ℕ) (f : GsFault) → t ≡ refuse_call s client f → Stays s t
unfolding refuse_call
refused_keeps s t client f e = recorded_keeps s t _ e

pub ballot_recorded_keeps : (s t : Core) (k : KeptBallot) (b : Option Filled) → t ≡ record_ballot s k b → Stays s t
unfolding record_ballot
ballot_recorded_keeps s t k None e = rw e (stays_itself s)
ballot_recorded_keeps s t k (Some b) e = recorded_keeps s t _ e

sent_known_keeps : (s : Core) (to : Option ℕ) (b : Body) → Stays s (send_if_known s to b)
unfolding send_if_known sent send_on
sent_known_keeps s None b = stays_itself s
sent_known_keeps s (Some n) b = record { records = omega arith; sessions = (refl, refl); order = λ h. h }

pub gone_keeps : (s t : Core) (x : Provider) → t ≡ send_gone s x → Stays s t
unfolding send_gone
gone_keeps s t x e = rw e (sent_known_keeps s (leader_of s x.group) _)

-- sessions that may differ, of the same clients
pub sessions_keep : (s t : Core) → SameSessions s.sessions t.sessions → t ≡ with_sessions s t.sessions → Stays s t
unfolding with_sessions
sessions_keep s t same rest = stays_as s (with_sessions s t.sessions) t rest (record { records = omega arith; sessions = same; order = λ o. o })

-- ---- the last of a list

last_from : {A : Type 0} (x : A) (xs : List A) → slice_get (x ∷ xs) (length xs) ≡ last_or (Some x) xs
last_from x [] = refl
last_from x (y ∷ ys) = last_from y ys

pub last_there : {A : Type 0} (xs : List A) → slice_get xs (length xs - 1) ≡ last_or None xs
last_there [] = refl
last_there (x ∷ xs) = let e : suc (length xs) - 1 ≡ length xs = omega arith in ap (slice_get (x ∷ xs)) e ∙ last_from x xs

-- ---- answers

pub always_answers : {X S : Type 0} (a : Result X GsFault) (old new : S) (r : Result S GsFault) → AnswersAlways a old new r → Answers a old new r
always_answers (Ok x) old new r h = h
always_answers (Err f) old new r h = (h.0, λ _. h.1)

-- a core whose sessions alone may have changed, and have not
same_core : (s t : Core) → t.sessions ≡ s.sessions → t ≡ with_sessions s t.sessions → t ≡ s
unfolding with_sessions
same_core s t same rest = rest ∙ ap (with_sessions s) same

-- a call that is refused is recorded, whatever a taken one leaves
pub refused_leaves : (s t u : Core) (client : List ℕ) (f : GsFault) (r : Result SessionState GsFault) (leaves : Result SessionState GsFault → Core) → ((g : GsFault) → leaves (Err g) ≡ refuse_call s client g) → t.sessions ≡ s.sessions → (¬ (f ≡ fault.NoMemory) → r ≡ Err f) → t ≡ with_sessions s t.sessions → u ≡ refuse_call t client f → ¬ (f ≡ fault.NoMemory) → u ≡ leaves r
refused_leaves s t u client f r leaves says same answer rest e refusal =
    e ∙ (ap (λ (x : Core). refuse_call x client f) (same_core s t same rest) ∙ (sym (says f) ∙ sym (ap leaves (answer refusal))))

pub changed_leaves : (s t : Core) (client : List ℕ) (r : Result SessionState GsFault) → r ≡ Ok t.sessions → t ≡ with_sessions s t.sessions → t ≡ changed s client r
unfolding changed
changed_leaves s t client r taken rest = rest ∙ sym (ap (changed s client) taken)

pub proposed_leaves : (s t u : Core) (client : List ℕ) (r : Result SessionState GsFault) → r ≡ Ok t.sessions → t ≡ with_sessions s t.sessions → u ≡ ask_last t (last_or None t.sessions.requests) → u ≡ proposed s client r
unfolding proposed
proposed_leaves s t u client r taken rest e = e ∙ (ap (λ (x : Core). ask_last x (last_or None t.sessions.requests)) rest ∙ sym (ap (proposed s client) taken))

pub given_leaves : (s t u : Core) (client : List ℕ) (r : Result SessionState GsFault) → r ≡ Ok t.sessions → t ≡ with_sessions s t.sessions → u ≡ cast_last t (last_or None t.sessions.kept) → u ≡ give_ballot s client r
unfolding give_ballot
given_leaves s t u client r taken rest e = e ∙ (ap (λ (x : Core). cast_last x (last_or None t.sessions.kept)) rest ∙ sym (ap (give_ballot s client) taken))

pub said_leaves : (s t u : Core) (client : List ℕ) (ended : List Provider) (r : Result SessionState GsFault) → r ≡ Ok t.sessions → t ≡ with_sessions s t.sessions → u ≡ send_all_gone t ended → u ≡ goodbye_said s client ended r
unfolding goodbye_said
said_leaves s t u client ended r taken rest e = e ∙ (ap (λ (x : Core). send_all_gone x ended) rest ∙ sym (ap (goodbye_said s client ended) taken))

-- ---- a goodbye that is refused

no_place_by : (any : Bool) (xs : List Session) (t : ClientToken) (done : SessionState) (f : GsFault) → list_any (is_session t) xs ≡ any → unless_fault (fault_if (not any) fault.BadClientToken) done ≡ Err f → place_where (is_session t) xs ≡ None
no_place_by true xs t done f is e = absurd cc
no_place_by false xs t done f is e = place_nowhere (is_session t) xs is

no_session : (xs : List Session) (t : ClientToken) → is_empty xs ≡ true → place_where (is_session t) xs ≡ None
no_session [] t e = refl
no_session (x ∷ xs) t e = let none : length (x ∷ xs) ≡ 0 = eqb-true (length (x ∷ xs)) 0 e in absurd (omega arith)

no_place : (empty : Bool) (xs : List Session) (t : ClientToken) (done : SessionState) (f : GsFault) → is_empty xs ≡ empty → unless_fault (or_fault (fault_if empty fault.NoInit) (fault_if (not (list_any (is_session t) xs)) fault.BadClientToken)) done ≡ Err f → place_where (is_session t) xs ≡ None
no_place true xs t done f is e = no_session xs t is
no_place false xs t done f is e = no_place_by (list_any (is_session t) xs) xs t done f refl e

-- it has no client
pub refused_place : (s : SessionState) (t : ClientToken) (f : GsFault) → goodbye_taken s t ≡ Err f → client_place s t ≡ None
unfolding goodbye_taken client_fault no_session_fault
refused_place s t f e = no_place (is_empty s.sessions) s.sessions t (end_session s t) f refl e
