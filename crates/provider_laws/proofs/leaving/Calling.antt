-- What a call records and makes of the sessions: names differ, and who says goodbye has no session then.
use Rattle.std.proofs.Common.{◌≡◌, ◌⊎◌, ℕ, ◌+◌, List, [], ◌∷◌, ◌++◌, Option, Some, None, Bool, true, false, refl, sym, ap, ◌∙◌, subst, inl, inr, suc}
use Rattle.std.specs.Prelude.{filter, if◌then◌else◌, Result, Ok, Err}
use Rattle.std.specs.Option.{option_map}
use Rattle.std.specs.List.{list_any, last_or}
use Rattle.std.proofs.lemmas.Bool.{eqb-true, eq-eqb}
use Rattle.rsct_packet.specs.declared.ids.ProviderId.{ProviderId}
use Rattle.rsct_packet.specs.Search.{Has, place_where}
use Rattle.rsct_packet.proofs.HasLaws.{has_append, append_has_right}
use Rattle.client_callbacks.specs.declared.ballot.Filled.{Filled}
use Rattle.subscribe_core.specs.declared.subs.ClientToken.{ClientToken}
use Rattle.session_state.specs.declared.fault.GsFault.{GsFault}
use Rattle.session_state.specs.declared.fault.GsFault.TheVariants as fault
use Rattle.session_state.specs.declared.state.KeptBallot.{KeptBallot}
use Rattle.session_state.specs.declared.state.Provider.{Provider}
use Rattle.session_state.specs.declared.state.Request.{Request}
use Rattle.session_state.specs.declared.state.Session.{Session}
use Rattle.session_state.specs.declared.state.SessionState.{SessionState}
use Rattle.session_state.specs.State.{is_session, is_named, is_client_of, client_token}
use Rattle.session_state.specs.Calls.{or_fault, client_fault, unless_fault, init_fault, add_session, inited, join_fault, join_asked, joined, left, expelled, state_changed, message_sent, subscribe_taken, unsubscribe_taken, removed_at, end_session, goodbye_taken}
use Rattle.node_state.specs.declared.call.CallLine.{CallLine}
use Rattle.node_state.specs.declared.call.CallLine.TheVariants as call
use Rattle.node_state.specs.declared.happened.Happened.{Happened}
use Rattle.node_state.specs.declared.happened.Happened.TheVariants as happened
use Rattle.node_state.specs.declared.state.Core.{Core}
use Rattle.node_state.specs.State.{frozen, recorded, with_sessions}
use Rattle.node_state.specs.Sending.{send_request, send_kept}
use Rattle.node_state.specs.Calls.{caller, refuse_call, changed, ask_last, proposed, record_ballot, ballot_sent_if, cast_last, give_ballot, send_all_gone, goodbye_said, take_call}
use Rattle.node_state.proofs.NameOrder.{text_self}
use Rattle.row_laws.proofs.hearing.Changes.{Sends}
use Rattle.row_laws.proofs.hearing.Sessions.{casts_voted, unless_is}
use Rattle.row_laws.proofs.failed_rows.Owners.{Owned, known_session, removed_was}
use Rattle.row_laws.proofs.hearing.Rules.{request_sends, kept_sends, gone_sends}
use Rattle.row_laws.proofs.failed_rows.Joining.{made_asks, changes_asks}
use Rattle.run_safety.proofs.Tests.{has_any}
use Rattle.step_walk.proofs.Kept.{last_has}

-- ---- names differ

abbrev pub Apart : List Session → Type 0
Apart [] = Unit {0}
Apart (x ∷ xs) = ((y : Session) → Has y xs → y.name ≡ x.name → ⊥) × Apart xs

apart_added : (xs : List Session) (x : Session) → ((y : Session) → Has y xs → x.name ≡ y.name → ⊥) → Apart xs → Apart (xs ++ x ∷ [])
apart_added [] x new k = ((λ y i e. i), tt)
apart_added (z ∷ xs) x new k = ((λ y i e. by y (has_append y xs (x ∷ []) i) e), apart_added xs x (λ y i. new y (inr i)) k.1)
  where
    by : (y : Session) → Has y xs ⊎ Has y (x ∷ []) → y.name ≡ z.name → ⊥
    by y (inl i) e = k.0 y i e
    by y (inr (inl q)) e = new z (inl refl) (ap (λ (a : Session). a.name) (sym q) ∙ e)
    by y (inr (inr a)) e = a

apart_removed : (test : Session → Bool) (xs : List Session) → Apart xs → Apart (removed_at (place_where test xs) xs)
apart_removed test [] k = tt
apart_removed test (x ∷ xs) k = by (test x) (apart_removed test xs k.1)
  where
    at : (o : Option ℕ) → ((y : Session) → Has y (removed_at o xs) → Has y xs) → Apart (removed_at o xs) → Apart (removed_at (option_map suc o) (x ∷ xs))
    at None was rest = k
    at (Some n) was rest = ((λ y i. k.0 y (was y i)), rest)

    by : (b : Bool) → Apart (removed_at (place_where test xs) xs) → Apart (removed_at (if b then Some 0 else option_map suc (place_where test xs)) (x ∷ xs))
    by true rest = k.1
    by false rest = at (place_where test xs) (λ y i. removed_was test y xs i) rest

-- the session of a token is taken out, and no other has its name
module _ (t : ClientToken) (name : List ℕ) where
  removed_unnamed : (y0 : Session) (xs : List Session) → ((y z : Session) → Has y xs → Has z xs → y.token.number ≡ z.token.number → y.name ≡ z.name) → Apart xs → Has y0 xs → y0.token.number ≡ t.number → y0.name ≡ name → (z : Session) → Has z (removed_at (place_where (is_session t) xs) xs) → z.name ≡ name → ⊥
  removed_unnamed y0 [] single k there token named z i e = i
  removed_unnamed y0 (x ∷ xs) single k there token named z i e =
      by (is_session t x) refl i (λ j. removed_unnamed y0 xs (λ a b p q. single a b (inr p) (inr q)) k.1 j token named z)
    where
      other : (is_session t x ≡ false) → (x ≡ y0 → ⊥)
      other f q = let a : is_session t x ≡ true = eq-eqb x.token.number t.number (ap (λ (a : Session). a.token.number) q ∙ token) in let b : true ≡ false = sym a ∙ f in cc

      later : is_session t x ≡ false → Has y0 (x ∷ xs) → Has y0 xs
      later f (inl q) = absurd (other f (sym q))
      later f (inr j) = j

      at : (o : Option ℕ) → is_session t x ≡ false → ((Has z (removed_at o xs) → z.name ≡ name → ⊥)) → Has z (removed_at (option_map suc o) (x ∷ xs)) → ⊥
      at None f rest (inl q) = k.0 y0 (later f there) (named ∙ sym e ∙ ap (λ (a : Session). a.name) q)
      at None f rest (inr j) = rest j e
      at (Some n) f rest (inl q) = k.0 y0 (later f there) (named ∙ sym e ∙ ap (λ (a : Session). a.name) q)
      at (Some n) f rest (inr j) = rest j e

      by : (b : Bool) → is_session t x ≡ b → Has z (removed_at (if b then Some 0 else option_map suc (place_where (is_session t) xs)) (x ∷ xs)) → (Has y0 xs → Has z (removed_at (place_where (is_session t) xs) xs) → z.name ≡ name → ⊥) → ⊥
      by true f j rest =
          let token_x : x.token.number ≡ y0.token.number = eqb-true x.token.number t.number f ∙ sym token in
          k.0 z j (e ∙ sym named ∙ sym (single x y0 (inl refl) there token_x))
      by false f j rest = at (place_where (is_session t) xs) f (rest (later f there)) j

-- ---- what a call records

-- nobody starts, stops, hears or is told; and who asks has something outstanding
abbrev pub CallSays : SessionState → Happened → Type 0
CallSays t (happened.Up n j) = ⊥
CallSays t (happened.Down n) = ⊥
CallSays t (happened.Heard p v g i e ms value) = ⊥
CallSays t (happened.Told p r y) = ⊥
CallSays t (happened.Asked p r g x) = (q : Request) × Has q t.requests × (q.provider ≡ p)
CallSays t _ = Unit {0}

pub record Fit (t : Core) : Type 0 where
  pub says : (r : Happened) → Has r t.records → CallSays t.sessions r
  pub apart : Apart t.sessions.sessions

fit_sends : (s t : Core) → Sends s t → Fit s → Fit t
fit_sends s t e k = record { says = λ r i. subst (λ z. CallSays z r) (sym e.sessions) (k.says r (subst (Has r) e.records i)); apart = subst (λ (z : SessionState). Apart z.sessions) (sym e.sessions) k.apart }

fit_recorded : (s : Core) (r : Happened) → CallSays s.sessions r → Fit s → Fit (recorded s r)
unfolding recorded
fit_recorded s r ok k = record { says = λ x i. by x (has_append x s.records (r ∷ []) i); apart = k.apart }
  where
    by : (x : Happened) → Has x s.records ⊎ Has x (r ∷ []) → CallSays s.sessions x
    by x (inl i) = k.says x i
    by x (inr (inl e)) = subst (CallSays s.sessions) (sym e) ok
    by x (inr (inr z)) = absurd z

fit_refused : (s : Core) (client : List ℕ) (f : GsFault) → Fit s → Fit (refuse_call s client f)
unfolding refuse_call
fit_refused s client f k = fit_recorded s (happened.Refused s.views.me client f) tt k

fit_with : (s : Core) (u : SessionState) → s.records ≡ [] → Apart u.sessions → Fit (with_sessions s u)
unfolding with_sessions
fit_with s u none a = record { says = λ r i. absurd (subst (Has r) none i); apart = a }

fit_changed : (s : Core) → s.records ≡ [] → (client : List ℕ) (r : Result SessionState GsFault) → ((u : SessionState) → r ≡ Ok u → Apart u.sessions) → Fit s → Fit (changed s client r)
unfolding changed
fit_changed s none client (Ok u) apart k = fit_with s u none (apart u refl)
fit_changed s none client (Err f) apart k = fit_refused s client f k

fit_proposed : (s : Core) → s.records ≡ [] → (client : List ℕ) (r : Result SessionState GsFault) → ((u : SessionState) → r ≡ Ok u → Apart u.sessions) → Fit s → Fit (proposed s client r)
unfolding proposed ask_last with_sessions
fit_proposed s none client (Ok u) apart k = by (last_or None u.requests) refl
  where
    d : Core
    d = with_sessions s u

    there : (q : Request) → Has q u.requests ⊎ (None ≡ Some q) → Has q u.requests
    there q (inl i) = i
    there q (inr z) = absurd (cc)

    by : (o : Option Request) → last_or None u.requests ≡ o → Fit (ask_last d o)
    by None e = fit_with s u none (apart u refl)
    by (Some q) e =
        let t : Core = recorded d (happened.Asked q.provider q.request q.group q.proposal) in
        fit_sends t (send_request t q) (request_sends t q) (fit_recorded d (happened.Asked q.provider q.request q.group q.proposal) (q, there q (last_has u.requests q None e), refl) (fit_with s u none (apart u refl)))
fit_proposed s none client (Err f) apart k = fit_refused s client f k

fit_given : (s : Core) → s.records ≡ [] → (client : List ℕ) (r : Result SessionState GsFault) → ((u : SessionState) → r ≡ Ok u → Apart u.sessions) → Fit s → Fit (give_ballot s client r)
unfolding give_ballot cast_last record_ballot ballot_sent_if
fit_given s none client (Ok u) apart k = by (last_or None u.kept)
  where
    d : Core
    d = with_sessions s u

    begin : Fit d
    begin = fit_with s u none (apart u refl)

    sent : (t : Core) (b : KeptBallot) (z : Bool) → Fit t → Fit (ballot_sent_if t b z)
    sent t b true a = a
    sent t b false a = fit_sends t (send_kept t b) (kept_sends t b) a

    said : (b : KeptBallot) (o : Option Filled) → Fit (record_ballot d b o)
    said b None = begin
    said b (Some f) = fit_recorded d (happened.Cast b.provider b.proto b.phase f.vote f.value f.message) tt begin

    by : (o : Option KeptBallot) → Fit (cast_last d o)
    by None = begin
    by (Some b) = sent (record_ballot d b b.ballot.filled) b (frozen d) (said b b.ballot.filled)
fit_given s none client (Err f) apart k = fit_refused s client f k

fit_said : (s : Core) → s.records ≡ [] → (client : List ℕ) (xs : List Provider) (r : Result SessionState GsFault) → ((u : SessionState) → r ≡ Ok u → Apart u.sessions) → Fit s → Fit (goodbye_said s client xs r)
unfolding goodbye_said
fit_said s none client xs (Ok u) apart k = fit_sends (with_sessions s u) (send_all_gone (with_sessions s u) xs) (gone_sends (with_sessions s u) xs) (fit_with s u none (apart u refl))
fit_said s none client xs (Err f) apart k = fit_refused s client f k

-- ---- sessions that stay

module _ (s : SessionState) where
  abbrev Same : Result SessionState GsFault → Type 0
  Same r = (u : SessionState) → r ≡ Ok u → u.sessions ≡ s.sessions

  unless_same : (o : Option GsFault) (t : SessionState) → t.sessions ≡ s.sessions → Same (unless_fault o t)
  unless_same o t same u e = ap (λ (z : SessionState). z.sessions) (unless_is o t u e) ∙ same

  same_apart : (r : Result SessionState GsFault) → Apart s.sessions → Same r → (u : SessionState) → r ≡ Ok u → Apart u.sessions
  same_apart r a same u e = subst Apart (sym (same u e)) a

-- ---- the calls

-- a new name is new
new_apart : (s : SessionState) (name : List ℕ) (u : SessionState) → unless_fault (init_fault s name) (add_session s name) ≡ Ok u → Apart s.sessions → Apart u.sessions
unfolding init_fault add_session
new_apart s name u e k = by (list_any (is_named name) s.sessions) refl _ _ e
  where
    new : list_any (is_named name) s.sessions ≡ false → (y : Session) → Has y s.sessions → name ≡ y.name → ⊥
    new none y i q = let a : list_any (is_named name) s.sessions ≡ true = has_any (is_named name) s.sessions y i (ap (λ b. is_named b y) q ∙ text_self y.name) in let b : true ≡ false = sym a ∙ none in cc

    by : (b : Bool) → list_any (is_named name) s.sessions ≡ b → (a c : Option GsFault) → unless_fault (or_fault a (or_fault (if b then Some fault.Exists else None) c)) (add_session s name) ≡ Ok u → Apart u.sessions
    by true f None c q = absurd (cc)
    by true f (Some x) c q = absurd (cc)
    by false f a c q = subst (λ (z : SessionState). Apart z.sessions) (sym (unless_is _ (add_session s name) u q)) (apart_added s.sessions (record { token = record { number = s.last_client + 1 }; name = name }) (new f) k)

pub call_fits : (c : CallLine) (s : Core) → s.records ≡ [] → Fit s → Fit (take_call s c)
unfolding take_call inited joined left expelled state_changed message_sent subscribe_taken unsubscribe_taken goodbye_taken join_asked end_session
call_fits (call.Init node name votes) s none k = fit_changed s none name _ (λ u e. new_apart s.sessions name u e k.apart) k
call_fits (call.Join client g instance attrs) s none k =
    fit_proposed s none client _ (same_apart s.sessions _ k.apart (unless_same s.sessions (join_fault s.sessions (client_token s.sessions client) g attrs) (join_asked s.sessions (client_token s.sessions client) g instance attrs) refl)) k
call_fits (call.Leave client g phases) s none k = fit_proposed s none client _ (same_apart s.sessions _ k.apart (λ u e. (made_asks s.sessions (caller s.sessions client g) phases _ _ u e).sessions)) k
call_fits (call.Expel client g phases out) s none k = fit_proposed s none client _ (same_apart s.sessions _ k.apart (λ u e. (made_asks s.sessions (caller s.sessions client g) phases _ _ u e).sessions)) k
call_fits (call.ChangeState client g phases value) s none k = fit_proposed s none client _ (same_apart s.sessions _ k.apart (λ u e. (made_asks s.sessions (caller s.sessions client g) phases _ _ u e).sessions)) k
call_fits (call.SendMessage client g phases bytes) s none k = fit_proposed s none client _ (same_apart s.sessions _ k.apart (λ u e. (made_asks s.sessions (caller s.sessions client g) phases _ _ u e).sessions)) k
call_fits (call.ChangeAttributes client g phases attrs) s none k = fit_proposed s none client _ (same_apart s.sessions _ k.apart (λ u e. (changes_asks s.sessions (caller s.sessions client g) phases attrs u e).sessions)) k
call_fits (call.Vote client g v value) s none k = fit_given s none client _ (same_apart s.sessions _ k.apart (λ u e. ap (λ (z : SessionState). z.sessions) (casts_voted s.sessions (caller s.sessions client g) v value u e).is)) k
call_fits (call.Subscribe client g) s none k = fit_changed s none client _ (same_apart s.sessions _ k.apart (unless_same s.sessions _ _ refl)) k
call_fits (call.Unsubscribe client g) s none k = fit_changed s none client _ (same_apart s.sessions _ k.apart (unless_same s.sessions _ _ refl)) k
call_fits (call.Goodbye client) s none k =
    fit_said s none client _ _ (λ u e. subst (λ (z : SessionState). Apart z.sessions) (sym (unless_is _ (end_session s.sessions (client_token s.sessions client)) u e)) (apart_removed (is_session (client_token s.sessions client)) s.sessions.sessions k.apart)) k

-- who says goodbye has no session after it, unless the call is refused
pub goodbye_ends : (of : ProviderId → Option (List ℕ)) (s : Core) (client : List ℕ) → Fit s → Owned of s.sessions → ((f : GsFault) × Has (happened.Refused s.views.me client f) (take_call s (call.Goodbye client)).records) ⊎ ((z : Session) → Has z (take_call s (call.Goodbye client)).sessions.sessions → z.name ≡ client → ⊥)
unfolding take_call goodbye_taken end_session goodbye_said refuse_call recorded with_sessions
goodbye_ends of s client k owned = by (client_fault s.sessions t) refl
  where
    t : ClientToken
    t = client_token s.sessions client

    xs : List Provider
    xs = filter (is_client_of t) s.sessions.providers

    Ends : Core → Type 0
    Ends d = ((f : GsFault) × Has (happened.Refused s.views.me client f) d.records) ⊎ ((z : Session) → Has z d.sessions.sessions → z.name ≡ client → ⊥)

    by : (o : Option GsFault) → client_fault s.sessions t ≡ o → Ends (goodbye_said s client xs (unless_fault o (end_session s.sessions t)))
    by (Some f) e = inl (f, append_has_right (happened.Refused s.views.me client f) s.records (happened.Refused s.views.me client f ∷ []) (inl refl))
    by None e =
        let d : Core = record s { sessions = end_session s.sessions t } in
        let y = known_session s.sessions client owned.low e in
        inr (λ z i. removed_unnamed t client y.0 s.sessions.sessions owned.single k.apart y.1 y.2 y.3 z (subst (λ (u : SessionState). Has z u.sessions) (gone_sends d xs).sessions i))
