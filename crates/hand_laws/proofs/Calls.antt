-- Each call keeps that the log of each session has all that its providers heard.
use Rattle.std.proofs.Common.{◌≡◌, ◌⊎◌, inl, inr, ℕ, Bool, true, false, not, List, [], ◌∷◌, ◌++◌, length, Option, Some, None, Result, Ok, Err, refl, sym, ap, subst, ◌∙◌, arith}
use Rattle.std.specs.Prelude.{filter, find, if◌then◌else◌}
use Rattle.std.specs.List.{list_any, last_or}
use Rattle.std.proofs.lemmas.Bool.{ne_eqb}
use Rattle.rsct_packet.specs.declared.ids.ProviderId.{ProviderId}
use Rattle.rsct_packet.specs.Search.{Has, place_where}
use Rattle.rsct_packet.proofs.HasLaws.{has_append}
use Rattle.rsct_packet.proofs.SearchLaws.{place_nowhere}
use Rattle.subscribe_core.specs.declared.subs.ClientToken.{ClientToken}
use Rattle.subscribe_core.specs.Subs.{subs_add, subs_remove}
use Rattle.proposal_core.specs.declared.entry.Vote.{Vote}
use Rattle.client_callbacks.specs.Ballots.{is_within, value_limit}
use Rattle.session_state.specs.declared.fault.Field.TheVariants as field
use Rattle.session_state.specs.declared.fault.GsFault.{GsFault}
use Rattle.session_state.specs.declared.fault.GsFault.TheVariants as fault
use Rattle.session_state.specs.declared.state.KeptBallot.{KeptBallot}
use Rattle.session_state.specs.declared.state.MemberToken.{MemberToken}
use Rattle.session_state.specs.declared.state.OpenPhase.{OpenPhase}
use Rattle.session_state.specs.declared.state.Provider.{Provider}
use Rattle.session_state.specs.declared.state.Request.{Request}
use Rattle.session_state.specs.declared.state.Session.{Session}
use Rattle.session_state.specs.declared.state.SessionState.{SessionState}
use Rattle.session_state.specs.State.{is_session, is_member_of, is_client_of, is_kept_for, client_token, client_place}
use Rattle.session_state.specs.Calls.{or_fault, fault_if, unless_fault, is_empty, no_session_fault, client_fault, init_fault, add_session, inited, join_fault, join_asked, new_provider, joined, left, expelled, state_changed, message_sent, subscribe_taken, unsubscribe_taken, end_session, goodbye_taken, removed_at, if_session, ballot_of, keeps, vote_in, member_votes, voted}
use Rattle.client_callbacks.specs.declared.ballot.Filled.{Filled}
use Rattle.node_state.specs.declared.call.CallLine.{CallLine}
use Rattle.node_state.specs.declared.call.CallLine.TheVariants as call
use Rattle.node_state.specs.declared.happened.Happened.{Happened}
use Rattle.node_state.specs.declared.happened.Happened.TheVariants as happened
use Rattle.node_state.specs.declared.state.Core.{Core}
use Rattle.node_state.specs.Handed.{Logged}
use Rattle.node_state.specs.State.{frozen, recorded, with_sessions}
use Rattle.node_state.specs.Calls.{caller, subscriber, refuse_call, changed, ask_last, proposed, record_ballot, ballot_sent_if, cast_last, give_ballot, goodbye_said, take_call}
use Rattle.node_state.specs.Step.{NodeEvent, Calls}
use Rattle.node_calls.specs.Calling.{clients_with}
use Rattle.run_hands.specs.Hands.{logs_called_by, given_by}
use Rattle.step_refinement.proofs.SessionLaws.{provider_same}
use Rattle.row_laws.proofs.hearing.Rules.{request_sends, kept_sends, gone_sends}
use Rattle.row_laws.proofs.hearing.Sessions.{casts_voted, unless_is}
use Rattle.row_laws.proofs.failed_rows.Joining.{Asks, made_asks, changes_asks}
use Rattle.hearing_laws.specs.Walk.{Hearing}
use Rattle.hand_laws.specs.Hearers.{heard_in}
use Rattle.hand_laws.proofs.Sessions.{HaveAll, have_same, have_begun, have_joined, have_ended}

-- the log of each session has all that its providers heard
abbrev pub HasAll : (ProviderId → List Hearing) → SessionState → List (List Logged) → Type 0
HasAll heard s logs = HaveAll heard_in [] (λ p. refl) heard s logs

-- what a call leaves of the sessions
abbrev taken : SessionState → Result SessionState GsFault → SessionState
taken s (Ok u) = u
taken s (Err f) = s

changed_is : (s : Core) (client : List ℕ) (r : Result SessionState GsFault) → (changed s client r).sessions ≡ taken s.sessions r
unfolding changed refuse_call recorded with_sessions
changed_is s client (Ok u) = refl
changed_is s client (Err f) = refl

proposed_is : (s : Core) (client : List ℕ) (r : Result SessionState GsFault) → (proposed s client r).sessions ≡ taken s.sessions r
unfolding proposed ask_last refuse_call recorded with_sessions
proposed_is s client (Err f) = refl
proposed_is s client (Ok u) = by (last_or None u.requests)
  where
    by : (o : Option Request) → (ask_last (record s { sessions = u }) o).sessions ≡ u
    by None = refl
    by (Some q) = (request_sends (recorded (record s { sessions = u }) (happened.Asked q.provider q.request q.group q.proposal)) q).sessions

given_is : (s : Core) (client : List ℕ) (r : Result SessionState GsFault) → (give_ballot s client r).sessions ≡ taken s.sessions r
unfolding give_ballot cast_last record_ballot ballot_sent_if refuse_call recorded with_sessions
given_is s client (Err f) = refl
given_is s client (Ok u) = by (last_or None u.kept)
  where
    t : Core
    t = record s { sessions = u }

    sent : (d : Core) (b : KeptBallot) (z : Bool) → d.sessions ≡ u → (ballot_sent_if d b z).sessions ≡ u
    sent d b true e = e
    sent d b false e = (kept_sends d b).sessions ∙ e

    said : (b : KeptBallot) (o : Option Filled) → (record_ballot t b o).sessions ≡ u
    said b None = refl
    said b (Some f) = refl

    by : (o : Option KeptBallot) → (cast_last t o).sessions ≡ u
    by None = refl
    by (Some b) = sent (record_ballot t b b.ballot.filled) b (frozen t) (said b b.ballot.filled)

said_is : (s : Core) (client : List ℕ) (xs : List Provider) (r : Result SessionState GsFault) → (goodbye_said s client xs r).sessions ≡ taken s.sessions r
unfolding goodbye_said refuse_call recorded with_sessions
said_is s client xs (Ok u) = (gone_sends (record s { sessions = u }) xs).sessions
said_is s client xs (Err f) = refl

-- a goodbye that is refused is of no session
refused_place : (s : SessionState) (t : ClientToken) (f : GsFault) → client_fault s t ≡ Some f → client_place s t ≡ None
unfolding client_fault no_session_fault
refused_place s t f e = by s.sessions e
  where
    of : (none known : Bool) (xs : List Session) → none ≡ false → list_any (is_session t) xs ≡ known → or_fault (fault_if none fault.NoInit) (fault_if (not known) fault.BadClientToken) ≡ Some f → place_where (is_session t) xs ≡ None
    of true known xs p q z = absurd (cc)
    of false true xs p q z = absurd (cc)
    of false false xs p q z = place_nowhere (is_session t) xs q

    by : (xs : List Session) → or_fault (fault_if (is_empty xs) fault.NoInit) (fault_if (not (list_any (is_session t) xs)) fault.BadClientToken) ≡ Some f → place_where (is_session t) xs ≡ None
    by [] z = refl
    by (x ∷ xs) z = of (is_empty (x ∷ xs)) (list_any (is_session t) (x ∷ xs)) (x ∷ xs) (ne_eqb (length (x ∷ xs)) 0 (λ q. absurd (omega (arith, q)))) refl z

module _ (heard : ProviderId → List Hearing) (s : Core) (owner : (x : Provider) → Has x s.sessions.providers → (y : Session) × Has y s.sessions.sessions × (y.token.number ≡ x.client.number)) (one : (a b : Provider) → Has a s.sessions.providers → Has b s.sessions.providers → a.provider ≡ b.provider → a.client ≡ b.client) (fresh : (instance : ℕ) → heard (new_provider s.sessions instance) ≡ []) (logs : List (List Logged)) (k : HasAll heard s.sessions logs) where
  abbrev All : SessionState → Type 0
  All t = HasAll heard t logs

  abbrev Alike : SessionState → Type 0
  Alike u = (u.sessions ≡ s.sessions.sessions) × (u.providers ≡ s.sessions.providers)

  alike : (u : SessionState) → Alike u → All u
  alike u a = have_same heard_in [] (λ p. refl) heard s.sessions u logs a.0 a.1 k

  when_taken : (r : Result SessionState GsFault) → ((u : SessionState) → r ≡ Ok u → Alike u) → All (taken s.sessions r)
  when_taken (Ok u) a = alike u (a u refl)
  when_taken (Err f) a = k

  asked_alike : (r : Result SessionState GsFault) → ((u : SessionState) → r ≡ Ok u → Asks s.sessions u) → All (taken s.sessions r)
  asked_alike r a = when_taken r (λ u e. ((a u e).sessions, (a u e).providers))

  unless_alike : (o : Option GsFault) (t : SessionState) → Alike t → All (taken s.sessions (unless_fault o t))
  unless_alike o t a = when_taken (unless_fault o t) (λ u e. subst Alike (sym (unless_is o t u e)) a)

  at_call : (r : SessionState) (u : SessionState) → r ≡ u → All u → All r
  at_call r u e a = subst All (sym e) a

  begins : (name : List ℕ) (o : Option GsFault) → HasAll heard (taken s.sessions (unless_fault o (add_session s.sessions name))) (clients_with [] logs (unless_fault o (add_session s.sessions name)))
  begins name None = have_begun heard_in [] (λ p. refl) heard s.sessions name logs owner k
  begins name (Some f) = k

  ends : (t : ClientToken) (o : Option GsFault) → client_fault s.sessions t ≡ o → HasAll heard (taken s.sessions (unless_fault o (end_session s.sessions t))) (removed_at (client_place s.sessions t) logs)
  ends t None e = have_ended heard_in [] (λ p. refl) heard s.sessions t logs one (λ p q z. provider_same p q z) k
  ends t (Some f) e = subst (λ o. HasAll heard s.sessions (removed_at o logs)) (sym (refused_place s.sessions t f e)) k

  pub call_has : (c : CallLine) → HasAll heard (take_call s c).sessions (logs_called_by s c logs)
  unfolding take_call inited joined join_asked left expelled state_changed message_sent subscribe_taken unsubscribe_taken goodbye_taken
  call_has (call.Init node name votes) =
      subst (λ t. HasAll heard t (clients_with [] logs (inited s.sessions name))) (sym (changed_is s name (inited s.sessions name))) (begins name (init_fault s.sessions name))
  call_has (call.Join client g instance attrs) =
      let t : ClientToken = client_token s.sessions client in
      at_call _ _ (proposed_is s client (joined s.sessions t g instance attrs)) (joins t (join_fault s.sessions t g attrs))
    where
      joins : (t : ClientToken) (o : Option GsFault) → All (taken s.sessions (unless_fault o (join_asked s.sessions t g instance attrs)))
      joins t None = have_joined heard_in [] (λ p. refl) heard s.sessions t g instance attrs logs (fresh instance) (λ p q z. provider_same p q z) k
      joins t (Some f) = k
  call_has (call.Leave client g phases) =
      at_call _ _ (proposed_is s client (left s.sessions (caller s.sessions client g) phases)) (asked_alike (left s.sessions (caller s.sessions client g) phases) (λ u e. made_asks s.sessions (caller s.sessions client g) phases _ _ u e))
  call_has (call.Expel client g phases out) =
      at_call _ _ (proposed_is s client (expelled s.sessions (caller s.sessions client g) phases out)) (asked_alike (expelled s.sessions (caller s.sessions client g) phases out) (λ u e. made_asks s.sessions (caller s.sessions client g) phases _ _ u e))
  call_has (call.ChangeState client g phases value) =
      at_call _ _ (proposed_is s client (state_changed s.sessions (caller s.sessions client g) phases value)) (asked_alike (state_changed s.sessions (caller s.sessions client g) phases value) (λ u e. made_asks s.sessions (caller s.sessions client g) phases _ _ u e))
  call_has (call.SendMessage client g phases bytes) =
      at_call _ _ (proposed_is s client (message_sent s.sessions (caller s.sessions client g) phases bytes)) (asked_alike (message_sent s.sessions (caller s.sessions client g) phases bytes) (λ u e. made_asks s.sessions (caller s.sessions client g) phases _ _ u e))
  call_has (call.ChangeAttributes client g phases attrs) =
      at_call _ _ (proposed_is s client _) (asked_alike _ (λ u e. changes_asks s.sessions (caller s.sessions client g) phases attrs u e))
  call_has (call.Vote client g v value) =
      at_call _ _ (given_is s client _) (when_taken _ (λ u e. let z = casts_voted s.sessions (caller s.sessions client g) v value u e in (ap (λ (w : SessionState). w.sessions) z.is, ap (λ (w : SessionState). w.providers) z.is)))
  call_has (call.Subscribe client g) =
      at_call _ _ (changed_is s client _) (unless_alike _ (record (s.sessions) { subs = subs_add (client_token s.sessions client) g s.sessions.subs }) (refl, refl))
  call_has (call.Unsubscribe client g) =
      at_call _ _ (changed_is s client _) (unless_alike _ (record (s.sessions) { subs = subs_remove (subscriber s.sessions client g) s.sessions.subs }) (refl, refl))
  call_has (call.Goodbye client) =
      let t : ClientToken = client_token s.sessions client in
      subst (λ u. HasAll heard u (removed_at (client_place s.sessions t) logs)) (sym (said_is s client (filter (is_client_of t) s.sessions.providers) (goodbye_taken s.sessions t))) (ends t (client_fault s.sessions t) refl)

-- ---- a ballot that a call gives has no message

-- nothing is cast with a message
abbrev pub IsBare : Happened → Type 0
IsBare (happened.Cast p proto phase vote value message) = message ≡ None
IsBare _ = Unit {0}

-- what is kept last has no message
record BareLast (u : SessionState) : Type 0 where
  kept : KeptBallot
  is : last_or None u.kept ≡ Some kept
  bare : (f : Filled) → kept.ballot.filled ≡ Some f → f.message ≡ None

last_kept : (xs : List KeptBallot) (y : KeptBallot) (o : Option KeptBallot) → last_or o (xs ++ y ∷ []) ≡ Some y
last_kept [] y o = refl
last_kept (x ∷ xs) y o = last_kept xs y (Some x)

vote_bare : (s : SessionState) (x : Provider) (v : Vote) (value : Option (List ℕ)) (o : Option OpenPhase) (u : SessionState) → vote_in s x v value o ≡ Ok u → BareLast u
vote_bare s x v value None u e = absurd (cc)
vote_bare s x v value (Some o) u e = at (list_any (is_kept_for x.provider o.proto o.phase) s.kept) e
  where
    f : Filled
    f = record { vote = v; value = value; message = None }

    at : (b : Bool) → unless_fault (fault_if b fault.VoteNotExpected) (keeps s x o f) ≡ Ok u → BareLast u
    at true e = absurd (cc)
    at false e =
        let k : KeptBallot = record { provider = x.provider; group = x.group; proto = o.proto; phase = o.phase; ballot = ballot_of s.level f } in
        subst BareLast (sym (unless_is None (keeps s x o f) u e)) (record { kept = k; is = last_kept s.kept k None; bare = λ g q. let both : Some f ≡ Some g = q in let same : f ≡ g = cc in ap (λ (z : Filled). z.message) (sym same) })

voted_bare : (s : SessionState) (m : MemberToken) (v : Vote) (value : Option (List ℕ)) (u : SessionState) → voted s m v value ≡ Ok u → BareLast u
unfolding voted
voted_bare s m v value u = first (is_empty s.sessions)
  where
    limit : (x : Provider) (b : Bool) → (if b then vote_in s x v value x.opened else Err (fault.BadParameter field.Value)) ≡ Ok u → BareLast u
    limit x true e = vote_bare s x v value x.opened u e
    limit x false e = absurd (cc)

    at : (o : Option Provider) → member_votes s o v value ≡ Ok u → BareLast u
    at None e = absurd (cc)
    at (Some x) e = limit x (is_within (value_limit s.level) value) e

    first : (b : Bool) → if_session b (member_votes s (find (is_member_of m) s.providers) v value) ≡ Ok u → BareLast u
    first true e = absurd (cc)
    first false e = at (find (is_member_of m) s.providers) e

-- what a vote records
given_is_bare : (s : Core) (client : List ℕ) (o : Result SessionState GsFault) → s.records ≡ [] → ((u : SessionState) → o ≡ Ok u → BareLast u) → (r : Happened) → Has r (give_ballot s client o).records → IsBare r
unfolding give_ballot cast_last record_ballot ballot_sent_if refuse_call recorded with_sessions
given_is_bare s client (Err f) none bare r h = by (has_append r s.records (happened.Refused s.views.me client f ∷ []) h)
  where
    by : Has r s.records ⊎ Has r (happened.Refused s.views.me client f ∷ []) → IsBare r
    by (inl i) = absurd (subst (Has r) none i)
    by (inr (inl q)) = subst IsBare (sym q) tt
    by (inr (inr i)) = absurd i
given_is_bare s client (Ok u) none bare r h =
    let k = bare u refl in
    at k.kept k.bare (subst (λ (o : Option KeptBallot). Has r (cast_last t o).records) k.is h)
  where
    t : Core
    t = record s { sessions = u }

    sent : (d : Core) (b : KeptBallot) (z : Bool) → Has r (ballot_sent_if d b z).records → Has r d.records
    sent d b true i = i
    sent d b false i = subst (Has r) (kept_sends d b).records i

    said : (b : KeptBallot) (o : Option Filled) → ((f : Filled) → o ≡ Some f → f.message ≡ None) → Has r (record_ballot t b o).records → IsBare r
    said b None m i = absurd (subst (Has r) none i)
    said b (Some f) m i = by (has_append r s.records (happened.Cast b.provider b.proto b.phase f.vote f.value f.message ∷ []) i)
      where
        by : Has r s.records ⊎ Has r (happened.Cast b.provider b.proto b.phase f.vote f.value f.message ∷ []) → IsBare r
        by (inl j) = absurd (subst (Has r) none j)
        by (inr (inl q)) = subst IsBare (sym q) (m f refl)
        by (inr (inr j)) = absurd j

    at : (b : KeptBallot) → ((f : Filled) → b.ballot.filled ≡ Some f → f.message ≡ None) → Has r (cast_last t (Some b)).records → IsBare r
    at b m i = said b b.ballot.filled m (sent (record_ballot t b b.ballot.filled) b (frozen t) i)

pub given_bare : (s : Core) (ev : NodeEvent) → s.records ≡ [] → (r : Happened) → Has r (given_by s ev) → IsBare r
unfolding take_call
given_bare s (Calls (call.Vote client g v value)) none r h = given_is_bare s client (voted s.sessions (caller s.sessions client g) v value) none (λ u e. voted_bare s.sessions (caller s.sessions client g) v value u e) r h
given_bare s (Calls _) none r h = absurd h
given_bare s _ none r h = absurd h
