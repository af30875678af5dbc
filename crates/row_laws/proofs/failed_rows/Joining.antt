-- What a call makes of who owns which provider: a join is its caller's, and no other call lets a provider come in.
use Rattle.std.proofs.Common.{◌≡◌, ◌⊎◌, ◌≤◌, ℕ, ◌+◌, List, [], ◌∷◌, ◌++◌, Option, Some, None, Bool, true, false, refl, sym, ap, ◌∙◌, subst, inl, inr, arith}
use Rattle.std.specs.Prelude.{◌==◌, ◌&&◌, ◌||◌, find, filter, reverse, if◌then◌else◌, Result, Ok, Err}
use Rattle.std.specs.List.{list_any, last_or}
use Rattle.std.proofs.lemmas.Bool.{eqb-true, eq-eqb}
use Rattle.rsct_packet.specs.declared.ids.ProviderId.{ProviderId}
use Rattle.rsct_packet.specs.Providers.{same_provider}
use Rattle.rsct_packet.specs.Search.{Has}
use Rattle.rsct_packet.proofs.HasLaws.{has_append}
use Rattle.group_attr.specs.declared.attrs.Attrs.{Attrs}
use Rattle.group_attr.specs.declared.attrs.Phases.{Phases}
use Rattle.group_attr.specs.declared.attrs.Phases.TheVariants.{One}
use Rattle.proposal_core.specs.declared.proposal.Proposal.{Proposal}
use Rattle.proposal_core.specs.declared.proposal.Proposal.TheVariants.{Join, Attributes}
use Rattle.client_callbacks.specs.declared.ballot.Filled.{Filled}
use Rattle.subscribe_core.specs.Subs.{subs_add, subs_remove}
use Rattle.session_state.specs.declared.fault.GsFault.{GsFault}
use Rattle.session_state.specs.declared.state.KeptBallot.{KeptBallot}
use Rattle.session_state.specs.declared.state.MemberToken.{MemberToken}
use Rattle.session_state.specs.declared.state.Provider.{Provider}
use Rattle.session_state.specs.declared.state.Request.{Request}
use Rattle.session_state.specs.declared.state.Session.{Session}
use Rattle.session_state.specs.declared.state.SessionState.{SessionState}
use Rattle.session_state.specs.State.{is_member_of, is_client_of, client_token}
use Rattle.session_state.specs.Calls.{or_fault, client_fault, unless_fault, if_session, is_empty, init_fault, add_session, inited, new_provider, join_fault, join_asked, joined, asked, ask_fault, member_asks, request_made, left, expelled, state_changed, message_sent, member_changes, attributes_changed, keeps, voted, subscribe_taken, unsubscribe_taken, end_session, goodbye_taken}
use Rattle.node_state.specs.declared.call.CallLine.{CallLine}
use Rattle.node_state.specs.declared.call.CallLine.TheVariants as call
use Rattle.node_state.specs.declared.happened.Happened.{Happened}
use Rattle.node_state.specs.declared.happened.Happened.TheVariants as happened
use Rattle.node_state.specs.declared.state.Core.{Core}
use Rattle.node_state.specs.State.{frozen, holds, recorded, with_sessions}
use Rattle.node_state.specs.Sending.{send_request, send_kept}
use Rattle.node_state.specs.Calls.{caller, subscriber, refuse_call, changed, ask_last, proposed, record_ballot, ballot_sent_if, cast_last, give_ballot, send_all_gone, goodbye_said, take_call}
use Rattle.run_safety.specs.Stays.{asks_join, is_join_call}
use Rattle.step_refinement.proofs.SessionLaws.{provider_self}
use Rattle.row_laws.proofs.hearing.Changes.{Sends}
use Rattle.row_laws.proofs.hearing.Rules.{request_sends, kept_sends, gone_sends}
use Rattle.row_laws.proofs.hearing.Sessions.{Casts, casts_voted, unless_is}
use Rattle.row_laws.proofs.failed_rows.Living.{slim_same, last_is, NewAsks, left_lives, expelled_lives, state_lives, message_lives, attributes_lives}
use Rattle.row_laws.proofs.failed_rows.Owners.{Owned, owned_slim, known_session, owned_added, owned_ended}

-- of which client a provider is after a call that recorded so much
abbrev pub client_now : (ProviderId → Option (List ℕ)) → CallLine → List Happened → ProviderId → Option (List ℕ)
client_now of c rs p = if list_any (asks_join p) (reverse rs) then is_join_call c else of p

pub unless_none : (o : Option GsFault) (t u : SessionState) → unless_fault o t ≡ Ok u → o ≡ None
unless_none None t u e = refl
unless_none (Some f) t u e = absurd (cc)

-- the first record
pub first_asks : (p : ProviderId) (rs : List Happened) (r : Happened) (b : Bool) → rs ≡ [] → asks_join p r ≡ b → list_any (asks_join p) (reverse (rs ++ r ∷ [])) ≡ b
first_asks p rs r b none e = ap (λ z. list_any (asks_join p) (reverse (z ++ r ∷ []))) none ∙ ap (λ z. z || false) e ∙ or_false b
  where
    or_false : (b : Bool) → (b || false) ≡ b
    or_false true = refl
    or_false false = refl

-- ---- requests of those who are there

-- one request more, with the next number
pub record Asks (s u : SessionState) : Type 0 where
  pub request : Request
  pub last : last_or None u.requests ≡ Some request
  pub number : request.request ≡ s.last_request + 1
  pub providers : u.providers ≡ s.providers
  pub sessions : u.sessions ≡ s.sessions
  pub clients : u.last_client ≡ s.last_client

pub asked_asks : (s : SessionState) (x : Provider) (phases : Phases) (make : ℕ → Proposal) (o : Option GsFault) (u : SessionState) → unless_fault o (asked s x phases make) ≡ Ok u → Asks s u
unfolding asked
asked_asks s x phases make o u e = subst (Asks s) (sym (unless_is o (asked s x phases make) u e)) (record { request = q; last = last_is s.requests q None; number = refl; providers = refl; sessions = refl; clients = refl })
  where
    q : Request
    q = record { provider = x.provider; request = s.last_request + 1; group = x.group; phases = phases; proposal = make (s.last_request + 1) }

pub if_asks : (s : SessionState) (b : Bool) (r : Result SessionState GsFault) (u : SessionState) → (r ≡ Ok u → Asks s u) → if_session b r ≡ Ok u → Asks s u
if_asks s true r u k e = absurd (cc)
if_asks s false r u k e = k e

pub member_made : (s : SessionState) (o : Option Provider) (phases : Phases) (f : Option GsFault) (make : Provider → ℕ → Proposal) (u : SessionState) → member_asks s o phases f make ≡ Ok u → Asks s u
member_made s None phases f make u e = absurd (cc)
member_made s (Some x) phases f make u e = asked_asks s x phases (make x) (ask_fault s x f) u e

pub member_changed : (s : SessionState) (o : Option Provider) (phases : Phases) (attrs : Attrs) (u : SessionState) → member_changes s o phases attrs ≡ Ok u → Asks s u
member_changed s None phases attrs u e = absurd (cc)
member_changed s (Some x) phases attrs u e = asked_asks s x phases (λ r. Attributes x.provider r attrs) _ u e

pub made_asks : (s : SessionState) (m : MemberToken) (phases : Phases) (f : Option GsFault) (make : Provider → ℕ → Proposal) (u : SessionState) → request_made s m phases f make ≡ Ok u → Asks s u
unfolding request_made
made_asks s m phases f make u = if_asks s (is_empty s.sessions) _ u (member_made s (find (is_member_of m) s.providers) phases f make u)

pub changes_asks : (s : SessionState) (m : MemberToken) (phases : Phases) (attrs : Attrs) (u : SessionState) → attributes_changed s m phases attrs ≡ Ok u → Asks s u
unfolding attributes_changed
changes_asks s m phases attrs u = if_asks s (is_empty s.sessions) _ u (member_changed s (find (is_member_of m) s.providers) phases attrs u)

-- ---- the calls

module _ (of : ProviderId → Option (List ℕ)) (c : CallLine) where
  abbrev Now : Core → Type 0
  Now t = Owned (client_now of c t.records) t.sessions

  quiet_now : (t : Core) → ((x : Provider) → Has x t.sessions.providers → list_any (asks_join x.provider) (reverse t.records) ≡ false) → Owned of t.sessions → Now t
  quiet_now t none k =
      owned_slim of (client_now of c t.records) t.sessions t.sessions (λ x i. ap (λ b. if b then is_join_call c else of x.provider) (none x i)) (slim_same t.sessions t.sessions refl refl refl) k

  sends_now : (s t : Core) → Sends s t → Now s → Now t
  sends_now s t e k = subst (λ (z : SessionState × List Happened). Owned (client_now of c z.1) z.0) (λ i. (sym e.sessions i, sym e.records i)) k

  -- nothing is recorded
  silent_now : (s : Core) (u : SessionState) → s.records ≡ [] → Owned of u → Now (with_sessions s u)
  unfolding with_sessions
  silent_now s u none k = quiet_now (record s { sessions = u }) (λ x i. ap (λ z. list_any (asks_join x.provider) (reverse z)) none) k

  recorded_now : (s : Core) (r : Happened) → s.records ≡ [] → ((x : Provider) → Has x s.sessions.providers → asks_join x.provider r ≡ false) → Owned of s.sessions → Now (recorded s r)
  unfolding recorded
  recorded_now s r none quiet k = quiet_now (record s { records = s.records ++ r ∷ [] }) (λ x i. first_asks x.provider s.records r false none (quiet x i)) k

  refused_now : (s : Core) (client : List ℕ) (f : GsFault) → s.records ≡ [] → Owned of s.sessions → Now (refuse_call s client f)
  unfolding refuse_call
  refused_now s client f none k = recorded_now s (happened.Refused s.views.me client f) none (λ x i. refl) k

  changed_now : (s : Core) (client : List ℕ) (r : Result SessionState GsFault) → s.records ≡ [] → ((u : SessionState) → r ≡ Ok u → Owned of u) → Owned of s.sessions → Now (changed s client r)
  unfolding changed
  changed_now s client (Ok u) none taken k = silent_now s u none (taken u refl)
  changed_now s client (Err f) none taken k = refused_now s client f none k

  asked_now : (s : Core) (client : List ℕ) (r : Result SessionState GsFault) → s.records ≡ [] → ((x : Provider) → Has x s.sessions.providers → x.provider.join ≤ s.sessions.last_request) → ((u : SessionState) → r ≡ Ok u → Asks s.sessions u) → Owned of s.sessions → Now (proposed s client r)
  unfolding proposed ask_last with_sessions
  asked_now s client (Err f) none low asks k = refused_now s client f none k
  asked_now s client (Ok u) none low asks k =
      let d : Core = record s { sessions = u } in
      let a : Happened = happened.Asked q.provider q.request q.group q.proposal in
      subst (λ o. Now (ask_last d o)) (sym j.last) (sends_now (recorded d a) (send_request (recorded d a) q) (request_sends (recorded d a) q) (recorded_now d a none (λ x i. late x (subst (Has x) j.providers i)) (owned_slim of of s.sessions u (λ x i. refl) (slim_same s.sessions u j.providers j.sessions j.clients) k)))
    where
      j : Asks s.sessions u
      j = asks u refl

      q : Request
      q = j.request

      late : (x : Provider) → Has x s.sessions.providers → (same_provider q.provider x.provider && (q.request == x.provider.join)) ≡ false
      late x i = by (same_provider q.provider x.provider) (q.request == x.provider.join) refl
        where
          by : (a b : Bool) → (q.request == x.provider.join) ≡ b → (a && b) ≡ false
          by false b e = refl
          by true false e = refl
          by true true e = absurd (let l = low x i in let n = j.number in let z = eqb-true q.request x.provider.join e in omega (arith, l, n, z))

  cast_now : (s : Core) (o : Option KeptBallot) → s.records ≡ [] → Owned of s.sessions → Now (cast_last s o)
  unfolding cast_last record_ballot ballot_sent_if
  cast_now s None none k = quiet_now s (λ x i. ap (λ z. list_any (asks_join x.provider) (reverse z)) none) k
  cast_now s (Some b) none k = sent (record_ballot s b b.ballot.filled) (frozen s) (kept b.ballot.filled)
    where
      kept : (o : Option Filled) → Now (record_ballot s b o)
      kept None = quiet_now s (λ x i. ap (λ z. list_any (asks_join x.provider) (reverse z)) none) k
      kept (Some f) = recorded_now s (happened.Cast b.provider b.proto b.phase f.vote f.value f.message) none (λ x i. refl) k

      sent : (t : Core) (z : Bool) → Now t → Now (ballot_sent_if t b z)
      sent t true a = a
      sent t false a = sends_now t (send_kept t b) (kept_sends t b) a

  given_now : (s : Core) (client : List ℕ) (r : Result SessionState GsFault) → s.records ≡ [] → ((u : SessionState) → r ≡ Ok u → Casts s.sessions u) → Owned of s.sessions → Now (give_ballot s client r)
  unfolding give_ballot with_sessions
  given_now s client (Err f) none casts k = refused_now s client f none k
  given_now s client (Ok u) none casts k = cast_now (record s { sessions = u }) (last_or None u.kept) none (subst (Owned of) (sym j.is) (owned_slim of of s.sessions (keeps s.sessions j.by j.phase j.ballot) (λ x i. refl) (slim_same s.sessions (keeps s.sessions j.by j.phase j.ballot) refl refl refl) k))
    where
      j : Casts s.sessions u
      j = casts u refl

  said_now : (s : Core) (client : List ℕ) (xs : List Provider) (r : Result SessionState GsFault) → s.records ≡ [] → ((u : SessionState) → r ≡ Ok u → Owned of u) → Owned of s.sessions → Now (goodbye_said s client xs r)
  unfolding goodbye_said
  said_now s client xs (Ok u) none taken k = sends_now (with_sessions s u) (send_all_gone (with_sessions s u) xs) (gone_sends (with_sessions s u) xs) (silent_now s u none (taken u refl))
  said_now s client xs (Err f) none taken k = refused_now s client f none k

-- a join: its provider is of the client that calls
module _ (of : ProviderId → Option (List ℕ)) (s : Core) (client g : List ℕ) (instance : ℕ) (attrs : Attrs) (none : s.records ≡ []) (low : (x : Provider) → Has x s.sessions.providers → x.provider.join ≤ s.sessions.last_request) (k : Owned of s.sessions) where
  abbrev joins : CallLine
  joins = call.Join client g instance attrs

  abbrev new : ProviderId
  new = new_provider s.sessions instance

  abbrev next : Provider
  next = record { provider = new; client = client_token s.sessions client; group = g; takes_part = false; opened = None }

  abbrev request : Request
  request = record { provider = new; request = s.sessions.last_request + 1; group = g; phases = One; proposal = Join (new ∷ []) attrs None }

  abbrev asks : Happened
  asks = happened.Asked new (s.sessions.last_request + 1) g (Join (new ∷ []) attrs None)

  its_own : client_fault s.sessions (client_token s.sessions client) ≡ None → (x : Provider) → Has x s.sessions.providers ⊎ Has x (next ∷ []) → (y : Session) × Has y s.sessions.sessions × (y.token.number ≡ x.client.number) × (client_now of joins (s.records ++ asks ∷ []) x.provider ≡ Some y.name)
  its_own ok x (inl i) = let o = k.owner x i in (o.0, o.1, o.2, ap (λ b. if b then Some client else of x.provider) (first_asks x.provider s.records asks false none (late x i)) ∙ o.3)
    where
      late : (x : Provider) → Has x s.sessions.providers → (same_provider new x.provider && ((s.sessions.last_request + 1) == x.provider.join)) ≡ false
      late x i = by (same_provider new x.provider) ((s.sessions.last_request + 1) == x.provider.join) refl
        where
          by : (a b : Bool) → ((s.sessions.last_request + 1) == x.provider.join) ≡ b → (a && b) ≡ false
          by false b e = refl
          by true false e = refl
          by true true e = absurd (let l = low x i in let z = eqb-true (s.sessions.last_request + 1) x.provider.join e in omega (arith, l, z))
  its_own ok x (inr (inl e)) =
      let y = known_session s.sessions client k.low ok in
      (y.0, y.1, y.2 ∙ ap (λ (z : Provider). z.client.number) (sym e), ap (λ (z : Provider). client_now of joins (s.records ++ asks ∷ []) z.provider) e ∙ ap (λ b. if b then Some client else of new) (first_asks new s.records asks true none now) ∙ ap (λ (z : List ℕ). Some z) (sym y.3))
    where
      now : (same_provider new new && ((s.sessions.last_request + 1) == (s.sessions.last_request + 1))) ≡ true
      now = λ i. provider_self new i && eq-eqb (s.sessions.last_request + 1) (s.sessions.last_request + 1) refl i
  its_own ok x (inr (inr z)) = absurd z

  joined_now : (o : Option GsFault) → (o ≡ None → client_fault s.sessions (client_token s.sessions client) ≡ None) → Owned (client_now of joins (proposed s client (unless_fault o (join_asked s.sessions (client_token s.sessions client) g instance attrs))).records) (proposed s client (unless_fault o (join_asked s.sessions (client_token s.sessions client) g instance attrs))).sessions
  unfolding proposed ask_last with_sessions join_asked recorded
  joined_now (Some f) known = refused_now of joins s client f none k
  joined_now None known =
      let u : SessionState = join_asked s.sessions (client_token s.sessions client) g instance attrs in
      let d : Core = record s { sessions = u } in
      subst (λ o. Now of joins (ask_last d o)) (sym (last_is s.sessions.requests request None)) (sends_now of joins (recorded d asks) (send_request (recorded d asks) request) (request_sends (recorded d asks) request) (record { owner = λ x i. its_own (known refl) x (has_append x s.sessions.providers (next ∷ []) i); low = k.low; high = k.high; single = k.single }))

pub call_now : (of : ProviderId → Option (List ℕ)) (c : CallLine) (s : Core) → s.records ≡ [] → ((x : Provider) → Has x s.sessions.providers → x.provider.join ≤ s.sessions.last_request) → Owned of s.sessions → Owned (client_now of c (take_call s c).records) (take_call s c).sessions
unfolding take_call inited joined join_fault left expelled state_changed message_sent subscribe_taken unsubscribe_taken goodbye_taken
call_now of (call.Init node name votes) s none low k =
    changed_now of (call.Init node name votes) s name _ none (λ u e. subst (Owned of) (sym (unless_is (init_fault s.sessions name) (add_session s.sessions name) u e)) (owned_added of s.sessions name k)) k
call_now of (call.Join client g instance attrs) s none low k = joined_now of s client g instance attrs none low k (join_fault s.sessions (client_token s.sessions client) g attrs) first
  where
    earlier : (a b : Option GsFault) → or_fault a b ≡ None → a ≡ None
    earlier None b e = refl
    earlier (Some f) b e = absurd (cc)

    first : join_fault s.sessions (client_token s.sessions client) g attrs ≡ None → client_fault s.sessions (client_token s.sessions client) ≡ None
    first e = earlier (client_fault s.sessions (client_token s.sessions client)) _ e
call_now of (call.Leave client g phases) s none low k =
    asked_now of (call.Leave client g phases) s client _ none low (made_asks s.sessions (caller s.sessions client g) phases _ _) k
call_now of (call.Expel client g phases out) s none low k =
    asked_now of (call.Expel client g phases out) s client _ none low (made_asks s.sessions (caller s.sessions client g) phases _ _) k
call_now of (call.ChangeState client g phases value) s none low k =
    asked_now of (call.ChangeState client g phases value) s client _ none low (made_asks s.sessions (caller s.sessions client g) phases _ _) k
call_now of (call.SendMessage client g phases bytes) s none low k =
    asked_now of (call.SendMessage client g phases bytes) s client _ none low (made_asks s.sessions (caller s.sessions client g) phases _ _) k
call_now of (call.ChangeAttributes client g phases attrs) s none low k =
    asked_now of (call.ChangeAttributes client g phases attrs) s client _ none low (changes_asks s.sessions (caller s.sessions client g) phases attrs) k
call_now of (call.Vote client g v value) s none low k =
    given_now of (call.Vote client g v value) s client _ none (casts_voted s.sessions (caller s.sessions client g) v value) k
call_now of (call.Subscribe client g) s none low k =
    changed_now of (call.Subscribe client g) s client _ none (λ u e. let t : SessionState = record (s.sessions) { subs = subs_add (client_token s.sessions client) g s.sessions.subs } in subst (Owned of) (sym (unless_is _ t u e)) (owned_slim of of s.sessions t (λ x i. refl) (slim_same s.sessions t refl refl refl) k)) k
call_now of (call.Unsubscribe client g) s none low k =
    changed_now of (call.Unsubscribe client g) s client _ none (λ u e. let t : SessionState = record (s.sessions) { subs = subs_remove (subscriber s.sessions client g) s.sessions.subs } in subst (Owned of) (sym (unless_is _ t u e)) (owned_slim of of s.sessions t (λ x i. refl) (slim_same s.sessions t refl refl refl) k)) k
call_now of (call.Goodbye client) s none low k =
    said_now of (call.Goodbye client) s client _ _ none (λ u e. subst (Owned of) (sym (unless_is _ (end_session s.sessions (client_token s.sessions client)) u e)) (owned_ended of s.sessions (client_token s.sessions client) k)) k

-- ---- a call asks for one thing at most, with the next number

-- what is asked for is all that is recorded, its number is the next one, and its provider is of the node's incarnation
abbrev pub OneAsk : SessionState → List Happened → Type 0
OneAsk s rs =
    (p : ProviderId) (r : ℕ) (g : List ℕ) (x : Proposal) → Has (happened.Asked p r g x) rs → (rs ≡ happened.Asked p r g x ∷ []) × (r ≡ s.last_request + 1) × (p.inc ≡ s.inc)

module _ (s : Core) (none : s.records ≡ []) (own : (x : Provider) → Has x s.sessions.providers → x.provider.inc ≡ s.sessions.inc) where
  abbrev OneOf : List Happened → Type 0
  OneOf rs = OneAsk s.sessions rs

  one_silent : (rs : List Happened) → rs ≡ [] → OneOf rs
  one_silent rs e p r g x i = absurd (subst (Has (happened.Asked p r g x)) e i)

  one_other : (rs : List Happened) (r : Happened) → rs ≡ [] → ((p : ProviderId) (k : ℕ) (g : List ℕ) (x : Proposal) → happened.Asked p k g x ≡ r → ⊥) → OneOf (rs ++ r ∷ [])
  one_other rs r e other p k g x i = absurd (out (subst (λ z. Has (happened.Asked p k g x) (z ++ r ∷ [])) e i))
    where
      out : Has (happened.Asked p k g x) (r ∷ []) → ⊥
      out (inl q) = other p k g x q
      out (inr z) = z

  one_refused : (client : List ℕ) (f : GsFault) → OneOf (refuse_call s client f).records
  unfolding refuse_call recorded
  one_refused client f = one_other s.records (happened.Refused s.views.me client f) none (λ p k g x q. cc)

  one_changed : (client : List ℕ) (r : Result SessionState GsFault) → OneOf (changed s client r).records
  unfolding changed with_sessions
  one_changed client (Ok u) = one_silent s.records none
  one_changed client (Err f) = one_refused client f

  -- a provider that is there asks
  one_asked : (client : List ℕ) (r : Result SessionState GsFault) → ((u : SessionState) → r ≡ Ok u → Asks s.sessions u) → NewAsks r → OneOf (proposed s client r).records
  unfolding proposed ask_last with_sessions recorded
  one_asked client (Err f) asks new = one_refused client f
  one_asked client (Ok u) asks new =
      let d : Core = record s { sessions = u } in
      subst (λ o. OneOf (ask_last d o).records) (sym j.last) (subst OneOf (sym (request_sends (recorded d a) q).records) (subst (λ z. OneOf (z ++ a ∷ [])) (sym none) at))
    where
      j : Asks s.sessions u
      j = asks u refl

      q : Request
      q = j.request

      a : Happened
      a = happened.Asked q.provider q.request q.group q.proposal

      inc : q.provider.inc ≡ s.sessions.inc
      inc = let k = new q j.last in sym (ap (λ (z : ProviderId). z.inc) k.2) ∙ own k.0 (subst (Has k.0) j.providers k.1)

      at : (p : ProviderId) (r : ℕ) (g : List ℕ) (x : Proposal) → Has (happened.Asked p r g x) (a ∷ []) → (a ∷ [] ≡ happened.Asked p r g x ∷ []) × (r ≡ s.sessions.last_request + 1) × (p.inc ≡ s.sessions.inc)
      at p r g x (inl e) =
          let who : p ≡ q.provider = cc in
          let number : r ≡ q.request = cc in
          (ap (λ z. z ∷ []) (sym e), number ∙ j.number, ap (λ (z : ProviderId). z.inc) who ∙ inc)
      at p r g x (inr z) = absurd z

  one_cast : (c : Core) (o : Option KeptBallot) → c.records ≡ [] → OneOf (cast_last c o).records
  unfolding cast_last record_ballot ballot_sent_if recorded
  one_cast c None e = one_silent c.records e
  one_cast c (Some b) e = sent (record_ballot c b b.ballot.filled) (frozen c) (kept b.ballot.filled)
    where
      kept : (o : Option Filled) → OneOf (record_ballot c b o).records
      kept None = one_silent c.records e
      kept (Some f) = one_other c.records (happened.Cast b.provider b.proto b.phase f.vote f.value f.message) e (λ p k g x q. cc)

      sent : (t : Core) (z : Bool) → OneOf t.records → OneOf (ballot_sent_if t b z).records
      sent t true k = k
      sent t false k = subst OneOf (sym (kept_sends t b).records) k

  one_given : (client : List ℕ) (r : Result SessionState GsFault) → OneOf (give_ballot s client r).records
  unfolding give_ballot with_sessions
  one_given client (Ok u) = one_cast (record s { sessions = u }) (last_or None u.kept) none
  one_given client (Err f) = one_refused client f

  one_said : (client : List ℕ) (xs : List Provider) (r : Result SessionState GsFault) → OneOf (goodbye_said s client xs r).records
  unfolding goodbye_said with_sessions
  one_said client xs (Ok u) = subst OneOf (sym (gone_sends (record s { sessions = u }) xs).records) (one_silent s.records none)
  one_said client xs (Err f) = one_refused client f

  -- a join
  one_joined : (client g : List ℕ) (instance : ℕ) (attrs : Attrs) (o : Option GsFault) → OneOf (proposed s client (unless_fault o (join_asked s.sessions (client_token s.sessions client) g instance attrs))).records
  unfolding proposed ask_last with_sessions join_asked recorded
  one_joined client g instance attrs (Some f) = one_refused client f
  one_joined client g instance attrs None =
      subst (λ o. OneOf (ask_last d o).records) (sym (last_is s.sessions.requests request None)) (subst OneOf (sym (request_sends (recorded d a) request).records) one)
    where
      new : ProviderId
      new = new_provider s.sessions instance

      request : Request
      request = record { provider = new; request = s.sessions.last_request + 1; group = g; phases = One; proposal = Join (new ∷ []) attrs None }

      d : Core
      d = record s { sessions = join_asked s.sessions (client_token s.sessions client) g instance attrs }

      a : Happened
      a = happened.Asked new (s.sessions.last_request + 1) g (Join (new ∷ []) attrs None)

      at : (p : ProviderId) (r : ℕ) (k : List ℕ) (x : Proposal) → Has (happened.Asked p r k x) (a ∷ []) → (a ∷ [] ≡ happened.Asked p r k x ∷ []) × (r ≡ s.sessions.last_request + 1) × (p.inc ≡ s.sessions.inc)
      at p r k x (inl e) =
          let who : p ≡ new = cc in
          let number : r ≡ s.sessions.last_request + 1 = cc in
          (ap (λ z. z ∷ []) (sym e), number, ap (λ (z : ProviderId). z.inc) who)
      at p r k x (inr z) = absurd z

      one : OneOf (s.records ++ a ∷ [])
      one = subst (λ z. OneOf (z ++ a ∷ [])) (sym none) at

pub left_asks : (s : SessionState) (m : MemberToken) (phases : Phases) (u : SessionState) → left s m phases ≡ Ok u → Asks s u
unfolding left
left_asks s m phases = made_asks s m phases _ _

pub expelled_asks : (s : SessionState) (m : MemberToken) (phases : Phases) (out : List ProviderId) (u : SessionState) → expelled s m phases out ≡ Ok u → Asks s u
unfolding expelled
expelled_asks s m phases out = made_asks s m phases _ _

pub state_asks : (s : SessionState) (m : MemberToken) (phases : Phases) (value : List ℕ) (u : SessionState) → state_changed s m phases value ≡ Ok u → Asks s u
unfolding state_changed
state_asks s m phases value = made_asks s m phases _ _

pub message_asks : (s : SessionState) (m : MemberToken) (phases : Phases) (bytes : List ℕ) (u : SessionState) → message_sent s m phases bytes ≡ Ok u → Asks s u
unfolding message_sent
message_asks s m phases bytes = made_asks s m phases _ _

pub one_call : (c : CallLine) (s : Core) → s.records ≡ [] → ((x : Provider) → Has x s.sessions.providers → x.provider.inc ≡ s.sessions.inc) → OneAsk s.sessions (take_call s c).records
unfolding take_call joined
one_call (call.Init node name votes) s none own = one_changed s none own name (inited s.sessions name)
one_call (call.Join client g instance attrs) s none own = one_joined s none own client g instance attrs (join_fault s.sessions (client_token s.sessions client) g attrs)
one_call (call.Leave client g phases) s none own = one_asked s none own client (left s.sessions (caller s.sessions client g) phases) (left_asks s.sessions (caller s.sessions client g) phases) (left_lives s.sessions (caller s.sessions client g) phases).1
one_call (call.Expel client g phases out) s none own = one_asked s none own client (expelled s.sessions (caller s.sessions client g) phases out) (expelled_asks s.sessions (caller s.sessions client g) phases out) (expelled_lives s.sessions (caller s.sessions client g) phases out).1
one_call (call.ChangeState client g phases value) s none own = one_asked s none own client (state_changed s.sessions (caller s.sessions client g) phases value) (state_asks s.sessions (caller s.sessions client g) phases value) (state_lives s.sessions (caller s.sessions client g) phases value).1
one_call (call.SendMessage client g phases bytes) s none own = one_asked s none own client (message_sent s.sessions (caller s.sessions client g) phases bytes) (message_asks s.sessions (caller s.sessions client g) phases bytes) (message_lives s.sessions (caller s.sessions client g) phases bytes).1
one_call (call.ChangeAttributes client g phases attrs) s none own = one_asked s none own client (attributes_changed s.sessions (caller s.sessions client g) phases attrs) (changes_asks s.sessions (caller s.sessions client g) phases attrs) (attributes_lives s.sessions (caller s.sessions client g) phases attrs).1
one_call (call.Vote client g v value) s none own = one_given s none own client (voted s.sessions (caller s.sessions client g) v value)
one_call (call.Subscribe client g) s none own = one_changed s none own client (subscribe_taken s.sessions (client_token s.sessions client) g (holds s g))
one_call (call.Unsubscribe client g) s none own = one_changed s none own client (unsubscribe_taken s.sessions (client_token s.sessions client) (subscriber s.sessions client g))
one_call (call.Goodbye client) s none own = one_said s none own client (filter (is_client_of (client_token s.sessions client)) s.sessions.providers) (goodbye_taken s.sessions (client_token s.sessions client))
