-- What a call leaves of the requests of its node: each is there, or its provider has gone; and what is asked is there as it was asked.
use Rattle.std.proofs.Common.{◌≡◌, ◌⊎◌, ◌≤◌, ℕ, ◌+◌, List, [], ◌∷◌, ◌++◌, Option, Some, None, Bool, true, false, refl, sym, ap, ◌∙◌, subst, inl, inr, arith}
use Rattle.std.specs.Prelude.{◌==◌, ◌&&◌, not, filter, find, Result, Ok, Err, if◌then◌else◌}
use Rattle.std.specs.List.{last_or, list_any}
use Rattle.std.proofs.lemmas.Bool.{and_parts}
use Rattle.rsct_packet.specs.declared.ids.ProviderId.{ProviderId}
use Rattle.rsct_packet.specs.Providers.{same_provider}
use Rattle.rsct_packet.specs.Search.{Has}
use Rattle.rsct_packet.proofs.HasLaws.{has_filter, filter_has, append_has_left, append_has_right}
use Rattle.group_attr.specs.declared.attrs.Attrs.{Attrs}
use Rattle.group_attr.specs.declared.attrs.Phases.{Phases}
use Rattle.group_attr.specs.declared.attrs.Phases.TheVariants.{One}
use Rattle.group_attr.specs.Attrs.{first_fault}
use Rattle.proposal_core.specs.declared.entry.Vote.{Vote}
use Rattle.proposal_core.specs.declared.proposal.Proposal.{Proposal}
use Rattle.proposal_core.specs.declared.proposal.Proposal.TheVariants.{Join, Leave, Expel, State, Message, Attributes}
use Rattle.client_callbacks.specs.declared.ballot.Filled.{Filled}
use Rattle.client_callbacks.specs.Ballots.{is_within, value_limit}
use Rattle.subscribe_core.specs.declared.subs.ClientToken.{ClientToken}
use Rattle.subscribe_core.specs.declared.subs.SubToken.{SubToken}
use Rattle.subscribe_core.specs.Subs.{subs_add, subs_remove}
use Rattle.session_state.specs.declared.fault.Field.TheVariants as field
use Rattle.session_state.specs.declared.fault.GsFault.{GsFault}
use Rattle.session_state.specs.declared.fault.GsFault.TheVariants as fault
use Rattle.session_state.specs.declared.state.KeptBallot.{KeptBallot}
use Rattle.session_state.specs.declared.state.MemberToken.{MemberToken}
use Rattle.session_state.specs.declared.state.OpenPhase.{OpenPhase}
use Rattle.session_state.specs.declared.state.Provider.{Provider}
use Rattle.session_state.specs.declared.state.Request.{Request}
use Rattle.session_state.specs.declared.state.SessionState.{SessionState}
use Rattle.session_state.specs.State.{is_member_of, is_client_of, is_kept_for, client_token}
use Rattle.session_state.specs.Calls.{fault_if, unless_fault, if_session, is_empty, init_fault, add_session, inited, new_provider, join_fault, join_asked, joined, asked, ask_fault, attributes_fault, member_asks, request_made, left, targets_fault, expelled, value_fault, state_changed, message_fault, message_sent, member_changes, attributes_changed, keeps, vote_in, member_votes, voted, subscribe_fault, subscribe_taken, unsubscribe_fault, unsubscribe_taken, client_fault, is_owned, end_session, goodbye_taken}
use Rattle.node_state.specs.declared.call.CallLine.{CallLine}
use Rattle.node_state.specs.declared.call.CallLine.TheVariants as call
use Rattle.node_state.specs.declared.happened.Happened.{Happened}
use Rattle.node_state.specs.declared.happened.Happened.TheVariants as happened
use Rattle.node_state.specs.declared.state.Core.{Core}
use Rattle.node_state.specs.State.{frozen, holds, recorded, with_sessions}
use Rattle.node_state.specs.Sending.{send_request}
use Rattle.node_state.specs.Calls.{caller, subscriber, refuse_call, changed, ask_last, proposed, record_ballot, ballot_sent_if, cast_last, give_ballot, send_all_gone, goodbye_said, take_call}
use Rattle.step_refinement.proofs.SessionLaws.{provider_same}
use Rattle.row_laws.proofs.hearing.Changes.{Sends}
use Rattle.row_laws.proofs.hearing.Rules.{request_sends, kept_sends, gone_sends}
use Rattle.row_laws.proofs.failed_rows.Living.{IsLive, last_is}
use Rattle.row_laws.proofs.failed_rows.Owners.{any_has}
use Rattle.request_laws.specs.Requests.{IsOutstanding}

pub record Called (s : SessionState) (t : Core) : Type 0 where
  pub kept : (q : Request) → Has q s.requests → Has q t.sessions.requests ⊎ (IsLive t.sessions q.provider → ⊥)
  pub asked : (p : ProviderId) (r : ℕ) (g : List ℕ) (x : Proposal) → Has (happened.Asked p r g x) t.records → IsOutstanding t.sessions p r g x
  pub last : s.last_request ≤ t.sessions.last_request

-- nothing is asked, and requests are as they were
pub called_same : (s : SessionState) (t : Core) → t.sessions.requests ≡ s.requests → t.sessions.last_request ≡ s.last_request → ((p : ProviderId) (r : ℕ) (g : List ℕ) (x : Proposal) → Has (happened.Asked p r g x) t.records → ⊥) → Called s t
called_same s t e last none =
    record { kept = λ q i. inl (subst (Has q) (sym e) i); asked = λ p r g x i. absurd (none p r g x i); last = omega (arith, last) }

-- ---- what calls make of sessions

-- where a call is taken
abbrev IfOk : (SessionState → Type 0) → Result SessionState GsFault → Type 0
IfOk P (Ok u) = P u
IfOk P (Err f) = Unit {0}

unless_ok : (P : SessionState → Type 0) (o : Option GsFault) (u : SessionState) → P u → IfOk P (unless_fault o u)
unless_ok P None u k = k
unless_ok P (Some f) u k = tt

if_ok : (P : SessionState → Type 0) (b : Bool) (r : Result SessionState GsFault) → IfOk P r → IfOk P (if_session b r)
if_ok P true r k = tt
if_ok P false r k = k

-- a request comes last
record Adds (s u : SessionState) : Type 0 where
  request : Request
  is : u.requests ≡ s.requests ++ request ∷ []
  last : s.last_request ≤ u.last_request

-- requests stay
record Leaves (s u : SessionState) : Type 0 where
  is : u.requests ≡ s.requests
  last : u.last_request ≡ s.last_request

module _ (s : SessionState) where
  asked_adds : (y : Provider) (phases : Phases) (make : ℕ → Proposal) → Adds s (asked s y phases make)
  unfolding asked
  asked_adds y phases make =
      record { request = record { provider = y.provider; request = s.last_request + 1; group = y.group; phases = phases; proposal = make (s.last_request + 1) }; is = refl; last = omega arith }

  join_adds : (t : ClientToken) (g : List ℕ) (instance : ℕ) (attrs : Attrs) → Adds s (join_asked s t g instance attrs)
  unfolding join_asked
  join_adds t g instance attrs =
      record { request = record { provider = new_provider s instance; request = s.last_request + 1; group = g; phases = One; proposal = Join (new_provider s instance ∷ []) attrs None }; is = refl; last = omega arith }

  member_adds : (o : Option Provider) (phases : Phases) (f : Option GsFault) (make : Provider → ℕ → Proposal) → IfOk (Adds s) (member_asks s o phases f make)
  member_adds None phases f make = tt
  member_adds (Some y) phases f make = unless_ok (Adds s) (ask_fault s y f) (asked s y phases (make y)) (asked_adds y phases (make y))

  made_adds : (m : MemberToken) (phases : Phases) (f : Option GsFault) (make : Provider → ℕ → Proposal) → IfOk (Adds s) (request_made s m phases f make)
  unfolding request_made
  made_adds m phases f make =
      if_ok (Adds s) (is_empty s.sessions) (member_asks s (find (is_member_of m) s.providers) phases f make) (member_adds (find (is_member_of m) s.providers) phases f make)

  changes_add : (o : Option Provider) (phases : Phases) (attrs : Attrs) → IfOk (Adds s) (member_changes s o phases attrs)
  changes_add None phases attrs = tt
  changes_add (Some y) phases attrs =
      unless_ok (Adds s) (ask_fault s y (attributes_fault (first_fault attrs y.group))) (asked s y phases (λ r. Attributes y.provider r attrs)) (asked_adds y phases (λ r. Attributes y.provider r attrs))

  attributes_add : (m : MemberToken) (phases : Phases) (attrs : Attrs) → IfOk (Adds s) (attributes_changed s m phases attrs)
  unfolding attributes_changed
  attributes_add m phases attrs =
      if_ok (Adds s) (is_empty s.sessions) (member_changes s (find (is_member_of m) s.providers) phases attrs) (changes_add (find (is_member_of m) s.providers) phases attrs)

  vote_leaves : (y : Provider) (v : Vote) (value : Option (List ℕ)) (o : Option OpenPhase) → IfOk (Leaves s) (vote_in s y v value o)
  vote_leaves y v value None = tt
  vote_leaves y v value (Some o) =
      unless_ok (Leaves s) (fault_if (list_any (is_kept_for y.provider o.proto o.phase) s.kept) fault.VoteNotExpected) (keeps s y o (record { vote = v; value = value; message = None })) (record { is = refl; last = refl })

  within_leaves : (b : Bool) (f : GsFault) (r : Result SessionState GsFault) → IfOk (Leaves s) r → IfOk (Leaves s) (if b then r else Err f)
  within_leaves true f r k = k
  within_leaves false f r k = tt

  votes_leave : (o : Option Provider) (v : Vote) (value : Option (List ℕ)) → IfOk (Leaves s) (member_votes s o v value)
  votes_leave None v value = tt
  votes_leave (Some y) v value = within_leaves (is_within (value_limit s.level) value) (fault.BadParameter field.Value) (vote_in s y v value y.opened) (vote_leaves y v value y.opened)

  voted_leaves : (m : MemberToken) (v : Vote) (value : Option (List ℕ)) → IfOk (Leaves s) (voted s m v value)
  unfolding voted
  voted_leaves m v value =
      if_ok (Leaves s) (is_empty s.sessions) (member_votes s (find (is_member_of m) s.providers) v value) (votes_leave (find (is_member_of m) s.providers) v value)

-- ---- what a call makes of its node

module _ (s : Core) (none : s.records ≡ []) where
  one_has : (x y : Happened) → Has x (y ∷ []) → x ≡ y
  one_has x y (inl e) = e
  one_has x y (inr z) = absurd z

  alone : (r : Happened) → s.records ++ r ∷ [] ≡ r ∷ []
  alone r = ap (λ (rs : List Happened). rs ++ r ∷ []) none

  refused_called : (client : List ℕ) (f : GsFault) → Called s.sessions (refuse_call s client f)
  unfolding refuse_call recorded
  refused_called client f =
      called_same s.sessions (record s { records = s.records ++ happened.Refused s.views.me client f ∷ [] }) refl refl no
    where
      no : (p : ProviderId) (r : ℕ) (g : List ℕ) (x : Proposal) → Has (happened.Asked p r g x) (s.records ++ happened.Refused s.views.me client f ∷ []) → ⊥
      no p r g x i =
          let e : happened.Asked p r g x ≡ happened.Refused s.views.me client f = one_has _ _ (subst (Has (happened.Asked p r g x)) (alone (happened.Refused s.views.me client f)) i) in cc

  changed_called : (client : List ℕ) (r : Result SessionState GsFault) → IfOk (Leaves s.sessions) r → Called s.sessions (changed s client r)
  unfolding changed with_sessions
  changed_called client (Ok u) k =
      called_same s.sessions (record s { sessions = u }) k.is k.last (λ p r g x i. subst (Has (happened.Asked p r g x)) none i)
  changed_called client (Err f) k = refused_called client f

  proposed_called : (client : List ℕ) (r : Result SessionState GsFault) → IfOk (Adds s.sessions) r → Called s.sessions (proposed s client r)
  unfolding proposed ask_last with_sessions recorded
  proposed_called client (Err f) k = refused_called client f
  proposed_called client (Ok u) k =
      subst (λ o. Called s.sessions (ask_last d o)) (sym (ap (last_or None) k.is ∙ last_is s.sessions.requests q None)) (record { kept = λ z i. inl (subst (λ (z0 : SessionState). Has z z0.requests) (sym n.sessions) (there z i)); asked = asked; last = subst (λ (z : SessionState). s.sessions.last_request ≤ z.last_request) (sym n.sessions) k.last })
    where
      q : Request
      q = k.request

      d : Core
      d = record s { sessions = u }

      a : Happened
      a = happened.Asked q.provider q.request q.group q.proposal

      n : Sends (record d { records = s.records ++ a ∷ [] }) (send_request (record d { records = s.records ++ a ∷ [] }) q)
      n = request_sends (record d { records = s.records ++ a ∷ [] }) q

      there : (z : Request) → Has z s.sessions.requests → Has z u.requests
      there z i = subst (Has z) (sym k.is) (append_has_left z s.sessions.requests (q ∷ []) i)

      new : Has q u.requests
      new = subst (Has q) (sym k.is) (append_has_right q s.sessions.requests (q ∷ []) (inl refl))

      asked : (p : ProviderId) (r : ℕ) (g : List ℕ) (x : Proposal) → Has (happened.Asked p r g x) (send_request (record d { records = s.records ++ a ∷ [] }) q).records → IsOutstanding (send_request (record d { records = s.records ++ a ∷ [] }) q).sessions p r g x
      asked p r g x i =
          let e : happened.Asked p r g x ≡ a = one_has _ _ (subst (Has (happened.Asked p r g x)) (n.records ∙ alone a) i) in
          let who : q.provider ≡ p = cc in
          let number : q.request ≡ r = cc in
          let group : q.group ≡ g = cc in
          let is : q.proposal ≡ x = cc in
          record { request = q; there = subst (λ (z : SessionState). Has q z.requests) (sym n.sessions) new; provider = who; number = number; group = group; proposal = is }

  given_called : (client : List ℕ) (r : Result SessionState GsFault) → IfOk (Leaves s.sessions) r → Called s.sessions (give_ballot s client r)
  unfolding give_ballot cast_last record_ballot ballot_sent_if with_sessions recorded
  given_called client (Err f) k = refused_called client f
  given_called client (Ok u) k = by (last_or None u.kept)
    where
      d : Core
      d = record s { sessions = u }

      Fine : Core → Type 0
      Fine t = (t.sessions ≡ u) × ((p : ProviderId) (r : ℕ) (g : List ℕ) (x : Proposal) → Has (happened.Asked p r g x) t.records → ⊥)

      fine_called : (t : Core) → Fine t → Called s.sessions t
      fine_called t z =
          called_same s.sessions t (ap (λ (y : SessionState). y.requests) z.0 ∙ k.is) (ap (λ (y : SessionState). y.last_request) z.0 ∙ k.last) z.1

      filled : (b : KeptBallot) (o : Option Filled) → Fine (record_ballot d b o)
      filled b None = (refl, λ p r g x i. subst (Has (happened.Asked p r g x)) none i)
      filled b (Some f) = (refl, λ p r g x i. not_cast p r g x (one_has _ _ (subst (Has (happened.Asked p r g x)) (alone (happened.Cast b.provider b.proto b.phase f.vote f.value f.message)) i)))
        where
          not_cast : (p : ProviderId) (r : ℕ) (g : List ℕ) (x : Proposal) → happened.Asked p r g x ≡ happened.Cast b.provider b.proto b.phase f.vote f.value f.message → ⊥
          not_cast p r g x e = cc

      sent : (t : Core) (b : KeptBallot) (z : Bool) → Fine t → Fine (ballot_sent_if t b z)
      sent t b true f = f
      sent t b false f = let n = kept_sends t b in (n.sessions ∙ f.0, λ p r g x i. f.1 p r g x (subst (Has (happened.Asked p r g x)) n.records i))

      by : (o : Option KeptBallot) → Called s.sessions (cast_last d o)
      by None = fine_called d (refl, λ p r g x i. subst (Has (happened.Asked p r g x)) none i)
      by (Some b) = fine_called (ballot_sent_if (record_ballot d b b.ballot.filled) b (frozen d)) (sent (record_ballot d b b.ballot.filled) b (frozen d) (filled b b.ballot.filled))

  -- ---- a goodbye takes the requests of the client's providers along

  module _ (owner : (a b : Provider) → Has a s.sessions.providers → Has b s.sessions.providers → a.provider ≡ b.provider → a.client ≡ b.client) where
    ended_kept : (t : ClientToken) (q : Request) → Has q s.sessions.requests → Has q (end_session s.sessions t).requests ⊎ (IsLive (end_session s.sessions t) q.provider → ⊥)
    unfolding end_session
    ended_kept t q i = by (is_owned s.sessions.providers t q.provider) refl
      where
        gone : is_owned s.sessions.providers t q.provider ≡ true → (x : Provider) → Has x (filter (λ (x : Provider). not (is_client_of t x)) s.sessions.providers) → x.provider ≡ q.provider → ⊥
        gone e x j same =
            let a = any_has (λ (y : Provider). is_client_of t y && same_provider y.provider q.provider) s.sessions.providers e in
            let both = and_parts (is_client_of t a.0) (same_provider (a.0).provider q.provider) a.2 in
            let h = has_filter (λ (x : Provider). not (is_client_of t x)) x s.sessions.providers j in
            let c : x.client ≡ (a.0).client = owner x a.0 h.0 a.1 (same ∙ sym (provider_same (a.0).provider q.provider both.1)) in
            let z : not (is_client_of t x) ≡ false = ap (λ (y : ClientToken). not (y.number == t.number)) c ∙ ap not both.0 in
            let y : true ≡ false = sym h.1 ∙ z in cc

        by : (b : Bool) → is_owned s.sessions.providers t q.provider ≡ b → Has q (filter (λ (z : Request). not (is_owned s.sessions.providers t z.provider)) s.sessions.requests) ⊎ (IsLive (end_session s.sessions t) q.provider → ⊥)
        by false e = inl (filter_has (λ (z : Request). not (is_owned s.sessions.providers t z.provider)) q s.sessions.requests i (ap not e))
        by true e = inr (λ k. gone e k.0 k.1 k.2)

    said_called : (client : List ℕ) (t : ClientToken) (ended : List Provider) (o : Option GsFault) → Called s.sessions (goodbye_said s client ended (unless_fault o (end_session s.sessions t)))
    unfolding goodbye_said with_sessions end_session
    said_called client t ended (Some f) = refused_called client f
    said_called client t ended None =
        record {
          kept = λ q i. subst (λ (z : SessionState). Has q z.requests ⊎ (IsLive z q.provider → ⊥)) (sym n.sessions) (ended_kept t q i);
          asked = λ p r g x i. absurd (subst (Has (happened.Asked p r g x)) (n.records ∙ none) i);
          last = subst (λ (z : SessionState). s.sessions.last_request ≤ z.last_request) (sym n.sessions) same;
        }
      where
        d : Core
        d = record s { sessions = end_session s.sessions t }

        n : Sends d (send_all_gone d ended)
        n = gone_sends d ended

        same : s.sessions.last_request ≤ (end_session s.sessions t).last_request
        same = omega arith

    pub call_called : (c : CallLine) → Called s.sessions (take_call s c)
    unfolding take_call inited joined left expelled state_changed message_sent subscribe_taken unsubscribe_taken goodbye_taken add_session
    call_called (call.Init node name votes) =
        changed_called name (inited s.sessions name) (unless_ok (Leaves s.sessions) (init_fault s.sessions name) (add_session s.sessions name) (record { is = refl; last = refl }))
    call_called (call.Join client g instance attrs) =
        proposed_called client (joined s.sessions (client_token s.sessions client) g instance attrs) (unless_ok (Adds s.sessions) (join_fault s.sessions (client_token s.sessions client) g attrs) (join_asked s.sessions (client_token s.sessions client) g instance attrs) (join_adds s.sessions (client_token s.sessions client) g instance attrs))
    call_called (call.Leave client g phases) =
        proposed_called client (left s.sessions (caller s.sessions client g) phases) (made_adds s.sessions (caller s.sessions client g) phases None (λ x r. Leave x.provider r))
    call_called (call.Expel client g phases out) =
        proposed_called client (expelled s.sessions (caller s.sessions client g) phases out) (made_adds s.sessions (caller s.sessions client g) phases (targets_fault out) (λ x r. Expel x.provider r out))
    call_called (call.ChangeState client g phases value) =
        proposed_called client (state_changed s.sessions (caller s.sessions client g) phases value) (made_adds s.sessions (caller s.sessions client g) phases (value_fault s.sessions (Some value)) (λ x r. State x.provider r value))
    call_called (call.SendMessage client g phases bytes) =
        proposed_called client (message_sent s.sessions (caller s.sessions client g) phases bytes) (made_adds s.sessions (caller s.sessions client g) phases (message_fault bytes) (λ x r. Message x.provider r bytes))
    call_called (call.ChangeAttributes client g phases attrs) =
        proposed_called client (attributes_changed s.sessions (caller s.sessions client g) phases attrs) (attributes_add s.sessions (caller s.sessions client g) phases attrs)
    call_called (call.Vote client g vote value) =
        given_called client (voted s.sessions (caller s.sessions client g) vote value) (voted_leaves s.sessions (caller s.sessions client g) vote value)
    call_called (call.Subscribe client g) =
        let t : ClientToken = client_token s.sessions client in
        changed_called client (subscribe_taken s.sessions t g (holds s g)) (unless_ok (Leaves s.sessions) (subscribe_fault s.sessions t g (holds s g)) (record (s.sessions) { subs = subs_add t g s.sessions.subs }) (record { is = refl; last = refl }))
    call_called (call.Unsubscribe client g) =
        let t : ClientToken = client_token s.sessions client in
        let u : SubToken = subscriber s.sessions client g in
        changed_called client (unsubscribe_taken s.sessions t u) (unless_ok (Leaves s.sessions) (unsubscribe_fault s.sessions t u) (record (s.sessions) { subs = subs_remove u s.sessions.subs }) (record { is = refl; last = refl }))
    call_called (call.Goodbye client) =
        said_called client (client_token s.sessions client) _ (client_fault s.sessions (client_token s.sessions client))
