-- What a call asks for: its request is outstanding then, in as many phases as it said, and is the one that is sent.
use Rattle.std.proofs.Common.{◌≡◌, ◌⊎◌, ℕ, List, [], ◌∷◌, ◌++◌, Option, Some, None, Bool, true, false, refl, sym, ap, ◌∙◌, subst, inl, inr}
use Rattle.std.specs.Prelude.{filter, find, fold, not, if◌then◌else◌, Result, Ok, Err}
use Rattle.std.specs.List.{last_or}
use Rattle.rsct_packet.specs.Search.{Has}
use Rattle.rsct_packet.proofs.HasLaws.{has_append, append_has_right, has_filter}
use Rattle.group_attr.specs.declared.attrs.Attrs.{Attrs}
use Rattle.group_attr.specs.declared.attrs.Phases.{Phases}
use Rattle.group_attr.specs.Attrs.{first_fault}
use Rattle.proposal_core.specs.declared.entry.Vote.{Vote}
use Rattle.proposal_core.specs.declared.proposal.Proposal.{Proposal}
use Rattle.proposal_core.specs.declared.proposal.Proposal.TheVariants.{Leave, Expel, State, Message, Attributes}
use Rattle.proposal_core.specs.Fold.{joins_of}
use Rattle.client_callbacks.specs.declared.ballot.Filled.{Filled}
use Rattle.client_callbacks.specs.Ballots.{is_within, value_limit}
use Rattle.subscribe_core.specs.declared.subs.ClientToken.{ClientToken}
use Rattle.session_state.specs.declared.fault.GsFault.{GsFault}
use Rattle.session_state.specs.declared.fault.GsFault.TheVariants as fault
use Rattle.session_state.specs.declared.fault.Field.TheVariants as field
use Rattle.session_state.specs.declared.state.KeptBallot.{KeptBallot}
use Rattle.session_state.specs.declared.state.MemberToken.{MemberToken}
use Rattle.session_state.specs.declared.state.OpenPhase.{OpenPhase}
use Rattle.session_state.specs.declared.state.Provider.{Provider}
use Rattle.session_state.specs.declared.state.Request.{Request}
use Rattle.session_state.specs.declared.state.SessionState.{SessionState}
use Rattle.session_state.specs.State.{client_token, is_client_of, is_member_of}
use Rattle.session_state.specs.Calls.{is_empty, unless_fault, if_session, is_owned, add_session, init_fault, inited, join_fault, join_asked, joined, asked, ask_fault, member_asks, request_made, left, targets_fault, expelled, value_fault, state_changed, message_fault, message_sent, attributes_fault, member_changes, attributes_changed, keeps, vote_in, member_votes, voted, subscribe_fault, subscribe_taken, unsubscribe_fault, unsubscribe_taken, client_fault, end_session, goodbye_taken}
use Rattle.node_state.specs.declared.call.CallLine.{CallLine}
use Rattle.node_state.specs.declared.call.CallLine.TheVariants as call
use Rattle.node_state.specs.declared.happened.Happened.{Happened}
use Rattle.node_state.specs.declared.happened.Happened.TheVariants as happened
use Rattle.node_state.specs.declared.packet.Body.{Body}
use Rattle.node_state.specs.declared.packet.Body.TheVariants as body
use Rattle.node_state.specs.declared.packet.Packet.{Packet}
use Rattle.node_state.specs.declared.state.Core.{Core}
use Rattle.node_state.specs.State.{frozen, leader_of, holds, recorded, with_sessions}
use Rattle.node_state.specs.Sending.{packet_on, send_on, sent, send_if_known, send_request_to, send_request, vote_of, send_kept_to, send_kept}
use Rattle.node_state.specs.Calls.{caller, subscriber, refuse_call, changed, ask_last, proposed, record_ballot, ballot_sent_if, cast_last, give_ballot, send_gone, send_all_gone, goodbye_said, take_call}
use Rattle.row_laws.proofs.hearing.Changes.{Sends}
use Rattle.row_laws.proofs.hearing.Rules.{request_sends, kept_sends, gone_sends}
use Rattle.row_laws.proofs.failed_rows.Living.{last_is}
use Rattle.begin_laws.specs.Begins.{AsksIn}
use Rattle.begin_laws.proofs.Requests.{asked_by, Carries}

-- the call asks for it, in as many phases as it says, and that is recorded
abbrev pub New : CallLine → List Happened → Request → Type 0
New d rs q = (joins_of q.proposal ≡ [] → AsksIn d q.phases) × Has (happened.Asked q.provider q.request q.group q.proposal) rs

-- what a call leaves: requests that were there, or are new; and what it sends of these is one of them
pub record Leaves (s : Core) (d : CallLine) (t : Core) : Type 0 where
  pub requests : (q : Request) → Has q t.sessions.requests → Has q s.sessions.requests ⊎ New d t.records q
  pub sends : (p : Packet) → Has p t.sends → Carries t.sessions p.body

-- no request was sent
abbrev Quiet : Core → Type 0
Quiet t = (p : Packet) → Has p t.sends → asked_by p.body ≡ None

some_none : (o : Option Request) (q : Request) → o ≡ None → o ≡ Some q → ⊥
some_none o q a b = let z : None ≡ Some q = sym a ∙ b in cc

quiet_carries : (t : Core) → Quiet t → (p : Packet) → Has p t.sends → Carries t.sessions p.body
quiet_carries t quiet p i q is = absurd (some_none (asked_by p.body) q (quiet p i) is)

-- ---- what is sent

pushed_quiet : (t : Core) (network to : ℕ) (b : Body) → asked_by b ≡ None → Quiet t → Quiet (send_on t network to b)
unfolding send_on packet_on
pushed_quiet t network to b none k p i = by (has_append p t.sends _ i)
  where
    by : Has p t.sends ⊎ Has p (packet_on t network to b ∷ []) → asked_by p.body ≡ None
    by (inl j) = k p j
    by (inr (inl e)) = ap (λ (z : Packet). asked_by z.body) e ∙ none
    by (inr (inr z)) = absurd z

known_quiet : (t : Core) (o : Option ℕ) (b : Body) → asked_by b ≡ None → Quiet t → Quiet (send_if_known t o b)
unfolding send_if_known sent
known_quiet t None b none k = k
known_quiet t (Some n) b none k = pushed_quiet t _ n b none k

kept_quiet : (t : Core) (x : KeptBallot) → Quiet t → Quiet (send_kept t x)
unfolding send_kept send_kept_to vote_of
kept_quiet t x k = by x.ballot.filled
  where
    by : (o : Option Filled) → Quiet (send_kept_to t x (leader_of t x.group) o)
    by None = k
    by (Some b) = known_quiet t (leader_of t x.group) _ refl k

gone_quiet : (xs : List Provider) (t : Core) → Quiet t → Quiet (fold send_gone t xs)
unfolding send_gone
gone_quiet [] t k = k
gone_quiet (x ∷ xs) t k = gone_quiet xs (send_gone t x) (known_quiet t (leader_of t x.group) (body.Gone t.views.view x.group x.provider) refl k)

-- a request that is outstanding is sent, or its leader is looked up
asked_sent : (t : Core) (q : Request) → Quiet t → Has q t.sessions.requests → (p : Packet) → Has p (send_request t q).sends → Carries t.sessions p.body
unfolding send_request send_request_to sent send_on packet_on
asked_sent t q quiet there p = by (frozen t) (leader_of t q.group)
  where
    one : (network to : ℕ) (b : Body) → Carries t.sessions b → Has p t.sends ⊎ Has p (packet_on t network to b ∷ []) → Carries t.sessions p.body
    one network to b carries (inl i) = quiet_carries t quiet p i
    one network to b carries (inr (inl e)) = λ x is. carries x (ap (λ (z : Packet). asked_by z.body) (sym e) ∙ is)
    one network to b carries (inr (inr z)) = absurd z

    own : Carries t.sessions (body.Request t.views.view q.group q.provider q.request q.phases q.proposal)
    own x is = subst (λ z. Has z t.sessions.requests) (same q x is) there
      where
        same : (a b : Request) → Some a ≡ Some b → a ≡ b
        same a b e = cc

    by : (c : Bool) (o : Option ℕ) → Has p (elim c as (λ _. Core) [ true ↦ t | false ↦ send_request_to t q o ]).sends → Carries t.sessions p.body
    by true o i = quiet_carries t quiet p i
    by false None i = one _ t.views.view.coord (body.Lookup t.views.view q.group) (λ x is. absurd (some_none None x refl is)) (has_append p t.sends _ i)
    by false (Some n) i = one _ n (body.Request t.views.view q.group q.provider q.request q.phases q.proposal) own (has_append p t.sends _ i)

module _ (s : Core) (none : s.sends ≡ []) (d : CallLine) where
  bare : (p : Packet) → Has p s.sends → asked_by p.body ≡ None
  bare p i = absurd (subst (Has p) none i)

  fewer : (t : Core) → ((q : Request) → Has q t.sessions.requests → Has q s.sessions.requests) → Quiet t → Leaves s d t
  fewer t less quiet = record { requests = λ q i. inl (less q i); sends = quiet_carries t quiet }

  refused_leaves : (client : List ℕ) (f : GsFault) → Leaves s d (refuse_call s client f)
  unfolding refuse_call recorded
  refused_leaves client f = fewer (refuse_call s client f) (λ q i. i) bare

  changed_leaves : (client : List ℕ) (o : Option GsFault) (u : SessionState) → u.requests ≡ s.sessions.requests → Leaves s d (changed s client (unless_fault o u))
  unfolding changed with_sessions
  changed_leaves client None u same = fewer (record s { sessions = u }) (λ q i. subst (Has q) same i) bare
  changed_leaves client (Some f) u same = refused_leaves client f

  -- ---- requests

  asks_leave : (client : List ℕ) (u : SessionState) (q : Request) → u.requests ≡ s.sessions.requests ++ q ∷ [] → (joins_of q.proposal ≡ [] → AsksIn d q.phases) → Leaves s d (proposed s client (Ok u))
  unfolding proposed ask_last with_sessions recorded
  asks_leave client u q more asks = subst (λ o. Leaves s d (ask_last b o)) (sym last) now
    where
      b : Core
      b = record s { sessions = u }

      a : Happened
      a = happened.Asked q.provider q.request q.group q.proposal

      last : last_or None u.requests ≡ Some q
      last = ap (last_or None) more ∙ last_is s.sessions.requests q None

      c : Core
      c = recorded b a

      n : Sends c (send_request c q)
      n = request_sends c q

      there : Has q u.requests
      there = subst (Has q) (sym more) (append_has_right q s.sessions.requests (q ∷ []) (inl refl))

      noted : Has a (send_request c q).records
      noted = subst (Has a) (sym n.records) (append_has_right a s.records (a ∷ []) (inl refl))

      new : (x : Request) → Has x s.sessions.requests ⊎ Has x (q ∷ []) → Has x s.sessions.requests ⊎ New d (send_request c q).records x
      new x (inl i) = inl i
      new x (inr (inl e)) = inr (subst (New d (send_request c q).records) (sym e) (asks, noted))
      new x (inr (inr z)) = absurd z

      now : Leaves s d (send_request c q)
      now =
          record {
            requests = λ x i. new x (has_append x s.sessions.requests (q ∷ []) (subst (Has x) more (subst (λ (z : SessionState). Has x z.requests) n.sessions i)));
            sends = λ p i. subst (λ z. Carries z p.body) (sym n.sessions) (asked_sent c q bare there p i);
          }

  proposes : (client : List ℕ) (o : Option GsFault) (u : SessionState) (q : Request) → u.requests ≡ s.sessions.requests ++ q ∷ [] → (joins_of q.proposal ≡ [] → AsksIn d q.phases) → Leaves s d (proposed s client (unless_fault o u))
  unfolding proposed
  proposes client (Some f) u q more asks = refused_leaves client f
  proposes client None u q more asks = asks_leave client u q more asks

  if_leaves : (client : List ℕ) (b : Bool) (r : Result SessionState GsFault) → Leaves s d (proposed s client r) → Leaves s d (proposed s client (if_session b r))
  unfolding proposed
  if_leaves client true r k = refused_leaves client _
  if_leaves client false r k = k

  module _ (client : List ℕ) (m : MemberToken) (phases : Phases) (says : AsksIn d phases) where
    made_leaves : (f : Option GsFault) (make : Provider → ℕ → Proposal) → Leaves s d (proposed s client (request_made s.sessions m phases f make))
    unfolding request_made asked proposed
    made_leaves f make = if_leaves client (is_empty s.sessions.sessions) (member_asks s.sessions (find (is_member_of m) s.sessions.providers) phases f make) (by (find (is_member_of m) s.sessions.providers))
      where
        by : (o : Option Provider) → Leaves s d (proposed s client (member_asks s.sessions o phases f make))
        by None = refused_leaves client _
        by (Some y) = proposes client (ask_fault s.sessions y f) (asked s.sessions y phases (make y)) _ refl (λ z. says)

    attributes_leave : (attrs : Attrs) → Leaves s d (proposed s client (attributes_changed s.sessions m phases attrs))
    unfolding attributes_changed asked proposed
    attributes_leave attrs = if_leaves client (is_empty s.sessions.sessions) (member_changes s.sessions (find (is_member_of m) s.sessions.providers) phases attrs) (by (find (is_member_of m) s.sessions.providers))
      where
        by : (o : Option Provider) → Leaves s d (proposed s client (member_changes s.sessions o phases attrs))
        by None = refused_leaves client _
        by (Some y) = proposes client (ask_fault s.sessions y (attributes_fault (first_fault attrs y.group))) (asked s.sessions y phases (λ r. Attributes y.provider r attrs)) _ refl (λ z. says)

  -- ---- a vote

  ballot_leaves : (client : List ℕ) (u : SessionState) → u.requests ≡ s.sessions.requests → Leaves s d (give_ballot s client (Ok u))
  unfolding give_ballot with_sessions cast_last ballot_sent_if record_ballot recorded
  ballot_leaves client u same = by (last_or None u.kept)
    where
      b : Core
      b = record s { sessions = u }

      less : (t : Core) → t.sessions ≡ u → Quiet t → Leaves s d t
      less t is quiet = fewer t (λ q i. subst (Has q) same (subst (λ (z : SessionState). Has q z.requests) is i)) quiet

      noted : (x : KeptBallot) (o : Option Filled) → ((record_ballot b x o).sessions ≡ u) × ((record_ballot b x o).sends ≡ s.sends)
      noted x None = (refl, refl)
      noted x (Some f) = (refl, refl)

      sent_if : (x : KeptBallot) (t : Core) (c : Bool) → t.sessions ≡ u → t.sends ≡ s.sends → Leaves s d (ballot_sent_if t x c)
      sent_if x t true is sends = less t is (λ p i. bare p (subst (Has p) sends i))
      sent_if x t false is sends = less (send_kept t x) ((kept_sends t x).sessions ∙ is) (kept_quiet t x (λ p i. bare p (subst (Has p) sends i)))

      by : (o : Option KeptBallot) → Leaves s d (cast_last b o)
      by None = less b refl bare
      by (Some x) = let k = noted x x.ballot.filled in sent_if x (record_ballot b x x.ballot.filled) (frozen b) k.0 k.1

  no_ballot : (client : List ℕ) (f : GsFault) → Leaves s d (give_ballot s client (Err f))
  unfolding give_ballot
  no_ballot client f = refused_leaves client f

  voted_leaves : (client : List ℕ) (m : MemberToken) (vote : Vote) (value : Option (List ℕ)) → Leaves s d (give_ballot s client (voted s.sessions m vote value))
  unfolding voted
  voted_leaves client m vote value = session (is_empty s.sessions.sessions)
    where
      kept : (y : Provider) (p : OpenPhase) (o : Option GsFault) → Leaves s d (give_ballot s client (unless_fault o (keeps s.sessions y p (record { vote = vote; value = value; message = None }))))
      kept y p (Some f) = no_ballot client f
      kept y p None = ballot_leaves client (keeps s.sessions y p (record { vote = vote; value = value; message = None })) refl

      opened : (y : Provider) (o : Option OpenPhase) → Leaves s d (give_ballot s client (vote_in s.sessions y vote value o))
      opened y None = no_ballot client _
      opened y (Some p) = kept y p _

      within : (y : Provider) (b : Bool) → Leaves s d (give_ballot s client (if b then vote_in s.sessions y vote value y.opened else Err (fault.BadParameter field.Value)))
      within y true = opened y y.opened
      within y false = no_ballot client _

      provider : (o : Option Provider) → Leaves s d (give_ballot s client (member_votes s.sessions o vote value))
      provider None = no_ballot client _
      provider (Some y) = within y (is_within (value_limit s.sessions.level) value)

      session : (b : Bool) → Leaves s d (give_ballot s client (if_session b (member_votes s.sessions (find (is_member_of m) s.sessions.providers) vote value)))
      session true = no_ballot client _
      session false = provider (find (is_member_of m) s.sessions.providers)

  -- ---- a goodbye

  said_leaves : (client : List ℕ) (t : ClientToken) (ended : List Provider) (o : Option GsFault) → Leaves s d (goodbye_said s client ended (unless_fault o (end_session s.sessions t)))
  unfolding goodbye_said with_sessions end_session send_all_gone
  said_leaves client t ended (Some f) = refused_leaves client f
  said_leaves client t ended None = fewer (send_all_gone b ended) less quiet
    where
      b : Core
      b = record s { sessions = end_session s.sessions t }

      less : (q : Request) → Has q (send_all_gone b ended).sessions.requests → Has q s.sessions.requests
      less q i = (has_filter (λ (q : Request). not (is_owned s.sessions.providers t q.provider)) q s.sessions.requests (subst (λ (z : SessionState). Has q z.requests) (gone_sends b ended).sessions i)).0

      sent : (c : Bool) → Quiet (elim c as (λ _. Core) [ true ↦ b | false ↦ fold send_gone b ended ])
      sent true = bare
      sent false = gone_quiet ended b bare

      quiet : Quiet (send_all_gone b ended)
      quiet = sent (frozen b)

pub call_leaves : (d : CallLine) (s : Core) → s.sends ≡ [] → Leaves s d (take_call s d)
unfolding take_call inited add_session joined join_asked left expelled state_changed message_sent subscribe_taken unsubscribe_taken goodbye_taken
call_leaves (call.Init node name votes) s none =
    changed_leaves s none (call.Init node name votes) name (init_fault s.sessions name) (add_session s.sessions name) refl
call_leaves (call.Join client g instance attrs) s none =
    proposes s none (call.Join client g instance attrs) client (join_fault s.sessions (client_token s.sessions client) g attrs) (join_asked s.sessions (client_token s.sessions client) g instance attrs) _ refl (λ z. absurd (cc))
call_leaves (call.Leave client g phases) s none =
    made_leaves s none (call.Leave client g phases) client (caller s.sessions client g) phases refl None (λ x r. Leave x.provider r)
call_leaves (call.Expel client g phases out) s none =
    made_leaves s none (call.Expel client g phases out) client (caller s.sessions client g) phases refl (targets_fault out) (λ x r. Expel x.provider r out)
call_leaves (call.ChangeState client g phases value) s none =
    made_leaves s none (call.ChangeState client g phases value) client (caller s.sessions client g) phases refl (value_fault s.sessions (Some value)) (λ x r. State x.provider r value)
call_leaves (call.SendMessage client g phases bytes) s none =
    made_leaves s none (call.SendMessage client g phases bytes) client (caller s.sessions client g) phases refl (message_fault bytes) (λ x r. Message x.provider r bytes)
call_leaves (call.ChangeAttributes client g phases attrs) s none =
    attributes_leave s none (call.ChangeAttributes client g phases attrs) client (caller s.sessions client g) phases refl attrs
call_leaves (call.Vote client g vote value) s none =
    voted_leaves s none (call.Vote client g vote value) client (caller s.sessions client g) vote value
call_leaves (call.Subscribe client g) s none =
    changed_leaves s none (call.Subscribe client g) client (subscribe_fault s.sessions (client_token s.sessions client) g (holds s g)) _ refl
call_leaves (call.Unsubscribe client g) s none =
    changed_leaves s none (call.Unsubscribe client g) client (unsubscribe_fault s.sessions (client_token s.sessions client) (subscriber s.sessions client g)) _ refl
call_leaves (call.Goodbye client) s none =
    said_leaves s none (call.Goodbye client) client (client_token s.sessions client) (filter (is_client_of (client_token s.sessions client)) s.sessions.providers) (client_fault s.sessions (client_token s.sessions client))
