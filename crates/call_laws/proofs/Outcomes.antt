-- What a call leaves: that it was refused, or just what it says; and whose providers there are then.
use Rattle.std.proofs.Common.{◌≡◌, ◌⊎◌, ℕ, ◌+◌, List, [], ◌∷◌, ◌++◌, Option, Some, None, Bool, true, false, refl, sym, ap, ◌∙◌, subst, inl, inr}
use Rattle.std.specs.Prelude.{find, not, if◌then◌else◌, Result, Ok, Err}
use Rattle.std.specs.List.{last_or}
use Rattle.rsct_packet.specs.Search.{Has}
use Rattle.rsct_packet.proofs.HasLaws.{has_append, has_filter, find_has}
use Rattle.group_attr.specs.declared.attrs.Attrs.{Attrs}
use Rattle.group_attr.specs.declared.attrs.Phases.{Phases}
use Rattle.group_attr.specs.declared.attrs.Phases.TheVariants.{One}
use Rattle.proposal_core.specs.declared.entry.Vote.{Vote}
use Rattle.proposal_core.specs.declared.proposal.Proposal.{Proposal}
use Rattle.proposal_core.specs.declared.proposal.Proposal.TheVariants.{Join, Leave, Expel, State, Message, Attributes}
use Rattle.client_callbacks.specs.declared.ballot.Filled.{Filled}
use Rattle.client_callbacks.specs.Ballots.{is_within, value_limit}
use Rattle.subscribe_core.specs.declared.subs.ClientToken.{ClientToken}
use Rattle.session_state.specs.declared.fault.GsFault.{GsFault}
use Rattle.session_state.specs.declared.state.KeptBallot.{KeptBallot}
use Rattle.session_state.specs.declared.state.MemberToken.{MemberToken}
use Rattle.session_state.specs.declared.state.OpenPhase.{OpenPhase}
use Rattle.session_state.specs.declared.state.Provider.{Provider}
use Rattle.session_state.specs.declared.state.Request.{Request}
use Rattle.session_state.specs.declared.state.SessionState.{SessionState}
use Rattle.session_state.specs.State.{is_member_of, is_client_of, client_token}
use Rattle.session_state.specs.Calls.{unless_fault, if_session, is_empty, init_fault, add_session, inited, new_provider, join_fault, join_asked, joined, asked, ask_fault, attributes_fault, member_asks, request_made, left, targets_fault, expelled, value_fault, state_changed, message_fault, message_sent, member_changes, attributes_changed, ballot_of, keeps, vote_in, member_votes, voted, subscribe_taken, unsubscribe_taken, client_fault, end_session, goodbye_taken}
use Rattle.group_attr.specs.Attrs.{first_fault}
use Rattle.node_state.specs.declared.call.CallLine.{CallLine}
use Rattle.node_state.specs.declared.call.CallLine.TheVariants as call
use Rattle.node_state.specs.declared.happened.Happened.{Happened}
use Rattle.node_state.specs.declared.happened.Happened.TheVariants as happened
use Rattle.node_state.specs.declared.state.Core.{Core}
use Rattle.node_state.specs.State.{frozen, recorded, with_sessions}
use Rattle.node_state.specs.Sending.{send_request}
use Rattle.node_state.specs.Calls.{caller, refuse_call, changed, ask_last, proposed, record_ballot, ballot_sent_if, cast_last, give_ballot, send_all_gone, goodbye_said, take_call}
use Rattle.row_laws.proofs.hearing.Changes.{Sends}
use Rattle.row_laws.proofs.hearing.Rules.{request_sends, kept_sends, gone_sends}
use Rattle.row_laws.proofs.failed_rows.Living.{last_is}

-- a new provider of a client
abbrev pub next_of : SessionState → ClientToken → List ℕ → ℕ → Provider
next_of s t g instance = record { provider = new_provider s instance; client = t; group = g; takes_part = false; opened = None }

-- ---- what is recorded

-- a request of a provider that the token names, under the next number
pub record Proposes (s : SessionState) (m : MemberToken) (make : Provider → ℕ → Proposal) (rs : List Happened) : Type 0 where
  pub who : Provider
  pub there : Has who s.providers
  pub named : is_member_of m who ≡ true
  pub is : rs ≡ happened.Asked who.provider (s.last_request + 1) who.group (make who (s.last_request + 1)) ∷ []

-- a ballot of a provider that the token names
pub record Gives (s : SessionState) (m : MemberToken) (vote : Vote) (value : Option (List ℕ)) (rs : List Happened) : Type 0 where
  pub who : Provider
  pub there : Has who s.providers
  pub named : is_member_of m who ≡ true
  pub phase : OpenPhase
  pub is : rs ≡ happened.Cast who.provider phase.proto phase.phase vote value None ∷ []

abbrev pub Leaves : SessionState → CallLine → List Happened → Type 0
Leaves s (call.Join client g instance attrs) rs = rs ≡ happened.Asked (new_provider s instance) (s.last_request + 1) g (Join (new_provider s instance ∷ []) attrs None) ∷ []
Leaves s (call.Leave client g phases) rs = Proposes s (caller s client g) (λ x r. Leave x.provider r) rs
Leaves s (call.Expel client g phases out) rs = Proposes s (caller s client g) (λ x r. Expel x.provider r out) rs
Leaves s (call.ChangeState client g phases value) rs = Proposes s (caller s client g) (λ x r. State x.provider r value) rs
Leaves s (call.SendMessage client g phases bytes) rs = Proposes s (caller s client g) (λ x r. Message x.provider r bytes) rs
Leaves s (call.ChangeAttributes client g phases attrs) rs = Proposes s (caller s client g) (λ x r. Attributes x.provider r attrs) rs
Leaves s (call.Vote client g vote value) rs = Gives s (caller s client g) vote value rs
Leaves s _ rs = rs ≡ []

-- it was refused, and nothing else
abbrev pub Refuses : List Happened → Type 0
Refuses rs = (n : ℕ) × (client : List ℕ) × (f : GsFault) × (rs ≡ happened.Refused n client f ∷ [])

-- ---- whose providers there are

-- who is there was there, but for one new provider, which asked for its join
pub record From (s : SessionState) (new : Provider) (t : Core) : Type 0 where
  pub was : (y : Provider) → Has y t.sessions.providers → Has y s.providers ⊎ ((y ≡ new) × (new.provider.join ≡ s.last_request + 1) × ((x : Proposal) × Has (happened.Asked new.provider new.provider.join new.group x) t.records))

pub from_same : (s : SessionState) (new : Provider) (t : Core) → t.sessions.providers ≡ s.providers → From s new t
from_same s new t e = record { was = λ y i. inl (subst (Has y) e i) }

pub record Outcome (s : SessionState) (new : Provider) (Left : List Happened → Type 0) (t : Core) : Type 0 where
  pub from : From s new t
  pub leaves : Refuses t.records ⊎ Left t.records

module _ (s : Core) (none : s.records ≡ []) (new : Provider) where
  abbrev Comes : (List Happened → Type 0) → Core → Type 0
  Comes L t = Outcome s.sessions new L t

  alone : (r : Happened) → s.records ++ r ∷ [] ≡ r ∷ []
  alone r = ap (λ (rs : List Happened). rs ++ r ∷ []) none

  refused_comes : (L : List Happened → Type 0) (client : List ℕ) (f : GsFault) → Comes L (refuse_call s client f)
  unfolding refuse_call recorded
  refused_comes L client f =
      record { from = from_same s.sessions new (record s { records = s.records ++ happened.Refused s.views.me client f ∷ [] }) refl; leaves = inl (s.views.me, client, f, alone (happened.Refused s.views.me client f)) }

  changed_comes : (client : List ℕ) (o : Option GsFault) (u : SessionState) → u.providers ≡ s.sessions.providers → Comes (λ rs. rs ≡ []) (changed s client (unless_fault o u))
  unfolding changed with_sessions
  changed_comes client None u e = record { from = from_same s.sessions new (record s { sessions = u }) e; leaves = inr none }
  changed_comes client (Some f) u e = refused_comes (λ rs. rs ≡ []) client f

  -- ---- requests

  asks_are : (client : List ℕ) (u : SessionState) (q : Request) → last_or None u.requests ≡ Some q → ((proposed s client (Ok u)).records ≡ happened.Asked q.provider q.request q.group q.proposal ∷ []) × ((proposed s client (Ok u)).sessions ≡ u)
  unfolding proposed ask_last with_sessions recorded
  asks_are client u q e =
      let d : Core = record s { sessions = u } in
      let a : Happened = happened.Asked q.provider q.request q.group q.proposal in
      let n : Sends (recorded d a) (send_request (recorded d a) q) = request_sends (recorded d a) q in
      subst (λ o. ((ask_last d o).records ≡ a ∷ []) × ((ask_last d o).sessions ≡ u)) (sym e) (n.records ∙ alone a, n.sessions)

  module _ (client : List ℕ) (m : MemberToken) (make : Provider → ℕ → Proposal) where
    abbrev Asks : List Happened → Type 0
    Asks rs = Proposes s.sessions m make rs

    refusal : (f : GsFault) → Comes Asks (proposed s client (Err f))
    unfolding proposed
    refusal f = refused_comes Asks client f

    one_comes : (y : Provider) → Has y s.sessions.providers → is_member_of m y ≡ true → (phases : Phases) (o : Option GsFault) → Comes Asks (proposed s client (unless_fault o (asked s.sessions y phases (make y))))
    unfolding asked
    one_comes y there named phases (Some f) = refusal f
    one_comes y there named phases None =
        let q : Request = record { provider = y.provider; request = s.sessions.last_request + 1; group = y.group; phases = phases; proposal = make y (s.sessions.last_request + 1) } in
        let u : SessionState = asked s.sessions y phases (make y) in
        let k = asks_are client u q (last_is s.sessions.requests q None) in
        record { from = from_same s.sessions new (proposed s client (Ok u)) (ap (λ (z : SessionState). z.providers) k.1); leaves = inr (record { who = y; there = there; named = named; is = k.0 }) }

    member_comes : (phases : Phases) (f : Option GsFault) (o : Option Provider) → find (is_member_of m) s.sessions.providers ≡ o → Comes Asks (proposed s client (member_asks s.sessions o phases f make))
    member_comes phases f None e = refusal _
    member_comes phases f (Some y) e =
        let h = find_has (is_member_of m) s.sessions.providers y e in one_comes y h.0 h.1 phases (ask_fault s.sessions y f)

    if_comes : (b : Bool) (r : Result SessionState GsFault) → Comes Asks (proposed s client r) → Comes Asks (proposed s client (if_session b r))
    if_comes true r k = refusal _
    if_comes false r k = k

    made_comes : (phases : Phases) (f : Option GsFault) → Comes Asks (proposed s client (request_made s.sessions m phases f make))
    unfolding request_made
    made_comes phases f =
        if_comes (is_empty s.sessions.sessions) (member_asks s.sessions (find (is_member_of m) s.sessions.providers) phases f make) (member_comes phases f (find (is_member_of m) s.sessions.providers) refl)

  module _ (client : List ℕ) (m : MemberToken) (phases : Phases) (attrs : Attrs) where
    abbrev makes : Provider → ℕ → Proposal
    makes x r = Attributes x.provider r attrs

    changes_comes : (o : Option Provider) → find (is_member_of m) s.sessions.providers ≡ o → Comes (Proposes s.sessions m makes) (proposed s client (member_changes s.sessions o phases attrs))
    changes_comes None e = refusal client m makes _
    changes_comes (Some y) e =
        let h = find_has (is_member_of m) s.sessions.providers y e in one_comes client m makes y h.0 h.1 phases (ask_fault s.sessions y (attributes_fault (first_fault attrs y.group)))

    attributes_comes : Comes (Proposes s.sessions m makes) (proposed s client (attributes_changed s.sessions m phases attrs))
    unfolding attributes_changed
    attributes_comes =
        if_comes client m makes (is_empty s.sessions.sessions) (member_changes s.sessions (find (is_member_of m) s.sessions.providers) phases attrs) (changes_comes (find (is_member_of m) s.sessions.providers) refl)

  -- ---- a vote

  module _ (client : List ℕ) (m : MemberToken) (vote : Vote) (value : Option (List ℕ)) where
    abbrev Ballots : List Happened → Type 0
    Ballots rs = Gives s.sessions m vote value rs

    no_ballot : (f : GsFault) → Comes Ballots (give_ballot s client (Err f))
    unfolding give_ballot
    no_ballot f = refused_comes Ballots client f

    abbrev filled : Filled
    filled = record { vote = vote; value = value; message = None }

    kept_is : (u : SessionState) (k : KeptBallot) → k.ballot.filled ≡ Some filled → last_or None u.kept ≡ Some k → ((give_ballot s client (Ok u)).records ≡ happened.Cast k.provider k.proto k.phase vote value None ∷ []) × ((give_ballot s client (Ok u)).sessions ≡ u)
    unfolding give_ballot with_sessions cast_last record_ballot ballot_sent_if recorded
    kept_is u k full e = subst (λ o. Is (cast_last d o)) (sym e) (sent (record_ballot d k k.ballot.filled) (frozen d) (subst (λ o. Is (record_ballot d k o)) (sym full) (alone c, refl)))
      where
        d : Core
        d = record s { sessions = u }

        c : Happened
        c = happened.Cast k.provider k.proto k.phase vote value None

        Is : Core → Type 0
        Is t = (t.records ≡ c ∷ []) × (t.sessions ≡ u)

        sent : (t : Core) (b : Bool) → Is t → Is (ballot_sent_if t k b)
        sent t true i = i
        sent t false i = let n = kept_sends t k in (n.records ∙ i.0, n.sessions ∙ i.1)

    keeps_comes : (y : Provider) (p : OpenPhase) (o : Option GsFault) → Has y s.sessions.providers → is_member_of m y ≡ true → Comes Ballots (give_ballot s client (unless_fault o (keeps s.sessions y p filled)))
    keeps_comes y p (Some f) there named = no_ballot f
    keeps_comes y p None there named =
        let k : KeptBallot = record { provider = y.provider; group = y.group; proto = p.proto; phase = p.phase; ballot = ballot_of s.sessions.level filled } in
        let u : SessionState = keeps s.sessions y p filled in
        let z = kept_is u k refl (last_is s.sessions.kept k None) in
        record { from = from_same s.sessions new (give_ballot s client (Ok u)) (ap (λ (z : SessionState). z.providers) z.1); leaves = inr (record { who = y; there = there; named = named; phase = p; is = z.0 }) }

    opened_comes : (y : Provider) (p : Option OpenPhase) → Has y s.sessions.providers → is_member_of m y ≡ true → Comes Ballots (give_ballot s client (vote_in s.sessions y vote value p))
    opened_comes y None there named = no_ballot _
    opened_comes y (Some p) there named = keeps_comes y p _ there named

    within_comes : (b : Bool) (f : GsFault) (r : Result SessionState GsFault) → Comes Ballots (give_ballot s client r) → Comes Ballots (give_ballot s client (if b then r else Err f))
    within_comes true f r k = k
    within_comes false f r k = no_ballot f

    member_gives : (o : Option Provider) → find (is_member_of m) s.sessions.providers ≡ o → Comes Ballots (give_ballot s client (member_votes s.sessions o vote value))
    member_gives None e = no_ballot _
    member_gives (Some y) e =
        let h = find_has (is_member_of m) s.sessions.providers y e in
        within_comes (is_within (value_limit s.sessions.level) value) _ (vote_in s.sessions y vote value y.opened) (opened_comes y y.opened h.0 h.1)

    session_gives : (b : Bool) (r : Result SessionState GsFault) → Comes Ballots (give_ballot s client r) → Comes Ballots (give_ballot s client (if_session b r))
    session_gives true r k = no_ballot _
    session_gives false r k = k

    voted_comes : Comes Ballots (give_ballot s client (voted s.sessions m vote value))
    unfolding voted
    voted_comes =
        session_gives (is_empty s.sessions.sessions) (member_votes s.sessions (find (is_member_of m) s.sessions.providers) vote value) (member_gives (find (is_member_of m) s.sessions.providers) refl)

  -- ---- a goodbye

  said_comes : (client : List ℕ) (t : ClientToken) (ended : List Provider) (o : Option GsFault) → Comes (λ rs. rs ≡ []) (goodbye_said s client ended (unless_fault o (end_session s.sessions t)))
  unfolding goodbye_said with_sessions end_session
  said_comes client t ended (Some f) = refused_comes (λ rs. rs ≡ []) client f
  said_comes client t ended None =
      let u : SessionState = end_session s.sessions t in
      let d : Core = record s { sessions = u } in
      let n : Sends d (send_all_gone d ended) = gone_sends d ended in
      record {
        from = record { was = λ y i. inl (has_filter (λ (x : Provider). not (is_client_of t x)) y s.sessions.providers (subst (λ (z : SessionState). Has y z.providers) n.sessions i)).0 };
        leaves = inr (n.records ∙ none);
      }

-- a join
module _ (s : Core) (none : s.records ≡ []) (client g : List ℕ) (instance : ℕ) (attrs : Attrs) where
  abbrev joiner : Provider
  joiner = next_of s.sessions (client_token s.sessions client) g instance

  abbrev Joins : List Happened → Type 0
  Joins rs = Leaves s.sessions (call.Join client g instance attrs) rs

  joined_comes : (o : Option GsFault) → Outcome s.sessions joiner Joins (proposed s client (unless_fault o (join_asked s.sessions (client_token s.sessions client) g instance attrs)))
  unfolding join_asked proposed
  joined_comes (Some f) = refused_comes s none joiner Joins client f
  joined_comes None =
      record {
        from = record { was = λ y i. by y (has_append y s.sessions.providers (joiner ∷ []) (subst (λ (z : SessionState). Has y z.providers) k.1 i)) };
        leaves = inr k.0;
      }
    where
      q : Request
      q = record { provider = joiner.provider; request = s.sessions.last_request + 1; group = g; phases = One; proposal = Join (joiner.provider ∷ []) attrs None }

      u : SessionState
      u = join_asked s.sessions (client_token s.sessions client) g instance attrs

      k : ((proposed s client (Ok u)).records ≡ happened.Asked q.provider q.request q.group q.proposal ∷ []) × ((proposed s client (Ok u)).sessions ≡ u)
      k = asks_are s none joiner client u q (last_is s.sessions.requests q None)

      by : (y : Provider) → Has y s.sessions.providers ⊎ Has y (joiner ∷ []) → Has y s.sessions.providers ⊎ ((y ≡ joiner) × (joiner.provider.join ≡ s.sessions.last_request + 1) × ((x : Proposal) × Has (happened.Asked joiner.provider joiner.provider.join joiner.group x) (proposed s client (Ok u)).records))
      by y (inl i) = inl i
      by y (inr (inl e)) = inr (e, refl, (q.proposal, subst (Has (happened.Asked q.provider q.request q.group q.proposal)) (sym k.0) (inl refl)))
      by y (inr (inr z)) = absurd z

-- who is new by a call
abbrev pub comer : SessionState → CallLine → Provider
comer s (call.Join client g instance attrs) = next_of s (client_token s client) g instance
comer s _ = next_of s (record { number = 0 }) [] 0

pub call_comes : (c : CallLine) (s : Core) → s.records ≡ [] → Outcome s.sessions (comer s.sessions c) (Leaves s.sessions c) (take_call s c)
unfolding take_call inited joined left expelled state_changed message_sent subscribe_taken unsubscribe_taken goodbye_taken add_session
call_comes (call.Init node name votes) s none =
    changed_comes s none (comer s.sessions (call.Init node name votes)) name (init_fault s.sessions name) (add_session s.sessions name) refl
call_comes (call.Join client g instance attrs) s none =
    joined_comes s none client g instance attrs (join_fault s.sessions (client_token s.sessions client) g attrs)
call_comes (call.Leave client g phases) s none =
    made_comes s none (comer s.sessions (call.Leave client g phases)) client (caller s.sessions client g) (λ x r. Leave x.provider r) phases None
call_comes (call.Expel client g phases out) s none =
    made_comes s none (comer s.sessions (call.Expel client g phases out)) client (caller s.sessions client g) (λ x r. Expel x.provider r out) phases (targets_fault out)
call_comes (call.ChangeState client g phases value) s none =
    made_comes s none (comer s.sessions (call.ChangeState client g phases value)) client (caller s.sessions client g) (λ x r. State x.provider r value) phases (value_fault s.sessions (Some value))
call_comes (call.SendMessage client g phases bytes) s none =
    made_comes s none (comer s.sessions (call.SendMessage client g phases bytes)) client (caller s.sessions client g) (λ x r. Message x.provider r bytes) phases (message_fault bytes)
call_comes (call.ChangeAttributes client g phases attrs) s none =
    attributes_comes s none (comer s.sessions (call.ChangeAttributes client g phases attrs)) client (caller s.sessions client g) phases attrs
call_comes (call.Vote client g vote value) s none =
    voted_comes s none (comer s.sessions (call.Vote client g vote value)) client (caller s.sessions client g) vote value
call_comes (call.Subscribe client g) s none =
    changed_comes s none (comer s.sessions (call.Subscribe client g)) client _ _ refl
call_comes (call.Unsubscribe client g) s none =
    changed_comes s none (comer s.sessions (call.Unsubscribe client g)) client _ _ refl
call_comes (call.Goodbye client) s none =
    said_comes s none (comer s.sessions (call.Goodbye client)) client (client_token s.sessions client) _ (client_fault s.sessions (client_token s.sessions client))
