-- What a call makes of providers and requests: who is there stays, but for a goodbye; and whose join is asked for waits.
use Rattle.std.proofs.Common.{◌≡◌, ◌⊎◌, ◌≤◌, ℕ, ◌+◌, List, [], ◌∷◌, ◌++◌, Option, Some, None, Bool, true, false, refl, sym, ap, ◌∙◌, subst, inl, inr, ⊎_elim, arith}
use Rattle.std.specs.Prelude.{not, find, if◌then◌else◌, Result, Ok, Err}
use Rattle.std.specs.List.{last_or}
use Rattle.rsct_packet.specs.declared.ids.ProviderId.{ProviderId}
use Rattle.rsct_packet.specs.Providers.{among}
use Rattle.rsct_packet.specs.Search.{Has}
use Rattle.rsct_packet.proofs.HasLaws.{has_append, has_filter, append_has_right, find_has}
use Rattle.group_attr.specs.declared.attrs.Attrs.{Attrs}
use Rattle.group_attr.specs.declared.attrs.Phases.{Phases}
use Rattle.group_attr.specs.declared.attrs.Phases.TheVariants.{One}
use Rattle.proposal_core.specs.declared.proposal.Proposal.{Proposal}
use Rattle.proposal_core.specs.declared.proposal.Proposal.TheVariants.{Join, Attributes}
use Rattle.proposal_core.specs.Fold.{joins_of}
use Rattle.client_callbacks.specs.declared.ballot.Filled.{Filled}
use Rattle.subscribe_core.specs.declared.subs.ClientToken.{ClientToken}
use Rattle.session_state.specs.declared.fault.GsFault.{GsFault}
use Rattle.session_state.specs.declared.state.KeptBallot.{KeptBallot}
use Rattle.session_state.specs.declared.state.MemberToken.{MemberToken}
use Rattle.session_state.specs.declared.state.Provider.{Provider}
use Rattle.session_state.specs.declared.state.Request.{Request}
use Rattle.session_state.specs.declared.state.SessionState.{SessionState}
use Rattle.session_state.specs.State.{provider_of, is_provider, is_member_of, is_client_of, client_token}
use Rattle.session_state.specs.Calls.{unless_fault, if_session, is_empty, new_provider, add_session, inited, join_fault, join_asked, joined, asked, ask_fault, member_asks, request_made, left, expelled, state_changed, message_sent, member_changes, attributes_changed, subscribe_taken, unsubscribe_taken, end_session, goodbye_taken}
use Rattle.session_state.specs.HandOn.{is_join}
use Rattle.node_state.specs.declared.call.CallLine.{CallLine}
use Rattle.node_state.specs.declared.call.CallLine.TheVariants as call
use Rattle.node_state.specs.declared.happened.Happened.{Happened}
use Rattle.node_state.specs.declared.happened.Happened.TheVariants as happened
use Rattle.node_state.specs.declared.state.Core.{Core}
use Rattle.node_state.specs.State.{frozen, recorded, with_sessions}
use Rattle.node_state.specs.Sending.{send_request, send_kept}
use Rattle.node_state.specs.Calls.{caller, refuse_call, changed, ask_last, proposed, record_ballot, ballot_sent_if, cast_last, give_ballot, send_all_gone, goodbye_said, take_call}
use Rattle.step_refinement.proofs.SessionLaws.{provider_self, provider_same}
use Rattle.row_laws.proofs.hearing.Changes.{Sends}
use Rattle.row_laws.proofs.hearing.Rules.{OneOwner, request_sends, kept_sends, gone_sends}
use Rattle.row_laws.proofs.hearing.Sessions.{Casts, casts_voted, unless_is, fewer_ended}
use Rattle.run_laws.specs.gapless.Takers.{Stood, AskedJoin}
use Rattle.run_laws.proofs.gapless.Standing.{JoinWaits}
use Rattle.row_laws.proofs.failed_rows.Living.{last_is}
use Rattle.provider_laws.proofs.attending.Staying.{found_joined}
use Rattle.run_laws.proofs.gapless.Forward.{find_kept}
use Rattle.std.proofs.lemmas.List.Folds.{find-append}
use Rattle.std.specs.Option.{option_or}

-- what a call records
abbrev pub CallRecord : SessionState → Happened → Type 0
CallRecord t (happened.Asked p r g x) = (y : Provider) × Has y t.providers × (y.provider ≡ p)
CallRecord t (happened.Cast p proto phase vote value message) = Unit {0}
CallRecord t (happened.Refused n c fault) = Unit {0}
CallRecord t _ = ⊥

-- the provider was its caller's, and the caller said goodbye
abbrev pub Leaves : CallLine → Core → Core → Provider → Type 0
Leaves c s t x = (client : List ℕ) × (c ≡ call.Goodbye client) × (is_client_of (client_token s.sessions client) x ≡ true) × (t.records ≡ [])

pub record Made (c : CallLine) (s t : Core) : Type 0 where
  pub groups : t.groups ≡ s.groups
  pub views : t.views ≡ s.views
  pub records : (r : Happened) → Has r t.records → CallRecord t.sessions r
  pub found : (p : ProviderId) (x : Provider) → provider_of s.sessions p ≡ Some x → (provider_of t.sessions p ≡ Some x) ⊎ Leaves c s t x
  pub asks : (g : List ℕ) (p : ProviderId) → AskedJoin g p t.records → Stood t.sessions p g false
  pub joins : JoinWaits s.sessions → JoinWaits t.sessions

-- ---- what is sent changes nothing

made_sends : (c : CallLine) (s t u : Core) → Sends t u → Made c s t → Made c s u
made_sends c s t u e k =
    record {
      groups = e.groups ∙ k.groups;
      views = e.views ∙ k.views;
      records = λ r i. subst (λ z. CallRecord z r) (sym e.sessions) (k.records r (subst (Has r) e.records i));
      found = λ p x q. ⊎_elim (λ (a : provider_of t.sessions p ≡ Some x). inl (ap (λ z. provider_of z p) e.sessions ∙ a)) (λ (a : Leaves c s t x). inr (a.0, a.1, a.2, e.records ∙ a.3)) (k.found p x q);
      asks = λ g p a. subst (λ z. Stood z p g false) (sym e.sessions) (k.asks g p (subst (AskedJoin g p) e.records a));
      joins = λ j. subst JoinWaits (sym e.sessions) (k.joins j);
    }

-- ---- a call that adds no provider, and no join

-- the providers stay, and each join that is outstanding was
pub record Plain (s u : SessionState) : Type 0 where
  pub providers : u.providers ≡ s.providers
  pub joins : (q : Request) → Has q u.requests → is_join q.proposal ≡ true → Has q s.requests

module _ (c : CallLine) (s : Core) (none : s.records ≡ []) where
  plain_found : (u : SessionState) → Plain s.sessions u → (p : ProviderId) (x : Provider) → provider_of s.sessions p ≡ Some x → provider_of u p ≡ Some x
  unfolding provider_of
  plain_found u k p x q = ap (λ (z : List Provider). find (is_provider p) z) k.providers ∙ q

  plain_joins : (u : SessionState) → Plain s.sessions u → JoinWaits s.sessions → JoinWaits u
  unfolding provider_of
  plain_joins u k j q i e =
      let a = j q (k.joins q i e) e in (a.0, λ y f. a.1 y (ap (λ (z : List Provider). find (is_provider q.provider) z) (sym k.providers) ∙ f))

  -- where nothing is recorded of joins
  plain : (u : SessionState) (rs : List Happened) → Plain s.sessions u → ((r : Happened) → Has r rs → CallRecord u r) → ((g : List ℕ) (p : ProviderId) → AskedJoin g p rs → ⊥) → Made c s (record s { sessions = u; records = rs })
  plain u rs k said un =
      record { groups = refl; views = refl; records = said; found = λ p x q. inl (plain_found u k p x q); asks = λ g p a. absurd (un g p a); joins = plain_joins u k }

  bare : (u : SessionState) → Plain s.sessions u → Made c s (with_sessions s u)
  unfolding with_sessions
  bare u k = plain u s.records k (λ r i. absurd (subst (Has r) none i)) (λ g p a. absurd (subst (Has (happened.Asked p p.join g a.proposal)) none a.there))

  one_of : (r x : Happened) → Has x (s.records ++ r ∷ []) → x ≡ r
  one_of r x i = by (subst (λ z. Has x (z ++ r ∷ [])) none i)
    where
      by : Has x (r ∷ []) → x ≡ r
      by (inl e) = e
      by (inr z) = absurd z

  refused_made : (client : List ℕ) (f : GsFault) → Made c s (refuse_call s client f)
  unfolding refuse_call recorded
  refused_made client f =
      plain s.sessions (s.records ++ happened.Refused s.views.me client f ∷ []) (record { providers = refl; joins = λ q i e. i }) (λ r i. subst (CallRecord s.sessions) (sym (one_of (happened.Refused s.views.me client f) r i)) tt) (λ g p a. let z = one_of (happened.Refused s.views.me client f) (happened.Asked p p.join g a.proposal) a.there in cc)

  changed_made : (client : List ℕ) (r : Result SessionState GsFault) → ((u : SessionState) → r ≡ Ok u → Plain s.sessions u) → Made c s (changed s client r)
  unfolding changed
  changed_made client (Ok u) k = bare u (k u refl)
  changed_made client (Err f) k = refused_made client f

  -- another request than a join
  pub record Asks (u : SessionState) : Type 0 where
    pub request : Request
    pub last : last_or None u.requests ≡ Some request
    pub own : (y : Provider) × Has y s.sessions.providers × (y.provider ≡ request.provider)
    pub other : (p : ProviderId) → among (joins_of request.proposal) p ≡ false
    pub plain_it : Plain s.sessions u

  proposed_made : (client : List ℕ) (r : Result SessionState GsFault) → ((u : SessionState) → r ≡ Ok u → Asks u) → Made c s (proposed s client r)
  unfolding proposed ask_last with_sessions recorded
  proposed_made client (Err f) k = refused_made client f
  proposed_made client (Ok u) k =
      let d : Core = record s { sessions = u } in
      let a : Happened = happened.Asked q.provider q.request q.group q.proposal in
      let t : Core = record d { records = s.records ++ a ∷ [] } in
      subst (λ o. Made c s (ask_last d o)) (sym j.last) (made_sends c s t (send_request t q) (request_sends t q) (plain u (s.records ++ a ∷ []) j.plain_it (λ r i. subst (CallRecord u) (sym (one_of a r i)) (j.own.0, subst (Has j.own.0) (sym j.plain_it.providers) j.own.1, j.own.2)) (λ g p b. no_join p b.proposal (same (one_of a (happened.Asked p p.join g b.proposal) b.there)) b.joins)))
    where
      j : Asks u
      j = k u refl

      q : Request
      q = j.request

      same : {p : ProviderId} {g : List ℕ} {y : Proposal} → happened.Asked p p.join g y ≡ happened.Asked q.provider q.request q.group q.proposal → y ≡ q.proposal
      same e = cc

      no_join : (p : ProviderId) (y : Proposal) → y ≡ q.proposal → among (joins_of y) p ≡ true → ⊥
      no_join p y e i = let z : true ≡ false = sym i ∙ ap (λ x. among (joins_of x) p) e ∙ j.other p in cc

  asked_asks : (x : Provider) (phases : Phases) (make : ℕ → Proposal) (o : Option GsFault) (u : SessionState) → Has x s.sessions.providers → ((r : ℕ) → (joins_of (make r) ≡ []) × (is_join (make r) ≡ false)) → unless_fault o (asked s.sessions x phases make) ≡ Ok u → Asks u
  unfolding asked
  asked_asks x phases make o u has other e = subst Asks (sym (unless_is o (asked s.sessions x phases make) u e)) (record { request = q; last = last_is s.sessions.requests q None; own = (x, has, refl); other = λ p. ap (λ z. among z p) (other (s.sessions.last_request + 1)).0; plain_it = record { providers = refl; joins = joins } })
    where
      q : Request
      q = record { provider = x.provider; request = s.sessions.last_request + 1; group = x.group; phases = phases; proposal = make (s.sessions.last_request + 1) }

      joins : (z : Request) → Has z (s.sessions.requests ++ q ∷ []) → is_join z.proposal ≡ true → Has z s.sessions.requests
      joins z i j = by (has_append z s.sessions.requests (q ∷ []) i)
        where
          by : Has z s.sessions.requests ⊎ Has z (q ∷ []) → Has z s.sessions.requests
          by (inl h) = h
          by (inr (inl k)) = absurd (let a : is_join z.proposal ≡ false = ap (λ (y : Request). is_join y.proposal) k ∙ (other (s.sessions.last_request + 1)).1 in let b : true ≡ false = sym j ∙ a in cc)
          by (inr (inr k)) = absurd k

  if_asks : (b : Bool) (r : Result SessionState GsFault) (u : SessionState) → (r ≡ Ok u → Asks u) → if_session b r ≡ Ok u → Asks u
  if_asks true r u k e = absurd (cc)
  if_asks false r u k e = k e

  made_asks : (m : MemberToken) (phases : Phases) (f : Option GsFault) (make : Provider → ℕ → Proposal) → ((x : Provider) (r : ℕ) → (joins_of (make x r) ≡ []) × (is_join (make x r) ≡ false)) → (u : SessionState) → request_made s.sessions m phases f make ≡ Ok u → Asks u
  unfolding request_made
  made_asks m phases f make other u = if_asks (is_empty s.sessions.sessions) _ u (by (find (is_member_of m) s.sessions.providers) refl)
    where
      by : (o : Option Provider) → find (is_member_of m) s.sessions.providers ≡ o → member_asks s.sessions o phases f make ≡ Ok u → Asks u
      by None q e = absurd (cc)
      by (Some x) q e = asked_asks x phases (make x) (ask_fault s.sessions x f) u (find_has (is_member_of m) s.sessions.providers x q).0 (other x) e

  changes_asks : (m : MemberToken) (phases : Phases) (attrs : Attrs) (u : SessionState) → attributes_changed s.sessions m phases attrs ≡ Ok u → Asks u
  unfolding attributes_changed
  changes_asks m phases attrs u = if_asks (is_empty s.sessions.sessions) _ u (by (find (is_member_of m) s.sessions.providers) refl)
    where
      by : (o : Option Provider) → find (is_member_of m) s.sessions.providers ≡ o → member_changes s.sessions o phases attrs ≡ Ok u → Asks u
      by None q e = absurd (cc)
      by (Some x) q e = asked_asks x phases (λ r. Attributes x.provider r attrs) _ u (find_has (is_member_of m) s.sessions.providers x q).0 (λ r. (refl, refl)) e

  -- a vote
  given_made : (client : List ℕ) (r : Result SessionState GsFault) → ((u : SessionState) → r ≡ Ok u → Casts s.sessions u) → Made c s (give_ballot s client r)
  unfolding give_ballot cast_last record_ballot ballot_sent_if with_sessions recorded
  given_made client (Err f) k = refused_made client f
  given_made client (Ok u) k = by (last_or None u.kept)
    where
      same : Plain s.sessions u
      same = subst (Plain s.sessions) (sym (k u refl).is) (record { providers = refl; joins = λ q i e. i })

      d : Core
      d = record s { sessions = u }

      begin : Made c s d
      begin = bare u same

      sent : (t : Core) (b : KeptBallot) (z : Bool) → Made c s t → Made c s (ballot_sent_if t b z)
      sent t b true a = a
      sent t b false a = made_sends c s t (send_kept t b) (kept_sends t b) a

      said : (b : KeptBallot) (o : Option Filled) → Made c s (record_ballot d b o)
      said b None = begin
      said b (Some f) =
          let a : Happened = happened.Cast b.provider b.proto b.phase f.vote f.value f.message in
          plain u (s.records ++ a ∷ []) same (λ r i. subst (CallRecord u) (sym (one_of a r i)) tt) (λ g p z. let y = one_of a (happened.Asked p p.join g z.proposal) z.there in cc)

      by : (o : Option KeptBallot) → Made c s (cast_last d o)
      by None = begin
      by (Some b) = sent (record_ballot d b b.ballot.filled) b (frozen d) (said b b.ballot.filled)

-- ---- a goodbye

module _ (s : Core) (none : s.records ≡ []) (client : List ℕ) (own : OneOwner s.sessions) where
  abbrev t : ClientToken
  t = client_token s.sessions client

  abbrev u : SessionState
  u = end_session s.sessions t

  ended_found : (p : ProviderId) (x : Provider) → provider_of s.sessions p ≡ Some x → (b : Bool) → is_client_of t x ≡ b → (provider_of u p ≡ Some x) ⊎ (is_client_of t x ≡ true)
  unfolding end_session provider_of
  ended_found p x q true e = inr e
  ended_found p x q false e = inl (find_kept p (λ y. not (is_client_of t y)) s.sessions.providers x (ap not e) q)

  ended_requests : (q : Request) → Has q u.requests → Has q s.sessions.requests
  unfolding end_session
  ended_requests q i = (has_filter _ q s.sessions.requests i).0

  ended_made : Made (call.Goodbye client) s (record s { sessions = u })
  ended_made =
      record {
        groups = refl;
        views = refl;
        records = λ r i. absurd (subst (Has r) none i);
        found = λ p x q. ⊎_elim (λ (a : provider_of u p ≡ Some x). inl a) (λ (a : is_client_of t x ≡ true). inr (client, refl, a, none)) (ended_found p x q (is_client_of t x) refl);
        asks = λ g p a. absurd (subst (Has (happened.Asked p p.join g a.proposal)) none a.there);
        joins = λ j q i e. let a = j q (ended_requests q i) e in (a.0, λ y f. a.1 y ((fewer_ended s.sessions t own).providers q.provider y f));
      }

  said_made : (xs : List Provider) (r : Result SessionState GsFault) → ((v : SessionState) → r ≡ Ok v → v ≡ u) → Made (call.Goodbye client) s (goodbye_said s client xs r)
  unfolding goodbye_said with_sessions
  said_made xs (Err f) k = refused_made (call.Goodbye client) s none client f
  said_made xs (Ok v) k =
      subst (λ z. Made (call.Goodbye client) s (send_all_gone (record s { sessions = z }) xs)) (sym (k v refl)) (made_sends (call.Goodbye client) s (record s { sessions = u }) (send_all_gone (record s { sessions = u }) xs) (gone_sends (record s { sessions = u }) xs) ended_made)

-- ---- a join

module _ (s : Core) (none : s.records ≡ []) (low : (x : Provider) → Has x s.sessions.providers → x.provider.join ≤ s.sessions.last_request) (known : (q : Request) → Has q s.sessions.requests → (y : Provider) × Has y s.sessions.providers × (y.provider ≡ q.provider)) (c : CallLine) (client g : List ℕ) (instance : ℕ) (attrs : Attrs) where
  abbrev token : ClientToken
  token = client_token s.sessions client

  abbrev new : ProviderId
  new = new_provider s.sessions instance

  abbrev next : Provider
  next = record { provider = new; client = token; group = g; takes_part = false; opened = None }

  abbrev request : Request
  request = record { provider = new; request = s.sessions.last_request + 1; group = g; phases = One; proposal = Join (new ∷ []) attrs None }

  abbrev after : SessionState
  after = join_asked s.sessions token g instance attrs

  not_new : (y : Provider) → Has y s.sessions.providers → y.provider ≡ new → ⊥
  not_new y i e = let a = low y i in let b : y.provider.join ≡ s.sessions.last_request + 1 = ap (λ (z : ProviderId). z.join) e in omega (arith, a, b)

  none_new : (y : Provider) → find (is_provider new) s.sessions.providers ≡ Some y → ⊥
  none_new y e = let k = find_has (is_provider new) s.sessions.providers y e in not_new y k.0 (provider_same y.provider new k.1)

  joined_stands : Stood after new g false
  unfolding join_asked provider_of
  joined_stands = record { provider = next; found = find-append (is_provider new) s.sessions.providers (next ∷ []) ∙ by (find (is_provider new) s.sessions.providers) refl; group = refl; part_is = refl }
    where
      by : (o : Option Provider) → find (is_provider new) s.sessions.providers ≡ o → option_or o (find (is_provider new) (next ∷ [])) ≡ Some next
      by None e = ap (λ b. if b then Some next else None) (provider_self new)
      by (Some y) e = absurd (none_new y e)

  joined_waits : JoinWaits s.sessions → JoinWaits after
  unfolding join_asked provider_of
  joined_waits j q i e = by (has_append q s.sessions.requests (request ∷ []) i)
    where
      no_part : (y : Provider) → y ≡ next → y.takes_part ≡ false
      no_part y z = ap (λ (a : Provider). a.takes_part) z

      by : Has q s.sessions.requests ⊎ Has q (request ∷ []) → (q.request ≡ q.provider.join) × ((y : Provider) → find (is_provider q.provider) (s.sessions.providers ++ next ∷ []) ≡ Some y → y.takes_part ≡ false)
      by (inl h) = let a = j q h e in (a.0, λ y f. ⊎_elim (λ (z : find (is_provider q.provider) s.sessions.providers ≡ Some y). a.1 y z) (λ (z : (y ≡ next) × (q.provider ≡ new)). no_part y z.0) (found_joined next q.provider s.sessions.providers y f))
      by (inr (inl z)) = subst (λ (q : Request). (q.request ≡ q.provider.join) × ((y : Provider) → find (is_provider q.provider) (s.sessions.providers ++ next ∷ []) ≡ Some y → y.takes_part ≡ false)) (sym z) (refl, λ y f. ⊎_elim (λ (z : find (is_provider new) s.sessions.providers ≡ Some y). absurd (none_new y z)) (λ (z : (y ≡ next) × (new ≡ new)). no_part y z.0) (found_joined next new s.sessions.providers y f))
      by (inr (inr z)) = absurd z

  joined_found : (p : ProviderId) (x : Provider) → provider_of s.sessions p ≡ Some x → provider_of after p ≡ Some x
  unfolding join_asked provider_of
  joined_found p x q = find-append (is_provider p) s.sessions.providers (next ∷ []) ∙ ap (λ o. option_or o (find (is_provider p) (next ∷ []))) q

  joined_has : Has next after.providers
  unfolding join_asked
  joined_has = append_has_right next s.sessions.providers (next ∷ []) (inl refl)

  joined_last : last_or None after.requests ≡ Some request
  unfolding join_asked
  joined_last = last_is s.sessions.requests request None

  joined_made : (o : Option GsFault) → Made c s (proposed s client (unless_fault o after))
  unfolding proposed ask_last with_sessions recorded
  joined_made (Some f) = refused_made c s none client f
  joined_made None =
      let d : Core = record s { sessions = after } in
      let a : Happened = happened.Asked new (s.sessions.last_request + 1) g (Join (new ∷ []) attrs None) in
      let t : Core = record d { records = s.records ++ a ∷ [] } in
      subst (λ o. Made c s (ask_last d o)) (sym joined_last) (made_sends c s t (send_request t request) (request_sends t request) (record { groups = refl; views = refl; records = λ r i. subst (CallRecord after) (sym (one_of c s none a r i)) (next, joined_has, refl); found = λ p x q. inl (joined_found p x q); asks = λ h p b. subst (λ (z : ProviderId × List ℕ). Stood after z.0 z.1 false) (same h p b.proposal (one_of c s none a (happened.Asked p p.join h b.proposal) b.there)) joined_stands; joins = joined_waits }))
    where
      same : (h : List ℕ) (p : ProviderId) (y : Proposal) → happened.Asked p p.join h y ≡ happened.Asked new (s.sessions.last_request + 1) g (Join (new ∷ []) attrs None) → ◌≡◌ {A = ProviderId × List ℕ} (new, g) (p, h)
      same h p y e = let a : p ≡ new = cc in let b : h ≡ g = cc in (λ i. (sym a i, sym b i))

pub call_made : (c : CallLine) (s : Core) → s.records ≡ [] → OneOwner s.sessions → ((x : Provider) → Has x s.sessions.providers → x.provider.join ≤ s.sessions.last_request) → ((q : Request) → Has q s.sessions.requests → (y : Provider) × Has y s.sessions.providers × (y.provider ≡ q.provider)) → Made c s (take_call s c)
unfolding take_call inited add_session joined left expelled state_changed message_sent subscribe_taken unsubscribe_taken goodbye_taken
call_made (call.Init node name votes) s none own low known = changed_made _ s none name _ (λ u e. subst (Plain s.sessions) (sym (unless_is _ (add_session s.sessions name) u e)) (record { providers = refl; joins = λ q i j. i }))
call_made (call.Join client g instance attrs) s none own low known = joined_made s none low known _ client g instance attrs (join_fault s.sessions (client_token s.sessions client) g attrs)
call_made (call.Leave client g phases) s none own low known = proposed_made _ s none client _ (made_asks _ s none (caller s.sessions client g) phases _ _ (λ x r. (refl, refl)))
call_made (call.Expel client g phases out) s none own low known = proposed_made _ s none client _ (made_asks _ s none (caller s.sessions client g) phases _ _ (λ x r. (refl, refl)))
call_made (call.ChangeState client g phases value) s none own low known = proposed_made _ s none client _ (made_asks _ s none (caller s.sessions client g) phases _ _ (λ x r. (refl, refl)))
call_made (call.SendMessage client g phases bytes) s none own low known = proposed_made _ s none client _ (made_asks _ s none (caller s.sessions client g) phases _ _ (λ x r. (refl, refl)))
call_made (call.ChangeAttributes client g phases attrs) s none own low known = proposed_made _ s none client _ (changes_asks _ s none (caller s.sessions client g) phases attrs)
call_made (call.Vote client g v value) s none own low known = given_made _ s none client _ (casts_voted s.sessions (caller s.sessions client g) v value)
call_made (call.Subscribe client g) s none own low known = changed_made _ s none client _ (λ u e. subst (Plain s.sessions) (sym (unless_is _ _ u e)) (record { providers = refl; joins = λ q i j. i }))
call_made (call.Unsubscribe client g) s none own low known = changed_made _ s none client _ (λ u e. subst (Plain s.sessions) (sym (unless_is _ _ u e)) (record { providers = refl; joins = λ q i j. i }))
call_made (call.Goodbye client) s none own low known = said_made s none client own _ _ (λ v e. unless_is _ (end_session s.sessions (client_token s.sessions client)) v e)
