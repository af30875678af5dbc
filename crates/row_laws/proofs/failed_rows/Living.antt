-- Which providers a node goes on having, whatever happens to its sessions.
use Rattle.std.proofs.Common.{◌≡◌, ◌⊎◌, ℕ, List, [], ◌∷◌, ◌++◌, Option, Some, None, Bool, true, false, refl, sym, ap, ◌∙◌, subst, inl, inr}
use Rattle.std.specs.Prelude.{◌+◌, not, cond, ◌||◌, find, fold, filter, if◌then◌else◌, Result, Ok, Err}
use Rattle.std.specs.List.{last_or, list_any}
use Rattle.std.proofs.lemmas.Bool.{not-true}
use Rattle.rsct_packet.specs.declared.ids.ProviderId.{ProviderId}
use Rattle.rsct_packet.specs.Providers.{among, same_provider}
use Rattle.rsct_packet.specs.Search.{Has, edit_where}
use Rattle.rsct_packet.proofs.HasLaws.{has_append, has_filter, filter_has, append_has_left, append_has_right, find_has}
use Rattle.group_attr.specs.declared.attrs.Attrs.{Attrs}
use Rattle.group_attr.specs.declared.attrs.Phases.{Phases}
use Rattle.group_attr.specs.declared.attrs.Phases.TheVariants.{One}
use Rattle.proposal_core.specs.declared.entry.Entry.{Entry}
use Rattle.proposal_core.specs.declared.entry.Entry.TheVariants.{Once, Begin, Phase, Approve, Reject}
use Rattle.proposal_core.specs.declared.proposal.Proposal.{Proposal}
use Rattle.proposal_core.specs.declared.proposal.Proposal.TheVariants.{Join, Leave, Fail, Expel, State, Message, Attributes, Reflect}
use Rattle.proposal_core.specs.declared.group_state.GroupState.{GroupState}
use Rattle.proposal_core.specs.Fold.{joins_of, joiners_in, present}
use Rattle.client_callbacks.specs.declared.ballot.Filled.{Filled}
use Rattle.client_callbacks.specs.declared.told.Why.{Why}
use Rattle.subscribe_core.specs.declared.subs.ClientToken.{ClientToken}
use Rattle.subscribe_core.specs.declared.subs.SubToken.{SubToken}
use Rattle.subscribe_core.specs.Subs.{subs_add, subs_remove}
use Rattle.proposal_core.specs.declared.entry.Vote.{Vote}
use Rattle.client_callbacks.specs.Ballots.{is_within, value_limit}
use Rattle.session_state.specs.declared.state.OpenPhase.{OpenPhase}
use Rattle.session_state.specs.declared.fault.GsFault.TheVariants as fault
use Rattle.session_state.specs.declared.fault.Field.TheVariants as field
use Rattle.session_state.specs.declared.fault.GsFault.{GsFault}
use Rattle.session_state.specs.declared.state.MemberToken.{MemberToken}
use Rattle.session_state.specs.declared.state.Provider.{Provider}
use Rattle.session_state.specs.declared.state.Request.{Request}
use Rattle.session_state.specs.declared.state.SessionState.{SessionState}
use Rattle.session_state.specs.State.{provider_of, is_kept_for, is_provider, is_member_of, with_provider, end_request, without_providers, outstanding}
use Rattle.session_state.specs.Calls.{unless_fault, if_session, is_empty, new_provider, join_asked, joined, join_fault, asked, ask_fault, member_asks, request_made, left, expelled, state_changed, message_sent, member_changes, attributes_changed, targets_fault, value_fault, message_fault, attributes_fault, inited, init_fault, add_session, subscribe_taken, subscribe_fault, unsubscribe_taken, unsubscribe_fault, voted, member_votes, vote_in, keeps, fault_if}
use Rattle.group_attr.specs.Attrs.{first_fault}
use Rattle.session_state.specs.HandOn.{hears, hearers_in, brought_by, kept_ended, kept_after, beginners, hearers, part_taken, taking_part, opened_after, open_phases, keep_casts, proposal_begun, requests_after, is_present, removed_from, casts_out, heard, handed_on, takes_telling, told_of, take_telling, is_join_request, is_dissolved}
use Rattle.run_safety.specs.Stays.{is_join_of}
use Rattle.step_refinement.proofs.SessionLaws.{provider_same}
use Rattle.row_laws.proofs.hearing.Handing.{among_is, has_among}

-- the node has the provider
abbrev pub IsLive : SessionState → ProviderId → Type 0
IsLive t p = (x : Provider) × Has x t.providers × (x.provider ≡ p)

pub live_same : (s t : SessionState) (p : ProviderId) → t.providers ≡ s.providers → IsLive s p → IsLive t p
live_same s t p e k = (k.0, subst (Has k.0) (sym e) k.1, k.2)

-- ---- edits

pub edited : (q : ProviderId) (f : Provider → Provider) → ((x : Provider) → (f x).provider ≡ x.provider) → (xs : List Provider) (x : Provider) → Has x xs → (y : Provider) × Has y (edit_where (is_provider q) f xs) × (y.provider ≡ x.provider)
edited q f keeps [] x i = absurd i
edited q f keeps (z ∷ zs) x i = by (is_provider q z) i (edited q f keeps zs x)
  where
    by : (b : Bool) → Has x (z ∷ zs) → (Has x zs → (y : Provider) × Has y (edit_where (is_provider q) f zs) × (y.provider ≡ x.provider)) → (y : Provider) × Has y (if b then f z ∷ zs else z ∷ edit_where (is_provider q) f zs) × (y.provider ≡ x.provider)
    by true (inl e) rest = (f z, inl refl, keeps z ∙ ap (λ (a : Provider). a.provider) (sym e))
    by true (inr j) rest = (x, inr j, refl)
    by false (inl e) rest = (x, inl e, refl)
    by false (inr j) rest = let k = rest j in (k.0, inr k.1, k.2)

pub live_edit : (s : SessionState) (q : ProviderId) (f : Provider → Provider) → ((x : Provider) → (f x).provider ≡ x.provider) → (p : ProviderId) → IsLive s p → IsLive (with_provider s q f) p
unfolding with_provider
live_edit s q f keeps p k = let z = edited q f keeps s.providers k.0 k.1 in (z.0, z.1, z.2 ∙ k.2)

pub live_edits : (f : Provider → Provider) → ((x : Provider) → (f x).provider ≡ x.provider) → (p : ProviderId) (qs : List ProviderId) (s : SessionState) → IsLive s p → IsLive (fold (λ t q. with_provider t q f) s qs) p
live_edits f keeps p [] s k = k
live_edits f keeps p (q ∷ qs) s k = live_edits f keeps p qs (with_provider s q f) (live_edit s q f keeps p k)

pub live_without : (s : SessionState) (out : List ProviderId) (p : ProviderId) → among out p ≡ false → IsLive s p → IsLive (without_providers s out) p
unfolding without_providers
live_without s out p off k =
    (k.0, filter_has (λ (x : Provider). not (among out x.provider)) k.0 s.providers k.1 (ap (λ z. not (among out z)) k.2 ∙ ap not off), k.2)

-- ---- an entry is handed on

pub opened_p : (e : Entry) (after : GroupState) (x : Provider) → (opened_after e after x).provider ≡ x.provider
unfolding opened_after
opened_p (Once x) after y = refl
opened_p _ after y = refl

pub after_providers : (s : SessionState) (g : List ℕ) (e : Entry) → (kept_after s g e).providers ≡ s.providers
unfolding kept_after kept_ended
after_providers s g (Once x) = refl
after_providers s g _ = refl

pub joins_providers : (ps : List ProviderId) (s : SessionState) → (fold (λ t (p : ProviderId). end_request t p p.join) s ps).providers ≡ s.providers
unfolding end_request
joins_providers [] s = refl
joins_providers (p ∷ ps) s = joins_providers ps (end_request s p p.join)

pub begun_providers : (s : SessionState) (x : Proposal) → (proposal_begun s x).providers ≡ s.providers
unfolding proposal_begun end_request
begun_providers s (Join ps attrs n) = joins_providers ps s
begun_providers s _ = refl

pub requests_providers : (s : SessionState) (e : Entry) → (requests_after s e).providers ≡ s.providers
unfolding requests_after
requests_providers s (Once x) = begun_providers s x
requests_providers s (Begin x) = begun_providers s x
requests_providers s _ = refl

pub handed_lives : (s : SessionState) (g : List ℕ) (before after : GroupState) (e : Entry) (bs : List (Option Filled)) (p : ProviderId) → IsLive s p → IsLive (handed_on s g before after e bs) p ⊎ (Has p (hearers s g before e) × (is_present after p ≡ false))
unfolding handed_on heard part_taken open_phases keep_casts removed_from
handed_lives s g before after e bs p k = by (among (filter (λ p. not (is_present after p)) ps) p) refl
  where
    ps : List ProviderId
    ps = hearers s g before e

    t : SessionState
    t = fold (λ t p. with_provider t p taking_part) (kept_after s g e) (beginners s g e)

    u : SessionState
    u = keep_casts (fold (λ t p. with_provider t p (opened_after e after)) t ps) g (casts_out s g before after e bs)

    live : IsLive (requests_after u e) p
    live =
        live_same u (requests_after u e) p (requests_providers u e) (live_edits (opened_after e after) (opened_p e after) p ps t (live_edits taking_part (λ x. refl) p (beginners s g e) (kept_after s g e) (live_same s (kept_after s g e) p (after_providers s g e) k)))

    by : (b : Bool) → among (filter (λ p. not (is_present after p)) ps) p ≡ b → IsLive (without_providers (requests_after u e) (filter (λ p. not (is_present after p)) ps)) p ⊎ (Has p ps × (is_present after p ≡ false))
    by false q = inl (live_without (requests_after u e) (filter (λ p. not (is_present after p)) ps) p q live)
    by true q = let j = has_filter (λ p. not (is_present after p)) p ps (among_is (filter (λ p. not (is_present after p)) ps) p q) in inr (j.0, not-true (is_present after p) j.1)

-- ---- a provider is told

pub told_lives : (s : SessionState) (p : ProviderId) (r : ℕ) (y : Why) (q : ProviderId) → IsLive s q → IsLive (take_telling s p r y) q ⊎ ((q ≡ p) × ((is_join_request (outstanding s p) ≡ true) ⊎ (is_dissolved y ≡ true)))
unfolding take_telling told_of
told_lives s p r y q k = by (takes_telling s p r y) (is_join_request (outstanding s p)) (is_dissolved y) refl refl
  where
    gone : (b c : Bool) → (b ≡ true) ⊎ (c ≡ true) → (z : Bool) → same_provider p q ≡ z → IsLive (without_providers s (p ∷ [])) q ⊎ ((q ≡ p) × ((b ≡ true) ⊎ (c ≡ true)))
    gone b c why true e = inr (sym (provider_same p q e), why)
    gone b c why false e = inl (live_without s (p ∷ []) q (ap (λ z. z || false) e) k)

    by : (a b c : Bool) → is_join_request (outstanding s p) ≡ b → is_dissolved y ≡ c → IsLive (if a then (if b || c then without_providers s (p ∷ []) else record s { requests = filter (λ (q : Request). not (among (p ∷ []) q.provider)) s.requests }) else s) q ⊎ ((q ≡ p) × ((b ≡ true) ⊎ (c ≡ true)))
    by false b c e f = inl k
    by true true c e f = gone true c (inl refl) (same_provider p q) refl
    by true false true e f = gone false true (inr refl) (same_provider p q) refl
    by true false false e f = inl k

-- ---- calls

-- whoever is there stays
abbrev pub NoLoss : SessionState → Result SessionState GsFault → Type 0
NoLoss s (Ok t) = (p : ProviderId) → IsLive s p → IsLive t p
NoLoss s (Err f) = Unit {0}

-- and who asks last is there
abbrev pub NewAsks : Result SessionState GsFault → Type 0
NewAsks (Ok t) = (q : Request) → last_or None t.requests ≡ Some q → IsLive t q.provider
NewAsks (Err f) = Unit {0}

pub last_is : {A : Type 0} (xs : List A) (x : A) (o : Option A) → last_or o (xs ++ x ∷ []) ≡ Some x
last_is [] x o = refl
last_is (y ∷ ys) x o = last_is ys x (Some y)

pub unless_loses : (s t : SessionState) (o : Option GsFault) → ((p : ProviderId) → IsLive s p → IsLive t p) → NoLoss s (unless_fault o t)
unless_loses s t None k = k
unless_loses s t (Some f) k = tt

unless_asks : (t : SessionState) (o : Option GsFault) → ((q : Request) → last_or None t.requests ≡ Some q → IsLive t q.provider) → NewAsks (unless_fault o t)
unless_asks t None k = k
unless_asks t (Some f) k = tt

pub if_loses : (s : SessionState) (b : Bool) (r : Result SessionState GsFault) → NoLoss s r → NoLoss s (if_session b r)
if_loses s true r k = tt
if_loses s false r k = k

if_asks : (b : Bool) (r : Result SessionState GsFault) → NewAsks r → NewAsks (if_session b r)
if_asks true r k = tt
if_asks false r k = k

-- a join
pub joined_lives : (s : SessionState) (t : ClientToken) (g : List ℕ) (instance : ℕ) (attrs : Attrs) → NoLoss s (joined s t g instance attrs) × NewAsks (joined s t g instance attrs)
unfolding joined join_asked
joined_lives s t g instance attrs = (
  unless_loses s (join_asked s t g instance attrs) (join_fault s t g attrs) (λ p k. (k.0, append_has_left k.0 s.providers (new ∷ []) k.1, k.2)),
  unless_asks (join_asked s t g instance attrs) (join_fault s t g attrs) (λ q e. let z : Some asks ≡ Some q = sym (last_is s.requests asks None) ∙ e in
      let y : asks ≡ q = cc in (new, append_has_right new s.providers (new ∷ []) (inl refl), ap (λ (a : Request). a.provider) y)),
)
  where
    new : Provider
    new = record { provider = new_provider s instance; client = t; group = g; takes_part = false; opened = None }

    asks : Request
    asks = record { provider = new_provider s instance; request = s.last_request + 1; group = g; phases = One; proposal = Join (new_provider s instance ∷ []) attrs None }

-- another request
asked_lives : (s : SessionState) (x : Provider) (phases : Phases) (make : ℕ → Proposal) (o : Option GsFault) → Has x s.providers → NoLoss s (unless_fault o (asked s x phases make)) × NewAsks (unless_fault o (asked s x phases make))
unfolding asked
asked_lives s x phases make o i = (
  unless_loses s (asked s x phases make) o (λ p k. k),
  unless_asks (asked s x phases make) o (λ q e. let z : Some asks ≡ Some q = sym (last_is s.requests asks None) ∙ e in
      let y : asks ≡ q = cc in (x, i, ap (λ (a : Request). a.provider) y)),
)
  where
    asks : Request
    asks = record { provider = x.provider; request = s.last_request + 1; group = x.group; phases = phases; proposal = make (s.last_request + 1) }

made_lives : (s : SessionState) (m : MemberToken) (phases : Phases) (parameter : Option GsFault) (make : Provider → ℕ → Proposal) → NoLoss s (request_made s m phases parameter make) × NewAsks (request_made s m phases parameter make)
unfolding request_made
made_lives s m phases parameter make =
    let k = by (find (is_member_of m) s.providers) refl in
    (if_loses s (is_empty s.sessions) (member_asks s (find (is_member_of m) s.providers) phases parameter make) k.0, if_asks (is_empty s.sessions) (member_asks s (find (is_member_of m) s.providers) phases parameter make) k.1)
  where
    by : (o : Option Provider) → find (is_member_of m) s.providers ≡ o → NoLoss s (member_asks s o phases parameter make) × NewAsks (member_asks s o phases parameter make)
    by None e = (tt, tt)
    by (Some x) e = asked_lives s x phases (make x) (ask_fault s x parameter) (find_has (is_member_of m) s.providers x e).0

pub left_lives : (s : SessionState) (m : MemberToken) (phases : Phases) → NoLoss s (left s m phases) × NewAsks (left s m phases)
unfolding left
left_lives s m phases = made_lives s m phases None (λ x r. Leave x.provider r)

pub expelled_lives : (s : SessionState) (m : MemberToken) (phases : Phases) (out : List ProviderId) → NoLoss s (expelled s m phases out) × NewAsks (expelled s m phases out)
unfolding expelled
expelled_lives s m phases out = made_lives s m phases (targets_fault out) (λ x r. Expel x.provider r out)

pub state_lives : (s : SessionState) (m : MemberToken) (phases : Phases) (value : List ℕ) → NoLoss s (state_changed s m phases value) × NewAsks (state_changed s m phases value)
unfolding state_changed
state_lives s m phases value = made_lives s m phases (value_fault s (Some value)) (λ x r. State x.provider r value)

pub message_lives : (s : SessionState) (m : MemberToken) (phases : Phases) (bytes : List ℕ) → NoLoss s (message_sent s m phases bytes) × NewAsks (message_sent s m phases bytes)
unfolding message_sent
message_lives s m phases bytes = made_lives s m phases (message_fault bytes) (λ x r. Message x.provider r bytes)

pub attributes_lives : (s : SessionState) (m : MemberToken) (phases : Phases) (attrs : Attrs) → NoLoss s (attributes_changed s m phases attrs) × NewAsks (attributes_changed s m phases attrs)
unfolding attributes_changed
attributes_lives s m phases attrs =
    let k = by (find (is_member_of m) s.providers) refl in
    (if_loses s (is_empty s.sessions) (member_changes s (find (is_member_of m) s.providers) phases attrs) k.0, if_asks (is_empty s.sessions) (member_changes s (find (is_member_of m) s.providers) phases attrs) k.1)
  where
    by : (o : Option Provider) → find (is_member_of m) s.providers ≡ o → NoLoss s (member_changes s o phases attrs) × NewAsks (member_changes s o phases attrs)
    by None e = (tt, tt)
    by (Some x) e = asked_lives s x phases (λ r. Attributes x.provider r attrs) (ask_fault s x (attributes_fault (first_fault attrs x.group))) (find_has (is_member_of m) s.providers x e).0

pub inited_lives : (s : SessionState) (name : List ℕ) → NoLoss s (inited s name)
unfolding inited add_session
inited_lives s name = unless_loses s (add_session s name) (init_fault s name) (λ p k. k)

pub subscribe_lives : (s : SessionState) (t : ClientToken) (g : List ℕ) (known : Bool) → NoLoss s (subscribe_taken s t g known)
unfolding subscribe_taken
subscribe_lives s t g known = unless_loses s (record s { subs = subs_add t g s.subs }) (subscribe_fault s t g known) (λ p k. k)

pub unsubscribe_lives : (s : SessionState) (t : ClientToken) (sub : SubToken) → NoLoss s (unsubscribe_taken s t sub)
unfolding unsubscribe_taken
unsubscribe_lives s t sub = unless_loses s (record s { subs = subs_remove sub s.subs }) (unsubscribe_fault s t sub) (λ p k. k)

pub voted_lives : (s : SessionState) (m : MemberToken) (v : Vote) (value : Option (List ℕ)) → NoLoss s (voted s m v value)
unfolding voted
voted_lives s m v value = if_loses s (is_empty s.sessions) (member_votes s (find (is_member_of m) s.providers) v value) (provider (find (is_member_of m) s.providers))
  where
    opened : (x : Provider) (o : Option OpenPhase) → NoLoss s (vote_in s x v value o)
    opened x None = tt
    opened x (Some o) = unless_loses s (keeps s x o (record { vote = v; value = value; message = None })) (fault_if (list_any (is_kept_for x.provider o.proto o.phase) s.kept) fault.VoteNotExpected) (λ p k. k)

    within : (x : Provider) (b : Bool) → NoLoss s (if b then vote_in s x v value x.opened else Err (fault.BadParameter field.Value))
    within x true = opened x x.opened
    within x false = tt

    provider : (o : Option Provider) → NoLoss s (member_votes s o v value)
    provider None = tt
    provider (Some x) = within x (is_within (value_limit s.level) value)

-- where the providers stay
abbrev pub SameProviders : SessionState → Result SessionState GsFault → Type 0
SameProviders s (Ok t) = t.providers ≡ s.providers
SameProviders s (Err f) = Unit {0}

pub unless_same : (s t : SessionState) (o : Option GsFault) → t.providers ≡ s.providers → SameProviders s (unless_fault o t)
unless_same s t None e = e
unless_same s t (Some f) e = tt

pub if_same : (s : SessionState) (b : Bool) (r : Result SessionState GsFault) → SameProviders s r → SameProviders s (if_session b r)
if_same s true r k = tt
if_same s false r k = k

pub made_same : (s : SessionState) (m : MemberToken) (phases : Phases) (parameter : Option GsFault) (make : Provider → ℕ → Proposal) → SameProviders s (request_made s m phases parameter make)
unfolding request_made asked
made_same s m phases parameter make =
    if_same s (is_empty s.sessions) (member_asks s (find (is_member_of m) s.providers) phases parameter make) (by (find (is_member_of m) s.providers))
  where
    by : (o : Option Provider) → SameProviders s (member_asks s o phases parameter make)
    by None = tt
    by (Some x) = unless_same s (asked s x phases (make x)) (ask_fault s x parameter) refl

pub left_same : (s : SessionState) (m : MemberToken) (phases : Phases) → SameProviders s (left s m phases)
unfolding left
left_same s m phases = made_same s m phases None (λ x r. Leave x.provider r)

pub expelled_same : (s : SessionState) (m : MemberToken) (phases : Phases) (out : List ProviderId) → SameProviders s (expelled s m phases out)
unfolding expelled
expelled_same s m phases out = made_same s m phases (targets_fault out) (λ x r. Expel x.provider r out)

pub state_same : (s : SessionState) (m : MemberToken) (phases : Phases) (value : List ℕ) → SameProviders s (state_changed s m phases value)
unfolding state_changed
state_same s m phases value = made_same s m phases (value_fault s (Some value)) (λ x r. State x.provider r value)

pub message_same : (s : SessionState) (m : MemberToken) (phases : Phases) (bytes : List ℕ) → SameProviders s (message_sent s m phases bytes)
unfolding message_sent
message_same s m phases bytes = made_same s m phases (message_fault bytes) (λ x r. Message x.provider r bytes)

pub attributes_same : (s : SessionState) (m : MemberToken) (phases : Phases) (attrs : Attrs) → SameProviders s (attributes_changed s m phases attrs)
unfolding attributes_changed asked
attributes_same s m phases attrs =
    if_same s (is_empty s.sessions) (member_changes s (find (is_member_of m) s.providers) phases attrs) (by (find (is_member_of m) s.providers))
  where
    by : (o : Option Provider) → SameProviders s (member_changes s o phases attrs)
    by None = tt
    by (Some x) = unless_same s (asked s x phases (λ r. Attributes x.provider r attrs)) (ask_fault s x (attributes_fault (first_fault attrs x.group))) refl

pub inited_same : (s : SessionState) (name : List ℕ) → SameProviders s (inited s name)
unfolding inited add_session
inited_same s name = unless_same s (add_session s name) (init_fault s name) refl

pub subscribe_same : (s : SessionState) (t : ClientToken) (g : List ℕ) (known : Bool) → SameProviders s (subscribe_taken s t g known)
unfolding subscribe_taken
subscribe_same s t g known = unless_same s (record s { subs = subs_add t g s.subs }) (subscribe_fault s t g known) refl

pub unsubscribe_same : (s : SessionState) (t : ClientToken) (sub : SubToken) → SameProviders s (unsubscribe_taken s t sub)
unfolding unsubscribe_taken
unsubscribe_same s t sub = unless_same s (record s { subs = subs_remove sub s.subs }) (unsubscribe_fault s t sub) refl

pub voted_same : (s : SessionState) (m : MemberToken) (v : Vote) (value : Option (List ℕ)) → SameProviders s (voted s m v value)
unfolding voted
voted_same s m v value = if_same s (is_empty s.sessions) (member_votes s (find (is_member_of m) s.providers) v value) (provider (find (is_member_of m) s.providers))
  where
    opened : (x : Provider) (o : Option OpenPhase) → SameProviders s (vote_in s x v value o)
    opened x None = tt
    opened x (Some o) = unless_same s (keeps s x o (record { vote = v; value = value; message = None })) (fault_if (list_any (is_kept_for x.provider o.proto o.phase) s.kept) fault.VoteNotExpected) refl

    within : (x : Provider) (b : Bool) → SameProviders s (if b then vote_in s x v value x.opened else Err (fault.BadParameter field.Value))
    within x true = opened x x.opened
    within x false = tt

    provider : (o : Option Provider) → SameProviders s (member_votes s o v value)
    provider None = tt
    provider (Some x) = within x (is_within (value_limit s.level) value)

-- nobody begins to take part
abbrev pub NoTaker : SessionState → Result SessionState GsFault → Type 0
NoTaker s (Ok t) = (p : ProviderId) (y : Provider) → provider_of t p ≡ Some y → y.takes_part ≡ true → provider_of s p ≡ Some y
NoTaker s (Err f) = Unit {0}

pub same_taker : (s : SessionState) (r : Result SessionState GsFault) → SameProviders s r → NoTaker s r
unfolding provider_of
same_taker s (Ok t) e = λ p y q part. ap (λ (xs : List Provider). find (is_provider p) xs) (sym e) ∙ q
same_taker s (Err f) e = tt

pub joined_taker : (s : SessionState) (t : ClientToken) (g : List ℕ) (instance : ℕ) (attrs : Attrs) → NoTaker s (joined s t g instance attrs)
unfolding joined join_asked provider_of
joined_taker s t g instance attrs = by (join_fault s t g attrs)
  where
    new : Provider
    new = record { provider = new_provider s instance; client = t; group = g; takes_part = false; opened = None }

    old : (xs : List Provider) (p : ProviderId) (y : Provider) → find (is_provider p) (xs ++ new ∷ []) ≡ Some y → y.takes_part ≡ true → find (is_provider p) xs ≡ Some y
    old [] p y q part = at (is_provider p new) q
      where
        at : (b : Bool) → cond b (Some new) None ≡ Some y → None ≡ Some y
        at true z = let e : new ≡ y = cc in absurd (let k : false ≡ true = ap (λ (x : Provider). x.takes_part) e ∙ part in cc)
        at false z = z
    old (x ∷ xs) p y q part = at (is_provider p x) q (λ z. old xs p y z part)
      where
        at : (b : Bool) → cond b (Some x) (find (is_provider p) (xs ++ new ∷ [])) ≡ Some y → (find (is_provider p) (xs ++ new ∷ []) ≡ Some y → find (is_provider p) xs ≡ Some y) → cond b (Some x) (find (is_provider p) xs) ≡ Some y
        at true z rest = z
        at false z rest = rest z

    by : (o : Option GsFault) → NoTaker s (unless_fault o (join_asked s t g instance attrs))
    by None = λ p y q part. old s.providers p y q part
    by (Some f) = tt

-- ---- nobody comes in

-- who is there was there, for the same client, and clients are the same
pub record Slimmer (t u : SessionState) : Type 0 where
  pub provs : (x : Provider) → Has x u.providers → (y : Provider) × Has y t.providers × (y.provider ≡ x.provider) × (y.client ≡ x.client)
  pub names : u.sessions ≡ t.sessions
  pub last : u.last_client ≡ t.last_client

pub slim_same : (t u : SessionState) → u.providers ≡ t.providers → u.sessions ≡ t.sessions → u.last_client ≡ t.last_client → Slimmer t u
slim_same t u e names last = record { provs = λ x i. (x, subst (Has x) e i, refl, refl); names = names; last = last }

pub slim_then : (t u v : SessionState) → Slimmer t u → Slimmer u v → Slimmer t v
slim_then t u v a b =
    record {
      provs = λ x i. let k = b.provs x i in let j = a.provs k.0 k.1 in (j.0, j.1, j.2 ∙ k.2, j.3 ∙ k.3);
      names = b.names ∙ a.names;
      last = b.last ∙ a.last;
    }

edited_back : (q : ProviderId) (f : Provider → Provider) → ((x : Provider) → (f x).provider ≡ x.provider) → ((x : Provider) → (f x).client ≡ x.client) → (xs : List Provider) (y : Provider) → Has y (edit_where (is_provider q) f xs) → (x : Provider) × Has x xs × (x.provider ≡ y.provider) × (x.client ≡ y.client)
edited_back q f keeps clients [] y i = absurd i
edited_back q f keeps clients (z ∷ zs) y i = by (is_provider q z) i (edited_back q f keeps clients zs y)
  where
    by : (b : Bool) → Has y (if b then f z ∷ zs else z ∷ edit_where (is_provider q) f zs) → (Has y (edit_where (is_provider q) f zs) → (x : Provider) × Has x zs × (x.provider ≡ y.provider) × (x.client ≡ y.client)) → (x : Provider) × Has x (z ∷ zs) × (x.provider ≡ y.provider) × (x.client ≡ y.client)
    by true (inl e) rest = (z, inl refl, sym (keeps z) ∙ ap (λ (a : Provider). a.provider) (sym e), sym (clients z) ∙ ap (λ (a : Provider). a.client) (sym e))
    by true (inr j) rest = (y, inr j, refl, refl)
    by false (inl e) rest = (y, inl e, refl, refl)
    by false (inr j) rest = let k = rest j in (k.0, inr k.1, k.2, k.3)

slim_edit : (s : SessionState) (q : ProviderId) (f : Provider → Provider) → ((x : Provider) → (f x).provider ≡ x.provider) → ((x : Provider) → (f x).client ≡ x.client) → Slimmer s (with_provider s q f)
unfolding with_provider
slim_edit s q f keeps clients = record { provs = λ y i. edited_back q f keeps clients s.providers y i; names = refl; last = refl }

slim_edits : (f : Provider → Provider) → ((x : Provider) → (f x).provider ≡ x.provider) → ((x : Provider) → (f x).client ≡ x.client) → (qs : List ProviderId) (s : SessionState) → Slimmer s (fold (λ t q. with_provider t q f) s qs)
slim_edits f keeps clients [] s = slim_same s s refl refl refl
slim_edits f keeps clients (q ∷ qs) s = slim_then s (with_provider s q f) (fold (λ t q. with_provider t q f) (with_provider s q f) qs) (slim_edit s q f keeps clients) (slim_edits f keeps clients qs (with_provider s q f))

slim_without : (s : SessionState) (out : List ProviderId) → Slimmer s (without_providers s out)
unfolding without_providers
slim_without s out = record { provs = λ x i. (x, (has_filter (λ (x : Provider). not (among out x.provider)) x s.providers i).0, refl, refl); names = refl; last = refl }

opened_client : (e : Entry) (after : GroupState) (x : Provider) → (opened_after e after x).client ≡ x.client
unfolding opened_after
opened_client (Once x) after y = refl
opened_client _ after y = refl

slim_after : (s : SessionState) (g : List ℕ) (e : Entry) → Slimmer s (kept_after s g e)
unfolding kept_after kept_ended
slim_after s g (Phase c) = slim_same s _ refl refl refl
slim_after s g (Approve c) = slim_same s _ refl refl refl
slim_after s g (Reject c) = slim_same s _ refl refl refl
slim_after s g _ = slim_same s s refl refl refl

slim_joins : (ps : List ProviderId) (s : SessionState) → Slimmer s (fold (λ t (p : ProviderId). end_request t p p.join) s ps)
unfolding end_request
slim_joins [] s = slim_same s s refl refl refl
slim_joins (p ∷ ps) s = slim_then s (end_request s p p.join) (fold (λ t (p : ProviderId). end_request t p p.join) (end_request s p p.join) ps) (slim_same s (end_request s p p.join) refl refl refl) (slim_joins ps (end_request s p p.join))

slim_begun : (s : SessionState) (x : Proposal) → Slimmer s (proposal_begun s x)
unfolding proposal_begun end_request
slim_begun s (Join ps attrs n) = slim_joins ps s
slim_begun s (Fail out) = slim_same s s refl refl refl
slim_begun s (Reflect view place value) = slim_same s s refl refl refl
slim_begun s _ = slim_same s _ refl refl refl

slim_requests : (s : SessionState) (e : Entry) → Slimmer s (requests_after s e)
unfolding requests_after
slim_requests s (Once x) = slim_begun s x
slim_requests s (Begin x) = slim_begun s x
slim_requests s _ = slim_same s s refl refl refl

pub handed_slim : (s : SessionState) (g : List ℕ) (before after : GroupState) (e : Entry) (bs : List (Option Filled)) → Slimmer s (handed_on s g before after e bs)
unfolding handed_on heard part_taken open_phases keep_casts
handed_slim s g before after e bs =
    slim_then s k (without_providers r (removed_from after ps)) (slim_after s g e) (slim_then k t (without_providers r (removed_from after ps)) (slim_edits taking_part (λ x. refl) (λ x. refl) (beginners s g e) k) (slim_then t o (without_providers r (removed_from after ps)) (slim_edits (opened_after e after) (opened_p e after) (opened_client e after) ps t) (slim_then o u (without_providers r (removed_from after ps)) (slim_same o u refl refl refl) (slim_then u r (without_providers r (removed_from after ps)) (slim_requests u e) (slim_without r (removed_from after ps))))))
  where
    ps : List ProviderId
    ps = hearers s g before e

    k : SessionState
    k = kept_after s g e

    t : SessionState
    t = fold (λ t p. with_provider t p taking_part) k (beginners s g e)

    o : SessionState
    o = fold (λ t p. with_provider t p (opened_after e after)) t ps

    u : SessionState
    u = keep_casts o g (casts_out s g before after e bs)

    r : SessionState
    r = requests_after u e

pub told_slim : (s : SessionState) (p : ProviderId) (r : ℕ) (y : Why) → Slimmer s (take_telling s p r y)
unfolding take_telling told_of
told_slim s p r y = by (takes_telling s p r y) (is_join_request (outstanding s p) || is_dissolved y)
  where
    by : (a b : Bool) → Slimmer s (if a then (if b then without_providers s (p ∷ []) else record s { requests = filter (λ (q : Request). not (among (p ∷ []) q.provider)) s.requests }) else s)
    by false b = slim_same s s refl refl refl
    by true true = slim_without s (p ∷ [])
    by true false = slim_same s _ refl refl refl

-- ---- who hears an entry

-- a member or a running joiner before it, or one that it brings
pub hearer_was : (s : SessionState) (g : List ℕ) (before : GroupState) (e : Entry) (p : ProviderId) → Has p (hearers s g before e) → (among (present before) p ≡ true) ⊎ (is_join_of p e ≡ true)
unfolding hearers hearers_in beginners
hearer_was s g before e p i =
    first (has_append p (filter (λ q. hears g true (provider_of s q)) before.members ++ filter (λ q. hears g true (provider_of s q)) (joiners_in before.running)) (filter (λ q. hears g false (provider_of s q)) (brought_by e)) i)
  where
    brought : (e : Entry) → Has p (brought_by e) → is_join_of p e ≡ true
    brought (Once x) j = has_among (joins_of x) p j
    brought (Begin x) j = has_among (joins_of x) p j
    brought _ j = absurd j

    there : Has p (filter (λ q. hears g true (provider_of s q)) before.members) ⊎ Has p (filter (λ q. hears g true (provider_of s q)) (joiners_in before.running)) → among (present before) p ≡ true
    there (inl j) = has_among (present before) p (append_has_left p before.members (joiners_in before.running) (has_filter (λ q. hears g true (provider_of s q)) p before.members j).0)
    there (inr j) = has_among (present before) p (append_has_right p before.members (joiners_in before.running) (has_filter (λ q. hears g true (provider_of s q)) p (joiners_in before.running) j).0)

    first : Has p (filter (λ q. hears g true (provider_of s q)) before.members ++ filter (λ q. hears g true (provider_of s q)) (joiners_in before.running)) ⊎ Has p (filter (λ q. hears g false (provider_of s q)) (brought_by e)) → (among (present before) p ≡ true) ⊎ (is_join_of p e ≡ true)
    first (inl j) = inl (there (has_append p (filter (λ q. hears g true (provider_of s q)) before.members) (filter (λ q. hears g true (provider_of s q)) (joiners_in before.running)) j))
    first (inr j) = inr (brought e (has_filter (λ q. hears g false (provider_of s q)) p (brought_by e) j).0)
