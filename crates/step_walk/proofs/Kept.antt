-- The ballots that a node keeps: after an entry was delivered, after a telling, and after a call.
use Rattle.std.proofs.Common.{◌≡◌, ◌⊎◌, ℕ, List, [], ◌∷◌, ◌++◌, Option, Some, None, Bool, true, false, refl, sym, ◌∙◌, subst, inl, inr, ⊎_elim}
use Rattle.std.specs.Prelude.{◌||◌, fold, filter, find, not, if◌then◌else◌, Result, Ok, Err}
use Rattle.std.specs.List.{flat_map, last_or, list_any}
use Rattle.rsct_packet.specs.declared.ids.ProviderId.{ProviderId}
use Rattle.rsct_packet.specs.declared.ids.ProtoId.{ProtoId}
use Rattle.rsct_packet.specs.Providers.{among}
use Rattle.rsct_packet.specs.Search.{Has}
use Rattle.rsct_packet.proofs.HasLaws.{has_append, has_filter, append_has_left, append_has_right}
use Rattle.group_attr.specs.declared.attrs.Attrs.{Attrs}
use Rattle.group_attr.specs.declared.attrs.Phases.{Phases}
use Rattle.group_attr.specs.Attrs.{first_fault}
use Rattle.proposal_core.specs.declared.entry.Vote.{Vote}
use Rattle.proposal_core.specs.declared.entry.Entry.{Entry}
use Rattle.proposal_core.specs.declared.entry.Entry.TheVariants.{Once, Begin, Phase, Approve, Reject, Late}
use Rattle.proposal_core.specs.declared.proposal.Proposal.{Proposal}
use Rattle.proposal_core.specs.declared.proposal.Proposal.TheVariants.{Join, Leave, Fail, Expel, State, Message, Attributes, Reflect}
use Rattle.proposal_core.specs.declared.group_state.GroupState.{GroupState}
use Rattle.client_callbacks.specs.declared.ballot.Filled.{Filled}
use Rattle.client_callbacks.specs.declared.told.Why.{Why}
use Rattle.client_callbacks.specs.Ballots.{BallotView, is_within, value_limit}
use Rattle.subscribe_core.specs.declared.subs.ClientToken.{ClientToken}
use Rattle.subscribe_core.specs.declared.subs.SubToken.{SubToken}
use Rattle.subscribe_core.specs.Subs.{subs_add, subs_remove}
use Rattle.session_state.specs.declared.casts.Cast.{Cast}
use Rattle.session_state.specs.declared.fault.Field.TheVariants as field
use Rattle.session_state.specs.declared.fault.GsFault.{GsFault}
use Rattle.session_state.specs.declared.fault.GsFault.TheVariants as fault
use Rattle.session_state.specs.declared.state.KeptBallot.{KeptBallot}
use Rattle.session_state.specs.declared.state.MemberToken.{MemberToken}
use Rattle.session_state.specs.declared.state.OpenPhase.{OpenPhase}
use Rattle.session_state.specs.declared.state.Provider.{Provider}
use Rattle.session_state.specs.declared.state.Request.{Request}
use Rattle.session_state.specs.declared.state.SessionState.{SessionState}
use Rattle.session_state.specs.State.{is_member_of, is_kept_in, is_kept_for, outstanding, with_provider, end_request, without_providers}
use Rattle.session_state.specs.Calls.{unless_fault, fault_if, attributes_fault, init_fault, add_session, inited, join_fault, join_asked, joined, asked, ask_fault, member_asks, if_session, is_empty, request_made, value_fault, message_fault, targets_fault, left, expelled, state_changed, message_sent, member_changes, attributes_changed, ballot_of, keeps, vote_in, member_votes, voted, subscribe_fault, subscribe_taken, unsubscribe_fault, unsubscribe_taken, client_fault, is_owned, end_session, goodbye_taken}
use Rattle.session_state.specs.HandOn.{kept_ended, kept_after, beginners, hearers, part_taken, taking_part, opened_after, open_phases, kept_by, keep_casts, proposal_begun, requests_after, removed_from, casts_out, heard, handed_on, takes_telling, told_of, take_telling, is_join_request, is_dissolved}
use Rattle.node_state.specs.declared.happened.Happened.{Happened}
use Rattle.node_state.specs.declared.happened.Happened.TheVariants as happened
use Rattle.node_state.specs.declared.state.Core.{Core}
use Rattle.node_state.specs.HandOn as hand
use Rattle.node_state.specs.HandOn.{cast_record, cast_records}

-- ---- ballots that were recorded

-- what was filled in stands in the records
abbrev pub IsCast : List Happened → ProviderId → ProtoId → ℕ → Option Filled → Type 0
IsCast rs p proto phase None = Unit {0}
IsCast rs p proto phase (Some b) = Has (happened.Cast p proto phase b.vote b.value b.message) rs

-- of what a client casts
abbrev pub CastIs : List Happened → ProviderId → Option (ProtoId × ℕ × BallotView) → Type 0
CastIs rs p None = Unit {0}
CastIs rs p (Some x) = IsCast rs p x.0 x.1 (x.2).filled

-- of a ballot that is kept
abbrev pub KeptIs : List Happened → KeptBallot → Type 0
KeptIs rs k = IsCast rs k.provider k.proto k.phase k.ballot.filled

module _ (rs ts : List Happened) (more : (r : Happened) → Has r rs → Has r ts) where
  ballot_on : (p : ProviderId) (proto : ProtoId) (phase : ℕ) (b : Option Filled) → IsCast rs p proto phase b → IsCast ts p proto phase b
  ballot_on p proto phase None k = tt
  ballot_on p proto phase (Some b) k = more _ k

  pub cast_is_on : (p : ProviderId) (c : Option (ProtoId × ℕ × BallotView)) → CastIs rs p c → CastIs ts p c
  cast_is_on p None k = tt
  cast_is_on p (Some x) k = ballot_on p x.0 x.1 (x.2).filled k

ballot_recorded : (p : ProviderId) (proto : ProtoId) (phase : ℕ) (b : Option Filled) → IsCast (cast_record p proto phase b) p proto phase b
unfolding cast_record
ballot_recorded p proto phase None = tt
ballot_recorded p proto phase (Some b) = inl refl

cast_recorded : (p : ProviderId) (c : Option (ProtoId × ℕ × BallotView)) → CastIs (cast_records p c) p c
unfolding cast_records
cast_recorded p None = tt
cast_recorded p (Some x) = ballot_recorded p x.0 x.1 (x.2).filled

-- each cast is recorded
pub casts_recorded : (s : Core) (g : List ℕ) (i : ℕ) (e : Entry) (after : GroupState) (cs : List Cast) (c : Cast) → Has c cs → CastIs (flat_map (hand.heard s g i e after) cs) c.provider c.cast
unfolding hand.heard
casts_recorded s g i e after [] c j = absurd j
casts_recorded s g i e after (d ∷ cs) c (inl q) =
    subst (λ (x : Cast). CastIs (flat_map (hand.heard s g i e after) (d ∷ cs)) x.provider x.cast) (sym q) (cast_is_on (cast_records d.provider d.cast) (flat_map (hand.heard s g i e after) (d ∷ cs)) (λ r k. append_has_left r (hand.heard s g i e after d) (flat_map (hand.heard s g i e after) cs) (inr k)) d.provider d.cast (cast_recorded d.provider d.cast))
casts_recorded s g i e after (d ∷ cs) c (inr j) =
    cast_is_on (flat_map (hand.heard s g i e after) cs) (flat_map (hand.heard s g i e after) (d ∷ cs)) (λ r k. append_has_right r (hand.heard s g i e after d) (flat_map (hand.heard s g i e after) cs) k) c.provider c.cast (casts_recorded s g i e after cs c j)

-- ---- an entry is delivered

-- nothing new is kept
abbrev pub KeepsNoMore : SessionState → SessionState → Type 0
KeepsNoMore s t = (k : KeptBallot) → Has k t.kept → Has k s.kept

ended : (s : SessionState) (g : List ℕ) (proto : ProtoId) (phase : ℕ) → KeepsNoMore s (kept_ended s g proto phase)
unfolding kept_ended
ended s g proto phase k i = (has_filter (λ k. not (is_kept_in g proto phase k)) k s.kept i).0

after_entry : (s : SessionState) (g : List ℕ) (e : Entry) → KeepsNoMore s (kept_after s g e)
unfolding kept_after
after_entry s g (Once x) k i = i
after_entry s g (Begin x) k i = i
after_entry s g (Phase c) k i = ended s g c.proto c.phase k i
after_entry s g (Approve c) k i = ended s g c.proto c.phase k i
after_entry s g (Reject c) k i = ended s g c.proto c.phase k i
after_entry s g (Late proto phase ps) k i = i

parts_same : (ps : List ProviderId) (s : SessionState) → (fold (λ t p. with_provider t p taking_part) s ps).kept ≡ s.kept
unfolding with_provider
parts_same [] s = refl
parts_same (p ∷ ps) s = parts_same ps (with_provider s p taking_part)

opened_same : (e : Entry) (after : GroupState) (ps : List ProviderId) (s : SessionState) → (fold (λ t p. with_provider t p (opened_after e after)) s ps).kept ≡ s.kept
unfolding with_provider
opened_same e after [] s = refl
opened_same e after (p ∷ ps) s = opened_same e after ps (with_provider s p (opened_after e after))

joins_same : (ps : List ProviderId) (s : SessionState) → (fold (λ t (p : ProviderId). end_request t p p.join) s ps).kept ≡ s.kept
unfolding end_request
joins_same [] s = refl
joins_same (p ∷ ps) s = joins_same ps (end_request s p p.join)

begun_same : (s : SessionState) (x : Proposal) → (proposal_begun s x).kept ≡ s.kept
unfolding proposal_begun end_request
begun_same s (Join ps attrs n) = joins_same ps s
begun_same s (Leave p r) = refl
begun_same s (Fail out) = refl
begun_same s (Expel p r out) = refl
begun_same s (State p r value) = refl
begun_same s (Message p r bytes) = refl
begun_same s (Attributes p r attrs) = refl
begun_same s (Reflect view place value) = refl

requests_same : (s : SessionState) (e : Entry) → (requests_after s e).kept ≡ s.kept
unfolding requests_after
requests_same s (Once x) = begun_same s x
requests_same s (Begin x) = begun_same s x
requests_same s (Phase c) = refl
requests_same s (Approve c) = refl
requests_same s (Reject c) = refl
requests_same s (Late proto phase ps) = refl

pub without_no_more : (s : SessionState) (ps : List ProviderId) → KeepsNoMore s (without_providers s ps)
unfolding without_providers
without_no_more s ps k i = (has_filter (λ k. not (among ps k.provider)) k s.kept i).0

handed_kept : (s : SessionState) (g : List ℕ) (before after : GroupState) (e : Entry) (bs : List (Option Filled)) (k : KeptBallot) → Has k (handed_on s g before after e bs).kept → Has k s.kept ⊎ Has k (flat_map (λ (c : Cast). kept_by g c.provider c.cast) (casts_out s g before after e bs))
unfolding handed_on heard part_taken open_phases keep_casts
handed_kept s g before after e bs k i =
    let ps : List ProviderId = hearers s g before e in
    let t : SessionState = part_taken (kept_after s g e) (beginners s g e) in
    let o : SessionState = open_phases t e after ps in
    let cs : List Cast = casts_out s g before after e bs in
    let u : SessionState = keep_casts o g cs in
    let d : SessionState = requests_after u e in
    let was : o.kept ≡ (kept_after s g e).kept = opened_same e after ps t ∙ parts_same (beginners s g e) (kept_after s g e) in
    let j : Has k d.kept = without_no_more d (removed_from after ps) k i in
    let l : Has k (o.kept ++ flat_map (λ (c : Cast). kept_by g c.provider c.cast) cs) = subst (Has k) (requests_same u e) j in
    ⊎_elim (λ (a : Has k o.kept). inl (after_entry s g e k (subst (Has k) was a))) (λ (a : Has k (flat_map (λ (c : Cast). kept_by g c.provider c.cast) cs)). inr a) (has_append k o.kept (flat_map (λ (c : Cast). kept_by g c.provider c.cast) cs) l)

-- a new one is what a client casts
new_kept : (rs : List Happened) (g : List ℕ) (cs : List Cast) (k : KeptBallot) → Has k (flat_map (λ (c : Cast). kept_by g c.provider c.cast) cs) → ((c : Cast) → Has c cs → CastIs rs c.provider c.cast) → KeptIs rs k
new_kept rs g [] k i all = absurd i
new_kept rs g (c ∷ cs) k i all = by (new_kept rs g cs k) (has_append k (kept_by g c.provider c.cast) (flat_map (λ (c : Cast). kept_by g c.provider c.cast) cs) i)
  where
    own : (x : Option (ProtoId × ℕ × BallotView)) → Has k (kept_by g c.provider x) → CastIs rs c.provider x → KeptIs rs k
    own None i a = absurd i
    own (Some x) (inl e) a = subst (KeptIs rs) (sym e) a
    own (Some x) (inr z) a = absurd z

    by : (Has k (flat_map (λ (c : Cast). kept_by g c.provider c.cast) cs) → ((c : Cast) → Has c cs → CastIs rs c.provider c.cast) → KeptIs rs k) → Has k (kept_by g c.provider c.cast) ⊎ Has k (flat_map (λ (c : Cast). kept_by g c.provider c.cast) cs) → KeptIs rs k
    by rest (inl a) = own c.cast a (all c (inl refl))
    by rest (inr a) = rest a (λ x j. all x (inr j))

-- each kept ballot was kept before, or was cast
pub handed_casts : (rs : List Happened) (s : SessionState) (g : List ℕ) (before after : GroupState) (e : Entry) (bs : List (Option Filled)) → ((c : Cast) → Has c (casts_out s g before after e bs) → CastIs rs c.provider c.cast) → (k : KeptBallot) → Has k (handed_on s g before after e bs).kept → Has k s.kept ⊎ KeptIs rs k
handed_casts rs s g before after e bs new k i =
    ⊎_elim (λ (a : Has k s.kept). inl a) (λ (a : Has k (flat_map (λ (c : Cast). kept_by g c.provider c.cast) (casts_out s g before after e bs))). inr (new_kept rs g (casts_out s g before after e bs) k a new)) (handed_kept s g before after e bs k i)

-- a provider is told
pub told_no_more : (s : SessionState) (p : ProviderId) (r : ℕ) (y : Why) → KeepsNoMore s (take_telling s p r y)
unfolding take_telling told_of
told_no_more s p r y = by (takes_telling s p r y) (is_join_request (outstanding s p)) (is_dissolved y)
  where
    by : (a b c : Bool) → KeepsNoMore s (if a then (if b || c then without_providers s (p ∷ []) else record s { requests = filter (λ (q : Request). not (among (p ∷ []) q.provider)) s.requests }) else s)
    by false b c k i = i
    by true true c k i = without_no_more s (p ∷ []) k i
    by true false true k i = without_no_more s (p ∷ []) k i
    by true false false k i = i

-- ---- what calls make of the kept ballots

-- nothing new is kept where the call is taken
abbrev pub NoMore : SessionState → Result SessionState GsFault → Type 0
NoMore s (Ok t) = KeepsNoMore s t
NoMore s (Err f) = Unit {0}

unless_no_more : (s t : SessionState) (o : Option GsFault) → KeepsNoMore s t → NoMore s (unless_fault o t)
unless_no_more s t None k = k
unless_no_more s t (Some f) k = tt

if_no_more : (s : SessionState) (b : Bool) (r : Result SessionState GsFault) → NoMore s r → NoMore s (if_session b r)
if_no_more s true r k = tt
if_no_more s false r k = k

pub inited_no_more : (s : SessionState) (name : List ℕ) → NoMore s (inited s name)
unfolding inited add_session
inited_no_more s name = unless_no_more s (add_session s name) (init_fault s name) (λ k i. i)

pub joined_no_more : (s : SessionState) (t : ClientToken) (g : List ℕ) (instance : ℕ) (attrs : Attrs) → NoMore s (joined s t g instance attrs)
unfolding joined join_asked
joined_no_more s t g instance attrs = unless_no_more s (join_asked s t g instance attrs) (join_fault s t g attrs) (λ k i. i)

made_no_more : (s : SessionState) (m : MemberToken) (phases : Phases) (parameter : Option GsFault) (make : Provider → ℕ → Proposal) → NoMore s (request_made s m phases parameter make)
unfolding request_made asked
made_no_more s m phases parameter make =
    if_no_more s (is_empty s.sessions) (member_asks s (find (is_member_of m) s.providers) phases parameter make) (by (find (is_member_of m) s.providers))
  where
    by : (o : Option Provider) → NoMore s (member_asks s o phases parameter make)
    by None = tt
    by (Some x) = unless_no_more s (asked s x phases (make x)) (ask_fault s x parameter) (λ k i. i)

pub left_no_more : (s : SessionState) (m : MemberToken) (phases : Phases) → NoMore s (left s m phases)
unfolding left
left_no_more s m phases = made_no_more s m phases None (λ x r. Leave x.provider r)

pub expelled_no_more : (s : SessionState) (m : MemberToken) (phases : Phases) (out : List ProviderId) → NoMore s (expelled s m phases out)
unfolding expelled
expelled_no_more s m phases out = made_no_more s m phases (targets_fault out) (λ x r. Expel x.provider r out)

pub state_no_more : (s : SessionState) (m : MemberToken) (phases : Phases) (value : List ℕ) → NoMore s (state_changed s m phases value)
unfolding state_changed
state_no_more s m phases value = made_no_more s m phases (value_fault s (Some value)) (λ x r. State x.provider r value)

pub message_no_more : (s : SessionState) (m : MemberToken) (phases : Phases) (bytes : List ℕ) → NoMore s (message_sent s m phases bytes)
unfolding message_sent
message_no_more s m phases bytes = made_no_more s m phases (message_fault bytes) (λ x r. Message x.provider r bytes)

pub attributes_no_more : (s : SessionState) (m : MemberToken) (phases : Phases) (attrs : Attrs) → NoMore s (attributes_changed s m phases attrs)
unfolding attributes_changed asked
attributes_no_more s m phases attrs =
    if_no_more s (is_empty s.sessions) (member_changes s (find (is_member_of m) s.providers) phases attrs) (by (find (is_member_of m) s.providers))
  where
    by : (o : Option Provider) → NoMore s (member_changes s o phases attrs)
    by None = tt
    by (Some x) = unless_no_more s (asked s x phases (λ r. Attributes x.provider r attrs)) (ask_fault s x (attributes_fault (first_fault attrs x.group))) (λ k i. i)

pub subscribe_no_more : (s : SessionState) (t : ClientToken) (g : List ℕ) (known : Bool) → NoMore s (subscribe_taken s t g known)
unfolding subscribe_taken
subscribe_no_more s t g known = unless_no_more s (record s { subs = subs_add t g s.subs }) (subscribe_fault s t g known) (λ k i. i)

pub unsubscribe_no_more : (s : SessionState) (t : ClientToken) (sub : SubToken) → NoMore s (unsubscribe_taken s t sub)
unfolding unsubscribe_taken
unsubscribe_no_more s t sub = unless_no_more s (record s { subs = subs_remove sub s.subs }) (unsubscribe_fault s t sub) (λ k i. i)

pub goodbye_no_more : (s : SessionState) (t : ClientToken) → NoMore s (goodbye_taken s t)
unfolding goodbye_taken end_session
goodbye_no_more s t = unless_no_more s (end_session s t) (client_fault s t) (λ k i. (has_filter (λ (k : KeptBallot). not (is_owned s.providers t k.provider)) k s.kept i).0)

-- a vote is kept, as the last
pub record OneMore (s t : SessionState) : Type 0 where
  pub ballot : KeptBallot
  pub filled : Filled
  pub full : ballot.ballot.filled ≡ Some filled
  pub more : t.kept ≡ s.kept ++ ballot ∷ []

abbrev pub Votes : SessionState → Result SessionState GsFault → Type 0
Votes s (Ok t) = OneMore s t
Votes s (Err f) = Unit {0}

pub voted_more : (s : SessionState) (m : MemberToken) (v : Vote) (value : Option (List ℕ)) → Votes s (voted s m v value)
unfolding voted
voted_more s m v value = session (is_empty s.sessions)
  where
    kept : (x : Provider) (o : OpenPhase) (b : Option GsFault) → Votes s (unless_fault b (keeps s x o (record { vote = v; value = value; message = None })))
    kept x o None = record { ballot = record { provider = x.provider; group = x.group; proto = o.proto; phase = o.phase; ballot = ballot_of s.level (record { vote = v; value = value; message = None }) }; filled = record { vote = v; value = value; message = None }; full = refl; more = refl }
    kept x o (Some f) = tt

    opened : (x : Provider) (o : Option OpenPhase) → Votes s (vote_in s x v value o)
    opened x None = tt
    opened x (Some o) = kept x o (fault_if (list_any (is_kept_for x.provider o.proto o.phase) s.kept) fault.VoteNotExpected)

    within : (x : Provider) (b : Bool) → Votes s (if b then vote_in s x v value x.opened else Err (fault.BadParameter field.Value))
    within x true = opened x x.opened
    within x false = tt

    provider : (o : Option Provider) → Votes s (member_votes s o v value)
    provider None = tt
    provider (Some x) = within x (is_within (value_limit s.level) value)

    session : (b : Bool) → Votes s (if_session b (member_votes s (find (is_member_of m) s.providers) v value))
    session true = tt
    session false = provider (find (is_member_of m) s.providers)

pub last_has : (xs : List Request) (q : Request) (o : Option Request) → last_or o xs ≡ Some q → Has q xs ⊎ (o ≡ Some q)
last_has [] q o e = inr e
last_has (x ∷ xs) q o e = by (last_has xs q (Some x) e)
  where
    some_is : (a b : Request) → Some a ≡ Some b → a ≡ b
    some_is a b k = cc

    by : Has q xs ⊎ (Some x ≡ Some q) → Has q (x ∷ xs) ⊎ (o ≡ Some q)
    by (inl i) = inl (inr i)
    by (inr z) = inl (inl (sym (some_is x q z)))

pub last_is : (xs : List KeptBallot) (k : KeptBallot) (o : Option KeptBallot) → last_or o (xs ++ k ∷ []) ≡ Some k
last_is [] k o = refl
last_is (x ∷ xs) k o = last_is xs k (Some x)
