-- What calls and tellings leave of a node's providers.
use Rattle.std.proofs.Common.{◌≡◌, ◌≤◌, ℕ, List, [], ◌∷◌, Option, Some, None, Bool, true, false, refl, sym, ap, ◌∙◌, subst, inl, inr, arith}
use Rattle.std.specs.List.{list_any}
use Rattle.std.specs.Prelude.{not, ◌==◌, ◌&&◌, ◌||◌, filter, find, if◌then◌else◌, Result, Ok, Err}
use Rattle.rsct_packet.specs.declared.ids.ProviderId.{ProviderId}
use Rattle.rsct_packet.specs.Providers.{same_provider, among}
use Rattle.rsct_packet.specs.Search.{Has}
use Rattle.rsct_packet.proofs.HasLaws.{find_has, has_filter, filter_has}
use Rattle.group_attr.specs.declared.attrs.Phases.{Phases}
use Rattle.proposal_core.specs.declared.entry.Vote.{Vote}
use Rattle.proposal_core.specs.declared.proposal.Proposal.{Proposal}
use Rattle.client_callbacks.specs.declared.told.Why.{Why}
use Rattle.client_callbacks.specs.declared.ballot.Filled.{Filled}
use Rattle.client_callbacks.specs.Ballots.{is_within, value_limit}
use Rattle.subscribe_core.specs.declared.subs.ClientToken.{ClientToken}
use Rattle.session_state.specs.declared.fault.GsFault.{GsFault}
use Rattle.session_state.specs.declared.fault.GsFault.TheVariants as fault
use Rattle.session_state.specs.declared.fault.Field.TheVariants as field
use Rattle.group_attr.specs.declared.attrs.Attrs.{Attrs}
use Rattle.proposal_core.specs.declared.proposal.Proposal.TheVariants.{Attributes}
use Rattle.session_state.specs.declared.state.KeptBallot.{KeptBallot}
use Rattle.session_state.specs.declared.state.MemberToken.{MemberToken}
use Rattle.session_state.specs.declared.state.OpenPhase.{OpenPhase}
use Rattle.session_state.specs.declared.state.Provider.{Provider}
use Rattle.session_state.specs.declared.state.SessionState.{SessionState}
use Rattle.session_state.specs.State.{is_provider, is_client_of, is_member_of, is_kept_for, provider_of, outstanding, without_providers}
use Rattle.session_state.specs.Calls.{is_empty, fault_if, unless_fault, if_session, ask_fault, asked, member_asks, member_changes, vote_in, member_votes, voted, keeps, is_owned, end_session}
use Rattle.session_state.specs.HandOn.{takes_telling, told_of, take_telling, is_join_request, is_dissolved}
use Rattle.step_refinement.proofs.SessionLaws.{provider_same, provider_self}
use Rattle.row_laws.specs.hearing.Changes.{Fewer}

-- who is found is the provider
pub found_is : (s : SessionState) (p : ProviderId) (x : Provider) → provider_of s p ≡ Some x → x.provider ≡ p
unfolding provider_of
found_is s p x e = provider_same x.provider p (find_has (is_provider p) s.providers x e).1

-- who is found among those that were kept was found before
find_kept : (keep : Provider → Bool) (p : ProviderId) (xs : List Provider) → ((a b : Provider) → Has a xs → Has b xs → a.provider ≡ b.provider → keep a ≡ keep b) → (x : Provider) → find (is_provider p) (filter keep xs) ≡ Some x → find (is_provider p) xs ≡ Some x
find_kept keep p [] same x e = e
find_kept keep p (y ∷ ys) same x e = by (keep y) (is_provider p y) refl refl e (find_kept keep p ys (λ a b h k. same a b (inr h) (inr k)) x)
  where
    by : (b c : Bool) → keep y ≡ b → is_provider p y ≡ c → find (is_provider p) (if b then y ∷ filter keep ys else filter keep ys) ≡ Some x → (find (is_provider p) (filter keep ys) ≡ Some x → find (is_provider p) ys ≡ Some x) → (if c then Some y else find (is_provider p) ys) ≡ Some x
    by true true k q e rest = subst (λ c. (if c then Some y else find (is_provider p) (filter keep ys)) ≡ Some x) q e
    by true false k q e rest = rest (subst (λ c. (if c then Some y else find (is_provider p) (filter keep ys)) ≡ Some x) q e)
    by false true k q e rest =
        let f = find_has (is_provider p) (filter keep ys) x e in
        let g = has_filter keep x ys f.0 in
        let z : keep x ≡ keep y = same x y (inr g.0) (inl refl) (provider_same x.provider p f.1 ∙ sym (provider_same y.provider p q)) in
        absurd (let u : true ≡ false = sym g.1 ∙ z ∙ k in cc)
    by false false k q e rest = rest e

-- ---- what is lost

all_stay : (ks : List KeptBallot) → filter (λ k. true) ks ≡ ks
all_stay [] = refl
all_stay (k ∷ ks) = ap (λ xs. k ∷ xs) (all_stay ks)

-- what is kept was kept
pub fewer_has : (s t : SessionState) → Fewer s t → (k : KeptBallot) → Has k t.kept → Has k s.kept
fewer_has s t f k h = (has_filter f.rest.0 k s.kept (subst (Has k) f.rest.1 h)).0

pub fewer_same : (s t : SessionState) → t.me ≡ s.me → t.inc ≡ s.inc → s.last_request ≤ t.last_request → t.providers ≡ s.providers → t.kept ≡ s.kept → Fewer s t
unfolding provider_of
fewer_same s t me inc last e ballots =
    record {
      me = me;
      inc = inc;
      last = last;
      providers = λ p x q. ap (λ (z : List Provider). find (is_provider p) z) (sym e) ∙ q;
      rest = (λ k. true, ballots ∙ sym (all_stay s.kept));
      still = λ x k q h. subst (Has k) (sym ballots) h;
    }

-- the providers that go take their ballots with them
pub fewer_kept : (s t : SessionState) (keep : Provider → Bool) (stays : KeptBallot → Bool) → t.me ≡ s.me → t.inc ≡ s.inc → s.last_request ≤ t.last_request → ((a b : Provider) → Has a s.providers → Has b s.providers → a.provider ≡ b.provider → keep a ≡ keep b) → t.providers ≡ filter keep s.providers → t.kept ≡ filter stays s.kept → ((x : Provider) (k : KeptBallot) → Has x s.providers → x.provider ≡ k.provider → keep x ≡ true → stays k ≡ true) → Fewer s t
unfolding provider_of
fewer_kept s t keep stays me inc last same e ballots on =
    record {
      me = me;
      inc = inc;
      last = last;
      providers = λ p x q. find_kept keep p s.providers same x (ap (λ (z : List Provider). find (is_provider p) z) (sym e) ∙ q);
      rest = (stays, ballots);
      still = λ x k q h. subst (Has k) (sym ballots) (filter_has stays k s.kept h (left x k (ap (λ (z : List Provider). find (is_provider k.provider) z) (sym e) ∙ q)));
    }
  where
    left : (x : Provider) (k : KeptBallot) → find (is_provider k.provider) (filter keep s.providers) ≡ Some x → stays k ≡ true
    left x k q =
        let f = find_has (is_provider k.provider) (filter keep s.providers) x q in
        let g = has_filter keep x s.providers f.0 in
        on x k g.0 (provider_same x.provider k.provider f.1) g.1

pub fewer_without : (s : SessionState) (ps : List ProviderId) → Fewer s (without_providers s ps)
unfolding without_providers
fewer_without s ps =
    fewer_kept s (without_providers s ps) (λ x. not (among ps x.provider)) (λ k. not (among ps k.provider)) refl refl (omega arith) (λ a b h k e. ap (λ z. not (among ps z)) e) refl refl (λ x k h e t. ap (λ z. not (among ps z)) (sym e) ∙ t)

pub fewer_told : (s : SessionState) (p : ProviderId) (r : ℕ) (y : Why) → Fewer s (take_telling s p r y)
unfolding take_telling told_of
fewer_told s p r y = by (takes_telling s p r y) (is_join_request (outstanding s p) || is_dissolved y)
  where
    by : (a b : Bool) → Fewer s (if a then (if b then without_providers s (p ∷ []) else record s { requests = filter (λ q. not (among (p ∷ []) q.provider)) s.requests }) else s)
    by false b = fewer_same s s refl refl (omega arith) refl refl
    by true true = fewer_without s (p ∷ [])
    by true false = fewer_same s (record s { requests = filter (λ q. not (among (p ∷ []) q.provider)) s.requests }) refl refl (omega arith) refl refl

-- a client's providers go with it
pub fewer_ended : (s : SessionState) (t : ClientToken) → ((a b : Provider) → Has a s.providers → Has b s.providers → a.provider ≡ b.provider → a.client ≡ b.client) → Fewer s (end_session s t)
unfolding end_session
fewer_ended s t owner =
    fewer_kept s (end_session s t) (λ x. not (is_client_of t x)) (λ k. not (is_owned s.providers t k.provider)) refl refl (omega arith) (λ a b h k e. ap (λ (c : ClientToken). not (c.number == t.number)) (owner a b h k e)) refl refl (λ x k h e stays. ap not (unowned x k.provider h e stays s.providers (λ y i. i)))
  where
    -- whose provider stays has no other that goes
    unowned : (x : Provider) (p : ProviderId) → Has x s.providers → x.provider ≡ p → not (is_client_of t x) ≡ true → (ys : List Provider) → ((y : Provider) → Has y ys → Has y s.providers) → is_owned ys t p ≡ false
    unowned x p h e stays [] all = refl
    unowned x p h e stays (y ∷ ys) all = by (is_client_of t y) (same_provider y.provider p) refl refl (unowned x p h e stays ys (λ z i. all z (inr i)))
      where
        by : (a b : Bool) → is_client_of t y ≡ a → same_provider y.provider p ≡ b → is_owned ys t p ≡ false → ((a && b) || is_owned ys t p) ≡ false
        by true true c d rest =
            let f : y.client ≡ x.client = owner y x (all y (inl refl)) h (provider_same y.provider p d ∙ sym e) in
            let g : is_client_of t x ≡ true = ap (λ (z : ClientToken). z.number == t.number) (sym f) ∙ c in
            absurd (let z : true ≡ false = sym stays ∙ ap not g in cc)
        by true false c d rest = rest
        by false b c d rest = rest

-- ---- calls

pub unless_is : (o : Option GsFault) (t u : SessionState) → unless_fault o t ≡ Ok u → u ≡ t
unless_is None t u e = cc
unless_is (Some f) t u e = absurd (cc)

fewer_asked : (s : SessionState) (x : Provider) (phases : Phases) (make : ℕ → Proposal) → Fewer s (asked s x phases make)
unfolding asked
fewer_asked s x phases make = fewer_same s (asked s x phases make) refl refl (omega arith) refl refl

pub fewer_unless : (s : SessionState) (o : Option GsFault) (t u : SessionState) → Fewer s t → unless_fault o t ≡ Ok u → Fewer s u
fewer_unless s o t u k e = subst (Fewer s) (sym (unless_is o t u e)) k

pub fewer_if : (s : SessionState) (b : Bool) (r : Result SessionState GsFault) (u : SessionState) → ((u : SessionState) → r ≡ Ok u → Fewer s u) → if_session b r ≡ Ok u → Fewer s u
fewer_if s true r u k e = absurd (cc)
fewer_if s false r u k e = k u e

pub fewer_asks : (s : SessionState) (o : Option Provider) (phases : Phases) (f : Option GsFault) (make : Provider → ℕ → Proposal) (u : SessionState) → member_asks s o phases f make ≡ Ok u → Fewer s u
fewer_asks s None phases f make u e = absurd (cc)
fewer_asks s (Some x) phases f make u e = fewer_unless s (ask_fault s x f) (asked s x phases (make x)) u (fewer_asked s x phases (make x)) e

pub fewer_changes : (s : SessionState) (o : Option Provider) (phases : Phases) (attrs : Attrs) (u : SessionState) → member_changes s o phases attrs ≡ Ok u → Fewer s u
fewer_changes s None phases attrs u e = absurd (cc)
fewer_changes s (Some x) phases attrs u e = fewer_unless s _ (asked s x phases (λ r. Attributes x.provider r attrs)) u (fewer_asked s x phases (λ r. Attributes x.provider r attrs)) e

-- a provider that a token names is the one that its id names: who has the id has the token's number
pub named_found : (s : SessionState) (m : MemberToken) (x : Provider) → find (is_member_of m) s.providers ≡ Some x → provider_of s x.provider ≡ Some x
unfolding provider_of
named_found s m x = by s.providers
  where
    by : (ys : List Provider) → find (is_member_of m) ys ≡ Some x → find (is_provider x.provider) ys ≡ Some x
    by [] e = absurd (cc)
    by (y ∷ ys) e = at (is_member_of m y) (is_provider x.provider y) refl refl e (by ys)
      where
        at : (a b : Bool) → is_member_of m y ≡ a → is_provider x.provider y ≡ b → (if a then Some y else find (is_member_of m) ys) ≡ Some x → (find (is_member_of m) ys ≡ Some x → find (is_provider x.provider) ys ≡ Some x) → (if b then Some y else find (is_provider x.provider) ys) ≡ Some x
        at true true a b e rest = e
        at true false a b e rest =
            let z : y ≡ x = cc in
            absurd (let u : true ≡ false = sym (provider_self x.provider) ∙ ap (λ (w : Provider). same_provider w.provider x.provider) (sym z) ∙ b in cc)
        at false true a b e rest =
            let f = (find_has (is_member_of m) ys x e).1 in
            absurd (let u : true ≡ false = sym f ∙ ap (λ (w : ProviderId). w.join == m.number) (sym (provider_same y.provider x.provider b)) ∙ a in cc)
        at false false a b e rest = rest e

-- what a call of a provider's vote keeps
pub record Casts (s u : SessionState) : Type 0 where
  pub by : Provider
  pub phase : OpenPhase
  pub ballot : Filled
  pub found : provider_of s by.provider ≡ Some by
  pub opened : by.opened ≡ Some phase
  pub unkept : list_any (is_kept_for by.provider phase.proto phase.phase) s.kept ≡ false
  pub is : u ≡ keeps s by phase ballot

casts_in : (s : SessionState) (x : Provider) (v : Vote) (value : Option (List ℕ)) (o : Option OpenPhase) (u : SessionState) → provider_of s x.provider ≡ Some x → x.opened ≡ o → vote_in s x v value o ≡ Ok u → Casts s u
casts_in s x v value None u found is e = absurd (cc)
casts_in s x v value (Some o) u found is e = at (list_any (is_kept_for x.provider o.proto o.phase) s.kept) refl e
  where
    f : Filled
    f = record { vote = v; value = value; message = None }

    at : (b : Bool) → list_any (is_kept_for x.provider o.proto o.phase) s.kept ≡ b → unless_fault (fault_if b fault.VoteNotExpected) (keeps s x o f) ≡ Ok u → Casts s u
    at true b e = absurd (cc)
    at false b e = record { by = x; phase = o; ballot = f; found = found; opened = is; unkept = b; is = unless_is None (keeps s x o f) u e }

pub casts_voted : (s : SessionState) (m : MemberToken) (v : Vote) (value : Option (List ℕ)) (u : SessionState) → voted s m v value ≡ Ok u → Casts s u
unfolding voted
casts_voted s m v value u = first (is_empty s.sessions)
  where
    limit : (x : Provider) → provider_of s x.provider ≡ Some x → (b : Bool) → (if b then vote_in s x v value x.opened else Err (fault.BadParameter field.Value)) ≡ Ok u → Casts s u
    limit x found true e = casts_in s x v value x.opened u found refl e
    limit x found false e = absurd (cc)

    at : (o : Option Provider) → find (is_member_of m) s.providers ≡ o → member_votes s o v value ≡ Ok u → Casts s u
    at None q e = absurd (cc)
    at (Some x) q e = limit x (named_found s m x q) (is_within (value_limit s.level) value) e

    first : (b : Bool) → if_session b (member_votes s (find (is_member_of m) s.providers) v value) ≡ Ok u → Casts s u
    first true e = absurd (cc)
    first false e = at (find (is_member_of m) s.providers) refl e
