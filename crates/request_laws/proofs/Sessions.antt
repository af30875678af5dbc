-- What becomes of an outstanding request as an entry is handed on, and as its provider is told something.
use Rattle.std.proofs.Common.{◌≡◌, ◌⊎◌, ℕ, List, [], ◌∷◌, Option, Some, None, Bool, true, false, refl, sym, ap, ◌∙◌, subst, inl, inr}
use Rattle.std.specs.Prelude.{◌==◌, ◌||◌, not, map, filter, fold, find, is_none, if◌then◌else◌}
use Rattle.std.proofs.lemmas.Bool.{eqb-true, and_parts}
use Rattle.rsct_packet.specs.declared.ids.ProviderId.{ProviderId}
use Rattle.rsct_packet.specs.Providers.{among, same_provider}
use Rattle.rsct_packet.specs.Search.{Has}
use Rattle.rsct_packet.proofs.HasLaws.{has_filter, filter_has, find_has, find_none}
use Rattle.proposal_core.specs.declared.proposal.Proposal.{Proposal}
use Rattle.proposal_core.specs.declared.proposal.Proposal.TheVariants.{Join, Leave, Fail, Expel, State, Message, Attributes, Reflect}
use Rattle.proposal_core.specs.declared.entry.Entry.{Entry}
use Rattle.proposal_core.specs.declared.entry.Entry.TheVariants.{Once, Begin, Phase, Approve, Reject, Late}
use Rattle.proposal_core.specs.declared.group_state.GroupState.{GroupState}
use Rattle.client_callbacks.specs.declared.ballot.Filled.{Filled}
use Rattle.client_callbacks.specs.declared.told.Why.{Why}
use Rattle.session_state.specs.declared.state.Provider.{Provider}
use Rattle.session_state.specs.declared.state.Request.{Request}
use Rattle.session_state.specs.declared.state.SessionState.{SessionState}
use Rattle.session_state.specs.State.{is_request, is_asked_by, outstanding, with_provider, end_request, without_providers}
use Rattle.session_state.specs.HandOn.{kept_ended, kept_after, beginners, hearers, taking_part, part_taken, opened_after, open_phases, casts_out, keep_casts, proposal_begun, requests_after, removed_from, heard, handed_on, is_dissolved, is_join_request, takes_telling, told_of, take_telling}
use Rattle.run_safety.specs.Requests.{requests_of, carried}
use Rattle.step_refinement.proofs.SessionLaws.{provider_same, provider_self}
use Rattle.row_laws.proofs.failed_rows.Living.{IsLive}

-- of each provider at most one request is outstanding
abbrev pub IsSingle : SessionState → Type 0
IsSingle t = (a b : Request) → Has a t.requests → Has b t.requests → a.provider ≡ b.provider → a ≡ b

-- ---- what is outstanding

-- the request of a provider is the one that is outstanding
pub outstanding_is : (t : SessionState) (q : Request) → IsSingle t → Has q t.requests → outstanding t q.provider ≡ Some q
unfolding outstanding
outstanding_is t q single i = by (find (is_asked_by q.provider) t.requests) refl
  where
    by : (o : Option Request) → find (is_asked_by q.provider) t.requests ≡ o → o ≡ Some q
    by None e = absurd (find_none (is_asked_by q.provider) t.requests q (ap is_none e) i (provider_self q.provider))
    by (Some a) e =
        let h = find_has (is_asked_by q.provider) t.requests a e in
        ap (λ (z : Request). Some z) (single a q h.0 i (provider_same a.provider q.provider h.1))

-- ---- telling

-- only requests of who is told go
pub told_keeps : (t : SessionState) (p : ProviderId) (r : ℕ) (y : Why) (q : Request) → Has q t.requests → Has q (take_telling t p r y).requests ⊎ (q.provider ≡ p)
unfolding take_telling told_of without_providers
told_keeps t p r y q i = by (takes_telling t p r y) (is_join_request (outstanding t p) || is_dissolved y) (same_provider p q.provider) refl
  where
    stays : same_provider p q.provider ≡ false → Has q (filter (λ (z : Request). not (among (p ∷ []) z.provider)) t.requests)
    stays e = filter_has (λ (z : Request). not (among (p ∷ []) z.provider)) q t.requests i (ap (λ b. not (b || false)) e)

    by : (a b c : Bool) → same_provider p q.provider ≡ c → Has q (if a then (if b then without_providers t (p ∷ []) else record t { requests = filter (λ (z : Request). not (among (p ∷ []) z.provider)) t.requests }) else t).requests ⊎ (q.provider ≡ p)
    by false b c e = inl i
    by true b true e = inr (sym (provider_same p q.provider e))
    by true true false e = inl (stays e)
    by true false false e = inl (stays e)

-- ---- handing on

-- only the request that is named is ended
ended_keeps : (t : SessionState) (p : ProviderId) (r : ℕ) (q : Request) → Has q t.requests → Has q (end_request t p r).requests ⊎ Has {A = ProviderId × ℕ} (q.provider, q.request) ((p, r) ∷ [])
unfolding end_request
ended_keeps t p r q i = by (is_request p r q) refl
  where
    by : (b : Bool) → is_request p r q ≡ b → Has q (filter (λ (z : Request). not (is_request p r z)) t.requests) ⊎ Has {A = ProviderId × ℕ} (q.provider, q.request) ((p, r) ∷ [])
    by false e = inl (filter_has (λ (z : Request). not (is_request p r z)) q t.requests i (ap not e))
    by true e =
        let both = and_parts (same_provider q.provider p) (q.request == r) e in
        inr (inl (λ j. (provider_same q.provider p both.0 j, eqb-true q.request r both.1 j)))

joins_keep : (ps : List ProviderId) (t : SessionState) (q : Request) → Has q t.requests → Has q (fold (λ t (p : ProviderId). end_request t p p.join) t ps).requests ⊎ Has {A = ProviderId × ℕ} (q.provider, q.request) (map (λ (p : ProviderId). (p, p.join)) ps)
joins_keep [] t q i = inl i
joins_keep (p ∷ ps) t q i = by (ended_keeps t p p.join q i) (joins_keep ps (end_request t p p.join) q)
  where
    late : Has q (fold (λ t (p : ProviderId). end_request t p p.join) (end_request t p p.join) ps).requests ⊎ Has {A = ProviderId × ℕ} (q.provider, q.request) (map (λ (p : ProviderId). (p, p.join)) ps) → Has q (fold (λ t (p : ProviderId). end_request t p p.join) (end_request t p p.join) ps).requests ⊎ Has {A = ProviderId × ℕ} (q.provider, q.request) ((p, p.join) ∷ map (λ (p : ProviderId). (p, p.join)) ps)
    late (inl j) = inl j
    late (inr j) = inr (inr j)

    by : Has q (end_request t p p.join).requests ⊎ Has {A = ProviderId × ℕ} (q.provider, q.request) ((p, p.join) ∷ []) → (Has q (end_request t p p.join).requests → Has q (fold (λ t (p : ProviderId). end_request t p p.join) (end_request t p p.join) ps).requests ⊎ Has {A = ProviderId × ℕ} (q.provider, q.request) (map (λ (p : ProviderId). (p, p.join)) ps)) → Has q (fold (λ t (p : ProviderId). end_request t p p.join) (end_request t p p.join) ps).requests ⊎ Has {A = ProviderId × ℕ} (q.provider, q.request) ((p, p.join) ∷ map (λ (p : ProviderId). (p, p.join)) ps)
    by (inl j) rest = late (rest j)
    by (inr (inl e)) rest = inr (inl e)
    by (inr (inr z)) rest = absurd z

begun_keeps : (t : SessionState) (x : Proposal) (q : Request) → Has q t.requests → Has q (proposal_begun t x).requests ⊎ Has (q.provider, q.request) (requests_of x)
unfolding proposal_begun
begun_keeps t (Join ps attrs n) q i = joins_keep ps t q i
begun_keeps t (Leave p r) q i = ended_keeps t p r q i
begun_keeps t (Fail out) q i = inl i
begun_keeps t (Expel p r out) q i = ended_keeps t p r q i
begun_keeps t (State p r value) q i = ended_keeps t p r q i
begun_keeps t (Message p r bytes) q i = ended_keeps t p r q i
begun_keeps t (Attributes p r attrs) q i = ended_keeps t p r q i
begun_keeps t (Reflect view place value) q i = inl i

after_keeps : (t : SessionState) (e : Entry) (q : Request) → Has q t.requests → Has q (requests_after t e).requests ⊎ Has (q.provider, q.request) (carried e)
unfolding requests_after
after_keeps t (Once x) q i = begun_keeps t x q i
after_keeps t (Begin x) q i = begun_keeps t x q i
after_keeps t (Phase c) q i = inl i
after_keeps t (Approve c) q i = inl i
after_keeps t (Reject c) q i = inl i
after_keeps t (Late proto phase ps) q i = inl i

-- who is taken off is there no longer, and takes its requests along
not_live : (t : SessionState) (out : List ProviderId) (p : ProviderId) → among out p ≡ true → IsLive (without_providers t out) p → ⊥
unfolding without_providers
not_live t out p e k =
    let a = (has_filter (λ (x : Provider). not (among out x.provider)) k.0 t.providers k.1).1 in
    let b : not (among out (k.0).provider) ≡ false = ap (λ z. not (among out z)) k.2 ∙ ap not e in
    let z : true ≡ false = sym a ∙ b in cc

off_keeps : (t : SessionState) (out : List ProviderId) (q : Request) → Has q t.requests → Has q (without_providers t out).requests ⊎ (IsLive (without_providers t out) q.provider → ⊥)
unfolding without_providers
off_keeps t out q i = by (among out q.provider) refl
  where
    there : among out q.provider ≡ false → Has q (without_providers t out).requests
    there e = filter_has (λ (z : Request). not (among out z.provider)) q t.requests i (ap not e)

    by : (b : Bool) → among out q.provider ≡ b → Has q (without_providers t out).requests ⊎ (IsLive (without_providers t out) q.provider → ⊥)
    by false e = inl (there e)
    by true e = inr (not_live t out q.provider e)

-- editing providers leaves requests
edits_same : (f : Provider → Provider) (ps : List ProviderId) (t : SessionState) → (fold (λ t p. with_provider t p f) t ps).requests ≡ t.requests
unfolding with_provider
edits_same f [] t = refl
edits_same f (p ∷ ps) t = edits_same f ps (with_provider t p f)

ballots_same : (t : SessionState) (g : List ℕ) (e : Entry) → (kept_after t g e).requests ≡ t.requests
unfolding kept_after kept_ended
ballots_same t g (Once x) = refl
ballots_same t g (Begin x) = refl
ballots_same t g (Phase c) = refl
ballots_same t g (Approve c) = refl
ballots_same t g (Reject c) = refl
ballots_same t g (Late proto phase ps) = refl

-- a request stays, or the entry carries it, or its provider goes
pub handed_keeps : (t : SessionState) (g : List ℕ) (before after : GroupState) (e : Entry) (bs : List (Option Filled)) (q : Request) → Has q t.requests → Has q (handed_on t g before after e bs).requests ⊎ (Has (q.provider, q.request) (carried e) ⊎ (IsLive (handed_on t g before after e bs) q.provider → ⊥))
unfolding handed_on heard part_taken open_phases keep_casts
handed_keeps t g before after e bs q i = by (after_keeps u e q (subst (Has q) (sym same) i)) (off_keeps v (removed_from after ps) q)
  where
    ps : List ProviderId
    ps = hearers t g before e

    k : SessionState
    k = kept_after t g e

    a : SessionState
    a = fold (λ t p. with_provider t p taking_part) k (beginners t g e)

    o : SessionState
    o = fold (λ t p. with_provider t p (opened_after e after)) a ps

    u : SessionState
    u = keep_casts o g (casts_out t g before after e bs)

    v : SessionState
    v = requests_after u e

    same : u.requests ≡ t.requests
    same = edits_same (opened_after e after) ps a ∙ edits_same taking_part (beginners t g e) k ∙ ballots_same t g e

    by : Has q v.requests ⊎ Has (q.provider, q.request) (carried e) → (Has q v.requests → Has q (without_providers v (removed_from after ps)).requests ⊎ (IsLive (without_providers v (removed_from after ps)) q.provider → ⊥)) → Has q (without_providers v (removed_from after ps)).requests ⊎ (Has (q.provider, q.request) (carried e) ⊎ (IsLive (without_providers v (removed_from after ps)) q.provider → ⊥))
    by (inr names) rest = inr (inl names)
    by (inl j) rest = at (rest j)
      where
        at : Has q (without_providers v (removed_from after ps)).requests ⊎ (IsLive (without_providers v (removed_from after ps)) q.provider → ⊥) → Has q (without_providers v (removed_from after ps)).requests ⊎ (Has (q.provider, q.request) (carried e) ⊎ (IsLive (without_providers v (removed_from after ps)) q.provider → ⊥))
        at (inl z) = inl z
        at (inr z) = inr (inr z)
