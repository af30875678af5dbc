-- What a node owes as an entry is handed on: no request more, and a ballot for each that hears it.
use Rattle.std.proofs.Common.{◌≡◌, ◌≤◌, ℕ, ◌+◌, List, [], ◌∷◌, length, filter, fold, flat_map, Some, None, Option, Bool, true, false, refl, ap, arith, length-append}
use Rattle.std.specs.Prelude.{not, ◌||◌, if◌then◌else◌}
use Rattle.rsct_packet.specs.declared.ids.ProviderId.{ProviderId}
use Rattle.rsct_packet.specs.declared.ids.ProtoId.{ProtoId}
use Rattle.rsct_packet.specs.Providers.{among}
use Rattle.rsct_packet.specs.Search.{edit_where}
use Rattle.proposal_core.specs.declared.entry.Entry.{Entry}
use Rattle.proposal_core.specs.declared.entry.Entry.TheVariants.{Once, Begin, Phase, Approve, Reject, Late}
use Rattle.proposal_core.specs.declared.proposal.Proposal.{Proposal}
use Rattle.proposal_core.specs.declared.proposal.Proposal.TheVariants.{Join, Leave, Fail, Expel, State, Message, Attributes, Reflect}
use Rattle.proposal_core.specs.declared.group_state.GroupState.{GroupState}
use Rattle.client_callbacks.specs.declared.ballot.Filled.{Filled}
use Rattle.client_callbacks.specs.declared.told.Why.{Why}
use Rattle.client_callbacks.specs.Ballots.{BallotView}
use Rattle.session_state.specs.declared.casts.Cast.{Cast}
use Rattle.session_state.specs.declared.state.KeptBallot.{KeptBallot}
use Rattle.session_state.specs.declared.state.Provider.{Provider}
use Rattle.session_state.specs.declared.state.SessionState.{SessionState}
use Rattle.session_state.specs.State.{is_provider, is_kept_in, is_request, outstanding, with_provider, end_request, without_providers}
use Rattle.session_state.specs.HandOn.{kept_ended, kept_after, beginners, hearers, part_taken, taking_part, opened_after, open_phases, kept_by, keep_casts, proposal_begun, requests_after, removed_from, casts_out, heard, handed_on, takes_telling, is_join_request, is_dissolved, told_of, take_telling}
use Rattle.send_laws.proofs.Counts.{kept_few}

pub record Less (n : ℕ) (s t : SessionState) : Type 0 where
  pub kept : length t.kept ≤ length s.kept + n
  pub requests : length t.requests ≤ length s.requests
  pub providers : length t.providers ≤ length s.providers

pub less_same : (s : SessionState) → Less 0 s s
less_same s = record { kept = omega arith; requests = omega arith; providers = omega arith }

pub less_then : (a b : ℕ) (s t u : SessionState) → Less a s t → Less b t u → Less (a + b) s u
less_then a b s t u x y =
    record { kept = omega (arith, x.kept, y.kept); requests = omega (arith, x.requests, y.requests); providers = omega (arith, x.providers, y.providers) }

less_fold : {A : Type 0} (f : SessionState → A → SessionState) → ((s : SessionState) (x : A) → Less 0 s (f s x)) → (xs : List A) (s : SessionState) → Less 0 s (fold f s xs)
less_fold f one [] s = less_same s
less_fold f one (x ∷ xs) s = less_then 0 0 s (f s x) (fold f (f s x) xs) (one s x) (less_fold f one xs (f s x))

less_ended : (s : SessionState) (g : List ℕ) (proto : ProtoId) (phase : ℕ) → Less 0 s (kept_ended s g proto phase)
unfolding kept_ended
less_ended s g proto phase =
    record { kept = omega (arith, kept_few (λ k. not (is_kept_in g proto phase k)) s.kept); requests = omega arith; providers = omega arith }

less_after : (s : SessionState) (g : List ℕ) (e : Entry) → Less 0 s (kept_after s g e)
unfolding kept_after
less_after s g (Once x) = less_same s
less_after s g (Begin x) = less_same s
less_after s g (Phase c) = less_ended s g c.proto c.phase
less_after s g (Approve c) = less_ended s g c.proto c.phase
less_after s g (Reject c) = less_ended s g c.proto c.phase
less_after s g (Late proto phase ps) = less_same s

edited_long : {A : Type 0} (test : A → Bool) (f : A → A) (xs : List A) → length (edit_where test f xs) ≡ length xs
edited_long test f [] = refl
edited_long test f (x ∷ xs) = by (test x) (edited_long test f xs)
  where
    by : (b : Bool) → length (edit_where test f xs) ≡ length xs → length (if b then f x ∷ xs else x ∷ edit_where test f xs) ≡ length (x ∷ xs)
    by true h = omega arith
    by false h = omega (arith, h)

less_provider : (s : SessionState) (p : ProviderId) (f : Provider → Provider) → Less 0 s (with_provider s p f)
unfolding with_provider
less_provider s p f =
    record { kept = omega arith; requests = omega arith; providers = omega (arith, edited_long (is_provider p) f s.providers) }

less_request : (s : SessionState) (p : ProviderId) (r : ℕ) → Less 0 s (end_request s p r)
unfolding end_request
less_request s p r =
    record { kept = omega arith; requests = kept_few (λ q. not (is_request p r q)) s.requests; providers = omega arith }

less_begun : (s : SessionState) (x : Proposal) → Less 0 s (proposal_begun s x)
unfolding proposal_begun
less_begun s (Join ps attrs n) = less_fold (λ t p. end_request t p p.join) (λ t p. less_request t p p.join) ps s
less_begun s (Leave p r) = less_request s p r
less_begun s (Fail out) = less_same s
less_begun s (Expel p r out) = less_request s p r
less_begun s (State p r value) = less_request s p r
less_begun s (Message p r bytes) = less_request s p r
less_begun s (Attributes p r attrs) = less_request s p r
less_begun s (Reflect view place value) = less_same s

less_requests : (s : SessionState) (e : Entry) → Less 0 s (requests_after s e)
unfolding requests_after
less_requests s (Once x) = less_begun s x
less_requests s (Begin x) = less_begun s x
less_requests s (Phase c) = less_same s
less_requests s (Approve c) = less_same s
less_requests s (Reject c) = less_same s
less_requests s (Late proto phase ps) = less_same s

pub less_without : (s : SessionState) (ps : List ProviderId) → Less 0 s (without_providers s ps)
unfolding without_providers
less_without s ps =
    record {
      kept = omega (arith, kept_few (λ k. not (among ps k.provider)) s.kept);
      requests = kept_few (λ q. not (among ps q.provider)) s.requests;
      providers = kept_few (λ (x : Provider). not (among ps x.provider)) s.providers;
    }

one_kept : (g : List ℕ) (p : ProviderId) (o : Option (ProtoId × ℕ × BallotView)) → length (kept_by g p o) ≤ 1
one_kept g p None = omega arith
one_kept g p (Some c) = omega arith

few_kept : (g : List ℕ) (cs : List Cast) → length (flat_map (λ (c : Cast). kept_by g c.provider c.cast) cs) ≤ length cs
few_kept g [] = omega arith
few_kept g (c ∷ cs) =
    omega (arith, one_kept g c.provider c.cast, few_kept g cs, length-append (kept_by g c.provider c.cast) (flat_map (λ (c : Cast). kept_by g c.provider c.cast) cs))

-- the ballots that are cast
abbrev pub ballots_of : List ℕ → List Cast → List KeptBallot
ballots_of g cs = flat_map (λ (c : Cast). kept_by g c.provider c.cast) cs

less_casts : (n : ℕ) (s : SessionState) (g : List ℕ) (cs : List Cast) → length (ballots_of g cs) ≤ n → Less n s (keep_casts s g cs)
unfolding keep_casts
less_casts n s g cs few =
    record { kept = omega (arith, few, length-append s.kept (ballots_of g cs)); requests = omega arith; providers = omega arith }

less_heard : (n : ℕ) (s : SessionState) (g : List ℕ) (after : GroupState) (e : Entry) (ps beginning : List ProviderId) (cs : List Cast) → length (ballots_of g cs) ≤ n → Less n s (heard s g after e ps beginning cs)
unfolding heard part_taken open_phases
less_heard n s g after e ps beginning cs few =
    let a : SessionState = kept_after s g e in
    let t : SessionState = fold (λ t p. with_provider t p taking_part) a beginning in
    let o : SessionState = fold (λ t p. with_provider t p (opened_after e after)) t ps in
    let u : SessionState = keep_casts o g cs in
    let r : SessionState = requests_after u e in
    let la : Less 0 s a = less_after s g e in
    let lt : Less 0 a t = less_fold (λ t p. with_provider t p taking_part) (λ t p. less_provider t p taking_part) beginning a in
    let lo : Less 0 t o = less_fold (λ t p. with_provider t p (opened_after e after)) (λ t p. less_provider t p (opened_after e after)) ps t in
    let lu : Less n o u = less_casts n o g cs few in
    let lr : Less 0 u r = less_requests u e in
    let lw : Less 0 r (without_providers r (removed_from after ps)) = less_without r (removed_from after ps) in
    record {
      kept = omega (arith, la.kept, lt.kept, lo.kept, lu.kept, lr.kept, lw.kept);
      requests = omega (arith, la.requests, lt.requests, lo.requests, lu.requests, lr.requests, lw.requests);
      providers = omega (arith, la.providers, lt.providers, lo.providers, lu.providers, lr.providers, lw.providers);
    }

pub less_handed : (s : SessionState) (g : List ℕ) (before after : GroupState) (e : Entry) (bs : List (Option Filled)) → Less (length (casts_out s g before after e bs)) s (handed_on s g before after e bs)
unfolding handed_on
less_handed s g before after e bs =
    less_heard (length (casts_out s g before after e bs)) s g after e (hearers s g before e) (beginners s g e) (casts_out s g before after e bs) (few_kept g (casts_out s g before after e bs))

-- where nobody casts, no ballot is kept
pub less_silent : (s : SessionState) (g : List ℕ) (before after : GroupState) (e : Entry) (bs : List (Option Filled)) → ballots_of g (casts_out s g before after e bs) ≡ [] → Less 0 s (handed_on s g before after e bs)
unfolding handed_on
less_silent s g before after e bs none =
    let z : length (ballots_of g (casts_out s g before after e bs)) ≡ 0 = ap length none in
    less_heard 0 s g after e (hearers s g before e) (beginners s g e) (casts_out s g before after e bs) (omega (arith, z))

pub less_told : (s : SessionState) (p : ProviderId) (r : ℕ) (y : Why) → Less 0 s (take_telling s p r y)
unfolding take_telling told_of
less_told s p r y = by (takes_telling s p r y) (is_join_request (outstanding s p) || is_dissolved y)
  where
    by : (b c : Bool) → Less 0 s (if b then (if c then without_providers s (p ∷ []) else record s { requests = filter (λ q. not (among (p ∷ []) q.provider)) s.requests }) else s)
    by false c = less_same s
    by true true = less_without s (p ∷ [])
    by true false = record { kept = omega arith; requests = kept_few (λ q. not (among (p ∷ []) q.provider)) s.requests; providers = omega arith }
