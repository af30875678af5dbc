-- Since the call of a step no provider comes in, and whose a provider is stays.
use Rattle.std.proofs.Common.{◌≡◌, ℕ, List, [], ◌∷◌, Option, Bool, true, false, refl, sym, ◌∙◌, subst, inl, inr}
use Rattle.std.specs.Prelude.{◌||◌, not, filter, fold, if◌then◌else◌}
use Rattle.rsct_packet.specs.declared.ids.ProviderId.{ProviderId}
use Rattle.rsct_packet.specs.Providers.{among}
use Rattle.rsct_packet.specs.Search.{Has, edit_where}
use Rattle.rsct_packet.proofs.HasLaws.{has_filter}
use Rattle.proposal_core.specs.declared.entry.Entry.{Entry}
use Rattle.proposal_core.specs.declared.entry.Entry.TheVariants.{Once, Begin, Phase, Approve, Reject, Late}
use Rattle.proposal_core.specs.declared.proposal.Proposal.{Proposal}
use Rattle.proposal_core.specs.declared.proposal.Proposal.TheVariants.{Join, Leave, Fail, Expel, State, Message, Attributes, Reflect}
use Rattle.proposal_core.specs.declared.group_state.GroupState.{GroupState}
use Rattle.client_callbacks.specs.declared.ballot.Filled.{Filled}
use Rattle.client_callbacks.specs.declared.told.Why.{Why}
use Rattle.session_state.specs.declared.state.Provider.{Provider}
use Rattle.session_state.specs.declared.state.Request.{Request}
use Rattle.session_state.specs.declared.state.SessionState.{SessionState}
use Rattle.session_state.specs.State.{is_provider, outstanding, with_provider, end_request, without_providers}
use Rattle.session_state.specs.HandOn.{kept_ended, kept_after, beginners, hearers, taking_part, part_taken, opened_after, open_phases, casts_out, keep_casts, proposal_begun, requests_after, removed_from, heard, handed_on, is_join_request, is_dissolved, takes_telling, told_of, take_telling}

-- the same provider, of the same client in the same group
pub record Alike (y z : Provider) : Type 0 where
  pub provider : y.provider ≡ z.provider
  pub client : y.client ≡ z.client
  pub group : y.group ≡ z.group

pub alike_self : (y : Provider) → Alike y y
alike_self y = record { provider = refl; client = refl; group = refl }

pub alike_then : (x y z : Provider) → Alike x y → Alike y z → Alike x z
alike_then x y z a b = record { provider = a.provider ∙ b.provider; client = a.client ∙ b.client; group = a.group ∙ b.group }

pub alike_back : (y z : Provider) → Alike y z → Alike z y
alike_back y z a = record { provider = sym a.provider; client = sym a.client; group = sym a.group }

-- who is there now was there
pub record Kin (s t : SessionState) : Type 0 where
  pub was : (y : Provider) → Has y t.providers → (z : Provider) × Has z s.providers × Alike y z

pub kin_same : (s t : SessionState) → t.providers ≡ s.providers → Kin s t
kin_same s t e = record { was = λ y i. (y, subst (Has y) e i, alike_self y) }

pub kin_then : (s t u : SessionState) → Kin s t → Kin t u → Kin s u
kin_then s t u a b =
    record { was = λ y i. let k = b.was y i in let j = a.was k.0 k.1 in (j.0, j.1, alike_then y k.0 j.0 k.2 j.2) }

kin_fold : {A : Type 0} (f : SessionState → A → SessionState) → ((s : SessionState) (x : A) → Kin s (f s x)) → (xs : List A) (s : SessionState) → Kin s (fold f s xs)
kin_fold f step [] s = kin_same s s refl
kin_fold f step (x ∷ xs) s = kin_then s (f s x) (fold f (f s x) xs) (step s x) (kin_fold f step xs (f s x))

edited : (p : ProviderId) (f : Provider → Provider) → ((x : Provider) → Alike (f x) x) → (xs : List Provider) (y : Provider) → Has y (edit_where (is_provider p) f xs) → (z : Provider) × Has z xs × Alike y z
edited p f keeps [] y h = absurd h
edited p f keeps (x ∷ xs) y h = by (is_provider p x) h (edited p f keeps xs y)
  where
    by : (b : Bool) → Has y (if b then f x ∷ xs else x ∷ edit_where (is_provider p) f xs) → (Has y (edit_where (is_provider p) f xs) → (z : Provider) × Has z xs × Alike y z) → (z : Provider) × Has z (x ∷ xs) × Alike y z
    by true (inl e) k = (x, inl refl, subst (λ (w : Provider). Alike w x) (sym e) (keeps x))
    by true (inr i) k = (y, inr i, alike_self y)
    by false (inl e) k = (x, inl refl, subst (λ (w : Provider). Alike w x) (sym e) (alike_self x))
    by false (inr i) k = let r = k i in (r.0, inr r.1, r.2)

kin_edit : (s : SessionState) (p : ProviderId) (f : Provider → Provider) → ((x : Provider) → Alike (f x) x) → Kin s (with_provider s p f)
unfolding with_provider
kin_edit s p f keeps = record { was = λ y i. edited p f keeps s.providers y i }

kin_kept : (s : SessionState) (g : List ℕ) (e : Entry) → Kin s (kept_after s g e)
unfolding kept_after kept_ended
kin_kept s g (Once x) = kin_same s s refl
kin_kept s g (Begin x) = kin_same s s refl
kin_kept s g (Phase c) = kin_same s _ refl
kin_kept s g (Approve c) = kin_same s _ refl
kin_kept s g (Reject c) = kin_same s _ refl
kin_kept s g (Late proto phase ps) = kin_same s s refl

part_alike : (x : Provider) → Alike (taking_part x) x
part_alike x = record { provider = refl; client = refl; group = refl }

opened_alike : (e : Entry) (after : GroupState) (x : Provider) → Alike (opened_after e after x) x
unfolding opened_after
opened_alike (Once x) after y = record { provider = refl; client = refl; group = refl }
opened_alike (Begin x) after y = record { provider = refl; client = refl; group = refl }
opened_alike (Phase c) after y = record { provider = refl; client = refl; group = refl }
opened_alike (Approve c) after y = record { provider = refl; client = refl; group = refl }
opened_alike (Reject c) after y = record { provider = refl; client = refl; group = refl }
opened_alike (Late proto phase ps) after y = alike_self y

kin_ended : (s : SessionState) (p : ProviderId) (r : ℕ) → Kin s (end_request s p r)
unfolding end_request
kin_ended s p r = kin_same s _ refl

kin_begun : (s : SessionState) (x : Proposal) → Kin s (proposal_begun s x)
unfolding proposal_begun
kin_begun s (Join ps attrs n) = kin_fold (λ t (p : ProviderId). end_request t p p.join) (λ t p. kin_ended t p p.join) ps s
kin_begun s (Leave p r) = kin_ended s p r
kin_begun s (Fail out) = kin_same s s refl
kin_begun s (Expel p r out) = kin_ended s p r
kin_begun s (State p r value) = kin_ended s p r
kin_begun s (Message p r bytes) = kin_ended s p r
kin_begun s (Attributes p r attrs) = kin_ended s p r
kin_begun s (Reflect view place value) = kin_same s s refl

kin_requests : (s : SessionState) (e : Entry) → Kin s (requests_after s e)
unfolding requests_after
kin_requests s (Once x) = kin_begun s x
kin_requests s (Begin x) = kin_begun s x
kin_requests s (Phase c) = kin_same s s refl
kin_requests s (Approve c) = kin_same s s refl
kin_requests s (Reject c) = kin_same s s refl
kin_requests s (Late proto phase ps) = kin_same s s refl

kin_without : (s : SessionState) (ps : List ProviderId) → Kin s (without_providers s ps)
unfolding without_providers
kin_without s ps =
    record { was = λ y i. (y, (has_filter (λ (x : Provider). not (among ps x.provider)) y s.providers i).0, alike_self y) }

-- an entry is handed on
pub kin_handed : (s : SessionState) (g : List ℕ) (before after : GroupState) (e : Entry) (bs : List (Option Filled)) → Kin s (handed_on s g before after e bs)
unfolding handed_on heard part_taken open_phases keep_casts
kin_handed s g before after e bs =
    let ps : List ProviderId = hearers s g before e in
    let k : SessionState = kept_after s g e in
    let t : SessionState = fold (λ t p. with_provider t p taking_part) k (beginners s g e) in
    let o : SessionState = fold (λ t p. with_provider t p (opened_after e after)) t ps in
    let u : SessionState = keep_casts o g (casts_out s g before after e bs) in
    let r : SessionState = requests_after u e in
    kin_then s k (without_providers r (removed_from after ps)) (kin_kept s g e)
    (kin_then k t (without_providers r (removed_from after ps)) (kin_fold (λ t p. with_provider t p taking_part) (λ t p. kin_edit t p taking_part part_alike) (beginners s g e) k)
    (kin_then t o (without_providers r (removed_from after ps)) (kin_fold (λ t p. with_provider t p (opened_after e after)) (λ t p. kin_edit t p (opened_after e after) (opened_alike e after)) ps t)
    (kin_then o u (without_providers r (removed_from after ps)) (kin_same o u refl)
    (kin_then u r (without_providers r (removed_from after ps)) (kin_requests u e) (kin_without r (removed_from after ps))))))

-- a provider is told
pub kin_told : (s : SessionState) (p : ProviderId) (r : ℕ) (y : Why) → Kin s (take_telling s p r y)
unfolding take_telling told_of
kin_told s p r y = by (takes_telling s p r y) (is_join_request (outstanding s p) || is_dissolved y)
  where
    by : (a b : Bool) → Kin s (if a then (if b then without_providers s (p ∷ []) else record s { requests = filter (λ (q : Request). not (among (p ∷ []) q.provider)) s.requests }) else s)
    by false b = kin_same s s refl
    by true true = kin_without s (p ∷ [])
    by true false = kin_same s _ refl
