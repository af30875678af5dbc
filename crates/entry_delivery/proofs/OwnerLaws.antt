-- Whose each provider is, through what an entry and a telling make of the sessions.
use Rattle.std.proofs.Common.{◌≡◌, ◌⊎◌, inl, inr, ℕ, Bool, true, false, not, ◌||◌, cond, List, [], ◌∷◌, filter, Option, Some, None, refl, sym, ap, ◌∙◌, arith}
use Rattle.std.specs.Prelude.{find, if◌then◌else◌}
use Rattle.std.specs.List.{fold}
use Rattle.std.specs.Option.{option_map}
use Rattle.rsct_packet.specs.declared.ids.ProviderId.{ProviderId}
use Rattle.rsct_packet.specs.Providers.{same_provider, among}
use Rattle.rsct_packet.specs.Search.{edit_where, place_where}
use Rattle.subscribe_core.specs.declared.subs.ClientToken.{ClientToken}
use Rattle.proposal_core.specs.declared.entry.Entry.{Entry}
use Rattle.proposal_core.specs.declared.entry.Entry.TheVariants.{Once, Begin, Phase, Approve, Reject, Late}
use Rattle.proposal_core.specs.declared.proposal.Proposal.{Proposal}
use Rattle.proposal_core.specs.declared.proposal.Proposal.TheVariants.{Join, Leave, Fail, Expel, State, Message, Attributes, Reflect}
use Rattle.proposal_core.specs.declared.group_state.GroupState.{GroupState}
use Rattle.client_callbacks.specs.declared.told.Why.{Why}
use Rattle.session_state.specs.declared.casts.Cast.{Cast}
use Rattle.session_state.specs.declared.state.Provider.{Provider}
use Rattle.session_state.specs.declared.state.Request.{Request}
use Rattle.session_state.specs.declared.state.Session.{Session}
use Rattle.session_state.specs.declared.state.SessionState.{SessionState}
use Rattle.session_state.specs.State.{is_session, is_provider, is_asked_by, is_request, provider_of, place_for, place_of, outstanding, with_provider, end_request, without_providers}
use Rattle.session_state.specs.HandOn.{kept_ended, kept_after, taking_part, part_taken, asks, opened_after, open_phases, keep_casts, proposal_begun, requests_after, removed_from, heard, is_late, running_phase, is_dissolved, is_join_request, takes_telling, told_of, take_telling}
use Rattle.session_state.specs.Owners.{StaysOf, IsDropped, KeepsOwners}
use Rattle.session_state.proofs.OwnerLaws.{owners_themselves, owners_then}

-- ---- who is found

same_both : (t : Bool) (xs ys : List ProviderId) (q a b : ProviderId) → same_provider a b ≡ true → (among ys a ≡ among ys b) → same_provider q a || among ys a ≡ same_provider q b || among ys b
same_both t xs ys q a b e ih = grind (arith, e, ih)

-- the same provider is among the same ones
among_same : (xs : List ProviderId) (a b : ProviderId) → same_provider a b ≡ true → among xs a ≡ among xs b
among_same [] a b e = refl
among_same (q ∷ xs) a b e = same_both true xs xs q a b e (among_same xs a b e)

-- ---- providers that are changed

-- the provider and its client stay
abbrev StaysItself : (Provider → Provider) → Type 0
StaysItself f = (x : Provider) → ((f x).provider ≡ x.provider) × ((f x).client ≡ x.client)

-- whose those are that are found
abbrev owner_in : Option Provider → Option ClientToken
owner_in o = option_map (λ (x : Provider). x.client) o

edited_head : (q p : ProviderId) (f : Provider → Provider) (x : Provider) (xs ys : List Provider) (here there other : Bool) → StaysItself f → is_provider p x ≡ there → is_provider p (f x) ≡ other → other ≡ there
    → owner_in (find (is_provider p) ys) ≡ owner_in (find (is_provider p) xs)
    → owner_in (find (is_provider p) (if here then f x ∷ xs else x ∷ ys)) ≡ owner_in (find (is_provider p) (x ∷ xs))
edited_head q p f x xs ys true true true s a b e ih = rw (a, b) (ap (λ (c : ClientToken). Some c) (s x).1)
edited_head q p f x xs ys true false false s a b e ih = rw (a, b) refl
edited_head q p f x xs ys false true other s a b e ih = rw a refl
edited_head q p f x xs ys false false other s a b e ih = rw a ih
edited_head q p f x xs ys true true false s a b e ih = absurd cc
edited_head q p f x xs ys true false true s a b e ih = absurd cc

edited_owner : (q p : ProviderId) (f : Provider → Provider) → StaysItself f → (xs : List Provider) → owner_in (find (is_provider p) (edit_where (is_provider q) f xs)) ≡ owner_in (find (is_provider p) xs)
edited_owner q p f s [] = refl
edited_owner q p f s (x ∷ xs) =
    edited_head q p f x xs (edit_where (is_provider q) f xs) (is_provider q x) (is_provider p x) (is_provider p (f x)) s refl refl (ap (λ (r : ProviderId). same_provider r p) (s x).0) (edited_owner q p f s xs)

place_by : (ss : List Session) (o : Option ClientToken) → Option ℕ
place_by ss None = None
place_by ss (Some c) = place_where (is_session c) ss

placed_by : (s : SessionState) (o : Option Provider) → place_for s o ≡ place_by s.sessions (owner_in o)
unfolding place_by
placed_by s None = refl
placed_by s (Some x) = refl

owner_none : (o r : Option Provider) → owner_in r ≡ owner_in o → o ≡ None → r ≡ None
owner_none o None e h = refl
owner_none None (Some x) e h = absurd cc
owner_none (Some y) (Some x) e h = absurd cc

-- where each provider found is its client's as before
owned_alike : (s t : SessionState) (p : ProviderId) → t.sessions ≡ s.sessions → t.requests ≡ s.requests → owner_in (find (is_provider p) t.providers) ≡ owner_in (find (is_provider p) s.providers) → StaysOf s t p
unfolding place_of provider_of outstanding
owned_alike s t p lives asked e = record {
  place = placed_by t (find (is_provider p) t.providers)
      ∙ (ap (λ (ss : List Session). place_by ss (owner_in (find (is_provider p) t.providers))) lives
      ∙ (ap (place_by s.sessions) e ∙ sym (placed_by s (find (is_provider p) s.providers))));
  live = owner_none (find (is_provider p) s.providers) (find (is_provider p) t.providers) e;
  asked = λ h. ap (find (is_asked_by p)) asked ∙ h;
}

changed_owners : (s : SessionState) (q : ProviderId) (f : Provider → Provider) → StaysItself f → KeepsOwners s (with_provider s q f)
unfolding with_provider
changed_owners s q f stays p = inl (owned_alike s (record s { providers = edit_where (is_provider q) f s.providers }) p refl refl (edited_owner q p f stays s.providers))

each_changed_owners : (f : Provider → Provider) → StaysItself f → (s : SessionState) (ps : List ProviderId) → KeepsOwners s (fold (λ t p. with_provider t p f) s ps)
each_changed_owners f stays s [] = owners_themselves s
each_changed_owners f stays s (q ∷ ps) = owners_then s (with_provider s q f) _ (changed_owners s q f stays) (each_changed_owners f stays (with_provider s q f) ps)

-- ---- requests that are ended

fewer_head : (test : Request → Bool) (p : ProviderId) (q : Request) (qs rest : List Request) (stays here : Bool) → is_asked_by p q ≡ here → (find (is_asked_by p) qs ≡ None → find (is_asked_by p) rest ≡ None)
    → find (is_asked_by p) (q ∷ qs) ≡ None → find (is_asked_by p) (cond stays (q ∷ rest) rest) ≡ None
fewer_head test p q qs rest true true is ih e = absurd (let h : Some q ≡ None = rw is at e in cc)
fewer_head test p q qs rest true false is ih e = let h : find (is_asked_by p) qs ≡ None = rw is at e in rw is (ih h)
fewer_head test p q qs rest false true is ih e = absurd (let h : Some q ≡ None = rw is at e in cc)
fewer_head test p q qs rest false false is ih e = let h : find (is_asked_by p) qs ≡ None = rw is at e in ih h

fewer_asked : (test : Request → Bool) (p : ProviderId) (qs : List Request) → find (is_asked_by p) qs ≡ None → find (is_asked_by p) (filter test qs) ≡ None
fewer_asked test p [] e = refl
fewer_asked test p (q ∷ qs) e = fewer_head test p q qs (filter test qs) (test q) (is_asked_by p q) refl (fewer_asked test p qs) e

-- with fewer requests
requests_owners : (s : SessionState) (test : Request → Bool) → KeepsOwners s (record s { requests = filter test s.requests })
unfolding provider_of place_of outstanding
requests_owners s test p = inl (record { place = refl; live = λ e. e; asked = fewer_asked test p s.requests })

-- ---- providers that are dropped

abbrev not_of : List ProviderId → Provider → Bool
not_of ps x = not (among ps x.provider)

abbrev not_asked_of : List ProviderId → Request → Bool
not_asked_of ps q = not (among ps q.provider)

dropped_head : (ps : List ProviderId) (p : ProviderId) (x : Provider) (rest : List Provider) (stays here : Bool) → among ps p ≡ true → is_provider p x ≡ here → not_of ps x ≡ stays → find (is_provider p) rest ≡ None
    → find (is_provider p) (cond stays (x ∷ rest) rest) ≡ None
dropped_head ps p x rest false here m is out ih = ih
dropped_head ps p x rest true false m is out ih = rw is ih
dropped_head ps p x rest true true m is out ih = let e : among ps x.provider ≡ true = among_same ps x.provider p is ∙ m in absurd (grind (arith, e, out))

dropped : (ps : List ProviderId) (p : ProviderId) → among ps p ≡ true → (xs : List Provider) → find (is_provider p) (filter (not_of ps) xs) ≡ None
dropped ps p m [] = refl
dropped ps p m (x ∷ xs) = dropped_head ps p x (filter (not_of ps) xs) (not_of ps x) (is_provider p x) m refl refl (dropped ps p m xs)

unasked_head : (ps : List ProviderId) (p : ProviderId) (q : Request) (rest : List Request) (stays here : Bool) → among ps p ≡ true → is_asked_by p q ≡ here → not_asked_of ps q ≡ stays → find (is_asked_by p) rest ≡ None
    → find (is_asked_by p) (cond stays (q ∷ rest) rest) ≡ None
unasked_head ps p q rest false here m is out ih = ih
unasked_head ps p q rest true false m is out ih = rw is ih
unasked_head ps p q rest true true m is out ih = let e : among ps q.provider ≡ true = among_same ps q.provider p is ∙ m in absurd (grind (arith, e, out))

unasked : (ps : List ProviderId) (p : ProviderId) → among ps p ≡ true → (qs : List Request) → find (is_asked_by p) (filter (not_asked_of ps) qs) ≡ None
unasked ps p m [] = refl
unasked ps p m (q ∷ qs) = unasked_head ps p q (filter (not_asked_of ps) qs) (not_asked_of ps q) (is_asked_by p q) m refl refl (unasked ps p m qs)

left_head : (ps : List ProviderId) (p : ProviderId) (x : Provider) (xs rest : List Provider) (stays here : Bool) → among ps p ≡ false → is_provider p x ≡ here → not_of ps x ≡ stays → find (is_provider p) rest ≡ find (is_provider p) xs
    → find (is_provider p) (cond stays (x ∷ rest) rest) ≡ find (is_provider p) (x ∷ xs)
left_head ps p x xs rest true true m is out ih = rw is refl
left_head ps p x xs rest true false m is out ih = rw is ih
left_head ps p x xs rest false false m is out ih = rw is ih
left_head ps p x xs rest false true m is out ih = let e : among ps x.provider ≡ false = among_same ps x.provider p is ∙ m in absurd (grind (arith, e, out))

left_there : (ps : List ProviderId) (p : ProviderId) → among ps p ≡ false → (xs : List Provider) → find (is_provider p) (filter (not_of ps) xs) ≡ find (is_provider p) xs
left_there ps p m [] = refl
left_there ps p m (x ∷ xs) = left_head ps p x xs (filter (not_of ps) xs) (not_of ps x) (is_provider p x) m refl refl (left_there ps p m xs)

without_owner : (s : SessionState) (ps : List ProviderId) (p : ProviderId) (here : Bool) → among ps p ≡ here → StaysOf s (without_providers s ps) p ⊎ IsDropped (without_providers s ps) p
unfolding without_providers provider_of place_of outstanding
without_owner s ps p true m = inr (record { live = dropped ps p m s.providers; asked = unasked ps p m s.requests })
without_owner s ps p false m =
    inl (record {
      place = ap (place_for s) (left_there ps p m s.providers);
      live = λ e. left_there ps p m s.providers ∙ e;
      asked = fewer_asked (not_asked_of ps) p s.requests;
    })

without_owners : (s : SessionState) (ps : List ProviderId) → KeepsOwners s (without_providers s ps)
without_owners s ps p = without_owner s ps p (among ps p) refl

-- ---- an entry

-- where providers, requests and sessions are as they were
same_owners : (s t : SessionState) → t.sessions ≡ s.sessions → t.providers ≡ s.providers → t.requests ≡ s.requests → KeepsOwners s t
same_owners s t lives ps qs p = inl (owned_alike s t p lives qs (ap (λ (xs : List Provider). owner_in (find (is_provider p) xs)) ps))

kept_owners : (s : SessionState) (g : List ℕ) (e : Entry) → KeepsOwners s (kept_after s g e)
unfolding kept_after kept_ended
kept_owners s g (Once x) = owners_themselves s
kept_owners s g (Begin x) = owners_themselves s
kept_owners s g (Phase c) = same_owners s _ refl refl refl
kept_owners s g (Approve c) = same_owners s _ refl refl refl
kept_owners s g (Reject c) = same_owners s _ refl refl refl
kept_owners s g (Late proto phase ps) = owners_themselves s

opened_head : (late : Bool) (e : Entry) (after : GroupState) (x : Provider)
    → let y : Provider = if late then x else record x { opened = if asks e after x.provider then running_phase after.running else None } in (y.provider ≡ x.provider) × (y.client ≡ x.client)
opened_head true e after x = (refl, refl)
opened_head false e after x = (refl, refl)

opened_stays : (e : Entry) (after : GroupState) → StaysItself (opened_after e after)
unfolding opened_after
opened_stays e after x = opened_head (is_late e) e after x

ended_owners : (s : SessionState) (p : ProviderId) (r : ℕ) → KeepsOwners s (end_request s p r)
unfolding end_request
ended_owners s p r = requests_owners s (λ q. not (is_request p r q))

each_ended_owners : (s : SessionState) (ps : List ProviderId) → KeepsOwners s (fold (λ t p. end_request t p p.join) s ps)
each_ended_owners s [] = owners_themselves s
each_ended_owners s (p ∷ ps) = owners_then s (end_request s p p.join) _ (ended_owners s p p.join) (each_ended_owners (end_request s p p.join) ps)

begun_owners : (s : SessionState) (x : Proposal) → KeepsOwners s (proposal_begun s x)
unfolding proposal_begun
begun_owners s (Join ps attrs n) = each_ended_owners s ps
begun_owners s (Leave p r) = ended_owners s p r
begun_owners s (Fail out) = owners_themselves s
begun_owners s (Expel p r out) = ended_owners s p r
begun_owners s (State p r value) = ended_owners s p r
begun_owners s (Message p r bytes) = ended_owners s p r
begun_owners s (Attributes p r attrs) = ended_owners s p r
begun_owners s (Reflect view place value) = owners_themselves s

requests_after_owners : (s : SessionState) (e : Entry) → KeepsOwners s (requests_after s e)
unfolding requests_after
requests_after_owners s (Once x) = begun_owners s x
requests_after_owners s (Begin x) = begun_owners s x
requests_after_owners s (Phase c) = owners_themselves s
requests_after_owners s (Approve c) = owners_themselves s
requests_after_owners s (Reject c) = owners_themselves s
requests_after_owners s (Late proto phase ps) = owners_themselves s

pub heard_owners : (s : SessionState) (g : List ℕ) (after : GroupState) (e : Entry) (ps beginning : List ProviderId) (cs : List Cast) → KeepsOwners s (heard s g after e ps beginning cs)
unfolding heard part_taken open_phases keep_casts
heard_owners s g after e ps beginning cs =
    let k : SessionState = kept_after s g e in
    let t : SessionState = fold (λ t p. with_provider t p taking_part) k beginning in
    let o : SessionState = fold (λ t p. with_provider t p (opened_after e after)) t ps in
    let u : SessionState = keep_casts o g cs in
    let r : SessionState = requests_after u e in
    owners_then s k _ (kept_owners s g e)
    (owners_then k t _ (each_changed_owners taking_part (λ x. (refl, refl)) k beginning)
    (owners_then t o _ (each_changed_owners (opened_after e after) (opened_stays e after) t ps)
    (owners_then o u _ (same_owners o u refl refl refl)
    (owners_then u r _ (requests_after_owners u e) (without_owners r (removed_from after ps))))))

-- ---- a telling

told_head : (takes drops : Bool) (s a b : SessionState) → KeepsOwners s a → KeepsOwners s b → KeepsOwners s (if takes then (if drops then a else b) else s)
told_head true true s a b left right = left
told_head true false s a b left right = right
told_head false drops s a b left right = owners_themselves s

pub telling_owners : (s : SessionState) (p : ProviderId) (r : ℕ) (y : Why) → KeepsOwners s (take_telling s p r y)
unfolding take_telling told_of
telling_owners s p r y =
    told_head (takes_telling s p r y) (is_join_request (outstanding s p) || is_dissolved y) s (without_providers s (p ∷ [])) (record s { requests = filter (not_asked_of (p ∷ [])) s.requests })
    (without_owners s (p ∷ [])) (requests_owners s (not_asked_of (p ∷ [])))
