-- What a telling does, and what it keeps.
use Rattle.std.proofs.Common.{◌≡◌, ℕ, Bool, true, false, ◌||◌, ◌&&◌, not, List, [], ◌∷◌, ◌++◌, filter, Option, Some, None, is_some, length-append, refl, sym, ap, subst, arith}
use Rattle.std.specs.Prelude.{if◌then◌else◌}
use Rattle.std.proofs.lemmas.List.Elements.{filter-append}
use Rattle.rsct_packet.specs.declared.ids.ProviderId.{ProviderId}
use Rattle.rsct_packet.specs.Providers.{among}
use Rattle.client_callbacks.specs.declared.told.Told.TheVariants as told
use Rattle.client_callbacks.specs.declared.told.Why.{Why}
use Rattle.client_callbacks.specs.declared.votes.VoteItem.{VoteItem}
use Rattle.client_callbacks.specs.Handed.{Handed, Informed}
use Rattle.session_state.specs.declared.state.Provider.{Provider}
use Rattle.session_state.specs.declared.state.Request.{Request}
use Rattle.session_state.specs.declared.state.SessionState.{SessionState}
use Rattle.session_state.specs.State.{provider_of, place_for, place_of, outstanding, without_providers}
use Rattle.session_state.specs.Calls.{SameSessions}
use Rattle.session_state.specs.HandOn.{is_numbered, is_dissolved, is_join_request, takes_telling, told_of, take_telling}
use Rattle.session_clients.specs.Clients.{StandFor, add_for}
use Rattle.session_clients.specs.Notices.{told_lists}
use Rattle.node_state.specs.declared.happened.Happened.{Happened}
use Rattle.node_state.specs.declared.happened.Happened.TheVariants as happened
use Rattle.node_state.specs.declared.state.Core.{Core}
use Rattle.node_state.specs.State.{recorded_all, recorded, with_sessions}
use Rattle.node_state.specs.Following.{told_if, take_tell}
use Rattle.proposal_core.specs.Fold.{empty_state}
use Rattle.node_state.proofs.AlongLaws.{along_records}
use Rattle.node_state.specs.Handed.{is_handed}
use Rattle.node_groups.specs.Keeps.{Stays}
use Rattle.node_groups.proofs.KeepLaws.{stays_itself}
use Rattle.entry_delivery.specs.Received.{Receive}
use Rattle.entry_delivery.specs.Doing.{Does}
use Rattle.entry_delivery.proofs.DoingLaws.{receive_nothing, does_handing, does_plain, follows_itself}
use Rattle.entry_delivery.proofs.OwnerLaws.{telling_owners}
use Rattle.entry_delivery.proofs.ReceiveLaws.{receive_one}
use Rattle.node_owed.proofs.SendLaws.{groups_stay}

-- ---- what is kept

same_if : (takes drops : Bool) (x a b : SessionState) → SameSessions x a → SameSessions x b → SameSessions x (if takes then (if drops then a else b) else x)
same_if true true x a b left right = left
same_if true false x a b left right = right
same_if false drops x a b left right = (refl, refl)

telling_same : (x : SessionState) (p : ProviderId) (r : ℕ) (y : Why) → SameSessions x (take_telling x p r y)
unfolding take_telling told_of without_providers
telling_same x p r y =
    same_if (takes_telling x p r y) (is_join_request (outstanding x p) || is_dissolved y) x (without_providers x (p ∷ []))
    (record x { requests = filter (λ (q : Request). not (among (p ∷ []) q.provider)) x.requests }) (refl, refl) (refl, refl)

told_if_stays : (s : Core) (p : ProviderId) (r : ℕ) (y : Why) (is_outstanding : Bool) → Stays s (told_if s p r y is_outstanding)
unfolding told_if recorded recorded_all with_sessions
told_if_stays s p r y false = stays_itself s
told_if_stays s p r y true = groups_stay s _ (omega (arith, length-append s.records (happened.Told p r y ∷ []))) (telling_same s.sessions p r y) refl

pub tell_stays : (s : Core) (p : ProviderId) (r : ℕ) (y : Why) → Stays s (take_tell s p r y)
unfolding take_tell
tell_stays s p r y = told_if_stays s p r y (is_numbered r (outstanding s.sessions p))

-- ---- what the client is told

told_where : (s : SessionState) (o : Option Provider) (asks dissolves : Bool) (x : Handed) (hs : List (List Handed)) → asks ≡ true
    → (if is_some o && (asks || dissolves) then add_for (place_for s o) x hs else hs) ≡ add_for (place_for s o) x hs
told_where s None asks dissolves x hs e = refl
told_where s (Some q) true dissolves x hs e = refl
told_where s (Some q) false dissolves x hs e = absurd (cc)

-- of its outstanding request, where the provider is live; and where it is not there is no such client
told_for : (s : SessionState) (p : ProviderId) (r : ℕ) (y : Why) (hs : List (List Handed)) → is_numbered r (outstanding s p) ≡ true → told_lists s p r y hs ≡ add_for (place_of s p) (Informed (told.Refused p r y)) hs
unfolding told_lists takes_telling place_of
told_for s p r y hs e = told_where s (provider_of s p) (is_numbered r (outstanding s p)) (is_dissolved y) (Informed (told.Refused p r y)) hs e

asked_there : (r : ℕ) (o : Option Request) → is_numbered r o ≡ true → o ≡ None → ⊥
asked_there r None e none = cc
asked_there r (Some q) e none = cc

-- ---- the row

pub untold_does : {C : Type 0} (R : C → List Handed → Type 0) (scripts : List (Option (List (Option VoteItem)))) (cs : List C) (s : Core) (p : ProviderId) (r : ℕ) (y : Why) → is_numbered r (outstanding s.sessions p) ≡ false
    → Does scripts (Receive R cs cs) s s (λ f. take_tell s p r y)
unfolding told_if take_tell
untold_does R scripts cs s p r y e = does_plain scripts (Receive R cs cs) s s (take_tell s p r y) (receive_nothing R cs) (ap (told_if s p r y) (sym e)) (follows_itself s)

told_if_does : {C : Type 0} (R : C → List Handed → Type 0) (scripts : List (Option (List (Option VoteItem)))) (cs ds : List C) (s : Core) (p : ProviderId) (r : ℕ) (y : Why) → is_numbered r (outstanding s.sessions p) ≡ true
    → ((hs : List (List Handed)) → StandFor R cs hs → StandFor R ds (told_lists s.sessions p r y hs)) → Does scripts (Receive R cs ds) s (told_if s p r y true) (λ f. told_if s p r y true)
unfolding told_if recorded recorded_all with_sessions along_records
told_if_does R scripts cs ds s p r y e stand =
    let t : Core = told_if s p r y true in
    does_handing scripts (Receive R cs ds) s t t (record { place = place_of s.sessions p; what = happened.Told p r y; after = empty_state } ∷ [])
    (receive_one R cs ds (place_of s.sessions p) (Informed (told.Refused p r y)) (happened.Told p r y) refl (λ hs h. subst (StandFor R ds) (told_for s.sessions p r y hs e) (stand hs h)))
    refl (omega (arith, length-append s.records (happened.Told p r y ∷ []))) (telling_same s.sessions p r y).0 (filter-append is_handed s.records (happened.Told p r y ∷ []))
    ((refl, λ gone none. asked_there r (outstanding s.sessions p) e none), tt) (telling_owners s.sessions p r y) (along_records s t (happened.Told p r y ∷ []) refl refl (λ g st. refl)) (λ o. refl)

told_row : (s : Core) (x : SessionState) (rs : List Happened) (p : ProviderId) (r : ℕ) (y : Why) → is_numbered r (outstanding s.sessions p) ≡ true → x ≡ take_telling s.sessions p r y → rs ≡ s.records ++ happened.Told p r y ∷ []
    → record s { sessions = x; records = rs } ≡ take_tell s p r y
unfolding told_if recorded recorded_all with_sessions take_tell
told_row s x rs p r y e taken recording = rw (e, taken, recording) refl

pub told_does : {C : Type 0} (R : C → List Handed → Type 0) (scripts : List (Option (List (Option VoteItem)))) (cs ds : List C) (s : Core) (x : SessionState) (rs : List Happened) (p : ProviderId) (r : ℕ) (y : Why) → is_numbered r (outstanding s.sessions p) ≡ true
    → ((hs : List (List Handed)) → StandFor R cs hs → StandFor R ds (told_lists s.sessions p r y hs)) → x ≡ take_telling s.sessions p r y → rs ≡ s.records ++ happened.Told p r y ∷ []
    → Does scripts (Receive R cs ds) s (record s { sessions = x; records = rs }) (λ f. take_tell s p r y)
unfolding take_tell
told_does R scripts cs ds s x rs p r y e stand taken recording =
    rw (told_row s x rs p r y e taken recording)
    (subst (λ (b : Bool). Does scripts (Receive R cs ds) s (told_if s p r y b) (λ f. told_if s p r y b)) (sym e) (told_if_does R scripts cs ds s p r y e stand))
