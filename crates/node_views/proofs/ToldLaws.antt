-- What is handed to clients where a view is entered.
use Rattle.std.proofs.Common.{◌≡◌, ℕ, ◌+◌, ◌<◌, Bool, true, false, not, ◌&&◌, ◌||◌, List, [], ◌∷◌, ◌++◌, length, take, get_or, map, Option, Some, None, refl, sym, ap, subst, ◌∙◌, arith, length-append, append-nil, append_assoc}
use Rattle.std.specs.Prelude.{find, flat_map, is_some, is_none}
use Rattle.std.specs.Str.{bytes_eq}
use Rattle.std.proofs.lemmas.Bool.Decides.{nat_tests}
use Rattle.std.proofs.lemmas.List.{take_more}
use Rattle.std.proofs.lemmas.Grind.{flat_map-append}
use Rattle.std.proofs.lemmas.List.Elements.{filter-append}
use Rattle.rsct_packet.specs.declared.ids.Member.{Member}
use Rattle.rsct_packet.specs.declared.ids.ProviderId.{ProviderId}
use Rattle.rsct_packet.specs.declared.ids.ViewId.{ViewId}
use Rattle.rsct_packet.specs.Providers.{same_provider}
use Rattle.rsct_packet.proofs.HasLaws.{find_has, find_none}
use Rattle.group_attr.specs.Attrs.{host_membership}
use Rattle.proposal_core.specs.declared.group_state.GroupState.{GroupState}
use Rattle.proposal_core.specs.Fold.{empty_state}
use Rattle.subscribe_core.specs.declared.subs.Subscription.{Subscription}
use Rattle.client_callbacks.specs.declared.told.Told.TheVariants as told
use Rattle.client_callbacks.specs.declared.told.Why.TheVariants.{Dissolved}
use Rattle.client_callbacks.specs.declared.votes.VoteItem.{VoteItem}
use Rattle.client_callbacks.specs.Handed.{Handed}
use Rattle.session_state.specs.declared.state.Provider.{Provider}
use Rattle.session_state.specs.declared.state.SessionState.{SessionState}
use Rattle.session_state.specs.State.{is_provider, provider_of, place_for, place_of, outstanding, client_place}
use Rattle.session_state.specs.Calls.{SameSessions}
use Rattle.session_state.specs.HandOn.{is_numbered, takes_telling}
use Rattle.view_state.specs.declared.install.Base.{Base}
use Rattle.view_state.specs.Bases.{base_named}
use Rattle.node_state.specs.declared.happened.Happened.{Happened}
use Rattle.node_state.specs.declared.happened.Happened.TheVariants as happened
use Rattle.node_state.specs.declared.state.Core.{Core}
use Rattle.node_state.specs.State.{state_of, recorded, recorded_all, with_sessions}
use Rattle.node_state.specs.HandOn.{subscriber_name, note_of}
use Rattle.node_state.specs.Applying.{is_in_base, number_of, dissolved, dissolved_if, base_note, entering_note, entering_noted}
use Rattle.session_state.specs.Owners.{KeepsOwners}
use Rattle.node_state.specs.Handed.{is_handed, handed_in, Logged, logged_in}
use Rattle.node_state.proofs.AlongLaws.{LeavesStates, leaves_both, along_records}
use Rattle.node_groups.specs.Keeps.{Stays}
use Rattle.session_state.proofs.OwnerLaws.{owners_themselves}
use Rattle.entry_delivery.specs.Received.{Handing, AreFor, told_by, logged_by, after_handings, Receive}
use Rattle.entry_delivery.specs.Doing.{Does}
use Rattle.entry_delivery.proofs.DoingLaws.{does_handing, does_nothing, does_as, receive_then}
use Rattle.entry_delivery.proofs.OwnerLaws.{telling_owners}
use Rattle.node_views.specs.Arriving.{note_at, notes_at, handed_at, note_handings}

-- ---- what is kept

-- sessions that are the same ones, and more records
pub told_stays : (s : Core) (x : SessionState) (rs : List Happened) (r : Happened) → SameSessions s.sessions x → rs ≡ s.records ++ r ∷ [] → Stays s (record s { sessions = x; records = rs })
told_stays s x rs r same e = record { records = rw e (omega (arith, length-append s.records (r ∷ []))); sessions = same; order = λ o. o }

pub noted_stays : (s : Core) (rs more : List Happened) → rs ≡ s.records ++ more → Stays s (record s { records = rs })
noted_stays s rs more e = record { records = rw e (omega (arith, length-append s.records more)); sessions = (refl, refl); order = λ o. o }

-- ---- who is dissolved

same_itself : (p : ProviderId) → same_provider p p ≡ true
same_itself p = grind (arith, nat_tests)

-- a provider that is found is live
found_live : (s : SessionState) (p : ProviderId) (x : Provider) → find (is_provider p) s.providers ≡ Some x → provider_of s x.provider ≡ None → ⊥
unfolding provider_of
found_live s p x found none = find_none (is_provider x.provider) s.providers x (ap is_none none) (find_has (is_provider p) s.providers x found).0 (same_itself x.provider)

dissolved_does : (scripts : List (Option (List (Option VoteItem)))) (P : List Handing → Type 0) (s t : Core) (p : ProviderId) (r : ℕ) → (provider_of s.sessions p ≡ None → ⊥) → t ≡ dissolved s p r → Stays s t → P (handed_at (place_of s.sessions p) (happened.Told p r Dissolved) ∷ [])
    → Does scripts P s t (λ f. dissolved s p r)
unfolding dissolved recorded recorded_all with_sessions along_records
dissolved_does scripts P s t p r live dissolving stays received =
    does_handing scripts P s t (dissolved s p r) (handed_at (place_of s.sessions p) (happened.Told p r Dissolved) ∷ []) received dissolving stays.records stays.sessions.0
    (ap (λ (x : Core). handed_in x.records) dissolving ∙ filter-append is_handed s.records (happened.Told p r Dissolved ∷ []))
    ((refl, λ none asked. live none), tt)
    (subst (λ (x : Core). KeepsOwners s.sessions x.sessions) (sym dissolving) (telling_owners s.sessions p r Dissolved))
    (along_records s t (happened.Told p r Dissolved ∷ []) (ap (λ (x : Core). x.records) dissolving) (ap (λ (x : Core). x.groups) dissolving) (λ g st. refl)) (λ o. refl)

-- no provider is found
pub unfound_does : (scripts : List (Option (List (Option VoteItem)))) (P : List Handing → Type 0) → P [] → (s : Core) (g : List ℕ) (old : ViewId) (b : Option Base) (p : ProviderId) → None ≡ find (is_provider p) s.sessions.providers
    → Does scripts P s s (λ f. dissolved_if s g old b (provider_of s.sessions p))
unfolding dissolved_if provider_of
unfound_does scripts P nothing s g old b p none = does_as scripts P s s (λ f. s) _ (λ f. rw (← none) refl) (does_nothing scripts P s nothing)

if_left : (s : Core) (g : List ℕ) (old : ViewId) (b : Option Base) (o : Option Provider) (x : Provider) (left : Bool) → Some x ≡ o → left ≡ (x.takes_part && bytes_eq x.group g && not (is_in_base old x.provider b))
    → (elim left as (λ _. Core) [ true ↦ dissolved s x.provider (number_of (outstanding s.sessions x.provider)) | false ↦ s ]) ≡ dissolved_if s g old b o
unfolding dissolved_if
if_left s g old b o x left some is =
    ap (λ z. elim z as (λ _. Core) [ true ↦ dissolved s x.provider (number_of (outstanding s.sessions x.provider)) | false ↦ s ]) is ∙ ap (dissolved_if s g old b) some

-- it does not take part, or lives in the base
pub spared_does : (scripts : List (Option (List (Option VoteItem)))) (P : List Handing → Type 0) → P [] → (s : Core) (g : List ℕ) (old : ViewId) (b : Option Base) (p : ProviderId) (x : Provider) (left : Bool) → Some x ≡ find (is_provider p) s.sessions.providers
    → left ≡ (x.takes_part && bytes_eq x.group g && not (is_in_base old x.provider b)) → left ≡ false → Does scripts P s s (λ f. dissolved_if s g old b (provider_of s.sessions p))
unfolding provider_of
spared_does scripts P nothing s g old b p x left some is stays = does_as scripts P s s (λ f. s) _ (λ f. if_left s g old b _ x false some (sym stays ∙ is)) (does_nothing scripts P s nothing)

-- it is dissolved
pub left_out_does : (scripts : List (Option (List (Option VoteItem)))) (P : List Handing → Type 0) (s t : Core) (g : List ℕ) (old : ViewId) (b : Option Base) (p : ProviderId) (x : Provider) (left : Bool) (r : ℕ) → Some x ≡ find (is_provider p) s.sessions.providers
    → left ≡ (x.takes_part && bytes_eq x.group g && not (is_in_base old x.provider b)) → left ≡ true → r ≡ number_of (outstanding s.sessions x.provider) → t ≡ dissolved s x.provider r → Stays s t → P (handed_at (place_of s.sessions x.provider) (happened.Told x.provider r Dissolved) ∷ [])
    → Does scripts P s t (λ f. dissolved_if s g old b (provider_of s.sessions p))
unfolding provider_of
left_out_does scripts P s t g old b p x left r some is out number dissolving stays received =
    does_as scripts P s t (λ f. dissolved s x.provider r) _ (λ f. ap (dissolved s x.provider) number ∙ if_left s g old b _ x true some (sym out ∙ is))
    (dissolved_does scripts P s t x.provider r (found_live s.sessions p x (sym some)) dissolving stays received)

untold_place : (s : SessionState) (o : Option Provider) (numbered : Bool) → (is_some o && (numbered || true)) ≡ false → place_for s o ≡ None
untold_place s None numbered e = refl
untold_place s (Some x) true e = absurd cc
untold_place s (Some x) false e = absurd cc

-- nobody is told of a provider that is not live
pub untold_receive : {C : Type 0} (R : C → List Handed → Type 0) (cs : List C) (s : SessionState) (p : ProviderId) (r : ℕ) (takes : Bool) → takes ≡ takes_telling s p r Dissolved → takes ≡ false → Receive R cs cs (handed_at (place_of s p) (happened.Told p r Dissolved) ∷ [])
unfolding after_handings takes_telling place_of
untold_receive R cs s p r takes is out = rw (untold_place s (provider_of s p) (is_numbered r (outstanding s p)) (sym is ∙ out)) (λ firsts rss h. h)

-- ---- what subscribers are told

each_more : {X Y : Type 0} (f : X → List Y) (xs : List X) (k : ℕ) (x : X) → k < length xs → x ≡ get_or xs k x → flat_map f (take (k + 1) xs) ≡ flat_map f (take k xs) ++ f x
each_more f xs k x lt is =
    ap (flat_map f) (take_more xs k x lt ∙ ap (λ y. take k xs ++ y ∷ []) (sym is)) ∙ (flat_map-append f (take k xs) (x ∷ []) ∙ ap (λ ys. flat_map f (take k xs) ++ ys) (append-nil (f x)))

-- what was recorded and told so far, and one more

pub record_more : {X Y : Type 0} (f : X → List Y) (xs : List X) (k : ℕ) (x : X) (old now new : List Y) → k < length xs → x ≡ get_or xs k x → now ≡ old ++ flat_map f (take k xs) → new ≡ now ++ f x → new ≡ old ++ flat_map f (take (k + 1) xs)
record_more f xs k x old now new lt is first next =
    next ∙ (ap (λ ys. ys ++ f x) first ∙ (append_assoc old (flat_map f (take k xs)) (f x) ∙ ap (λ ys. old ++ ys) (sym (each_more f xs k x lt is))))

pub receive_more : {C X : Type 0} (R : C → List Handed → Type 0) (cs ds es : List C) (f : X → List Handing) (xs : List X) (k : ℕ) (x : X) → k < length xs → x ≡ get_or xs k x → Receive R cs ds (flat_map f (take k xs)) → Receive R ds es (f x) → Receive R cs es (flat_map f (take (k + 1) xs))
receive_more R cs ds es f xs k x lt is first next = subst (Receive R cs es) (sym (each_more f xs k x lt is)) (receive_then R cs ds es (flat_map f (take k xs)) (f x) first next)

told_head : (hosts : Bool) (n : ℕ) (v : ViewId) (ms : List Member) (s : SessionState) (u : Subscription) (o : Option Base) (rs : List Happened) (hs : List Handing) → handed_in rs ≡ told_by hs
    → let ns : List Happened = elim hosts [ true ↦ happened.Noted n (subscriber_name s u) v None (told.Hosts v ms) ∷ [] | false ↦ note_at n v s u o ] in handed_in (ns ++ rs) ≡ told_by (map (handed_at (client_place s u.client)) ns ++ hs)
told_head true n v ms s u o rs hs e = ap (λ (xs : List Happened). happened.Noted n (subscriber_name s u) v None (told.Hosts v ms) ∷ xs) e
told_head false n v ms s u None rs hs e = e
told_head false n v ms s u (Some b) rs hs e = ap (λ (xs : List Happened). happened.Noted n (subscriber_name s u) v None (told.Note b.name b.state.members b.state.value) ∷ xs) e

told_each : (n : ℕ) (v : ViewId) (ms : List Member) (s : SessionState) (bs : List Base) (us : List Subscription) → handed_in (flat_map (notes_at n v ms s bs) us) ≡ told_by (flat_map (note_handings n v ms s bs) us)
told_each n v ms s bs [] = refl
told_each n v ms s bs (u ∷ us) = told_head (bytes_eq u.group host_membership) n v ms s u (base_named bs u.group) _ _ (told_each n v ms s bs us)

owned_head : (hosts : Bool) (n : ℕ) (v : ViewId) (ms : List Member) (s : SessionState) (u : Subscription) (o : Option Base) (hs : List Handing) → AreFor s hs
    → let ns : List Happened = elim hosts [ true ↦ happened.Noted n (subscriber_name s u) v None (told.Hosts v ms) ∷ [] | false ↦ note_at n v s u o ] in AreFor s (map (handed_at (client_place s u.client)) ns ++ hs)
unfolding subscriber_name
owned_head true n v ms s u o hs h = ((u.client, refl, refl), h)
owned_head false n v ms s u None hs h = h
owned_head false n v ms s u (Some b) hs h = ((u.client, refl, refl), h)

owned_each : (n : ℕ) (v : ViewId) (ms : List Member) (s : SessionState) (bs : List Base) (us : List Subscription) → AreFor s (flat_map (note_handings n v ms s bs) us)
owned_each n v ms s bs [] = tt
owned_each n v ms s bs (u ∷ us) = owned_head (bytes_eq u.group host_membership) n v ms s u (base_named bs u.group) _ (owned_each n v ms s bs us)

leaves_head : (hosts : Bool) (n : ℕ) (v : ViewId) (ms : List Member) (s : SessionState) (u : Subscription) (o : Option Base)
    → let ns : List Happened = elim hosts [ true ↦ happened.Noted n (subscriber_name s u) v None (told.Hosts v ms) ∷ [] | false ↦ note_at n v s u o ] in LeavesStates ns
leaves_head true n v ms s u o = λ g st. refl
leaves_head false n v ms s u None = λ g st. refl
leaves_head false n v ms s u (Some b) = λ g st. refl

notes_leave : (n : ℕ) (v : ViewId) (ms : List Member) (s : SessionState) (bs : List Base) (us : List Subscription) → LeavesStates (flat_map (notes_at n v ms s bs) us)
notes_leave n v ms s bs [] = λ g st. refl
notes_leave n v ms s bs (u ∷ us) = leaves_both (notes_at n v ms s bs u) (flat_map (notes_at n v ms s bs) us) (leaves_head (bytes_eq u.group host_membership) n v ms s u (base_named bs u.group)) (notes_leave n v ms s bs us)

stated_head : (hosts : Bool) (n : ℕ) (v : ViewId) (ms : List Member) (s : SessionState) (u : Subscription) (o : Option Base) (rs : List Happened) (states : List ℕ → GroupState) (hs : List Handing) → logged_in rs states ≡ logged_by hs
    → let ns : List Happened = elim hosts [ true ↦ happened.Noted n (subscriber_name s u) v None (told.Hosts v ms) ∷ [] | false ↦ note_at n v s u o ] in logged_in (ns ++ rs) states ≡ logged_by (map (handed_at (client_place s u.client)) ns ++ hs)
stated_head true n v ms s u o rs states hs e = ap (λ (ls : List Logged). record { what = happened.Noted n (subscriber_name s u) v None (told.Hosts v ms); after = empty_state } ∷ ls) e
stated_head false n v ms s u None rs states hs e = e
stated_head false n v ms s u (Some b) rs states hs e = ap (λ (ls : List Logged). record { what = happened.Noted n (subscriber_name s u) v None (told.Note b.name b.state.members b.state.value); after = empty_state } ∷ ls) e

stated_each : (n : ℕ) (v : ViewId) (ms : List Member) (s : SessionState) (bs : List Base) (us : List Subscription) (states : List ℕ → GroupState) → logged_in (flat_map (notes_at n v ms s bs) us) states ≡ logged_by (flat_map (note_handings n v ms s bs) us)
stated_each n v ms s bs [] states = refl
stated_each n v ms s bs (u ∷ us) states = stated_head (bytes_eq u.group host_membership) n v ms s u (base_named bs u.group) _ states _ (stated_each n v ms s bs us states)

pub noted_does : (scripts : List (Option (List (Option VoteItem)))) (P : List Handing → Type 0) (s : Core) (rs : List Happened) (bs : List Base) → rs ≡ s.records ++ flat_map (notes_at s.views.me s.views.view s.views.members s.sessions bs) s.sessions.subs.live
    → P (flat_map (note_handings s.views.me s.views.view s.views.members s.sessions bs) s.sessions.subs.live) → Does scripts P s (record s { records = rs }) (λ f. entering_noted s bs)
unfolding entering_noted entering_note base_note note_of recorded_all along_records
noted_does scripts P s rs bs e received =
    let more : List Happened = flat_map (notes_at s.views.me s.views.view s.views.members s.sessions bs) s.sessions.subs.live in
    let stays = noted_stays s rs more e in
    does_handing scripts P s (record s { records = rs }) (entering_noted s bs) (flat_map (note_handings s.views.me s.views.view s.views.members s.sessions bs) s.sessions.subs.live) received
    (ap (λ (xs : List Happened). record s { records = xs }) e) stays.records stays.sessions.0
    (ap handed_in e
    ∙ (filter-append is_handed s.records more ∙ ap (λ (xs : List Happened). handed_in s.records ++ xs) (told_each s.views.me s.views.view s.views.members s.sessions bs s.sessions.subs.live)))
    (owned_each s.views.me s.views.view s.views.members s.sessions bs s.sessions.subs.live) (owners_themselves s.sessions)
    (along_records s (record s { records = rs }) more e refl (notes_leave s.views.me s.views.view s.views.members s.sessions bs s.sessions.subs.live))
    (λ o. stated_each s.views.me s.views.view s.views.members s.sessions bs s.sessions.subs.live (state_of s))
