-- What clients stand for after they were handed something, by what their node records.
use Rattle.std.proofs.Common.{◌≡◌, ℕ, zero, suc, ◌+◌, ◌<◌, Bool, true, false, List, [], ◌∷◌, ◌++◌, length, map, filter, take, get_or, Option, Some, None, refl, sym, ap, subst, ◌∙◌, append-nil, append_assoc}
use Rattle.std.proofs.lemmas.List.Elements.{filter_more}
use Rattle.std.proofs.lemmas.List.{map-append}
use Rattle.std.specs.List.{fold}
use Rattle.rsct_packet.specs.declared.ids.ProviderId.{ProviderId}
use Rattle.rsct_packet.specs.declared.ids.ProtoId.{ProtoId}
use Rattle.rsct_packet.specs.declared.ids.ViewId.{ViewId}
use Rattle.proposal_core.specs.declared.entry.Entry.{Entry}
use Rattle.proposal_core.specs.declared.group_state.GroupState.{GroupState}
use Rattle.proposal_core.specs.Fold.{empty_state}
use Rattle.subscribe_core.specs.Subs.{is_of_group, differs}
use Rattle.client_callbacks.specs.declared.ballot.Filled.{Filled}
use Rattle.client_callbacks.specs.declared.told.Told.TheVariants as told
use Rattle.client_callbacks.specs.Ballots.{BallotView}
use Rattle.client_callbacks.specs.Handed.{Handed, Notified, Informed}
use Rattle.session_state.specs.declared.casts.Cast.{Cast}
use Rattle.session_state.specs.declared.state.SessionState.{SessionState}
use Rattle.session_state.specs.State.{place_of}
use Rattle.session_clients.specs.Clients.{StandFor, StandAfter, add_at, add_for}
use Rattle.session_clients.specs.Notices.{notice_to, ballot_in, ballot_of, notified}
use Rattle.node_state.specs.declared.happened.Happened.{Happened}
use Rattle.node_state.specs.declared.happened.Happened.TheVariants as happened
use Rattle.node_state.specs.declared.state.Core.{Core}
use Rattle.node_state.specs.Handed.{Logged}
use Rattle.node_state.specs.HandOn.{cast_record, cast_records}
use Rattle.entry_delivery.specs.Received.{ballot_told, ballot_behind, handed_if, handed_by, hearer, AreLogged, IsLog, AreLogs, joined, WereHandedFrom, Handing, given_at, given_to, after_handings, Receive}
use Rattle.entry_delivery.specs.Telling.{filled_handing, heard_handing, heard_handings, note_handing, noted_handings}
use Rattle.entry_delivery.proofs.DoingLaws.{after_both, receive_nothing}

-- ---- what a log tells with more behind it

-- with records behind it of which the first is no ballot
handed_both : (rs ss : List Logged) → ballot_behind ss ≡ None → handed_by (rs ++ ss) ≡ handed_by rs ++ handed_by ss
handed_both [] ss none = refl
handed_both (r ∷ []) ss none =
    ap (λ b. handed_if r.what r.after b ++ handed_by ss) none ∙ ap (λ (hs : List Handed). hs ++ handed_by ss) (sym (append-nil (handed_if r.what r.after None)))
handed_both (r ∷ q ∷ rs) ss none =
    ap (λ (hs : List Handed). handed_if r.what r.after (ballot_told q.what) ++ hs) (handed_both (q ∷ rs) ss none)
    ∙ sym (append_assoc (handed_if r.what r.after (ballot_told q.what)) (handed_by (q ∷ rs)) (handed_by ss))

-- with records behind it that may stand behind any
logged_more : (o : Option ProviderId) (rs ss : List Logged) → ((q : Option ProviderId) → AreLogged q ss) → AreLogged o rs → AreLogged o (rs ++ ss)
logged_more o [] ss all h = all o
logged_more o (r ∷ rs) ss all h = (h.0, logged_more (hearer r.what) rs ss all h.1)

-- ---- one client was handed more

-- a record that tells this alone
abbrev TellsOne : Logged → Handed → Type 0
TellsOne r x = ((rs : List Logged) → handed_by (rs ++ r ∷ []) ≡ handed_by rs ++ x ∷ []) × ((rs : List Logged) → IsLog rs → IsLog (rs ++ r ∷ []))

-- two that tell this together
abbrev TellTogether : Logged → Logged → Handed → Type 0
TellTogether r q x = ((rs : List Logged) → handed_by ((rs ++ r ∷ []) ++ q ∷ []) ≡ handed_by rs ++ x ∷ []) × ((rs : List Logged) → IsLog rs → IsLog ((rs ++ r ∷ []) ++ q ∷ []))

-- what the logs tell is this more, and they are logs
abbrev Adds : List (List Logged) → List (List Logged) → (List (List Handed) → List (List Handed)) → Type 0
Adds old new change = (map handed_by new ≡ change (map handed_by old)) × (AreLogs old → AreLogs new)

one_at : (i : ℕ) (r : Logged) (x : Handed) (rss : List (List Logged)) → TellsOne r x → Adds rss (given_at i r rss) (add_at i x)
one_at i r x [] t = (refl, λ h. h)
one_at zero r x (rs ∷ rss) t = (ap (λ (hs : List Handed). hs ∷ map handed_by rss) (t.0 rs), λ h. (t.1 rs h.0, h.1))
one_at (suc i) r x (rs ∷ rss) t = let n = one_at i r x rss t in (ap (λ (hs : List (List Handed)). handed_by rs ∷ hs) n.0, λ h. (h.0, n.1 h.1))

two_at : (i : ℕ) (r q : Logged) (x : Handed) (rss : List (List Logged)) → TellTogether r q x → Adds rss (given_at i q (given_at i r rss)) (add_at i x)
two_at i r q x [] t = (refl, λ h. h)
two_at zero r q x (rs ∷ rss) t = (ap (λ (hs : List Handed). hs ∷ map handed_by rss) (t.0 rs), λ h. (t.1 rs h.0, h.1))
two_at (suc i) r q x (rs ∷ rss) t = let n = two_at i r q x rss t in (ap (λ (hs : List (List Handed)). handed_by rs ∷ hs) n.0, λ h. (h.0, n.1 h.1))

one_for : (place : Option ℕ) (r : Logged) (x : Handed) (rss : List (List Logged)) → TellsOne r x → Adds rss (given_to place r rss) (add_for place x)
one_for None r x rss t = (refl, λ h. h)
one_for (Some i) r x rss t = one_at i r x rss t

two_for : (place : Option ℕ) (r q : Logged) (x : Handed) (rss : List (List Logged)) → TellTogether r q x → Adds rss (given_to place q (given_to place r rss)) (add_for place x)
two_for None r q x rss t = (refl, λ h. h)
two_for (Some i) r q x rss t = two_at i r q x rss t

-- ---- clients that stood for something at first

joined_at : (firsts : List (List Handed)) (i : ℕ) (x : Handed) (hs : List (List Handed)) → joined firsts (add_at i x hs) ≡ add_at i x (joined firsts hs)
joined_at [] i x hs = refl
joined_at (f ∷ fs) i x [] = refl
joined_at (f ∷ fs) zero x (h ∷ hs) = ap (λ (xs : List Handed). xs ∷ joined fs hs) (sym (append_assoc f h (x ∷ [])))
joined_at (f ∷ fs) (suc i) x (h ∷ hs) = ap (λ (xs : List (List Handed)). (f ++ h) ∷ xs) (joined_at fs i x hs)

joined_for : (firsts : List (List Handed)) (place : Option ℕ) (x : Handed) (hs : List (List Handed)) → joined firsts (add_for place x hs) ≡ add_for place x (joined firsts hs)
joined_for firsts None x hs = refl
joined_for firsts (Some i) x hs = joined_at firsts i x hs

-- a change of lists that leaves what clients stood for at first
abbrev Aside : (List (List Handed) → List (List Handed)) → Type 0
Aside change = (firsts hs : List (List Handed)) → joined firsts (change hs) ≡ change (joined firsts hs)

-- where the clients stand for so much more, and their logs tell it
received : {C : Type 0} (R : C → List Handed → Type 0) (cs ds : List C) (change : List (List Handed) → List (List Handed)) (firsts : List (List Handed)) (old new : List (List Logged))
    → Aside change → StandAfter R cs ds change → Adds old new change → WereHandedFrom R firsts cs old → WereHandedFrom R firsts ds new
received R cs ds change firsts old new aside stand adds h =
    record { stand = subst (StandFor R ds) (sym (ap (joined firsts) adds.0 ∙ aside firsts (map handed_by old))) (stand (joined firsts (map handed_by old)) h.stand); logs = adds.1 h.logs }

-- ---- a telling

-- a record of what was told
abbrev pub Tells : Handed → Happened → Type 0
Tells x (happened.Told p r why) = x ≡ Informed (told.Refused p r why)
Tells x (happened.Noted n client v i t) = x ≡ Informed t
Tells x _ = ⊥

tells_one : (x : Handed) (r : Happened) → Tells x r → TellsOne (record { what = r; after = empty_state }) x
tells_one x (happened.Told p r why) t = (
  λ rs. handed_both rs (record { what = happened.Told p r why; after = empty_state } ∷ []) refl ∙ ap (λ y. handed_by rs ++ y ∷ []) (sym t),
  λ rs h. logged_more None rs (record { what = happened.Told p r why; after = empty_state } ∷ []) (λ q. (tt, tt)) h,
)
tells_one x (happened.Noted n client v i y) t = (
  λ rs. handed_both rs (record { what = happened.Noted n client v i y; after = empty_state } ∷ []) refl ∙ ap (λ y. handed_by rs ++ y ∷ []) (sym t),
  λ rs h. logged_more None rs (record { what = happened.Noted n client v i y; after = empty_state } ∷ []) (λ q. (tt, tt)) h,
)
tells_one x (happened.Heard p v g i e members value) t = absurd t
tells_one x (happened.Up n i) t = absurd t
tells_one x (happened.Down n) t = absurd t
tells_one x (happened.Ring n network ring members neighbour) t = absurd t
tells_one x (happened.In n v ms) t = absurd t
tells_one x (happened.Base n v g old len st) t = absurd t
tells_one x (happened.Put n v g i e) t = absurd t
tells_one x (happened.Cast p proto phase vote value message) t = absurd t
tells_one x (happened.Asked p r g y) t = absurd t
tells_one x (happened.Refused n client fault) t = absurd t
tells_one x (happened.Shown n line) t = absurd t

-- one thing is told to the client at a place
pub receive_one : {C : Type 0} (R : C → List Handed → Type 0) (cs ds : List C) (place : Option ℕ) (x : Handed) (r : Happened) → Tells x r
    → ((xss : List (List Handed)) → StandFor R cs xss → StandFor R ds (add_for place x xss)) → Receive R cs ds (record { place = place; what = r; after = empty_state } ∷ [])
unfolding after_handings
receive_one R cs ds place x r t stand firsts rss h =
    received R cs ds (add_for place x) firsts rss (given_to place (record { what = r; after = empty_state }) rss) (λ fs hs. joined_for fs place x hs) stand (one_for place (record { what = r; after = empty_state }) x rss (tells_one x r t)) h

-- ---- notices

-- what a provider hears, and the ballot behind it
abbrev heard_logged : ViewId → List ℕ → ℕ → Entry → GroupState → ProviderId → Logged
heard_logged v g i e after p = record { what = happened.Heard p v g i e after.members after.value; after = after }

abbrev cast_logged : ProviderId → ProtoId → ℕ → Filled → Logged
cast_logged p proto phase b = record { what = happened.Cast p proto phase b.vote b.value b.message; after = empty_state }

heard_tells : (v : ViewId) (g : List ℕ) (i : ℕ) (e : Entry) (after : GroupState) (p : ProviderId) → TellsOne (heard_logged v g i e after p) (Notified (notice_to v g i e after p) None)
heard_tells v g i e after p = (λ rs. handed_both rs (heard_logged v g i e after p ∷ []) refl, λ rs h. logged_more None rs (heard_logged v g i e after p ∷ []) (λ q. ((refl, refl), tt)) h)

cast_tells : (v : ViewId) (g : List ℕ) (i : ℕ) (e : Entry) (after : GroupState) (p : ProviderId) (proto : ProtoId) (phase : ℕ) (b : Filled)
    → TellTogether (heard_logged v g i e after p) (cast_logged p proto phase b) (Notified (notice_to v g i e after p) (Some b))
cast_tells v g i e after p proto phase b =
    let one : Logged = heard_logged v g i e after p in
    let two : Logged = cast_logged p proto phase b in (
      λ rs. ap handed_by (append_assoc rs (one ∷ []) (two ∷ [])) ∙ handed_both rs (one ∷ two ∷ []) refl,
      λ rs h. subst IsLog (sym (append_assoc rs (one ∷ []) (two ∷ []))) (logged_more None rs (one ∷ two ∷ []) (λ q. ((refl, refl), (refl, tt))) h),
    )

filled_adds : (place : Option ℕ) (v : ViewId) (g : List ℕ) (i : ℕ) (e : Entry) (after : GroupState) (p : ProviderId) (proto : ProtoId) (phase : ℕ) (b : Option Filled) (rss : List (List Logged))
    → Adds rss (after_handings (record { place = place; what = happened.Heard p v g i e after.members after.value; after = after } ∷ map (filled_handing place) (cast_record p proto phase b)) rss) (add_for place (Notified (notice_to v g i e after p) b))
unfolding after_handings cast_record
filled_adds place v g i e after p proto phase None rss = one_for place (heard_logged v g i e after p) (Notified (notice_to v g i e after p) None) rss (heard_tells v g i e after p)
filled_adds place v g i e after p proto phase (Some b) rss =
    two_for place (heard_logged v g i e after p) (cast_logged p proto phase b) (Notified (notice_to v g i e after p) (Some b)) rss (cast_tells v g i e after p proto phase b)

cast_adds : (place : Option ℕ) (v : ViewId) (g : List ℕ) (i : ℕ) (e : Entry) (after : GroupState) (p : ProviderId) (o : Option (ProtoId × ℕ × BallotView)) (rss : List (List Logged))
    → Adds rss (after_handings (record { place = place; what = happened.Heard p v g i e after.members after.value; after = after } ∷ map (filled_handing place) (cast_records p o)) rss) (add_for place (Notified (notice_to v g i e after p) (ballot_in o)))
unfolding after_handings cast_records
cast_adds place v g i e after p None rss = one_for place (heard_logged v g i e after p) (Notified (notice_to v g i e after p) None) rss (heard_tells v g i e after p)
cast_adds place v g i e after p (Some c) rss = filled_adds place v g i e after p c.0 c.1 (c.2).filled rss

-- what the logs tell after notices, and that they are logs
notices_told : (s : SessionState) (v : ViewId) (g : List ℕ) (i : ℕ) (e : Entry) (after : GroupState) (cs : List Cast) (rss : List (List Logged))
    → Adds rss (after_handings (heard_handings s v g i e after cs) rss) (notified s v g i e after cs)
unfolding notified after_handings
notices_told s v g i e after [] rss = (refl, λ h. h)
notices_told s v g i e after (c ∷ cs) rss =
    let one : Adds rss (after_handings (heard_handing s v g i e after c) rss) (add_for (place_of s c.provider) (Notified (notice_to v g i e after c.provider) (ballot_of c))) = cast_adds (place_of s c.provider) v g i e after c.provider c.cast rss in
    let rest : Adds (after_handings (heard_handing s v g i e after c) rss) (after_handings (heard_handings s v g i e after cs) (after_handings (heard_handing s v g i e after c) rss)) (notified s v g i e after cs) =
    notices_told s v g i e after cs (after_handings (heard_handing s v g i e after c) rss) in
    let both : after_handings (heard_handings s v g i e after (c ∷ cs)) rss ≡ after_handings (heard_handings s v g i e after cs) (after_handings (heard_handing s v g i e after c) rss) = after_both (heard_handing s v g i e after c) (heard_handings s v g i e after cs) rss in (
      ap (map handed_by) both ∙ (rest.0 ∙ ap (notified s v g i e after cs) one.0),
      λ h. subst AreLogs (sym both) (rest.1 (one.1 h)),
    )

notified_aside : (s : SessionState) (v : ViewId) (g : List ℕ) (i : ℕ) (e : Entry) (after : GroupState) (cs : List Cast) → Aside (notified s v g i e after cs)
unfolding notified
notified_aside s v g i e after [] firsts hs = refl
notified_aside s v g i e after (c ∷ cs) firsts hs =
    let x : Handed = Notified (notice_to v g i e after c.provider) (ballot_of c) in
    notified_aside s v g i e after cs firsts (add_for (place_of s c.provider) x hs) ∙ ap (notified s v g i e after cs) (joined_for firsts (place_of s c.provider) x hs)

-- the clients of these providers are handed the notice of an entry, and cast
pub receive_notices : {C : Type 0} (R : C → List Handed → Type 0) (cs ds : List C) (s : SessionState) (v : ViewId) (g : List ℕ) (i : ℕ) (e : Entry) (after : GroupState) (casts : List Cast)
    → StandAfter R cs ds (notified s v g i e after casts) → Receive R cs ds (heard_handings s v g i e after casts)
receive_notices R cs ds s v g i e after casts stand firsts rss h =
    received R cs ds (notified s v g i e after casts) firsts rss (after_handings (heard_handings s v g i e after casts) rss) (notified_aside s v g i e after casts) stand (notices_told s v g i e after casts rss) h

unnoted_head : (b : Bool) (xs : List Handing) → b ≡ false → let hs : List Handing = elim b [ true ↦ xs | false ↦ [] ] in hs ≡ []
unnoted_head true xs e = absurd cc
unnoted_head false xs e = refl

unnoted : (s : Core) (g : List ℕ) (i : ℕ) (before after : GroupState) → differs before after ≡ false → noted_handings s g i before after ≡ []
unfolding noted_handings
unnoted s g i before after same = unnoted_head (differs before after) (map (note_handing s.views.me s.views.view s.sessions g (Some i) after) (filter (is_of_group g) s.sessions.subs.live)) same

-- no subscriber is told where neither members nor value differ
pub receive_unnoted : {C : Type 0} (R : C → List Handed → Type 0) (cs : List C) (s : Core) (g : List ℕ) (i : ℕ) (before after : GroupState) → differs before after ≡ false → Receive R cs cs (noted_handings s g i before after)
receive_unnoted R cs s g i before after same = subst (Receive R cs cs) (sym (unnoted s g i before after same)) (receive_nothing R cs)

-- ---- those of a list that pass a test

pub kept_more : {A B : Type 0} (test : A → Bool) (f : A → B) (xs : List A) (k : ℕ) (x : A) → k < length xs → x ≡ get_or xs k x → test x ≡ true → map f (filter test (take (k + 1) xs)) ≡ map f (filter test (take k xs)) ++ f x ∷ []
kept_more test f xs k x lt is passes =
    let one : filter test (get_or xs k x ∷ []) ≡ x ∷ [] = rw (← is, passes) refl in
    ap (map f) (filter_more test xs k x lt) ∙ (map-append f (filter test (take k xs)) (filter test (get_or xs k x ∷ [])) ∙ ap (λ ys. map f (filter test (take k xs)) ++ map f ys) one)

pub left_more : {A B : Type 0} (test : A → Bool) (f : A → B) (xs : List A) (k : ℕ) (x : A) → k < length xs → x ≡ get_or xs k x → test x ≡ false → map f (filter test (take (k + 1) xs)) ≡ map f (filter test (take k xs))
left_more test f xs k x lt is fails =
    let none : filter test (get_or xs k x ∷ []) ≡ [] = rw (← is, fails) refl in
    ap (map f) (filter_more test xs k x lt ∙ (ap (λ ys. filter test (take k xs) ++ ys) none ∙ append-nil (filter test (take k xs))))
