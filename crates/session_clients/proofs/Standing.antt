-- One client more was handed something.
use Rattle.std.proofs.Common.{◌≡◌, ℕ, zero, suc, ◌+◌, ◌<◌, true, false, ◌&&◌, is_some, List, [], ◌∷◌, ◌++◌, Option, Some, None, length, get_or, set, take, refl, sym, ap, ◌∙◌, arith}
use Rattle.std.proofs.Common.{append_assoc}
use Rattle.std.proofs.lemmas.List.{take_more}
use Rattle.std.proofs.Common.{IsTrue, Bool}
use Rattle.std.specs.Prelude.{map, slice_get}
use Rattle.rsct_packet.specs.declared.ids.ViewId.{ViewId}
use Rattle.client_callbacks.specs.Ballots.{new_ballot, may_hold}
use Rattle.client_callbacks.specs.Handed.{Notified}
use Rattle.session_state.specs.declared.casts.Cast.{Cast}
use Rattle.proposal_core.specs.declared.entry.Entry.{Entry}
use Rattle.proposal_core.specs.declared.group_state.GroupState.{GroupState}
use Rattle.proposal_core.specs.declared.group_state.Running.{Running}
use Rattle.proposal_core.specs.Fold.{voters, voters_at}
use Rattle.rsct_packet.specs.Providers.{among}
use Rattle.rsct_packet.specs.declared.ids.ProviderId.{ProviderId}
use Rattle.client_callbacks.specs.declared.ballot.Filled.{Filled}
use Rattle.client_callbacks.specs.declared.votes.VoteItem.{VoteItem}
use Rattle.client_callbacks.specs.Handed.{Handed}
use Rattle.session_state.specs.declared.state.SessionState.{SessionState}
use Rattle.std.proofs.Common.{length-append, length-take, length-drop}
use Rattle.session_state.specs.Calls.{removed_at}
use Rattle.session_state.specs.State.{place_of}
use Rattle.session_state.specs.HandOn.{opens_phase, asks, cast_with, cast_of, casts_of}
use Rattle.session_clients.specs.Clients.{StandFor, StandAfter, add_at, add_for}
use Rattle.session_clients.specs.Notices.{notice_to, ballot_of, notified, script_for, FillsAs, Filling, Fillings}

pub stand_more : {C : Type 0} (R : C → List Handed → Type 0) (x : Handed) (cs : List C) (hs : List (List Handed)) (i : ℕ) (d y : C) → i < length cs
    → ((h : List Handed) → R (get_or cs i d) h → R y (h ++ x ∷ []))
    → StandFor R cs hs → StandFor R (set cs i y) (add_at i x hs)
stand_more R x [] hs i d y lt told s = absurd (omega arith)
stand_more R x (c ∷ cs) [] i d y lt told s = absurd s
stand_more R x (c ∷ cs) (h ∷ hs) zero d y lt told s = (told h s.0, s.1)
stand_more R x (c ∷ cs) (h ∷ hs) (suc i) d y lt told s = (s.0, stand_more R x cs hs i d y (omega arith) told s.1)

pub Fillings_more : (scripts : List (Option (List (Option VoteItem)))) (s : SessionState) (e : Entry) (after : GroupState) (ps : List ProviderId) (bs : List (Option Filled)) (p : ProviderId) (b : Option Filled)
    → Fillings scripts s e after ps bs → Filling scripts s e after p b → Fillings scripts s e after (ps ++ p ∷ []) (bs ++ b ∷ [])
Fillings_more scripts s e after [] [] p b f g = (g, tt)
Fillings_more scripts s e after [] (c ∷ bs) p b f g = absurd f
Fillings_more scripts s e after (q ∷ ps) [] p b f g = absurd f
Fillings_more scripts s e after (q ∷ ps) (c ∷ bs) p b f g = (f.0, Fillings_more scripts s e after ps bs p b f.1 g)

pub casts_more : (scripts : List (Option (List (Option VoteItem)))) (s : SessionState) (e : Entry) (after : GroupState) (level : ℕ) (ps : List ProviderId) (bs : List (Option Filled)) (p : ProviderId) (b : Option Filled)
    → Fillings scripts s e after ps bs → casts_of e after level (ps ++ p ∷ []) (bs ++ b ∷ []) ≡ casts_of e after level ps bs ++ cast_of e after level p b ∷ []
casts_more scripts s e after level [] [] p b f = refl
casts_more scripts s e after level [] (c ∷ bs) p b f = absurd f
casts_more scripts s e after level (q ∷ ps) [] p b f = absurd f
casts_more scripts s e after level (q ∷ ps) (c ∷ bs) p b f = ap (λ (xs : List _). cast_of e after level q c ∷ xs) (casts_more scripts s e after level ps bs p b f.1)

-- ---- what is filled is what is cast

asks_head : (b : Bool) → b && false ≡ true → ⊥
asks_head true h = absurd (cc)
asks_head false h = absurd (cc)

runs_where : (b : Bool) (s : GroupState) (run : Option Running) (p : ProviderId) → b && among (voters_at s run) p ≡ true → is_some run ≡ true
unfolding voters_at
runs_where b s None p h = absurd (asks_head b h)
runs_where b s (Some run) p h = refl

-- a vote is asked for where a protocol runs
pub asks_runs : (e : Entry) (after : GroupState) (p : ProviderId) → asks e after p ≡ true → is_some after.running ≡ true
unfolding asks voters
asks_runs e after p h = runs_where (opens_phase e) after after.running p h

-- where votes are asked for only while a protocol runs, a cast has what was filled
filled_kept : (v : Bool) (run : Option Running) (l : ℕ) (p : ProviderId) (f : Option Filled) → IsTrue (may_hold v l f) → (v ≡ true → is_some run ≡ true) → ballot_of (cast_with v run l p f) ≡ f
filled_kept false run l p None h r = refl
filled_kept false run l p (Some f) h r = absurd cc
filled_kept true None l p f h r = let no : false ≡ true = r refl in absurd cc
filled_kept true (Some run) l p None h r = refl
filled_kept true (Some run) l p (Some f) h r = refl

pub cast_has_filled : (e : Entry) (after : GroupState) (p : ProviderId) (v : Bool) (l : ℕ) (f : Option Filled) (c : Cast) → v ≡ asks e after p → IsTrue (may_hold v l f) → c ≡ cast_with v after.running l p f → ballot_of c ≡ f
cast_has_filled e after p v l f c ev holds made = ap ballot_of made ∙ filled_kept v after.running l p f holds (λ y. asks_runs e after p (sym ev ∙ y))

-- one provider more was handed the notice, and cast
notified_more : (s : SessionState) (v : ViewId) (g : List ℕ) (i : ℕ) (e : Entry) (after : GroupState) (cs : List Cast) (c : Cast) (hs : List (List Handed))
    → notified s v g i e after (cs ++ c ∷ []) hs ≡ add_for (place_of s c.provider) (Notified (notice_to v g i e after c.provider) (ballot_of c)) (notified s v g i e after cs hs)
unfolding notified
notified_more s v g i e after [] c hs = refl
notified_more s v g i e after (d ∷ cs) c hs = notified_more s v g i e after cs c (add_for (place_of s d.provider) (Notified (notice_to v g i e after d.provider) (ballot_of d)) hs)

cast_by : (e : Entry) (after : GroupState) (level : ℕ) (p : ProviderId) (b : Option Filled) → (cast_of e after level p b).provider ≡ p
unfolding cast_of
cast_by e after level p b = refl

pub stand_one_more : {C : Type 0} (R : C → List Handed → Type 0) (cs ds es : List C) (s : SessionState) (v : ViewId) (g : List ℕ) (i : ℕ) (e : Entry) (after : GroupState) (before : List Cast) (p : ProviderId) (b : Option Filled) (c : Cast) → c ≡ cast_of e after s.level p b
    → StandAfter R cs ds (notified s v g i e after before) → StandAfter R ds es (add_for (place_of s p) (Notified (notice_to v g i e after p) (ballot_of c))) → StandAfter R cs es (notified s v g i e after (before ++ cast_of e after s.level p b ∷ []))
stand_one_more R cs ds es s v g i e after before p b c made first next hs h =
    let same : c.provider ≡ p = ap (λ (x : Cast). x.provider) made ∙ cast_by e after s.level p b in
    let all : notified s v g i e after (before ++ c ∷ []) hs ≡ add_for (place_of s p) (Notified (notice_to v g i e after p) (ballot_of c)) (notified s v g i e after before hs) =
    notified_more s v g i e after before c hs ∙ ap (λ (q : ProviderId). add_for (place_of s q) (Notified (notice_to v g i e after q) (ballot_of c)) (notified s v g i e after before hs)) same in
    rw (← made, all) (next (notified s v g i e after before hs) (first hs h))

-- a ballot that was handed to a client is what it may fill, and its cast
pub cast_one : (scripts : List (Option (List (Option VoteItem)))) (s : SessionState) (e : Entry) (after : GroupState) (p : ProviderId) (v : Bool) (l : ℕ) (f : Option Filled) (c : Cast)
    → v ≡ asks e after p → l ≡ s.level → IsTrue (may_hold v l f)
    → FillsAs (script_for scripts (place_of s p)) after (new_ballot (asks e after p) s.level) (record { votes = v; level = l; filled = f })
    → c ≡ cast_with v after.running l p f
    → (x : Option Filled) × Filling scripts s e after p x × (c ≡ cast_of e after s.level p x)
unfolding cast_of
cast_one scripts s e after p v l f c ev el holds fills made = (f, record { holds = rw (ev, el) at holds; fills = rw (ev, el) at fills }, rw (ev, el) at made)

-- what stands at a place of a mapped list
pub map_at : {C X : Type 0} (f : C → X) (cs : List C) (i : ℕ) (d : C) → i < length cs → slice_get (map f cs) i ≡ Some (f (get_or cs i d))
map_at f [] i d lt = absurd (omega arith)
map_at f (c ∷ cs) zero d lt = refl
map_at f (c ∷ cs) (suc i) d lt = map_at f cs i d (omega arith)

-- what was filled so far, with one provider more
pub casts_one_more : {C : Type 0} (R : C → List Handed → Type 0) (cs ds es : List C) (scripts : List (Option (List (Option VoteItem)))) (s : SessionState) (v : ViewId) (g : List ℕ) (i : ℕ) (e : Entry) (after : GroupState) (ps : List ProviderId) (k : ℕ) (d : ProviderId) (bs : List (Option Filled)) (b : Option Filled) (start old pushed : List Cast) (c : Cast)
    → k < length ps → Fillings scripts s e after (take k ps) bs → Filling scripts s e after (get_or ps k d) b
    → old ≡ start ++ casts_of e after s.level (take k ps) bs → c ≡ cast_of e after s.level (get_or ps k d) b → pushed ≡ old ++ c ∷ []
    → StandAfter R cs ds (notified s v g i e after (casts_of e after s.level (take k ps) bs))
    → StandAfter R ds es (add_for (place_of s (get_or ps k d)) (Notified (notice_to v g i e after (get_or ps k d)) (ballot_of c)))
    → (x : List (Option Filled)) × Fillings scripts s e after (take (k + 1) ps) x × (pushed ≡ start ++ casts_of e after s.level (take (k + 1) ps) x)
    × StandAfter R cs es (notified s v g i e after (casts_of e after s.level (take (k + 1) ps) x))
casts_one_more R cs ds es scripts s v g i e after ps k d bs b start old pushed c lt f h eo ec ep first next = (
  bs ++ b ∷ [],
  rw (take_more ps k d lt) (Fillings_more scripts s e after (take k ps) bs (get_or ps k d) b f h),
  rw (take_more ps k d lt, casts_more scripts s e after s.level (take k ps) bs (get_or ps k d) b f, ep, eo, ec) (append_assoc start (casts_of e after s.level (take k ps) bs) (cast_of e after s.level (get_or ps k d) b ∷ [])),
  rw (take_more ps k d lt, casts_more scripts s e after s.level (take k ps) bs (get_or ps k d) b f)
      (stand_one_more R cs ds es s v g i e after (casts_of e after s.level (take k ps) bs) (get_or ps k d) b c ec first next),
)

-- lists of one length without what stands at a place of each
pub removed_alike : {A B : Type 0} (o : Option ℕ) (xs : List A) (ys : List B) → length xs ≡ length ys → length (removed_at o xs) ≡ length (removed_at o ys)
removed_alike None xs ys e = e
removed_alike (Some i) xs ys e = simp (length-append, length-take, length-drop) (rw e refl)
