-- The states of groups along the records of an entry that is handed on: none of these changes one.
use Rattle.std.proofs.Common.{◌≡◌, ℕ, Bool, true, false, List, [], ◌∷◌, ◌++◌, map, filter, Option, Some, None, refl, sym, ap, ◌∙◌, append-nil}
use Rattle.std.specs.List.{flat_map}
use Rattle.rsct_packet.specs.declared.ids.ProviderId.{ProviderId}
use Rattle.rsct_packet.specs.declared.ids.ProtoId.{ProtoId}
use Rattle.rsct_packet.specs.declared.ids.ViewId.{ViewId}
use Rattle.proposal_core.specs.declared.entry.Entry.{Entry}
use Rattle.proposal_core.specs.declared.group_state.GroupState.{GroupState}
use Rattle.subscribe_core.specs.declared.subs.Subscription.{Subscription}
use Rattle.subscribe_core.specs.Subs.{is_of_group, differs}
use Rattle.client_callbacks.specs.declared.ballot.Filled.{Filled}
use Rattle.client_callbacks.specs.Ballots.{BallotView}
use Rattle.session_state.specs.declared.casts.Cast.{Cast}
use Rattle.session_state.specs.declared.state.SessionState.{SessionState}
use Rattle.session_state.specs.State.{place_of}
use Rattle.node_state.specs.declared.happened.Happened.{Happened}
use Rattle.node_state.specs.declared.happened.Happened.TheVariants as happened
use Rattle.node_state.specs.declared.state.Core.{Core}
use Rattle.node_state.specs.State.{recorded_all, with_sessions}
use Rattle.node_state.specs.HandOn.{cast_record, cast_records, note_of, notes, noted}
use Rattle.node_state.specs.Handed.{state_along, Logged, logged_in}
use Rattle.node_state.proofs.AlongLaws.{LeavesStates, leaves_both, logged_same, logged_both}
use Rattle.entry_delivery.specs.Received.{Handing, told_by, logged, logged_by}
use Rattle.entry_delivery.specs.Telling.{heard_in, filled_handing, heard_handings, note_handing, noted_handings}
use Rattle.entry_delivery.proofs.DoingLaws.{logged_apart}

-- ---- what is heard

cast_record_leaves : (p : ProviderId) (proto : ProtoId) (phase : ℕ) (b : Option Filled) → LeavesStates (cast_record p proto phase b)
unfolding cast_record
cast_record_leaves p proto phase None g st = refl
cast_record_leaves p proto phase (Some b) g st = refl

cast_leaves : (p : ProviderId) (c : Option (ProtoId × ℕ × BallotView)) → LeavesStates (cast_records p c)
unfolding cast_records
cast_leaves p None = λ g st. refl
cast_leaves p (Some c) = cast_record_leaves p c.0 c.1 (c.2).filled

pub heard_leaves : (v : ViewId) (g : List ℕ) (i : ℕ) (e : Entry) (after : GroupState) (cs : List Cast) → LeavesStates (flat_map (heard_in v g i e after) cs)
heard_leaves v g i e after [] = λ h st. refl
heard_leaves v g i e after (c ∷ cs) = leaves_both (heard_in v g i e after c) (flat_map (heard_in v g i e after) cs) (cast_leaves c.provider c.cast) (heard_leaves v g i e after cs)

cast_record_logged : (place : Option ℕ) (p : ProviderId) (proto : ProtoId) (phase : ℕ) (b : Option Filled) (states : List ℕ → GroupState)
    → logged_in (cast_record p proto phase b) states ≡ logged_by (map (filled_handing place) (cast_record p proto phase b))
unfolding cast_record
cast_record_logged place p proto phase None states = refl
cast_record_logged place p proto phase (Some b) states = refl

cast_logged : (place : Option ℕ) (p : ProviderId) (c : Option (ProtoId × ℕ × BallotView)) (states : List ℕ → GroupState)
    → logged_in (cast_records p c) states ≡ logged_by (map (filled_handing place) (cast_records p c))
unfolding cast_records
cast_logged place p None states = refl
cast_logged place p (Some c) states = cast_record_logged place p c.0 c.1 (c.2).filled states

-- who hears the entry is handed it with the state that its group has
pub heard_stated : (s : SessionState) (v : ViewId) (g : List ℕ) (i : ℕ) (e : Entry) (after : GroupState) (cs : List Cast) (states : List ℕ → GroupState) → after ≡ states g
    → logged_in (flat_map (heard_in v g i e after) cs) states ≡ logged_by (heard_handings s v g i e after cs)
heard_stated s v g i e after [] states is = refl
heard_stated s v g i e after (c ∷ cs) states is =
    let rest : List Happened = flat_map (heard_in v g i e after) cs in
    let cast : List Happened = cast_records c.provider c.cast in
    let what : Happened = happened.Heard c.provider v g i e after.members after.value in
    let same : (h : List ℕ) → states h ≡ state_along h cast (states h) = λ h. sym (cast_leaves c.provider c.cast h (states h)) in
    ap (λ (ls : List Logged). record { what = what; after = states g } ∷ ls)
    (logged_both cast rest states
    ∙ (ap (λ (ls : List Logged). ls ++ logged_in rest (λ h. state_along h cast (states h))) (cast_logged (place_of s c.provider) c.provider c.cast states)
    ∙ (ap (λ (ls : List Logged). logged_by (map (filled_handing (place_of s c.provider)) cast) ++ ls) (logged_same rest (λ h. state_along h cast (states h)) states (λ h. sym (same h)) ∙ heard_stated s v g i e after cs states is)
    ∙ sym (logged_apart (map (filled_handing (place_of s c.provider)) cast) (heard_handings s v g i e after cs)))))
    ∙ ap (λ st. record { what = what; after = st } ∷ logged_by (map (filled_handing (place_of s c.provider)) cast ++ heard_handings s v g i e after cs)) (sym is)

-- ---- what subscribers are told

notes_leave : (me : ℕ) (v : ViewId) (s : SessionState) (g : List ℕ) (place : Option ℕ) (st : GroupState) (us : List Subscription) → LeavesStates (told_by (map (note_handing me v s g place st) us))
notes_leave me v s g place st [] h x = refl
notes_leave me v s g place st (u ∷ us) h x = notes_leave me v s g place st us h x

noted_leave_head : (b : Bool) (me : ℕ) (v : ViewId) (s : SessionState) (g : List ℕ) (place : Option ℕ) (st : GroupState) (us : List Subscription)
    → let hs : List Handing = elim b [ true ↦ map (note_handing me v s g place st) us | false ↦ [] ] in LeavesStates (told_by hs)
noted_leave_head true me v s g place st us = notes_leave me v s g place st us
noted_leave_head false me v s g place st us = λ h x. refl

pub noted_leave : (s : Core) (g : List ℕ) (i : ℕ) (before after : GroupState) → LeavesStates (told_by (noted_handings s g i before after))
unfolding noted_handings
noted_leave s g i before after = noted_leave_head (differs before after) s.views.me s.views.view s.sessions g (Some i) after (filter (is_of_group g) s.sessions.subs.live)

notes_stated : (me : ℕ) (v : ViewId) (s : SessionState) (g : List ℕ) (place : Option ℕ) (st : GroupState) (us : List Subscription) (states : List ℕ → GroupState)
    → logged_in (told_by (map (note_handing me v s g place st) us)) states ≡ logged_by (map (note_handing me v s g place st) us)
notes_stated me v s g place st [] states = refl
notes_stated me v s g place st (u ∷ us) states =
    ap (λ (ls : List Logged). logged (note_handing me v s g place st u) ∷ ls) (notes_stated me v s g place st us states)

noted_stated_head : (b : Bool) (me : ℕ) (v : ViewId) (s : SessionState) (g : List ℕ) (place : Option ℕ) (st : GroupState) (us : List Subscription) (states : List ℕ → GroupState)
    → let hs : List Handing = elim b [ true ↦ map (note_handing me v s g place st) us | false ↦ [] ] in logged_in (told_by hs) states ≡ logged_by hs
noted_stated_head true me v s g place st us states = notes_stated me v s g place st us states
noted_stated_head false me v s g place st us states = refl

pub noted_stated : (s : Core) (g : List ℕ) (i : ℕ) (before after : GroupState) (states : List ℕ → GroupState) → logged_in (told_by (noted_handings s g i before after)) states ≡ logged_by (noted_handings s g i before after)
unfolding noted_handings
noted_stated s g i before after states = noted_stated_head (differs before after) s.views.me s.views.view s.sessions g (Some i) after (filter (is_of_group g) s.sessions.subs.live) states

notes_are : (s : Core) (g : List ℕ) (place : Option ℕ) (st : GroupState) (us : List Subscription) → map (note_of s g place st) us ≡ told_by (map (note_handing s.views.me s.views.view s.sessions g place st) us)
unfolding note_of
notes_are s g place st [] = refl
notes_are s g place st (u ∷ us) = ap (λ (rs : List Happened). note_of s g place st u ∷ rs) (notes_are s g place st us)

noted_records_head : (b : Bool) (s : Core) (g : List ℕ) (i : ℕ) (st : GroupState)
    → let t : Core = elim b [ true ↦ notes s g (Some i) st | false ↦ s ] in
    let hs : List Handing = elim b [ true ↦ map (note_handing s.views.me s.views.view s.sessions g (Some i) st) (filter (is_of_group g) s.sessions.subs.live) | false ↦ [] ] in
    (t.records ≡ s.records ++ told_by hs) × (t.groups ≡ s.groups)
unfolding notes recorded_all
noted_records_head true s g i st = (ap (λ (rs : List Happened). s.records ++ rs) (notes_are s g (Some i) st (filter (is_of_group g) s.sessions.subs.live)), refl)
noted_records_head false s g i st = (sym (append-nil s.records), refl)

-- the records that subscribers are told, and no group is another one
pub noted_records : (s : Core) (g : List ℕ) (i : ℕ) (before after : GroupState) → let t : Core = noted s g i before after in (t.records ≡ s.records ++ told_by (noted_handings s g i before after)) × (t.groups ≡ s.groups)
unfolding noted noted_handings
noted_records s g i before after = noted_records_head (differs before after) s g i after

pub told_groups : (s : Core) (x : SessionState) (rs : List Happened) → (recorded_all (with_sessions s x) rs).groups ≡ s.groups
unfolding recorded_all with_sessions
told_groups s x rs = refl
