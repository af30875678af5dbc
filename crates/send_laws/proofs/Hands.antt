-- How many ballots are sent as an entry is handed on: one for each that hears it at most.
use Rattle.std.proofs.Common.{◌≡◌, ◌≤◌, ℕ, ◌+◌, List, [], ◌∷◌, ◌++◌, length, map, filter, fold, flat_map, Some, None, Option, Bool, true, false, refl, arith, length-append}
use Rattle.std.specs.Prelude.{is_none}
use Rattle.std.proofs.lemmas.Bool.{and_parts}
use Rattle.rsct_packet.specs.declared.ids.ProviderId.{ProviderId}
use Rattle.rsct_packet.specs.declared.ids.ProtoId.{ProtoId}
use Rattle.proposal_core.specs.declared.entry.Entry.{Entry}
use Rattle.proposal_core.specs.declared.entry.Entry.TheVariants.{Once, Begin, Phase, Approve, Reject, Late}
use Rattle.proposal_core.specs.declared.group_state.GroupState.{GroupState}
use Rattle.proposal_core.specs.declared.group_state.Running.{Running}
use Rattle.proposal_core.specs.Fold.{joiners_in, can_begin, fits}
use Rattle.subscribe_core.specs.declared.subs.Subscription.{Subscription}
use Rattle.subscribe_core.specs.Subs.{is_of_group, differs}
use Rattle.client_callbacks.specs.declared.ballot.Filled.{Filled}
use Rattle.client_callbacks.specs.Ballots.{BallotView}
use Rattle.session_state.specs.declared.casts.Cast.{Cast}
use Rattle.session_state.specs.declared.state.SessionState.{SessionState}
use Rattle.session_state.specs.HandOn.{hears, hearers_in, brought_by, beginners, hearers, casts_of, casts_out}
use Rattle.session_state.specs.HandOn as session
use Rattle.session_state.specs.State.{provider_of}
use Rattle.node_state.specs.declared.state.Core.{Core}
use Rattle.node_state.specs.State.{frozen, recorded_all, with_sessions}
use Rattle.node_state.specs.Sending.{vote_of}
use Rattle.node_state.specs.HandOn.{Answering, fills, cast_record, cast_records, heard, note_of, notes, noted, ballot_sent, cast_sent_of, casts_sent, hand_on}
use Rattle.send_laws.specs.Bound.{puts_of, Room, Stands}
use Rattle.send_laws.proofs.Counts.{kept_few, puts_both}
use Rattle.send_laws.proofs.Rooms.{begins_room}
use Rattle.send_laws.proofs.Parts.{Goes, goes_same, goes_more, free_then, fold_each, goes_sent_if, goes_recorded_all, goes_sessions}

-- ---- who hears

idle_joiners : (run : Option Running) → is_none run ≡ true → length (joiners_in run) ≡ 0
idle_joiners None e = refl
idle_joiners (Some run) e = absurd cc

brought_room : (st : GroupState) (e : Entry) → fits st e ≡ true → Room st → length st.members + length (joiners_in st.running) + length (brought_by e) ≤ 64
unfolding fits
brought_room st (Once x) f r =
    let a = and_parts (is_none st.running) (can_begin st x) f in omega (arith, idle_joiners st.running a.0, begins_room st x (omega arith) a.1)
brought_room st (Begin x) f r =
    let a = and_parts (is_none st.running) (can_begin st x) f in omega (arith, idle_joiners st.running a.0, begins_room st x (omega arith) a.1)
brought_room st (Phase c) f r = omega arith
brought_room st (Approve c) f r = omega arith
brought_room st (Reject c) f r = omega arith
brought_room st (Late proto phase ps) f r = omega arith

heard_few : (s : SessionState) (g : List ℕ) (part : Bool) (ps : List ProviderId) → length (hearers_in s g part ps) ≤ length ps
unfolding hearers_in
heard_few s g part ps = kept_few (λ p. hears g part (provider_of s p)) ps

pub hearers_few : (s : SessionState) (g : List ℕ) (st : GroupState) (e : Entry) → fits st e ≡ true → Room st → length (hearers s g st e) ≤ 64
unfolding hearers beginners
hearers_few s g st e f r =
    let is : length (hearers s g st e) ≡ length (hearers_in s g true st.members ++ hearers_in s g true (joiners_in st.running) ++ hearers_in s g false (brought_by e)) = refl in
    omega (
      arith,
      is,
      brought_room st e f r,
      length-append (hearers_in s g true st.members ++ hearers_in s g true (joiners_in st.running)) (hearers_in s g false (brought_by e)),
      length-append (hearers_in s g true st.members) (hearers_in s g true (joiners_in st.running)),
      heard_few s g true st.members,
      heard_few s g true (joiners_in st.running),
      heard_few s g false (brought_by e),
    )

-- ---- what is recorded

pub casts_long : (e : Entry) (st : GroupState) (level : ℕ) (ps : List ProviderId) (bs : List (Option Filled)) → length (casts_of e st level ps bs) ≡ length ps
casts_long e st level [] bs = refl
casts_long e st level (p ∷ ps) [] = let h : length (casts_of e st level ps []) ≡ length ps = casts_long e st level ps [] in omega arith
casts_long e st level (p ∷ ps) (b ∷ bs) = let h : length (casts_of e st level ps bs) ≡ length ps = casts_long e st level ps bs in omega arith

no_put_cast : (p : ProviderId) (proto : ProtoId) (phase : ℕ) (b : Option Filled) → puts_of (cast_record p proto phase b) ≡ 0
unfolding cast_record
no_put_cast p proto phase None = refl
no_put_cast p proto phase (Some b) = refl

no_put_casts : (p : ProviderId) (o : Option (ProtoId × ℕ × BallotView)) → puts_of (cast_records p o) ≡ 0
unfolding cast_records
no_put_casts p None = refl
no_put_casts p (Some c) = no_put_cast p c.0 c.1 (c.2).filled

pub no_put_heard : (s : Core) (g : List ℕ) (i : ℕ) (e : Entry) (st : GroupState) (cs : List Cast) → puts_of (flat_map (heard s g i e st) cs) ≡ 0
unfolding heard
no_put_heard s g i e st [] = refl
no_put_heard s g i e st (c ∷ cs) =
    omega (arith, puts_both (cast_records c.provider c.cast) (flat_map (heard s g i e st) cs), no_put_casts c.provider c.cast, no_put_heard s g i e st cs)

no_put_notes : (s : Core) (g : List ℕ) (place : Option ℕ) (st : GroupState) (us : List Subscription) → puts_of (map (note_of s g place st) us) ≡ 0
unfolding note_of
no_put_notes s g place st [] = refl
no_put_notes s g place st (u ∷ us) = let h : puts_of (map (note_of s g place st) us) ≡ 0 = no_put_notes s g place st us in omega arith

pub goes_noted : (s : Core) (g : List ℕ) (i : ℕ) (before after : GroupState) → Stands s → Goes 0 s (noted s g i before after)
unfolding noted notes
goes_noted s g i before after k = by (differs before after)
  where
    by : (b : Bool) → Goes 0 s (elim b [ true ↦ notes s g (Some i) after | false ↦ s ])
    by true = goes_recorded_all s (map (note_of s g (Some i) after) (filter (is_of_group g) s.sessions.subs.live)) (no_put_notes s g (Some i) after (filter (is_of_group g) s.sessions.subs.live)) k
    by false = goes_same s k

-- ---- what is sent

goes_cast : (s : Core) (g : List ℕ) (to : Option ℕ) (p : ProviderId) (o : Option (ProtoId × ℕ × BallotView)) → Stands s → Goes 1 s (cast_sent_of s g to p o)
unfolding cast_sent_of ballot_sent vote_of
goes_cast s g to p None k = goes_more 0 1 s s (omega arith) (goes_same s k)
goes_cast s g to p (Some c) k = by (c.2).filled
  where
    by : (b : Option Filled) → Goes 1 s (ballot_sent s g to p c.0 c.1 b)
    by None = goes_more 0 1 s s (omega arith) (goes_same s k)
    by (Some b) = goes_sent_if s to (vote_of s g c.0 c.1 p b) tt k

goes_casts : (s : Core) (g : List ℕ) (to : Option ℕ) (cs : List Cast) → Stands s → Goes (length cs) s (casts_sent s g to cs)
unfolding casts_sent
goes_casts s g to cs k = by (frozen s)
  where
    by : (b : Bool) → Goes (length cs) s (elim b [ true ↦ s | false ↦ fold (λ t (c : Cast). cast_sent_of t g to c.provider c.cast) s cs ])
    by true = goes_more 0 (length cs) s s (omega arith) (goes_same s k)
    by false = fold_each (λ t (c : Cast). cast_sent_of t g to c.provider c.cast) (λ t c h. goes_cast t g to c.provider c.cast h) cs s k

-- as many packets as there are that hear it, at most
pub goes_handed : (f : Answering) (s : Core) (to : Option ℕ) (g : List ℕ) (i : ℕ) (before after : GroupState) (e : Entry) → fits before e ≡ true → Room before → Stands s → Goes 64 s (hand_on f s to g i before after e)
unfolding hand_on casts_out
goes_handed f s to g i before after e fit room k =
    let bs : List (Option Filled) = fills f (length s.records) s.sessions e after (hearers s.sessions g before e) in
    let cs : List Cast = casts_out s.sessions g before after e bs in
    let a : Core = recorded_all s (flat_map (heard s g i e after) cs) in
    let t : Core = noted a g i before after in
    let u : Core = with_sessions t (session.handed_on s.sessions g before after e bs) in
    let ga : Goes 0 s a = goes_recorded_all s (flat_map (heard s g i e after) cs) (no_put_heard s g i e after cs) k in
    let gt : Goes 0 a t = goes_noted a g i before after ga.stands in
    let gu : Goes 0 t u = goes_sessions t (session.handed_on s.sessions g before after e bs) gt.stands in
    let gv : Goes (length cs) u (casts_sent u g to cs) = goes_casts u g to cs gu.stands in
    let few : length cs ≤ 64 = omega (arith, casts_long e after s.sessions.level (hearers s.sessions g before e) bs, hearers_few s.sessions g before e fit room) in
    goes_more (length cs) 64 s (casts_sent u g to cs) few (free_then (length cs) s a (casts_sent u g to cs) ga (free_then (length cs) a t (casts_sent u g to cs) gt (free_then (length cs) t u (casts_sent u g to cs) gu gv)))
