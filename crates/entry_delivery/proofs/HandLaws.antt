-- What handing an entry on does: the row of its definition, for all answers that agree with what clients filled.
use Rattle.std.proofs.Common.{◌≡◌, ℕ, ◌+◌, ◌≤◌, Bool, true, false, ◌++◌, List, [], ◌∷◌, length, map, filter, cond, Option, Some, None, is_some, refl, sym, ap, subst, ◌∙◌, arith, append_assoc, append-nil, length-append}
use Rattle.std.specs.List.{fold, flat_map}
use Rattle.std.specs.Option.{unwrap_or}
use Rattle.std.specs.Prelude.{find}
use Rattle.std.proofs.lemmas.List.Elements.{filter-append}
use Rattle.rsct_packet.specs.declared.ids.ProviderId.{ProviderId}
use Rattle.rsct_packet.specs.declared.ids.ProtoId.{ProtoId}
use Rattle.rsct_packet.specs.declared.ids.ViewId.{ViewId}
use Rattle.proposal_core.specs.declared.entry.Entry.{Entry}
use Rattle.proposal_core.specs.declared.group_state.GroupState.{GroupState}
use Rattle.proposal_core.specs.declared.group_state.Running.{Running}
use Rattle.proposal_core.specs.Fold.{joiners_in}
use Rattle.subscribe_core.specs.declared.subs.Subscription.{Subscription}
use Rattle.subscribe_core.specs.Subs.{SubsView, is_of_group, differs}
use Rattle.client_callbacks.specs.declared.ballot.Filled.{Filled}
use Rattle.client_callbacks.specs.declared.votes.VoteItem.{VoteItem}
use Rattle.client_callbacks.specs.declared.told.Told.TheVariants as told
use Rattle.client_callbacks.specs.Ballots.{BallotView}
use Rattle.session_state.specs.declared.casts.Cast.{Cast}
use Rattle.session_state.specs.declared.state.Session.{Session}
use Rattle.session_state.specs.declared.state.SessionState.{SessionState}
use Rattle.session_state.specs.declared.state.Provider.{Provider}
use Rattle.session_state.specs.State.{is_session, provider_of, place_of, name_in, client_name}
use Rattle.session_state.specs.Calls.{SameSessions}
use Rattle.session_state.specs.HandOn.{asks, hears, hearers_in, brought_by, cast_with, cast_of, casts_of, casts_out, hearers, beginners}
use Rattle.session_state.specs.HandOn as session
use Rattle.session_clients.specs.Notices.{Fillings}
use Rattle.session_clients.proofs.Standing.{asks_runs}
use Rattle.node_state.specs.declared.happened.Happened.{Happened}
use Rattle.node_state.specs.declared.happened.Happened.TheVariants as happened
use Rattle.node_state.specs.declared.packet.Body.{Body}
use Rattle.node_state.specs.declared.state.Core.{Core}
use Rattle.node_state.specs.State.{frozen, state_of, recorded_all, with_sessions}
use Rattle.node_state.specs.Sending.{send_on, sent, send_if_known}
use Rattle.node_state.specs.HandOn.{Answering, answer_if, records_of_notice, fills, cast_record, cast_records, heard, subscriber_name, note_of, notes, noted, ballot_sent, cast_sent_of, casts_sent, hand_on}
use Rattle.session_state.specs.Owners.{KeepsOwners}
use Rattle.node_state.specs.Handed.{is_handed, handed_in, state_along, Logged, logged_in}
use Rattle.node_state.proofs.AlongLaws.{LeavesStates, leaves_both, along_records, logged_both}
use Rattle.entry_delivery.specs.Received.{Handing, AreFor, told_by, logged_by}
use Rattle.entry_delivery.specs.Telling.{heard_in, note_in, filled_handing, heard_handing, heard_handings, note_handing, noted_handings}
use Rattle.entry_delivery.specs.Doing.{Joins, Question, Agrees, Rise, AreFilled, Does, Ready}
use Rattle.entry_delivery.proofs.DoingLaws.{rise_lower, rise_upper, told_both, logged_apart, are_for_back, are_for_both, Beside, beside_itself, beside_then, beside_as, beside_grows, ready_same, ready_beside}
use Rattle.entry_delivery.proofs.KeepLaws.{SameNames, heard_same}
use Rattle.entry_delivery.proofs.OwnerLaws.{heard_owners}
use Rattle.entry_delivery.proofs.StateLaws.{heard_leaves, heard_stated, noted_leave, noted_stated, noted_records, told_groups}

-- ---- the questions

-- of an entry that is handed to ps, whose clients fill bs
questions : ℕ → SessionState → Entry → GroupState → List ProviderId → List (Option Filled) → List Question
questions n s e after [] bs = []
questions n s e after (p ∷ ps) [] = []
questions n s e after (p ∷ ps) (b ∷ bs) =
    record { place = n; sessions = s; entry = e; after = after; provider = p; filled = b } ∷ questions (n + records_of_notice (answer_if (asks e after p) b)) s e after ps bs

questions_filled : (scripts : List (Option (List (Option VoteItem)))) (n : ℕ) (s : SessionState) (e : Entry) (after : GroupState) (ps : List ProviderId) (bs : List (Option Filled)) → Fillings scripts s e after ps bs → AreFilled scripts s.sessions (questions n s e after ps bs)
unfolding questions
questions_filled scripts n s e after [] bs h = tt
questions_filled scripts n s e after (p ∷ ps) [] h = tt
questions_filled scripts n s e after (p ∷ ps) (b ∷ bs) h = (refl, (h.0, questions_filled scripts (n + records_of_notice (answer_if (asks e after p) b)) s e after ps bs h.1))

-- a notice has as many records as are counted for it
count_head : (votes : Bool) (run : Option Running) (level : ℕ) (v : ViewId) (g : List ℕ) (i : ℕ) (e : Entry) (after : GroupState) (p : ProviderId) (b : Option Filled) → (votes ≡ true → is_some run ≡ true)
    → length (heard_in v g i e after (cast_with votes run level p b)) ≡ records_of_notice (answer_if votes b)
unfolding records_of_notice answer_if cast_records cast_record
count_head false run level v g i e after p b runs = refl
count_head true None level v g i e after p b runs = let h : false ≡ true = runs refl in absurd (cc)
count_head true (Some run) level v g i e after p None runs = refl
count_head true (Some run) level v g i e after p (Some x) runs = refl

heard_count : (level : ℕ) (v : ViewId) (g : List ℕ) (i : ℕ) (e : Entry) (after : GroupState) (p : ProviderId) (b : Option Filled) → length (heard_in v g i e after (cast_of e after level p b)) ≡ records_of_notice (answer_if (asks e after p) b)
unfolding cast_of
heard_count level v g i e after p b = count_head (asks e after p) after.running level v g i e after p b (asks_runs e after p)

one_record : (b : Option Filled) → 1 ≤ records_of_notice b
unfolding records_of_notice
one_record None = omega arith
one_record (Some x) = omega arith

questions_placed : (scripts : List (Option (List (Option VoteItem)))) (n high level : ℕ) (v : ViewId) (g : List ℕ) (i : ℕ) (s : SessionState) (e : Entry) (after : GroupState) (ps : List ProviderId) (bs : List (Option Filled))
    → Fillings scripts s e after ps bs → high ≡ n + length (flat_map (heard_in v g i e after) (casts_of e after level ps bs)) → Rise n high (questions n s e after ps bs)
unfolding questions
questions_placed scripts n high level v g i s e after [] bs h to = omega arith
questions_placed scripts n high level v g i s e after (p ∷ ps) [] h to = absurd h
questions_placed scripts n high level v g i s e after (p ∷ ps) (b ∷ bs) h to =
    let rest : List Happened = flat_map (heard_in v g i e after) (casts_of e after level ps bs) in
    let one : List Happened = heard_in v g i e after (cast_of e after level p b) in
    let count : length one ≡ records_of_notice (answer_if (asks e after p) b) = heard_count level v g i e after p b in
    let some : 1 ≤ records_of_notice (answer_if (asks e after p) b) = one_record (answer_if (asks e after p) b) in
    let both : length (one ++ rest) ≡ length one + length rest = length-append one rest in
    let there : high ≡ n + length (one ++ rest) = to in (
      omega arith,
      rise_lower (n + 1) (n + records_of_notice (answer_if (asks e after p) b)) high _ (omega arith)
          (questions_placed scripts (n + records_of_notice (answer_if (asks e after p) b)) high level v g i s e after ps bs h.1 (omega (arith, there, both, count))),
    )

-- ---- what is cast

asked_head : (votes : Bool) (run : Option Running) (level : ℕ) (p : ProviderId) (b : Option Filled) → cast_with votes run level p (answer_if votes b) ≡ cast_with votes run level p b
unfolding answer_if
asked_head true run level p b = refl
asked_head false run level p b = refl

-- what is filled without being asked for is not cast
cast_asked : (e : Entry) (after : GroupState) (level : ℕ) (p : ProviderId) (b : Option Filled) → cast_of e after level p (answer_if (asks e after p) b) ≡ cast_of e after level p b
unfolding cast_of
cast_asked e after level p b = asked_head (asks e after p) after.running level p b

-- answers that agree with what is filled are cast as it is
casts_agree : (scripts : List (Option (List (Option VoteItem)))) (f : Answering) (n : ℕ) (s : SessionState) (level : ℕ) (e : Entry) (after : GroupState) (ps : List ProviderId) (bs : List (Option Filled))
    → Fillings scripts s e after ps bs → Agrees f (questions n s e after ps bs) → casts_of e after level ps (fills f n s e after ps) ≡ casts_of e after level ps bs
unfolding questions fills
casts_agree scripts f n s level e after [] bs h a = refl
casts_agree scripts f n s level e after (p ∷ ps) [] h a = absurd h
casts_agree scripts f n s level e after (p ∷ ps) (b ∷ bs) h a =
    ap (λ (x : Option Filled). cast_of e after level p x ∷ casts_of e after level ps (fills f (n + records_of_notice x) s e after ps)) a.0
    ∙ (ap (λ (c : Cast). c ∷ casts_of e after level ps (fills f (n + records_of_notice (answer_if (asks e after p) b)) s e after ps)) (cast_asked e after level p b)
    ∙ ap (λ (cs : List Cast). cast_of e after level p b ∷ cs) (casts_agree scripts f (n + records_of_notice (answer_if (asks e after p) b)) s level e after ps bs h.1 a.1))

-- ---- what subscribers are told

note_by : ℕ → ViewId → List Session → List ℕ → Option ℕ → GroupState → Subscription → Happened
note_by me v ss g place st u = happened.Noted me (unwrap_or (name_in (find (is_session u.client) ss)) []) v place (told.Note g st.members st.value)

notes_same : (me : ℕ) (v : ViewId) (s t : SessionState) (g : List ℕ) (place : Option ℕ) (st : GroupState) → SameNames s t
    → map (note_in me v t g place st) (filter (is_of_group g) t.subs.live) ≡ map (note_in me v s g place st) (filter (is_of_group g) s.subs.live)
unfolding note_by subscriber_name client_name
notes_same me v s t g place st same =
    ap (λ (subs : SubsView). map (note_by me v t.sessions g place st) (filter (is_of_group g) subs.live)) same.subs
    ∙ ap (λ (ss : List Session). map (note_by me v ss g place st) (filter (is_of_group g) s.subs.live)) same.sessions

aside_head : (b : Bool) (s : Core) (t : SessionState) (g : List ℕ) (place : Option ℕ) (st : GroupState) → SameNames s.sessions t
    → with_sessions (elim b [ true ↦ notes s g place st | false ↦ s ]) t ≡ elim b [ true ↦ notes (with_sessions s t) g place st | false ↦ with_sessions s t ]
unfolding notes note_of with_sessions recorded_all
aside_head true s t g place st same =
    sym (ap (λ (rs : List Happened). record s { sessions = t; records = s.records ++ rs }) (notes_same s.views.me s.views.view s.sessions t g place st same))
aside_head false s t g place st same = refl

-- subscribers are told the same behind the sessions' change as before it
noted_aside : (s : Core) (t : SessionState) (g : List ℕ) (i : ℕ) (before after : GroupState) → SameNames s.sessions t → noted (with_sessions s t) g i before after ≡ with_sessions (noted s g i before after) t
unfolding noted
noted_aside s t g i before after same = sym (aside_head (differs before after) s t g (Some i) after same)

grows_head : (b : Bool) (s : Core) (g : List ℕ) (place : Option ℕ) (st : GroupState) → let t : Core = elim b [ true ↦ notes s g place st | false ↦ s ] in length s.records ≤ length t.records
unfolding notes recorded_all
grows_head true s g place st = omega (arith, length-append s.records (map (note_of s g place st) (filter (is_of_group g) s.sessions.subs.live)))
grows_head false s g place st = omega arith

noted_grows : (s : Core) (g : List ℕ) (i : ℕ) (before after : GroupState) → length s.records ≤ length (noted s g i before after).records
unfolding noted
noted_grows s g i before after = grows_head (differs before after) s g (Some i) after

keeps_head : (b : Bool) (s : Core) (g : List ℕ) (place : Option ℕ) (st : GroupState) → let t : Core = elim b [ true ↦ notes s g place st | false ↦ s ] in t.sessions ≡ s.sessions
unfolding notes recorded_all
keeps_head true s g place st = refl
keeps_head false s g place st = refl

noted_keeps : (s : Core) (g : List ℕ) (i : ℕ) (before after : GroupState) → (noted s g i before after).sessions ≡ s.sessions
unfolding noted
noted_keeps s g i before after = keeps_head (differs before after) s g (Some i) after

-- ---- what is sent

pub sent_beside : (s : Core) (to : ℕ) (b : Body) → Beside s (sent s to b)
unfolding sent send_on
sent_beside s to b = record { records = refl; sessions = refl; views = refl; groups = refl }

pub sent_if_known_beside : (s : Core) (to : Option ℕ) (b : Body) → Beside s (send_if_known s to b)
unfolding send_if_known
sent_if_known_beside s None b = beside_itself s
sent_if_known_beside s (Some n) b = sent_beside s n b

ballot_beside : (s : Core) (g : List ℕ) (to : Option ℕ) (p : ProviderId) (proto : ProtoId) (phase : ℕ) (b : Option Filled) → Beside s (ballot_sent s g to p proto phase b)
unfolding ballot_sent
ballot_beside s g to p proto phase None = beside_itself s
ballot_beside s g to p proto phase (Some b) = sent_if_known_beside s to _

cast_beside : (s : Core) (g : List ℕ) (to : Option ℕ) (p : ProviderId) (c : Option (ProtoId × ℕ × BallotView)) → Beside s (cast_sent_of s g to p c)
unfolding cast_sent_of
cast_beside s g to p None = beside_itself s
cast_beside s g to p (Some c) = ballot_beside s g to p c.0 c.1 (c.2).filled

each_beside : (s : Core) (g : List ℕ) (to : Option ℕ) (cs : List Cast) → Beside s (fold (λ t c. cast_sent_of t g to c.provider c.cast) s cs)
each_beside s g to [] = beside_itself s
each_beside s g to (c ∷ cs) = beside_then s (cast_sent_of s g to c.provider c.cast) _ (cast_beside s g to c.provider c.cast) (each_beside (cast_sent_of s g to c.provider c.cast) g to cs)

casts_if : (b : Bool) (s : Core) (g : List ℕ) (to : Option ℕ) (cs : List Cast) → Beside s (elim b [ true ↦ s | false ↦ fold (λ t c. cast_sent_of t g to c.provider c.cast) s cs ])
casts_if true s g to cs = beside_itself s
casts_if false s g to cs = each_beside s g to cs

casts_sent_beside : (s : Core) (g : List ℕ) (to : Option ℕ) (cs : List Cast) → Beside s (casts_sent s g to cs)
unfolding casts_sent
casts_sent_beside s g to cs = casts_if (frozen s) s g to cs

-- ---- handing on

-- the sessions where these are cast
sessions_with : SessionState → List ℕ → GroupState → GroupState → Entry → List Cast → SessionState
sessions_with s g before after e cs = session.heard s g after e (hearers s g before e) (beginners s g e) cs

-- what handing on comes to where these are cast
handed_with : Core → Option ℕ → List ℕ → ℕ → GroupState → GroupState → Entry → List Cast → Core
handed_with s to g i before after e cs =
    casts_sent (with_sessions (noted (recorded_all s (flat_map (heard_in s.views.view g i e after) cs)) g i before after) (sessions_with s.sessions g before after e cs)) g to cs

handed_as : (f : Answering) (s : Core) (to : Option ℕ) (g : List ℕ) (i : ℕ) (before after : GroupState) (e : Entry)
    → handed_with s to g i before after e (casts_of e after s.sessions.level (hearers s.sessions g before e) (fills f (length s.records) s.sessions e after (hearers s.sessions g before e))) ≡ hand_on f s to g i before after e
unfolding handed_with sessions_with hand_on casts_out session.handed_on heard
handed_as f s to g i before after e = refl

sessions_as : (s : SessionState) (g : List ℕ) (before after : GroupState) (e : Entry) (bs : List (Option Filled)) → session.handed_on s g before after e bs ≡ sessions_with s g before after e (casts_out s g before after e bs)
unfolding sessions_with session.handed_on
sessions_as s g before after e bs = refl

out_as : (s : SessionState) (g : List ℕ) (before after : GroupState) (e : Entry) (bs : List (Option Filled)) → casts_out s g before after e bs ≡ casts_of e after s.level (hearers s g before e) bs
unfolding casts_out
out_as s g before after e bs = refl

swapped : (s : Core) (x : SessionState) (rs : List Happened) → recorded_all (with_sessions s x) rs ≡ with_sessions (recorded_all s rs) x
unfolding recorded_all with_sessions
swapped s x rs = refl

told_records : (s : Core) (x : SessionState) (rs : List Happened) → (recorded_all (with_sessions s x) rs).records ≡ s.records ++ rs
unfolding recorded_all with_sessions
told_records s x rs = refl

sessions_of : (s : Core) (rs : List Happened) → (recorded_all s rs).sessions ≡ s.sessions
unfolding recorded_all
sessions_of s rs = refl

-- the core where these are cast
comes_to : (s t u w : Core) (v : ViewId) (to : Option ℕ) (g : List ℕ) (i : ℕ) (before after : GroupState) (e : Entry) (x : SessionState) (cs : List Cast)
    → v ≡ s.views.view → x ≡ sessions_with s.sessions g before after e cs → t ≡ recorded_all (with_sessions s x) (flat_map (heard_in v g i e after) cs) → u ≡ noted t g i before after → w ≡ casts_sent u g to cs → w ≡ handed_with s to g i before after e cs
unfolding handed_with sessions_with
comes_to s t u w v to g i before after e x cs view sessions handing noting sending =
    let rs : List Happened = flat_map (heard_in s.views.view g i e after) cs in
    let y : SessionState = sessions_with s.sessions g before after e cs in
    let same : SameNames (recorded_all s rs).sessions y = rw (sessions_of s rs) (heard_same s.sessions g after e (hearers s.sessions g before e) (beginners s.sessions g e) cs) in
    let first : t ≡ with_sessions (recorded_all s rs) y =
    handing
    ∙ (ap (λ (z : ViewId). recorded_all (with_sessions s x) (flat_map (heard_in z g i e after) cs)) view
    ∙ (ap (λ (z : SessionState). recorded_all (with_sessions s z) rs) sessions ∙ swapped s y rs)) in
    sending
    ∙ ap (λ (z : Core). casts_sent z g to cs) (noting ∙ (ap (λ (z : Core). noted z g i before after) first ∙ noted_aside (recorded_all s rs) y g i before after same))

-- ---- what is handed

-- the records of what is heard and cast tell it, in order, with no other that is handed to a client
filled_told : (place : Option ℕ) (p : ProviderId) (proto : ProtoId) (phase : ℕ) (b : Option Filled) → handed_in (cast_record p proto phase b) ≡ told_by (map (filled_handing place) (cast_record p proto phase b))
unfolding cast_record
filled_told place p proto phase None = refl
filled_told place p proto phase (Some b) = refl

cast_told : (place : Option ℕ) (p : ProviderId) (c : Option (ProtoId × ℕ × BallotView)) → handed_in (cast_records p c) ≡ told_by (map (filled_handing place) (cast_records p c))
unfolding cast_records
cast_told place p None = refl
cast_told place p (Some c) = filled_told place p c.0 c.1 (c.2).filled

heard_told : (s : SessionState) (v : ViewId) (g : List ℕ) (i : ℕ) (e : Entry) (after : GroupState) (cs : List Cast) → handed_in (flat_map (heard_in v g i e after) cs) ≡ told_by (heard_handings s v g i e after cs)
heard_told s v g i e after [] = refl
heard_told s v g i e after (c ∷ cs) =
    let rest : List Happened = flat_map (heard_in v g i e after) cs in
    let mine : List Handing = map (filled_handing (place_of s c.provider)) (cast_records c.provider c.cast) in
    ap (λ (rs : List Happened). happened.Heard c.provider v g i e after.members after.value ∷ rs)
    (filter-append is_handed (cast_records c.provider c.cast) rest
    ∙ (ap (λ (rs : List Happened). rs ++ handed_in rest) (cast_told (place_of s c.provider) c.provider c.cast)
    ∙ (ap (λ (rs : List Happened). told_by mine ++ rs) (heard_told s v g i e after cs) ∙ sym (told_both mine (heard_handings s v g i e after cs)))))

notes_told : (me : ℕ) (v : ViewId) (s : SessionState) (g : List ℕ) (place : Option ℕ) (st : GroupState) (us : List Subscription) → handed_in (map (note_in me v s g place st) us) ≡ told_by (map (note_handing me v s g place st) us)
notes_told me v s g place st [] = refl
notes_told me v s g place st (u ∷ us) = ap (λ (rs : List Happened). note_in me v s g place st u ∷ rs) (notes_told me v s g place st us)

noted_told_head : (b : Bool) (s : Core) (g : List ℕ) (i : ℕ) (st : GroupState)
    → let t : Core = elim b [ true ↦ notes s g (Some i) st | false ↦ s ] in
    let hs : List Handing = elim b [ true ↦ map (note_handing s.views.me s.views.view s.sessions g (Some i) st) (filter (is_of_group g) s.sessions.subs.live) | false ↦ [] ] in
    handed_in t.records ≡ handed_in s.records ++ told_by hs
unfolding notes note_of recorded_all
noted_told_head true s g i st =
    let us : List Subscription = filter (is_of_group g) s.sessions.subs.live in
    filter-append is_handed s.records (map (note_in s.views.me s.views.view s.sessions g (Some i) st) us)
    ∙ ap (λ (rs : List Happened). handed_in s.records ++ rs) (notes_told s.views.me s.views.view s.sessions g (Some i) st us)
noted_told_head false s g i st = sym (append-nil (handed_in s.records))

noted_told : (s : Core) (g : List ℕ) (i : ℕ) (before after : GroupState) → handed_in (noted s g i before after).records ≡ handed_in s.records ++ told_by (noted_handings s g i before after)
unfolding noted noted_handings
noted_told s g i before after = noted_told_head (differs before after) s g i after

notes_owned : (me : ℕ) (v : ViewId) (s : SessionState) (g : List ℕ) (place : Option ℕ) (st : GroupState) (us : List Subscription) → AreFor s (map (note_handing me v s g place st) us)
unfolding subscriber_name
notes_owned me v s g place st [] = tt
notes_owned me v s g place st (u ∷ us) = ((u.client, refl, refl), notes_owned me v s g place st us)

noted_owned_head : (b : Bool) (s : Core) (g : List ℕ) (i : ℕ) (st : GroupState)
    → let hs : List Handing = elim b [ true ↦ map (note_handing s.views.me s.views.view s.sessions g (Some i) st) (filter (is_of_group g) s.sessions.subs.live) | false ↦ [] ] in AreFor s.sessions hs
noted_owned_head true s g i st = notes_owned s.views.me s.views.view s.sessions g (Some i) st (filter (is_of_group g) s.sessions.subs.live)
noted_owned_head false s g i st = tt

noted_owned : (s : Core) (g : List ℕ) (i : ℕ) (before after : GroupState) → AreFor s.sessions (noted_handings s g i before after)
unfolding noted_handings
noted_owned s g i before after = noted_owned_head (differs before after) s g i after

-- who hears is live
hears_live : (g : List ℕ) (part : Bool) (o : Option Provider) → hears g part o ≡ true → o ≡ None → ⊥
hears_live g part (Some x) h e = absurd cc
hears_live g true None h e = absurd cc
hears_live g false None h e = absurd cc

abbrev AreLive : SessionState → List ProviderId → Type 0
AreLive s [] = Unit {0}
AreLive s (p ∷ ps) = (provider_of s p ≡ None → ⊥) × AreLive s ps

live_both : (s : SessionState) (ps qs : List ProviderId) → AreLive s ps → AreLive s qs → AreLive s (ps ++ qs)
live_both s [] qs a b = b
live_both s (p ∷ ps) qs a b = (a.0, live_both s ps qs a.1 b)

live_head : (s : SessionState) (g : List ℕ) (part : Bool) (p : ProviderId) (rest : List ProviderId) (b : Bool) → hears g part (provider_of s p) ≡ b → AreLive s rest → AreLive s (cond b (p ∷ rest) rest)
live_head s g part p rest true e h = (hears_live g part (provider_of s p) e, h)
live_head s g part p rest false e h = h

live_in : (s : SessionState) (g : List ℕ) (part : Bool) (ps : List ProviderId) → AreLive s (hearers_in s g part ps)
unfolding hearers_in
live_in s g part [] = tt
live_in s g part (p ∷ ps) = live_head s g part p (hearers_in s g part ps) (hears g part (provider_of s p)) refl (live_in s g part ps)

filled_owned : (s : SessionState) (p : ProviderId) (proto : ProtoId) (phase : ℕ) (b : Option Filled) → (provider_of s p ≡ None → ⊥) → AreFor s (map (filled_handing (place_of s p)) (cast_record p proto phase b))
unfolding cast_record
filled_owned s p proto phase None live = tt
filled_owned s p proto phase (Some b) live = ((refl, live), tt)

cast_owned : (s : SessionState) (p : ProviderId) (c : Option (ProtoId × ℕ × BallotView)) → (provider_of s p ≡ None → ⊥) → AreFor s (map (filled_handing (place_of s p)) (cast_records p c))
unfolding cast_records
cast_owned s p None live = tt
cast_owned s p (Some c) live = filled_owned s p c.0 c.1 (c.2).filled live

heard_owned_in : (s : SessionState) (level : ℕ) (v : ViewId) (g : List ℕ) (i : ℕ) (e : Entry) (after : GroupState) (ps : List ProviderId) (bs : List (Option Filled)) → AreLive s ps → AreFor s (heard_handings s v g i e after (casts_of e after level ps bs))
unfolding cast_of
heard_owned_in s level v g i e after [] bs h = tt
heard_owned_in s level v g i e after (p ∷ ps) [] h =
    let c : Cast = cast_of e after level p None in
    are_for_both s (heard_handing s v g i e after c) (heard_handings s v g i e after (casts_of e after level ps [])) ((refl, h.0), cast_owned s p c.cast h.0) (heard_owned_in s level v g i e after ps [] h.1)
heard_owned_in s level v g i e after (p ∷ ps) (b ∷ bs) h =
    let c : Cast = cast_of e after level p b in
    are_for_both s (heard_handing s v g i e after c) (heard_handings s v g i e after (casts_of e after level ps bs)) ((refl, h.0), cast_owned s p c.cast h.0) (heard_owned_in s level v g i e after ps bs h.1)

heard_owned : (s : SessionState) (v : ViewId) (g : List ℕ) (i : ℕ) (e : Entry) (before after : GroupState) (bs : List (Option Filled)) → AreFor s (heard_handings s v g i e after (casts_of e after s.level (hearers s g before e) bs))
unfolding hearers beginners
heard_owned s v g i e before after bs =
    heard_owned_in s s.level v g i e after (hearers s g before e) bs
    (live_both s (hearers_in s g true before.members ++ hearers_in s g true (joiners_in before.running)) (hearers_in s g false (brought_by e))
    (live_both s (hearers_in s g true before.members) (hearers_in s g true (joiners_in before.running)) (live_in s g true before.members) (live_in s g true (joiners_in before.running))) (live_in s g false (brought_by e)))

told_sessions : (s : Core) (x : SessionState) (rs : List Happened) → (recorded_all (with_sessions s x) rs).sessions ≡ x
unfolding recorded_all with_sessions
told_sessions s x rs = refl

with_owners : (s : SessionState) (g : List ℕ) (before after : GroupState) (e : Entry) (cs : List Cast) → KeepsOwners s (sessions_with s g before after e cs)
unfolding sessions_with
with_owners s g before after e cs = heard_owners s g after e (hearers s g before e) (beginners s g e) cs

pub handed_does : (scripts : List (Option (List (Option VoteItem)))) (P Q W : List Handing → Type 0) → Joins P Q W → (s t u w : Core) (v : ViewId) (to : Option ℕ) (g : List ℕ) (i : ℕ) (before after : GroupState) (e : Entry) (bs : List (Option Filled)) (cs : List Cast)
    → v ≡ s.views.view → SameSessions s.sessions t.sessions → Fillings scripts s.sessions e after (hearers s.sessions g before e) bs → cs ≡ casts_out s.sessions g before after e bs → after ≡ state_of s g
    → t ≡ recorded_all (with_sessions s (session.handed_on s.sessions g before after e bs)) (flat_map (heard_in v g i e after) cs) → P (heard_handings s.sessions v g i e after cs)
    → u ≡ noted t g i before after → Q (noted_handings t g i before after) → w ≡ casts_sent u g to cs → Does scripts W s w (λ f. hand_on f s to g i before after e)
unfolding along_records
handed_does scripts P Q W join s t u w v to g i before after e bs cs view same fillings casting state handing heard noting noted sending =
    let ps : List ProviderId = hearers s.sessions g before e in
    let casts : cs ≡ casts_of e after s.sessions.level ps bs = casting ∙ out_as s.sessions g before after e bs in
    let sessions : session.handed_on s.sessions g before after e bs ≡ sessions_with s.sessions g before after e cs = sessions_as s.sessions g before after e bs ∙ ap (sessions_with s.sessions g before after e) (sym casting) in
    let made : w ≡ handed_with s to g i before after e cs = comes_to s t u w v to g i before after e _ cs view sessions handing noting sending in
    let records : t.records ≡ s.records ++ flat_map (heard_in v g i e after) cs = ap (λ (x : Core). x.records) handing ∙ told_records s _ _ in
    let told : length t.records ≡ length s.records + length (flat_map (heard_in v g i e after) cs) = ap length records ∙ length-append s.records (flat_map (heard_in v g i e after) cs) in
    let next : length t.records ≤ length u.records = rw noting (noted_grows t g i before after) in
    let beside : Beside u w = beside_as u (casts_sent u g to cs) w sending (casts_sent_beside u g to cs) in
    let last : length u.records ≤ length w.records = beside_grows u w beside in
    let upto : length t.records ≡ length s.records + length (flat_map (heard_in v g i e after) (casts_of e after s.sessions.level ps bs)) =
    told ∙ ap (λ (xs : List Cast). length s.records + length (flat_map (heard_in v g i e after) xs)) casts in
    let kept : u.sessions ≡ t.sessions = ap (λ (x : Core). x.sessions) noting ∙ noted_keeps t g i before after in
    let after_sessions : t.sessions ≡ session.handed_on s.sessions g before after e bs = ap (λ (x : Core). x.sessions) handing ∙ told_sessions s _ _ in
    let mine : List Handing = heard_handings s.sessions v g i e after cs in
    let theirs : List Handing = noted_handings t g i before after in
    let owners : KeepsOwners s.sessions t.sessions = subst (λ (x : SessionState). KeepsOwners s.sessions x) (sym (after_sessions ∙ sessions)) (with_owners s.sessions g before after e cs) in
    let first : handed_in t.records ≡ handed_in s.records ++ told_by mine =
    ap handed_in records
    ∙ (filter-append is_handed s.records (flat_map (heard_in v g i e after) cs)
    ∙ ap (λ (rs : List Happened). handed_in s.records ++ rs) (heard_told s.sessions v g i e after cs)) in
    let heards : List Happened = flat_map (heard_in v g i e after) cs in
    let also : (u.records ≡ t.records ++ told_by theirs) × (u.groups ≡ t.groups) = rw noting (noted_records t g i before after) in
    let more : w.records ≡ s.records ++ (heards ++ told_by theirs) =
    beside.records
    ∙ (also.0
    ∙ (ap (λ (rs : List Happened). rs ++ told_by theirs) records ∙ append_assoc s.records heards (told_by theirs))) in
    let groups : w.groups ≡ s.groups = beside.groups ∙ (also.1 ∙ (ap (λ (x : Core). x.groups) handing ∙ told_groups s _ _)) in
    let heards_leave : LeavesStates heards = heard_leaves v g i e after cs in
    let owned : AreFor s.sessions mine = subst (λ (xs : List Cast). AreFor s.sessions (heard_handings s.sessions v g i e after xs)) (sym casts) (heard_owned s.sessions v g i e before after bs) in
    let second : handed_in u.records ≡ handed_in t.records ++ told_by theirs = ap (λ (x : Core). handed_in x.records) noting ∙ noted_told t g i before after in
    record {
      asked = questions (length s.records) s.sessions e after ps bs;
      filled = questions_filled scripts (length s.records) s.sessions e after ps bs fillings;
      placed = rise_upper (length s.records) (length t.records) (length w.records) _ (omega arith)
          (questions_placed scripts (length s.records) (length t.records) s.sessions.level v g i s.sessions e after ps bs fillings upto);
      lives = ap (λ (x : SessionState). x.sessions) beside.sessions ∙ (ap (λ (x : SessionState). x.sessions) kept ∙ same.0);
      does = λ f h.
          made
          ∙ (ap (handed_with s to g i before after e) (casts ∙ sym (casts_agree scripts f (length s.records) s.sessions s.sessions.level e after ps bs fillings h))
          ∙ handed_as f s to g i before after e);
      handings = mine ++ theirs;
      told = ap handed_in beside.records
          ∙ (second
          ∙ (ap (λ (rs : List Happened). rs ++ told_by theirs) first
          ∙ (append_assoc (handed_in s.records) (told_by mine) (told_by theirs) ∙ ap (λ (rs : List Happened). handed_in s.records ++ rs) (sym (told_both mine theirs)))));
      owned = are_for_both s.sessions mine theirs owned (are_for_back s.sessions t.sessions theirs owners same.0 (noted_owned t g i before after));
      owners = subst (λ (x : SessionState). KeepsOwners s.sessions x) (sym (beside.sessions ∙ kept)) owners;
      along = along_records s w (heards ++ told_by theirs) more groups (leaves_both heards (told_by theirs) heards_leave (noted_leave t g i before after));
      stated = λ o.
          logged_both heards (told_by theirs) (state_of s)
          ∙ (ap (λ (ls : List Logged). ls ++ logged_in (told_by theirs) (λ h. state_along h heards (state_of s h))) (heard_stated s.sessions v g i e after cs (state_of s) state)
          ∙ (ap (λ (ls : List Logged). logged_by mine ++ ls) (noted_stated t g i before after (λ h. state_along h heards (state_of s h))) ∙ sym (logged_apart mine theirs)));
      received = join mine theirs heard noted;
    }

-- as many clients as sessions
pub handed_ready : {C : Type 0} (s t u w : Core) (to : Option ℕ) (g : List ℕ) (i : ℕ) (before after : GroupState) (casts : List Cast) (cs ds : List C)
    → SameSessions s.sessions t.sessions → u ≡ noted t g i before after → w ≡ casts_sent u g to casts → length ds ≡ length cs → Ready s cs → Ready w ds
handed_ready s t u w to g i before after casts cs ds same noting sending many r =
    let kept : u.sessions ≡ t.sessions = ap (λ (x : Core). x.sessions) noting ∙ noted_keeps t g i before after in
    let there : Ready u ds =
    ready_same s u cs ds (ap (λ (x : SessionState). x.sessions) kept ∙ same.0) (ap (λ (x : SessionState). x.level) kept ∙ same.1) many r in
    ready_beside u w ds ds (beside_as u (casts_sent u g to casts) w sending (casts_sent_beside u g to casts)) refl there
