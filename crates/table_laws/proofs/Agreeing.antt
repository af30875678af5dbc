-- All copies of a table agree: each is right behind each notice, and each message that is cast is a chunk, one handing after the other.
use Rattle.std.proofs.Common.{◌≡◌, ◌⊎◌, inl, inr, ℕ, ◌+◌, Bool, true, false, List, [], ◌∷◌, ◌++◌, Option, Some, None, refl, sym, ap, subst, ◌∙◌, append-nil, append_assoc}
use Rattle.std.specs.Prelude.{◌&&◌, ◌||◌, not, reverse, IfSome, if◌then◌else◌}
use Rattle.std.specs.List.{fold, list_all}
use Rattle.std.proofs.lemmas.List.Sums.{fold-append}
use Rattle.std.specs.Option.{option_map, unwrap_or}
use Rattle.std.proofs.lemmas.Bool.{and_parts}
use Rattle.rsct_packet.specs.declared.ids.ViewId.{ViewId}
use Rattle.rsct_packet.specs.declared.ids.ProtoId.{ProtoId}
use Rattle.rsct_packet.specs.declared.ids.ProviderId.{ProviderId}
use Rattle.rsct_packet.specs.Providers.{among, same_provider}
use Rattle.rsct_packet.specs.Search.{Has}
use Rattle.rsct_packet.proofs.HasLaws.{append_has_right}
use Rattle.proposal_core.specs.declared.entry.Closed.{Closed}
use Rattle.proposal_core.specs.declared.entry.Entry.{Entry}
use Rattle.proposal_core.specs.declared.entry.Entry.TheVariants.{Once, Begin, Phase, Approve, Reject, Late}
use Rattle.proposal_core.specs.declared.entry.Vote.{Vote}
use Rattle.proposal_core.specs.declared.group_state.GroupState.{GroupState}
use Rattle.proposal_core.specs.Fold.{after, voters}
use Rattle.client_callbacks.specs.declared.ballot.Filled.{Filled}
use Rattle.client_callbacks.specs.declared.told.Told.{Told}
use Rattle.client_callbacks.specs.declared.told.Told.TheVariants as told
use Rattle.client_callbacks.specs.Handed.{NoticeView, Informed}
use Rattle.session_state.specs.declared.state.OpenPhase.{OpenPhase}
use Rattle.session_state.specs.HandOn.{opens_phase, asks, running_phase}
use Rattle.session_clients.specs.Notices.{notice_to}
use Rattle.node_state.specs.declared.config.Config.{Config}
use Rattle.node_state.specs.declared.happened.Happened.{Happened}
use Rattle.node_state.specs.declared.happened.Happened.TheVariants as happened
use Rattle.node_state.specs.Handed.{Logged}
use Rattle.entry_delivery.specs.Received.{Handing, IsLogged, AreLogged, IsLog, ballot_told, hearer, handed_if, handed_by, logged}
use Rattle.agreed_table.specs.Pairs.{Pairs}
use Rattle.table_client.specs.Rules.{Copied, fresh_copy, copy_after, closed_in, vote_for, filled_from, filled_for, copies_after, FilledBy, ByRules}
use Rattle.table_client.specs.Apart.{own_then, dissolves}
use Rattle.table_client.specs.Sharing.{CarriesChunk}
use Rattle.table_client.specs.Maps.{Lists}
use Rattle.table_client.specs.Maps as maps
use Rattle.table_client.specs.Following.{WhereOwnJoins, CopyIs, begins_own, Continues, Comes, Onward, Into, Tells}
use Rattle.table_client.specs.Following as following
use Rattle.table_client.proofs.ApartLaws.{copies_are_apart}
use Rattle.table_client.proofs.FollowingLaws.{map_into, kept_into, copies_follow}
use Rattle.table_client.proofs.MapLaws.{state_next}
use Rattle.run_safety.specs.Past.{records_of, state_at}
use Rattle.run_safety.specs.Group.{Origin, Line, Noted}
use Rattle.run_safety.specs.Group as group
use Rattle.run_safety.specs.Sight.{lines_of}
use Rattle.run_safety.specs.Stays.{is_join_of}
use Rattle.run_safety.proofs.SightLaws.{line_seen, own_line}
use Rattle.step_refinement.specs.Tied.{opening_of}
use Rattle.step_refinement.proofs.SessionLaws.{provider_self, provider_same}
use Rattle.row_laws.proofs.failed_rows.Asked.{join_carried}
use Rattle.provider_laws.specs.single_casts.Ballots.{opens, open_by, open_phase, CastInPhase, CastsInPhase}
use Rattle.provider_laws.proofs.single_casts.Law.{casts_in_phase}
use Rattle.provider_laws.proofs.single_casts.Opening.{opens_running}
use Rattle.run_laws.specs.seen_runs.Seen.{Seen, HeardSeen}
use Rattle.run_laws.proofs.failed_causes.Records.{Every, every_after, every_of}
use Rattle.run_laws.proofs.seen_runs.Law.{seen_after}
use Rattle.run_laws.proofs.seen_runs.Once.{safe_entries_asked}
use Rattle.world_laws.specs.world_answers.Answers.{Answered, events_in, answered_after, answered_records}
use Rattle.world_laws.proofs.world_answers.Grown.{grows_by}
use Rattle.world_model.specs.World.{World, world_new}
use Rattle.world_safety.specs.Events.{AllMayHappen}
use Rattle.world_safety.specs.HeardStates.{FoldAt, AreFolds}
use Rattle.world_safety.specs.Scripts.{IsSafe, history_in}
use Rattle.world_safety.proofs.HeardStates.{answered_last, folds_stay}
use Rattle.world_safety.proofs.Moments.{front_may}
use Rattle.world_safety.proofs.Runs.{every_run_is_reached}
use Rattle.world_safety.proofs.Turned.{onto_is}
use Rattle.run_hands.specs.Hands.{ClientLogs, Logs, RunHands, empty_logs}
use Rattle.run_hands.specs.Logs.{OfEach, OfLogs}
use Rattle.hearing_laws.specs.Walk.{Hearing, heard_after, heard_by, GoesOn, IsBehind, Follows, IsWalk}
use Rattle.hearing_laws.specs.Walk as walk
use Rattle.hearing_laws.proofs.Hearing.{Hears, hears}
use Rattle.hearing_laws.proofs.Views.{LastPut, latest_is}
use Rattle.hearing_laws.proofs.Walk.{hearings_walk}
use Rattle.hand_laws.specs.Hearers.{heard_in, voice, IsUncast, Moment, IsKeptAlong}
use Rattle.hand_laws.proofs.Along.{holds_along}
use Rattle.hand_laws.proofs.Calls.{IsBare, given_bare}
use Rattle.hand_laws.proofs.Handings.{in_more}
use Rattle.table_laws.specs.Agreeing.{CopyAgrees, TablesAgree, IsCopyAlong, WholeCopiesAreEqual}
use Rattle.table_laws.specs.Carrying.{AskedToJoin, IsChunk, CastsAreChunks}
use Rattle.table_laws.specs.Firsts.{joiners_by, finds_nobody, first_after, joined_first, HasWholeCopy, FirstJoinersAreWhole}
use Rattle.table_laws.specs.GroupLists.{origin_of}
use Rattle.table_laws.specs.Maps.{MapIs, group_lists, ListsSay}
use Rattle.table_laws.specs.Notices.{IsOfLists}
use Rattle.table_laws.specs.Voting.{IsAt, SendsChunk}
use Rattle.table_laws.proofs.Carrying.{chunks_are_carried}
use Rattle.table_laws.proofs.Copies.{Said, copy_begins, after_place, after_running, Front, front_of, own_more, filled_behind}
use Rattle.table_laws.proofs.Firsts.{AloneIf, first_whole, whole_on}
use Rattle.table_laws.proofs.GroupLists.{found_is}
use Rattle.table_laws.proofs.RunMaps.{puts_entered, is_safe, trace_is, state_before, maps_are_one, lists_say_maps, notices_are_of_lists}
use Rattle.table_laws.proofs.Voting.{ballots_send_chunks}

-- ---- one event after another

-- what is recorded stays
module _ (c : Config) where
  trace_more : (es fs : List Answered) → (newer : List Happened) × ((answered_after c (es ++ fs)).trace ≡ newer ++ (answered_after c es).trace)
  trace_more es [] = ([], ap (λ (xs : List Answered). (answered_after c xs).trace) (append-nil es))
  trace_more es (e ∷ fs) =
      let one = grows_by e.answers (answered_after c es) e.event in
      let next : (answered_after c (es ++ e ∷ [])).trace ≡ reverse one.0 ++ (answered_after c es).trace = ap (λ (w : World). w.trace) (answered_last c es e) ∙ one.1 ∙ onto_is one.0 (answered_after c es).trace in
      let rest = trace_more (es ++ e ∷ []) fs in
      let whole : (es ++ e ∷ []) ++ fs ≡ es ++ e ∷ fs = append_assoc es (e ∷ []) fs in
      (rest.0 ++ reverse one.0, ap (λ (xs : List Answered). (answered_after c xs).trace) (sym whole) ∙ rest.1 ∙ ap (λ ys. rest.0 ++ ys) next ∙ sym (append_assoc rest.0 (reverse one.0) (answered_after c es).trace))

  folds_more : (es fs : List Answered) (ls : List Logged) → AllMayHappen c (events_in (es ++ fs)) → AreFolds (answered_after c es).trace ls → AreFolds (answered_after c (es ++ fs)).trace ls
  folds_more es [] ls may k = subst (λ (xs : List Answered). AreFolds (answered_after c xs).trace ls) (sym (append-nil es)) k
  folds_more es (e ∷ fs) ls may k =
      let whole : (es ++ e ∷ []) ++ fs ≡ es ++ e ∷ fs = append_assoc es (e ∷ []) fs in
      let all : AllMayHappen c (events_in ((es ++ e ∷ []) ++ fs)) = subst (λ xs. AllMayHappen c (events_in xs)) (sym whole) may in
      subst (λ (xs : List Answered). AreFolds (answered_after c xs).trace ls) whole (folds_more (es ++ e ∷ []) fs ls all (folds_stay c es e ls (front_may c (es ++ e ∷ []) fs all) k))

-- ---- a walk, where it goes on

walk_tail : (rs : List Happened) (p : ProviderId) (b : Hearing) (hs : List Hearing) → IsWalk rs p (b ∷ hs) → IsWalk rs p hs
walk_tail rs p b [] k = tt
walk_tail rs p b (a ∷ older) k = k.1

walk_at : (rs : List Happened) (p : ProviderId) (newer tr : List Happened) → IsWalk rs p (heard_by p (newer ++ tr)) → IsWalk rs p (heard_by p tr)
walk_at rs p [] tr k = k
walk_at rs p (happened.Heard q v g i e ms value ∷ newer) tr k = by (λ z. walk_at rs p newer tr z) (same_provider q p) k
  where
    by : (IsWalk rs p (heard_by p (newer ++ tr)) → IsWalk rs p (heard_by p tr)) → (b : Bool) → IsWalk rs p (if b then record { view = v; group = g; place = i; entry = e } ∷ heard_by p (newer ++ tr) else heard_by p (newer ++ tr)) → IsWalk rs p (heard_by p tr)
    by rest true z = rest (walk_tail rs p (record { view = v; group = g; place = i; entry = e }) (heard_by p (newer ++ tr)) z)
    by rest false z = rest z
walk_at rs p (r ∷ newer) tr k = walk_at rs p newer tr k

joins_begin : (p : ProviderId) (e : Entry) → is_join_of p e ≡ begins_own p e
joins_begin p (Once x) = refl
joins_begin p (Begin x) = refl
joins_begin p (Phase c) = refl
joins_begin p (Approve c) = refl
joins_begin p (Reject c) = refl
joins_begin p (Late proto phase ps) = refl

some_has : (o : Option Pairs) (P Q : Pairs → Type 0) → ((m : Pairs) → P m → Q m) → IfSome o P → IfSome o Q
some_has None P Q f h = h
some_has (Some m) P Q f h = f m h

-- the phase that is open where this was heard last
open_latest : (p : ProviderId) (rs : List Happened) (a : Hearing) (rest : List Hearing) → heard_by p rs ≡ a ∷ rest → opens_phase a.entry ≡ true → open_phase p rs ≡ opens a.entry a.view a.place
open_latest p [] a rest q k = absurd (cc)
open_latest p (happened.Heard o v g i e ms value ∷ rs) a rest q k = by (λ z. open_latest p rs a rest z k) (same_provider o p) q
  where
    opened : (f : Entry) (old : Option OpenPhase) → opens_phase f ≡ true → open_by f v i old ≡ opens f v i
    opened (Begin x) old z = refl
    opened (Phase c) old z = refl
    opened _ old z = absurd (cc)

    here : Hearing
    here = record { view = v; group = g; place = i; entry = e }

    by : (heard_by p rs ≡ a ∷ rest → open_phase p rs ≡ opens a.entry a.view a.place) → (b : Bool) → (if b then here ∷ heard_by p rs else heard_by p rs) ≡ a ∷ rest → (if b then open_by e v i (open_phase p rs) else open_phase p rs) ≡ opens a.entry a.view a.place
    by old true z =
        let head : here ≡ a = cc in
        let entry : e ≡ a.entry = ap (λ (h : Hearing). h.entry) head in
        opened e (open_phase p rs) (ap opens_phase entry ∙ k) ∙ (λ j. opens (head j).entry (head j).view (head j).place)
    by old false z = old z
open_latest p (r ∷ rs) a rest q k = open_latest p rs a rest q k

-- a split at what stands in a list
has_split : (y : Happened) (xs : List Happened) → Has y xs → (newer : List Happened) × (older : List Happened) × (xs ≡ newer ++ y ∷ older)
has_split y [] h = absurd h
has_split y (x ∷ xs) (inl q) = ([], xs, ap (λ z. z ∷ xs) (sym q))
has_split y (x ∷ xs) (inr h) = let k = has_split y xs h in (x ∷ k.0, k.1, ap (λ ys. x ∷ ys) k.2)

-- lists with one more at their ends
no_end : (xs : List Logged) (x : Logged) → [] ≡ xs ++ x ∷ [] → ⊥
no_end [] x e = absurd (cc)
no_end (y ∷ xs) x e = absurd (cc)

ends_same : (xs ys : List Logged) (x y : Logged) → xs ++ x ∷ [] ≡ ys ++ y ∷ [] → (xs ≡ ys) × (x ≡ y)
ends_same [] [] x y e = let same : x ≡ y = cc in (refl, same)
ends_same [] (z ∷ ys) x y e = let tail : [] ≡ ys ++ y ∷ [] = cc in absurd (no_end ys y tail)
ends_same (z ∷ xs) [] x y e = let tail : [] ≡ xs ++ x ∷ [] = cc in absurd (no_end xs x tail)
ends_same (z ∷ xs) (w ∷ ys) x y e =
    let head : z ≡ w = cc in
    let tail : xs ++ x ∷ [] ≡ ys ++ y ∷ [] = cc in
    let k = ends_same xs ys x y tail in
    ((λ j. head j ∷ k.0 j), k.1)

-- whether a join found nobody, with one record more
first_more : (p : ProviderId) (log : List Logged) (l : Logged) → joined_first p (log ++ l ∷ []) ≡ first_after p l.what l.after (joined_first p log)
first_more p log l = fold-append (λ (old : Bool) (b : Logged). first_after p b.what b.after old) false log (l ∷ [])

-- who heard directly before a record of a log
last_hearer : (log : List Logged) (o : Option ProviderId) (l : Logged) (ys : List Logged) → AreLogged o (log ++ l ∷ ys) → ((log ≡ []) × IsLogged o l.what l.after) ⊎ ((front : List Logged) × (x : Logged) × (log ≡ front ++ x ∷ []) × IsLogged (hearer x.what) l.what l.after)
last_hearer [] o l ys k = inl (refl, k.0)
last_hearer (y ∷ log) o l ys k = by (last_hearer log (hearer y.what) l ys k.1)
  where
    by : ((log ≡ []) × IsLogged (hearer y.what) l.what l.after) ⊎ ((front : List Logged) × (x : Logged) × (log ≡ front ++ x ∷ []) × IsLogged (hearer x.what) l.what l.after) → ((y ∷ log ≡ []) × IsLogged o l.what l.after) ⊎ ((front : List Logged) × (x : Logged) × (y ∷ log ≡ front ++ x ∷ []) × IsLogged (hearer x.what) l.what l.after)
    by (inl (none, z)) = inr ([], y, ap (λ xs. y ∷ xs) none, z)
    by (inr (front, x, is, z)) = inr (y ∷ front, x, ap (λ xs. y ∷ xs) is, z)

-- ---- the finished run

module _ (c : Config) (all : List Answered) (may : AllMayHappen c (events_in all)) where
  abbrev tr : List Happened
  tr = (answered_after c all).trace

  abbrev lists : List ℕ → Lists
  lists g = group_lists c all g

  safe : IsSafe c all (answered_records c all)
  safe = is_safe c all may

  say : (g : List ℕ) → ListsSay c all g
  say g = lists_say_maps c all may g

  same : records_of (history_in c all) ≡ tr
  same = trace_is c all may

  seen : Seen tr
  seen = subst Seen same safe.seen

  walks : (p : ProviderId) → IsWalk tr p (heard_by p tr)
  walks p = subst (λ (rs : List Happened). IsWalk rs p (heard_by p rs)) same (hearings_walk (opening_of c) (history_in c all) safe.safe safe.seen safe.bases_follow safe.all_hear safe.not_let_go safe.once p)

  in_phase : Every CastInPhase tr
  in_phase =
      let run = every_run_is_reached c all may in
      let cast : CastsInPhase (history_in c all) = subst CastsInPhase run.5 (casts_in_phase c run.0 run.1) in
      subst (Every CastInPhase) same (every_of CastInPhase (λ now before r. CastInPhase (now ++ records_of before) r) (λ now before r k. k) (history_in c all) cast)

  -- whoever hears asked in the group for its join
  heard_asked : (p : ProviderId) (v : ViewId) (g : List ℕ) (i : ℕ) (e : Entry) (ms : List ProviderId) (value : List ℕ) → Has (happened.Heard p v g i e ms value) tr → AskedToJoin tr g p
  heard_asked p v g i e ms value h =
      let k : Hears p v g i e tr = hears p v g i e ms value tr seen h in
      let a = safe_entries_asked (opening_of c) (history_in c all) safe.safe p.node k.view g k.place k.entry p p.join (subst (Has (happened.Put p.node k.view g k.place k.entry)) (sym same) k.begun) (join_carried p k.entry k.joins) in
      (a.0, subst (Has (happened.Asked p p.join g a.0)) same a.1)

  -- a base that is noted is that of the lists
  based : (g : List ℕ) (v : ViewId) (n : ℕ) (u : ViewId) (len : ℕ) (s : GroupState) → Has (happened.Base n v g u len s) tr → (lists g).base v ≡ Some (origin_of (record { old = u; len = len; state = s }))
  based g v n u len s h =
      let b : Origin = record { old = u; len = len; state = s } in
      let x : Line = Noted (group.Based n v b) in
      let there : Has x (lines_of g (history_in c all)) = line_seen x g (happened.Base n v g u len s) (λ rs. own_line g x) (history_in c all) (subst (Has (happened.Base n v g u len s)) (sym same) h) in
      ap (option_map origin_of) (found_is (opening_of c) (lines_of g (history_in c all)) (safe.safe g) (puts_entered (opening_of c) (history_in c all) safe.safe safe.seen g) n v b there)

  -- a view goes on by the lists where it does by the records
  continues : (g : List ℕ) (u : ViewId) (len : ℕ) (v : ViewId) → GoesOn tr g u len v → Continues (lists g) u len v
  continues g u len v (walk.Next _ n s h) = following.Next v (origin_of (record { old = u; len = len; state = s })) (based g v n u len s h) refl refl
  continues g u len v (walk.Over _ n w s h rest) = following.Over v (origin_of (record { old = w; len = 0; state = s })) (based g v n w 0 s h) refl (continues g u len w rest)

  -- ---- what is kept

  -- a copy is right, at what its provider heard last
  record RightCopy (p : ProviderId) (heard : List Hearing) (x : Copied) : Type 0 where
    latest : Hearing
    rest : List Hearing
    is : heard ≡ latest ∷ rest
    group : latest.group ≡ x.group
    view : latest.view ≡ x.view
    len : latest.place + 1 ≡ x.len
    copy : CopyIs (lists x.group) p x

  abbrev RightIf : ProviderId → List Hearing → Option Copied → Type 0
  RightIf p heard None = Unit {0}
  RightIf p heard (Some x) = RightCopy p heard x

  abbrev own : ProviderId → List Logged → Option Copied
  own p log = fold (own_then p) None (handed_by log)

  -- the copy before a notice, and that it is at the notice's place
  abbrev before : NoticeView → List Logged → Copied
  before n log = unwrap_or (own n.provider log) (fresh_copy n)

  abbrev NoticeAt : List Logged → Logged → Type 0
  NoticeAt log l =
      (p : ProviderId) (v : ViewId) (g : List ℕ) (i : ℕ) (e : Entry) (ms : List ProviderId) (value : List ℕ) → l.what ≡ happened.Heard p v g i e ms value → IsAt (lists g) (before (notice_to v g i e l.after p) log) (notice_to v g i e l.after p) × AskedToJoin tr g p

  -- and it is whole; nobody is a member while its own join runs
  abbrev WholeIf : ProviderId → Option Copied → Type 0
  WholeIf p None = ⊥
  WholeIf p (Some x) = ((m : Pairs) × (x.map ≡ Some m)) × AloneIf p x.running (maps.state_at (lists x.group) x.view x.len).members

  record Right (log : List Logged) : Type 0 where
    copies : (p : ProviderId) → RightIf p (heard_in p log) (own p log)
    first : (p : ProviderId) → joined_first p log ≡ true → WholeIf p (own p log)
    last : (front : List Logged) (l : Logged) → log ≡ front ++ l ∷ [] → NoticeAt front l

  abbrev Chunked : Happened → Type 0
  Chunked (happened.Cast p proto phase vote value message) = IfSome message (λ bytes. IsChunk tr p proto phase bytes)
  Chunked _ = Unit {0}

  -- ---- one handing

  module _ (es fs : List Answered) (e : Answered) (whole : all ≡ es ++ e ∷ fs) (older : List Happened) (h : Handing) (log : List Logged) (m : Moment ByRules c es e older h log) (right : Right log) (chunked : (r : Happened) → Has r older → Chunked r) where
    all_is : all ≡ (es ++ e ∷ []) ++ fs
    all_is = whole ∙ sym (append_assoc es (e ∷ []) fs)

    abbrev newer : List Happened
    newer = (trace_more c (es ++ e ∷ []) fs).0 ++ m.newer

    split : tr ≡ newer ++ h.what ∷ older
    split =
        let k = trace_more c (es ++ e ∷ []) fs in
        ap (λ (xs : List Answered). (answered_after c xs).trace) all_is ∙ k.1 ∙ ap (λ ys. k.0 ++ ys) m.now ∙ sym (append_assoc k.0 m.newer (h.what ∷ older))

    seen_here : Seen (h.what ∷ older)
    seen_here = seen_after newer (h.what ∷ older) (subst Seen split seen)

    there : Has h.what tr
    there = subst (Has h.what) (sym split) (append_has_right h.what newer (h.what ∷ older) (inl refl))

    fold_here : FoldAt tr h.what h.after
    fold_here =
        let may_here : AllMayHappen c (events_in ((es ++ e ∷ []) ++ fs)) = subst (λ xs. AllMayHappen c (events_in xs)) all_is may in
        subst (λ (xs : List Answered). FoldAt (answered_after c xs).trace h.what h.after) (sym all_is) (folds_more c (es ++ e ∷ []) fs (logged h ∷ []) may_here (m.fold, tt)).0

    -- an entry is heard: the copy before it is at its place, and the one behind it is right
    module _ (q : ProviderId) (v : ViewId) (g : List ℕ) (i : ℕ) (f : Entry) (ms : List ProviderId) (value : List ℕ) (is : h.what ≡ happened.Heard q v g i f ms value) where
      abbrev n : NoticeView
      n = notice_to v g i f h.after q

      said : IsOfLists (lists g) n
      said = notices_are_of_lists c all may q v g i f ms value h.after (subst (λ r. FoldAt tr r h.after) is fold_here)

      notice_said : Said (lists g) n
      notice_said = (said.entry, said.after, said.mapped)

      -- a copy behind it is whole, and nobody is a member while its own join runs
      abbrev WholeBehind : Copied → Type 0
      WholeBehind x = ((m : Pairs) × (x.map ≡ Some m)) × AloneIf q n.after.running n.after.members

      record Placed (x : Copied) : Type 0 where
        at : IsAt (lists g) x n
        new : CopyIs (lists g) q (copy_after n x)
        group : x.group ≡ g

      -- the put behind which it is heard, among the records before
      put : LastPut q.node v g i f older
      put = latest_is older seen_here.1 q.node v g i f (subst (HeardSeen older) is seen_here.0.heard).0

      -- it is what follows on what its provider heard last
      module _ (x : Copied) (k : RightCopy q (heard_in q log) x) where
        before_it : heard_by q older ≡ k.latest ∷ k.rest
        before_it = sym (m.heard q (ap voice is)) ∙ k.is

        abbrev here : Hearing
        here = record { view = v; group = g; place = i; entry = f }

        follows : Follows tr q k.latest here
        follows = (subst (λ hs. IsWalk tr q (here ∷ hs)) before_it own_walk).0
          where
            walk_here : IsWalk tr q (heard_by q (happened.Heard q v g i f ms value ∷ older))
            walk_here = walk_at tr q newer (happened.Heard q v g i f ms value ∷ older) (subst (λ rs. IsWalk tr q (heard_by q rs)) (split ∙ (λ j. newer ++ is j ∷ older)) (walks q))

            own_walk : IsWalk tr q (here ∷ heard_by q older)
            own_walk = subst (λ b. IsWalk tr q (if b then here ∷ heard_by q older else heard_by q older)) (provider_self q) walk_here

        to_group : x.group ≡ g
        to_group = sym (follows.group ∙ k.group)

        copy : CopyIs (lists g) q x
        copy = subst (λ (z : List ℕ). CopyIs (lists z) q x) to_group k.copy

        other : begins_own q f ≡ false
        other = sym (joins_begin q f) ∙ follows.joined

        record Step : Type 0 where
          comes : Comes (lists g) x n
          map : IfSome x.map (maps.MapIs (lists g) v i)
          running : x.running ≡ (maps.state_at (lists g) v i).running
          members : (maps.state_at (lists g) x.view x.len).members ≡ (maps.state_at (lists g) v i).members

        step : Step
        step = by follows.behind
          where
            by : IsBehind tr k.latest here → Step
            by (inl (view, place)) =
                let to_view : x.view ≡ v = sym (view ∙ k.view) in
                let to_place : x.len ≡ i = sym (place ∙ k.len) in
                record {
                  comes = Onward other copy (sym to_view) (sym to_place);
                  map = subst (λ (z : ViewId × ℕ). IfSome x.map (maps.MapIs (lists g) z.0 z.1)) (λ j. (to_view j, to_place j)) copy.map;
                  running = copy.running ∙ (λ j. (maps.state_at (lists g) (to_view j) (to_place j)).running);
                  members = λ j. (maps.state_at (lists g) (to_view j) (to_place j)).members;
                }
            by (inr (zero, goes)) =
                let on : Continues (lists g) x.view x.len v = subst (λ (z : ViewId × ℕ). Continues (lists g) z.0 z.1 v) (λ j. (k.view j, k.len j)) (continues g (k.latest).view ((k.latest).place + 1) v goes) in
                let kept = kept_into (lists g) (say g).safe x.view x.len v on in
                record {
                  comes = Into other copy zero on;
                  map = subst (λ j. IfSome x.map (maps.MapIs (lists g) v j)) (sym zero) (some_has x.map (maps.MapIs (lists g) x.view x.len) (maps.MapIs (lists g) v 0) (λ y a. map_into (lists g) x.view x.len v y on a) copy.map);
                  running = copy.running ∙ sym kept.1 ∙ ap (λ j. (maps.state_at (lists g) v j).running) (sym zero);
                  members = sym kept.0 ∙ ap (λ j. (maps.state_at (lists g) v j).members) (sym zero);
                }

        carries : (closed : Closed) → closed_in f ≡ Some closed → WhereOwnJoins (lists g) q x (λ run y. CarriesChunk y closed.phase closed.message)
        carries closed closes run y runs own_join at =
            let k2 = has_split (happened.Put q.node v g i f) older put.there in
            let whole_split : tr ≡ (newer ++ h.what ∷ k2.0) ++ happened.Put q.node v g i f ∷ k2.1 = split ∙ ap (λ rs. newer ++ h.what ∷ rs) k2.2 ∙ sym (append_assoc newer (h.what ∷ k2.0) (happened.Put q.node v g i f ∷ k2.1)) in
            let in_tr : Has (happened.Put q.node v g i f) tr = subst (Has (happened.Put q.node v g i f)) (sym split) (append_has_right (happened.Put q.node v g i f) newer (h.what ∷ older) (inr put.there)) in
            let casts : CastsAreChunks tr k2.1 = λ p proto phase vote val bytes z. chunked (happened.Cast p proto phase vote val (Some bytes)) (subst (Has (happened.Cast p proto phase vote val (Some bytes))) (sym k2.2) (append_has_right (happened.Cast p proto phase vote val (Some bytes)) k2.0 (happened.Put q.node v g i f ∷ k2.1) (inr z))) in
            let running : (state_at q.node v g i tr).running ≡ Some run = ap (λ (s : GroupState). s.running) (state_before c all may g q.node v i (f, in_tr)) ∙ sym step.running ∙ runs in
            chunks_are_carried c all may g q.node v i f closed run y (newer ++ h.what ∷ k2.0) k2.1 whole_split casts closes running ((say g).of_records run.proto.view (run.proto.place + 1) y at)

        tells : Tells (lists g) x n
        tells = record { entry = said.entry; after = said.after; mapped = said.mapped; carries = carries }

        -- where it is whole, and nobody is there while its own join runs, so it is behind the notice
        whole_behind : WholeIf q (Some x) → WholeBehind (copy_after n x)
        whole_behind (whole, alone) =
            whole_on (lists g) (say g).safe n notice_said x whole.0 whole.1 step.running other
            (λ run runs mine. sym step.members ∙ ap (λ (z : List ℕ). (maps.state_at (lists z) x.view x.len).members) (sym to_group) ∙ alone run (step.running ∙ runs) mine)

        onward : Placed x
        onward = record { at = record { entry = said.entry; after = said.after; map = step.map }; new = copies_follow (lists g) x n (say g).safe tells step.comes; group = to_group }

      placed : Placed (before n log)
      placed = by (own q log) (right.copies q)
        where
          by : (o : Option Copied) → RightIf q (heard_in q log) o → Placed (unwrap_or o (fresh_copy n))
          by None k = record { at = record { entry = said.entry; after = said.after; map = tt }; new = copy_begins (lists g) (say g).safe n notice_said; group = refl }
          by (Some x) k = onward x k

      now_right : RightCopy q (record { view = v; group = g; place = i; entry = f } ∷ heard_in q log) (copy_after n (before n log))
      now_right =
          let a = after_place n (before n log) in
          let same_group : (copy_after n (before n log)).group ≡ g = a.0 ∙ placed.group in
          record {
            latest = record { view = v; group = g; place = i; entry = f };
            rest = heard_in q log;
            is = refl;
            group = sym same_group;
            view = sym a.1;
            len = sym a.2;
            copy = subst (λ (z : List ℕ). CopyIs (lists z) q (copy_after n (before n log))) (sym same_group) placed.new;
          }

      -- whose join found nobody has a whole copy
      now_whole : (joined_first q log || finds_nobody q f h.after) ≡ true → WholeIf q (Some (copy_after n (before n log)))
      now_whole found =
          let k : WholeBehind (copy_after n (before n log)) = by (own q log) (right.copies q) (right.first q) (joined_first q log) refl found in
          (k.0, λ run runs mine. there ∙ ap (λ (s : GroupState). s.members) (sym said.after) ∙ k.1 run (sym (after_running n (before n log)) ∙ runs) mine)
        where
          there : (maps.state_at (lists (copy_after n (before n log)).group) (copy_after n (before n log)).view (copy_after n (before n log)).len).members ≡ (maps.state_at (lists g) v (i + 1)).members
          there =
              let a = after_place n (before n log) in
              let same_group : (copy_after n (before n log)).group ≡ g = a.0 ∙ placed.group in
              λ j. (maps.state_at (lists (same_group j)) (a.1 j) (a.2 j)).members

          by : (o : Option Copied) → RightIf q (heard_in q log) o → (joined_first q log ≡ true → WholeIf q o) → (b : Bool) → joined_first q log ≡ b → (b || finds_nobody q f h.after) ≡ true → WholeBehind (copy_after n (unwrap_or o (fresh_copy n)))
          by None k whole true first z = absurd (whole first)
          by None k whole false first z =
              let parts = and_parts (begins_own q f) (list_all (among (joiners_by f)) h.after.members) z in
              let begun = first_whole (lists g) (say g).safe n notice_said parts.0 parts.1 in
              (([], begun.0), begun.1)
          by (Some x) k whole true first z = whole_behind x k (whole first)
          by (Some x) k whole false first z =
              let own_join : begins_own q f ≡ true = (and_parts (begins_own q f) (list_all (among (joiners_by f)) h.after.members) z).0 in
              let both : true ≡ false = sym own_join ∙ other x k in
              absurd (cc)

      noticed_at : IsAt (lists g) (before n log) n × AskedToJoin tr g q
      noticed_at = (placed.at, heard_asked q v g i f ms value (subst (λ r. Has r tr) is there))

    -- each copy behind the handing
    copies_now : (p : ProviderId) → RightIf p (heard_in p (log ++ logged h ∷ [])) (own p (log ++ logged h ∷ []))
    copies_now p =
        subst (λ (z : List Hearing × Option Copied). RightIf p z.0 z.1) (λ j. (sym (in_more p log (logged h)) j, sym (own_more p log (logged h)) j)) (by h.what refl)
      where
        informed : (t : Told) → RightIf p (heard_in p log) (own_then p (own p log) (Informed t))
        informed t = of (dissolves p t)
          where
            of : (b : Bool) → RightIf p (heard_in p log) (if b then None else own p log)
            of true = tt
            of false = right.copies p

        by : (r : Happened) → h.what ≡ r → RightIf p (heard_after p r (heard_in p log)) (fold (own_then p) (own p log) (handed_if r h.after None))
        by (happened.Heard q v g i f ms value) is = of (same_provider q p) refl
          where
            hearing : Hearing
            hearing = record { view = v; group = g; place = i; entry = f }

            n : NoticeView
            n = notice_to v g i f h.after q

            of : (b : Bool) → same_provider q p ≡ b → RightIf p (if b then hearing ∷ heard_in p log else heard_in p log) (if b then Some (copy_after n (unwrap_or (own p log) (fresh_copy n))) else own p log)
            of false z = right.copies p
            of true z = subst (λ (y : ProviderId). RightCopy y (hearing ∷ heard_in y log) (copy_after n (unwrap_or (own y log) (fresh_copy n)))) (provider_same q p z) (now_right q v g i f ms value is)
        by (happened.Told q r why) is = informed (told.Refused q r why)
        by (happened.Noted client name v i t) is = informed t
        by _ is = right.copies p

    -- and whole, where the provider's join found nobody
    first_now : (p : ProviderId) → joined_first p (log ++ logged h ∷ []) ≡ true → WholeIf p (own p (log ++ logged h ∷ []))
    first_now p first = subst (WholeIf p) (sym (own_more p log (logged h))) (by h.what refl (sym (first_more p log (logged h)) ∙ first))
      where
        informed : (t : Told) → (joined_first p log && not (dissolves p t)) ≡ true → WholeIf p (own_then p (own p log) (Informed t))
        informed t = of (dissolves p t)
          where
            of : (b : Bool) → (joined_first p log && not b) ≡ true → WholeIf p (if b then None else own p log)
            of true k = absurd (let no : false ≡ true = (and_parts (joined_first p log) false k).1 in cc)
            of false k = right.first p (and_parts (joined_first p log) true k).0

        by : (r : Happened) → h.what ≡ r → first_after p r h.after (joined_first p log) ≡ true → WholeIf p (fold (own_then p) (own p log) (handed_if r h.after None))
        by (happened.Heard q v g i f ms value) is = of (same_provider q p) refl
          where
            n : NoticeView
            n = notice_to v g i f h.after q

            of : (b : Bool) → same_provider q p ≡ b → (if b then joined_first p log || finds_nobody p f h.after else joined_first p log) ≡ true → WholeIf p (if b then Some (copy_after n (unwrap_or (own p log) (fresh_copy n))) else own p log)
            of false z k = right.first p k
            of true z k = subst (λ (y : ProviderId). (joined_first y log || finds_nobody y f h.after) ≡ true → WholeIf y (Some (copy_after n (unwrap_or (own y log) (fresh_copy n))))) (provider_same q p z) (now_whole q v g i f ms value is) k
        by (happened.Told q r why) is = informed (told.Refused q r why)
        by (happened.Noted client name v i t) is = informed t
        by _ is = right.first p

    last_now : (front : List Logged) (l : Logged) → log ++ logged h ∷ [] ≡ front ++ l ∷ [] → NoticeAt front l
    last_now front l e =
        let k = ends_same log front (logged h) l e in
        subst (λ (z : List Logged × Logged). NoticeAt z.0 z.1) (λ j. (k.0 j, k.1 j)) (λ p v g i f ms value is. noticed_at p v g i f ms value is)

    -- a ballot: it is filled behind the notice of its own provider
    module _ (q : ProviderId) (proto : ProtoId) (phase : ℕ) (vote : Vote) (value : Option (List ℕ)) (bytes : List ℕ) (is : h.what ≡ happened.Cast q proto phase vote value (Some bytes)) where
      abbrev f : Filled
      f = record { vote = vote; value = value; message = Some bytes }

      module _ (front : List Logged) (x : Logged) (log_is : log ≡ front ++ x ∷ []) (v : ViewId) (g : List ℕ) (i : ℕ) (entry : Entry) (ms : List ProviderId) (val : List ℕ) (heard_is : x.what ≡ happened.Heard q v g i entry ms val) where
        abbrev notice : NoticeView
        notice = notice_to v g i entry x.after q

        at : IsAt (lists g) (before notice front) notice × AskedToJoin tr g q
        at = right.last front x log_is q v g i entry ms val heard_is

        abbrev rest : List Logged
        rest = x ∷ logged h ∷ m.more

        log_whole : (log ++ logged h ∷ []) ++ m.more ≡ front ++ rest
        log_whole =
            ap (λ ys. (ys ++ logged h ∷ []) ++ m.more) log_is ∙ append_assoc (front ++ x ∷ []) (logged h ∷ []) m.more ∙ append_assoc front (x ∷ []) (logged h ∷ m.more)

        fore : Front front rest
        fore = front_of front rest

        filled : Some f ≡ filled_from notice (before notice front)
        unfolding filled_for copies_after
        filled =
            let by_rules : FilledBy [] (handed_by (front ++ rest)) = subst (λ ys. FilledBy [] (handed_by ys)) log_whole m.stands.ballots in
            let behind : FilledBy (copies_after fore.handed) (handed_by rest) = filled_behind fore.handed (handed_by rest) [] (subst (FilledBy []) fore.is by_rules) in
            let now : FilledBy (copies_after fore.handed) (handed_if (happened.Heard q v g i entry ms val) x.after (ballot_told (happened.Cast q proto phase vote value (Some bytes))) ++ handed_by (logged h ∷ m.more)) = subst (λ (z : Happened × Happened). FilledBy (copies_after fore.handed) (handed_if z.0 x.after (ballot_told z.1) ++ handed_by (logged h ∷ m.more))) (λ j. (heard_is j, is j)) behind in
            now.0 ∙ ap (λ (o : Option Copied). filled_from notice (unwrap_or o (fresh_copy notice))) (copies_are_apart fore.handed q ∙ fore.own q None)

        sends : SendsChunk (lists g) notice bytes
        sends = ballots_send_chunks (lists g) (before notice front) notice f bytes (say g).safe at.0 (sym filled) refl

        -- it is cast in the phase that runs behind the notice
        asked : opens_phase entry ≡ true
        unfolding asks
        asked = by (asks entry x.after q) refl (sym filled)
          where
            by : (b : Bool) → asks entry x.after q ≡ b → (if b then Some (vote_for notice (before notice front)) else None) ≡ Some f → opens_phase entry ≡ true
            by true z k = (and_parts (opens_phase entry) (among (voters x.after) q) z).0
            by false z k = absurd (cc)

        heard_last : heard_by q older ≡ record { view = v; group = g; place = i; entry = entry } ∷ heard_in q front
        heard_last =
            sym (m.heard q (ap voice is)) ∙ ap (heard_in q) log_is ∙ in_more q front x ∙ ap (λ r. heard_after q r (heard_in q front)) heard_is
            ∙ ap (λ b. if b then record { view = v; group = g; place = i; entry = entry } ∷ heard_in q front else heard_in q front) (provider_self q)

        opened : opens entry v i ≡ Some (record { proto = proto; phase = phase })
        opened =
            let cast : CastInPhase older (happened.Cast q proto phase vote value (Some bytes)) = subst (CastInPhase older) is (every_after CastInPhase newer (h.what ∷ older) (subst (Every CastInPhase) split in_phase)).0 in
            sym (open_latest q older (record { view = v; group = g; place = i; entry = entry }) (heard_in q front) heard_last asked) ∙ cast

        runs : running_phase notice.after.running ≡ Some (record { proto = proto; phase = phase })
        runs =
            let s : GroupState = maps.state_at (lists g) v i in
            let next : notice.after ≡ after s v i entry = at.0.after ∙ state_next (lists g) v (i + 1) i entry refl at.0.entry in
            ap (λ (t : GroupState). running_phase t.running) next ∙ opens_running s v i entry ((say g).safe.fitted v i entry at.0.entry) asked ∙ opened

        abbrev sent_in : OpenPhase
        sent_in = record { proto = sends.run.proto; phase = sends.run.phase }

        abbrev cast_in : OpenPhase
        cast_in = record { proto = proto; phase = phase }

        same_phase : Some sent_in ≡ Some cast_in
        same_phase = ap running_phase (sym sends.runs) ∙ runs

        open_is : sent_in ≡ cast_in
        open_is = let k : Some sent_in ≡ Some cast_in = same_phase in cc

        chunk : IsChunk tr q proto phase bytes
        chunk =
            record {
              group = g;
              asked = at.1;
              map = sends.map;
              is = (say g).of_records proto.view (proto.place + 1) sends.map (subst (λ (o : OpenPhase). maps.MapIs (lists g) o.proto.view (o.proto.place + 1) sends.map) open_is sends.is);
              chunk = subst (λ (o : OpenPhase). CarriesChunk sends.map o.phase (Some bytes)) open_is sends.chunk;
            }

      cast_chunk : IsChunk tr q proto phase bytes
      cast_chunk = by (last_hearer log None (logged h) m.more (subst IsLog (append_assoc log (logged h ∷ []) m.more) m.is_log))
        where
          of : (front : List Logged) (x : Logged) → log ≡ front ++ x ∷ [] → (r : Happened) → x.what ≡ r → hearer r ≡ Some q → IsChunk tr q proto phase bytes
          of front x log_is (happened.Heard p v g i entry ms val) heard_is own =
              let same : p ≡ q = cc in
              chunk front x log_is v g i entry ms val (heard_is ∙ (λ j. happened.Heard (same j) v g i entry ms val))
          of front x log_is _ heard_is own = absurd (cc)

          by : ((log ≡ []) × IsLogged None h.what h.after) ⊎ ((front : List Logged) × (x : Logged) × (log ≡ front ++ x ∷ []) × IsLogged (hearer x.what) h.what h.after) → IsChunk tr q proto phase bytes
          by (inl (none, k)) = let both : None ≡ Some q = subst (λ r. IsLogged None r h.after) is k in absurd (cc)
          by (inr (front, x, log_is, k)) = of front x log_is x.what refl (subst (λ r. IsLogged (hearer x.what) r h.after) is k)

    chunk_now : Chunked h.what
    chunk_now = by h.what refl
      where
        by : (r : Happened) → h.what ≡ r → Chunked r
        by (happened.Cast q proto phase vote value None) is = tt
        by (happened.Cast q proto phase vote value (Some bytes)) is = cast_chunk q proto phase vote value bytes is
        by _ is = tt

    handed_right : Right (log ++ logged h ∷ []) × Chunked h.what
    handed_right = (record { copies = copies_now; first = first_now; last = last_now }, chunk_now)

  right_along : IsKeptAlong ByRules c all Right Chunked
  right_along =
      record {
        empty = record { copies = λ p. tt; first = λ p k. absurd (let no : false ≡ true = k in cc); last = λ front l e. absurd (no_end front l e) };
        uncast = uncast;
        given = λ s ev none r i. bare r (given_bare s ev none r i);
        handed = λ es fs e older h log whole m right chunked. handed_right es fs e whole older h log m right chunked;
      }
    where
      uncast : (r : Happened) → IsUncast r → Chunked r
      uncast (happened.Cast p proto phase vote value message) k = absurd k
      uncast _ k = tt

      bare : (r : Happened) → IsBare r → Chunked r
      bare (happened.Cast p proto phase vote value message) k = subst (λ (o : Option (List ℕ)). IfSome o (λ bytes. IsChunk tr p proto phase bytes)) (sym k) tt
      bare _ k = tt

-- ---- so all copies agree

each_has : (P : List Logged → Type 0) (logs : List (List Logged)) (log : List Logged) → OfEach P logs → Has log logs → P log
each_has P [] log k h = absurd h
each_has P (x ∷ logs) log k (inl q) = subst P (sym q) k.0
each_has P (x ∷ logs) log k (inr h) = each_has P logs log k.1 h

logs_has : (P : List Logged → Type 0) (logs : Logs) (x : ClientLogs) (log : List Logged) → OfLogs P logs → Has x logs → Has log x.logs → P log
logs_has P [] x log k h i = absurd h
logs_has P (y ∷ logs) x log k (inl q) i = each_has P y.logs log k.0 (subst (λ (z : ClientLogs). Has log z.logs) q i)
logs_has P (y ∷ logs) x log k (inr h) i = logs_has P logs x log k.1 h i

module _ (c : Config) (all es fs : List Answered) (logs : Logs) (may : AllMayHappen c (events_in all)) (whole : all ≡ es ++ fs) (hands : RunHands ByRules (world_new c) es (empty_logs (world_new c)) logs) where
  right_log : (x : ClientLogs) (log : List Logged) → Has x logs → Has log x.logs → Right c all may log
  right_log x log in_logs in_log =
      logs_has (Right c all may) logs x log (holds_along ByRules c all (Right c all may) (Chunked c all may) (right_along c all may) may es fs whole logs hands).0 in_logs in_log

pub tables_agree : TablesAgree
tables_agree c all es fs logs may whole hands p x (l, in_logs, log, in_log, found) =
    agrees (own c all may p log) (sym (copies_are_apart (handed_by log) p) ∙ found) ((right_log c all es fs logs may whole hands l log in_logs in_log).copies p)
  where
    agrees : (o : Option Copied) → o ≡ Some x → RightIf c all may p (heard_in p log) o → CopyAgrees (answered_after c all).trace x
    agrees None q k = absurd (cc)
    agrees (Some y) q k =
        let same : y ≡ x = cc in
        subst (CopyAgrees (answered_after c all).trace) same (some_has y.map (maps.MapIs (lists c all may y.group) y.view y.len) (MapIs (answered_after c all).trace y.group y.view y.len) (λ m h. (lists_say_maps c all may y.group).of_records y.view y.len m h) k.copy.map)

pub whole_copies_are_equal : WholeCopiesAreEqual
whole_copies_are_equal c all may p q a b m k at_a at_b group view len a_whole b_whole =
    maps_are_one c all may b.group b.view b.len m k
    (subst (λ (z : List ℕ × ViewId × ℕ). MapIs (answered_after c all).trace z.0 z.1 z.2 m) (λ j. (group j, view j, len j)) (map_of p a m at_a a_whole)) (map_of q b k at_b b_whole)
  where
    map_of : (o : ProviderId) (x : Copied) (y : Pairs) → IsCopyAlong c all o x → x.map ≡ Some y → MapIs (answered_after c all).trace x.group x.view x.len y
    map_of o x y (es, fs, whole, logs, hands, in_logs) is =
        subst (λ (z : Option Pairs). IfSome z (MapIs (answered_after c all).trace x.group x.view x.len)) is (tables_agree c all es fs logs may whole hands o x in_logs)

-- ---- and first members are whole

pub first_joiners_are_whole : FirstJoinersAreWhole
first_joiners_are_whole c es logs may hands p x log in_logs in_log first =
    whole (own c es may p log) refl ((right_log c es es [] logs may (sym (append-nil es)) hands x log in_logs in_log).first p first)
  where
    whole : (o : Option Copied) → own c es may p log ≡ o → WholeIf c es may p o → HasWholeCopy p log
    whole None q k = absurd k
    whole (Some y) q k = (y, k.0.0, copies_are_apart (handed_by log) p ∙ q, k.0.1)
