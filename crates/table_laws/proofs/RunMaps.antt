-- The map of a place of a run is that of the group's lists.
use Rattle.std.proofs.Common.{refl, ◌≡◌, inl, inr, ℕ, ◌+◌, ◌<◌, ◌≤◌, List, [], ◌∷◌, length, take, reverse, Option, Some, None, sym, ap, subst, ◌∙◌, arith}
use Rattle.std.specs.Prelude.{slice_get}
use Rattle.std.specs.Option.{option_map}
use Rattle.rsct_packet.specs.declared.ids.ViewId.{ViewId}
use Rattle.rsct_packet.specs.declared.ids.Member.{Member}
use Rattle.rsct_packet.specs.Search.{Has}
use Rattle.proposal_core.specs.declared.entry.Entry.{Entry}
use Rattle.proposal_core.specs.declared.group_state.GroupState.{GroupState}
use Rattle.node_state.specs.declared.config.Config.{Config}
use Rattle.node_state.specs.declared.happened.Happened.{Happened}
use Rattle.node_state.specs.declared.happened.Happened.TheVariants as happened
use Rattle.agreed_table.specs.Pairs.{Pairs}
use Rattle.table_client.specs.Maps.{MapsHold, entry_map}
use Rattle.table_client.specs.Maps as maps
use Rattle.table_client.proofs.MapLaws.{maps_hold}
use Rattle.run_safety.specs.Past.{History, records_of, puts_of, base_of, fold_from, state_at, view_now}
use Rattle.run_safety.specs.Group.{Origin, In, Put, Line, Kept, Noted, kept}
use Rattle.run_safety.specs.Group as group
use Rattle.run_safety.specs.GroupLists as lists
use Rattle.run_safety.specs.Bases.{base_state}
use Rattle.run_safety.specs.Moves.{Opening}
use Rattle.run_safety.specs.SafeGroups.{SafeGroups}
use Rattle.run_safety.specs.Sight.{inc_in, lines_of}
use Rattle.run_safety.specs.SafeLists.{InItsView}
use Rattle.run_safety.proofs.SightLaws.{line_kept, kept_line, line_seen, own_line, put_seen, line_recorded}
use Rattle.run_safety.proofs.HeardLaw.{get_within}
use Rattle.step_refinement.specs.Tied.{opening_of}
use Rattle.run_laws.specs.seen_runs.Seen.{Seen}
use Rattle.run_laws.proofs.seen_runs.BareLines.{base_is}
use Rattle.run_laws.proofs.seen_runs.LineFacts.{put_at}
use Rattle.run_laws.proofs.seen_runs.Sights.{puts_same, base_same}
use Rattle.run_laws.proofs.failed_causes.Views.{now_entered}
use Rattle.world_laws.specs.world_answers.Answers.{Answered, events_in, answered_after, answered_records}
use Rattle.world_safety.specs.Events.{AllMayHappen, run_of_events}
use Rattle.world_safety.specs.Scripts.{IsSafe, history_in}
use Rattle.world_safety.proofs.SteadyRuns.{history_records}
use Rattle.world_safety.proofs.Traces.{run_has_the_records}
use Rattle.world_safety.proofs.Turned.{back_again}
use Rattle.world_safety.proofs.Scripts.{every_answer_is_safe}
use Rattle.table_laws.specs.GroupLists.{log_of, base_by, origin_of, lists_of}
use Rattle.table_laws.specs.Maps.{HasNoBase, MapIs, Fresh, Based, Then, MapsAreOne, Reaches, MapsStayWhileRunning, MapsAreEmptyWithoutMembers, MapsExist, ListsSayMaps}
use Rattle.session_clients.specs.Notices.{notice_to}
use Rattle.rsct_packet.specs.declared.ids.ProviderId.{ProviderId}
use Rattle.run_safety.proofs.Prefix.{prefix_get}
use Rattle.world_safety.specs.HeardStates.{FoldAt}
use Rattle.table_laws.specs.Notices.{IsOfLists, NoticesAreOfLists}
use Rattle.table_laws.proofs.GroupLists.{log_put, some_put, base_was_noted, noted_is_found, PutsEntered, prefix_len, in_log, front_of_log, found_is, state_is, lists_are_safe, mapped}

-- ---- whoever puts an entry has entered the view

put_entered : (rs : List Happened) → Seen rs → (n : ℕ) (v : ViewId) (g : List ℕ) (i : ℕ) (e : Entry) → Has (happened.Put n v g i e) rs → (ms : List Member) × Has (happened.In n v ms) rs
put_entered [] seen n v g i e h = absurd h
put_entered (r ∷ rs) seen n v g i e (inl q) = let k = now_entered n v rs (at r q seen.0.in_view) in (k.0, inr k.1)
  where
    at : (r : Happened) → happened.Put n v g i e ≡ r → InItsView rs r → view_now n rs ≡ Some v
    at r q s = subst (InItsView rs) (sym q) s
put_entered (r ∷ rs) seen n v g i e (inr h) = let k = put_entered rs seen.1 n v g i e h in (k.0, inr k.1)

module _ (o : Opening) (h : History) (safe : SafeGroups o h) (seen : Seen (records_of h)) (g : List ℕ) where
  abbrev all : List Line
  all = lines_of g h

  abbrev rs : List Happened
  rs = records_of h

  in_kept : (n : ℕ) (v : ViewId) (ms : List Member) → Has (happened.In n v ms) rs → Has (In n (inc_in n ms) v ms) (kept all)
  in_kept n v ms k = line_kept (In n (inc_in n ms) v ms) all (line_seen (Kept (In n (inc_in n ms) v ms)) g (happened.In n v ms) (λ rs. inl refl) h k)

  pub puts_entered : PutsEntered (kept all)
  puts_entered n v i e k =
      let put : Has (happened.Put n v g i e) rs = line_recorded g (Kept (Put n v i e)) (happened.Put n v g i e) refl h (kept_line (Put n v i e) all k) in
      let was = put_entered rs seen n v g i e put in
      (inc_in n was.0, was.0, in_kept n v was.0 was.1)

  based_line : (n : ℕ) (v u : ViewId) (len : ℕ) (s : GroupState) → Has (happened.Base n v g u len s) rs → Has (Noted (group.Based n v (record { old = u; len = len; state = s }))) all
  based_line n v u len s k =
      let x : Line = Noted (group.Based n v (record { old = u; len = len; state = s })) in
      line_seen x g (happened.Base n v g u len s) (λ rs. own_line g x) h k

  -- the state after entries of a list that a node has put
  state_upto : (n : ℕ) (v : ViewId) (j : ℕ) → (k : ℕ) × (ms : List Member) × Has (In n k v ms) (kept all) → j ≤ length (lists.puts_of n v (kept all)) → state_at n v g j rs ≡ maps.state_at (lists_of all) v j
  state_upto n v j was le =
      let base : base_of n v g rs ≡ base_state ((safe g).bases v) =
      sym (base_same n v g h) ∙ base_is (safe g).bases n v all (λ b m. (safe g).one_base.noted n v b m) (λ b m. (safe g).one_base.by_all n was.0 v was.1 b was.2 m) in
      ap (λ (s : GroupState). fold_from v s 0 (take j (puts_of n v g rs))) base
      ∙ ap (λ (es : List Entry). fold_from v (base_state ((safe g).bases v)) 0 (take j es)) (sym (puts_same n v g h))
      ∙ sym (state_is o all (safe g) puts_entered n was.0 v was.1 j was.2 le)

  -- and the one before an entry that it put
  pub state_there : (n : ℕ) (v : ViewId) (j : ℕ) (e : Entry) → Has (happened.Put n v g j e) rs → state_at n v g j rs ≡ maps.state_at (lists_of all) v j
  state_there n v j e put =
      let k : Has (Put n v j e) (kept all) = put_seen n v g j e h put in
      let l : j < length (lists.puts_of n v (kept all)) = get_within j e (lists.puts_of n v (kept all)) (put_at n v j e (kept all) (safe g).in_order k) in
      state_upto n v j (puts_entered n v j e k) (omega arith)

  no_base : (v : ViewId) → HasNoBase rs g v → option_map origin_of (base_by v all) ≡ None
  no_base v none = by (base_by v all) refl
    where
      by : (x : Option Origin) → base_by v all ≡ x → option_map origin_of x ≡ None
      by None q = refl
      by (Some b) q =
          let p = base_was_noted v all b q in
          absurd (none p.0 b.old b.len b.state (line_recorded g (Noted (group.Based p.0 v b)) (happened.Base p.0 v g b.old b.len b.state) refl h p.1))

  -- a map by the records is that of the lists
  to_lists : (v : ViewId) (i : ℕ) (m : Pairs) → MapIs rs g v i m → maps.MapIs (lists_of all) v i m
  to_lists v i m (Fresh _ _ _ i0 m0 none) = maps.Fresh v i m i0 m0 (no_base v none)
  to_lists v i m (Based _ _ _ n u len s i0 base old) =
      let b : Origin = record { old = u; len = len; state = s } in
      maps.Based v i m (origin_of b) i0 (ap (option_map origin_of) (found_is o all (safe g) puts_entered n v b (based_line n v u len s base))) (to_lists u len m old)
  to_lists v i m (Then _ _ _ n j e before is m0 put old) =
      maps.Then v i m j e before is (m0 ∙ ap (λ (s : GroupState). entry_map s v j e before) (state_there n v j e put)) (in_log o all (safe g) puts_entered n v j e (put_seen n v g j e h put)) (to_lists v j before old)

  -- and the other way round
  from_lists : (v : ViewId) (i : ℕ) (m : Pairs) → maps.MapIs (lists_of all) v i m → MapIs rs g v i m
  from_lists v i m (maps.Fresh _ _ _ i0 m0 none) = Fresh v i m i0 m0 unbased
    where
      unbased : HasNoBase rs g v
      unbased n u len s base =
          let k = noted_is_found v all n (record { old = u; len = len; state = s }) (based_line n v u len s base) in
          let both : None ≡ Some (origin_of k.0) = sym none ∙ ap (option_map origin_of) k.1 in
          absurd (cc)
  from_lists v i m (maps.Based _ _ _ b i0 is old) = by (base_by v all) refl is (from_lists b.old b.len m old)
    where
      by : (x : Option Origin) → base_by v all ≡ x → option_map origin_of x ≡ Some b → MapIs rs g b.old b.len m → MapIs rs g v i m
      by None q e before = absurd (cc)
      by (Some c) q e before =
          let same : b ≡ origin_of c = cc in
          let p = base_was_noted v all c q in
          let base : Has (happened.Base p.0 v g c.old c.len c.state) rs = line_recorded g (Noted (group.Based p.0 v c)) (happened.Base p.0 v g c.old c.len c.state) refl h p.1 in
          Based v i m p.0 c.old c.len c.state i0 base (subst (λ (z : maps.Origin). MapIs rs g z.old z.len m) same before)
  from_lists v i m (maps.Then _ _ _ j e before is m0 at old) =
      let p = log_put v (kept all) j e at in
      let put : Has (happened.Put p.0 v g j e) rs = line_recorded g (Kept (Put p.0 v j e)) (happened.Put p.0 v g j e) refl h (kept_line (Put p.0 v j e) all p.1) in
      Then v i m p.0 j e before is (m0 ∙ ap (λ (s : GroupState). entry_map s v j e before) (sym (state_there p.0 v j e put))) put (from_lists v j before old)

  -- a map at each place up to which a node has put entries
  map_there : (n : ℕ) (v : ViewId) (i : ℕ) → i ≤ length (puts_of n v g rs) → (m : Pairs) × MapIs rs g v i m
  map_there n v i l =
      let front = prefix_len (lists.puts_of n v (kept all)) (log_of v (kept all)) (front_of_log o all (safe g) puts_entered n v) in
      let same : length (lists.puts_of n v (kept all)) ≡ length (puts_of n v g rs) = ap (λ (xs : List Entry). length xs) (puts_same n v g h) in
      let k = mapped o all (safe g) puts_entered v i (omega (arith, l, front, same)) in
      (k.0, from_lists v i k.0 k.1)

  -- what is heard with the fold of a node's list tells of the group's lists
  notice_there : (p : ProviderId) (v : ViewId) (i : ℕ) (e : Entry) (state : GroupState) → slice_get (puts_of p.node v g rs) i ≡ Some e → state ≡ state_at p.node v g (i + 1) rs → IsOfLists (lists_of all) (notice_to v g i e state p)
  notice_there p v i e state at fold =
      let mine : slice_get (lists.puts_of p.node v (kept all)) i ≡ Some e = subst (λ (xs : List Entry). slice_get xs i ≡ Some e) (sym (puts_same p.node v g h)) at in
      let there : slice_get (log_of v (kept all)) i ≡ Some e = prefix_get (lists.puts_of p.node v (kept all)) (log_of v (kept all)) (front_of_log o all (safe g) puts_entered p.node v) i e mine in
      let put = some_put p.node v (kept all) i e mine in
      let l : i < length (lists.puts_of p.node v (kept all)) = get_within i e (lists.puts_of p.node v (kept all)) mine in
      let k : i < length (log_of v (kept all)) = get_within i e (log_of v (kept all)) there in
      record {
        entry = there;
        after = fold ∙ state_upto p.node v (i + 1) (puts_entered p.node v put.0 put.1 put.2) (omega (arith, l));
        mapped = mapped o all (safe g) puts_entered v i (omega (arith, k));
      }

  holds : MapsHold (lists_of all)
  holds = maps_hold (lists_of all) (lists_are_safe o all (safe g) puts_entered)

-- ---- of the runs of events that may happen

module _ (c : Config) (es : List Answered) (may : AllMayHappen c (events_in es)) where
  pub is_safe : IsSafe c es (answered_records c es)
  is_safe = every_answer_is_safe c es may

  -- the records of the history are those of the world
  pub trace_is : records_of (history_in c es) ≡ (answered_after c es).trace
  unfolding answered_records
  trace_is = history_records (run_of_events c es) ∙ (ap reverse (run_has_the_records c es) ∙ back_again (answered_after c es).trace)

  to_history : (g : List ℕ) (v : ViewId) (i : ℕ) (m : Pairs) → MapIs (answered_after c es).trace g v i m → maps.MapIs (lists_of (lines_of g (history_in c es))) v i m
  to_history g v i m k = to_lists (opening_of c) (history_in c es) is_safe.safe is_safe.seen g v i m (subst (λ (rs : List Happened). MapIs rs g v i m) (sym trace_is) k)

  held : (g : List ℕ) → MapsHold (lists_of (lines_of g (history_in c es)))
  held g = holds (opening_of c) (history_in c es) is_safe.safe is_safe.seen g

  pub state_before : (g : List ℕ) (n : ℕ) (v : ViewId) (i : ℕ) → Reaches (answered_after c es).trace g n v i → state_at n v g i (answered_after c es).trace ≡ maps.state_at (lists_of (lines_of g (history_in c es))) v i
  state_before g n v i (e, put) =
      ap (state_at n v g i) (sym trace_is) ∙ state_there (opening_of c) (history_in c es) is_safe.safe is_safe.seen g n v i e (subst (Has (happened.Put n v g i e)) (sym trace_is) put)

pub maps_are_one : MapsAreOne
maps_are_one c es may g v i m k a b = (held c es may g).one v i m k (to_history c es may g v i m a) (to_history c es may g v i k b)

pub maps_stay_while_running : MapsStayWhileRunning
maps_stay_while_running c es may g n v i m k run put a runs b =
    (held c es may g).stays v i m k run (to_history c es may g v i m a) (ap (λ (s : GroupState). s.running) (sym (state_before c es may g n v i put)) ∙ runs) (to_history c es may g run.proto.view (run.proto.place + 1) k b)

pub maps_are_empty_without_members : MapsAreEmptyWithoutMembers
maps_are_empty_without_members c es may g n v i m put a nobody =
    (held c es may g).empty v i m (to_history c es may g v i m a) (ap (λ (s : GroupState). s.members) (sym (state_before c es may g n v i put)) ∙ nobody)

pub maps_exist : MapsExist
maps_exist c es may g n v i l =
    let k = map_there (opening_of c) (history_in c es) (is_safe c es may).safe (is_safe c es may).seen g n v i (subst (λ (rs : List Happened). i ≤ length (puts_of n v g rs)) (sym (trace_is c es may)) l) in
    (k.0, subst (λ (rs : List Happened). MapIs rs g v i k.0) (trace_is c es may) k.1)

pub lists_say_maps : ListsSayMaps
lists_say_maps c es may g =
    record {
      safe = lists_are_safe (opening_of c) (lines_of g (history_in c es)) ((is_safe c es may).safe g) (puts_entered (opening_of c) (history_in c es) (is_safe c es may).safe (is_safe c es may).seen g);
      of_lists = to_history c es may g;
      of_records = λ v i m k. subst (λ (rs : List Happened). MapIs rs g v i m) (trace_is c es may) (from_lists (opening_of c) (history_in c es) (is_safe c es may).safe (is_safe c es may).seen g v i m k);
    }

pub notices_are_of_lists : NoticesAreOfLists
notices_are_of_lists c es may p v g i e members value state fold =
    let old : FoldAt (records_of (history_in c es)) (happened.Heard p v g i e members value) state = subst (λ (rs : List Happened). FoldAt rs (happened.Heard p v g i e members value) state) (sym (trace_is c es may)) fold in
    notice_there (opening_of c) (history_in c es) (is_safe c es may).safe (is_safe c es may).seen g p v i e state old.0 old.1
