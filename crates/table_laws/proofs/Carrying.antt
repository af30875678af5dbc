-- Where each message that is cast is a chunk, an entry that closes a phase carries one, or nothing.
use Rattle.std.proofs.Common.{◌≡◌, inl, inr, ℕ, ◌+◌, ◌<◌, ◌≤◌, Bool, true, false, List, [], ◌∷◌, ◌++◌, length, take, Option, Some, None, refl, sym, ap, subst, ◌∙◌, arith}
use Rattle.std.specs.Prelude.{◌==◌, ◌&&◌, not, slice_get, if◌then◌else◌, nat_lt}
use Rattle.std.specs.Str.{bytes_eq}
use Rattle.std.proofs.lemmas.Bool.{and_parts, eqb-true, eq-eqb}
use Rattle.rsct_packet.specs.declared.ids.ViewId.{ViewId}
use Rattle.rsct_packet.specs.declared.ids.ProtoId.{ProtoId}
use Rattle.rsct_packet.specs.declared.ids.ProviderId.{ProviderId}
use Rattle.rsct_packet.specs.Ids.{same_view, same_proto}
use Rattle.rsct_packet.specs.Providers.{among}
use Rattle.rsct_packet.specs.Search.{Has}
use Rattle.rsct_packet.proofs.HasLaws.{has_filter, append_has_left, append_has_right, map_has}
use Rattle.proposal_core.specs.declared.proposal.Proposal.{Proposal}
use Rattle.proposal_core.specs.declared.proposal.Proposal.TheVariants.{Join, Leave, Fail, Expel, State, Message, Attributes, Reflect}
use Rattle.proposal_core.specs.declared.entry.Closed.{Closed}
use Rattle.proposal_core.specs.declared.entry.Entry.{Entry}
use Rattle.proposal_core.specs.declared.entry.Entry.TheVariants.{Once, Begin, Phase, Approve, Reject, Late}
use Rattle.proposal_core.specs.declared.entry.Row.{Row}
use Rattle.proposal_core.specs.declared.entry.RowVote.{RowVote}
use Rattle.proposal_core.specs.declared.entry.RowVote.TheVariants as row_vote
use Rattle.proposal_core.specs.declared.entry.Vote.{Vote}
use Rattle.proposal_core.specs.declared.group_state.GroupState.{GroupState}
use Rattle.proposal_core.specs.declared.group_state.Running.{Running}
use Rattle.proposal_core.specs.Fold.{max_phases, joins_of, joiners_in, present, fits, runs, fallen_of, voters, voters_at, voters_on}
use Rattle.view_state.proofs.ViewOrder.{same_view_is}
use Rattle.node_state.specs.declared.config.Config.{Config}
use Rattle.node_state.specs.declared.happened.Happened.{Happened}
use Rattle.node_state.specs.declared.happened.Happened.TheVariants as happened
use Rattle.node_state.proofs.NameOrder.{text_same, text_self}
use Rattle.agreed_table.specs.Pairs.{Pairs}
use Rattle.table_client.specs.Rules.{closed_in}
use Rattle.table_client.specs.Sharing.{CarriesChunk}
use Rattle.table_client.specs.Maps as maps
use Rattle.run_safety.specs.Past.{History, records_of, is_list, puts_of, base_of, fold_from, state_at}
use Rattle.run_safety.specs.Group.{Line, Noted, kept}
use Rattle.run_safety.specs.Group as group
use Rattle.run_safety.specs.Sight.{lines_of}
use Rattle.run_safety.proofs.HeardLaw.{take_front, get_within}
use Rattle.run_safety.proofs.Prefix.{prefix_push, at_end}
use Rattle.run_safety.proofs.SightLaws.{line_recorded, put_seen}
use Rattle.step_refinement.specs.Tied.{opening_of}
use Rattle.entry_laws.specs.carried_values.Carried.{the_message, OwnOr, RowGives, RowsGive, Gives, EntryCarries, RecordCarries}
use Rattle.entry_laws.specs.closing_rows.Rows.{AreOfVoters, HasRows}
use Rattle.run_laws.specs.seen_runs.Seen.{Seen, RowsSeen}
use Rattle.run_laws.proofs.failed_causes.Bases.{view_self}
use Rattle.run_laws.proofs.failed_causes.Records.{Every, every_after, every_of}
use Rattle.world_laws.specs.world_answers.Answers.{Answered, events_in, answered_records}
use Rattle.world_safety.specs.Events.{AllMayHappen}
use Rattle.world_safety.specs.Scripts.{IsSafe, history_in}
use Rattle.world_safety.proofs.Runs.{every_run_is_reached}
use Rattle.world_safety.proofs.Steady.{Steady, AllSteady}
use Rattle.world_safety.proofs.SteadyRuns.{runs_steady}
use Rattle.table_laws.specs.GroupLists.{log_of, lists_of}
use Rattle.table_laws.specs.Maps.{MapIs}
use Rattle.table_laws.specs.Carrying.{AskedToJoin, ThePresentAsked, IsChunk, CastsAreChunks, ChunksAreCarried}
use Rattle.table_laws.proofs.GroupLists.{prefix_len, in_log}
use Rattle.table_laws.proofs.Asking.{asked_there}
use Rattle.table_laws.proofs.RunMaps.{puts_entered, state_there, is_safe, trace_is, maps_are_one, lists_say_maps}

-- ---- a state of a list that has more entries stays as records come

state_if : (v : ViewId) (base : GroupState) (j : ℕ) (xs : List Entry) (f : Entry) (b : Bool) → j ≤ length xs → fold_from v base 0 (take j (if b then xs ++ f ∷ [] else xs)) ≡ fold_from v base 0 (take j xs)
state_if v base j xs f false l = refl
state_if v base j xs f true l = ap (fold_from v base 0) (take_front j xs (xs ++ f ∷ []) (prefix_push xs f) l)

len_if : (j : ℕ) (xs : List Entry) (f : Entry) (b : Bool) → j < length xs → j < length (if b then xs ++ f ∷ [] else xs)
len_if j xs f false l = l
len_if j xs f true l = let k = prefix_len xs (xs ++ f ∷ []) (prefix_push xs f) in omega (arith, l, k)

abbrev Kept : ℕ → ViewId → List ℕ → ℕ → List Happened → List Happened → Type 0
Kept n v g j more rs = (state_at n v g j more ≡ state_at n v g j rs) × (j < length (puts_of n v g more))

state_kept : (n : ℕ) (v : ViewId) (g : List ℕ) (j : ℕ) (rs : List Happened) (r : Happened) → Steady rs r → j < length (puts_of n v g rs) → Kept n v g j (r ∷ rs) rs
state_kept n v g j rs (happened.Put m u h k f) s l =
    let le : j ≤ length (puts_of n v g rs) = omega arith in
    (state_if v (base_of n v g rs) j (puts_of n v g rs) f (is_list n v g m u h) le, len_if j (puts_of n v g rs) f (is_list n v g m u h) l)
state_kept n v g j rs (happened.Base m u h old len st) s l = by (is_list n v g m u h) refl
  where
    by : (b : Bool) → is_list n v g m u h ≡ b → (fold_from v (if b then st else base_of n v g rs) 0 (take j (puts_of n v g rs)) ≡ state_at n v g j rs) × (j < length (puts_of n v g rs))
    by false q = (refl, l)
    by true q =
        let x = and_parts (m == n) (same_view u v && bytes_eq h g) q in
        let y = and_parts (same_view u v) (bytes_eq h g) x.1 in
        let node : m ≡ n = eqb-true m n x.0 in
        let view : u ≡ v = same_view_is u v y.0 in
        let name : h ≡ g = text_same h g y.1 in
        let none : puts_of n v g rs ≡ [] = (λ z. puts_of (sym node z) (sym view z) (sym name z) rs) ∙ s.1 in
        let short : length (puts_of n v g rs) ≡ 0 = ap (λ (xs : List Entry). length xs) none in
        absurd (omega (arith, l, short))
state_kept n v g j rs _ s l = (refl, l)

-- ---- the rows of an entry that closes a phase are those of the voters of its state

abbrev RowsThere : ℕ → ViewId → List ℕ → ℕ → Entry → List Happened → Type 0
RowsThere n v g i e rs = HasRows (state_at n v g i rs) e × (i < length (puts_of n v g rs))

rows_at_put : (n : ℕ) (v : ViewId) (g : List ℕ) (i : ℕ) (e : Entry) (rs : List Happened) → Steady rs (happened.Put n v g i e) → HasRows (state_at n v g i rs) e → RowsThere n v g i e (happened.Put n v g i e ∷ rs)
rows_at_put n v g i e rs s rows =
    let le : i ≤ length (puts_of n v g rs) = let here = s.1 in omega arith in
    let own : is_list n v g n v g ≡ true = λ z. eq-eqb n n refl z && (view_self v v refl z && text_self g z) in
    let within : length (puts_of n v g rs) < length (puts_of n v g rs ++ e ∷ []) = get_within (length (puts_of n v g rs)) e (puts_of n v g rs ++ e ∷ []) (at_end (puts_of n v g rs) e []) in
    let more : i < length (puts_of n v g rs ++ e ∷ []) = let here = s.1 in omega (arith, within, here) in
    (subst (λ (t : GroupState). HasRows t e) (sym (state_if v (base_of n v g rs) i (puts_of n v g rs) e (is_list n v g n v g) le)) rows, subst (λ (b : Bool). i < length (if b then puts_of n v g rs ++ e ∷ [] else puts_of n v g rs)) (sym own) more)

rows_there : (n : ℕ) (v : ViewId) (g : List ℕ) (i : ℕ) (e : Entry) (rs : List Happened) → AllSteady rs → Seen rs → Has (happened.Put n v g i e) rs → RowsThere n v g i e rs
rows_there n v g i e [] steady seen h = absurd h
rows_there n v g i e (r ∷ rs) steady seen (inl q) =
    subst (λ (z : Happened). RowsThere n v g i e (z ∷ rs)) q (rows_at_put n v g i e rs (subst (Steady rs) (sym q) steady.0) (subst (RowsSeen rs) (sym q) seen.0.rows))
rows_there n v g i e (r ∷ rs) steady seen (inr h) =
    let k = rows_there n v g i e rs steady.1 seen.1 h in
    let z = state_kept n v g i rs r steady.0 k.1 in
    (subst (λ (t : GroupState). HasRows t e) (sym z.0) k.0, z.1)

-- ---- who votes is present

voted_on : (s : GroupState) (x : Proposal) (p : ProviderId) → Has p (voters_on s x) → Has p (s.members ++ joins_of x)
unfolding voters_on
voted_on s (Join ps attrs k) p h = h
voted_on s (Leave q r) p h = append_has_left p s.members [] (has_filter (λ (z : ProviderId). not (among (q ∷ []) z)) p s.members h).0
voted_on s (Fail out) p h = append_has_left p s.members [] (has_filter (λ (z : ProviderId). not (among (fallen_of out) z)) p s.members h).0
voted_on s (Expel q r out) p h = append_has_left p s.members [] (has_filter (λ (z : ProviderId). not (among out z)) p s.members h).0
voted_on s (State q r value) p h = append_has_left p s.members [] h
voted_on s (Message q r bytes) p h = append_has_left p s.members [] h
voted_on s (Attributes q r attrs) p h = append_has_left p s.members [] h
voted_on s (Reflect view place value) p h = append_has_left p s.members [] h

voted_at : (s : GroupState) (o : Option Running) (p : ProviderId) → Has p (voters_at s o) → Has p (s.members ++ joiners_in o)
unfolding voters_at
voted_at s None p h = absurd h
voted_at s (Some run) p h = voted_on s run.proposal p h

voters_present : (s : GroupState) (p : ProviderId) → Has p (voters s) → Has p (present s)
unfolding voters
voters_present s p h = voted_at s s.running p h

-- ---- what a put carries

-- of the ballots that were cast before it
abbrev PutCarries : List Happened → Happened → Type 0
PutCarries rs (happened.Put n v g i e) = EntryCarries rs e
PutCarries rs _ = Unit {0}

put_carries : (now : List Happened) (before : History) (r : Happened) → RecordCarries now before r → PutCarries (now ++ records_of before) r
put_carries now before (happened.Put n v g i e) k = k
put_carries now before _ k = tt

-- ---- row by row

module _ (all : List Happened) (g : List ℕ) (proto : ProtoId) (phase : ℕ) (m : Pairs) (rs : List Happened) (casts : CastsAreChunks all rs) (one : (p : ProviderId) (h : List ℕ) → AskedToJoin all g p → AskedToJoin all h p → h ≡ g) (same : (k : Pairs) → MapIs all g proto.view (proto.place + 1) k → k ≡ m) where
  is_chunk : (p : ProviderId) → AskedToJoin all g p → (v : Vote) (value : Option (List ℕ)) (bytes : List ℕ) → Has (happened.Cast p proto phase v value (Some bytes)) rs → CarriesChunk m phase (Some bytes)
  is_chunk p asked v value bytes h =
      let k : IsChunk all p proto phase bytes = casts p proto phase v value bytes h in
      let name : k.group ≡ g = one p k.group asked k.asked in
      let map : k.map ≡ m = same k.map (subst (λ (h : List ℕ). MapIs all h proto.view (proto.place + 1) k.map) name k.is) in
      subst (λ (z : Pairs). CarriesChunk z phase (Some bytes)) map k.chunk

  row_carries : (p : ProviderId) → AskedToJoin all g p → (v : RowVote) (rest : Option (List ℕ) → Type 0) (part : Option (List ℕ)) → (rest part → CarriesChunk m phase part) → RowGives the_message rs proto phase p v rest part → CarriesChunk m phase part
  row_carries p asked (row_vote.Cast v) rest part on (value, message, cast, own) = by message cast own
    where
      by : (message : Option (List ℕ)) → Has (happened.Cast p proto phase v value message) rs → OwnOr message rest part → CarriesChunk m phase part
      by None cast own = on own
      by (Some bytes) cast own = subst (CarriesChunk m phase) (sym own) (is_chunk p asked v value bytes cast)
  row_carries p asked (row_vote.Late d) rest part on h = on h
  row_carries p asked (row_vote.Failed d) rest part on h = on h

  rows_carry : (rows : List Row) → ((r : Row) → Has r rows → AskedToJoin all g r.provider) → (part : Option (List ℕ)) → RowsGive the_message rs proto phase rows part → CarriesChunk m phase part
  rows_carry [] asked part h = subst (CarriesChunk m phase) (sym h) tt
  rows_carry (r ∷ rows) asked part h =
      row_carries r.provider (asked r (inl refl)) r.vote (RowsGive the_message rs proto phase rows) part (λ k. rows_carry rows (λ q z. asked q (inr z)) part k) h

-- ---- in a run

module _ (c : Config) (es : List Answered) (may : AllMayHappen c (events_in es)) where
  abbrev h : History
  h = history_in c es

  safe : IsSafe c es (answered_records c es)
  safe = is_safe c es may

  steady : AllSteady (records_of h)
  steady = let run = every_run_is_reached c es may in subst (λ (z : History). AllSteady (records_of z)) run.5 (runs_steady c run.0 run.1)

  abbrev all_of : List ℕ → List Line
  all_of g = lines_of g h

  state_is_there : (g : List ℕ) (n : ℕ) (v : ViewId) (i : ℕ) (e : Entry) → Has (happened.Put n v g i e) (records_of h) → state_at n v g i (records_of h) ≡ maps.state_at (lists_of (all_of g)) v i
  state_is_there g n v i e put = state_there (opening_of c) h safe.safe safe.seen g n v i e put

  in_list : (g : List ℕ) (n : ℕ) (v : ViewId) (i : ℕ) (e : Entry) → Has (happened.Put n v g i e) (records_of h) → slice_get (log_of v (kept (all_of g))) i ≡ Some e
  in_list g n v i e put = in_log (opening_of c) (all_of g) (safe.safe g) (puts_entered (opening_of c) h safe.safe safe.seen g) n v i e (put_seen n v g i e h put)

  asked_before : (g : List ℕ) (n : ℕ) (v : ViewId) (i : ℕ) (e : Entry) (p : ProviderId) → Has (happened.Put n v g i e) (records_of h) → Has p (present (state_at n v g i (records_of h))) → AskedToJoin (records_of h) g p
  asked_before g n v i e p put there =
      let l : i < length (log_of v (kept (all_of g))) = get_within i e (log_of v (kept (all_of g))) (in_list g n v i e put) in
      let le : i ≤ length (log_of v (kept (all_of g))) = omega arith in
      let k = asked_there (opening_of c) (all_of g) (safe.safe g) (puts_entered (opening_of c) h safe.safe safe.seen g) v i le p (subst (λ (s : GroupState). Has p (present s)) (state_is_there g n v i e put) there) in
      (k.0, line_recorded g (Noted (group.Asked p p.join k.0)) (happened.Asked p p.join g k.0) refl h k.1)

  fit : (g : List ℕ) (n : ℕ) (v : ViewId) (i : ℕ) (e : Entry) → Has (happened.Put n v g i e) (records_of h) → fits (state_at n v g i (records_of h)) e ≡ true
  fit g n v i e put = subst (λ (s : GroupState). fits s e ≡ true) (sym (state_is_there g n v i e put)) ((lists_say_maps c es may g).safe.fitted v i e (in_list g n v i e put))

  one_group : (g k : List ℕ) (p : ProviderId) → AskedToJoin (records_of h) g p → AskedToJoin (records_of h) k p → k ≡ g
  one_group g k p a b = safe.once.group p p.join k g b.0 a.0 b.1 a.1

  proto_runs : (proto : ProtoId) (phase : ℕ) (o : Option Running) (run : Running) → runs proto phase o ≡ true → o ≡ Some run → proto ≡ run.proto
  unfolding runs
  proto_runs proto phase None run r is = absurd (cc)
  proto_runs proto phase (Some old) run r is =
      let parts = and_parts (phase == old.phase) (same_proto proto old.proto) r in
      let both = and_parts (same_view proto.view old.proto.view) (proto.place == old.proto.place) parts.1 in
      let view : proto.view ≡ old.proto.view = same_view_is proto.view old.proto.view both.0 in
      let place : proto.place ≡ old.proto.place = eqb-true proto.place old.proto.place both.1 in
      let same : old ≡ run = cc in
      (λ z. record { view = view z; place = place z }) ∙ ap (λ (x : Running). x.proto) same

  closing : (g : List ℕ) (n : ℕ) (v : ViewId) (i : ℕ) (e : Entry) (cl : Closed) (run : Running) (m : Pairs) (rs : List Happened) → CastsAreChunks (records_of h) rs → ((k : Pairs) → MapIs (records_of h) g run.proto.view (run.proto.place + 1) k → k ≡ m)
      → Has (happened.Put n v g i e) (records_of h) → (state_at n v g i (records_of h)).running ≡ Some run → AreOfVoters (state_at n v g i (records_of h)) cl.rows → Gives the_message rs cl cl.message → runs cl.proto cl.phase (state_at n v g i (records_of h)).running ≡ true → CarriesChunk m cl.phase cl.message
  closing g n v i e cl run m rs casts same put running rows gives its =
      let proto : cl.proto ≡ run.proto = proto_runs cl.proto cl.phase (state_at n v g i (records_of h)).running run its running in
      rows_carry (records_of h) g cl.proto cl.phase m rs casts (λ p k a b. one_group g k p a b) (λ k at. same k (subst (λ (z : ProtoId). MapIs (records_of h) g z.view (z.place + 1) k) proto at)) cl.rows
      (λ r z. asked_before g n v i e r.provider put (voters_present (state_at n v g i (records_of h)) r.provider (subst (Has r.provider) rows (map_has (λ (q : Row). q.provider) r cl.rows z)))) cl.message gives

  some_closed : (a b : Closed) → Some a ≡ Some b → a ≡ b
  some_closed a b e = cc

  carried_there : (g : List ℕ) (n : ℕ) (v : ViewId) (i : ℕ) (e : Entry) (cl : Closed) (run : Running) (m : Pairs) (newer rs : List Happened) → records_of h ≡ newer ++ happened.Put n v g i e ∷ rs → CastsAreChunks (records_of h) rs → ((k : Pairs) → MapIs (records_of h) g run.proto.view (run.proto.place + 1) k → k ≡ m) → closed_in e ≡ Some cl → (state_at n v g i (records_of h)).running ≡ Some run → CarriesChunk m cl.phase cl.message
  unfolding fits
  carried_there g n v i e cl run m newer rs split casts same closes running = by e there closes (rows_there n v g i e (records_of h) steady safe.seen there).0 carries (fit g n v i e there)
    where
      there : Has (happened.Put n v g i e) (records_of h)
      there = subst (Has (happened.Put n v g i e)) (sym split) (append_has_right (happened.Put n v g i e) newer (happened.Put n v g i e ∷ rs) (inl refl))

      carries : EntryCarries rs e
      carries = (every_after PutCarries newer (happened.Put n v g i e ∷ rs) (subst (Every PutCarries) split (every_of PutCarries RecordCarries put_carries h safe.carried))).0

      of : (e : Entry) (x : Closed) → x ≡ cl → Has (happened.Put n v g i e) (records_of h) → AreOfVoters (state_at n v g i (records_of h)) x.rows → Gives the_message rs x x.message → runs x.proto x.phase (state_at n v g i (records_of h)).running ≡ true → CarriesChunk m cl.phase cl.message
      of e x is put rows gives its = subst (λ (z : Closed). CarriesChunk m z.phase z.message) is (closing g n v i e x run m rs casts same put running rows gives its)

      by : (e : Entry) → Has (happened.Put n v g i e) (records_of h) → closed_in e ≡ Some cl → HasRows (state_at n v g i (records_of h)) e → EntryCarries rs e → fits (state_at n v g i (records_of h)) e ≡ true → CarriesChunk m cl.phase cl.message
      by (Once x) put closes rows k fit = absurd (cc)
      by (Begin x) put closes rows k fit = absurd (cc)
      by (Phase x) put closes rows k fit =
          of (Phase x) x (some_closed x cl closes) put rows k.1 (and_parts (runs x.proto x.phase (state_at n v g i (records_of h)).running) (nat_lt x.phase max_phases) fit).0
      by (Approve x) put closes rows k fit = of (Approve x) x (some_closed x cl closes) put rows k.1 fit
      by (Reject x) put closes rows k fit = of (Reject x) x (some_closed x cl closes) put rows k.1 fit
      by (Late proto phase ps) put closes rows k fit = absurd (cc)

pub the_present_asked : ThePresentAsked
the_present_asked c es may g n v i p (e, put) there =
    let old = sym (trace_is c es may) in
    let k = asked_before c es may g n v i e p (subst (Has (happened.Put n v g i e)) old put) (subst (λ (rs : List Happened). Has p (present (state_at n v g i rs))) old there) in
    subst (λ (rs : List Happened). AskedToJoin rs g p) (trace_is c es may) k

pub chunks_are_carried : ChunksAreCarried
chunks_are_carried c es may g n v i e cl run m newer older split casts closes running here =
    let old = sym (trace_is c es may) in
    let same : (k : Pairs) → MapIs (records_of (history_in c es)) g run.proto.view (run.proto.place + 1) k → k ≡ m = λ k at. maps_are_one c es may g run.proto.view (run.proto.place + 1) k m (subst (λ (rs : List Happened). MapIs rs g run.proto.view (run.proto.place + 1) k) (trace_is c es may) at) here in
    carried_there c es may g n v i e cl run m newer older (trace_is c es may ∙ split) (subst (λ (rs : List Happened). CastsAreChunks rs older) old casts) same closes (subst (λ (rs : List Happened). (state_at n v g i rs).running ≡ Some run) old running)
