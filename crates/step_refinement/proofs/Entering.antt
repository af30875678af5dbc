-- A member enters a view by its install: what its old list lacks is put, then it is in, and all rows start anew from the
-- bases.
use Rattle.std.proofs.Common.{◌≡◌, ◌≢◌, ◌⊎◌, ◌≤◌, ℕ, ◌+◌, suc, List, [], ◌∷◌, ◌++◌, length, take, drop, Option, Some, None, Bool, true, false, refl, sym, ap, ◌∙◌, subst, inl, inr, ⊎_elim, append_assoc, length-append, arith}
use Rattle.std.specs.Prelude.{not, ◌==◌, ◌&&◌, reverse, map, find, slice_get, if◌then◌else◌}
use Rattle.std.specs.Option.{option_map}
use Rattle.std.proofs.lemmas.Bool.{eqb-true, eq-eqb}
use Rattle.std.proofs.lemmas.List.{drop_all}
use Rattle.rsct_packet.specs.declared.ids.ViewId.{ViewId}
use Rattle.rsct_packet.specs.declared.ids.Member.{Member}
use Rattle.rsct_packet.specs.declared.ids.ProviderId.{ProviderId}
use Rattle.rsct_packet.specs.Ids.{same_view}
use Rattle.rsct_packet.specs.Search.{Has}
use Rattle.rsct_packet.proofs.HasLaws.{find_has, has_map, append_has_right, append_has_left, has_append}
use Rattle.rsct_packet.specs.Providers as providers
use Rattle.proposal_core.specs.declared.entry.Entry.{Entry}
use Rattle.proposal_core.specs.declared.proposal.Proposal.{Proposal}
use Rattle.proposal_core.specs.declared.group_state.GroupState.{GroupState}
use Rattle.proposal_core.specs.GroupView.{new_list}
use Rattle.session_state.specs.declared.state.Request.{Request}
use Rattle.session_state.specs.declared.state.SessionState.{SessionState}
use Rattle.session_state.specs.HandOn.{hearers}
use Rattle.view_state.specs.declared.install.Source.{Source}
use Rattle.view_state.specs.declared.install.Install.{Install}
use Rattle.view_state.specs.declared.install.Base.{Base}
use Rattle.view_exchange.specs.Longest.{NamesDiffer}
use Rattle.view_bases.proofs.CutLaws.{fit_ends}
use Rattle.view_state.specs.Bases.{source_at, parts_in, parts_from, bases_of, base_named}
use Rattle.view_state.specs.declared.views.Views.{Views}
use Rattle.view_state.specs.Views.{own_install, views_entered}
use Rattle.node_state.specs.declared.happened.Happened.{Happened}
use Rattle.node_state.specs.declared.happened.Happened.TheVariants as happened
use Rattle.node_state.specs.declared.packet.Packet.{Packet}
use Rattle.node_state.specs.declared.group.GroupRow.{GroupRow}
use Rattle.node_state.specs.declared.group.Led.{Led}
use Rattle.node_state.specs.declared.state.Core.{Core}
use Rattle.node_state.specs.declared.config.Config.{Config}
use Rattle.node_state.specs.Settings.{is_fixed}
use Rattle.node_state.specs.State.{nothing_led, row_found, row_of, list_of, acked_from, decision_of, recorded_all, has_name}
use Rattle.node_state.specs.HandOn.{Answering}
use Rattle.node_state.specs.Applying.{Lacking, lacking_in, lacking, fill_lists, level_set, base_row, base_leader, base_record, view_entered}
use Rattle.run_safety.specs.ViewOrder.{Lt, Le}
use Rattle.run_safety.specs.Past.{earlier, view_now, fold_from, records_of}
use Rattle.run_safety.specs.Sight.{inc_in, lines_with, lines_of}
use Rattle.run_safety.specs.Group.{member, Standing, Origin, Record, In, Put, Note, Based, Heard, Asked, Told, Line, Kept, Noted, kept, lines_from, puts_from}
use Rattle.run_safety.specs.Group as group
use Rattle.run_safety.specs.GroupLists.{puts_of}
use Rattle.run_safety.specs.Bases.{Bases, base_state, state_of_list}
use Rattle.run_safety.specs.Moves.{Leads, Opening, Life, based}
use Rattle.run_safety.proofs.Order.{lt_trans, lt_le}
use Rattle.run_safety.proofs.Parts.{Entered}
use Rattle.run_safety.proofs.Lines.{kept_lines, kept_based, has_lines, note_lines, note_based}
use Rattle.run_safety.proofs.SightLaws.{kept_append}
use Rattle.run_safety.proofs.Tracks.{puts_many_own, put_many, has_many}
use Rattle.run_safety.proofs.Whole.{Whole}
use Rattle.run_safety.proofs.Lives.{whole, always_same_members}
use Rattle.step_refinement.specs.Ghost.{Ghost, FitIn, Lives, Seen, Goes, Keeps, CarriesIf, part_of, origin_of, BaseIsOf, Installs, InstallsIf}
use Rattle.step_refinement.specs.Tied.{Shows, RowIs, Owed, Owes, LeaderKeeps, Names, Closed, NodeOf, NodeIsIf, ShowsLeader, Scene, Sound, Placed, opening_of, lines_now, InTurn, Turns}
use Rattle.step_refinement.specs.Rules.{at_node}
use Rattle.step_refinement.proofs.Goes.{Spares, Still, Settled, still_spares, sound_on, node_if_on}
use Rattle.step_refinement.proofs.Changed.{set_here, set_there, incs_set}
use Rattle.step_refinement.proofs.Begins.{number_other}
use Rattle.step_refinement.proofs.Works.{lines_pushed, now_pushed}
use Rattle.step_refinement.proofs.ViewRules.{same_of}
use Rattle.step_refinement.proofs.RowWorks.{keeps_of}
use Rattle.step_refinement.proofs.SessionLaws.{Later, later_same, owes_later, hearer_has}
use Rattle.step_refinement.proofs.Arrived.{now_bases, Arrived}
use Rattle.step_refinement.proofs.BaseOrder.{bases_ordered, row_of_base, lines_of_bases}
use Rattle.step_refinement.proofs.Sprinkled.{Sprinkled, Hearing, kept_sprinkled, has_sprinkled, had_sprinkled, sprinkled_on, sprinkled_lives}
use Rattle.step_refinement.proofs.Fills.{collected, HeardIn, Fills, fills_all, nothing_filled, lacking_is, lacking_fits}
use Rattle.step_refinement.proofs.Turns.{turn_on, sent_on_more}

-- ---- lists that are put

put_there : (n : ℕ) (v : ViewId) (front rest : List Entry) (e : Entry) (i : ℕ) (tr : List Record) → Has (Put n v (i + length front) e) (puts_from n v i (front ++ e ∷ rest) tr)
put_there n v [] rest e i tr =
    let q : i + 0 ≡ i = omega arith in
    subst (λ k. Has (Put n v k e) (puts_from n v (i + 1) rest (Put n v i e ∷ tr))) (sym q) (has_many (Put n v i e) n v (i + 1) rest (Put n v i e ∷ tr) (inl refl))
put_there n v (x ∷ front) rest e i tr =
    let q : (i + 1) + length front ≡ i + suc (length front) = omega arith in
    subst (λ k. Has (Put n v k e) (puts_from n v (i + 1) (front ++ e ∷ rest) (Put n v i x ∷ tr))) q (put_there n v front rest e (i + 1) (Put n v i x ∷ tr))

put_new : (n : ℕ) (u v : ViewId) (k : ℕ) (e : Entry) (i : ℕ) (es : List Entry) (tr : List Record) → Has (Put n u k e) (puts_from n v i es tr) → Has (Put n u k e) tr ⊎ Has e es
put_new n u v k e i [] tr h = inl h
put_new n u v k e i (x ∷ es) tr h = at (put_new n u v k e (i + 1) es (Put n v i x ∷ tr) h)
  where
    at : Has (Put n u k e) (Put n v i x ∷ tr) ⊎ Has e es → Has (Put n u k e) tr ⊎ Has e (x ∷ es)
    at (inl (inl q)) = let same : e ≡ x = cc in inr (inl same)
    at (inl (inr j)) = inl j
    at (inr j) = inr (inr j)

take_front : (xs rest : List Entry) (e : Entry) → take (length xs + 1) (xs ++ e ∷ rest) ≡ xs ++ e ∷ []
take_front [] rest e = refl
take_front (x ∷ xs) rest e =
    let q : suc (length xs) + 1 ≡ suc (length xs + 1) = omega arith in
    ap (λ k. take k (x ∷ xs ++ e ∷ rest)) q ∙ ap (λ l. x ∷ l) (take_front xs rest e)

-- the incarnation in which a node is a member, where each is one in one incarnation
inc_is : (n : ℕ) (ms : List Member) (j : ℕ) → Has (member n j) ms → Has (member n (inc_in n ms)) ms
inc_is n [] j h = absurd h
inc_is n (m ∷ ms) j h = by (m.node == n) refl h (inc_is n ms j)
  where
    by : (b : Bool) → (m.node == n) ≡ b → Has (member n j) (m ∷ ms) → (Has (member n j) ms → Has (member n (inc_in n ms)) ms) → Has (member n (if b then m.inc else inc_in n ms)) (m ∷ ms)
    by true q h rest = let e : m.node ≡ n = eqb-true m.node n q in inl (λ i. member (sym e i) m.inc)
    by false q (inl e) rest = absurd (let k : (m.node == n) ≡ true = eq-eqb m.node n (ap (λ (z : Member). z.node) (sym e)) in cc)
    by false q (inr k) rest = inr (rest k)

based_append : (n : ℕ) (v : ViewId) (b : Option Origin) (l : Line) (all : List Line) → based n v b (l ∷ all) ≡ based n v b (l ∷ []) ++ all
based_append n v None l all = refl
based_append n v (Some b) l all = refl

-- a node that is about to enter a view: all that is tied, but for what it sends
pub record Leaving (g : List ℕ) (w : Scene) (n : ℕ) (s : Core) : Type 0 where
  pub ghost : Ghost
  pub life : Lives (opening_of w.config) ghost
  pub lines : ghost.all ≡ lines_now g w s
  pub own : NodeIsIf w.config ghost g n (w.incs n) (Some s)
  pub others : (m : ℕ) → m ≢ n → NodeIsIf w.config ghost g m (w.incs m) (w.cores m)
  pub sound : Sound g ghost
  pub placed : Placed w n s
  pub nobody : w.incs 0 ≡ 0
  pub turns : Turns w n s.views.view s.records s.sessions ghost.ps

-- the move by which it enters, with the sources of the view
pub record Move (x : Ghost) (o : Opening) (g : List ℕ) (n inc : ℕ) (old : ViewId) (i : Install) : Type 0 where
  pub whole : ViewId → List Entry
  pub ps : List group.Packet
  pub leads : Leads
  pub bases : Bases
  pub life : Life o (at_node x.nodes n (record { inc = inc; view = i.view; promise = i.view; list = [] })) ps (based n i.view (bases i.view) (Kept (In n inc i.view i.members) ∷ lines_from n old (length (x.nodes n).list) (drop (length (x.nodes n).list) (whole old)) x.all)) leads bases
  pub sent : Has (group.Install i.view i.members whole) ps
  pub more : (p : group.Packet) → Has p x.ps → Has p ps
  pub refusals : (v : ViewId) (p : ProviderId) (r : ℕ) → Has (group.Refusal v p r) ps → Has (group.Refusal v p r) x.ps
  pub stables : (v : ViewId) (k : ℕ) → Has (group.Stable v k) ps → Has (group.Stable v k) x.ps
  pub requests : (v : ViewId) (p : ProviderId) (r : ℕ) (a : Proposal) → Has (group.Request v p r a) ps → Has (group.Request v p r a) x.ps
  pub leads_on : (v : ViewId) (l : Member) → x.leads v ≡ Some l → leads v ≡ Some l
  pub leads_same : (v : ViewId) → Settled x v → leads v ≡ x.leads v
  pub bases_same : (v : ViewId) → Seen x v → bases v ≡ x.bases v
  pub rest : (v : ViewId) → source_at i.sources v ≡ None → whole v ≡ []
  pub parts : (y : Source) → Has y i.sources → CarriesIf x y.view (whole y.view) (part_of g y.parts)
  pub differ : (y : Source) → Has y i.sources → NamesDiffer y.parts
  pub base : BaseIsOf (record x { leads = leads; bases = bases }) i.view i.members (base_named (bases_of i) g)
  pub names : (fixed : Bool) → Names (record x { leads = leads; bases = bases }) g fixed n inc i.view i.members (map base_leader (bases_of i))
  pub unrefused : leads i.view ≡ Some (member n inc) → (p : ProviderId) (r : ℕ) → Has (group.Refusal i.view p r) x.ps → ⊥

-- what stands after it
pub record After (x y : Ghost) (v : ViewId) (ps : List group.Packet) (leads : Leads) (bases : Bases) : Type 0 where
  pub goes : Goes x y
  pub packets : y.ps ≡ ps
  pub leaders : y.leads ≡ leads
  pub origins : y.bases ≡ bases
  pub entered : Seen y v

module _ (g : List ℕ) (w : Scene) (n : ℕ) (f : Answering) (s : Core) (t : Leaving g w n s) (free : is_fixed w.config.mode ≡ false) (i : Install) (xs : List Lacking) (move : Move t.ghost (opening_of w.config) g n s.views.inc s.views.view i) (installs : (y : Ghost) → After t.ghost y i.view move.ps move.leads move.bases → Installs y g i) (shown : (y : Ghost) → After t.ghost y i.view move.ps move.leads move.bases → (p : Packet) → Has p (s.sends ++ w.sent) → Shows y g p) (lt : Lt s.views.view i.view) (among : Has (member n s.views.inc) i.members) (lacks : lacking s i ≡ Some xs) where
  abbrev x : Ghost
  x = t.ghost

  abbrev c : Core
  c = fill_lists f s xs

  abbrev bs : List Base
  bs = bases_of i

  abbrev full : List Entry
  full = (x.nodes n).list

  abbrev es : List Entry
  es = drop (length full) (move.whole s.views.view)

  k : Whole (opening_of w.config) x.nodes x.ps x.all x.leads x.bases
  k = whole t.life

  keeps : Keeps x s.views.view full (list_of s g)
  unfolding list_of
  keeps = keeps_of x s.views.view full (row_of s g).list t.own.0.row_is.list

  hears : (q : ProviderId) → (y : SessionState) → Later s.sessions y → (b : GroupState) (h : List ℕ) (e : Entry) → Has q (hearers y h b e) → q.node ≡ n
  hears q y l b h e j =
      let a = hearer_has y h b e q j in
      let d = l.providers a.0 a.1 in
      ap (λ (z : ProviderId). z.node) (sym a.2 ∙ d.2) ∙ (t.own.0.owes.providers d.0 d.1).0

  -- what the list lacks is the rest of the whole one
  lacks_rest : collected g xs ≡ es
  unfolding lacking lacking_in parts_from source_at
  lacks_rest = by (source_at i.sources s.views.view) refl lacks
    where
      by : (o : Option Source) → source_at i.sources s.views.view ≡ o → lacking_in s (parts_in o) ≡ Some xs → collected g xs ≡ es
      by None q e =
          let bare : move.whole s.views.view ≡ [] = move.rest s.views.view q in
          let z : xs ≡ [] = nothing e in
          let short : length (move.whole s.views.view) ≤ length full = let y = ap length bare in omega arith in
          ap (collected g) z ∙ sym (drop_all (length full) (move.whole s.views.view) short)
        where
          nothing : lacking_in s [] ≡ Some xs → xs ≡ []
          nothing e = cc
      by (Some src) q e =
          let h = find_has (λ (y : Source). same_view y.view s.views.view) i.sources src q in
          let v : src.view ≡ s.views.view = same_of src.view s.views.view h.1 in
          lacking_is x g full (move.whole s.views.view) s src.parts xs (move.differ src h.0) keeps (subst (λ z. CarriesIf x z (move.whole z) (part_of g src.parts)) v (move.parts src h.0)) e

  -- what it lacks was tried at its end
  fits : FitIn x s.views.view (full ++ collected g xs)
  unfolding lacking lacking_in parts_from source_at
  fits = by (source_at i.sources s.views.view) refl lacks
    where
      by : (o : Option Source) → source_at i.sources s.views.view ≡ o → lacking_in s (parts_in o) ≡ Some xs → FitIn x s.views.view (full ++ collected g xs)
      by None q e = lacking_fits x g full s [] xs tt keeps e
      by (Some src) q e =
          let h = find_has (λ (y : Source). same_view y.view s.views.view) i.sources src q in
          lacking_fits x g full s src.parts xs (move.differ src h.0) keeps e

  fills : Fills g w n x s es c
  fills =
      subst (λ z. Fills g w n x s z c) lacks_rest (fills_all g w n x s t.own.0.stands.me (λ q h. (t.own.0.owes.own q h).0) hears f xs [] s fits (nothing_filled g w n x s t.own.0.order keeps (later_same s.sessions) (sym t.lines) t.turns.own))

  -- the node as it stands
  abbrev now : Standing
  now = record { inc = s.views.inc; view = i.view; promise = i.view; list = [] }

  abbrev nodes : ℕ → Standing
  nodes = at_node x.nodes n now

  abbrev front : List Line
  front = based n i.view (move.bases i.view) (Kept (In n s.views.inc i.view i.members) ∷ [])

  abbrev filled : List Line
  filled = lines_from n s.views.view (length full) es x.all

  abbrev tr : List Record
  tr = kept (front ++ filled)

  abbrev y : Ghost
  y = record { nodes = nodes; ps = move.ps; all = front ++ fills.lines; leads = move.leads; bases = move.bases; asks = x.asks; shut = x.shut; asked = x.asked }

  lives_bare : Lives (opening_of w.config) (record { nodes = nodes; ps = move.ps; all = front ++ filled; leads = move.leads; bases = move.bases; asks = x.asks; shut = x.shut; asked = x.asked })
  lives_bare =
      subst (λ z. Lives (opening_of w.config) (record { nodes = nodes; ps = move.ps; all = z; leads = move.leads; bases = move.bases; asks = x.asks; shut = x.shut; asked = x.asked })) (based_append n i.view (move.bases i.view) (Kept (In n s.views.inc i.view i.members)) filled) move.life

  kept_tr : tr ≡ In n s.views.inc i.view i.members ∷ puts_from n s.views.view (length full) es (kept x.all)
  kept_tr =
      ap kept (sym (based_append n i.view (move.bases i.view) (Kept (In n s.views.inc i.view i.members)) filled)) ∙ kept_based n i.view (move.bases i.view) (Kept (In n s.views.inc i.view i.members) ∷ filled) ∙ ap (λ z. In n s.views.inc i.view i.members ∷ z) (kept_lines n s.views.view (length full) es x.all)

  puts_tr : puts_of n s.views.view tr ≡ full ++ es
  puts_tr =
      ap (puts_of n s.views.view) kept_tr ∙ puts_many_own n s.views.view (length full) es (kept x.all) ∙ ap (λ z. z ++ es) (ap (λ v. puts_of n v (kept x.all)) (sym t.own.0.stands.view) ∙ (k.good.past.seated n).list)

  hearing : (a : Note) → HeardIn g w n x s es a → Hearing move.bases tr a
  hearing a h =
      record {
        provider = h.provider;
        v = s.views.view;
        i = length full + length h.front;
        e = h.e;
        s = h.state;
        is = h.is;
        put = subst (λ z. Has (Put z s.views.view (length full + length h.front) h.e) tr) (sym h.own) (subst (Has (Put n s.views.view (length full + length h.front) h.e)) (sym kept_tr) (inr (subst (λ z. Has (Put n s.views.view (length full + length h.front) h.e) (puts_from n s.views.view (length full) z (kept x.all))) (sym h.split) (put_there n s.views.view h.front h.rest h.e (length full) (kept x.all)))));
        state = h.state_is ∙ ap (state_of_list x.bases s.views.view) (sym taken) ∙ ap (λ b. fold_from s.views.view (base_state b) 0 (take (length full + length h.front + 1) (puts_of h.provider.node s.views.view tr))) (sym (move.bases_same s.views.view (n, s.views.inc, s.views.members, t.own.0.stands.seated)));
      }
    where
      taken : take (length full + length h.front + 1) (puts_of h.provider.node s.views.view tr) ≡ full ++ (h.front ++ h.e ∷ [])
      taken =
          let a : puts_of h.provider.node s.views.view tr ≡ full ++ es = ap (λ m. puts_of m s.views.view tr) h.own ∙ puts_tr in
          let b : full ++ es ≡ (full ++ h.front) ++ h.e ∷ h.rest = ap (λ z. full ++ z) h.split ∙ sym (append_assoc full h.front (h.e ∷ h.rest)) in
          let d : length full + length h.front ≡ length (full ++ h.front) = sym (length-append full h.front) in
          (λ j. take (d j + 1) ((a ∙ b) j)) ∙ take_front (full ++ h.front) h.rest h.e ∙ append_assoc full h.front (h.e ∷ [])

  among_lines : Sprinkled (Hearing move.bases tr) filled fills.lines
  among_lines = sprinkled_on (HeardIn g w n x s es) (Hearing move.bases tr) hearing filled fills.lines fills.among

  lives : Lives (opening_of w.config) y
  lives =
      sprinkled_lives (opening_of w.config) nodes move.ps move.leads move.bases tr front filled fills.lines among_lines refl lives_bare

  -- ---- the lines

  kept_y : kept y.all ≡ tr
  kept_y =
      kept_append front fills.lines ∙ ap (λ z. kept front ++ z) (kept_sprinkled (HeardIn g w n x s es) filled fills.lines fills.among) ∙ sym (kept_append front filled)

  inc_there : inc_in n i.members ≡ s.views.inc
  inc_there =
      ((whole lives_bare).good.past.made i.view i.members move.whole move.sent).single n (inc_in n i.members) s.views.inc (inc_is n i.members s.views.inc among) among

  base_there : move.bases i.view ≡ option_map origin_of (base_named bs g)
  base_there = by (base_named bs g) move.base
    where
      by : (o : Option Base) → BaseIsOf (record x { leads = move.leads; bases = move.bases }) i.view i.members o → move.bases i.view ≡ option_map origin_of o
      by None h = h
      by (Some b) h = h.0

  me_is : c.views.me ≡ n
  me_is = ap (λ (z : Views). z.me) fills.views ∙ t.own.0.stands.me

  lines : y.all ≡ lines_now g w (view_entered c i bs)
  unfolding view_entered recorded_all base_record views_entered
  lines =
      let entering : Happened = happened.In c.views.me i.view i.members in
      let a = lines_of_bases g c.views.me i.view bs (c.records ++ entering ∷ []) w.before (lines_of g w.before) (bases_ordered i) in
      let b : lines_with g (reverse (c.records ++ entering ∷ [])) w.before (lines_of g w.before) ≡ Kept (In c.views.me (inc_in c.views.me i.members) i.view i.members) ∷ lines_now g w c = lines_pushed g c.records entering w.before (lines_of g w.before) in
      let d : (c.records ++ entering ∷ []) ++ map (base_record (view_entered c i bs)) bs ≡ c.records ++ entering ∷ map (base_record (view_entered c i bs)) bs = append_assoc c.records (entering ∷ []) (map (base_record (view_entered c i bs)) bs) in
      sym (based_append n i.view (move.bases i.view) (Kept (In n s.views.inc i.view i.members)) fills.lines) ∙ (λ j. based n i.view (base_there j) (Kept (In n (sym inc_there j) i.view i.members) ∷ sym fills.is j)) ∙ (λ j. based (sym me_is j) i.view (option_map origin_of (base_named bs g)) (Kept (In (sym me_is j) (inc_in (sym me_is j) i.members) i.view i.members) ∷ lines_now g w c)) ∙ ap (based c.views.me i.view (option_map origin_of (base_named bs g))) (sym b) ∙ sym a ∙ ap (λ z. lines_with g (reverse z) w.before (lines_of g w.before)) d

  -- ---- what goes on

  has_front : (l : Line) → Has l fills.lines → Has l y.all
  has_front l h = append_has_right l front fills.lines h

  goes : Goes x y
  goes =
      record {
        packets = move.more;
        records = λ r h. subst (Has r) (sym (kept_y ∙ kept_tr)) (inr (has_many r n s.views.view (length full) es (kept x.all) h));
        lines = λ l h. has_front l (has_sprinkled (HeardIn g w n x s es) l filled fills.lines fills.among (has_lines l n s.views.view (length full) es x.all h));
        leads = move.leads_on;
        bases = move.bases_same;
        asks = refl;
        shut = λ v h. h;
        asked = λ a h. h;
      }

  entry : Has (In n s.views.inc i.view i.members) (kept y.all)
  entry = subst (Has (In n s.views.inc i.view i.members)) (sym (kept_y ∙ kept_tr)) (inl refl)

  after : After x y i.view move.ps move.leads move.bases
  after =
      record { goes = goes; packets = refl; leaders = refl; origins = refl; entered = (n, s.views.inc, i.members, entry) }

  put_only : (m : ℕ) (u : ViewId) (j : ℕ) (e : Entry) → Has (Put m u j e) (kept y.all) → Has (Put m u j e) (puts_from n s.views.view (length full) es (kept x.all))
  put_only m u j e h = at (subst (Has (Put m u j e)) (kept_y ∙ kept_tr) h)
    where
      at : Has (Put m u j e) (In n s.views.inc i.view i.members ∷ puts_from n s.views.view (length full) es (kept x.all)) → Has (Put m u j e) (puts_from n s.views.view (length full) es (kept x.all))
      at (inl q) = absurd (cc)
      at (inr z) = z

  told_only : (p : ProviderId) (r : ℕ) (u : ViewId) → Has (Noted (Told p r u)) y.all → Has (Noted (Told p r u)) x.all
  told_only p r u h = at (note_based (Told p r u) n i.view (move.bases i.view) (Kept (In n s.views.inc i.view i.members) ∷ fills.lines) (subst (Has (Noted (Told p r u))) (sym (based_append n i.view (move.bases i.view) (Kept (In n s.views.inc i.view i.members)) fills.lines)) h))
    where
      apart : (a : Note) → HeardIn g w n x s es a → Noted (Told p r u) ≡ Noted a → ⊥
      apart a h q = let z : Noted (Told p r u) ≡ Noted (Heard h.provider s.views.view (length full + length h.front) h.e h.state.members h.state.value) = q ∙ ap (λ k. Noted k) h.is in cc

      at : ((b : Origin) × (move.bases i.view ≡ Some b) × (Told p r u ≡ Based n i.view b)) ⊎ Has (Noted (Told p r u)) (Kept (In n s.views.inc i.view i.members) ∷ fills.lines) → Has (Noted (Told p r u)) x.all
      at (inl q) = absurd (let z = q.2 in cc)
      at (inr (inl q)) = absurd (cc)
      at (inr (inr h)) = note_lines (Told p r u) n s.views.view (length full) es x.all (had_sprinkled (HeardIn g w n x s es) (Noted (Told p r u)) apart filled fills.lines fills.among h)

  asked_only : (p : ProviderId) (r : ℕ) (q : Proposal) → Has (Noted (Asked p r q)) y.all → Has (Noted (Asked p r q)) x.all
  asked_only p r q h = at (note_based (Asked p r q) n i.view (move.bases i.view) (Kept (In n s.views.inc i.view i.members) ∷ fills.lines) (subst (Has (Noted (Asked p r q))) (sym (based_append n i.view (move.bases i.view) (Kept (In n s.views.inc i.view i.members)) fills.lines)) h))
    where
      apart : (a : Note) → HeardIn g w n x s es a → Noted (Asked p r q) ≡ Noted a → ⊥
      apart a h e = let z : Noted (Asked p r q) ≡ Noted (Heard h.provider s.views.view (length full + length h.front) h.e h.state.members h.state.value) = e ∙ ap (λ k. Noted k) h.is in cc

      at : ((b : Origin) × (move.bases i.view ≡ Some b) × (Asked p r q ≡ Based n i.view b)) ⊎ Has (Noted (Asked p r q)) (Kept (In n s.views.inc i.view i.members) ∷ fills.lines) → Has (Noted (Asked p r q)) x.all
      at (inl e) = absurd (let z = e.2 in cc)
      at (inr (inl e)) = absurd (cc)
      at (inr (inr h)) = note_lines (Asked p r q) n s.views.view (length full) es x.all (had_sprinkled (HeardIn g w n x s es) (Noted (Asked p r q)) apart filled fills.lines fills.among h)

  asked : x.asks ≡ true
  asked = t.own.0.asks ∙ ap (λ (z : Config). not (is_fixed z.mode)) t.own.1 ∙ ap not free

  still : Still x y
  still =
      record {
        goes = goes;
        leads = move.leads_same;
        refusals = move.refusals;
        stables = move.stables;
        shut = λ v h. h;
        asked = λ a h. h;
        asks = asked_only;
        told = λ p r u h. inl (told_only p r u h);
        incs = λ m. incs_set x.nodes n now (let q = t.own.0.stands.inc in omega arith) m;
        closed = λ v s c. absurd (let a = c.asks_not in let b = asked in cc);
      }

  spares : (m : ℕ) → m ≢ n → Spares x y m
  spares m ne =
      still_spares x y still m (ap (λ (z : Standing). z.list) (set_there x.nodes n now m ne)) (λ u j e h. ⊎_elim (λ (a : Has (Put m u j e) (kept x.all)). a) (λ (b : (n ≡ m) × (s.views.view ≡ u)). absurd (ne (sym b.0))) (put_many m n u s.views.view j e (length full) es (kept x.all) (put_only m u j e h))) (λ p r u e h. told_only p r u h)

  -- ---- the node

  here : nodes n ≡ now
  here = set_here x.nodes n now

  -- nothing is stable in the view yet
  unstable : (c : ℕ) → Has (group.Stable i.view c) move.ps → c ≤ 0
  unstable c h =
      let W : Whole (opening_of w.config) nodes move.ps y.all move.leads move.bases = whole lives in
      let st = W.stable.stable i.view c h in
      let same = always_same_members (opening_of w.config) nodes move.ps y.all move.leads move.bases lives n st.0 s.views.inc st.1 i.view i.members st.2 entry st.3 in
      let most = st.4 n s.views.inc (subst (Has (member n s.views.inc)) same.0 same.1) in
      let none : puts_of n i.view (kept y.all) ≡ [] = ap (λ (z : Standing). puts_of n z.view (kept y.all)) (sym here) ∙ (W.good.past.seated n).list ∙ ap (λ (z : Standing). z.list) here in
      let zero : length (puts_of n i.view (kept y.all)) ≡ 0 = ap (λ (l : List Entry). length l) none in omega arith

  row_new : (o : Option Base) → BaseIsOf (record x { leads = move.leads; bases = move.bases }) i.view i.members o → RowIs y n i.view i.members (row_found g (option_map base_row o))
  unfolding base_row acked_from
  row_new None h =
      record { list = (ap (λ (z : Standing). z.list) here, h); stable = inl refl; leader = tt; acked = λ m j a. inl refl; covers = λ j c q h b l a ne. let z = unstable c h in omega arith }
  row_new (Some b) h =
      record {
        list = subst (λ z. Keeps y i.view z (new_list b.state)) (sym (ap (λ (z : Standing). z.list) here)) (record { starts = z_le; len = refl; entries = refl; state = ap base_state (sym h.0); bytes = refl; fits = fit_ends i.view (new_list (base_state (y.bases i.view))) });
        stable = inl refl;
        leader = (h.1.0, h.1.1, h.1.2);
        acked = λ m j a. inl refl;
        covers = λ j c q h b l a ne. let z = unstable c h in omega arith;
      }
    where
      z_le : 0 ≤ 0
      z_le = omega arith

  led_new : (o : Option Base) → (row_found g (option_map base_row o)).led ≡ nothing_led
  unfolding base_row
  led_new None = refl
  led_new (Some b) = refl

  decides_new : LeaderKeeps y n s.views.inc i.view nothing_led
  unfolding decision_of
  decides_new =
      record {
        refused = λ p r q c h. absurd (move.unrefused q p r (move.refusals i.view p r h));
        begun = λ p r j e q h. absurd (empty (y.nodes n).list (ap (λ (z : Standing). z.list) here) j e h);
        waiting = λ p q h. absurd (cc);
        later = λ u l q p r h. let j = move.refusals u p r h in t.own.0.decides.later u (lt_trans s.views.view i.view u lt l) (sym (move.leads_same u (inr (p, r, j))) ∙ q) p r j;
        again = λ p d why q r. absurd (cc);
        leads_it = λ p h. absurd (cc);
        apart = refl;
        lasts = λ p d h. absurd (cc);
      }
    where
      empty : (l : List Entry) → l ≡ [] → (j : ℕ) (e : Entry) → slice_get l j ≡ Some e → ⊥
      empty [] q j e h = cc
      empty (d ∷ l) q j e h = cc

  owed_new : (q : Request) → Has q c.sessions.requests → q.group ≡ g → Owed y n s.views.inc q
  owed_new q h same =
      let o = t.own.0.owes.requests q (fills.later.requests q h) same in
      record {
        node = o.node;
        inc_of = o.inc_of;
        asked = goes.lines (Noted (Asked q.provider q.request q.proposal)) o.asked;
        unput = λ u j e a b. ⊎_elim (λ (d : Has (Put n u j e) (kept x.all)). o.unput u j e d b) (λ (d : Has e es). fills.gone q e h d b) (put_new n u s.views.view j e (length full) es (kept x.all) (put_only n u j e a));
        untold = λ u a. o.untold u (told_only q.provider q.request u a);
      }

  owes_new : Owes y g n s.views.inc (level_set c i.members)
  unfolding level_set
  owes_new =
      let less = owes_later x g n s.views.inc s.sessions c.sessions fills.later t.own.0.owes in
      record { me = less.me; inc_of = less.inc_of; providers = less.providers; own = less.own; requests = owed_new; attended = less.attended; given = less.given }

  -- where views are asked for, a view with a leader is not shut to the group
  unshut : y.leads i.view ≡ Some (member n s.views.inc) → Has i.view y.shut → ⊥
  unshut q h = by ((sound_on x y still g t.sound).shut i.view h).1
    where
      by : (y.leads i.view ≡ None) ⊎ Closed y.nodes y.leads y.asks i.view → ⊥
      by (inl e) = let z : None ≡ Some (member n s.views.inc) = sym e ∙ q in cc
      by (inr c) = let a : true ≡ false = sym asked ∙ c.asks_not in cc

  node_new : (fixed : Bool) → x.asks ≡ not fixed → (fixed ≡ true → ShowsLeader y i.view i.view.coord) → NodeOf y g n fixed (views_entered s.views i) (row_found g (option_map base_row (base_named bs g))) (map base_row bs) (level_set c i.members) (map base_leader bs)
  unfolding views_entered own_install base_row
  node_new fixed asks led =
      record {
        stands = record {
          me = t.own.0.stands.me;
          up = t.own.0.stands.up;
          inc = ap (λ (z : Standing). z.inc) here;
          view = ap (λ (z : Standing). z.view) here;
          promise = ap (λ (z : Standing). z.promise) here;
          seated = entry;
        };
        row_is = row_new (base_named bs g) move.base;
        order = bases_ordered i;
        gathering = λ a. refl;
        install = kept_install (i.view.coord == s.views.me && i.view.inc == s.views.inc);
        owes = owes_new;
        decides = subst (LeaderKeeps y n s.views.inc i.view) (sym (led_new (base_named bs g))) decides_new;
        names = record { named = (move.names fixed).named; unnamed = (move.names fixed).unnamed; full = (move.names fixed).full };
        asks = asks;
        led = led;
        waits = λ k p e. absurd (base_waits k p (find (has_name k) (map base_row bs)) refl e);
        idles = record {
          few = λ q e. absurd (let a : x.asks ≡ true = asked in let b : not fixed ≡ true = sym asks ∙ a in let d : not true ≡ true = ap not (sym q) ∙ b in cc);
          shut = λ q h. absurd (unshut q h);
        };
      }
    where
      unwaited : (k : List ℕ) (bs : List Base) (row : GroupRow) → find (has_name k) (map base_row bs) ≡ Some row → row.led ≡ nothing_led
      unwaited k bs row e =
          let h = find_has (has_name k) (map base_row bs) row e in
          let b = has_map base_row row bs h.0 in ap (λ (z : GroupRow). z.led) b.2

      base_waits : (k : List ℕ) (p : ProviderId) (o : Option GroupRow) → find (has_name k) (map base_row bs) ≡ o → providers.among (row_found k o).led.waiting.joins p ≡ true → ⊥
      base_waits k p None e h = cc
      base_waits k p (Some row) e h = nothing_waits_there row.led (unwaited k bs row e) h
        where
          nothing_waits_there : (l : Led) → l ≡ nothing_led → providers.among l.waiting.joins p ≡ true → ⊥
          nothing_waits_there l e h = let z : providers.among nothing_led.waiting.joins p ≡ true = subst (λ (y : Led). providers.among y.waiting.joins p ≡ true) e h in cc

      kept_install : (b : Bool) → InstallsIf y g (elim b as (λ _. Option Install) [ true ↦ Some i | false ↦ None ])
      kept_install true = installs y after
      kept_install false = tt

  own : NodeIsIf w.config y g n (w.incs n) (Some (view_entered c i bs))
  unfolding view_entered recorded_all row_of views_entered
  own =
      let a : NodeOf y g n (is_fixed c.config.mode) (views_entered s.views i) (row_found g (find (has_name g) (map base_row bs))) (map base_row bs) (level_set c i.members) (map base_leader bs) = subst (λ z. NodeOf y g n (is_fixed c.config.mode) (views_entered s.views i) (row_found g z) (map base_row bs) (level_set c i.members) (map base_leader bs)) (sym (row_of_base g bs)) (node_new (is_fixed c.config.mode) (t.own.0.asks ∙ ap (λ (z : Config). not (is_fixed z.mode)) (sym fills.config)) (λ q. absurd (let f : is_fixed w.config.mode ≡ true = ap (λ (z : Config). is_fixed z.mode) (sym t.own.1 ∙ sym fills.config) ∙ q in let k = free in cc))) in
      let b : NodeOf y g n (is_fixed c.config.mode) (views_entered c.views i) (row_found g (find (has_name g) (map base_row bs))) (map base_row bs) (level_set c i.members) (map base_leader bs) = subst (λ z. NodeOf y g n (is_fixed c.config.mode) (views_entered z i) (row_found g (find (has_name g) (map base_row bs))) (map base_row bs) (level_set c i.members) (map base_leader bs)) (sym fills.views) a in
      (b, fills.config ∙ t.own.1, ap (λ (z : Views). z.inc) fills.views ∙ t.own.2)

  -- nothing was asked in the view
  unasked : (p : ProviderId) (r : ℕ) (a : Proposal) → p.node ≡ n → p.inc ≡ s.views.inc → Has (group.Request i.view p r a) x.ps → ⊥
  unasked p r a mine same h = at (subst (λ m. Entered (x.nodes m) p.inc i.view) mine (k.good.inv.records (In p.node p.inc i.view entry.0) entry.1))
    where
      entry : (ms : List Member) × Has (In p.node p.inc i.view ms) (kept x.all)
      entry = (k.once.sent i.view p r a h).0

      inc : (x.nodes n).inc ≡ s.views.inc
      inc = t.own.0.stands.inc

      before : Lt (x.nodes n).view i.view
      before = subst (λ z. Lt z i.view) (sym t.own.0.stands.view) lt

      at : Entered (x.nodes n) p.inc i.view → ⊥
      at (inl l) = omega arith
      at (inr l) = let z : Le i.view (x.nodes n).view = l.1 in let d = before in absurd (cc)

  seen : view_now n (earlier (reverse (view_entered c i bs).records) w.before) ≡ Some i.view
  unfolding view_entered recorded_all base_record views_entered
  seen =
      let entering : Happened = happened.In c.views.me i.view i.members in
      let d : (c.records ++ entering ∷ []) ++ map (base_record (view_entered c i bs)) bs ≡ c.records ++ entering ∷ map (base_record (view_entered c i bs)) bs = append_assoc c.records (entering ∷ []) (map (base_record (view_entered c i bs)) bs) in
      ap (λ z. view_now n (earlier (reverse z) w.before)) (sym d) ∙ now_bases n c.views.me i.view bs (c.records ++ entering ∷ []) w.before ∙ now_pushed n c.records entering w.before ∙ ap (λ b. if b then Some i.view else view_now n (earlier (reverse c.records) w.before)) (eq-eqb c.views.me n me_is)

  -- the others are where they were
  there : (m : ℕ) (d : Core) → m ≢ n → w.cores m ≡ Some d → view_now m (earlier (reverse (view_entered c i bs).records) w.before) ≡ Some d.views.view
  unfolding view_entered recorded_all base_record views_entered
  there m d ne q =
      let entering : Happened = happened.In c.views.me i.view i.members in
      let a : (c.records ++ entering ∷ []) ++ map (base_record (view_entered c i bs)) bs ≡ c.records ++ entering ∷ map (base_record (view_entered c i bs)) bs = append_assoc c.records (entering ∷ []) (map (base_record (view_entered c i bs)) bs) in
      let b : (c.views.me == m) ≡ false = number_other c.views.me m (λ e. ne (e ∙ me_is)) in
      ap (λ z. view_now m (earlier (reverse z) w.before)) (sym a) ∙ now_bases m c.views.me i.view bs (c.records ++ entering ∷ []) w.before ∙ now_pushed m c.records entering w.before ∙ ap (λ b. if b then Some i.view else view_now m (earlier (reverse c.records) w.before)) b ∙ fills.placed m ∙ t.placed.1 m d ne q

  more_entered : (r : Happened) → Has r (c.records ++ records_of w.before) → Has r ((view_entered c i bs).records ++ records_of w.before)
  unfolding view_entered recorded_all base_record views_entered
  more_entered r h =
      ⊎_elim (λ (a : Has r c.records). append_has_left r (view_entered c i bs).records (records_of w.before) (append_has_left r c.records (happened.In c.views.me i.view i.members ∷ map (base_record (view_entered c i bs)) bs) a)) (λ (a : Has r (records_of w.before)). append_has_right r (view_entered c i bs).records (records_of w.before) a) (has_append r c.records (records_of w.before) h)

  more_records : (r : Happened) → Has r (s.records ++ records_of w.before) → Has r ((view_entered c i bs).records ++ records_of w.before)
  more_records r h = more_entered r (fills.recorded_on r h)

  turned : InTurn i.view ((view_entered c i bs).records ++ records_of w.before) (level_set c i.members)
  unfolding level_set
  turned =
      let k = turn_on (c.records ++ records_of w.before) ((view_entered c i bs).records ++ records_of w.before) more_entered s.views.view i.view (lt_le s.views.view i.view lt) c.sessions fills.turn in
      record { single = k.single; joined = k.joined; numbered = k.numbered; owner = k.owner }

  -- the view is entered, and its rows are those of the bases
  pub enters_arrived : Arrived g w n (view_entered c i bs)
  unfolding view_entered recorded_all views_entered
  enters_arrived =
      record {
        tied = record {
          ghost = y;
          life = lives;
          lines = lines;
          own = own;
          others = λ m ne. node_if_on x y m (spares m ne) (set_there x.nodes n now m ne) w.config g (w.incs m) (w.cores m) (t.others m ne);
          packets = λ p h. shown y after p (subst (λ z. Has p (z ++ w.sent)) fills.sends h);
          sound = sound_on x y still g t.sound;
          placed = (seen, there);
          nobody = t.nobody;
          turns = record { own = turned; others = t.turns.others; sent = sent_on_more (s.records ++ records_of w.before) ((view_entered c i bs).records ++ records_of w.before) more_records x.ps move.ps move.requests t.turns.sent };
        };
        unasked = λ p r a m e h. unasked p r a m (e ∙ ap (λ (z : Views). z.inc) fills.views) (move.requests i.view p r a h);
        thawed = refl;
      }
