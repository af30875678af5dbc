-- What the life of a group says of the records of a scene that events lead to.
use Rattle.std.proofs.Common.{◌≡◌, ◌≤◌, ◌<◌, ◌⊎◌, ℕ, List, length, take, drop, Option, Some, None, true, refl, sym, ap, ◌∙◌, subst, inl, inr}
use Rattle.rsct_packet.specs.declared.ids.ViewId.{ViewId}
use Rattle.rsct_packet.specs.declared.ids.Member.{Member}
use Rattle.rsct_packet.specs.Search.{Has}
use Rattle.proposal_core.specs.declared.entry.Entry.{Entry}
use Rattle.proposal_core.specs.declared.group_state.GroupState.{GroupState}
use Rattle.proposal_core.specs.GroupView.{GroupView}
use Rattle.proposal_core.specs.Fold.{fits}
use Rattle.proposal_core.specs.Lists.{list_or_new}
use Rattle.node_state.specs.declared.config.Config.{Config}
use Rattle.node_state.specs.declared.happened.Happened.TheVariants as happened
use Rattle.node_state.specs.declared.state.Core.{Core}
use Rattle.node_state.specs.State.{row_of, list_of, state_of, len_of}
use Rattle.run_safety.specs.ViewOrder.{Le}
use Rattle.run_safety.specs.Past.{records_of, puts_of}
use Rattle.run_safety.specs.Group.{Standing, Packet, Origin, In, Put, Line, Noted, Based, kept}
use Rattle.run_safety.specs.Group as group
use Rattle.run_safety.specs.GroupLists.{From}
use Rattle.run_safety.specs.GroupLists as lists
use Rattle.run_safety.specs.Bases.{Bases, base_state, state_of_list, side_state, BaseIs}
use Rattle.run_safety.specs.Sight.{inc_in}
use Rattle.run_safety.specs.Moves.{Opening, Leads, entered, Life, Dawn, NextEvent, Promises, Answers, Appends, Follows, Starts, Enters, Founds, Names, Hears, Asks, Requests, Refuses, IsTold, Acknowledges, Settles}
use Rattle.run_safety.proofs.Lines.{note_entered, kept_entered, had_inserted, kept_inserted}
use Rattle.run_safety.proofs.Tracks.{has_many}
use Rattle.run_safety.proofs.SightLaws.{put_seen}
use Rattle.run_safety.proofs.Whole.{Whole}
use Rattle.run_safety.proofs.Lives.{whole, law_fitted}
use Rattle.step_refinement.specs.Ghost.{Ghost, KeepsIf}
use Rattle.step_refinement.specs.Tied.{Scene, NodeIs, NodeIsIf, Rests, opening_of}
use Rattle.step_refinement.specs.Runs.{Reached}
use Rattle.step_refinement.proofs.RunLaw.{reached_rests}
use Rattle.provider_laws.proofs.single_casts.Seen.{puts_seen, base_seen, base_read, in_seen, in_read}

-- ---- who notes a base is in its view

abbrev Inside : List Line → ℕ → ViewId → Type 0
Inside all n v = (j : ℕ) × (ms : List Member) × Has (In n j v ms) (kept all)

-- it noted the base as it came in, or before
came : (m : ℕ) (x : Standing) (w : ViewId) (ms : List Member) (ss : ViewId → List Entry) (o : Option Origin) (all : List Line) (n : ℕ) (v : ViewId) (b : Origin) → (Has (Noted (Based n v b)) all → Inside all n v) → ((c : Origin) × (o ≡ Some c) × (Based n v b ≡ Based m w c)) ⊎ Has (Noted (Based n v b)) all → Inside (entered m x w ms ss o all) n v
came m x w ms ss o all n v b old (inl k) =
    let q = k.2 in
    let a : n ≡ m = cc in
    let c : v ≡ w = cc in
    let there : Has (In m x.inc w ms) (kept (entered m x w ms ss o all)) = subst (Has (In m x.inc w ms)) (sym (kept_entered m x w ms ss o all)) (inl refl) in
    (x.inc, ms, subst (λ (z : ℕ × ViewId). Has (In z.0 x.inc z.1 ms) (kept (entered m x w ms ss o all))) (λ i. (sym a i, sym c i)) there)
came m x w ms ss o all n v b old (inr h) =
    let i = old h in
    let r = In n i.0 v i.1 in
    (i.0, i.1, subst (Has r) (sym (kept_entered m x w ms ss o all)) (inr (has_many r m x.view (length x.list) (drop (length x.list) (ss x.view)) (kept all) i.2)))

pub based_in : {o : Opening} {nodes : ℕ → Standing} {ps : List Packet} {all : List Line} {leads : Leads} {bases : Bases} → Life o nodes ps all leads bases → (n : ℕ) (v : ViewId) (b : Origin) → Has (Noted (Based n v b)) all → Inside all n v
based_in (Dawn nodes new) n v b h = absurd h
based_in (NextEvent nodes ps all leads bases life) n v b (inl e) = absurd (cc)
based_in (NextEvent nodes ps all leads bases life) n v b (inr h) = let k = based_in life n v b h in (k.0, k.1, inr k.2)
based_in (Promises nodes now ps all leads bases m x u life is le c) n v b h = based_in life n v b h
based_in (Answers nodes ps all leads bases m x u life is up le lt) n v b h = based_in life n v b h
based_in (Appends nodes now ps all leads bases m x e life is up led same due tallied room c) n v b (inl q) = absurd (cc)
based_in (Appends nodes now ps all leads bases m x e life is up led same due tallied room c) n v b (inr h) = let k = based_in life n v b h in (k.0, k.1, inr k.2)
based_in (Follows nodes now ps all leads bases m x e life is up same sent c) n v b (inl q) = absurd (cc)
based_in (Follows nodes now ps all leads bases m x e life is up same sent c) n v b (inr h) = let k = based_in life n v b h in (k.0, k.1, inr k.2)
based_in (Starts nodes now ps all leads bases m x w ms life is quiet born how c) n v b (inl q) = absurd (cc)
based_in (Starts nodes now ps all leads bases m x w ms life is quiet born how c) n v b (inr h) = let k = based_in life n v b h in (k.0, k.1, inr k.2)
based_in (Enters nodes now ps all leads bases m x w ms ss life is quiet up at lt among sent c) n v b h =
    came m x w ms ss (bases w) all n v b (λ i. based_in life n v b i) (note_entered (Based n v b) m x w ms ss (bases w) all h)
based_in (Founds nodes now ps all leads leads' bases bases' m x rs ss o life is quiet ok base set_base set_lead c) n v b h =
    came m x x.promise (group.members_of rs) ss o all n v b (λ i. based_in life n v b i) (note_entered (Based n v b) m x x.promise (group.members_of rs) ss o all h)
based_in (Names nodes ps all leads leads' bases u m j life was set led may) n v b h = based_in life n v b h
based_in (Hears nodes ps all more leads bases p u i e life put s is new) n v b h =
    by (had_inserted (group.Heard p u i e s.members s.value) all more new (Noted (Based n v b)) h) (λ k. based_in life n v b k)
  where
    by : (Noted (Based n v b) ≡ Noted (group.Heard p u i e s.members s.value)) ⊎ Has (Noted (Based n v b)) all → (Has (Noted (Based n v b)) all → Inside all n v) → Inside more n v
    by (inl q) old = absurd (cc)
    by (inr k) old = let z = old k in (z.0, z.1, subst (Has (In n z.0 v z.1)) (sym (kept_inserted (group.Heard p u i e s.members s.value) all more new)) z.2)
based_in (Asks nodes ps all leads bases p r x life) n v b (inl q) = absurd (cc)
based_in (Asks nodes ps all leads bases p r x life) n v b (inr h) = based_in life n v b h
based_in (Requests nodes ps all leads bases p r x y life is up same asked never untold) n v b h = based_in life n v b h
based_in (Refuses nodes ps all leads bases u p r life why) n v b h = based_in life n v b h
based_in (IsTold nodes ps all leads bases p r y life is up same why) n v b (inl q) = absurd (cc)
based_in (IsTold nodes ps all leads bases p r y life is up same why) n v b (inr h) = based_in life n v b h
based_in (Acknowledges nodes ps all leads bases m x k life is le) n v b h = based_in life n v b h
based_in (Settles nodes ps all leads bases m j u ms k life was acked) n v b h = based_in life n v b h

-- ---- a scene

module _ (c : Config) (w : Scene) (reached : Reached c w) (g : List ℕ) where
  abbrev rests : Rests g w
  rests = reached_rests c w reached g

  abbrev pub ghost_of : Ghost
  ghost_of = (reached_rests c w reached g).ghost

  abbrev pub bases_in : Bases
  bases_in = (reached_rests c w reached g).ghost.bases

  -- the ghost's parts
  pub parts : Whole (opening_of w.config) rests.ghost.nodes rests.ghost.ps rests.ghost.all rests.ghost.leads rests.ghost.bases
  parts = whole rests.life

  pub in_line : (n : ℕ) (v : ViewId) (ms : List Member) → Has (happened.In n v ms) (records_of w.before) → Has (In n (inc_in n ms) v ms) (kept rests.ghost.all)
  in_line n v ms h = subst (λ all. Has (In n (inc_in n ms) v ms) (kept all)) (sym rests.lines) (in_seen n v ms g w.before h)

  pub line_read : (n j : ℕ) (v : ViewId) (ms : List Member) → Has (In n j v ms) (kept rests.ghost.all) → Has (happened.In n v ms) (records_of w.before)
  line_read n j v ms h = in_read n j v ms g w.before (subst (λ all. Has (In n j v ms) (kept all)) rests.lines h)

  -- a base that was recorded is the view's
  pub noted_is : (n : ℕ) (v : ViewId) (b : Origin) → Has (happened.Base n v g b.old b.len b.state) (records_of w.before) → bases_in v ≡ Some b
  noted_is n v b h = parts.based_ok.noted n v b (subst (Has (Noted (Based n v b))) (sym rests.lines) (base_seen n v g b w.before h))

  -- and each node that entered the view recorded it
  pub based_is : (n : ℕ) (v : ViewId) (ms : List Member) (b : Origin) → Has (happened.In n v ms) (records_of w.before) → bases_in v ≡ Some b → Has (happened.Base n v g b.old b.len b.state) (records_of w.before)
  based_is n v ms b h is =
      base_read n v g b w.before (subst (Has (Noted (Based n v b))) rests.lines (parts.based_ok.by_all n (inc_in n ms) v ms b (in_line n v ms h) is))

  pub base_entered : (n : ℕ) (v : ViewId) (b : Origin) → Has (happened.Base n v g b.old b.len b.state) (records_of w.before) → (ms : List Member) × Has (happened.In n v ms) (records_of w.before)
  base_entered n v b h =
      let k = based_in rests.life n v b (subst (Has (Noted (Based n v b))) (sym rests.lines) (base_seen n v g b w.before h)) in
      (k.1, in_read n k.0 v k.1 g w.before (subst (λ all. Has (In n k.0 v k.1) (kept all)) rests.lines k.2))

  pub put_entered : (n : ℕ) (v : ViewId) (i : ℕ) (e : Entry) → Has (happened.Put n v g i e) (records_of w.before) → (ms : List Member) × Has (happened.In n v ms) (records_of w.before)
  put_entered n v i e h =
      let k = parts.good.past.put_in n i e v (subst (λ all. Has (Put n v i e) (kept all)) (sym rests.lines) (put_seen n v g i e w.before h)) in
      ((k.1).0, in_read n k.0 v (k.1).0 g w.before (subst (λ all. Has (In n k.0 v (k.1).0) (kept all)) rests.lines (k.1).1))

  puts_are : (n : ℕ) (v : ViewId) → lists.puts_of n v (kept rests.ghost.all) ≡ puts_of n v g (records_of w.before)
  puts_are n v = ap (λ all. lists.puts_of n v (kept all)) rests.lines ∙ puts_seen n v g w.before

  -- what was put fits what its node put before it
  pub fitted_is : (n : ℕ) (v : ViewId) (i : ℕ) (e : Entry) → Has (happened.Put n v g i e) (records_of w.before) → i ≤ length (puts_of n v g (records_of w.before)) → fits (state_of_list bases_in v (take i (puts_of n v g (records_of w.before)))) e ≡ true
  fitted_is n v i e h le =
      let there : Has (Put n v i e) (kept rests.ghost.all) = subst (λ all. Has (Put n v i e) (kept all)) (sym rests.lines) (put_seen n v g i e w.before h) in
      let law = law_fitted (opening_of w.config) rests.ghost.nodes rests.ghost.ps rests.ghost.all rests.ghost.leads rests.ghost.bases parts n v i e there n in
      subst (λ es. i ≤ length es → fits (state_of_list bases_in v (take i es)) e ≡ true) (puts_are n v) law le

  -- a node that is up is in its view, in its incarnation, and has no other way to be in it
  pub record Seat (n : ℕ) (s : Core) : Type 0 where
    pub me : s.views.me ≡ n
    pub entered : Has (happened.In n s.views.view s.views.members) (records_of w.before)
    pub line : Has (In n s.views.inc s.views.view s.views.members) (kept rests.ghost.all)
    pub inc : (rests.ghost.nodes n).inc ≡ s.views.inc
    pub view : (rests.ghost.nodes n).view ≡ s.views.view
    pub state : state_of s g ≡ state_of_list bases_in s.views.view (puts_of n s.views.view g (records_of w.before))
    pub len : len_of s g ≡ length (puts_of n s.views.view g (records_of w.before))

  pub seat_of : (n : ℕ) (s : Core) → w.cores n ≡ Some s → Seat n s
  unfolding state_of len_of list_of
  seat_of n s up =
      record {
        me = is.stands.me;
        entered = in_read n s.views.inc s.views.view s.views.members g w.before (subst (λ all. Has (In n s.views.inc s.views.view s.views.members) (kept all)) rests.lines is.stands.seated);
        line = is.stands.seated;
        inc = is.stands.inc;
        view = is.stands.view;
        state = (shown (row_of s g).list is.row_is.list).0 ∙ ap (state_of_list bases_in s.views.view) put;
        len = (shown (row_of s g).list is.row_is.list).1 ∙ ap length put;
      }
    where
      is : NodeIs rests.ghost g n s
      is = (subst (NodeIsIf w.config rests.ghost g n (w.incs n)) up (rests.nodes n)).0

      list : List Entry
      list = (rests.ghost.nodes n).list

      shown : (l : Option GroupView) → KeepsIf rests.ghost s.views.view list l → ((list_or_new l).state ≡ state_of_list bases_in s.views.view list) × ((list_or_new l).len ≡ length list)
      shown None k =
          (sym (ap (state_of_list bases_in s.views.view) k.0 ∙ ap base_state k.1), sym (ap length k.0))
      shown (Some l) k = (k.state, k.len)

      put : list ≡ puts_of n s.views.view g (records_of w.before)
      put = sym (parts.good.past.seated n).list ∙ ap (λ v. lists.puts_of n v (kept rests.ghost.all)) is.stands.view ∙ puts_are n s.views.view

  -- whoever is in a view in two incarnations is so in one
  pub single_is : (n j : ℕ) (v : ViewId) (ms ns : List Member) → Has (happened.In n v ms) (records_of w.before) → Has (In n j v ns) (kept rests.ghost.all) → inc_in n ms ≡ j
  single_is n j v ms ns h i = parts.good.past.single n (inc_in n ms) j v (ms, in_line n v ms h) (ns, i)

  pub entered_is : (n : ℕ) (v : ViewId) (ms : List Member) → Has (happened.In n v ms) (records_of w.before) → (inc_in n ms < (rests.ghost.nodes n).inc) ⊎ ((inc_in n ms ≡ (rests.ghost.nodes n).inc) × Le v (rests.ghost.nodes n).view)
  entered_is n v ms h = parts.good.inv.records (In n (inc_in n ms) v ms) (in_line n v ms h)

  -- the base of a view that a node entered from the one before it: what the node put there makes it, but for who failed
  pub runs_on : (n j : ℕ) (u v : ViewId) (ms : List Member) (b : Origin) → Has (In n j v ms) (kept rests.ghost.all) → From (kept rests.ghost.all) n j v u → bases_in v ≡ Some b → b.old ≡ u → b.state.running ≡ (state_of_list bases_in u (puts_of n u g (records_of w.before))).running
  runs_on n j u v ms b there from is old =
      let k = parts.good.past.left n j v u ms there from in
      let made = parts.based_ok.made v ms k.0 k.1 in
      let won : BaseIs made.0 k.0 (λ z. side_state bases_in k.0 z) (Some b) = subst (BaseIs made.0 k.0 (λ z. side_state bases_in k.0 z)) is made.4 in
      ap (λ (s : GroupState). s.running) won.state ∙ ap (λ z. (side_state bases_in k.0 z).running) old ∙ ap (λ es. (state_of_list bases_in u es).running) (sym k.2 ∙ puts_are n u)
