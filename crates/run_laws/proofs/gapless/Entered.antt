-- A step in which a node enters a view: just those are told DISSOLVED who took part in the stay before, by the records, and do not
-- pass into the new one.
use Rattle.std.proofs.Common.{◌≡◌, ◌⊎◌, ℕ, List, [], ◌∷◌, Option, Some, None, Bool, true, false, refl, sym, ap, ◌∙◌, subst, inl, inr, ⊎_elim, append-nil}
use Rattle.std.specs.Prelude.{not, ◌&&◌, reverse, map, is_some, is_none, IsTrue}
use Rattle.std.specs.List.{list_any}
use Rattle.std.proofs.lemmas.Bool.{and_parts, eq-eqb, eqb-true}
use Rattle.rsct_packet.specs.declared.ids.ViewId.{ViewId}
use Rattle.rsct_packet.specs.declared.ids.ProviderId.{ProviderId}
use Rattle.rsct_packet.specs.declared.ids.Member.{Member}
use Rattle.rsct_packet.specs.Ids.{same_view}
use Rattle.rsct_packet.specs.Providers.{among}
use Rattle.rsct_packet.specs.Search.{Has}
use Rattle.rsct_packet.proofs.HasLaws.{has_append, append_has_left, has_map, has_reverse}
use Rattle.proposal_core.specs.declared.group_state.GroupState.{GroupState}
use Rattle.proposal_core.specs.Fold.{present}
use Rattle.proposal_core.specs.Lists.{state_in}
use Rattle.client_callbacks.specs.declared.told.Why.TheVariants.{Dissolved}
use Rattle.session_state.specs.declared.state.Provider.{Provider}
use Rattle.session_state.specs.State.{provider_of}
use Rattle.view_state.specs.declared.install.Install.{Install}
use Rattle.view_state.specs.declared.install.Base.{Base}
use Rattle.view_state.specs.Bases.{bases_of, base_named}
use Rattle.view_state.specs.Views.{views_entered}
use Rattle.node_state.specs.declared.config.Config.{Config}
use Rattle.node_state.specs.declared.group.GroupRow.{GroupRow}
use Rattle.node_state.specs.declared.happened.Happened.{Happened}
use Rattle.node_state.specs.declared.happened.Happened.TheVariants as happened
use Rattle.node_state.specs.declared.state.Core.{Core}
use Rattle.node_state.specs.State.{held_rows, recorded_all}
use Rattle.node_state.specs.HandOn.{Answering}
use Rattle.node_state.specs.Applying.{level_set, base_record, view_entered, is_in_base}
use Rattle.node_state.specs.Step.{NodeEvent, at_work, stepped}
use Rattle.world_model.specs.declared.event.Event.{Event}
use Rattle.run_safety.specs.ViewOrder.{Lt}
use Rattle.run_safety.specs.Past.{History, earlier}
use Rattle.run_safety.specs.SafeHeard.{is_left_behind, enters}
use Rattle.run_safety.specs.Stays.{stays, Part, part, passes, was_let_go}
use Rattle.run_safety.proofs.Tests.{any_has, has_any}
use Rattle.step_refinement.specs.Tied.{Scene}
use Rattle.step_refinement.specs.Rules.{Arises}
use Rattle.step_refinement.specs.Runs.{Reached}
use Rattle.step_refinement.proofs.Turns.{has_turned}
use Rattle.row_laws.specs.hearing.Changes.{Inner, Does, entering}
use Rattle.row_laws.proofs.hearing.Attending.{pushed_reverse}
use Rattle.row_laws.proofs.hearing.Handing.{among_is, some_is}
use Rattle.row_laws.proofs.hearing.Doing.{present_row, rows_stay}
use Rattle.row_laws.proofs.failed_rows.Living.{IsLive}
use Rattle.row_laws.proofs.hearing.Added.{Adds, sides_add, enters_add}
use Rattle.provider_laws.proofs.attending.Law.{step_fine}
use Rattle.provider_laws.proofs.attending.Ordering.{Ordered, ordered_does}
use Rattle.provider_laws.proofs.attending.OrderLaw.{node_placed, begin_ordered}
use Rattle.provider_laws.proofs.attending.Entering.{named_has, entered_stays, entered_records}
use Rattle.provider_laws.proofs.attending.Fresh.{fresh_now}
use Rattle.provider_laws.proofs.attending.Living.{lively_now, failed_now}
use Rattle.run_laws.proofs.gapless.Fair.{Fair, fair_grows}
use Rattle.run_laws.proofs.gapless.Tellings.{Leaves, told_leaves, sides_back, Stayed, stays_or_told}
use Rattle.run_laws.proofs.gapless.Stayed.{LastStay, mild_stays}
use Rattle.provider_laws.proofs.leaving.Comes.{live_found, found_live}
use Rattle.run_laws.proofs.failed_causes.Bases.{view_self}
use Rattle.view_state.proofs.ViewOrder.{same_view_is}
use Rattle.row_laws.proofs.failed_rows.Bases.{base_is, new_stay}

-- ---- passing

-- who goes on and does not pass is left behind
left_when : (p : ProviderId) (base : GroupState) (x : Part) (f : ℕ) → x.first ≡ Some f → x.last ≡ None → (among (present base) p && not (among base.failed p)) ≡ false → (is_some x.first && (is_none x.last && not (passes p base x))) ≡ true
left_when p base x f first last out = (λ i. is_some (first i) && (is_none (last i) && not (is_some (first i) && (is_none (last i) && out i))))

-- who is left behind went on, and is not there or has failed
pub record LeftOut (p : ProviderId) (base : GroupState) (x : Part) : Type 0 where
  pub first : ℕ
  pub is : x.first ≡ Some first
  pub last : x.last ≡ None
  pub out : (among (present base) p && not (among base.failed p)) ≡ false

left_out : (p : ProviderId) (base : GroupState) (x : Part) → (is_some x.first && (is_none x.last && not (passes p base x))) ≡ true → LeftOut p base x
left_out p base x t = by x.first x.last (among (present base) p && not (among base.failed p)) refl refl refl t
  where
    by : (a b : Option ℕ) (c : Bool) → x.first ≡ a → x.last ≡ b → (among (present base) p && not (among base.failed p)) ≡ c → (is_some a && (is_none b && not (is_some a && (is_none b && c)))) ≡ true → LeftOut p base x
    by None b c q r o t = absurd (cc)
    by (Some f) (Some l) c q r o t = absurd (cc)
    by (Some f) None true q r o t = absurd (cc)
    by (Some f) None false q r o t = record { first = f; is = q; last = r; out = o }

-- the provider is the node's, and left behind in a group
pub record WasLeft (n : ℕ) (rs : List Happened) (p : ProviderId) : Type 0 where
  pub node : p.node ≡ n
  pub group : List ℕ
  pub left : is_left_behind p (stays n group rs) ≡ true

-- where the provider goes on taking part by the records, and was not let go before, it is a provider of the node that takes part
abbrev pub TakesIn : ℕ → History → Core → ProviderId → Type 0
TakesIn n before t p =
    (g : List ℕ) (first : ℕ) → (part p (stays n g (earlier (reverse t.records) before))).first ≡ Some first → (part p (stays n g (earlier (reverse t.records) before))).last ≡ None → was_let_go p before ≡ false → (x : Provider) × (provider_of t.sessions p ≡ Some x) × (x.takes_part ≡ true) × (x.group ≡ g)

module _ (c : Config) (w : Scene) (n : ℕ) (f : Answering) (s : Core) (e : NodeEvent) (v : Event) (reached : Reached c w) (up : w.cores n ≡ Some s) (arises : Arises w e) (t : Core) (i : Install) (does : Does (at_work s) t) (fair : Fair (at_work s) t) (same : t.views.view ≡ s.views.view) (lt : Lt t.views.view i.view) (rest : Fair (entering t i) (stepped f s e)) where
  abbrev d : Core
  d = stepped f s e

  abbrev bs : List Base
  bs = bases_of i

  abbrev inside : Core
  inside = view_entered t i bs

  abbrev now : List Happened
  now = reverse d.records

  there : (r : Happened) → Has r (entering t i).records → Has r d.records
  there r h = fair_grows (entering t i) d rest r h

  before_it : (r : Happened) → Has r t.records → Has r d.records
  before_it r h = there r (let a = enters_add t i in subst (Has r) (sym a.is) (append_has_left r t.records a.more h))

  turned : (r : Happened) → Has r d.records → Has r now
  turned r h = subst (Has r) (append-nil now) (has_turned r d.records [] (append_has_left r d.records [] h))

  pub o : Ordered n (w.incs n) w.before s.views.view s.sessions.last_request t
  o =
      ordered_does n (w.incs n) w.before s.views.view s.sessions.last_request (at_work s) t does d.records before_it (step_fine c w n s reached up f e v arises) (lively_now c w n f s e v reached up arises) (fresh_now c w reached n s up) (begin_ordered c w reached n s up (node_placed c w reached n s up).0)

  me : t.views.me ≡ n
  me = o.strict.hearing.me

  -- ---- the records

  in_there : Has (happened.In n i.view i.members) d.records
  in_there =
      subst (λ m. Has (happened.In m i.view i.members) d.records) me (there (happened.In t.views.me i.view i.members) (entered_records t i).view)

  base_there : (b : Base) → Has b bs → Has (happened.Base n i.view b.name b.from b.len b.state) d.records
  base_there b h =
      subst (λ m. Has (happened.Base m i.view b.name b.from b.len b.state) d.records) me (there (happened.Base t.views.me i.view b.name b.from b.len b.state) ((entered_records t i).base b h))

  later : Lt s.views.view i.view
  later = subst (λ z. Lt z i.view) same lt

  pub entered : IsTrue (list_any (enters n) now)
  entered = has_any (enters n) now (happened.In n i.view i.members) (turned (happened.In n i.view i.members) in_there) (eq-eqb n n refl)

  -- where its latest stay stands at the end
  stay : (g : List ℕ) → LastStay (stays n g (earlier now w.before)) (new_stay i.view (base_is (base_named bs g))) (stays n g (earlier (reverse t.records) w.before))
  stay g =
      subst (λ z. LastStay (stays n g (earlier z w.before)) (new_stay i.view (base_is (base_named bs g))) (stays n g (earlier (reverse t.records) w.before))) (sym (ap reverse rest.is ∙ pushed_reverse rest.more (entering t i).records)) (mild_stays n g rest.more (reverse (entering t i).records) w.before (new_stay i.view (base_is (base_named bs g))) (stays n g (earlier (reverse t.records) w.before)) rest.mild (subst (λ m. stays m g (earlier (reverse (entering t i).records) w.before) ≡ new_stay i.view (base_is (base_named bs g)) ∷ stays m g (earlier (reverse t.records) w.before)) me (entered_stays w.before t i g)))

  -- so who is left behind is told by the part before
  left_is : (p : ProviderId) (g : List ℕ) → is_left_behind p (stays n g (earlier now w.before)) ≡ (let x : Part = part p (stays n g (earlier (reverse t.records) w.before)) in is_some x.first && (is_none x.last && not (passes p (base_is (base_named bs g)) x)))
  left_is p g =
      let k = stay g in
      ap (is_left_behind p) k.is ∙ ap (λ z. is_some (part p (stays n g (earlier (reverse t.records) w.before))).first && (is_none (part p (stays n g (earlier (reverse t.records) w.before))).last && not (passes p z (part p (stays n g (earlier (reverse t.records) w.before)))))) k.base

  -- nobody was told before
  pub untold : (p : ProviderId) (r : ℕ) → Has (happened.Told p r Dissolved) t.records → ⊥
  untold p r h = by (subst (Has (happened.Told p r Dissolved)) fair.is h)
    where
      by : Has (happened.Told p r Dissolved) fair.more → ⊥
      by j = let z : true ≡ false = fair.mild (happened.Told p r Dissolved) j in cc

  -- who is told leaves
  pub told_left : (p : ProviderId) (r : ℕ) → Has (happened.Told p r Dissolved) now → Leaves inside.sessions t.views.view bs p
  unfolding view_entered recorded_all base_record views_entered
  told_left p r h =
      ⊎_elim (λ (a : Has it inside.records). absurd (inner (has_append it t.records (happened.In t.views.me i.view i.members ∷ map (base_record inside) bs) a))) (λ (a : Leaves inside.sessions t.views.view bs p). a) (told_leaves inside t.views.view bs (held_rows t) p r (⊎_elim (λ (a : Has it (entering t i).records). a) (λ (a : Has it rest.more). absurd (mild a)) (has_append it (entering t i).records rest.more (subst (Has it) rest.is (has_reverse it d.records h)))))
    where
      it : Happened
      it = happened.Told p r Dissolved

      mild : Has it rest.more → ⊥
      mild j = let z : true ≡ false = rest.mild it j in cc

      noted : Has it (map (base_record inside) bs) → ⊥
      noted j = let q = has_map (base_record inside) it bs j in let z = q.2 in cc

      inner : Has it t.records ⊎ Has it (happened.In t.views.me i.view i.members ∷ map (base_record inside) bs) → ⊥
      inner (inl j) = untold p r j
      inner (inr (inl z)) = cc
      inner (inr (inr j)) = noted j

  -- ---- told, so left behind

  -- who does not live in the base of its group does not pass
  pub not_passing : (p : ProviderId) (g : List ℕ) → p.node ≡ n → p.inc ≡ w.incs n → is_in_base t.views.view p (base_named bs g) ≡ false → (among (present (base_is (base_named bs g))) p && not (among (base_is (base_named bs g)).failed p)) ≡ false
  unfolding is_in_base
  not_passing p g node inc out = by (base_named bs g) refl out
    where
      some : (b : Base) → Has b bs → (a z : Bool) → same_view b.from t.views.view ≡ a → among (present b.state) p ≡ z → (a && z) ≡ false → (among (present b.state) p && not (among b.state.failed p)) ≡ false
      some b h a false q r k = ap (λ z. z && not (among b.state.failed p)) r
      some b h true true q r k = absurd (cc)
      some b h false true q r k =
          let failed : among b.state.failed p ≡ true = failed_now c w n f s e v reached up arises i.view i.members b.name b.from b.len b.state in_there (base_there b h) later (λ z. (let y : true ≡ false = sym (view_self b.from t.views.view (z ∙ sym same)) ∙ q in cc)) p node inc (among_is (present b.state) p r) in
          (λ j. r j && not (failed j))

      by : (x : Option Base) → base_named bs g ≡ x → is_in_base t.views.view p x ≡ false → (among (present (base_is x)) p && not (among (base_is x).failed p)) ≡ false
      by None q k = refl
      by (Some b) q k = some b (named_has bs g b q) (same_view b.from t.views.view) (among (present b.state) p) refl refl k

  pub was_left : (p : ProviderId) (r : ℕ) → Has (happened.Told p r Dissolved) now → WasLeft n (earlier now w.before) p
  unfolding view_entered recorded_all level_set provider_of
  was_left p r h =
      let l = told_left p r h in
      let found : provider_of t.sessions p ≡ Some l.provider = l.found in
      let own = o.strict.hearing.at.own p l.provider found in
      let z = o.place.taking p l.provider found l.takes in
      record {
        node = own.0;
        group = l.provider.group;
        left = left_is p l.provider.group ∙ left_when p (base_is (base_named bs l.provider.group)) (part p (stays n l.provider.group (earlier (reverse t.records) w.before))) z.first z.is z.last (not_passing p l.provider.group own.0 own.1 l.out);
      }

  -- ---- left behind, so told

  -- in the event just this node enters a view
  pub entered_own : (p : ProviderId) → list_any (enters p.node) now ≡ true → p.node ≡ n
  unfolding view_entered recorded_all views_entered base_record
  entered_own p k = let z = any_has (enters p.node) now k in by z.0 z.1 z.2
    where
      at : (m : ℕ) (u : ViewId) (ms : List Member) → Has (happened.In m u ms) d.records → m ≡ n
      at m u ms h = split (has_append it (entering t i).records rest.more (subst (Has it) rest.is h))
        where
          it : Happened
          it = happened.In m u ms

          adds : Adds Inner inside (entering t i)
          adds = sides_add inside (held_rows t) t.views.view bs

          noted : Has it (map (base_record inside) bs) → ⊥
          noted j = let q = has_map (base_record inside) it bs j in let z = q.2 in cc

          first : it ≡ happened.In t.views.me i.view i.members → m ≡ t.views.me
          first z = cc

          inner : Has it t.records ⊎ Has it (happened.In t.views.me i.view i.members ∷ map (base_record inside) bs) → m ≡ n
          inner (inl j) = absurd (fair.mild it (subst (Has it) fair.is j))
          inner (inr (inl z)) = first z ∙ me
          inner (inr (inr j)) = absurd (noted j)

          within : Has it inside.records ⊎ Has it adds.more → m ≡ n
          within (inl j) = inner (has_append it t.records (happened.In t.views.me i.view i.members ∷ map (base_record inside) bs) j)
          within (inr j) = absurd (adds.all it j)

          split : Has it (entering t i).records ⊎ Has it rest.more → m ≡ n
          split (inl j) = within (has_append it inside.records adds.more (subst (Has it) adds.is j))
          split (inr j) = absurd (rest.mild it j)

      by : (r : Happened) → Has r now → enters p.node r ≡ true → p.node ≡ n
      by (happened.In m u ms) h q = sym (eqb-true m p.node q) ∙ at m u ms (has_reverse (happened.In m u ms) d.records h)
      by _ h q = absurd (cc)

  -- who takes part and lives in its base passes
  is_passing : (p : ProviderId) (g : List ℕ) → p.node ≡ n → p.inc ≡ w.incs n → is_in_base t.views.view p (base_named bs g) ≡ true → (among (present (base_is (base_named bs g))) p && not (among (base_is (base_named bs g)).failed p)) ≡ true
  unfolding is_in_base
  is_passing p g node inc k = by (base_named bs g) refl k
    where
      by : (x : Option Base) → base_named bs g ≡ x → is_in_base t.views.view p x ≡ true → (among (present (base_is x)) p && not (among (base_is x).failed p)) ≡ true
      by None q k = absurd (cc)
      by (Some b) q k =
          let a = and_parts (same_view b.from t.views.view) (among (present b.state) p) k in
          let from : b.from ≡ s.views.view = same_view_is b.from t.views.view a.0 ∙ same in
          let based : Has (happened.Base n i.view b.name s.views.view b.len b.state) d.records = subst (λ z. Has (happened.Base n i.view b.name z b.len b.state) d.records) from (base_there b (named_has bs g b q)) in
          let lives : among b.state.failed p ≡ false = lively_now c w n f s e v reached up arises i.view i.members b.name b.len b.state in_there based later p node inc in
          (λ j. a.1 j && not (lives j))

  pub is_told : (p : ProviderId) → p.node ≡ n → TakesIn n w.before t p → (g : List ℕ) → is_left_behind p (stays p.node g (earlier now w.before)) ≡ true → was_let_go p w.before ≡ false → (r : ℕ) × Has (happened.Told p r Dissolved) now
  unfolding view_entered recorded_all level_set provider_of
  is_told p node takes g left lives = by (stays_or_told p t.views.view bs (held_rows t) inside live)
    where
      out : LeftOut p (base_is (base_named bs g)) (part p (stays n g (earlier (reverse t.records) w.before)))
      out =
          left_out p (base_is (base_named bs g)) (part p (stays n g (earlier (reverse t.records) w.before))) (sym (left_is p g) ∙ subst (λ m. is_left_behind p (stays m g (earlier now w.before)) ≡ true) node left)

      taker : (x : Provider) × (provider_of t.sessions p ≡ Some x) × (x.takes_part ≡ true) × (x.group ≡ g)
      taker = takes g out.first out.is out.last lives

      x : Provider
      x = taker.0

      found : provider_of t.sessions p ≡ Some x
      found = taker.1

      live : IsLive inside.sessions p
      live = found_live t.sessions p x found

      own : (p.node ≡ n) × (p.inc ≡ w.incs n)
      own = let z = o.strict.hearing.at.own p x found in (z.0, z.1)

      here : (row : GroupRow) × Has row (held_rows t) × (row.name ≡ x.group) × Has p (present (state_in row.list))
      here = present_row t x.group p (o.strict.hearing.at.here p x found taker.2)

      -- who is still there lives in the base
      stayed : IsLive (entering t i).sessions p → ⊥
      stayed l =
          let z = live_found (entering t i).sessions p l in
          let is : z.0 ≡ x = some_is (sym (sides_back inside t.views.view bs (held_rows t) p z.0 z.1) ∙ found) in
          let q : provider_of (entering t i).sessions p ≡ Some x = z.1 ∙ ap (λ (y : Provider). Some y) is in
          let in_row : is_in_base t.views.view p (base_named bs (here.0).name) ≡ true = rows_stay t.views.view bs p x taker.2 (held_rows t) inside here.0 here.1 (sym here.2) here.3 q in
          let pass = is_passing p g node own.1 (subst (λ y. is_in_base t.views.view p (base_named bs y) ≡ true) (here.2 ∙ taker.3) in_row) in
          let wrong : true ≡ false = sym pass ∙ out.out in cc

      by : Stayed p (entering t i) → (r : ℕ) × Has (happened.Told p r Dissolved) now
      by (inl l) = absurd (stayed l)
      by (inr q) = (q.0, turned (happened.Told p q.0 Dissolved) (there (happened.Told p q.0 Dissolved) q.1))
