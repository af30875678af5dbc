-- A base that comes from another view than the node: whoever is there of the node, in its incarnation, is on the failed list.
use Rattle.std.proofs.Common.{◌≡◌, ℕ, List, [], ◌∷◌, Some, Bool, true, false, refl, sym, ap, ◌∙◌, subst, inl, inr}
use Rattle.std.specs.Prelude.{◌==◌, ◌&&◌, reverse, map, if◌then◌else◌}
use Rattle.std.specs.Str.{bytes_eq}
use Rattle.std.proofs.lemmas.Bool.{eq-eqb}
use Rattle.rsct_packet.specs.declared.ids.ViewId.{ViewId}
use Rattle.rsct_packet.specs.declared.ids.Member.{Member}
use Rattle.rsct_packet.specs.declared.ids.ProviderId.{ProviderId}
use Rattle.rsct_packet.specs.Providers.{among}
use Rattle.rsct_packet.specs.Search.{Has}
use Rattle.proposal_core.specs.declared.group_state.GroupState.{GroupState}
use Rattle.proposal_core.specs.Fold.{empty_state, present}
use Rattle.view_state.specs.declared.install.Install.{Install}
use Rattle.view_state.specs.declared.install.Base.{Base}
use Rattle.view_state.specs.Bases.{bases_of}
use Rattle.node_state.specs.declared.config.Config.{Config}
use Rattle.node_state.specs.declared.happened.Happened.{Happened}
use Rattle.node_state.specs.declared.happened.Happened.TheVariants as happened
use Rattle.node_state.specs.declared.state.Core.{Core}
use Rattle.node_state.specs.State.{with_row, held_rows, recorded, recorded_all, with_sessions}
use Rattle.node_state.specs.HandOn.{Answering}
use Rattle.node_state.specs.Leading.{put}
use Rattle.node_state.specs.Applying.{view_entered, sides_dissolved}
use Rattle.node_state.specs.Step.{NodeEvent, stepped, at_work}
use Rattle.world_model.specs.declared.event.Event.{Event}
use Rattle.run_safety.specs.ViewOrder.{Lt}
use Rattle.run_safety.specs.Past.{History, EachRecord, Within, earlier, records_of, inc_now}
use Rattle.run_safety.specs.Stays.{Stay, stays, with_base}
use Rattle.step_refinement.specs.Tied.{Scene}
use Rattle.step_refinement.specs.Rules.{Arises}
use Rattle.step_refinement.specs.Runs.{Reached}
use Rattle.step_refinement.proofs.BaseOrder.{base_noted}
use Rattle.row_laws.specs.hearing.Changes.{Unentered, Does, Stays, Then, Records, Hands, Loses, Joins, Votes, Enters}
use Rattle.row_laws.proofs.hearing.Attending.{pushed}
use Rattle.row_laws.proofs.hearing.Listening.{steps_change}
use Rattle.provider_laws.proofs.attending.Doing.{AllFine}
use Rattle.row_laws.proofs.hearing.Added.{does_grow}
use Rattle.provider_laws.proofs.attending.Fresh.{fresh_now}
use Rattle.provider_laws.proofs.attending.Law.{step_fine}
use Rattle.provider_laws.proofs.attending.Living.{lively_now, failed_now}
use Rattle.provider_laws.proofs.attending.OrderLaw.{node_placed, begin_ordered}
use Rattle.provider_laws.proofs.attending.Ordering.{Ordered, Fresh, Lively, ordered_does}
use Rattle.run_laws.specs.failed_causes.Passed.{ElsewhereFails, BasesFromElsewhereFail}
use Rattle.run_laws.proofs.failed_causes.Bases.{view_self}
use Rattle.run_laws.proofs.failed_causes.Records.{NoBase, inner_none, turned_none, hands_none, each_scene, enters_none, Every, every_of}
use Rattle.provider_laws.proofs.attending.Entering.{entered_records}

abbrev pub Away : List Happened → History → Happened → Type 0
Away now before r = ElsewhereFails (earlier now before) r

-- ---- records of no base

none_away : (r : Happened) (now : List Happened) (before : History) → NoBase r → Away now before r
none_away (happened.Base n v g u len s) now before a = absurd a
none_away _ now before a = tt

-- ---- a view is entered

-- who is there in a base from elsewhere failed, in the event whose records these are, where the node was in view `old` before
abbrev Failing : ℕ → ℕ → ViewId → List Happened → Type 0
Failing n inc old rs =
    (u : ViewId) (ms : List Member) (g : List ℕ) (side : ViewId) (len : ℕ) (st : GroupState) → Has (happened.In n u ms) rs → Has (happened.Base n u g side len st) rs → Lt old u → (side ≡ old → ⊥) → (p : ProviderId) → p.node ≡ n → p.inc ≡ inc → Has p (present st) → among st.failed p ≡ true

module _ (n inc : ℕ) (before : History) (old : ViewId) (v : ViewId) where
  -- the node's stays at that moment: the new one, and the one before
  record Twice (now : List Happened) (g : List ℕ) : Type 0 where
    entered : Stay
    last : Stay
    older : List Stay
    is : stays n g (earlier now before) ≡ entered ∷ last ∷ older
    view : last.view ≡ old

  based_away : (bs : List Base) (now : List Happened) → ((g : List ℕ) → Twice now g) → inc_now n (earlier now before) ≡ inc → ((b : Base) → Has b bs → (b.from ≡ old → ⊥) → (p : ProviderId) → p.node ≡ n → p.inc ≡ inc → Has p (present b.state) → among b.state.failed p ≡ true) → Within Away now before → Within Away (pushed (map (base_noted n v) bs) now) before
  based_away [] now twice inc_is fails k = k
  based_away (b ∷ bs) now twice inc_is fails k =
      based_away bs (base_noted n v b ∷ now) (λ g. by g (n == n && bytes_eq b.name g) refl) inc_is (λ c h. fails c (inr h)) (away, k)
    where
      by : (g : List ℕ) (t : Bool) → (n == n && bytes_eq b.name g) ≡ t → Twice (base_noted n v b ∷ now) g
      by g true q =
          let z = twice g in
          record { entered = record (z.entered) { base = b.state }; last = z.last; older = z.older; is = ap (λ t. if t then with_base b.state (stays n g (earlier now before)) else stays n g (earlier now before)) q ∙ ap (with_base b.state) z.is; view = z.view }
      by g false q =
          let z = twice g in
          record { entered = z.entered; last = z.last; older = z.older; is = ap (λ t. if t then with_base b.state (stays n g (earlier now before)) else stays n g (earlier now before)) q ∙ z.is; view = z.view }

      away : ElsewhereFails (earlier now before) (base_noted n v b)
      away x last older is apart p node inc_p there =
          let z = twice b.name in
          let q = sym is ∙ z.is in
          let same : last ≡ z.last = cc in
          fails b (inl refl) (λ e. let y : true ≡ false = sym (view_self b.from last.view (e ∙ sym z.view ∙ ap (λ (s : Stay). s.view) (sym same))) ∙ apart in cc) p node (sym inc_p ∙ inc_is) there

module _ (n inc : ℕ) (before : History) (old : ViewId) (last : ℕ) where
  enters_away : (s : Core) (i : Install) → Lt s.views.view i.view → ((r : Happened) → Has r s.records → Unentered r) → (rs : List Happened) → ((r : Happened) → Has r (sides_dissolved (view_entered s i (bases_of i)) (held_rows s) s.views.view (bases_of i)).records → Has r rs) → Failing n inc old rs → Ordered n inc before old last s → Within Away (reverse s.records) before → Within Away (reverse (sides_dissolved (view_entered s i (bases_of i)) (held_rows s) s.views.view (bases_of i)).records) before
  enters_away s i lt none rs more failing o k =
      enters_none Away none_away before s i (subst (λ m. Within Away (pushed (map (base_noted m i.view) bs) (happened.In m i.view i.members ∷ reverse s.records)) before) (sym me) (based_away n inc before old i.view bs (happened.In n i.view i.members ∷ reverse s.records) twice (o.strict.incs n ∙ o.strict.start) fails (tt, k)))
    where
      bs : List Base
      bs = bases_of i

      me : s.views.me ≡ n
      me = o.strict.hearing.me

      at : s.views.view ≡ old
      at = o.begins none

      twice : (g : List ℕ) → Twice n inc before old i.view (happened.In n i.view i.members ∷ reverse s.records) g
      twice g =
          let x = o.place.stay g in
          let fresh : Stay = record { view = i.view; base = empty_state; entries = [] } in
          record { entered = fresh; last = x.now; older = x.older; is = ap (λ t. if t then fresh ∷ stays n g (earlier (reverse s.records) before) else stays n g (earlier (reverse s.records) before)) (eq-eqb n n refl) ∙ ap (λ z. fresh ∷ z) x.is; view = x.view ∙ at }

      fails : (b : Base) → Has b bs → (b.from ≡ old → ⊥) → (p : ProviderId) → p.node ≡ n → p.inc ≡ inc → Has p (present b.state) → among b.state.failed p ≡ true
      fails b h other p node inc_is there =
          failing i.view i.members b.name b.from b.len b.state (subst (λ m. Has (happened.In m i.view i.members) rs) me (more _ (entered_records s i).view)) (subst (λ m. Has (happened.Base m i.view b.name b.from b.len b.state) rs) me (more _ ((entered_records s i).base b h))) (subst (λ z. Lt z i.view) at lt) other p node inc_is there

  does_away : (s t : Core) → Does s t → (rs : List Happened) → ((r : Happened) → Has r t.records → Has r rs) → AllFine rs → Lively n inc old rs → Fresh n inc before old last → Failing n inc old rs → Ordered n inc before old last s → Within Away (reverse s.records) before → Within Away (reverse t.records) before
  unfolding recorded with_sessions put recorded_all with_row
  does_away _ _ (Stays s t same) rs more fine lively fresh failing o k = subst (λ z. Within Away (reverse z) before) (sym same.records) k
  does_away _ _ (Then s t u a b) rs more fine lively fresh failing o k =
      let grown : (r : Happened) → Has r t.records → Has r rs = λ r h. more r (does_grow t u b r h) in
      does_away t u b rs more fine lively fresh failing (ordered_does n inc before old last s t a rs grown fine lively fresh o) (does_away s t a rs grown fine lively fresh failing o k)
  does_away _ _ (Records s r a) rs more fine lively fresh failing o k = turned_none Away none_away before s.records r (inner_none r a) k
  does_away _ _ (Hands s c h e bs ordered same) rs more fine lively fresh failing o k = hands_none Away none_away before s c h e bs same k
  does_away _ _ (Loses s t f) rs more fine lively fresh failing o k = k
  does_away _ _ (Joins s t g instance attrs none) rs more fine lively fresh failing o k = k
  does_away _ _ (Votes s x o b found opened unkept) rs more fine lively fresh failing ord k = turned_none Away none_away before s.records (happened.Cast x.provider o.proto o.phase b.vote b.value b.message) tt k
  does_away _ _ (Enters s i lt none) rs more fine lively fresh failing o k = enters_away s i lt none rs more failing o k

-- ---- every scene

module _ (c : Config) (w : Scene) (n : ℕ) (f : Answering) (s : Core) (e : NodeEvent) (v : Event) (k : Reached c w) (up : w.cores n ≡ Some s) (arises : Arises w e) where
  step_away : Within Away (reverse (stepped f s e).records) w.before
  step_away =
      does_away n (w.incs n) w.before s.views.view s.sessions.last_request (at_work s) (stepped f s e) (steps_change c w k n s up f e) (stepped f s e).records (λ r h. h) (step_fine c w n s k up f e v arises) (lively_now c w n f s e v k up arises) (fresh_now c w k n s up) (failed_now c w n f s e v k up arises) (begin_ordered c w k n s up (node_placed c w k n s up).0) tt

pub bases_away : BasesFromElsewhereFail
bases_away c w k = each_scene Away none_away c (λ w n f s e v k up arises. step_away c w n f s e v k up arises) w k

-- ---- record by record

abbrev pub Aways : List Happened → Type 0
Aways = Every ElsewhereFails

pub aways_of : (h : History) → EachRecord Away h → Aways (records_of h)
aways_of = every_of ElsewhereFails Away (λ now before r k. k)
