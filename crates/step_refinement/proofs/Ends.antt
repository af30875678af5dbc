-- The end of a step: what waits begins.
use Rattle.std.proofs.Common.{◌≡◌, ◌≤◌, ℕ, zero, suc, List, [], ◌∷◌, length, Option, Some, None, Bool, true, false, refl, sym, ap, ◌∙◌, subst, inl, inr, arith}
use Rattle.std.specs.Prelude.{◌||◌, ◌*◌, not, filter, find, fold}
use Rattle.std.proofs.lemmas.Bool.{and_parts}
use Rattle.rsct_packet.specs.declared.ids.ViewId.{ViewId}
use Rattle.rsct_packet.specs.declared.ids.ProviderId.{ProviderId}
use Rattle.rsct_packet.specs.Lists.{is_empty}
use Rattle.rsct_packet.specs.Providers.{same_provider, among, differ}
use Rattle.rsct_packet.specs.Search.{Has}
use Rattle.rsct_packet.proofs.HasLaws.{has_filter, has_map}
use Rattle.group_attr.specs.declared.attrs.Attrs.{Attrs}
use Rattle.group_attr.specs.declared.attrs.Phases.{Phases}
use Rattle.proposal_core.specs.declared.entry.Entry.{Entry}
use Rattle.proposal_core.specs.declared.proposal.Failure.{Failure}
use Rattle.proposal_core.specs.declared.proposal.Proposal.{Proposal}
use Rattle.proposal_core.specs.declared.proposal.Proposal.TheVariants.{Join, Fail, Reflect}
use Rattle.proposal_core.specs.declared.group_state.GroupState.{GroupState}
use Rattle.proposal_core.specs.Fold.{empty_state}
use Rattle.proposal_core.specs.Lists.{max_places, list_or_new}
use Rattle.batch_rules.specs.Waiting.{batches_failures, batches_joins, chosen_of, left_of, next_failures, failures_left}
use Rattle.source_target.specs.declared.Due.{Due}
use Rattle.source_target.specs.declared.Due.TheVariants as due
use Rattle.source_target.specs.Due as target
use Rattle.client_callbacks.specs.declared.told.Why.TheVariants.{NoSource}
use Rattle.view_state.specs.declared.exchange.Exchange.{Exchange}
use Rattle.view_state.specs.declared.views.Views.{Views}
use Rattle.view_state.specs.Views.{is_frozen}
use Rattle.node_state.specs.declared.config.Config.{Config}
use Rattle.node_state.specs.declared.group.Decision.{Decision}
use Rattle.node_state.specs.declared.group.GroupRow.{GroupRow}
use Rattle.node_state.specs.declared.group.Led.{Led}
use Rattle.node_state.specs.declared.state.Core.{Core}
use Rattle.node_state.specs.Settings.{is_fixed}
use Rattle.node_state.specs.State.{InNameOrder, row_of, with_row, with_led, led_of, list_of, state_of, frozen, leads, led_groups, decision_of, decisions_with}
use Rattle.node_state.specs.HandOn.{Answering}
use Rattle.node_state.specs.Leading.{with_waiting, begins}
use Rattle.rsct_packet.specs.Ids.{same_view}
use Rattle.client_callbacks.specs.declared.told.Why.{Why}
use Rattle.node_state.specs.Sending.{sent, send_on}
use Rattle.node_state.specs.Deciding.{keep_decision, refused, known_state, lacks_source, source_len}
use Rattle.node_state.specs.Ending.{Pass, quiet, begun_now, failures_begin, due_begins, source_begins, attrs_for, carried_len, source_refused, joins_begin, or_due, or_joins, may_begin, first_begins, group_begins, one_pass, passes, most_begun, end_step}
use Rattle.run_safety.specs.Group.{member}
use Rattle.run_safety.specs.Group as group
use Rattle.run_safety.specs.Requests.{requests_of, proposal_of, carried, carried_by, IsJoin}
use Rattle.run_safety.specs.Moves as moves
use Rattle.step_refinement.specs.Ghost.{asking, Ghost, GathersIf}
use Rattle.step_refinement.specs.Tied.{RowIs, Decided, LeaderKeeps, Scene, Begun, Tied}
use Rattle.step_refinement.proofs.Leads.{leads_known, leads_row}
use Rattle.node_state.proofs.NameOrder.{row_here, led_are_led}
use Rattle.step_refinement.proofs.RowWorks.{waits_of, row_kept}
use Rattle.step_refinement.proofs.ViewRules.{same_of, apart_of}
use Rattle.step_refinement.proofs.Refusals.{refusing}
use Rattle.step_refinement.proofs.Decisions.{NoOlder, Unbegun, Fresh, with_decision, with_here, with_there, decided_still}
use Rattle.step_refinement.proofs.Deciding.{refused_goes}
use Rattle.step_refinement.proofs.Idle.{led_lightens, no_joins}
use Rattle.step_refinement.proofs.Begun.{drop_fewer, led_begun}
use Rattle.step_refinement.proofs.Appending.{MayPut, may_carry_none, busy_open, state_open, Leading, led_goes, begins_goes}
use Rattle.step_refinement.proofs.SessionLaws.{provider_self, provider_same}

-- ---- lists of providers

has_among : (p : ProviderId) (ps : List ProviderId) → Has p ps → among ps p ≡ true
has_among p [] h = absurd h
has_among p (x ∷ ps) (inl e) = ap (λ b. b || among ps p) (ap (λ z. same_provider z p) (sym e) ∙ provider_self p)
has_among p (x ∷ ps) (inr h) = either (same_provider x p) (among ps p) (has_among p ps h)
  where
    either : (a b : Bool) → b ≡ true → (a || b) ≡ true
    either true b e = refl
    either false b e = e

chosen_there : (b : Bool) (xs : List ProviderId) (p : ProviderId) → Has p (chosen_of b xs) → Has p xs
chosen_there true xs p h = h
chosen_there false [] p h = h
chosen_there false (x ∷ xs) p (inl e) = inl e
chosen_there false (x ∷ xs) p (inr z) = absurd z

left_there : (b : Bool) (xs : List ProviderId) (p : ProviderId) → among (left_of b xs) p ≡ true → among xs p ≡ true
left_there true xs p e = absurd (cc)
left_there false [] p e = e
left_there false (x ∷ xs) p e = either (same_provider x p) (among xs p) e
  where
    either : (a b : Bool) → b ≡ true → (a || b) ≡ true
    either true b e = refl
    either false b e = e

left_differ : (b : Bool) (xs : List ProviderId) → differ xs ≡ true → differ (left_of b xs) ≡ true
left_differ true xs e = refl
left_differ false [] e = e
left_differ false (x ∷ xs) e = (and_parts (not (among xs x)) (differ xs) e).1

-- who is chosen waits no longer
chosen_gone : (b : Bool) (xs : List ProviderId) (p : ProviderId) → differ xs ≡ true → Has p (chosen_of b xs) → among (left_of b xs) p ≡ true → ⊥
chosen_gone true xs p d h e = cc
chosen_gone false [] p d h e = h
chosen_gone false (x ∷ xs) p d (inr z) e = z
chosen_gone false (x ∷ xs) p d (inl q) e =
    let a = (and_parts (not (among xs x)) (differ xs) d).0 in
    let b : among xs x ≡ true = subst (λ z. among xs z ≡ true) q e in
    let c : not true ≡ true = ap not (sym b) ∙ a in cc

-- one of them
one_there : (ps : List ProviderId) → is_empty ps ≡ false → (p : ProviderId) × Has p ps
one_there [] e = absurd (cc)
one_there (p ∷ ps) e = (p, inl refl)

-- a join that is about to begin
record Ready (x : Ghost) (v : ViewId) (list : List Entry) (l : Led) (p : ProviderId) : Type 0 where
  pub proposal : Proposal
  pub sent : Has (group.Request v p p.join proposal) x.ps
  pub joins : IsJoin p proposal
  pub decided : Decided l p p.join
  pub fresh : Fresh x v list l p p.join
  pub unshut : Has v x.shut → ⊥

-- a decision on p's join is the last on it
no_older_still : (l : Led) (p q : ProviderId) (why : Option Why) → NoOlder l q q.join → NoOlder (with_decision p p.join why l) q q.join
unfolding decision_of
no_older_still l p q why h d e = by (same_provider p q) refl
  where
    by : (b : Bool) → same_provider p q ≡ b → d.request ≤ q.join
    by true s =
        let same : p ≡ q = provider_same p q s in
        let k : find (λ (z : Decision). same_provider z.provider q) (decisions_with (record { provider = p; request = p.join; why = why }) l.decided) ≡ Some (record { provider = p; request = p.join; why = why }) = ap (λ y. find (λ (z : Decision). same_provider z.provider y) (decisions_with (record { provider = p; request = p.join; why = why }) l.decided)) (sym same) ∙ with_here (record { provider = p; request = p.join; why = why }) l.decided in
        let f : Some (record { provider = p; request = p.join; why = why }) ≡ Some d = sym k ∙ e in
        let c : record { provider = p; request = p.join; why = why } ≡ d = cc in
        let n : d.request ≡ q.join = ap (λ (z : Decision). z.request) (sym c) ∙ ap (λ (z : ProviderId). z.join) same in omega arith
    by false s = h d (sym (with_there (record { provider = p; request = p.join; why = why }) l.decided q s) ∙ e)

module _ (g : List ℕ) (w : Scene) (n : ℕ) (s : Core) (f : Answering) (thawed : s.views.promise ≡ s.views.view) where
  -- what carries no request begins
  plain_begins : (c : Core) (h : List ℕ) (x : Proposal) (phases : Phases) → requests_of x ≡ [] → (h ≡ g → leads s h ≡ true) → (t : Leading g w n s c) → (h ≡ g → Has c.views.view t.tied.ghost.shut → ⊥) → Leading g w n s (begins f c h x phases)
  plain_begins c h x phases none led t unshut =
      begins_goes g w n s f thawed c h x phases led t (λ e d q. may_carry_none t.tied.ghost c.views.view (t.tied.ghost.nodes n).list (row_of c h).led d (ap carried_by q ∙ none) (unshut e))

  abbrev fewer_fail : Core → List ℕ → Led → Led
  fewer_fail c h l = record l { waiting = failures_left (state_of c h).attrs.batch l.waiting }

  abbrev who_fails : Core → List ℕ → GroupState → List Failure
  who_fails c h st = filter (λ (x : Failure). among st.members x.provider) (next_failures (state_of c h).attrs.batch (led_of c h).waiting)

  -- where a member fails, there is a list
  fails_unshut : (c : Core) (h : List ℕ) → (h ≡ g → leads s h ≡ true) → InNameOrder c.groups → (t : Leading g w n s (with_led c h (fewer_fail c h))) → is_empty (who_fails c h (state_of c h)) ≡ false → h ≡ g → Has c.views.view t.tied.ghost.shut → ⊥
  unfolding with_led with_row state_of list_of
  fails_unshut c h led order t some same =
      state_open g w n s (with_led c h (fewer_fail c h)) h t led same (λ e. none (ap (λ (row : GroupRow). (list_or_new row.list).state) (sym (row_here h (λ row. record row { led = fewer_fail c h row.led }) (λ x. refl) c order)) ∙ e))
    where
      nobody : (xs : List Failure) → is_empty (filter (λ (x : Failure). among [] x.provider) xs) ≡ true
      nobody [] = refl
      nobody (x ∷ xs) = nobody xs

      none : state_of c h ≡ empty_state → ⊥
      none e =
          let z : is_empty (who_fails c h (state_of c h)) ≡ true = ap (λ (st : GroupState). is_empty (who_fails c h st)) e ∙ nobody (next_failures (state_of c h).attrs.batch (led_of c h).waiting) in
          let y : true ≡ false = sym z ∙ some in cc

  failures_end : (fuel : ℕ) (c : Core) (h : List ℕ) → (h ≡ g → leads s h ≡ true) → Leading g w n s c → Leading g w n s (failures_begin fuel f c h).core
  unfolding failures_begin with_waiting with_led with_row
  failures_end zero c h led t = t
  failures_end (suc k) c h led t = by (is_empty out) refl (failures_end k)
    where
      out : List Failure
      out = filter (λ (x : Failure). among (state_of c h).members x.provider) (next_failures (state_of c h).attrs.batch (led_of c h).waiting)

      now : Leading g w n s (with_led c h (λ l. record l { waiting = failures_left (state_of c h).attrs.batch l.waiting }))
      now = led_goes g w n s c h (λ l. record l { waiting = failures_left (state_of c h).attrs.batch l.waiting }) (λ l. (refl, refl, refl)) t

      by : (b : Bool) → is_empty out ≡ b → ((d : Core) (j : List ℕ) → (j ≡ g → leads s j ≡ true) → Leading g w n s d → Leading g w n s (failures_begin k f d j).core) → Leading g w n s (elim b as (λ _. Pass) [ true ↦ failures_begin k f (with_led c h (λ l. record l { waiting = failures_left (state_of c h).attrs.batch l.waiting })) h | false ↦ begun_now (begins f (with_led c h (λ l. record l { waiting = failures_left (state_of c h).attrs.batch l.waiting })) h (Fail (filter (λ (x : Failure). among (state_of c h).members x.provider) (next_failures (state_of c h).attrs.batch (led_of c h).waiting))) (state_of c h).attrs.phases) ]).core
      by true e rest = rest (with_led c h (λ l. record l { waiting = failures_left (state_of c h).attrs.batch l.waiting })) h led now
      by false e rest = plain_begins (with_led c h (λ l. record l { waiting = failures_left (state_of c h).attrs.batch l.waiting })) h (Fail (filter (λ (x : Failure). among (state_of c h).members x.provider) (next_failures (state_of c h).attrs.batch (led_of c h).waiting))) (state_of c h).attrs.phases refl led now (fails_unshut c h led t.tied.own.0.order now e)

  due_end : (c : Core) (h : List ℕ) (st : GroupState) (k : List ℕ) (o : Option Due) → (h ≡ g → leads s h ≡ true) → (t : Leading g w n s c) → (h ≡ g → Has c.views.view t.tied.ghost.shut → ⊥) → Leading g w n s (due_begins f c h st k o).core
  unfolding due_begins
  due_end c h st k None led t unshut = t
  due_end c h st k (Some (due.CastOut out)) led t unshut = plain_begins c h (Fail (chosen_of (batches_failures st.attrs.batch) out)) st.attrs.phases refl led t unshut
  due_end c h st k (Some (due.Reflect v i)) led t unshut = plain_begins c h (Reflect v i (state_of c k).value) st.attrs.source_phases refl led t unshut

  source_end : (c : Core) (h : List ℕ) (st : GroupState) (o : Option (List ℕ)) → (state_of c h).attrs.source ≡ o → (h ≡ g → leads s h ≡ true) → Leading g w n s c → Leading g w n s (source_begins f c h st o).core
  unfolding source_begins
  source_end c h st None is led t = t
  source_end c h st (Some k) is led t =
      due_end c h st k (target.due st (known_state c k)) led t (λ e. state_open g w n s c h t led e (λ none. let z : Some k ≡ None = sym is ∙ ap (λ (st : GroupState). st.attrs.source) none in cc))

  -- ---- joins

  -- who is chosen, and who is left to wait
  module _ (c : Core) (h : List ℕ) (b : Bool) (t : Leading g w n s c) (led : h ≡ g → leads s h ≡ true) where
    abbrev L : Led → Led
    L l = record l { waiting = record (l.waiting) { joins = left_of b l.waiting.joins } }

    abbrev R : GroupRow → GroupRow
    R row = record row { led = L row.led }

    abbrev d : Core
    d = with_row c h R

    known : h ≡ g → t.tied.ghost.leads c.views.view ≡ Some (member n c.views.inc)
    known e = leads_known g w n c t.tied (t.leads g ∙ subst (λ z. leads s z ≡ true) e (led e))

    keeps : h ≡ g → RowIs t.tied.ghost n c.views.view c.views.members (row_of c h) × LeaderKeeps t.tied.ghost n c.views.inc c.views.view (row_of c h).led
    keeps e =
        let P : List ℕ → Type 0 = λ z. RowIs t.tied.ghost n c.views.view c.views.members (row_of c z) × LeaderKeeps t.tied.ghost n c.views.inc c.views.view (row_of c z).led in
        subst P (sym e) (t.tied.own.0.row_is, t.tied.own.0.decides)

    fewer : h ≡ g → LeaderKeeps t.tied.ghost n c.views.inc c.views.view (L (row_of c h).led)
    unfolding decision_of
    fewer e =
        let k = (keeps e).1 in
        record {
          refused = λ q r a o i. let z = k.refused q r a o i in record { last = z.last; kept_it = z.kept_it; later = z.later };
          begun = λ q r i x a y z. let z = k.begun q r i x a y z in record { last = z.last; kept_it = z.kept_it; later = z.later };
          waiting = λ q a i. let z = k.waiting q a (left_there b (row_of c h).led.waiting.joins q i) in
              record { proposal = z.proposal; sent = z.sent; joins = z.joins; open_still = z.open_still; unbegun = z.unbegun; decided = record { last = z.decided.last; kept_it = z.decided.kept_it; later = z.decided.later } };
          later = k.later;
          again = k.again;
          leads_it = λ q i. k.leads_it q (left_there b (row_of c h).led.waiting.joins q i);
          apart = left_differ b (row_of c h).led.waiting.joins k.apart;
          lasts = λ q z i. k.lasts q z (left_there b (row_of c h).led.waiting.joins q i);
        }

    left_row : (u : Leading g w n s d) × (u.tied.ghost ≡ t.tied.ghost)
    unfolding with_row
    left_row =
        let k = row_kept g w n c t.tied h R (λ x. refl) (led_lightens L (λ l. drop_fewer b l.waiting.joins)) (λ p i. waits_of g w n c t.tied h p (left_there b (row_of c h).led.waiting.joins p i)) new in
        (record { tied = k.0; same = t.same; leads = λ z. leads_row c h R (λ x. refl) (λ x. refl) t.tied.own.0.order z ∙ t.leads z }, k.1)
      where
        new : h ≡ g → RowIs t.tied.ghost n c.views.view c.views.members (R (row_of c h)) × LeaderKeeps t.tied.ghost n c.views.inc c.views.view (L (row_of c h).led)
        new e = let k = (keeps e).0 in (record { list = k.list; stable = k.stable; leader = k.leader; acked = k.acked; covers = k.covers }, fewer e)

    row_now : row_of d h ≡ R (row_of c h)
    row_now = row_here h R (λ x. refl) c t.tied.own.0.order

    pub left_end : Leading g w n s d
    left_end = left_row.0

    -- one that is chosen
    chosen_asked : (p : ProviderId) → Has p (chosen_of b (row_of c h).led.waiting.joins) → Has (asking p p.join h) left_end.tied.ghost.asked
    unfolding left_end
    chosen_asked p i =
        subst (λ (z : Ghost). Has (asking p p.join h) z.asked) (sym left_row.1) (waits_of g w n c t.tied h p (has_among p (row_of c h).led.waiting.joins (chosen_there b (row_of c h).led.waiting.joins p i)))

    chosen_ready : h ≡ g → (p : ProviderId) → Has p (chosen_of b (row_of c h).led.waiting.joins) → Ready left_end.tied.ghost d.views.view (left_end.tied.ghost.nodes n).list (row_of d h).led p × NoOlder (row_of d h).led p p.join
    unfolding left_end decision_of with_row
    chosen_ready e p i =
        let l : Led = (row_of c h).led in
        let there : among l.waiting.joins p ≡ true = has_among p l.waiting.joins (chosen_there b l.waiting.joins p i) in
        let k = (keeps e).1.waiting p (known e) there in
        let gone = chosen_gone b l.waiting.joins p (keeps e).1.apart i in
        let P : Ghost → Led → Type 0 = λ z y. Ready z c.views.view (z.nodes n).list y p × NoOlder y p p.join in
        let here : P t.tied.ghost (L l) = (record { proposal = k.proposal; sent = k.sent; joins = k.joins; decided = record { last = k.decided.last; kept_it = k.decided.kept_it; later = k.decided.later }; fresh = record { unrefused = k.open_still; unbegun = k.unbegun; unwaiting = λ z q. gone z }; unshut = busy_open g w n s c h t led e (λ none idle. let z : among [] p ≡ true = subst (λ js. among js p ≡ true) idle there in cc) }, λ z q. (keeps e).1.lasts p z there q) in
        subst (λ (z : Ghost × Led). P z.0 z.1) (λ j. (sym left_row.1 j, sym (ap (λ (y : GroupRow). y.led) row_now) j)) here

  -- some are to be refused, and others are about to begin
  record Refusing (h : List ℕ) (ps out : List ProviderId) (c : Core) : Type 0 where
    pub ends : Leading g w n s c
    pub asked : (p : ProviderId) → Has p out → Has (asking p p.join h) ends.tied.ghost.asked
    pub still : h ≡ g → (p : ProviderId) → Has p out → NoOlder (row_of c h).led p p.join × Unbegun (ends.tied.ghost.nodes n).list (row_of c h).led p p.join
    pub ready : h ≡ g → (p : ProviderId) → Has p ps → Ready ends.tied.ghost c.views.view (ends.tied.ghost.nodes n).list (row_of c h).led p × NoOlder (row_of c h).led p p.join

  module _ (h : List ℕ) (led : h ≡ g → leads s h ≡ true) (ps out : List ProviderId) (q : ProviderId) (c : Core) (t : Refusing h ps (q ∷ out) c) (apart : (p : ProviderId) → Has p ps → q ≡ p → ⊥) (places : ℕ) where
    abbrev N : GroupRow → GroupRow
    N row = record row { led = with_decision q q.join (Some (NoSource places)) row.led }

    goes_on : (u : Leading g w n s (refused c h q q.join (NoSource places))) × (u.tied.ghost.asked ≡ t.ends.tied.ghost.asked) × (h ≡ g → u.tied.ghost ≡ refusing t.ends.tied.ghost c.views.view q q.join)
    goes_on =
        refused_goes g w n s c h q q.join (NoSource places) t.ends (λ e. (t.still e q (inl refl)).0) (λ e i. omega arith) led (λ e. (t.still e q (inl refl)).1) (t.asked q (inl refl))

    row_after : (row_of (refused c h q q.join (NoSource places)) h).led ≡ with_decision q q.join (Some (NoSource places)) (row_of c h).led
    unfolding refused keep_decision with_led sent send_on row_of
    row_after = ap (λ (y : GroupRow). y.led) (row_here h N (λ x. refl) c t.ends.tied.own.0.order)

    views_after : (refused c h q q.join (NoSource places)).views ≡ c.views
    unfolding refused keep_decision with_led with_row sent send_on
    views_after = refl

    -- one more is refused
    refuse_one : Refusing h ps out (refused c h q q.join (NoSource places))
    refuse_one =
        record {
          ends = goes_on.0;
          asked = λ p i. subst (Has (asking p p.join h)) (sym goes_on.1) (t.asked p (inr i));
          still = λ e p i. let k = t.still e p (inr i) in still e p k.0 k.1;
          ready = λ e p i. let k = t.ready e p i in ready e p (apart p i) k.0 k.1;
        }
      where
        x : Ghost
        x = t.ends.tied.ghost

        still : h ≡ g → (p : ProviderId) → NoOlder (row_of c h).led p p.join → Unbegun (t.ends.tied.ghost.nodes n).list (row_of c h).led p p.join → NoOlder (row_of (refused c h q q.join (NoSource places)) h).led p p.join × Unbegun (goes_on.0.tied.ghost.nodes n).list (row_of (refused c h q q.join (NoSource places)) h).led p p.join
        still e p a b =
            subst (λ (z : Ghost × Led). NoOlder z.1 p p.join × Unbegun (z.0.nodes n).list z.1 p p.join) (λ j. (sym (goes_on.2 e) j, sym row_after j)) (no_older_still (row_of c h).led q p (Some (NoSource places)) a, record { unbegun = b.unbegun; unwaiting = b.unwaiting })

        unrefused : (p : ProviderId) → (q ≡ p → ⊥) → (Has (group.Refusal c.views.view p p.join) t.ends.tied.ghost.ps → ⊥) → Has (group.Refusal c.views.view p p.join) (group.Refusal c.views.view q q.join ∷ t.ends.tied.ghost.ps) → ⊥
        unrefused p ne a (inr i) = a i
        unrefused p ne a (inl i) = let z : q ≡ p = cc in ne z

        ready : h ≡ g → (p : ProviderId) → (q ≡ p → ⊥) → Ready t.ends.tied.ghost c.views.view (t.ends.tied.ghost.nodes n).list (row_of c h).led p → NoOlder (row_of c h).led p p.join → Ready goes_on.0.tied.ghost (refused c h q q.join (NoSource places)).views.view (goes_on.0.tied.ghost.nodes n).list (row_of (refused c h q q.join (NoSource places)) h).led p × NoOlder (row_of (refused c h q q.join (NoSource places)) h).led p p.join
        ready e p ne a b =
            let P : Ghost → Views → Led → Type 0 = λ z v l. Ready z v.view (z.nodes n).list l p × NoOlder l p p.join in
            let now : P (refusing t.ends.tied.ghost c.views.view q q.join) c.views (with_decision q q.join (Some (NoSource places)) (row_of c h).led) = (record { proposal = a.proposal; sent = inr a.sent; joins = a.joins; decided = decided_still (row_of c h).led q q.join (Some (NoSource places)) (t.still e q (inl refl)).0 p p.join a.decided; fresh = record { unrefused = unrefused p ne a.fresh.unrefused; unbegun = a.fresh.unbegun; unwaiting = a.fresh.unwaiting }; unshut = a.unshut }, no_older_still (row_of c h).led q p (Some (NoSource places)) b) in
            subst (λ (z : Ghost × Views × Led). P z.0 z.1 z.2) (λ j. (sym (goes_on.2 e) j, sym views_after j, sym row_after j)) now

  refuse_all : (h : List ℕ) → (h ≡ g → leads s h ≡ true) → (src : Option (List ℕ)) (ps out : List ProviderId) → ((q p : ProviderId) → Has q out → Has p ps → q ≡ p → ⊥) → (c : Core) → Refusing h ps out c → Refusing h ps [] (fold (λ d (p : ProviderId). refused d h p p.join (NoSource (source_len d src))) c out)
  refuse_all h led src ps [] apart c t = t
  refuse_all h led src ps (q ∷ out) apart c t =
      refuse_all h led src ps out (λ a p i j. apart a p (inr i) j) (refused c h q q.join (NoSource (source_len c src))) (refuse_one h led ps out q c t (λ p i e. apart q p (inl refl) i e) (source_len c src))

  -- joins begin
  begin_joins : (h : List ℕ) → (h ≡ g → leads s h ≡ true) → (ps : List ProviderId) → is_empty ps ≡ false → (c : Core) → Refusing h ps [] c → (a : Attrs) (len : Option ℕ) (phases : Phases) → Leading g w n s (begins f c h (Join ps a len) phases)
  begin_joins h led ps some c t a len phases =
      begins_goes g w n s f thawed c h (Join ps a len) phases led t.ends may
    where
      x : Ghost
      x = t.ends.tied.ghost

      of_list : (e : Entry) → proposal_of e ≡ Some (Join ps a len) → (q : ProviderId) (k : ℕ) → Has (q, k) (carried e) → (p : ProviderId) × Has p ps × (q ≡ p) × (k ≡ p.join)
      of_list e is q k i =
          let j = has_map (λ (p : ProviderId). (p, p.join)) (q, k) ps (subst (λ z. Has {A = ProviderId × ℕ} (q, k) (carried_by z)) is i) in
          (j.0, j.1, ap (λ (z : ProviderId × ℕ). z.0) j.2, ap (λ (z : ProviderId × ℕ). z.1) j.2)

      may : h ≡ g → (e : Entry) → proposal_of e ≡ Some (Join ps a len) → MayPut t.ends.tied.ghost c.views.view (t.ends.tied.ghost.nodes n).list (row_of c h).led e
      may same e is =
          record {
            due = λ q k i. let j = of_list e is q k i in
                let y = (t.ready same j.0 j.1).0 in
                subst (λ (z : ProviderId × ℕ). moves.Due t.ends.tied.ghost.ps c.views.view (t.ends.tied.ghost.nodes n).list e z.0 z.1) (λ l. (sym j.2 l, sym j.3 l)) (record { sent = (y.proposal, y.sent, (Join ps a len, is, inr (y.joins, has_among j.0 ps j.1))); open_still = y.fresh.unrefused; unbegun = y.fresh.unbegun });
            decided = λ q k i. let j = of_list e is q k i in
                subst (λ (z : ProviderId × ℕ). Decided (row_of c h).led z.0 z.1) (λ l. (sym j.2 l, sym j.3 l)) (t.ready same j.0 j.1).0.decided;
            waits_not = λ q i k. let j = of_list e is q q.join k in
                (t.ready same j.0 j.1).0.fresh.unwaiting (subst (λ z. among (row_of c h).led.waiting.joins z ≡ true) j.2 i) refl;
            unshut = let j = one_there ps some in (t.ready same j.0 j.1).0.unshut;
          }

  joins_end : (fuel : ℕ) (c : Core) (h : List ℕ) → (h ≡ g → leads s h ≡ true) → Leading g w n s c → Leading g w n s (joins_begin fuel f c h).core
  unfolding joins_begin with_waiting with_led source_refused led_of
  joins_end zero c h led t = t
  joins_end (suc k) c h led t = by (joins_end k)
    where
      b : Bool
      b = batches_joins (state_of c h).attrs.batch

      chosen : List ProviderId
      chosen = chosen_of (batches_joins (state_of c h).attrs.batch) (row_of c h).led.waiting.joins

      a : Attrs
      a = attrs_for (state_of c h) (row_of c h).led.join_attrs chosen

      ps : List ProviderId
      ps = filter (λ (p : ProviderId). not (lacks_source c a.source p.node)) chosen

      out : List ProviderId
      out = filter (λ (p : ProviderId). lacks_source c a.source p.node) chosen

      base : Core
      base = d c h b t led

      first : Leading g w n s base
      first = left_end c h b t led

      refusing_now : Refusing h ps out base
      refusing_now =
          record {
            ends = first;
            asked = λ p i. chosen_asked c h b t led p (has_filter (λ (p : ProviderId). lacks_source c a.source p.node) p chosen i).0;
            still = λ e p i. let y = chosen_ready c h b t led e p (has_filter (λ (p : ProviderId). lacks_source c a.source p.node) p chosen i).0 in
                (y.1, record { unbegun = y.0.fresh.unbegun; unwaiting = y.0.fresh.unwaiting });
            ready = λ e p i. chosen_ready c h b t led e p (has_filter (λ (p : ProviderId). not (lacks_source c a.source p.node)) p chosen i).0;
          }

      apart : (q p : ProviderId) → Has q out → Has p ps → q ≡ p → ⊥
      apart q p i j e =
          let y = (has_filter (λ (p : ProviderId). lacks_source c a.source p.node) q chosen i).1 in
          let z = (has_filter (λ (p : ProviderId). not (lacks_source c a.source p.node)) p chosen j).1 in
          let u : not (lacks_source c a.source q.node) ≡ true = subst (λ (r : ProviderId). not (lacks_source c a.source r.node) ≡ true) (sym e) z in
          let v : not true ≡ true = ap not (sym y) ∙ u in cc

      after : Core
      after = fold (λ t (p : ProviderId). refused t h p p.join (NoSource (source_len t a.source))) base out

      done : Refusing h ps [] after
      done = refuse_all h led a.source ps out apart base refusing_now

      at : (e : Bool) → is_empty ps ≡ e → ((c : Core) (h : List ℕ) → (h ≡ g → leads s h ≡ true) → Leading g w n s c → Leading g w n s (joins_begin k f c h).core) → Leading g w n s (elim e as (λ _. Pass) [ true ↦ joins_begin k f after h | false ↦ begun_now (begins f after h (Join ps a (carried_len after a.source)) a.phases) ]).core
      at true e rest = rest after h led done.ends
      at false e rest = begin_joins h led ps e after done a (carried_len after a.source) a.phases

      by : ((c : Core) (h : List ℕ) → (h ≡ g → leads s h ≡ true) → Leading g w n s c → Leading g w n s (joins_begin k f c h).core) → Leading g w n s (elim (is_empty ps) as (λ _. Pass) [ true ↦ joins_begin k f after h | false ↦ begun_now (begins f after h (Join ps a (carried_len after a.source)) a.phases) ]).core
      by rest = at (is_empty ps) refl rest

  -- ---- passes

  due_or : (h : List ℕ) → (h ≡ g → leads s h ≡ true) → (p : Pass) → Leading g w n s p.core → Leading g w n s (or_due f h p).core
  unfolding or_due
  due_or h led p t = by p.began
    where
      by : (b : Bool) → Leading g w n s (elim b as (λ _. Pass) [ true ↦ p | false ↦ source_begins f p.core h (state_of p.core h) (state_of p.core h).attrs.source ]).core
      by true = t
      by false = source_end p.core h (state_of p.core h) (state_of p.core h).attrs.source refl led t

  joins_or : (h : List ℕ) → (h ≡ g → leads s h ≡ true) → (p : Pass) → Leading g w n s p.core → Leading g w n s (or_joins f h p).core
  unfolding or_joins
  joins_or h led p t = by p.began
    where
      by : (b : Bool) → Leading g w n s (elim b as (λ _. Pass) [ true ↦ p | false ↦ joins_begin (length (led_of p.core h).waiting.joins) f p.core h ]).core
      by true = t
      by false = joins_end (length (led_of p.core h).waiting.joins) p.core h led t

  first_end : (c : Core) (h : List ℕ) (row : GroupRow) → (h ≡ g → leads s h ≡ true) → Leading g w n s c → Leading g w n s (first_begins f c h row).core
  unfolding first_begins
  first_end c h row led t = by (may_begin (list_or_new row.list))
    where
      by : (b : Bool) → Leading g w n s (elim b as (λ _. Pass) [ false ↦ quiet c | true ↦ or_joins f h (or_due f h (failures_begin (length row.led.waiting.failures) f c h)) ]).core
      by false = t
      by true =
          joins_or h led (or_due f h (failures_begin (length row.led.waiting.failures) f c h)) (due_or h led (failures_begin (length row.led.waiting.failures) f c h) (failures_end (length row.led.waiting.failures) c h led t))

  group_end : (fuel : ℕ) (h : List ℕ) → (h ≡ g → leads s h ≡ true) → (p : Pass) → Leading g w n s p.core → Leading g w n s (group_begins fuel f h p).core
  unfolding group_begins
  group_end zero h led p t = t
  group_end (suc k) h led p t = by (first_begins f p.core h (row_of p.core h)) (first_end p.core h (row_of p.core h) led t) (group_end k)
    where
      by : (q : Pass) → Leading g w n s q.core → ((h : List ℕ) → (h ≡ g → leads s h ≡ true) → (p : Pass) → Leading g w n s p.core → Leading g w n s (group_begins k f h p).core) → Leading g w n s (elim q.began as (λ _. Pass) [ true ↦ group_begins k f h q | false ↦ record { core = q.core; began = p.began } ]).core
      by q u rest = at q.began
        where
          at : (b : Bool) → Leading g w n s (elim b as (λ _. Pass) [ true ↦ group_begins k f h q | false ↦ record { core = q.core; began = p.began } ]).core
          at true = rest h led q u
          at false = u

  groups_end : (most : ℕ) (hs : List (List ℕ)) → ((h : List ℕ) → Has h hs → leads s h ≡ true) → (p : Pass) → Leading g w n s p.core → Leading g w n s (fold (λ p h. group_begins most f h p) p hs).core
  groups_end most [] all p t = t
  groups_end most (h ∷ hs) all p t = groups_end most hs (λ k i. all k (inr i)) (group_begins most f h p) (group_end most h (λ e. all h (inl refl)) p t)

  pass_end : (most : ℕ) (c : Core) → Leading g w n s c → Leading g w n s (one_pass most f c).core
  unfolding one_pass
  pass_end most c t =
      groups_end most (led_groups c) (λ h i. sym (t.leads h) ∙ led_are_led c h t.tied.own.0.order i) (quiet c) t

  passes_end : (fuel most : ℕ) (c : Core) → Leading g w n s c → Leading g w n s (passes fuel most f c)
  unfolding passes
  passes_end zero most c t = t
  passes_end (suc k) most c t = by (one_pass most f c) (pass_end most c t) (passes_end k)
    where
      by : (p : Pass) → Leading g w n s p.core → ((most : ℕ) (c : Core) → Leading g w n s c → Leading g w n s (passes k most f c)) → Leading g w n s (elim p.began as (λ _. Core) [ true ↦ passes k most f p.core | false ↦ p.core ])
      by p u rest = at p.began
        where
          at : (b : Bool) → Leading g w n s (elim b as (λ _. Core) [ true ↦ passes k most f p.core | false ↦ p.core ])
          at true = rest most p.core u
          at false = u

-- the end of a step
pub step_end_tied : (g : List ℕ) (w : Scene) (n : ℕ) (f : Answering) (s : Core) → Tied g w n s → Tied g w n (end_step f s)
unfolding end_step frozen is_frozen
step_end_tied g w n f s t = by (same_view s.views.promise s.views.view) refl
  where
    by : (b : Bool) → same_view s.views.promise s.views.view ≡ b → Tied g w n (elim (not b) as (λ _. Core) [ true ↦ s | false ↦ passes (most_begun s) (most_begun s) f s ])
    by false e = t
    by true e =
        (passes_end g w n s f (same_of s.views.promise s.views.view e) (most_begun s) (most_begun s) s (record { tied = t; same = refl; leads = λ k. refl })).tied

-- and in mode fixed no join of a group that the node leads is left waiting without a list
pub step_begun : (g : List ℕ) (w : Scene) (n : ℕ) (f : Answering) (s : Core) → Tied g w n s → Begun g (end_step f s)
unfolding end_step frozen is_frozen most_begun
step_begun g w n f s t = by (same_view s.views.promise s.views.view) refl
  where
    promised : (o : Option Exchange) → GathersIf t.ghost g n s.views.inc s.views.view s.views.promise o → t.ghost.asks ≡ false → s.views.promise ≡ s.views.view
    promised None h a = h a
    promised (Some e) h a = absurd (let z : true ≡ false = sym h.asks ∙ a in cc)

    by : (b : Bool) → same_view s.views.promise s.views.view ≡ b → Begun g (elim (not b) as (λ _. Core) [ true ↦ s | false ↦ passes (suc (length s.groups * max_places)) (suc (length s.groups * max_places)) f s ])
    by false e fixed led bare =
        absurd (apart_of s.views.promise s.views.view e (promised s.views.gathering t.own.0.gathering (t.own.0.asks ∙ ap not fixed)))
    by true e fixed led bare =
        let most : ℕ = length s.groups * max_places in
        let u = passes_end g w n s f (same_of s.views.promise s.views.view e) (suc most) (suc most) s (record { tied = t; same = refl; leads = λ k. refl }) in
        let same : (passes (suc most) (suc most) f s).config ≡ s.config = u.tied.own.1 ∙ sym t.own.1 in
        let was : is_fixed s.config.mode ≡ true = ap (λ (z : Config). is_fixed z.mode) (sym same) ∙ fixed in
        no_joins (row_of (passes (suc most) (suc most) f s) g).led.waiting.joins (led_begun g f most most s t.own.0.order (sym (u.leads g) ∙ led) (t.own.0.idles.few was) bare)
