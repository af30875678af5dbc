-- A step leaves whoever takes part by the records a provider that takes part, and lets it hear each put.
use Rattle.std.proofs.Common.{◌≡◌, ◌≢◌, ◌⊎◌, ℕ, List, [], ◌∷◌, ◌++◌, Some, Bool, true, false, refl, sym, ap, ◌∙◌, subst, inl, inr, append-nil}
use Rattle.std.specs.Prelude.{◌&&◌, not, reverse}
use Rattle.std.specs.List.{list_any}
use Rattle.std.proofs.lemmas.Bool.{eq-eqb, or_parts}
use Rattle.rsct_packet.specs.declared.ids.ProviderId.{ProviderId}
use Rattle.rsct_packet.specs.declared.ids.ViewId.{ViewId}
use Rattle.rsct_packet.specs.Search.{Has}
use Rattle.rsct_packet.proofs.HasLaws.{has_append, find_has, has_reverse}
use Rattle.proposal_core.specs.declared.proposal.Proposal.{Proposal}
use Rattle.proposal_core.specs.declared.group_state.GroupState.{GroupState}
use Rattle.session_state.specs.declared.state.Provider.{Provider}
use Rattle.session_state.specs.declared.state.SessionState.{SessionState}
use Rattle.session_state.specs.State.{provider_of, is_provider}
use Rattle.node_state.specs.declared.call.CallLine.{CallLine}
use Rattle.node_state.specs.declared.call.CallLine.TheVariants as call
use Rattle.node_state.specs.declared.config.Config.{Config}
use Rattle.node_state.specs.declared.group.GroupRow.{GroupRow}
use Rattle.node_state.specs.declared.happened.Happened.{Happened}
use Rattle.node_state.specs.declared.happened.Happened.TheVariants as happened
use Rattle.node_state.specs.declared.state.Core.{Core}
use Rattle.node_state.specs.State.{InNameOrder, row_of, list_of, state_of, len_of}
use Rattle.node_state.specs.HandOn.{Answering}
use Rattle.node_state.specs.Calls.{take_call}
use Rattle.node_state.specs.Step.{NodeEvent, Ticks, Asks, Given, Calls, Garbage, at_work, stepped}
use Rattle.view_state.specs.declared.views.Views.{Views}
use Rattle.world_model.specs.declared.event.Event.{Event}
use Rattle.world_model.specs.declared.event.Event.TheVariants as event
use Rattle.run_safety.specs.Past.{History, Within, earlier, records_of, inc_now}
use Rattle.run_safety.specs.Stays.{Stay, stays, client_of, is_named, goodbye_of, is_refused, ends, was_let_go}
use Rattle.step_refinement.specs.Tied.{Scene, NodeIsIf, Rests, InTurn}
use Rattle.step_refinement.specs.Rules.{over, ended, Arises}
use Rattle.step_refinement.specs.Runs.{Reached}
use Rattle.step_refinement.specs.Runs as runs
use Rattle.step_refinement.proofs.Begins.{begin_tied}
use Rattle.step_refinement.proofs.Calls.{call_is_tied}
use Rattle.step_refinement.proofs.Changed.{each_set}
use Rattle.step_refinement.proofs.RunLaw.{reached_rests}
use Rattle.step_refinement.proofs.SessionLaws.{provider_same}
use Rattle.row_laws.proofs.hearing.Listening.{steps_change}
use Rattle.provider_laws.proofs.attending.Law.{step_fine}
use Rattle.provider_laws.proofs.attending.Staying.{InStay}
use Rattle.provider_laws.proofs.attending.Ordering.{Ordered, ordered_does}
use Rattle.provider_laws.proofs.attending.OrderLaw.{node_placed, begin_ordered}
use Rattle.provider_laws.proofs.attending.Fresh.{fresh_now}
use Rattle.provider_laws.proofs.attending.Living.{lively_now}
use Rattle.run_laws.specs.seen_runs.Seen.{Seen}
use Rattle.run_laws.proofs.seen_runs.Law.{traces_seen}
use Rattle.row_laws.specs.failed_rows.Scenes.{Names}
use Rattle.row_laws.proofs.failed_rows.Origin.{root_of}
use Rattle.row_laws.proofs.failed_rows.Owners.{goodbye_named}
use Rattle.provider_laws.specs.leaving.Scenes.{IsCall}
use Rattle.provider_laws.proofs.leaving.Events.{any_none}
use Rattle.provider_laws.proofs.leaving.Keeping.{KeptIf, Clean}
use Rattle.run_laws.specs.gapless.Takers.{Taker, Stood, AskedJoin, Dissolving}
use Rattle.run_laws.proofs.gapless.Growing.{Over}
use Rattle.run_laws.proofs.gapless.Standing.{JoinWaits, Law}
use Rattle.run_laws.proofs.gapless.Keeping.{Standing, Inv_at, standing_keeps}
use Rattle.run_laws.proofs.gapless.TakerWalk.{on_stepped}
use Rattle.run_laws.proofs.gapless.Calls.{CallRecord, Leaves, Made, call_made}
use Rattle.run_laws.proofs.gapless.Adding.{Walked, Added, added_keeps}
use Rattle.run_laws.proofs.gapless.Resting.{Known, KnownIf, WaitsIf, Rested, spared_before, dissolving_gone, over_all, known_on}

walked_taken : (n : ℕ) (r : Happened) → Walked n r → is_refused r ≡ false
walked_taken n (happened.Refused m c fault) a = absurd a
walked_taken n _ a = refl

-- ---- what a call records leaves the stays, and puts nothing

call_stays : (u : SessionState) (n : ℕ) (g : List ℕ) (rs xs : List Happened) → ((r : Happened) → Has r rs → CallRecord u r) → stays n g (rs ++ xs) ≡ stays n g xs
call_stays u n g [] xs all = refl
call_stays u n g (happened.Up m j ∷ rs) xs all = absurd (all (happened.Up m j) (inl refl))
call_stays u n g (happened.Down m ∷ rs) xs all = absurd (all (happened.Down m) (inl refl))
call_stays u n g (happened.In m v ms ∷ rs) xs all = absurd (all (happened.In m v ms) (inl refl))
call_stays u n g (happened.Base m v h w len s ∷ rs) xs all = absurd (all (happened.Base m v h w len s) (inl refl))
call_stays u n g (happened.Put m v h i e ∷ rs) xs all = absurd (all (happened.Put m v h i e) (inl refl))
call_stays u n g (r ∷ rs) xs all = call_stays u n g rs xs (λ q i. all q (inr i))

module _ (n : ℕ) (before : History) (p : ProviderId) (node : p.node ≡ n) (final : List Happened) (u : SessionState) where
  call_law : (now : List Happened) (r : Happened) → CallRecord u r → Law n before p node final now before r
  call_law now (happened.Put m v g i e) a = absurd a
  call_law now _ a = tt

  call_within : (rs : List Happened) → ((r : Happened) → Has r rs → CallRecord u r) → Within (Law n before p node final) rs before
  call_within [] all = tt
  call_within (r ∷ rs) all = (call_law rs r (all r (inl refl)), call_within rs (λ q i. all q (inr i)))

-- a join that is asked for in these records, or before them
asked_split : (g : List ℕ) (p : ProviderId) (rs xs : List Happened) → AskedJoin g p (rs ++ xs) → AskedJoin g p rs ⊎ AskedJoin g p xs
asked_split g p rs xs a = by (has_append (happened.Asked p p.join g a.proposal) rs xs a.there)
  where
    by : Has (happened.Asked p p.join g a.proposal) rs ⊎ Has (happened.Asked p p.join g a.proposal) xs → AskedJoin g p rs ⊎ AskedJoin g p xs
    by (inl i) = inl (record { proposal = a.proposal; there = i; joins = a.joins })
    by (inr i) = inr (record { proposal = a.proposal; there = i; joins = a.joins })

-- the lists are those of the rows
rows_len : (s t : Core) → t.groups ≡ s.groups → (g : List ℕ) → (len_of t g ≡ len_of s g) × (state_of t g ≡ state_of s g)
unfolding len_of state_of list_of row_of
rows_len s t e g = (ap (λ (rows : List GroupRow). len_of (record s { groups = rows }) g) e, ap (λ (rows : List GroupRow). state_of (record s { groups = rows }) g) e)

-- ---- a step

module _ (c : Config) (w : Scene) (n : ℕ) (f : Answering) (s : Core) (e : NodeEvent) (v : Event) (reached : Reached c w) (up : w.cores n ≡ Some s) (arises : Arises w e) (says : Names n e v) (is : IsCall n e v) (clean : Clean w) (k : Rested w) where
  abbrev pub rests : (g : List ℕ) → Rests g w
  rests g = reached_rests c w reached g

  abbrev pub t : Core
  t = stepped f s e

  abbrev pub root : Core
  root = root_of (at_work s) e

  abbrev pub after : History
  after = over v t ∷ w.before

  here : NodeIsIf w.config (rests []).ghost [] n (w.incs n) (Some s)
  here = subst (NodeIsIf w.config (rests []).ghost [] n (w.incs n)) up ((rests []).nodes n)

  next : Reached c (ended w n v t)
  next = runs.Steps w n f s e v reached up arises

  pub seen : Seen (earlier (reverse t.records) w.before)
  seen = traces_seen c (ended w n v t) next

  turn : InTurn s.views.view (records_of w.before) s.sessions
  turn = (rests []).turns n s up

  made : (d : CallLine) → Made d (at_work s) (take_call (at_work s) d)
  made d = call_made d (at_work s) refl turn.owner turn.numbered here.0.owes.attended

  waiting : JoinWaits s.sessions
  waiting = subst WaitsIf up (k.joins n)

  added_root : (e : NodeEvent) → Added n (root_of (at_work s) e).records (root_of (at_work s) e)
  added_root Ticks = record { order = here.0.order; me = here.0.stands.me; joins = waiting; all = λ r i. inl i }
  added_root (Asks mask) = record { order = here.0.order; me = here.0.stands.me; joins = waiting; all = λ r i. inl i }
  added_root (Given q) = record { order = here.0.order; me = here.0.stands.me; joins = waiting; all = λ r i. inl i }
  added_root Garbage = record { order = here.0.order; me = here.0.stands.me; joins = waiting; all = λ r i. inl i }
  added_root (Calls d) =
      let m = made d in
      record { order = subst InNameOrder (sym m.groups) here.0.order; me = ap (λ (z : Views). z.me) m.views ∙ here.0.stands.me; joins = m.joins waiting; all = λ r i. inl i }

  pub added : Added n root.records t
  added = on_stepped (Added n root.records) (added_keeps n root.records) f s e (added_root e)

  -- what the call records, if there is one
  pub root_said : (e : NodeEvent) → (r : Happened) → Has r (root_of (at_work s) e).records → (u : SessionState) × CallRecord u r
  root_said Ticks r i = absurd i
  root_said (Asks mask) r i = absurd i
  root_said (Given q) r i = absurd i
  root_said Garbage r i = absurd i
  root_said (Calls d) r i = ((take_call (at_work s) d).sessions, (made d).records r i)

  -- who asks is of this node
  root_asks : (e : NodeEvent) (q : ProviderId) (r : ℕ) (g : List ℕ) (x : Proposal) → Has (happened.Asked q r g x) (root_of (at_work s) e).records → q.node ≡ n
  root_asks Ticks q r g x i = absurd i
  root_asks (Asks mask) q r g x i = absurd i
  root_asks (Given z) q r g x i = absurd i
  root_asks Garbage q r g x i = absurd i
  root_asks (Calls d) q r g x i =
      let y = (made d).records (happened.Asked q r g x) i in
      let o = (call_is_tied d [] w n (at_work s) (begin_tied [] w n s up (rests []))).own.0.owes.providers y.0 y.1 in
      ap (λ (z : ProviderId). z.node) (sym y.2) ∙ o.0

  asks_here : (q : ProviderId) (r : ℕ) (g : List ℕ) (x : Proposal) → Has (happened.Asked q r g x) t.records → q.node ≡ n
  asks_here q r g x i = by (added.all (happened.Asked q r g x) i)
    where
      by : Has (happened.Asked q r g x) root.records ⊎ Walked n (happened.Asked q r g x) → q.node ≡ n
      by (inl j) = root_asks e q r g x j
      by (inr z) = absurd z

  ordered : Ordered n (w.incs n) w.before s.views.view s.sessions.last_request t
  ordered =
      ordered_does n (w.incs n) w.before s.views.view s.sessions.last_request (at_work s) t (steps_change c w reached n s up f e) t.records (λ r h. h) (step_fine c w n s reached up f e v arises) (lively_now c w n f s e v reached up arises) (fresh_now c w reached n s up) (begin_ordered c w reached n s up (node_placed c w reached n s up).0)

  -- ---- a provider of this node

  -- the provider's client does not say goodbye in the event, or the call is refused
  abbrev pub Stays : ProviderId → Type 0
  Stays p = (goodbye_of p.node (client_of p w.before) (Some v) && not (list_any is_refused (reverse t.records))) ≡ false

  module _ (p : ProviderId) (node : p.node ≡ n) (spared : was_let_go p w.before ≡ false) (stays_on : Stays p) where
    was : Known p w.before s
    was = subst (KnownIf p w.before) (ap w.cores node ∙ up) (k.known p spared)

    -- its client did not say goodbye
    remains : (d : CallLine) → e ≡ Calls d → (x : Provider) → provider_of s.sessions p ≡ Some x → Leaves d (at_work s) (take_call (at_work s) d) x → ⊥
    unfolding provider_of
    remains d q x found l =
        let a = find_has (is_provider p) s.sessions.providers x found in
        let said : is_named l.0 (client_of x.provider w.before) ≡ true = goodbye_named (λ p. client_of p w.before) s.sessions l.0 (subst (KeptIf w.before) up (clean.nodes n)).owners x a.0 l.2 in
        let of_p : is_named l.0 (client_of p w.before) ≡ true = ap (λ z. is_named l.0 (client_of z w.before)) (sym (provider_same x.provider p a.1)) ∙ said in
        let event_is : v ≡ event.Call n (call.Goodbye l.0) = says d q ∙ ap (λ z. event.Call n z) l.1 in
        let bye : goodbye_of p.node (client_of p w.before) (Some v) ≡ true = ap (λ z. goodbye_of p.node (client_of p w.before) (Some z)) event_is ∙ (λ i. eq-eqb n p.node (sym node) i && of_p i) in
        let none : root.records ≡ [] = ap (λ z. (root_of (at_work s) z).records) q ∙ l.3 in
        let taken : list_any is_refused (reverse t.records) ≡ false = any_none is_refused (reverse t.records) (λ r i. not_refused none r (added.all r (has_reverse r t.records i))) in
        let y : (goodbye_of p.node (client_of p w.before) (Some v) && not (list_any is_refused (reverse t.records))) ≡ true = (λ i. bye i && not (taken i)) in
        let u : true ≡ false = sym y ∙ stays_on in cc
      where
        not_refused : root.records ≡ [] → (r : Happened) → Has r root.records ⊎ Walked n r → is_refused r ≡ false
        not_refused none r (inl i) = absurd (subst (Has r) none i)
        not_refused none r (inr a) = walked_taken n r a

    abbrev Now : Core → Type 0
    Now x = Inv_at n w.before p node t.records x

    stay_was : (g : List ℕ) → InStay s.views.view (stays n g (records_of w.before)) (len_of s g) (state_of s g)
    stay_was g = (node_placed c w reached n s up).0.stay g

    waits_was : (g : List ℕ) → AskedJoin g p (records_of w.before) → Stood s.sessions p g false ⊎ Over n g p (records_of w.before)
    waits_was g a = subst (λ m. Stood s.sessions p g false ⊎ Over m g p (records_of w.before)) node (was.waits g a)

    takes_was : (g : List ℕ) → Taker p (stays n g (records_of w.before)) → Stood s.sessions p g true
    takes_was g a = was.takes g (subst (λ m. Taker p (stays m g (records_of w.before))) (sym node) a)

    begun : Now (at_work s)
    unfolding len_of state_of list_of row_of
    begun = record { stay = stay_was; waits = waits_was; takes = λ g a. inl (takes_was g a); joins = waiting; law = tt }

    called : (d : CallLine) → e ≡ Calls d → Now (take_call (at_work s) d)
    unfolding len_of state_of list_of row_of
    called d q =
        record {
          stay = stay;
          waits = waits;
          takes = takes;
          joins = m.joins waiting;
          law = call_within n w.before p node t.records x.sessions (reverse x.records) said;
        }
      where
        x : Core
        x = take_call (at_work s) d

        m : Made d (at_work s) x
        m = made d

        said : (r : Happened) → Has r (reverse x.records) → CallRecord x.sessions r
        said r i = m.records r (has_reverse r x.records i)

        same : (g : List ℕ) → stays n g (earlier (reverse x.records) w.before) ≡ stays n g (records_of w.before)
        same g = call_stays x.sessions n g (reverse x.records) (records_of w.before) said

        on : (g : List ℕ) (b : Bool) → Stood s.sessions p g b → Stood x.sessions p g b
        on g b y = by (m.found p y.provider y.found)
          where
            by : (provider_of x.sessions p ≡ Some y.provider) ⊎ Leaves d (at_work s) x y.provider → Stood x.sessions p g b
            by (inl z) = record { provider = y.provider; found = z; group = y.group; part_is = y.part_is }
            by (inr l) = absurd (remains d q y.provider y.found l)

        stay : (g : List ℕ) → InStay x.views.view (stays n g (earlier (reverse x.records) w.before)) (len_of x g) (state_of x g)
        stay g =
            let r = rows_len (at_work s) x m.groups g in
            subst (λ (z : ViewId × List Stay × ℕ × GroupState). InStay z.0 z.1 z.2 z.3) (λ i. (sym (ap (λ (y : Views). y.view) m.views) i, sym (same g) i, sym r.0 i, sym r.1 i)) (stay_was g)

        waits : (g : List ℕ) → AskedJoin g p (earlier (reverse x.records) w.before) → Stood x.sessions p g false ⊎ Over n g p (earlier (reverse x.records) w.before)
        waits g a = by (asked_split g p (reverse x.records) (records_of w.before) a)
          where
            later : Stood s.sessions p g false ⊎ Over n g p (records_of w.before) → Stood x.sessions p g false ⊎ Over n g p (earlier (reverse x.records) w.before)
            later (inl y) = inl (on g false y)
            later (inr o) = inr (over_all n g p (reverse x.records) (records_of w.before) o)

            by : AskedJoin g p (reverse x.records) ⊎ AskedJoin g p (records_of w.before) → Stood x.sessions p g false ⊎ Over n g p (earlier (reverse x.records) w.before)
            by (inl b) = inl (m.asks g p (record { proposal = b.proposal; there = has_reverse _ x.records b.there; joins = b.joins }))
            by (inr b) = later (waits_was g b)

        takes : (g : List ℕ) → Taker p (stays n g (earlier (reverse x.records) w.before)) → Stood x.sessions p g true ⊎ Dissolving p (earlier (reverse x.records) w.before)
        takes g a = inl (on g true (takes_was g (subst (Taker p) (same g) a)))

    root_now : (z : NodeEvent) → e ≡ z → Now (root_of (at_work s) z)
    root_now Ticks q = begun
    root_now (Asks mask) q = begun
    root_now (Given x) q = begun
    root_now Garbage q = begun
    root_now (Calls d) q = called d q

    -- what stands of the provider between two events
    pub first_stands : Standing n w.before p node t.records (at_work s)
    first_stands = record { order = here.0.order; me = here.0.stands.me; inv = λ h. begun }

    -- after the call of the event, or before any other
    pub root_stands : Standing n w.before p node t.records root
    root_stands = let a = added_root e in record { order = a.order; me = a.me; inv = λ h. root_now e refl }

    -- and after the step
    pub at_end : Now t
    at_end = (on_stepped (Standing n w.before p node t.records) (standing_keeps n w.before p node t.records seen) f s e root_stands).inv ([], append-nil t.records)

  -- whom the event does not let go
  stays_of : (p : ProviderId) → was_let_go p after ≡ false → Stays p
  stays_of p spared =
      (or_parts (list_any (ends p (inc_now p.node (records_of w.before))) (reverse t.records)) (goodbye_of p.node (client_of p w.before) (Some v) && not (list_any is_refused (reverse t.records))) (spared_before p (over v t) w.before spared).0).1

  module _ (p : ProviderId) (node : p.node ≡ n) (spared : was_let_go p after ≡ false) where
    last : Inv_at n w.before p node t.records t
    last = at_end p node (spared_before p (over v t) w.before spared).1 (stays_of p spared)

    known_own : Known p after t
    known_own = record { waits = λ g a. subst (λ m. Stood t.sessions p g false ⊎ Over m g p (records_of after)) (sym node) (last.waits g a); takes = λ g a. takes g (last.takes g (subst (λ m. Taker p (stays m g (records_of after))) node a)) }
      where
        takes : (g : List ℕ) → Stood t.sessions p g true ⊎ Dissolving p (records_of after) → Stood t.sessions p g true
        takes g (inl x) = x
        takes g (inr d) = absurd (dissolving_gone p after d spared)

  -- ---- a provider of another

  away : (p : ProviderId) → p.node ≢ n → was_let_go p after ≡ false → KnownIf p after (w.cores p.node)
  away p ne spared =
      known_on p w.before after (reverse t.records) (w.cores p.node) refl (λ g. ordered.others p.node g ne) (λ g a. back g (asked_split g p (reverse t.records) (records_of w.before) a)) (k.known p (spared_before p (over v t) w.before spared).1)
    where
      back : (g : List ℕ) → AskedJoin g p (reverse t.records) ⊎ AskedJoin g p (records_of w.before) → AskedJoin g p (records_of w.before)
      back g (inl a) = absurd (ne (asks_here p p.join g a.proposal (has_reverse _ t.records a.there)))
      back g (inr a) = a

  pub step_rested : Rested (ended w n v t)
  step_rested =
      record {
        known = λ p spared. each_set (λ m o. p.node ≡ m → KnownIf p after o) w.cores n (Some t) (λ q. known_own p q spared) (λ m ne q. subst (λ z. KnownIf p after (w.cores z)) q (away p (λ z. ne (sym q ∙ z)) spared)) p.node refl;
        joins = each_set (λ m o. WaitsIf o) w.cores n (Some t) added.joins (λ m ne. k.joins m);
      }
