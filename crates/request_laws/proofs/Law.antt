-- In every scene no request of a provider that lives is lost.
use Rattle.std.proofs.Common.{◌≡◌, ◌≢◌, ◌⊎◌, ◌≤◌, ℕ, ◌+◌, List, [], ◌∷◌, ◌++◌, Some, None, Bool, true, false, refl, sym, ap, ◌∙◌, subst, inl, inr, arith}
use Rattle.std.specs.Prelude.{reverse}
use Rattle.rsct_packet.specs.declared.ids.ProviderId.{ProviderId}
use Rattle.rsct_packet.specs.Search.{Has}
use Rattle.rsct_packet.proofs.HasLaws.{has_append, append_has_left, append_has_right, has_reverse, reverse_has, find_has}
use Rattle.proposal_core.specs.declared.proposal.Proposal.{Proposal}
use Rattle.session_state.specs.declared.state.Provider.{Provider}
use Rattle.session_state.specs.declared.state.SessionState.{SessionState}
use Rattle.session_state.specs.State.{is_provider, provider_of}
use Rattle.view_state.specs.Views.{views_new}
use Rattle.node_state.specs.declared.config.Config.{Config}
use Rattle.node_state.specs.declared.happened.Happened.{Happened}
use Rattle.node_state.specs.declared.happened.Happened.TheVariants as happened
use Rattle.node_state.specs.declared.state.Core.{Core}
use Rattle.node_state.specs.State.{with_sessions}
use Rattle.node_state.specs.HandOn.{Answering}
use Rattle.node_state.specs.Applying.{level_set}
use Rattle.node_state.specs.Step.{NodeEvent, Ticks, Asks, Given, Calls, Garbage, at_work, stepped, started}
use Rattle.world_model.specs.declared.event.Event.{Event}
use Rattle.world_model.specs.Run.{Happening}
use Rattle.run_safety.specs.Past.{History, records_of}
use Rattle.run_safety.specs.Requests.{carried}
use Rattle.run_safety.specs.Group.{Noted}
use Rattle.run_safety.specs.Group as group
use Rattle.run_safety.specs.Stays.{stays}
use Rattle.step_refinement.specs.Ghost.{asking}
use Rattle.step_refinement.specs.Tied.{Scene, NodeIs, NodeIsIf, Rests, Tied}
use Rattle.step_refinement.specs.Rules.{over, ended}
use Rattle.step_refinement.specs.Runs.{Reached}
use Rattle.step_refinement.proofs.Begins.{begin_tied}
use Rattle.step_refinement.proofs.Changed.{set_here}
use Rattle.step_refinement.proofs.Calls.{call_is_tied}
use Rattle.step_refinement.proofs.RunLaw.{reached_rests}
use Rattle.step_refinement.proofs.SessionLaws.{provider_same}
use Rattle.run_induction.proofs.Ran.{anyhow, Outer, ran_reached, reached_ran}
use Rattle.run_induction.proofs.Laws.{UpClaim, UpDone, UpLaw, up_holds}
use Rattle.row_laws.proofs.hearing.Listening.{steps_change}
use Rattle.row_laws.proofs.failed_rows.Living.{IsLive}
use Rattle.row_laws.proofs.failed_rows.Fitting.{asked_seen}
use Rattle.row_laws.proofs.failed_rows.Origin.{root_of}
use Rattle.provider_laws.proofs.leaving.Law.{recounted_ran, reached}
use Rattle.provider_laws.proofs.leaving.Left.{Left, left_stepped, live_slim}
use Rattle.run_laws.specs.gapless.Takers.{Taker, Stood}
use Rattle.run_laws.proofs.seen_runs.Steps.{step_mine}
use Rattle.run_laws.proofs.gapless.Growing.{Over}
use Rattle.run_laws.proofs.gapless.Resting.{Known, KnownIf, dissolving_gone}
use Rattle.run_laws.proofs.gapless.TakerLaw.{rested}
use Rattle.call_laws.proofs.Outcomes.{next_of, From, from_same, comer, call_comes}
use Rattle.request_laws.specs.Requests.{Waits, Lives, IsOutstanding, HasBegun, IsKept, RequestsOfScenesAreKept}
use Rattle.request_laws.proofs.Called.{Called, called_same, call_called}
use Rattle.request_laws.proofs.Fates.{Fate, Fates, begun_more, heard_more, fates_stepped}

-- ---- between events

-- no request of a provider that the node has is lost, and its numbers of joins were given
pub record Keeps (h : History) (t : SessionState) : Type 0 where
  pub kept : (p : ProviderId) (r : ℕ) (g : List ℕ) (x : Proposal) → Has (happened.Asked p r g x) (records_of h) → IsLive t p → IsKept t (records_of h) p r g x
  pub low : (p : ProviderId) (r : ℕ) (g : List ℕ) (x : Proposal) → Has (happened.Asked p r g x) (records_of h) → p.node ≡ t.me → p.inc ≡ t.inc → p.join ≤ t.last_request

kept_more : (t : SessionState) (rs ts : List Happened) (p : ProviderId) (r : ℕ) (g : List ℕ) (x : Proposal) → ((y : Happened) → Has y rs → Has y ts) → IsKept t rs p r g x → IsKept t ts p r g x
kept_more t rs ts p r g x more (inl a) = inl a
kept_more t rs ts p r g x more (inr (inl a)) = inr (inl (begun_more p.node p r rs ts more a))
kept_more t rs ts p r g x more (inr (inr a)) = inr (inr (heard_more p r rs ts more a))

-- records in which nobody asks leave it so
keeps_on : (rs : List Happened) (h h' : History) (t : SessionState) → records_of h' ≡ rs ++ records_of h → ((p : ProviderId) (r : ℕ) (g : List ℕ) (x : Proposal) → Has (happened.Asked p r g x) rs → p.node ≡ t.me → ⊥) → ((p : ProviderId) → IsLive t p → p.node ≡ t.me) → Keeps h t → Keeps h' t
keeps_on rs h h' t is none mine k =
    record {
      kept = λ p r g x i live. kept_more t (records_of h) (records_of h') p r g x (λ y j. subst (Has y) (sym is) (append_has_right y rs (records_of h) j)) (k.kept p r g x (back p r g x i (mine p live)) live);
      low = λ p r g x i node inc. k.low p r g x (back p r g x i node) node inc;
    }
  where
    back : (p : ProviderId) (r : ℕ) (g : List ℕ) (x : Proposal) → Has (happened.Asked p r g x) (records_of h') → p.node ≡ t.me → Has (happened.Asked p r g x) (records_of h)
    back p r g x i node = by (has_append (happened.Asked p r g x) rs (records_of h) (subst (Has (happened.Asked p r g x)) is i))
      where
        by : Has (happened.Asked p r g x) rs ⊎ Has (happened.Asked p r g x) (records_of h) → Has (happened.Asked p r g x) (records_of h)
        by (inl j) = absurd (none p r g x j node)
        by (inr j) = j

-- ---- what the tie says of a node

module _ (c : Config) (w : Scene) (k : Reached c w) where
  rests : (g : List ℕ) → Rests g w
  rests g = reached_rests c w k g

  node_is : (n : ℕ) (s : Core) → w.cores n ≡ Some s → NodeIs (rests []).ghost [] n s × (s.config ≡ w.config) × (s.views.inc ≡ w.incs n)
  node_is n s up = subst (NodeIsIf w.config (rests []).ghost [] n (w.incs n)) up ((rests []).nodes n)

  me_is : (n : ℕ) (s : Core) → w.cores n ≡ Some s → s.sessions.me ≡ n
  me_is n s up = ((node_is n s up).0).owes.me

  -- its providers are its own
  mine : (n : ℕ) (s : Core) → w.cores n ≡ Some s → (p : ProviderId) → IsLive s.sessions p → p.node ≡ s.sessions.me
  mine n s up p live =
      ap (λ (z : ProviderId). z.node) (sym live.2) ∙ (((node_is n s up).0).owes.providers live.0 live.1).0 ∙ sym (me_is n s up)

  -- what was asked was asked in an incarnation that had started
  had_started : (n : ℕ) (p : ProviderId) (r : ℕ) (g : List ℕ) (x : Proposal) → w.cores n ≡ None → p.node ≡ n → Has (happened.Asked p r g x) (records_of w.before) → p.inc ≤ w.incs n
  had_started n p r g x down node i =
      let seen : Has (Noted (group.Asked p r x)) (rests g).ghost.all = subst (Has (Noted (group.Asked p r x))) (sym (rests g).lines) (asked_seen p r g x w.before i) in
      let a : Has (asking p r g) (rests g).ghost.asked = (rests g).sound.asked p r x seen in
      let b = (rests g).sound.started (asking p r g) a in
      let e : ((rests g).ghost.nodes n).inc ≡ w.incs n = subst (NodeIsIf w.config (rests g).ghost g n (w.incs n)) down ((rests g).nodes n) in
      let f : ((rests g).ghost.nodes p.node).inc ≡ w.incs n = ap (λ m. ((rests g).ghost.nodes m).inc) node ∙ e in
      omega (arith, b, f)

-- ---- a step

module _ (c : Config) (w : Scene) (n : ℕ) (f : Answering) (s : Core) (e : NodeEvent) (v : Event) (k : Reached c w) (next : Reached c (ended w n v (stepped f s e))) (up : w.cores n ≡ Some s) (own : Keeps w.before s.sessions) where
  abbrev t : Core
  t = stepped f s e

  abbrev root : Core
  root = root_of (at_work s) e

  -- after the call of the event
  tied : (d : NodeEvent) (g : List ℕ) → Tied g w n (root_of (at_work s) d)
  tied Ticks g = begin_tied g w n s up (reached_rests c w k g)
  tied (Asks mask) g = begin_tied g w n s up (reached_rests c w k g)
  tied (Given q) g = begin_tied g w n s up (reached_rests c w k g)
  tied Garbage g = begin_tied g w n s up (reached_rests c w k g)
  tied (Calls d) g = call_is_tied d g w n (at_work s) (begin_tied g w n s up (reached_rests c w k g))

  now : Tied [] w n root
  now = tied e []

  me : root.sessions.me ≡ n
  me = (now.own.0).owes.me

  inc : root.sessions.inc ≡ root.views.inc
  inc = (now.own.0).owes.inc_of

  left : Left root t
  left = left_stepped f s e

  fates : Fates root t
  fates = fates_stepped f s e now.turns.own.single

  called_by : (d : NodeEvent) → Called s.sessions (root_of (at_work s) d)
  called_by Ticks = called_same s.sessions (at_work s) refl refl (λ p r g x i. i)
  called_by (Asks mask) = called_same s.sessions (at_work s) refl refl (λ p r g x i. i)
  called_by (Given q) = called_same s.sessions (at_work s) refl refl (λ p r g x i. i)
  called_by Garbage = called_same s.sessions (at_work s) refl refl (λ p r g x i. i)
  called_by (Calls d) = call_called (at_work s) refl ((reached_rests c w k []).turns n s up).owner d

  called : Called s.sessions root
  called = called_by e

  rooted : (d : NodeEvent) → (new : Provider) × From s.sessions new (root_of (at_work s) d)
  rooted Ticks = let new = next_of s.sessions (record { number = 0 }) [] 0 in (new, from_same s.sessions new (at_work s) refl)
  rooted (Asks mask) = let new = next_of s.sessions (record { number = 0 }) [] 0 in (new, from_same s.sessions new (at_work s) refl)
  rooted (Given q) = let new = next_of s.sessions (record { number = 0 }) [] 0 in (new, from_same s.sessions new (at_work s) refl)
  rooted Garbage = let new = next_of s.sessions (record { number = 0 }) [] 0 in (new, from_same s.sessions new (at_work s) refl)
  rooted (Calls d) = (comer s.sessions d, (call_comes d (at_work s) refl).from)

  -- who asks in this step is a provider of the node
  asked_now : (p : ProviderId) (r : ℕ) (g : List ℕ) (x : Proposal) → Has (happened.Asked p r g x) (reverse t.records) → IsOutstanding root.sessions p r g x
  asked_now p r g x i = called.asked p r g x (left.slim.asked p r g x (has_reverse (happened.Asked p r g x) t.records i))

  asker : (p : ProviderId) (r : ℕ) (g : List ℕ) (x : Proposal) → Has (happened.Asked p r g x) (reverse t.records) → (y : Provider) × Has y root.sessions.providers × (y.provider ≡ p)
  asker p r g x i =
      let a = asked_now p r g x i in
      let y = (now.own.0).owes.attended a.request a.there in
      (y.0, y.1, y.2 ∙ a.provider)

  asked_mine : (p : ProviderId) (r : ℕ) (g : List ℕ) (x : Proposal) → Has (happened.Asked p r g x) (reverse t.records) → p.node ≡ n
  asked_mine p r g x i =
      let y = asker p r g x i in ap (λ (z : ProviderId). z.node) (sym y.2) ∙ ((now.own.0).owes.providers y.0 y.1).0

  abbrev after : History
  after = over v t ∷ w.before

  -- what the step recorded is among the records
  in_after : (r : Happened) → Has r t.records → Has r (records_of after)
  in_after r i = append_has_left r (reverse t.records) (records_of w.before) (reverse_has r t.records i)

  -- a request that is outstanding after the call
  goes_on : (p : ProviderId) (r : ℕ) (g : List ℕ) (x : Proposal) → IsOutstanding root.sessions p r g x → IsLive t.sessions p → IsKept t.sessions (records_of after) p r g x
  goes_on p r g x a live = by (fates.fate a.request a.there)
    where
      node : p.node ≡ n
      node =
          let y = live_slim root.sessions t.sessions p left.slim.sessions live in
          ap (λ (z : ProviderId). z.node) (sym y.2) ∙ ((now.own.0).owes.providers y.0 y.1).0

      begun : (m : ℕ) → HasBegun m a.request.provider a.request.request t.records → HasBegun p.node p r (records_of after)
      begun m b =
          let put : Has (happened.Put m b.view b.group b.place b.entry) t.records = b.there in
          let same : m ≡ n = step_mine f s e n ((node_is c w k n s up).0).stands.me (steps_change c w k n s up f e) (happened.Put m b.view b.group b.place b.entry) put in
          record { view = b.view; group = b.group; place = b.place; entry = b.entry; there = subst (λ z. Has (happened.Put z b.view b.group b.place b.entry) (records_of after)) (same ∙ sym node) (in_after (happened.Put m b.view b.group b.place b.entry) put); carries = subst (λ (z : ProviderId × ℕ). Has z (carried b.entry)) (λ j. (a.provider j, a.number j)) b.carries }

      by : Fate t a.request → IsKept t.sessions (records_of after) p r g x
      by (inl i) = inl (record { request = a.request; there = i; provider = a.provider; number = a.number; group = a.group; proposal = a.proposal })
      by (inr (inl b)) = inr (inl (begun b.0 b.1))
      by (inr (inr (inl b))) =
          inr (inr (record { why = b.why; there = in_after (happened.Told p r b.why) (subst (λ (z : ProviderId × ℕ). Has (happened.Told z.0 z.1 b.why) t.records) (λ j. (a.provider j, a.number j)) b.there) }))
      by (inr (inr (inr off))) = absurd (off (subst (IsLive t.sessions) (sym a.provider) live))

  -- who is there after the step was there before, or its join has just got the next number
  live_before : (p : ProviderId) → IsLive root.sessions p → IsLive s.sessions p ⊎ (p.join ≡ s.sessions.last_request + 1)
  live_before p y = by ((rooted e).1.was y.0 y.1)
    where
      by : Has y.0 s.sessions.providers ⊎ ((y.0 ≡ (rooted e).0) × ((rooted e).0.provider.join ≡ s.sessions.last_request + 1) × ((x : Proposal) × Has (happened.Asked (rooted e).0.provider (rooted e).0.provider.join (rooted e).0.group x) root.records)) → IsLive s.sessions p ⊎ (p.join ≡ s.sessions.last_request + 1)
      by (inl i) = inl (y.0, i, y.2)
      by (inr a) =
          inr (ap (λ (z : ProviderId). z.join) (sym y.2) ∙ ap (λ (z : Provider). z.provider.join) a.0 ∙ a.1)

  its_inc : s.sessions.inc ≡ w.incs n
  its_inc = ((node_is c w k n s up).0).owes.inc_of ∙ (node_is c w k n s up).2

  kept_after : (p : ProviderId) (r : ℕ) (g : List ℕ) (x : Proposal) → Has (happened.Asked p r g x) (records_of after) → IsLive t.sessions p → IsKept t.sessions (records_of after) p r g x
  kept_after p r g x i live = by (has_append (happened.Asked p r g x) (reverse t.records) (records_of w.before) i)
    where
      y : IsLive root.sessions p
      y = live_slim root.sessions t.sessions p left.slim.sessions live

      older : (z : Happened) → Has z (records_of w.before) → Has z (records_of after)
      older z j = append_has_right z (reverse t.records) (records_of w.before) j

      old : IsKept s.sessions (records_of w.before) p r g x → IsKept t.sessions (records_of after) p r g x
      old (inr (inl b)) = inr (inl (begun_more p.node p r (records_of w.before) (records_of after) older b))
      old (inr (inr b)) = inr (inr (heard_more p r (records_of w.before) (records_of after) older b))
      old (inl a) = at (called.kept a.request a.there)
        where
          at : Has a.request root.sessions.requests ⊎ (IsLive root.sessions a.request.provider → ⊥) → IsKept t.sessions (records_of after) p r g x
          at (inl j) =
              goes_on p r g x (record { request = a.request; there = j; provider = a.provider; number = a.number; group = a.group; proposal = a.proposal }) live
          at (inr off) = absurd (off (subst (IsLive root.sessions) (sym a.provider) y))

      by : Has (happened.Asked p r g x) (reverse t.records) ⊎ Has (happened.Asked p r g x) (records_of w.before) → IsKept t.sessions (records_of after) p r g x
      by (inl j) = goes_on p r g x (asked_now p r g x j) live
      by (inr j) = at (live_before p y)
        where
          at : IsLive s.sessions p ⊎ (p.join ≡ s.sessions.last_request + 1) → IsKept t.sessions (records_of after) p r g x
          at (inl l) = old (own.kept p r g x j l)
          at (inr new) =
              let node : p.node ≡ s.sessions.me = ap (λ (z : ProviderId). z.node) (sym y.2) ∙ ((now.own.0).owes.providers y.0 y.1).0 ∙ sym (me_is c w k n s up) in
              let inc : p.inc ≡ s.sessions.inc = ap (λ (z : ProviderId). z.inc) (sym y.2) ∙ ((now.own.0).owes.providers y.0 y.1).1 ∙ now.own.2 ∙ sym its_inc in
              let l = own.low p r g x j node inc in absurd (omega (arith, l, new))

  there : (ended w n v t).cores n ≡ Some t
  there = set_here w.cores n (Some t)

  low_after : (p : ProviderId) (r : ℕ) (g : List ℕ) (x : Proposal) → Has (happened.Asked p r g x) (records_of after) → p.node ≡ t.sessions.me → p.inc ≡ t.sessions.inc → p.join ≤ t.sessions.last_request
  low_after p r g x i node inc = by (has_append (happened.Asked p r g x) (reverse t.records) (records_of w.before) i)
    where
      last : t.sessions.last_request ≡ root.sessions.last_request
      last = left.last

      by : Has (happened.Asked p r g x) (reverse t.records) ⊎ Has (happened.Asked p r g x) (records_of w.before) → p.join ≤ t.sessions.last_request
      by (inl j) =
          let y = asker p r g x j in
          let l : (y.0).provider.join ≤ root.sessions.last_request = now.turns.own.numbered y.0 y.1 in
          let q : (y.0).provider.join ≡ p.join = ap (λ (z : ProviderId). z.join) y.2 in omega (arith, l, q, last)
      by (inr j) =
          let own_node : p.node ≡ s.sessions.me = node ∙ me_is c (ended w n v t) next n t there ∙ sym (me_is c w k n s up) in
          let z = node_is c (ended w n v t) next n t there in
          let own_inc : p.inc ≡ s.sessions.inc = inc ∙ (z.0).owes.inc_of ∙ z.2 ∙ sym its_inc in
          let l = own.low p r g x j own_node own_inc in
          let m = called.last in omega (arith, l, m, last)

  keeps_after : Keeps after t.sessions
  keeps_after = record { kept = kept_after; low = low_after }

  others : (m : ℕ) → m ≢ n → (d : Core) → w.cores m ≡ Some d → Keeps w.before d.sessions → Keeps after d.sessions
  others m ne d is a =
      keeps_on (reverse t.records) w.before after d.sessions refl (λ p r g x j node. ne (sym (me_is c w k m d is) ∙ sym node ∙ asked_mine p r g x j)) (mine c w k m d is) a

-- ---- every scene

-- nothing is said of what was sent
abbrev keeping : UpClaim
keeping = record { sent = λ h x. Unit {0}; node = λ m inc ps h s. Keeps h s.sessions; lines = λ h. Unit {0} }

-- a node that starts has no providers, and nobody asked in its incarnation
started_keeps : (c : Config) (w : Scene) (e : Happening) (t : Scene) → Outer anyhow c w e t → (m : ℕ) → w.cores m ≡ None → Keeps (e ∷ w.before) (started c m (w.incs m + 1)).sessions
unfolding started with_sessions level_set views_new
started_keeps c w e t o m down = record { kept = λ p r g x i live. absurd live.1; low = λ p r g x i node inc. absurd (late p r g x i node inc) }
  where
    late : (p : ProviderId) (r : ℕ) (g : List ℕ) (x : Proposal) → Has (happened.Asked p r g x) (e.records ++ records_of w.before) → p.node ≡ m → p.inc ≡ w.incs m + 1 → ⊥
    late p r g x i node inc = by (has_append (happened.Asked p r g x) e.records (records_of w.before) i)
      where
        by : Has (happened.Asked p r g x) e.records ⊎ Has (happened.Asked p r g x) (records_of w.before) → ⊥
        by (inl j) = o.idle (happened.Asked p r g x) j
        by (inr j) = let l = had_started c w (ran_reached anyhow c w o.from) m p r g x down node j in omega (arith, l, inc)

keep_law : (c : Config) → UpLaw anyhow c keeping
keep_law c =
    record {
      none = tt;
      sent_on = λ e h x k. tt;
      stays = λ w e t o m s up all k. keeps_on e.records w.before (e ∷ w.before) s.sessions refl (λ p r g x j node. o.idle (happened.Asked p r g x) j) (mine c w (ran_reached anyhow c w o.from) m s up) k;
      comes = λ w e t o m came down. started_keeps c w e t o m down;
      lines_on = λ w e t o k. tt;
      steps = λ w n f s e v r next up arises told h k. done w n f s e v (ran_reached anyhow c w r) (ran_reached anyhow c (ended w n v (stepped f s e)) next) up k;
    }
  where
    done : (w : Scene) (n : ℕ) (f : Answering) (s : Core) (e : NodeEvent) (v : Event) → Reached c w → Reached c (ended w n v (stepped f s e)) → w.cores n ≡ Some s → Keeps w.before s.sessions → UpDone keeping w n v (stepped f s e)
    done w n f s e v r next up k =
        record { sends = λ x i. tt; node = keeps_after c w n f s e v r next up k; others = λ m ne d is a. others c w n f s e v r next up k m ne d is a; lines = tt }

-- ---- who lives by the records is a provider of its node

stood_live : (t : SessionState) (p : ProviderId) (g : List ℕ) (b : Bool) → Stood t p g b → IsLive t p
unfolding provider_of
stood_live t p g b k = let h = find_has (is_provider p) t.providers k.provider k.found in (k.provider, h.0, provider_same k.provider.provider p h.1)

known_live : (p : ProviderId) (g : List ℕ) (h : History) (s : Core) → Known p h s → Lives p g h → IsLive s.sessions p
known_live p g h s k lives = by lives.there
  where
    waits : Waits p g (records_of h) → Stood s.sessions p g false ⊎ Over p.node g p (records_of h) → IsLive s.sessions p
    waits a (inl z) = stood_live s.sessions p g false z
    waits a (inr (inl z)) = absurd (a.unput z)
    waits a (inr (inr (inl z))) = absurd (a.untold z)
    waits a (inr (inr (inr z))) = absurd (dissolving_gone p h z lives.spared)

    by : Taker p (stays p.node g (records_of h)) ⊎ Waits p g (records_of h) → IsLive s.sessions p
    by (inl a) = stood_live s.sessions p g true (k.takes g a)
    by (inr a) = waits a (k.waits g a.asked)

pub requests_of_scenes_are_kept : RequestsOfScenesAreKept
requests_of_scenes_are_kept c w k n s up p r g x i node lives =
    let ran = recounted_ran c w k in
    let keeps : Keeps w.before s.sessions = up_holds anyhow c keeping (keep_law c) w (reached_ran c w (reached c w ran)) n s up in
    let known : Known p w.before s = subst (KnownIf p w.before) (ap w.cores node ∙ up) ((rested c w ran).known p lives.spared) in
    keeps.kept p r g x i (known_live p g w.before s known lives)
