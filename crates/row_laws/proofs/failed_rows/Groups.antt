-- A provider's request is asked in one group alone, since its number is given once.
use Rattle.std.proofs.Common.{◌≡◌, ◌⊎◌, ◌≤◌, ℕ, ◌+◌, List, [], ◌∷◌, ◌++◌, Some, refl, sym, ◌∙◌, subst, inl, inr, ⊎_elim, arith}
use Rattle.std.specs.Prelude.{reverse}
use Rattle.rsct_packet.specs.declared.ids.ProviderId.{ProviderId}
use Rattle.rsct_packet.specs.Search.{Has}
use Rattle.rsct_packet.proofs.HasLaws.{has_append, has_reverse}
use Rattle.proposal_core.specs.declared.proposal.Proposal.{Proposal}
use Rattle.node_state.specs.declared.config.Config.{Config}
use Rattle.node_state.specs.declared.happened.Happened.{Happened}
use Rattle.node_state.specs.declared.happened.Happened.TheVariants as happened
use Rattle.node_state.specs.declared.state.Core.{Core}
use Rattle.node_state.specs.HandOn.{Answering}
use Rattle.node_state.specs.Step.{NodeEvent, Ticks, Asks, Given, Calls, Garbage, at_work, stepped}
use Rattle.session_state.specs.declared.state.Provider.{Provider}
use Rattle.world_model.specs.declared.event.Event.{Event}
use Rattle.run_safety.specs.Past.{records_of}
use Rattle.run_safety.specs.Group as group
use Rattle.run_safety.specs.Group.{Noted}
use Rattle.row_laws.proofs.failed_rows.Fitting.{asked_seen}
use Rattle.step_refinement.specs.Ghost.{asking}
use Rattle.step_refinement.specs.Tied.{Scene, NodeIs, NodeIsIf, Rests}
use Rattle.step_refinement.specs.Rules.{ended, Arises}
use Rattle.step_refinement.proofs.Changed.{set_here}
use Rattle.row_laws.specs.failed_rows.Scenes.{Names, RequestsHaveOneGroup}
use Rattle.row_laws.proofs.failed_rows.Origin.{root_of}
use Rattle.row_laws.proofs.failed_rows.Joining.{OneAsk, one_call}
use Rattle.row_laws.proofs.failed_rows.Between.{who_is}
use Rattle.row_laws.proofs.failed_rows.Starting.{idle_asks}
use Rattle.row_laws.proofs.failed_rows.Facts.{Unasked}
use Rattle.row_laws.proofs.hearing.Incarnations.{incs_of}
use Rattle.run_induction.proofs.Ran.{Ran, ran_reached}
use Rattle.run_induction.proofs.Laws.{PastLaw, past_holds}
use Rattle.row_laws.proofs.failed_rows.Law.{playing, played_ran, rests_in, fails_hold, asked_by_call, asked_here}

-- each request in one group
abbrev pub OneGroup : List Happened → Type 0
OneGroup rs = (p : ProviderId) (r : ℕ) (g h : List ℕ) (x y : Proposal) → Has (happened.Asked p r g x) rs → Has (happened.Asked p r h y) rs → g ≡ h

quiet_group : (rs old : List Happened) → ((r : Happened) → Has r rs → Unasked r) → OneGroup old → OneGroup (rs ++ old)
quiet_group rs old none k p r g h x y a b = k p r g h x y (there g x a) (there h y b)
  where
    there : (g : List ℕ) (x : Proposal) → Has (happened.Asked p r g x) (rs ++ old) → Has (happened.Asked p r g x) old
    there g x a = ⊎_elim (λ (i : Has (happened.Asked p r g x) rs). absurd (none (happened.Asked p r g x) i)) (λ (i : Has (happened.Asked p r g x) old). i) (has_append (happened.Asked p r g x) rs old a)

-- ---- a step

module _ (c : Config) (w : Scene) (n : ℕ) (f : Answering) (s : Core) (e : NodeEvent) (v : Event) (k : Ran playing c w) (next : Ran playing c (ended w n v (stepped f s e))) (up : w.cores n ≡ Some s) (arises : Arises w e) (says : Names n e v) where
  abbrev t : Core
  t = stepped f s e

  rests : (g : List ℕ) → Rests g w
  rests g = rests_in c w k g

  after : (g : List ℕ) → Rests g (ended w n v t)
  after g = rests_in c (ended w n v t) next g

  -- its providers are of its incarnation
  own : (x : Provider) → Has x s.sessions.providers → x.provider.inc ≡ s.sessions.inc
  own x i =
      let here : NodeIs (rests []).ghost [] n s = (subst (NodeIsIf w.config (rests []).ghost [] n (w.incs n)) up ((rests []).nodes n)).0 in
      (here.owes.providers x i).1 ∙ sym here.owes.inc_of

  -- what asks in it is one record, with the next number
  one : (e' : NodeEvent) → OneAsk s.sessions (root_of (at_work s) e').records
  one Ticks p r g x i = absurd i
  one (Asks mask) p r g x i = absurd i
  one (Given q) p r g x i = absurd i
  one Garbage p r g x i = absurd i
  one (Calls d) p r g x i = one_call d (at_work s) refl own p r g x i

  new : (p : ProviderId) (r : ℕ) (g : List ℕ) (x : Proposal) → Has (happened.Asked p r g x) t.records → ((root_of (at_work s) e).records ≡ happened.Asked p r g x ∷ []) × (r ≡ s.sessions.last_request + 1) × (p.inc ≡ s.sessions.inc)
  new p r g x i = one e p r g x (asked_by_call w n f s e v up rests after arises says (incs_of c w (ran_reached playing c w k) n) (fails_hold c w k) p r g x i)

  -- numbers that were given before are lower
  lower : (p : ProviderId) (r : ℕ) (g : List ℕ) (x : Proposal) → p.node ≡ n → p.inc ≡ s.sessions.inc → Has (happened.Asked p r g x) (records_of w.before) → r ≤ s.sessions.last_request
  lower p r g x node inc i =
      let z : Rests g w = rests g in
      let here : NodeIs z.ghost g n s = (subst (NodeIsIf w.config z.ghost g n (w.incs n)) up (z.nodes n)).0 in
      let line : Has (Noted (group.Asked p r x)) z.ghost.all = subst (Has (Noted (group.Asked p r x))) (sym z.lines) (asked_seen p r g x w.before i) in
      here.owes.given (asking p r g) (z.sound.asked p r x line) node (inc ∙ here.owes.inc_of)

  apart : (p : ProviderId) (r : ℕ) (g h : List ℕ) (x y : Proposal) → Has (happened.Asked p r g x) t.records → Has (happened.Asked p r h y) (records_of w.before) → ⊥
  apart p r g h x y i j =
      let z = new p r g x i in
      let me : t.views.me ≡ n = who_is (ended w n v t) (after []) n t (set_here w.cores n (Some t)) in
      let le = lower p r h y (asked_here w n f s e v up rests after arises says (incs_of c w (ran_reached playing c w k) n) (fails_hold c w k) p r g x i ∙ me) z.2 j in
      let number = z.1 in
      omega (arith, le, number)

  step_group : OneGroup (records_of w.before) → OneGroup (reverse t.records ++ records_of w.before)
  step_group old p r g h x y a b =
      by (has_append (happened.Asked p r g x) (reverse t.records) (records_of w.before) a) (has_append (happened.Asked p r h y) (reverse t.records) (records_of w.before) b)
    where
      both : (happened.Asked p r g x ∷ [] ≡ happened.Asked p r h y ∷ []) → g ≡ h
      both e = cc

      by : Has (happened.Asked p r g x) (reverse t.records) ⊎ Has (happened.Asked p r g x) (records_of w.before) → Has (happened.Asked p r h y) (reverse t.records) ⊎ Has (happened.Asked p r h y) (records_of w.before) → g ≡ h
      by (inl i) (inl j) =
          both (sym (new p r g x (has_reverse (happened.Asked p r g x) t.records i)).0 ∙ (new p r h y (has_reverse (happened.Asked p r h y) t.records j)).0)
      by (inl i) (inr j) = absurd (apart p r g h x y (has_reverse (happened.Asked p r g x) t.records i) j)
      by (inr i) (inl j) = absurd (apart p r h g y x (has_reverse (happened.Asked p r h y) t.records j) i)
      by (inr i) (inr j) = old p r g h x y i j

-- ---- every scene

one_group : (c : Config) → PastLaw playing c (λ h. OneGroup (records_of h))
one_group c =
    record {
      none = λ p r g h x y a b. absurd a;
      outer = λ w e t o k. quiet_group e.records (records_of w.before) (λ r i. idle_asks r (o.idle r i)) k;
      steps = λ w n f s e v r next up arises says k. step_group c w n f s e v r next up arises says k;
    }

pub groups_are_one : (c : Config) (w : Scene) → Ran playing c w → OneGroup (records_of w.before)
groups_are_one c w r = past_holds playing c (λ h. OneGroup (records_of h)) (one_group c) w r

pub requests_have_one_group : RequestsHaveOneGroup
requests_have_one_group c w k = groups_are_one c w (played_ran c w k)
