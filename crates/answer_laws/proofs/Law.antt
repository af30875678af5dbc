-- What providers are told of a request is due.
use Rattle.std.proofs.Common.{◌≡◌, ◌⊎◌, ℕ, ◌+◌, List, [], ◌∷◌, ◌++◌, Some, None, refl, sym, subst, append_assoc, inl, inr}
use Rattle.std.specs.Prelude.{reverse}
use Rattle.rsct_packet.specs.declared.ids.ProviderId.{ProviderId}
use Rattle.rsct_packet.specs.declared.ids.ViewId.{ViewId}
use Rattle.rsct_packet.specs.Search.{Has}
use Rattle.rsct_packet.proofs.HasLaws.{has_append, append_has_left, append_has_right, has_reverse, reverse_has}
use Rattle.proposal_core.specs.declared.entry.Entry.{Entry}
use Rattle.proposal_core.specs.declared.proposal.Proposal.{Proposal}
use Rattle.proposal_core.specs.declared.proposal.Proposal.TheVariants.{Join}
use Rattle.client_callbacks.specs.declared.told.Why.{Why}
use Rattle.client_callbacks.specs.declared.told.Why.TheVariants.{Dissolved}
use Rattle.session_state.specs.declared.state.MemberToken.{MemberToken}
use Rattle.session_state.specs.declared.state.Provider.{Provider}
use Rattle.session_state.specs.declared.state.Request.{Request}
use Rattle.session_state.specs.Calls.{new_provider}
use Rattle.node_state.specs.declared.call.CallLine.{CallLine}
use Rattle.node_state.specs.declared.call.CallLine.TheVariants as call
use Rattle.node_state.specs.declared.config.Config.{Config}
use Rattle.node_state.specs.declared.happened.Happened.{Happened}
use Rattle.node_state.specs.declared.happened.Happened.TheVariants as happened
use Rattle.node_state.specs.declared.state.Core.{Core}
use Rattle.node_state.specs.HandOn.{Answering}
use Rattle.node_state.specs.Calls.{take_call}
use Rattle.node_state.specs.Step.{NodeEvent, Ticks, Asks, Given, Calls, Garbage, at_work, stepped}
use Rattle.world_model.specs.Run.{Happening}
use Rattle.world_model.specs.declared.event.Event.{Event}
use Rattle.run_safety.specs.Past.{History, Within, earlier, records_of, view_now}
use Rattle.run_safety.specs.Group.{Line, Noted, kept}
use Rattle.run_safety.specs.Group as group
use Rattle.run_safety.specs.Requests.{carried}
use Rattle.run_safety.specs.SafeGroups.{SafeGroups}
use Rattle.run_safety.specs.Sight.{view_or_none, lines_at, lines_with, lines_of}
use Rattle.run_safety.proofs.SightLaws.{put_seen}
use Rattle.step_refinement.specs.Tied.{Scene, Owed, Rests, Tied, opening_of}
use Rattle.step_refinement.specs.Rules.{over, ended}
use Rattle.step_refinement.specs.Runs.{Reached}
use Rattle.step_refinement.proofs.Begins.{begin_tied}
use Rattle.step_refinement.proofs.Calls.{call_is_tied}
use Rattle.step_refinement.proofs.SessionLaws.{Attended}
use Rattle.step_refinement.proofs.RunLaw.{reached_rests, reached_runs}
use Rattle.run_induction.proofs.Idle.{Idle}
use Rattle.run_induction.proofs.Ran.{anyhow, ran_reached, reached_ran}
use Rattle.run_induction.proofs.Laws.{PastLaw, past_holds}
use Rattle.row_laws.proofs.failed_rows.Origin.{root_of}
use Rattle.row_laws.proofs.failed_rows.Asked.{asked_back}
use Rattle.run_laws.proofs.failed_causes.Renamed.{asked_in_one}
use Rattle.run_laws.proofs.seen_runs.Once.{safe_entries_asked}
use Rattle.call_laws.proofs.Outcomes.{Proposes, Refuses, Leaves, call_comes}
use Rattle.answer_laws.specs.Answers.{IsDue, AnswersAreDue, EachAnswerIsDue, AnswersOfScenesAreDue, IsOpen, ToldOfOpen, AnswersInOrder, AnswersOfScenesInOrder}
use Rattle.answer_laws.proofs.Told.{Due, Outstanding, Says, Tells, tells_stepped}
use Rattle.answer_laws.proofs.Order.{Plain, Open, Follows, AllFollow, Orders, orders_stepped}

-- ---- what a group sees of what is told

-- the provider was told of its request, in some view
abbrev SeesTold : ProviderId → ℕ → List Line → Type 0
SeesTold p r all = (u : ViewId) × Has (Noted (group.Told p r u)) all

told_now : (p : ProviderId) (r : ℕ) (y : Why) (g : List ℕ) (now : List Happened) (before : History) (all : List Line) → Has (happened.Told p r y) now → SeesTold p r (lines_with g now before all)
told_now p r y g [] before all i = absurd i
told_now p r y g (q ∷ now) before all (inl e) =
    let u : ViewId = view_or_none (view_now p.node (earlier now before)) in
    let here : Has (Noted (group.Told p r u)) (lines_at g (earlier now before) q) = subst (λ z. Has (Noted (group.Told p r u)) (lines_at g (earlier now before) z)) e (inl refl) in
    (u, append_has_left (Noted (group.Told p r u)) (lines_at g (earlier now before) q) (lines_with g now before all) here)
told_now p r y g (q ∷ now) before all (inr i) =
    let k = told_now p r y g now before all i in
    (k.0, append_has_right (Noted (group.Told p r k.0)) (lines_at g (earlier now before) q) (lines_with g now before all) k.1)

later : (x : Line) (g : List ℕ) (now : List Happened) (before : History) (all : List Line) → Has x all → Has x (lines_with g now before all)
later x g [] before all i = inr i
later x g (q ∷ now) before all i =
    append_has_right x (lines_at g (earlier now before) q) (lines_with g now before all) (later x g now before all i)

told_seen : (p : ProviderId) (r : ℕ) (y : Why) (g : List ℕ) (h : History) → Has (happened.Told p r y) (records_of h) → SeesTold p r (lines_of g h)
told_seen p r y g [] i = absurd i
told_seen p r y g (e ∷ before) i = by (has_append (happened.Told p r y) e.records (records_of before) i) (told_seen p r y g before)
  where
    by : Has (happened.Told p r y) e.records ⊎ Has (happened.Told p r y) (records_of before) → (Has (happened.Told p r y) (records_of before) → SeesTold p r (lines_of g before)) → SeesTold p r (lines_of g (e ∷ before))
    by (inl j) older = told_now p r y g e.records before (lines_of g before) j
    by (inr j) older =
        let k = older j in (k.0, later (Noted (group.Told p r k.0)) g e.records before (lines_of g before) k.1)

-- ---- a step

module _ (c : Config) (w : Scene) (n : ℕ) (f : Answering) (s : Core) (e : NodeEvent) (v : Event) (k : Reached c w) (next : Reached c (ended w n v (stepped f s e))) (up : w.cores n ≡ Some s) where
  abbrev t : Core
  t = stepped f s e

  abbrev root : Core
  root = root_of (at_work s) e

  rests : (g : List ℕ) → Rests g w
  rests g = reached_rests c w k g

  tells : Tells root t
  tells = tells_stepped f s e

  -- after the call of the event
  tied : (d : NodeEvent) (g : List ℕ) → Tied g w n (root_of (at_work s) d)
  tied Ticks g = begin_tied g w n s up (rests g)
  tied (Asks mask) g = begin_tied g w n s up (rests g)
  tied (Given q) g = begin_tied g w n s up (rests g)
  tied Garbage g = begin_tied g w n s up (rests g)
  tied (Calls d) g = call_is_tied d g w n (at_work s) (begin_tied g w n s up (rests g))

  safe : SafeGroups (opening_of w.config) w.before
  safe = (reached_runs c w k).0

  abbrev Now : History
  Now = over v root ∷ w.before

  grown : (r : Happened) → Has r (records_of Now) → Has r (earlier (reverse t.records) w.before)
  grown r i = by (has_append r (reverse root.records) (records_of w.before) i)
    where
      by : Has r (reverse root.records) ⊎ Has r (records_of w.before) → Has r (earlier (reverse t.records) w.before)
      by (inl j) = append_has_left r (reverse t.records) (records_of w.before) (reverse_has r t.records (tells.grown r (has_reverse r root.records j)))
      by (inr j) = append_has_right r (reverse t.records) (records_of w.before) j

  -- no call tells or puts anything
  single_has : (x y : Happened) → Has x (y ∷ []) → x ≡ y
  single_has x y (inl q) = q
  single_has x y (inr z) = absurd z

  module _ (x : Happened) where
    no_request : (m : MemberToken) (make : Provider → ℕ → Proposal) (rs : List Happened) → Proposes s.sessions m make rs → Has x rs → Plain x
    no_request m make rs a i =
        let q : x ≡ happened.Asked a.who.provider (s.sessions.last_request + 1) a.who.group (make a.who (s.sessions.last_request + 1)) = single_has _ _ (subst (Has x) a.is i) in
        subst Plain (sym q) tt

    no_call : (d : CallLine) (rs : List Happened) → Leaves s.sessions d rs → Has x rs → Plain x
    no_call (call.Join client h instance attrs) rs l i =
        let q : x ≡ happened.Asked (new_provider s.sessions instance) (s.sessions.last_request + 1) h (Join (new_provider s.sessions instance ∷ []) attrs None) = single_has _ _ (subst (Has x) l i) in
        subst Plain (sym q) tt
    no_call (call.Leave client h phases) rs l i = no_request _ _ rs l i
    no_call (call.Expel client h phases out) rs l i = no_request _ _ rs l i
    no_call (call.ChangeState client h phases u) rs l i = no_request _ _ rs l i
    no_call (call.SendMessage client h phases bytes) rs l i = no_request _ _ rs l i
    no_call (call.ChangeAttributes client h phases attrs) rs l i = no_request _ _ rs l i
    no_call (call.Vote client h b u) rs l i =
        let q : x ≡ happened.Cast l.who.provider l.phase.proto l.phase.phase b u None = single_has _ _ (subst (Has x) l.is i) in subst Plain (sym q) tt
    no_call (call.Init node name votes) rs l i = absurd (subst (Has x) l i)
    no_call (call.Subscribe client h) rs l i = absurd (subst (Has x) l i)
    no_call (call.Unsubscribe client h) rs l i = absurd (subst (Has x) l i)
    no_call (call.Goodbye client) rs l i = absurd (subst (Has x) l i)

    plain_call : (d : NodeEvent) → Has x (root_of (at_work s) d).records → Plain x
    plain_call Ticks i = absurd i
    plain_call (Asks mask) i = absurd i
    plain_call (Given q) i = absurd i
    plain_call Garbage i = absurd i
    plain_call (Calls d) i = by (call_comes d (at_work s) refl).leaves
      where
        by : Refuses (take_call (at_work s) d).records ⊎ Leaves s.sessions d (take_call (at_work s) d).records → Plain x
        by (inl a) = let q : x ≡ happened.Refused a.0 a.1 a.2 = single_has _ _ (subst (Has x) a.3 i) in subst Plain (sym q) tt
        by (inr l) = no_call d (take_call (at_work s) d).records l i

  -- of a request that is outstanding after the call
  module _ (q : Request) (there : Has q root.sessions.requests) where
    z : Tied q.group w n root
    z = tied e q.group

    owed : Owed z.ghost n root.views.inc q
    owed = (z.own.0).owes.requests q there refl

    asked : Has (happened.Asked q.provider q.request q.group q.proposal) (records_of Now)
    asked = asked_back q.provider q.request q.group q.proposal Now (subst (Has (Noted (group.Asked q.provider q.request q.proposal))) z.lines owed.asked)

    unput : (u : ViewId) (g : List ℕ) (i : ℕ) (x : Entry) → Has (happened.Put q.provider.node u g i x) (records_of w.before) → Has (q.provider, q.request) (carried x) → ⊥
    unput u g i x put names =
        let a = safe_entries_asked (opening_of w.config) w.before safe q.provider.node u g i x q.provider q.request put names in
        let one : g ≡ q.group =
        asked_in_one c (ended w n v t) next q.provider q.request g q.group a.0 q.proposal (append_has_right (happened.Asked q.provider q.request g a.0) (reverse t.records) (records_of w.before) a.1) (grown (happened.Asked q.provider q.request q.group q.proposal) asked)
        in
        let here : Has (happened.Put n u q.group i x) (records_of Now) =
        append_has_right (happened.Put n u q.group i x) (reverse root.records) (records_of w.before) (subst (λ (z : ℕ × List ℕ). Has (happened.Put z.0 u z.1 i x) (records_of w.before)) (λ j. (owed.node j, one j)) put)
        in
        owed.unput u i x (subst (λ z. Has (group.Put n u i x) (kept z)) (sym z.lines) (put_seen n u q.group i x Now here)) names

    untold : (why : Why) → Has (happened.Told q.provider q.request why) (records_of w.before) → ⊥
    untold why i =
        let a = told_seen q.provider q.request why q.group Now (append_has_right (happened.Told q.provider q.request why) (reverse root.records) (records_of w.before) i) in
        owed.untold a.0 (subst (Has (Noted (group.Told q.provider q.request a.0))) (sym z.lines) a.1)

    due : IsDue (over v t) w.before q.provider q.request
    due = record { group = q.group; proposal = q.proposal; asked = grown _ asked; unput = unput; untold = untold }

    -- and the call put and told nothing
    opened : IsOpen (records_of Now) q.provider q.request
    opened = record { group = q.group; proposal = q.proposal; asked = asked; unput = unput_now; untold = untold_now }
      where
        unput_now : (u : ViewId) (g : List ℕ) (i : ℕ) (x : Entry) → Has (happened.Put q.provider.node u g i x) (records_of Now) → Has (q.provider, q.request) (carried x) → ⊥
        unput_now u g i x put names = by (has_append (happened.Put q.provider.node u g i x) (reverse root.records) (records_of w.before) put)
          where
            by : Has (happened.Put q.provider.node u g i x) (reverse root.records) ⊎ Has (happened.Put q.provider.node u g i x) (records_of w.before) → ⊥
            by (inl j) = plain_call (happened.Put q.provider.node u g i x) e (has_reverse (happened.Put q.provider.node u g i x) root.records j)
            by (inr j) = unput u g i x j names

        untold_now : (why : Why) → Has (happened.Told q.provider q.request why) (records_of Now) → ⊥
        untold_now why i = by (has_append (happened.Told q.provider q.request why) (reverse root.records) (records_of w.before) i)
          where
            by : Has (happened.Told q.provider q.request why) (reverse root.records) ⊎ Has (happened.Told q.provider q.request why) (records_of w.before) → ⊥
            by (inl j) = plain_call (happened.Told q.provider q.request why) e (has_reverse (happened.Told q.provider q.request why) root.records j)
            by (inr j) = untold why j

  answers : AnswersAreDue (over v t) w.before
  answers p r y i = by (tells.fresh (happened.Told p r y) (has_reverse (happened.Told p r y) t.records i))
    where
      of : Due root.sessions p r y → ((r ≡ 0) × (y ≡ Dissolved)) ⊎ IsDue (over v t) w.before p r
      of (inl a) = inl a
      of (inr a) =
          inr (subst (λ (z : ProviderId × ℕ). IsDue (over v t) w.before z.0 z.1) (λ j. (a.of j, a.number j)) (due a.request a.there))

      by : Has (happened.Told p r y) root.records ⊎ Says root.sessions (happened.Told p r y) → ((r ≡ 0) × (y ≡ Dissolved)) ⊎ IsDue (over v t) w.before p r
      by (inl j) = absurd (plain_call (happened.Told p r y) e j)
      by (inr a) = of a

  -- ---- in order

  attended : Attended root.sessions
  attended = ((tied e []).own.0).owes.attended

  orders : Orders root t
  orders = orders_stepped f s e attended

  -- a telling of the step is of a request that was outstanding after the call
  told_due : (p : ProviderId) (r : ℕ) (y : Why) → Has (happened.Told p r y) orders.since → Due root.sessions p r y
  told_due p r y i =
      let j : Has (happened.Told p r y) (reverse t.records) = subst (Has (happened.Told p r y)) (sym orders.is) (append_has_left (happened.Told p r y) orders.since (reverse root.records) i) in
      by (tells.fresh (happened.Told p r y) (has_reverse (happened.Told p r y) t.records j))
    where
      by : Has (happened.Told p r y) root.records ⊎ Says root.sessions (happened.Told p r y) → Due root.sessions p r y
      by (inl j) = absurd (plain_call (happened.Told p r y) e j)
      by (inr a) = a

  -- what was open after the call, and is open among the records since
  still_open : (older : List Happened) (p : ProviderId) (r : ℕ) → Open older p r → IsOpen (records_of Now) p r → IsOpen (earlier (older ++ reverse root.records) w.before) p r
  still_open older p r o a =
      subst (λ z. IsOpen z p r) (sym (append_assoc older (reverse root.records) (records_of w.before))) (record { group = a.group; proposal = a.proposal; asked = append_has_right _ older (records_of Now) a.asked; unput = unput; untold = untold })
    where
      unput : (u : ViewId) (g : List ℕ) (i : ℕ) (x : Entry) → Has (happened.Put p.node u g i x) (older ++ records_of Now) → Has (p, r) (carried x) → ⊥
      unput u g i x put names = by (has_append (happened.Put p.node u g i x) older (records_of Now) put)
        where
          by : Has (happened.Put p.node u g i x) older ⊎ Has (happened.Put p.node u g i x) (records_of Now) → ⊥
          by (inl j) = o.unput p.node u g i x j names
          by (inr j) = a.unput u g i x j names

      untold : (y : Why) → Has (happened.Told p r y) (older ++ records_of Now) → ⊥
      untold y i = by (has_append (happened.Told p r y) older (records_of Now) i)
        where
          by : Has (happened.Told p r y) older ⊎ Has (happened.Told p r y) (records_of Now) → ⊥
          by (inl j) = o.untold y j
          by (inr j) = a.untold y j

  one_in_order : (older : List Happened) (x : Happened) → ((p : ProviderId) (r : ℕ) (y : Why) → x ≡ happened.Told p r y → Due root.sessions p r y) → Follows older x → ToldOfOpen (older ++ reverse root.records) w.before x
  one_in_order older (happened.Told p r y) of follows = by follows (of p r y refl)
    where
      by : ((r ≡ 0) × (y ≡ Dissolved)) ⊎ Open older p r → Due root.sessions p r y → ((r ≡ 0) × (y ≡ Dissolved)) ⊎ IsOpen (earlier (older ++ reverse root.records) w.before) p r
      by (inl d) k = inl d
      by (inr o) (inl d) = inl d
      by (inr o) (inr a) =
          inr (still_open older p r o (subst (λ (z : ProviderId × ℕ). IsOpen (records_of Now) z.0 z.1) (λ j. (a.of j, a.number j)) (opened a.request a.there)))
  one_in_order older _ of follows = tt

  -- the records of the call tell nothing
  plain_in_order : (rs : List Happened) → ((x : Happened) → Has x rs → Plain x) → Within ToldOfOpen rs w.before
  plain_in_order [] all = tt
  plain_in_order (x ∷ rs) all = (plain_order rs x (all x (inl refl)), plain_in_order rs (λ y i. all y (inr i)))
    where
      plain_order : (rs : List Happened) (x : Happened) → Plain x → ToldOfOpen rs w.before x
      plain_order rs (happened.Told p r y) a = absurd a
      plain_order rs _ a = tt

  since_in_order : (since : List Happened) → ((p : ProviderId) (r : ℕ) (y : Why) → Has (happened.Told p r y) since → Due root.sessions p r y) → AllFollow since → Within ToldOfOpen (since ++ reverse root.records) w.before
  since_in_order [] of all = plain_in_order (reverse root.records) (λ x i. plain_call x e (has_reverse x root.records i))
  since_in_order (x ∷ older) of all =
      (one_in_order older x (λ p r y q. of p r y (inl (sym q))) all.0, since_in_order older (λ p r y i. of p r y (inr i)) all.1)

  in_order : Within ToldOfOpen (reverse t.records) w.before
  in_order = subst (λ z. Within ToldOfOpen z w.before) (sym orders.is) (since_in_order orders.since told_due orders.each)

-- ---- every scene

-- where no node takes a step nothing is told
idle_answers : (e : Happening) (h : History) → ((r : Happened) → Has r e.records → Idle r) → AnswersAreDue e h
idle_answers e h idle p r y i = absurd (idle (happened.Told p r y) i)

telling : (c : Config) → PastLaw anyhow c EachAnswerIsDue
telling c =
    record {
      none = tt;
      outer = λ w e t o k. (idle_answers e w.before o.idle, k);
      steps = λ w n f s e v r next up arises says k. (answers c w n f s e v (ran_reached anyhow c w r) (ran_reached anyhow c (ended w n v (stepped f s e)) next) up, k);
    }

pub answers_of_scenes_are_due : AnswersOfScenesAreDue
answers_of_scenes_are_due c w k = past_holds anyhow c EachAnswerIsDue (telling c) w (reached_ran c w k)

-- ---- the same in order

idle_order : (rs : List Happened) (h : History) → ((r : Happened) → Has r rs → Idle r) → Within ToldOfOpen rs h
idle_order [] h idle = tt
idle_order (x ∷ rs) h idle = (at x (idle x (inl refl)), idle_order rs h (λ r i. idle r (inr i)))
  where
    at : (x : Happened) → Idle x → ToldOfOpen rs h x
    at (happened.Told p r y) a = absurd a
    at _ a = tt

ordering : (c : Config) → PastLaw anyhow c AnswersInOrder
ordering c =
    record {
      none = tt;
      outer = λ w e t o k. (idle_order e.records w.before o.idle, k);
      steps = λ w n f s e v r next up arises says k. (in_order c w n f s e v (ran_reached anyhow c w r) (ran_reached anyhow c (ended w n v (stepped f s e)) next) up, k);
    }

pub answers_of_scenes_in_order : AnswersOfScenesInOrder
answers_of_scenes_in_order c w k = past_holds anyhow c AnswersInOrder (ordering c) w (reached_ran c w k)
