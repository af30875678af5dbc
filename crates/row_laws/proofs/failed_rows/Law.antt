-- Each scene that events lead to.
use Rattle.std.proofs.Common.{◌≡◌, ◌⊎◌, ℕ, ◌+◌, List, [], ◌∷◌, ◌++◌, Some, None, true, false, refl, sym, ap, ◌∙◌, subst, inl, inr}
use Rattle.std.specs.Prelude.{◌&&◌, ◌||◌, reverse, if◌then◌else◌}
use Rattle.std.specs.List.{list_any}
use Rattle.std.proofs.lemmas.Bool.{eq-eqb}
use Rattle.rsct_packet.specs.declared.ids.ProviderId.{ProviderId}
use Rattle.rsct_packet.specs.Search.{Has}
use Rattle.rsct_packet.proofs.HasLaws.{append_has_left, has_filter, has_reverse}
use Rattle.proposal_core.specs.Lists.{state_in}
use Rattle.session_state.specs.declared.state.Provider.{Provider}
use Rattle.session_state.specs.State.{is_client_of, client_token}
use Rattle.node_state.specs.declared.call.CallLine.{CallLine}
use Rattle.node_state.specs.declared.call.CallLine.TheVariants as call
use Rattle.node_state.specs.declared.config.Config.{Config}
use Rattle.node_state.specs.declared.happened.Happened.{Happened}
use Rattle.node_state.specs.declared.happened.Happened.TheVariants as happened
use Rattle.proposal_core.specs.declared.proposal.Proposal.{Proposal}
use Rattle.node_state.specs.declared.packet.Body.{Body}
use Rattle.node_state.specs.declared.packet.Body.TheVariants as body
use Rattle.node_state.specs.declared.state.Core.{Core}
use Rattle.node_state.specs.HandOn.{Answering}
use Rattle.node_state.specs.Calls.{take_call}
use Rattle.node_state.specs.Step.{NodeEvent, Ticks, Asks, Given, Calls, Garbage, at_work, stepped}
use Rattle.world_model.specs.declared.event.Event.{Event}
use Rattle.run_safety.specs.Past.{records_of, inc_now}
use Rattle.run_safety.specs.Stays.{is_refused, asks_join, client_of, joining_client, goodbye_of, is_named}
use Rattle.step_refinement.specs.Tied.{Scene, NodeIs, NodeIsIf, Rests}
use Rattle.step_refinement.specs.Rules.{over, ended, Arises}
use Rattle.step_refinement.specs.Runs.{Reached}
use Rattle.step_refinement.proofs.Changed.{set_here}
use Rattle.step_refinement.proofs.Begins.{begin_tied}
use Rattle.step_refinement.proofs.RunLaw.{reached_rests}
use Rattle.step_refinement.proofs.Turns.{has_turned}
use Rattle.row_laws.proofs.honest_votes.At.{found, leads_row}
use Rattle.row_laws.proofs.honest_votes.Changes.{Every, NoGroup}
use Rattle.row_laws.proofs.hearing.Incarnations.{incs_of}
use Rattle.run_induction.proofs.Ran as runs
use Rattle.run_induction.proofs.Ran.{Telling, Ran, ran_reached}
use Rattle.run_induction.proofs.Laws.{IfUp, if_up, Holds, UpDone, UpLaw, ups_hold}
use Rattle.row_laws.specs.failed_rows.Failures.{GoneCause, SaidGoodbye}
use Rattle.row_laws.specs.failed_rows.Scenes.{Names, Played, Nothing, AllStart, Starts, Stops, Steps, Notes, FailuresAreHonest}
use Rattle.row_laws.proofs.failed_rows.Fitting.{noted_fit}
use Rattle.row_laws.proofs.failed_rows.Facts.{stepped_elsewhere, BasesFit, BodyFails, Lives, unasked_join, none_asked}
use Rattle.row_laws.proofs.failed_rows.Origin.{origin_of, root_of}
use Rattle.row_laws.proofs.failed_rows.Owners.{Owned, owned_slim, goodbye_named}
use Rattle.row_laws.proofs.failed_rows.Joining.{call_now}
use Rattle.row_laws.proofs.failed_rows.At.{At}
use Rattle.row_laws.proofs.failed_rows.Calling.{Taken, Ended}
use Rattle.row_laws.proofs.failed_rows.Steps.{BodyGone, Calling, at_stepped}
use Rattle.row_laws.proofs.failed_rows.Between.{fails, tally_on, queue_on, goodbye_on, gone_on, body_gone_on, CoreFails, core_on, who_is}
use Rattle.row_laws.proofs.failed_rows.Starting.{idle_asks, idle_puts, new_unasked, started_fails}

-- runs in which each call is noted as such
abbrev pub playing : Telling
playing = record { steps = Names; others = λ w v. Unit {0} }

pub played_ran : (c : Config) (w : Scene) → Played c w → Ran playing c w
played_ran c _ Nothing = runs.Nothing
played_ran c _ (AllStart fixed) = runs.AllStart fixed
played_ran c _ (Starts w n e k free real down) = runs.Starts w n e (played_ran c w k) free real down tt
played_ran c _ (Stops w n e s k up) = runs.Stops w n e s (played_ran c w k) up tt
played_ran c _ (Steps w n f s e v k up arises says) = runs.Steps w n f s e v (played_ran c w k) up arises says
played_ran c _ (Notes w e rs k notes) = runs.Notes w e rs (played_ran c w k) notes tt

pub reached : (c : Config) (w : Scene) → Played c w → Reached c w
reached c w k = ran_reached playing c w (played_ran c w k)

pub rests_in : (c : Config) (w : Scene) → Ran playing c w → (g : List ℕ) → Rests g w
rests_in c w r g = reached_rests c w (ran_reached playing c w r) g

-- ---- a step

none_refused : (rs : List Happened) → ((r : Happened) → Has r rs → is_refused r ≡ false) → list_any is_refused rs ≡ false
none_refused [] all = refl
none_refused (r ∷ rs) all = ap (λ b. b || list_any is_refused rs) (all r (inl refl)) ∙ none_refused rs (λ q i. all q (inr i))

module _ (w : Scene) (n : ℕ) (f : Answering) (s : Core) (e : NodeEvent) (v : Event) (up : w.cores n ≡ Some s) (rests : (g : List ℕ) → Rests g w) (after : (g : List ℕ) → Rests g (ended w n v (stepped f s e))) (arises : Arises w e) (says : Names n e v) (counts : inc_now n (records_of w.before) ≡ w.incs n) (k : Holds (if_up fails) w) where
  abbrev pub t : Core
  t = stepped f s e

  -- a goodbye of this event is taken
  abbrev Leaves : Type 0
  Leaves = (client : List ℕ) × (e ≡ Calls (call.Goodbye client)) × Taken s.sessions (call.Goodbye client)

  abbrev Said : ProviderId → Type 0
  Said p = ((l : Leaves) × (p.node ≡ n) × (is_named l.0 (client_of p w.before) ≡ true)) ⊎ SaidGoodbye w.before p

  pub were : CoreFails w.before s
  were = subst (IfUp (CoreFails w.before)) up (k.nodes n)

  pub is_node : NodeIsIf w.config (rests []).ghost [] n (w.incs n) (Some s)
  is_node = subst (NodeIsIf w.config (rests []).ghost [] n (w.incs n)) up ((rests []).nodes n)

  pub counted : inc_now s.views.me (records_of w.before) ≡ s.views.inc
  counted = ap (λ m. inc_now m (records_of w.before)) ((is_node.0).stands.me) ∙ counts ∙ sym is_node.2

  begin : CoreFails w.before s → At w.before Said (origin_of s None) (Unit {0}) (Unit {0}) Leaves Every NoGroup Every (at_work s)
  begin c =
      record {
        inc = refl;
        counted = counted;
        own = λ p node inc asked. begun p (c.own p node inc asked);
        slim = tt;
        sends = λ p i. absurd i;
        puts = λ l fit. tt;
        accepted = λ m r i. absurd i;
        whose = λ r i. absurd i;
        order = c.order;
        tracks = λ l g. c.tracks g;
        marks = λ l g p i. c.marks g p i;
        tallies = λ g u. c.tallies g;
        queues = λ fit g u. c.queues g;
        apart = λ l fit g. c.apart g;
        led = λ g z. absurd z;
        whys = c.whys;
        takers = c.takers;
      }
    where
      begun : (p : ProviderId) → Lives (SaidGoodbye w.before) s.sessions (records_of w.before) p → Lives Said s.sessions (records_of w.before) p
      begun p (inl k) = inl k
      begun p (inr (inl k)) = inr (inl (inr k))
      begun p (inr (inr k)) = inr (inr k)

  at_begin : At w.before Said (origin_of s None) (Unit {0}) (Unit {0}) Leaves Every NoGroup Every (at_work s)
  at_begin = begin were

  calls : Calling (at_work s) Said Leaves e
  calls = record { mine = λ p i. subst (λ (z : ProviderId). z.node ≡ s.views.me) i.2 ((here.owes.providers i.0 i.1).0 ∙ sym here.stands.me); me = here.owes.me ∙ sym here.stands.me; taken = taken; says = goodbye; owner = ((rests []).turns n s up).owner }
    where
      here : NodeIs (rests []).ghost [] n s
      here = (subst (NodeIsIf w.config (rests []).ghost [] n (w.incs n)) up ((rests []).nodes n)).0

      taken : (c : CallLine) → e ≡ Calls c → Leaves → Taken s.sessions c
      taken c q m = let z : Calls (call.Goodbye m.0) ≡ Calls c = sym m.1 ∙ q in
          let y : call.Goodbye m.0 ≡ c = cc in subst (Taken s.sessions) y m.2

      goodbye : (c : CallLine) → e ≡ Calls c → Taken s.sessions c → (x : Provider) → Has x (Ended s.sessions c) → Said x.provider
      goodbye (call.Goodbye client) q m x i =
          let j = has_filter (is_client_of (client_token s.sessions client)) x s.sessions.providers i in
          inl ((client, q, m), (here.owes.providers x j.0).0, goodbye_named (λ p. client_of p w.before) s.sessions client were.owners x j.0 j.1)
      goodbye (call.Init node name votes) q m x i = absurd m
      goodbye (call.Join client g instance attrs) q m x i = absurd m
      goodbye (call.Leave client g phases) q m x i = absurd m
      goodbye (call.Expel client g phases out) q m x i = absurd m
      goodbye (call.ChangeState client g phases value) q m x i = absurd m
      goodbye (call.SendMessage client g phases bytes) q m x i = absurd m
      goodbye (call.ChangeAttributes client g phases attrs) q m x i = absurd m
      goodbye (call.Vote client g b value) q m x i = absurd m
      goodbye (call.Subscribe client g) q m x i = absurd m
      goodbye (call.Unsubscribe client g) q m x i = absurd m

  pub at : At w.before Said (origin_of s (Some (root_of (at_work s) e))) (Unit {0}) (Unit {0}) Leaves Every NoGroup Every t
  at = at_stepped w n f s Said Leaves e k.sent (λ h. begin_tied h w n s up (rests h)) arises at_begin calls

  -- whoever asks in this event asks by the call
  pub asked_by_call : (p : ProviderId) (r : ℕ) (g : List ℕ) (x : Proposal) → Has (happened.Asked p r g x) t.records → Has (happened.Asked p r g x) (root_of (at_work s) e).records
  asked_by_call = at.slim.asked

  -- at its own node
  pub asked_here : (p : ProviderId) (r : ℕ) (g : List ℕ) (x : Proposal) → Has (happened.Asked p r g x) t.records → p.node ≡ t.views.me
  asked_here p r g x i = at.whose (happened.Asked p r g x) i

  pub fit : BasesFit t.records
  fit r i = noted_fit (ended w n v t) after r (has_turned r t.records (records_of w.before) (append_has_left r t.records (records_of w.before) i))

  pub me : t.views.me ≡ n
  me = who_is (ended w n v t) (after []) n t (set_here w.cores n (Some t))

  -- a goodbye of this event, or of an earlier one
  goodbye_said : (p : ProviderId) → Said p → SaidGoodbye (over v t ∷ w.before) p
  goodbye_said p (inl c) =
      record {
        event = over v t;
        newer = [];
        older = w.before;
        moment = refl;
        said = ap (λ z. goodbye_of p.node (client_of p w.before) (Some z)) (says (call.Goodbye (c.0).0) (c.0).1) ∙ (λ i. eq-eqb n p.node (sym c.1) i && c.2 i);
        taken = none_refused (reverse t.records) (λ r i. at.accepted c.0 r (has_reverse r t.records i));
      }
  goodbye_said p (inr k) = goodbye_on (over v t) w.before p k

  own_after : (p : ProviderId) → Lives Said t.sessions (reverse t.records ++ records_of w.before) p → Lives (SaidGoodbye (over v t ∷ w.before)) t.sessions (reverse t.records ++ records_of w.before) p
  own_after p (inl k) = inl k
  own_after p (inr (inl k)) = inr (inl (goodbye_said p k))
  own_after p (inr (inr k)) = inr (inr k)

  -- GONE that is sent has its cause
  sent_gone : (b : Body) → BodyFails Said (reverse t.records ++ records_of w.before) b → BodyGone (over v t ∷ w.before) b
  sent_gone (body.Ring x) c = tt
  sent_gone (body.Report rows) c = tt
  sent_gone (body.View y) c = tt
  sent_gone (body.Lookup u g) c = tt
  sent_gone (body.Name u g m) c = tt
  sent_gone (body.Request u g q r phases x) c = tt
  sent_gone (body.Tell u g q r y) c = c
  sent_gone (body.Entry u g place stable x) c = tt
  sent_gone (body.Ack u g m) c = tt
  sent_gone (body.Vote u g proto phase p vote value message) c = tt
  sent_gone (body.Gone u g p) (inl c) = inl (goodbye_said p c)
  sent_gone (body.Gone u g p) (inr c) = inr c
  sent_gone (body.Query question what) c = tt
  sent_gone (body.Reply question text) c = tt

  -- after a call each provider is of the client whose call joined it
  abbrev pub root : Core
  root = root_of (at_work s) e

  pub rooted : (e : NodeEvent) → Names n e v → Owned (λ p. if list_any (asks_join p) (reverse (root_of (at_work s) e).records) then joining_client (Some v) else client_of p w.before) (root_of (at_work s) e).sessions
  rooted Ticks says = were.owners
  rooted (Asks mask) says = were.owners
  rooted (Given p) says = were.owners
  rooted Garbage says = were.owners
  rooted (Calls c) says =
      subst (λ (z : Event). Owned (λ p. if list_any (asks_join p) (reverse (take_call (at_work s) c).records) then joining_client (Some z) else client_of p w.before) (take_call (at_work s) c).sessions) (sym (says c refl)) (call_now (λ p. client_of p w.before) c (at_work s) refl ((rests []).turns n s up).numbered were.owners)

  step_fails : UpDone fails w n v t
  step_fails =
      record {
        sends = λ p i. sent_gone p.body (at.sends p i);
        node = own;
        others = λ m ne d is b. core_on m (over v t) w.before d (who_is w (rests []) m d is) (λ r i. stepped_elsewhere t.views.me m r (λ q. ne (sym q ∙ me)) (at.whose r (has_reverse r t.records i))) b;
        lines = (at.puts tt fit, k.lines);
      }
    where
      here : NodeIs (after []).ghost [] n t
      here = (subst (NodeIsIf w.config (after []).ghost [] n (w.incs n)) (set_here w.cores n (Some t)) ((after []).nodes n)).0

      own : CoreFails (over v t ∷ w.before) t
      own =
          record {
            order = at.order;
            tracks = λ g. at.tracks tt g;
            marks = λ g p i. gone_on (over v t) w.before t.views.view g p (at.marks tt g p i);
            tallies = λ g. tally_on (GoneCause w.before t.views.view g) (GoneCause (over v t ∷ w.before) t.views.view g) (gone_on (over v t) w.before t.views.view g) (leads_row t (found t g)) (found t g).led.tally (state_in (found t g).list) (at.tallies g tt);
            queues = λ g. queue_on (GoneCause w.before t.views.view g) (GoneCause (over v t ∷ w.before) t.views.view g) (gone_on (over v t) w.before t.views.view g) (leads_row t (found t g)) (found t g).led.waiting.failures (state_in (found t g).list) (at.queues fit g tt);
            apart = λ g. at.apart tt fit g;
            own = λ p node inc asked. own_after p (at.own p node (inc ∙ at.inc) asked);
            mine = λ x i. (here.owes.providers x i).0 ∙ sym me;
            whys = at.whys;
            takers = at.takers;
            owners = owned_slim (λ p. if list_any (asks_join p) (reverse root.records) then joining_client (Some v) else client_of p w.before) (λ p. client_of p (over v t ∷ w.before)) root.sessions t.sessions (λ x i. ap (λ b. if b then joining_client (Some v) else client_of x.provider w.before) (at.slim.asks x.provider)) at.slim.sessions (rooted e says);
          }

-- ---- every scene

pub failing : (c : Config) → UpLaw playing c fails
failing c =
    record {
      none = tt;
      sent_on = λ e h x k. body_gone_on e h x.body k;
      stays = λ w e t o m s up all k. core_on m e w.before s (who_is w (rests_in c w o.from []) m s up) all k;
      comes = λ w e t o m came down. started_fails c m (w.incs m + 1) e w.before came (λ p node inc. none_asked p e.records (records_of w.before) (λ r i. unasked_join r (idle_asks r (o.idle r i)) p) ∙ new_unasked w (rests_in c w o.from) m down p node inc);
      lines_on = λ w e t o k. (idle_puts e.records w.before o.idle, k);
      steps = λ w n f s e v r next up arises says h k. step_fails w n f s e v up (rests_in c w r) (rests_in c (ended w n v (stepped f s e)) next) arises says (incs_of c w (ran_reached playing c w r) n) h;
    }

pub fails_hold : (c : Config) (w : Scene) → Ran playing c w → Holds (if_up fails) w
fails_hold c w r = ups_hold playing c fails (failing c) w r

pub failures_are_honest : FailuresAreHonest
failures_are_honest c w k = (fails_hold c w (played_ran c w k)).lines
