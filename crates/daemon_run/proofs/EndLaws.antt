-- How a daemon's whole life comes together.
use Rattle.std.proofs.Common.{◌≡◌, ℕ, ◌≤◌, Bool, true, List, [], ◌∷◌, ◌++◌, map, Option, IfSome, IsSomeAnd, refl, sym, ◌∙◌, ap, subst, append_assoc, append-nil, arith}
use Rattle.std.specs.Prelude.{Result, Ok, Err, OnOk, IfErr}
use Rattle.std.proofs.lemmas.List.{map-append}
use Rattle.hags_io.specs.Deeds.{Read, Opened}
use Rattle.hags_io.specs.Edges.{Rose}
use Rattle.hags_io.specs.Telling.{Telling, Did}
use Rattle.hags_io.specs.Fronts.{EndsByWrite, EndsByReceive}
use Rattle.hags_io.proofs.FrontLaws.{went_as, rose_by_write, rose_by_receive}
use Rattle.client_callbacks.specs.declared.votes.VoteItem.{VoteItem}
use Rattle.client_callbacks.specs.Handed.{Handed}
use Rattle.link_use.specs.declared.stop.Stop.{Stop}
use Rattle.link_use.specs.declared.stop.Stop.TheVariants as stop
use Rattle.link_use.specs.Stops.{StopsBy, StopsDaemon}
use Rattle.link_use.proofs.OpenLaws.{rose_after}
use Rattle.node_state.specs.declared.config.Config.{Config}
use Rattle.node_state.specs.Step.{at_work}
use Rattle.node_core.specs.Node.{NodeView}
use Rattle.world_model.specs.declared.script.Script.{Script}
use Rattle.daemon_model.specs.declared.options.Options.{Options}
use Rattle.daemon_model.specs.declared.options.Pace.{Pace}
use Rattle.daemon_model.specs.declared.options.Service.{Service}
use Rattle.node_state.specs.declared.happened.Happened.{Happened}
use Rattle.daemon_model.specs.Sent.{Exchange}
use Rattle.daemon_model.specs.Daemon.{Daemon, Opening, Turn, Life, fresh, begun_for, lived}
use Rattle.daemon_model.specs.Actions.{Action, Opens, did_all}
use Rattle.daemon_model.specs.Options.{is_pause, first_pace, Follows, paced_all}
use Rattle.daemon_model.specs.Doings.{Doing, Reads, since, doings_of, life_doings, Made, MadeFront}
use Rattle.daemon_model.specs.Lives.{first_of, GoesOn, Lived, ServesAs, ServesTo, ServesToPause, ServesFront, most_failed}
use Rattle.daemon_model.specs.Settings.{placings, openings}
use Rattle.daemon_model.proofs.ActionLaws.{lives_are_actions, opens_done}
use Rattle.daemon_model.proofs.AddLaws.{doings_append}
use Rattle.daemon_model.proofs.ActionLaws.{did_append}
use Rattle.daemon_model.proofs.MadeLaws.{made_on, made_front_on}
use Rattle.daemon_run.specs.declared.hosted.Hosted.{Hosted}
use Rattle.daemon_run.specs.declared.running.Running.{Running}
use Rattle.daemon_run.specs.Hosting.{Known}
use Rattle.daemon_run.specs.Audience.{Audience, no_audience, ActionsHand, Attend, AttendWith}
use Rattle.daemon_run.specs.Doing.{daemon_of, Acts, Passes, Attends, WriteFails}
use Rattle.daemon_run.specs.Calling.{calls_in, fresh_running, opening_doings, opened_by, BeginsWith, BeginsAs, BeginBreaks, BeginFails}
use Rattle.daemon_run.specs.Serving.{acts_in, TurnsDone, TurnsServed, TurnsEnded, TurnsPause, FrontOfTurns, TurnsFront, RestOfTurns, TurnsFail}
use Rattle.daemon_run.specs.Ends.{HandsOver, daemon_after, LeftByAll, LeftByLink, LeftByPause, LeftByWrite, LeftBy, left_of}
use Rattle.daemon_run.proofs.FailLaws.{fails_on}
use Rattle.daemon_run.proofs.GoesLaws.{hands_append}
use Rattle.daemon_run.proofs.CallLaws.{unanswered, unanswered_are}

-- ---- the doings of a life, part by part

read_made : (t u : Telling) (moment : ℕ) → Did t u (Read moment ∷ []) → Made t u (Reads moment ∷ [])
read_made t u moment h = record { went = went_as t u (Read moment) (Read moment) refl h; spelled = tt }

-- the start, the calls of the settings, and acts
acts_parts : (service : Service) (c : Config) (me inc moment : ℕ) (os : List Opening) (acts : List Action)
    → Reads moment ∷ (opening_doings service c me inc moment os ++ doings_of (opened_by service c me inc moment os) acts)
    ≡ Reads moment ∷ (since (fresh service c me inc moment) (begun_for service c me inc moment) ++ doings_of (begun_for service c me inc moment) (map Opens os ++ acts))
acts_parts service c me inc moment os acts =
    let d : Daemon = begun_for service c me inc moment in
    let first : List Doing = since (fresh service c me inc moment) d in
    ap (λ x. Reads moment ∷ x) (append_assoc first (doings_of d (map Opens os)) (doings_of (did_all d (map Opens os)) acts) ∙ ap (λ x. first ++ x) (sym (doings_append d (map Opens os) acts)))

-- and turns
life_parts : (service : Service) (c : Config) (me inc moment : ℕ) (os : List Opening) (ts : List Turn)
    → Reads moment ∷ (opening_doings service c me inc moment os ++ doings_of (opened_by service c me inc moment os) (acts_in ts)) ≡ life_doings c me inc (record { service = service; start = moment; opening = os; turns = ts })
unfolding life_doings
life_parts service c me inc moment os ts = acts_parts service c me inc moment os (acts_in ts)

last_is : (service : Service) (c : Config) (me inc moment : ℕ) (os : List Opening) (ts : List Turn) → lived c me inc (record { service = service; start = moment; opening = os; turns = ts }) ≡ did_all (opened_by service c me inc moment os) (acts_in ts)
last_is service c me inc moment os ts =
    lives_are_actions c me inc (record { service = service; start = moment; opening = os; turns = ts }) ∙ did_append (begun_for service c me inc moment) (map Opens os) (acts_in ts)

module _ {C : Type 0} where
  -- the moment of a start is that which the clock gave
  pub fresh_at : (r : Running C) (service : Service) (c : Config) (me inc moment : ℕ) → r ≡ fresh_running service c me inc moment → r ≡ fresh_running service c me inc r.last
  fresh_at r service c me inc moment is = is ∙ ap (λ (m : ℕ). fresh_running {C = C} service c me inc m) (sym (ap (λ (x : Running C). x.last) is))

  pub read_at : (r : Running C) (service : Service) (c : Config) (me inc moment : ℕ) (t u : Telling) → r ≡ fresh_running service c me inc moment → Did t u (Read moment ∷ []) → Did t u (Read r.last ∷ [])
  read_at r service c me inc moment t u is h = subst (λ (m : ℕ). Did t u (Read m ∷ [])) (sym (ap (λ (x : Running C). x.last) is)) h

  -- the daemon after its turns
  after_turns : {A B D : Known → List (Hosted C) → Audience → Type 0} (service : Service) (script : Script) (me inc moment : ℕ) (s q : Running C) (ts : List Turn) (t u v w : Telling) → (h : BeginsAs A B service script me inc moment s t u) → (n : Acts D D s q v w (acts_in ts))
      → did_all (opened_by service script.config me inc moment h.opening) (acts_in ts)
      ≡ daemon_of q ((opened_by service script.config me inc moment h.opening).calls ++ n.calls) ((opened_by service script.config me inc moment h.opening).records ++ n.records)
  after_turns service script me inc moment s q ts t u v w h n =
      let d : Daemon = opened_by service script.config me inc moment h.opening in
      ap (λ (e : Daemon). did_all e (acts_in ts)) h.is ∙ n.is d.calls d.records

  -- the daemon that began is the one that goes on from there
  follows_from : {A B : Known → List (Hosted C) → Audience → Type 0} (asked : Options) (script : Script) (me inc moment : ℕ) (s : Running C) (u v : Telling) (h : BeginsAs A B asked.service script me inc moment s u v) (ts : List Turn)
      → Follows asked (first_pace moment) (daemon_of s (opened_by asked.service script.config me inc moment h.opening).calls (opened_by asked.service script.config me inc moment h.opening).records) ts
      → Follows asked (first_pace moment) (first_of script me inc (record { service = asked.service; start = moment; opening = h.opening; turns = ts })) ts
  follows_from asked script me inc moment s u v h ts k =
      subst (λ (e : Daemon). Follows asked (first_pace moment) e ts) (sym (opens_done (begun_for asked.service script.config me inc moment) h.opening ∙ h.is)) k

  lived_as : {A B D : Known → List (Hosted C) → Audience → Type 0} (asked : Options) (script : Script) (me inc moment : ℕ) (s q : Running C) (ts : List Turn) (t u v w : Telling) → Did t u (Read moment ∷ []) → (h : BeginsAs A B asked.service script me inc moment s u v)
      → Acts D D s q v w (acts_in ts) → ((before : List Exchange) (noted : List Happened) → Follows asked (first_pace moment) (daemon_of s before noted) ts) → Lived script me inc asked (record { service = asked.service; start = moment; opening = h.opening; turns = ts }) t w
  lived_as asked script me inc moment s q ts t u v w at h n follows =
      let d : Daemon = opened_by asked.service script.config me inc moment h.opening in
      let done : n.done ≡ doings_of d (acts_in ts) = sym (ap (λ (e : Daemon). doings_of e (acts_in ts)) h.is ∙ n.are d.calls d.records) in
      record {
        serves = refl;
        opening = h.are;
        follows = follows_from asked script me inc moment s u v h ts (follows d.calls d.records);
        made = subst (Made t w) (ap (λ x. Reads moment ∷ (opening_doings asked.service script.config me inc moment h.opening ++ x)) done ∙ life_parts asked.service script.config me inc moment h.opening ts)
            (made_on t u w (Reads moment ∷ []) (opening_doings asked.service script.config me inc moment h.opening ++ n.done) (read_made t u moment at)
            (made_on u v w (opening_doings asked.service script.config me inc moment h.opening) n.done h.made n.made));
      }

  serves_all : {A B D : Known → List (Hosted C) → Audience → Type 0} (asked : Options) (script : Script) (me inc moment count : ℕ) (pace : Pace) (s q : Running C) (t u v w : Telling) → Did t u (Read moment ∷ []) → BeginsAs A B asked.service script me inc moment s u v → TurnsDone D asked (first_pace moment) pace s q count v w
      → ServesAs script me inc asked count (at_work q.node.core) t w
  serves_all asked script me inc moment count pace s q t u v w at h n =
      let d : Daemon = opened_by asked.service script.config me inc moment h.opening in
      record {
        life = record { service = asked.service; start = moment; opening = h.opening; turns = n.turns };
        lived = lived_as asked script me inc moment s q n.turns t u v w at h n.acts n.follows;
        so_many = n.so_many;
        goes_on = subst (λ (e : Daemon). GoesOn e n.turns) (sym (opens_done (begun_for asked.service script.config me inc moment) h.opening ∙ h.is)) (n.goes_on d.calls d.records);
        core_is = sym (ap (λ (e : Daemon). e.core) (last_is asked.service script.config me inc moment h.opening n.turns ∙ after_turns asked.service script me inc moment s q n.turns u v v w h n.acts));
      }

  pub serves_to : {A B D : Known → List (Hosted C) → Audience → Type 0} (asked : Options) (script : Script) (me inc moment count : ℕ) (s q : Running C) (t u v w : Telling) → Did t u (Read moment ∷ []) → BeginsAs A B asked.service script me inc moment s u v → TurnsEnded D asked (first_pace moment) s q count v w
      → ServesTo script me inc asked count t w
  serves_to asked script me inc moment count s q t u v w at h n = record {
    life = record { service = asked.service; start = moment; opening = h.opening; turns = n.turns };
    lived = lived_as asked script me inc moment s q n.turns t u v w at h n.acts n.follows;
    at_most = n.at_most;
    ended = subst (λ (k : ℕ). most_failed ≤ k)
        (sym (ap (λ (e : Daemon). e.failed) (last_is asked.service script.config me inc moment h.opening n.turns ∙ after_turns asked.service script me inc moment s q n.turns u v v w h n.acts))) n.ended;
  }

  -- it read a moment that is a pause
  pub serves_to_pause : {A B D : Known → List (Hosted C) → Audience → Type 0} (asked : Options) (script : Script) (me inc moment count : ℕ) (s q : Running C) (t u v w : Telling) → Did t u (Read moment ∷ []) → BeginsAs A B asked.service script me inc moment s u v
      → TurnsPause D asked (first_pace moment) s q count v w → ServesToPause script me inc asked count t w
  serves_to_pause asked script me inc moment count s q t u v w at h n =
      let d : Daemon = opened_by asked.service script.config me inc moment h.opening in
      record {
        life = record { service = asked.service; start = moment; opening = h.opening; turns = n.turns };
        before = n.reached;
        lived = lived_as asked script me inc moment s q n.turns t u v n.reached at h n.acts n.follows;
        fewer = n.fewer;
        moment = n.moment;
        read = n.read;
        pause = subst (λ (e : Daemon). is_pause asked.gap (paced_all asked (first_pace moment) e n.turns).before n.moment ≡ true)
            (sym (opens_done (begun_for asked.service script.config me inc moment) h.opening ∙ h.is)) (n.pause d.calls d.records);
      }

  pub serves_front : {A B : Known → List (Hosted C) → Audience → Type 0} (asked : Options) (script : Script) (me inc moment count : ℕ) (s : Running C) (t u v w : Telling) → Did t u (Read moment ∷ []) → BeginsAs A B asked.service script me inc moment s u v → TurnsFront asked (first_pace moment) s count v w
      → ServesFront script me inc asked count t w
  serves_front asked script me inc moment count s t u v w at h n =
      let d : Daemon = opened_by asked.service script.config me inc moment h.opening in
      let k : FrontOfTurns asked (first_pace moment) (daemon_of s d.calls d.records) count v w = n d.calls d.records in
      record {
        life = record { service = asked.service; start = moment; opening = h.opening; turns = k.turns };
        lived = record {
          serves = refl;
          opening = h.are;
          follows = follows_from asked script me inc moment s u v h k.turns k.follows;
          made = subst (MadeFront t w)
              (ap (λ x. Reads moment ∷ (opening_doings asked.service script.config me inc moment h.opening ++ x)) (sym (ap (λ (e : Daemon). doings_of e (acts_in k.turns)) h.is)) ∙ life_parts asked.service script.config me inc moment h.opening k.turns)
              (made_front_on t u w (Reads moment ∷ []) (opening_doings asked.service script.config me inc moment h.opening ++ doings_of (daemon_of s d.calls d.records) (acts_in k.turns)) (read_made t u moment at)
              (made_front_on u v w (opening_doings asked.service script.config me inc moment h.opening) (doings_of (daemon_of s d.calls d.records) (acts_in k.turns)) h.made (k.made)));
        };
        at_most = k.at_most;
      }

-- it broke off as it began
pub serves_begun : (asked : Options) (script : Script) (me inc moment count : ℕ) (t u v : Telling) → Did t u (Read moment ∷ []) → BeginBreaks asked.service script me inc moment u v → ServesFront script me inc asked count t v
unfolding doings_of
serves_begun asked script me inc moment count t u v at h = record {
  life = record { service = asked.service; start = moment; opening = h.opening; turns = [] };
  lived = record {
    serves = refl;
    opening = h.are;
    follows = tt;
    made = subst (MadeFront t v) (ap (λ x. Reads moment ∷ x) (sym (append-nil (opening_doings asked.service script.config me inc moment h.opening))) ∙ life_parts asked.service script.config me inc moment h.opening [])
        (made_front_on t u v (Reads moment ∷ []) (opening_doings asked.service script.config me inc moment h.opening) (read_made t u moment at) h.made);
  };
  at_most = omega arith;
}

-- ---- the node that is left

-- after all turns it is given back
pub serves_left : {C : Type 0} {A B : Known → List (Hosted C) → Audience → Type 0} (D : Known → List (Hosted C) → Audience → Type 0) (asked : Options) (script : Script) (me inc moment count : ℕ) (s q : Running C) (t u v w : Telling) (o : Option (NodeView (Hosted C))) (end : Result (Unit {0}) Stop) → o ≡ left_of end q.node → Did t u (Read moment ∷ [])
    → BeginsAs A B asked.service script me inc moment s u v → OnOk end (TurnsServed D asked moment s q count v w) → OnOk end (IsSomeAnd o (λ node. ServesAs script me inc asked count (at_work node.core) t w))
serves_left {C = C} D asked script me inc moment count s q t u v w o (Ok x) is at h done = subst (λ (y : Option (NodeView (Hosted C))). IsSomeAnd y (λ node. ServesAs script me inc asked count (at_work node.core) t w)) (sym is) (serves_all asked script me inc moment count done.pace s q t u v w at h done.done)
serves_left D asked script me inc moment count s q t u v w o (Err f) is at h done = tt

module _ {C : Type 0} {P : Known → Type 0} {R : C → List Handed → Type 0} {votes : C → Option (List (Option VoteItem))} where
  -- no session, and the objects as they were handed in
  attends_first : (known : Known) → P known → AttendWith P R votes known [] no_audience
  attends_first known held = record { left = held; attend = record { stand = tt; even = refl; logs = tt; boxed = refl } }

  -- what acts handed, and more acts
  acts_hand_over : (script : Script) (me inc : ℕ) (life : Life) (s q : Running C) (d : Daemon) (acts more : List Action) → daemon_after script me inc life acts ≡ d → HandsOver P R votes script me inc life acts s.node
      → ((x : Audience) → (y : Audience) × ActionsHand d more x y × Passes (Attend R votes) (Attend R votes) s.node.clients q.node.clients x y) → HandsOver P R votes script me inc life (acts ++ more) q.node
  acts_hand_over script me inc life s q d acts more is h k =
      let next : (y : Audience) × ActionsHand d more h.last y × Passes (Attend R votes) (Attend R votes) s.node.clients q.node.clients h.last y = k h.last in
      record {
        last = next.0;
        hands = hands_append (begun_for life.service script.config me inc life.start) acts more no_audience h.last next.0 h.hands (subst (λ (e : Daemon). ActionsHand e more h.last next.0) (sym is) next.1);
        stand = λ known held. next.2 known (h.stand known held);
      }

module _ {C : Type 0} {P Q : Known → Type 0} {R : C → List Handed → Type 0} {votes : C → Option (List (Option VoteItem))} where
  -- what the calls handed
  calls_hand : (asked : Options) (script : Script) (me inc moment : ℕ) (s : Running C) (os more : List Opening) (ts : List Turn) → BeginsWith (AttendWith P R votes) (AttendWith Q R votes) asked.service script.config me inc moment s os
      → HandsOver P R votes script me inc (record { service = asked.service; start = moment; opening = more; turns = ts }) (map Opens os) s.node
  calls_hand asked script me inc moment s os more ts h =
      let first : (v : Audience) × ActionsHand (begun_for asked.service script.config me inc moment) (map Opens os) no_audience v × Passes (AttendWith P R votes) (AttendWith Q R votes) [] s.node.clients no_audience v = h no_audience in
      record { last = first.0; hands = first.1; stand = λ known held. (first.2 known (attends_first known held)).attend }

  -- all of a life that began
  turns_hand : (asked : Options) (script : Script) (me inc moment : ℕ) (s q : Running C) (ts : List Turn) (acts : List Action) (u v : Telling) → (h : BeginsAs (AttendWith P R votes) (AttendWith Q R votes) asked.service script me inc moment s u v)
      → Attends (Attend R votes) (Attend R votes) s q (λ d. ActionsHand d acts) → HandsOver P R votes script me inc (record { service = asked.service; start = moment; opening = h.opening; turns = ts }) (map Opens h.opening ++ acts) q.node
  turns_hand asked script me inc moment s q ts acts u v h k =
      let d : Daemon = opened_by asked.service script.config me inc moment h.opening in
      acts_hand_over script me inc (record { service = asked.service; start = moment; opening = h.opening; turns = ts }) s q (daemon_of s d.calls d.records) (map Opens h.opening) acts h.is
      (calls_hand asked script me inc moment s h.opening h.opening ts h.attends) (k d.calls d.records)

  left_by_all : (asked : Options) (script : Script) (me inc moment count : ℕ) (pace : Pace) (s q : Running C) (t u v w : Telling) → Did t u (Read moment ∷ []) → BeginsAs (AttendWith P R votes) (AttendWith Q R votes) asked.service script me inc moment s u v → TurnsDone (Attend R votes) asked (first_pace moment) pace s q count v w
      → LeftByAll P R votes script me inc asked count q.node t w
  unfolding serves_all
  left_by_all asked script me inc moment count pace s q t u v w at h n = record {
    serves = serves_all asked script me inc moment count pace s q t u v w at h n;
    hands = turns_hand asked script me inc moment s q n.turns (acts_in n.turns) u v h n.acts.attends;
  }

  left_by_link : (asked : Options) (script : Script) (me inc moment count : ℕ) (s q : Running C) (t u v w : Telling) → Did t u (Read moment ∷ []) → BeginsAs (AttendWith P R votes) (AttendWith Q R votes) asked.service script me inc moment s u v → TurnsEnded (Attend R votes) asked (first_pace moment) s q count v w
      → LeftByLink P R votes script me inc asked count q.node t w
  unfolding serves_to
  left_by_link asked script me inc moment count s q t u v w at h n = record {
    serves = serves_to asked script me inc moment count s q t u v w at h n;
    core_is = sym (ap (λ (e : Daemon). e.core) (last_is asked.service script.config me inc moment h.opening n.turns ∙ after_turns asked.service script me inc moment s q n.turns u v v w h n.acts));
    hands = turns_hand asked script me inc moment s q n.turns (acts_in n.turns) u v h n.acts.attends;
  }

  left_by_pause : (asked : Options) (script : Script) (me inc moment count : ℕ) (s q : Running C) (t u v w : Telling) → Did t u (Read moment ∷ []) → BeginsAs (AttendWith P R votes) (AttendWith Q R votes) asked.service script me inc moment s u v
      → TurnsPause (Attend R votes) asked (first_pace moment) s q count v w → LeftByPause P R votes script me inc asked count q.node t w
  unfolding serves_to_pause
  left_by_pause asked script me inc moment count s q t u v w at h n = record {
    serves = serves_to_pause asked script me inc moment count s q t u v w at h n;
    core_is = sym (ap (λ (e : Daemon). e.core) (last_is asked.service script.config me inc moment h.opening n.turns ∙ after_turns asked.service script me inc moment s q n.turns u v v n.reached h n.acts));
    hands = turns_hand asked script me inc moment s q n.turns (acts_in n.turns) u v h n.acts.attends;
  }

  left_by_write : (asked : Options) (script : Script) (me inc moment count : ℕ) (s q : Running C) (t u v w : Telling) → Did t u (Read moment ∷ []) → BeginsAs (AttendWith P R votes) (AttendWith Q R votes) asked.service script me inc moment s u v → TurnsFail (Attend R votes) asked (first_pace moment) s q count v w
      → LeftByWrite P R votes script me inc asked count q.node t w
  left_by_write asked script me inc moment count s q t u v w at h n =
      let d : Daemon = opened_by asked.service script.config me inc moment h.opening in
      let k : RestOfTurns asked (first_pace moment) (daemon_of s d.calls d.records) count n.acts = n.rest d.calls d.records in
      record {
        serves = record {
          life = record { service = asked.service; start = moment; opening = h.opening; turns = k.turns };
          serves = refl;
          opening = h.are;
          follows = follows_from asked script me inc moment s u v h k.turns k.follows;
          at_most = k.at_most;
          acts = map Opens h.opening ++ n.acts;
          later = k.later;
          are = append_assoc (map Opens h.opening) n.acts k.later ∙ ap (λ x. map Opens h.opening ++ x) k.are;
          made = subst (WriteFails t w)
              (ap (λ x. Reads moment ∷ (opening_doings asked.service script.config me inc moment h.opening ++ x)) (sym (ap (λ (e : Daemon). doings_of e n.acts) h.is)) ∙ acts_parts asked.service script.config me inc moment h.opening n.acts)
              (fails_on t u w (Reads moment ∷ []) (opening_doings asked.service script.config me inc moment h.opening ++ doings_of (daemon_of s d.calls d.records) n.acts) (read_made t u moment at)
              (fails_on u v w (opening_doings asked.service script.config me inc moment h.opening) (doings_of (daemon_of s d.calls d.records) n.acts) h.made (n.fails.made d.calls d.records)));
          core_is = sym (ap (λ (e : Daemon). e.core) (did_append (begun_for asked.service script.config me inc moment) (map Opens h.opening) n.acts ∙ ap (λ (e : Daemon). did_all e n.acts) h.is) ∙ n.fails.core d.calls d.records);
        };
        hands = turns_hand asked script me inc moment s q k.turns n.acts u v h n.fails.attends;
      }

  -- it began no turn
  begun_by_write : (asked : Options) (script : Script) (me inc moment count : ℕ) (s : Running C) (t u v : Telling) → Did t u (Read moment ∷ []) → BeginFails (AttendWith P R votes) (AttendWith Q R votes) asked.service script me inc moment s u v
      → LeftByWrite P R votes script me inc asked count s.node t v
  begun_by_write asked script me inc moment count s t u v at h =
      let all : List Opening = h.opening ++ unanswered h.later in
      record {
        serves = record {
          life = record { service = asked.service; start = moment; opening = all; turns = [] };
          serves = refl;
          opening = map-append (λ (o : Opening). o.call) h.opening (unanswered h.later) ∙ (ap (λ x. calls_in h.opening ++ x) (unanswered_are h.later) ∙ h.are);
          follows = tt;
          at_most = omega arith;
          acts = map Opens h.opening;
          later = map Opens (unanswered h.later);
          are = sym (append-nil (map Opens all) ∙ map-append Opens h.opening (unanswered h.later));
          made = fails_on t u v (Reads moment ∷ []) (opening_doings asked.service script.config me inc moment h.opening) (read_made t u moment at) h.made;
          core_is = sym h.core;
        };
        hands = calls_hand asked script me inc moment s h.opening all [] h.attends;
      }

  pub left_begun : (asked : Options) (script : Script) (me inc moment count : ℕ) (s : Running C) (t u v : Telling) (o : Option (NodeView (Hosted C))) (f : Stop) → o ≡ left_of (Err f) s.node → Did t u (Read moment ∷ []) → StopsBy v f
      → (f ≡ stop.WriteFault → BeginFails (AttendWith P R votes) (AttendWith Q R votes) asked.service script me inc moment s u v) → IfSome o (λ node. LeftBy P R votes script me inc asked count (Err f) node t v)
  left_begun asked script me inc moment count s t u v o f is at stops written = subst (λ (x : Option (NodeView (Hosted C))). IfSome x (λ node. LeftBy P R votes script me inc asked count (Err f) node t v)) (sym is) (by f stops written)
    where
      by : (f : Stop) → StopsBy v f → (f ≡ stop.WriteFault → BeginFails (AttendWith P R votes) (AttendWith Q R votes) asked.service script me inc moment s u v) → IfSome (left_of (Err f) s.node) (λ node. LeftBy P R votes script me inc asked count (Err f) node t v)
      by stop.NoMemory stops written = tt
      by stop.WriteFault stops written = begun_by_write asked script me inc moment count s t u v at (written refl)
      by stop.LinkFault stops written = absurd stops
      by stop.NoReply stops written = absurd stops
      by stop.SessionLost stops written = absurd stops
      by stop.DaemonFull stops written = absurd stops
      by stop.Paused stops written = absurd stops

  pub left_served : (asked : Options) (script : Script) (me inc moment count : ℕ) (s q : Running C) (t u v w : Telling) (o : Option (NodeView (Hosted C))) (end : Result (Unit {0}) Stop) → o ≡ left_of end q.node → Did t u (Read moment ∷ [])
      → BeginsAs (AttendWith P R votes) (AttendWith Q R votes) asked.service script me inc moment s u v → IfErr end StopsDaemon → OnOk end (TurnsServed (Attend R votes) asked moment s q count v w) → (end ≡ Err stop.LinkFault → TurnsEnded (Attend R votes) asked (first_pace moment) s q count v w)
      → (end ≡ Err stop.Paused → TurnsPause (Attend R votes) asked (first_pace moment) s q count v w) → IfErr end (λ f. f ≡ stop.WriteFault → TurnsFail (Attend R votes) asked (first_pace moment) s q count v w) → IfSome o (λ node. LeftBy P R votes script me inc asked count end node t w)
  left_served asked script me inc moment count s q t u v w o end is at h stops done ended paused written =
      subst (λ (x : Option (NodeView (Hosted C))). IfSome x (λ node. LeftBy P R votes script me inc asked count end node t w)) (sym is) (by end stops done ended paused written)
    where
      by : (end : Result (Unit {0}) Stop) → IfErr end StopsDaemon → OnOk end (TurnsServed (Attend R votes) asked moment s q count v w) → (end ≡ Err stop.LinkFault → TurnsEnded (Attend R votes) asked (first_pace moment) s q count v w) → (end ≡ Err stop.Paused → TurnsPause (Attend R votes) asked (first_pace moment) s q count v w) → IfErr end (λ f. f ≡ stop.WriteFault → TurnsFail (Attend R votes) asked (first_pace moment) s q count v w)
          → IfSome (left_of end q.node) (λ node. LeftBy P R votes script me inc asked count end node t w)
      by (Ok x) stops done ended paused written = left_by_all asked script me inc moment count done.pace s q t u v w at h done.done
      by (Err stop.NoMemory) stops done ended paused written = tt
      by (Err stop.WriteFault) stops done ended paused written = left_by_write asked script me inc moment count s q t u v w at h (written refl)
      by (Err stop.LinkFault) stops done ended paused written = left_by_link asked script me inc moment count s q t u v w at h (ended refl)
      by (Err stop.NoReply) stops done ended paused written = absurd stops
      by (Err stop.SessionLost) stops done ended paused written = absurd stops
      by (Err stop.DaemonFull) stops done ended paused written = absurd stops
      by (Err stop.Paused) stops done ended paused written = left_by_pause asked script me inc moment count s q t u v w at h (paused refl)

-- ---- the count of failures rose

pub rose_writing : (c : Config) (port : ℕ) (done : Bool) (script : Script) (me inc : ℕ) (asked : Options) (turns : ℕ) (t u v : Telling) → Did t u (openings c port done) → ServesFront script me inc asked turns u v → EndsByWrite v → Rose t.write_faults v.write_faults
rose_writing c port done script me inc asked turns t u v h p e =
    rose_after (placings c) (Opened port done) p.lived.made.went.deeds t u v h p.lived.made.went.told (λ d ds x. rose_by_write t v d ds x e)

pub rose_receiving : (c : Config) (port : ℕ) (done : Bool) (script : Script) (me inc : ℕ) (asked : Options) (turns : ℕ) (t u v : Telling) → Did t u (openings c port done) → ServesFront script me inc asked turns u v → EndsByReceive v → Rose t.link_faults v.link_faults
rose_receiving c port done script me inc asked turns t u v h p e =
    rose_after (placings c) (Opened port done) p.lived.made.went.deeds t u v h p.lived.made.went.told (λ d ds x. rose_by_receive t v d ds x e)
