-- The run of every network is that of a world, and so it is safe.
use Rattle.std.proofs.Common.{◌≡◌, ◌<◌, ◌≤◌, ◌+◌, ℕ, Bool, List, [], ◌∷◌, ◌++◌, Option, Some, None, false, refl, sym, ap, ◌∙◌, subst, inl, inr, arith, append-nil, append_assoc}
use Rattle.std.specs.Prelude.{fold, map}
use Rattle.rsct_packet.specs.Ids.{last_u32}
use Rattle.rsct_packet.specs.Lists.{reverse_onto}
use Rattle.node_state.specs.declared.config.Config.{Config}
use Rattle.node_state.specs.declared.config.Mode.{Mode}
use Rattle.node_state.specs.declared.config.Mode.TheVariants.{Fixed, Asked, Rings}
use Rattle.node_state.specs.declared.happened.Happened.{Happened}
use Rattle.node_reach.specs.Reach.{reach_of}
use Rattle.node_state.specs.HandOn.{Answering}
use Rattle.node_state.specs.Settings.{is_fixed}
use Rattle.node_state.specs.Step.{Calls, stepped}
use Rattle.world_model.specs.World.{World, empty_world, world_of, world_new}
use Rattle.world_model.specs.declared.event.Event.TheVariants as event
use Rattle.world_laws.proofs.world_runs.Backwards.{reversed_back}
use Rattle.world_laws.specs.world_answers.Answers.{Answered, goes_on, answered_after, answered_records}
use Rattle.world_safety.specs.Scripts.{IsSafe}
use Rattle.world_safety.proofs.Scripts.{every_answer_is_safe}
use Rattle.hags_io.specs.declared.link.LinkCall.{LinkCall}
use Rattle.piece_link.specs.Answers.{Among}
use Rattle.daemon_model.specs.declared.options.Service.{Service}
use Rattle.daemon_model.specs.Sent.{Exchange}
use Rattle.daemon_model.specs.Doings.{Doing, Reads, Exchanges, Writes, AreSpelled, exchanges_in}
use Rattle.daemon_model.specs.Daemon.{Daemon, Opening, opened, is_due, ticked, heard, goodbye_in, key_over, mended, left_for, stepped_for}
use Rattle.daemon_model.specs.Actions.{Action, Opens, Ticks, EndsKey, Mends, Hears, did}
use Rattle.network_model.specs.Network.{Act, Begins, Does, Ends, Net, no_net, skipped, went_on, begins, idles, starts, does_if, acted, net_after}
use Rattle.network_model.specs.Fits.{WasSent, IsSpelledSend, MayBegin, MayDo, OfUp, MayAct, AllMayAct}
use Rattle.network_model.specs.Executions.{IsLinear, what_of, TimedLife, untimed, Execution, Ordered}
use Rattle.network_safety.specs.Safe.{answered_by, silent, idle_events, tick_events, call_events, ActionEvents, ActEvents, AreEventsOf, NetworksOfDaemonsAreSafe, IsSafeExecution, ExecutionsAreSafe}
use Rattle.network_safety.specs.Served.{Served, WasTold, ServedDaemonsAreSafe}
use Rattle.network_laws.proofs.Apart.{nodes_record_their_lives}
use Rattle.network_laws.proofs.Orders.{comes_as, are_lives, has_an_order}
use Rattle.network_safety.proofs.Standing.{Stands, Stand}
use Rattle.network_safety.proofs.Stepping.{steps_to, step_stands}
use Rattle.network_safety.proofs.Acts.{its_node, called}
use Rattle.network_safety.proofs.Turning.{Went, tick_goes, over_goes, mended_goes, HearGoes, hear_goes}
use Rattle.network_safety.proofs.Lives.{Idled, idles_stand, start_stands, end_stands}

-- ---- before anything happened

not_fixed : (m : Mode) → is_fixed m ≡ false → (c : Config) → world_of c m ≡ empty_world c
unfolding world_of
not_fixed Fixed free c = absurd (cc)
not_fixed Asked free c = refl
not_fixed Rings free c = refl

pub nothing_stands : (c : Config) → is_fixed c.mode ≡ false → Stand c no_net [] (empty_world c)
unfolding answered_after world_new
nothing_stands c free =
    record {
      world = record {
        may = tt;
        is = not_fixed c.mode free c;
        nodes = λ n. tt;
        incs = λ n. refl;
        trace = refl;
        paired = record { counted = λ x h. absurd h; paired = λ p h. absurd h };
      };
      wires = record {
        all = [];
        past = λ m h. absurd h;
        distinct = λ m l h i same. absurd h;
        made = λ x h. absurd h;
        messages = [];
        sent = λ m h. absurd h;
        fits = λ m h. absurd h;
        known = λ m h. absurd h;
        up = λ n. tt;
      };
    }

-- ---- an act

record ActGoes (c : Config) (net : Net) (es : List Answered) (a : Act) : Type 0 where
  events : List Answered
  are : ActEvents net a events
  world : World
  stand : Stand c (acted c net a) (es ++ events) world

module _ (c : Config) (free : is_fixed c.mode ≡ false) (net : Net) (es : List Answered) (w : World) (k : Stand c net es w) where
  begin_goes : (n incarnation moment : ℕ) (service : Service) → MayBegin net n incarnation → ActGoes c net es (Begins n incarnation moment service)
  unfolding acted begins
  begin_goes n incarnation moment service may =
      let i : ℕ = skipped net n incarnation in
      let later : net.incarnations n < incarnation = may.later in
      let fits : incarnation ≤ last_u32 = may.fits in
      let r : Idled c net es n (skipped net n incarnation) = idles_stand c n free may.some may.most (skipped net n incarnation) net es w k may.down (omega (arith, later, fits)) in
      let risen : (idles c n (skipped net n incarnation) net).incarnations n ≡ net.incarnations n + skipped net n incarnation = r.risen in
      let now : (idles c n (skipped net n incarnation) net).incarnations n + 1 ≡ incarnation = omega (arith, later, risen) in
      let s = start_stands c (idles c n (skipped net n incarnation) net) (es ++ idle_events n (skipped net n incarnation)) r.world r.stand service n moment free may.some may.most r.down (omega (arith, now, fits)) in
      record {
        events = idle_events n (skipped net n incarnation) ++ silent (event.Start n) ∷ [];
        are = refl;
        world = goes_on r.world (silent (event.Start n));
        stand = subst (λ zs. Stand c (starts service c n incarnation moment (idles c n (skipped net n incarnation) net)) zs (goes_on r.world (silent (event.Start n)))) (append_assoc es (idle_events n (skipped net n incarnation)) (silent (event.Start n) ∷ [])) (subst (λ j. Stand c (starts service c n j moment (idles c n (skipped net n incarnation) net)) ((es ++ idle_events n (skipped net n incarnation)) ++ silent (event.Start n) ∷ []) (goes_on r.world (silent (event.Start n)))) now s);
      }

  opening : (n : ℕ) (o : Opening) (d : Option Daemon) → net.daemons n ≡ d → OfUp (λ d. Unit {0}) d → ActGoes c net es (Does n (Opens o))
  unfolding acted did opened stepped_for left_for
  opening n o None at may = absurd may
  opening n o (Some d) at may =
      record {
        events = answered_by o.answers (event.Call n o.call) ∷ [];
        are = subst (OfUp (λ e. ActionEvents n e (Opens o) (answered_by o.answers (event.Call n o.call) ∷ []))) (sym at) refl;
        world = goes_on w (answered_by o.answers (event.Call n o.call));
        stand = subst (λ q. Stand c (does_if (λ d. opened d o) n q net) (es ++ answered_by o.answers (event.Call n o.call) ∷ []) (goes_on w (answered_by o.answers (event.Call n o.call)))) (sym at) (step_stands c net es w k n d at o.answers (Calls o.call) (answered_by o.answers (event.Call n o.call)) (stepped o.answers (its_node c net es w k n d at).node.core (Calls o.call)) (called c net es w k n d at o) (opened d o) (steps_to o.answers (Calls o.call) d));
      }

  ticking : (n moment : ℕ) (f : Answering) (d : Option Daemon) → net.daemons n ≡ d → OfUp (λ d. Unit {0}) d → ActGoes c net es (Does n (Ticks moment f))
  unfolding acted did
  ticking n moment f None at may = absurd may
  ticking n moment f (Some d) at may =
      let g : Went c (went_on n d (ticked moment f d) net) (es ++ tick_events (is_due d.last moment) n f) = tick_goes c net es w k n d at (is_due d.last moment) moment f in
      record {
        events = tick_events (is_due d.last moment) n f;
        are = subst (OfUp (λ g. ActionEvents n g (Ticks moment f) (tick_events (is_due d.last moment) n f))) (sym at) refl;
        world = g.world;
        stand = subst (λ q. Stand c (does_if (λ d. ticked moment f d) n q net) (es ++ tick_events (is_due d.last moment) n f) g.world) (sym at) g.stand;
      }

  ending : (n key : ℕ) (f : Answering) (d : Option Daemon) → net.daemons n ≡ d → OfUp (λ d. Unit {0}) d → ActGoes c net es (Does n (EndsKey key f))
  unfolding acted did
  ending n key f None at may = absurd may
  ending n key f (Some d) at may =
      let events : List Answered = call_events n (goodbye_in d.sessions key) f in
      let g : Went c (went_on n d (key_over key f d) net) (es ++ events) = over_goes c net es w k n d at key f in
      record {
        events = events;
        are = subst (OfUp (λ g. ActionEvents n g (EndsKey key f) events)) (sym at) refl;
        world = g.world;
        stand = subst (λ q. Stand c (does_if (λ d. key_over key f d) n q net) (es ++ events) g.world) (sym at) g.stand;
      }

  mending : (n : ℕ) (f : Answering) (d : Option Daemon) → net.daemons n ≡ d → OfUp (λ d. Unit {0}) d → ActGoes c net es (Does n (Mends f))
  unfolding acted did
  mending n f None at may = absurd may
  mending n f (Some d) at may =
      let events : List Answered = answered_by f (event.Ask n (reach_of d.core.reach)) ∷ [] in
      let g : Went c (went_on n d (mended f d) net) (es ++ events) = mended_goes c net es w k n d at f in
      record {
        events = events;
        are = subst (OfUp (λ g. ActionEvents n g (Mends f) events)) (sym at) refl;
        world = g.world;
        stand = subst (λ q. Stand c (does_if (λ d. mended f d) n q net) (es ++ events) g.world) (sym at) g.stand;
      }

  hearing : (n : ℕ) (got : LinkCall) (f : Answering) (d : Option Daemon) → net.daemons n ≡ d → OfUp (λ d. MayDo IsSpelledSend net.wire (Hears got f)) d → ActGoes c net es (Does n (Hears got f))
  unfolding acted did
  hearing n got f None at may = absurd may
  hearing n got f (Some d) at may =
      let g : HearGoes c net es n d got f = hear_goes c net es w k n d at got f may in
      record {
        events = g.events;
        are = subst (OfUp (λ e. ActionEvents n e (Hears got f) g.events)) (sym at) g.are;
        world = g.world;
        stand = subst (λ q. Stand c (does_if (λ d. heard got f d) n q net) (es ++ g.events) g.world) (sym at) g.stand;
      }

  end_goes : (n : ℕ) (d : Option Daemon) → net.daemons n ≡ d → OfUp (λ d. Unit {0}) d → ActGoes c net es (Ends n)
  unfolding acted
  end_goes n None at may = absurd may
  end_goes n (Some d) at may =
      record { events = silent (event.Stop n) ∷ []; are = refl; world = goes_on w (silent (event.Stop n)); stand = end_stands c net es w k n d at }

  act_goes : (a : Act) → MayAct IsSpelledSend net a → ActGoes c net es a
  act_goes (Begins n incarnation moment service) may = begin_goes n incarnation moment service may
  act_goes (Does n (Opens o)) may = opening n o (net.daemons n) refl may
  act_goes (Does n (Ticks moment f)) may = ticking n moment f (net.daemons n) refl may
  act_goes (Does n (EndsKey key f)) may = ending n key f (net.daemons n) refl may
  act_goes (Does n (Mends f)) may = mending n f (net.daemons n) refl may
  act_goes (Does n (Hears got f)) may = hearing n got f (net.daemons n) refl may
  act_goes (Ends n) may = end_goes n (net.daemons n) refl may

-- ---- all acts

pub record AllGo (c : Config) (net : Net) (es : List Answered) (acts : List Act) : Type 0 where
  pub events : List Answered
  pub are : AreEventsOf c net acts events
  pub world : World
  pub stand : Stand c (fold (acted c) net acts) (es ++ events) world

pub all_go : (c : Config) → is_fixed c.mode ≡ false → (acts : List Act) (net : Net) (es : List Answered) (w : World) → Stand c net es w → AllMayAct IsSpelledSend c net acts → AllGo c net es acts
all_go c free [] net es w k may =
    record { events = []; are = refl; world = w; stand = subst (λ zs. Stand c net zs w) (sym (append-nil es)) k }
all_go c free (a ∷ acts) net es w k may =
    let first : ActGoes c net es a = act_goes c free net es w k a may.0 in
    let rest : AllGo c (acted c net a) (es ++ first.events) acts = all_go c free acts (acted c net a) (es ++ first.events) first.world first.stand may.1 in
    record {
      events = first.events ++ rest.events;
      are = (first.events, rest.events, first.are, rest.are, refl);
      world = rest.world;
      stand = subst (λ zs. Stand c (fold (acted c) (acted c net a) acts) zs rest.world) (append_assoc es first.events rest.events) rest.stand;
    }

pub networks_of_daemons_are_safe : NetworksOfDaemonsAreSafe
unfolding net_after answered_records
networks_of_daemons_are_safe c acts run =
    let g : AllGo c no_net [] acts = all_go c run.mode acts no_net [] (empty_world c) (nothing_stands c run.mode) run.may in
    let s : Stands c (fold (acted c) no_net acts) g.events g.world = g.stand.world in
    let trace : reverse_onto (answered_after c g.events).trace [] ≡ (fold (acted c) no_net acts).records =
    ap (λ (v : World). reverse_onto v.trace []) s.is ∙ ap (λ zs. reverse_onto zs []) s.trace ∙ back (fold (acted c) no_net acts).records in
    record { events = g.events; are = g.are; may = s.may; safe = subst (IsSafe c g.events) trace (every_answer_is_safe c g.events s.may) }
  where
    back : (rs : List Happened) → reverse_onto (reverse_onto rs []) [] ≡ rs
    back rs = reversed_back rs []

-- ---- daemons that were served

-- what holds of each send that is received, where another thing does
module _ (c : Config) (P Q : Exchange → Type 0) (weaker : (x : Exchange) → P x → Q x) where
  sent_as : (wire : List Exchange) (bytes : List ℕ) → WasSent P bytes wire → WasSent Q bytes wire
  sent_as wire bytes h = record { send = h.send; among = h.among; is = h.is; holds = weaker h.send h.holds }

  may_do_as : (wire : List Exchange) (x : Action) → MayDo P wire x → MayDo Q wire x
  may_do_as wire (Opens o) h = h
  may_do_as wire (Ticks moment f) h = h
  may_do_as wire (EndsKey key f) h = h
  may_do_as wire (Mends f) h = h
  may_do_as wire (Hears got f) h = comes_as (λ bytes. WasSent P bytes wire) (λ bytes. WasSent Q bytes wire) (sent_as wire) got h

  up_as : (wire : List Exchange) (x : Action) (d : Option Daemon) → OfUp (λ d. MayDo P wire x) d → OfUp (λ d. MayDo Q wire x) d
  up_as wire x None h = h
  up_as wire x (Some d) h = may_do_as wire x h

  act_as : (net : Net) (a : Act) → MayAct P net a → MayAct Q net a
  act_as net (Begins n incarnation moment service) h = h
  act_as net (Does n x) h = up_as net.wire x (net.daemons n) h
  act_as net (Ends n) h = h

  pub acts_as : (acts : List Act) (net : Net) → AllMayAct P c net acts → AllMayAct Q c net acts
  acts_as [] net h = tt
  acts_as (a ∷ acts) net h = (act_as net a h.0, acts_as acts (acted c net a) h.1)

each_spelled : (ds : List Doing) → AreSpelled ds → (x : Exchange) → Among x (exchanges_in ds) → IsSpelledSend x
each_spelled [] h x i = absurd i
each_spelled (Exchanges y ∷ ds) h x (inl e) = subst IsSpelledSend (sym e) h.0
each_spelled (Exchanges y ∷ ds) h x (inr i) = each_spelled ds h.1 x i
each_spelled (Reads moment ∷ ds) h x i = each_spelled ds h x i
each_spelled (Writes rs ∷ ds) h x i = each_spelled ds h x i

pub told_spelled : (c : Config) (served : (n : ℕ) → List (Served c n)) (x : Exchange) → WasTold c served x → IsSpelledSend x
told_spelled c served x h = each_spelled h.by.lived.made.front h.by.lived.made.spelled x h.told

-- ---- executions

-- where what is asked of sends gives that they are spelled
module _ {T : Type 0} (no_later : T → T → Bool) (linear : IsLinear T no_later) (P : Exchange → Type 0) (spelled : (x : Exchange) → P x → IsSpelledSend x) (c : Config) (lives : ℕ → List (TimedLife T)) (x : Execution T no_later P c lives) where
  abbrev order : Ordered T no_later P c lives
  order = has_an_order no_later linear P c lives x

  execution_is_safe : IsSafeExecution T no_later P c lives
  execution_is_safe =
      let acts : List Act = map what_of order.acts in
      record {
        order = order;
        safe = networks_of_daemons_are_safe c acts (record { mode = order.run.mode; may = acts_as c P IsSpelledSend spelled acts no_net order.run.may });
        records = nodes_record_their_lives c acts (λ n. map untimed (lives n)) (are_lives lives order.acts order.own);
      }

pub executions_are_safe : (T : Type 0) → ExecutionsAreSafe T
executions_are_safe T no_later linear c lives x = execution_is_safe no_later linear IsSpelledSend (λ x h. h) c lives x

pub served_daemons_are_safe : (T : Type 0) → ServedDaemonsAreSafe T
served_daemons_are_safe T no_later linear c served lives are x = execution_is_safe no_later linear (WasTold c served) (told_spelled c served) c lives x
