-- Daemons start and end, and each incarnation that is skipped is a life in which a node does nothing.
use Rattle.std.proofs.Common.{◌≡◌, ◌≢◌, ◌<◌, ◌≤◌, ◌+◌, ◌^◌, ℕ, zero, suc, List, [], ◌∷◌, ◌++◌, Some, None, false, refl, sym, ap, ◌∙◌, subst, inl, inr, arith, append-nil, append_assoc}
use Rattle.std.specs.Prelude.{find}
use Rattle.std.proofs.lemmas.Bool.{cases_eq}
use Rattle.rsct_packet.specs.Ids.{last_u32}
use Rattle.node_state.specs.declared.config.Config.{Config}
use Rattle.node_state.specs.declared.happened.Happened.TheVariants as happened
use Rattle.node_state.specs.Settings.{is_fixed}
use Rattle.node_state.specs.Step.{at_work, started}
use Rattle.world_model.specs.World.{World, is_node}
use Rattle.world_model.specs.declared.event.Event.TheVariants as event
use Rattle.world_laws.specs.world_answers.Answers.{Answered, happens_by, goes_on}
use Rattle.step_refinement.specs.Rules.{at_node}
use Rattle.step_refinement.proofs.Changed.{set_here, set_there, each_set}
use Rattle.world_safety.specs.Mirrors.{inc_at}
use Rattle.piece_link.specs.Pieces.{Message}
use Rattle.piece_link.specs.Answers.{Among}
use Rattle.daemon_model.specs.declared.options.Service.{Service}
use Rattle.daemon_model.specs.Daemon.{Daemon, left_for, begun_for, serves_nobody}
use Rattle.network_model.specs.Network.{Net, starts, ends, idles}
use Rattle.network_laws.proofs.Going.{begun_records, begun_calls}
use Rattle.network_safety.specs.Safe.{silent, idle_events}
use Rattle.network_safety.proofs.Quiet.{start_rests}
use Rattle.network_safety.proofs.Joins.{none_joined}
use Rattle.network_safety.proofs.WorldSteps.{starts_leave, stops_leave}
use Rattle.network_safety.proofs.Standing.{IsCore, Facts, facts, NodeOf, node_of, no_node, stands_on, IsBefore, IsPast, IsUp, IsUpIf, made_later, known_later, Stand}

-- ---- a start

-- a daemon that starts has its node, at work
begun_core : (service : Service) (c : Config) (n inc moment : ℕ) → (begun_for service c n inc moment).core ≡ at_work (started c n inc)
unfolding begun_for left_for
begun_core service c n inc moment = refl

begun_up : (service : Service) (ms : List Message) (c : Config) (n inc moment : ℕ) → n ≤ 32 → inc < 2 ^ 32 → IsUp ms n inc (begun_for service c n inc moment)
unfolding begun_for left_for
begun_up service ms c n inc moment most fits = record { most = most; fits = fits; me = refl; incarnation = refl; rests = start_rests c n inc; joined = none_joined ms }

begun_inc : (service : Service) (c : Config) (n inc moment : ℕ) → (begun_for service c n inc moment).incarnation ≡ inc
unfolding begun_for left_for
begun_inc service c n inc moment = refl

module _ (c : Config) (net : Net) (es : List Answered) (w : World) (k : Stand c net es w) (service : Service) (n moment : ℕ) (free : is_fixed c.mode ≡ false) (some : 1 ≤ n) (most : n ≤ 32) (down : net.daemons n ≡ None) (less : net.incarnations n < last_u32) where
  same_core : (v : Config) (i : ℕ) → v ≡ c → i ≡ net.incarnations n → IsCore (Some (begun_for service c n (net.incarnations n + 1) moment)) (Some (started v n (i + 1)))
  same_core v i e f = ap (λ (z : Config). at_work (started z n (i + 1))) e ∙ ap (λ j. at_work (started c n (j + 1))) f ∙ sym (begun_core service c n (net.incarnations n + 1) moment)

  same_records : (v : Config) (i : ℕ) → v ≡ c → i ≡ net.incarnations n → (begun_for service c n (net.incarnations n + 1) moment).records ≡ (started v n (i + 1)).records
  same_records v i e f = begun_records service c n (net.incarnations n + 1) moment ∙ ap (λ j. (started c n (j + 1)).records) (sym f) ∙ ap (λ (z : Config). (started z n (i + 1)).records) (sym e)

  module _ (m : Message) (p : IsPast net m) where
    past_start : IsPast (starts service c n (net.incarnations n + 1) moment net) m
    unfolding starts
    past_start =
        record {
          incarnation = each_set (λ j i. m.sender ≡ j → m.incarnation ≤ i) net.incarnations n (net.incarnations n + 1) (λ e. risen e) (λ j ne e. subst (λ x. m.incarnation ≤ net.incarnations x) e p.incarnation) m.sender refl;
          before = each_set (λ j o. m.sender ≡ j → IsBefore m o) net.daemons n (Some (begun_for service c n (net.incarnations n + 1) moment)) (λ e same. fresh e same) (λ j ne e. subst (λ x. IsBefore m (net.daemons x)) e p.before) m.sender refl;
        }
      where
        risen : m.sender ≡ n → m.incarnation ≤ net.incarnations n + 1
        risen e = let le : m.incarnation ≤ net.incarnations n = subst (λ x. m.incarnation ≤ net.incarnations x) e p.incarnation in omega (arith, le)

        fresh : m.sender ≡ n → m.incarnation ≡ (begun_for service c n (net.incarnations n + 1) moment).incarnation → m.number < (begun_for service c n (net.incarnations n + 1) moment).number
        fresh e same =
            let le : m.incarnation ≤ net.incarnations n = subst (λ x. m.incarnation ≤ net.incarnations x) e p.incarnation in
            let eq : m.incarnation ≡ net.incarnations n + 1 = same ∙ begun_inc service c n (net.incarnations n + 1) moment in
            absurd (omega (arith, le, eq))

  pub start_stands : Stand c (starts service c n (net.incarnations n + 1) moment net) (es ++ silent (event.Start n) ∷ []) (goes_on w (silent (event.Start n)))
  unfolding starts happens_by
  start_stands =
      let f : Facts c net es w k.world = facts c net es w k.world in
      let free_n : n ≢ 0 = λ e. (let z : 1 ≤ n = some in absurd (omega (arith, z, e))) in
      let at : find (is_node n) w.nodes ≡ None = no_node c net es w k.world n down in
      let l = starts_leave w n at (subst (λ i. i < last_u32) (k.world.incs n) less) in
      record {
        world = stands_on c net es w k.world (silent (event.Start n)) (free, free_n) n (Some (begun_for service c n (net.incarnations n + 1) moment)) (Some (started w.config n (inc_at w.starts n + 1))) (inc_at w.starts n + 1) (started w.config n (inc_at w.starts n + 1)).records [] l (same_core w.config (inc_at w.starts n) f.config (sym (k.world.incs n))) (starts service c n (net.incarnations n + 1) moment net) refl (set_here net.incarnations n (net.incarnations n + 1) ∙ ap (λ i. i + 1) (k.world.incs n)) (λ m ne. set_there net.incarnations n (net.incarnations n + 1) m ne) (ap (λ xs. net.records ++ xs) (same_records w.config (inc_at w.starts n) f.config (sym (k.world.incs n))));
        wires = record {
          all = k.wires.all;
          past = λ m h. past_start m (k.wires.past m h);
          distinct = k.wires.distinct;
          made = λ x h. made_later k.wires.all k.wires.all w (goes_on w (silent (event.Start n))) l.old (λ m i. i) x.call x.of (k.wires.made x (subst (Among x) no_more h));
          messages = k.wires.messages;
          sent = k.wires.sent;
          fits = k.wires.fits;
          known = λ m h. known_later w (goes_on w (silent (event.Start n))) l.old m.bytes (k.wires.known m h);
          up = λ m. elim (cases_eq m n) [
            | inl e ↦ subst (λ j. IsUpIf k.wires.messages j (at_node net.incarnations n (net.incarnations n + 1) j) (at_node net.daemons n (Some (begun_for service c n (net.incarnations n + 1) moment)) j)) (sym e) here
            | inr ne ↦ subst (λ i. IsUpIf k.wires.messages m i (at_node net.daemons n (Some (begun_for service c n (net.incarnations n + 1) moment)) m)) (sym (set_there net.incarnations n (net.incarnations n + 1) m ne)) (subst (IsUpIf k.wires.messages m (net.incarnations m)) (sym (set_there net.daemons n (Some (begun_for service c n (net.incarnations n + 1) moment)) m ne)) (k.wires.up m))
          ];
        };
      }
    where
      no_more : net.wire ++ (begun_for service c n (net.incarnations n + 1) moment).calls ≡ net.wire
      no_more = ap (λ xs. net.wire ++ xs) (begun_calls service c n (net.incarnations n + 1) moment) ∙ append-nil net.wire

      here : IsUpIf k.wires.messages n (at_node net.incarnations n (net.incarnations n + 1) n) (at_node net.daemons n (Some (begun_for service c n (net.incarnations n + 1) moment)) n)
      here =
          subst (λ i. IsUpIf k.wires.messages n i (at_node net.daemons n (Some (begun_for service c n (net.incarnations n + 1) moment)) n)) (sym (set_here net.incarnations n (net.incarnations n + 1))) (subst (IsUpIf k.wires.messages n (net.incarnations n + 1)) (sym (set_here net.daemons n (Some (begun_for service c n (net.incarnations n + 1) moment)))) (begun_up service k.wires.messages c n (net.incarnations n + 1) moment most (omega (arith, less))))

-- ---- an end

module _ (c : Config) (net : Net) (es : List Answered) (w : World) (k : Stand c net es w) (n : ℕ) (d : Daemon) (at : net.daemons n ≡ Some d) where
  past_end : (m : Message) → IsPast net m → IsPast (ends n net) m
  unfolding ends
  past_end m p = record { incarnation = p.incarnation; before = each_set (λ j o. m.sender ≡ j → IsBefore m o) net.daemons n None (λ e. tt) (λ j ne e. subst (λ x. IsBefore m (net.daemons x)) e p.before) m.sender refl }

  pub end_stands : Stand c (ends n net) (es ++ silent (event.Stop n) ∷ []) (goes_on w (silent (event.Stop n)))
  unfolding ends happens_by
  end_stands =
      let f : Facts c net es w k.world = facts c net es w k.world in
      let x : NodeOf c net es w k.world n d = node_of c net es w k.world n d at in
      let l = stops_leave w n x.node x.up f.once in
      record {
        world = stands_on c net es w k.world (silent (event.Stop n)) tt n None None (inc_at w.starts n) (happened.Down n ∷ []) [] l tt (ends n net) refl (k.world.incs n) (λ m ne. refl) refl;
        wires = record {
          all = k.wires.all;
          past = λ m h. past_end m (k.wires.past m h);
          distinct = k.wires.distinct;
          made = λ x h. made_later k.wires.all k.wires.all w (goes_on w (silent (event.Stop n))) l.old (λ m i. i) x.call x.of (k.wires.made x h);
          messages = k.wires.messages;
          sent = k.wires.sent;
          fits = k.wires.fits;
          known = λ m h. known_later w (goes_on w (silent (event.Stop n))) l.old m.bytes (k.wires.known m h);
          up = each_set (λ m o. IsUpIf k.wires.messages m (net.incarnations m) o) net.daemons n None tt (λ m ne. k.wires.up m);
        };
      }

-- ---- lives in which nothing is done

ended_down : (n : ℕ) (net : Net) → (ends n net).daemons n ≡ None
unfolding ends
ended_down n net = set_here net.daemons n None

ended_inc : (n : ℕ) (net : Net) (m : ℕ) → (ends n net).incarnations m ≡ net.incarnations m
unfolding ends
ended_inc n net m = refl

started_up : (service : Service) (c : Config) (n inc moment : ℕ) (net : Net) → (starts service c n inc moment net).daemons n ≡ Some (begun_for service c n inc moment)
unfolding starts
started_up service c n inc moment net = set_here net.daemons n (Some (begun_for service c n inc moment))

started_inc : (service : Service) (c : Config) (n inc moment : ℕ) (net : Net) → (starts service c n inc moment net).incarnations n ≡ inc
unfolding starts
started_inc service c n inc moment net = set_here net.incarnations n inc

pub record Idled (c : Config) (net : Net) (es : List Answered) (n k : ℕ) : Type 0 where
  pub world : World
  pub stand : Stand c (idles c n k net) (es ++ idle_events n k) world
  pub down : (idles c n k net).daemons n ≡ None
  pub risen : (idles c n k net).incarnations n ≡ net.incarnations n + k

pub idles_stand : (c : Config) (n : ℕ) → is_fixed c.mode ≡ false → 1 ≤ n → n ≤ 32 → (k : ℕ) (net : Net) (es : List Answered) (w : World) → Stand c net es w → net.daemons n ≡ None → net.incarnations n + k < last_u32 → Idled c net es n k
unfolding idles
idles_stand c n free some most zero net es w k down less =
    record { world = w; stand = subst (λ zs. Stand c net zs w) (sym (append-nil es)) k; down = down; risen = omega arith }
idles_stand c n free some most (suc i) net es w k down less =
    let up : Net = starts serves_nobody c n (net.incarnations n + 1) 0 net in
    let s1 : Stand c up (es ++ silent (event.Start n) ∷ []) (goes_on w (silent (event.Start n))) = start_stands c net es w k serves_nobody n 0 free some most down (omega (arith, less)) in
    let s2 = end_stands c up (es ++ silent (event.Start n) ∷ []) (goes_on w (silent (event.Start n))) s1 n (begun_for serves_nobody c n (net.incarnations n + 1) 0) (started_up serves_nobody c n (net.incarnations n + 1) 0 net) in
    let now : (ends n up).incarnations n ≡ net.incarnations n + 1 = ended_inc n up n ∙ started_inc serves_nobody c n (net.incarnations n + 1) 0 net in
    let r : Idled c (ends n up) ((es ++ silent (event.Start n) ∷ []) ++ silent (event.Stop n) ∷ []) n i = idles_stand c n free some most i (ends n up) ((es ++ silent (event.Start n) ∷ []) ++ silent (event.Stop n) ∷ []) (goes_on (goes_on w (silent (event.Start n))) (silent (event.Stop n))) s2 (ended_down n up) (omega (arith, now, less)) in
    let risen : (idles c n i (ends n up)).incarnations n ≡ (ends n up).incarnations n + i = r.risen in
    record {
      world = r.world;
      stand = subst (λ zs. Stand c (idles c n i (ends n up)) zs r.world) (append_assoc (es ++ silent (event.Start n) ∷ []) (silent (event.Stop n) ∷ []) (idle_events n i) ∙ append_assoc es (silent (event.Start n) ∷ []) (silent (event.Stop n) ∷ idle_events n i)) r.stand;
      down = r.down;
      risen = risen ∙ omega (arith, now);
    }
