-- How a run begins: with nothing, or in mode fixed with every node.
use Rattle.std.proofs.Common.{◌≡◌, ℕ, ◌+◌, List, [], ◌∷◌, Option, Some, None, refl, sym, ap, ◌∙◌, subst}
use Rattle.std.specs.Prelude.{◌==◌, true, false, find, fold}
use Rattle.rsct_packet.specs.Ids.{last_u32}
use Rattle.rsct_packet.specs.Lists.{reverse_onto}
use Rattle.rsct_packet.specs.Mask.{nodes_of}
use Rattle.node_state.specs.declared.config.Config.{Config}
use Rattle.node_state.specs.declared.config.Mode.{Mode}
use Rattle.node_state.specs.declared.config.Mode.TheVariants.{Fixed, Asked, Rings}
use Rattle.node_state.specs.declared.happened.Happened.{Happened}
use Rattle.node_state.specs.declared.state.Core.{Core}
use Rattle.node_state.specs.Settings.{is_fixed}
use Rattle.node_state.specs.Step.{started}
use Rattle.world_model.specs.World.{Node, World, is_node, node_at, traced, started_at, starts_if, node_starts, empty_world, world_of, world_new}
use Rattle.run_safety.specs.Past.{History, history_of}
use Rattle.step_refinement.specs.Tied.{Scene}
use Rattle.step_refinement.specs.Rules.{at_node, nothing_yet, with_records, starts_too, all_started}
use Rattle.entry_laws.specs.late_rows.Runs.{TicksAreNoted}
use Rattle.entry_laws.specs.source_order.Meant.{DeliveriesAreNoted}
use Rattle.row_laws.specs.failed_rows.Scenes.{Played}
use Rattle.row_laws.specs.failed_rows.Scenes as played
use Rattle.provider_laws.specs.leaving.Scenes.{Recounted}
use Rattle.provider_laws.specs.leaving.Scenes as recounted
use Rattle.step_refinement.specs.Runs.{Reached, Nothing, AllStart}
use Rattle.step_refinement.proofs.Changed.{set_there, each_set}
use Rattle.world_safety.specs.Events.{beginning}
use Rattle.world_safety.specs.Mirrors.{core_in, inc_at, Mirrors}
use Rattle.world_safety.proofs.Mirroring.{same_start, start_mirrors}
use Rattle.world_safety.proofs.Turned.{onto_is, back_again}

-- what happened so far, without an event
abbrev at_first : List Happened → History
at_first rs = record { event = None; records = rs } ∷ []

-- so many have started, and none of them stopped
record Opens (c : Config) (w : World) (s : Scene) : Type 0 where
  mirrors : Mirrors c w s
  fresh : (n : ℕ) → s.cores n ≡ None → s.incs n ≡ 0
  before : s.before ≡ at_first w.trace

module _ (c : Config) (n : ℕ) where
  module _ (w : World) (s : Scene) (o : Opens c w s) where
    first_start : find (is_node n) w.nodes ≡ None → Opens c (started_at w n (inc_at w.starts n + 1)) (starts_too s n None)
    unfolding started_at traced
    first_start down =
        record {
          mirrors = start_mirrors c w s o.mirrors n down s.sent (with_records s.before y.records) (λ p h. h) (λ p h. h);
          fresh = each_set (λ j q. q ≡ None → at_node s.incs n (s.incs n + 1) j ≡ 0) s.cores n (Some y) (λ e. absurd (cc)) (λ j ne e. set_there s.incs n (s.incs n + 1) j ne ∙ o.fresh j e);
          before = ap (λ b. with_records b y.records) o.before ∙ ap at_first (sym (onto_is y.records w.trace) ∙ ap (λ (z : Core). reverse_onto z.records w.trace) (same_start c w s o.mirrors n));
        }
      where
        y : Core
        y = started s.config n (s.incs n + 1)

    first_starts : (x : Option Node) → find (is_node n) w.nodes ≡ x → (q : Option Core) → s.cores n ≡ q → Opens c (starts_if w n (inc_at w.starts n) x) (starts_too s n q)
    unfolding starts_if
    first_starts (Some x) at (Some y) is = o
    first_starts (Some x) at None is = absurd (let e : None ≡ Some x.core = sym is ∙ o.mirrors.cores n ∙ ap core_in at in cc)
    first_starts None at (Some y) is = absurd (let e : Some y ≡ None = sym is ∙ o.mirrors.cores n ∙ ap core_in at in cc)
    first_starts None at None is = subst (λ b. Opens c (elim b [ true ↦ w | false ↦ started_at w n (inc_at w.starts n + 1) ]) (starts_too s n None)) (sym not_last) (first_start at)
      where
        not_last : (inc_at w.starts n == last_u32) ≡ false
        not_last = ap (λ i. i == last_u32) (sym (o.mirrors.incs n) ∙ o.fresh n is)

    opens_on : Opens c (node_starts w n) (starts_too s n (s.cores n))
    unfolding node_starts node_at
    opens_on = first_starts (find (is_node n) w.nodes) refl (s.cores n) refl

all_open : (c : Config) (ns : List ℕ) (w : World) (s : Scene) → Opens c w s → Opens c (fold node_starts w ns) (fold (λ (z : Scene) n. starts_too z n (z.cores n)) s ns)
all_open c [] w s o = o
all_open c (n ∷ ns) w s o = all_open c ns (node_starts w n) (starts_too s n (s.cores n)) (opens_on c n w s o)

none_open : (c : Config) → Opens c (empty_world c) (record (nothing_yet c) { before = at_first [] })
none_open c =
    record {
      mirrors = record { config = refl; scene_config = refl; cores = λ n. refl; incs = λ n. refl; once = tt; sent = λ p h. absurd h; came = λ p h. absurd h; paired = λ x h. absurd h };
      fresh = λ n e. refl;
      before = refl;
    }

-- the scene and the history at the beginning of a run
pub record Begun (c : Config) (w : World) (mode : Mode) : Type 0 where
  pub scene : Scene
  pub reached : Reached c scene
  pub noted : TicksAreNoted c scene reached
  pub given : DeliveriesAreNoted c scene reached
  pub played : Played c scene
  pub recounted : Recounted c scene
  pub mirrors : Mirrors c w scene
  pub before : scene.before ≡ history_of (beginning w mode)

empty_begun : (c : Config) → Mirrors c (empty_world c) (nothing_yet c)
empty_begun c = record { config = refl; scene_config = refl; cores = λ n. refl; incs = λ n. refl; once = tt; sent = λ p h. absurd h; came = λ p h. absurd h; paired = λ x h. absurd h }

begun_in : (c : Config) (mode : Mode) → c.mode ≡ mode → Begun c (world_of c mode) mode
unfolding world_of
begun_in c Asked e = record { scene = nothing_yet c; reached = Nothing; noted = tt; given = tt; played = played.Nothing; recounted = recounted.Nothing; mirrors = empty_begun c; before = refl }
begun_in c Rings e = record { scene = nothing_yet c; reached = Nothing; noted = tt; given = tt; played = played.Nothing; recounted = recounted.Nothing; mirrors = empty_begun c; before = refl }
begun_in c Fixed e =
    let o : Opens c (fold node_starts (empty_world c) (nodes_of c.nodes)) (all_started c) = all_open c (nodes_of c.nodes) (empty_world c) (record (nothing_yet c) { before = at_first [] }) (none_open c) in
    record {
      scene = all_started c;
      reached = AllStart (ap is_fixed e);
      noted = tt;
      given = tt;
      played = played.AllStart (ap is_fixed e);
      recounted = recounted.AllStart (ap is_fixed e);
      mirrors = o.mirrors;
      before = o.before ∙ ap at_first (sym (back_again (fold node_starts (empty_world c) (nodes_of c.nodes)).trace));
    }

pub run_begun : (c : Config) → Begun c (world_new c) c.mode
unfolding world_new
run_begun c = begun_in c c.mode refl
