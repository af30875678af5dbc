-- A world whose clients vote by the words of a script is one for clients of any kind.
use Rattle.std.proofs.Common.{◌≡◌, ℕ, List, [], ◌∷◌, fold, Option, Some, None, refl, sym, ap, ◌∙◌}
use Rattle.node_state.specs.declared.call.CallLine.{CallLine}
use Rattle.node_state.specs.declared.config.Config.{Config}
use Rattle.node_state.specs.declared.packet.Packet.{Packet}
use Rattle.node_state.specs.Step.{NodeEvent, Ticks, Asks}
use Rattle.node_state.specs.Step as step
use Rattle.world_model.specs.declared.event.Event.{Event}
use Rattle.world_model.specs.declared.event.Event.TheVariants as event
use Rattle.world_model.specs.World.{Node, World, by_scripts, node_at, kth_between, steps, steps_if, node_steps, calls_if, delivers_if, delivers, happens, world_new, world_after}
use Rattle.world_laws.specs.world_answers.Answers.{step_by, step_by_if, calls_by_if, delivers_by_if, happens_by, goes_on, events_in, answered_after, scripts_in, scripts_then, scripts_at, worded, worded_from, all_worded}

steps_worded : (w : World) (e : NodeEvent) (o : Option Node) → steps_if w e o ≡ step_by_if (by_scripts (scripts_in o)) w e o
unfolding steps_if steps step_by_if step_by
steps_worded w e None = refl
steps_worded w e (Some x) = refl

calls_worded : (w : World) (n : ℕ) (c : CallLine) (o : Option Node) → calls_if w n c o ≡ calls_by_if (by_scripts (scripts_then c o)) w n c o
unfolding calls_if steps calls_by_if step_by
calls_worded w n c None = refl
calls_worded w n c (Some x) = refl

delivers_worded : (w : World) (a b k : ℕ) (o : Option Node) (p : Option Packet) → delivers_if w a b k o p ≡ delivers_by_if (by_scripts (scripts_in o)) w a b k o p
unfolding delivers_if steps delivers_by_if step_by
delivers_worded w a b k None p = refl
delivers_worded w a b k (Some x) None = refl
delivers_worded w a b k (Some x) (Some p) = refl

pub worded_goes : (w : World) (e : Event) → happens w e ≡ goes_on w (worded w e)
unfolding happens happens_by node_steps delivers scripts_at
worded_goes w (event.Start n) = refl
worded_goes w (event.Stop n) = refl
worded_goes w (event.Tick n) = steps_worded w Ticks (node_at w n)
worded_goes w (event.Ask n mask) = steps_worded w (Asks mask) (node_at w n)
worded_goes w (event.Call n c) = calls_worded w n c (node_at w n)
worded_goes w (event.Show n what) = refl
worded_goes w (event.Deliver a b k) = delivers_worded w a b k (node_at w b) (kth_between w a b k)
worded_goes w (event.Garbage n bytes) = steps_worded w step.Garbage (node_at w n)

-- ---- lists of events

events_worded : (w : World) (es : List Event) → events_in (worded_from w es) ≡ es
events_worded w [] = refl
events_worded w (e ∷ es) = ap (λ zs. e ∷ zs) (events_worded (happens w e) es)

come_worded : (w : World) (es : List Event) → fold goes_on w (worded_from w es) ≡ fold happens w es
come_worded w [] = refl
come_worded w (e ∷ es) = ap (λ z. fold goes_on z (worded_from (happens w e) es)) (sym (worded_goes w e)) ∙ come_worded (happens w e) es

pub all_events : (c : Config) (es : List Event) → events_in (all_worded c es) ≡ es
unfolding all_worded
all_events c es = events_worded (world_new c) es

-- the world after them
pub worded_after : (c : Config) (es : List Event) → answered_after c (all_worded c es) ≡ world_after c es
unfolding all_worded answered_after world_after
worded_after c es = come_worded (world_new c) es
