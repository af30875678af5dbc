-- Whatever clients answer, what is recorded is only added to.
use Rattle.std.proofs.Common.{ℕ, List, [], ◌∷◌, Option, Some, None, refl}
use Rattle.node_state.specs.declared.call.CallLine.{CallLine}
use Rattle.node_state.specs.declared.happened.Happened.{Happened}
use Rattle.node_state.specs.declared.happened.Happened.TheVariants as happened
use Rattle.session_state.specs.declared.fault.GsFault.TheVariants.{NoInit}
use Rattle.node_state.specs.declared.packet.Packet.{Packet}
use Rattle.node_state.specs.declared.state.Core.{Core}
use Rattle.node_state.specs.Calls.{caller_of}
use Rattle.node_state.specs.HandOn.{Answering}
use Rattle.node_state.specs.Step.{NodeEvent, Ticks, Asks, Given, Calls, stepped}
use Rattle.node_state.specs.Step as step
use Rattle.world_model.specs.declared.event.Event.{Event}
use Rattle.world_model.specs.declared.event.Event.TheVariants as event
use Rattle.world_model.specs.World.{Node, World, node_at, kth_between, handled, traced, scripts_after, happens}
use Rattle.world_laws.specs.world_runs.Runs.{Recorded}
use Rattle.world_laws.proofs.world_runs.Traces.{after_records, trace_grows}
use Rattle.world_laws.specs.world_answers.Answers.{step_by, step_by_if, calls_by_if, delivers_by_if, happens_by}

abbrev pub Grows : World → World → Type 0
Grows w v = (rs : List Happened) × Recorded w v rs

module _ (f : Answering) where
  step_grows : (w : World) (e : NodeEvent) (x : Node) → Grows w (step_by f w e x)
  unfolding step_by
  step_grows w e x = let y : Core = stepped f x.core e in (y.records, after_records w x.scripts y)

  steps_grow : (w : World) (e : NodeEvent) (o : Option Node) → Grows w (step_by_if f w e o)
  unfolding step_by_if
  steps_grow w e None = ([], refl)
  steps_grow w e (Some x) = step_grows w e x

  calls_grow : (w : World) (n : ℕ) (c : CallLine) (o : Option Node) → Grows w (calls_by_if f w n c o)
  unfolding calls_by_if traced
  calls_grow w n c None = (happened.Refused n (caller_of c) NoInit ∷ [], refl)
  calls_grow w n c (Some x) = step_grows w (Calls c) (record x { scripts = scripts_after c x.core x.scripts })

  delivers_grow : (w : World) (a b k : ℕ) (o : Option Node) (p : Option Packet) → Grows w (delivers_by_if f w a b k o p)
  unfolding delivers_by_if handled
  delivers_grow w a b k None p = ([], refl)
  delivers_grow w a b k (Some x) None = ([], refl)
  delivers_grow w a b k (Some x) (Some p) = step_grows (handled w a b k) (Given p) x

  -- what asks no client anything is as where clients vote by words
  pub grows_by : (w : World) (e : Event) → (rs : List Happened) × Recorded w (happens_by f w e) rs
  unfolding happens_by happens
  grows_by w (event.Start n) = trace_grows w (event.Start n)
  grows_by w (event.Stop n) = trace_grows w (event.Stop n)
  grows_by w (event.Tick n) = steps_grow w Ticks (node_at w n)
  grows_by w (event.Ask n mask) = steps_grow w (Asks mask) (node_at w n)
  grows_by w (event.Call n c) = calls_grow w n c (node_at w n)
  grows_by w (event.Show n what) = trace_grows w (event.Show n what)
  grows_by w (event.Deliver a b k) = delivers_grow w a b k (node_at w b) (kth_between w a b k)
  grows_by w (event.Garbage n bytes) = steps_grow w step.Garbage (node_at w n)
