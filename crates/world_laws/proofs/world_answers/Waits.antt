-- Whatever clients answer, what waits in a world is not read by what happens in it.
use Rattle.std.proofs.Common.{ℕ, List, [], ◌∷◌, Option, Some, None, refl, sym, subst}
use Rattle.std.specs.Prelude.{fold, find}
use Rattle.node_state.specs.declared.call.CallLine.{CallLine}
use Rattle.node_state.specs.declared.packet.Packet.{Packet}
use Rattle.node_state.specs.declared.state.Core.{Core}
use Rattle.node_state.specs.HandOn.{Answering}
use Rattle.node_state.specs.Step.{NodeEvent, Ticks, Asks, Given, Calls, stepped}
use Rattle.node_state.specs.Step as step
use Rattle.world_model.specs.declared.event.Event.{Event}
use Rattle.world_model.specs.declared.event.Event.TheVariants as event
use Rattle.world_model.specs.World.{Script, Node, Sent, World, is_node, node_at, nodes_with, is_pair, kth_in, kth_between, posted, handled, traced, after_step, scripts_after, happens}
use Rattle.world_laws.specs.world_runs.Runs.{SameRun}
use Rattle.world_laws.proofs.world_runs.Queue.{same_happens}
use Rattle.world_laws.specs.world_answers.Answers.{Answered, step_by, step_by_if, calls_by_if, delivers_by_if, happens_by, goes_on}

-- what holds of each change of what waits holds of two worlds that differ by it
same_by : (f : World → World) → ((w : World) (q : List Sent) → SameRun (f w) (f (record w { queue = q }))) → (w v : World) → SameRun w v → SameRun (f w) (f v)
same_by f law w v h = subst (λ z. SameRun (f w) (f z)) (sym h) (law w v.queue)

same_posted : (ps : List Packet) (w v : World) → SameRun w v → SameRun (fold posted w ps) (fold posted v ps)
unfolding posted
same_posted [] w v h = h
same_posted (p ∷ ps) w v h = same_posted ps (posted w p) (posted v p) (same_by (λ z. posted z p) (λ z q. refl) w v h)

same_after : (w v : World) (scripts : List Script) (x : Core) → SameRun w v → SameRun (after_step w scripts x) (after_step v scripts x)
unfolding after_step traced
same_after w v scripts x h =
    let left : World → World = λ z. traced (record z { nodes = nodes_with (record { core = x; scripts = scripts }) z.nodes }) x.records in
    same_posted x.sends (left w) (left v) (same_by left (λ z q. refl) w v h)

module _ (f : Answering) where
  same_step : (w v : World) (e : NodeEvent) (x : Node) → SameRun w v → SameRun (step_by f w e x) (step_by f v e x)
  unfolding step_by
  same_step w v e x h = same_after w v x.scripts (stepped f x.core e) h

  steps_alike : (w : World) (q : List Sent) (e : NodeEvent) (o : Option Node) → SameRun (step_by_if f w e o) (step_by_if f (record w { queue = q }) e o)
  unfolding step_by_if
  steps_alike w q e None = refl
  steps_alike w q e (Some x) = same_step w (record w { queue = q }) e x refl

  calls_alike : (w : World) (q : List Sent) (n : ℕ) (c : CallLine) (o : Option Node) → SameRun (calls_by_if f w n c o) (calls_by_if f (record w { queue = q }) n c o)
  unfolding calls_by_if traced
  calls_alike w q n c None = refl
  calls_alike w q n c (Some x) = same_step w (record w { queue = q }) (Calls c) (record x { scripts = scripts_after c x.core x.scripts }) refl

  delivers_alike : (w : World) (q : List Sent) (a b k : ℕ) (o : Option Node) (p : Option Packet) → SameRun (delivers_by_if f w a b k o p) (delivers_by_if f (record w { queue = q }) a b k o p)
  unfolding delivers_by_if handled
  delivers_alike w q a b k None p = refl
  delivers_alike w q a b k (Some x) None = refl
  delivers_alike w q a b k (Some x) (Some p) = same_step (handled w a b k) (handled (record w { queue = q }) a b k) (Given p) x refl

  -- what asks no client anything is as where clients vote by words
  happens_alike : (w : World) (q : List Sent) (e : Event) → SameRun (happens_by f w e) (happens_by f (record w { queue = q }) e)
  unfolding happens_by happens node_at kth_between
  happens_alike w q (event.Start n) = same_happens w (record w { queue = q }) (event.Start n) refl
  happens_alike w q (event.Stop n) = same_happens w (record w { queue = q }) (event.Stop n) refl
  happens_alike w q (event.Tick n) = steps_alike w q Ticks (find (is_node n) w.nodes)
  happens_alike w q (event.Ask n mask) = steps_alike w q (Asks mask) (find (is_node n) w.nodes)
  happens_alike w q (event.Call n c) = calls_alike w q n c (find (is_node n) w.nodes)
  happens_alike w q (event.Show n what) = same_happens w (record w { queue = q }) (event.Show n what) refl
  happens_alike w q (event.Deliver a b k) = delivers_alike w q a b k (find (is_node b) w.nodes) (kth_in k (find (is_pair a b) w.pairs))
  happens_alike w q (event.Garbage n bytes) = steps_alike w q step.Garbage (find (is_node n) w.nodes)

pub same_goes : (w v : World) (e : Answered) → SameRun w v → SameRun (goes_on w e) (goes_on v e)
same_goes w v e h = same_by (λ z. goes_on z e) (λ z q. happens_alike e.answers z q e.event) w v h
