-- What waits in a world is not read by what happens in it.
use Rattle.std.proofs.Common.{◌≡◌, ℕ, ◌==◌, ◌+◌, Bool, true, false, List, [], ◌∷◌, Option, Some, None, refl, sym, ap, subst}
use Rattle.std.specs.Prelude.{fold, find}
use Rattle.rsct_packet.specs.Ids.{last_u32}
use Rattle.node_state.specs.declared.call.CallLine.{CallLine}
use Rattle.node_state.specs.declared.packet.Packet.{Packet}
use Rattle.node_state.specs.declared.state.Core.{Core}
use Rattle.node_state.specs.Step.{NodeEvent, Ticks, Asks, Given, Calls, stepped}
use Rattle.node_state.specs.Step as step
use Rattle.packet_bodies.specs.declared.body.What.{What}
use Rattle.world_model.specs.declared.event.Event.{Event}
use Rattle.world_model.specs.declared.event.Event.TheVariants as event
use Rattle.world_model.specs.World.{Script, Node, Sent, Started, World, by_scripts, is_node, node_at, nodes_with, is_pair, kth_in, kth_between, posted, handled, traced, after_step, steps, steps_if, node_steps, inc_in, started_at, starts_if, node_starts, stops_if, shows_if, scripts_after, calls_if, delivers_if, delivers, happens}
use Rattle.world_laws.specs.world_runs.Runs.{SameRun}

pub same_sent : (w v : World) → SameRun w v → v.sent ≡ w.sent
same_sent w v h = ap (λ (z : World). z.sent) h

pub same_trace : (w v : World) → SameRun w v → v.trace ≡ w.trace
same_trace w v h = ap (λ (z : World). z.trace) h

-- what holds of each change of what waits holds of two worlds that differ by it
same_by : (f : World → World) → ((w : World) (q : List Sent) → SameRun (f w) (f (record w { queue = q }))) → (w v : World) → SameRun w v → SameRun (f w) (f v)
same_by f law w v h = subst (λ z. SameRun (f w) (f z)) (sym h) (law w v.queue)

same_posted : (ps : List Packet) (w v : World) → SameRun w v → SameRun (fold posted w ps) (fold posted v ps)
unfolding posted
same_posted [] w v h = h
same_posted (p ∷ ps) w v h = same_posted ps (posted w p) (posted v p) (same_by (λ z. posted z p) (λ z q. refl) w v h)

same_after : (w v : World) (scripts : List Script) (x : Core) → SameRun w v → SameRun (after_step w scripts x) (after_step v scripts x)
unfolding after_step traced
same_after w v scripts x h =
    let left : World → World = λ z. traced (record z { nodes = nodes_with (record { core = x; scripts = scripts }) z.nodes }) x.records in
    same_posted x.sends (left w) (left v) (same_by left (λ z q. refl) w v h)

same_steps : (w v : World) (e : NodeEvent) (x : Node) → SameRun w v → SameRun (steps w e x) (steps v e x)
unfolding steps
same_steps w v e x h = same_after w v x.scripts (stepped (by_scripts x.scripts) x.core e) h

steps_alike : (w : World) (q : List Sent) (e : NodeEvent) (o : Option Node) → SameRun (steps_if w e o) (steps_if (record w { queue = q }) e o)
unfolding steps_if
steps_alike w q e None = refl
steps_alike w q e (Some x) = same_steps w (record w { queue = q }) e x refl

node_alike : (w : World) (q : List Sent) (n : ℕ) (e : NodeEvent) → SameRun (node_steps w n e) (node_steps (record w { queue = q }) n e)
unfolding node_steps node_at
node_alike w q n e = steps_alike w q e (find (is_node n) w.nodes)

start_alike : (w : World) (q : List Sent) (n last : ℕ) (t : Bool)
    → SameRun (elim t [ true ↦ w | false ↦ started_at w n (last + 1) ]) (elim t [ true ↦ record w { queue = q } | false ↦ started_at (record w { queue = q }) n (last + 1) ])
unfolding started_at traced
start_alike w q n last true = refl
start_alike w q n last false = refl

starts_alike : (w : World) (q : List Sent) (n last : ℕ) (o : Option Node) → SameRun (starts_if w n last o) (starts_if (record w { queue = q }) n last o)
unfolding starts_if
starts_alike w q n last (Some x) = refl
starts_alike w q n last None = start_alike w q n last (last == last_u32)

stops_alike : (w : World) (q : List Sent) (n : ℕ) (o : Option Node) → SameRun (stops_if w n o) (stops_if (record w { queue = q }) n o)
unfolding stops_if traced
stops_alike w q n None = refl
stops_alike w q n (Some x) = refl

shows_alike : (w : World) (q : List Sent) (n : ℕ) (what : What) (o : Option Node) → SameRun (shows_if w n what o) (shows_if (record w { queue = q }) n what o)
unfolding shows_if traced
shows_alike w q n what None = refl
shows_alike w q n what (Some x) = refl

calls_alike : (w : World) (q : List Sent) (n : ℕ) (c : CallLine) (o : Option Node) → SameRun (calls_if w n c o) (calls_if (record w { queue = q }) n c o)
unfolding calls_if traced
calls_alike w q n c None = refl
calls_alike w q n c (Some x) = same_steps w (record w { queue = q }) (Calls c) (record x { scripts = scripts_after c x.core x.scripts }) refl

delivers_alike : (w : World) (q : List Sent) (a b k : ℕ) (o : Option Node) (p : Option Packet) → SameRun (delivers_if w a b k o p) (delivers_if (record w { queue = q }) a b k o p)
unfolding delivers_if handled
delivers_alike w q a b k None p = refl
delivers_alike w q a b k (Some x) None = refl
delivers_alike w q a b k (Some x) (Some p) = same_steps (handled w a b k) (handled (record w { queue = q }) a b k) (Given p) x refl

happens_alike : (w : World) (q : List Sent) (e : Event) → SameRun (happens w e) (happens (record w { queue = q }) e)
unfolding happens node_starts node_at delivers kth_between
happens_alike w q (event.Start n) = starts_alike w q n (inc_in (find (λ (x : Started). x.node == n) w.starts)) (find (is_node n) w.nodes)
happens_alike w q (event.Stop n) = stops_alike w q n (find (is_node n) w.nodes)
happens_alike w q (event.Tick n) = node_alike w q n Ticks
happens_alike w q (event.Ask n mask) = node_alike w q n (Asks mask)
happens_alike w q (event.Call n c) = calls_alike w q n c (find (is_node n) w.nodes)
happens_alike w q (event.Show n what) = shows_alike w q n what (find (is_node n) w.nodes)
happens_alike w q (event.Deliver a b k) = delivers_alike w q a b k (find (is_node b) w.nodes) (kth_in k (find (is_pair a b) w.pairs))
happens_alike w q (event.Garbage n bytes) = node_alike w q n step.Garbage

pub same_happens : (w v : World) (e : Event) → SameRun w v → SameRun (happens w e) (happens v e)
same_happens w v e h = same_by (λ z. happens z e) (λ z q. happens_alike z q e) w v h
