-- What is sent and what is recorded is only added to.
use Rattle.std.proofs.Common.{◌≡◌, ℕ, ◌==◌, ◌+◌, ◌-◌, Bool, true, false, List, [], ◌∷◌, ◌++◌, length, map, take, Option, Some, None, refl, ap, ◌∙◌}
use Rattle.std.specs.Prelude.{fold, find}
use Rattle.rsct_packet.specs.Lists.{reverse_onto}
use Rattle.rsct_packet.specs.Ids.{last_u32}
use Rattle.node_state.specs.declared.call.CallLine.{CallLine}
use Rattle.node_state.specs.declared.happened.Happened.{Happened}
use Rattle.node_state.specs.declared.happened.Happened.TheVariants as happened
use Rattle.session_state.specs.declared.fault.GsFault.TheVariants.{NoInit}
use Rattle.node_state.specs.declared.packet.Packet.{Packet}
use Rattle.node_state.specs.declared.state.Core.{Core}
use Rattle.node_state.specs.Calls.{caller_of}
use Rattle.node_state.specs.Status.{status_of}
use Rattle.node_state.specs.Step.{NodeEvent, Ticks, Asks, Given, Calls, stepped, started}
use Rattle.node_state.specs.Step as step
use Rattle.packet_bodies.specs.declared.body.What.{What}
use Rattle.world_model.specs.declared.event.Event.{Event}
use Rattle.world_model.specs.declared.event.Event.TheVariants as event
use Rattle.world_model.specs.World.{Script, Node, Started, World, by_scripts, node_at, nodes_with, kth_between, posted, handled, traced, after_step, steps, steps_if, node_steps, inc_in, started_at, starts_if, node_starts, stops_if, shows_if, scripts_after, calls_if, delivers_if, delivers, happens}
use Rattle.world_model.specs.Kept.{Bytes, with_packet, sent_since, Ended, runs_from}
use Rattle.world_laws.specs.world_runs.Runs.{Recorded}
use Rattle.world_laws.proofs.world_runs.Backwards.{reversed, added_since}

-- the packets that were sent since
pub sent_grew : (w v : World) (ps : List Packet) → v.sent ≡ reverse_onto ps w.sent → sent_since w v ≡ ps
unfolding sent_since
sent_grew w v ps e = ap (λ zs. reverse_onto (take (length zs - length w.sent) zs) []) e ∙ added_since ps w.sent

-- some records and then more
pub recorded_then : (u v w : World) (rs ts : List Happened) → Recorded u v rs → Recorded v w ts → Recorded u w (rs ++ ts)
recorded_then u v w rs ts f g = g ∙ (ap (reverse_onto ts) f ∙ reversed rs ts u.trace)

abbrev Grows : World → World → Type 0
Grows w v = (rs : List Happened) × Recorded w v rs

grows_then : (u v w : World) → Grows u v → Grows v w → Grows u w
grows_then u v w f g = (f.0 ++ g.0, recorded_then u v w f.0 g.0 f.1 g.1)

posted_trace : (ps : List Packet) (w : World) → (fold posted w ps).trace ≡ w.trace
unfolding posted
posted_trace [] w = refl
posted_trace (p ∷ ps) w = posted_trace ps (posted w p)

-- what a step records
pub after_records : (w : World) (scripts : List Script) (x : Core) → Recorded w (after_step w scripts x) x.records
unfolding after_step traced
after_records w scripts x = posted_trace x.sends (traced (record w { nodes = nodes_with (record { core = x; scripts = scripts }) w.nodes }) x.records)

node_grows : (w : World) (e : NodeEvent) (x : Node) → Grows w (steps w e x)
unfolding steps
node_grows w e x = let y : Core = stepped (by_scripts x.scripts) x.core e in (y.records, after_records w x.scripts y)

steps_grow : (w : World) (e : NodeEvent) (o : Option Node) → Grows w (steps_if w e o)
unfolding steps_if
steps_grow w e None = ([], refl)
steps_grow w e (Some x) = node_grows w e x

start_grows : (w : World) (n last : ℕ) (t : Bool) → Grows w (elim t [ true ↦ w | false ↦ started_at w n (last + 1) ])
unfolding started_at traced
start_grows w n last true = ([], refl)
start_grows w n last false = let x : Core = started w.config n (last + 1) in (x.records, refl)

starts_grow : (w : World) (n last : ℕ) (o : Option Node) → Grows w (starts_if w n last o)
unfolding starts_if
starts_grow w n last (Some x) = ([], refl)
starts_grow w n last None = start_grows w n last (last == last_u32)

stops_grow : (w : World) (n : ℕ) (o : Option Node) → Grows w (stops_if w n o)
unfolding stops_if traced
stops_grow w n None = ([], refl)
stops_grow w n (Some x) = (happened.Down n ∷ [], refl)

shows_grow : (w : World) (n : ℕ) (what : What) (o : Option Node) → Grows w (shows_if w n what o)
unfolding shows_if traced
shows_grow w n what None = ([], refl)
shows_grow w n what (Some x) = (map (happened.Shown n) (status_of x.core what), refl)

calls_grow : (w : World) (n : ℕ) (c : CallLine) (o : Option Node) → Grows w (calls_if w n c o)
unfolding calls_if traced
calls_grow w n c None = (happened.Refused n (caller_of c) NoInit ∷ [], refl)
calls_grow w n c (Some x) = node_grows w (Calls c) (record x { scripts = scripts_after c x.core x.scripts })

delivers_grow : (w : World) (a b k : ℕ) (o : Option Node) (p : Option Packet) → Grows w (delivers_if w a b k o p)
unfolding delivers_if handled
delivers_grow w a b k None p = ([], refl)
delivers_grow w a b k (Some x) None = ([], refl)
delivers_grow w a b k (Some x) (Some p) = node_grows (handled w a b k) (Given p) x

pub trace_grows : (w : World) (e : Event) → (rs : List Happened) × Recorded w (happens w e) rs
unfolding happens node_steps node_starts delivers
trace_grows w (event.Start n) = starts_grow w n (inc_in (find (λ (x : Started). x.node == n) w.starts)) (node_at w n)
trace_grows w (event.Stop n) = stops_grow w n (node_at w n)
trace_grows w (event.Tick n) = steps_grow w Ticks (node_at w n)
trace_grows w (event.Ask n mask) = steps_grow w (Asks mask) (node_at w n)
trace_grows w (event.Call n c) = calls_grow w n c (node_at w n)
trace_grows w (event.Show n what) = shows_grow w n what (node_at w n)
trace_grows w (event.Deliver a b k) = delivers_grow w a b k (node_at w b) (kth_between w a b k)
trace_grows w (event.Garbage n bytes) = steps_grow w step.Garbage (node_at w n)

abbrev EndsGrown : World → Ended → Type 0
EndsGrown w z = Grows w z.world

ends_grow : (limit sum : ℕ) (w v : World) (es : List Event) (o : Option ℕ) → Grows w v → EndsGrown v (runs_from limit sum v es)
    → EndsGrown w (elim o [ Some n ↦ record { world = w; passed = Some n } | None ↦ runs_from limit sum v es ])
ends_grow limit sum w v es None f g = grows_then w v (runs_from limit sum v es).world f g
ends_grow limit sum w v es (Some n) f g = ([], refl)

pub run_grows : (limit sum : ℕ) (w : World) (es : List Event) → (rs : List Happened) × ((runs_from limit sum w es).world.trace ≡ reverse_onto rs w.trace)
unfolding runs_from
run_grows limit sum w [] = ([], refl)
run_grows limit sum w (e ∷ es) =
    let v : World = happens w e in
    let b : Bytes = fold (with_packet limit) (record { sum = sum; passed = None }) (sent_since w v) in
    ends_grow limit b.sum w v es b.passed (trace_grows w e) (run_grows limit b.sum v es)
