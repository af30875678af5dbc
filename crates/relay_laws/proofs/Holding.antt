-- What holds of a world after any event, where it holds before, since it speaks of nothing but what is sent.
use Rattle.std.proofs.Common.{◌≡◌, ◌==◌, ◌+◌, ℕ, Bool, true, false, List, [], ◌∷◌, Option, Some, None, refl, sym, subst, inr}
use Rattle.std.specs.Prelude.{fold, find}
use Rattle.rsct_packet.specs.Ids.{last_u32}
use Rattle.rsct_packet.specs.Search.{Has}
use Rattle.packet_bodies.specs.declared.body.What.{What}
use Rattle.node_state.specs.declared.call.CallLine.{CallLine}
use Rattle.node_state.specs.declared.packet.Packet.{Packet}
use Rattle.node_state.specs.declared.state.Core.{Core}
use Rattle.node_state.specs.HandOn.{Answering}
use Rattle.node_state.specs.Step.{NodeEvent, Ticks, Asks, Given, Calls, stepped}
use Rattle.node_state.specs.Step as step
use Rattle.world_model.specs.declared.event.Event.{Event}
use Rattle.world_model.specs.declared.event.Event.TheVariants as event
use Rattle.world_model.specs.World.{Script, Node, Started, World, node_at, nodes_with, inc_in, posted, kth_between, handled, traced, after_step, started_at, starts_if, node_starts, stops_if, shows_if, scripts_after}
use Rattle.world_laws.specs.world_answers.Answers.{step_by, step_by_if, calls_by_if, delivers_by_if, happens_by}

module _ (P : World → Type 0) (same : (w v : World) → v.pairs ≡ w.pairs → v.sent ≡ w.sent → P w → P v) where
  start_holds : (w : World) (n last : ℕ) (o : Option Node) → P w → P (starts_if w n last o)
  unfolding starts_if started_at traced
  start_holds w n last (Some x) k = k
  start_holds w n last None k = by (last == last_u32)
    where
      by : (b : Bool) → P (elim b as (λ t. World) [ true ↦ w | false ↦ started_at w n (last + 1) ])
      by true = k
      by false = same w (started_at w n (last + 1)) refl refl k

  starts_hold : (w : World) (n : ℕ) → P w → P (node_starts w n)
  unfolding node_starts
  starts_hold w n k = start_holds w n (inc_in (find (λ (x : Started). x.node == n) w.starts)) (node_at w n) k

  -- those that start one after another
  pub all_start : (ns : List ℕ) (w : World) → P w → P (fold node_starts w ns)
  all_start [] w k = k
  all_start (n ∷ ns) w k = all_start ns (node_starts w n) (starts_hold w n k)

  stop_holds : (w : World) (n : ℕ) (o : Option Node) → P w → P (stops_if w n o)
  unfolding stops_if traced
  stop_holds w n None k = k
  stop_holds w n (Some x) k = same w (stops_if w n (Some x)) refl refl k

  show_holds : (w : World) (n : ℕ) (what : What) (o : Option Node) → P w → P (shows_if w n what o)
  unfolding shows_if traced
  show_holds w n what None k = k
  show_holds w n what (Some x) k = same w (shows_if w n what (Some x)) refl refl k

  module _ (post : (w : World) (p : Packet) → P w → P (posted w p)) where
    all_posted : (ps : List Packet) (w : World) → P w → P (fold posted w ps)
    all_posted [] w k = k
    all_posted (p ∷ ps) w k = all_posted ps (posted w p) (post w p k)

    after_holds : (w : World) (scripts : List Script) (s : Core) → P w → P (after_step w scripts s)
    unfolding after_step traced
    after_holds w scripts s k =
        let left : World = traced (record w { nodes = nodes_with (record { core = s; scripts = scripts }) w.nodes }) s.records in
        all_posted s.sends left (same w left refl refl k)

    pub step_holds : (f : Answering) (w : World) (e : NodeEvent) (x : Node) → P w → P (step_by f w e x)
    unfolding step_by
    step_holds f w e x k = after_holds w x.scripts (stepped f x.core e) k

    step_if_holds : (f : Answering) (w : World) (e : NodeEvent) (o : Option Node) → P w → P (step_by_if f w e o)
    unfolding step_by_if
    step_if_holds f w e None k = k
    step_if_holds f w e (Some x) k = step_holds f w e x k

    call_holds : (f : Answering) (w : World) (n : ℕ) (c : CallLine) (o : Option Node) → P w → P (calls_by_if f w n c o)
    unfolding calls_by_if traced
    call_holds f w n c None k = same w (calls_by_if f w n c None) refl refl k
    call_holds f w n c (Some x) k = step_holds f w (Calls c) (record x { scripts = scripts_after c x.core x.scripts }) k

    give_holds : (f : Answering) (w : World) (a b i : ℕ) (o : Option Node) (p : Option Packet) → P w → P (delivers_by_if f w a b i o p)
    unfolding delivers_by_if handled
    give_holds f w a b i None p k = k
    give_holds f w a b i (Some x) None k = k
    give_holds f w a b i (Some x) (Some p) k = step_holds f (handled w a b i) (Given p) x (same w (handled w a b i) refl refl k)

    pub happens_holds : (f : Answering) (w : World) (e : Event) → P w → P (happens_by f w e)
    unfolding happens_by
    happens_holds f w (event.Start n) k = starts_hold w n k
    happens_holds f w (event.Stop n) k = stop_holds w n (node_at w n) k
    happens_holds f w (event.Tick n) k = step_if_holds f w Ticks (node_at w n) k
    happens_holds f w (event.Ask n mask) k = step_if_holds f w (Asks mask) (node_at w n) k
    happens_holds f w (event.Call n c) k = call_holds f w n c (node_at w n) k
    happens_holds f w (event.Show n what) k = show_holds w n what (node_at w n) k
    happens_holds f w (event.Deliver a b i) k = give_holds f w a b i (node_at w b) (kth_between w a b i) k
    happens_holds f w (event.Garbage n bytes) k = step_if_holds f w step.Garbage (node_at w n) k

-- ---- what was sent stays so

abbrev pub IsSent : Packet → World → Type 0
IsSent p w = Has p w.sent

sent_same : (p : Packet) (w v : World) → v.pairs ≡ w.pairs → v.sent ≡ w.sent → IsSent p w → IsSent p v
sent_same p w v pairs sent h = subst (Has p) (sym sent) h

sent_more : (p : Packet) (w : World) (q : Packet) → IsSent p w → IsSent p (posted w q)
unfolding posted
sent_more p w q h = inr h

pub step_keeps : (f : Answering) (w : World) (e : NodeEvent) (x : Node) (p : Packet) → Has p w.sent → Has p (step_by f w e x).sent
step_keeps f w e x p h = step_holds (IsSent p) (sent_same p) (sent_more p) f w e x h

pub happens_keeps : (f : Answering) (w : World) (e : Event) (p : Packet) → Has p w.sent → Has p (happens_by f w e).sent
happens_keeps f w e p h = happens_holds (IsSent p) (sent_same p) (sent_more p) f w e h
