-- The world for clients of any kind: what they answer is an input of each event. Those that vote by the words of a
-- script are one kind of them.
use Rattle.std.specs.Prelude.{◌≡◌, ℕ, List, [], ◌∷◌, map, fold, Option, Some, None}
use Rattle.rsct_packet.specs.Lists.{reverse_onto}
use Rattle.client_callbacks.specs.declared.votes.VoteItem.{VoteItem}
use Rattle.session_state.specs.declared.fault.GsFault.TheVariants.{NoInit}
use Rattle.node_state.specs.declared.call.CallLine.{CallLine}
use Rattle.node_state.specs.declared.config.Config.{Config}
use Rattle.node_state.specs.declared.happened.Happened.{Happened}
use Rattle.node_state.specs.declared.happened.Happened.TheVariants as happened
use Rattle.node_state.specs.declared.packet.Packet.{Packet}
use Rattle.node_state.specs.Calls.{caller_of}
use Rattle.node_state.specs.HandOn.{Answering}
use Rattle.node_state.specs.Step.{NodeEvent, Ticks, Asks, Given, Calls, stepped}
use Rattle.node_state.specs.Step as step
use Rattle.world_model.specs.declared.event.Event.{Event}
use Rattle.world_model.specs.declared.event.Event.TheVariants as event
use Rattle.world_model.specs.World.{Script, Node, World, by_scripts, node_at, kth_between, handled, traced, after_step, node_starts, stops_if, shows_if, scripts_after, happens, world_new}

-- how a client votes that votes by items
abbrev pub Items : Type 0
Items = List (Option VoteItem)

-- where `said` tells by which items a client votes that is made of those of a votes word: each votes just as its word says
abbrev pub AllWorded : (Items → Option Items) → Type 0
AllWorded said = (items : Items) → said items ≡ Some items

-- a plain event, with what the clients answer at it
pub record Answered : Type 0 where
  pub event : Event
  pub answers : Answering

unfoldable pub step_by : Answering → World → NodeEvent → Node → World
step_by f w e x = after_step w x.scripts (stepped f x.core e)

unfoldable pub step_by_if : Answering → World → NodeEvent → Option Node → World
step_by_if f w e None = w
step_by_if f w e (Some x) = step_by f w e x

unfoldable pub calls_by_if : Answering → World → ℕ → CallLine → Option Node → World
calls_by_if f w n c None = traced w (happened.Refused n (caller_of c) NoInit ∷ [])
calls_by_if f w n c (Some x) = step_by f w (Calls c) (record x { scripts = scripts_after c x.core x.scripts })

unfoldable pub delivers_by_if : Answering → World → ℕ → ℕ → ℕ → Option Node → Option Packet → World
delivers_by_if f w a b k None p = w
delivers_by_if f w a b k (Some x) None = w
delivers_by_if f w a b k (Some x) (Some p) = step_by f (handled w a b k) (Given p) x

-- what a plain event makes of a world where clients answer like this
unfoldable pub happens_by : Answering → World → Event → World
happens_by f w (event.Start n) = node_starts w n
happens_by f w (event.Stop n) = stops_if w n (node_at w n)
happens_by f w (event.Tick n) = step_by_if f w Ticks (node_at w n)
happens_by f w (event.Ask n mask) = step_by_if f w (Asks mask) (node_at w n)
happens_by f w (event.Call n c) = calls_by_if f w n c (node_at w n)
happens_by f w (event.Show n what) = shows_if w n what (node_at w n)
happens_by f w (event.Deliver a b k) = delivers_by_if f w a b k (node_at w b) (kth_between w a b k)
happens_by f w (event.Garbage n bytes) = step_by_if f w step.Garbage (node_at w n)

abbrev pub goes_on : World → Answered → World
goes_on w a = happens_by a.answers w a.event

abbrev pub events_in : List Answered → List Event
events_in es = map (λ (e : Answered). e.event) es

unfoldable pub answered_after : Config → List Answered → World
answered_after c es = fold goes_on (world_new c) es

-- all records of a list of events with these answers, in order
unfoldable pub answered_records : Config → List Answered → List Happened
answered_records c es = reverse_onto (answered_after c es).trace []

-- ---- clients that vote by the words of a script

abbrev pub scripts_in : Option Node → List Script
scripts_in None = []
scripts_in (Some x) = x.scripts

abbrev pub scripts_then : CallLine → Option Node → List Script
scripts_then c None = []
scripts_then c (Some x) = scripts_after c x.core x.scripts

-- by which the clients of the node vote that an event happens to
unfoldable pub scripts_at : World → Event → List Script
scripts_at w (event.Start n) = []
scripts_at w (event.Stop n) = []
scripts_at w (event.Tick n) = scripts_in (node_at w n)
scripts_at w (event.Ask n mask) = scripts_in (node_at w n)
scripts_at w (event.Call n c) = scripts_then c (node_at w n)
scripts_at w (event.Show n what) = []
scripts_at w (event.Deliver a b k) = scripts_in (node_at w b)
scripts_at w (event.Garbage n bytes) = scripts_in (node_at w n)

-- the event, with what these clients answer
abbrev pub worded : World → Event → Answered
worded w e = record { event = e; answers = by_scripts (scripts_at w e) }

abbrev pub worded_from : World → List Event → List Answered
worded_from w [] = []
worded_from w (e ∷ es) = worded w e ∷ worded_from (happens w e) es

unfoldable pub all_worded : Config → List Event → List Answered
all_worded c es = worded_from (world_new c) es

-- opens each word of this file, for a computation
unfoldable pub answers_opens : Unit {0}
unfolding step_by step_by_if calls_by_if delivers_by_if happens_by answered_after answered_records scripts_at all_worded
answers_opens = tt
