-- What the lines of a script make of a world whose packets may go through other nodes. Its clients vote by the words of the script.
use Rattle.std.specs.Prelude.{ℕ, zero, suc, Bool, true, false, not, ◌==◌, ◌&&◌, List, [], ◌∷◌, filter, fold, is_some}
use Rattle.std.specs.List.{list_any}
use Rattle.rsct_packet.specs.Lists.{reverse_onto}
use Rattle.node_state.specs.declared.config.Config.{Config}
use Rattle.node_state.specs.declared.happened.Happened.{Happened}
use Rattle.world_model.specs.declared.event.Event.{Event}
use Rattle.world_model.specs.declared.event.Event.TheVariants as event
use Rattle.world_model.specs.declared.script.Line.{Line}
use Rattle.world_model.specs.declared.script.Line.TheVariants as line
use Rattle.world_model.specs.declared.script.Script.{Script}
use Rattle.world_model.specs.World.{Node, by_scripts, node_at}
use Rattle.world_model.specs.Play.{Cut, is_cut_of, networks_in, healed, with_cuts, flow_limit}
use Rattle.world_laws.specs.world_answers.Answers.{Answered, scripts_at, worded}
use Rattle.relay_model.specs.Relays.{Sent, Relayed, relays_by, relayed_new}

-- a world that a script is played in, its cuts, and the plain events that its lines stand for so far, newest first
pub record Played : Type 0 where
  pub world : Relayed
  pub cuts : List Cut
  pub events : List Event

-- on the network on which it left, between the two nodes that it goes between
unfoldable pub is_cut : List Cut → Sent → Bool
is_cut cuts x = list_any (is_cut_of x.from x.to x.network) cuts

-- what is under way from one node to another is lost
unfoldable pub drops : Relayed → ℕ → ℕ → Relayed
drops r a b = record r { queue = filter (λ (x : Sent). not (x.from == a && x.to == b)) r.queue }

unfoldable pub relays : Relayed → Event → Relayed
relays r e = relays_by (by_scripts (scripts_at r.world e)) r e

unfoldable pub in_world : Played → Relayed → Played
in_world p r = record p { world = r }

-- a plain event happens
unfoldable pub with_event : Played → Event → Played
with_event p e = record p { world = relays p.world e; events = e ∷ p.events }

-- a datagram that is taken is given, unless its receiver is down or it is cut off
unfoldable pub flows_to : Played → Sent → List Sent → Bool → Bool → Played
flows_to p x rest false cut = in_world p (record (p.world) { queue = rest })
flows_to p x rest true true = in_world p (record (p.world) { queue = rest })
flows_to p x rest true false = with_event p (event.Deliver x.from x.to x.number)

-- the earliest datagram that is not handled, again and again, so often
unfoldable pub flows : ℕ → Played → Played
flows zero p = p
flows (suc n) p =
    elim p.world.queue [
      | [] ↦ p
      | x ∷ xs ↦ flows n (flows_to p x xs (is_some (node_at p.world.world x.to)) (is_cut p.cuts x))
    ]

unfoldable pub all_tick : Played → Played
all_tick p = fold (λ q (x : Node). with_event q (event.Tick x.core.views.me)) p p.world.world.nodes

-- a round: each node that is up ticks, ascending, and then all flows
unfoldable pub rounds : ℕ → Played → Played
rounds zero p = p
rounds (suc n) p = rounds n (flows flow_limit (all_tick p))

-- a line is played
unfoldable pub plays : Played → Line → Played
plays p (line.Plain e) = with_event p e
plays p (line.Drop a b) = in_world p (drops p.world a b)
plays p line.Flow = flows flow_limit p
plays p (line.Run k) = rounds k p
plays p (line.Cut a b k) = record p { cuts = with_cuts p.cuts a b (networks_in k) }
plays p (line.Heal a b k) = record p { cuts = healed p.cuts a b (networks_in k) }

unfoldable pub played : Config → List Line → Played
played c ls = fold plays (record { world = relayed_new c; cuts = []; events = [] }) ls

-- the plain events that a script's lines stand for, in order
unfoldable pub events_of : Config → List Line → List Event
events_of c ls = reverse_onto (played c ls).events []

-- the records of a script's lines, in order
unfoldable pub played_records : Config → List Line → List Happened
played_records c ls = reverse_onto (played c ls).world.world.trace []

-- an input without `begin` has no events
unfoldable pub script_records : Script → List Happened
script_records s = elim s.begun [ true ↦ played_records s.config s.lines | false ↦ [] ]

-- ---- what its clients answer

abbrev pub worded_from : Relayed → List Event → List Answered
worded_from r [] = []
worded_from r (e ∷ es) = worded r.world e ∷ worded_from (relays r e) es

-- the events, each with what the clients of the script answer at it
unfoldable pub all_worded : Config → List Event → List Answered
all_worded c es = worded_from (relayed_new c) es

-- opens each word of this file, for a computation
unfoldable pub play_opens : Unit {0}
unfolding is_cut drops relays in_world with_event flows_to flows all_tick rounds plays played events_of played_records script_records all_worded
play_opens = tt
