-- What the lines of a script make of a world, and what is written of it.
use Rattle.std.specs.Prelude.{ℕ, zero, suc, Bool, true, false, not, ◌==◌, ◌&&◌, ◌++◌, List, [], ◌∷◌, map, filter, fold, flat_map, max, min, Option, Some, None, is_some, codes, decimal}
use Rattle.std.specs.List.{list_any}
use Rattle.std.specs.Str.{bytes_eq}
use Rattle.rsct_packet.specs.Lists.{is_empty, reverse_onto}
use Rattle.node_state.specs.declared.config.Config.{Config}
use Rattle.node_state.specs.declared.happened.Happened.{Happened}
use Rattle.node_state.specs.declared.happened.Happened.TheVariants as happened
use Rattle.node_state.specs.declared.packet.Packet.{Packet}
use Rattle.node_state.specs.Settings.{networks}
use Rattle.world_model.specs.declared.event.Event.{Event}
use Rattle.world_model.specs.declared.event.Event.TheVariants as event
use Rattle.world_model.specs.declared.script.Line.{Line}
use Rattle.world_model.specs.declared.script.Line.TheVariants as line
use Rattle.world_model.specs.declared.script.LineWhy.{LineWhy}
use Rattle.world_model.specs.declared.script.LineWhy.TheVariants as why
use Rattle.world_model.specs.declared.script.Script.{Script}
use Rattle.world_model.specs.Text.{line_of}
use Rattle.value_words.specs.Words.{split_on}
use Rattle.world_model.specs.Reading.{ScriptRead, IsScript, IsNone, script_of}
use Rattle.world_model.specs.World.{Node, Sent, World, node_at, happens, world_new}

-- two nodes that are cut off from each other on a network, the lesser one first
pub record Cut : Type 0 where
  pub low : ℕ
  pub high : ℕ
  pub network : ℕ

-- a world that a script is played in, its cuts, and the plain events that its lines stand for so far, newest first
pub record Played : Type 0 where
  pub world : World
  pub cuts : List Cut
  pub events : List Event

unfoldable pub is_cut_of : ℕ → ℕ → ℕ → Cut → Bool
is_cut_of a b network c = c.low == min a b && c.high == max a b && c.network == network

unfoldable pub is_cut : List Cut → Packet → Bool
is_cut cuts p = list_any (is_cut_of p.from p.to p.network) cuts

unfoldable pub networks_in : Option ℕ → List ℕ
networks_in None = networks
networks_in (Some k) = k ∷ []

unfoldable pub healed : List Cut → ℕ → ℕ → List ℕ → List Cut
healed cuts a b ks = filter (λ c. not (list_any (λ k. is_cut_of a b k c) ks)) cuts

-- a cut works both ways
unfoldable pub with_cuts : List Cut → ℕ → ℕ → List ℕ → List Cut
with_cuts cuts a b ks = healed cuts a b ks ++ map (λ k. record { low = min a b; high = max a b; network = k }) ks

-- what is under way from one node to another is lost
unfoldable pub drops : World → ℕ → ℕ → World
drops w a b = record w { queue = filter (λ (x : Sent). not (x.packet.from == a && x.packet.to == b)) w.queue }

unfoldable pub in_world : Played → World → Played
in_world p w = record p { world = w }

-- a plain event happens
unfoldable pub with_event : Played → Event → Played
with_event p e = record p { world = happens p.world e; events = e ∷ p.events }

-- a packet that is taken is given, unless its receiver is down or it is cut off
unfoldable pub flows_to : Played → Sent → List Sent → Bool → Bool → Played
flows_to p x rest false cut = in_world p (record (p.world) { queue = rest })
flows_to p x rest true true = in_world p (record (p.world) { queue = rest })
flows_to p x rest true false = with_event p (event.Deliver x.packet.from x.packet.to x.number)

-- the earliest packet that is not handled, again and again, so often
unfoldable pub flows : ℕ → Played → Played
flows zero p = p
flows (suc n) p =
    elim p.world.queue [
      | [] ↦ p
      | x ∷ xs ↦ flows n (flows_to p x xs (is_some (node_at p.world x.packet.to)) (is_cut p.cuts x.packet))
    ]

abbrev pub flow_limit : ℕ
flow_limit = 100000

unfoldable pub all_tick : Played → Played
all_tick p = fold (λ q (x : Node). with_event q (event.Tick x.core.views.me)) p p.world.nodes

-- a round: each node that is up ticks, ascending, and then all flows
unfoldable pub rounds : ℕ → Played → Played
rounds zero p = p
rounds (suc n) p = rounds n (flows flow_limit (all_tick p))

-- a line is played
unfoldable pub plays : Played → Line → Played
plays p (line.Plain e) = with_event p e
plays p (line.Drop a b) = in_world p (drops p.world a b)
plays p line.Flow = flows flow_limit p
plays p (line.Run k) = rounds k p
plays p (line.Cut a b k) = record p { cuts = with_cuts p.cuts a b (networks_in k) }
plays p (line.Heal a b k) = record p { cuts = healed p.cuts a b (networks_in k) }

unfoldable pub played : Config → List Line → Played
played c ls = fold plays (record { world = world_new c; cuts = []; events = [] }) ls

-- the plain events that a script's lines stand for, in order
unfoldable pub events_of : Config → List Line → List Event
events_of c ls = reverse_onto (played c ls).events []

-- the records of a script's lines, in order
unfoldable pub played_records : Config → List Line → List Happened
played_records c ls = reverse_onto (played c ls).world.trace []

-- an input without `begin` has no events
unfoldable pub script_records : Script → List Happened
script_records s = elim s.begun [ true ↦ played_records s.config s.lines | false ↦ [] ]

-- ---- what is written

unfoldable pub kind_of : Happened → List ℕ
kind_of (happened.Up node inc) = codes "up"
kind_of (happened.Down node) = codes "down"
kind_of (happened.Ring node network ring members neighbour) = codes "ring"
kind_of (happened.In node view members) = codes "in"
kind_of (happened.Base node view group old len state) = codes "base"
kind_of (happened.Put node view group place e) = codes "put"
kind_of (happened.Heard p view group place e members value) = codes "heard"
kind_of (happened.Cast p proto phase v value message) = codes "cast"
kind_of (happened.Asked p r group proposal) = codes "asked"
kind_of (happened.Told p r y) = codes "told"
kind_of (happened.Noted node client view place t) = codes "noted"
kind_of (happened.Refused node client fault) = codes "refused"
kind_of (happened.Shown node text) = codes "show"

-- no kinds: all of them
unfoldable pub is_shown : List (List ℕ) → Happened → Bool
is_shown [] r = true
is_shown (k ∷ ks) r = list_any (bytes_eq (kind_of r)) (k ∷ ks)

-- the lines of the records of these kinds
unfoldable pub lines_text : List (List ℕ) → List Happened → List ℕ
lines_text kinds rs = flat_map line_of (filter (is_shown kinds) rs)

unfoldable pub why_text : LineWhy → List ℕ
why_text why.Long = codes "long"
why_text why.BadByte = codes "bad byte"
why_text why.UnknownWord = codes "unknown word"
why_text why.MissingWord = codes "missing word"
why_text why.ExtraWord = codes "extra word"
why_text why.BadWord = codes "bad word"
why_text why.UnknownNode = codes "unknown node"
why_text why.UnknownClient = codes "unknown client"
why_text why.OutOfPlace = codes "out of place"
why_text why.NoSharedNetwork = codes "no shared network"
why_text why.IsAPacket = codes "is a packet"
why_text why.BoxedClient = codes "boxed client"

-- what is written of a script: its transcript, or its fault
unfoldable pub written : List (List ℕ) → ScriptRead → List ℕ
written kinds (IsScript s) = lines_text kinds (script_records s)
written kinds (IsNone n y) = codes "hags: line " ++ decimal n ++ codes ": " ++ why_text y ++ codes "\n"

unfoldable pub kinds_in : List ℕ → List (List ℕ)
kinds_in bytes = elim (is_empty bytes) [ true ↦ [] | false ↦ split_on 44 bytes ]

-- the transcript of the bytes of a script, of these kinds, joined by commas; of all kinds where none is named
unfoldable pub transcript : List ℕ → List ℕ → List ℕ
transcript kinds bytes = written (kinds_in kinds) (script_of bytes)

-- opens each word of this file, for a computation
unfoldable pub play_opens : Unit {0}
unfolding is_cut_of is_cut networks_in healed with_cuts drops in_world with_event flows_to flows all_tick rounds plays played events_of played_records script_records kind_of is_shown lines_text why_text written kinds_in transcript
play_opens = tt
