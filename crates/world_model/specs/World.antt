-- A world of nodes, and what plain events make of it.
use Rattle.std.specs.Prelude.{ℕ, Bool, true, false, ◌==◌, ◌&&◌, ◌+◌, ◌-◌, ◌++◌, List, [], ◌∷◌, map, find, fold, Option, Some, None, nat_lt, nat_le, slice_get}
use Rattle.std.specs.Option.{unwrap_or, option_map}
use Rattle.rsct_packet.specs.Lists.{drop_where, reverse_onto}
use Rattle.rsct_packet.specs.Ids.{last_u32}
use Rattle.rsct_packet.specs.Mask.{nodes_of}
use Rattle.rsct_packet.specs.Search.{insert_before}
use Rattle.proposal_core.specs.declared.entry.Entry.{Entry}
use Rattle.proposal_core.specs.declared.group_state.GroupState.{GroupState}
use Rattle.rsct_packet.specs.declared.ids.ProviderId.{ProviderId}
use Rattle.subscribe_core.specs.declared.subs.ClientToken.{ClientToken}
use Rattle.client_callbacks.specs.declared.ballot.Filled.{Filled}
use Rattle.client_callbacks.specs.declared.votes.VoteItem.{VoteItem}
use Rattle.client_callbacks.specs.Ballots.{new_ballot}
use Rattle.client_callbacks.specs.Handed.{voted_by}
use Rattle.client_callbacks.specs.Votes.{votes_word}
use Rattle.session_state.specs.declared.fault.GsFault.TheVariants.{NoInit}
use Rattle.session_state.specs.declared.state.Session.{Session}
use Rattle.session_state.specs.declared.state.SessionState.{SessionState}
use Rattle.session_state.specs.State.{place_of}
use Rattle.node_state.specs.declared.call.CallLine.{CallLine}
use Rattle.node_state.specs.declared.call.CallLine.TheVariants.{Init}
use Rattle.node_state.specs.declared.config.Config.{Config}
use Rattle.node_state.specs.declared.config.Mode.{Mode}
use Rattle.node_state.specs.declared.config.Mode.TheVariants.{Fixed, Asked, Rings}
use Rattle.node_state.specs.declared.happened.Happened.{Happened}
use Rattle.node_state.specs.declared.happened.Happened.TheVariants as happened
use Rattle.node_state.specs.declared.packet.Packet.{Packet}
use Rattle.packet_bodies.specs.declared.body.What.{What}
use Rattle.node_state.specs.declared.state.Core.{Core}
use Rattle.node_state.specs.Calls.{caller_of}
use Rattle.node_state.specs.Status.{status_of}
use Rattle.node_state.specs.Step.{NodeEvent, Ticks, Asks, Given, Calls, stepped, started}
use Rattle.node_state.specs.Step as step
use Rattle.world_model.specs.declared.event.Event.{Event}
use Rattle.world_model.specs.declared.event.Event.TheVariants as event

-- ---- clients that vote by the words of a script

-- how a client votes; its token is never given again
pub record Script : Type 0 where
  pub token : ClientToken
  pub items : List (Option VoteItem)

abbrev pub items_in : List Script → Option Session → List (Option VoteItem)
items_in scripts None = []
items_in scripts (Some x) = unwrap_or (option_map (λ (y : Script). y.items) (find (λ (y : Script). y.token.number == x.token.number) scripts)) []

abbrev pub session_at : SessionState → Option ℕ → Option Session
session_at s None = None
session_at s (Some i) = slice_get s.sessions i

-- how the client of a provider votes, whose session is live
unfoldable pub items_of : List Script → SessionState → ProviderId → List (Option VoteItem)
items_of scripts s p = items_in scripts (session_at s (place_of s p))

-- a client fills its ballot with the item of the phase
unfoldable pub by_scripts : List Script → ℕ → SessionState → Entry → GroupState → ProviderId → Option Filled
by_scripts scripts n s e after p = (voted_by (items_of scripts s p) after (new_ballot true s.level)).filled

-- ---- the world

-- a node that is up, and how its clients vote
pub record Node : Type 0 where
  pub core : Core
  pub scripts : List Script

-- all packets from one node to another, newest first
pub record Pair : Type 0 where
  pub from : ℕ
  pub to : ℕ
  pub count : ℕ
  pub packets : List Packet

-- a packet that is not handled yet: the packet of this number among those of its pair
pub record Sent : Type 0 where
  pub number : ℕ
  pub packet : Packet

-- the incarnation in which a node started last
pub record Started : Type 0 where
  pub node : ℕ
  pub inc : ℕ

-- nodes that are up, ascending; unhandled packets in the order of sending; all packets and records newest first
pub record World : Type 0 where
  pub config : Config
  pub nodes : List Node
  pub starts : List Started
  pub pairs : List Pair
  pub queue : List Sent
  pub sent : List Packet
  pub trace : List Happened

unfoldable pub is_node : ℕ → Node → Bool
is_node n x = x.core.views.me == n

unfoldable pub node_at : World → ℕ → Option Node
node_at w n = find (is_node n) w.nodes

unfoldable pub nodes_with : Node → List Node → List Node
nodes_with x [] = []
nodes_with x (y ∷ ys) = elim (y.core.views.me == x.core.views.me) [ true ↦ x ∷ ys | false ↦ y ∷ nodes_with x ys ]

-- ---- packets

unfoldable pub is_pair : ℕ → ℕ → Pair → Bool
is_pair a b p = p.from == a && p.to == b

unfoldable pub pair_with : Packet → Pair → Pair
pair_with p x = record x { count = x.count + 1; packets = p ∷ x.packets }

unfoldable pub pairs_with : Packet → List Pair → List Pair
pairs_with p [] = record { from = p.from; to = p.to; count = 1; packets = p ∷ [] } ∷ []
pairs_with p (x ∷ xs) = elim (is_pair p.from p.to x) [ true ↦ pair_with p x ∷ xs | false ↦ x ∷ pairs_with p xs ]

abbrev pub count_in : Option Pair → ℕ
count_in None = 0
count_in (Some p) = p.count

unfoldable pub count_between : World → ℕ → ℕ → ℕ
count_between w a b = count_in (find (is_pair a b) w.pairs)

-- a packet is sent
unfoldable pub posted : World → Packet → World
posted w p =
    record w {
      pairs = pairs_with p w.pairs;
      queue = w.queue ++ record { number = count_between w p.from p.to + 1; packet = p } ∷ [];
      sent = p ∷ w.sent;
    }

unfoldable pub kth_in : ℕ → Option Pair → Option Packet
kth_in k None = None
kth_in k (Some p) = elim (nat_lt 0 k && nat_le k p.count) [ true ↦ slice_get p.packets (p.count - k) | false ↦ None ]

-- the k-th packet ever sent from one node to another
unfoldable pub kth_between : World → ℕ → ℕ → ℕ → Option Packet
kth_between w a b k = kth_in k (find (is_pair a b) w.pairs)

unfoldable pub is_sent : ℕ → ℕ → ℕ → Sent → Bool
is_sent a b k x = x.number == k && x.packet.from == a && x.packet.to == b

unfoldable pub handled : World → ℕ → ℕ → ℕ → World
handled w a b k = record w { queue = drop_where (is_sent a b k) w.queue }

-- ---- steps

unfoldable pub traced : World → List Happened → World
traced w rs = record w { trace = reverse_onto rs w.trace }

-- what a step leaves
unfoldable pub after_step : World → List Script → Core → World
after_step w scripts x = fold posted (traced (record w { nodes = nodes_with (record { core = x; scripts = scripts }) w.nodes }) x.records) x.sends

unfoldable pub steps : World → NodeEvent → Node → World
steps w e x = after_step w x.scripts (stepped (by_scripts x.scripts) x.core e)

unfoldable pub steps_if : World → NodeEvent → Option Node → World
steps_if w e None = w
steps_if w e (Some x) = steps w e x

-- a step of a node, if it is up
unfoldable pub node_steps : World → ℕ → NodeEvent → World
node_steps w n e = steps_if w e (node_at w n)

-- ---- starts and stops

abbrev pub inc_in : Option Started → ℕ
inc_in None = 0
inc_in (Some x) = x.inc

unfoldable pub starts_with : List Started → ℕ → ℕ → List Started
starts_with [] n inc = record { node = n; inc = inc } ∷ []
starts_with (x ∷ xs) n inc = elim (x.node == n) [ true ↦ record { node = n; inc = inc } ∷ xs | false ↦ x ∷ starts_with xs n inc ]

unfoldable pub started_at : World → ℕ → ℕ → World
started_at w n inc =
    let x : Core = started w.config n inc in
    traced (record w { nodes = insert_before (λ (y : Node). nat_lt n y.core.views.me) (record { core = x; scripts = [] }) w.nodes; starts = starts_with w.starts n inc }) x.records

-- the k-th start of a node gives incarnation k; past the last one it does nothing
unfoldable pub starts_if : World → ℕ → ℕ → Option Node → World
starts_if w n last (Some x) = w
starts_if w n last None = elim (last == last_u32) [ true ↦ w | false ↦ started_at w n (last + 1) ]

unfoldable pub node_starts : World → ℕ → World
node_starts w n = starts_if w n (inc_in (find (λ (x : Started). x.node == n) w.starts)) (node_at w n)

unfoldable pub stops_if : World → ℕ → Option Node → World
stops_if w n None = w
stops_if w n (Some x) = traced (record w { nodes = drop_where (is_node n) w.nodes }) (happened.Down n ∷ [])

unfoldable pub shows_if : World → ℕ → What → Option Node → World
shows_if w n what None = w
shows_if w n what (Some x) = traced w (map (happened.Shown n) (status_of x.core what))

-- ---- calls

unfoldable pub script_of : ClientToken → List ℕ → Script
script_of t votes = record { token = t; items = unwrap_or (votes_word votes) [] }

-- a client that is made votes by its word
unfoldable pub scripts_after : CallLine → Core → List Script → List Script
scripts_after (Init node name votes) x scripts = script_of (record { number = x.sessions.last_client + 1 }) votes ∷ scripts
scripts_after _ x scripts = scripts

-- a call of a client whose node is down is refused
unfoldable pub calls_if : World → ℕ → CallLine → Option Node → World
calls_if w n c None = traced w (happened.Refused n (caller_of c) NoInit ∷ [])
calls_if w n c (Some x) = steps w (Calls c) (record x { scripts = scripts_after c x.core x.scripts })

-- ---- deliveries

unfoldable pub delivers_if : World → ℕ → ℕ → ℕ → Option Node → Option Packet → World
delivers_if w a b k None p = w
delivers_if w a b k (Some x) None = w
delivers_if w a b k (Some x) (Some p) = steps (handled w a b k) (Given p) x

unfoldable pub delivers : World → ℕ → ℕ → ℕ → World
delivers w a b k = delivers_if w a b k (node_at w b) (kth_between w a b k)

-- ---- plain events

unfoldable pub happens : World → Event → World
happens w (event.Start n) = node_starts w n
happens w (event.Stop n) = stops_if w n (node_at w n)
happens w (event.Tick n) = node_steps w n Ticks
happens w (event.Ask n mask) = node_steps w n (Asks mask)
happens w (event.Call n c) = calls_if w n c (node_at w n)
happens w (event.Show n what) = shows_if w n what (node_at w n)
happens w (event.Deliver a b k) = delivers w a b k
happens w (event.Garbage n bytes) = node_steps w n step.Garbage

abbrev pub empty_world : Config → World
empty_world c = record { config = c; nodes = []; starts = []; pairs = []; queue = []; sent = []; trace = [] }

-- in mode fixed every node starts at the beginning
unfoldable pub world_of : Config → Mode → World
world_of c Fixed = fold node_starts (empty_world c) (nodes_of c.nodes)
world_of c Asked = empty_world c
world_of c Rings = empty_world c

unfoldable pub world_new : Config → World
world_new c = world_of c c.mode

unfoldable pub world_after : Config → List Event → World
world_after c es = fold happens (world_new c) es

-- all records of a list of events, in order
unfoldable pub records_of : Config → List Event → List Happened
records_of c es = reverse_onto (world_after c es).trace []

-- opens each word of this file, for a computation
unfoldable pub world_opens : Unit {0}
unfolding items_of by_scripts is_node node_at nodes_with is_pair pair_with pairs_with count_between posted kth_in kth_between is_sent handled traced after_step steps steps_if node_steps starts_with started_at starts_if node_starts stops_if shows_if script_of scripts_after calls_if delivers_if delivers happens world_of world_new world_after records_of
world_opens = tt
