-- A world as it is kept, and the definitions' worlds that it stands for: these also keep their trace, all packets
-- sent, and what each client's votes word says. Its clients are of any kind that is made of votes words: `script` says
-- by which items one votes, and `said` by which one votes that is made of the items of a word.
use Rattle.std.specs.Prelude.{◌≡◌, ℕ, ◌==◌, Bool, List, [], ◌∷◌, ◌++◌, map, fold, find, nat_lt, Option, Some, None}
use Rattle.rsct_packet.specs.Lists.{reverse_onto}
use Rattle.session_state.specs.declared.state.Session.{Session}
use Rattle.node_state.specs.declared.call.CallLine.{CallLine}
use Rattle.node_state.specs.declared.config.Config.{Config}
use Rattle.node_state.specs.declared.happened.Happened.{Happened}
use Rattle.node_state.specs.declared.packet.Packet.{Packet}
use Rattle.node_state.specs.HandOn.{Answering}
use Rattle.node_state.specs.Step.{NodeEvent, Calls, at_work, stepped}
use Rattle.session_clients.specs.Clients.{client_named}
use Rattle.node_core.specs.Node.{NodeView, sessions_in}
use Rattle.world_model.specs.World.{Script, items_in, scripts_after}
use Rattle.world_model.specs.World as world
use Rattle.world_model.specs.Kept.{Bytes, with_packet}
use Rattle.world_packets.specs.Packets.{Kept, world_pairs, waits_as}
use Rattle.node_state.specs.declared.state.Core.{Core}
use Rattle.world_laws.specs.world_answers.Answers.{Items, AllWorded}
use Rattle.play_state.specs.declared.starts.Started.{Started}
use Rattle.play_state.specs.Starts.{started_in}
use Rattle.play_state.specs.Posting.{PacketsStand, bytes_after}
use Rattle.net_script.specs.declared.world.World.{World}
use Rattle.net_script.specs.declared.steps.Left.{Left}

abbrev pub is_me : {C : Type 0} → ℕ → NodeView C → Bool
is_me n x = x.core.views.me == n

-- the client of the live session of a name, at the node that was found
abbrev pub client_in : {C : Type 0} → Option (NodeView C) → List ℕ → Option C
client_in None name = None
client_in (Some n) name = client_named (sessions_in n) name

abbrev pub number_in : {C : Type 0} → NodeView C → ℕ
number_in x = x.core.views.me

-- ---- clients

-- one without items is silent in each phase, as the word `-` says
abbrev pub silent_or : Items → Items
silent_or [] = None ∷ []
silent_or (i ∷ is) = i ∷ is

abbrev pub votes_by : (Items → Option Items) → List Script → Session → Option Items
votes_by said scripts x = said (silent_or (items_in scripts (Some x)))

-- what each session's client votes by
abbrev pub votes_in : (Items → Option Items) → List Script → List Session → List (Option Items)
votes_in said scripts xs = map (votes_by said scripts) xs

-- ---- nodes

-- the node stands for this one, but for what its last step left; its clients vote by these scripts, where they vote by items
pub record NodeStands {C : Type 0} (script : C → Option Items) (said : Items → Option Items) (n : NodeView C) (x : world.Node) : Type 0 where
  pub core : at_work n.core ≡ at_work x.core
  pub votes : map script n.clients ≡ votes_in said x.scripts x.core.sessions.sessions

-- what its last step left is taken from a node of this number
pub record Leaves {C : Type 0} (m o : NodeView C) (l : Left) (k : ℕ) : Type 0 where
  pub node : o ≡ record m { core = at_work m.core }
  pub sends : l.sends ≡ m.core.sends
  pub records : l.records ≡ m.core.records
  pub me : m.core.views.me ≡ k

-- what a step leaves of a node: it stands for the one whose core is y
pub record Stepped {C : Type 0} (script : C → Option Items) (said : Items → Option Items) (n : NodeView C) (l : Left) (y : Core) (scripts : List Script) (k : ℕ) : Type 0 where
  pub stands : NodeStands script said n (record { core = y; scripts = scripts })
  pub sends : l.sends ≡ y.sends
  pub records : l.records ≡ y.records
  pub me : y.views.me ≡ k

-- what a step of a node leaves whose clients answer like this: as the scripts say, if each votes just as its word says
pub record StepDone {C : Type 0} (script : C → Option Items) (said : Items → Option Items) (a : Answering) (o : NodeView C) (l : Left) (x : world.Node) (scripts : List Script) (ev : NodeEvent) : Type 0 where
  pub left : Stepped script said o l (stepped a x.core ev) scripts x.core.views.me
  pub worded : AllWorded said → stepped a x.core ev ≡ stepped (world.by_scripts scripts) x.core ev

-- the clients answered somehow
abbrev pub StepsAs : {C : Type 0} → (C → Option Items) → (Items → Option Items) → NodeView C → NodeView C → Left → NodeEvent → Type 0
StepsAs script said n o l ev = (a : Answering) × ((x : world.Node) → NodeStands script said n x → StepDone script said a o l x x.scripts ev)

abbrev pub NodesStand : {C : Type 0} → (C → Option Items) → (Items → Option Items) → List (NodeView C) → List world.Node → Type 0
NodesStand script said [] [] = Unit {0}
NodesStand script said [] (x ∷ xs) = ⊥
NodesStand script said (n ∷ ns) [] = ⊥
NodesStand script said (n ∷ ns) (x ∷ xs) = NodeStands script said n x × NodesStand script said ns xs

-- what a step leaves of the node of a number, changed before by f, among the nodes
pub record StepsNode {C : Type 0} (script : C → Option Items) (said : Items → Option Items) (a : Answering) (ms : List (NodeView C)) (k : ℕ) (l : Left) (f : world.Node → world.Node) (ev : NodeEvent) (xs : List world.Node) : Type 0 where
  pub node : world.Node
  pub found : find (world.is_node k) xs ≡ Some node
  pub stands : NodesStand script said ms (world.nodes_with (record { core = stepped a (f node).core ev; scripts = (f node).scripts }) xs)
  pub sends : l.sends ≡ (stepped a (f node).core ev).sends
  pub records : l.records ≡ (stepped a (f node).core ev).records
  pub worded : AllWorded said → stepped a (f node).core ev ≡ stepped (world.by_scripts (f node).scripts) (f node).core ev

-- where clients answered somehow
abbrev pub StepsSome : {C : Type 0} → (C → Option Items) → (Items → Option Items) → List (NodeView C) → List (NodeView C) → ℕ → Left → (world.Node → world.Node) → NodeEvent → Type 0
StepsSome script said ns ms k l f ev = (a : Answering) × ((xs : List world.Node) → NodesStand script said ns xs → StepsNode script said a ms k l f ev xs)

-- what a step leaves, or nothing where the node is not up
abbrev pub StepsIn : {C : Type 0} → (C → Option Items) → (Items → Option Items) → List (NodeView C) → List (NodeView C) → ℕ → Option Left → (world.Node → world.Node) → NodeEvent → Type 0
StepsIn script said ns ms k None f ev = (ms ≡ ns) × ((xs : List world.Node) → NodesStand script said ns xs → find (world.is_node k) xs ≡ None)
StepsIn script said ns ms k (Some l) f ev = StepsSome script said ns ms k l f ev

-- a node's clients vote so after a call
abbrev pub with_scripts : CallLine → world.Node → world.Node
with_scripts c x = record x { scripts = scripts_after c x.core x.scripts }

-- a call is done at a node
abbrev pub CallDone : {C : Type 0} → (C → Option Items) → (Items → Option Items) → NodeView C → NodeView C → Left → CallLine → Type 0
CallDone script said n o l c = (a : Answering) × ((x : world.Node) → NodeStands script said n x → StepDone script said a o l x (scripts_after c x.core x.scripts) (Calls c))

-- it stands after this number
abbrev pub comes_before : {C : Type 0} → ℕ → NodeView C → Bool
comes_before k n = nat_lt k n.core.views.me

-- ---- the world

pub record Stands {C : Type 0} (script : C → Option Items) (said : Items → Option Items) (c : World C) (w : world.World) : Type 0 where
  pub config : w.config ≡ c.config
  pub nodes : NodesStand script said c.nodes w.nodes
  pub starts : w.starts ≡ map started_in c.starts
  pub packets : PacketsStand c.packets w

-- the same but for what waits
pub record Holds {C : Type 0} (script : C → Option Items) (said : Items → Option Items) (c : World C) (w : world.World) : Type 0 where
  pub nodes : NodesStand script said c.nodes w.nodes
  pub pairs : w.pairs ≡ world_pairs c.packets.pairs

-- what happens makes the one world into the other: what it records comes behind what was, and the packets that it
-- sends are within the limit
pub record Goes {C : Type 0} (script : C → Option Items) (said : Items → Option Items) (c d : World C) (before after : List Happened) (w v : world.World) : Type 0 where
  pub stands : Stands script said d v
  pub limit : d.limit ≡ c.limit
  pub records : List Happened
  pub out : after ≡ before ++ records
  pub trace : v.trace ≡ reverse_onto records w.trace
  pub sent : List Packet
  pub sends : v.sent ≡ reverse_onto sent w.sent
  pub within : bytes_after c.limit c.kept sent ≡ record { sum = d.kept; passed = None }

-- what happens sends packets whose bytes pass the limit, with this sum
pub record Passes {C : Type 0} (sum : ℕ) (c : World C) (w v : world.World) : Type 0 where
  pub sent : List Packet
  pub sends : v.sent ≡ reverse_onto sent w.sent
  pub passed : (bytes_after c.limit c.kept sent).passed ≡ Some sum

-- what happens where the clients answer somehow; it is the world's own where each votes just as its word says
pub record Comes {C : Type 0} (script : C → Option Items) (said : Items → Option Items) (k : World C) (P : world.World → world.World → Type 0) (by : Answering → world.World → world.World) (to : world.World → world.World) : Type 0 where
  pub answers : Answering
  pub comes : (w : world.World) → Stands script said k w → P w (by answers w)
  pub worded : AllWorded said → (w : world.World) → Holds script said k w → by answers w ≡ to w

-- what a step left is sent and recorded
pub record Settled {C : Type 0} (c d : World C) (l : Left) (before after : List Happened) : Type 0 where
  pub config : d.config ≡ c.config
  pub nodes : d.nodes ≡ c.nodes
  pub starts : d.starts ≡ c.starts
  pub limit : d.limit ≡ c.limit
  pub out : after ≡ before ++ l.records
  pub packets : (w : world.World) → PacketsStand c.packets w → PacketsStand d.packets (fold world.posted w l.sends)
  pub within : bytes_after c.limit c.kept l.sends ≡ record { sum = d.kept; passed = None }

-- no node has started, and nothing was sent
abbrev pub kept_empty : {C : Type 0} → Config → ℕ → World C
kept_empty config limit = record { config = config; nodes = []; starts = []; packets = record { pairs = []; waiting = [] }; kept = 0; limit = limit }
