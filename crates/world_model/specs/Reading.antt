-- A script, read line by line: its settings and lines, or its first bad line and the first reason of that.
use Rattle.std.specs.Prelude.{ℕ, Bool, true, false, not, ◌==◌, ◌&&◌, ◌||◌, ◌+◌, ◌-◌, List, [], ◌∷◌, map, length, replicate, find, slice_set, slice_index, Option, Some, None, nat_lt, codes, if◌then◌else◌}
use Rattle.std.specs.List.{list_any, list_all}
use Rattle.std.specs.Str.{bytes_eq}
use Rattle.rsct_packet.specs.Lists.{is_empty, reverse_onto}
use Rattle.rsct_packet.specs.Mask.{no_nodes, has_node, with_node, nodes_of, node_numbers}
use Rattle.node_state.specs.declared.config.Config.{Config}
use Rattle.node_state.specs.declared.config.Mode.TheVariants.{Rings}
use Rattle.node_state.specs.Settings.{is_fixed, is_rings, addresses_on, address_at, shared_network}
use Rattle.node_state.specs.Bytes.{is_packet}
use Rattle.world_model.specs.declared.event.Event.{Event}
use Rattle.world_model.specs.declared.event.Event.TheVariants.{Start, Stop, Ask, Call, Garbage}
use Rattle.node_state.specs.declared.call.CallLine.{CallLine}
use Rattle.node_state.specs.declared.call.CallLine.TheVariants.{Init, Join, Subscribe}
use Rattle.world_model.specs.declared.script.Aim.{Aim}
use Rattle.world_model.specs.declared.script.Aim.TheVariants.{Plays, Serves, Asks}
use Rattle.world_model.specs.declared.script.Line.{Line}
use Rattle.world_model.specs.declared.script.Line.TheVariants.{Plain}
use Rattle.world_model.specs.declared.script.LineWhy.{LineWhy}
use Rattle.world_model.specs.declared.script.LineWhy.TheVariants.{Long, BadByte, UnknownWord, MissingWord, ExtraWord, BadWord, UnknownNode, UnknownClient, OutOfPlace, NoSharedNetwork, IsAPacket, BoxedClient}
use Rattle.world_model.specs.declared.script.Script.{Script}
use Rattle.value_words.specs.Words.{split_on, chosen, words_in}
use Rattle.world_model.specs.Lines.{Form, forms, Votes, Boxed, Scripted, Said, SaysMode, SaysNode, SaysAdapter, SaysHb, SaysPort, SaysLevel, SaysDomain, SaysBegin, SaysLine, SaysClient, SaysCall, said}

-- a client that a line named, and its node
pub record Client : Type 0 where
  pub name : List ℕ
  pub node : ℕ

-- what has been read, for what, and which settings; clients, lines and texts newest first. `left`: how many objects no client has
-- taken; `texts`: the bytes of the calls among the lines; `has_call`: the last line is a call whose bytes are not kept yet.
pub record Reading : Type 0 where
  pub aim : Aim
  pub config : Config
  pub has_mode : Bool
  pub has_adapter : Bool
  pub has_hb : Bool
  pub has_port : Bool
  pub has_domain : Bool
  pub begun : Bool
  pub left : ℕ
  pub clients : List Client
  pub lines : List Line
  pub texts : List (List ℕ)
  pub has_call : Bool

pub data Read : Type 0 where
  Good : (r : Reading) → Read
  Bad : (why : LineWhy) → Read

abbrev pub first_settings : Config
first_settings = record { mode = Rings; nodes = no_nodes; addr = replicate 4 (replicate 32 0); every = 1; misses = 4; port = 12347; level_from = replicate 32 0; domain = 1 }

-- the objects that give votes
unfoldable pub objects_of : Aim → ℕ
objects_of (Serves me objects) = objects
objects_of _ = 0

unfoldable pub nothing_read : Aim → Reading
nothing_read aim =
    record { aim = aim; config = first_settings; has_mode = false; has_adapter = false; has_hb = false; has_port = false; has_domain = false; begun = false; left = objects_of aim; clients = []; lines = []; texts = []; has_call = false }

-- 10.1.0.n
unfoldable pub plain_address : Config → ℕ → ℕ
plain_address c n = if has_node c.nodes n then 167837696 + n else 0

unfoldable pub settled_if : Config → Bool → Config
settled_if c true = c
settled_if c false = record c { addr = slice_set c.addr 0 (map (plain_address c) node_numbers) }

-- where no adapter line stands, each node n has 10.1.0.n on network 1
unfoldable pub settled : Reading → Config
settled r = settled_if r.config r.has_adapter

-- the node whose settings are read
unfoldable pub own_nodes : Aim → List ℕ
own_nodes Plays = []
own_nodes (Serves me objects) = me ∷ []
own_nodes (Asks me) = me ∷ []

-- the nodes that need an earlier line
unfoldable pub nodes_said : Aim → Said → List ℕ
nodes_said aim (SaysAdapter n network address) = n ∷ []
nodes_said aim (SaysLevel n inc) = n ∷ []
nodes_said aim SaysBegin = own_nodes aim
nodes_said aim (SaysLine ns l) = ns
nodes_said aim (SaysClient n name votes) = n ∷ []
nodes_said aim _ = []

unfoldable pub is_client : List ℕ → Client → Bool
is_client name c = bytes_eq c.name name

unfoldable pub is_known_client : Said → List Client → Bool
is_known_client (SaysCall client c) cs = list_any (is_client client) cs
is_known_client _ cs = true

unfoldable pub event_misplaced : Config → Event → Bool
event_misplaced c (Start n) = is_fixed c.mode
event_misplaced c (Stop n) = is_fixed c.mode
event_misplaced c (Ask n mask) = is_fixed c.mode || (is_rings c.mode || not (has_node mask n))
event_misplaced c _ = false

unfoldable pub line_misplaced : Config → Line → Bool
line_misplaced c (Plain e) = event_misplaced c e
line_misplaced c _ = false

-- the node has an adapter on the network, or another one has the address there
unfoldable pub is_second_adapter : Config → ℕ → ℕ → ℕ → Bool
is_second_adapter c n network address = nat_lt 0 (address_at c n network) || list_any (λ a. a == address) (addresses_on c network)

-- a setting after `begin` or for the second time, an event before it
unfoldable pub misplaced : Reading → Said → Bool
misplaced r (SaysMode m) = r.begun || r.has_mode
misplaced r (SaysNode n) = r.begun || has_node r.config.nodes n
misplaced r (SaysAdapter n network address) = r.begun || is_second_adapter r.config n network address
misplaced r (SaysHb f s) = r.begun || r.has_hb
misplaced r (SaysPort p) = r.begun || r.has_port
misplaced r (SaysLevel n inc) = r.begun || nat_lt 0 (slice_index r.config.level_from (n - 1))
misplaced r (SaysDomain d) = r.begun || r.has_domain
misplaced r SaysBegin = r.begun
misplaced r (SaysLine ns l) = not r.begun || line_misplaced r.config l
misplaced r (SaysClient n name votes) = not r.begun || list_any (λ c. is_client name c && not (c.node == n)) r.clients
misplaced r (SaysCall client c) = not r.begun

unfoldable pub node_of_client : Option Client → ℕ
node_of_client None = 0
node_of_client (Some c) = c.node

-- a call that a daemon carries out for a client of its settings
unfoldable pub is_carried : CallLine → Bool
is_carried (Init n name votes) = true
is_carried (Join client group instance attrs) = true
is_carried (Subscribe client group) = true
is_carried _ = false

-- where a daemon is to serve this node: another mode, a line that is no call, and a call of an own client that is not carried out
unfoldable pub misplaced_served : Reading → ℕ → Said → Bool
misplaced_served r me (SaysMode m) = not (is_rings m)
misplaced_served r me (SaysLine ns l) = true
misplaced_served r me (SaysCall client c) = node_of_client (find (is_client client) r.clients) == me && not (is_carried c)
misplaced_served r me _ = false

-- where a node is to be asked: another mode
unfoldable pub misplaced_asked : Said → Bool
misplaced_asked (SaysMode m) = not (is_rings m)
misplaced_asked _ = false

-- what has no place besides, for what the script is read
unfoldable pub misplaced_for : Reading → Aim → Said → Bool
misplaced_for r Plays x = false
misplaced_for r (Serves me objects) x = misplaced_served r me x
misplaced_for r (Asks me) x = misplaced_asked x

-- each two nodes share a network, and each node has one
unfoldable pub all_share : Config → Bool
all_share c = list_all (λ a. list_all (λ b. nat_lt 0 (shared_network c a b)) (nodes_of c.nodes)) (nodes_of c.nodes)

-- garbage is no packet
unfoldable pub packet_reason : Bool → Option LineWhy
packet_reason true = Some IsAPacket
packet_reason false = None

-- a client whose votes an object gives: none is played, and each of the served node takes an object
unfoldable pub boxed_reason : Aim → ℕ → ℕ → Option LineWhy
boxed_reason Plays n left = Some BoxedClient
boxed_reason (Serves me objects) n left = if n == me && left == 0 then Some BoxedClient else None
boxed_reason (Asks me) n left = None

unfoldable pub last_reason : Reading → Said → Option LineWhy
last_reason r SaysBegin = elim (all_share (settled r)) [ true ↦ None | false ↦ Some NoSharedNetwork ]
last_reason r (SaysLine ns (Plain (Garbage n bytes))) = packet_reason (is_packet bytes)
last_reason r (SaysClient n name Boxed) = boxed_reason r.aim n r.left
last_reason r _ = None

-- the first reason after `bad word`
unfoldable pub reason : Reading → Said → Option LineWhy
reason r x =
    elim (list_all (has_node r.config.nodes) (nodes_said r.aim x)) [
      | false ↦ Some UnknownNode
      | true ↦ elim (is_known_client x r.clients) [
        | false ↦ Some UnknownClient
        | true ↦ elim (misplaced r x || misplaced_for r r.aim x) [ true ↦ Some OutOfPlace | false ↦ last_reason r x ]
      ]
    ]

unfoldable pub with_line : Reading → Line → Reading
with_line r l = record r { lines = l ∷ r.lines }

-- a call, whose bytes are to be kept
unfoldable pub with_call : Reading → ℕ → CallLine → Reading
with_call r n c = record r { lines = Plain (Call n c) ∷ r.lines; has_call = true }

-- the word that says that an object gives the votes
abbrev pub boxed_word : List ℕ
boxed_word = codes "boxed"

unfoldable pub votes_said : Votes → List ℕ
votes_said Boxed = boxed_word
votes_said (Scripted word) = word

-- how many objects are left after a client's line
unfoldable pub left_after : Aim → ℕ → Votes → ℕ → ℕ
left_after (Serves me objects) n Boxed left = if n == me then left - 1 else left
left_after _ n votes left = left

unfoldable pub with_client : Reading → ℕ → List ℕ → Votes → Reading
with_client r n name votes =
    with_call (record r { left = left_after r.aim n votes r.left; clients = record { name = name; node = n } ∷ r.clients }) n (Init n name (votes_said votes))

unfoldable pub with_config : Reading → Config → Reading
with_config r c = record r { config = c }

unfoldable pub with_address : Config → ℕ → ℕ → ℕ → Config
with_address c n network address =
    record c { addr = slice_set c.addr (network - 1) (slice_set (addresses_on c network) (n - 1) address) }

-- a good line
unfoldable pub taken : Reading → Said → Reading
taken r (SaysMode m) = record r { config = record (r.config) { mode = m }; has_mode = true }
taken r (SaysNode n) = with_config r (record (r.config) { nodes = with_node r.config.nodes n })
taken r (SaysAdapter n network address) = record r { config = with_address r.config n network address; has_adapter = true }
taken r (SaysHb f s) = record r { config = record (r.config) { every = f; misses = s }; has_hb = true }
taken r (SaysPort p) = record r { config = record (r.config) { port = p }; has_port = true }
taken r (SaysLevel n inc) = with_config r (record (r.config) { level_from = slice_set r.config.level_from (n - 1) inc })
taken r (SaysDomain d) = record r { config = record (r.config) { domain = d }; has_domain = true }
taken r SaysBegin = record r { begun = true }
taken r (SaysLine ns l) = with_line r l
taken r (SaysClient n name votes) = with_client r n name votes
taken r (SaysCall client c) = with_call r (node_of_client (find (is_client client) r.clients)) c

unfoldable pub taken_unless : Reading → Said → Option LineWhy → Read
taken_unless r x None = Good (taken r x)
taken_unless r x (Some why) = Bad why

unfoldable pub said_line : Reading → Option Said → Read
said_line r None = Bad BadWord
said_line r (Some x) = taken_unless r x (reason r x)

unfoldable pub is_extra : ℕ → Option ℕ → Bool
is_extra n None = false
is_extra n (Some most) = nat_lt most n

unfoldable pub counted_line : Reading → Form → List (List ℕ) → Read
counted_line r f ws =
    elim (nat_lt (length ws) f.least) [
      | true ↦ Bad MissingWord
      | false ↦ elim (is_extra (length ws) f.most) [ true ↦ Bad ExtraWord | false ↦ said_line r (said f.head ws) ]
    ]

-- a last line without its line feed lacks a word
unfoldable pub formed_line : Reading → Bool → List (List ℕ) → Option Form → Read
formed_line r whole ws None = Bad UnknownWord
formed_line r true ws (Some f) = counted_line r f ws
formed_line r false ws (Some f) = Bad MissingWord

-- a blank line or a comment
unfoldable pub skipped_line : Reading → Bool → Read
skipped_line r true = Good r
skipped_line r false = Bad MissingWord

unfoldable pub worded_line : Reading → Bool → List (List ℕ) → Read
worded_line r whole [] = skipped_line r whole
worded_line r whole (w ∷ ws) = formed_line r whole ws (chosen forms w)

unfoldable pub is_comment : List ℕ → Bool
is_comment [] = false
is_comment (b ∷ bs) = b == 35

unfoldable pub is_bad_byte : ℕ → Bool
is_bad_byte b = nat_lt b 32 || nat_lt 126 b

-- the bytes of a call are kept
unfoldable pub with_text : Reading → List ℕ → Bool → Reading
with_text r bytes true = record r { texts = bytes ∷ r.texts; has_call = false }
with_text r bytes false = r

unfoldable pub texted : List ℕ → Read → Read
texted bytes (Good r) = Good (with_text r bytes r.has_call)
texted bytes (Bad why) = Bad why

-- whole: its line feed stands behind it; long: it passes the limit of an input
unfoldable pub read_line : Reading → Bool → Bool → List ℕ → Read
read_line r whole true bytes = Bad Long
read_line r whole false bytes =
    elim (list_any is_bad_byte bytes) [
      | true ↦ Bad BadByte
      | false ↦ elim (is_comment bytes) [ true ↦ skipped_line r whole | false ↦ texted bytes (worded_line r whole (words_in bytes)) ]
    ]

-- a script, or the first line that is in none, and why
pub data ScriptRead : Type 0 where
  IsScript : (script : Script) → ScriptRead
  IsNone : (line : ℕ) (why : LineWhy) → ScriptRead

unfoldable pub script_in : Reading → Script
script_in r = record { config = settled r; begun = r.begun; lines = reverse_onto r.lines []; texts = reverse_onto r.texts [] }

-- settings of a node end only after `begin`
unfoldable pub lacks_begin : Aim → Bool → Bool
lacks_begin Plays begun = false
lacks_begin _ begun = not begun

-- after the last line: n is the number of the line that does not come
unfoldable pub at_end : Reading → ℕ → ScriptRead
at_end r n = elim (lacks_begin r.aim r.begun) [ true ↦ IsNone n MissingWord | false ↦ IsScript (script_in r) ]

abbrev pub input_limit : ℕ
input_limit = 16777216

-- lines from number n on, at place i of the input; the last piece is what follows the last line feed
unfoldable pub read_from : Reading → ℕ → ℕ → List (List ℕ) → ScriptRead
read_from r n i [] = at_end r n
read_from r n i (b ∷ bs) =
    elim (is_empty bs) [
      | true ↦ elim (is_empty b) [
        | true ↦ at_end r n
        | false ↦ elim (read_line r false (nat_lt input_limit (i + length b)) b) [ Good q ↦ at_end q n | Bad why ↦ IsNone n why ]
      ]
      | false ↦ elim (read_line r true (nat_lt input_limit (i + length b + 1)) b) [
        | Good q ↦ read_from q (n + 1) (i + length b + 1) bs
        | Bad why ↦ IsNone n why
      ]
    ]

unfoldable pub read_for : Aim → List ℕ → ScriptRead
read_for aim bytes = read_from (nothing_read aim) 1 0 (split_on 10 bytes)

unfoldable pub script_of : List ℕ → ScriptRead
script_of bytes = read_for Plays bytes

-- opens each word of this file, for a computation
unfoldable pub reading_opens : Unit {0}
unfolding objects_of nothing_read plain_address settled_if settled own_nodes nodes_said is_client is_known_client event_misplaced line_misplaced is_second_adapter misplaced node_of_client is_carried misplaced_served misplaced_asked misplaced_for all_share packet_reason boxed_reason last_reason reason with_line with_call votes_said left_after with_client with_config with_address taken taken_unless said_line is_extra counted_line formed_line skipped_line worded_line is_comment is_bad_byte with_text texted read_line script_in lacks_begin at_end read_from read_for script_of
reading_opens = tt
