-- What each form of a line says, word after word.
use Rattle.std.specs.Prelude.{◌≡◌, ℕ, List, [], ◌∷◌, Option, Some, None, Result, Ok, Err, fold}
use Rattle.rsct_packet.specs.Ids.{last_u32}
use Rattle.rsct_packet.specs.Lists.{is_empty}
use Rattle.rsct_packet.specs.Mask.{no_nodes, with_node}
use Rattle.value_words.specs.Escapes.{text_word}
use Rattle.client_callbacks.specs.Votes.{vote_word}
use Rattle.node_state.specs.declared.call.CallLine.TheVariants as call
use Rattle.node_state.specs.Calls.{caller_of}
use Rattle.world_model.specs.declared.event.Event.TheVariants as event
use Rattle.world_model.specs.declared.script.Line.TheVariants as line
use Rattle.value_words.specs.Words.{◌>>=◌, when_true, each_read, number_word, hex_word, client_word, group_word, node_word, network_word, provider_word}
use Rattle.world_model.specs.Words.{address_word, mode_word, what_word}
use Rattle.entry_words.specs.Words.{phases_word, attr_words}
use Rattle.world_model.specs.Lines.{Votes, Boxed, Scripted, client_votes, Said, SaysMode, SaysNode, SaysAdapter, SaysHb, SaysPort, SaysLevel, SaysDomain, SaysBegin, SaysLine, SaysClient, SaysCall}
use Rattle.value_words.specs.declared.faults.WordFault.{WordFault}
use Rattle.script_reader.specs.declared.said.Said.{Said as LineSaid}
use Rattle.script_reader.specs.declared.said.Said.TheVariants as says
use Rattle.script_reader.specs.declared.said.LineNodes.{LineNodes}
use Rattle.script_reader.specs.declared.said.LineNodes.TheVariants as nodes
use Rattle.script_reader.specs.declared.said.ClientVotes.{ClientVotes}
use Rattle.script_reader.specs.declared.said.ClientVotes.TheVariants as votes
use Rattle.value_words.specs.Answers.{FailsWord}
use Rattle.value_words.specs.Counted.{first_of, one_of, two_of, three_of, four_of}

-- ---- the declared types

abbrev pub votes_seen : ClientVotes → Votes
votes_seen votes.Boxed = Boxed
votes_seen (votes.Scripted w) = Scripted w

abbrev pub nodes_seen : LineNodes → List ℕ
nodes_seen nodes.Zero = []
nodes_seen (nodes.One n) = n ∷ []
nodes_seen (nodes.Two n m) = n ∷ m ∷ []
nodes_seen (nodes.More n ms) = n ∷ ms

abbrev pub said_seen : LineSaid → Said
said_seen (says.Mode m) = SaysMode m
said_seen (says.Node n) = SaysNode n
said_seen (says.Adapter n network address) = SaysAdapter n network address
said_seen (says.Hb f s) = SaysHb f s
said_seen (says.Port p) = SaysPort p
said_seen (says.Level n inc) = SaysLevel n inc
said_seen (says.Domain d) = SaysDomain d
said_seen says.Begin = SaysBegin
said_seen (says.Line ns l) = SaysLine (nodes_seen ns) l
said_seen (says.Client n name v) = SaysClient n name (votes_seen v)
said_seen (says.Call c) = SaysCall (caller_of c) c

abbrev pub GivesSaid : Result LineSaid WordFault → Option Said → Type 0
GivesSaid (Ok x) read = read ≡ Some (said_seen x)
GivesSaid (Err e) read = FailsWord e read

abbrev pub GivesVotes : Result ClientVotes WordFault → Option Votes → Type 0
GivesVotes (Ok x) read = read ≡ Some (votes_seen x)
GivesVotes (Err e) read = FailsWord e read

-- ---- settings

unfoldable pub mode_said : List (List ℕ) → Option Said
mode_said ws = do
  w ← one_of ws
  m ← mode_word w
  Some (SaysMode m)

unfoldable pub node_said : List (List ℕ) → Option Said
node_said ws = do
  w ← one_of ws
  n ← node_word w
  Some (SaysNode n)

unfoldable pub adapter_said : List (List ℕ) → Option Said
adapter_said ws = do
  p ← three_of ws
  n ← node_word p.0
  network ← network_word p.1
  address ← address_word p.2
  Some (SaysAdapter n network address)

unfoldable pub hb_said : List (List ℕ) → Option Said
hb_said ws = do
  p ← two_of ws
  f ← number_word 1 100 p.0
  s ← number_word 2 100 p.1
  Some (SaysHb f s)

unfoldable pub port_said : List (List ℕ) → Option Said
port_said ws = do
  w ← one_of ws
  n ← number_word 1 65000 w
  Some (SaysPort n)

unfoldable pub level_said : List (List ℕ) → Option Said
level_said ws = do
  p ← two_of ws
  n ← node_word p.0
  j ← number_word 1 last_u32 p.1
  Some (SaysLevel n j)

unfoldable pub domain_said : List (List ℕ) → Option Said
domain_said ws = do
  w ← one_of ws
  n ← number_word 1 last_u32 w
  Some (SaysDomain n)

unfoldable pub begin_said : List (List ℕ) → Option Said
begin_said ws = when_true (Some SaysBegin) (is_empty ws)

-- ---- events of nodes and networks

unfoldable pub start_said : List (List ℕ) → Option Said
start_said ws = do
  w ← one_of ws
  n ← node_word w
  Some (SaysLine (n ∷ []) (line.Plain (event.Start n)))

unfoldable pub stop_said : List (List ℕ) → Option Said
stop_said ws = do
  w ← one_of ws
  n ← node_word w
  Some (SaysLine (n ∷ []) (line.Plain (event.Stop n)))

unfoldable pub tick_said : List (List ℕ) → Option Said
tick_said ws = do
  w ← one_of ws
  n ← node_word w
  Some (SaysLine (n ∷ []) (line.Plain (event.Tick n)))

unfoldable pub ask_said : List (List ℕ) → Option Said
ask_said ws = do
  a ← first_of ws
  n ← node_word a.0
  ms ← each_read node_word a.1
  Some (SaysLine (n ∷ ms) (line.Plain (event.Ask n (fold with_node no_nodes ms))))

unfoldable pub run_said : List (List ℕ) → Option Said
run_said ws = do
  w ← one_of ws
  k ← number_word 1 10000 w
  Some (SaysLine [] (line.Run k))

unfoldable pub deliver_said : List (List ℕ) → Option Said
deliver_said ws = do
  p ← three_of ws
  k ← number_word 0 last_u32 p.2
  n ← node_word p.0
  m ← node_word p.1
  Some (SaysLine (n ∷ m ∷ []) (line.Plain (event.Deliver n m k)))

unfoldable pub drop_said : List (List ℕ) → Option Said
drop_said ws = do
  p ← two_of ws
  n ← node_word p.0
  m ← node_word p.1
  Some (SaysLine (n ∷ m ∷ []) (line.Drop n m))

unfoldable pub flow_said : List (List ℕ) → Option Said
flow_said ws = when_true (Some (SaysLine [] line.Flow)) (is_empty ws)

-- a network, or none
unfoldable pub last_network : List (List ℕ) → Option (Option ℕ)
last_network [] = Some None
last_network (w ∷ ws) = when_true (network_word w >>= λ network. Some (Some network)) (is_empty ws)

unfoldable pub cut_said : List (List ℕ) → Option Said
cut_said ws = do
  a ← first_of ws
  b ← first_of a.1
  network ← last_network b.1
  n ← node_word a.0
  m ← node_word b.0
  Some (SaysLine (n ∷ m ∷ []) (line.Cut n m network))

unfoldable pub heal_said : List (List ℕ) → Option Said
heal_said ws = do
  a ← first_of ws
  b ← first_of a.1
  network ← last_network b.1
  n ← node_word a.0
  m ← node_word b.0
  Some (SaysLine (n ∷ m ∷ []) (line.Heal n m network))

unfoldable pub garbage_said : List (List ℕ) → Option Said
garbage_said ws = do
  p ← two_of ws
  bytes ← hex_word p.1
  n ← node_word p.0
  Some (SaysLine (n ∷ []) (line.Plain (event.Garbage n bytes)))

unfoldable pub show_said : List (List ℕ) → Option Said
show_said ws = do
  p ← two_of ws
  what ← what_word p.1
  n ← node_word p.0
  Some (SaysLine (n ∷ []) (line.Plain (event.Show n what)))

-- ---- clients and their calls

unfoldable pub client_said : List (List ℕ) → Option Said
client_said ws = do
  p ← three_of ws
  n ← node_word p.0
  name ← client_word p.1
  v ← client_votes p.2
  Some (SaysClient n name v)

unfoldable pub join_said : List (List ℕ) → Option Said
join_said ws = do
  c ← first_of ws
  g ← first_of c.1
  i ← first_of g.1
  instance ← number_word 0 65535 i.0
  attrs ← attr_words i.1
  client ← client_word c.0
  group ← group_word g.0
  Some (SaysCall client (call.Join client group instance attrs))

unfoldable pub leave_said : List (List ℕ) → Option Said
leave_said ws = do
  p ← three_of ws
  phases ← phases_word p.2
  client ← client_word p.0
  group ← group_word p.1
  Some (SaysCall client (call.Leave client group phases))

unfoldable pub expel_said : List (List ℕ) → Option Said
expel_said ws = do
  c ← first_of ws
  g ← first_of c.1
  p ← first_of g.1
  phases ← phases_word p.0
  out ← each_read provider_word p.1
  client ← client_word c.0
  group ← group_word g.0
  Some (SaysCall client (call.Expel client group phases out))

unfoldable pub state_said : List (List ℕ) → Option Said
state_said ws = do
  p ← four_of ws
  phases ← phases_word p.2
  value ← text_word p.3
  client ← client_word p.0
  group ← group_word p.1
  Some (SaysCall client (call.ChangeState client group phases value))

unfoldable pub message_said : List (List ℕ) → Option Said
message_said ws = do
  p ← four_of ws
  phases ← phases_word p.2
  bytes ← text_word p.3
  client ← client_word p.0
  group ← group_word p.1
  Some (SaysCall client (call.SendMessage client group phases bytes))

unfoldable pub attrs_said : List (List ℕ) → Option Said
attrs_said ws = do
  c ← first_of ws
  g ← first_of c.1
  p ← first_of g.1
  phases ← phases_word p.0
  attrs ← attr_words p.1
  client ← client_word c.0
  group ← group_word g.0
  Some (SaysCall client (call.ChangeAttributes client group phases attrs))

unfoldable pub vote_said : List (List ℕ) → Option Said
vote_said ws = do
  p ← three_of ws
  item ← vote_word p.2
  client ← client_word p.0
  group ← group_word p.1
  Some (SaysCall client (call.Vote client group item.vote item.value))

unfoldable pub subscribe_said : List (List ℕ) → Option Said
subscribe_said ws = do
  p ← two_of ws
  client ← client_word p.0
  group ← group_word p.1
  Some (SaysCall client (call.Subscribe client group))

unfoldable pub unsubscribe_said : List (List ℕ) → Option Said
unsubscribe_said ws = do
  p ← two_of ws
  client ← client_word p.0
  group ← group_word p.1
  Some (SaysCall client (call.Unsubscribe client group))

unfoldable pub goodbye_said : List (List ℕ) → Option Said
goodbye_said ws = do
  c ← one_of ws
  client ← client_word c
  Some (SaysCall client (call.Goodbye client))
