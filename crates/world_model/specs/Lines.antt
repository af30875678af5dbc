-- The forms of a script's lines.
use Rattle.std.specs.Prelude.{ℕ, true, false, List, [], ◌∷◌, Option, Some, None, codes, fold}
use Rattle.std.specs.Str.{bytes_eq}
use Rattle.rsct_packet.specs.Ids.{last_u32}
use Rattle.rsct_packet.specs.Mask.{no_nodes, with_node}
use Rattle.node_state.specs.declared.config.Mode.{Mode}
use Rattle.node_state.specs.declared.call.CallLine.{CallLine}
use Rattle.node_state.specs.declared.call.CallLine.TheVariants as call
use Rattle.world_model.specs.declared.event.Event.{Event}
use Rattle.world_model.specs.declared.event.Event.TheVariants as event
use Rattle.world_model.specs.declared.script.Line.{Line}
use Rattle.world_model.specs.declared.script.Line.TheVariants as line
use Rattle.value_words.specs.Words.{◌>>=◌, Choice, each_read, number_word, hex_word, client_word, group_word, node_word, network_word, provider_word}
use Rattle.world_model.specs.Words.{address_word, mode_word, what_word}
use Rattle.entry_words.specs.Words.{phases_word, attr_words}
use Rattle.value_words.specs.Escapes.{text_word}
use Rattle.client_callbacks.specs.Votes.{vote_word, votes_word}

-- the first word of a line
pub data Head : Type 0 where
  HMode : Head
  HNode : Head
  HAdapter : Head
  HHb : Head
  HPort : Head
  HLevel : Head
  HDomain : Head
  HBegin : Head
  HStart : Head
  HStop : Head
  HAsk : Head
  HTick : Head
  HRun : Head
  HDeliver : Head
  HDrop : Head
  HFlow : Head
  HCut : Head
  HHeal : Head
  HGarbage : Head
  HShow : Head
  HClient : Head
  HJoin : Head
  HLeave : Head
  HExpel : Head
  HState : Head
  HMessage : Head
  HAttrs : Head
  HVote : Head
  HSubscribe : Head
  HUnsubscribe : Head
  HGoodbye : Head

-- a first word, and how few and how many words follow it
pub record Form : Type 0 where
  pub head : Head
  pub least : ℕ
  pub most : Option ℕ

unfoldable pub form : List ℕ → Head → ℕ → Choice Form
form w h n = record { word = w; means = record { head = h; least = n; most = Some n } }

unfoldable pub form_from : List ℕ → Head → ℕ → Choice Form
form_from w h n = record { word = w; means = record { head = h; least = n; most = None } }

unfoldable pub form_to : List ℕ → Head → ℕ → ℕ → Choice Form
form_to w h n m = record { word = w; means = record { head = h; least = n; most = Some m } }

unfoldable pub forms : List (Choice Form)
forms =
    form (codes "flow") HFlow 0
    ∷ form (codes "deliver") HDeliver 3
    ∷ form_from (codes "join") HJoin 3
    ∷ form (codes "message") HMessage 4
    ∷ form (codes "state") HState 4
    ∷ form (codes "vote") HVote 3
    ∷ form (codes "client") HClient 3
    ∷ form_from (codes "ask") HAsk 2
    ∷ form (codes "start") HStart 1
    ∷ form (codes "stop") HStop 1
    ∷ form (codes "tick") HTick 1
    ∷ form (codes "run") HRun 1
    ∷ form (codes "drop") HDrop 2
    ∷ form_to (codes "cut") HCut 2 3
    ∷ form_to (codes "heal") HHeal 2 3
    ∷ form (codes "garbage") HGarbage 2
    ∷ form (codes "show") HShow 2
    ∷ form (codes "leave") HLeave 3
    ∷ form_from (codes "expel") HExpel 4
    ∷ form_from (codes "attrs") HAttrs 3
    ∷ form (codes "subscribe") HSubscribe 2
    ∷ form (codes "unsubscribe") HUnsubscribe 2
    ∷ form (codes "goodbye") HGoodbye 1
    ∷ form (codes "mode") HMode 1
    ∷ form (codes "node") HNode 1
    ∷ form (codes "adapter") HAdapter 3
    ∷ form (codes "hb") HHb 2
    ∷ form (codes "port") HPort 1
    ∷ form (codes "level") HLevel 2
    ∷ form (codes "domain") HDomain 1
    ∷ form (codes "begin") HBegin 0
    ∷ []

-- the votes of a client: given by an object, or by the word, which is read anew where they are needed
pub data Votes : Type 0 where
  Boxed : Votes
  Scripted : (word : List ℕ) → Votes

unfoldable pub scripted : List ℕ → Option Votes
scripted w = do
  items ← votes_word w
  Some (Scripted w)

unfoldable pub client_votes : List ℕ → Option Votes
client_votes w = elim (bytes_eq w (codes "boxed")) [ true ↦ Some Boxed | false ↦ scripted w ]

-- a line whose words are read: a setting, `begin`, a line that names these nodes, a client's line, or a call of a client
pub data Said : Type 0 where
  SaysMode : (mode : Mode) → Said
  SaysNode : (node : ℕ) → Said
  SaysAdapter : (node network address : ℕ) → Said
  SaysHb : (every misses : ℕ) → Said
  SaysPort : (port : ℕ) → Said
  SaysLevel : (node inc : ℕ) → Said
  SaysDomain : (domain : ℕ) → Said
  SaysBegin : Said
  SaysLine : (nodes : List ℕ) (line : Line) → Said
  SaysClient : (node : ℕ) (name : List ℕ) (votes : Votes) → Said
  SaysCall : (client : List ℕ) (call : CallLine) → Said

unfoldable pub says_one : (ℕ → Said) → Option ℕ → Option Said
says_one f None = None
says_one f (Some n) = Some (f n)

-- an event of one node
unfoldable pub says_event : (ℕ → Event) → List ℕ → Option Said
says_event f w = says_one (λ n. SaysLine (n ∷ []) (line.Plain (f n))) (node_word w)

unfoldable pub says_two : (ℕ → ℕ → Line) → List ℕ → List ℕ → Option Said
says_two f a b = do
  n ← node_word a
  m ← node_word b
  Some (SaysLine (n ∷ m ∷ []) (f n m))

unfoldable pub says_call : (List ℕ → List ℕ → CallLine) → List ℕ → List ℕ → Option Said
says_call make c g = do
  client ← client_word c
  group ← group_word g
  Some (SaysCall client (make client group))

-- what a line's words after the first say; no answer is a bad word
unfoldable pub said : Head → List (List ℕ) → Option Said
said HMode (w ∷ []) = do
  m ← mode_word w
  Some (SaysMode m)
said HNode (w ∷ []) = says_one SaysNode (node_word w)
said HAdapter (a ∷ b ∷ c ∷ []) = do
  n ← node_word a
  network ← network_word b
  address ← address_word c
  Some (SaysAdapter n network address)
said HHb (a ∷ b ∷ []) = do
  f ← number_word 1 100 a
  s ← number_word 2 100 b
  Some (SaysHb f s)
said HPort (w ∷ []) = says_one SaysPort (number_word 1 65000 w)
said HLevel (a ∷ b ∷ []) = do
  n ← node_word a
  j ← number_word 1 last_u32 b
  Some (SaysLevel n j)
said HDomain (w ∷ []) = says_one SaysDomain (number_word 1 last_u32 w)
said HBegin [] = Some SaysBegin
said HStart (w ∷ []) = says_event event.Start w
said HStop (w ∷ []) = says_event event.Stop w
said HTick (w ∷ []) = says_event event.Tick w
said HAsk (w ∷ ws) = do
  n ← node_word w
  ms ← each_read node_word ws
  Some (SaysLine (n ∷ ms) (line.Plain (event.Ask n (fold with_node no_nodes ms))))
said HRun (w ∷ []) = says_one (λ k. SaysLine [] (line.Run k)) (number_word 1 10000 w)
said HDeliver (a ∷ b ∷ c ∷ []) = do
  k ← number_word 0 last_u32 c
  says_two (λ n m. line.Plain (event.Deliver n m k)) a b
said HDrop (a ∷ b ∷ []) = says_two line.Drop a b
said HFlow [] = Some (SaysLine [] line.Flow)
said HCut (a ∷ b ∷ []) = says_two (λ n m. line.Cut n m None) a b
said HCut (a ∷ b ∷ c ∷ []) = do
  network ← network_word c
  says_two (λ n m. line.Cut n m (Some network)) a b
said HHeal (a ∷ b ∷ []) = says_two (λ n m. line.Heal n m None) a b
said HHeal (a ∷ b ∷ c ∷ []) = do
  network ← network_word c
  says_two (λ n m. line.Heal n m (Some network)) a b
said HGarbage (a ∷ b ∷ []) = do
  bytes ← hex_word b
  says_event (λ n. event.Garbage n bytes) a
said HShow (a ∷ b ∷ []) = do
  what ← what_word b
  says_event (λ n. event.Show n what) a
said HClient (a ∷ b ∷ c ∷ []) = do
  n ← node_word a
  name ← client_word b
  votes ← client_votes c
  Some (SaysClient n name votes)
said HJoin (c ∷ g ∷ i ∷ ws) = do
  instance ← number_word 0 65535 i
  attrs ← attr_words ws
  says_call (λ client group. call.Join client group instance attrs) c g
said HLeave (c ∷ g ∷ ph ∷ []) = do
  phases ← phases_word ph
  says_call (λ client group. call.Leave client group phases) c g
said HExpel (c ∷ g ∷ ph ∷ ws) = do
  phases ← phases_word ph
  out ← each_read provider_word ws
  says_call (λ client group. call.Expel client group phases out) c g
said HState (c ∷ g ∷ ph ∷ t ∷ []) = do
  phases ← phases_word ph
  value ← text_word t
  says_call (λ client group. call.ChangeState client group phases value) c g
said HMessage (c ∷ g ∷ ph ∷ t ∷ []) = do
  phases ← phases_word ph
  bytes ← text_word t
  says_call (λ client group. call.SendMessage client group phases bytes) c g
said HAttrs (c ∷ g ∷ ph ∷ ws) = do
  phases ← phases_word ph
  attrs ← attr_words ws
  says_call (λ client group. call.ChangeAttributes client group phases attrs) c g
said HVote (c ∷ g ∷ v ∷ []) = do
  item ← vote_word v
  says_call (λ client group. call.Vote client group item.vote item.value) c g
said HSubscribe (c ∷ g ∷ []) = says_call call.Subscribe c g
said HUnsubscribe (c ∷ g ∷ []) = says_call call.Unsubscribe c g
said HGoodbye (c ∷ []) = do
  client ← client_word c
  Some (SaysCall client (call.Goodbye client))
said _ _ = None

-- opens each word of this file, for a computation
unfoldable pub lines_opens : Unit {0}
unfolding form form_from form_to forms scripted client_votes says_one says_event says_two says_call said
lines_opens = tt
