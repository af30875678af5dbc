-- Scripts that are read as the settings of one node: what they say besides, and what its clients call.
use Rattle.std.specs.Prelude.{ℕ, Bool, true, false, not, ◌≡◌, ◌≤◌, ◌==◌, ◌&&◌, ◌||◌, ◌+◌, List, [], ◌∷◌, length, filter, flat_map, slice_get, Option, Some, None, is_some, if◌then◌else◌}
use Rattle.std.specs.List.{list_all}
use Rattle.std.specs.Str.{bytes_eq}
use Rattle.rsct_packet.specs.Mask.{has_node}
use Rattle.client_callbacks.specs.Votes.{votes_word}
use Rattle.node_state.specs.declared.call.CallLine.{CallLine}
use Rattle.node_state.specs.declared.call.CallLine.TheVariants.{Init}
use Rattle.node_state.specs.declared.config.Mode.TheVariants.{Rings}
use Rattle.world_model.specs.declared.event.Event.TheVariants.{Call}
use Rattle.world_model.specs.declared.script.Aim.{Aim}
use Rattle.world_model.specs.declared.script.Aim.TheVariants.{Serves, Asks}
use Rattle.world_model.specs.declared.script.Line.{Line}
use Rattle.world_model.specs.declared.script.Line.TheVariants.{Plain}
use Rattle.world_model.specs.declared.script.Script.{Script}
use Rattle.world_model.specs.Reading.{ScriptRead, read_for, is_carried, boxed_word, all_share}

-- ---- what is read

-- with so many objects for a daemon of this node; with none, to ask the node
unfoldable pub aim_of : ℕ → Option ℕ → Aim
aim_of me (Some objects) = Serves me objects
aim_of me None = Asks me

unfoldable pub daemon_script : ℕ → Option ℕ → List ℕ → ScriptRead
daemon_script me objects bytes = read_for (aim_of me objects) bytes

-- ---- the calls of a script

-- a call and the node of its client
abbrev pub Placed : Type 0
Placed = ℕ × CallLine

unfoldable pub calls_on : Line → List Placed
calls_on (Plain (Call n c)) = (n, c) ∷ []
calls_on _ = []

-- those of its lines that are calls
unfoldable pub calls_of : Script → List Placed
calls_of s = flat_map calls_on s.lines

unfoldable pub call_at : Script → ℕ → Option Placed
call_at s i = slice_get (calls_of s) i

unfoldable pub text_at : Script → ℕ → Option (List ℕ)
text_at s i = slice_get s.texts i

unfoldable pub own_on : ℕ → Line → List CallLine
own_on me (Plain (Call n c)) = if n == me then c ∷ [] else []
own_on me _ = []

-- those of the clients of a node
unfoldable pub own_calls : ℕ → Script → List CallLine
own_calls me s = flat_map (own_on me) s.lines

-- a client whose votes an object gives
unfoldable pub is_boxed : CallLine → Bool
is_boxed (Init n name votes) = bytes_eq votes boxed_word
is_boxed _ = false

unfoldable pub boxed_on : ℕ → Line → List CallLine
boxed_on me l = filter is_boxed (own_on me l)

-- those of a node, in order: the k-th one takes the k-th object
unfoldable pub own_boxed : ℕ → Script → List CallLine
own_boxed me s = flat_map (boxed_on me) s.lines

-- ---- what settings keep

-- a client is one of the node of its line, and its votes are a word of votes
unfoldable pub is_placed : ℕ → CallLine → Bool
is_placed n (Init m name votes) = n == m && (bytes_eq votes boxed_word || is_some (votes_word votes))
is_placed n _ = true

-- a call, and for an own client one that a daemon carries out
unfoldable pub may_serve : ℕ → Line → Bool
may_serve me (Plain (Call n c)) = is_placed n c && (not (n == me) || is_carried c)
may_serve me _ = false

-- the settings are such that the node may run or be asked: it is one of them, in mode rings; any two share a network, so it has one
-- itself; and the port of each node is one
pub record FitsNode (s : Script) (me : ℕ) : Type 0 where
  pub own : has_node s.config.nodes me ≡ true
  pub rings : s.config.mode ≡ Rings
  pub begun : s.begun ≡ true
  pub shared : all_share s.config ≡ true
  pub ports : s.config.port + 32 ≤ 65535

-- and a daemon of it, with so many objects, may carry out its lines
pub record KeepsRules (s : Script) (me objects : ℕ) : Type 0 where
  pub fits : FitsNode s me
  pub calls : list_all (may_serve me) s.lines ≡ true
  pub boxed : length (own_boxed me s) ≤ objects

-- of a script that is read as settings, with so many objects or with none
abbrev pub KeepsFor : ℕ → Option ℕ → Script → Type 0
KeepsFor me (Some objects) s = KeepsRules s me objects
KeepsFor me None s = FitsNode s me

-- the bytes of each call are there
abbrev pub HasTexts : Script → Type 0
HasTexts s = length s.texts ≡ length (calls_of s)

-- opens each word of this file, for a computation
unfoldable pub settings_read_opens : Unit {0}
unfolding aim_of daemon_script calls_on calls_of call_at text_at own_on own_calls is_boxed boxed_on own_boxed is_placed may_serve
settings_read_opens = tt
