-- The input of a client: settings, and the calls of one client.
use Rattle.std.specs.Prelude.{ℕ, ◌+◌, Bool, true, false, not, ◌&&◌, ◌==◌, nat_lt, List, [], ◌∷◌, length, codes, Option, Some, None, slice_get, if◌then◌else◌}
use Rattle.std.specs.Str.{bytes_eq}
use Rattle.rsct_packet.specs.Lists.{is_empty, reverse_onto}
use Rattle.node_state.specs.declared.call.CallLine.TheVariants as call
use Rattle.world_model.specs.declared.event.Event.TheVariants as event
use Rattle.world_model.specs.declared.script.Aim.{Aim}
use Rattle.world_model.specs.declared.script.Aim.TheVariants.{Asks}
use Rattle.world_model.specs.declared.script.Line.{Line}
use Rattle.world_model.specs.declared.script.Line.TheVariants as line
use Rattle.world_model.specs.declared.script.LineWhy.{LineWhy}
use Rattle.world_model.specs.declared.script.LineWhy.TheVariants.{Long, OutOfPlace, IsAPacket}
use Rattle.value_words.specs.Words.{split_on, words_in}
use Rattle.remote_session.specs.Messages.{max_line}
use Rattle.world_model.specs.Reading.{Reading, Read, Good, Bad, ScriptRead, IsNone, is_comment, read_line, nothing_read, at_end, input_limit}

-- a line of words that is longer than what is handed on may be
unfoldable pub is_long : List ℕ → Bool
is_long bytes = nat_lt max_line (length bytes) && (not (is_comment bytes) && not (is_empty (words_in bytes)))

-- the first line makes the client, which votes by calls alone; the others are its calls
abbrev pub is_handed_on : Bool → Line → Bool
is_handed_on first (line.Plain (event.Call n (call.Init node name votes))) = first && bytes_eq votes (codes "-")
is_handed_on first (line.Plain (event.Call n c)) = not first
is_handed_on first _ = false

abbrev pub fits_line : Bool → Option Line → Bool
fits_line first None = true
fits_line first (Some l) = is_handed_on first l

-- what was read last, where it is a line more than so many, is handed on
unfoldable pub fits_client : Reading → ℕ → Bool
fits_client q before = fits_line (before == 0) (slice_get (reverse_onto q.lines []) before)

-- garbage that is a packet has no place either
unfoldable pub misplaced_why : LineWhy → LineWhy
misplaced_why IsAPacket = OutOfPlace
misplaced_why why = why

abbrev pub judged : ℕ → Read → Read
judged before (Good q) = if fits_client q before then Good q else Bad OutOfPlace
judged before (Bad why) = Bad (misplaced_why why)

-- a line within the limit of an input
unfoldable pub client_line : Reading → Bool → List ℕ → Read
client_line r whole bytes = if r.begun && is_long bytes then Bad Long else judged (length r.lines) (read_line r whole false bytes)

-- a line within the limit, of a script or of the input of a client
abbrev pub line_within : Bool → Reading → Bool → List ℕ → Read
line_within true r whole bytes = client_line r whole bytes
line_within false r whole bytes = read_line r whole false bytes

-- long: it passes the limit of an input
unfoldable pub line_by : Bool → Reading → Bool → Bool → List ℕ → Read
line_by calls r whole true bytes = Bad Long
line_by calls r whole false bytes = line_within calls r whole bytes

-- lines from number n on, at place i of the input; the last piece is what follows the last line feed
unfoldable pub lines_from : Bool → Reading → ℕ → ℕ → List (List ℕ) → ScriptRead
lines_from calls r n i [] = at_end r n
lines_from calls r n i (b ∷ bs) =
    elim (is_empty bs) [
      | true ↦ elim (is_empty b) [
        | true ↦ at_end r n
        | false ↦ elim (line_by calls r false (nat_lt input_limit (i + length b)) b) [ Good q ↦ at_end q n | Bad why ↦ IsNone n why ]
      ]
      | false ↦ elim (line_by calls r true (nat_lt input_limit (i + length b + 1)) b) [
        | Good q ↦ lines_from calls q (n + 1) (i + length b + 1) bs
        | Bad why ↦ IsNone n why
      ]
    ]

unfoldable pub lines_for : Bool → Aim → List ℕ → ScriptRead
lines_for calls aim bytes = lines_from calls (nothing_read aim) 1 0 (split_on 10 bytes)

-- the input of a client of this node
unfoldable pub client_script : ℕ → List ℕ → ScriptRead
client_script me bytes = lines_for true (Asks me) bytes

-- opens each word of this file, for a computation
unfoldable pub client_script_opens : Unit {0}
unfolding is_long fits_client misplaced_why client_line line_by lines_from lines_for client_script
client_script_opens = tt
