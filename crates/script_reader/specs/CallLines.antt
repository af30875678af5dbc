-- A call of a client, read by itself.
use Rattle.std.specs.Prelude.{ℕ, true, false, List, [], ◌∷◌, length, Option, Some, None, nat_lt}
use Rattle.std.specs.List.{list_any}
use Rattle.node_state.specs.declared.call.CallLine.{CallLine}
use Rattle.node_state.specs.declared.call.CallLine.TheVariants as call
use Rattle.value_words.specs.Words.{chosen, words_in}
use Rattle.world_model.specs.Lines.{Form, forms, Said, SaysClient, SaysCall, said}
use Rattle.world_model.specs.Reading.{votes_said, is_extra, is_comment, is_bad_byte}

-- the call that a line says, if it says one
abbrev pub call_in : Said → Option CallLine
call_in (SaysClient node name votes) = Some (call.Init node name (votes_said votes))
call_in (SaysCall client c) = Some c
call_in _ = None

abbrev pub call_said : Option Said → Option CallLine
call_said None = None
call_said (Some x) = call_in x

-- the words after the first one
unfoldable pub call_counted : Form → List (List ℕ) → Option CallLine
call_counted f ws =
    elim (nat_lt (length ws) f.least) [
      | true ↦ None
      | false ↦ elim (is_extra (length ws) f.most) [ true ↦ None | false ↦ call_said (said f.head ws) ]
    ]

abbrev pub call_formed : List (List ℕ) → Option Form → Option CallLine
call_formed ws None = None
call_formed ws (Some f) = call_counted f ws

unfoldable pub call_worded : List (List ℕ) → Option CallLine
call_worded [] = None
call_worded (w ∷ ws) = call_formed ws (chosen forms w)

-- the call that these bytes spell, as a line of a script without its line feed, whoever its client is
unfoldable pub call_of : List ℕ → Option CallLine
call_of line =
    elim (list_any is_bad_byte line) [ true ↦ None | false ↦ elim (is_comment line) [ true ↦ None | false ↦ call_worded (words_in line) ] ]

-- opens each word of this file, for a computation
unfoldable pub call_lines_opens : Unit {0}
unfolding call_counted call_worded call_of
call_lines_opens = tt
