-- The lines of records: what each of them shows, the latest first.
use Rattle.std.specs.Prelude.{ℕ, true, List, [], ◌∷◌, ◌++◌, Option, Some, codes, decimal}
use Rattle.rsct_packet.specs.Mask.{nodes_of}
use Rattle.client_callbacks.specs.declared.told.Told.{Told}
use Rattle.client_callbacks.specs.declared.told.Told.TheVariants as told
use Rattle.value_words.specs.Wording.{word}
use Rattle.word_laws.specs.Entries.{kind_of}
use Rattle.record_lines.specs.declared.line.Line.{Line}
use Rattle.record_lines.specs.declared.line.Line.TheVariants as line
use Rattle.record_lines.specs.declared.line.Note.{Note}
use Rattle.record_lines.specs.declared.line.Note.TheVariants as note
use Rattle.record_lines.specs.declared.line.Status.{Status}
use Rattle.record_lines.specs.declared.line.Status.TheVariants as status
use Rattle.record_lines.specs.Reading.{line_read}
use Rattle.node_state.specs.declared.happened.Happened.{Happened}
use Rattle.node_state.specs.declared.happened.Happened.TheVariants as happened
use Rattle.line_laws.specs.Shown.{entry_shown, what_shown, base_shown, fault_shown}

-- a refusal is no note: some other one stands for it
unfoldable pub note_of : Told → Note
note_of (told.Note group members value) = note.Group group members value
note_of (told.Hosts view nodes) = note.Hosts nodes
note_of (told.Refused p r why) = note.Hosts []

-- a status that was asked for, as its line is read; one of no view where that is none
unfoldable pub status_in : Option Line → Status
status_in (Some (line.Show n s)) = s
status_in _ = status.View (record { number = 0; coord = 0; inc = 0 }) [] true

unfoldable pub status_of : ℕ → List ℕ → Status
status_of n bytes = status_in (line_read (codes "show " ++ word (decimal n) ++ bytes))

-- the line of a record
unfoldable pub shown : Happened → Line
shown (happened.Up n j) = line.Up n j
shown (happened.Down n) = line.Down n
shown (happened.Ring n net id members m) = line.Ring n net id (nodes_of members) m
shown (happened.In n v ms) = line.In n v ms
shown (happened.Base n v g old len s) = line.Base n v g (base_shown old len s)
shown (happened.Put n v g i e) = line.Put n v g i (entry_shown e)
shown (happened.Heard p v g i e ms value) = line.Heard p v g i (what_shown e) ms value
shown (happened.Cast p proto phase vote value message) = line.Cast p proto phase vote value
shown (happened.Asked p r g x) = line.Asked p r g (kind_of x)
shown (happened.Told p r why) = line.Told p r why
shown (happened.Noted n c v place t) = line.Noted n c v place (note_of t)
shown (happened.Refused n c f) = line.Refused n c (fault_shown f)
shown (happened.Shown n bytes) = line.Show n (status_of n bytes)

unfoldable pub lines : List Happened → List Line
lines [] = []
lines (r ∷ rs) = shown r ∷ lines rs
