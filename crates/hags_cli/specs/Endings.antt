-- What each fault below makes of a call, and what is said of it.
use Rattle.std.specs.Prelude.{ℕ, ◌==◌, List, [], ◌∷◌, ◌⊎◌, ◌++◌, codes, Option, if◌then◌else◌}
use Rattle.std.specs.Io.KnownBytes.{Appends, Keeps}
use Rattle.hags_io.specs.Edges.{GrowsByFront, Rose}
use Rattle.world_model.specs.Reading.{IsNone}
use Rattle.world_model.specs.Play.{written}
use Rattle.play_state.specs.declared.play_fault.PlayFault.{PlayFault}
use Rattle.play_state.specs.declared.play_fault.PlayFault.TheVariants as play_fault
use Rattle.script_reader.specs.declared.faults.ScriptFault.{ScriptFault}
use Rattle.script_reader.specs.declared.faults.ScriptFault.TheVariants as script_fault
use Rattle.link_use.specs.declared.stop.Stop.TheVariants as stop
use Rattle.hags_cli.specs.declared.ending.Ending.{Ending}
use Rattle.hags_cli.specs.declared.ending.Ending.TheVariants as ending
use Rattle.hags_cli.specs.declared.input.InputFault.{InputFault}
use Rattle.hags_cli.specs.declared.input.InputFault.TheVariants as input_fault

-- ---- as faults below say

abbrev pub ending_of_input : InputFault → Ending
ending_of_input input_fault.ReadFault = ending.ReadFault
ending_of_input input_fault.NoMemory = ending.Stop stop.NoMemory

abbrev pub ending_of_script : ScriptFault → Ending
ending_of_script (script_fault.Line number why) = ending.BadLine number why
ending_of_script script_fault.NoMemory = ending.Stop stop.NoMemory

abbrev pub ending_of_play : PlayFault → Ending
ending_of_play (play_fault.Kept sum) = ending.TooMuchKept
ending_of_play play_fault.WriteFault = ending.Stop stop.WriteFault
ending_of_play play_fault.NoMemory = ending.Stop stop.NoMemory

-- ---- the status, and what is said

abbrev pub status_of : Ending → ℕ
status_of ending.Usage = 1
status_of (ending.BadLine n why) = 2
status_of (ending.Stop stop.NoMemory) = 3
status_of ending.ReadFault = 4
status_of (ending.Stop stop.WriteFault) = 5
status_of (ending.Stop stop.LinkFault) = 6
status_of ending.TooMuchKept = 7
status_of (ending.Stop stop.NoReply) = 9
status_of (ending.Stop stop.SessionLost) = 10
status_of (ending.Stop stop.DaemonFull) = 11
status_of (ending.Stop stop.Paused) = 12

-- the whole text was said; or nothing, where there was no memory for it; or a front of it, where the sink failed
abbrev pub Says : ℕ → ℕ → Option (List ℕ) → Option (List ℕ) → List ℕ → Type 0
Says faults later old new text = Appends old new text ⊎ (Keeps old new ⊎ (Rose faults later × GrowsByFront old new text))

abbrev pub line_of : List ℕ → List ℕ
line_of text = text ++ 10 ∷ []

-- what is said on err, by status; that of a bad line is its own
abbrev pub said_of : ℕ → List ℕ
said_of status =
    if status == 1
    then line_of (codes "hags: usage: hags run [--kinds LIST] / load N / daemon --node N [--inc I] [--turns T] / status WHAT --node N [--turns T]")
    else if status == 3 then line_of (codes "hags: no memory")
    else if status == 4 then line_of (codes "hags: read fault")
    else if status == 5 then line_of (codes "hags: write fault")
    else if status == 6 then line_of (codes "hags: link fault")
    else if status == 7 then line_of (codes "hags: too much kept")
    else if status == 9 then line_of (codes "hags: no reply")
    else if status == 10 then line_of (codes "hags: session lost")
    else if status == 11 then line_of (codes "hags: daemon full")
    else if status == 12 then line_of (codes "hags: paused")
    else []

abbrev pub ending_text : Ending → List ℕ
ending_text (ending.BadLine n why) = written [] (IsNone n why)
ending_text e = said_of (status_of e)
