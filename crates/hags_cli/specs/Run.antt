-- How an input is read, and what a run leaves.
use Rattle.std.specs.Prelude.{◌≡◌, ℕ, Bool, List, Option, Some, None, IfSome, Result, Ok, Err, ◌⊎◌}
use Rattle.std.specs.Io.KnownBytes.{Appends, Keeps, IsAtEnd}
use Rattle.hags_io.specs.Edges.{GrowsByFront, Rose}
use Rattle.node_state.specs.declared.happened.Happened.{Happened}
use Rattle.world_model.specs.declared.script.Script.{Script}
use Rattle.world_model.specs.declared.script.Aim.{Aim}
use Rattle.world_model.specs.Reading.{IsScript, IsNone, script_of}
use Rattle.script_reader.specs.ClientScript.{lines_for}
use Rattle.world_model.specs.Play.{script_records}
use Rattle.world_model.specs.Kept.{kept_past, kept_records, most_kept}
use Rattle.net_script.specs.PlaySafe.{ScriptIsSafe, KeptRunIsSafe}
use Rattle.link_use.specs.declared.stop.Stop.TheVariants as stop
use Rattle.hags_cli.specs.declared.ending.Ending.{Ending}
use Rattle.hags_cli.specs.declared.ending.Ending.TheVariants as ending
use Rattle.hags_cli.specs.declared.input.InputFault.{InputFault}
use Rattle.hags_cli.specs.declared.input.InputFault.TheVariants as input_fault

-- an input is read as this front of it is, for whatever it is read, as a script or as the calls of a client
abbrev pub ReadsAs : List ℕ → List ℕ → Type 0
ReadsAs front b = (calls : Bool) (aim : Aim) → lines_for calls aim b ≡ lines_for calls aim front

-- the input is a script, its packets are within the limit, and what is shown of its records was written, which are those
-- of a safe run
pub record PlaysAll (shown : List Happened → List ℕ) (old new : Option (List ℕ)) (b : List ℕ) : Type 0 where
  pub script : Script
  pub spelled : script_of b ≡ IsScript script
  pub within : kept_past most_kept script ≡ None
  pub written : Appends old new (shown (script_records script))
  pub safe : ScriptIsSafe script

-- the input is a script, its packets pass the limit, and what is shown of the records before that was written: those of
-- a safe run
pub record PlaysPast (shown : List Happened → List ℕ) (old new : Option (List ℕ)) (b : List ℕ) : Type 0 where
  pub script : Script
  pub spelled : script_of b ≡ IsScript script
  pub sum : ℕ
  pub past : kept_past most_kept script ≡ Some sum
  pub written : Appends old new (shown (kept_records most_kept script))
  pub safe : KeptRunIsSafe most_kept script

-- the input is a script, and a front of what is shown of its records within the limit was written: those of a safe run
pub record PlaysFront (shown : List Happened → List ℕ) (old new : Option (List ℕ)) (b : List ℕ) : Type 0 where
  pub script : Script
  pub spelled : script_of b ≡ IsScript script
  pub written : GrowsByFront old new (shown (kept_records most_kept script))
  pub safe : KeptRunIsSafe most_kept script

-- nothing was written, or the input is a script and a front of its text was
abbrev pub MayHavePlayed : (List Happened → List ℕ) → Option (List ℕ) → Option (List ℕ) → List ℕ → Type 0
MayHavePlayed shown old new b = Keeps old new ⊎ PlaysFront shown old new b

-- the source tells what is left, and it is a script
abbrev pub SpellsScript : Option (List ℕ) → Type 0
SpellsScript None = ⊥
SpellsScript (Some b) = (s : Script) × (script_of b ≡ IsScript s)

-- how an input was not read
abbrev pub InputFails : ℕ → ℕ → InputFault → Type 0
InputFails reads reads_now input_fault.ReadFault = Rose reads reads_now
InputFails reads reads_now input_fault.NoMemory = Unit {0}

-- What a run leaves of its input and its output, by how it ends: where it failed to read or to write, this holds of the faults;
-- and where it did not begin to play, this, of its output as a whole.
abbrev pub RunEnds : Result (Unit {0}) Ending → (List Happened → List ℕ) → (left rest : Option (List ℕ)) → (read_failed write_failed still : Type 0) → (old new : Option (List ℕ)) → Type 0
RunEnds (Ok u) shown left rest read_failed write_failed still old new = IfSome left (PlaysAll shown old new) × IsAtEnd rest
RunEnds (Err (ending.BadLine n why)) shown left rest read_failed write_failed still old new = IfSome left (λ b. script_of b ≡ IsNone n why) × still
RunEnds (Err (ending.Stop stop.NoMemory)) shown left rest read_failed write_failed still old new = IfSome left (MayHavePlayed shown old new)
RunEnds (Err ending.ReadFault) shown left rest read_failed write_failed still old new = read_failed × still
RunEnds (Err (ending.Stop stop.WriteFault)) shown left rest read_failed write_failed still old new = write_failed × IfSome left (PlaysFront shown old new)
RunEnds (Err ending.TooMuchKept) shown left rest read_failed write_failed still old new = IfSome left (PlaysPast shown old new)
RunEnds (Err e) shown left rest read_failed write_failed still old new = ⊥
