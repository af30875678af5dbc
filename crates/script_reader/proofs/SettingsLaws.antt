-- What is read as settings keeps their rules.
use Rattle.std.proofs.Common.{ℕ, List, Option, Result, Ok, Err, IfOk}
use Rattle.world_model.specs.declared.script.Script.{Script}
use Rattle.world_model.specs.Settings.{daemon_script, aim_of, KeepsFor, HasTexts}
use Rattle.world_model.proofs.SettingsLaws.{settings_fit, has_texts}
use Rattle.script_reader.specs.declared.faults.ScriptFault.{ScriptFault}
use Rattle.script_reader.specs.Reading.{GivesScript}

pub keeps_for : (me : ℕ) (objects : Option ℕ) (bytes : List ℕ) (r : Result Script ScriptFault) → GivesScript r (daemon_script me objects bytes) → IfOk r (KeepsFor me objects)
keeps_for me objects bytes (Ok s) h = settings_fit me objects bytes s h
keeps_for me objects bytes (Err e) h = tt

pub keeps_texts : (me : ℕ) (objects : Option ℕ) (bytes : List ℕ) (r : Result Script ScriptFault) → GivesScript r (daemon_script me objects bytes) → IfOk r HasTexts
unfolding daemon_script
keeps_texts me objects bytes (Ok s) h = has_texts (aim_of me objects) bytes s h
keeps_texts me objects bytes (Err e) h = tt
