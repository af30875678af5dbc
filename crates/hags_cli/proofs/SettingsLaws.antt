-- Settings that are read, and that are not.
use Rattle.std.proofs.Common.{◌≡◌, ℕ, ◌≤◌, ◌+◌, List, length, Option, Some, None, IfSome, sym, ◌∙◌, ap, subst}
use Rattle.std.specs.Io.KnownBytes.{IsAtEnd}
use Rattle.world_model.specs.declared.script.LineWhy.{LineWhy}
use Rattle.world_model.specs.declared.script.Script.{Script}
use Rattle.world_model.specs.Reading.{IsScript, IsNone, input_limit}
use Rattle.world_model.specs.Settings.{aim_of, daemon_script, KeepsFor}
use Rattle.settings_digest.specs.Digest.{settings_digest}
use Rattle.script_reader.specs.Reading.{FailsScript}
use Rattle.script_reader.specs.declared.faults.ScriptFault.{ScriptFault}
use Rattle.script_reader.specs.declared.faults.ScriptFault.TheVariants as script_fault
use Rattle.hags_cli.specs.declared.ending.Ending.{Ending}
use Rattle.hags_cli.specs.declared.input.InputFault.{InputFault}
use Rattle.hags_cli.specs.declared.input.InputFault.TheVariants as input_fault
use Rattle.hags_cli.specs.Endings.{ending_of_input, ending_of_script}
use Rattle.hags_cli.specs.Run.{ReadsAs, InputFails}
use Rattle.hags_cli.specs.Tasks.{SettingsEnd}
use Rattle.hags_cli.proofs.LongInputs.{reads_for, read_within}

pub settings_have : (left : Option (List ℕ)) (front : List ℕ) (node : ℕ) (objects : Option ℕ) (s : Script) → IfSome left (ReadsAs front) → daemon_script node objects front ≡ IsScript s → IfSome left (λ b. daemon_script node objects b ≡ IsScript s)
unfolding daemon_script
settings_have None front node objects s h e = tt
settings_have (Some b) front node objects s h e = reads_for front b h (aim_of node objects) ∙ e

settings_end : (left : Option (List ℕ)) (front : List ℕ) (node : ℕ) (objects : Option ℕ) (n : ℕ) (why : LineWhy) → IfSome left (ReadsAs front) → daemon_script node objects front ≡ IsNone n why → IfSome left (λ b. daemon_script node objects b ≡ IsNone n why)
unfolding daemon_script
settings_end None front node objects n why h e = tt
settings_end (Some b) front node objects n why h e = reads_for front b h (aim_of node objects) ∙ e

-- and the digest is that of all
pub digest_is : (left : Option (List ℕ)) (front : List ℕ) (digest node : ℕ) (objects : Option ℕ) (s : Script) → (length front ≤ input_limit → IfSome left (λ b. b ≡ front)) → daemon_script node objects front ≡ IsScript s → digest ≡ settings_digest front
    → IfSome left (λ b. digest ≡ settings_digest b)
unfolding daemon_script
digest_is left front digest node objects s whole e is = by left (whole (read_within (aim_of node objects) front s e))
  where
    by : (left : Option (List ℕ)) → IfSome left (λ b. b ≡ front) → IfSome left (λ b. digest ≡ settings_digest b)
    by None h = tt
    by (Some b) h = is ∙ ap settings_digest (sym h)

-- ---- how the command ends where they are not read

pub input_ends : (node : ℕ) (objects : Option ℕ) (left : Option (List ℕ)) (reads reads_now : ℕ) (f : InputFault) (e : Ending) → e ≡ ending_of_input f → InputFails reads reads_now f → SettingsEnd node objects left reads reads_now e
input_ends node objects left reads reads_now f e is h = subst (λ (z : Ending). SettingsEnd node objects left reads reads_now z) (sym is) (by f h)
  where
    by : (f : InputFault) → InputFails reads reads_now f → SettingsEnd node objects left reads reads_now (ending_of_input f)
    by input_fault.ReadFault h = h
    by input_fault.NoMemory h = tt

pub script_ends : (node : ℕ) (objects : Option ℕ) (left : Option (List ℕ)) (reads reads_now : ℕ) (front : List ℕ) (f : ScriptFault) (e : Ending) → e ≡ ending_of_script f → IfSome left (ReadsAs front) → FailsScript f (daemon_script node objects front)
    → SettingsEnd node objects left reads reads_now e
script_ends node objects left reads reads_now front f e is whole h = subst (λ (z : Ending). SettingsEnd node objects left reads reads_now z) (sym is) (by f h)
  where
    by : (f : ScriptFault) → FailsScript f (daemon_script node objects front) → SettingsEnd node objects left reads reads_now (ending_of_script f)
    by (script_fault.Line number why) h = settings_end left front node objects number why whole h
    by script_fault.NoMemory h = tt

-- settings are within the limit, so all was read
pub settings_are : (new : Option (List ℕ)) (front : List ℕ) (node : ℕ) (objects : Option ℕ) (s : Script) → (length front ≤ input_limit → IsAtEnd new) → daemon_script node objects front ≡ IsScript s → IsAtEnd new
unfolding daemon_script
settings_are new front node objects s h e = h (read_within (aim_of node objects) front s e)

pub has_ports : (node : ℕ) (objects : Option ℕ) (s : Script) → KeepsFor node objects s → s.config.port + 32 ≤ 65535
has_ports node (Some n) s h = h.fits.ports
has_ports node None s h = h.ports
