-- Why a script is not read.
use Rattle.std.specs.Prelude.{ℕ}
use Rattle.script_reader.specs.declared.faults.LineFault.{LineFault}
use Rattle.script_reader.specs.declared.faults.LineFault.TheVariants as line_fault
use Rattle.script_reader.specs.declared.faults.ScriptFault.{ScriptFault}
use Rattle.script_reader.specs.declared.faults.ScriptFault.TheVariants as script_fault

abbrev pub fault_at : ℕ → LineFault → ScriptFault
fault_at number (line_fault.Bad why) = script_fault.Line number why
fault_at number line_fault.NoMemory = script_fault.NoMemory
