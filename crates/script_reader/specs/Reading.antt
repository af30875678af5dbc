-- What has been read, as the grammar sees it.
use Rattle.std.specs.Prelude.{◌≡◌, Result, Ok, Err}
use Rattle.world_model.specs.declared.script.Script.{Script}
use Rattle.world_model.specs.Reading.{Reading, Read, Good, Bad, ScriptRead, IsScript, IsNone}
use Rattle.script_reader.specs.declared.progress.ReadSoFar.{ReadSoFar}
use Rattle.script_reader.specs.declared.faults.LineFault.{LineFault}
use Rattle.script_reader.specs.declared.faults.LineFault.TheVariants as line_fault
use Rattle.script_reader.specs.declared.faults.ScriptFault.{ScriptFault}
use Rattle.script_reader.specs.declared.faults.ScriptFault.TheVariants as script_fault
use Rattle.script_reader.specs.Clients.{newest_first}

abbrev pub reading_seen : ReadSoFar → Reading
reading_seen r =
    record {
      aim = r.aim;
      config = r.config;
      has_mode = r.has_mode;
      has_adapter = r.has_adapter;
      has_hb = r.has_hb;
      has_port = r.has_port;
      has_domain = r.has_domain;
      begun = r.begun;
      left = r.left;
      clients = r.clients;
      lines = newest_first (λ l. l) r.lines;
      texts = newest_first (λ t. t) r.texts;
      has_call = r.has_call;
    }

abbrev pub FailsLine : LineFault → Read → Type 0
FailsLine (line_fault.Bad why) read = read ≡ Bad why
FailsLine line_fault.NoMemory read = Unit {0}

-- what is read of a line, after it
abbrev pub GivesLine : {U : Type 0} → Result U LineFault → ReadSoFar → Read → Type 0
GivesLine (Ok u) r read = read ≡ Good (reading_seen r)
GivesLine (Err e) r read = FailsLine e read

abbrev pub FailsScript : ScriptFault → ScriptRead → Type 0
FailsScript (script_fault.Line number why) read = read ≡ IsNone number why
FailsScript script_fault.NoMemory read = Unit {0}

-- a script, or the first line that is in none and the first reason; want of memory says nothing
abbrev pub GivesScript : Result Script ScriptFault → ScriptRead → Type 0
GivesScript (Ok s) read = read ≡ IsScript s
GivesScript (Err e) read = FailsScript e read
