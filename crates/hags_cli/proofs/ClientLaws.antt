-- How a client of a daemon on another machine ends.
use Rattle.std.proofs.Common.{◌≡◌, ℕ, List, length, ◌≤◌, true, Option, Some, None, IfSome, IsErr, IsErrAnd, refl, sym, ◌∙◌, subst, inr}
use Rattle.std.specs.Prelude.{Result, Ok}
use Rattle.std.specs.Io.KnownBytes.{IsAtEnd}
use Rattle.hags_io.specs.Edges.{Rose}
use Rattle.world_model.specs.declared.script.Aim.TheVariants.{Asks}
use Rattle.world_model.specs.declared.script.LineWhy.{LineWhy}
use Rattle.world_model.specs.declared.script.Script.{Script}
use Rattle.world_model.specs.Reading.{IsScript, IsNone, input_limit}
use Rattle.script_reader.specs.ClientScript.{client_script}
use Rattle.script_reader.specs.Reading.{FailsScript}
use Rattle.script_reader.specs.declared.faults.ScriptFault.{ScriptFault}
use Rattle.script_reader.specs.declared.faults.ScriptFault.TheVariants as script_fault
use Rattle.link_use.specs.declared.stop.Stop.{Stop}
use Rattle.link_use.specs.declared.stop.Stop.TheVariants as stop
use Rattle.link_use.specs.Stops.{StopsClient}
use Rattle.client_run.specs.declared.serving.Usage.{Usage}
use Rattle.hags_cli.specs.declared.ending.Ending.{Ending}
use Rattle.hags_cli.specs.declared.ending.Ending.TheVariants as ending
use Rattle.hags_cli.specs.declared.input.InputFault.{InputFault}
use Rattle.hags_cli.specs.declared.input.InputFault.TheVariants as input_fault
use Rattle.hags_cli.specs.Endings.{ending_of_input, ending_of_script}
use Rattle.hags_cli.specs.Run.{ReadsAs, InputFails}
use Rattle.hags_cli.specs.Tasks.{uses, Seen, Untouched, CallsEnd, UsesBy, UsesOver, UsesAll, WaitsOn, LosesSession, FindsFull, UsesPart, UsesNoMore, FailsAs, EndsAs}
use Rattle.hags_cli.proofs.EndLaws.{ended_by}
use Rattle.hags_cli.proofs.LongInputs.{script_within_for}
use Rattle.hags_cli.proofs.TaskLaws.{keeps_same, memory_ends}

-- ---- what is read

pub calls_have : (left : Option (List ℕ)) (front : List ℕ) (node : ℕ) (s : Script) → IfSome left (ReadsAs front) → client_script node front ≡ IsScript s → IfSome left (λ b. client_script node b ≡ IsScript s)
unfolding client_script
calls_have None front node s h e = tt
calls_have (Some b) front node s h e = h true (Asks node) ∙ e

calls_end : (left : Option (List ℕ)) (front : List ℕ) (node n : ℕ) (why : LineWhy) → IfSome left (ReadsAs front) → client_script node front ≡ IsNone n why → IfSome left (λ b. client_script node b ≡ IsNone n why)
unfolding client_script
calls_end None front node n why h e = tt
calls_end (Some b) front node n why h e = h true (Asks node) ∙ e

pub calls_are : (new : Option (List ℕ)) (front : List ℕ) (node : ℕ) (s : Script) → (length front ≤ input_limit → IsAtEnd new) → client_script node front ≡ IsScript s → IsAtEnd new
unfolding client_script
calls_are new front node s h e = h (script_within_for true (Asks node) front s e)

-- ---- calls that are not read

pub input_ends : (node : ℕ) (left : Option (List ℕ)) (reads reads_now : ℕ) (f : InputFault) (e : Ending) → e ≡ ending_of_input f → InputFails reads reads_now f → CallsEnd node left reads reads_now e
input_ends node left reads reads_now f e is h = subst (λ (z : Ending). CallsEnd node left reads reads_now z) (sym is) (by f h)
  where
    by : (f : InputFault) → InputFails reads reads_now f → CallsEnd node left reads reads_now (ending_of_input f)
    by input_fault.ReadFault h = h
    by input_fault.NoMemory h = tt

pub script_ends : (node : ℕ) (left : Option (List ℕ)) (reads reads_now : ℕ) (front : List ℕ) (f : ScriptFault) (e : Ending) → e ≡ ending_of_script f → IfSome left (ReadsAs front) → FailsScript f (client_script node front)
    → CallsEnd node left reads reads_now e
script_ends node left reads reads_now front f e is whole h = subst (λ (z : Ending). CallsEnd node left reads reads_now z) (sym is) (by f h)
  where
    by : (f : ScriptFault) → FailsScript f (client_script node front) → CallsEnd node left reads reads_now (ending_of_script f)
    by (script_fault.Line number why) h = calls_end left front node number why whole h
    by script_fault.NoMemory h = tt

pub uses_settings : (e : Ending) (u : Usage) (x : Seen) → x.now.held ≡ x.before.held → Untouched x → CallsEnd u.node x.left x.reads x.reads_now e → FailsAs e (Some (uses u)) x
uses_settings ending.Usage u x still touched h = absurd h
uses_settings (ending.BadLine line why) u x still touched h = (h, keeps_same x still, touched)
uses_settings (ending.Stop stop.NoMemory) u x still touched h = memory_ends (Some (uses u)) x still touched
uses_settings ending.ReadFault u x still touched h = (h, keeps_same x still, touched)
uses_settings (ending.Stop stop.WriteFault) u x still touched h = absurd h
uses_settings (ending.Stop stop.LinkFault) u x still touched h = absurd h
uses_settings ending.TooMuchKept u x still touched h = absurd h
uses_settings (ending.Stop stop.NoReply) u x still touched h = absurd h
uses_settings (ending.Stop stop.SessionLost) u x still touched h = absurd h
uses_settings (ending.Stop stop.DaemonFull) u x still touched h = absurd h
uses_settings (ending.Stop stop.Paused) u x still touched h = absurd h

-- ---- a client that ran

module _ (u : Usage) (x : Seen) (s : Script) (spelled : IfSome x.left (λ b. client_script u.node b ≡ IsScript s)) where
  used_by : (P : Script → Type 0) → P s → UsesBy x u P
  used_by P h = record { script = s; spelled = spelled; holds = h }

  pub uses_done : IsAtEnd x.rest → UsesOver x u (UsesAll x u) s → EndsAs (Ok tt) (Some (uses u)) x
  uses_done end h = (used_by (UsesOver x u (UsesAll x u)) h, end)

  -- by whatever fault it ended
  pub uses_fault : (r : Result (Unit {0}) Ending) (f : Stop) → IsErr r × IsErrAnd r (λ e. e ≡ ending.Stop f) → StopsClient f → (f ≡ stop.NoReply → UsesOver x u (WaitsOn x u) s) → (f ≡ stop.SessionLost → UsesOver x u (LosesSession x u) s) → (f ≡ stop.DaemonFull → UsesOver x u (FindsFull x u) s)
      → (f ≡ stop.LinkFault → UsesNoMore x u s) → UsesPart x u s → (f ≡ stop.WriteFault → Rose x.before.write_faults x.now.write_faults) → (f ≡ stop.LinkFault → Rose x.before.link_faults x.now.link_faults)
      → EndsAs r (Some (uses u)) x
  uses_fault r f is stops unanswered lost full failing part wrote failed = ended_by r (ending.Stop f) (λ q. EndsAs q (Some (uses u)) x) is (by f stops unanswered lost full failing wrote failed)
    where
      by : (f : Stop) → StopsClient f → (f ≡ stop.NoReply → UsesOver x u (WaitsOn x u) s) → (f ≡ stop.SessionLost → UsesOver x u (LosesSession x u) s) → (f ≡ stop.DaemonFull → UsesOver x u (FindsFull x u) s)
          → (f ≡ stop.LinkFault → UsesNoMore x u s) → (f ≡ stop.WriteFault → Rose x.before.write_faults x.now.write_faults) → (f ≡ stop.LinkFault → Rose x.before.link_faults x.now.link_faults)
          → FailsAs (ending.Stop f) (Some (uses u)) x
      by stop.NoMemory stops unanswered lost full failing wrote failed = inr (used_by (UsesPart x u) part)
      by stop.WriteFault stops unanswered lost full failing wrote failed = (wrote refl, used_by (UsesPart x u) part)
      by stop.LinkFault stops unanswered lost full failing wrote failed = (failed refl, used_by (UsesNoMore x u) (failing refl))
      by stop.NoReply stops unanswered lost full failing wrote failed = used_by (UsesOver x u (WaitsOn x u)) (unanswered refl)
      by stop.SessionLost stops unanswered lost full failing wrote failed = used_by (UsesOver x u (LosesSession x u)) (lost refl)
      by stop.DaemonFull stops unanswered lost full failing wrote failed = used_by (UsesOver x u (FindsFull x u)) (full refl)
      by stop.Paused stops unanswered lost full failing wrote failed = absurd stops
