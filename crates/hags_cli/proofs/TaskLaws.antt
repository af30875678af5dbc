-- From how a call ended to what its status says.
use Rattle.std.proofs.Common.{◌≡◌, ◌≢◌, ℕ, ◌-◌, ◌^◌, ◌≤◌, min, List, [], ◌++◌, Option, Some, None, IfSome, IfNone, refl, sym, ◌∙◌, ap, subst, inl, inr, arith, ◌⊎◌}
use Rattle.std.specs.Prelude.{codes, decimal, Result, Ok, Err}
use Rattle.std.specs.Io.KnownBytes.{Appends, Keeps}
use Rattle.std.proofs.KnownBytes.{Keeps-refl}
use Rattle.hags_io.specs.declared.source.Put.{Put}
use Rattle.hags_io.specs.declared.source.Put.TheVariants as put
use Rattle.hags_io.specs.Edges.{GrowsByFront, Rose, Puts}
use Rattle.hags_io.proofs.ByteLaws.{none_grew}
use Rattle.hags_io.specs.Telling.{Telling}
use Rattle.hags_words.specs.declared.command.Command.{Command}
use Rattle.hags_words.specs.declared.command.Command.TheVariants as command
use Rattle.node_state.specs.declared.happened.Happened.{Happened}
use Rattle.world_model.specs.declared.script.LineWhy.{LineWhy}
use Rattle.world_model.specs.Reading.{IsScript, IsNone, script_of}
use Rattle.world_model.specs.Settings.{daemon_script}
use Rattle.world_model.specs.Play.{script_records, lines_text, kinds_in, why_text, written}
use Rattle.world_model.specs.Kept.{kept_records, most_kept}
use Rattle.transcript.specs.declared.kinds.Kinds.{Kinds}
use Rattle.transcript.specs.Kinds.{kinds_text, all_kinds, kinds_of}
use Rattle.transcript.proofs.KindLaws.{all_lines, named_lines}
use Rattle.script_reader.specs.ClientScript.{client_script}
use Rattle.link_use.specs.declared.stop.Stop.TheVariants as stop
use Rattle.hags_cli.specs.declared.ending.Ending.{Ending}
use Rattle.hags_cli.specs.declared.ending.Ending.TheVariants as ending
use Rattle.hags_cli.specs.Endings.{Says, status_of, said_of, ending_text}
use Rattle.hags_cli.specs.Run.{PlaysAll, PlaysPast, PlaysFront, MayHavePlayed, RunEnds, SpellsScript}
use Rattle.hags_cli.specs.Tables.{MayHaveTables, TablesEnds}
use Rattle.hags_cli.specs.Tasks.{Task, plays, loads, tells, serves, asks, uses, tables, list_in, shown_of, Shows, played_as, task_asked, Asks, Seen, Untouched, counted, HasFault, IsOutside, OutsideAs, OutsideAt, ReadFaultAs, LinkFaultAs, NoReplyAs, LostAs, FullAs, PausedAs, SpellsSettings, SpellsCalls, CanBeDone, DoneAs, LoadEnds, TellEnds, FailsAs, EndsAs, Ended, SaysLine}
use Rattle.hags_cli.proofs.OutputLaws.{rose_within}

-- ---- which ending a status is

status_usage : (e : Ending) → status_of e ≡ 1 → e ≡ ending.Usage
status_usage ending.Usage h = refl
status_usage (ending.BadLine n why) h = absurd (omega arith)
status_usage (ending.Stop stop.NoMemory) h = absurd (omega arith)
status_usage ending.ReadFault h = absurd (omega arith)
status_usage (ending.Stop stop.WriteFault) h = absurd (omega arith)
status_usage (ending.Stop stop.LinkFault) h = absurd (omega arith)
status_usage ending.TooMuchKept h = absurd (omega arith)
status_usage (ending.Stop stop.NoReply) h = absurd (omega arith)
status_usage (ending.Stop stop.SessionLost) h = absurd (omega arith)
status_usage (ending.Stop stop.DaemonFull) h = absurd (omega arith)
status_usage (ending.Stop stop.Paused) h = absurd (omega arith)

status_no_memory : (e : Ending) → status_of e ≡ 3 → e ≡ ending.Stop stop.NoMemory
status_no_memory ending.Usage h = absurd (omega arith)
status_no_memory (ending.BadLine n why) h = absurd (omega arith)
status_no_memory (ending.Stop stop.NoMemory) h = refl
status_no_memory ending.ReadFault h = absurd (omega arith)
status_no_memory (ending.Stop stop.WriteFault) h = absurd (omega arith)
status_no_memory (ending.Stop stop.LinkFault) h = absurd (omega arith)
status_no_memory ending.TooMuchKept h = absurd (omega arith)
status_no_memory (ending.Stop stop.NoReply) h = absurd (omega arith)
status_no_memory (ending.Stop stop.SessionLost) h = absurd (omega arith)
status_no_memory (ending.Stop stop.DaemonFull) h = absurd (omega arith)
status_no_memory (ending.Stop stop.Paused) h = absurd (omega arith)

status_read_fault : (e : Ending) → status_of e ≡ 4 → e ≡ ending.ReadFault
status_read_fault ending.Usage h = absurd (omega arith)
status_read_fault (ending.BadLine n why) h = absurd (omega arith)
status_read_fault (ending.Stop stop.NoMemory) h = absurd (omega arith)
status_read_fault ending.ReadFault h = refl
status_read_fault (ending.Stop stop.WriteFault) h = absurd (omega arith)
status_read_fault (ending.Stop stop.LinkFault) h = absurd (omega arith)
status_read_fault ending.TooMuchKept h = absurd (omega arith)
status_read_fault (ending.Stop stop.NoReply) h = absurd (omega arith)
status_read_fault (ending.Stop stop.SessionLost) h = absurd (omega arith)
status_read_fault (ending.Stop stop.DaemonFull) h = absurd (omega arith)
status_read_fault (ending.Stop stop.Paused) h = absurd (omega arith)

status_write_fault : (e : Ending) → status_of e ≡ 5 → e ≡ ending.Stop stop.WriteFault
status_write_fault ending.Usage h = absurd (omega arith)
status_write_fault (ending.BadLine n why) h = absurd (omega arith)
status_write_fault (ending.Stop stop.NoMemory) h = absurd (omega arith)
status_write_fault ending.ReadFault h = absurd (omega arith)
status_write_fault (ending.Stop stop.WriteFault) h = refl
status_write_fault (ending.Stop stop.LinkFault) h = absurd (omega arith)
status_write_fault ending.TooMuchKept h = absurd (omega arith)
status_write_fault (ending.Stop stop.NoReply) h = absurd (omega arith)
status_write_fault (ending.Stop stop.SessionLost) h = absurd (omega arith)
status_write_fault (ending.Stop stop.DaemonFull) h = absurd (omega arith)
status_write_fault (ending.Stop stop.Paused) h = absurd (omega arith)

status_link_fault : (e : Ending) → status_of e ≡ 6 → e ≡ ending.Stop stop.LinkFault
status_link_fault ending.Usage h = absurd (omega arith)
status_link_fault (ending.BadLine n why) h = absurd (omega arith)
status_link_fault (ending.Stop stop.NoMemory) h = absurd (omega arith)
status_link_fault ending.ReadFault h = absurd (omega arith)
status_link_fault (ending.Stop stop.WriteFault) h = absurd (omega arith)
status_link_fault (ending.Stop stop.LinkFault) h = refl
status_link_fault ending.TooMuchKept h = absurd (omega arith)
status_link_fault (ending.Stop stop.NoReply) h = absurd (omega arith)
status_link_fault (ending.Stop stop.SessionLost) h = absurd (omega arith)
status_link_fault (ending.Stop stop.DaemonFull) h = absurd (omega arith)
status_link_fault (ending.Stop stop.Paused) h = absurd (omega arith)

status_too_much_kept : (e : Ending) → status_of e ≡ 7 → e ≡ ending.TooMuchKept
status_too_much_kept ending.Usage h = absurd (omega arith)
status_too_much_kept (ending.BadLine n why) h = absurd (omega arith)
status_too_much_kept (ending.Stop stop.NoMemory) h = absurd (omega arith)
status_too_much_kept ending.ReadFault h = absurd (omega arith)
status_too_much_kept (ending.Stop stop.WriteFault) h = absurd (omega arith)
status_too_much_kept (ending.Stop stop.LinkFault) h = absurd (omega arith)
status_too_much_kept ending.TooMuchKept h = refl
status_too_much_kept (ending.Stop stop.NoReply) h = absurd (omega arith)
status_too_much_kept (ending.Stop stop.SessionLost) h = absurd (omega arith)
status_too_much_kept (ending.Stop stop.DaemonFull) h = absurd (omega arith)
status_too_much_kept (ending.Stop stop.Paused) h = absurd (omega arith)

status_no_reply : (e : Ending) → status_of e ≡ 9 → e ≡ ending.Stop stop.NoReply
status_no_reply ending.Usage h = absurd (omega arith)
status_no_reply (ending.BadLine n why) h = absurd (omega arith)
status_no_reply (ending.Stop stop.NoMemory) h = absurd (omega arith)
status_no_reply ending.ReadFault h = absurd (omega arith)
status_no_reply (ending.Stop stop.WriteFault) h = absurd (omega arith)
status_no_reply (ending.Stop stop.LinkFault) h = absurd (omega arith)
status_no_reply ending.TooMuchKept h = absurd (omega arith)
status_no_reply (ending.Stop stop.NoReply) h = refl
status_no_reply (ending.Stop stop.SessionLost) h = absurd (omega arith)
status_no_reply (ending.Stop stop.DaemonFull) h = absurd (omega arith)
status_no_reply (ending.Stop stop.Paused) h = absurd (omega arith)

status_lost : (e : Ending) → status_of e ≡ 10 → e ≡ ending.Stop stop.SessionLost
status_lost ending.Usage h = absurd (omega arith)
status_lost (ending.BadLine n why) h = absurd (omega arith)
status_lost (ending.Stop stop.NoMemory) h = absurd (omega arith)
status_lost ending.ReadFault h = absurd (omega arith)
status_lost (ending.Stop stop.WriteFault) h = absurd (omega arith)
status_lost (ending.Stop stop.LinkFault) h = absurd (omega arith)
status_lost ending.TooMuchKept h = absurd (omega arith)
status_lost (ending.Stop stop.NoReply) h = absurd (omega arith)
status_lost (ending.Stop stop.SessionLost) h = refl
status_lost (ending.Stop stop.DaemonFull) h = absurd (omega arith)
status_lost (ending.Stop stop.Paused) h = absurd (omega arith)

status_full : (e : Ending) → status_of e ≡ 11 → e ≡ ending.Stop stop.DaemonFull
status_full ending.Usage h = absurd (omega arith)
status_full (ending.BadLine n why) h = absurd (omega arith)
status_full (ending.Stop stop.NoMemory) h = absurd (omega arith)
status_full ending.ReadFault h = absurd (omega arith)
status_full (ending.Stop stop.WriteFault) h = absurd (omega arith)
status_full (ending.Stop stop.LinkFault) h = absurd (omega arith)
status_full ending.TooMuchKept h = absurd (omega arith)
status_full (ending.Stop stop.NoReply) h = absurd (omega arith)
status_full (ending.Stop stop.SessionLost) h = absurd (omega arith)
status_full (ending.Stop stop.DaemonFull) h = refl
status_full (ending.Stop stop.Paused) h = absurd (omega arith)

status_paused : (e : Ending) → status_of e ≡ 12 → e ≡ ending.Stop stop.Paused
status_paused ending.Usage h = absurd (omega arith)
status_paused (ending.BadLine n why) h = absurd (omega arith)
status_paused (ending.Stop stop.NoMemory) h = absurd (omega arith)
status_paused ending.ReadFault h = absurd (omega arith)
status_paused (ending.Stop stop.WriteFault) h = absurd (omega arith)
status_paused (ending.Stop stop.LinkFault) h = absurd (omega arith)
status_paused ending.TooMuchKept h = absurd (omega arith)
status_paused (ending.Stop stop.NoReply) h = absurd (omega arith)
status_paused (ending.Stop stop.SessionLost) h = absurd (omega arith)
status_paused (ending.Stop stop.DaemonFull) h = absurd (omega arith)
status_paused (ending.Stop stop.Paused) h = refl

-- ---- what each status says

ended_as : (e f : Ending) (t : Option Task) (x : Seen) → e ≡ f → FailsAs e t x → FailsAs f t x
ended_as e f t x is h = subst (λ (z : Ending). FailsAs z t x) is h

outside : (task : Task) (left : Option (List ℕ)) (n : ℕ) (why : LineWhy) → IfSome left (HasFault task n why) → IfSome left (IsOutside task)
outside task None n why h = tt
outside task (Some b) n why h = record { line = n; why = why; fault = h }

outside_as : (t : Option Task) (n : ℕ) (why : LineWhy) (x : Seen) → Asks t (OutsideAt n why x) → Asks t (OutsideAs x)
outside_as None n why x h = h
outside_as (Some (plays list)) n why x h = (outside (plays list) x.left n why h.0, h.1, h.2)
outside_as (Some (loads steps)) n why x h = h
outside_as (Some (tells text)) n why x h = h
outside_as (Some (serves s objects)) n why x h = (outside (serves s objects) x.left n why h.0, h.1, h.2)
outside_as (Some (asks a)) n why x h = (outside (asks a) x.left n why h.0, h.1, h.2)
outside_as (Some (uses u)) n why x h = (outside (uses u) x.left n why h.0, h.1, h.2)
outside_as (Some (tables g)) n why x h = (outside (tables g) x.left n why h.0, h.1, h.2)

ended_outside : (e : Ending) (t : Option Task) (x : Seen) → FailsAs e t x → status_of e ≡ 2 → Asks t (OutsideAs x)
ended_outside ending.Usage t x h s = absurd (omega arith)
ended_outside (ending.BadLine n why) t x h s = outside_as t n why x h
ended_outside (ending.Stop stop.NoMemory) t x h s = absurd (omega arith)
ended_outside ending.ReadFault t x h s = absurd (omega arith)
ended_outside (ending.Stop stop.WriteFault) t x h s = absurd (omega arith)
ended_outside (ending.Stop stop.LinkFault) t x h s = absurd (omega arith)
ended_outside ending.TooMuchKept t x h s = absurd (omega arith)
ended_outside (ending.Stop stop.NoReply) t x h s = absurd (omega arith)
ended_outside (ending.Stop stop.SessionLost) t x h s = absurd (omega arith)
ended_outside (ending.Stop stop.DaemonFull) t x h s = absurd (omega arith)
ended_outside (ending.Stop stop.Paused) t x h s = absurd (omega arith)

-- words that ask for nothing
ended_words : (e : Ending) (t : Option Task) (x : Seen) → FailsAs e t x → t ≡ None → (status_of e ≡ 1) ⊎ (status_of e ≡ 3)
ended_words e t x h none = by e (subst (λ (z : Option Task). FailsAs e z x) none h)
  where
    by : (e : Ending) → FailsAs e None x → (status_of e ≡ 1) ⊎ (status_of e ≡ 3)
    by ending.Usage h = inl refl
    by (ending.BadLine n why) h = absurd h
    by (ending.Stop stop.NoMemory) h = inr refl
    by ending.ReadFault h = absurd h
    by (ending.Stop stop.WriteFault) h = absurd h.1
    by (ending.Stop stop.LinkFault) h = absurd h.1
    by ending.TooMuchKept h = absurd h
    by (ending.Stop stop.NoReply) h = absurd h
    by (ending.Stop stop.SessionLost) h = absurd h
    by (ending.Stop stop.DaemonFull) h = absurd h
    by (ending.Stop stop.Paused) h = absurd h

status_known : (e : Ending) → (status_of e ≤ 7) ⊎ ((9 ≤ status_of e) × (status_of e ≤ 12))
status_known ending.Usage = inl (omega arith)
status_known (ending.BadLine n why) = inl (omega arith)
status_known (ending.Stop stop.NoMemory) = inl (omega arith)
status_known ending.ReadFault = inl (omega arith)
status_known (ending.Stop stop.WriteFault) = inl (omega arith)
status_known (ending.Stop stop.LinkFault) = inl (omega arith)
status_known ending.TooMuchKept = inl (omega arith)
status_known (ending.Stop stop.NoReply) = inr (omega arith, omega arith)
status_known (ending.Stop stop.SessionLost) = inr (omega arith, omega arith)
status_known (ending.Stop stop.DaemonFull) = inr (omega arith, omega arith)
status_known (ending.Stop stop.Paused) = inr (omega arith, omega arith)

-- ---- where nothing fails

not_outside : (left : Option (List ℕ)) (n : ℕ) (why : LineWhy) → IfSome left (λ b. script_of b ≡ IsNone n why) → SpellsScript left → ⊥
not_outside None n why o s = s
not_outside (Some b) n why o s = let both : IsNone n why ≡ IsScript s.0 = sym o ∙ s.1 in cc

settings_not_outside : (node : ℕ) (objects : Option ℕ) (left : Option (List ℕ)) (n : ℕ) (why : LineWhy) → IfSome left (λ b. daemon_script node objects b ≡ IsNone n why) → SpellsSettings node objects left → ⊥
settings_not_outside node objects None n why o s = s
settings_not_outside node objects (Some b) n why o s = let both : IsNone n why ≡ IsScript s.0 = sym o ∙ s.1 in cc

calls_not_outside : (node : ℕ) (left : Option (List ℕ)) (n : ℕ) (why : LineWhy) → IfSome left (λ b. client_script node b ≡ IsNone n why) → SpellsCalls node left → ⊥
calls_not_outside node None n why o s = s
calls_not_outside node (Some b) n why o s = let both : IsNone n why ≡ IsScript s.0 = sym o ∙ s.1 in cc

outside_cannot : (t : Option Task) (n : ℕ) (why : LineWhy) (x : Seen) → Asks t (OutsideAt n why x) → Asks t (CanBeDone x) → ⊥
outside_cannot None n why x h can = h
outside_cannot (Some (plays list)) n why x h can = not_outside x.left n why h.0 can
outside_cannot (Some (loads steps)) n why x h can = h
outside_cannot (Some (tells text)) n why x h can = h
outside_cannot (Some (serves s objects)) n why x h can = settings_not_outside s.node (Some (counted objects)) x.left n why h.0 can
outside_cannot (Some (asks a)) n why x h can = settings_not_outside a.node None x.left n why h.0 can
outside_cannot (Some (uses u)) n why x h can = calls_not_outside u.node x.left n why h.0 can
outside_cannot (Some (tables g)) n why x h can = not_outside x.left n why h.0 can

read_rose : (t : Option Task) (x : Seen) → Asks t (ReadFaultAs x) → Rose x.reads x.reads_now
read_rose None x h = absurd h
read_rose (Some (plays list)) x h = h.0
read_rose (Some (loads steps)) x h = absurd h
read_rose (Some (tells text)) x h = absurd h
read_rose (Some (serves s objects)) x h = h.0
read_rose (Some (asks a)) x h = h.0
read_rose (Some (uses u)) x h = h.0
read_rose (Some (tables g)) x h = h.0

asks_nothing : (t : Option Task) (P : Task → Type 0) → t ≡ None → Asks t P → ⊥
asks_nothing t P none h = subst (λ (z : Option Task). Asks z P) none h

-- where each ending has its cause, what can be done leaves three of them
ended_complete : (e : Ending) (t : Option Task) (x : Seen) → FailsAs e t x → Asks t (CanBeDone x) → (Rose x.reads x.reads_now → ⊥) → (Rose x.before.write_faults x.now.write_faults → ⊥) → (Asks t (LinkFaultAs x) → ⊥) → (Asks t (NoReplyAs x) → ⊥) → (Asks t (LostAs x) → ⊥) → (Asks t (FullAs x) → ⊥) → (Asks t (PausedAs x) → ⊥)
    → (status_of e ≡ 0) ⊎ ((status_of e ≡ 3) ⊎ (status_of e ≡ 7))
ended_complete ending.Usage t x h can r w l n gone full paused = absurd (asks_nothing t (CanBeDone x) h.0 can)
ended_complete (ending.BadLine line why) t x h can r w l n gone full paused = absurd (outside_cannot t line why x h can)
ended_complete (ending.Stop stop.NoMemory) t x h can r w l n gone full paused = inr (inl refl)
ended_complete ending.ReadFault t x h can r w l n gone full paused = absurd (r (read_rose t x h))
ended_complete (ending.Stop stop.WriteFault) t x h can r w l n gone full paused = absurd (w h.0)
ended_complete (ending.Stop stop.LinkFault) t x h can r w l n gone full paused = absurd (l h.1)
ended_complete ending.TooMuchKept t x h can r w l n gone full paused = inr (inr refl)
ended_complete (ending.Stop stop.NoReply) t x h can r w l n gone full paused = absurd (n h)
ended_complete (ending.Stop stop.SessionLost) t x h can r w l n gone full paused = absurd (gone h)
ended_complete (ending.Stop stop.DaemonFull) t x h can r w l n gone full paused = absurd (full h)
ended_complete (ending.Stop stop.Paused) t x h can r w l n gone full paused = absurd (paused h)

-- ---- all of it

never_done : (e : Ending) → status_of e ≡ 0 → ⊥
never_done ending.Usage h = omega arith
never_done (ending.BadLine n why) h = omega arith
never_done (ending.Stop stop.NoMemory) h = omega arith
never_done ending.ReadFault h = omega arith
never_done (ending.Stop stop.WriteFault) h = omega arith
never_done (ending.Stop stop.LinkFault) h = omega arith
never_done ending.TooMuchKept h = omega arith
never_done (ending.Stop stop.NoReply) h = omega arith
never_done (ending.Stop stop.SessionLost) h = omega arith
never_done (ending.Stop stop.DaemonFull) h = omega arith
never_done (ending.Stop stop.Paused) h = omega arith

failed_so : (e : Ending) (t : Option Task) (x : Seen) → FailsAs e t x → Ended (status_of e) t x
failed_so e t x h = record {
  usage = λ s. ended_as e ending.Usage t x (status_usage e s) h;
  words = ended_words e t x h;
  done = λ s. absurd (never_done e s);
  outside = ended_outside e t x h;
  memory = λ s. ended_as e (ending.Stop stop.NoMemory) t x (status_no_memory e s) h;
  read = λ s. ended_as e ending.ReadFault t x (status_read_fault e s) h;
  write = λ s. ended_as e (ending.Stop stop.WriteFault) t x (status_write_fault e s) h;
  link = λ s. ended_as e (ending.Stop stop.LinkFault) t x (status_link_fault e s) h;
  past = λ s. ended_as e ending.TooMuchKept t x (status_too_much_kept e s) h;
  no_reply = λ s. ended_as e (ending.Stop stop.NoReply) t x (status_no_reply e s) h;
  lost = λ s. ended_as e (ending.Stop stop.SessionLost) t x (status_lost e s) h;
  full = λ s. ended_as e (ending.Stop stop.DaemonFull) t x (status_full e s) h;
  paused = λ s. ended_as e (ending.Stop stop.Paused) t x (status_paused e s) h;
  no_other = status_known e;
  complete = ended_complete e t x h;
}

-- a call that failed
pub failed : (e : Ending) (n : ℕ) (t : Option Task) (x : Seen) → n ≡ status_of e → FailsAs e t x → Ended n t x
failed e n t x is h = subst (λ (k : ℕ). Ended k t x) (sym is) (failed_so e t x h)

-- a call that was done
pub done : (t : Option Task) (x : Seen) → Asks t (DoneAs x) → Ended 0 t x
done t x h = record {
  usage = λ s. absurd (omega arith);
  words = λ none. absurd (asks_nothing t (DoneAs x) none h);
  done = λ s. h;
  outside = λ s. absurd (omega arith);
  memory = λ s. absurd (omega arith);
  read = λ s. absurd (omega arith);
  write = λ s. absurd (omega arith);
  link = λ s. absurd (omega arith);
  past = λ s. absurd (omega arith);
  no_reply = λ s. absurd (omega arith);
  lost = λ s. absurd (omega arith);
  full = λ s. absurd (omega arith);
  paused = λ s. absurd (omega arith);
  no_other = inl (omega arith);
  complete = λ can read write link reply gone full paused. inl refl;
}

-- ---- what is said

pub says_put : (p : Put) (faults later : ℕ) (old new : Option (List ℕ)) (text : List ℕ) → Puts old new p text → (p ≡ put.Failed → Rose faults later) → Says faults later old new text
says_put put.Done faults later old new text h rose = inl h
says_put put.Failed faults later old new text h rose = inr (inr (rose refl, h))
says_put put.NoMemory faults later old new text h rose = inr (inl h)

pub says_nothing : (faults later : ℕ) (old : Option (List ℕ)) (text : List ℕ) → Says faults later old old text
says_nothing faults later None text = inr (inl tt)
says_nothing faults later (Some bytes) text = inr (inl refl)

-- the line of a bad line
pub says_bad_line : (e : Ending) (n : ℕ) (why : LineWhy) (text : List ℕ) (faults later : ℕ) (old new : Option (List ℕ)) → e ≡ ending.BadLine n why
    → text ≡ codes "hags: line " ++ decimal n ++ codes ": " ++ why_text why ++ codes "\n" → Says faults later old new text → Says faults later old new (ending_text e)
unfolding written
says_bad_line e n why text faults later old new is line g =
    subst (λ (x : Ending). Says faults later old new (ending_text x)) (sym is) (subst (Says faults later old new) line g)

said_as : (e : Ending) → (status_of e ≡ 2 → ⊥) → ending_text e ≡ said_of (status_of e)
said_as ending.Usage other = refl
said_as (ending.BadLine line why) other = absurd (other refl)
said_as (ending.Stop stop.NoMemory) other = refl
said_as ending.ReadFault other = refl
said_as (ending.Stop stop.WriteFault) other = refl
said_as (ending.Stop stop.LinkFault) other = refl
said_as ending.TooMuchKept other = refl
said_as (ending.Stop stop.NoReply) other = refl
said_as (ending.Stop stop.SessionLost) other = refl
said_as (ending.Stop stop.DaemonFull) other = refl
said_as (ending.Stop stop.Paused) other = refl

pub says_said : (e : Ending) (n faults later : ℕ) (old new : Option (List ℕ)) → n ≡ status_of e → n ≢ 2 → Says faults later old new (ending_text e) → Says faults later old new (said_of n)
says_said e n faults later old new is other g =
    subst (λ (k : ℕ). Says faults later old new (said_of k)) (sym is) (subst (Says faults later old new) (said_as e (λ two. other (is ∙ two))) g)

line_fault : (t : Option Task) (n : ℕ) (why : LineWhy) (x : Seen) → Asks t (OutsideAt n why x) → IfSome x.left (λ b. Asks t (λ task. HasFault task n why b))
line_fault None n why x h = absurd h
line_fault (Some (plays list)) n why x h = h.0
line_fault (Some (loads steps)) n why x h = absurd h
line_fault (Some (tells text)) n why x h = absurd h
line_fault (Some (serves s objects)) n why x h = h.0
line_fault (Some (asks a)) n why x h = h.0
line_fault (Some (uses u)) n why x h = h.0
line_fault (Some (tables g)) n why x h = h.0

says_line_of : (e : Ending) (t : Option Task) (x : Seen) (faults later : ℕ) (before after : Option (List ℕ)) → FailsAs e t x → Says faults later before after (ending_text e) → status_of e ≡ 2 → SaysLine t x.left faults later before after
says_line_of ending.Usage t x faults later before after p g h = absurd (omega arith)
says_line_of (ending.BadLine n why) t x faults later before after p g h = record { line = n; why = why; fault = line_fault t n why x p; said = g }
says_line_of (ending.Stop stop.NoMemory) t x faults later before after p g h = absurd (omega arith)
says_line_of ending.ReadFault t x faults later before after p g h = absurd (omega arith)
says_line_of (ending.Stop stop.WriteFault) t x faults later before after p g h = absurd (omega arith)
says_line_of (ending.Stop stop.LinkFault) t x faults later before after p g h = absurd (omega arith)
says_line_of ending.TooMuchKept t x faults later before after p g h = absurd (omega arith)
says_line_of (ending.Stop stop.NoReply) t x faults later before after p g h = absurd (omega arith)
says_line_of (ending.Stop stop.SessionLost) t x faults later before after p g h = absurd (omega arith)
says_line_of (ending.Stop stop.DaemonFull) t x faults later before after p g h = absurd (omega arith)
says_line_of (ending.Stop stop.Paused) t x faults later before after p g h = absurd (omega arith)

pub says_line : (e : Ending) (n : ℕ) (t : Option Task) (x : Seen) (faults later : ℕ) (before after : Option (List ℕ)) → n ≡ status_of e → FailsAs e t x → Says faults later before after (ending_text e) → n ≡ 2 → SaysLine t x.left faults later before after
says_line e n t x faults later before after is p g h = says_line_of e t x faults later before after p g (sym is ∙ h)

-- ---- the kinds that are named

pub all_shown : (k : Kinds) → k ≡ all_kinds → Shows k None
unfolding kinds_in
all_shown k e rs = subst (λ (j : Kinds). kinds_text j rs ≡ lines_text [] rs) (sym e) (all_lines rs)

pub read_shown : (o : Option Kinds) (word : List ℕ) → o ≡ kinds_of word → IfSome o (λ k. Shows k (Some word))
read_shown None word e = tt
read_shown (Some k) word e = λ rs. named_lines word k rs (sym e)

abbrev played_if : Option Kinds → List ℕ → Option Task
played_if o word = elim o [ Some kinds ↦ Some (plays word) | None ↦ None ]

pub read_played : (o : Option Kinds) (word : List ℕ) → o ≡ kinds_of word → IfSome o (λ k. played_as (Some word) ≡ Some (plays word))
read_played None word e = tt
read_played (Some k) word e = ap (λ (o : Option Kinds). played_if o word) (sym e)

pub read_faulty : (o : Option Kinds) (word : List ℕ) → o ≡ kinds_of word → IfNone o (played_as (Some word) ≡ None)
read_faulty None word e = ap (λ (o : Option Kinds). played_if o word) (sym e)
read_faulty (Some k) word e = tt

-- ---- each task

all_as : (f g : List Happened → List ℕ) → ((rs : List Happened) → f rs ≡ g rs) → (left old new : Option (List ℕ)) → IfSome left (PlaysAll f old new) → IfSome left (PlaysAll g old new)
all_as f g e None old new p = tt
all_as f g e (Some b) old new p = record { script = p.script; spelled = p.spelled; within = p.within; written = subst (Appends old new) (e (script_records p.script)) p.written; safe = p.safe }

past_as : (f g : List Happened → List ℕ) → ((rs : List Happened) → f rs ≡ g rs) → (left old new : Option (List ℕ)) → IfSome left (PlaysPast f old new) → IfSome left (PlaysPast g old new)
past_as f g e None old new p = tt
past_as f g e (Some b) old new p =
    record { script = p.script; spelled = p.spelled; sum = p.sum; past = p.past; written = subst (Appends old new) (e (kept_records most_kept p.script)) p.written; safe = p.safe }

front_is : (f g : List Happened → List ℕ) → ((rs : List Happened) → f rs ≡ g rs) → (b : List ℕ) (old new : Option (List ℕ)) → PlaysFront f old new b → PlaysFront g old new b
front_is f g e b old new p = record { script = p.script; spelled = p.spelled; written = subst (GrowsByFront old new) (e (kept_records most_kept p.script)) p.written; safe = p.safe }

front_as : (f g : List Happened → List ℕ) → ((rs : List Happened) → f rs ≡ g rs) → (left old new : Option (List ℕ)) → IfSome left (PlaysFront f old new) → IfSome left (PlaysFront g old new)
front_as f g e None old new p = tt
front_as f g e (Some b) old new p = front_is f g e b old new p

may_as : (f g : List Happened → List ℕ) → ((rs : List Happened) → f rs ≡ g rs) → (left old new : Option (List ℕ)) → IfSome left (MayHavePlayed f old new) → IfSome left (MayHavePlayed g old new)
may_as f g e None old new p = tt
may_as f g e (Some b) old new (inl k) = inl k
may_as f g e (Some b) old new (inr p) = inr (front_is f g e b old new p)

-- nothing but the streams was touched
pub untouched : (x : Seen) → x.now.deeds ≡ x.before.deeds → x.now.calls ≡ x.before.calls → x.now.places ≡ x.before.places → x.now.opened ≡ x.before.opened → x.now.moments ≡ x.before.moments → Untouched x
untouched x deeds calls places opened moments = record { deeds = deeds; calls = calls; places = places; opened = opened; moments = moments }

pub keeps_same : (x : Seen) → x.now.held ≡ x.before.held → Keeps x.before.held x.now.held
keeps_same x still = subst (Keeps x.before.held) (sym still) (Keeps-refl x.before.held)

-- nothing was touched
pub same_untouched : (x : Seen) → x.now ≡ x.before → Untouched x
same_untouched x e = record {
  deeds = ap (λ (t : Telling). t.deeds) e;
  calls = ap (λ (t : Telling). t.calls) e;
  places = ap (λ (t : Telling). t.places) e;
  opened = ap (λ (t : Telling). t.opened) e;
  moments = ap (λ (t : Telling). t.moments) e;
}

-- the lines of these kinds are those that are shown
run_so : (k : Kinds) (list : List ℕ) → ((rs : List Happened) → kinds_text k rs ≡ shown_of list rs) → (r : Result (Unit {0}) Ending) (x : Seen) (still : Type 0) → (still → x.now ≡ x.before)
    → RunEnds r (kinds_text k) x.left x.rest (Rose x.reads x.reads_now) (Rose (min x.before.write_faults (2 ^ 64 - 1)) (min x.now.write_faults (2 ^ 64 - 1))) still x.before.held x.now.held → EndsAs r (Some (plays list)) x
run_so k list same (Ok u) x still as_was h = (all_as (kinds_text k) (shown_of list) same x.left x.before.held x.now.held h.0, h.1)
run_so k list same (Err ending.Usage) x still as_was h = absurd h
run_so k list same (Err (ending.BadLine n why)) x still as_was h = (h.0, keeps_same x (ap (λ (t : Telling). t.held) (as_was h.1)), same_untouched x (as_was h.1))
run_so k list same (Err (ending.Stop stop.NoMemory)) x still as_was h = may_as (kinds_text k) (shown_of list) same x.left x.before.held x.now.held h
run_so k list same (Err ending.ReadFault) x still as_was h = (h.0, keeps_same x (ap (λ (t : Telling). t.held) (as_was h.1)), same_untouched x (as_was h.1))
run_so k list same (Err (ending.Stop stop.WriteFault)) x still as_was h = (rose_within x.before.write_faults x.now.write_faults h.0, front_as (kinds_text k) (shown_of list) same x.left x.before.held x.now.held h.1)
run_so k list same (Err (ending.Stop stop.LinkFault)) x still as_was h = absurd h
run_so k list same (Err ending.TooMuchKept) x still as_was h = past_as (kinds_text k) (shown_of list) same x.left x.before.held x.now.held h
run_so k list same (Err (ending.Stop stop.NoReply)) x still as_was h = absurd h
run_so k list same (Err (ending.Stop stop.SessionLost)) x still as_was h = absurd h
run_so k list same (Err (ending.Stop stop.DaemonFull)) x still as_was h = absurd h
run_so k list same (Err (ending.Stop stop.Paused)) x still as_was h = absurd h

pub run_ends : (objects : ℕ) (c : Option Command) (list : Option (List ℕ)) (k : Kinds) (r : Result (Unit {0}) Ending) (x : Seen) (still : Type 0) → c ≡ Some (command.Run list) → Shows k list → played_as list ≡ Some (plays (list_in list)) → (still → x.now ≡ x.before)
    → RunEnds r (kinds_text k) x.left x.rest (Rose x.reads x.reads_now) (Rose (min x.before.write_faults (2 ^ 64 - 1)) (min x.now.write_faults (2 ^ 64 - 1))) still x.before.held x.now.held → EndsAs r (task_asked objects c) x
run_ends objects c list k r x still is shows played as_was h =
    subst (λ (t : Option Task). EndsAs r t x) (sym (ap (task_asked objects) is ∙ played)) (run_so k (list_in list) shows r x still as_was h)

tables_so : (r : Result (Unit {0}) Ending) (g : List ℕ) (x : Seen) (still : Type 0) → (still → x.now ≡ x.before)
    → TablesEnds r g x.left x.rest (Rose x.reads x.reads_now) (Rose (min x.before.write_faults (2 ^ 64 - 1)) (min x.now.write_faults (2 ^ 64 - 1))) still x.before.held x.now.held → EndsAs r (Some (tables g)) x
tables_so (Ok u) g x still as_was h = h
tables_so (Err ending.Usage) g x still as_was h = absurd h
tables_so (Err (ending.BadLine n why)) g x still as_was h = (h.0, keeps_same x (ap (λ (t : Telling). t.held) (as_was h.1)), same_untouched x (as_was h.1))
tables_so (Err (ending.Stop stop.NoMemory)) g x still as_was h = h
tables_so (Err ending.ReadFault) g x still as_was h = (h.0, keeps_same x (ap (λ (t : Telling). t.held) (as_was h.1)), same_untouched x (as_was h.1))
tables_so (Err (ending.Stop stop.WriteFault)) g x still as_was h = (rose_within x.before.write_faults x.now.write_faults h.0, h.1)
tables_so (Err (ending.Stop stop.LinkFault)) g x still as_was h = absurd h
tables_so (Err ending.TooMuchKept) g x still as_was h = h
tables_so (Err (ending.Stop stop.NoReply)) g x still as_was h = absurd h
tables_so (Err (ending.Stop stop.SessionLost)) g x still as_was h = absurd h
tables_so (Err (ending.Stop stop.DaemonFull)) g x still as_was h = absurd h
tables_so (Err (ending.Stop stop.Paused)) g x still as_was h = absurd h

pub tables_end : (objects : ℕ) (c : Option Command) (g : List ℕ) (r : Result (Unit {0}) Ending) (x : Seen) (still : Type 0) → c ≡ Some (command.Table g) → (still → x.now ≡ x.before)
    → TablesEnds r g x.left x.rest (Rose x.reads x.reads_now) (Rose (min x.before.write_faults (2 ^ 64 - 1)) (min x.now.write_faults (2 ^ 64 - 1))) still x.before.held x.now.held → EndsAs r (task_asked objects c) x
tables_end objects c g r x still is as_was h = subst (λ (t : Option Task). EndsAs r t x) (sym (ap (task_asked objects) is)) (tables_so r g x still as_was h)

pub load_ends : (r : Result (Unit {0}) Ending) (steps : ℕ) (x : Seen) → x.rest ≡ x.left → LoadEnds r steps (min x.before.write_faults (2 ^ 64 - 1)) (min x.now.write_faults (2 ^ 64 - 1)) x.before.held x.now.held → EndsAs r (Some (loads steps)) x
load_ends (Ok u) steps x still h = (h, still)
load_ends (Err ending.Usage) steps x still h = absurd h
load_ends (Err (ending.BadLine n why)) steps x still h = absurd h
load_ends (Err (ending.Stop stop.NoMemory)) steps x still h = h.written
load_ends (Err ending.ReadFault) steps x still h = absurd h
load_ends (Err (ending.Stop stop.WriteFault)) steps x still h = (rose_within x.before.write_faults x.now.write_faults h.0, h.1)
load_ends (Err (ending.Stop stop.LinkFault)) steps x still h = absurd h
load_ends (Err ending.TooMuchKept) steps x still h = h
load_ends (Err (ending.Stop stop.NoReply)) steps x still h = absurd h
load_ends (Err (ending.Stop stop.SessionLost)) steps x still h = absurd h
load_ends (Err (ending.Stop stop.DaemonFull)) steps x still h = absurd h
load_ends (Err (ending.Stop stop.Paused)) steps x still h = absurd h

tells_so : (r : Result (Unit {0}) Ending) (text : List ℕ) (x : Seen) → x.rest ≡ x.left → TellEnds r text (min x.before.write_faults (2 ^ 64 - 1)) (min x.now.write_faults (2 ^ 64 - 1)) x.before.held x.now.held → EndsAs r (Some (tells text)) x
tells_so (Ok u) text x still h = (h, still)
tells_so (Err ending.Usage) text x still h = absurd h
tells_so (Err (ending.BadLine n why)) text x still h = absurd h
tells_so (Err (ending.Stop stop.NoMemory)) text x still h = h
tells_so (Err ending.ReadFault) text x still h = absurd h
tells_so (Err (ending.Stop stop.WriteFault)) text x still h = (rose_within x.before.write_faults x.now.write_faults h.0, h.1)
tells_so (Err (ending.Stop stop.LinkFault)) text x still h = absurd h
tells_so (Err ending.TooMuchKept) text x still h = absurd h
tells_so (Err (ending.Stop stop.NoReply)) text x still h = absurd h
tells_so (Err (ending.Stop stop.SessionLost)) text x still h = absurd h
tells_so (Err (ending.Stop stop.DaemonFull)) text x still h = absurd h
tells_so (Err (ending.Stop stop.Paused)) text x still h = absurd h

pub tell_ends : (r : Result (Unit {0}) Ending) (text wanted : List ℕ) (x : Seen) → text ≡ wanted → x.rest ≡ x.left → TellEnds r text (min x.before.write_faults (2 ^ 64 - 1)) (min x.now.write_faults (2 ^ 64 - 1)) x.before.held x.now.held → EndsAs r (Some (tells wanted)) x
tell_ends r text wanted x is still h = subst (λ (t : List ℕ). EndsAs r (Some (tells t)) x) is (tells_so r text x still h)

nothing_played : (list : List ℕ) (left held now : Option (List ℕ)) → Keeps held now → IfSome left (MayHavePlayed (shown_of list) held now)
nothing_played list None held now kept = tt
nothing_played list (Some b) held now kept = inl kept

no_tables : (g : List ℕ) (left held now : Option (List ℕ)) → Keeps held now → IfSome left (MayHaveTables g held now)
no_tables g None held now kept = tt
no_tables g (Some b) held now kept = inl kept

-- before anything was done
pub memory_ends : (t : Option Task) (x : Seen) → x.now.held ≡ x.before.held → Untouched x → FailsAs (ending.Stop stop.NoMemory) t x
memory_ends None x still touched = keeps_same x still
memory_ends (Some (plays list)) x still touched = nothing_played list x.left x.before.held x.now.held (keeps_same x still)
memory_ends (Some (loads steps)) x still touched = none_grew x.before.held x.now.held _ (keeps_same x still)
memory_ends (Some (tells text)) x still touched = keeps_same x still
memory_ends (Some (serves s objects)) x still touched = inl (keeps_same x still, touched)
memory_ends (Some (asks a)) x still touched = keeps_same x still
memory_ends (Some (uses u)) x still touched = inl (keeps_same x still, touched)
memory_ends (Some (tables g)) x still touched = no_tables g x.left x.before.held x.now.held (keeps_same x still)

pub usage_ends : (t : Option Task) (x : Seen) → t ≡ None → x.now.held ≡ x.before.held → x.rest ≡ x.left → Untouched x → FailsAs ending.Usage t x
usage_ends t x none still rest touched = (none, keeps_same x still, rest, touched)
