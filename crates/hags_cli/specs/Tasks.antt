-- What the words of a call ask for, and what each of its endings leaves.
use Rattle.std.specs.Prelude.{◌≡◌, ℕ, ◌≤◌, ◌⊎◌, ◌+◌, ◌/◌, ◌%◌, ◌^◌, ◌-◌, min, max, Bool, true, false, List, [], ◌∷◌, Option, Some, None, IfSome, Result, Ok, Err}
use Rattle.std.specs.Io.KnownBytes.{Appends, Keeps, IsAtEnd}
use Rattle.hags_io.specs.Edges.{GrowsByFront, Rose}
use Rattle.hags_io.specs.Deeds.{Read}
use Rattle.hags_io.specs.Telling.{Telling, Did}
use Rattle.node_state.specs.declared.config.Config.{Config}
use Rattle.node_state.specs.declared.happened.Happened.{Happened}
use Rattle.node_state.specs.declared.state.Core.{Core}
use Rattle.world_model.specs.declared.script.LineWhy.{LineWhy}
use Rattle.world_model.specs.declared.script.Script.{Script}
use Rattle.world_model.specs.Reading.{IsScript, IsNone, script_of}
use Rattle.world_model.specs.Settings.{daemon_script}
use Rattle.world_model.specs.Play.{lines_text, kinds_in, written}
use Rattle.world_model.specs.Kept.{kept_past, most_kept}
use Rattle.world_model.specs.Load.{load_text}
use Rattle.transcript.specs.declared.kinds.Kinds.{Kinds}
use Rattle.transcript.specs.Kinds.{kinds_text, kinds_of}
use Rattle.load_script.specs.Script.{load_script}
use Rattle.net_script.specs.PlaySafe.{ScriptIsSafe, KeptRunIsSafe}
use Rattle.daemon_model.specs.declared.options.Options.{Options}
use Rattle.daemon_model.specs.declared.options.About.{About}
use Rattle.daemon_model.specs.declared.options.Version.{Version}
use Rattle.daemon_model.specs.declared.options.RemoteService.{RemoteService}
use Rattle.daemon_model.specs.declared.options.RemoteService.TheVariants as service
use Rattle.daemon_model.specs.Settings.{OverLink, OverLinkIf}
use Rattle.link_use.specs.Receiving.{nothing_received}
use Rattle.daemon_model.specs.Lives.{ServesAs, ServesTo, ServesToPause, ServesFront}
use Rattle.self_questions.specs.declared.messages.SelfWhat.TheVariants.{Hagscl, Hagsd}
use Rattle.status_client.specs.declared.question.Subject.{Subject}
use Rattle.status_client.specs.declared.question.Subject.TheVariants as subject
use Rattle.status_client.specs.declared.question.Asking.{Asking}
use Rattle.status_client.specs.declared.question.Question.{Question}
use Rattle.status_client.specs.Asked.{Asked, Answered, Unanswered, Failing}
use Rattle.client_run.specs.declared.client.Client.{Client}
use Rattle.client_run.specs.declared.serving.Usage.{Usage}
use Rattle.client_run.specs.Running as used
use Rattle.client_run.specs.Using.{Keyed}
use Rattle.script_reader.specs.ClientScript.{client_script}
use Rattle.settings_digest.specs.Digest.{settings_digest}
use Rattle.hags_words.specs.declared.command.Command.{Command}
use Rattle.hags_words.specs.declared.command.Command.TheVariants as command
use Rattle.hags_words.specs.declared.command.DaemonOptions.{DaemonOptions}
use Rattle.hags_words.specs.declared.command.Subject as words
use Rattle.hags_words.specs.declared.command.Subject.TheVariants as about
use Rattle.hags_words.specs.declared.help.TheConstants.{VERSION}
use Rattle.hags_words.specs.Commands.{command_of}
use Rattle.hags_words.specs.Help.{help_of}
use Rattle.link_use.specs.declared.stop.Stop.TheVariants as stop
use Rattle.hags_cli.specs.declared.daemon_command.Service.{Service}
use Rattle.hags_cli.specs.declared.edges.Edges.{Edges}
use Rattle.hags_cli.specs.declared.ending.Ending.{Ending}
use Rattle.hags_cli.specs.declared.ending.Ending.TheVariants as ending
use Rattle.hags_cli.specs.Endings.{Says}
use Rattle.hags_cli.specs.Run.{PlaysAll, PlaysPast, PlaysFront, MayHavePlayed, SpellsScript}
use Rattle.hags_cli.specs.Tables.{PlaysTables, TablesPast, MayHaveTables}

-- to play the script of the input and write the lines of these kinds, joined by commas, or of all where none is named; to
-- play a load of so many steps; to write a text; to serve a node, with so many objects for its clients; to ask one; to use
-- one as a client; or to play the script of the input with tables and write the copies of a group
pub data Task : Type 0 where
  plays : List ℕ → Task
  loads : ℕ → Task
  tells : List ℕ → Task
  serves : Service → ℕ → Task
  asks : Asking → Task
  uses : Usage → Task
  tables : List ℕ → Task

-- the kinds that are named
abbrev pub list_in : Option (List ℕ) → List ℕ
list_in None = []
list_in (Some word) = word

-- what is shown of records
abbrev pub shown_of : List ℕ → List Happened → List ℕ
shown_of list = lines_text (kinds_in list)

-- these are the kinds that are named
abbrev pub Shows : Kinds → Option (List ℕ) → Type 0
Shows kinds list = (rs : List Happened) → kinds_text kinds rs ≡ shown_of (list_in list) rs

-- ---- what is asked for

-- kinds joined by commas, each once
abbrev pub played_as : Option (List ℕ) → Option Task
played_as None = Some (plays [])
played_as (Some word) = elim (kinds_of word) [ Some kinds ↦ Some (plays word) | None ↦ None ]

-- whether a daemon serves clients on other machines, and tells them lines of entries
abbrev pub remote_service : Bool → Bool → RemoteService
remote_service false entries = service.Off
remote_service true entries = service.On entries

-- the version that `--version` says
abbrev pub program_version : Version
program_version = record { major = 0; minor = 1; patch = 0 }

-- and what it tells of itself: the version, and the digest of its settings
abbrev pub about_of : ℕ → About
about_of digest = record { version = program_version; settings = digest }

abbrev pub options_of : DaemonOptions → ℕ → Options
options_of o digest = record { service = record { remote = remote_service o.remote o.entries; about = about_of digest }; silence = o.silence; mend = o.mend; gap = o.gap }

-- what a status asks about: what the node knows, or its daemon of itself
abbrev pub subject_of : words.Subject → Subject
subject_of (about.Node what) = subject.Node what
subject_of about.Clients = subject.Daemon Hagscl
subject_of about.Daemon = subject.Daemon Hagsd

-- of who has so many objects
abbrev pub task_for : ℕ → Command → Option Task
task_for objects (command.Run kinds) = played_as kinds
task_for objects (command.Load steps) = Some (loads steps)
task_for objects (command.Help about) = Some (tells (help_of about))
task_for objects command.Version = Some (tells VERSION.now)
task_for objects (command.Daemon node incarnation turns options) = Some (serves (record { node = node; incarnation = incarnation; turns = turns; options = options }) objects)
task_for objects (command.Status about node turns) = Some (asks (record { subject = subject_of about; node = node; turns = turns }))
task_for objects (command.Client node turns key) = Some (uses (record { node = node; turns = turns; key = key }))
task_for objects (command.Table group) = Some (tables group)

abbrev pub task_asked : ℕ → Option Command → Option Task
task_asked objects None = None
task_asked objects (Some c) = task_for objects c

-- what the words ask for, or none: usage
abbrev pub task_of : ℕ → List (List ℕ) → Option Task
task_of objects words = task_asked objects (command_of words)

-- they ask for something, of which this holds
abbrev pub Asks : Option Task → (Task → Type 0) → Type 0
Asks None P = ⊥
Asks (Some task) P = P task

-- ---- what a call saw

-- Of its input what was left and what is, and its faults; and of its outside what was told and what is.
pub record Seen : Type 0 where
  pub left : Option (List ℕ)
  pub rest : Option (List ℕ)
  pub reads : ℕ
  pub reads_now : ℕ
  pub before : Telling
  pub now : Telling

-- by what the source, the outside and their parts tell
abbrev pub seen : {S O : Type 0} → (left : S → Option (List ℕ)) → (faults : S → ℕ) → (told : O → Telling) → (old new : Edges S O) → Seen
seen left faults told old new = record {
  left = left old.input;
  rest = left new.input;
  reads = faults old.input;
  reads_now = faults new.input;
  before = told old.output.outside;
  now = told new.output.outside;
}

-- nothing was told to the link, sent, received or read of the clock
pub record Untouched (x : Seen) : Type 0 where
  pub deeds : x.now.deeds ≡ x.before.deeds
  pub calls : x.now.calls ≡ x.before.calls
  pub places : x.now.places ≡ x.before.places
  pub opened : x.now.opened ≡ x.before.opened
  pub moments : x.now.moments ≡ x.before.moments

-- ---- what a load leaves

-- its packets are within the limit, and its summary was written: that of a safe run
pub record LoadsAll (steps : ℕ) (old new : Option (List ℕ)) : Type 0 where
  pub within : kept_past most_kept (load_script steps) ≡ None
  pub written : Appends old new (load_text steps)
  pub safe : ScriptIsSafe (load_script steps)

-- its packets pass the limit, and nothing was written; the run up to there is safe
pub record LoadsPast (steps : ℕ) (old new : Option (List ℕ)) : Type 0 where
  pub sum : ℕ
  pub past : kept_past most_kept (load_script steps) ≡ Some sum
  pub kept : Keeps old new
  pub safe : KeptRunIsSafe most_kept (load_script steps)

-- a front of its summary was written, or nothing; the run within the limit is safe
pub record LoadsFront (steps : ℕ) (old new : Option (List ℕ)) : Type 0 where
  pub written : GrowsByFront old new (load_text steps)
  pub safe : KeptRunIsSafe most_kept (load_script steps)

abbrev pub LoadEnds : Result (Unit {0}) Ending → ℕ → ℕ → ℕ → Option (List ℕ) → Option (List ℕ) → Type 0
LoadEnds (Ok u) steps faults later old new = LoadsAll steps old new
LoadEnds (Err (ending.Stop stop.NoMemory)) steps faults later old new = LoadsFront steps old new
LoadEnds (Err (ending.Stop stop.WriteFault)) steps faults later old new = Rose faults later × LoadsFront steps old new
LoadEnds (Err ending.TooMuchKept) steps faults later old new = LoadsPast steps old new
LoadEnds (Err e) steps faults later old new = ⊥

-- ---- what a text leaves

abbrev pub TellEnds : Result (Unit {0}) Ending → List ℕ → ℕ → ℕ → Option (List ℕ) → Option (List ℕ) → Type 0
TellEnds (Ok u) text faults later old new = Appends old new text
TellEnds (Err (ending.Stop stop.NoMemory)) text faults later old new = Keeps old new
TellEnds (Err (ending.Stop stop.WriteFault)) text faults later old new = Rose faults later × GrowsByFront old new text
TellEnds (Err e) text faults later old new = ⊥

-- ---- settings

-- how many objects there are, where the last number of 32 bits stands for any more
abbrev pub counted : ℕ → ℕ
counted objects = min objects (2 ^ 32 - 1)

-- what comes of settings that are not read
abbrev pub SettingsEnd : ℕ → Option ℕ → Option (List ℕ) → ℕ → ℕ → Ending → Type 0
SettingsEnd node objects left reads reads_now (ending.BadLine line why) = IfSome left (λ b. daemon_script node objects b ≡ IsNone line why)
SettingsEnd node objects left reads reads_now (ending.Stop stop.NoMemory) = Unit {0}
SettingsEnd node objects left reads reads_now ending.ReadFault = Rose reads reads_now
SettingsEnd node objects left reads reads_now _ = ⊥

-- what comes of the input of a client that is not read
abbrev pub CallsEnd : ℕ → Option (List ℕ) → ℕ → ℕ → Ending → Type 0
CallsEnd node left reads reads_now (ending.BadLine line why) = IfSome left (λ b. client_script node b ≡ IsNone line why)
CallsEnd node left reads reads_now (ending.Stop stop.NoMemory) = Unit {0}
CallsEnd node left reads reads_now ending.ReadFault = Rose reads reads_now
CallsEnd node left reads reads_now _ = ⊥

-- ---- what a daemon leaves

-- the low 32 bits of the clock's seconds, or 1 where these are 0
abbrev pub incarnation_at : ℕ → ℕ
incarnation_at moment = max ((moment / 1000) % 2 ^ 32) 1

-- the clock is read once, for the incarnation
pub record ByClock (before start : Telling) (incarnation : ℕ) : Type 0 where
  pub moment : ℕ
  pub read : Did before start (Read moment ∷ [])
  pub is : incarnation ≡ incarnation_at moment

-- the incarnation is the one that is named, or the clock gives it
abbrev pub Incarnates : Option ℕ → Telling → Telling → ℕ → Type 0
Incarnates (Some named) before start incarnation = (incarnation ≡ named) × (start ≡ before)
Incarnates None before start incarnation = ByClock before start incarnation

-- which daemon runs: with these settings and options, in this incarnation, from what was told by then
pub record Running : Type 0 where
  pub script : Script
  pub options : Options
  pub incarnation : ℕ
  pub start : Telling

-- the settings are those of the input, the options those of the words with the digest of the settings, and the incarnation
-- that of the words or the clock
pub record IsRunning (x : Seen) (s : Service) (objects : ℕ) (r : Running) : Type 0 where
  pub spelled : IfSome x.left (λ b. daemon_script s.node (Some (counted objects)) b ≡ IsScript r.script)
  pub digest : ℕ
  pub digests : IfSome x.left (λ b. digest ≡ settings_digest b)
  pub options : r.options ≡ options_of s.options digest
  pub incarnates : Incarnates s.incarnation x.before r.start r.incarnation

-- it runs, and of it this holds
pub record Runs (x : Seen) (s : Service) (objects : ℕ) (P : Running → Type 0) : Type 0 where
  pub running : Running
  pub is : IsRunning x s objects running
  pub holds : P running

abbrev pub port_of : Service → Running → ℕ
port_of s r = r.script.config.port + s.node

-- whatever its node came to
pub record IsServed (script : Script) (me incarnation : ℕ) (options : Options) (turns : ℕ) (old new : Telling) : Type 0 where
  pub core : Core
  pub serves : ServesAs script me incarnation options turns core old new

-- it did all its turns
abbrev pub ServesAll : Seen → Service → Running → Type 0
ServesAll x s r = OverLink r.script.config (port_of s r) r.start (λ opened. IsServed r.script s.node r.incarnation r.options s.turns opened x.now)

-- it broke off
abbrev pub ServesPart : Seen → Service → Running → Type 0
ServesPart x s r = OverLink r.script.config (port_of s r) r.start (λ opened. ServesFront r.script s.node r.incarnation r.options s.turns opened x.now)

-- the link could not be opened, and nothing more was done; or sixteen receives in a row failed
abbrev pub ServesNoMore : Seen → Service → Running → Type 0
ServesNoMore x s r = OverLinkIf r.script.config (port_of s r) r.start x.now (λ opened. ServesTo r.script s.node r.incarnation r.options s.turns opened x.now)

-- a moment was a pause, and it did all up to there
abbrev pub ServesUpToPause : Seen → Service → Running → Type 0
ServesUpToPause x s r = OverLink r.script.config (port_of s r) r.start (λ opened. ServesToPause r.script s.node r.incarnation r.options s.turns opened x.now)

-- ---- what a question leaves

-- the settings are those of the input, and of them this holds
pub record AsksBy (x : Seen) (a : Asking) (P : Config → Type 0) : Type 0 where
  pub script : Script
  pub spelled : IfSome x.left (λ b. daemon_script a.node None b ≡ IsScript script)
  pub holds : P script.config

-- the link was opened, the question went out, and then this, up to what was told at last
abbrev pub AsksOver : Seen → Asking → (Question → Telling → Type 0) → Config → Type 0
AsksOver x a P c = OverLink c 0 x.before (λ opened. Asked c a opened P)

-- it was answered with a text, and of what was told by then this holds
pub record IsAnswered (x : Seen) (a : Asking) (P : List ℕ → Telling → Type 0) : Type 0 where
  pub text : List ℕ
  pub answered : Telling
  pub asked : AsksBy x a (AsksOver x a (λ question sent. Answered question a.turns nothing_received text sent answered))
  pub holds : P text answered

abbrev pub GivesNone : Seen → Asking → Question → Telling → Type 0
GivesNone x a question sent = Unanswered question a.turns nothing_received sent x.now

abbrev pub GivesFaults : Seen → Asking → Question → Telling → Type 0
GivesFaults x a question sent = Failing question a.turns nothing_received sent x.now

-- the link could not be opened, and nothing more was done; or sixteen receives in a row failed
abbrev pub AsksNoMore : Seen → Asking → Config → Type 0
AsksNoMore x a c = OverLinkIf c 0 x.before x.now (λ opened. Asked c a opened (GivesFaults x a))

-- ---- what a client leaves

-- the settings and the calls are those of the input, and of them this holds
pub record UsesBy (x : Seen) (u : Usage) (P : Script → Type 0) : Type 0 where
  pub script : Script
  pub spelled : IfSome x.left (λ b. client_script u.node b ≡ IsScript script)
  pub holds : P script

-- the link was opened, the words or the clock gave a key, and a client with that key did this from what was told by then
abbrev pub UsesOver : Seen → Usage → (List (List ℕ) → Client → Telling → Type 0) → Script → Type 0
UsesOver x u P s = OverLink s.config 0 x.before (λ opened. Keyed s.config u opened (P s.texts))

-- all its turns, and each call has its answer
abbrev pub UsesAll : Seen → Usage → List (List ℕ) → Client → Telling → Type 0
UsesAll x u lines c start = used.Answered lines c u.turns start x.now

-- all its turns, and some call has no answer
abbrev pub WaitsOn : Seen → Usage → List (List ℕ) → Client → Telling → Type 0
WaitsOn x u lines c start = used.Unanswered lines c u.turns start x.now

-- the last turn brought word of another incarnation of the daemon
abbrev pub LosesSession : Seen → Usage → List (List ℕ) → Client → Telling → Type 0
LosesSession x u lines c start = used.Ended used.IsLost lines c u.turns start x.now

-- the last turn brought word that the daemon keeps no more clients
abbrev pub FindsFull : Seen → Usage → List (List ℕ) → Client → Telling → Type 0
FindsFull x u lines c start = used.Ended used.IsFull lines c u.turns start x.now

abbrev pub FailsOften : Seen → Usage → List (List ℕ) → Client → Telling → Type 0
FailsOften x u lines c start = used.Failing lines c u.turns start x.now

abbrev pub BreaksOff : Seen → Usage → List (List ℕ) → Client → Telling → Type 0
BreaksOff x u lines c start = used.Front lines c u.turns start x.now

-- the link could not be opened, and nothing more was done; or this
abbrev pub UsesOr : Seen → Usage → (List (List ℕ) → Client → Telling → Type 0) → Script → Type 0
UsesOr x u P s = OverLinkIf s.config 0 x.before x.now (λ opened. Keyed s.config u opened (P s.texts))

-- it broke off
abbrev pub UsesPart : Seen → Usage → Script → Type 0
UsesPart x u s = UsesOr x u (BreaksOff x u) s

-- the link could not be opened, or sixteen receives in a row failed
abbrev pub UsesNoMore : Seen → Usage → Script → Type 0
UsesNoMore x u s = UsesOr x u (FailsOften x u) s

-- ---- what each status leaves, task by task

-- all was done: an input is read to its end, and a load and a text read none
abbrev pub DoneAs : Seen → Task → Type 0
DoneAs x (plays list) = IfSome x.left (PlaysAll (shown_of list) x.before.held x.now.held) × IsAtEnd x.rest
DoneAs x (loads steps) = LoadsAll steps x.before.held x.now.held × (x.rest ≡ x.left)
DoneAs x (tells text) = Appends x.before.held x.now.held text × (x.rest ≡ x.left)
DoneAs x (serves s objects) = Runs x s objects (ServesAll x s) × IsAtEnd x.rest
DoneAs x (asks a) = IsAnswered x a (λ text answered. Appends answered.held x.now.held text) × IsAtEnd x.rest
DoneAs x (uses u) = UsesBy x u (UsesOver x u (UsesAll x u)) × IsAtEnd x.rest
DoneAs x (tables g) = IfSome x.left (PlaysTables g x.before.held x.now.held) × IsAtEnd x.rest

-- the input has this first bad line, for this reason: it is in no script, in no settings, or in no calls of a client
abbrev pub HasFault : Task → ℕ → LineWhy → List ℕ → Type 0
HasFault (plays list) line why b = script_of b ≡ IsNone line why
HasFault (serves s objects) line why b = daemon_script s.node (Some (counted objects)) b ≡ IsNone line why
HasFault (asks a) line why b = daemon_script a.node None b ≡ IsNone line why
HasFault (uses u) line why b = client_script u.node b ≡ IsNone line why
HasFault (tables g) line why b = script_of b ≡ IsNone line why
HasFault _ line why b = ⊥

-- a command that reads has such a line, and did nothing else
abbrev pub OutsideAt : ℕ → LineWhy → Seen → Task → Type 0
OutsideAt line why x (loads steps) = ⊥
OutsideAt line why x (tells text) = ⊥
OutsideAt line why x task = IfSome x.left (HasFault task line why) × Keeps x.before.held x.now.held × Untouched x

pub record IsOutside (task : Task) (b : List ℕ) : Type 0 where
  pub line : ℕ
  pub why : LineWhy
  pub fault : HasFault task line why b

abbrev pub OutsideAs : Seen → Task → Type 0
OutsideAs x (loads steps) = ⊥
OutsideAs x (tells text) = ⊥
OutsideAs x task = IfSome x.left (IsOutside task) × Keeps x.before.held x.now.held × Untouched x

-- memory ran out, of faulty words too
abbrev pub MemoryAs : Seen → Option Task → Type 0
MemoryAs x None = Keeps x.before.held x.now.held
MemoryAs x (Some (plays list)) = IfSome x.left (MayHavePlayed (shown_of list) x.before.held x.now.held)
MemoryAs x (Some (loads steps)) = GrowsByFront x.before.held x.now.held (load_text steps)
MemoryAs x (Some (tells text)) = Keeps x.before.held x.now.held
MemoryAs x (Some (serves s objects)) = (Keeps x.before.held x.now.held × Untouched x) ⊎ Runs x s objects (ServesPart x s)
MemoryAs x (Some (asks a)) = Keeps x.before.held x.now.held
MemoryAs x (Some (uses u)) = (Keeps x.before.held x.now.held × Untouched x) ⊎ UsesBy x u (UsesPart x u)
MemoryAs x (Some (tables g)) = IfSome x.left (MayHaveTables g x.before.held x.now.held)

-- the input failed
abbrev pub ReadFaultAs : Seen → Task → Type 0
ReadFaultAs x (loads steps) = ⊥
ReadFaultAs x (tells text) = ⊥
ReadFaultAs x task = Rose x.reads x.reads_now × Keeps x.before.held x.now.held × Untouched x

-- the sink failed
abbrev pub WriteFaultAs : Seen → Task → Type 0
WriteFaultAs x (plays list) = IfSome x.left (PlaysFront (shown_of list) x.before.held x.now.held)
WriteFaultAs x (loads steps) = LoadsFront steps x.before.held x.now.held
WriteFaultAs x (tells text) = GrowsByFront x.before.held x.now.held text
WriteFaultAs x (serves s objects) = Runs x s objects (ServesPart x s)
WriteFaultAs x (asks a) = IsAnswered x a (λ text answered. GrowsByFront answered.held x.now.held text)
WriteFaultAs x (uses u) = UsesBy x u (UsesPart x u)
WriteFaultAs x (tables g) = IfSome x.left (MayHaveTables g x.before.held x.now.held)

-- the link failed
abbrev pub LinkFaultAs : Seen → Task → Type 0
LinkFaultAs x (serves s objects) = Runs x s objects (ServesNoMore x s)
LinkFaultAs x (asks a) = AsksBy x a (AsksNoMore x a) × Keeps x.before.held x.now.held
LinkFaultAs x (uses u) = UsesBy x u (UsesNoMore x u)
LinkFaultAs x _ = ⊥

-- packets passed the limit
abbrev pub PastAs : Seen → Task → Type 0
PastAs x (plays list) = IfSome x.left (PlaysPast (shown_of list) x.before.held x.now.held)
PastAs x (loads steps) = LoadsPast steps x.before.held x.now.held
PastAs x (tables g) = IfSome x.left (TablesPast x.before.held x.now.held)
PastAs x _ = ⊥

-- no reply came
abbrev pub NoReplyAs : Seen → Task → Type 0
NoReplyAs x (asks a) = AsksBy x a (AsksOver x a (GivesNone x a)) × Keeps x.before.held x.now.held
NoReplyAs x (uses u) = UsesBy x u (UsesOver x u (WaitsOn x u))
NoReplyAs x _ = ⊥

-- the daemon was started anew
abbrev pub LostAs : Seen → Task → Type 0
LostAs x (uses u) = UsesBy x u (UsesOver x u (LosesSession x u))
LostAs x _ = ⊥

-- the daemon keeps no more clients
abbrev pub FullAs : Seen → Task → Type 0
FullAs x (uses u) = UsesBy x u (UsesOver x u (FindsFull x u))
FullAs x _ = ⊥

-- a moment was a pause
abbrev pub PausedAs : Seen → Task → Type 0
PausedAs x (serves s objects) = Runs x s objects (ServesUpToPause x s)
PausedAs x _ = ⊥

-- the source tells what is left, and it is settings of the node
abbrev pub SpellsSettings : ℕ → Option ℕ → Option (List ℕ) → Type 0
SpellsSettings node objects None = ⊥
SpellsSettings node objects (Some b) = (s : Script) × (daemon_script node objects b ≡ IsScript s)

-- the source tells what is left, and it is the input of a client of the node
abbrev pub SpellsCalls : ℕ → Option (List ℕ) → Type 0
SpellsCalls node None = ⊥
SpellsCalls node (Some b) = (s : Script) × (client_script node b ≡ IsScript s)

-- what can be done where nothing fails: a load and a text always, to play what is a script, also with tables, and to serve,
-- ask or use by settings
abbrev pub CanBeDone : Seen → Task → Type 0
CanBeDone x (plays list) = SpellsScript x.left
CanBeDone x (loads steps) = Unit {0}
CanBeDone x (tells text) = Unit {0}
CanBeDone x (serves s objects) = SpellsSettings s.node (Some (counted objects)) x.left
CanBeDone x (asks a) = SpellsSettings a.node None x.left
CanBeDone x (uses u) = SpellsCalls u.node x.left
CanBeDone x (tables g) = SpellsScript x.left

-- ---- all endings

abbrev pub FailsAs : Ending → Option Task → Seen → Type 0
FailsAs ending.Usage t x = (t ≡ None) × Keeps x.before.held x.now.held × (x.rest ≡ x.left) × Untouched x
FailsAs (ending.BadLine line why) t x = Asks t (OutsideAt line why x)
FailsAs (ending.Stop stop.NoMemory) t x = MemoryAs x t
FailsAs ending.ReadFault t x = Asks t (ReadFaultAs x)
FailsAs (ending.Stop stop.WriteFault) t x = Rose x.before.write_faults x.now.write_faults × Asks t (WriteFaultAs x)
FailsAs (ending.Stop stop.LinkFault) t x = Rose x.before.link_faults x.now.link_faults × Asks t (LinkFaultAs x)
FailsAs ending.TooMuchKept t x = Asks t (PastAs x)
FailsAs (ending.Stop stop.NoReply) t x = Asks t (NoReplyAs x)
FailsAs (ending.Stop stop.SessionLost) t x = Asks t (LostAs x)
FailsAs (ending.Stop stop.DaemonFull) t x = Asks t (FullAs x)
FailsAs (ending.Stop stop.Paused) t x = Asks t (PausedAs x)

abbrev pub EndsAs : Result (Unit {0}) Ending → Option Task → Seen → Type 0
EndsAs (Ok u) t x = Asks t (DoneAs x)
EndsAs (Err e) t x = FailsAs e t x

-- How a call ended, by its status. `complete`: what can be done is done, or memory runs out, or packets pass the limit, where
-- neither the input nor the output failed, the link held, what was asked and each call was answered, the daemon that a
-- client uses stayed and had room for it, and no moment was a pause.
pub record Ended (status : ℕ) (t : Option Task) (x : Seen) : Type 0 where
  pub usage : status ≡ 1 → (t ≡ None) × Keeps x.before.held x.now.held × (x.rest ≡ x.left) × Untouched x
  pub words : t ≡ None → (status ≡ 1) ⊎ (status ≡ 3)
  pub done : status ≡ 0 → Asks t (DoneAs x)
  pub outside : status ≡ 2 → Asks t (OutsideAs x)
  pub memory : status ≡ 3 → MemoryAs x t
  pub read : status ≡ 4 → Asks t (ReadFaultAs x)
  pub write : status ≡ 5 → Rose x.before.write_faults x.now.write_faults × Asks t (WriteFaultAs x)
  pub link : status ≡ 6 → Rose x.before.link_faults x.now.link_faults × Asks t (LinkFaultAs x)
  pub past : status ≡ 7 → Asks t (PastAs x)
  pub no_reply : status ≡ 9 → Asks t (NoReplyAs x)
  pub lost : status ≡ 10 → Asks t (LostAs x)
  pub full : status ≡ 11 → Asks t (FullAs x)
  pub paused : status ≡ 12 → Asks t (PausedAs x)
  pub no_other : (status ≤ 7) ⊎ ((9 ≤ status) × (status ≤ 12))
  pub complete : Asks t (CanBeDone x) → (Rose x.reads x.reads_now → ⊥) → (Rose x.before.write_faults x.now.write_faults → ⊥) → (Asks t (LinkFaultAs x) → ⊥) → (Asks t (NoReplyAs x) → ⊥) → (Asks t (LostAs x) → ⊥) → (Asks t (FullAs x) → ⊥) → (Asks t (PausedAs x) → ⊥)
      → (status ≡ 0) ⊎ ((status ≡ 3) ⊎ (status ≡ 7))

-- ---- what is said of a bad line

-- the line that names the first bad line, that of the input where the source tells it, is said as err takes it
pub record SaysLine (t : Option Task) (left : Option (List ℕ)) (faults later : ℕ) (old new : Option (List ℕ)) : Type 0 where
  pub line : ℕ
  pub why : LineWhy
  pub fault : IfSome left (λ b. Asks t (λ task. HasFault task line why b))
  pub said : Says faults later old new (written [] (IsNone line why))
