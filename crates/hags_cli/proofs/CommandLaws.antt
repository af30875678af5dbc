-- How the commands that take settings end.
use Rattle.std.proofs.Common.{◌≡◌, ℕ, ◌+◌, ◌-◌, ◌^◌, min, List, [], ◌∷◌, Option, Some, None, IfSome, IsSomeAnd, IsErr, IsErrAnd, refl, sym, subst, inr, arith}
use Rattle.std.specs.Prelude.{Result, Ok, Err}
use Rattle.std.specs.Io.KnownBytes.{IsAtEnd}
use Rattle.std.proofs.KnownBytes.{Keeps-trans}
use Rattle.hags_io.specs.Edges.{Rose}
use Rattle.hags_io.specs.Deeds.{Deed, Read}
use Rattle.hags_io.specs.Telling.{Telling, Did, Rises, link_failures, write_failures}
use Rattle.link_use.specs.Receiving.{nothing_received}
use Rattle.node_state.specs.declared.config.Config.{Config}
use Rattle.node_state.specs.declared.state.Core.{Core}
use Rattle.world_model.specs.declared.script.Script.{Script}
use Rattle.world_model.specs.Reading.{IsScript, IsNone}
use Rattle.world_model.specs.Settings.{daemon_script}
use Rattle.settings_digest.specs.Digest.{settings_digest}
use Rattle.daemon_model.specs.declared.options.Options.{Options}
use Rattle.daemon_model.specs.Settings.{OverLink, OverLinkIf}
use Rattle.daemon_model.specs.Lives.{ServesAs, ServesTo, ServesToPause, ServesFront}
use Rattle.status_client.specs.declared.question.Asking.{Asking}
use Rattle.status_client.specs.Asked.{IsUnwritten, Answered}
use Rattle.link_use.specs.declared.stop.Stop.{Stop}
use Rattle.link_use.specs.declared.stop.Stop.TheVariants as stop
use Rattle.link_use.specs.Stops.{StopsDaemon, StopsQuestion}
use Rattle.hags_cli.specs.declared.daemon_command.Service.{Service}
use Rattle.hags_cli.specs.declared.ending.Ending.{Ending}
use Rattle.hags_cli.specs.declared.ending.Ending.TheVariants as ending
use Rattle.hags_cli.specs.Tasks.{serves, asks, Seen, Untouched, counted, SettingsEnd, options_of, incarnation_at, ByClock, Incarnates, Running, Runs, ServesAll, ServesPart, ServesNoMore, ServesUpToPause, AsksBy, AsksOver, GivesNone, AsksNoMore, TellEnds, FailsAs, EndsAs}
use Rattle.hags_cli.proofs.EndLaws.{ended_by}
use Rattle.hags_cli.proofs.OutputLaws.{rose_within}
use Rattle.hags_cli.proofs.TaskLaws.{keeps_same, memory_ends}

-- ---- settings that are not read

pub serves_settings : (e : Ending) (s : Service) (objects n : ℕ) (x : Seen) → n ≡ counted objects → x.now.held ≡ x.before.held → Untouched x → SettingsEnd s.node (Some n) x.left x.reads x.reads_now e → FailsAs e (Some (serves s objects)) x
serves_settings ending.Usage s objects n x is still touched h = absurd h
serves_settings (ending.BadLine line why) s objects n x is still touched h = (subst (λ (k : ℕ). IfSome x.left (λ b. daemon_script s.node (Some k) b ≡ IsNone line why)) is h, keeps_same x still, touched)
serves_settings (ending.Stop stop.NoMemory) s objects n x is still touched h = memory_ends (Some (serves s objects)) x still touched
serves_settings ending.ReadFault s objects n x is still touched h = (h, keeps_same x still, touched)
serves_settings (ending.Stop stop.WriteFault) s objects n x is still touched h = absurd h
serves_settings (ending.Stop stop.LinkFault) s objects n x is still touched h = absurd h
serves_settings ending.TooMuchKept s objects n x is still touched h = absurd h
serves_settings (ending.Stop stop.NoReply) s objects n x is still touched h = absurd h
serves_settings (ending.Stop stop.SessionLost) s objects n x is still touched h = absurd h
serves_settings (ending.Stop stop.DaemonFull) s objects n x is still touched h = absurd h
serves_settings (ending.Stop stop.Paused) s objects n x is still touched h = absurd h

pub asks_settings : (e : Ending) (a : Asking) (x : Seen) → x.now.held ≡ x.before.held → Untouched x → SettingsEnd a.node None x.left x.reads x.reads_now e → FailsAs e (Some (asks a)) x
asks_settings ending.Usage a x still touched h = absurd h
asks_settings (ending.BadLine line why) a x still touched h = (h, keeps_same x still, touched)
asks_settings (ending.Stop stop.NoMemory) a x still touched h = keeps_same x still
asks_settings ending.ReadFault a x still touched h = (h, keeps_same x still, touched)
asks_settings (ending.Stop stop.WriteFault) a x still touched h = absurd h
asks_settings (ending.Stop stop.LinkFault) a x still touched h = absurd h
asks_settings ending.TooMuchKept a x still touched h = absurd h
asks_settings (ending.Stop stop.NoReply) a x still touched h = absurd h
asks_settings (ending.Stop stop.SessionLost) a x still touched h = absurd h
asks_settings (ending.Stop stop.DaemonFull) a x still touched h = absurd h
asks_settings (ending.Stop stop.Paused) a x still touched h = absurd h

-- ---- a question

asked_by : (x : Seen) (a : Asking) (s : Script) (P : Config → Type 0) → IfSome x.left (λ b. daemon_script a.node None b ≡ IsScript s) → P s.config → AsksBy x a P
asked_by x a s P spelled h = record { script = s; spelled = spelled; holds = h }

rises_on : (t u : Telling) (n : ℕ) (ds : List Deed) → Did t u ds → Rose u.write_faults n → Rose t.write_faults n
rises_on t u n ds h rose = let r : Rises t.write_faults u.write_faults (write_failures ds) = h.write_faults in omega arith

links_on : (t u : Telling) (n : ℕ) (ds : List Deed) → Did t u ds → Rose u.link_faults n → Rose t.link_faults n
links_on t u n ds h rose = let r : Rises t.link_faults u.link_faults (link_failures ds) = h.link_faults in omega arith

-- What came of the write of an answer that was got by then. Nothing was written before it.
told_so : (r : Result (Unit {0}) Ending) (a : Asking) (x : Seen) (s : Script) (text : List ℕ) (answered : Telling) → IfSome x.left (λ b. daemon_script a.node None b ≡ IsScript s) → IsAtEnd x.rest
    → AsksOver x a (λ question sent. Answered question a.turns nothing_received text sent answered) s.config → IsUnwritten x.before answered → TellEnds r text (min answered.write_faults (2 ^ 64 - 1)) (min x.now.write_faults (2 ^ 64 - 1)) answered.held x.now.held → EndsAs r (Some (asks a)) x
told_so (Ok u) a x s text answered spelled end asked kept h = (record { text = text; answered = answered; asked = asked_by x a s _ spelled asked; holds = h }, end)
told_so (Err ending.Usage) a x s text answered spelled end asked kept h = absurd h
told_so (Err (ending.BadLine line why)) a x s text answered spelled end asked kept h = absurd h
told_so (Err (ending.Stop stop.NoMemory)) a x s text answered spelled end asked kept h = Keeps-trans x.before.held answered.held x.now.held kept h
told_so (Err ending.ReadFault) a x s text answered spelled end asked kept h = absurd h
told_so (Err (ending.Stop stop.WriteFault)) a x s text answered spelled end asked kept h = (
  rises_on x.before asked.opened x.now.write_faults _ asked.did
      (rises_on asked.opened asked.holds.sent x.now.write_faults asked.holds.went.deeds asked.holds.went.told
      (rises_on asked.holds.sent answered x.now.write_faults _ asked.holds.then.told (rose_within answered.write_faults x.now.write_faults h.0))),
  record { text = text; answered = answered; asked = asked_by x a s _ spelled asked; holds = h.1 },
)
told_so (Err (ending.Stop stop.LinkFault)) a x s text answered spelled end asked kept h = absurd h
told_so (Err ending.TooMuchKept) a x s text answered spelled end asked kept h = absurd h
told_so (Err (ending.Stop stop.NoReply)) a x s text answered spelled end asked kept h = absurd h
told_so (Err (ending.Stop stop.SessionLost)) a x s text answered spelled end asked kept h = absurd h
told_so (Err (ending.Stop stop.DaemonFull)) a x s text answered spelled end asked kept h = absurd h
told_so (Err (ending.Stop stop.Paused)) a x s text answered spelled end asked kept h = absurd h

pub asks_answered : (r : Result (Unit {0}) Ending) (a : Asking) (x : Seen) (s : Script) (text told : List ℕ) (answered : Telling) → told ≡ text → IfSome x.left (λ b. daemon_script a.node None b ≡ IsScript s) → IsAtEnd x.rest
    → AsksOver x a (λ question sent. Answered question a.turns nothing_received text sent answered) s.config → IsUnwritten x.before answered
    → TellEnds r told (min answered.write_faults (2 ^ 64 - 1)) (min x.now.write_faults (2 ^ 64 - 1)) answered.held x.now.held → EndsAs r (Some (asks a)) x
asks_answered r a x s text told answered same spelled end asked kept h =
    told_so r a x s text answered spelled end asked kept (subst (λ (t : List ℕ). TellEnds r t (min answered.write_faults (2 ^ 64 - 1)) (min x.now.write_faults (2 ^ 64 - 1)) answered.held x.now.held) same h)

-- by whatever fault it was not answered, nothing was written
pub asks_fault : (a : Asking) (x : Seen) (s : Script) (f : Stop) (e : Ending) → e ≡ ending.Stop f → StopsQuestion f → IfSome x.left (λ b. daemon_script a.node None b ≡ IsScript s) → IsUnwritten x.before x.now → (f ≡ stop.NoReply → AsksOver x a (GivesNone x a) s.config)
    → (f ≡ stop.LinkFault → AsksNoMore x a s.config) → (f ≡ stop.LinkFault → Rose x.before.link_faults x.now.link_faults) → FailsAs e (Some (asks a)) x
asks_fault a x s f e is stops spelled kept unanswered failing failed = subst (λ (z : Ending). FailsAs z (Some (asks a)) x) (sym is) (by f stops unanswered failing failed)
  where
    by : (f : Stop) → StopsQuestion f → (f ≡ stop.NoReply → AsksOver x a (GivesNone x a) s.config) → (f ≡ stop.LinkFault → AsksNoMore x a s.config) → (f ≡ stop.LinkFault → Rose x.before.link_faults x.now.link_faults) → FailsAs (ending.Stop f) (Some (asks a)) x
    by stop.NoMemory stops unanswered failing failed = kept
    by stop.WriteFault stops unanswered failing failed = absurd stops
    by stop.LinkFault stops unanswered failing failed = (failed refl, (asked_by x a s _ spelled (failing refl), kept))
    by stop.NoReply stops unanswered failing failed = (asked_by x a s _ spelled (unanswered refl), kept)
    by stop.SessionLost stops unanswered failing failed = absurd stops
    by stop.DaemonFull stops unanswered failing failed = absurd stops
    by stop.Paused stops unanswered failing failed = absurd stops

-- ---- a daemon

pub by_clock : (t u : Telling) (moment n : ℕ) → Did t u (Read moment ∷ []) → n ≡ incarnation_at moment → ByClock t u n
by_clock t u moment n read is = record { moment = moment; read = read; is = is }

-- a count that rose from the start of a daemon on rose from before it
written_from : (named : Option ℕ) (before start : Telling) (incarnation n : ℕ) → Incarnates named before start incarnation → Rose start.write_faults n → Rose before.write_faults n
written_from (Some k) before start incarnation n h rose = subst (λ (t : Telling). Rose t.write_faults n) h.1 rose
written_from None before start incarnation n h rose = rises_on before start n (Read h.moment ∷ []) h.read rose

linked_from : (named : Option ℕ) (before start : Telling) (incarnation n : ℕ) → Incarnates named before start incarnation → Rose start.link_faults n → Rose before.link_faults n
linked_from (Some k) before start incarnation n h rose = subst (λ (t : Telling). Rose t.link_faults n) h.1 rose
linked_from None before start incarnation n h rose = links_on before start n (Read h.moment ∷ []) h.read rose

module _ (s : Service) (objects n : ℕ) (x : Seen) (script : Script) (digest : ℕ) (options : Options) (incarnation : ℕ) (start : Telling) (count : n ≡ counted objects) (incarnates : Incarnates s.incarnation x.before start incarnation) (spelled : IfSome x.left (λ b. daemon_script s.node (Some n) b ≡ IsScript script)) (digests : IfSome x.left (λ b. digest ≡ settings_digest b)) (are : options ≡ options_of s.options digest) where
  runs : (P : Running → Type 0) → P (record { script = script; options = options; incarnation = incarnation; start = start }) → Runs x s objects P
  runs P h = record {
    running = record { script = script; options = options; incarnation = incarnation; start = start };
    is = record { spelled = subst (λ (k : ℕ). IfSome x.left (λ b. daemon_script s.node (Some k) b ≡ IsScript script)) count spelled; digest = digest; digests = digests; options = are; incarnates = incarnates };
    holds = h;
  }

  pub serves_done : {N : Type 0} (node : Option N) (core : N → Core) → IsAtEnd x.rest → IsSomeAnd node (λ n. OverLink script.config (script.config.port + s.node) start (λ opened. ServesAs script s.node incarnation options s.turns (core n) opened x.now)) → EndsAs (Ok tt) (Some (serves s objects)) x
  serves_done None core end h = absurd h
  serves_done (Some n) core end h = (runs (ServesAll x s) (record { opened = h.opened; did = h.did; holds = record { core = core n; serves = h.holds } }), end)

  -- whatever stopped it
  pub serves_stop : (r : Result (Unit {0}) Ending) (f : Stop) → IsErr r × IsErrAnd r (λ e. e ≡ ending.Stop f) → StopsDaemon f → (f ≡ stop.NoMemory → OverLink script.config (script.config.port + s.node) start (λ opened. ServesFront script s.node incarnation options s.turns opened x.now))
      → (f ≡ stop.WriteFault → OverLink script.config (script.config.port + s.node) start (λ opened. ServesFront script s.node incarnation options s.turns opened x.now))
      → (f ≡ stop.Paused → OverLink script.config (script.config.port + s.node) start (λ opened. ServesToPause script s.node incarnation options s.turns opened x.now)) → (f ≡ stop.LinkFault → OverLinkIf script.config (script.config.port + s.node) start x.now (λ opened. ServesTo script s.node incarnation options s.turns opened x.now)) → (f ≡ stop.WriteFault → Rose start.write_faults x.now.write_faults)
      → (f ≡ stop.LinkFault → Rose start.link_faults x.now.link_faults) → EndsAs r (Some (serves s objects)) x
  serves_stop r f is stops memory written paused link wrote failed = ended_by r (ending.Stop f) (λ q. EndsAs q (Some (serves s objects)) x) is (by f stops memory written paused link wrote failed)
    where
      by : (f : Stop) → StopsDaemon f → (f ≡ stop.NoMemory → OverLink script.config (script.config.port + s.node) start (λ opened. ServesFront script s.node incarnation options s.turns opened x.now))
          → (f ≡ stop.WriteFault → OverLink script.config (script.config.port + s.node) start (λ opened. ServesFront script s.node incarnation options s.turns opened x.now))
          → (f ≡ stop.Paused → OverLink script.config (script.config.port + s.node) start (λ opened. ServesToPause script s.node incarnation options s.turns opened x.now)) → (f ≡ stop.LinkFault → OverLinkIf script.config (script.config.port + s.node) start x.now (λ opened. ServesTo script s.node incarnation options s.turns opened x.now)) → (f ≡ stop.WriteFault → Rose start.write_faults x.now.write_faults)
          → (f ≡ stop.LinkFault → Rose start.link_faults x.now.link_faults) → FailsAs (ending.Stop f) (Some (serves s objects)) x
      by stop.NoMemory stops memory written paused link wrote failed = inr (runs (ServesPart x s) (memory refl))
      by stop.WriteFault stops memory written paused link wrote failed = (written_from s.incarnation x.before start incarnation x.now.write_faults incarnates (wrote refl), runs (ServesPart x s) (written refl))
      by stop.LinkFault stops memory written paused link wrote failed = (linked_from s.incarnation x.before start incarnation x.now.link_faults incarnates (failed refl), runs (ServesNoMore x s) (link refl))
      by stop.NoReply stops memory written paused link wrote failed = absurd stops
      by stop.SessionLost stops memory written paused link wrote failed = absurd stops
      by stop.DaemonFull stops memory written paused link wrote failed = absurd stops
      by stop.Paused stops memory written paused link wrote failed = runs (ServesUpToPause x s) (paused refl)
