-- The laws on logs.
use Rattle.std.specs.Prelude.{ℕ, ◌≡◌, false, List}
use Rattle.node_state.specs.declared.config.Config.{Config}
use Rattle.node_state.specs.declared.happened.Happened.{Happened}
use Rattle.node_state.specs.Settings.{is_fixed}
use Rattle.run_safety.specs.Past.{records_of}
use Rattle.step_refinement.specs.Tied.{Scene}
use Rattle.step_refinement.specs.Runs.{Reached}
use Rattle.run_laws.specs.ring_runs.Rings.{AddressesFit}
use Rattle.run_laws.specs.seen_runs.Seen.{Seen}
use Rattle.run_laws.specs.seen_runs.Rings.{RingsSeen}
use Rattle.log_laws.specs.Logs.{Logs, AllUpright, BasesComeFromGroups}

-- what logs have of records that are Seen is Seen
abbrev pub LogsAreSeen : Type 0
LogsAreSeen = (rs ls : List Happened) → Logs rs ls → Seen rs → AllUpright rs → BasesComeFromGroups rs → Seen ls

-- and of a network whose rings are seen, its rings are
abbrev pub LoggedRingsAreSeen : Type 0
LoggedRingsAreSeen = (net : ℕ) (rs ls : List Happened) → Logs rs ls → RingsSeen net rs → RingsSeen net ls

-- the logs show by themselves what records show, with the rings of each network whose addresses differ
pub record ShowsAll (c : Config) (ls : List Happened) : Type 0 where
  pub seen : Seen ls
  pub rings : (net : ℕ) → AddressesFit c net → RingsSeen net ls

-- whatever starts, stops and steps outside of mode fixed, where all nodes start in their first incarnation at once
abbrev pub EveryRunIsSeenInLogs : Type 0
EveryRunIsSeenInLogs =
    (c : Config) (w : Scene) → Reached c w → is_fixed c.mode ≡ false → (ls : List Happened) → Logs (records_of w.before) ls → ShowsAll c ls
