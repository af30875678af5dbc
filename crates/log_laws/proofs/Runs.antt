-- What logs have of every run is Seen.
use Rattle.run_safety.specs.Past.{records_of}
use Rattle.step_refinement.specs.Tied.{opening_of}
use Rattle.step_refinement.proofs.RunLaw.{reached_runs}
use Rattle.run_laws.proofs.seen_runs.Law.{traces_seen}
use Rattle.run_laws.proofs.seen_runs.Rings.{every_ring_seen}
use Rattle.log_laws.specs.Law.{EveryRunIsSeenInLogs}
use Rattle.log_laws.proofs.Law.{logs_are_seen, rings_are_seen}
use Rattle.log_laws.proofs.Ups.{runs_upright}
use Rattle.log_laws.proofs.Groups.{bases_come}

pub every_run_is_seen_in_logs : EveryRunIsSeenInLogs
every_run_is_seen_in_logs c w k free ls l =
    record {
      seen = logs_are_seen (records_of w.before) ls l (traces_seen c w k) (runs_upright c w k) (bases_come (opening_of w.config) w.before (reached_runs c w k).0);
      rings = λ net fit. rings_are_seen net (records_of w.before) ls l (every_ring_seen c w k net fit);
    }
