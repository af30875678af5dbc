-- The logs have the records of a run but for lives in which nothing is done.
use Rattle.audit_laws.proofs.Logged.{log_texts_are_seen}
use Rattle.network_model.specs.Network.{no_net}
use Rattle.network_safety.specs.Logs.{logged}
use Rattle.network_safety.proofs.Logs.{daemons_log}
use Rattle.network_audit.specs.Law.{DaemonTextsAreSeen}

pub daemon_texts_are_seen : DaemonTextsAreSeen
daemon_texts_are_seen c acts run fit = let d = daemons_log c acts run in log_texts_are_seen c d.scene d.reached fit (logged c no_net acts) d.logs
