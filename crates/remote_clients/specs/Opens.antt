-- Opens every word of remote clients, for computations.
use Rattle.remote_session.specs.Daemon.{daemon_opens}
use Rattle.remote_session.specs.Ending.{ending_opens}
use Rattle.script_reader.specs.CallLines.{call_lines_opens}
use Rattle.remote_clients.specs.Clients.{clients_opens}
use Rattle.remote_clients.specs.Sessions.{sessions_opens}
use Rattle.remote_clients.specs.Entries.{entries_opens}
use Rattle.remote_clients.specs.Ending.{session_ending_opens}

unfoldable pub remote_clients_opens : Unit {0}
unfolding daemon_opens ending_opens call_lines_opens clients_opens sessions_opens entries_opens session_ending_opens
remote_clients_opens = tt
