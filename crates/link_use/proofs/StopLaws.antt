-- What stops a step stops who does it.
use Rattle.hags_io.specs.Telling.{Telling}
use Rattle.link_use.specs.declared.stop.Stop.{Stop}
use Rattle.link_use.specs.declared.stop.Stop.TheVariants as stop
use Rattle.link_use.specs.Stops.{StopsBy, StopsDaemon}

pub stops_daemon : (t : Telling) (e : Stop) → StopsBy t e → StopsDaemon e
stops_daemon t stop.NoMemory h = tt
stops_daemon t stop.WriteFault h = tt
stops_daemon t stop.LinkFault h = absurd h
stops_daemon t stop.NoReply h = absurd h
stops_daemon t stop.SessionLost h = absurd h
stops_daemon t stop.DaemonFull h = absurd h
stops_daemon t stop.Paused h = absurd h
