-- How work over an outside stops: a step of it, and the whole of it by who works.
use Rattle.hags_io.specs.Fronts.{EndsByWrite}
use Rattle.hags_io.specs.Telling.{Telling}
use Rattle.link_use.specs.declared.stop.Stop.{Stop}
use Rattle.link_use.specs.declared.stop.Stop.TheVariants as stop

-- Memory has run out; or the last that was done is a write that failed. The link stops no step, nor does a reply that did
-- not come, nor the end of a session, nor a pause.
abbrev pub StopsBy : Telling → Stop → Type 0
StopsBy t stop.NoMemory = Unit {0}
StopsBy t stop.WriteFault = EndsByWrite t
StopsBy t stop.LinkFault = ⊥
StopsBy t stop.NoReply = ⊥
StopsBy t stop.SessionLost = ⊥
StopsBy t stop.DaemonFull = ⊥
StopsBy t stop.Paused = ⊥

-- a daemon waits for no reply, and has no session with another
abbrev pub StopsDaemon : Stop → Type 0
StopsDaemon stop.NoMemory = Unit {0}
StopsDaemon stop.WriteFault = Unit {0}
StopsDaemon stop.LinkFault = Unit {0}
StopsDaemon stop.NoReply = ⊥
StopsDaemon stop.SessionLost = ⊥
StopsDaemon stop.DaemonFull = ⊥
StopsDaemon stop.Paused = Unit {0}

-- a client reads no pause off its clock
abbrev pub StopsClient : Stop → Type 0
StopsClient stop.NoMemory = Unit {0}
StopsClient stop.WriteFault = Unit {0}
StopsClient stop.LinkFault = Unit {0}
StopsClient stop.NoReply = Unit {0}
StopsClient stop.SessionLost = Unit {0}
StopsClient stop.DaemonFull = Unit {0}
StopsClient stop.Paused = ⊥

-- who asks writes nothing, and has no session
abbrev pub StopsQuestion : Stop → Type 0
StopsQuestion stop.NoMemory = Unit {0}
StopsQuestion stop.WriteFault = ⊥
StopsQuestion stop.LinkFault = Unit {0}
StopsQuestion stop.NoReply = Unit {0}
StopsQuestion stop.SessionLost = ⊥
StopsQuestion stop.DaemonFull = ⊥
StopsQuestion stop.Paused = ⊥
