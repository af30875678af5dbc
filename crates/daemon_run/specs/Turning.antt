-- How a daemon that runs does turns as its options ask.
use Rattle.std.specs.Prelude.{◌≡◌, ℕ, true, List, [], ◌∷◌, ◌++◌}
use Rattle.hags_io.specs.Deeds.{Read}
use Rattle.hags_io.specs.Telling.{Telling, Did}
use Rattle.link_use.specs.declared.stop.Stop.{Stop}
use Rattle.link_use.specs.declared.stop.Stop.TheVariants as stop
use Rattle.link_use.specs.Stops.{StopsBy}
use Rattle.node_state.specs.declared.happened.Happened.{Happened}
use Rattle.daemon_model.specs.declared.options.Options.{Options}
use Rattle.daemon_model.specs.declared.options.Pace.{Pace}
use Rattle.daemon_model.specs.Sent.{Exchange}
use Rattle.daemon_model.specs.Daemon.{Daemon, Turn}
use Rattle.daemon_model.specs.Actions.{Action, turn_actions}
use Rattle.daemon_model.specs.Doings.{doings_of, MadeFront}
use Rattle.daemon_model.specs.Options.{is_pause, FollowsIn, paced}
use Rattle.daemon_run.specs.declared.hosted.Hosted.{Hosted}
use Rattle.daemon_run.specs.declared.running.Running.{Running}
use Rattle.daemon_run.specs.Hosting.{Known}
use Rattle.daemon_run.specs.Audience.{Audience}
use Rattle.daemon_run.specs.Doing.{daemon_of, Acts, ActsFail}

-- how a turn stops: as a step does, or by a pause
abbrev pub StopsTurn : Telling → Stop → Type 0
StopsTurn t stop.NoMemory = StopsBy t stop.NoMemory
StopsTurn t stop.WriteFault = StopsBy t stop.WriteFault
StopsTurn t stop.LinkFault = StopsBy t stop.LinkFault
StopsTurn t stop.NoReply = StopsBy t stop.NoReply
StopsTurn t stop.SessionLost = StopsBy t stop.SessionLost
StopsTurn t stop.DaemonFull = StopsBy t stop.DaemonFull
StopsTurn t stop.Paused = Unit {0}

-- a turn was done, between these paces
pub record TurnsAs {C : Type 0} (A : Known → List (Hosted C) → Audience → Type 0) (o : Options) (p q : Pace) (r s : Running C) (old new : Telling) : Type 0 where
  pub turn : Turn
  pub follows : (before : List Exchange) (noted : List Happened) → FollowsIn o p (daemon_of r before noted) turn
  pub paces : (before : List Exchange) (noted : List Happened) → q ≡ paced o p (daemon_of r before noted) turn
  pub acts : Acts A A r s old new (turn_actions turn)

-- of the doings of one there is a front
pub record TurnFront (o : Options) (p : Pace) (d : Daemon) (old new : Telling) : Type 0 where
  pub turn : Turn
  pub follows : FollowsIn o p d turn
  pub made : MadeFront old new (doings_of d (turn_actions turn))

abbrev pub TurnBreaks : {C : Type 0} → Options → Pace → Running C → Telling → Telling → Type 0
TurnBreaks o p r old new = (before : List Exchange) (noted : List Happened) → TurnFront o p (daemon_of r before noted) old new

-- these are the first acts of one
pub record TurnRest (o : Options) (p : Pace) (d : Daemon) (acts : List Action) : Type 0 where
  pub turn : Turn
  pub follows : FollowsIn o p d turn
  pub later : List Action
  pub are : acts ++ later ≡ turn_actions turn

-- in the last of the acts that it did a write failed
pub record TurnFails {C : Type 0} (A : Known → List (Hosted C) → Audience → Type 0) (o : Options) (p : Pace) (r s : Running C) (old new : Telling) : Type 0 where
  pub acts : List Action
  pub fails : ActsFail A A r s old new acts
  pub rest : (before : List Exchange) (noted : List Happened) → TurnRest o p (daemon_of r before noted) acts

-- a moment was read that is a pause, and no turn was done
pub record TurnPauses (o : Options) (p : Pace) (old new : Telling) : Type 0 where
  pub moment : ℕ
  pub read : Did old new (Read moment ∷ [])
  pub pause : is_pause o.gap p.before moment ≡ true
