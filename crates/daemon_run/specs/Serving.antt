-- How turns follow one another.
use Rattle.std.specs.Prelude.{◌≡◌, ℕ, ◌≤◌, ◌<◌, true, List, [], ◌∷◌, ◌++◌, flat_map, length}
use Rattle.hags_io.specs.Deeds.{Read}
use Rattle.hags_io.specs.Telling.{Telling, Did}
use Rattle.node_state.specs.declared.happened.Happened.{Happened}
use Rattle.daemon_model.specs.declared.options.Options.{Options}
use Rattle.daemon_model.specs.declared.options.Pace.{Pace}
use Rattle.daemon_model.specs.Sent.{Exchange}
use Rattle.daemon_model.specs.Daemon.{Daemon, Turn}
use Rattle.daemon_model.specs.Actions.{Action, turn_actions}
use Rattle.daemon_model.specs.Doings.{doings_of, MadeFront}
use Rattle.daemon_model.specs.Options.{is_pause, first_pace, Follows, paced_all}
use Rattle.daemon_model.specs.Lives.{most_failed, GoesOn}
use Rattle.daemon_run.specs.declared.hosted.Hosted.{Hosted}
use Rattle.daemon_run.specs.declared.running.Running.{Running}
use Rattle.daemon_run.specs.Hosting.{Known}
use Rattle.daemon_run.specs.Audience.{Audience}
use Rattle.daemon_run.specs.Doing.{daemon_of, Acts, ActsFail}

abbrev pub acts_in : List Turn → List Action
acts_in turns = flat_map turn_actions turns

-- so many turns, from the first pace to the second, after none of which too many receives in a row had failed
pub record TurnsDone {C : Type 0} (A : Known → List (Hosted C) → Audience → Type 0) (o : Options) (p q : Pace) (r s : Running C) (count : ℕ) (old new : Telling) : Type 0 where
  pub turns : List Turn
  pub so_many : length turns ≡ count
  pub follows : (before : List Exchange) (noted : List Happened) → Follows o p (daemon_of r before noted) turns
  pub paces : (before : List Exchange) (noted : List Happened) → q ≡ paced_all o p (daemon_of r before noted) turns
  pub acts : Acts A A r s old new (acts_in turns)
  pub goes_on : (before : List Exchange) (noted : List Happened) → GoesOn (daemon_of r before noted) turns

-- from this moment on
pub record TurnsServed {C : Type 0} (A : Known → List (Hosted C) → Audience → Type 0) (o : Options) (start : ℕ) (r s : Running C) (count : ℕ) (old new : Telling) : Type 0 where
  pub pace : Pace
  pub done : TurnsDone A o (first_pace start) pace r s count old new

-- at most so many turns, after the last of which too many had
pub record TurnsEnded {C : Type 0} (A : Known → List (Hosted C) → Audience → Type 0) (o : Options) (p : Pace) (r s : Running C) (count : ℕ) (old new : Telling) : Type 0 where
  pub turns : List Turn
  pub at_most : length turns ≤ count
  pub follows : (before : List Exchange) (noted : List Happened) → Follows o p (daemon_of r before noted) turns
  pub acts : Acts A A r s old new (acts_in turns)
  pub ended : most_failed ≤ s.receiving.failed

-- fewer turns, and then a moment was read that is a pause
pub record TurnsPause {C : Type 0} (A : Known → List (Hosted C) → Audience → Type 0) (o : Options) (p : Pace) (r s : Running C) (count : ℕ) (old new : Telling) : Type 0 where
  pub turns : List Turn
  pub fewer : length turns < count
  pub follows : (before : List Exchange) (noted : List Happened) → Follows o p (daemon_of r before noted) turns
  pub reached : Telling
  pub acts : Acts A A r s old reached (acts_in turns)
  pub moment : ℕ
  pub read : Did reached new (Read moment ∷ [])
  pub pause : (before : List Exchange) (noted : List Happened) → is_pause o.gap (paced_all o p (daemon_of r before noted) turns).before moment ≡ true

-- at most so many turns, of whose doings there is a front
pub record FrontOfTurns (o : Options) (p : Pace) (d : Daemon) (count : ℕ) (old new : Telling) : Type 0 where
  pub turns : List Turn
  pub at_most : length turns ≤ count
  pub follows : Follows o p d turns
  pub made : MadeFront old new (doings_of d (acts_in turns))

abbrev pub TurnsFront : {C : Type 0} → Options → Pace → Running C → ℕ → Telling → Telling → Type 0
TurnsFront o p r count old new = (before : List Exchange) (noted : List Happened) → FrontOfTurns o p (daemon_of r before noted) count old new

-- these are the first acts of at most so many turns
pub record RestOfTurns (o : Options) (p : Pace) (d : Daemon) (count : ℕ) (acts : List Action) : Type 0 where
  pub turns : List Turn
  pub at_most : length turns ≤ count
  pub follows : Follows o p d turns
  pub later : List Action
  pub are : acts ++ later ≡ acts_in turns

-- in the last act that was done a write failed
pub record TurnsFail {C : Type 0} (A : Known → List (Hosted C) → Audience → Type 0) (o : Options) (p : Pace) (r s : Running C) (count : ℕ) (old new : Telling) : Type 0 where
  pub acts : List Action
  pub fails : ActsFail A A r s old new acts
  pub rest : (before : List Exchange) (noted : List Happened) → RestOfTurns o p (daemon_of r before noted) count acts
