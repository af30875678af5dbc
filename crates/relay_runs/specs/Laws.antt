-- The laws of worlds with relays whose clients are of any kind.
use Rattle.std.specs.Prelude.{◌≡◌, List, Option}
use Rattle.node_state.specs.declared.config.Config.{Config}
use Rattle.world_model.specs.declared.script.Line.{Line}
use Rattle.world_laws.specs.world_answers.Answers.{Items, AllWorded, Answered}
use Rattle.relay_model.specs.Relays.{Relayed, relays_on}
use Rattle.relay_model.specs.Play.{played}
use Rattle.relay_runs.specs.Runs.{SameRelayed}
use Rattle.relay_runs.specs.Plays.{AnsweredPlay, starting, PlaysLines}

-- what happens in a world does not depend on what waits there
abbrev pub WaitingIsNotRead : Type 0
WaitingIsNotRead = (r v : Relayed) (e : Answered) → SameRelayed r v → SameRelayed (relays_on r e) (relays_on v e)

-- there is a play of any lines
abbrev pub PlaysGoOn : Type 0
PlaysGoOn = (said : Items → Option Items) (p : AnsweredPlay) (ls : List Line) → (q : AnsweredPlay) × PlaysLines said p ls q

-- where each client votes just as its word says, it comes to the one world of the definitions
abbrev pub WordedPlaysAreOne : Type 0
WordedPlaysAreOne = (said : Items → Option Items) → AllWorded said → (c : Config) (ls : List Line) (q : AnsweredPlay) → PlaysLines said (starting c) ls q → q.world ≡ (played c ls).world
