-- The laws of worlds whose clients are of any kind.
use Rattle.std.specs.Prelude.{◌≡◌, List, Option}
use Rattle.node_state.specs.declared.config.Config.{Config}
use Rattle.world_model.specs.declared.event.Event.{Event}
use Rattle.world_model.specs.declared.script.Line.{Line}
use Rattle.world_model.specs.World.{World, happens}
use Rattle.world_model.specs.Play.{played}
use Rattle.world_laws.specs.world_runs.Runs.{SameRun}
use Rattle.world_laws.specs.world_answers.Answers.{Items, AllWorded, Answered, goes_on, worded}
use Rattle.world_laws.specs.world_answers.Plays.{AnsweredPlay, starting, PlaysLines}

-- clients that vote by the words of a script are one kind of them
abbrev pub WordsAreAnswers : Type 0
WordsAreAnswers = (w : World) (e : Event) → happens w e ≡ goes_on w (worded w e)

-- what happens in a world does not depend on what waits there
abbrev pub WaitingIsNotRead : Type 0
WaitingIsNotRead = (w v : World) (e : Answered) → SameRun w v → SameRun (goes_on w e) (goes_on v e)

-- there is a play of any lines
abbrev pub PlaysGoOn : Type 0
PlaysGoOn = (said : Items → Option Items) (p : AnsweredPlay) (ls : List Line) → (q : AnsweredPlay) × PlaysLines said p ls q

-- where each client votes just as its word says, it comes to the one world of the definitions
abbrev pub WordedPlaysAreOne : Type 0
WordedPlaysAreOne = (said : Items → Option Items) → AllWorded said → (c : Config) (ls : List Line) (q : AnsweredPlay) → PlaysLines said (starting c) ls q → q.world ≡ (played c ls).world
