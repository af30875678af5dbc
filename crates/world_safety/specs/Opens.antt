-- Opens every word of a run, for computations.
use Rattle.client_callbacks.specs.Votes.{votes_opens}
use Rattle.node_state.specs.Opens.{node_opens}
use Rattle.world_model.specs.Reading.{reading_opens}
use Rattle.world_model.specs.Load.{load_opens}
use Rattle.world_model.specs.World.{world_opens}
use Rattle.world_laws.specs.world_answers.Answers.{answers_opens}
use Rattle.world_safety.specs.Samples.{samples_opens}

unfoldable pub all_opens : Unit {0}
unfolding votes_opens node_opens reading_opens load_opens world_opens answers_opens samples_opens
all_opens = tt
