-- Opens every word of a run, for computations.
use Rattle.client_callbacks.specs.Votes.{votes_opens}
use Rattle.node_state.specs.Opens.{node_opens}
use Rattle.world_model.specs.Text.{text_opens}
use Rattle.world_model.specs.Words.{words_opens}
use Rattle.world_model.specs.Lines.{lines_opens}
use Rattle.world_model.specs.Reading.{reading_opens}
use Rattle.world_model.specs.Settings.{settings_read_opens}
use Rattle.world_model.specs.World.{world_opens}
use Rattle.world_model.specs.Play.{play_opens}
use Rattle.world_model.specs.Kept.{kept_opens}
use Rattle.world_model.specs.Load.{load_opens}
use Rattle.script_examples.specs.Samples.{samples_opens}

unfoldable pub all_opens : Unit {0}
unfolding votes_opens node_opens text_opens words_opens lines_opens reading_opens settings_read_opens world_opens play_opens kept_opens load_opens samples_opens
all_opens = tt
