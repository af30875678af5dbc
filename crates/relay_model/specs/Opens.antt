-- Opens every word that the worked examples compute.
use Rattle.client_callbacks.specs.Votes.{votes_opens}
use Rattle.node_reach.specs.Opens.{all_opens as reach_opens}
use Rattle.node_state.specs.Opens.{node_opens}
use Rattle.route_state.specs.Envelope.{envelope_opens}
use Rattle.route_state.specs.Way.{way_opens}
use Rattle.route_state.specs.Samples.{samples_opens as envelopes_open}
use Rattle.world_model.specs.Text.{text_opens}
use Rattle.world_model.specs.Reading.{reading_opens}
use Rattle.world_model.specs.World.{world_opens}
use Rattle.world_model.specs.Play.{play_opens as direct_opens}
use Rattle.world_model.specs.Kept.{kept_opens}
use Rattle.world_laws.specs.world_answers.Answers.{answers_opens}
use Rattle.relay_model.specs.Leaving.{leaving_opens}
use Rattle.relay_model.specs.Relays.{relays_opens}
use Rattle.relay_model.specs.Play.{play_opens}
use Rattle.relay_model.specs.Limits.{limits_opens}
use Rattle.relay_model.specs.Settings.{settings_opens}
use Rattle.relay_model.specs.Samples.{samples_opens}

unfoldable pub all_opens : Unit {0}
unfolding votes_opens reach_opens node_opens envelope_opens way_opens envelopes_open text_opens reading_opens world_opens direct_opens kept_opens answers_opens leaving_opens relays_opens play_opens limits_opens settings_opens samples_opens
all_opens = tt
