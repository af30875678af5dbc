use Rattle.group_codec.proofs.StateLaws.{states_stay_states}
use Rattle.group_codec.proofs.laws.states_stay_states.Goals as goal

pub returns : goal.returns
returns c = states_stay_states
