-- Opens every word of a network's run, for computations.
use Rattle.daemon_model.specs.Opens.{all_opens}
use Rattle.network_model.specs.Network.{network_opens}
use Rattle.network_model.specs.Lives.{lives_opens}
use Rattle.network_model.specs.Executions.{executions_opens}
use Rattle.network_model.specs.Samples.{samples_opens}

unfoldable pub net_opens : Unit {0}
unfolding all_opens network_opens lives_opens executions_opens samples_opens
net_opens = tt
