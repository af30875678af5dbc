-- Opens every word of a network's run and of its logs, for computations.
use Rattle.network_model.specs.Opens.{net_opens}
use Rattle.network_safety.specs.Logs.{logs_opens}

unfoldable pub logs_open : Unit {0}
unfolding net_opens logs_opens
logs_open = tt
