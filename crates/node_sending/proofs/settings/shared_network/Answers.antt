-- The first network that both have, or none.
use Rattle.std.proofs.Common.{Some, None}
use Rattle.node_sending.proofs.SettingLaws.{shared_found}
use Rattle.node_sending.proofs.settings.shared_network.Goals as goal

pub returns-in-None : goal.returns-in-None
returns-in-None c = shared_found c.args.config.now c.args.first c.args.second None c.in-None.ensures

pub returns-in-Some : goal.returns-in-Some
returns-in-Some c = shared_found c.args.config.now c.args.first c.args.second (Some c.in-Some.k) c.in-Some.ensures
