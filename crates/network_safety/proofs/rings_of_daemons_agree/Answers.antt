-- What is said of settings has parts, so the laws are named here.
use Rattle.network_safety.proofs.Rings as rings
use Rattle.network_safety.proofs.rings_of_daemons_agree.Goals as goal

pub returns-clause-fit : goal.returns-clause-fit
returns-clause-fit c = rings.settings_fit

pub returns-clause-agree : goal.returns-clause-agree
returns-clause-agree c = rings.rings_of_daemons_agree
