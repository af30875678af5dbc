use Rattle.view_core.proofs.Promises.{views_rise}
use Rattle.view_core.proofs.laws.views_rise.Goals as goal

pub returns : goal.returns
returns c = views_rise
