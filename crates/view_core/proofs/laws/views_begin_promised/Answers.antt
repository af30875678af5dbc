use Rattle.view_core.proofs.Promises.{views_begin}
use Rattle.view_core.proofs.laws.views_begin_promised.Goals as goal

pub returns : goal.returns
returns c = views_begin
