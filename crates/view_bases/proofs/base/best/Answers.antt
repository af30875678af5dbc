use Rattle.view_bases.proofs.Bases.{tail_is_found}
use Rattle.view_bases.proofs.base.best.Goals as goal

pub returns-clause-tail : goal.returns-clause-tail
returns-clause-tail c = λ h. tail_is_found c.args.install.now c.args.group.now c.best_alone.result h c.best_alone.ensures
