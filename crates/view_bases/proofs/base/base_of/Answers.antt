use Rattle.view_bases.proofs.Bases.{result_is_base}
use Rattle.view_bases.proofs.base.base_of.Goals as goal

pub returns-clause-wins : goal.returns-clause-wins
returns-clause-wins c = λ h. result_is_base c.args.install.now c.args.group.now c.base_alone.result h c.base_alone.ensures
