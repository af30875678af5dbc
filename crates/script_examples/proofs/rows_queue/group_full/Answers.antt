use Rattle.std.proofs.Common.{refl}
use Rattle.script_examples.specs.Opens.{all_opens}
use Rattle.script_examples.proofs.rows_queue.group_full.Goals as goal

pub returns : goal.returns
unfolding all_opens
returns c = refl
