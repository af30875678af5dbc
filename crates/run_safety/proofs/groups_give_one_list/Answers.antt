use Rattle.run_safety.proofs.SightLaws.{one_entry_seen}
use Rattle.run_safety.proofs.groups_give_one_list.Goals as goal

pub returns : goal.returns
returns c = one_entry_seen
