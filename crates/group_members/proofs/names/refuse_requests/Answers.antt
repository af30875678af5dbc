-- Those of the group, one after another.
use Rattle.std.proofs.lemmas.List.Folds.{fold-map}
use Rattle.group_members.proofs.names.refuse_requests.Goals as goal

pub returns-clause-does : goal.returns-clause-does
returns-clause-does g c = rw (c.as_slice.ensures.value, c.in_ok-requests.ensures, fold-map) at c.tell_each.ensures.does
