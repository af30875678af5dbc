-- A safe run speaks of all groups, for any number, so the law is named here.
use Rattle.world_safety.proofs.Scripts.{events_are_safe}
use Rattle.world_safety.proofs.events_are_safe.Goals as goal

pub returns : goal.returns
returns c = events_are_safe
