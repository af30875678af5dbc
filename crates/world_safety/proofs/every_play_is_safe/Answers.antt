-- A safe run speaks of all groups, for any number, so the law is named here.
use Rattle.world_safety.proofs.Scripts.{every_play_is_safe}
use Rattle.world_safety.proofs.every_play_is_safe.Goals as goal

pub returns : goal.returns
returns c = every_play_is_safe
