-- The law is the lemma's.
use Rattle.relay_laws.proofs.Playing.{every_relayed_play_is_safe}
use Rattle.relay_laws.proofs.every_relayed_play_is_safe.Goals as goal

pub returns : goal.returns
returns c = every_relayed_play_is_safe
