use Rattle.std.proofs.Common.{rules}
use Rattle.std.proofs.lemmas.Map.Made.{map_same_pairs}
use Rattle.remote_session.specs.Ending.{silent_longer, waited}
use Rattle.remote_session.proofs.remote.wait.Goals as goal

pub returns : goal.returns
unfolding waited
returns c = map_same_pairs _ silent_longer _ (λ k v b w f' t. search rules) _ _ c.retain.ensures.filtered
