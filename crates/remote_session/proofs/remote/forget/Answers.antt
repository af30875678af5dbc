use Rattle.std.proofs.Common.{nat_eq, rules}
use Rattle.std.specs.Prelude.{not}
use Rattle.std.proofs.lemmas.Map.Made.{filter_same_pairs}
use Rattle.remote_session.specs.Ending.{without}
use Rattle.remote_session.proofs.remote.forget.Goals as goal

pub returns : goal.returns
unfolding without
returns c = filter_same_pairs _ (λ e. not (nat_eq c.args.key e.0)) _ (λ k v b w f' t. search rules) _ _ c.retain.ensures.filtered
