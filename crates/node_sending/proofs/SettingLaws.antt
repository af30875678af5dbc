-- The network that two nodes share.
use Rattle.std.proofs.Common.{◌≡◌, ℕ, ◌&&◌, Option, ap}
use Rattle.std.specs.Prelude.{find}
use Rattle.std.specs.Option.{unwrap_or}
use Rattle.node_state.specs.declared.config.Config.{Config}
use Rattle.node_state.specs.Settings.{networks, has_adapter, shared_network}

pub shared_found : (c : Config) (a b : ℕ) (r : Option ℕ) → r ≡ find (λ k. has_adapter c a k && has_adapter c b k) networks → unwrap_or r 0 ≡ shared_network c a b
unfolding shared_network
shared_found c a b r e = ap (λ (o : Option ℕ). unwrap_or o 0) e
