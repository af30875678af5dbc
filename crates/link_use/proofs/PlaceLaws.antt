-- Places that are told one after the other.
use Rattle.std.proofs.Common.{◌≡◌, ℕ, ◌+◌, true, false, [], ◌∷◌, subst, add-one}
use Rattle.hags_io.specs.Deeds.{Placed}
use Rattle.hags_io.specs.Telling.{Telling, Did}
use Rattle.hags_io.proofs.DeedLaws.{did_none, did_on}
use Rattle.node_state.specs.declared.config.Config.{Config}
use Rattle.node_state.specs.Settings.{has_adapter, address_at}
use Rattle.daemon_model.specs.Settings.{placing, placings_on, placings_upto, placings}

-- ---- an adapter

pub placed_one : (c : Config) (network node : ℕ) (t u : Telling) → has_adapter c node network ≡ true → Did t u (Placed node network (address_at c node network) (c.port + node) ∷ []) → Did t u (placing c network node)
placed_one c network node t u h p = rw h p

pub placed_none : (c : Config) (network node : ℕ) (t : Telling) → has_adapter c node network ≡ false → Did t t (placing c network node)
placed_none c network node t h = rw h (did_none t)

-- ---- all of a network

pub network_begins : (c : Config) (network : ℕ) (t : Telling) → Did t t (placings_on c network 0)
unfolding placings_on
network_begins c network t = did_none t

pub network_next : (c : Config) (network n m : ℕ) (t u v : Telling) → m ≡ n + 1 → Did t u (placings_on c network n) → Did u v (placing c network m) → Did t v (placings_on c network (n + 1))
unfolding placings_on
network_next c network n m t u v e p q = rw add-one (did_on t u v (placings_on c network n) (placing c network (n + 1)) p (subst (λ (k : ℕ). Did u v (placing c network k)) e q))

-- ---- all networks

pub networks_begin : (c : Config) (t : Telling) → Did t t (placings_upto c 0)
unfolding placings_upto
networks_begin c t = did_none t

pub networks_next : (c : Config) (n m : ℕ) (t u v : Telling) → m ≡ n + 1 → Did t u (placings_upto c n) → Did u v (placings_on c m 32) → Did t v (placings_upto c (n + 1))
unfolding placings_upto
networks_next c n m t u v e p q = rw add-one (did_on t u v (placings_upto c n) (placings_on c (n + 1) 32) p (subst (λ (k : ℕ). Did u v (placings_on c k 32)) e q))

pub networks_all : (c : Config) (n : ℕ) (t u : Telling) → n ≡ 4 → Did t u (placings_upto c n) → Did t u (placings c)
unfolding placings
networks_all c n t u e p = subst (λ (k : ℕ). Did t u (placings_upto c k)) e p
