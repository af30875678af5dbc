-- Joins that wait differ.
use Rattle.std.proofs.Common.{◌≡◌, ◌<◌, Bool, true, false, List, [], ◌∷◌, ◌++◌, length, refl}
use Rattle.std.specs.Prelude.{not, ◌||◌, ◌&&◌, ◌==◌, IsTrue}
use Rattle.rsct_packet.specs.declared.ids.ProviderId.{ProviderId}
use Rattle.rsct_packet.specs.Providers.{same_provider, among, AreProviders}
use Rattle.rsct_packet.proofs.ProviderLaws.{AreProviders-push}
use Rattle.batch_rules.specs.Waiting.{same_instance, has_instance}

or_false : (a b : Bool) → (a || b) ≡ false → (a ≡ false) × (b ≡ false)
or_false true b e = absurd cc
or_false false b e = (refl, e)

not_of_false : (b : Bool) → b ≡ false → IsTrue (not b)
not_of_false true e = absurd cc
not_of_false false e = refl

-- providers of two instances differ
other_provider : (node inc instance join : Bool) → (node && instance) ≡ false → (node && inc && instance && join) ≡ false
other_provider false inc instance join e = refl
other_provider true false instance join e = refl
other_provider true true false join e = refl
other_provider true true true join e = absurd cc

none_of_instance : (xs : List ProviderId) (p : ProviderId) → has_instance xs p ≡ false → among xs p ≡ false
none_of_instance [] p h = refl
none_of_instance (x ∷ xs) p h =
    let parts = or_false (same_instance x p) (has_instance xs p) h in
    let here : same_provider x p ≡ false = other_provider (x.node == p.node) (x.inc == p.inc) (x.instance == p.instance) (x.join == p.join) parts.0 in
    rw here (none_of_instance xs p parts.1)

-- with one whose instance is not there yet
pub joins_differ : (p : ProviderId) (present joins : List ProviderId) → AreProviders joins → (has_instance present p || has_instance joins p) ≡ false → length joins < 64 → AreProviders (joins ++ p ∷ [])
joins_differ p present joins a h room =
    AreProviders-push joins p a room (not_of_false (among joins p) (none_of_instance joins p (or_false (has_instance present p) (has_instance joins p) h).1))
