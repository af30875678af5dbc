-- What the types of lists hold already.
use Rattle.std.proofs.Common.{◌≡◌, ℕ, suc, ◌≤◌, Bool, true, List, [], ◌∷◌, length, refl, sym, ◌∙◌, arith}
use Rattle.std.specs.Prelude.{◌&&◌, not, nat_le}
use Rattle.std.proofs.lemmas.Bool.Decides.{nat_tests}
use Rattle.rsct_packet.specs.declared.ids.ProviderId.{ProviderId}
use Rattle.rsct_packet.specs.Lists.{is_empty}
use Rattle.rsct_packet.specs.Providers.{AreProviders, are_providers, differ}

both_true : (a b : Bool) → a ≡ true → b ≡ true → (a && b) ≡ true
both_true a b e f = rw (e, f) refl

are_by_type : (ps : List ProviderId) → AreProviders ps → are_providers ps ≡ true
are_by_type ps h = both_true (nat_le (length ps) 64) (differ ps) (let f : length ps ≤ 64 = h.few in grind (arith, nat_tests)) h.apart

-- what is asked beside the type of a list
pub named_by_type : (ps : List ProviderId) (t : Bool) → AreProviders ps → (are_providers ps && t) ≡ t
named_by_type ps t h = let e = are_by_type ps h in rw e refl

some_more : (n : ℕ) → nat_le 1 (suc n) ≡ true
some_more n = grind (arith, nat_tests)

pub differ_by_type : (ps : List ProviderId) → AreProviders ps → (not (is_empty ps) && are_providers ps) ≡ nat_le 1 (length ps)
differ_by_type [] h = refl
differ_by_type (p ∷ ps) h = are_by_type (p ∷ ps) h ∙ sym (some_more (length ps))
