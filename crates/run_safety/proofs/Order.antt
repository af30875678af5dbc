-- The order of views is a total order.
use Rattle.std.proofs.Common.{refl, ◌≡◌, ◌<◌, ◌⊎◌, Bool, true, false, subst, inl, inr, arith}
use Rattle.std.proofs.lemmas.Bool.Decides.{nat_tests}
use Rattle.rsct_packet.specs.declared.ids.ViewId.{ViewId}
use Rattle.run_safety.specs.ViewOrder.{is_before, is_same, Lt, Le}

-- what the test says, in numbers
abbrev pub Earlier : ViewId → ViewId → Type 0
Earlier a b = (a.number < b.number) ⊎ ((a.number ≡ b.number) × ((a.coord < b.coord) ⊎ ((a.coord ≡ b.coord) × (a.inc < b.inc))))

pub lt_refl : (a : ViewId) → Le a a
unfolding is_before
lt_refl a = grind (arith, nat_tests)

pub lt_trans : (a b c : ViewId) → Lt a b → Lt b c → Lt a c
unfolding is_before
lt_trans a b c p q = grind (arith, nat_tests)

pub le_trans : (a b c : ViewId) → Le a b → Le b c → Le a c
unfolding is_before
le_trans a b c p q = grind (arith, nat_tests)

pub lt_le_trans : (a b c : ViewId) → Lt a b → Le b c → Lt a c
unfolding is_before
lt_le_trans a b c p q = grind (arith, nat_tests)

pub le_lt_trans : (a b c : ViewId) → Le a b → Lt b c → Lt a c
unfolding is_before
le_lt_trans a b c p q = grind (arith, nat_tests)

pub lt_le : (a b : ViewId) → Lt a b → Le a b
unfolding is_before
lt_le a b p = grind (arith, nat_tests)

pub le_antisym : (a b : ViewId) → Le a b → Le b a → a ≡ b
unfolding is_before
le_antisym a b p q = grind (arith, nat_tests)

pub eq_true : (a b : ViewId) → is_same a b ≡ true → a ≡ b
unfolding is_same
eq_true a b e = grind (arith, nat_tests)

pub eq_same : (a : ViewId) → is_same a a ≡ true
unfolding is_same
eq_same a = grind (arith, nat_tests)

pub eq_false : (a b : ViewId) → is_same a b ≡ false → a ≡ b → ⊥
eq_false a b e h = let t : is_same a b ≡ true = subst (λ v. is_same a v ≡ true) h (eq_same a) in absurd (cc)

-- the same view, or another
pub cases_view : (a b : ViewId) → (a ≡ b) ⊎ (a ≡ b → ⊥)
cases_view a b = by (is_same a b) refl
  where
    by : (t : Bool) → is_same a b ≡ t → (a ≡ b) ⊎ (a ≡ b → ⊥)
    by true e = inl (eq_true a b e)
    by false e = inr (eq_false a b e)

pub lt_not_same : (a b : ViewId) → Lt a b → a ≡ b → ⊥
lt_not_same a b l e = let f : Le b a = subst (λ v. Le v a) e (lt_refl a) in absurd (cc)
