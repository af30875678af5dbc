-- Moments of which each is taken 100 milliseconds after the one before.
use Rattle.std.proofs.Common.{◌≡◌, ℕ, ◌+◌, ◌-◌, ◌*◌, ◌≤◌, ◌<◌, ◌⊎◌, Bool, true, false, List, [], ◌∷◌, length, refl, sym, ◌∙◌, inl, inr, arith}
use Rattle.std.specs.Prelude.{nat_le, if◌then◌else◌}
use Rattle.std.proofs.lemmas.Bool.{le-leb, lt-leb, leb-true, cases_lt}
use Rattle.tick_laws.specs.Ticks.{taken_from, AreApart, last_from}

-- two ways to say that 100 milliseconds have passed
pub passed : (last moment : ℕ) → nat_le 100 (moment - last) ≡ nat_le (last + 100) moment
passed last moment = by (cases_lt moment (last + 100))
  where
    by : (moment < last + 100) ⊎ (last + 100 ≤ moment) → nat_le 100 (moment - last) ≡ nat_le (last + 100) moment
    by (inl l) = lt-leb 100 (moment - last) (omega arith) ∙ sym (lt-leb (last + 100) moment l)
    by (inr l) = le-leb 100 (moment - last) (omega arith) ∙ sym (le-leb (last + 100) moment l)

pub taken_apart : (last : ℕ) (ms : List ℕ) → AreApart last (taken_from last ms)
taken_apart last [] = tt
taken_apart last (m ∷ ms) = by (nat_le (last + 100) m) refl (taken_apart m ms) (taken_apart last ms)
  where
    by : (b : Bool) → nat_le (last + 100) m ≡ b → AreApart m (taken_from m ms) → AreApart last (taken_from last ms) → AreApart last (if b then m ∷ taken_from m ms else taken_from last ms)
    by true e taken over = (leb-true _ _ e, taken)
    by false e taken over = over

pub apart_long : (last : ℕ) (ms : List ℕ) → AreApart last ms → last + 100 * length ms ≤ last_from last ms
apart_long last [] a = omega arith
apart_long last (m ∷ ms) a =
    let more : m + 100 * length ms ≤ last_from m ms = apart_long m ms a.1 in
    let here : last + 100 ≤ m = a.0 in
    omega arith
