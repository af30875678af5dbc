-- A node's stays after it entered a view: what is recorded then leaves the base of the latest stay, and those before it.
use Rattle.std.proofs.Common.{◌≡◌, ℕ, List, [], ◌∷◌, ◌++◌, Bool, true, false, refl, ap, ◌∙◌, inl, inr}
use Rattle.std.specs.Prelude.{◌==◌, ◌&&◌, if◌then◌else◌}
use Rattle.std.specs.Str.{bytes_eq}
use Rattle.rsct_packet.specs.Search.{Has}
use Rattle.node_state.specs.declared.happened.Happened.{Happened}
use Rattle.node_state.specs.declared.happened.Happened.TheVariants as happened
use Rattle.run_safety.specs.Past.{History, earlier}
use Rattle.run_safety.specs.Stays.{Stay, stays, with_entry}
use Rattle.row_laws.proofs.hearing.Attending.{pushed}
use Rattle.run_laws.proofs.gapless.Fair.{Mild}

-- the latest stay has the base, and those are before it
pub record LastStay (xs : List Stay) (x : Stay) (older : List Stay) : Type 0 where
  pub now : Stay
  pub is : xs ≡ now ∷ older
  pub base : now.base ≡ x.base

mild_one : (n : ℕ) (g : List ℕ) (r : Happened) (rs : List Happened) (x : Stay) (older : List Stay) → Mild r → stays n g rs ≡ x ∷ older → LastStay (stays n g (r ∷ rs)) x older
mild_one n g (happened.Up m j) rs x older a q = absurd a
mild_one n g (happened.Down m) rs x older a q = absurd a
mild_one n g (happened.In m v ms) rs x older a q = absurd a
mild_one n g (happened.Base m v h u len s) rs x older a q = absurd a
mild_one n g (happened.Put m v h i e) rs x older a q = by (m == n && bytes_eq h g)
  where
    by : (b : Bool) → LastStay (if b then with_entry e (stays n g rs) else stays n g rs) x older
    by true = record { now = record x { entries = x.entries ++ e ∷ [] }; is = ap (with_entry e) q; base = refl }
    by false = record { now = x; is = q; base = refl }
mild_one n g _ rs x older a q = record { now = x; is = q; base = refl }

pub mild_stays : (n : ℕ) (g : List ℕ) (rs now : List Happened) (before : History) (x : Stay) (older : List Stay) → ((r : Happened) → Has r rs → Mild r) → stays n g (earlier now before) ≡ x ∷ older → LastStay (stays n g (earlier (pushed rs now) before)) x older
mild_stays n g [] now before x older all q = record { now = x; is = q; base = refl }
mild_stays n g (r ∷ rs) now before x older all q =
    let a = mild_one n g r (earlier now before) x older (all r (inl refl)) q in
    let b = mild_stays n g rs (r ∷ now) before a.now older (λ s h. all s (inr h)) a.is in
    record { now = b.now; is = b.is; base = b.base ∙ a.base }
