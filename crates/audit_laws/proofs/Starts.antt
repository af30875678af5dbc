-- A node starts in a greater incarnation than before.
use Rattle.std.proofs.Common.{◌≡◌, ℕ, ◌<◌, Bool, true, false, List, [], ◌∷◌, inl, inr, refl, sym, arith}
use Rattle.std.specs.Prelude.{◌==◌, ◌||◌, not, nat_lt}
use Rattle.std.specs.List.{list_all}
use Rattle.std.proofs.lemmas.Bool.Decides.{nat_tests}
use Rattle.rsct_packet.specs.Search.{Has}
use Rattle.node_state.specs.declared.happened.Happened.{Happened}
use Rattle.node_state.specs.declared.happened.Happened.TheVariants as happened
use Rattle.run_audit.specs.declared.broken.Rule.TheVariants as rule
use Rattle.run_audit.specs.Table.{holds, starts_below}
use Rattle.audit_laws.specs.Lines.{shown, lines}
use Rattle.audit_laws.specs.Records.{Keeps}
use Rattle.audit_laws.proofs.Tests.{both}

below : (n j m k : ℕ) → ((m ≡ n) → k < j) → (not (m == n) || nat_lt k j) ≡ true
below n j m k h = by (m == n) refl
  where
    by : (t : Bool) → (m == n) ≡ t → (not t || nat_lt k j) ≡ true
    by true e = let a : m ≡ n = grind (arith, nat_tests) in let b : k < j = h a in grind (arith, nat_tests)
    by false e = refl

all_below : (n j : ℕ) (rs : List Happened) → ((k : ℕ) → Has (happened.Up n k) rs → k < j) → list_all (starts_below n j) (lines rs) ≡ true
unfolding lines shown starts_below
all_below n j [] h = refl
all_below n j (happened.Up m k ∷ rs) h =
    both (not (m == n) || nat_lt k j) (list_all (starts_below n j) (lines rs)) (below n j m k (λ e. h k (inl (λ i. happened.Up (sym e i) k)))) (all_below n j rs (λ l x. h l (inr x)))
all_below n j (_ ∷ rs) h = all_below n j rs (λ l x. h l (inr x))

pub starts_kept : Keeps rule.Life
unfolding holds shown
starts_kept (happened.Up n j) rs k = all_below n j rs k.seen.0.life
starts_kept _ rs k = refl
