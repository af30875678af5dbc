-- Worked examples: what is left out, and what cannot be.
use Rattle.std.proofs.Common.{◌≡◌, ◌⊎◌, ℕ, inl, inr, refl, ap, List, [], ◌∷◌, length, arith}
use Rattle.node_state.specs.declared.happened.Happened.{Happened}
use Rattle.node_state.specs.declared.happened.Happened.TheVariants.{Up, Down, In}
use Rattle.log_laws.specs.Logs.{Logs, Nothing, LeavesOut}
use Rattle.log_laws.specs.Samples.{view_alone, member_alone, members_both, starts_twice, starts_twice_logged, enters_with_another}
use Rattle.log_laws.proofs.Kept.{entered_or_alone}
use Rattle.log_laws.proofs.Writing.{writes_all, goes_down, life_left_out}

pub skipped_life : Logs starts_twice starts_twice_logged
skipped_life =
    let first = writes_all (In 1 (view_alone 1 1) (member_alone 1 1) ∷ Up 1 1 ∷ []) [] [] Nothing (λ n up. absurd (cc)) in
    let up : List Happened = In 1 (view_alone 1 1) (member_alone 1 1) ∷ Up 1 1 ∷ [] in
    let down = LeavesOut (Down 1) up up first.0 tt in
    let skipped = life_left_out 1 2 (view_alone 1 2) [] (Down 1 ∷ up) up (λ r h. absurd h) (omega arith) down (goes_down 1 up up first.1) in
    (writes_all (In 1 (view_alone 1 3) (member_alone 1 3) ∷ Up 1 3 ∷ []) (Down 1 ∷ In 1 (view_alone 1 2) (member_alone 1 2) ∷ Up 1 2 ∷ Down 1 ∷ up) up skipped.0 skipped.1).0

pub company_is_kept : Logs enters_with_another [] → ⊥
company_is_kept k = at (entered_or_alone enters_with_another [] k 1 (record { number = 2; coord = 2; inc = 1 }) members_both (inl refl))
  where
    at : ⊥ ⊎ ((j : ℕ) × (members_both ≡ member_alone 1 j)) → ⊥
    at (inl h) = h
    at (inr (j, e)) = let z : 2 ≡ 1 = ap length e in omega (arith, z)
