-- In which incarnations nodes started last.
use Rattle.std.proofs.Common.{◌≡◌, ℕ, suc, Bool, true, false, cond, List, [], ◌∷◌, ◌++◌, map, set, Option, Some, None, refl, ap}
use Rattle.std.specs.Prelude.{find}
use Rattle.std.specs.Option.{option_map}
use Rattle.rsct_packet.specs.Search.{place_where}
use Rattle.world_model.specs.World.{inc_in, starts_with}
use Rattle.world_model.specs.World as world
use Rattle.play_state.specs.declared.starts.Started.{Started}
use Rattle.play_state.specs.Starts.{is_start_of, is_start, started_in}

found_head : (t : Bool) (x : Started) (a : Option world.Started) (b : Option Started) → a ≡ option_map started_in b → cond t (Some (started_in x)) a ≡ option_map started_in (cond t (Some x) b)
found_head true x a b e = refl
found_head false x a b e = e

found_start : (xs : List Started) (n : ℕ) → find (is_start n) (map started_in xs) ≡ option_map started_in (find (is_start_of n) xs)
found_start [] n = refl
found_start (x ∷ xs) n = found_head (is_start_of n x) x _ _ (found_start xs n)

pub started_last : (xs : List Started) (n : ℕ) (x : Started) → find (is_start_of n) xs ≡ Some x → x.inc ≡ inc_in (find (is_start n) (map started_in xs))
started_last xs n x e = rw (found_start xs n, e) refl

pub never_started : (xs : List Started) (n : ℕ) → find (is_start_of n) xs ≡ None → 0 ≡ inc_in (find (is_start n) (map started_in xs))
never_started xs n e = rw (found_start xs n, e) refl

again_head : (t : Bool) (o : Option ℕ) (x : Started) (xs : List Started) (n inc : ℕ) → ((j : ℕ) → Some j ≡ o → map started_in (set xs j (record { node = n; inc = inc })) ≡ starts_with (map started_in xs) n inc) → (i : ℕ) → Some i ≡ cond t (Some 0) (option_map suc o)
    → map started_in (set (x ∷ xs) i (record { node = n; inc = inc })) ≡ elim t [ true ↦ record { node = n; inc = inc } ∷ map started_in xs | false ↦ started_in x ∷ starts_with (map started_in xs) n inc ]
again_head true o x xs n inc ih i e = let z : i ≡ 0 = cc in rw z refl
again_head false None x xs n inc ih i e = absurd cc
again_head false (Some j) x xs n inc ih i e = let z : i ≡ suc j = cc in rw z (ap (λ ys. started_in x ∷ ys) (ih j refl))

pub noted_again : (xs : List Started) (n inc i : ℕ) → Some i ≡ place_where (is_start_of n) xs → map started_in (set xs i (record { node = n; inc = inc })) ≡ starts_with (map started_in xs) n inc
unfolding starts_with
noted_again [] n inc i e = absurd cc
noted_again (x ∷ xs) n inc i e = again_head (is_start_of n x) (place_where (is_start_of n) xs) x xs n inc (λ j h. noted_again xs n inc j h) i e

first_head : (t : Bool) (o : Option ℕ) (x : Started) (xs : List Started) (n inc : ℕ) → (None ≡ o → map started_in (xs ++ record { node = n; inc = inc } ∷ []) ≡ starts_with (map started_in xs) n inc) → None ≡ cond t (Some 0) (option_map suc o)
    → started_in x ∷ map started_in (xs ++ record { node = n; inc = inc } ∷ []) ≡ elim t [ true ↦ record { node = n; inc = inc } ∷ map started_in xs | false ↦ started_in x ∷ starts_with (map started_in xs) n inc ]
first_head true o x xs n inc ih e = absurd cc
first_head false None x xs n inc ih e = ap (λ ys. started_in x ∷ ys) (ih refl)
first_head false (Some j) x xs n inc ih e = absurd cc

pub noted_first : (xs : List Started) (n inc : ℕ) → None ≡ place_where (is_start_of n) xs → map started_in (xs ++ record { node = n; inc = inc } ∷ []) ≡ starts_with (map started_in xs) n inc
unfolding starts_with
noted_first [] n inc e = refl
noted_first (x ∷ xs) n inc e = first_head (is_start_of n x) (place_where (is_start_of n) xs) x xs n inc (λ h. noted_first xs n inc h) e
