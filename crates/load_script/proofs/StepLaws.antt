-- The lines of a load, step by step.
use Rattle.std.proofs.Common.{◌≡◌, ℕ, zero, suc, ◌+◌, ◌++◌, [], refl}
use Rattle.world_model.specs.Load.{first_lines, next_seed, load_from, load_lines}
use Rattle.load_script.specs.Steps.{step_lines}

pub load_begins : (n : ℕ) → load_lines n ≡ first_lines ++ load_from n 1 n
unfolding load_lines
load_begins n = refl

pub load_goes_on : (n i x : ℕ) → load_from (suc n) i x ≡ step_lines i (next_seed x) ++ load_from n (i + 1) (next_seed x)
unfolding load_from
load_goes_on n i x = refl

pub load_ends : (i x : ℕ) → load_from zero i x ≡ []
unfolding load_from
load_ends i x = refl
