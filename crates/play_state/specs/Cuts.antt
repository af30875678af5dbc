-- Cuts as they are kept, and those of the definitions.
use Rattle.std.specs.Prelude.{ℕ, Bool, not, Option, min, max}
use Rattle.std.specs.List.{list_any}
use Rattle.world_model.specs.Play.{Cut, is_cut_of, networks_in}
use Rattle.play_state.specs.declared.cuts.Cut as declared

abbrev pub cut_in : declared.Cut → Cut
cut_in c = record { low = c.low; high = c.high; network = c.network }

-- the cut of two nodes on a network
abbrev pub cut_on : ℕ → ℕ → ℕ → Cut
cut_on a b k = record { low = min a b; high = max a b; network = k }

-- a cut of other nodes, or of another network where one is named
abbrev pub is_other : ℕ → ℕ → Option ℕ → declared.Cut → Bool
is_other a b network c = not (list_any (λ k. is_cut_of a b k (cut_in c)) (networks_in network))
