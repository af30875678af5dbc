-- The names that an install carries, as a search for the next one finds them.
use Rattle.std.specs.Prelude.{ℕ, Bool, true, false, ◌&&◌, List, [], ◌∷◌, Option, Some, None, slice_get}
use Rattle.rsct_packet.specs.Text.{name_lt}
use Rattle.view_state.specs.declared.install.Part.{Part}
use Rattle.view_state.specs.declared.install.Source.{Source}
use Rattle.view_state.specs.declared.install.Install.{Install}
use Rattle.view_state.specs.Codec.{is_after}
use Rattle.view_state.specs.Bases.{names_in}

-- the name comes before the nearest so far, if there is one
abbrev pub is_nearer : Option (List ℕ) → List ℕ → Bool
is_nearer None name = true
is_nearer (Some best) name = name_lt name best

-- the least name after a last one: the nearest so far, or this one
abbrev pub nearer : Option (List ℕ) → Option (List ℕ) → List ℕ → Option (List ℕ)
nearer last best name = elim (is_after last name && is_nearer best name) [ true ↦ Some name | false ↦ best ]

abbrev pub nearest_in : Option (List ℕ) → Option (List ℕ) → List Part → Option (List ℕ)
nearest_in last best [] = best
nearest_in last best (p ∷ ps) = nearest_in last (nearer last best p.name) ps

abbrev pub nearest_among : Option (List ℕ) → Option (List ℕ) → List Source → Option (List ℕ)
nearest_among last best [] = best
nearest_among last best (s ∷ ss) = nearest_among last (nearest_in last best s.parts) ss
