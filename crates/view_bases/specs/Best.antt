-- The best candidate, as a search from the front finds it.
use Rattle.std.specs.Prelude.{ℕ, true, false, List, [], ◌∷◌, map, filter, Option, Some, None}
use Rattle.view_bases.specs.declared.base.Winner.{Winner}
use Rattle.view_state.specs.declared.install.Part.{Part}
use Rattle.view_state.specs.declared.install.Source.{Source}
use Rattle.view_state.specs.declared.install.Install.{Install}
use Rattle.view_state.specs.Bases.{Candidate, candidate_of, is_candidate, beats}

abbrev pub winner_in : Winner → Candidate
winner_in w = record { live = w.live; source = w.source.now; part = w.part.now }

-- the candidates among these parts of a source
abbrev pub found_in : Install → List ℕ → Source → List Part → List Candidate
found_in i g s ps = map (candidate_of i s) (filter (is_candidate g) ps)

abbrev pub best_step : Option Candidate → Candidate → Option Candidate
best_step None c = Some c
best_step (Some b) c = elim (beats c b) [ true ↦ Some c | false ↦ Some b ]

abbrev pub best_after : Option Candidate → List Candidate → Option Candidate
best_after best [] = best
best_after best (c ∷ cs) = best_after (best_step best c) cs
