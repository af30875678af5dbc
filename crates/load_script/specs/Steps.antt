-- What the steps of a load do, and the lines of one.
use Rattle.std.specs.Prelude.{ℕ, ◌+◌, ◌/◌, ◌%◌, ◌^◌, List, [], ◌∷◌}
use Rattle.world_model.specs.declared.event.Event.TheVariants as event
use Rattle.world_model.specs.declared.script.Line.{Line}
use Rattle.world_model.specs.declared.script.Line.TheVariants as line
use Rattle.world_model.specs.Load.{eight, mask_of, starts, asks, comes, joins_again, all_but, asker, load_step}

-- the node stops, and comes again
abbrev pub restart : ℕ → List Line
restart k = line.Plain (event.Stop k) ∷ asks (asker k) (all_but k) ∷ line.Flow ∷ starts k ∷ asks (asker k) (mask_of eight) ∷ line.Flow ∷ comes k

-- the node and the others part, and come together again
abbrev pub partition : ℕ → List Line
partition k = asks (asker k) (all_but k) ∷ asks k (mask_of (k ∷ [])) ∷ line.Flow ∷ asks (asker k) (mask_of eight) ∷ line.Flow ∷ joins_again k

-- what the number of a step does
abbrev pub step_lines : ℕ → ℕ → List Line
step_lines number seed = load_step number (1 + (seed / 2 ^ 33) % 8) ((seed / 2 ^ 40) % 8)
