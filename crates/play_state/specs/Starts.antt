-- In which incarnations nodes started last, as it is kept and as the definitions have it.
use Rattle.std.specs.Prelude.{ℕ, ◌==◌, Bool}
use Rattle.world_model.specs.World as world
use Rattle.play_state.specs.declared.starts.Started.{Started}

abbrev pub is_start_of : ℕ → Started → Bool
is_start_of n s = s.node == n

abbrev pub is_start : ℕ → world.Started → Bool
is_start n s = s.node == n

abbrev pub started_in : Started → world.Started
started_in s = record { node = s.node; inc = s.inc }
