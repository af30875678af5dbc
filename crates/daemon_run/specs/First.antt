-- What a daemon does first.
use Rattle.std.specs.Prelude.{ℕ, List, ◌∷◌, map}
use Rattle.hags_io.specs.Deeds.{Deed, Read, Wrote}
use Rattle.hags_io.specs.Fronts.{AreFront}
use Rattle.node_state.specs.declared.config.Config.{Config}
use Rattle.daemon_model.specs.Daemon.{Life}
use Rattle.daemon_model.specs.Doings.{deed_of, life_doings}

abbrev pub IsWrite : Deed → Type 0
IsWrite (Wrote bytes whole) = Unit {0}
IsWrite d = ⊥

-- In every front of a life it is a write that comes behind the first reading of the clock: that of the lines of its start.
abbrev pub WritesItsStart : Type 0
WritesItsStart = (c : Config) (me incarnation : ℕ) (life : Life) (moment : ℕ) (next : Deed) (later : List Deed) → AreFront (Read moment ∷ next ∷ later) (map deed_of (life_doings c me incarnation life)) → IsWrite next
