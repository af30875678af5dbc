-- Text that is written in blocks: what was put, and what is left to be put.
use Rattle.std.specs.Prelude.{◌≡◌, ℕ, List, ◌++◌, Option}
use Rattle.std.specs.Io.KnownBytes.{Appends}
use Rattle.hags_io.specs.Edges.{GrowsByFront}
use Rattle.play_state.specs.declared.world_fault.WorldFault.{WorldFault}
use Rattle.play_state.specs.declared.world_fault.WorldFault.TheVariants as world_fault
use Rattle.play_state.specs.declared.play_fault.PlayFault.{PlayFault}
use Rattle.play_state.specs.declared.play_fault.PlayFault.TheVariants as play_fault

-- of what was left and the text that came, a front was put, and this is left
pub record Writes (old : Option (List ℕ)) (left : List ℕ) (new : Option (List ℕ)) (rest text : List ℕ) : Type 0 where
  pub front : List ℕ
  pub whole : front ++ rest ≡ left ++ text
  pub grows : Appends old new front

-- an event did not happen: what was left was put, or a front of it
abbrev pub EndsBy : PlayFault → WorldFault → Option (List ℕ) → Option (List ℕ) → List ℕ → Type 0
EndsBy (play_fault.Kept n) fault old new left = (fault ≡ world_fault.TooMuchKept n) × Appends old new left
EndsBy play_fault.WriteFault fault old new left = GrowsByFront old new left
EndsBy play_fault.NoMemory fault old new left = GrowsByFront old new left
