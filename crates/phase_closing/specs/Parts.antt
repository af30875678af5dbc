-- The parts of a ballot that a closing entry may carry.
use Rattle.std.specs.Prelude.{ℕ, List, Option}
use Rattle.node_state.specs.declared.group.Given.{Given}
use Rattle.phase_closing.specs.declared.closing.Part.{Part}
use Rattle.phase_closing.specs.declared.closing.Part.TheVariants.{Value, Message}

abbrev pub part_of : Part → Given → Option (List ℕ)
part_of Value = λ x. x.value
part_of Message = λ x. x.message
