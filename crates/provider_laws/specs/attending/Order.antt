-- Providers hear in order, from their first place on, as long as they take part.
use Rattle.node_state.specs.declared.config.Config.{Config}
use Rattle.run_safety.specs.SafeLists.{Each}
use Rattle.run_safety.specs.SafeHeard.{InOrder}
use Rattle.step_refinement.specs.Tied.{Scene}
use Rattle.step_refinement.specs.Runs.{Reached}

-- whatever starts, stops and steps: each place that a provider hears is its first place in the view, or the one after the place
-- that it heard last; and it takes part there, by the records
abbrev pub HeardInOrder : Type 0
HeardInOrder = (c : Config) (w : Scene) → Reached c w → Each InOrder w.before
