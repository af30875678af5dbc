-- Who leads the groups of the bases so far.
use Rattle.std.proofs.Common.{◌≡◌, take, map}
use Rattle.node_state.specs.Applying.{base_leader}
use Rattle.node_views.proofs.bases.base_leaders.Given as goal

abbrev pub invariant-loop-base : goal.invariant-loop-base
invariant-loop-base l = l.leaders ≡ map base_leader (take l.base-index l.bases)
