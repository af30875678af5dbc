-- What is lacking so far, and of the parts that are left.
use Rattle.std.proofs.Common.{◌≡◌, drop, map}
use Rattle.node_state.specs.Applying.{lacking_in}
use Rattle.node_views.specs.Filling.{lacking_at, with_more}
use Rattle.node_views.proofs.missing_entries.missing_in.Given as goal

abbrev pub invariant-loop-part : goal.invariant-loop-part
invariant-loop-part l = lacking_in l.core l.parts ≡ with_more (map lacking_at l.all.items) (lacking_in l.core (drop l.part-index l.parts))
