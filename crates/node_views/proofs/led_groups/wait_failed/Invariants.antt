-- Those so far wait.
use Rattle.std.proofs.Common.{◌≡◌, take}
use Rattle.std.specs.List.{fold}
use Rattle.proposal_core.specs.declared.proposal.Cause.TheVariants.{Died}
use Rattle.batch_rules.specs.Waiting.{add_failure}
use Rattle.node_groups.specs.Keeps.{Keeps}
use Rattle.node_state.specs.Leading.{with_waiting}
use Rattle.node_views.proofs.led_groups.wait_failed.Given as goal

abbrev pub invariant-loop-p : goal.invariant-loop-p
invariant-loop-p l = (l.core ≡ fold (λ t p. with_waiting t l.group (add_failure p Died)) l.initial.core (take l.p-index l.providers)) × Keeps l.initial.core l.core
