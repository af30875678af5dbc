-- Those so far are refused.
use Rattle.std.proofs.Common.{◌≡◌, take}
use Rattle.std.specs.List.{fold}
use Rattle.client_callbacks.specs.declared.told.Why.TheVariants.{NoSource}
use Rattle.node_state.specs.Deciding.{refused, source_len}
use Rattle.group_deciding.proofs.joins.refuse_unsourced.Given as goal

abbrev pub invariant-loop-p : goal.invariant-loop-p
invariant-loop-p l = l.core ≡ fold (λ t p. refused t l.group p p.join (NoSource (source_len t l.source))) l.initial.core (take l.p-index l.providers)
