-- The least length so far.
use Rattle.std.proofs.Common.{◌≡◌, min, take}
use Rattle.std.specs.List.{fold}
use Rattle.rsct_packet.specs.declared.ids.Member.{Member}
use Rattle.proposal_core.specs.Lists.{len_in}
use Rattle.node_state.specs.State.{acked_by}
use Rattle.node_groups.proofs.reads.least_in.Given as goal

abbrev pub invariant-loop-m : goal.invariant-loop-m
invariant-loop-m l = l.least ≡ fold (λ least (m : Member). min least (acked_by l.core l.row m.node)) (len_in l.row.list) (take l.m-index l.core.views.members)
