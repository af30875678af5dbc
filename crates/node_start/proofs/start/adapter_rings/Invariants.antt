-- The rings of the networks so far.
use Rattle.std.proofs.Common.{◌≡◌, take, map, filter}
use Rattle.node_state.specs.Settings.{has_adapter, networks}
use Rattle.node_state.specs.Step.{own_ring}
use Rattle.node_start.proofs.start.adapter_rings.Given as goal

abbrev pub invariant-loop-network : goal.invariant-loop-network
invariant-loop-network l = l.rings ≡ map (own_ring l.config l.me l.inc) (filter (has_adapter l.config l.me) (take l.network-index networks))
