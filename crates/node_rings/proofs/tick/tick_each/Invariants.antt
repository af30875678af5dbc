-- The rings that ticked so far.
use Rattle.std.proofs.Common.{◌≡◌, take}
use Rattle.std.specs.Prelude.{fold}
use Rattle.adapter_ring.specs.declared.ring.Ring.{Ring}
use Rattle.adapter_ring.specs.declared.packet.RingEvent.TheVariants as ring_event
use Rattle.adapter_ring.specs.Rings.{ring_step}
use Rattle.node_state.specs.Ticks.{ring_taken}
use Rattle.node_rings.proofs.tick.tick_each.Given as goal

abbrev pub invariant-loop-ring : goal.invariant-loop-ring
invariant-loop-ring l = l.core ≡ fold (λ u (r : Ring). ring_taken u (ring_step r ring_event.Tick)) l.initial.core (take l.ring-index l.rings)
