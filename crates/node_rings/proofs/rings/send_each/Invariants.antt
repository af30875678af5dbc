-- What was sent so far.
use Rattle.std.proofs.Common.{◌≡◌, take}
use Rattle.std.specs.Prelude.{fold}
use Rattle.adapter_ring.specs.declared.packet.RingSend.{RingSend}
use Rattle.node_state.specs.declared.packet.Body.TheVariants as body
use Rattle.node_state.specs.Sending.{send_on}
use Rattle.node_rings.proofs.rings.send_each.Given as goal

abbrev pub invariant-loop-x : goal.invariant-loop-x
invariant-loop-x l = l.core ≡ fold (λ u (x : RingSend). send_on u x.network x.to (body.Ring x.packet)) l.initial.core (take l.x-index l.sends)
