-- What was sent so far.
use Rattle.std.proofs.Common.{◌≡◌}
use Rattle.std.specs.List.{fold}
use Rattle.view_state.specs.declared.packet.ViewSend.{ViewSend}
use Rattle.node_state.specs.declared.packet.Body.TheVariants as body
use Rattle.node_state.specs.Sending.{sent}
use Rattle.node_views.proofs.packets.send_each.Given as goal

abbrev pub invariant-loop-to : goal.invariant-loop-to
invariant-loop-to l = l.core ≡ fold (λ t (x : ViewSend). sent t x.to (body.View x.packet)) l.initial.core l.yielded
