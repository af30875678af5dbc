use Rattle.std.proofs.Common.{◌≡◌, ℕ, ◌++◌, take}
use Rattle.std.specs.Prelude.{map}
use Rattle.view_state.specs.declared.packet.ViewSend.{ViewSend}
use Rattle.view_state.specs.declared.packet.ViewPacket.TheVariants as packet
use Rattle.view_core.proofs.work.send_prepare_each.Given as goal

abbrev pub invariant-loop-n : goal.invariant-loop-n
invariant-loop-n l = l.sends ≡ l.initial.sends ++ map (λ (n : ℕ). record { to = n; packet = packet.Prepare l.view l.mask }) (take l.n-index l.to)
