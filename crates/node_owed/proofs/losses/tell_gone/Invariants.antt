-- What was sent so far.
use Rattle.std.proofs.Common.{◌≡◌, take}
use Rattle.std.specs.Prelude.{fold}
use Rattle.node_state.specs.declared.packet.Body.TheVariants as body
use Rattle.node_state.specs.State.{leader_of}
use Rattle.node_state.specs.Sending.{send_if_known}
use Rattle.node_owed.proofs.losses.tell_gone.Given as goal

abbrev pub invariant-loop-p : goal.invariant-loop-p
invariant-loop-p l = l.core ≡ fold (λ t p. send_if_known t (leader_of t l.group) (body.Gone t.views.view l.group p)) l.initial.core (take l.p-index l.lost)
