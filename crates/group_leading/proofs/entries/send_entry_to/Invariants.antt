-- What was sent so far; the view is as it was.
use Rattle.std.proofs.Common.{◌≡◌, take}
use Rattle.std.specs.List.{fold}
use Rattle.node_state.specs.declared.packet.Body.TheVariants as body
use Rattle.node_state.specs.Sending.{sent}
use Rattle.group_leading.proofs.entries.send_entry_to.Given as goal

abbrev pub invariant-loop-n : goal.invariant-loop-n
invariant-loop-n l =
    (l.core ≡ fold (λ t n. sent t n (body.Entry l.initial.core.views.view l.group l.place l.stable l.entry)) l.initial.core (take l.n-index l.nodes)) × (l.core.views ≡ l.initial.core.views)
