-- What was sent so far.
use Rattle.std.proofs.Common.{◌≡◌, take}
use Rattle.std.specs.Prelude.{fold}
use Rattle.node_state.specs.declared.packet.Body.TheVariants as body
use Rattle.node_state.specs.Sending.{sent}
use Rattle.node_rings.proofs.reports.send_rows.Given as goal

abbrev pub invariant-loop-n : goal.invariant-loop-n
invariant-loop-n l = l.core ≡ fold (λ t n. sent t n (body.Report l.rows)) l.initial.core (take l.n-index l.nodes)
