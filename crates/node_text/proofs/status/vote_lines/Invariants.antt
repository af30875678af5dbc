-- The lines so far.
use Rattle.std.proofs.Common.{◌≡◌, take}
use Rattle.std.specs.Prelude.{filter, flat_map, is_some}
use Rattle.proposal_core.specs.Lists.{state_in}
use Rattle.node_state.specs.Status.{vote_lines}
use Rattle.node_text.proofs.status.vote_lines.Given as goal

abbrev pub invariant-loop-row : goal.invariant-loop-row
invariant-loop-row l = l.out ≡ flat_map (λ row. vote_lines l.core row (state_in row.list).running) (filter (λ row. is_some row.list) (take l.row-index l.rows))
