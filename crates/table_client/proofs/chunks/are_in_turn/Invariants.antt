use Rattle.std.proofs.Common.{◌≡◌, drop}
use Rattle.table_client.specs.Rules.{in_turn}
use Rattle.table_client.proofs.chunks.are_in_turn.Given as goal

abbrev pub invariant-loop-chunk : goal.invariant-loop-chunk
invariant-loop-chunk l = record {
  count : l.number ≡ l.chunk-index;
  rest : in_turn 0 l.chunks ≡ in_turn l.number (drop l.number l.chunks);
}
