use Rattle.std.proofs.Common.{◌≤◌, length}
use Rattle.status_client.specs.Asked.{IsUnwritten, WaitsOn}
use Rattle.status_client.proofs.waiting.Waiting.receive.Given as goal

abbrev pub invariant-loop : goal.invariant-loop
invariant-loop g l = record {
  waits : WaitsOn l.initial.self l.self l.counter (g.O.Outside.told l.initial.outside) (g.O.Outside.told l.outside);
  unwritten : IsUnwritten (g.O.Outside.told l.initial.outside) (g.O.Outside.told l.outside);
  counted : l.counter ≤ l.turns;
  room : 65536 ≤ length l.buf;
}
