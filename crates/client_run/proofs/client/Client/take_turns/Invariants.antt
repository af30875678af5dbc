use Rattle.std.proofs.Common.{◌≤◌, length}
use Rattle.client_run.specs.Running.{Done}
use Rattle.client_run.proofs.client.Client.take_turns.Given as goal

abbrev pub invariant-loop : goal.invariant-loop
invariant-loop g l = record {
  done : Done l.lines l.initial.self l.self l.counter (g.O.Outside.told l.initial.outside) (g.O.Outside.told l.outside);
  counted : l.counter ≤ l.turns;
  room : 65536 ≤ length l.buf;
}
