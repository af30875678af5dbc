use Rattle.std.proofs.Common.{◌≡◌, ◌+◌, ◌++◌, length, drop}
use Rattle.client_run.specs.Turns.{event_lines}
use Rattle.client_run.proofs.text.put_events.Given as goal

abbrev pub invariant-loop-place : goal.invariant-loop-place
invariant-loop-place l = record {
  text : l.out.items ++ event_lines (drop l.place l.far.heard) ≡ l.initial.out.items ++ event_lines (drop l.fn.from l.far.heard);
  count : l.place + length (drop l.place l.far.heard) ≡ l.fn.from + length (drop l.fn.from l.far.heard);
}
