use Rattle.std.proofs.Common.{◌≡◌, ◌≤◌, length}
use Rattle.daemon_model.specs.Options.{first_pace}
use Rattle.daemon_run.specs.Audience.{Attend}
use Rattle.daemon_run.specs.Serving.{TurnsDone}
use Rattle.daemon_run.proofs.running.Running.serve_turns.Given as goal

abbrev pub invariant-loop : goal.invariant-loop
invariant-loop g l = record {
  done : TurnsDone (Attend g.C.Callbacks.stands_for g.C.Callbacks.script) l.options (first_pace l.start) l.pace l.initial.self l.self l.counter (g.O.Outside.told l.initial.outside) (g.O.Outside.told l.outside);
  same : l.self.outbox.me ≡ l.initial.self.outbox.me;
  counted : l.counter ≤ l.turns;
  room : 65536 ≤ length l.buf;
}
