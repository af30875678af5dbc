use Rattle.std.proofs.Common.{take}
use Rattle.daemon_run.specs.Audience.{Attend}
use Rattle.daemon_run.specs.Doing.{IsSame}
use Rattle.daemon_run.specs.Keeping.{KeysEnd}
use Rattle.daemon_run.proofs.running.Running.end_keys.Given as goal

abbrev pub invariant-loop-key : goal.invariant-loop-key
invariant-loop-key g l = record {
  done : KeysEnd (Attend g.C.Callbacks.stands_for g.C.Callbacks.script) l.initial.self l.self (take l.key-index l.keys) (g.O.Outside.told l.initial.outside) (g.O.Outside.told l.outside);
  same : IsSame l.initial.self l.self;
}
