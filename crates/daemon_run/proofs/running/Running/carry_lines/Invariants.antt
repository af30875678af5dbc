use Rattle.std.proofs.Common.{take}
use Rattle.daemon_model.specs.Daemon.{own_calls}
use Rattle.daemon_run.specs.Audience.{AttendWith}
use Rattle.daemon_run.specs.Doing.{IsSame}
use Rattle.daemon_run.specs.Calling.{CallsAs}
use Rattle.daemon_run.proofs.running.Running.carry_lines.Given as goal

abbrev pub invariant-loop-line : goal.invariant-loop-line
invariant-loop-line g l = record {
  done : CallsAs (AttendWith (g.H.Hosts.stand l.initial.hosts) g.C.Callbacks.stands_for g.C.Callbacks.script) (AttendWith (g.H.Hosts.stand l.hosts) g.C.Callbacks.stands_for g.C.Callbacks.script) l.initial.self l.self (own_calls l.initial.self.outbox.me (take l.line-index l.lines)) (g.O.Outside.told l.initial.outside) (g.O.Outside.told l.outside);
  same : IsSame l.initial.self l.self;
}
