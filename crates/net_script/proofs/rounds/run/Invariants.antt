use Rattle.std.proofs.Common.{◌-◌, ◌≤◌}
use Rattle.net_script.proofs.RoundLaws.{RoundsTo}
use Rattle.net_script.proofs.rounds.run.Given as goal

abbrev pub invariant-loop-i : goal.invariant-loop-i
invariant-loop-i g l =
    RoundsTo g.C.Callbacks.script g.C.Made.script_of g.C.Callbacks.stands_for l.kinds (g.K.Sink.held l.initial.out) (g.K.Sink.held l.out) l.initial.stage l.stage l.count (l.count - l._i)
    × (g.K.Sink.faults l.initial.out ≤ g.K.Sink.faults l.out)
