use Rattle.std.proofs.Common.{◌≤◌, drop}
use Rattle.world_model.specs.declared.script.Line.{Line}
use Rattle.world_laws.specs.world_answers.Plays.{PlaysLine}
use Rattle.net_script.proofs.ListLaws.{ComesTo}
use Rattle.net_script.proofs.lines.play_lines.Given as goal

abbrev pub invariant-loop-line : goal.invariant-loop-line
invariant-loop-line g l =
    ComesTo g.C.Callbacks.script g.C.Made.script_of g.C.Callbacks.stands_for l.kinds (g.K.Sink.held l.initial.out) (g.K.Sink.held l.out) l.initial.stage l.stage Line (PlaysLine g.C.Made.script_of) l.lines (drop l.line-index l.lines)
    × (g.K.Sink.faults l.initial.out ≤ g.K.Sink.faults l.out)
