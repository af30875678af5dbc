use Rattle.std.proofs.Common.{◌≤◌, ◌+◌, ◌-◌}
use Rattle.world_model.specs.declared.script.Line.{Line}
use Rattle.world_model.specs.Load.{load_from, load_lines}
use Rattle.world_laws.specs.world_answers.Plays.{PlaysLine}
use Rattle.net_script.proofs.ListLaws.{ComesTo}
use Rattle.net_script.proofs.loads.play_steps.Given as goal

abbrev pub invariant-loop-done : goal.invariant-loop-done
invariant-loop-done g l =
    ComesTo g.C.Callbacks.script g.C.Made.script_of g.C.Callbacks.stands_for l.kinds (g.K.Sink.held l.fn.out) (g.K.Sink.held l.out) l.fn.stage l.stage Line (PlaysLine g.C.Made.script_of) (load_lines l.steps) (load_from (l.steps - l.done) (l.done + 1) l.seed)
    × (g.K.Sink.faults l.fn.out ≤ g.K.Sink.faults l.out)
