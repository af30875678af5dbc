use Rattle.std.proofs.Common.{ℕ, ◌≤◌, drop}
use Rattle.world_laws.specs.world_answers.Plays.{PlaysTick}
use Rattle.net_script.proofs.ListLaws.{ComesTo}
use Rattle.net_script.proofs.rounds.tick_each.Given as goal

abbrev pub invariant-loop-n : goal.invariant-loop-n
invariant-loop-n g l =
    ComesTo g.C.Callbacks.script g.C.Made.script_of g.C.Callbacks.stands_for l.kinds (g.K.Sink.held l.initial.out) (g.K.Sink.held l.out) l.initial.stage l.stage ℕ (PlaysTick g.C.Made.script_of) l.nodes (drop l.n-index l.nodes)
    × (g.K.Sink.faults l.initial.out ≤ g.K.Sink.faults l.out)
