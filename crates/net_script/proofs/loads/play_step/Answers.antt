use Rattle.world_model.specs.declared.script.Line.{Line}
use Rattle.world_laws.specs.world_answers.Plays.{PlaysLine}
use Rattle.load_script.specs.Steps.{step_lines}
use Rattle.play_state.specs.declared.play_fault.PlayFault.TheVariants as play_fault
use Rattle.net_script.proofs.StageLaws.{leads_stopped}
use Rattle.net_script.proofs.LineLaws.{lines_playable}
use Rattle.net_script.proofs.ListLaws.{list_begins, some_lost}
use Rattle.net_script.proofs.loads.play_step.Goals as goal

pub returns-in_err-lines-clause-outcome : goal.returns-in_err-lines-clause-outcome
returns-in_err-lines-clause-outcome g c p v h =
    leads_stopped g.C.Callbacks.script g.C.Made.script_of g.C.Callbacks.stands_for c.from_residual.result play_fault.NoMemory c.args.kinds _ _ c.args.stage.now _ p _ v c.from_residual.ensures
    (some_lost {R = g.C.Callbacks.stands_for} c.args.kinds _ _ c.args.stage.now c.args.stage.now Line (PlaysLine g.C.Made.script_of) (step_lines c.args.number c.args.seed) (step_lines c.args.number c.args.seed) (lines_playable g.C.Made.script_of) (list_begins c.args.kinds _ c.args.stage.now Line (PlaysLine g.C.Made.script_of) (step_lines c.args.number c.args.seed)) p v h)

pub returns-clause-outcome : goal.returns-clause-outcome
returns-clause-outcome g c p v h = rw (c.as_slice.ensures, c.in_ok-lines.ensures) at (c.play_lines.ensures.outcome p v h)
