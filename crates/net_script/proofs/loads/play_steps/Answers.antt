use Rattle.std.proofs.Common.{◌+◌, ◌-◌, refl, arith}
use Rattle.world_model.specs.declared.script.Line.{Line}
use Rattle.world_model.specs.Load.{load_from, load_lines}
use Rattle.world_laws.specs.world_answers.Plays.{PlaysLine}
use Rattle.net_script.proofs.StageLaws.{leads_stopped}
use Rattle.net_script.proofs.LineLaws.{lines_playable}
use Rattle.net_script.proofs.ListLaws.{list_begins, some_next, some_stops, none_left}
use Rattle.net_script.proofs.LoadLaws.{first_left, step_left, no_step_left}
use Rattle.net_script.proofs.loads.play_steps.Goals as goal

pub returns-in_err-play_beginning-clause-outcome : goal.returns-in_err-play_beginning-clause-outcome
returns-in_err-play_beginning-clause-outcome g c p v h =
    leads_stopped g.C.Callbacks.script g.C.Made.script_of g.C.Callbacks.stands_for c.from_residual.result c.in_err-play_beginning.field-0.0 c.args.kinds _ _ c.args.stage.now _ p _ v c.from_residual.ensures
    (some_stops c.in_err-play_beginning.field-0.0 c.args.kinds _ _ _ c.args.stage.now c.args.stage.now _ Line (PlaysLine g.C.Made.script_of) (load_lines c.args.steps) (load_lines c.args.steps) _ _ (lines_playable g.C.Made.script_of) (first_left c.args.steps c.args.steps refl) (list_begins c.args.kinds _ c.args.stage.now Line (PlaysLine g.C.Made.script_of) (load_lines c.args.steps)) c.in_err-play_beginning.ensures.outcome p v h)

pub loop-done-init : goal.loop-done-init
loop-done-init g c =
    (some_next c.args.kinds _ _ _ c.args.stage.now c.args.stage.now c.play_beginning.new.stage Line (PlaysLine g.C.Made.script_of) (load_lines c.args.steps) (load_lines c.args.steps) _ _ (first_left c.args.steps c.from-seed.result c.from-seed.ensures) (list_begins c.args.kinds _ c.args.stage.now Line (PlaysLine g.C.Made.script_of) (load_lines c.args.steps)) c.in_ok-play_beginning.ensures.outcome, c.play_beginning.ensures.later)

pub returns-in_err-play_step-clause-outcome : goal.returns-in_err-play_step-clause-outcome
returns-in_err-play_step-clause-outcome g c p v h =
    leads_stopped g.C.Callbacks.script g.C.Made.script_of g.C.Callbacks.stands_for c.from_residual-in_err-play_step.result c.in_err-play_step.field-0.0 c.args.kinds _ _ c.args.stage.now _ p _ v c.from_residual-in_err-play_step.ensures
    (some_stops c.in_err-play_step.field-0.0 c.args.kinds _ _ _ c.args.stage.now c.loop-done.stage _ Line (PlaysLine g.C.Made.script_of) (load_lines c.args.steps) _ _ _ (lines_playable g.C.Made.script_of) (step_left c.args.steps c.loop-done.done c.loop-done.seed c.loop-done-test.true) c.loop-done.invariant.0 (rw c.next_seed-seed.ensures at c.in_err-play_step.ensures.outcome) p v h)

pub loop-done-preserved : goal.loop-done-preserved
loop-done-preserved g c =
    rw c.next_seed-seed.ensures
    (some_next c.args.kinds _ _ _ c.args.stage.now c.loop-done.stage c.play_step.new.stage Line (PlaysLine g.C.Made.script_of) (load_lines c.args.steps) _ _ _ (step_left c.args.steps c.loop-done.done c.loop-done.seed c.loop-done-test.true) c.loop-done.invariant.0 (rw c.next_seed-seed.ensures at c.in_ok-play_step.ensures.outcome), omega (arith, c.loop-done.invariant.1, c.play_step.ensures.later))

pub returns-clause-outcome : goal.returns-clause-outcome
returns-clause-outcome g c =
    none_left tt c.args.kinds _ _ c.args.stage.now c.loop-done.stage Line (PlaysLine g.C.Made.script_of) (load_lines c.args.steps) _ (no_step_left c.args.steps c.loop-done.done (c.loop-done.done + 1) c.loop-done.seed c.loop-done-test.false) c.loop-done.invariant.0
