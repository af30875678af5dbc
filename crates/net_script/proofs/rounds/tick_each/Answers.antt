use Rattle.std.proofs.Common.{ℕ, get_or, arith}
use Rattle.world_laws.specs.world_answers.Plays.{PlaysTick}
use Rattle.net_script.proofs.TextLaws.{same_item}
use Rattle.net_script.proofs.StageLaws.{leads_stopped}
use Rattle.net_script.proofs.ListLaws.{list_begins, list_next, list_stops, list_ends}
use Rattle.net_script.proofs.RoundLaws.{ticks_playable}
use Rattle.net_script.proofs.rounds.tick_each.Goals as goal

pub loop-n-init : goal.loop-n-init
loop-n-init g c = (list_begins c.args.kinds _ c.args.stage.now ℕ (PlaysTick g.C.Made.script_of) c.args.nodes.now, omega arith)

pub returns-in_err-play_event-clause-outcome : goal.returns-in_err-play_event-clause-outcome
returns-in_err-play_event-clause-outcome g c p v h =
    leads_stopped g.C.Callbacks.script g.C.Made.script_of g.C.Callbacks.stands_for c.from_residual.result c.in_err-play_event.field-0.0 c.args.kinds _ _ c.args.stage.now _ p _ v c.from_residual.ensures
    (list_stops c.in_err-play_event.field-0.0 c.args.kinds _ _ _ c.args.stage.now c.loop-n.stage _ ℕ (PlaysTick g.C.Made.script_of) (get_or c.args.nodes.now c.loop-n.n-index 0) c.args.nodes.now c.loop-n.n-index (ticks_playable g.C.Made.script_of) c.loop-n-test.true (same_item c.loop-n.n-index 0 _ c.args.nodes.now c.loop-n-test.true) c.loop-n.invariant.0 c.in_err-play_event.ensures.outcome p v h)

pub loop-n-preserved : goal.loop-n-preserved
loop-n-preserved g c =
    (list_next c.args.kinds _ _ _ c.args.stage.now c.loop-n.stage c.play_event.new.stage ℕ (PlaysTick g.C.Made.script_of) (get_or c.args.nodes.now c.loop-n.n-index 0) c.args.nodes.now c.loop-n.n-index c.loop-n-test.true (same_item c.loop-n.n-index 0 _ c.args.nodes.now c.loop-n-test.true) c.loop-n.invariant.0 c.in_ok-play_event.ensures.outcome, omega (arith, c.loop-n.invariant.1, c.play_event.ensures.later))

pub returns-clause-outcome : goal.returns-clause-outcome
returns-clause-outcome g c = list_ends tt c.args.kinds _ _ c.args.stage.now c.loop-n.stage ℕ (PlaysTick g.C.Made.script_of) c.args.nodes.now c.loop-n.n-index c.loop-n-test.false c.loop-n.invariant.0
