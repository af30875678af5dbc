use Rattle.std.proofs.Common.{◌∙◌}
use Rattle.world_laws.proofs.world_answers.Adding.{ticks_add}
use Rattle.world_laws.proofs.world_answers.Going.{ticks_go}
use Rattle.play_state.specs.declared.play_fault.PlayFault.TheVariants as play_fault
use Rattle.net_script.proofs.StageLaws.{leads_stopped, broke_none}
use Rattle.net_script.proofs.RoundLaws.{all_ticked}
use Rattle.net_script.proofs.rounds.tick_all.Goals as goal

pub returns-in_err-ns-clause-outcome : goal.returns-in_err-ns-clause-outcome
returns-in_err-ns-clause-outcome g c p v h =
    let q = ticks_go g.C.Made.script_of p in
    let more = ticks_add p q.0 q.1 in
    leads_stopped g.C.Callbacks.script g.C.Made.script_of g.C.Callbacks.stands_for c.from_residual.result play_fault.NoMemory c.args.kinds _ _ c.args.stage.now _ p _ v c.from_residual.ensures (q.0, q.1, broke_none c.args.kinds _ c.args.stage.now p q.0 v more.events more.grew)

pub returns-clause-outcome : goal.returns-clause-outcome
returns-clause-outcome g c = all_ticked c.tick_each.result c.args.kinds _ _ c.args.stage.now c.tick_each.new.stage c.as_slice.result.now (c.as_slice.ensures.value ∙ c.in_ok-ns.ensures) c.tick_each.ensures.outcome
