use Rattle.std.proofs.Common.{refl, sym, ap, subst}
use Rattle.world_model.specs.Play.{drops, with_cuts, healed, networks_in}
use Rattle.world_laws.specs.world_answers.Plays.{in_that_world, PlaysLine}
use Rattle.play_state.specs.declared.play_fault.PlayFault.TheVariants as play_fault
use Rattle.net_script.specs.Stage.{LeadsTo}
use Rattle.net_script.proofs.StageLaws.{leads_stopped}
use Rattle.net_script.proofs.LineLaws.{dropped, recut, line_broken}
use Rattle.net_script.proofs.lines.play_line.Goals as goal

pub returns-in-Plain-clause-outcome : goal.returns-in-Plain-clause-outcome
returns-in-Plain-clause-outcome g c p v h =
    subst
    (λ l. LeadsTo g.C.Callbacks.script g.C.Made.script_of g.C.Callbacks.stands_for c.play_event.result c.args.kinds (g.K.Sink.held c.args.out.now) (g.K.Sink.held c.play_event.new.out) c.args.stage.now c.play_event.new.stage p (PlaysLine g.C.Made.script_of p l) v)
    (sym c.in-Plain.is) (c.play_event.ensures.outcome p v h)

pub returns-in-Flow-clause-outcome : goal.returns-in-Flow-clause-outcome
returns-in-Flow-clause-outcome g c p v h =
    subst
    (λ l. LeadsTo g.C.Callbacks.script g.C.Made.script_of g.C.Callbacks.stands_for c.flow.result c.args.kinds (g.K.Sink.held c.args.out.now) (g.K.Sink.held c.flow.new.out) c.args.stage.now c.flow.new.stage p (PlaysLine g.C.Made.script_of p l) v)
    (sym c.in-Flow.is) (c.flow.ensures.outcome p v h)

pub returns-in-Run-clause-outcome : goal.returns-in-Run-clause-outcome
returns-in-Run-clause-outcome g c p v h =
    subst
    (λ l. LeadsTo g.C.Callbacks.script g.C.Made.script_of g.C.Callbacks.stands_for c.run.result c.args.kinds (g.K.Sink.held c.args.out.now) (g.K.Sink.held c.run.new.out) c.args.stage.now c.run.new.stage p (PlaysLine g.C.Made.script_of p l) v)
    (sym c.in-Run.is) (c.run.ensures.outcome p v h)

pub returns-in_err-lose-in-Drop-clause-outcome : goal.returns-in_err-lose-in-Drop-clause-outcome
returns-in_err-lose-in-Drop-clause-outcome g c p v h =
    leads_stopped g.C.Callbacks.script g.C.Made.script_of g.C.Callbacks.stands_for c.from_residual.result play_fault.NoMemory c.args.kinds _ _ c.args.stage.now _ p _ v c.from_residual.ensures (line_broken g.C.Made.script_of c.args.kinds _ c.args.stage.now p c.args.line.now v)

pub returns-in_err-cut-in-Cut-clause-outcome : goal.returns-in_err-cut-in-Cut-clause-outcome
returns-in_err-cut-in-Cut-clause-outcome g c p v h =
    leads_stopped g.C.Callbacks.script g.C.Made.script_of g.C.Callbacks.stands_for c.from_residual-in_err-cut-in-Cut.result play_fault.NoMemory c.args.kinds _ _ c.args.stage.now _ p _ v c.from_residual-in_err-cut-in-Cut.ensures (line_broken g.C.Made.script_of c.args.kinds _ c.args.stage.now p c.args.line.now v)

pub returns-in_ok-lose-in-Drop-clause-outcome : goal.returns-in_ok-lose-in-Drop-clause-outcome
returns-in_ok-lose-in-Drop-clause-outcome g c p v h =
    record {
      play = in_that_world p (drops p.world c.in-Drop.a c.in-Drop.b);
      made = subst (λ l. PlaysLine g.C.Made.script_of p l (in_that_world p (drops p.world c.in-Drop.a c.in-Drop.b))) (sym c.in-Drop.is) refl;
      outcome = dropped c.args.kinds _ c.args.stage.now _ c.in-Drop.a c.in-Drop.b (ap (λ ps. record (c.args.stage.now) { world = record (c.args.stage.now.world) { packets = ps } }) c.in_ok-lose-in-Drop.ensures) p v h;
    }

pub returns-in_ok-cut-in-Cut-clause-outcome : goal.returns-in_ok-cut-in-Cut-clause-outcome
returns-in_ok-cut-in-Cut-clause-outcome g c p v h =
    let cuts = with_cuts c.args.stage.now.cuts c.in-Cut.a c.in-Cut.b (networks_in c.in-Cut.network) in
    record {
      play = record p { cuts = cuts };
      made = subst (λ l. PlaysLine g.C.Made.script_of p l (record p { cuts = cuts })) (sym c.in-Cut.is) (ap (λ cs. record p { cuts = with_cuts cs c.in-Cut.a c.in-Cut.b (networks_in c.in-Cut.network) }) (sym h.cuts));
      outcome = recut c.args.kinds _ c.args.stage.now _ cuts (ap (λ cs. record (c.args.stage.now) { cuts = cs }) c.in_ok-cut-in-Cut.ensures) p v h;
    }

pub returns-in-Heal-clause-outcome : goal.returns-in-Heal-clause-outcome
returns-in-Heal-clause-outcome g c p v h =
    let cuts = healed c.args.stage.now.cuts c.in-Heal.a c.in-Heal.b (networks_in c.in-Heal.network) in
    record {
      play = record p { cuts = cuts };
      made = subst (λ l. PlaysLine g.C.Made.script_of p l (record p { cuts = cuts })) (sym c.in-Heal.is) (ap (λ cs. record p { cuts = healed cs c.in-Heal.a c.in-Heal.b (networks_in c.in-Heal.network) }) (sym h.cuts));
      outcome = recut c.args.kinds _ c.args.stage.now _ cuts (ap (λ cs. record (c.args.stage.now) { cuts = cs }) c.heal.ensures) p v h;
    }
