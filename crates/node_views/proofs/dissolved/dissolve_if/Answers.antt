-- Nobody is dissolved where no provider is found, or where it lives in the base.
use Rattle.std.proofs.lemmas.Result.{on_ok_weaker}
use Rattle.entry_delivery.proofs.DoingLaws.{receive_nothing}
use Rattle.group_leading.proofs.WorkLaws.{on_ok_both}
use Rattle.node_views.proofs.ToldLaws.{unfound_does, spared_does, left_out_does}
use Rattle.node_views.proofs.dissolved.dissolve_if.Goals as goal

pub returns-in-None-clause-does : goal.returns-in-None-clause-does
returns-in-None-clause-does g c = unfound_does _ _ (receive_nothing _ _) c.args.core.now c.args.group.now c.args.old _ c.args.provider c.in-None.ensures

pub returns-then-not-is_left_out-clause-does : goal.returns-then-not-is_left_out-clause-does
returns-then-not-is_left_out-clause-does g c =
    spared_does _ _ (receive_nothing _ _) c.args.core.now c.args.group.now c.args.old _ c.args.provider c.in-Some.x.now c.is_left_out.result c.in-Some.ensures c.is_left_out.ensures c.if-not-is_left_out.true

pub returns-else-not-is_left_out-clause-does : goal.returns-else-not-is_left_out-clause-does
returns-else-not-is_left_out-clause-does g c =
    on_ok_weaker c.dissolve.result
    (λ dissolving. left_out_does _ _ c.args.core.now c.dissolve.new.core c.args.group.now c.args.old _ c.args.provider c.in-Some.x.now c.is_left_out.result c.number_of-r.result
    c.in-Some.ensures c.is_left_out.ensures c.if-not-is_left_out.false c.number_of-r.ensures dissolving.0 dissolving.1.0 dissolving.1.1)
    (on_ok_both _ _ c.dissolve.result c.dissolve.ensures.rule (on_ok_both _ _ c.dissolve.result c.dissolve.ensures.stays c.dissolve.ensures.received))
