-- What the event sends is sent, and its install is applied, if there is one.
use Rattle.std.proofs.Common.{sym, ◌∙◌}
use Rattle.std.proofs.lemmas.Result.{on_ok_weaker}
use Rattle.entry_delivery.proofs.DoingLaws.{receive_nothing}
use Rattle.node_views.proofs.WorkLaws.{sent_work, sent_does, taken_does}
use Rattle.node_views.proofs.packets.take_view.Goals as goal

pub apply-requires : goal.apply-requires
apply-requires g c = record { work = sent_work c.args.core.now c.step.new.core _ c.args.clients.now.items c.in_ok-step.ensures.rule c.requires.work }

pub returns-in-None-clause-work : goal.returns-in-None-clause-work
returns-in-None-clause-work g c = sent_work c.args.core.now c.step.new.core _ c.args.clients.now.items c.in_ok-step.ensures.rule c.requires.work

pub returns-in-None-clause-does : goal.returns-in-None-clause-does
returns-in-None-clause-does g c = sent_does _ _ (receive_nothing _ _) c.args.core.now c.step.new.core _ c.in_ok-step.ensures.rule (sym c.in-None.is ∙ c.in_ok-step.ensures.install)

pub returns-in-Some-clause-does : goal.returns-in-Some-clause-does
returns-in-Some-clause-does g c =
    on_ok_weaker c.apply.result (λ applying. taken_does _ _ c.args.core.now c.step.new.core c.apply.new.core _ c.in-Some.i c.in_ok-step.ensures.rule (sym c.in-Some.is ∙ c.in_ok-step.ensures.install) applying) c.apply.ensures.does
