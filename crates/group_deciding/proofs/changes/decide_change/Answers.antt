-- A refusal is kept and sent.
use Rattle.std.proofs.Common.{sym, ◌∙◌}
use Rattle.std.proofs.lemmas.Result.{on_ok_weaker}
use Rattle.entry_delivery.proofs.DoingLaws.{receive_nothing}
use Rattle.group_leading.proofs.WorkLaws.{on_ok_both}
use Rattle.node_state.specs.Deciding.{decide_change}
use Rattle.group_deciding.proofs.DecidingLaws.{refused_does}
use Rattle.group_deciding.proofs.changes.decide_change.Goals as goal

pub returns-in-Some-clause-does : goal.returns-in-Some-clause-does
returns-in-Some-clause-does g c =
    on_ok_weaker c.refuse.result
    (refused_does _ _ (receive_nothing _ _) c.args.core.now c.refuse.new.core c.args.asked.now.group c.args.asked.now.provider c.args.asked.now.request c.args.asked.now.phases c.args.asked.now.proposal c.in-Some.y (sym c.in-Some.is ∙ rw c.bytes.ensures.value at c.in_ok-other_refusal.ensures))
    (on_ok_both _ _ c.refuse.result c.refuse.ensures.rule c.refuse.ensures.keeps)

pub returns-in-None-clause-does : goal.returns-in-None-clause-does
unfolding decide_change
returns-in-None-clause-does g c = rw (← (sym c.in-None.is ∙ rw c.bytes.ensures.value at c.in_ok-other_refusal.ensures)) c.grant.ensures.does
