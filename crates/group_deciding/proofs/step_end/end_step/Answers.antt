-- A frozen node does nothing; another one goes through its groups again and again.
use Rattle.std.proofs.Common.{sym, ◌∙◌}
use Rattle.std.proofs.lemmas.Result.{on_ok_weaker}
use Rattle.entry_delivery.proofs.DoingLaws.{receive_nothing}
use Rattle.group_deciding.proofs.EndingLaws.{ended_frozen, ended_thawed}
use Rattle.group_deciding.proofs.step_end.end_step.Goals as goal

pub returns-then-is_frozen-clause-does : goal.returns-then-is_frozen-clause-does
returns-then-is_frozen-clause-does g c = ended_frozen _ _ (receive_nothing _ _) c.args.core.now (sym c.is_frozen.ensures ∙ c.if-is_frozen.true)

pub returns-clause-does : goal.returns-clause-does
returns-clause-does g c =
    on_ok_weaker c.repeat.result (ended_thawed _ _ c.args.core.now c.repeat.new.core c.most_begun-most.result (sym c.is_frozen.ensures ∙ c.if-is_frozen.false) c.most_begun-most.ensures) c.repeat.ensures.does
