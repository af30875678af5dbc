-- One phase, and then the rest.
use Rattle.std.proofs.Common.{◌<◌, sym, ◌∙◌, arith}
use Rattle.std.proofs.lemmas.Result.{on_ok_weaker}
use Rattle.entry_delivery.proofs.DoingLaws.{receive_nothing, receive_then}
use Rattle.group_leading.proofs.CloseLaws.{no_phase, last_phase, next_phase}
use Rattle.group_leading.proofs.phases.+close_from.Goals as goal

pub returns-then-most-eq0-clause-does : goal.returns-then-most-eq0-clause-does
returns-then-most-eq0-clause-does g t c = no_phase _ _ (receive_nothing _ _) c.args.core.now c.args.group.now c.args.most c.if-most-eq0.true

pub returns-then-opened-clause-does : goal.returns-then-opened-clause-does
returns-then-opened-clause-does g t c =
    let some : 0 < c.args.most = omega arith in
    on_ok_weaker c.close_from.result
    (λ rest. next_phase _ _ _ _ (receive_then _ _ _ _) c.args.core.now c.close_one.new.core c.close_from.new.core c.args.group.now c.args.most some (sym c.in_ok-opened.ensures.next ∙ c.if-opened.true) c.in_ok-opened.ensures.does (rw c.in_ok-opened.ensures.scripts at rest))
    c.close_from.ensures.does

pub returns-clause-does : goal.returns-clause-does
returns-clause-does g t c =
    let some : 0 < c.args.most = omega arith in
    last_phase _ _ c.args.core.now c.close_one.new.core c.args.group.now c.args.most some (sym c.in_ok-opened.ensures.next ∙ c.if-opened.false) c.in_ok-opened.ensures.does
