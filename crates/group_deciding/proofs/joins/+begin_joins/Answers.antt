-- A choice that is left out whole, and one that begins.
use Rattle.std.proofs.Common.{◌∙◌, sym}
use Rattle.std.proofs.lemmas.Result.{IfOk-weaker}
use Rattle.entry_delivery.proofs.DoingLaws.{receive_nothing}
use Rattle.group_deciding.proofs.EndingLaws.{joins_none, joins_on, joins_began}
use Rattle.group_deciding.proofs.joins.+begin_joins.Goals as goal

pub returns-then-most-eq0-clause-does : goal.returns-then-most-eq0-clause-does
returns-then-most-eq0-clause-does g t c = joins_none _ _ (receive_nothing _ _) _ _ _ c.if-most-eq0.true

pub returns-then-len-eq0-clause-does : goal.returns-then-len-eq0-clause-does
returns-then-len-eq0-clause-does g t c =
    IfOk-weaker c.begin_joins.result _ _
    (λ began done. joins_on _ _ c.args.core.now c.next_joiners.new.core _ began c.args.group.now c.args.most c.in_ok-ps.field-0.ps c.if-most-eq0.false c.in_ok-ps.ensures.ps (sym c.len.ensures.value ∙ c.if-len-eq0.true)
    c.in_ok-ps.ensures.rule c.in_ok-ps.ensures.keeps done)
    c.begin_joins.ensures.does

pub returns-clause-does : goal.returns-clause-does
returns-clause-does g t c =
    joins_began _ _ c.args.core.now c.next_joiners.new.core _ c.args.group.now c.args.most c.in_ok-ps.field-0.ps c.in_ok-ps.field-0.attrs _ c.if-most-eq0.false c.in_ok-ps.ensures.ps c.in_ok-ps.ensures.attrs
    (λ none. c.if-len-eq0.false (c.len.ensures.value ∙ none)) c.in_ok-ps.ensures.rule c.in_ok-ps.ensures.keeps c.carried_len-source_len.ensures c.in_ok-begin.ensures.does
