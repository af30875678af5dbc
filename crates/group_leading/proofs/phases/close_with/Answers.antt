-- The entry was appended, and the tally is that of the next phase, or none.
use Rattle.std.proofs.Common.{sym, ◌∙◌}
use Rattle.group_leading.proofs.CloseLaws.{closed_next, closed_last}
use Rattle.group_leading.proofs.phases.close_with.Goals as goal

pub returns-in_ok-open_tally-clause-does : goal.returns-in_ok-open_tally-clause-does
returns-in_ok-open_tally-clause-does g c =
    closed_next _ _ c.args.core.now c.append.new.core c.open_tally.new.core c.args.group.now c.args.entry.now _ (sym c.is_phase.ensures ∙ c.if-is_phase.true) c.in_ok-append.ensures.does c.in_ok-open_tally.ensures.rule c.in_ok-open_tally.ensures.keeps

pub returns-in_ok-open_tally-2-clause-does : goal.returns-in_ok-open_tally-2-clause-does
returns-in_ok-open_tally-2-clause-does g c =
    closed_last _ _ c.args.core.now c.append.new.core c.open_tally-else-is_phase.new.core c.args.group.now c.args.entry.now _ (sym c.is_phase.ensures ∙ c.if-is_phase.false) c.in_ok-append.ensures.does c.in_ok-open_tally-2.ensures.rule c.in_ok-open_tally-2.ensures.keeps
