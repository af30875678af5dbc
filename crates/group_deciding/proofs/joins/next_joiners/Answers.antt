-- What is read once the joins are taken out.
use Rattle.std.proofs.Common.{◌∙◌}
use Rattle.node_groups.proofs.KeepLaws.{keeps_as}
use Rattle.group_deciding.proofs.TakingLaws.{attrs_taken, sourced_taken, joins_taken, joins_keep, sourced_apart}
use Rattle.group_deciding.proofs.joins.next_joiners.Goals as goal

pub of-requires : goal.of-requires
of-requires c = rw (c.as_slice-5.ensures.value, c.in_ok-ps.ensures, c.as_slice-2.ensures.value) (sourced_apart _ _ _ c.in_ok-chosen.ensures.apart)

pub returns-clause-attrs : goal.returns-clause-attrs
returns-clause-attrs c =
    attrs_taken c.args.core.now c.take_joins.new.core c.args.group.now c.args.state.now c.in_ok-chosen.chosen.items _ c.requires.order c.requires.state c.in_ok-chosen.ensures.rule c.in_ok-chosen.ensures.taken
    (rw (c.bytes.ensures.value, c.as_slice.ensures.value) at c.in_ok-attrs.ensures)

pub returns-clause-ps : goal.returns-clause-ps
returns-clause-ps c =
    c.in_ok-of.ensures
    ∙ (c.as_slice-5.ensures.value
    ∙ sourced_taken c.args.core.now c.take_joins.new.core c.args.group.now c.args.state.now c.in_ok-chosen.chosen.items _ _ c.requires.order c.requires.state c.in_ok-chosen.ensures.rule c.in_ok-chosen.ensures.taken
    (returns-clause-attrs c) (rw c.as_slice-2.ensures.value at c.in_ok-ps.ensures))

pub returns-clause-rule : goal.returns-clause-rule
returns-clause-rule c =
    joins_taken c.args.core.now c.take_joins.new.core c.refuse_unsourced.new.core c.args.group.now c.args.state.now c.in_ok-chosen.chosen.items _ _ c.requires.order c.requires.state c.in_ok-chosen.ensures.rule c.in_ok-chosen.ensures.taken
    (returns-clause-attrs c) (rw c.as_slice-3.ensures.value at c.in_ok-refused.ensures) (rw c.as_slice-4.ensures.value at c.in_ok-refuse_unsourced.ensures)

pub returns-clause-keeps : goal.returns-clause-keeps
returns-clause-keeps c = keeps_as _ _ _ (returns-clause-rule c) (joins_keep c.args.core.now c.args.group.now)
