use Rattle.run_audit.specs.Table.{with_of}
use Rattle.audit_states.proofs.BasingLaws.{base_kept, base_broken}
use Rattle.audit_states.proofs.basing.Basing.fault.Goals as goal

pub returns-then-kept : goal.returns-then-kept
returns-then-kept c =
    λ ls came states views stays based fit life into text. base_kept c.args.node c.args.view c.args.group.now c.args.base.now ls c.in_ok-kept.kept c.in_ok-with_line.with_line (c.in_ok-kept.ensures ls came states views stays fit life into text) c.if-kept.true

pub returns-else-kept : goal.returns-else-kept
unfolding with_of
returns-else-kept c =
    λ ls came states views stays based fit life into text. base_broken c.args.node c.args.view c.args.group.now c.args.base.now ls c.in_ok-kept.kept c.in_ok-with_line.with_line (c.in_ok-kept.ensures ls came states views stays fit life into text) c.if-kept.false (c.in_ok-with_line.ensures ls based)
