use Rattle.std.specs.Prelude.{option_copied}
use Rattle.run_audit.proofs.CastLaws.{rows_keep, rows_break}
use Rattle.run_audit.proofs.casts.Casts.fault.Goals as goal

pub returns-then-closes_well : goal.returns-then-closes_well
returns-then-closes_well c =
    λ ls n v g i are keep at. rows_keep n v g i c.args.entry.now ls (option_copied c.closed_in.result) c.closes_well.result c.closed_in.ensures (c.closes_well.ensures ls are keep) c.if-closes_well.true

pub returns-else-closes_well : goal.returns-else-closes_well
returns-else-closes_well c =
    λ ls n v g i are keep at. rows_break n v g i c.args.entry.now ls (option_copied c.closed_in.result) c.closes_well.result c.args.with_line c.closed_in.ensures (c.closes_well.ensures ls are keep) c.if-closes_well.false at
