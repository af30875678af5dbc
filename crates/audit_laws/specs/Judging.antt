-- No line of a run breaks a rule.
use Rattle.std.specs.Prelude.{◌≡◌, List, length}
use Rattle.node_state.specs.declared.happened.Happened.{Happened}
use Rattle.run_audit.specs.declared.broken.Verdict.TheVariants.{Seen}
use Rattle.run_audit.specs.Table.{verdict_of}
use Rattle.audit_laws.specs.Lines.{lines}
use Rattle.audit_laws.specs.Records.{OfRun}

abbrev pub LinesAreSeen : Type 0
LinesAreSeen = (rs : List Happened) → OfRun rs → verdict_of (lines rs) ≡ Seen (length rs)
