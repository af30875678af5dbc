use Rattle.std.proofs.Common.{◌∙◌}
use Rattle.run_audit.proofs.CastLaws.{rows_are}
use Rattle.run_audit.proofs.casts.Casts.are_cast.Goals as goal

pub returns : goal.returns
returns c = λ ls are keep. c.has_rows.ensures ∙ rows_are c.args.self.now ls c.args.closed.now are keep
