use Rattle.std.proofs.Common.{◌∙◌}
use Rattle.run_audit.proofs.CastLaws.{line_is}
use Rattle.run_audit.proofs.casts.Casts.first_line.Goals as goal

pub returns : goal.returns
returns c = λ ls are. c.line_of.ensures ∙ line_is c.args.provider c.args.proto c.args.phase c.cast_key.result c.first.result c.args.self.now ls c.cast_key.ensures c.first.ensures are
