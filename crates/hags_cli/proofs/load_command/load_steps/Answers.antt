-- The fault of a load.
use Rattle.std.proofs.Common.{ap}
use Rattle.std.specs.Prelude.{Err}
use Rattle.hags_cli.proofs.LoadLaws.{load_ends}
use Rattle.hags_cli.proofs.load_command.load_steps.Goals as goal

pub returns-in_err-load : goal.returns-in_err-load
returns-in_err-load g c =
    load_ends c.args.steps _ _ _ _ c.from_residual.result c.in_err-load.field-0.0 c.from_residual.ensures (λ k is. c.in_err-load.ensures.kept k (ap Err is)) c.in_err-load.ensures.front c.in_err-load.ensures.safe_front
    (λ e. c.in_err-load.ensures.fault (ap Err e))
