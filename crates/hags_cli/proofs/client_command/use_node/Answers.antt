-- The fault of a client.
use Rattle.std.proofs.Common.{ap}
use Rattle.std.specs.Prelude.{Err}
use Rattle.hags_cli.proofs.ClientLaws.{uses_fault}
use Rattle.hags_cli.proofs.client_command.use_node.Goals as goal

pub returns-in_err-use_daemon : goal.returns-in_err-use_daemon
returns-in_err-use_daemon g c =
    uses_fault c.args.usage _ c.in_ok-script.script c.in_ok-script.ensures.read c.from_residual-in_err-use_daemon.result c.in_err-use_daemon.field-0.0 c.from_residual-in_err-use_daemon.ensures c.in_err-use_daemon.ensures.stops
    (λ e. c.in_err-use_daemon.ensures.unanswered (ap Err e))
    (λ e. c.in_err-use_daemon.ensures.lost (ap Err e))
    (λ e. c.in_err-use_daemon.ensures.full (ap Err e))
    (λ e. c.in_err-use_daemon.ensures.failing (ap Err e)) c.in_err-use_daemon.ensures.ever
    (λ e. c.in_err-use_daemon.ensures.fault (ap Err e))
    (λ e. c.in_err-use_daemon.ensures.failed (ap Err e))
