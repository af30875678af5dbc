-- What went out is counted.
use Rattle.std.proofs.Common.{refl}
use Rattle.daemon_run.proofs.RemoteLaws.{back_done}
use Rattle.daemon_run.proofs.running.Running.send_back.Goals as goal

pub returns-clause-done : goal.returns-clause-done
returns-clause-done g c =
    back_done c.args.self.now _ c.send_message.new.self c.in_ok-sent.sent c.saturating_add-total.result c.args.network c.args.message.now _ _ c.in_ok-sent.ensures.fits c.in_ok-sent.ensures.number c.in_ok-sent.ensures.count c.saturating_add-total.ensures refl c.in_ok-sent.ensures.done
