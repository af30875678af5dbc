use Rattle.run_audit.proofs.RequestLaws.{no_requests}
use Rattle.run_audit.proofs.requests.Requests.new.Goals as goal

pub returns : goal.returns
returns c = no_requests (record { asked = c.new.result; told = c.new-2.result; begun = c.new-3.result }) c.new.ensures c.new-2.ensures c.new-3.ensures
