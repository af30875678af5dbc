use Rattle.call_laws.proofs.Records.{calls_leave_records as law}
use Rattle.call_laws.proofs.calls_leave_records.Goals as goal

pub returns : goal.returns
returns c = law
