use Rattle.std.proofs.Common.{refl}
use Rattle.run_audit.proofs.RequestLaws.{told_on}
use Rattle.run_audit.proofs.requests.Requests.note_told.Goals as goal

pub returns : goal.returns
returns c = λ ls why are at. told_on c.args.provider c.args.request ls c.args.self.now (record c.args.self.now { told = c.note.new.self }) why c.request_key.result c.args.number c.request_key.ensures c.in_ok-note.ensures refl refl are at
