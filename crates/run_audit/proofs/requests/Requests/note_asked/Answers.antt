use Rattle.std.proofs.Common.{refl}
use Rattle.run_audit.proofs.RequestLaws.{asked_on}
use Rattle.run_audit.proofs.requests.Requests.note_asked.Goals as goal

pub returns : goal.returns
returns c = λ ls are. asked_on c.args.provider c.args.request ls c.args.self.now (record c.args.self.now { asked = c.note.new.self }) c.args.group.now c.args.kind c.in_ok-note.ensures refl refl are
