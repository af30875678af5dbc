use Rattle.std.proofs.Common.{refl}
use Rattle.run_audit.proofs.RequestLaws.{put_on}
use Rattle.run_audit.proofs.requests.Requests.note_put.Goals as goal

pub returns : goal.returns
returns c = λ ls v g i are at. put_on c.args.node v g i c.args.entry.now c.args.number ls c.args.self.now (record c.args.self.now { begun = c.note_entry.new.begun }) c.in_ok-note_entry.ensures refl refl are at
