use Rattle.audit_states.proofs.ComingLaws.{view_noted}
use Rattle.audit_states.proofs.comings.Comings.note.Goals as goal

pub returns : goal.returns
returns c = λ ls are. view_noted c.args.node c.args.view c.args.members.now c.inc_in-inc.result c.args.self.now c.push.new.self ls c.inc_in-inc.ensures c.in_ok-push.ensures are
