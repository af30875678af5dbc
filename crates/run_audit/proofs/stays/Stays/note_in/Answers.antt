use Rattle.std.proofs.Common.{sym, subst}
use Rattle.run_audit.specs.Views.{AreStays}
use Rattle.run_audit.proofs.StayLaws.{entered}
use Rattle.run_audit.proofs.stays.Stays.note_in.Goals as goal

pub returns : goal.returns
returns c = λ ls ms are. entered c.args.node c.self.inside.by_node.entries c.insert.new.self.entries ls c.args.view ms c.in_ok-insert.ensures.updates.0 (subst (AreStays ls) (sym c.self.view_is) are)
