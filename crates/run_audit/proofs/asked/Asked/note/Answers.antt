use Rattle.std.proofs.Common.{sym, subst}
use Rattle.run_audit.specs.Requests.{AreAsked}
use Rattle.run_audit.proofs.RequestLaws.{asked_noted}
use Rattle.run_audit.proofs.asked.Asked.note.Goals as goal

pub returns : goal.returns
returns c =
    λ ls are. asked_noted c.args.provider c.args.request c.args.group.now c.args.kind c.args.number c.in_ok-key.key c.self.inside.by_key.entries c.insert.new.self.entries ls c.in_ok-key.ensures.request c.in_ok-key.ensures.group c.in_ok-key.ensures.number
    c.in_ok-insert.ensures.updates.1 c.in_ok-insert.ensures.updates.3 (subst (AreAsked ls) (sym c.self.view_is) are)
