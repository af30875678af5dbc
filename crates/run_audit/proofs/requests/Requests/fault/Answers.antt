use Rattle.std.proofs.Common.{sym, ◌∙◌, ap}
use Rattle.std.specs.Prelude.{option_copied}
use Rattle.run_audit.proofs.RequestLaws.{none_proposed, once_fault}
use Rattle.run_audit.proofs.requests.Requests.fault.Goals as goal

pub returns-in-None : goal.returns-in-None
returns-in-None c = λ ls v i are. none_proposed c.args.node v c.args.group.now i c.args.entry.now ls (sym (ap option_copied c.in-None.is) ∙ c.proposal_in.ensures)

pub returns-in_ok-undue-in-Some : goal.returns-in_ok-undue-in-Some
returns-in_ok-undue-in-Some c =
    λ ls v i are. c.fault_by.ensures
    ∙ once_fault c.args.node v c.args.group.now i c.args.entry.now ls c.in-Some.proposal.now c.in_ok-undue-in-Some.undue c.args.self.now (c.in_ok-undue-in-Some.ensures ls are) (sym (ap option_copied c.in-Some.is) ∙ c.proposal_in.ensures) are
