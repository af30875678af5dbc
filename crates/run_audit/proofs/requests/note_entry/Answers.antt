use Rattle.std.proofs.Common.{◌≡◌, sym, ◌∙◌, ap, subst}
use Rattle.std.specs.Prelude.{option_copied, OnOk}
use Rattle.std.specs.List.{list_any}
use Rattle.std.specs.Map.{lookup}
use Rattle.run_audit.specs.declared.keys.RequestKey.{RequestKey}
use Rattle.run_audit.specs.Keys.{same_request_key}
use Rattle.run_audit.specs.Requests.{begins, or_number}
use Rattle.run_audit.specs.Table.{carried_by, proposal_in}
use Rattle.run_audit.proofs.RequestLaws.{none_carried}
use Rattle.run_audit.proofs.requests.note_entry.Goals as goal

pub returns-in-None : goal.returns-in-None
returns-in-None c = λ q. none_carried c.args.node c.args.number (proposal_in c.args.entry.now) q c.args.begun.now (sym (ap option_copied c.in-None.is) ∙ c.proposal_in.ensures)

pub returns-in-Some : goal.returns-in-Some
unfolding carried_by
returns-in-Some c =
    subst (λ o. OnOk c.note_proposal.result ((q : RequestKey) → lookup (same_request_key q) c.note_proposal.new.begun ≡ or_number (list_any (begins c.args.node q) (carried_by o)) c.args.number (lookup (same_request_key q) c.args.begun.now))) (sym (ap option_copied c.in-Some.is) ∙ c.proposal_in.ensures)
    c.note_proposal.ensures
