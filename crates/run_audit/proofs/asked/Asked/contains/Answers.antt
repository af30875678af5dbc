use Rattle.std.proofs.Common.{◌∙◌, ap}
use Rattle.std.specs.Prelude.{is_some}
use Rattle.std.specs.Map.{lookup}
use Rattle.run_audit.specs.Requests.{same_asked_key}
use Rattle.run_audit.proofs.RequestLaws.{asked_found}
use Rattle.run_audit.proofs.asked.Asked.contains.Goals as goal

pub returns : goal.returns
returns c =
    λ ls are. c.contains_key.ensures
    ∙ (ap (λ z. is_some (lookup (same_asked_key c.in_ok-key.key) z)) c.self.view_is
    ∙ asked_found c.args.provider c.args.request c.args.group.now c.args.kind c.in_ok-key.key c.args.self.now ls c.in_ok-key.ensures.request c.in_ok-key.ensures.group c.in_ok-key.ensures.number are)
