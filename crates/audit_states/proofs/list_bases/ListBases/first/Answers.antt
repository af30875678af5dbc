use Rattle.std.proofs.Common.{◌∙◌, ap}
use Rattle.std.specs.Map.{lookup}
use Rattle.run_audit.specs.Lists.{is_list_key}
use Rattle.run_audit.proofs.BasedLaws.{list_found}
use Rattle.audit_states.proofs.list_bases.ListBases.first.Goals as goal

pub returns : goal.returns
returns c =
    c.get.ensures.value
    ∙ (list_found c.in_ok-key.key c.args.view c.args.group.now c.self.inside.by_key.entries c.in_ok-key.ensures.view c.in_ok-key.ensures.group ∙ ap (λ z. lookup (is_list_key c.args.view c.args.group.now) z) c.self.view_is)
