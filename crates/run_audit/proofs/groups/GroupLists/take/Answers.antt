use Rattle.std.proofs.Common.{◌∙◌, ap}
use Rattle.std.specs.Map.{lookup}
use Rattle.run_audit.specs.Keys.{same_stay_key}
use Rattle.run_audit.specs.Based.{groups_in}
use Rattle.run_audit.proofs.groups.GroupLists.take.Goals as goal

pub returns-clause-groups : goal.returns-clause-groups
returns-clause-groups c = c.groups_in.ensures ∙ ap groups_in (c.swap_remove-kept.ensures.value ∙ ap (λ z. lookup (same_stay_key c.args.key) z) c.self.view_is)

pub returns-clause-others : goal.returns-clause-others
returns-clause-others c = λ q e. c.swap_remove-kept.ensures.updates.2 q e ∙ ap (λ z. lookup (same_stay_key q) z) c.self.view_is
