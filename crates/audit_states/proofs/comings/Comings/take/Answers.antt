use Rattle.std.proofs.Common.{◌∙◌, ap}
use Rattle.std.specs.Map.{lookup}
use Rattle.audit_states.specs.Comings.{same_inc_key, views_in}
use Rattle.audit_states.proofs.comings.Comings.take.Goals as goal

pub returns-clause-views : goal.returns-clause-views
returns-clause-views c = c.views_in.ensures ∙ ap views_in (c.swap_remove-kept.ensures.value ∙ ap (λ z. lookup (same_inc_key c.args.key) z) c.self.view_is)

pub returns-clause-others : goal.returns-clause-others
returns-clause-others c = λ q e. c.swap_remove-kept.ensures.updates.2 q e ∙ ap (λ z. lookup (same_inc_key q) z) c.self.view_is
