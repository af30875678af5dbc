use Rattle.std.proofs.Common.{◌∙◌, ap}
use Rattle.std.specs.Map.{lookup}
use Rattle.run_audit.specs.Keys.{same_pass_key}
use Rattle.run_audit.specs.Leavers.{entrants_in}
use Rattle.run_audit.proofs.leavers.Leavers.take.Goals as goal

pub returns-clause-entrants : goal.returns-clause-entrants
returns-clause-entrants c = c.entrants_in.ensures ∙ ap entrants_in (c.swap_remove-kept.ensures.value ∙ ap (λ z. lookup (same_pass_key c.args.key) z) c.self.view_is)

pub returns-clause-others : goal.returns-clause-others
returns-clause-others c = λ q e. c.swap_remove-kept.ensures.updates.2 q e ∙ ap (λ z. lookup (same_pass_key q) z) c.self.view_is
