use Rattle.std.proofs.Common.{Some, ◌∙◌, ap, cond}
use Rattle.std.specs.Map.{lookup}
use Rattle.audit_states.specs.Comings.{same_inc_key}
use Rattle.audit_states.proofs.ComingLaws.{view_pushed}
use Rattle.audit_states.proofs.comings.Comings.push.Goals as goal

pub returns : goal.returns
returns c =
    λ q. view_pushed c.args.key c.args.view c.take-views.result c.push.new.self c.args.self.now c.take-views.new.self c.insert.new.self.entries q c.take-views.ensures.views c.take-views.ensures.others c.in_ok-push.ensures.ok
    (λ r. c.in_ok-insert.ensures.updates.0 r ∙ ap (λ z. cond (same_inc_key c.args.key r) (Some c.push.new.self) (lookup (same_inc_key r) z)) c.self.view_is)
