use Rattle.std.proofs.Common.{Some, [], ◌∷◌, ◌++◌, ◌∙◌, ap, cond}
use Rattle.std.specs.Map.{lookup}
use Rattle.run_audit.specs.Keys.{same_stay_key}
use Rattle.run_audit.proofs.BasedLaws.{pushed}
use Rattle.run_audit.proofs.groups.GroupLists.push.Goals as goal

pub returns : goal.returns
returns c =
    λ q. pushed c.args.key c.args.group.now c.take-groups.result c.push.new.self c.args.self.now c.take-groups.new.self c.insert.new.self.entries q c.take-groups.ensures.groups c.take-groups.ensures.others
    (c.in_ok-push.ensures.ok ∙ ap (λ z. c.take-groups.result ++ z ∷ []) c.in_ok-name.ensures)
    (λ r. c.in_ok-insert.ensures.updates.0 r ∙ ap (λ z. cond (same_stay_key c.args.key r) (Some c.push.new.self) (lookup (same_stay_key r) z)) c.self.view_is)
