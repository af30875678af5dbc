use Rattle.std.proofs.Common.{sym, ◌∙◌, ap, subst}
use Rattle.std.specs.Map.{lookup}
use Rattle.run_audit.specs.Based.{groups_in, with_group}
use Rattle.run_audit.specs.Keys.{same_stay_key}
use Rattle.run_audit.specs.Leavers.{ArePutGroups}
use Rattle.run_audit.proofs.PassLaws.{first_put, later_put}
use Rattle.run_audit.proofs.passing.PutGroups.note.Goals as goal

pub returns-then-is_later : goal.returns-then-is_later
returns-then-is_later c = λ ls e are. later_put c.args.node c.args.view c.args.group.now c.args.place e c.args.self.now ls c.is_later.result c.is_later.ensures c.if-is_later.true are

pub returns : goal.returns
returns c =
    λ ls e are. first_put c.args.node c.args.view c.args.group.now c.args.place e c.self.inside.groups c.push.new.self ls c.is_later.result c.is_later.ensures c.if-is_later.false
    (λ q. c.in_ok-push.ensures q ∙ ap (λ k. with_group (same_stay_key k q) c.args.group.now (groups_in (lookup (same_stay_key q) c.self.inside.groups))) c.stay_key.ensures) (subst (ArePutGroups ls) (sym c.self.view_is) are)
