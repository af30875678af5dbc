use Rattle.std.proofs.Common.{sym, subst, ap, ◌∙◌}
use Rattle.std.specs.Prelude.{is_some}
use Rattle.std.specs.Map.{lookup}
use Rattle.run_audit.specs.Based.{AreFirstBases}
use Rattle.run_audit.specs.Lists.{same_list_key}
use Rattle.run_audit.proofs.BasedLaws.{base_kept, base_put}
use Rattle.run_audit.proofs.based.FirstBases.note.Goals as goal

pub returns-then-has : goal.returns-then-has
returns-then-has c = λ ls n x are at. base_kept n c.args.view c.args.group.now x c.in_ok-key.key c.in_ok-key.ensures.view c.in_ok-key.ensures.group c.has.result c.args.self.now c.has.ensures ls c.if-has.true are

pub returns : goal.returns
returns c =
    λ ls n x are at. base_put n c.args.view c.args.group.now x c.in_ok-key.key c.in_ok-key.ensures.view c.in_ok-key.ensures.group c.has.result c.self.inside.by_key.entries (c.has.ensures ∙ ap (λ z. is_some (lookup (same_list_key c.in_ok-key.key) z)) (sym c.self.view_is)) ls
    c.args.number c.insert.new.self.entries c.if-has.false c.in_ok-insert.ensures.updates.1 c.in_ok-insert.ensures.updates.3 (subst (AreFirstBases ls) (sym c.self.view_is) are) at
