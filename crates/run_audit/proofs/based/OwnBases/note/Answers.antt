use Rattle.std.proofs.Common.{sym, subst, ap, ◌∙◌}
use Rattle.std.specs.Prelude.{is_some}
use Rattle.std.specs.Map.{lookup}
use Rattle.run_audit.specs.Based.{AreOwnBases}
use Rattle.run_audit.specs.Lists.{same_row_key}
use Rattle.run_audit.proofs.BasedLaws.{own_kept, own_put}
use Rattle.run_audit.proofs.based.OwnBases.note.Goals as goal

pub returns-then-has : goal.returns-then-has
returns-then-has c = λ ls x are at. own_kept c.args.node c.args.view c.args.group.now x c.in_ok-key.key c.in_ok-key.ensures.node c.in_ok-key.ensures.view c.in_ok-key.ensures.group c.has.result c.args.self.now c.has.ensures ls c.if-has.true are

pub returns : goal.returns
returns c =
    λ ls x are at. own_put c.args.node c.args.view c.args.group.now x c.in_ok-key.key c.in_ok-key.ensures.node c.in_ok-key.ensures.view c.in_ok-key.ensures.group c.has.result c.self.inside.by_key.entries (c.has.ensures ∙ ap (λ z. is_some (lookup (same_row_key c.in_ok-key.key) z)) (sym c.self.view_is)) ls
    c.args.number c.insert.new.self.entries c.if-has.false c.in_ok-insert.ensures.updates.1 c.in_ok-insert.ensures.updates.3 (subst (AreOwnBases ls) (sym c.self.view_is) are) at
