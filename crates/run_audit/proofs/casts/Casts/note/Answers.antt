use Rattle.std.proofs.Common.{sym, subst, ap, ◌∙◌}
use Rattle.std.specs.Prelude.{is_some}
use Rattle.std.specs.Map.{lookup}
use Rattle.run_audit.specs.Casts.{AreCasts}
use Rattle.run_audit.specs.Keys.{same_cast_key}
use Rattle.run_audit.proofs.CastLaws.{cast_again, cast_comes}
use Rattle.run_audit.proofs.casts.Casts.note.Goals as goal

pub returns-then-has : goal.returns-then-has
returns-then-has c = λ ls x are at. cast_again c.args.provider c.args.proto c.args.phase c.args.vote x c.cast_key-key.result c.cast_key-key.ensures c.has.result c.args.self.now c.has.ensures ls c.if-has.true are

pub returns : goal.returns
returns c =
    λ ls x are at. cast_comes c.args.provider c.args.proto c.args.phase c.args.vote x c.cast_key-key.result c.cast_key-key.ensures c.has.result c.self.inside.by_key.entries (c.has.ensures ∙ ap (λ z. is_some (lookup (same_cast_key c.cast_key-key.result) z)) (sym c.self.view_is)) ls c.args.number c.insert.new.self.entries
    c.if-has.false c.in_ok-insert.ensures.updates.0 (subst (AreCasts ls) (sym c.self.view_is) are) at
