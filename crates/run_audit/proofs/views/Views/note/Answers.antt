use Rattle.std.proofs.Common.{◌∙◌, sym, subst, ap}
use Rattle.std.specs.Prelude.{option_copied}
use Rattle.std.specs.Map.{lookup}
use Rattle.run_audit.specs.Keys.{same_view_key}
use Rattle.run_audit.specs.Views.{AreViews}
use Rattle.run_audit.proofs.ViewLaws.{noted_at}
use Rattle.run_audit.proofs.views.Views.note.Goals as goal

pub returns-in_ok-insert-in-None : goal.returns-in_ok-insert-in-None
returns-in_ok-insert-in-None c =
    λ ls are at. noted_at c.args.node c.args.view c.args.members c.args.number c.view_key-key.result (option_copied c.first.result) c.self.inside.by_key.entries c.insert.new.self.entries ls c.view_key-key.ensures
    (c.first.ensures ∙ ap (λ z. lookup (same_view_key c.view_key-key.result) z) (sym c.self.view_is)) (ap option_copied c.in-None.is) c.in_ok-insert-in-None.ensures.updates.0 (subst (AreViews ls) (sym c.self.view_is) are) at
