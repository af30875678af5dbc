use Rattle.std.proofs.Common.{refl, sym, subst, ◌∙◌}
use Rattle.std.specs.Map.{lookup}
use Rattle.run_audit.specs.Lists.{RowAt, is_row_key}
use Rattle.run_audit.specs.Openings.{AreHeardOpen}
use Rattle.run_audit.proofs.OpenLaws.{heard_nothing, heard_noted}
use Rattle.run_audit.proofs.opened.HeardOpen.note.Goals as goal

pub returns-in-None : goal.returns-in-None
returns-in-None c =
    λ ls v g i w ms value es heard openings opens keep h.
    let r : RowAt = record { node = c.args.provider.node; view = v; group = g } in
    heard_nothing c.args.provider v g i w ms value ls (lookup (is_row_key r) es) es c.args.self.now refl (sym c.in-None.is ∙ opens) heard openings keep h

pub returns-in_ok-insert-in-Some : goal.returns-in_ok-insert-in-Some
returns-in_ok-insert-in-Some c =
    λ ls v g i w ms value es heard openings opens keep h.
    let r : RowAt = record { node = c.args.provider.node; view = v; group = g } in
    heard_noted c.args.provider v g i w ms value ls (lookup (is_row_key r) es) es c.self.inside.by_key.entries refl c.in-Some.opening c.phase_key-key.result c.args.number c.insert.new.self.entries
    (sym c.in-Some.is ∙ opens) c.phase_key-key.ensures c.in_ok-insert-in-Some.ensures.updates.0 (subst (AreHeardOpen ls) (sym c.self.view_is) heard) openings keep h
