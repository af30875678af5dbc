use Rattle.std.proofs.Common.{◌∙◌, sym, subst, ap}
use Rattle.std.specs.Prelude.{option_copied}
use Rattle.std.specs.Map.{lookup}
use Rattle.run_audit.specs.Rings.{AreRings, same_key}
use Rattle.run_audit.proofs.RingLaws.{noted_at}
use Rattle.run_audit.proofs.rings.Rings.note.Goals as goal

pub returns-in_ok-insert-in-None : goal.returns-in_ok-insert-in-None
returns-in_ok-insert-in-None c =
    λ ls n m are at. noted_at n c.args.network c.args.ring c.args.members m c.args.number c.key_of-key.result (option_copied c.first.result) c.self.inside.by_key.entries c.insert.new.self.entries ls c.key_of-key.ensures
    (c.first.ensures ∙ ap (λ z. lookup (same_key c.key_of-key.result) z) (sym c.self.view_is)) (ap option_copied c.in-None.is) c.in_ok-insert-in-None.ensures.updates.0 (subst (AreRings ls) (sym c.self.view_is) are) at
