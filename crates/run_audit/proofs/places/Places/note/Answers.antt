use Rattle.std.proofs.Common.{sym, subst, ap, ◌∙◌}
use Rattle.std.specs.Prelude.{is_some}
use Rattle.std.specs.Map.{lookup}
use Rattle.run_audit.specs.Places.{ArePlaces, same_place_key}
use Rattle.run_audit.proofs.PlaceLaws.{first_comes, place_again}
use Rattle.run_audit.proofs.places.Places.note.Goals as goal

pub returns-then-has : goal.returns-then-has
returns-then-has c =
    λ ls n e are at text. place_again n c.args.view c.args.group.now c.args.place e c.in_ok-key.key c.in_ok-key.ensures.view c.in_ok-key.ensures.group c.in_ok-key.ensures.place c.has.result c.args.self.now c.has.ensures ls c.if-has.true are

pub returns : goal.returns
returns c =
    λ ls n e are at text. first_comes n c.args.view c.args.group.now c.args.place e c.in_ok-key.key c.in_ok-key.ensures.view c.in_ok-key.ensures.group c.in_ok-key.ensures.place c.has.result c.self.inside.by_key.entries
    (c.has.ensures ∙ ap (λ z. is_some (lookup (same_place_key c.in_ok-key.key) z)) (sym c.self.view_is)) ls c.args.number c.args.text c.insert.new.self.entries c.if-has.false c.in_ok-insert.ensures.updates.1 c.in_ok-insert.ensures.updates.3
    (subst (ArePlaces ls) (sym c.self.view_is) are) at text
