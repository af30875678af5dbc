use Rattle.std.proofs.Common.{◌∙◌, ap}
use Rattle.std.specs.Map.{lookup}
use Rattle.run_audit.specs.Places.{PlaceAt, is_place_key}
use Rattle.run_audit.proofs.PlaceLaws.{place_found}
use Rattle.run_audit.proofs.places.Places.first.Goals as goal

pub returns : goal.returns
returns c =
    let p : PlaceAt = record { view = c.args.view; group = c.args.group.now; place = c.args.place } in
    c.get.ensures.value
    ∙ (place_found c.in_ok-key.key p c.self.inside.by_key.entries c.in_ok-key.ensures.view c.in_ok-key.ensures.group c.in_ok-key.ensures.place ∙ ap (λ z. lookup (is_place_key p) z) c.self.view_is)
