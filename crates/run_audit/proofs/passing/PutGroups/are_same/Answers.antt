use Rattle.std.proofs.Common.{◌∙◌, ap}
use Rattle.std.specs.Map.{lookup}
use Rattle.run_audit.specs.Based.{groups_in}
use Rattle.run_audit.specs.Keys.{same_stay_key}
use Rattle.run_audit.proofs.PassLaws.{lists_alike}
use Rattle.run_audit.proofs.passing.PutGroups.are_same.Goals as goal

pub returns : goal.returns
returns c =
    λ ls put rows places entries. c.are_both.ensures
    ∙ lists_alike c.args.node c.args.other c.args.view c.args.rows.now c.args.self.now c.groups-own.result.now c.groups-others.result.now ls c.in_ok-here.here c.in_ok-there.there c.stay_key-own_key.result c.stay_key-other_key.result c.stay_key-own_key.ensures c.stay_key-other_key.ensures
    (c.groups-own.ensures ∙ ap (λ z. groups_in (lookup (same_stay_key c.stay_key-own_key.result) z)) c.self.view_is) (c.groups-others.ensures ∙ ap (λ z. groups_in (lookup (same_stay_key c.stay_key-other_key.result) z)) c.self.view_is) c.in_ok-here.ensures c.in_ok-there.ensures put rows places entries
