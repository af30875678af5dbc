use Rattle.std.proofs.Common.{◌∙◌, ap}
use Rattle.proposal_core.specs.Fold.{present}
use Rattle.audit_states.specs.Basing.{fallen_by}
use Rattle.audit_states.proofs.BasingLaws.{shown_is}
use Rattle.audit_states.proofs.basing.shows.Goals as goal

pub returns : goal.returns
returns c =
    let k = c.args.coming.now in
    λ old. c.are_shown.ensures
    ∙ shown_is k.comings.now k.members.now k.view c.args.base.now c.args.state.now c.as_slice.result.now c.has_members-members.result c.has_value-value.result c.is_open-running.result c.has_failed-failed.result
    (c.as_slice.ensures.value ∙ c.in_ok-fallen.ensures ∙ ap (λ u. fallen_by k.comings.now k.members.now k.view u (present c.args.state.now)) old) c.has_members-members.ensures c.has_value-value.ensures c.is_open-running.ensures c.has_failed-failed.ensures
