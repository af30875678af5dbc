use Rattle.std.proofs.Common.{◌++◌, sym, ◌∙◌, ap}
use Rattle.proposal_core.specs.Fold.{joiners_in}
use Rattle.audit_states.specs.Basing.{fallen_by}
use Rattle.audit_states.proofs.BasingLaws.{fallen_joined}
use Rattle.audit_states.proofs.basing.Coming.fallen_of.Goals as goal

pub returns : goal.returns
returns c =
    let k = c.args.self.now in
    let s = c.args.state.now in
    let f = fallen_by k.comings.now k.members.now k.view k.old in
    c.in_ok-extend_from_slice.ensures.items
    ∙ (λ i. (c.in_ok-fallen.ensures ∙ ap f c.members.ensures) i ++ (c.as_slice.ensures.value ∙ c.in_ok-joiners.ensures ∙ ap f c.joiners.ensures) i)
    ∙ sym (fallen_joined k.comings.now k.members.now k.view k.old s.members (joiners_in s.running))
