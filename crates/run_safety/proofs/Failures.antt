-- Both ends of a failure leave take those whom it names from the members.
use Rattle.std.proofs.Common.{◌≡◌, ℕ, List, Option, Some, None, refl, sym, ap, ◌∙◌, subst}
use Rattle.std.specs.Prelude.{not, ◌&&◌}
use Rattle.rsct_packet.specs.declared.ids.ViewId.{ViewId}
use Rattle.rsct_packet.specs.declared.ids.ProviderId.{ProviderId}
use Rattle.rsct_packet.specs.Providers.{among}
use Rattle.rsct_packet.proofs.ProviderLaws.{among_without}
use Rattle.proposal_core.specs.declared.proposal.Failure.{Failure}
use Rattle.proposal_core.specs.declared.proposal.Proposal.TheVariants.{Fail}
use Rattle.proposal_core.specs.declared.group_state.GroupState.{GroupState}
use Rattle.proposal_core.specs.declared.group_state.Running.{Running}
use Rattle.proposal_core.specs.Fold.{fallen_of, without, effect, replace_proposed, take_value, approve, take_rejection, reject, apply}
use Rattle.run_safety.specs.Failures.{FailureLeavesTakeTheFallen}

-- a value that is taken leaves the members
valued_members : (s : GroupState) (v : ViewId) (i : ℕ) (o : Option (List ℕ)) → (take_value s v i o).members ≡ s.members
unfolding take_value
valued_members s v i None = refl
valued_members s v i (Some b) = refl

approved_takes : (s : GroupState) (run : Running) (out : List Failure) → run.proposal ≡ Fail out → (v : ViewId) (i : ℕ) (o : Option (List ℕ)) (p : ProviderId) → among (approve s v i o (Some run)).members p ≡ (among s.members p && not (among (fallen_of out) p))
unfolding approve effect without
approved_takes s run out e v i o p =
    subst (λ x. among (take_value (effect (record s { running = None }) x) v i (replace_proposed o run.proposed)).members p ≡ (among s.members p && not (among (fallen_of out) p))) (sym e)
    (ap (λ ms. among ms p) (valued_members (effect (record s { running = None }) (Fail out)) v i (replace_proposed o run.proposed)) ∙ among_without (fallen_of out) s.members p)

rejected_takes : (s : GroupState) (run : Running) (out : List Failure) → run.proposal ≡ Fail out → (p : ProviderId) → among (reject s (Some run)).members p ≡ (among s.members p && not (among (fallen_of out) p))
unfolding reject take_rejection without
rejected_takes s run out e p =
    subst (λ x. among (take_rejection (record s { running = None }) x).members p ≡ (among s.members p && not (among (fallen_of out) p))) (sym e) (among_without (fallen_of out) s.members p)

pub take_the_fallen : FailureLeavesTakeTheFallen
unfolding apply
take_the_fallen s run out r e v i c = (
  λ p. subst (λ o. among (approve s v i c.value o).members p ≡ (among s.members p && not (among (fallen_of out) p))) (sym r) (approved_takes s run out e v i c.value p),
  λ p. subst (λ o. among (reject s o).members p ≡ (among s.members p && not (among (fallen_of out) p))) (sym r) (rejected_takes s run out e p),
)
