-- Who votes is as the definition of each kind of proposal says.
use Rattle.std.proofs.Common.{◌≡◌, List, [], ◌++◌, sym, ◌∙◌, ap}
use Rattle.std.proofs.lemmas.List.{append-nil}
use Rattle.rsct_packet.specs.declared.ids.ProviderId.{ProviderId}
use Rattle.rsct_packet.specs.Providers.{without_all}
use Rattle.proposal_core.specs.declared.proposal.Proposal.{Proposal}
use Rattle.proposal_core.specs.declared.proposal.Proposal.TheVariants.{Join, Leave, Fail, Expel, State, Message, Attributes, Reflect}
use Rattle.proposal_core.specs.declared.group_state.GroupState.{GroupState}
use Rattle.proposal_core.specs.Fold.{joins_of, voters_on, voters_at, voters}
use Rattle.proposal_core.proofs.FoldLaws.{nobody_off}
use Rattle.fold_laws.specs.Voters.{leavers_of, VotersAreWhoStay}

-- nobody goes, and nobody comes
pub all_stay : (xs : List ProviderId) → xs ≡ without_all xs [] ++ []
all_stay xs = sym (nobody_off xs) ∙ sym (append-nil (without_all xs []))

stay_on : (s : GroupState) (x : Proposal) → voters_on s x ≡ without_all s.members (leavers_of x) ++ joins_of x
unfolding voters_on
stay_on s (Join ps attrs n) = ap (λ (xs : List ProviderId). xs ++ ps) (sym (nobody_off s.members))
stay_on s (Leave p r) = sym (append-nil _)
stay_on s (Fail out) = sym (append-nil _)
stay_on s (Expel p r out) = sym (append-nil _)
stay_on s (State p r value) = all_stay s.members
stay_on s (Message p r bytes) = all_stay s.members
stay_on s (Attributes p r attrs) = all_stay s.members
stay_on s (Reflect view place value) = all_stay s.members

pub voters_are_who_stays : VotersAreWhoStay
unfolding voters voters_at
voters_are_who_stays s =
    record { running = λ run e. ap (voters_at s) e ∙ stay_on s run.proposal; idle = λ e. ap (voters_at s) e }
