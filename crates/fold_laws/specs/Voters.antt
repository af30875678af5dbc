-- Who votes, in plain words.
use Rattle.std.specs.Prelude.{◌≡◌, List, [], ◌∷◌, ◌++◌, Some, None}
use Rattle.rsct_packet.specs.declared.ids.ProviderId.{ProviderId}
use Rattle.rsct_packet.specs.Providers.{without_all}
use Rattle.proposal_core.specs.declared.proposal.Proposal.{Proposal}
use Rattle.proposal_core.specs.declared.proposal.Proposal.TheVariants.{Leave, Fail, Expel}
use Rattle.proposal_core.specs.declared.group_state.GroupState.{GroupState}
use Rattle.proposal_core.specs.declared.group_state.Running.{Running}
use Rattle.proposal_core.specs.Fold.{joins_of, fallen_of, voters}

-- whom a proposal takes off the members once it is approved: who leaves, who failed, who is expelled
abbrev pub leavers_of : Proposal → List ProviderId
leavers_of (Leave p r) = p ∷ []
leavers_of (Fail out) = fallen_of out
leavers_of (Expel p r out) = out
leavers_of _ = []

-- While a protocol runs, those vote on it who are members and whom it does not take off, in the order of their joins, and then
-- those who join by it. Nobody else votes, and nobody where nothing runs.
pub record AreWhoStay (s : GroupState) (vs : List ProviderId) : Type 0 where
  pub running : (run : Running) → s.running ≡ Some run → vs ≡ without_all s.members (leavers_of run.proposal) ++ joins_of run.proposal
  pub idle : s.running ≡ None → vs ≡ []

abbrev pub VotersAreWhoStay : Type 0
VotersAreWhoStay = (s : GroupState) → AreWhoStay s (voters s)
