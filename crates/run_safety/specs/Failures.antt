-- What a failure leave does to the members, whichever way it ends.
use Rattle.std.specs.Prelude.{◌≡◌, ℕ, not, ◌&&◌, List, Some}
use Rattle.rsct_packet.specs.declared.ids.ViewId.{ViewId}
use Rattle.rsct_packet.specs.declared.ids.ProviderId.{ProviderId}
use Rattle.rsct_packet.specs.Providers.{among}
use Rattle.proposal_core.specs.declared.proposal.Failure.{Failure}
use Rattle.proposal_core.specs.declared.proposal.Proposal.TheVariants.{Fail}
use Rattle.proposal_core.specs.declared.entry.Closed.{Closed}
use Rattle.proposal_core.specs.declared.entry.Entry.{Entry}
use Rattle.proposal_core.specs.declared.entry.Entry.TheVariants.{Approve, Reject}
use Rattle.proposal_core.specs.declared.group_state.GroupState.{GroupState}
use Rattle.proposal_core.specs.declared.group_state.Running.{Running}
use Rattle.proposal_core.specs.Fold.{fallen_of, apply}

-- the members after the entry are those before it that the failure leave does not name
abbrev pub TakesTheFallen : GroupState → List Failure → ViewId → ℕ → Entry → Type 0
TakesTheFallen s out v i e = (p : ProviderId) → among (apply s v i e).members p ≡ (among s.members p && not (among (fallen_of out) p))

-- where a failure leave runs, its approval and its rejection both take those whom it names, and nobody else
abbrev pub FailureLeavesTakeTheFallen : Type 0
FailureLeavesTakeTheFallen =
    (s : GroupState) (run : Running) (out : List Failure) → s.running ≡ Some run → run.proposal ≡ Fail out → (v : ViewId) (i : ℕ) (c : Closed) → TakesTheFallen s out v i (Approve c) × TakesTheFallen s out v i (Reject c)
