-- Short lists of records, the latest first: a group `web` over the source `db`, as its leader has put its entries.
use Rattle.std.specs.Prelude.{ℕ, List, [], ◌∷◌, Some, None, codes}
use Rattle.rsct_packet.specs.declared.ids.ProviderId.{ProviderId}
use Rattle.rsct_packet.specs.declared.ids.ViewId.{ViewId}
use Rattle.group_attr.specs.declared.attrs.Attrs.{Attrs}
use Rattle.group_attr.specs.Attrs.{empty_attrs}
use Rattle.proposal_core.specs.declared.proposal.Proposal.TheVariants.{Join, Leave, State, Reflect}
use Rattle.proposal_core.specs.declared.entry.Entry.TheVariants.{Once}
use Rattle.proposal_core.specs.declared.group_state.GroupState.{GroupState}
use Rattle.node_state.specs.declared.happened.Happened.{Happened}
use Rattle.node_state.specs.declared.happened.Happened.TheVariants.{Put}
use Rattle.run_safety.specs.Past.{state_now}

abbrev pub db : List ℕ
db = codes "db"

abbrev pub web : List ℕ
web = codes "web"

abbrev pub view : ViewId
view = record { number = 1; coord = 1; inc = 1 }

-- 1.1.7.1 is the source's, 1.1.8.2 the target's
abbrev pub source_member : ProviderId
source_member = record { node = 1; inc = 1; instance = 7; join = 1 }

abbrev pub target_member : ProviderId
target_member = record { node = 1; inc = 1; instance = 8; join = 2 }

abbrev pub over_db : Attrs
over_db = record (empty_attrs) { source = Some db }

-- both have joined, and the source sets a value
abbrev pub set : List Happened
set =
    Put 1 view db 1 (Once (State source_member 3 (codes "red"))) ∷ Put 1 view web 0 (Once (Join (target_member ∷ []) over_db (Some 1))) ∷ Put 1 view db 0 (Once (Join (source_member ∷ []) empty_attrs None)) ∷ []

-- then it is reflected
abbrev pub reflected : List Happened
reflected = Put 1 view web 1 (Once (Reflect view 1 (codes "red"))) ∷ set

-- then the member of the source leaves
abbrev pub moved : List Happened
moved = Put 1 view db 2 (Once (Leave source_member 4)) ∷ reflected

-- the state of a group by these records
abbrev pub at : List ℕ → List Happened → GroupState
at g rs = state_now 1 view g rs
