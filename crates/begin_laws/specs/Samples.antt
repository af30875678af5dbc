-- Short runs, for what begins: a member asks for a value, which is to be voted on; strangers ask; and two join at once.
use Rattle.std.specs.Prelude.{ℕ, List, [], ◌∷◌, Some, None, codes}
use Rattle.rsct_packet.specs.declared.ids.ProviderId.{ProviderId}
use Rattle.rsct_packet.specs.declared.ids.ViewId.{ViewId}
use Rattle.group_attr.specs.declared.attrs.Phases.TheVariants.{Many}
use Rattle.group_attr.specs.Attrs.{empty_attrs}
use Rattle.proposal_core.specs.declared.entry.Entry.{Entry}
use Rattle.proposal_core.specs.declared.group_state.GroupState.{GroupState}
use Rattle.proposal_core.specs.declared.proposal.Proposal.{Proposal}
use Rattle.proposal_core.specs.declared.proposal.Proposal.TheVariants.{Join, State}
use Rattle.proposal_core.specs.Fold.{empty_state}
use Rattle.node_state.specs.declared.call.CallLine.TheVariants as call
use Rattle.node_state.specs.declared.happened.Happened.TheVariants.{Asked, Base, Put}
use Rattle.world_model.specs.Run.{Happening}
use Rattle.world_model.specs.declared.event.Event.TheVariants.{Call, Tick}
use Rattle.run_safety.specs.Past.{History}

-- 1.1.7.1 and 2.1.8.1
abbrev pub provider : ProviderId
provider = record { node = 1; inc = 1; instance = 7; join = 1 }

abbrev pub stranger : ProviderId
stranger = record { node = 2; inc = 1; instance = 8; join = 1 }

abbrev pub a_client : List ℕ
a_client = codes "a"

abbrev pub db : List ℕ
db = codes "db"

abbrev pub view : ViewId
view = record { number = 1; coord = 1; inc = 1 }

-- the provider alone is a member
abbrev pub alone : GroupState
alone = record empty_state { members = provider ∷ [] }

-- a provider's request for a value, which is to be voted on
abbrev pub red : ProviderId → Proposal
red p = State p 2 (codes "red")

-- the node of the group's leader has noted the base, and the client has asked
abbrev pub asked : ProviderId → History
asked p =
    record { event = Some (Call p.node (call.ChangeState a_client db Many (codes "red"))); records = Asked p 2 db (red p) ∷ [] }
    ∷ record { event = None; records = Base 1 view db view 0 alone ∷ [] }
    ∷ []

-- then node 1 puts this entry first
abbrev pub puts : Entry → Happening
puts e = record { event = Some (Tick 1); records = Put 1 view db 0 e ∷ [] }

-- both join
abbrev pub both_join : Proposal
both_join = Join (provider ∷ stranger ∷ []) empty_attrs None
