-- A short run, for worked calls: a client joins, and then asks for a value or votes.
use Rattle.std.specs.Prelude.{ℕ, List, [], ◌∷◌, Some, None, codes}
use Rattle.rsct_packet.specs.declared.ids.ProviderId.{ProviderId}
use Rattle.rsct_packet.specs.declared.ids.ProtoId.{ProtoId}
use Rattle.group_attr.specs.declared.attrs.Phases.TheVariants.{One}
use Rattle.group_attr.specs.Attrs.{empty_attrs}
use Rattle.proposal_core.specs.declared.entry.Vote.{Vote}
use Rattle.proposal_core.specs.declared.entry.Vote.TheVariants.{Reject}
use Rattle.proposal_core.specs.declared.proposal.Proposal.TheVariants.{Join, State}
use Rattle.node_state.specs.declared.call.CallLine.TheVariants as call
use Rattle.node_state.specs.declared.happened.Happened.TheVariants.{Asked, Cast}
use Rattle.world_model.specs.Run.{Happening}
use Rattle.world_model.specs.declared.event.Event.TheVariants.{Call}
use Rattle.run_safety.specs.Past.{History}

-- 1.1.7.1
abbrev pub provider : ProviderId
provider = record { node = 1; inc = 1; instance = 7; join = 1 }

abbrev pub a_client : List ℕ
a_client = codes "a"

abbrev pub db : List ℕ
db = codes "db"

-- its client joined it
abbrev pub joined : History
joined = record { event = Some (Call 1 (call.Join a_client db 7 empty_attrs)); records = Asked provider 1 db (Join (provider ∷ []) empty_attrs None) ∷ [] } ∷ []

-- the client asks for `red`, and this value is asked for
abbrev pub asks_for : List ℕ → Happening
asks_for value = record { event = Some (Call 1 (call.ChangeState a_client db One (codes "red"))); records = Asked provider 2 db (State provider 2 value) ∷ [] }

-- the client rejects, without a value, in the first phase of 1.1.1/1, and this is cast
abbrev pub proto : ProtoId
proto = record { view = record { number = 1; coord = 1; inc = 1 }; place = 1 }

abbrev pub casts : Vote → Happening
casts vote = record { event = Some (Call 1 (call.Vote a_client db Reject None)); records = Cast provider proto 1 vote None None ∷ [] }
