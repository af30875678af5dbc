-- A short run, for worked requests: a client asks for a join, which waits.
use Rattle.std.specs.Prelude.{ℕ, List, [], ◌∷◌, Some, None, codes}
use Rattle.rsct_packet.specs.declared.ids.ProviderId.{ProviderId}
use Rattle.group_attr.specs.declared.attrs.Phases.TheVariants.{One}
use Rattle.group_attr.specs.Attrs.{empty_attrs}
use Rattle.proposal_core.specs.declared.proposal.Proposal.{Proposal}
use Rattle.proposal_core.specs.declared.proposal.Proposal.TheVariants.{Join}
use Rattle.session_state.specs.declared.state.Request.{Request}
use Rattle.session_state.specs.declared.state.SessionState.{SessionState}
use Rattle.session_state.specs.State.{no_sessions}
use Rattle.node_state.specs.declared.call.CallLine.TheVariants as call
use Rattle.node_state.specs.declared.happened.Happened.TheVariants.{Asked}
use Rattle.world_model.specs.declared.event.Event.TheVariants.{Call}
use Rattle.run_safety.specs.Past.{History}

-- 1.1.7.1
abbrev pub provider : ProviderId
provider = record { node = 1; inc = 1; instance = 7; join = 1 }

abbrev pub db : List ℕ
db = codes "db"

abbrev pub join : Proposal
join = Join (provider ∷ []) empty_attrs None

-- its client's call asks for its join
abbrev pub joined : History
joined = record { event = Some (Call 1 (call.Join (codes "a") db 7 empty_attrs)); records = Asked provider 1 db join ∷ [] } ∷ []

abbrev pub outstanding : Request
outstanding = record { provider = provider; request = 1; group = db; phases = One; proposal = join }

-- sessions with just these requests
abbrev pub with_requests : List Request → SessionState
with_requests qs = record (no_sessions 1 1) { requests = qs }
