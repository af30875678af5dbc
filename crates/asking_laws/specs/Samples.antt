-- Histories of one call, for worked requests: what fits, and what does not.
use Rattle.std.specs.Prelude.{ℕ, List, [], ◌∷◌, Some, None, codes}
use Rattle.rsct_packet.specs.declared.ids.ProviderId.{ProviderId}
use Rattle.group_attr.specs.Attrs.{empty_attrs}
use Rattle.proposal_core.specs.declared.proposal.Proposal.TheVariants.{Message}
use Rattle.node_state.specs.declared.call.CallLine.TheVariants as call
use Rattle.node_state.specs.declared.happened.Happened.TheVariants.{Asked}
use Rattle.world_model.specs.declared.event.Event.TheVariants.{Call}
use Rattle.run_safety.specs.Past.{History}

-- 1.1.7.1
abbrev pub provider : ProviderId
provider = record { node = 1; inc = 1; instance = 7; join = 1 }

-- node 1 takes a join of this instance
abbrev pub joined : ℕ → History
joined instance = record { event = Some (Call 1 (call.Join (codes "a") (codes "db") instance empty_attrs)); records = [] } ∷ []

-- a message was asked of this group
abbrev pub told : List ℕ → History
told group = record { event = None; records = Asked provider 2 group (Message provider 2 (codes "hi")) ∷ [] } ∷ []
