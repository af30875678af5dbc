-- Entries and states for the worked examples of the fold.
use Rattle.std.specs.Prelude.{ℕ, List, [], map, Option, None}
use Rattle.rsct_packet.specs.declared.ids.ProviderId.{ProviderId}
use Rattle.rsct_packet.specs.declared.ids.ViewId.{ViewId}
use Rattle.rsct_packet.specs.declared.ids.ProtoId.{ProtoId}
use Rattle.group_attr.specs.Attrs.{empty_attrs}
use Rattle.proposal_core.specs.declared.proposal.Proposal.TheVariants.{Join}
use Rattle.proposal_core.specs.declared.entry.Closed.{Closed}
use Rattle.proposal_core.specs.declared.entry.Entry.{Entry}
use Rattle.proposal_core.specs.declared.entry.Entry.TheVariants.{Once}
use Rattle.proposal_core.specs.declared.group_state.GroupState.{GroupState}
use Rattle.proposal_core.specs.Fold.{empty_state}
use Rattle.proposal_core.specs.ListLaw.{fold_from}

-- 1.1.1
abbrev pub first_view : ViewId
first_view = record { number = 1; coord = 1; inc = 1 }

-- 1.1.1/n
abbrev pub place_of : ℕ → ProtoId
place_of n = record { view = first_view; place = n }

-- n.1.1.1
abbrev pub member : ℕ → ProviderId
member n = record { node = n; inc = 1; instance = 1; join = 1 }

-- these join, in a protocol of one phase
abbrev pub joined : List ProviderId → Entry
joined ps = Once (Join ps empty_attrs None)

-- phase k of the protocol that began at place n closed with this value
abbrev pub closed : ℕ → ℕ → Option (List ℕ) → Closed
closed n k value = record { proto = place_of n; phase = k; rows = []; value = value; message = None }

-- the state after these entries, the first of which stands at place 0
abbrev pub after_entries : GroupState → List Entry → GroupState
after_entries s es = fold_from s 0 (map (λ e. (first_view, e)) es)

abbrev pub grown : List Entry → GroupState
grown es = after_entries empty_state es
