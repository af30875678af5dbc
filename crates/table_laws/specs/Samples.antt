-- A worked row: a provider joins a group, writes, and goes with its node into the next view, where it writes again.
use Rattle.std.specs.Prelude.{ℕ, List, [], ◌∷◌, None, codes}
use Rattle.rsct_packet.specs.declared.ids.ProviderId.{ProviderId}
use Rattle.rsct_packet.specs.declared.ids.ViewId.{ViewId}
use Rattle.group_attr.specs.Attrs.{empty_attrs}
use Rattle.proposal_core.specs.declared.proposal.Proposal.TheVariants.{Join, Leave, Message}
use Rattle.proposal_core.specs.declared.entry.Entry.{Entry}
use Rattle.proposal_core.specs.declared.entry.Entry.TheVariants.{Once}
use Rattle.proposal_core.specs.declared.group_state.GroupState.{GroupState}
use Rattle.node_state.specs.declared.happened.Happened.{Happened}
use Rattle.node_state.specs.declared.happened.Happened.TheVariants.{Base, Put, Heard}
use Rattle.node_state.specs.Handed.{Logged}
use Rattle.agreed_table.specs.Pairs.{Pairs}

abbrev pub view_at : ℕ → ViewId
view_at k = record { number = k; coord = 1; inc = 1 }

abbrev pub first : ProviderId
first = record { node = 1; inc = 1; instance = 1; join = 1 }

abbrev pub db : List ℕ
db = codes "db"

abbrev pub joins : Entry
joins = Once (Join (first ∷ []) empty_attrs None)

abbrev pub says : ℕ → List ℕ → Entry
says r bytes = Once (Message first r bytes)

abbrev pub leaves : Entry
leaves = Once (Leave first 4)

-- the state that the second view begins with
abbrev pub joined : GroupState
joined = record { members = first ∷ []; value = []; attrs = empty_attrs; failed = []; value_at = None; reflected_at = None; running = None }

-- the records, the latest first
abbrev pub row : List Happened
row =
    Put 1 (view_at 2) db 1 leaves ∷ Put 1 (view_at 2) db 0 (says 3 (codes "y=2")) ∷ Base 1 (view_at 2) db (view_at 1) 2 joined ∷ Put 1 (view_at 1) db 1 (says 2 (codes "x=1")) ∷ Put 1 (view_at 1) db 0 joins ∷ []

abbrev pub one_pair : Pairs
one_pair = (codes "x", codes "1") ∷ []

abbrev pub both_pairs : Pairs
both_pairs = (codes "x", codes "1") ∷ (codes "y", codes "2") ∷ []

-- ---- whose join found nobody

-- the first provider's join, as its client's log tells it
abbrev pub first_log : List Logged
first_log = record { what = Heard first (view_at 1) db 0 joins (first ∷ []) []; after = joined } ∷ []

abbrev pub second : ProviderId
second = record { node = 2; inc = 1; instance = 1; join = 1 }

-- and that of one who joins behind it
abbrev pub second_log : List Logged
second_log = record { what = Heard second (view_at 1) db 1 (Once (Join (second ∷ []) empty_attrs None)) (first ∷ second ∷ []) []; after = record joined { members = first ∷ second ∷ [] } } ∷ []
