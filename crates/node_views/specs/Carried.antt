-- What an install carries, as it is tested; and the lists of a node's rows, as an answer carries them.
use Rattle.std.specs.Prelude.{◌^◌, Bool, ◌&&◌, List, map, filter, nat_lt, is_some, IsTrue}
use Rattle.std.specs.List.{list_all}
use Rattle.proposal_core.specs.Fold.{joiners_fit}
use Rattle.proposal_core.specs.Lists.{list_or_new}
use Rattle.view_state.specs.declared.install.Part.{Part}
use Rattle.view_state.specs.declared.install.Source.{Source}
use Rattle.view_state.specs.declared.install.Base.{Base}
use Rattle.view_state.specs.Parts.{part_len}
use Rattle.node_state.specs.declared.group.GroupRow.{GroupRow}
use Rattle.node_state.specs.Applying.{part_of_list}

-- its places are counted in 32 bits, and its running joiners fit its members
abbrev pub is_tail : Part → Bool
is_tail p = nat_lt (part_len p) (2 ^ 32) && joiners_fit p.state

abbrev pub are_tails : Source → Bool
are_tails s = list_all is_tail s.parts

-- the running joiners of a base fit its members
abbrev pub IsSound : Base → Type 0
IsSound b = IsTrue (joiners_fit b.state)

-- the lists of these rows that are held
abbrev pub parts_of_rows : List GroupRow → List Part
parts_of_rows rows = map (λ row. part_of_list row (list_or_new row.list)) (filter (λ row. is_some row.list) rows)
