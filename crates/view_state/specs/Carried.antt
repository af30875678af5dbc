-- What an install carries, and where its members come from.
use Rattle.std.specs.Prelude.{ℕ, true, false, List, Option, Some, None, find}
use Rattle.std.specs.Option.{option_map}
use Rattle.std.specs.Str.{bytes_eq}
use Rattle.rsct_packet.specs.declared.ids.ViewId.{ViewId}
use Rattle.rsct_packet.specs.Mask.{has_node}
use Rattle.proposal_core.specs.declared.entry.Entry.{Entry}
use Rattle.view_state.specs.declared.install.Part.{Part}
use Rattle.view_state.specs.declared.install.Source.{Source}
use Rattle.view_state.specs.declared.install.Install.{Install}
use Rattle.view_state.specs.Parts.{part_len}
use Rattle.view_state.specs.Codec.{has_member}
use Rattle.view_state.specs.Parts.{entry_of}
use Rattle.view_state.specs.Bases.{parts_from}

-- the list of a group that is carried of an old view
unfoldable pub carried_at : Install → ViewId → List ℕ → Option Part
carried_at i u g = find (λ (p : Part). bytes_eq p.name g) (parts_from i u)

unfoldable pub carried_len : Install → ViewId → List ℕ → Option ℕ
carried_len i u g = option_map part_len (carried_at i u g)

abbrev pub entry_in_part : Option Part → ℕ → Option Entry
entry_in_part None place = None
entry_in_part (Some p) place = entry_of p place

unfoldable pub carried_entry : Install → ViewId → List ℕ → ℕ → Option Entry
carried_entry i u g place = entry_in_part (carried_at i u g) place

abbrev pub view_in : Option Source → Option ViewId
view_in None = None
view_in (Some s) = Some s.view

-- the old view of a member; none of a node that is no member
unfoldable pub came_from : Install → ℕ → Option ViewId
came_from i n = elim (has_member i.members n) [ false ↦ None | true ↦ view_in (find (λ (s : Source). has_node s.nodes n) i.sources) ]
