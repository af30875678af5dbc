-- How parts, answers and installs are spelled.
use Rattle.std.specs.Prelude.{◌≡◌, ℕ, ◌+◌, ◌<◌, ◌≤◌, ◌^◌, Bool, true, false, ◌==◌, ◌&&◌, IsTrue, nat_le, List, [], ◌∷◌, ◌++◌, length, map, not, Option, Some, None}
use Rattle.std.specs.Int.{w8, w32}
use Rattle.std.specs.List.{list_any, list_all}
use Rattle.rsct_packet.specs.declared.ids.ViewId.{ViewId}
use Rattle.rsct_packet.specs.declared.ids.Member.{Member}
use Rattle.rsct_packet.specs.declared.mask.Mask.{Mask}
use Rattle.rsct_packet.specs.Ids.{last_u32, view_lt}
use Rattle.rsct_packet.specs.Listed.{ascending}
use Rattle.rsct_packet.specs.Mask.{node_numbers, has_node}
use Rattle.rsct_packet.specs.Text.{IsName, name_lt}
use Rattle.rsct_packet.specs.Reading.{◌>>=◌, number_at, part_at, both_at, made_at, guarded_at, counted_at}
use Rattle.rsct_packet.specs.Format.{EachFits, counted_text}
use Rattle.rsct_packet.specs.Fields.{u32_text, IsU32, name_at, name_text, mask_at, mask_text, IsMask, view_at, view_text, IsView, member_at, member_text, IsMember}
use Rattle.proposal_core.specs.declared.entry.Entry.{Entry}
use Rattle.proposal_core.specs.declared.group_state.GroupState.{GroupState}
use Rattle.proposal_core.specs.EntryCodec.{entry_front_at, entry_text, IsEntry, whole}
use Rattle.proposal_core.specs.StateCodec.{state_at, state_text, IsState}
use Rattle.view_state.specs.declared.install.Part.{Part}
use Rattle.view_state.specs.declared.install.Source.{Source}
use Rattle.view_state.specs.declared.install.Install.{Install}

-- a value behind the length of its spelling, which it fills

abbrev pub sized_at : {A : Type 0} → (List ℕ → Option (A × List ℕ)) → List ℕ → Option (A × List ℕ)
sized_at f bytes = do
  n ← number_at w32 bytes
  t ← part_at n.0 n.1
  x ← whole (f t.0)
  Some (x, t.1)

abbrev pub sized_text : {A : Type 0} → (A → List ℕ) → A → List ℕ
sized_text text x = u32_text (length (text x)) ++ text x

-- an entry

unfoldable pub sized_entry_at : List ℕ → Option (Entry × List ℕ)
sized_entry_at bytes = sized_at entry_front_at bytes

unfoldable pub sized_entry_text : Entry → List ℕ
sized_entry_text e = sized_text entry_text e

pub record IsSizedEntry (e : Entry) : Type 0 where
  pub entry : IsEntry e
  pub short : IsU32 (length (entry_text e))

-- a group part: name, start, the state at the list's end, and the entries from the start on, which are counted in
-- 32 bits

abbrev pub part_of_parts : List ℕ × (ℕ × (GroupState × List Entry)) → Part
part_of_parts x = record { name = x.0; start = x.1.0; state = x.1.1.0; entries = x.1.1.1 }

abbrev pub ends_in_u32 : Part → Bool
ends_in_u32 p = nat_le (p.start + length p.entries) last_u32

unfoldable pub group_part_at : List ℕ → Option (Part × List ℕ)
group_part_at bytes =
    guarded_at ends_in_u32 (made_at part_of_parts (both_at name_at (both_at (number_at w32) (both_at state_at (counted_at w32 sized_entry_at))))) bytes

unfoldable pub group_part_text : Part → List ℕ
group_part_text p = name_text p.name ++ (u32_text p.start ++ (state_text p.state ++ counted_text w32 sized_entry_text p.entries))

pub record IsPart (p : Part) : Type 0 where
  pub name : IsName p.name
  pub state : IsState p.state
  pub entries : EachFits IsSizedEntry p.entries
  pub ends : p.start + length p.entries ≤ 4294967295

-- at most 255 parts, whose names ascend

abbrev pub is_after : Option (List ℕ) → List ℕ → Bool
is_after None name = true
is_after (Some last) name = name_lt last name

abbrev pub names_ascend_from : Option (List ℕ) → List Part → Bool
names_ascend_from last [] = true
names_ascend_from last (p ∷ ps) = is_after last p.name && names_ascend_from (Some p.name) ps

abbrev pub names_ascend : List Part → Bool
names_ascend ps = names_ascend_from None ps

unfoldable pub parts_at : List ℕ → Option (List Part × List ℕ)
parts_at bytes = guarded_at names_ascend (counted_at w8 group_part_at) bytes

unfoldable pub parts_text : List Part → List ℕ
parts_text ps = counted_text w8 group_part_text ps

pub record IsParts (ps : List Part) : Type 0 where
  pub few : length ps ≤ 255
  pub each : EachFits IsPart ps
  pub ascend : IsTrue (names_ascend ps)

-- an answer: the view that its node comes from, and the node's lists

pub record Brought : Type 0 where
  pub view : ViewId
  pub parts : List Part

abbrev pub brought_of_parts : ViewId × List Part → Brought
brought_of_parts x = record { view = x.0; parts = x.1 }

unfoldable pub answer_at : List ℕ → Option (Brought × List ℕ)
answer_at bytes = made_at brought_of_parts (both_at view_at parts_at) bytes

unfoldable pub answer_text : Brought → List ℕ
answer_text a = view_text a.view ++ parts_text a.parts

pub record IsAnswer (a : Brought) : Type 0 where
  pub view : IsView a.view
  pub parts : IsParts a.parts

-- a source

abbrev pub source_of_parts : ViewId × (Mask × List Part) → Source
source_of_parts x = record { view = x.0; nodes = x.1.0; parts = x.1.1 }

unfoldable pub source_at_front : List ℕ → Option (Source × List ℕ)
source_at_front bytes = made_at source_of_parts (both_at view_at (both_at mask_at parts_at)) bytes

unfoldable pub source_text : Source → List ℕ
source_text s = view_text s.view ++ (mask_text s.nodes ++ parts_text s.parts)

pub record IsSource (s : Source) : Type 0 where
  pub view : IsView s.view
  pub nodes : IsMask s.nodes
  pub parts : IsParts s.parts

-- sources ascend by view

abbrev pub is_after_view : Option ViewId → ViewId → Bool
is_after_view None v = true
is_after_view (Some last) v = view_lt last v

abbrev pub views_ascend_from : Option ViewId → List Source → Bool
views_ascend_from last [] = true
views_ascend_from last (s ∷ ss) = is_after_view last s.view && views_ascend_from (Some s.view) ss

abbrev pub views_ascend : List Source → Bool
views_ascend ss = views_ascend_from None ss

abbrev pub has_member : List Member → ℕ → Bool
has_member ms n = list_any (λ (m : Member). m.node == n) ms

-- a node comes from just one of these, or where it is not wanted from none
abbrev pub comes_from : Bool → List Source → ℕ → Bool
comes_from wanted [] n = not wanted
comes_from wanted (s ∷ ss) n = elim (has_node s.nodes n) [ true ↦ wanted && comes_from false ss n | false ↦ comes_from wanted ss n ]

abbrev pub comes_once : List Member → List Source → ℕ → Bool
comes_once ms ss n = comes_from (has_member ms n) ss n

-- members ascend, sources ascend, each member comes from just one source, and nobody else from any
unfoldable pub each_comes_once : List Member → List Source → Bool
each_comes_once ms ss = list_all (comes_once ms ss) node_numbers

abbrev pub members_ascend : List Member → Bool
members_ascend ms = ascending (map (λ (m : Member). m.node) ms)

abbrev pub is_in_order : Install → Bool
is_in_order i = members_ascend i.members && (views_ascend i.sources && each_comes_once i.members i.sources)

abbrev pub install_of_parts : ViewId × (List Member × List Source) → Install
install_of_parts x = record { view = x.0; members = x.1.0; sources = x.1.1 }

unfoldable pub install_at : List ℕ → Option (Install × List ℕ)
install_at bytes =
    guarded_at is_in_order (made_at install_of_parts (both_at view_at (both_at (counted_at w8 member_at) (counted_at w8 source_at_front)))) bytes

unfoldable pub install_text : Install → List ℕ
install_text i = view_text i.view ++ (counted_text w8 member_text i.members ++ counted_text w8 source_text i.sources)

-- installs that have a spelling
pub record IsInstall (i : Install) : Type 0 where
  pub view : IsView i.view
  pub few_members : length i.members ≤ 255
  pub members : EachFits IsMember i.members
  pub few_sources : length i.sources ≤ 255
  pub sources : EachFits IsSource i.sources
  pub members_ascend : IsTrue (members_ascend i.members)
  pub views_ascend : IsTrue (views_ascend i.sources)
  pub each_comes_once : IsTrue (each_comes_once i.members i.sources)
