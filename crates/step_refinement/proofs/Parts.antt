-- The node's own lists, as an answer carries them.
use Rattle.std.proofs.Common.{◌≡◌, ◌≤◌, ℕ, List, [], ◌∷◌, Option, Some, None, Bool, true, false, cond, length, drop, refl, sym, ap, ◌∙◌, subst, inl, inr}
use Rattle.std.specs.Prelude.{find, filter, map, is_some}
use Rattle.std.specs.Str.{bytes_eq}
use Rattle.rsct_packet.specs.declared.ids.ViewId.{ViewId}
use Rattle.proposal_core.specs.declared.entry.Entry.{Entry}
use Rattle.proposal_core.specs.GroupView.{GroupView}
use Rattle.proposal_core.specs.Lists.{list_or_new}
use Rattle.rsct_packet.specs.Search.{Has}
use Rattle.rsct_packet.specs.Text.{name_lt}
use Rattle.view_state.specs.declared.install.Part.{Part}
use Rattle.view_exchange.specs.Longest.{NamesDiffer}
use Rattle.node_state.specs.declared.group.GroupRow.{GroupRow}
use Rattle.node_state.specs.declared.state.Core.{Core}
use Rattle.node_state.specs.State.{AllAfter, InNameOrder, row_found, row_of, held_rows, has_name}
use Rattle.node_state.specs.Applying.{part_of_list, own_parts}
use Rattle.step_refinement.specs.Ghost.{Ghost, KeepsIf, CarriesIf, part_of, IsStable}
use Rattle.node_state.proofs.NameOrder.{text_same, lt_self, none_after}

abbrev part_in : GroupRow → Part
part_in row = record { name = row.name; start = (list_or_new row.list).start; state = (list_or_new row.list).state; entries = (list_or_new row.list).entries }

abbrev is_held : GroupRow → Bool
is_held row = is_some row.list

abbrev named : List ℕ → Part → Bool
named g p = bytes_eq p.name g

abbrev held_part : GroupRow → Option GroupView → Option Part
held_part row None = None
held_part row (Some l) = Some (part_in row)

abbrev found_part : Option GroupRow → Option Part
found_part None = None
found_part (Some row) = held_part row row.list

-- a name that no row has no part has
unfound : (g : List ℕ) (rows : List GroupRow) → find (has_name g) rows ≡ None → find (named g) (map part_in (filter is_held rows)) ≡ None
unfound g [] e = refl
unfound g (row ∷ rows) e = by (bytes_eq row.name g) (is_some row.list) refl e (unfound g rows)
  where
    by : (b c : Bool) → bytes_eq row.name g ≡ b → cond b (Some row) (find (has_name g) rows) ≡ None → (find (has_name g) rows ≡ None → find (named g) (map part_in (filter is_held rows)) ≡ None) → find (named g) (map part_in (cond c (row ∷ filter is_held rows) (filter is_held rows))) ≡ None
    by true c q e k = absurd (cc)
    by false true q e k = ap (λ b. cond b (Some (part_in row)) (find (named g) (map part_in (filter is_held rows)))) q ∙ k e
    by false false q e k = k e

part_found : (g : List ℕ) (rows : List GroupRow) → InNameOrder rows → find (named g) (map part_in (filter is_held rows)) ≡ found_part (find (has_name g) rows)
part_found g [] o = refl
part_found g (row ∷ rows) o = by (bytes_eq row.name g) row.list refl refl (part_found g rows o.1)
  where
    by : (b : Bool) (l : Option GroupView) → bytes_eq row.name g ≡ b → row.list ≡ l → find (named g) (map part_in (filter is_held rows)) ≡ found_part (find (has_name g) rows) → find (named g) (map part_in (cond (is_some l) (row ∷ filter is_held rows) (filter is_held rows))) ≡ found_part (cond b (Some row) (find (has_name g) rows))
    by true None q e k = unfound g rows (none_after g rows (subst (λ z. AllAfter z rows) (text_same row.name g q) o.0)) ∙ ap (held_part row) (sym e)
    by true (Some l) q e k = ap (λ b. cond b (Some (part_in row)) (find (named g) (map part_in (filter is_held rows)))) q ∙ ap (held_part row) (sym e)
    by false None q e k = k
    by false (Some l) q e k = ap (λ b. cond b (Some (part_in row)) (find (named g) (map part_in (filter is_held rows)))) q ∙ k

-- it shows what the row shows
pub own_carries : (x : Ghost) (g : List ℕ) (v : ViewId) (full : List Entry) (s : Core) → InNameOrder s.groups → KeepsIf x v full (row_of s g).list → IsStable x v (list_or_new (row_of s g).list).start → CarriesIf x v full (part_of g (own_parts s))
unfolding row_of own_parts held_rows part_of_list
own_carries x g v full s o k stable =
    subst (CarriesIf x v full) (sym (part_found g s.groups o)) (at (find (has_name g) s.groups) k stable)
  where
    held : (row : GroupRow) (l : Option GroupView) → row.list ≡ l → KeepsIf x v full l → IsStable x v (list_or_new row.list).start → CarriesIf x v full (held_part row l)
    held row None e k b = k
    held row (Some l) e k b =
        let q : list_or_new row.list ≡ l = ap list_or_new e in
        record { starts = subst (λ (z : GroupView). z.start ≤ length full) (sym q) k.starts; entries = subst (λ (z : GroupView). z.entries ≡ drop z.start full) (sym q) k.entries; state = ap (λ (z : GroupView). z.state) q ∙ k.state; fits = k.fits; stable = b }

    at : (r : Option GroupRow) → KeepsIf x v full (row_found g r).list → IsStable x v (list_or_new (row_found g r).list).start → CarriesIf x v full (found_part r)
    at None k b = k
    at (Some row) k b = held row row.list refl k b

-- names in order differ
after_differ : (g : List ℕ) (rows : List GroupRow) → AllAfter g rows → (q : Part) → Has q (map part_in (filter is_held rows)) → q.name ≡ g → ⊥
after_differ g [] a q h e = h
after_differ g (row ∷ rows) a q h e = by (is_some row.list) h (λ k. after_differ g rows a.1 q k e)
  where
    by : (b : Bool) → Has q (map part_in (cond b (row ∷ filter is_held rows) (filter is_held rows))) → (Has q (map part_in (filter is_held rows)) → ⊥) → ⊥
    by true (inl z) more = let k : name_lt g g ≡ true = subst (λ m. name_lt g m ≡ true) (ap (λ (p : Part). p.name) (sym z) ∙ e) a.0 in let f = lt_self g in absurd (cc)
    by true (inr k) more = more k
    by false k more = more k

rows_differ : (rows : List GroupRow) → InNameOrder rows → NamesDiffer (map part_in (filter is_held rows))
rows_differ [] o = tt
rows_differ (row ∷ rows) o = by (is_some row.list) (rows_differ rows o.1)
  where
    by : (b : Bool) → NamesDiffer (map part_in (filter is_held rows)) → NamesDiffer (map part_in (cond b (row ∷ filter is_held rows) (filter is_held rows)))
    by true more = (after_differ row.name rows o.0, more)
    by false more = more

pub own_differ : (s : Core) → InNameOrder s.groups → NamesDiffer (own_parts s)
unfolding own_parts held_rows part_of_list
own_differ s o = rows_differ s.groups o
