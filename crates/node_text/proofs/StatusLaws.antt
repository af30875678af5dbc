-- One row more among those that are held.
use Rattle.std.proofs.Common.{◌≡◌, ℕ, ◌+◌, ◌<◌, Bool, cond, List, [], ◌∷◌, ◌++◌, length, take, get_or, sym, ap, ◌∙◌}
use Rattle.std.specs.Prelude.{filter, flat_map, is_some}
use Rattle.std.proofs.lemmas.List.Concat.{flat_map-append}
use Rattle.std.proofs.lemmas.List.Elements.{filter_more}
use Rattle.proposal_core.specs.Lists.{state_in}
use Rattle.node_state.specs.declared.group.GroupRow.{GroupRow}
use Rattle.node_state.specs.declared.state.Core.{Core}
use Rattle.node_state.specs.Status.{vote_lines}

abbrev is_held : GroupRow → Bool
is_held row = is_some row.list

abbrev votes : Core → GroupRow → List (List ℕ)
votes s row = vote_lines s row (state_in row.list).running

votes_more : (s : Core) (rows : List GroupRow) (i : ℕ) (row : GroupRow) → i < length rows → row ≡ get_or rows i row
    → flat_map (votes s) (filter is_held (take (i + 1) rows)) ≡ flat_map (votes s) (filter is_held (take i rows)) ++ flat_map (votes s) (filter is_held (row ∷ []))
votes_more s rows i row h at =
    ap (flat_map (votes s)) (filter_more is_held rows i row h ∙ ap (λ (x : GroupRow). filter is_held (take i rows) ++ cond (is_held x) (x ∷ []) []) (sym at))
    ∙ flat_map-append (votes s) (filter is_held (take i rows)) (cond (is_held row) (row ∷ []) [])

-- with the lines of that row behind those so far
pub votes_on : (s : Core) (rows : List GroupRow) (i : ℕ) (row : GroupRow) (out new : List (List ℕ)) → i < length rows → row ≡ get_or rows i row → out ≡ flat_map (votes s) (filter is_held (take i rows))
    → new ≡ out ++ flat_map (votes s) (filter is_held (row ∷ [])) → new ≡ flat_map (votes s) (filter is_held (take (i + 1) rows))
votes_on s rows i row out new h at so_far added =
    added ∙ (ap (λ (ls : List (List ℕ)). ls ++ flat_map (votes s) (filter is_held (row ∷ []))) so_far ∙ sym (votes_more s rows i row h at))
