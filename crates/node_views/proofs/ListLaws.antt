-- How a node's own lists are copied.
use Rattle.std.proofs.Common.{◌≡◌, ℕ, zero, suc, ◌+◌, ◌-◌, ◌<◌, ◌≤◌, false, List, [], ◌∷◌, ◌++◌, length, take, get_or, map, filter, Some, None, is_some, refl, sym, ap, ◌∙◌, arith}
use Rattle.std.specs.Prelude.{slice_get, nat_lt, count_by}
use Rattle.std.proofs.lemmas.Bool.Decides.{nat_tests}
use Rattle.std.proofs.lemmas.List.{take_more, take_all, map-append, length-map}
use Rattle.std.proofs.lemmas.List.Elements.{filter-append}
use Rattle.std.proofs.lemmas.List.Sums.{length-filter}
use Rattle.std.proofs.lemmas.Option.{slice_get_within, get_or_from_slice_get}
use Rattle.proposal_core.specs.declared.entry.Entry.{Entry}
use Rattle.proposal_core.specs.GroupView.{GroupView}
use Rattle.proposal_core.specs.Lists.{list_or_new, entry_at}
use Rattle.node_state.specs.declared.group.GroupRow.{GroupRow}
use Rattle.node_state.specs.Applying.{part_of_list}
use Rattle.node_views.specs.Carried.{parts_of_rows}

-- ---- entries

at_place : (l : GroupView) (place : ℕ) → l.start ≤ place → entry_at l place ≡ slice_get l.entries (place - l.start)
unfolding entry_at
at_place l place h = let f : nat_lt place l.start ≡ false = grind (arith, nat_tests) in rw f refl

pub entries_begin : (l : GroupView) → [] ≡ take (l.start - l.start) l.entries
entries_begin l = let e : l.start - l.start ≡ 0 = omega arith in rw e refl

pub entry_more : (l : GroupView) (place : ℕ) (e : Entry) → l.start ≤ place → Some e ≡ entry_at l place → take (place + 1 - l.start) l.entries ≡ take (place - l.start) l.entries ++ e ∷ []
entry_more l place e h is =
    let there : slice_get l.entries (place - l.start) ≡ Some e = sym (is ∙ at_place l place h) in
    let lt : place - l.start < length l.entries = slice_get_within l.entries (place - l.start) e there in
    let next : place + 1 - l.start ≡ place - l.start + 1 = omega arith in
    ap (λ n. take n l.entries) next
    ∙ (take_more l.entries (place - l.start) e lt ∙ ap (λ x. take (place - l.start) l.entries ++ x ∷ []) (get_or_from_slice_get l.entries (place - l.start) e e there))

past_end : (es : List Entry) (k : ℕ) → slice_get es k ≡ None → length es ≤ k
past_end [] k e = omega arith
past_end (x ∷ es) zero e = absurd cc
past_end (x ∷ es) (suc k) e = let h = past_end es k e in omega arith

pub entries_end : (l : GroupView) (place : ℕ) → l.start ≤ place → None ≡ entry_at l place → take (place - l.start) l.entries ≡ l.entries
entries_end l place h is = take_all (place - l.start) l.entries (past_end l.entries (place - l.start) (sym (is ∙ at_place l place h)))

-- ---- parts

parts_both : (xs ys : List GroupRow) → parts_of_rows (xs ++ ys) ≡ parts_of_rows xs ++ parts_of_rows ys
parts_both xs ys =
    ap (map (λ row. part_of_list row (list_or_new row.list))) (filter-append (λ (row : GroupRow). is_some row.list) xs ys)
    ∙ map-append (λ row. part_of_list row (list_or_new row.list)) (filter (λ (row : GroupRow). is_some row.list) xs) (filter (λ (row : GroupRow). is_some row.list) ys)

pub parts_more : (rows : List GroupRow) (k : ℕ) (row : GroupRow) → k < length rows → row ≡ get_or rows k row → parts_of_rows (take (k + 1) rows) ≡ parts_of_rows (take k rows) ++ parts_of_rows (row ∷ [])
parts_more rows k row lt is =
    ap parts_of_rows (take_more rows k row lt) ∙ (parts_both (take k rows) (get_or rows k row ∷ []) ∙ ap (λ x. parts_of_rows (take k rows) ++ parts_of_rows (x ∷ [])) (sym is))

pub count_parts : (rows : List GroupRow) → count_by (λ (row : GroupRow). is_some row.list) rows ≡ length (parts_of_rows rows)
count_parts rows =
    sym (length-map (filter (λ (row : GroupRow). is_some row.list) rows) (λ row. part_of_list row (list_or_new row.list)) ∙ length-filter (λ (row : GroupRow). is_some row.list) rows)
