-- What changing the row of a group comes to, at the place where it stands or is made.
use Rattle.std.proofs.Common.{◌≡◌, ℕ, suc, ◌<◌, Bool, true, false, cond, ◌||◌, List, [], ◌∷◌, length, get_or, set, refl, sym, ap, ◌∙◌, arith, Some}
use Rattle.std.specs.Prelude.{slice_get, insert, find}
use Rattle.std.specs.Str.{bytes_eq}
use Rattle.rsct_packet.specs.Text.{name_lt}
use Rattle.rsct_packet.specs.Search.{front_len}
use Rattle.node_state.specs.declared.group.GroupRow.{GroupRow}
use Rattle.node_state.specs.State.{AllAfter, InNameOrder, new_row, row_found, rows_with, has_name}
use Rattle.node_groups.specs.Places.{stops_at, is_row_of, row_opened, row_reached}
use Rattle.node_state.proofs.NameOrder.{none_after, after_less}

-- the rows from one on, where its name is the group's or comes after it
abbrev pub changed_in : (GroupRow → GroupRow) → List ℕ → GroupRow → List GroupRow → List GroupRow → Bool → Bool → List GroupRow
changed_in f g row rows rest eq lt = elim eq [ true ↦ f row ∷ rows | false ↦ elim lt [ true ↦ f (new_row g) ∷ row ∷ rows | false ↦ row ∷ rest ] ]

-- the row that is reached from one on
abbrev pub reached_in : List ℕ → GroupRow → GroupRow → Bool → Bool → GroupRow
reached_in g row rest eq lt = elim eq [ true ↦ row | false ↦ elim lt [ true ↦ new_row g | false ↦ rest ] ]

same_head : (eq lt : Bool) (g : List ℕ) (f h : GroupRow → GroupRow) (row here : GroupRow) (rows fs hs : List GroupRow) → (f here ≡ h here → fs ≡ hs) → f (reached_in g row here eq lt) ≡ h (reached_in g row here eq lt)
    → changed_in f g row rows fs eq lt ≡ changed_in h g row rows hs eq lt
same_head true lt g f h row here rows fs hs ih e = ap (λ (x : GroupRow). x ∷ rows) e
same_head false true g f h row here rows fs hs ih e = ap (λ (x : GroupRow). x ∷ row ∷ rows) e
same_head false false g f h row here rows fs hs ih e = ap (λ (xs : List GroupRow). row ∷ xs) (ih e)

-- changes that come to the same on the row that is reached come to the same
same_reached : (g : List ℕ) (f h : GroupRow → GroupRow) (rows : List GroupRow) → f (row_reached g rows) ≡ h (row_reached g rows) → rows_with g f rows ≡ rows_with g h rows
unfolding rows_with row_reached
same_reached g f h [] e = ap (λ (x : GroupRow). x ∷ []) e
same_reached g f h (row ∷ rows) e =
    same_head (bytes_eq row.name g) (name_lt g row.name) g f h row (row_reached g rows) rows (rows_with g f rows) (rows_with g h rows) (same_reached g f h rows) e

-- a row that was lent, and written
pub row_written : (g : List ℕ) (f : GroupRow → GroupRow) (xs : List GroupRow) (w : GroupRow) → w ≡ f (row_reached g xs) → rows_with g (λ _. w) xs ≡ rows_with g f xs
row_written g f xs w e = same_reached g (λ _. w) f xs e

reached_head : (eq lt : Bool) (g : List ℕ) (row here : GroupRow) (rows : List GroupRow) → name_lt g row.name ≡ lt → AllAfter row.name rows → here ≡ row_found g (find (has_name g) rows)
    → reached_in g row here eq lt ≡ row_found g (cond eq (Some row) (find (has_name g) rows))
reached_head true lt g row here rows l a ih = refl
reached_head false true g row here rows l a ih = rw (none_after g rows (after_less g row.name rows l a)) refl
reached_head false false g row here rows l a ih = ih

-- among rows in name order it is the group's
pub reached_found : (g : List ℕ) (xs : List GroupRow) → InNameOrder xs → row_reached g xs ≡ row_found g (find (has_name g) xs)
unfolding row_reached
reached_found g [] o = refl
reached_found g (row ∷ rows) o = reached_head (bytes_eq row.name g) (name_lt g row.name) g row (row_reached g rows) rows refl o.0 (reached_found g rows o.1)

-- the same for changes on the group's row, among rows in name order
pub same_rows : (g : List ℕ) (f h : GroupRow → GroupRow) (rows : List GroupRow) → InNameOrder rows → f (row_found g (find (has_name g) rows)) ≡ h (row_found g (find (has_name g) rows)) → rows_with g f rows ≡ rows_with g h rows
same_rows g f h rows o e =
    let r = reached_found g rows o in
    same_reached g f h rows (ap f r ∙ (e ∙ sym (ap h r)))

-- one row more in front, which has the name, comes after it, or neither
lent_head : (eq lt : Bool) (new row : GroupRow) (rows opened rest : List GroupRow) (k : ℕ) (w : GroupRow) → set opened k w ≡ rest
    → set (elim eq [ true ↦ row ∷ rows | false ↦ elim lt [ true ↦ new ∷ row ∷ rows | false ↦ row ∷ opened ] ]) (cond (eq || lt) 0 (suc k)) w
    ≡ elim eq [ true ↦ w ∷ rows | false ↦ elim lt [ true ↦ w ∷ row ∷ rows | false ↦ row ∷ rest ] ]
lent_head true lt new row rows opened rest k w ih = refl
lent_head false true new row rows opened rest k w ih = refl
lent_head false false new row rows opened rest k w ih = ap (λ (xs : List GroupRow). row ∷ xs) ih

lent_row : (g : List ℕ) (w : GroupRow) (xs : List GroupRow) → set (row_opened g xs) (front_len (stops_at g) xs) w ≡ rows_with g (λ _. w) xs
unfolding rows_with row_opened
lent_row g w [] = refl
lent_row g w (row ∷ rows) = lent_head (bytes_eq row.name g) (name_lt g row.name) (new_row g) row rows (row_opened g rows) (rows_with g (λ _. w) rows) (front_len (stops_at g) rows) w (lent_row g w rows)

-- what is written where the group's row stands
pub row_lent : (g : List ℕ) (xs ys : List GroupRow) (i : ℕ) (w : GroupRow) → i ≡ front_len (stops_at g) xs → ys ≡ row_opened g xs → set ys i w ≡ rows_with g (λ _. w) xs
row_lent g xs ys i w at opened = ap (λ k. set ys k w) at ∙ (ap (λ zs. set zs (front_len (stops_at g) xs) w) opened ∙ lent_row g w xs)

read_head : (eq lt : Bool) (g : List ℕ) (d new row here : GroupRow) (rows opened : List GroupRow) (k : ℕ) → new ≡ new_row g → get_or opened k d ≡ here
    → get_or (elim eq [ true ↦ row ∷ rows | false ↦ elim lt [ true ↦ new ∷ row ∷ rows | false ↦ row ∷ opened ] ]) (cond (eq || lt) 0 (suc k)) d ≡ reached_in g row here eq lt
read_head true lt g d new row here rows opened k n ih = refl
read_head false true g d new row here rows opened k n ih = n
read_head false false g d new row here rows opened k n ih = ih

read_row : (g : List ℕ) (d : GroupRow) (xs : List GroupRow) → get_or (row_opened g xs) (front_len (stops_at g) xs) d ≡ row_reached g xs
unfolding rows_with row_opened row_reached
read_row g d [] = refl
read_row g d (row ∷ rows) = read_head (bytes_eq row.name g) (name_lt g row.name) g d (new_row g) row (row_reached g rows) rows (row_opened g rows) (front_len (stops_at g) rows) refl (read_row g d rows)

-- what is read there
pub row_is_reached : (g : List ℕ) (xs ys : List GroupRow) (i : ℕ) (x : GroupRow) → i ≡ front_len (stops_at g) xs → ys ≡ row_opened g xs → x ≡ get_or ys i x → x ≡ row_reached g xs
row_is_reached g xs ys i x at opened read =
    read ∙ (ap (λ k. get_or ys k x) at ∙ (ap (λ zs. get_or zs (front_len (stops_at g) xs) x) opened ∙ read_row g x xs))

within_head : (eq lt : Bool) (new row : GroupRow) (rows opened : List GroupRow) (k : ℕ) → k < length opened → cond (eq || lt) 0 (suc k) < length {A = GroupRow} (elim eq [ true ↦ row ∷ rows | false ↦ elim lt [ true ↦ new ∷ row ∷ rows | false ↦ row ∷ opened ] ])
within_head true lt new row rows opened k ih = omega arith
within_head false true new row rows opened k ih = omega arith
within_head false false new row rows opened k ih = omega arith

within_row : (g : List ℕ) (xs : List GroupRow) → front_len (stops_at g) xs < length (row_opened g xs)
unfolding rows_with row_opened
within_row g [] = omega arith
within_row g (row ∷ rows) = within_head (bytes_eq row.name g) (name_lt g row.name) (new_row g) row rows (row_opened g rows) (front_len (stops_at g) rows) (within_row g rows)

pub opened_within : (g : List ℕ) (xs ys : List GroupRow) (i : ℕ) → i ≡ front_len (stops_at g) xs → ys ≡ row_opened g xs → i < length ys
opened_within g xs ys i at opened = rw (at, opened) (within_row g xs)

found_head : (eq lt : Bool) (g : List ℕ) (new row : GroupRow) (rows opened : List GroupRow) (k : ℕ) → bytes_eq row.name g ≡ eq → (is_row_of g (slice_get rows k) ≡ true → rows ≡ opened)
    → is_row_of g (slice_get (row ∷ rows) (cond (eq || lt) 0 (suc k))) ≡ true → row ∷ rows ≡ elim eq [ true ↦ row ∷ rows | false ↦ elim lt [ true ↦ new ∷ row ∷ rows | false ↦ row ∷ opened ] ]
found_head true lt g new row rows opened k e ih h = refl
found_head false true g new row rows opened k e ih h = absurd cc
found_head false false g new row rows opened k e ih h = ap (λ (xs : List GroupRow). row ∷ xs) (ih h)

found_row : (g : List ℕ) (xs : List GroupRow) → is_row_of g (slice_get xs (front_len (stops_at g) xs)) ≡ true → xs ≡ row_opened g xs
unfolding rows_with row_opened
found_row g [] h = absurd cc
found_row g (row ∷ rows) h = found_head (bytes_eq row.name g) (name_lt g row.name) g (new_row g) row rows (row_opened g rows) (front_len (stops_at g) rows) refl (found_row g rows) h

-- the row stands there already
pub opens_found : (g : List ℕ) (xs : List GroupRow) (i : ℕ) → i ≡ front_len (stops_at g) xs → is_row_of g (slice_get xs i) ≡ true → xs ≡ row_opened g xs
opens_found g xs i at h = found_row g xs (ap (λ k. is_row_of g (slice_get xs k)) (sym at) ∙ h)

missing_head : (eq lt : Bool) (g : List ℕ) (new row : GroupRow) (rows opened : List GroupRow) (k : ℕ) → bytes_eq row.name g ≡ eq → (is_row_of g (slice_get rows k) ≡ false → insert rows k new ≡ opened)
    → is_row_of g (slice_get (row ∷ rows) (cond (eq || lt) 0 (suc k))) ≡ false → insert (row ∷ rows) (cond (eq || lt) 0 (suc k)) new ≡ elim eq [ true ↦ row ∷ rows | false ↦ elim lt [ true ↦ new ∷ row ∷ rows | false ↦ row ∷ opened ] ]
missing_head true lt g new row rows opened k e ih h = absurd cc
missing_head false true g new row rows opened k e ih h = refl
missing_head false false g new row rows opened k e ih h = ap (λ (xs : List GroupRow). row ∷ xs) (ih h)

missing_row : (g : List ℕ) (xs : List GroupRow) → is_row_of g (slice_get xs (front_len (stops_at g) xs)) ≡ false → insert xs (front_len (stops_at g) xs) (new_row g) ≡ row_opened g xs
unfolding rows_with row_opened
missing_row g [] h = refl
missing_row g (row ∷ rows) h = missing_head (bytes_eq row.name g) (name_lt g row.name) g (new_row g) row rows (row_opened g rows) (front_len (stops_at g) rows) refl (missing_row g rows) h

-- the row is made there
pub opens_missing : (g : List ℕ) (xs : List GroupRow) (i : ℕ) (new : GroupRow) → i ≡ front_len (stops_at g) xs → is_row_of g (slice_get xs i) ≡ false → new ≡ new_row g → insert xs i new ≡ row_opened g xs
opens_missing g xs i new at h made =
    ap (insert xs i) made ∙ (ap (λ k. insert xs k (new_row g)) at ∙ missing_row g xs (ap (λ k. is_row_of g (slice_get xs k)) (sym at) ∙ h))

-- what lending a row takes
pub ruleset row_loan = (row_lent, row_is_reached, opened_within)
