-- How lists shorten, and how records, rows and packets are counted.
use Rattle.std.proofs.Common.{◌≡◌, ◌≤◌, ℕ, ◌+◌, List, [], ◌∷◌, ◌++◌, length, filter, find, Some, Bool, true, false, cond, refl, sym, ap, subst, arith}
use Rattle.std.specs.Str.{bytes_eq}
use Rattle.rsct_packet.specs.Text.{name_lt}
use Rattle.proposal_core.specs.Fold.{present}
use Rattle.proposal_core.specs.Lists.{state_in}
use Rattle.node_state.specs.declared.happened.Happened.{Happened}
use Rattle.node_state.specs.declared.group.GroupRow.{GroupRow}
use Rattle.node_state.specs.State.{InNameOrder, new_row, row_found, rows_with, has_name}
use Rattle.node_state.proofs.NameOrder.{after_less, none_after}
use Rattle.send_laws.specs.Bound.{puts_of, waits_of, is_own, owned_of}

pub kept_few : {A : Type 0} (test : A → Bool) (xs : List A) → length (filter test xs) ≤ length xs
kept_few test [] = omega arith
kept_few test (x ∷ xs) =
    let h = kept_few test xs in
    elim (test x) as (λ b. length (cond b (x ∷ filter test xs) (filter test xs)) ≤ length (x ∷ xs)) [ true ↦ omega arith | false ↦ omega arith ]

pub puts_both : (xs ys : List Happened) → puts_of (xs ++ ys) ≡ puts_of xs + puts_of ys
puts_both [] ys = omega arith
puts_both (x ∷ xs) ys = let h : puts_of (xs ++ ys) ≡ puts_of xs + puts_of ys = puts_both xs ys in omega arith

-- what the rows count for together
abbrev pub sum_of : (GroupRow → ℕ) → List GroupRow → ℕ
sum_of m [] = 0
sum_of m (row ∷ rows) = m row + sum_of m rows

module _ (m : GroupRow → ℕ) (g : List ℕ) (f : GroupRow → GroupRow) (none : m (new_row g) ≡ 0) where
  -- one row is counted anew
  pub sum_with : (rows : List GroupRow) → InNameOrder rows → sum_of m (rows_with g f rows) + m (row_found g (find (has_name g) rows)) ≡ sum_of m rows + m (f (row_found g (find (has_name g) rows)))
  unfolding rows_with
  sum_with [] o = omega (arith, none)
  sum_with (row ∷ rows) o = by (bytes_eq row.name g) (name_lt g row.name) refl refl (sum_with rows o.1)
    where
      none_is : name_lt g row.name ≡ true → row_found g (find (has_name g) rows) ≡ new_row g
      none_is l = ap (row_found g) (none_after g rows (after_less g row.name rows l o.0))

      by : (b c : Bool) → bytes_eq row.name g ≡ b → name_lt g row.name ≡ c → sum_of m (rows_with g f rows) + m (row_found g (find (has_name g) rows)) ≡ sum_of m rows + m (f (row_found g (find (has_name g) rows))) → sum_of m (elim b [ true ↦ f row ∷ rows | false ↦ elim c [ true ↦ f (new_row g) ∷ row ∷ rows | false ↦ row ∷ rows_with g f rows ] ]) + m (row_found g (cond b (Some row) (find (has_name g) rows))) ≡ sum_of m (row ∷ rows) + m (f (row_found g (cond b (Some row) (find (has_name g) rows))))
      by true c e l k = omega arith
      by false true e l k =
          subst (λ z. sum_of m (f (new_row g) ∷ row ∷ rows) + m z ≡ sum_of m (row ∷ rows) + m (f z)) (sym (none_is l)) (omega (arith, none))
      by false false e l k = omega (arith, k)

abbrev pub joins_in : GroupRow → ℕ
joins_in row = length row.led.waiting.joins

waits_are : (rows : List GroupRow) → waits_of rows ≡ sum_of joins_in rows
waits_are [] = refl
waits_are (row ∷ rows) = let h : waits_of rows ≡ sum_of joins_in rows = waits_are rows in omega (arith, h)

-- one row's waiting joins are counted anew
pub waits_with : (g : List ℕ) (f : GroupRow → GroupRow) (rows : List GroupRow) → InNameOrder rows → waits_of (rows_with g f rows) + joins_in (row_found g (find (has_name g) rows)) ≡ waits_of rows + joins_in (f (row_found g (find (has_name g) rows)))
waits_with g f rows o = omega (arith, sum_with joins_in g f refl rows o, waits_are (rows_with g f rows), waits_are rows)

-- members and running joiners of an incarnation
abbrev pub own_in : ℕ → ℕ → GroupRow → ℕ
own_in n inc row = length (filter (is_own n inc) (present (state_in row.list)))

pub owned_are : (n inc : ℕ) (rows : List GroupRow) → owned_of n inc rows ≡ sum_of (own_in n inc) rows
owned_are n inc [] = refl
owned_are n inc (row ∷ rows) = let h : owned_of n inc rows ≡ sum_of (own_in n inc) rows = owned_are n inc rows in omega (arith, h)

-- those of one row are counted anew
pub owned_with : (n inc : ℕ) (g : List ℕ) (f : GroupRow → GroupRow) (rows : List GroupRow) → InNameOrder rows → owned_of n inc (rows_with g f rows) + own_in n inc (row_found g (find (has_name g) rows)) ≡ owned_of n inc rows + own_in n inc (f (row_found g (find (has_name g) rows)))
owned_with n inc g f rows o =
    omega (arith, sum_with (own_in n inc) g f refl rows o, owned_are n inc (rows_with g f rows), owned_are n inc rows)
