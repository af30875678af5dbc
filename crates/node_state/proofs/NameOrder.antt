-- The order of names, and the row of a group among rows in that order.
use Rattle.std.proofs.Common.{◌≡◌, ℕ, List, [], ◌∷◌, Some, None, Bool, true, false, cond, refl, sym, ap, ◌∙◌, subst, inl, inr, ◌⊎◌}
use Rattle.std.specs.Prelude.{filter, find}
use Rattle.std.specs.Str.{bytes_eq}
use Rattle.std.specs.Ordering.{nat_cmp, is_lt, is_eq, ordering_reverse}
use Rattle.std.specs.declared.cmp.Ordering.{Ordering}
use Rattle.std.specs.declared.cmp.Ordering.TheVariants.{Less, Equal, Greater}
use Rattle.std.specs.Cmp.Lexicographic.{slice_cmp, nat_list_cmp_total}
use Rattle.std.proofs.lemmas.Map.Text.{is_eq-slice_cmp}
use Rattle.std.proofs.lemmas.Slice.Eq.{bytes_eq-Decides}
use Rattle.rsct_packet.specs.Search.{Has}
use Rattle.rsct_packet.specs.Text.{name_lt}
use Rattle.rsct_packet.proofs.HasLaws.{has_filter, has_map}
use Rattle.node_state.specs.declared.group.GroupRow.{GroupRow}
use Rattle.node_state.specs.declared.state.Core.{Core}
use Rattle.node_state.specs.State.{AllAfter, InNameOrder, new_row, row_found, has_name, row_of, rows_with, with_row, leads_in, leads, led_groups}

pub text_same : (a b : List ℕ) → bytes_eq a b ≡ true → a ≡ b
text_same a b h = (bytes_eq-Decides a b).0 h

pub text_self : (a : List ℕ) → bytes_eq a a ≡ true
text_self a = (bytes_eq-Decides a a).1 refl

pub text_other : (a b : List ℕ) → (a ≡ b → ⊥) → bytes_eq a b ≡ false
text_other a b ne = by (bytes_eq a b) refl
  where
    by : (t : Bool) → bytes_eq a b ≡ t → t ≡ false
    by true e = absurd (ne (text_same a b e))
    by false e = refl

pub cases_text : (a b : List ℕ) → (a ≡ b) ⊎ (a ≡ b → ⊥)
cases_text a b = by (bytes_eq a b) refl
  where
    by : (t : Bool) → bytes_eq a b ≡ t → (a ≡ b) ⊎ (a ≡ b → ⊥)
    by true e = inl (text_same a b e)
    by false e = inr (λ q. let f : bytes_eq a b ≡ true = subst (λ z. bytes_eq a z ≡ true) q (text_self a) in cc)

less_is : (o : Ordering) → is_lt o ≡ true → o ≡ Less
less_is Less e = refl
less_is Equal e = absurd (cc)
less_is Greater e = absurd (cc)

pub lt_self : (a : List ℕ) → name_lt a a ≡ false
lt_self a = by (slice_cmp nat_cmp a a) (nat_list_cmp_total.antisymm a a)
  where
    by : (o : Ordering) → o ≡ ordering_reverse o → is_lt o ≡ false
    by Less e = absurd (cc)
    by Equal e = refl
    by Greater e = refl

pub name_lt_trans : (a b c : List ℕ) → name_lt a b ≡ true → name_lt b c ≡ true → name_lt a c ≡ true
name_lt_trans a b c e f =
    ap is_lt (nat_list_cmp_total.trans a b c (less_is (slice_cmp nat_cmp a b) e) (less_is (slice_cmp nat_cmp b c) f))

pub name_lt_total : (a b : List ℕ) → name_lt a b ≡ false → bytes_eq b a ≡ false → name_lt b a ≡ true
name_lt_total a b e ne = by (slice_cmp nat_cmp b a) refl (nat_list_cmp_total.antisymm b a)
  where
    by : (o : Ordering) → slice_cmp nat_cmp b a ≡ o → o ≡ ordering_reverse (slice_cmp nat_cmp a b) → is_lt o ≡ true
    by Less q r = refl
    by Equal q r = absurd (let f : bytes_eq b a ≡ true = sym (is_eq-slice_cmp b a) ∙ ap is_eq q in cc)
    by Greater q r = absurd (at (slice_cmp nat_cmp a b) e r)
      where
        at : (o : Ordering) → is_lt o ≡ false → Greater ≡ ordering_reverse o → ⊥
        at Less e r = cc
        at Equal e r = cc
        at Greater e r = cc

lt_differ : (a b : List ℕ) → name_lt a b ≡ true → bytes_eq b a ≡ false
lt_differ a b e = by (bytes_eq b a) refl
  where
    by : (t : Bool) → bytes_eq b a ≡ t → t ≡ false
    by true q = let same : b ≡ a = text_same b a q in
        let f : name_lt a a ≡ true = subst (λ z. name_lt a z ≡ true) same e in
        let k = lt_self a in absurd (cc)
    by false q = refl

pub after_less : (g h : List ℕ) (rows : List GroupRow) → name_lt g h ≡ true → AllAfter h rows → AllAfter g rows
after_less g h [] e a = tt
after_less g h (row ∷ rows) e a = (name_lt_trans g h row.name e a.0, after_less g h rows e a.1)

pub none_after : (g : List ℕ) (rows : List GroupRow) → AllAfter g rows → find (has_name g) rows ≡ None
none_after g [] a = refl
none_after g (row ∷ rows) a =
    ap (λ b. cond b (Some row) (find (has_name g) rows)) (lt_differ g row.name a.0) ∙ none_after g rows a.1

pub after_has : (h : List ℕ) (rows : List GroupRow) (row : GroupRow) → AllAfter h rows → Has row rows → name_lt h row.name ≡ true
after_has h [] row a k = absurd k
after_has h (r ∷ rows) row a (inl q) = subst (λ (z : GroupRow). name_lt h z.name ≡ true) (sym q) a.0
after_has h (r ∷ rows) row a (inr k) = after_has h rows row a.1 k

-- a row among rows in order is found by its name
pub found_itself : (rows : List GroupRow) (row : GroupRow) → InNameOrder rows → Has row rows → find (has_name row.name) rows ≡ Some row
found_itself [] row o k = absurd k
found_itself (r ∷ rows) row o (inl q) =
    subst (λ (z : GroupRow). find (has_name z.name) (r ∷ rows) ≡ Some z) (sym q) (ap (λ b. cond b (Some r) (find (has_name r.name) rows)) (text_self r.name))
found_itself (r ∷ rows) row o (inr k) = by (bytes_eq r.name row.name) refl (found_itself rows row o.1 k)
  where
    by : (b : Bool) → bytes_eq r.name row.name ≡ b → find (has_name row.name) rows ≡ Some row → cond b (Some r) (find (has_name row.name) rows) ≡ Some row
    by true e h =
        let after : name_lt r.name row.name ≡ true = after_has r.name rows row o.0 k in
        let self : name_lt r.name r.name ≡ true = subst (λ (z : List ℕ). name_lt r.name z ≡ true) (sym (text_same r.name row.name e)) after in
        let never = lt_self r.name in absurd cc
    by false e h = h

pub row_itself : (s : Core) (row : GroupRow) → InNameOrder s.groups → Has row s.groups → row_of s row.name ≡ row
unfolding row_of
row_itself s row o h = ap (row_found row.name) (found_itself s.groups row o h)

-- each of the groups that a node leads is led by it
pub led_are_led : (s : Core) (h : List ℕ) → InNameOrder s.groups → Has h (led_groups s) → leads s h ≡ true
unfolding led_groups leads row_of
led_are_led s h o i =
    let a = has_map (λ (row : GroupRow). row.name) h (filter (leads_in s) s.groups) i in
    let b = has_filter (leads_in s) a.0 s.groups a.1 in
    ap (λ k. leads_in s (row_found k (find (has_name k) s.groups))) a.2 ∙ ap (λ z. leads_in s (row_found (a.0).name z)) (found_itself s.groups a.0 o b.0) ∙ b.1

-- what keeps the names of rows
abbrev pub KeepsName : (GroupRow → GroupRow) → Type 0
KeepsName f = (x : GroupRow) → (f x).name ≡ x.name

module _ (g : List ℕ) (f : GroupRow → GroupRow) (keeps : KeepsName f) where
  named_still : (x : GroupRow) → bytes_eq x.name g ≡ true → bytes_eq (f x).name g ≡ true
  named_still x e = ap (λ z. bytes_eq z g) (keeps x) ∙ e

  find_here : (rows : List GroupRow) → InNameOrder rows → find (has_name g) (rows_with g f rows) ≡ Some (f (row_found g (find (has_name g) rows)))
  unfolding rows_with
  find_here [] o = ap (λ b. cond b (Some (f (new_row g))) None) (named_still (new_row g) (text_self g))
  find_here (row ∷ rows) o = by (bytes_eq row.name g) (name_lt g row.name) refl refl (find_here rows o.1)
    where
      by : (b c : Bool) → bytes_eq row.name g ≡ b → name_lt g row.name ≡ c → find (has_name g) (rows_with g f rows) ≡ Some (f (row_found g (find (has_name g) rows))) → find (has_name g) (elim b [ true ↦ f row ∷ rows | false ↦ elim c [ true ↦ f (new_row g) ∷ row ∷ rows | false ↦ row ∷ rows_with g f rows ] ]) ≡ Some (f (row_found g (cond b (Some row) (find (has_name g) rows))))
      by true c e l k = ap (λ b. cond b (Some (f row)) (find (has_name g) rows)) (named_still row e)
      by false true e l k =
          ap (λ b. cond b (Some (f (new_row g))) (find (has_name g) (row ∷ rows))) (named_still (new_row g) (text_self g)) ∙ ap (λ z. Some (f (row_found g z))) (sym (none_after g rows (after_less g row.name rows l o.0)))
      by false false e l k = ap (λ b. cond b (Some row) (find (has_name g) (rows_with g f rows))) e ∙ k

  find_there : (h : List ℕ) → (g ≡ h → ⊥) → (rows : List GroupRow) → find (has_name h) (rows_with g f rows) ≡ find (has_name h) rows
  unfolding rows_with
  find_there h ne [] = ap (λ b. cond b (Some (f (new_row g))) None) (ap (λ z. bytes_eq z h) (keeps (new_row g)) ∙ text_other g h ne)
  find_there h ne (row ∷ rows) = by (bytes_eq row.name g) (name_lt g row.name) refl (find_there h ne rows)
    where
      by : (b c : Bool) → bytes_eq row.name g ≡ b → find (has_name h) (rows_with g f rows) ≡ find (has_name h) rows → find (has_name h) (elim b [ true ↦ f row ∷ rows | false ↦ elim c [ true ↦ f (new_row g) ∷ row ∷ rows | false ↦ row ∷ rows_with g f rows ] ]) ≡ find (has_name h) (row ∷ rows)
      by true c e k =
          let other : bytes_eq row.name h ≡ false = ap (λ z. bytes_eq z h) (text_same row.name g e) ∙ text_other g h ne in
          ap (λ b. cond b (Some (f row)) (find (has_name h) rows)) (ap (λ z. bytes_eq z h) (keeps row) ∙ other) ∙ ap (λ b. cond b (Some row) (find (has_name h) rows)) (sym other)
      by false true e k = ap (λ b. cond b (Some (f (new_row g))) (find (has_name h) (row ∷ rows))) (ap (λ z. bytes_eq z h) (keeps (new_row g)) ∙ text_other g h ne)
      by false false e k = ap (λ z. cond (bytes_eq row.name h) (Some row) z) k

  after_with : (h : List ℕ) (rows : List GroupRow) → name_lt h g ≡ true → AllAfter h rows → AllAfter h (rows_with g f rows)
  unfolding rows_with
  after_with h [] l a = (ap (λ z. name_lt h z) (keeps (new_row g)) ∙ l, tt)
  after_with h (row ∷ rows) l a = by (bytes_eq row.name g) (name_lt g row.name) (after_with h rows l a.1)
    where
      by : (b c : Bool) → AllAfter h (rows_with g f rows) → AllAfter h (elim b [ true ↦ f row ∷ rows | false ↦ elim c [ true ↦ f (new_row g) ∷ row ∷ rows | false ↦ row ∷ rows_with g f rows ] ])
      by true c k = (ap (λ z. name_lt h z) (keeps row) ∙ a.0, a.1)
      by false true k = (ap (λ z. name_lt h z) (keeps (new_row g)) ∙ l, a)
      by false false k = (a.0, k)

  pub order_with : (rows : List GroupRow) → InNameOrder rows → InNameOrder (rows_with g f rows)
  unfolding rows_with
  order_with [] o = (tt, tt)
  order_with (row ∷ rows) o = by (bytes_eq row.name g) (name_lt g row.name) refl refl (order_with rows o.1)
    where
      by : (b c : Bool) → bytes_eq row.name g ≡ b → name_lt g row.name ≡ c → InNameOrder (rows_with g f rows) → InNameOrder (elim b [ true ↦ f row ∷ rows | false ↦ elim c [ true ↦ f (new_row g) ∷ row ∷ rows | false ↦ row ∷ rows_with g f rows ] ])
      by true c e l k = (subst (λ z. AllAfter z rows) (sym (keeps row)) o.0, o.1)
      by false true e l k = (subst (λ z. AllAfter z (row ∷ rows)) (sym (keeps (new_row g))) (l, after_less g row.name rows l o.0), o)
      by false false e l k = (after_with row.name rows (name_lt_total g row.name l e) o.0, k)

  pub row_here : (s : Core) → InNameOrder s.groups → row_of (with_row s g f) g ≡ f (row_of s g)
  unfolding row_of with_row
  row_here s o = ap (row_found g) (find_here s.groups o)

  pub row_there : (s : Core) (h : List ℕ) → (g ≡ h → ⊥) → row_of (with_row s g f) h ≡ row_of s h
  unfolding row_of with_row
  row_there s h ne = ap (row_found h) (find_there h ne s.groups)

  pub rows_ordered : (s : Core) → InNameOrder s.groups → InNameOrder (with_row s g f).groups
  unfolding with_row
  rows_ordered s o = order_with s.groups o
