-- What changes of a row leave of the joins that wait without a list, and of a view that is shut to the group.
use Rattle.std.proofs.Common.{◌≡◌, ◌≤◌, ◌⊎◌, ℕ, List, [], ◌∷◌, length, Option, Some, None, Bool, true, false, refl, sym, ap, subst, inl, inr, arith}
use Rattle.std.specs.Prelude.{is_some, if◌then◌else◌}
use Rattle.std.specs.Str.{bytes_eq}
use Rattle.rsct_packet.specs.declared.ids.ViewId.{ViewId}
use Rattle.rsct_packet.specs.declared.ids.ProviderId.{ProviderId}
use Rattle.rsct_packet.specs.Text.{name_lt}
use Rattle.rsct_packet.specs.Search.{Has}
use Rattle.proposal_core.specs.GroupView.{GroupView}
use Rattle.node_state.specs.declared.group.GroupRow.{GroupRow}
use Rattle.node_state.specs.declared.group.Led.{Led}
use Rattle.node_state.specs.declared.state.Core.{Core}
use Rattle.node_state.specs.State.{InNameOrder, new_row, row_of, rows_with, with_row, list_forgotten}
use Rattle.run_safety.specs.Group.{member}
use Rattle.node_state.proofs.NameOrder.{KeepsName, cases_text, row_here, row_there}
use Rattle.step_refinement.specs.Ghost.{Ghost}
use Rattle.step_refinement.specs.Tied.{rows_held, Idles}

-- a list that is held stays held
abbrev pub Holds : (GroupRow → GroupRow) → Type 0
Holds f = (row : GroupRow) → is_some row.list ≡ true → is_some (f row).list ≡ true

-- no fewer rows have a list
pub held_more : (h : List ℕ) (f : GroupRow → GroupRow) → Holds f → (rows : List GroupRow) → length (rows_held rows) ≤ length (rows_held (rows_with h f rows))
unfolding rows_with
held_more h f holds [] = omega arith
held_more h f holds (row ∷ rows) = by (bytes_eq row.name h) (name_lt h row.name) (held_more h f holds rows)
  where
    kept : (rest : List GroupRow) → length (rows_held (row ∷ rest)) ≤ length (rows_held (f row ∷ rest))
    kept rest = at (is_some row.list) (is_some (f row).list) (holds row)
      where
        at : (a b : Bool) → (a ≡ true → b ≡ true) → length (if a then row ∷ rows_held rest else rows_held rest) ≤ length (if b then f row ∷ rows_held rest else rows_held rest)
        at false false k = omega arith
        at false true k = omega arith
        at true true k = omega arith
        at true false k = absurd (let z = k refl in cc)

    new : length (rows_held (row ∷ rows)) ≤ length (rows_held (f (new_row h) ∷ row ∷ rows))
    new = at (is_some (f (new_row h)).list)
      where
        at : (b : Bool) → length (rows_held (row ∷ rows)) ≤ length (if b then f (new_row h) ∷ rows_held (row ∷ rows) else rows_held (row ∷ rows))
        at false = omega arith
        at true = omega arith

    more : length (rows_held rows) ≤ length (rows_held (rows_with h f rows)) → length (rows_held (row ∷ rows)) ≤ length (rows_held (row ∷ rows_with h f rows))
    more k = at (is_some row.list)
      where
        at : (b : Bool) → length (if b then row ∷ rows_held rows else rows_held rows) ≤ length (if b then row ∷ rows_held (rows_with h f rows) else rows_held (rows_with h f rows))
        at false = k
        at true = omega (arith, k)

    by : (b c : Bool) → length (rows_held rows) ≤ length (rows_held (rows_with h f rows)) → length (rows_held (row ∷ rows)) ≤ length (rows_held (elim b as (λ _. List GroupRow) [ true ↦ f row ∷ rows | false ↦ elim c as (λ _. List GroupRow) [ true ↦ f (new_row h) ∷ row ∷ rows | false ↦ row ∷ rows_with h f rows ] ]))
    by true c k = kept rows
    by false true k = new
    by false false k = more k

pub held_with : (s : Core) (h : List ℕ) (f : GroupRow → GroupRow) → Holds f → length (rows_held s.groups) ≤ length (rows_held (with_row s h f).groups)
unfolding with_row
held_with s h f holds = held_more h f holds s.groups

-- what the row shows of joins that wait, and of a view that is shut to the group
pub record Calm (x : Ghost) (n inc : ℕ) (v : ViewId) (fixed : Bool) (row : GroupRow) : Type 0 where
  pub few : fixed ≡ true → row.list ≡ None → length row.led.waiting.joins ≤ 1
  pub idle : x.leads v ≡ Some (member n inc) → Has v x.shut → (row.list ≡ None) × (row.led.waiting.joins ≡ [])

-- a list is begun by no such change, and none is dropped, and no join comes to wait
pub record Lightens (f : GroupRow → GroupRow) : Type 0 where
  pub bare : (row : GroupRow) → row.list ≡ None → (f row).list ≡ None
  pub held : Holds f
  pub joins : (row : GroupRow) → length (f row).led.waiting.joins ≤ length row.led.waiting.joins

pub held_none : (l : Option GroupView) → l ≡ None → is_some l ≡ true → ⊥
held_none None e h = cc
held_none (Some l) e h = cc

pub none_held : (l : Option GroupView) → (is_some l ≡ true → ⊥) → l ≡ None
none_held None ne = refl
none_held (Some l) ne = absurd (ne refl)

pub no_joins : (xs : List ProviderId) → length xs ≤ 0 → xs ≡ []
no_joins [] e = refl
no_joins (x ∷ xs) e = absurd (omega (arith, e))

pub calm_of : (x : Ghost) (n inc : ℕ) (v : ViewId) (fixed : Bool) (row : GroupRow) (rows : List GroupRow) → Idles x n inc v fixed row rows → Calm x n inc v fixed row
calm_of x n inc v fixed row rows h = record { few = h.few; idle = λ e k. let z = h.shut e k in (z.bare, z.idle) }

pub calm_lighter : (x : Ghost) (n inc : ℕ) (v : ViewId) (fixed : Bool) (row : GroupRow) (f : GroupRow → GroupRow) → Lightens f → Calm x n inc v fixed row → Calm x n inc v fixed (f row)
calm_lighter x n inc v fixed row f l h =
    record {
      few = λ q e. let i = h.few q (was e) in let j = l.joins row in omega arith;
      idle = λ e k. let z = h.idle e k in
          (l.bare row z.0, no_joins (f row).led.waiting.joins (let i = l.joins row in let j : length row.led.waiting.joins ≡ 0 = ap (λ (xs : List ProviderId). length xs) z.1 in omega arith));
    }
  where
    was : (f row).list ≡ None → row.list ≡ None
    was e = none_held row.list (λ q. held_none (f row).list e (l.held row q))

-- a row changes
pub idles_with : (x : Ghost) (n inc : ℕ) (v : ViewId) (fixed : Bool) (s : Core) (h g : List ℕ) (f : GroupRow → GroupRow) → KeepsName f → Holds f → InNameOrder s.groups → (h ≡ g → Calm x n inc v fixed (f (row_of s h))) → Idles x n inc v fixed (row_of s g) s.groups → Idles x n inc v fixed (row_of (with_row s h f) g) (with_row s h f).groups
unfolding with_row
idles_with x n inc v fixed s h g f keeps holds order calm i = by (cases_text h g)
  where
    made : (row : GroupRow) → Calm x n inc v fixed row → Idles x n inc v fixed row (with_row s h f).groups
    made row c =
        record {
          few = c.few;
          shut = λ e k. let z = c.idle e k in
              record { bare = z.0; idle = z.1; full = let a = (i.shut e k).full in let b = held_more h f holds s.groups in omega arith };
        }

    by : (h ≡ g) ⊎ (h ≡ g → ⊥) → Idles x n inc v fixed (row_of (with_row s h f) g) (with_row s h f).groups
    by (inl e) =
        let here : row_of (with_row s h f) g ≡ f (row_of s h) = subst (λ z. row_of (with_row s h f) z ≡ f (row_of s h)) e (row_here h f keeps s order) in
        made (row_of (with_row s h f) g) (subst (Calm x n inc v fixed) (sym here) (calm e))
    by (inr ne) =
        made (row_of (with_row s h f) g) (subst (Calm x n inc v fixed) (sym (row_there h f keeps s g ne)) (calm_of x n inc v fixed (row_of s g) s.groups i))

-- ---- changes that lighten

pub led_lightens : (f : Led → Led) → ((l : Led) → length (f l).waiting.joins ≤ length l.waiting.joins) → Lightens (λ row. record row { led = f row.led })
led_lightens f fewer = record { bare = λ row e. e; held = λ row e. e; joins = λ row. fewer row.led }

pub leader_lightens : (m : ℕ) → Lightens (λ row. record row { leader = Some m })
leader_lightens m = record { bare = λ row e. e; held = λ row e. e; joins = λ row. omega arith }

pub forgotten_held : (m : ℕ) (l : Option GroupView) → is_some l ≡ true → is_some (list_forgotten m l) ≡ true
forgotten_held m None e = e
forgotten_held m (Some l) e = refl

pub forgets_lighten : (m : ℕ) → Lightens (λ row. record row { list = list_forgotten m row.list })
forgets_lighten m = record { bare = λ row e. ap (list_forgotten m) e; held = λ row e. forgotten_held m row.list e; joins = λ row. omega arith }
