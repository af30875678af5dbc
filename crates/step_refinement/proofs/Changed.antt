-- One value is set, and one more stands at the end of a list.
use Rattle.std.proofs.Common.{◌≡◌, ◌≢◌, ◌≤◌, ℕ, List, [], ◌∷◌, ◌++◌, Bool, true, false, refl, sym, ap, subst, arith, inl, inr, ◌⊎◌, ⊎_elim}
use Rattle.std.specs.Prelude.{◌==◌, if◌then◌else◌}
use Rattle.std.proofs.lemmas.Bool.{eqb-true, eqb-false, cases_eq}
use Rattle.rsct_packet.specs.Search.{Has}
use Rattle.rsct_packet.proofs.HasLaws.{has_append, append_has_left, append_has_right}
use Rattle.rsct_packet.specs.declared.ids.ViewId.{ViewId}
use Rattle.run_safety.specs.ViewOrder.{is_same}
use Rattle.run_safety.specs.Group.{Standing}
use Rattle.run_safety.specs.Moves.{Changes}
use Rattle.run_safety.proofs.Order.{eq_true, eq_same}
use Rattle.step_refinement.specs.Rules.{at_node}

pub set_here : {A : Type 0} (f : ℕ → A) (n : ℕ) (y : A) → at_node f n y n ≡ y
unfolding at_node
set_here f n y = by (n == n) refl
  where
    by : (b : Bool) → (n == n) ≡ b → (if b then y else f n) ≡ y
    by true e = refl
    by false e = absurd (eqb-false n n e refl)

pub set_there : {A : Type 0} (f : ℕ → A) (n : ℕ) (y : A) (m : ℕ) → m ≢ n → at_node f n y m ≡ f m
unfolding at_node
set_there f n y m ne = by (m == n) refl
  where
    by : (b : Bool) → (m == n) ≡ b → (if b then y else f m) ≡ f m
    by true e = absurd (ne (eqb-true m n e))
    by false e = refl

pub each_set : {A : Type 0} (P : ℕ → A → Type 0) (f : ℕ → A) (n : ℕ) (y : A) → P n y → ((m : ℕ) → m ≢ n → P m (f m)) → (m : ℕ) → P m (at_node f n y m)
each_set P f n y new old m =
    ⊎_elim (λ (e : m ≡ n). subst (λ k. P k (at_node f n y k)) (sym e) (subst (P n) (sym (set_here f n y)) new)) (λ (ne : m ≢ n). subst (P m) (sym (set_there f n y m ne)) (old m ne)) (cases_eq m n)

pub changes : (f : ℕ → Standing) (n : ℕ) (x : Standing) → Changes f (at_node f n x) n x
changes f n x = record { here = set_here f n x; there = λ m ne. set_there f n x m ne }

-- no incarnation falls
pub incs_set : (f : ℕ → Standing) (n : ℕ) (z : Standing) → (f n).inc ≤ z.inc → (m : ℕ) → (f m).inc ≤ (at_node f n z m).inc
incs_set f n z le m = each_set (λ k y. (f k).inc ≤ y.inc) f n z le (λ k ne. omega arith) m

-- ---- one view's value is set

pub set_view : {A : Type 0} → (ViewId → A) → ViewId → A → ViewId → A
set_view f v y u = if is_same u v then y else f u

pub view_here : {A : Type 0} (f : ViewId → A) (v : ViewId) (y : A) → set_view f v y v ≡ y
unfolding set_view
view_here f v y = ap (λ b. if b then y else f v) (eq_same v)

pub view_there : {A : Type 0} (f : ViewId → A) (v : ViewId) (y : A) (u : ViewId) → (u ≡ v → ⊥) → set_view f v y u ≡ f u
unfolding set_view
view_there f v y u ne = by (is_same u v) refl
  where
    by : (b : Bool) → is_same u v ≡ b → (if b then y else f u) ≡ f u
    by true e = absurd (ne (eq_true u v e))
    by false e = refl

-- one more at the end of the first part
pub has_pushed : {A : Type 0} (x y : A) (xs ys : List A) → Has x ((xs ++ y ∷ []) ++ ys) → (x ≡ y) ⊎ Has x (xs ++ ys)
has_pushed x y xs ys h =
    ⊎_elim (λ (a : Has x (xs ++ y ∷ [])). ⊎_elim (λ (b : Has x xs). inr (append_has_left x xs ys b)) (λ (c : Has x (y ∷ [])). last c) (has_append x xs (y ∷ []) a)) (λ (b : Has x ys). inr (append_has_right x xs ys b)) (has_append x (xs ++ y ∷ []) ys h)
  where
    last : Has x (y ∷ []) → (x ≡ y) ⊎ Has x (xs ++ ys)
    last (inl e) = inl e
    last (inr z) = absurd z
