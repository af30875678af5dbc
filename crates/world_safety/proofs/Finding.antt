-- Which node, and which incarnation, is found under a number after a change.
use Rattle.std.proofs.Common.{◌≡◌, ◌≢◌, ℕ, List, [], ◌∷◌, Bool, true, false, Some, None, refl, sym, ap, ◌∙◌, subst}
use Rattle.std.specs.Prelude.{◌==◌, cond, find, if◌then◌else◌}
use Rattle.std.proofs.lemmas.Bool.{eqb-true, eqb-false, eq-eqb, ne_eqb}
use Rattle.rsct_packet.specs.Lists.{drop_where}
use Rattle.rsct_packet.specs.Search.{insert_before}
use Rattle.world_model.specs.World.{Node, Started, is_node, nodes_with, inc_in, starts_with}
use Rattle.world_safety.specs.Mirrors.{inc_at, Once}

module _ {A : Type 0} (test : A → Bool) (y : A) (ys : List A) where
  pub head_passes : test y ≡ true → find test (y ∷ ys) ≡ Some y
  head_passes e = ap (λ b. cond b (Some y) (find test ys)) e

  pub head_fails : test y ≡ false → find test (y ∷ ys) ≡ find test ys
  head_fails e = ap (λ b. cond b (Some y) (find test ys)) e

  none_head : find test (y ∷ ys) ≡ None → (test y ≡ false) × (find test ys ≡ None)
  none_head e = by (test y) refl e
    where
      by : (b : Bool) → test y ≡ b → cond b (Some y) (find test ys) ≡ None → (test y ≡ false) × (find test ys ≡ None)
      by true q e = absurd (cc)
      by false q e = (q, e)

-- ---- nodes

pub is_me : (n : ℕ) (x : Node) → x.core.views.me ≡ n → is_node n x ≡ true
unfolding is_node
is_me n x e = eq-eqb x.core.views.me n e

pub not_me : (n : ℕ) (x : Node) → (x.core.views.me ≡ n → ⊥) → is_node n x ≡ false
unfolding is_node
not_me n x ne = ne_eqb x.core.views.me n ne

me_of : (n : ℕ) (x : Node) → is_node n x ≡ true → x.core.views.me ≡ n
unfolding is_node
me_of n x e = eqb-true x.core.views.me n e

other_of : (n : ℕ) (x : Node) → is_node n x ≡ false → x.core.views.me ≡ n → ⊥
unfolding is_node
other_of n x e = eqb-false x.core.views.me n e

same_number : (n : ℕ) (x y : Node) → x.core.views.me ≡ y.core.views.me → is_node n x ≡ is_node n y
unfolding is_node
same_number n x y e = ap (λ k. k == n) e

module _ (x : Node) where
  -- a node is replaced
  pub with_here : (n : ℕ) → x.core.views.me ≡ n → (ys : List Node) (y : Node) → find (is_node n) ys ≡ Some y → find (is_node n) (nodes_with x ys) ≡ Some x
  unfolding nodes_with
  with_here n me [] y e = absurd (cc)
  with_here n me (z ∷ zs) y e = by (z.core.views.me == x.core.views.me) refl (λ f. with_here n me zs y f)
    where
      by : (b : Bool) → (z.core.views.me == x.core.views.me) ≡ b → (find (is_node n) zs ≡ Some y → find (is_node n) (nodes_with x zs) ≡ Some x) → find (is_node n) (elim b [ true ↦ x ∷ zs | false ↦ z ∷ nodes_with x zs ]) ≡ Some x
      by true q rest = head_passes (is_node n) x zs (is_me n x me)
      by false q rest =
          let f : is_node n z ≡ false = not_me n z (λ r. eqb-false z.core.views.me x.core.views.me q (r ∙ sym me)) in
          head_fails (is_node n) z (nodes_with x zs) f ∙ rest (sym (head_fails (is_node n) z zs f) ∙ e)

  pub with_there : (m : ℕ) → is_node m x ≡ false → (ys : List Node) → find (is_node m) (nodes_with x ys) ≡ find (is_node m) ys
  unfolding nodes_with
  with_there m f [] = refl
  with_there m f (z ∷ zs) = by (z.core.views.me == x.core.views.me) refl (with_there m f zs)
    where
      by : (b : Bool) → (z.core.views.me == x.core.views.me) ≡ b → find (is_node m) (nodes_with x zs) ≡ find (is_node m) zs → find (is_node m) (elim b [ true ↦ x ∷ zs | false ↦ z ∷ nodes_with x zs ]) ≡ find (is_node m) (z ∷ zs)
      by true q rest = head_fails (is_node m) x zs f ∙ sym (head_fails (is_node m) z zs (same_number m z x (eqb-true z.core.views.me x.core.views.me q) ∙ f))
      by false q rest = ap (λ o. cond (is_node m z) (Some z) o) rest

  pub once_with : (ys : List Node) → Once ys → Once (nodes_with x ys)
  unfolding nodes_with
  once_with [] once = tt
  once_with (z ∷ zs) once = by (z.core.views.me == x.core.views.me) refl (once_with zs once.1)
    where
      by : (b : Bool) → (z.core.views.me == x.core.views.me) ≡ b → Once (nodes_with x zs) → Once (elim b [ true ↦ x ∷ zs | false ↦ z ∷ nodes_with x zs ])
      by true q rest = (subst (λ k. find (is_node k) zs ≡ None) (eqb-true z.core.views.me x.core.views.me q) once.0, once.1)
      by false q rest =
          let f : is_node z.core.views.me x ≡ false = not_me z.core.views.me x (λ r. eqb-false z.core.views.me x.core.views.me q (sym r)) in
          (with_there z.core.views.me f zs ∙ once.0, rest)

  -- a node is put in
  module _ (test : Node → Bool) where
    pub put_here : (n : ℕ) → is_node n x ≡ true → (ys : List Node) → find (is_node n) ys ≡ None → find (is_node n) (insert_before test x ys) ≡ Some x
    put_here n me [] e = head_passes (is_node n) x [] me
    put_here n me (z ∷ zs) e = by (test z) (λ f. put_here n me zs f)
      where
        by : (b : Bool) → (find (is_node n) zs ≡ None → find (is_node n) (insert_before test x zs) ≡ Some x) → find (is_node n) (if b then x ∷ z ∷ zs else z ∷ insert_before test x zs) ≡ Some x
        by true rest = head_passes (is_node n) x (z ∷ zs) me
        by false rest = let k = none_head (is_node n) z zs e in head_fails (is_node n) z (insert_before test x zs) k.0 ∙ rest k.1

    pub put_there : (m : ℕ) → is_node m x ≡ false → (ys : List Node) → find (is_node m) (insert_before test x ys) ≡ find (is_node m) ys
    put_there m f [] = head_fails (is_node m) x [] f
    put_there m f (z ∷ zs) = by (test z) (put_there m f zs)
      where
        by : (b : Bool) → find (is_node m) (insert_before test x zs) ≡ find (is_node m) zs → find (is_node m) (if b then x ∷ z ∷ zs else z ∷ insert_before test x zs) ≡ find (is_node m) (z ∷ zs)
        by true rest = head_fails (is_node m) x (z ∷ zs) f
        by false rest = ap (λ o. cond (is_node m z) (Some z) o) rest

    pub once_put : (ys : List Node) → find (is_node x.core.views.me) ys ≡ None → Once ys → Once (insert_before test x ys)
    once_put [] e once = (refl, tt)
    once_put (z ∷ zs) e once = by (test z) (λ f. once_put zs f once.1)
      where
        by : (b : Bool) → (find (is_node x.core.views.me) zs ≡ None → Once (insert_before test x zs)) → Once (if b then x ∷ z ∷ zs else z ∷ insert_before test x zs)
        by true rest = (e, once)
        by false rest =
            let k = none_head (is_node x.core.views.me) z zs e in
            let f : is_node z.core.views.me x ≡ false = not_me z.core.views.me x (λ r. other_of x.core.views.me z k.0 (sym r)) in
            (put_there z.core.views.me f zs ∙ once.0, rest k.1)

-- a node is taken out
pub out_here : (n : ℕ) (ys : List Node) → Once ys → find (is_node n) (drop_where (is_node n) ys) ≡ None
out_here n [] once = refl
out_here n (z ∷ zs) once = by (is_node n z) refl (out_here n zs once.1)
  where
    by : (b : Bool) → is_node n z ≡ b → find (is_node n) (drop_where (is_node n) zs) ≡ None → find (is_node n) (elim b [ true ↦ zs | false ↦ z ∷ drop_where (is_node n) zs ]) ≡ None
    by true q rest = subst (λ k. find (is_node k) zs ≡ None) (me_of n z q) once.0
    by false q rest = head_fails (is_node n) z (drop_where (is_node n) zs) q ∙ rest

pub out_there : (m n : ℕ) → m ≢ n → (ys : List Node) → find (is_node m) (drop_where (is_node n) ys) ≡ find (is_node m) ys
out_there m n ne [] = refl
out_there m n ne (z ∷ zs) = by (is_node n z) refl (out_there m n ne zs)
  where
    by : (b : Bool) → is_node n z ≡ b → find (is_node m) (drop_where (is_node n) zs) ≡ find (is_node m) zs → find (is_node m) (elim b [ true ↦ zs | false ↦ z ∷ drop_where (is_node n) zs ]) ≡ find (is_node m) (z ∷ zs)
    by true q rest = sym (head_fails (is_node m) z zs (not_me m z (λ r. ne (sym r ∙ me_of n z q))))
    by false q rest = ap (λ o. cond (is_node m z) (Some z) o) rest

pub once_out : (n : ℕ) (ys : List Node) → Once ys → Once (drop_where (is_node n) ys)
once_out n [] once = tt
once_out n (z ∷ zs) once = by (is_node n z) refl (once_out n zs once.1)
  where
    by : (b : Bool) → is_node n z ≡ b → Once (drop_where (is_node n) zs) → Once (elim b [ true ↦ zs | false ↦ z ∷ drop_where (is_node n) zs ])
    by true q rest = once.1
    by false q rest = (out_there z.core.views.me n (other_of n z q) zs ∙ once.0, rest)

-- ---- incarnations

pub starts_here : (n inc : ℕ) (ys : List Started) → inc_at (starts_with ys n inc) n ≡ inc
unfolding starts_with
starts_here n inc [] = ap (λ b. inc_in (cond b (Some (record { node = n; inc = inc })) None)) (eq-eqb n n refl)
starts_here n inc (z ∷ zs) = by (z.node == n) refl (starts_here n inc zs)
  where
    new : Started
    new = record { node = n; inc = inc }

    by : (b : Bool) → (z.node == n) ≡ b → inc_at (starts_with zs n inc) n ≡ inc → inc_at (elim b [ true ↦ new ∷ zs | false ↦ z ∷ starts_with zs n inc ]) n ≡ inc
    by true q rest = ap (λ b. inc_in (cond b (Some new) (find (λ (x : Started). x.node == n) zs))) (eq-eqb n n refl)
    by false q rest = ap inc_in (head_fails (λ (x : Started). x.node == n) z (starts_with zs n inc) q) ∙ rest

pub starts_there : (n inc m : ℕ) → m ≢ n → (ys : List Started) → inc_at (starts_with ys n inc) m ≡ inc_at ys m
unfolding starts_with
starts_there n inc m ne [] = ap (λ b. inc_in (cond b (Some (record { node = n; inc = inc })) None)) (ne_eqb n m (λ e. ne (sym e)))
starts_there n inc m ne (z ∷ zs) = by (z.node == n) refl (starts_there n inc m ne zs)
  where
    new : Started
    new = record { node = n; inc = inc }

    kept : (b : Bool) → inc_at (starts_with zs n inc) m ≡ inc_at zs m → inc_in (cond b (Some z) (find (λ (x : Started). x.node == m) (starts_with zs n inc))) ≡ inc_in (cond b (Some z) (find (λ (x : Started). x.node == m) zs))
    kept true e = refl
    kept false e = e

    by : (b : Bool) → (z.node == n) ≡ b → inc_at (starts_with zs n inc) m ≡ inc_at zs m → inc_at (elim b [ true ↦ new ∷ zs | false ↦ z ∷ starts_with zs n inc ]) m ≡ inc_at (z ∷ zs) m
    by true q rest =
        ap inc_in (head_fails (λ (x : Started). x.node == m) new zs (ne_eqb n m (λ e. ne (sym e))) ∙ sym (head_fails (λ (x : Started). x.node == m) z zs (ne_eqb z.node m (λ e. ne (sym e ∙ eqb-true z.node n q)))))
    by false q rest = kept (z.node == m) rest
