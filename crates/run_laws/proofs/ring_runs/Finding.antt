-- Which ring of a node, and of a network, is found after one was put in its place.
use Rattle.std.proofs.Common.{◌≡◌, ◌≢◌, ◌⊎◌, ℕ, List, [], ◌∷◌, Some, None, Bool, true, false, refl, sym, ap, ◌∙◌, subst, inl, inr, ⊎_elim}
use Rattle.std.specs.Prelude.{◌==◌, not, map, filter, find, if◌then◌else◌}
use Rattle.std.proofs.lemmas.Bool.{eqb-true, eqb-false, eq-eqb, ne_eqb}
use Rattle.rsct_packet.specs.Search.{Has}
use Rattle.adapter_ring.specs.declared.ring.Ring.{Ring}
use Rattle.adapter_ring.specs.Network.{with_ring}
use Rattle.node_state.specs.Ticks.{ring_put}

abbrev pub is_on : ℕ → Ring → Bool
is_on net r = r.net == net

abbrev pub is_of : ℕ → Ring → Bool
is_of n r = r.me == n

abbrev net_of : Ring → ℕ
net_of r = r.net

abbrev pub me_of : Ring → ℕ
me_of r = r.me

abbrev pub nets_of : List Ring → List ℕ
nets_of rs = map (λ (r : Ring). r.net) rs

-- no number stands twice
abbrev pub Differ : List ℕ → Type 0
Differ [] = Unit {0}
Differ (n ∷ ns) = (Has n ns → ⊥) × Differ ns

-- what stands before is found first
module _ (key : Ring → ℕ) (k : ℕ) (y : Ring) (rs : List Ring) where
  pub first_here : key y ≡ k → find (λ (r : Ring). key r == k) (y ∷ rs) ≡ Some y
  first_here e = ap (λ b. if b then Some y else find (λ (r : Ring). key r == k) rs) (eq-eqb (key y) k e)

  pub first_there : key y ≢ k → find (λ (r : Ring). key r == k) (y ∷ rs) ≡ find (λ (r : Ring). key r == k) rs
  first_there ne = ap (λ b. if b then Some y else find (λ (r : Ring). key r == k) rs) (ne_eqb (key y) k ne)

-- ---- a node's rings

pub put_has : (rs : List Ring) (y q : Ring) → Has q (ring_put rs y) → (q ≡ y) ⊎ Has q rs
unfolding ring_put
put_has [] y q h = absurd h
put_has (x ∷ xs) y q h = by (x.net == y.net) (put_has xs y q) h
  where
    by : (b : Bool) → (Has q (ring_put xs y) → (q ≡ y) ⊎ Has q xs) → Has {A = Ring} q (elim b [ true ↦ y ∷ xs | false ↦ x ∷ ring_put xs y ]) → (q ≡ y) ⊎ Has q (x ∷ xs)
    by true more (inl e) = inl e
    by true more (inr k) = inr (inr k)
    by false more (inl e) = inr (inl e)
    by false more (inr k) = ⊎_elim (λ (a : q ≡ y). inl a) (λ (b : Has q xs). inr (inr b)) (more k)

pub put_nets : (rs : List Ring) (y : Ring) → nets_of (ring_put rs y) ≡ nets_of rs
unfolding ring_put
put_nets [] y = refl
put_nets (x ∷ xs) y = by (x.net == y.net) refl (put_nets xs y)
  where
    by : (b : Bool) → (x.net == y.net) ≡ b → nets_of (ring_put xs y) ≡ nets_of xs → nets_of (elim b [ true ↦ y ∷ xs | false ↦ x ∷ ring_put xs y ]) ≡ x.net ∷ nets_of xs
    by true e more = ap (λ z. z ∷ nets_of xs) (sym (eqb-true x.net y.net e))
    by false e more = ap (λ z. x.net ∷ z) more

pub put_here : (net : ℕ) (rs : List Ring) (y r : Ring) → y.net ≡ net → find (is_on net) rs ≡ Some r → find (is_on net) (ring_put rs y) ≡ Some y
unfolding ring_put
put_here net [] y r on e = absurd (cc)
put_here net (x ∷ xs) y r on e = by (x.net == y.net) refl (put_here net xs y r on)
  where
    by : (b : Bool) → (x.net == y.net) ≡ b → (find (is_on net) xs ≡ Some r → find (is_on net) (ring_put xs y) ≡ Some y) → find (is_on net) (elim b [ true ↦ y ∷ xs | false ↦ x ∷ ring_put xs y ]) ≡ Some y
    by true f more = first_here net_of net y xs on
    by false f more =
        let off : x.net ≢ net = λ q. eqb-false x.net y.net f (q ∙ sym on) in
        first_there net_of net x (ring_put xs y) off ∙ more (sym (first_there net_of net x xs off) ∙ e)

pub put_there : (net : ℕ) (rs : List Ring) (y : Ring) → y.net ≢ net → find (is_on net) (ring_put rs y) ≡ find (is_on net) rs
unfolding ring_put
put_there net [] y off = refl
put_there net (x ∷ xs) y off = by (x.net == y.net) refl (put_there net xs y off)
  where
    by : (a : Bool) → (x.net == y.net) ≡ a → find (is_on net) (ring_put xs y) ≡ find (is_on net) xs → find (is_on net) (elim a [ true ↦ y ∷ xs | false ↦ x ∷ ring_put xs y ]) ≡ find (is_on net) (x ∷ xs)
    by true f more = first_there net_of net y xs off ∙ sym (first_there net_of net x xs (λ q. off (sym (eqb-true x.net y.net f) ∙ q)))
    by false f more = ap (λ o. if x.net == net then Some x else o) more

pub has_net : (r : Ring) (rs : List Ring) → Has r rs → Has r.net (nets_of rs)
has_net r [] h = absurd h
has_net r (x ∷ xs) (inl e) = inl (ap (λ (z : Ring). z.net) e)
has_net r (x ∷ xs) (inr h) = inr (has_net r xs h)

-- where networks differ, each ring is the one that is found
pub found_own : (rs : List Ring) (r : Ring) → Differ (nets_of rs) → Has r rs → find (is_on r.net) rs ≡ Some r
found_own [] r d h = absurd h
found_own (x ∷ xs) r d (inl e) = first_here net_of r.net x xs (ap net_of (sym e)) ∙ ap (λ z. Some z) (sym e)
found_own (x ∷ xs) r d (inr h) =
    first_there net_of r.net x xs (λ q. d.0 (subst (λ z. Has z (nets_of xs)) (sym q) (has_net r xs h))) ∙ found_own xs r d.1 h

-- ---- the rings of a network

pub with_here : (n : ℕ) (rs : List Ring) (y r : Ring) → y.me ≡ n → find (is_of n) rs ≡ Some r → find (is_of n) (with_ring y rs) ≡ Some y
unfolding with_ring
with_here n [] y r mine e = absurd (cc)
with_here n (x ∷ xs) y r mine e = by (x.me == y.me) refl (with_here n xs y r mine)
  where
    by : (b : Bool) → (x.me == y.me) ≡ b → (find (is_of n) xs ≡ Some r → find (is_of n) (with_ring y xs) ≡ Some y) → find (is_of n) (elim b [ true ↦ y | false ↦ x ] ∷ with_ring y xs) ≡ Some y
    by true f more = first_here me_of n y (with_ring y xs) mine
    by false f more =
        let off : x.me ≢ n = λ q. eqb-false x.me y.me f (q ∙ sym mine) in
        first_there me_of n x (with_ring y xs) off ∙ more (sym (first_there me_of n x xs off) ∙ e)

pub with_there : (m : ℕ) (rs : List Ring) (y : Ring) → y.me ≢ m → find (is_of m) (with_ring y rs) ≡ find (is_of m) rs
unfolding with_ring
with_there m [] y off = refl
with_there m (x ∷ xs) y off = by (x.me == y.me) refl (with_there m xs y off)
  where
    by : (a : Bool) → (x.me == y.me) ≡ a → find (is_of m) (with_ring y xs) ≡ find (is_of m) xs → find (is_of m) (elim a [ true ↦ y | false ↦ x ] ∷ with_ring y xs) ≡ find (is_of m) (x ∷ xs)
    by true f more = first_there me_of m y (with_ring y xs) off ∙ more ∙ sym (first_there me_of m x xs (λ q. off (sym (eqb-true x.me y.me f) ∙ q)))
    by false f more = ap (λ o. if x.me == m then Some x else o) more

-- without the ring of a node
abbrev pub without : ℕ → List Ring → List Ring
without n rs = filter (λ (r : Ring). not (r.me == n)) rs

pub gone_here : (n : ℕ) (rs : List Ring) → find (is_of n) (without n rs) ≡ None
gone_here n [] = refl
gone_here n (x ∷ xs) = by (x.me == n) refl (gone_here n xs)
  where
    by : (b : Bool) → (x.me == n) ≡ b → find (is_of n) (without n xs) ≡ None → find (is_of n) (if not b then x ∷ without n xs else without n xs) ≡ None
    by true f more = more
    by false f more = first_there me_of n x (without n xs) (eqb-false x.me n f) ∙ more

pub gone_there : (n m : ℕ) (rs : List Ring) → m ≢ n → find (is_of m) (without n rs) ≡ find (is_of m) rs
gone_there n m [] ne = refl
gone_there n m (x ∷ xs) ne = by (x.me == n) refl (gone_there n m xs ne)
  where
    by : (b : Bool) → (x.me == n) ≡ b → find (is_of m) (without n xs) ≡ find (is_of m) xs → find (is_of m) (if not b then x ∷ without n xs else without n xs) ≡ find (is_of m) (x ∷ xs)
    by true f more = more ∙ sym (first_there me_of m x xs (λ q. ne (sym q ∙ eqb-true x.me n f)))
    by false f more = ap (λ o. if x.me == m then Some x else o) more
