-- What has times is put in the order of these, and what passes a test stays in its own order, where that was not against time.
use Rattle.std.proofs.Common.{◌≡◌, List, [], ◌∷◌, Bool, true, false, refl, sym, ap, ◌∙◌, subst, inl, inr}
use Rattle.std.specs.Prelude.{◌⊎◌, filter, if◌then◌else◌}
use Rattle.rsct_packet.specs.Search.{Has}
use Rattle.network_model.specs.Executions.{IsLinear, Timed, NeverBack}

-- a time is no later than itself
pub refl_later : {T : Type 0} (no_later : T → T → Bool) → IsLinear T no_later → (a : T) → no_later a a ≡ true
refl_later no_later linear a = by (no_later a a) refl
  where
    by : (b : Bool) → no_later a a ≡ b → no_later a a ≡ true
    by true e = e
    by false e = linear.either a a e

module _ {T A : Type 0} (no_later : T → T → Bool) (linear : IsLinear T no_later) where
  -- before all that is not earlier
  put_before : Bool → Timed T A → Timed T A → List (Timed T A) → List (Timed T A) → List (Timed T A)
  put_before true x y ys more = x ∷ y ∷ ys
  put_before false x y ys more = y ∷ more

  put : Timed T A → List (Timed T A) → List (Timed T A)
  put x [] = x ∷ []
  put x (y ∷ ys) = put_before (no_later x.time y.time) x y ys (put x ys)

  pub sorted : List (Timed T A) → List (Timed T A)
  sorted [] = []
  sorted (x ∷ xs) = put x (sorted xs)

  -- ---- what is in it

  put_has : (z x : Timed T A) (ys : List (Timed T A)) → Has z (put x ys) → (z ≡ x) ⊎ Has z ys
  unfolding put put_before
  put_has z x [] (inl e) = inl e
  put_has z x [] (inr h) = absurd h
  put_has z x (y ∷ ys) h = by (no_later x.time y.time) (put_has z x ys) h
    where
      by : (b : Bool) → (Has z (put x ys) → (z ≡ x) ⊎ Has z ys) → Has z (put_before b x y ys (put x ys)) → (z ≡ x) ⊎ Has z (y ∷ ys)
      by true more (inl e) = inl e
      by true more (inr i) = inr i
      by false more (inl e) = inr (inl e)
      by false more (inr i) = elim (more i) [ inl e ↦ inl e | inr j ↦ inr (inr j) ]

  -- ---- it is in the order of times

  put_order : (x : Timed T A) (ys : List (Timed T A)) → NeverBack no_later ys → NeverBack no_later (put x ys)
  unfolding put put_before
  put_order x [] h = ((λ y i. absurd i), tt)
  put_order x (y ∷ ys) h = by (no_later x.time y.time) refl (put_order x ys h.1)
    where
      after : no_later x.time y.time ≡ true → (z : Timed T A) → Has z (y ∷ ys) → no_later x.time z.time ≡ true
      after e z (inl is) = subst (λ (w : Timed T A). no_later x.time w.time ≡ true) (sym is) e
      after e z (inr i) = linear.through x.time y.time z.time e (h.0 z i)

      before : no_later x.time y.time ≡ false → (z : Timed T A) → Has z (put x ys) → no_later y.time z.time ≡ true
      before e z i = elim (put_has z x ys i) [
        | inl is ↦ subst (λ (w : Timed T A). no_later y.time w.time ≡ true) (sym is) (linear.either x.time y.time e)
        | inr j ↦ h.0 z j
      ]

      by : (b : Bool) → no_later x.time y.time ≡ b → NeverBack no_later (put x ys) → NeverBack no_later (put_before b x y ys (put x ys))
      by true e more = (after e, h)
      by false e more = (before e, more)

  pub sorted_order : (xs : List (Timed T A)) → NeverBack no_later (sorted xs)
  unfolding sorted
  sorted_order [] = tt
  sorted_order (x ∷ xs) = put_order x (sorted xs) (sorted_order xs)

  -- ---- and what passes a test stays in its order

  module _ (test : Timed T A → Bool) where
    put_out : (x : Timed T A) (ys : List (Timed T A)) → test x ≡ false → filter test (put x ys) ≡ filter test ys
    unfolding put put_before
    put_out x [] e = ap (λ b. if b then x ∷ [] else []) e
    put_out x (y ∷ ys) e = by (no_later x.time y.time) (put_out x ys e)
      where
        by : (b : Bool) → filter test (put x ys) ≡ filter test ys → filter test (put_before b x y ys (put x ys)) ≡ filter test (y ∷ ys)
        by true more = ap (λ b. if b then x ∷ filter test (y ∷ ys) else filter test (y ∷ ys)) e
        by false more = ap (λ zs. if test y then y ∷ zs else zs) more

    put_in : (x : Timed T A) (ys : List (Timed T A)) → test x ≡ true → ((y : Timed T A) → Has y (filter test ys) → no_later x.time y.time ≡ true) → filter test (put x ys) ≡ x ∷ filter test ys
    unfolding put put_before
    put_in x [] e before = ap (λ b. if b then x ∷ [] else []) e
    put_in x (y ∷ ys) e before = by (no_later x.time y.time) refl (test y) refl (put_in x ys e) before
      where
        by : (b : Bool) → no_later x.time y.time ≡ b → (p : Bool) → test y ≡ p → (((z : Timed T A) → Has z (filter test ys) → no_later x.time z.time ≡ true) → filter test (put x ys) ≡ x ∷ filter test ys) → ((z : Timed T A) → Has z (if p then y ∷ filter test ys else filter test ys) → no_later x.time z.time ≡ true)
            → filter test (put_before b x y ys (put x ys)) ≡ x ∷ (if p then y ∷ filter test ys else filter test ys)
        by true f p g more h = ap (λ b. if b then x ∷ filter test (y ∷ ys) else filter test (y ∷ ys)) e ∙ ap (λ b. x ∷ (if b then y ∷ filter test ys else filter test ys)) g
        by false f true g more h = absurd (let q : false ≡ true = sym f ∙ h y (inl refl) in cc)
        by false f false g more h = ap (λ b. if b then y ∷ filter test (put x ys) else filter test (put x ys)) g ∙ more h

    pub sorted_filter : (xs : List (Timed T A)) → NeverBack no_later (filter test xs) → filter test (sorted xs) ≡ filter test xs
    unfolding sorted
    sorted_filter [] h = refl
    sorted_filter (x ∷ xs) h = by (test x) refl (sorted_filter xs) h
      where
        by : (b : Bool) → test x ≡ b → (NeverBack no_later (filter test xs) → filter test (sorted xs) ≡ filter test xs) → NeverBack no_later (if b then x ∷ filter test xs else filter test xs) → filter test (put x (sorted xs)) ≡ (if b then x ∷ filter test xs else filter test xs)
        by true e more k =
            let same : filter test (sorted xs) ≡ filter test xs = more k.1 in
            put_in x (sorted xs) e (λ y i. k.0 y (subst (Has y) same i)) ∙ ap (λ zs. x ∷ zs) same
        by false e more k = put_out x (sorted xs) e ∙ more k
