-- Lists of providers that differ stay such lists.
use Rattle.std.proofs.Common.{◌≡◌, ◌+◌, ◌≤◌, ◌<◌, Bool, true, false, cond, List, [], ◌∷◌, ◌++◌, length, refl, sym, ap, ◌∙◌, arith, length-append}
use Rattle.std.specs.Prelude.{not, ◌||◌, ◌&&◌, IsTrue, filter}
use Rattle.std.proofs.lemmas.Bool.Decides.{nat_tests}
use Rattle.std.proofs.lemmas.List.Folds.{list_any-append}
use Rattle.rsct_packet.specs.declared.ids.ProviderId.{ProviderId}
use Rattle.rsct_packet.specs.Providers.{same_provider, among, none_among, without, without_all, differ, AreProviders}

or_false : (a b : Bool) → (a || b) ≡ false → (a ≡ false) × (b ≡ false)
or_false true b e = absurd cc
or_false false b e = (refl, e)

and_true : (a b : Bool) → IsTrue (a && b) → IsTrue a × IsTrue b
and_true true b h = (refl, h)
and_true false b h = absurd cc

not_true : (b : Bool) → IsTrue (not b) → b ≡ false
not_true true h = absurd cc
not_true false h = refl

both_true : (a b : Bool) → IsTrue a → IsTrue b → IsTrue (a && b)
both_true true b g h = h
both_true false b g h = absurd cc

not_of_false : (b : Bool) → b ≡ false → IsTrue (not b)
not_of_false true e = absurd cc
not_of_false false e = refl

among-filter : (f : ProviderId → Bool) (xs : List ProviderId) (q : ProviderId) → among xs q ≡ false → among (filter f xs) q ≡ false
among-filter f [] q h = refl
among-filter f (x ∷ xs) q h =
    let parts = or_false (same_provider x q) (among xs q) h in
    elim (f x) as (λ b. among (cond b (x ∷ filter f xs) (filter f xs)) q ≡ false) [
      | true ↦ rw parts.0 (among-filter f xs q parts.1)
      | false ↦ among-filter f xs q parts.1
    ]

pub filter_differs : (f : ProviderId → Bool) (xs : List ProviderId) → IsTrue (differ xs) → IsTrue (differ (filter f xs))
filter_differs f [] h = refl
filter_differs f (x ∷ xs) h =
    let parts = and_true (not (among xs x)) (differ xs) h in
    elim (f x) as (λ b. IsTrue (differ (cond b (x ∷ filter f xs) (filter f xs)))) [
      | true ↦ both_true (not (among (filter f xs) x)) (differ (filter f xs)) (not_of_false _ (among-filter f xs x (not_true _ parts.0))) (filter_differs f xs parts.1)
      | false ↦ filter_differs f xs parts.1
    ]

length-filter_le : (f : ProviderId → Bool) (xs : List ProviderId) → length (filter f xs) ≤ length xs
length-filter_le f [] = omega arith
length-filter_le f (x ∷ xs) =
    let h = length-filter_le f xs in
    elim (f x) as (λ b. length (cond b (x ∷ filter f xs) (filter f xs)) ≤ length (x ∷ xs)) [
      | true ↦ omega arith
      | false ↦ omega arith
    ]

pub AreProviders-without : (xs : List ProviderId) (p : ProviderId) → AreProviders xs → AreProviders (without xs p)
AreProviders-without xs p h = record {
  few = omega (arith, length-filter_le (λ q. not (same_provider q p)) xs, h.few);
  apart = filter_differs (λ q. not (same_provider q p)) xs h.apart;
}

pub AreProviders-without_all : (xs ps : List ProviderId) → AreProviders xs → AreProviders (without_all xs ps)
AreProviders-without_all xs ps h = record {
  few = omega (arith, length-filter_le (λ q. not (among ps q)) xs, h.few);
  apart = filter_differs (λ q. not (among ps q)) xs h.apart;
}

same_sym : (a b : ProviderId) → same_provider a b ≡ same_provider b a
same_sym a b = grind arith

among-append : (xs ys : List ProviderId) (q : ProviderId) → among xs q ≡ false → among ys q ≡ false → among (xs ++ ys) q ≡ false
among-append [] ys q g h = h
among-append (x ∷ xs) ys q g h = let parts = or_false (same_provider x q) (among xs q) g in rw parts.0 (among-append xs ys q parts.1 h)

-- none of ps is x ∷ xs: x is none of ps, and none is among xs
head_apart : (x : ProviderId) (xs ps : List ProviderId) → IsTrue (none_among (x ∷ xs) ps) → (among ps x ≡ false) × IsTrue (none_among xs ps)
head_apart x xs [] h = (refl, refl)
head_apart x xs (p ∷ ps) h =
    let parts = and_true (not (same_provider x p || among xs p)) (none_among (x ∷ xs) ps) h in
    let here = or_false (same_provider x p) (among xs p) (not_true _ parts.0) in
    let there = head_apart x xs ps parts.1 in
    (rw (same_sym p x, here.0) there.0, both_true (not (among xs p)) (none_among xs ps) (not_of_false _ here.1) there.1)

differ-append : (xs ps : List ProviderId) → IsTrue (differ xs) → IsTrue (differ ps) → IsTrue (none_among xs ps) → IsTrue (differ (xs ++ ps))
differ-append [] ps g h k = h
differ-append (x ∷ xs) ps g h k =
    let parts = and_true (not (among xs x)) (differ xs) g in
    let away = head_apart x xs ps k in
    both_true (not (among (xs ++ ps) x)) (differ (xs ++ ps))
    (not_of_false _ (among-append xs ps x (not_true _ parts.0) away.0))
    (differ-append xs ps parts.1 h away.1)

pub AreProviders-append : (xs ps : List ProviderId) → AreProviders xs → AreProviders ps → length xs + length ps ≤ 64 → IsTrue (none_among xs ps) → AreProviders (xs ++ ps)
AreProviders-append xs ps g h room k = record {
  few = omega (arith, length-append xs ps, room);
  apart = differ-append xs ps g.apart h.apart k;
}

pub AreProviders-push : (xs : List ProviderId) (p : ProviderId) → AreProviders xs → length xs < 64 → IsTrue (not (among xs p)) → AreProviders (xs ++ p ∷ [])
AreProviders-push xs p g room k = AreProviders-append xs (p ∷ []) g (record { few = omega arith; apart = refl }) (omega arith) (both_true (not (among xs p)) true k refl)

-- without some, then without others
pub without_all-append : (xs ps qs : List ProviderId) → without_all xs (ps ++ qs) ≡ without_all (without_all xs ps) qs
without_all-append [] ps qs = refl
without_all-append (x ∷ xs) ps qs =
    let h = without_all-append xs ps qs in
    rw (list_any-append (λ q. same_provider q x) ps qs)
    (elim (among ps x) as (λ b. cond (not (b || among qs x)) (x ∷ without_all xs (ps ++ qs)) (without_all xs (ps ++ qs)) ≡ without_all (cond (not b) (x ∷ without_all xs ps) (without_all xs ps)) qs) [
      | true ↦ h
      | false ↦ ap (λ (ys : List ProviderId). cond (not (among qs x)) (x ∷ ys) ys) h
    ])

same_is : (a b : ProviderId) → same_provider a b ≡ true → a ≡ b
same_is a b z = grind (arith, nat_tests)

and_none : (a : Bool) → (a && false) ≡ false
and_none true = refl
and_none false = refl

-- who is among those that are left
pub among_without : (ps xs : List ProviderId) (p : ProviderId) → among (without_all xs ps) p ≡ (among xs p && not (among ps p))
among_without ps [] p = refl
among_without ps (x ∷ xs) p = at (same_provider x p) refl (not (among ps x)) refl (among_without ps xs p)
  where
    rest : List ProviderId
    rest = without_all xs ps

    at : (b : Bool) → same_provider x p ≡ b → (t : Bool) → not (among ps x) ≡ t → among rest p ≡ (among xs p && not (among ps p)) → among (cond t (x ∷ rest) rest) p ≡ ((b || among xs p) && not (among ps p))
    at true e true q k = ap (λ z. z || among rest p) e ∙ sym (ap (λ z. not (among ps z)) (sym (same_is x p e)) ∙ q)
    at true e false q k =
        let off : not (among ps p) ≡ false = ap (λ z. not (among ps z)) (sym (same_is x p e)) ∙ q in
        k ∙ ap (λ z. among xs p && z) off ∙ and_none (among xs p) ∙ sym off
    at false e true q k = ap (λ z. z || among rest p) e ∙ k
    at false e false q k = k
