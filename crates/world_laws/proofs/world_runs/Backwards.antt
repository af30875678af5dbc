-- Lists that grow at their front, in the order of growth.
use Rattle.std.proofs.Common.{◌≡◌, ◌-◌, List, [], ◌∷◌, ◌++◌, length, take, refl, sym, ap, ◌∙◌, arith}
use Rattle.std.proofs.Math.Seq.{take-append_seam}
use Rattle.std.proofs.lemmas.List.{length-append}
use Rattle.rsct_packet.specs.Lists.{reverse_onto}

-- some and then more
pub reversed : {A : Type 0} (xs ys zs : List A) → reverse_onto ys (reverse_onto xs zs) ≡ reverse_onto (xs ++ ys) zs
reversed [] ys zs = refl
reversed (x ∷ xs) ys zs = reversed xs ys (x ∷ zs)

-- back again
pub reversed_back : {A : Type 0} (xs ys : List A) → reverse_onto (reverse_onto xs ys) [] ≡ reverse_onto ys xs
reversed_back [] ys = refl
reversed_back (x ∷ xs) ys = reversed_back xs (x ∷ ys)

onto-append : {A : Type 0} (xs ys zs : List A) → reverse_onto xs ys ++ zs ≡ reverse_onto xs (ys ++ zs)
onto-append [] ys zs = refl
onto-append (x ∷ xs) ys zs = onto-append xs (x ∷ ys) zs

-- what was added since
pub added_since : {A : Type 0} (xs ys : List A) → reverse_onto (take (length (reverse_onto xs ys) - length ys) (reverse_onto xs ys)) [] ≡ xs
added_since {A} xs ys =
    let front : List A = reverse_onto xs [] in
    let whole : reverse_onto xs ys ≡ front ++ ys = sym (onto-append xs [] ys) in
    let count : length (front ++ ys) - length ys ≡ length front = omega (arith, length-append front ys) in
    ap (λ zs. reverse_onto (take (length zs - length ys) zs) []) whole
    ∙ (ap (λ k. reverse_onto (take k (front ++ ys)) []) count ∙ (ap (λ zs. reverse_onto zs []) (take-append_seam front ys) ∙ reversed_back xs []))
