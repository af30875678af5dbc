-- Lists that are turned round.
use Rattle.std.proofs.Common.{◌≡◌, List, [], ◌∷◌, ◌++◌, refl, sym, ap, ◌∙◌, append_assoc}
use Rattle.std.specs.Prelude.{reverse}
use Rattle.std.proofs.lemmas.List.{reverse-append, reverse-reverse, append-nil}
use Rattle.rsct_packet.specs.Lists.{reverse_onto}

pub onto_is : {A : Type 0} (xs ys : List A) → reverse_onto xs ys ≡ reverse xs ++ ys
onto_is [] ys = refl
onto_is (x ∷ xs) ys = onto_is xs (x ∷ ys) ∙ sym (append_assoc (reverse xs) (x ∷ []) ys) ∙ ap (λ zs. zs ++ ys) (sym (reverse-append (x ∷ []) xs))

pub onto_none : {A : Type 0} (xs : List A) → reverse_onto xs [] ≡ reverse xs
onto_none xs = onto_is xs [] ∙ append-nil (reverse xs)

-- back again
pub back_again : {A : Type 0} (xs : List A) → reverse (reverse_onto xs []) ≡ xs
back_again xs = ap reverse (onto_none xs) ∙ reverse-reverse xs

pub onto_more : {A : Type 0} (xs ys zs : List A) → reverse_onto xs ys ++ zs ≡ reverse_onto xs (ys ++ zs)
onto_more [] ys zs = refl
onto_more (x ∷ xs) ys zs = onto_more xs (x ∷ ys) zs
