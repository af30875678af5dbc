-- Lists that begin with others.
use Rattle.std.proofs.Common.{refl, Some, ◌≤◌, ◌≡◌, ℕ, zero, suc, List, [], ◌∷◌, ◌++◌, length, drop, sym, ap, ◌∙◌, subst, arith, append_assoc}
use Rattle.std.specs.Prelude.{slice_get}
use Rattle.std.proofs.lemmas.List.{append-nil}
use Rattle.proposal_core.specs.declared.entry.Entry.{Entry}

pub record IsPrefix (xs ys : List Entry) : Type 0 where
  pub rest : List Entry
  pub is : xs ++ rest ≡ ys

pub prefix_refl : (xs : List Entry) → IsPrefix xs xs
prefix_refl xs = record { rest = []; is = append-nil xs }

pub prefix_nil : (xs : List Entry) → IsPrefix [] xs
prefix_nil xs = record { rest = xs; is = refl }

pub prefix_trans : {xs ys zs : List Entry} → IsPrefix xs ys → IsPrefix ys zs → IsPrefix xs zs
prefix_trans {xs = xs} p q =
    record { rest = p.rest ++ q.rest; is = sym (append_assoc xs p.rest q.rest) ∙ ap (λ l. l ++ q.rest) p.is ∙ q.is }

pub prefix_push : (xs : List Entry) (e : Entry) → IsPrefix xs (xs ++ e ∷ [])
prefix_push xs e = record { rest = e ∷ []; is = refl }

-- what comes after a list
pub at_end : (xs : List Entry) (e : Entry) (es : List Entry) → slice_get (xs ++ e ∷ es) (length xs) ≡ Some e
at_end [] e es = refl
at_end (x ∷ xs) e es = at_end xs e es

pub prefix_get : (xs ys : List Entry) → IsPrefix xs ys → (i : ℕ) (e : Entry) → slice_get xs i ≡ Some e → slice_get ys i ≡ Some e
prefix_get xs ys p i e h = subst (λ l. slice_get l i ≡ Some e) p.is (front xs p.rest i e h)
  where
    front : (xs ys : List Entry) (i : ℕ) (e : Entry) → slice_get xs i ≡ Some e → slice_get (xs ++ ys) i ≡ Some e
    front [] ys i e h = absurd (cc)
    front (x ∷ xs) ys zero e h = h
    front (x ∷ xs) ys (suc i) e h = front xs ys i e h

-- the entry that comes next
pub prefix_next : (xs ys : List Entry) (e : Entry) → IsPrefix xs ys → slice_get ys (length xs) ≡ Some e → IsPrefix (xs ++ e ∷ []) ys
prefix_next xs ys e p h = next xs p.rest ys e p.is h
  where
    next : (xs rest ys : List Entry) (e : Entry) → xs ++ rest ≡ ys → slice_get ys (length xs) ≡ Some e → IsPrefix (xs ++ e ∷ []) ys
    next [] [] ys e q h = absurd (cc)
    next [] (r ∷ rs) [] e q h = absurd (cc)
    next [] (r ∷ rs) (y ∷ ys) e q h = let same : e ≡ y = cc in let tail : rs ≡ ys = cc in record { rest = ys; is = ap (λ z. z ∷ ys) same }
    next (x ∷ xs) rest [] e q h = absurd (cc)
    next (x ∷ xs) rest (y ∷ ys) e q h =
        let tail : xs ++ rest ≡ ys = cc in
        let head : x ≡ y = cc in
        let r = next xs rest ys e tail h in
        record { rest = r.rest; is = ap (λ l. x ∷ l) r.is ∙ ap (λ z. z ∷ ys) head }

-- of two prefixes of one list the one that is no longer is a prefix of the other
pub prefix_both : (xs ys zs : List Entry) → IsPrefix xs zs → IsPrefix ys zs → length xs ≤ length ys → IsPrefix xs ys
prefix_both xs ys zs p q h = both xs ys p.rest q.rest (p.is ∙ sym q.is) h
  where
    both : (xs ys r s : List Entry) → xs ++ r ≡ ys ++ s → length xs ≤ length ys → IsPrefix xs ys
    both [] ys r s e h = prefix_nil ys
    both (x ∷ xs) [] r s e h = absurd (omega arith)
    both (x ∷ xs) (y ∷ ys) r s e h =
        let tail : xs ++ r ≡ ys ++ s = cc in
        let head : x ≡ y = cc in
        let le : length xs ≤ length ys = omega arith in
        let q = both xs ys r s tail le in
        record { rest = q.rest; is = ap (λ l. x ∷ l) q.is ∙ ap (λ z. z ∷ ys) head }

-- what a list lacks of another that it begins
pub caught_up : (xs ys : List Entry) → IsPrefix xs ys → xs ++ drop (length xs) ys ≡ ys
caught_up xs ys p = up xs p.rest ys p.is
  where
    up : (xs rest ys : List Entry) → xs ++ rest ≡ ys → xs ++ drop (length xs) ys ≡ ys
    up [] rest ys e = refl
    up (x ∷ xs) rest [] e = absurd (cc)
    up (x ∷ xs) rest (y ∷ ys) e =
        let tail : xs ++ rest ≡ ys = cc in
        let head : x ≡ y = cc in
        ap (λ l. x ∷ l) (up xs rest ys tail) ∙ ap (λ z. z ∷ ys) head
