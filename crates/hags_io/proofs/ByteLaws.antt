-- Fronts of bytes, taken and sent.
use Rattle.std.proofs.Common.{◌≡◌, ℕ, zero, suc, ◌+◌, ◌-◌, ◌≤◌, ◌<◌, min, List, [], ◌∷◌, ◌++◌, length, take, drop, Option, Some, None, append_assoc, append-nil, refl, sym, ◌∙◌, ap, subst, arith, add-zero, length-drop}
use Rattle.std.proofs.lemmas.List.{take-append-drop}
use Rattle.std.proofs.Math.Seq.{take-append_seam, take-length}
use Rattle.std.specs.Io.KnownBytes.{Appends, Consumes, IsAtEnd, Keeps}
use Rattle.std.proofs.KnownBytes.{Appends-trans, Appends-nil, Appends-kept}
use Rattle.hags_io.specs.Edges.{GrowsByFront}

pub take_add : (i n : ℕ) (xs : List ℕ) → take i xs ++ take n (drop i xs) ≡ take (i + n) xs
take_add zero n xs = let e : n ≡ zero + n = omega arith in ap (λ k. take k xs) e
take_add (suc i) zero [] = rw add-zero refl
take_add (suc i) (suc n) [] = let e : suc i + suc n ≡ suc (i + suc n) = omega arith in rw e refl
take_add (suc i) n (x ∷ xs) = let e : suc i + n ≡ suc (i + n) = omega arith in rw e (ap (λ ys. x ∷ ys) (take_add i n xs))

pub drop_add : (i n : ℕ) (xs : List ℕ) → drop n (drop i xs) ≡ drop (i + n) xs
drop_add zero n xs = let e : n ≡ zero + n = omega arith in ap (λ k. drop k xs) e
drop_add (suc i) zero [] = rw add-zero refl
drop_add (suc i) (suc n) [] = let e : suc i + suc n ≡ suc (i + suc n) = omega arith in rw e refl
drop_add (suc i) n (x ∷ xs) = let e : suc i + n ≡ suc (i + n) = omega arith in rw e (drop_add i n xs)

-- what is left, as its front and what is left then
pub taken_at : (i n : ℕ) (xs : List ℕ) → take n (drop i xs) ++ drop (i + n) xs ≡ drop i xs
taken_at i n xs = rw (← drop_add i n xs) (take-append-drop n (drop i xs))

pub take_at_seam : (n : ℕ) (xs ys : List ℕ) → length xs ≡ n → take n (xs ++ ys) ≡ xs
take_at_seam n xs ys e = subst (λ (k : ℕ). take k (xs ++ ys) ≡ xs) e (take-append_seam xs ys)

-- what a slice `&xs[i..]` is
pub from_place : (i : ℕ) (xs : List ℕ) → take (length xs - i) (drop i xs) ≡ drop i xs
from_place i xs = rw (← length-drop i xs) (take-length (drop i xs))

pub sent_on : (a b c : Option (List ℕ)) (i n : ℕ) (xs : List ℕ) → Appends a b (take i xs) → Appends b c (take n (take (length xs - i) (drop i xs))) → Appends a c (take (i + n) xs)
sent_on a b c i n xs p q =
    let r : Appends b c (take n (drop i xs)) = subst (λ (ys : List ℕ). Appends b c (take n ys)) (from_place i xs) q in
    subst (λ (ys : List ℕ). Appends a c ys) (take_add i n xs) (Appends-trans a b c _ _ p r)

pub all_sent : (a b : Option (List ℕ)) (i : ℕ) (xs : List ℕ) → i ≤ length xs → length xs ≤ i → Appends a b (take i xs) → Appends a b xs
all_sent a b i xs p q h =
    let e : i ≡ length xs = omega arith in
    let whole : take i xs ≡ xs = rw e (take-length xs) in
    subst (λ (ys : List ℕ). Appends a b ys) whole h

pub nothing_left : (xs : List ℕ) (n : ℕ) → min (length xs) n ≡ 0 → 0 < n → xs ≡ []
nothing_left [] n e h = refl
nothing_left (x ∷ xs) zero e h = absurd (omega arith)
nothing_left (x ∷ xs) (suc n) e h = absurd (omega arith)

-- a front of the text: nothing, a part of it, or all
pub none_grew : (a b : Option (List ℕ)) (text : List ℕ) → Keeps a b → GrowsByFront a b text
none_grew a b text k = record { front = []; back = text; whole = refl; grows = Appends-kept a a b [] (Appends-nil a) k }

pub part_grew : (a b : Option (List ℕ)) (n : ℕ) (text : List ℕ) → Appends a b (take n text) → GrowsByFront a b text
part_grew a b n text h = record { front = take n text; back = drop n text; whole = take-append-drop n text; grows = h }

-- a write that took nothing, and one that failed
pub stopped : (a b c : Option (List ℕ)) (i n : ℕ) (xs ys : List ℕ) → n ≡ 0 → Appends a b (take i xs) → Appends b c (take n ys) → GrowsByFront a c xs
stopped a b c i n xs ys e p q =
    let r : Appends b c [] = subst (λ (k : ℕ). Appends b c (take k ys)) e q in
    part_grew a c i xs (subst (λ (zs : List ℕ). Appends a c zs) (append-nil (take i xs)) (Appends-trans a b c _ _ p r))

pub broken : (a b c : Option (List ℕ)) (i : ℕ) (xs : List ℕ) → Appends a b (take i xs) → Keeps b c → GrowsByFront a c xs
broken a b c i xs p k = part_grew a c i xs (Appends-kept a b c _ p k)

pub front_grew : (a b : Option (List ℕ)) (front back text : List ℕ) → front ++ back ≡ text → Appends a b front → GrowsByFront a b text
front_grew a b front back text e h = record { front = front; back = back; whole = e; grows = h }

-- after a front, a front of what comes next
pub front_on : (a b c : Option (List ℕ)) (done next rest text : List ℕ) → done ++ (next ++ rest) ≡ text → Appends a b done → GrowsByFront b c next → GrowsByFront a c text
front_on a b c done next rest text e h k = record {
  front = done ++ k.front;
  back = k.back ++ rest;
  whole = let r : (done ++ k.front) ++ (k.back ++ rest) ≡ done ++ (next ++ rest) = rw (append_assoc, ← append_assoc k.front k.back rest, k.whole) refl in r ∙ e;
  grows = Appends-trans a b c _ _ h k.grows;
}

-- nothing was left before either
pub end_before : (a b : Option (List ℕ)) (n : ℕ) (buf : List ℕ) → n ≡ 0 → Consumes a b (take n buf) → IsAtEnd b → IsAtEnd a × IsAtEnd b × Keeps a b
end_before None b n buf e c h = (tt, h, tt)
end_before (Some xs) None n buf e c h = absurd c
end_before (Some xs) (Some ys) n buf e c h =
    let r : xs ≡ ys = subst (λ (k : ℕ). xs ≡ take k buf ++ ys) e c in
    (r ∙ h, h, sym r)
