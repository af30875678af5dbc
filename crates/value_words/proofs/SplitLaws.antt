-- Cutting at a mark gives the first piece.
use Rattle.std.proofs.Common.{◌≡◌, ℕ, suc, ◌+◌, ◌-◌, ◌<◌, ◌≤◌, ◌==◌, nat_lt, Bool, true, false, not, List, [], ◌∷◌, length, take, drop, length-drop, Some, None, refl, subst, arith, cond, filter, ap, ◌∙◌}
use Rattle.std.specs.List.{position, position_or_len}
use Rattle.std.proofs.Math.Seq.{take-length}
use Rattle.std.proofs.lemmas.Bool.Decides.{nat_tests}
use Rattle.rsct_packet.specs.Lists.{is_empty}
use Rattle.value_words.specs.Words.{split_on, push_head, words_in}

cut_head : (t : Bool) (x n mark : ℕ) (xs : List ℕ) → (n < length xs → split_on mark xs ≡ take n xs ∷ split_on mark (drop (n + 1) xs)) → cond (not t) (1 + n) 0 < suc (length xs)
    → elim t [ true ↦ [] ∷ split_on mark xs | false ↦ push_head x (split_on mark xs) ] ≡ take (cond (not t) (1 + n) 0) (x ∷ xs) ∷ split_on mark (drop (cond (not t) (1 + n) 0 + 1) (x ∷ xs))
unfolding push_head
cut_head true x n mark xs r h = refl
cut_head false x n mark xs r h =
    let below : n < length xs = omega arith in
    let a : 1 + n ≡ suc n = omega arith in
    let b : 1 + n + 1 ≡ suc (n + 1) = omega arith in
    rw (r below, b, a) refl

-- with the first mark at its place
cut_pieces : (mark : ℕ) (b : List ℕ) → position_or_len (λ x. x == mark) b < length b → split_on mark b ≡ take (position_or_len (λ x. x == mark) b) b ∷ split_on mark (drop (position_or_len (λ x. x == mark) b + 1) b)
unfolding split_on
cut_pieces mark [] h = absurd (omega arith)
cut_pieces mark (x ∷ xs) h = cut_head (x == mark) x (position_or_len (λ y. y == mark) xs) mark xs (cut_pieces mark xs) h

whole_head : (t : Bool) (x n mark : ℕ) (xs : List ℕ) → (length xs ≤ n → split_on mark xs ≡ xs ∷ []) → suc (length xs) ≤ cond (not t) (1 + n) 0
    → elim t [ true ↦ [] ∷ split_on mark xs | false ↦ push_head x (split_on mark xs) ] ≡ (x ∷ xs) ∷ []
unfolding push_head
whole_head true x n mark xs r h = absurd (omega arith)
whole_head false x n mark xs r h = let below : length xs ≤ n = omega arith in rw (r below) refl

whole_piece : (mark : ℕ) (b : List ℕ) → length b ≤ position_or_len (λ x. x == mark) b → split_on mark b ≡ b ∷ []
unfolding split_on
whole_piece mark [] h = refl
whole_piece mark (x ∷ xs) h = whole_head (x == mark) x (position_or_len (λ y. y == mark) xs) mark xs (whole_piece mark xs) h

pub found_place : (t : Bool) (n i : ℕ) → cond t (Some n) None ≡ Some i → (t ≡ true) × (n ≡ i)
found_place true n i e = (refl, cc)
found_place false n i e = absurd cc

pub no_place : (t : Bool) (n : ℕ) → cond t (Some n) None ≡ None → t ≡ false
no_place true n e = absurd cc
no_place false n e = refl

-- what a slice `&xs[i..]` is
pub from_place : (i : ℕ) (xs : List ℕ) → take (length xs - i) (drop i xs) ≡ drop i xs
from_place i xs = rw (← length-drop i xs) (take-length (drop i xs))

pub cut_found : (mark i : ℕ) (b : List ℕ) → position (λ x. x == mark) b ≡ Some i → split_on mark b ≡ take i b ∷ split_on mark (take (length b - (i + 1)) (drop (i + 1) b))
cut_found mark i b e =
    let p = found_place (nat_lt (position_or_len (λ x. x == mark) b) (length b)) (position_or_len (λ x. x == mark) b) i e in
    let below : position_or_len (λ x. x == mark) b < length b = grind (arith, nat_tests, p.0) in
    rw (from_place (i + 1) b) (subst (λ (k : ℕ). split_on mark b ≡ take k b ∷ split_on mark (drop (k + 1) b)) p.1 (cut_pieces mark b below))

pub cut_missing : (mark : ℕ) (b : List ℕ) → position (λ x. x == mark) b ≡ None → split_on mark b ≡ b ∷ []
cut_missing mark b e =
    let p = no_place (nat_lt (position_or_len (λ x. x == mark) b) (length b)) (position_or_len (λ x. x == mark) b) e in
    let past : length b ≤ position_or_len (λ x. x == mark) b = grind (arith, nat_tests, p) in
    whole_piece mark b past

push_fills : (x : ℕ) (ps : List (List ℕ)) → is_empty (push_head x ps) ≡ false
unfolding push_head
push_fills x [] = refl
push_fills x (p ∷ ps) = refl

some_head : (t : Bool) (x : ℕ) (ps : List (List ℕ)) → is_empty (elim t [ true ↦ [] ∷ ps | false ↦ push_head x ps ]) ≡ false
some_head true x ps = refl
some_head false x ps = push_fills x ps

pub some_piece : (mark : ℕ) (b : List ℕ) → is_empty (split_on mark b) ≡ false
unfolding split_on
some_piece mark [] = refl
some_piece mark (x ∷ xs) = some_head (x == mark) x (split_on mark xs)

one_word : (b : List ℕ) → is_empty b ≡ false → filter (λ w. not (is_empty w)) (b ∷ []) ≡ b ∷ []
one_word [] e = absurd cc
one_word (x ∷ xs) e = refl

-- the last word of a line
pub last_word : (b e : List ℕ) → split_on 32 b ≡ b ∷ [] → is_empty b ≡ false → e ≡ [] → words_in b ≡ b ∷ words_in e
unfolding words_in split_on
last_word b [] s n z = ap (λ ps. filter (λ w. not (is_empty w)) ps) s ∙ one_word b n
last_word b (x ∷ xs) s n z = absurd cc
