-- Pieces between marks, and numbers as words.
use Rattle.std.proofs.Common.{◌≡◌, ◌⊎◌, ℕ, zero, suc, ◌+◌, ◌-◌, ◌*◌, ◌/◌, ◌%◌, ◌<◌, ◌≤◌, ◌^◌, Bool, true, false, List, [], ◌∷◌, ◌++◌, length, get_or, Option, Some, None, refl, sym, ◌∙◌, ap, subst, arith, append_assoc}
use Rattle.std.specs.Prelude.{◌==◌, ◌&&◌, not, nat_le, decimal}
use Rattle.std.specs.List.{list_all}
use Rattle.std.proofs.Math.Nat.{div-add-mod}
use Rattle.std.proofs.lemmas.Bool.Decides.{nat_tests}
use Rattle.std.proofs.lemmas.Fmt.{decimal_by_steps, decimal_digit, first_decimal, length-decimal-le, decimal_nonempty}
use Rattle.std.proofs.lemmas.List.Folds.{list_all-append}
use Rattle.rsct_packet.specs.Lists.{is_empty}
use Rattle.word_laws.specs.Values.{spaced}
use Rattle.value_words.specs.Words.{split_on, push_head, is_digit, number_from, has_needless_zero, in_range, when_true, number_word}

-- ---- pieces

-- the mark is no byte of these
abbrev pub Lacks : ℕ → List ℕ → Type 0
Lacks c [] = Unit {0}
Lacks c (x ∷ xs) = ((x == c) ≡ false) × Lacks c xs

pub lacks_both : (c : ℕ) (a b : List ℕ) → Lacks c a → Lacks c b → Lacks c (a ++ b)
lacks_both c [] b h k = k
lacks_both c (x ∷ a) b h k = (h.0, lacks_both c a b h.1 k)

push_if : (t : Bool) (x : ℕ) (ps : List (List ℕ)) → t ≡ false → elim t [ true ↦ [] ∷ ps | false ↦ push_head x ps ] ≡ push_head x ps
push_if true x ps e = absurd cc
push_if false x ps e = refl

ends_if : (t : Bool) (x : ℕ) (ps : List (List ℕ)) → t ≡ true → elim t [ true ↦ [] ∷ ps | false ↦ push_head x ps ] ≡ [] ∷ ps
ends_if true x ps e = refl
ends_if false x ps e = absurd cc

pub split_last : (c : ℕ) (w : List ℕ) → Lacks c w → split_on c w ≡ w ∷ []
unfolding split_on push_head
split_last c [] h = refl
split_last c (x ∷ w) h = push_if (x == c) x (split_on c w) h.0 ∙ ap (push_head x) (split_last c w h.1)

pub split_first : (c : ℕ) (w rest : List ℕ) → Lacks c w → split_on c (w ++ c ∷ rest) ≡ w ∷ split_on c rest
unfolding split_on push_head
split_first c [] rest h = ends_if (c == c) c (split_on c rest) (grind (arith, nat_tests))
split_first c (x ∷ w) rest h = push_if (x == c) x (split_on c (w ++ c ∷ rest)) h.0 ∙ ap (push_head x) (split_first c w rest h.1)

abbrev pub EachLacks : ℕ → List (List ℕ) → Type 0
EachLacks c [] = Unit {0}
EachLacks c (w ∷ ws) = Lacks c w × EachLacks c ws

-- words with a space between each two are cut into these words
pub split_spaced : (w : List ℕ) (ws : List (List ℕ)) → EachLacks 32 (w ∷ ws) → split_on 32 (spaced (w ∷ ws)) ≡ w ∷ ws
unfolding spaced
split_spaced w [] h = split_last 32 w h.0
split_spaced w (v ∷ ws) h = split_first 32 w (spaced (v ∷ ws)) h.0 ∙ ap (λ z. w ∷ z) (split_spaced v ws h.1)

-- ---- numbers

-- a mark that is no digit
abbrev pub IsNoDigit : ℕ → Type 0
IsNoDigit c = (c < 48) ⊎ (57 < c)

pub decimal_lacks : (c n : ℕ) → IsNoDigit c → n < 2 ^ 64 → Lacks c (decimal n)
decimal_lacks c n h small = decimal_by_steps (λ n w. Lacks c w) one more n small
  where
    one : (n : ℕ) → n < 10 → Lacks c ((48 + n) ∷ [])
    one n k = (grind (arith, nat_tests), tt)

    more : (n : ℕ) (ds : List ℕ) → 10 ≤ n → Lacks c ds → Lacks c (ds ++ ((48 + n % 10) ∷ []))
    more n ds k l = lacks_both c ds ((48 + n % 10) ∷ []) l (one (n % 10) (omega arith))

from_last : (v d : ℕ) (ds : List ℕ) → number_from v (ds ++ d ∷ []) ≡ 10 * number_from v ds + (d - 48)
unfolding number_from
from_last v d [] = refl
from_last v d (x ∷ ds) = from_last (10 * v + (x - 48)) d ds

decimal_value : (n : ℕ) → n < 2 ^ 64 → number_from 0 (decimal n) ≡ n
unfolding number_from
decimal_value n small = decimal_by_steps (λ n w. number_from 0 w ≡ n) one more n small
  where
    one : (n : ℕ) → n < 10 → number_from 0 ((48 + n) ∷ []) ≡ n
    one n k = omega arith

    more : (n : ℕ) (ds : List ℕ) → 10 ≤ n → number_from 0 ds ≡ n / 10 → number_from 0 (ds ++ ((48 + n % 10) ∷ [])) ≡ n
    more n ds k e = let a = from_last 0 (48 + n % 10) ds in let b = div-add-mod n 10 in omega (arith, a, b, e)

decimal_digits : (n : ℕ) → n < 2 ^ 64 → list_all is_digit (decimal n) ≡ true
unfolding is_digit
decimal_digits n small = decimal_by_steps (λ n w. list_all is_digit w ≡ true) one more n small
  where
    one : (n : ℕ) → n < 10 → list_all is_digit ((48 + n) ∷ []) ≡ true
    one n k = grind (arith, nat_tests)

    more : (n : ℕ) (ds : List ℕ) → 10 ≤ n → list_all is_digit ds ≡ true → list_all is_digit (ds ++ ((48 + n % 10) ∷ [])) ≡ true
    more n ds k e = list_all-append is_digit ds ((48 + n % 10) ∷ []) ∙ rw e (one (n % 10) (omega arith))

no_zero : (w : List ℕ) → 48 < get_or w 0 0 → has_needless_zero w ≡ false
unfolding has_needless_zero
no_zero [] h = refl
no_zero (b ∷ []) h = refl
no_zero (b ∷ c ∷ bs) h = grind (arith, nat_tests)

decimal_no_zero : (n : ℕ) → n < 2 ^ 64 → has_needless_zero (decimal n) ≡ false
unfolding has_needless_zero
decimal_no_zero zero small = rw (decimal_digit 0 (omega arith)) refl
decimal_no_zero (suc n) small = no_zero (decimal (suc n)) (first_decimal (suc n) (omega arith) small)

not_empty : (w : List ℕ) → 0 < length w → is_empty w ≡ false
not_empty [] h = absurd (omega arith)
not_empty (x ∷ w) h = refl

all_pass : (a b c d : Bool) → a ≡ false → b ≡ true → c ≡ false → d ≡ true → (not a && (b && (not c && d))) ≡ true
all_pass a b c d e f g h = rw (e, f, g, h) refl

ranged : (low high n : ℕ) → nat_le low n ≡ true → nat_le n high ≡ true → in_range low high n ≡ Some n
unfolding in_range when_true
ranged low high n a b = rw (a, b) refl

read_if : (t : Bool) (low high k n : ℕ) → t ≡ true → k ≡ n → in_range low high n ≡ Some n → elim t [ true ↦ in_range low high k | false ↦ None ] ≡ Some n
read_if true low high k n e q h = ap (in_range low high) q ∙ h
read_if false low high k n e q h = absurd cc

-- digits like these are the word of a number
digits_read : (low high n : ℕ) (w : List ℕ) → is_empty w ≡ false → list_all is_digit w ≡ true → has_needless_zero w ≡ false → nat_le (length w) 20 ≡ true → number_from 0 w ≡ n → nat_le low n ≡ true → nat_le n high ≡ true → number_word low high w ≡ Some n
unfolding number_word
digits_read low high n w a b c d e f g =
    read_if (not (is_empty w) && (list_all is_digit w && (not (has_needless_zero w) && nat_le (length w) 20))) low high (number_from 0 w) n (all_pass (is_empty w) (list_all is_digit w) (has_needless_zero w) (nat_le (length w) 20) a b c d) e (ranged low high n f g)

-- a number is read as it is written
pub number_read : (low high n : ℕ) → low ≤ n → n ≤ high → high < 2 ^ 64 → number_word low high (decimal n) ≡ Some n
number_read low high n above below wide =
    let small : n < 2 ^ 64 = omega arith in
    digits_read low high n (decimal n) (not_empty (decimal n) (decimal_nonempty n small)) (decimal_digits n small) (decimal_no_zero n small) (short n small) (decimal_value n small) (grind (arith, nat_tests)) (grind (arith, nat_tests))
  where
    few : (k : ℕ) → k ≤ 20 → nat_le k 20 ≡ true
    few k h = grind (arith, nat_tests)

    short : (n : ℕ) → n < 2 ^ 64 → nat_le (length (decimal n)) 20 ≡ true
    short n h = few (length (decimal n)) (length-decimal-le 20 n (omega arith) (omega arith) h)
