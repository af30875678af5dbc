-- What std reads of digits is the number that they spell.
use Rattle.std.proofs.Common.{◌≡◌, ℕ, ◌<◌, ◌≤◌, ◌^◌, Bool, true, false, not, ◌&&◌, List, [], ◌∷◌, length, Option, Some, None, Ok, Err, refl, sym, ◌∙◌, ap, arith, rules, nat_le, if◌then◌else◌}
use Rattle.std.specs.List.{list_all}
use Rattle.std.specs.Char.{is_ascii_digit}
use Rattle.std.specs.Str.Parse.{digits_value, ParsesUnsigned}
use Rattle.std.proofs.lemmas.Str.Parse.{IsDigitsTest, IsNumeralModel, numerals_by_value, parse_digits}
use Rattle.std.proofs.lemmas.Bool.Decides.{nat_tests}
use Rattle.hags_words.specs.Numbers.{is_empty, has_needless_zero, is_number, in_range, number_of}

digits_test : IsDigitsTest (λ ds. list_all is_ascii_digit ds ≡ true)
digits_test = search rules

own : IsNumeralModel (λ ds. list_all is_ascii_digit ds ≡ true) (digits_value 10)
own = numerals_by_value _ digits_test

number_by : (b : Bool) (x : Option ℕ) → b ≡ true → (if b then x else None) ≡ x
number_by true x e = refl
number_by false x e = absurd cc

and_parts : (a b c : Bool) → (a && (b && c)) ≡ true → (a ≡ true) × (b ≡ true)
and_parts true true c e = (refl, refl)
and_parts true false c e = absurd cc
and_parts false b c e = absurd cc

not_empty : (text : List ℕ) → not (is_empty text) ≡ true → 0 < length text
not_empty [] e = absurd cc
not_empty (b ∷ bs) e = omega arith

past_range : (a b : Bool) (n : ℕ) → b ≡ false → (if a && b then Some n else None) ≡ None
past_range true true n e = absurd cc
past_range true false n e = refl
past_range false b n e = refl

not_least : (n high : ℕ) → high < n → nat_le n high ≡ false
not_least n high h = grind (arith, nat_tests)

pub number_is : (low high : ℕ) (text : List ℕ) → is_number text ≡ true → number_of low high text ≡ in_range low high (digits_value 10 text)
unfolding number_of
number_is low high text e = number_by (is_number text) (in_range low high (digits_value 10 text)) e

pub number_of_ok : (E : Type 0) (low high n : ℕ) (text : List ℕ) → ParsesUnsigned {E = E} 32 10 text (Ok n) → is_number text ≡ true → in_range low high n ≡ number_of low high text
number_of_ok E low high n text h e =
    let parts = and_parts (not (is_empty text)) (list_all is_ascii_digit text) (not (has_needless_zero text)) e in
    let read = parse_digits own {E = E} 32 text (Ok n) h parts.1 in
    ap (λ x. in_range low high x) read.1 ∙ sym (number_is low high text e)

pub number_of_err : (E : Type 0) (low high : ℕ) (text : List ℕ) (err : E) → ParsesUnsigned {E = E} 32 10 text (Err err) → is_number text ≡ true → high < 2 ^ 32 → None ≡ number_of low high text
number_of_err E low high text err h e bound =
    let parts = and_parts (not (is_empty text)) (list_all is_ascii_digit text) (not (has_needless_zero text)) e in
    let read = parse_digits own {E = E} 32 text (Err err) h parts.1 in
    let some : 0 < length text = not_empty text parts.0 in
    let past : 2 ^ 32 ≤ digits_value 10 text = past_by (digits_value 10 text) (λ small. read (some, small)) in
    sym (number_is low high text e ∙ past_range (nat_le low (digits_value 10 text)) (nat_le (digits_value 10 text) high) (digits_value 10 text) (not_least (digits_value 10 text) high (omega arith)))
  where
    past_by : (n : ℕ) → (n < 2 ^ 32 → ⊥) → 2 ^ 32 ≤ n
    past_by n f = omega arith

pub number_of_none : (low high : ℕ) (text : List ℕ) → is_number text ≡ false → None ≡ number_of low high text
unfolding number_of
number_of_none low high text e = rw e refl
