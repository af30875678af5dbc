-- Numbers: decimal digits without a sign and without a needless leading zero, within a range.
use Rattle.std.specs.Prelude.{ℕ, Bool, true, false, not, ◌==◌, ◌&&◌, List, [], ◌∷◌, Option, Some, None, nat_le, if◌then◌else◌}
use Rattle.std.specs.List.{list_all}
use Rattle.std.specs.Char.{is_ascii_digit}
use Rattle.std.specs.Str.Parse.{digits_value}

abbrev pub has_needless_zero : List ℕ → Bool
has_needless_zero [] = false
has_needless_zero (b ∷ []) = false
has_needless_zero (b ∷ c ∷ bs) = b == 48

abbrev pub is_empty : List ℕ → Bool
is_empty [] = true
is_empty (b ∷ bs) = false

abbrev pub is_number : List ℕ → Bool
is_number text = not (is_empty text) && (list_all is_ascii_digit text && not (has_needless_zero text))

abbrev pub in_range : ℕ → ℕ → ℕ → Option ℕ
in_range low high n = if nat_le low n && nat_le n high then Some n else None

-- the number that the text spells, from low to high
unfoldable pub number_of : ℕ → ℕ → List ℕ → Option ℕ
number_of low high text = if is_number text then in_range low high (digits_value 10 text) else None

-- where there is a text, it must spell a number
unfoldable pub number_if_any : ℕ → ℕ → Option (List ℕ) → Option (Option ℕ)
number_if_any low high None = Some None
number_if_any low high (Some text) = elim (number_of low high text) [ None ↦ None | Some n ↦ Some (Some n) ]
