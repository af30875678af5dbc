-- What a name is.
use Rattle.std.specs.Prelude.{ℕ, Bool, ◌||◌, ◌==◌, IsTrue, List, length, nat_le, ◌&&◌}
use Rattle.std.specs.List.{list_all}
use Rattle.std.specs.Ordering.{nat_cmp, is_lt}
use Rattle.std.specs.Cmp.Lexicographic.{slice_cmp}

abbrev pub name_byte : ℕ → Bool
name_byte b = (nat_le 48 b && nat_le b 57) || (nat_le 65 b && nat_le b 90) || (nat_le 97 b && nat_le b 122) || (b == 95) || (b == 45) || (b == 46)

-- 1 to 32 letters, digits and signs
abbrev pub is_name_of : List ℕ → Bool
is_name_of bytes = nat_le 1 (length bytes) && nat_le (length bytes) 32 && list_all name_byte bytes

abbrev pub IsName : List ℕ → Type 0
IsName bytes = IsTrue (is_name_of bytes)

-- the order of names: that of std's comparison of bytes
abbrev pub name_lt : List ℕ → List ℕ → Bool
name_lt a b = is_lt (slice_cmp nat_cmp a b)
