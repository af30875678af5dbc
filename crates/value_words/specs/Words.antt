-- How numbers, names, ids and bytes are read: the words of lines.
use Rattle.std.specs.Prelude.{ℕ, Bool, true, false, not, ◌==◌, ◌&&◌, ◌+◌, ◌-◌, ◌*◌, List, [], ◌∷◌, length, Option, Some, None, nat_le, filter, if◌then◌else◌}
use Rattle.std.specs.List.{list_all}
use Rattle.std.specs.Str.{bytes_eq}
use Rattle.rsct_packet.specs.declared.ids.ProviderId.{ProviderId}
use Rattle.rsct_packet.specs.Ids.{last_u32}
use Rattle.rsct_packet.specs.Lists.{is_empty}
use Rattle.rsct_packet.specs.Text.{name_byte}

infixl 10 ◌>>=◌
unfoldable pub ◌>>=◌ : {X Y : Type 0} → Option X → (X → Option Y) → Option Y
(Some x) >>= f = f x
None >>= f = None

unfoldable pub when_true : {X : Type 0} → Option X → Bool → Option X
when_true x true = x
when_true x false = None

-- the pieces between the bytes c
unfoldable pub push_head : ℕ → List (List ℕ) → List (List ℕ)
push_head x [] = (x ∷ []) ∷ []
push_head x (l ∷ ls) = (x ∷ l) ∷ ls

unfoldable pub split_on : ℕ → List ℕ → List (List ℕ)
split_on c [] = [] ∷ []
split_on c (x ∷ xs) = elim (x == c) [ true ↦ [] ∷ split_on c xs | false ↦ push_head x (split_on c xs) ]

unfoldable pub words_in : List ℕ → List (List ℕ)
words_in bytes = filter (λ w. not (is_empty w)) (split_on 32 bytes)

-- all of them, where each one can be read
unfoldable pub each_read : {X : Type 0} → (List ℕ → Option X) → List (List ℕ) → Option (List X)
each_read f [] = Some []
each_read f (w ∷ ws) = do
  x ← f w
  xs ← each_read f ws
  Some (x ∷ xs)

unfoldable pub is_digit : ℕ → Bool
is_digit b = nat_le 48 b && nat_le b 57

unfoldable pub number_from : ℕ → List ℕ → ℕ
number_from n [] = n
number_from n (b ∷ bs) = number_from (10 * n + (b - 48)) bs

unfoldable pub has_needless_zero : List ℕ → Bool
has_needless_zero [] = false
has_needless_zero (b ∷ []) = false
has_needless_zero (b ∷ c ∷ bs) = b == 48

unfoldable pub in_range : ℕ → ℕ → ℕ → Option ℕ
in_range low high n = when_true (Some n) (nat_le low n && nat_le n high)

-- decimal digits without a needless zero, within a range
unfoldable pub number_word : ℕ → ℕ → List ℕ → Option ℕ
number_word low high w =
    elim (not (is_empty w) && (list_all is_digit w && (not (has_needless_zero w) && nat_le (length w) 20))) [ true ↦ in_range low high (number_from 0 w) | false ↦ None ]

unfoldable pub hex_value : ℕ → Option ℕ
hex_value b =
    if nat_le 48 b && nat_le b 57 then Some (b - 48)
    else if nat_le 65 b && nat_le b 70 then Some (b - 55)
    else if nat_le 97 b && nat_le b 102 then Some (b - 87)
    else None

unfoldable pub hex_pair : ℕ → ℕ → Option ℕ
hex_pair a b = do
  x ← hex_value a
  y ← hex_value b
  Some (16 * x + y)

unfoldable pub hex_word : List ℕ → Option (List ℕ)
hex_word [] = Some []
hex_word (a ∷ []) = None
hex_word (a ∷ b ∷ bs) = elim (hex_pair a b) [ None ↦ None | Some x ↦ elim (hex_word bs) [ None ↦ None | Some xs ↦ Some (x ∷ xs) ] ]

-- 1 to so many letters, digits and signs
unfoldable pub name_word : ℕ → List ℕ → Option (List ℕ)
name_word most w = when_true (Some w) (nat_le 1 (length w) && (nat_le (length w) most && list_all name_byte w))

unfoldable pub client_word : List ℕ → Option (List ℕ)
client_word w = name_word 16 w

-- the session refuses a name of more than 32 bytes
unfoldable pub group_word : List ℕ → Option (List ℕ)
group_word w = name_word 64 w

unfoldable pub node_word : List ℕ → Option ℕ
node_word w = number_word 1 32 w

unfoldable pub network_word : List ℕ → Option ℕ
network_word w = number_word 1 4 w

unfoldable pub provider_of : List (List ℕ) → Option ProviderId
provider_of (a ∷ b ∷ c ∷ d ∷ []) = do
  n ← node_word a
  i ← number_word 0 last_u32 b
  k ← number_word 0 65535 c
  j ← number_word 0 last_u32 d
  Some (record { node = n; inc = i; instance = k; join = j })
provider_of _ = None

unfoldable pub provider_word : List ℕ → Option ProviderId
provider_word w = provider_of (split_on 46 w)

-- a word among those of a table, and what it means
pub record Choice (X : Type 0) : Type 0 where
  pub word : List ℕ
  pub means : X

unfoldable pub chosen : {X : Type 0} → List (Choice X) → List ℕ → Option X
chosen [] w = None
chosen (e ∷ es) w = elim (bytes_eq e.word w) [ true ↦ Some e.means | false ↦ chosen es w ]

-- opens each word of this file, for a computation
unfoldable pub value_words_open : Unit {0}
unfolding ◌>>=◌ when_true push_head split_on words_in each_read is_digit number_from has_needless_zero in_range number_word hex_value hex_pair hex_word name_word client_word group_word node_word network_word provider_of provider_word chosen
value_words_open = tt
