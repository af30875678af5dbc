-- How ids, lists and values are read off a line: the readers of the words that value_words writes.
use Rattle.std.specs.Prelude.{ℕ, List, [], ◌∷◌, ◌++◌, Option, Some, None, true, false, ◌==◌, codes}
use Rattle.std.specs.List.{fold}
use Rattle.std.specs.Str.{bytes_eq}
use Rattle.rsct_packet.specs.declared.ids.Member.{Member}
use Rattle.rsct_packet.specs.declared.ids.ProtoId.{ProtoId}
use Rattle.rsct_packet.specs.declared.ids.RingId.{RingId}
use Rattle.rsct_packet.specs.declared.ids.ViewId.{ViewId}
use Rattle.rsct_packet.specs.declared.mask.Mask.{Mask}
use Rattle.rsct_packet.specs.Ids.{last_u32}
use Rattle.rsct_packet.specs.Mask.{no_nodes, with_node}
use Rattle.value_words.specs.Words.{◌>>=◌, split_on, each_read, number_word, node_word}
use Rattle.value_words.specs.Escapes.{text_of}

-- words with a space between each two
unfoldable pub spaced : List (List ℕ) → List ℕ
spaced [] = []
spaced (w ∷ []) = w
spaced (w ∷ v ∷ ws) = w ++ 32 ∷ spaced (v ∷ ws)

unfoldable pub u32_word : List ℕ → Option ℕ
u32_word w = number_word 0 last_u32 w

unfoldable pub u16_word : List ℕ → Option ℕ
u16_word w = number_word 0 65535 w

-- what stands on both sides of the byte c, where it stands there once
unfoldable pub both_of : {X Y : Type 0} → (List ℕ → Option X) → (List ℕ → Option Y) → List (List ℕ) → Option (X × Y)
both_of f g (a ∷ b ∷ []) = do
  x ← f a
  y ← g b
  Some (x, y)
both_of f g _ = None

unfoldable pub two_word : {X Y : Type 0} → ℕ → (List ℕ → Option X) → (List ℕ → Option Y) → List ℕ → Option (X × Y)
two_word c f g w = both_of f g (split_on c w)

unfoldable pub view_of : List (List ℕ) → Option ViewId
view_of (a ∷ b ∷ c ∷ []) = do
  n ← u32_word a
  k ← node_word b
  j ← u32_word c
  Some (record { number = n; coord = k; inc = j })
view_of _ = None

unfoldable pub view_word : List ℕ → Option ViewId
view_word w = view_of (split_on 46 w)

unfoldable pub ring_of : List (List ℕ) → Option RingId
ring_of (a ∷ b ∷ c ∷ []) = do
  n ← node_word a
  j ← u32_word b
  k ← u32_word c
  Some (record { leader = n; inc = j; number = k })
ring_of _ = None

unfoldable pub ring_word : List ℕ → Option RingId
ring_word w = ring_of (split_on 46 w)

unfoldable pub proto_word : List ℕ → Option ProtoId
proto_word w = do
  x ← two_word 47 view_word u32_word w
  Some (record { view = x.0; place = x.1 })

unfoldable pub member_word : List ℕ → Option Member
member_word w = do
  x ← two_word 46 node_word u32_word w
  Some (record { node = x.0; inc = x.1 })

-- items between commas, `-` for none
unfoldable pub list_word : {X : Type 0} → (List ℕ → Option X) → List ℕ → Option (List X)
list_word f w = elim (bytes_eq w (codes "-")) [ true ↦ Some [] | false ↦ each_read f (split_on 44 w) ]

unfoldable pub mask_word : List ℕ → Option Mask
mask_word w = do
  ns ← list_word node_word w
  Some (fold with_node no_nodes ns)

-- `=` and a value, in which `%XX` stands for any byte
unfoldable pub value_word : List ℕ → Option (List ℕ)
value_word [] = None
value_word (b ∷ bs) = elim (b == 61) [ true ↦ text_of bs | false ↦ None ]

unfoldable pub some_value : Option (List ℕ) → Option (Option (List ℕ))
some_value None = None
some_value (Some x) = Some (Some x)

-- a value, or `-` for none
unfoldable pub value_or_none : List ℕ → Option (Option (List ℕ))
value_or_none w = elim (bytes_eq w (codes "-")) [ true ↦ Some None | false ↦ some_value (value_word w) ]

-- opens each word of this file, for a computation
unfoldable pub values_read_open : Unit {0}
unfolding spaced u32_word u16_word both_of two_word view_of view_word ring_of ring_word proto_word member_word list_word mask_word value_word some_value value_or_none
values_read_open = tt
