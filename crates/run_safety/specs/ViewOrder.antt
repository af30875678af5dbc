-- The order of views, for proofs: nobody looks into it beyond its laws.
use Rattle.std.specs.Prelude.{◌≡◌, Bool, true, false}
use Rattle.rsct_packet.specs.declared.ids.ViewId.{ViewId}
use Rattle.rsct_packet.specs.Ids.{view_lt, same_view}

unfoldable pub is_before : ViewId → ViewId → Bool
is_before a b = view_lt a b

unfoldable pub is_same : ViewId → ViewId → Bool
is_same a b = same_view a b

-- a is before b
abbrev pub Lt : ViewId → ViewId → Type 0
Lt a b = is_before a b ≡ true

-- a is b or before it
abbrev pub Le : ViewId → ViewId → Type 0
Le a b = is_before b a ≡ false
