-- How ids and values are written.
use Rattle.std.specs.Prelude.{ℕ, ◌==◌, ◌||◌, ◌+◌, ◌/◌, ◌%◌, ◌++◌, List, [], ◌∷◌, nat_lt, codes, flat_map, decimal, if◌then◌else◌}
use Rattle.rsct_packet.specs.declared.ids.ProviderId.{ProviderId}
use Rattle.rsct_packet.specs.declared.ids.ViewId.{ViewId}
use Rattle.rsct_packet.specs.declared.ids.RingId.{RingId}
use Rattle.rsct_packet.specs.declared.ids.ProtoId.{ProtoId}
use Rattle.rsct_packet.specs.declared.ids.Member.{Member}

-- a word and the space behind it
unfoldable pub word : List ℕ → List ℕ
word x = x ++ codes " "

unfoldable pub view_text : ViewId → List ℕ
view_text v = decimal v.number ++ codes "." ++ decimal v.coord ++ codes "." ++ decimal v.inc

unfoldable pub provider_text : ProviderId → List ℕ
provider_text p = decimal p.node ++ codes "." ++ decimal p.inc ++ codes "." ++ decimal p.instance ++ codes "." ++ decimal p.join

unfoldable pub ring_text : RingId → List ℕ
ring_text r = decimal r.leader ++ codes "." ++ decimal r.inc ++ codes "." ++ decimal r.number

unfoldable pub proto_text : ProtoId → List ℕ
proto_text p = view_text p.view ++ codes "/" ++ decimal p.place

unfoldable pub member_text : Member → List ℕ
member_text m = decimal m.node ++ codes "." ++ decimal m.inc

-- items joined by commas, `-` for none
unfoldable pub joined : {X : Type 0} → (X → List ℕ) → List X → List ℕ
joined f [] = codes "-"
joined f (x ∷ xs) = f x ++ flat_map (λ y. codes "," ++ f y) xs

unfoldable pub nodes_text : List ℕ → List ℕ
nodes_text ns = joined decimal ns

unfoldable pub members_text : List Member → List ℕ
members_text ms = joined member_text ms

unfoldable pub providers_text : List ProviderId → List ℕ
providers_text ps = joined provider_text ps

-- a digit of a number below 16, in capitals
unfoldable pub hex_digit : ℕ → ℕ
hex_digit n = if nat_lt n 10 then 48 + n else 55 + n

-- a byte of a value: itself, or `%` and two digits
unfoldable pub byte_text : ℕ → List ℕ
byte_text b = if nat_lt b 33 || nat_lt 126 b || (b == 37) then 37 ∷ hex_digit (b / 16) ∷ hex_digit (b % 16) ∷ [] else b ∷ []

unfoldable pub escaped : List ℕ → List ℕ
escaped bytes = flat_map byte_text bytes

unfoldable pub value_text : List ℕ → List ℕ
value_text bytes = codes "=" ++ escaped bytes

-- opens each word of this file, for a computation
unfoldable pub wording_opens : Unit {0}
unfolding word view_text provider_text ring_text proto_text member_text joined nodes_text members_text providers_text hex_digit byte_text escaped value_text
wording_opens = tt
