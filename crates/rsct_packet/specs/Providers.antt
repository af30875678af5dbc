-- Lists of providers that differ.
use Rattle.std.specs.Prelude.{Bool, true, not, ◌==◌, ◌&&◌, ◌≤◌, IsTrue, nat_le, List, [], ◌∷◌, length, filter}
use Rattle.std.specs.List.{list_any, list_all}
use Rattle.rsct_packet.specs.declared.ids.ProviderId.{ProviderId}

abbrev pub same_provider : ProviderId → ProviderId → Bool
same_provider a b = (a.node == b.node) && (a.inc == b.inc) && (a.instance == b.instance) && (a.join == b.join)

abbrev pub among : List ProviderId → ProviderId → Bool
among xs p = list_any (λ q. same_provider q p) xs

-- none of ps is among xs
abbrev pub none_among : List ProviderId → List ProviderId → Bool
none_among xs ps = list_all (λ p. not (among xs p)) ps

abbrev pub without : List ProviderId → ProviderId → List ProviderId
without xs p = filter (λ q. not (same_provider q p)) xs

-- each differs from those after it
abbrev pub differ : List ProviderId → Bool
differ [] = true
differ (p ∷ ps) = not (among ps p) && differ ps

pub record AreProviders (ps : List ProviderId) : Type 0 where
  pub few : length ps ≤ 64
  pub apart : IsTrue (differ ps)

-- without each of ps
abbrev pub without_all : List ProviderId → List ProviderId → List ProviderId
without_all xs ps = filter (λ q. not (among ps q)) xs

-- the same as a test
abbrev pub are_providers : List ProviderId → Bool
are_providers ps = nat_le (length ps) 64 && differ ps
