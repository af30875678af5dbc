-- What clients of the tests keep of what they were handed.
use Rattle.std.specs.Prelude.{ℕ, List, [], ◌∷◌}
use Rattle.client_callbacks.specs.Handed.{Handed, Notified, Informed}

-- the places of the entries that were heard
abbrev pub places_heard : List Handed → List ℕ
places_heard [] = []
places_heard (Notified n b ∷ hs) = n.place ∷ places_heard hs
places_heard (Informed t ∷ hs) = places_heard hs
