-- Where the adapters of the settings are.
use Rattle.std.specs.Prelude.{ℕ, zero, suc, ◌+◌, Bool, true, false, List, [], ◌∷◌, ◌++◌, if◌then◌else◌}
use Rattle.hags_io.specs.declared.link.Places.{Places}
use Rattle.hags_io.specs.Deeds.{Deed, Placed, Opened}
use Rattle.hags_io.specs.Telling.{Telling, Did}
use Rattle.hags_io.specs.Places.{with_place}
use Rattle.node_state.specs.declared.config.Config.{Config}
use Rattle.node_state.specs.Settings.{has_adapter, address_at}

-- each adapter that the settings have stands at the port of its node
abbrev pub place_told : Config → ℕ → ℕ → Places → Places
place_told c network node places =
    if has_adapter c node network then with_place node network (address_at c node network) (c.port + node) places
    else places

-- of the first nodes, on a network
unfoldable pub places_on : Config → ℕ → ℕ → Places → Places
places_on c network zero places = places
places_on c network (suc n) places = place_told c network (n + 1) (places_on c network n places)

-- on the first networks
unfoldable pub places_upto : Config → ℕ → Places → Places
places_upto c zero places = places
places_upto c (suc k) places = places_on c (k + 1) 32 (places_upto c k places)

-- of all adapters
unfoldable pub all_places : Config → Places → Places
all_places c places = places_upto c 4 places

-- ---- as deeds

abbrev pub placing : Config → ℕ → ℕ → List Deed
placing c network node =
    if has_adapter c node network then Placed node network (address_at c node network) (c.port + node) ∷ [] else []

unfoldable pub placings_on : Config → ℕ → ℕ → List Deed
placings_on c network zero = []
placings_on c network (suc n) = placings_on c network n ++ placing c network (n + 1)

unfoldable pub placings_upto : Config → ℕ → List Deed
placings_upto c zero = []
placings_upto c (suc k) = placings_upto c k ++ placings_on c (k + 1) 32

-- all adapters are told to the link
unfoldable pub placings : Config → List Deed
placings c = placings_upto c 4

-- and then the link was opened at this port, or could not be
abbrev pub openings : Config → ℕ → Bool → List Deed
openings c port done = placings c ++ Opened port done ∷ []

-- the link was opened, and then this, from what was told by then
pub record OverLink (c : Config) (port : ℕ) (old : Telling) (P : Telling → Type 0) : Type 0 where
  pub opened : Telling
  pub did : Did old opened (openings c port true)
  pub holds : P opened

-- the link could not be opened, and nothing else was done; or it was, and then this
pub data OverLinkIf (c : Config) (port : ℕ) (old new : Telling) (P : Telling → Type 0) : Type 0 where
  NotOpened : Did old new (openings c port false) → OverLinkIf c port old new P
  Ran : OverLink c port old P → OverLinkIf c port old new P

-- opens each word of this file, for a computation
unfoldable pub settings_opens : Unit {0}
unfolding places_on places_upto all_places placings_on placings_upto placings
settings_opens = tt
