-- Where the data of pieces stand that came: slots by index, in pages, and the parts of a message that they say.
use Rattle.std.specs.Prelude.{◌≡◌, ℕ, zero, suc, ◌≤◌, ◌<◌, ◌-◌, ◌==◌, Bool, true, List, [], ◌∷◌, ◌++◌, length, take, drop, slice_index_or, Option, Some, None, option_map, if◌then◌else◌, ◌/◌, ◌%◌}
use Rattle.std.specs.Global.{Vec}
use Rattle.piece_link.specs.declared.slots.Place.{Place}
use Rattle.piece_link.specs.declared.slots.Slots.{Slots}

abbrev pub Page : Type 0
Page = List (Option Place)

-- a page that was not made has no slots
abbrev pub page_at : List (Vec (Option Place)) → ℕ → Page
page_at [] at = []
page_at (page ∷ pages) zero = page.items
page_at (page ∷ pages) (suc at) = page_at pages at

-- a slot past the end of its page is empty
unfoldable pub slot_at : Slots → ℕ → Option Place
slot_at s index = slice_index_or (page_at s.pages.items (index / 256)) (index % 256) None

-- the slot was made
pub record HasSlot (s : Slots) (index : ℕ) : Type 0 where
  pub page : index / 256 < length s.pages.items
  pub slot : index % 256 < length (page_at s.pages.items (index / 256))

-- the data at a place
abbrev pub data_at : List ℕ → Place → List ℕ
data_at bytes p = take (p.end - p.start) (drop p.start bytes)

-- the data of an index, if its piece came
abbrev pub text_at : Slots → List ℕ → ℕ → Option (List ℕ)
text_at s bytes index = option_map (data_at bytes) (slot_at s index)

abbrev pub part_if : ℕ → Option (List ℕ) → List (ℕ × List ℕ)
part_if index None = []
part_if index (Some text) = (index, text) ∷ []

-- the parts of the indices below this one
unfoldable pub parts_below : ℕ → (ℕ → Option (List ℕ)) → List (ℕ × List ℕ)
parts_below zero text_of = []
parts_below (suc n) text_of = parts_below n text_of ++ part_if n (text_of n)

abbrev pub text_if : Option (List ℕ) → List ℕ
text_if None = []
text_if (Some text) = text

-- their data, one after the other
unfoldable pub joined_below : ℕ → (ℕ → Option (List ℕ)) → List ℕ
joined_below zero text_of = []
joined_below (suc n) text_of = joined_below n text_of ++ text_if (text_of n)

-- as before, but for the data of one index
abbrev pub with_text : (ℕ → Option (List ℕ)) → ℕ → List ℕ → ℕ → Option (List ℕ)
with_text text_of index text i = if i == index then Some text else text_of i

-- so many parts stand in the slots below `end`, each within the bytes that came; in order, these are the parts' data
pub record AreHeld (s : Slots) (bytes : List ℕ) (len : ℕ) (end : ℕ) (in_order : Bool) : Type 0 where
  pub counted : len ≡ length (parts_below end (text_at s bytes))
  pub few : end ≤ 4294967296
  pub past : (i : ℕ) → end ≤ i → slot_at s i ≡ None
  pub within : (i : ℕ) (p : Place) → slot_at s i ≡ Some p → (p.start ≤ p.end) × (p.end ≤ length bytes)
  pub ordered : in_order ≡ true → joined_below end (text_at s bytes) ≡ bytes
