-- What is read of rows, one after another.
use Rattle.std.proofs.Common.{◌≡◌, ℕ, ◌+◌, ◌<◌, Bool, true, false, ◌++◌, List, [], ◌∷◌, length, get_or, take, refl, sym, append-nil}
use Rattle.std.specs.List.{filter, count_by}
use Rattle.std.proofs.lemmas.List.{map-append}
use Rattle.std.proofs.lemmas.List.Elements.{filter_more}
use Rattle.std.proofs.lemmas.List.Sums.{length-filter}
use Rattle.node_state.specs.declared.group.GroupRow.{GroupRow}
use Rattle.node_state.specs.declared.state.Core.{Core}
use Rattle.node_state.specs.State.{leads_in}
use Rattle.node_groups.specs.Places.{names_led}

pub counted : {X : Type 0} (p : X → Bool) (xs : List X) → count_by p xs ≡ length (filter p xs)
counted p xs = sym (length-filter p xs)

pub led_here : (s : Core) (rows : List GroupRow) (i : ℕ) (d : GroupRow) → i < length rows → leads_in s (get_or rows i d) ≡ true → names_led s (take (i + 1) rows) ≡ names_led s (take i rows) ++ (get_or rows i d).name ∷ []
led_here s rows i d lt h = rw (filter_more (leads_in s) rows i d lt, h) (map-append _ _ _)

pub led_not : (s : Core) (rows : List GroupRow) (i : ℕ) (d : GroupRow) → i < length rows → leads_in s (get_or rows i d) ≡ false → names_led s (take (i + 1) rows) ≡ names_led s (take i rows)
led_not s rows i d lt h = rw (filter_more (leads_in s) rows i d lt, h, append-nil) refl
