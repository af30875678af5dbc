-- Closing one phase.
use Rattle.std.specs.Prelude.{ℕ, Bool, true, false, ◌&&◌, List, Option, Some, None}
use Rattle.proposal_core.specs.declared.entry.Entry.{Entry}
use Rattle.node_state.specs.declared.state.Core.{Core}
use Rattle.node_state.specs.State.{led_of, state_of, fits_at_end}
use Rattle.node_state.specs.HandOn.{Answering}
use Rattle.node_state.specs.Leading.{appended, tally_opened, tally_set, closing_entry, is_phase}

-- the entry that closes the phase that runs, where its tally has an outcome
abbrev pub next_closing : Core → List ℕ → Option Entry
next_closing s g = closing_entry (led_of s g) (led_of s g).tally (state_of s g).running

-- what the entry leaves: the tally of the next phase, where it opens one, else none
unfoldable pub closed_with : Answering → Core → List ℕ → Entry → Bool → Core
closed_with f s g e true = tally_opened (appended f s g e) g
closed_with f s g e false = tally_set (appended f s g e) g None

-- where it fits
unfoldable pub closed_if : Answering → Core → List ℕ → Entry → Bool → Core
closed_if f s g e true = closed_with f s g e (is_phase e)
closed_if f s g e false = s

-- where there is one
unfoldable pub closed_where : Answering → Core → List ℕ → Option Entry → Core
closed_where f s g None = s
closed_where f s g (Some e) = closed_if f s g e (fits_at_end s g e)

-- a next phase is opened
unfoldable pub goes_on : Core → List ℕ → Option Entry → Bool
goes_on s g None = false
goes_on s g (Some e) = fits_at_end s g e && is_phase e
