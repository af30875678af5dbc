-- What the entries that close a phase say of their rows, and that entries fit what is before them.
use Rattle.std.specs.Prelude.{ℕ, ◌≤◌, ◌<◌, ◌≡◌, ◌⊎◌, true, List, length, take}
use Rattle.rsct_packet.specs.declared.ids.ViewId.{ViewId}
use Rattle.rsct_packet.specs.Search.{Has}
use Rattle.proposal_core.specs.declared.entry.Vote.TheVariants as vote
use Rattle.proposal_core.specs.declared.entry.Row.{Row}
use Rattle.proposal_core.specs.declared.entry.Closed.{Closed}
use Rattle.proposal_core.specs.declared.entry.Entry.{Entry}
use Rattle.proposal_core.specs.declared.entry.Entry.TheVariants.{Once, Begin, Phase, Approve, Reject, Late}
use Rattle.proposal_core.specs.Fold.{max_phases, fits}
use Rattle.vote_phases.specs.Tally.{vote_of_row, tally_of}
use Rattle.run_safety.specs.Group.{Record, Put}
use Rattle.run_safety.specs.GroupLists.{puts_of}
use Rattle.run_safety.specs.Bases.{Bases, state_of_list}

-- a phase is followed by another where the tally is CONTINUE; in the last phase CONTINUE rejects
abbrev pub IsTallied : Entry → Type 0
IsTallied (Approve c) = tally_of c.rows ≡ vote.Approve
IsTallied (Phase c) = (tally_of c.rows ≡ vote.Continue) × (c.phase < max_phases)
IsTallied (Reject c) = (tally_of c.rows ≡ vote.Reject) ⊎ ((tally_of c.rows ≡ vote.Continue) × (max_phases ≤ c.phase))
IsTallied (Once x) = Unit {0}
IsTallied (Begin x) = Unit {0}
IsTallied (Late proto phase ps) = Unit {0}

-- of each put
abbrev pub Tallied : List Record → Type 0
Tallied tr = (n : ℕ) (v : ViewId) (i : ℕ) (e : Entry) → Has (Put n v i e) tr → IsTallied e

-- what is approved each row of the last phase approves: votes, and defaults of who was late or failed
abbrev pub ApprovedByAll : List Record → Type 0
ApprovedByAll tr =
    (n : ℕ) (v : ViewId) (i : ℕ) (c : Closed) → Has (Put n v i (Approve c)) tr → (r : Row) → Has r c.rows → vote_of_row r.vote ≡ vote.Approve

-- each entry that is put fits the state that those before it make of the base, in every list of the view that is long
-- enough: what closes a phase names the protocol and the phase that run there, and what begins begins where none runs
abbrev pub Fitted : List Record → Bases → Type 0
Fitted tr bases =
    (n : ℕ) (v : ViewId) (i : ℕ) (e : Entry) → Has (Put n v i e) tr → (m : ℕ) → i ≤ length (puts_of m v tr) → fits (state_of_list bases v (take i (puts_of m v tr))) e ≡ true
