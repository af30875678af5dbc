-- What a run's own records say of tallies, where what each group sees of it is safe.
use Rattle.std.specs.Prelude.{ℕ, ◌≡◌, List}
use Rattle.rsct_packet.specs.declared.ids.ViewId.{ViewId}
use Rattle.rsct_packet.specs.Search.{Has}
use Rattle.proposal_core.specs.declared.entry.Vote.TheVariants as vote
use Rattle.proposal_core.specs.declared.entry.Row.{Row}
use Rattle.proposal_core.specs.declared.entry.Closed.{Closed}
use Rattle.proposal_core.specs.declared.entry.Entry.{Entry}
use Rattle.proposal_core.specs.declared.entry.Entry.TheVariants.{Approve}
use Rattle.vote_phases.specs.Tally.{vote_of_row}
use Rattle.node_state.specs.declared.happened.Happened.TheVariants as happened
use Rattle.run_safety.specs.Past.{History, records_of}
use Rattle.run_safety.specs.Tallies.{IsTallied}
use Rattle.run_safety.specs.Moves.{Opening}
use Rattle.run_safety.specs.SafeGroups.{SafeGroups}

-- an entry that closes a phase has the tally that its kind says; what is approved each row of the last phase approves
pub record RunTallied (h : History) : Type 0 where
  pub tallied : (n : ℕ) (v : ViewId) (g : List ℕ) (i : ℕ) (e : Entry) → Has (happened.Put n v g i e) (records_of h) → IsTallied e
  pub approved : (n : ℕ) (v : ViewId) (g : List ℕ) (i : ℕ) (c : Closed) → Has (happened.Put n v g i (Approve c)) (records_of h) → (r : Row) → Has r c.rows → vote_of_row r.vote ≡ vote.Approve

abbrev pub GroupsCloseByTally : Type 0
GroupsCloseByTally = (o : Opening) (h : History) → SafeGroups o h → RunTallied h
