-- Of every scene that events lead to.
use Rattle.std.specs.Prelude.{ℕ, ◌≡◌, List, Some}
use Rattle.rsct_packet.specs.Search.{Has}
use Rattle.node_state.specs.declared.config.Config.{Config}
use Rattle.node_state.specs.declared.packet.Packet.{Packet}
use Rattle.node_state.specs.declared.group.GroupRow.{GroupRow}
use Rattle.node_state.specs.declared.state.Core.{Core}
use Rattle.node_state.specs.State.{led_of, state_of}
use Rattle.session_state.specs.declared.state.KeptBallot.{KeptBallot}
use Rattle.run_safety.specs.Past.{records_of}
use Rattle.step_refinement.specs.Tied.{Scene}
use Rattle.step_refinement.specs.Runs.{Reached}
use Rattle.row_laws.specs.honest_votes.Casts.{BodyCast, KeptCast, ListCast, ViewsCast, TallyCast, VotesWereCast}

-- the votes that entries record were cast before
abbrev pub RecordedVotesAreCast : Type 0
RecordedVotesAreCast = (c : Config) (w : Scene) → Reached c w → VotesWereCast w.before

-- so were those of each packet that was sent: of VOTE, ENTRY, ANSWER and INSTALL
abbrev pub SentVotesAreCast : Type 0
SentVotesAreCast = (c : Config) (w : Scene) → Reached c w → (p : Packet) → Has p w.sent → BodyCast (records_of w.before) p.body

-- so was each ballot that a node keeps
abbrev pub KeptVotesAreCast : Type 0
KeptVotesAreCast =
    (c : Config) (w : Scene) → Reached c w → (n : ℕ) (s : Core) → w.cores n ≡ Some s → (k : KeptBallot) → Has k s.sessions.kept → KeptCast (records_of w.before) k

-- so were those of each list of a node
abbrev pub ListedVotesAreCast : Type 0
ListedVotesAreCast =
    (c : Config) (w : Scene) → Reached c w → (n : ℕ) (s : Core) → w.cores n ≡ Some s → (row : GroupRow) → Has row s.groups → ListCast (records_of w.before) row.list

-- so was each vote that a leader has counted of the phase that runs
abbrev pub CountedVotesAreCast : Type 0
CountedVotesAreCast =
    (c : Config) (w : Scene) → Reached c w → (n : ℕ) (s : Core) → w.cores n ≡ Some s → (g : List ℕ) → TallyCast (records_of w.before) (led_of s g).tally (state_of s g).running

-- so were those of the lists that a node gathers for a view, and of the install that it keeps
abbrev pub GatheredVotesAreCast : Type 0
GatheredVotesAreCast = (c : Config) (w : Scene) → Reached c w → (n : ℕ) (s : Core) → w.cores n ≡ Some s → ViewsCast (records_of w.before) s.views
