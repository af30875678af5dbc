-- The entry that announces who passes the time limit in a tick.
use Rattle.std.specs.Prelude.{ℕ, Bool, true, false, ◌==◌, ◌&&◌, List, Option, Some, None}
use Rattle.proposal_core.specs.declared.entry.Entry.{Entry}
use Rattle.proposal_core.specs.declared.entry.Entry.TheVariants.{Late}
use Rattle.proposal_core.specs.declared.group_state.Running.{Running}
use Rattle.vote_phases.specs.Tally.{TallyView, expires, open_voters}
use Rattle.node_state.specs.declared.state.Core.{Core}
use Rattle.node_state.specs.State.{state_of, fits_at_end}
use Rattle.node_state.specs.HandOn.{Answering}
use Rattle.node_state.specs.Leading.{append_if_fits}

-- where one passes the limit, and something runs
unfoldable pub late_in : TallyView → Bool → Option Running → Option Entry
late_in t passes None = None
late_in t false (Some run) = None
late_in t true (Some run) = Some (Late run.proto run.phase (open_voters t))

unfoldable pub late_entry : Core → List ℕ → Option TallyView → Option Entry
late_entry s g None = None
late_entry s g (Some t) = late_in t (s.sessions.level == 2 && expires t) (state_of s g).running

unfoldable pub appended_late : Answering → Core → List ℕ → Option Entry → Core
appended_late f s g None = s
appended_late f s g (Some e) = append_if_fits f s g e (fits_at_end s g e)
