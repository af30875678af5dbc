-- Where the list of a node starts: what stood before was forgotten.
use Rattle.std.specs.Prelude.{ℕ, ◌≤◌, ◌≡◌, ◌≢◌, true, List, length, Some}
use Rattle.rsct_packet.specs.declared.ids.Member.{Member}
use Rattle.rsct_packet.specs.Search.{Has}
use Rattle.proposal_core.specs.Lists.{list_or_new}
use Rattle.node_state.specs.declared.config.Config.{Config}
use Rattle.node_state.specs.declared.state.Core.{Core}
use Rattle.node_state.specs.State.{row_of, acked_from, leads}
use Rattle.run_safety.specs.Past.{History, records_of, puts_of}
use Rattle.step_refinement.specs.Tied.{Scene}
use Rattle.step_refinement.specs.Runs.{Reached}

-- where the node's list of the group starts; 0 where it has none
abbrev pub start_of : Core → List ℕ → ℕ
start_of s g = (list_or_new (row_of s g).list).start

-- Each member of the node's view has put what stood before the start; and at the node that leads the group each other member has
-- acknowledged it.
pub record TailsHeld (s : Core) (h : History) : Type 0 where
  pub put : (g : List ℕ) (m : Member) → Has m s.views.members → start_of s g ≤ length (puts_of m.node s.views.view g (records_of h))
  pub acked : (g : List ℕ) (m : Member) → leads s g ≡ true → Has m s.views.members → m.node ≢ s.views.me → start_of s g ≤ acked_from m.node (row_of s g).led.acked

-- whatever starts, stops and steps, at each node that is up
abbrev pub EveryTailIsHeld : Type 0
EveryTailIsHeld = (c : Config) (w : Scene) → Reached c w → (n : ℕ) (s : Core) → w.cores n ≡ Some s → TailsHeld s w.before
