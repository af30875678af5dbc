-- What a leader that may begin something has done: nobody waits, each member has a member of the source on its node, and no value of
-- the source was set later than the one that was reflected.
use Rattle.std.specs.Prelude.{◌≡◌, ◌<◌, ◌≤◌, ℕ, true, false, List, length, Some, None}
use Rattle.rsct_packet.specs.declared.ids.ProviderId.{ProviderId}
use Rattle.rsct_packet.specs.declared.ids.ProtoId.{ProtoId}
use Rattle.rsct_packet.specs.Ids.{place_lt}
use Rattle.rsct_packet.specs.Search.{Has}
use Rattle.proposal_core.specs.declared.group_state.GroupState.{GroupState}
use Rattle.proposal_core.specs.Lists.{max_places, max_bytes, bytes_in}
use Rattle.batch_rules.specs.Waiting.{nothing_waits}
use Rattle.node_state.specs.declared.config.Config.{Config}
use Rattle.node_state.specs.declared.state.Core.{Core}
use Rattle.node_state.specs.State.{row_of, led_of, frozen, leads}
use Rattle.run_safety.specs.Past.{History, records_of, puts_of, state_now}
use Rattle.step_refinement.specs.Tied.{Scene}
use Rattle.step_refinement.specs.Runs.{Reached}

-- a member of the group stands on the node
abbrev pub StandsOn : ℕ → GroupState → Type 0
StandsOn n st = (q : ProviderId) × Has q st.members × (q.node ≡ n)

-- each member of the target has a member of the source on its node; and where there are members, no value of the source was set at a
-- later place than the one that was reflected
pub record IsServed (target source : GroupState) : Type 0 where
  pub sourced : (p : ProviderId) → Has p target.members → StandsOn p.node source
  pub reflected : (p : ProviderId) (at : ProtoId) → Has p target.members → source.value_at ≡ Some at → place_lt target.reflected_at (Some at) ≡ false

-- the state of a group by the records of the node, in the view that it is in
abbrev pub state_here : Core → History → List ℕ → GroupState
state_here s h g = state_now s.views.me s.views.view g (records_of h)

-- The node leads the group, is not frozen, nothing runs there, and its list has room; and so that a reflection is no entry that is too
-- long for it, the value of the source has at most 2 ^ 31 bytes.
pub record MayBegin (s : Core) (h : History) (g : List ℕ) : Type 0 where
  pub led : leads s g ≡ true
  pub thawed : frozen s ≡ false
  pub idle : (state_here s h g).running ≡ None
  pub places : length (puts_of s.views.me s.views.view g (records_of h)) < max_places
  pub bytes : bytes_in (row_of s g).list < max_bytes
  pub short : (k : List ℕ) → (state_here s h g).attrs.source ≡ Some k → length (state_here s h k).value ≤ 2147483648

-- no join and no failure waits there, and the members are served where the group has a source
pub record AtRest (s : Core) (h : History) (g : List ℕ) : Type 0 where
  pub waiting : (led_of s g).waiting ≡ nothing_waits
  pub served : (k : List ℕ) → (state_here s h g).attrs.source ≡ Some k → IsServed (state_here s h g) (state_here s h k)

-- of one node, in each group
abbrev pub LeadsAtRest : Core → History → Type 0
LeadsAtRest s h = (g : List ℕ) → MayBegin s h g → AtRest s h g

-- whatever starts, stops and steps, at each node that is up
abbrev pub LeadersOfScenesAreAtRest : Type 0
LeadersOfScenesAreAtRest = (c : Config) (w : Scene) → Reached c w → (n : ℕ) (s : Core) → w.cores n ≡ Some s → LeadsAtRest s w.before
