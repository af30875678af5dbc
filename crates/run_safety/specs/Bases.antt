-- Bases: what a group begins with in a new view, and who leads it.
use Rattle.std.specs.Prelude.{ℕ, ◌<◌, ◌≡◌, ◌⊎◌, Bool, true, false, ◌&&◌, ◌||◌, not, ◌==◌, List, length, filter, find, Option, Some, None, is_some}
use Rattle.std.specs.List.{list_any}
use Rattle.rsct_packet.specs.declared.ids.ViewId.{ViewId}
use Rattle.rsct_packet.specs.declared.ids.ProviderId.{ProviderId}
use Rattle.rsct_packet.specs.declared.ids.Member.{Member}
use Rattle.rsct_packet.specs.Providers.{among}
use Rattle.proposal_core.specs.declared.entry.Entry.{Entry}
use Rattle.proposal_core.specs.declared.group_state.GroupState.{GroupState}
use Rattle.proposal_core.specs.Fold.{empty_state, present}
use Rattle.rsct_packet.specs.Search.{Has}
use Rattle.run_safety.specs.Past.{fold_from}
use Rattle.run_safety.specs.ViewOrder.{is_same, Le}
use Rattle.run_safety.specs.Group.{member, Reply, Origin}

-- what the group begins with in each view; none: nothing
abbrev pub Bases : Type 0
Bases = ViewId → Option Origin

abbrev pub base_state : Option Origin → GroupState
base_state None = empty_state
base_state (Some b) = b.state

-- the state after entries of a view
abbrev pub state_of_list : Bases → ViewId → List Entry → GroupState
state_of_list bases v es = fold_from v (base_state (bases v)) 0 es

-- the state in which the nodes that come from an old view leave it
abbrev pub side_state : Bases → (ViewId → List Entry) → ViewId → GroupState
side_state bases ss u = state_of_list bases u (ss u)

-- a state that a new view can begin with
abbrev pub is_candidate : GroupState → Bool
is_candidate s = nat_some (length s.members) || is_some s.running
  where
    nat_some : ℕ → Bool
    nat_some k = not (k == 0)

-- the provider's node comes from u, in the provider's incarnation
abbrev pub is_live : List Reply → ViewId → ProviderId → Bool
is_live rs u p = list_any (λ r. r.node == p.node && (r.inc == p.inc && is_same r.view u)) rs

abbrev pub live_count : List Reply → ViewId → GroupState → ℕ
live_count rs u s = length (filter (is_live rs u) (present s))

-- the failed are the members, then the running joiners, that are not live
abbrev pub marked : List Reply → ViewId → GroupState → GroupState
marked rs u s = record s { failed = filter (λ p. not (is_live rs u p)) (present s) }

-- the base: the side with the most live providers, ties by the greater view
pub record Wins (rs : List Reply) (ss : ViewId → List Entry) (side : ViewId → GroupState) (b : Origin) : Type 0 where
  pub from : (r : Reply) × Has r rs × (r.view ≡ b.old)
  pub candidate : is_candidate (side b.old) ≡ true
  pub len : b.len ≡ length (ss b.old)
  pub state : b.state ≡ marked rs b.old (side b.old)
  pub most : (r : Reply) → Has r rs → is_candidate (side r.view) ≡ true → (live_count rs r.view (side r.view) < live_count rs b.old (side b.old)) ⊎ ((live_count rs r.view (side r.view) ≡ live_count rs b.old (side b.old)) × Le r.view b.old)

-- no base exactly where no side is a candidate
abbrev pub BaseIs : List Reply → (ViewId → List Entry) → (ViewId → GroupState) → Option Origin → Type 0
BaseIs rs ss side None = (r : Reply) → Has r rs → is_candidate (side r.view) ≡ false
BaseIs rs ss side (Some b) = Wins rs ss side b

-- the first member that did not fail leads, else the coordinator
abbrev pub leading : ViewId → Option ProviderId → Member
leading v None = member v.coord v.inc
leading v (Some p) = member p.node p.inc

abbrev pub leader_of : ViewId → Option Origin → Option Member
leader_of v None = None
leader_of v (Some b) = Some (leading v (find (λ p. not (among b.state.failed p)) b.state.members))
