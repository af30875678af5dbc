-- How many packets a step of a node sends at most.
use Rattle.std.specs.Prelude.{◌≡◌, true, false, Option, Some, None, ℕ, Bool, ◌==◌, ◌&&◌, ◌+◌, ◌*◌, ◌≤◌, List, [], ◌∷◌, length, filter}
use Rattle.rsct_packet.specs.declared.ids.ProviderId.{ProviderId}
use Rattle.proposal_core.specs.declared.group_state.GroupState.{GroupState}
use Rattle.proposal_core.specs.Fold.{joiners_in, present}
use Rattle.proposal_core.specs.GroupView.{GroupView}
use Rattle.proposal_core.specs.Lists.{state_in}
use Rattle.rsct_packet.specs.declared.ids.ViewId.{ViewId}
use Rattle.rsct_packet.specs.Search.{Has}
use Rattle.view_state.specs.declared.exchange.Exchange.{Exchange}
use Rattle.view_state.specs.declared.install.Install.{Install}
use Rattle.view_state.specs.declared.install.Base.{Base}
use Rattle.view_state.specs.Bases.{parts_from, bases_of}
use Rattle.view_exchange.specs.Longest.{NamesDiffer}
use Rattle.node_state.specs.declared.group.GroupRow.{GroupRow}
use Rattle.node_state.specs.declared.happened.Happened.{Happened}
use Rattle.node_state.specs.declared.happened.Happened.TheVariants as happened
use Rattle.node_state.specs.declared.state.Core.{Core}
use Rattle.node_state.specs.State.{InNameOrder, state_of, leads_in, led_groups}
use Rattle.node_state.specs.Applying.{own_parts}
use Rattle.node_state.specs.Step.{NodeEvent}
use Rattle.node_state.specs.Step.NodeEvent.{Ticks, Asks, Given, Calls, Garbage}
use Rattle.node_state.specs.declared.packet.Body.{Body}
use Rattle.node_state.specs.declared.packet.Body.TheVariants as body
use Rattle.node_state.specs.declared.packet.Packet.{Packet}
use Rattle.view_state.specs.declared.packet.ViewPacket.{ViewPacket}
use Rattle.view_state.specs.declared.packet.ViewPacket.TheVariants as packet
use Rattle.view_state.specs.Views.{views_at_work, prepare_rule, answer_rule, refuse_rule, install_rule, taken_rule}

-- ---- what is counted

abbrev pub put_in : Happened → ℕ
put_in (happened.Put n v g i e) = 1
put_in _ = 0

-- how many of these records are puts
abbrev pub puts_of : List Happened → ℕ
puts_of [] = 0
puts_of (r ∷ rs) = put_in r + puts_of rs

-- how many joins wait in these groups
abbrev pub waits_of : List GroupRow → ℕ
waits_of [] = 0
waits_of (row ∷ rows) = length row.led.waiting.joins + waits_of rows

-- of a node in an incarnation
abbrev pub is_own : ℕ → ℕ → ProviderId → Bool
is_own n inc p = p.node == n && p.inc == inc

-- how many members and running joiners of these groups are
abbrev pub owned_of : ℕ → ℕ → List GroupRow → ℕ
owned_of n inc [] = 0
owned_of n inc (row ∷ rows) = length (filter (is_own n inc) (present (state_in row.list))) + owned_of n inc rows

-- the outstanding requests, the kept ballots, the live providers, and the members and running joiners of the own
-- incarnation in the lists
unfoldable pub owed_count : Core → ℕ
owed_count s = length s.sessions.requests + length s.sessions.kept + length s.sessions.providers + owned_of s.views.me s.views.inc s.groups

-- how many groups the node leads
abbrev pub led_count : Core → ℕ
led_count s = length (led_groups s)

-- ---- the states that a node comes to

-- members and running joiners are at most 64
abbrev pub Room : GroupState → Type 0
Room st = length st.members + length (joiners_in st.running) ≤ 64

-- a view has at most 32 members, groups stand in the order of their names, and each has room for its providers
pub record Stands (s : Core) : Type 0 where
  pub few : length s.views.members ≤ 32
  pub order : InNameOrder s.groups
  pub room : (g : List ℕ) → Room (state_of s g)

-- an install that a node of this view may enter: members are few, each base has room for its providers, and the lists of
-- the node's own view are of groups that differ
pub record Fine (v : ViewId) (i : Install) : Type 0 where
  pub few : length i.members ≤ 32
  pub room : (b : Base) → Has b (bases_of i) → Room b.state
  pub apart : NamesDiffer (parts_from i v)

abbrev pub FineIf : ViewId → Option Install → Type 0
FineIf v None = Unit {0}
FineIf v (Some i) = Fine v i

-- a gathering that goes on waits for another answer
abbrev pub FewAnswers : Option Exchange → Type 0
FewAnswers None = Unit {0}
FewAnswers (Some g) = length g.members ≤ 31

-- the install that a packet of views lets the node enter
unfoldable pub brought_by : Core → ℕ → ℕ → ViewPacket → Option Install
brought_by s from inc (packet.Prepare v mask) = (prepare_rule (views_at_work s.views) from inc v mask (own_parts s)).install
brought_by s from inc (packet.Answer v old parts) = (answer_rule (views_at_work s.views) v (record { node = from; inc = inc; view = old; parts = parts })).install
brought_by s from inc (packet.Refuse v n) = (refuse_rule (views_at_work s.views) v n).install
brought_by s from inc (packet.Install i) = (install_rule (views_at_work s.views) i).install
brought_by s from inc (packet.Taken v) = (taken_rule (views_at_work s.views) from v).install

unfoldable pub brought_in : Core → Packet → Body → Option Install
brought_in s p (body.View x) = brought_by s p.from p.inc x
brought_in s p _ = None

-- the install that a packet to this node lets it enter
unfoldable pub brought_to : Core → Packet → Option Install
brought_to s p = elim (p.to == s.views.me) [ true ↦ brought_in s p p.body | false ↦ None ]

-- the install that another node's word lets the node enter, if an event brings it
unfoldable pub brought : Core → NodeEvent → Option Install
brought s Ticks = None
brought s (Asks mask) = None
brought s (Given p) = brought_to s p
brought s (Calls c) = None
brought s Garbage = None

-- joins wait where the node leads, at most 64 of them
abbrev pub WaitsAtLed : Core → Type 0
WaitsAtLed s = (row : GroupRow) → Has row s.groups → (length row.led.waiting.joins ≤ 64) × (leads_in s row ≡ false → row.led.waiting.joins ≡ [])

-- a list ends where its entries do
abbrev pub EndsAt : Option GroupView → Type 0
EndsAt None = Unit {0}
EndsAt (Some l) = l.len ≡ l.start + length l.entries

abbrev pub ListsEnd : Core → Type 0
ListsEnd s = (row : GroupRow) → Has row s.groups → EndsAt row.list

-- what is needed of a state and of an event in it
pub record Ready (s : Core) (e : NodeEvent) : Type 0 where
  pub stands : Stands s
  pub rings : length s.rings ≤ 4
  pub waits : WaitsAtLed s
  pub answers : FewAnswers s.views.gathering
  pub fine : FineIf s.views.view (brought s e)
  pub ends : ListsEnd s

-- ---- what is sent

-- From s to t: what is sent, with the joins that come to wait, is at most so many, and a hundred for each put. A join
-- that no longer waits leaves room for the packet by which it was refused.
abbrev pub Within : ℕ → Core → Core → Type 0
Within c s t = length t.sends + waits_of t.groups + 100 * puts_of s.records ≤ length s.sends + waits_of s.groups + 100 * puts_of t.records + c
