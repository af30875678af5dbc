-- What each step leaves true of a node beside what `Stands` says: its rings, the joins that wait, what it gathers and the
-- install that it keeps are few; and so are the members of each install that it sends.
use Rattle.std.specs.Prelude.{◌≡◌, false, true, Option, Some, None, ℕ, ◌⊎◌, ◌≤◌, List, [], length, filter, is_some}
use Rattle.rsct_packet.specs.Mask.{node_numbers}
use Rattle.rsct_packet.specs.Search.{Has}
use Rattle.view_state.specs.declared.exchange.Exchange.{Exchange}
use Rattle.view_state.specs.declared.install.Install.{Install}
use Rattle.view_state.specs.Answers.{has_answered, all_answered}
use Rattle.view_state.specs.declared.packet.ViewPacket.{ViewPacket}
use Rattle.view_state.specs.declared.packet.ViewPacket.TheVariants as packet
use Rattle.view_state.specs.declared.views.Views.{Views}
use Rattle.node_state.specs.declared.group.GroupRow.{GroupRow}
use Rattle.node_state.specs.declared.packet.Body.{Body}
use Rattle.node_state.specs.declared.packet.Body.TheVariants as body
use Rattle.node_state.specs.declared.packet.Packet.{Packet}
use Rattle.node_state.specs.declared.state.Core.{Core}
use Rattle.node_state.specs.State.{row_of}

-- at most 64 joins wait, and where one waits a leader is known
pub record WaitsFew (row : GroupRow) : Type 0 where
  pub few : length row.led.waiting.joins ≤ 64
  pub known : (row.led.waiting.joins ≡ []) ⊎ (is_some row.leader ≡ true)

-- the members are no more than the node numbers that answered
abbrev pub Counted : Exchange → Type 0
Counted g = length g.members ≤ length (filter (has_answered g) node_numbers)

-- a gathering that goes on waits for another answer
pub record Gathered (g : Exchange) : Type 0 where
  pub waits : all_answered g ≡ false
  pub counted : Counted g

abbrev pub GatheredIf : Option Exchange → Type 0
GatheredIf None = Unit {0}
GatheredIf (Some g) = Gathered g

abbrev pub FewIn : Install → Type 0
FewIn i = length i.members ≤ 32

abbrev pub FewIf : Option Install → Type 0
FewIf None = Unit {0}
FewIf (Some i) = FewIn i

abbrev pub FewView : ViewPacket → Type 0
FewView (packet.Install i) = FewIn i
FewView _ = Unit {0}

abbrev pub FewBody : Body → Type 0
FewBody (body.View x) = FewView x
FewBody _ = Unit {0}

abbrev pub FewSent : List Packet → Type 0
FewSent ps = (p : Packet) → Has p ps → FewBody p.body

pub record FewViews (s : Views) : Type 0 where
  pub gathering : GatheredIf s.gathering
  pub install : FewIf s.install

pub record Lasting (s : Core) : Type 0 where
  pub rings : length s.rings ≤ 4
  pub waits : (g : List ℕ) → WaitsFew (row_of s g)
  pub views : FewViews s.views
  pub sent : FewSent s.sends
