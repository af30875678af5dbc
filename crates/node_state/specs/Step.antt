-- The step of a node.
use Rattle.std.specs.Prelude.{ℕ, Bool, true, false, not, ◌==◌, ◌&&◌, ◌||◌, ◌++◌, List, [], ◌∷◌, map}
use Rattle.std.specs.Option.{unwrap_or}
use Rattle.rsct_packet.specs.declared.mask.Mask.{Mask}
use Rattle.rsct_packet.specs.declared.ids.ViewId.{ViewId}
use Rattle.rsct_packet.specs.declared.ids.Member.{Member}
use Rattle.rsct_packet.specs.Ids.{same_view, is_member}
use Rattle.rsct_packet.specs.Mask.{nodes_of}
use Rattle.adapter_ring.specs.declared.ring.Ring.{Ring}
use Rattle.adapter_ring.specs.Rings.{ring_new, neighbour}
use Rattle.node_reach.specs.Reach.{reach_new}
use Rattle.session_state.specs.State.{no_sessions}
use Rattle.view_state.specs.declared.packet.ViewPacket.{ViewPacket}
use Rattle.view_state.specs.declared.packet.ViewPacket.TheVariants as packet
use Rattle.view_state.specs.Views.{views_new, views_at_work, ask_rule, prepare_rule, answer_rule, refuse_rule, install_rule, taken_rule}
use Rattle.node_state.specs.declared.call.CallLine.{CallLine}
use Rattle.node_state.specs.declared.config.Config.{Config}
use Rattle.node_state.specs.declared.config.Mode.{Mode}
use Rattle.node_state.specs.declared.config.Mode.TheVariants.{Fixed, Asked, Rings}
use Rattle.node_state.specs.declared.happened.Happened.{Happened}
use Rattle.node_state.specs.declared.happened.Happened.TheVariants as happened
use Rattle.node_state.specs.declared.packet.Body.{Body}
use Rattle.node_state.specs.declared.packet.Body.TheVariants as body
use Rattle.node_state.specs.declared.packet.Packet.{Packet}
use Rattle.node_state.specs.declared.state.Core.{Core}
use Rattle.node_state.specs.Settings.{is_fixed, least_node, networks_of, addresses_on}
use Rattle.node_state.specs.State.{frozen, with_sessions}
use Rattle.node_state.specs.Sending.{send_on}
use Rattle.node_state.specs.HandOn.{Answering}
use Rattle.node_state.specs.Following.{take_lookup, take_name, take_request, take_tell, take_entry, take_ack, take_vote, take_gone}
use Rattle.node_state.specs.Applying.{own_parts, level_set, views_taken}
use Rattle.node_state.specs.Ticks.{ring_rule, take_report, tick_rule}
use Rattle.node_state.specs.Ending.{end_step}
use Rattle.node_state.specs.Status.{status_text}
use Rattle.node_state.specs.Calls.{take_call}

-- what happens to a node: bytes that are no packet make the end of a step alone
pub data NodeEvent : Type 0 where
  Ticks : NodeEvent
  Asks : (mask : Mask) → NodeEvent
  Given : (p : Packet) → NodeEvent
  Calls : (c : CallLine) → NodeEvent
  Garbage : NodeEvent

-- ---- packets

-- a packet of a view is used in that view alone, at its level, in the own domain, where the node is not frozen and
-- the sender with its incarnation is a member
unfoldable pub is_used : Core → Packet → ViewId → Bool
is_used s p v =
    same_view v s.views.view && p.level == s.sessions.level && (p.level == 1 || p.domain == s.config.domain) && not (frozen s)
    && is_member s.views.members p.from p.inc

unfoldable pub used_if : Core → Core → Bool → Core
used_if s t true = t
used_if s t false = s

-- an order to ask for a view does nothing in mode fixed
unfoldable pub take_order : Answering → Core → Mask → Core
take_order f s mask =
    elim (is_fixed s.config.mode) [ true ↦ s | false ↦ views_taken f s (ask_rule (views_at_work s.views) mask (own_parts s)) ]

-- the packets of views
unfoldable pub view_rule : Answering → Core → ℕ → ℕ → ViewPacket → Core
view_rule f s from inc (packet.Prepare v mask) = views_taken f s (prepare_rule (views_at_work s.views) from inc v mask (own_parts s))
view_rule f s from inc (packet.Answer v old parts) = views_taken f s (answer_rule (views_at_work s.views) v (record { node = from; inc = inc; view = old; parts = parts }))
view_rule f s from inc (packet.Refuse v n) = views_taken f s (refuse_rule (views_at_work s.views) v n)
view_rule f s from inc (packet.Install i) = views_taken f s (install_rule (views_at_work s.views) i)
view_rule f s from inc (packet.Taken v) = views_taken f s (taken_rule (views_at_work s.views) from v)

-- the table of packets
unfoldable pub take_body : Answering → Core → Packet → Body → Core
take_body f s p (body.Ring x) = ring_rule s p.network p.from p.inc x
take_body f s p (body.Report rows) = take_report s rows
take_body f s p (body.View x) = view_rule f s p.from p.inc x
take_body f s p (body.Lookup v g) = used_if s (take_lookup s p.from g) (is_used s p v)
take_body f s p (body.Name v g n) = used_if s (take_name s g n) (is_used s p v)
take_body f s p (body.Request v g q r phases x) = used_if s (take_request f s p.from g q r phases x) (is_used s p v)
take_body f s p (body.Tell v g q r y) = used_if s (take_tell s q r y) (is_used s p v)
take_body f s p (body.Entry v g place stable e) = used_if s (take_entry f s p.from g place stable e) (is_used s p v)
take_body f s p (body.Ack v g n) = used_if s (take_ack s p.from g n) (is_used s p v)
take_body f s p (body.Vote v g proto phase q vote value message) = used_if s (take_vote f s g proto phase q vote value message) (is_used s p v)
take_body f s p (body.Gone v g q) = used_if s (take_gone f s g q) (is_used s p v)
take_body f s p (body.Query question what) = send_on s p.network p.from (body.Reply question (status_text s what))
take_body f s p (body.Reply question text) = s

-- a packet for another node is dropped
unfoldable pub packet_rule : Answering → Core → Packet → Core
packet_rule f s p = elim (p.to == s.views.me) [ true ↦ take_body f s p p.body | false ↦ s ]

-- ---- the step

unfoldable pub event_rule : Answering → Core → NodeEvent → Core
event_rule f s Ticks = tick_rule f s
event_rule f s (Asks mask) = end_step f (take_order f s mask)
event_rule f s (Given p) = end_step f (packet_rule f s p)
event_rule f s (Calls c) = end_step f (take_call s c)
event_rule f s Garbage = end_step f s

-- at work, with nothing sent or recorded yet
abbrev pub at_work : Core → Core
at_work s = record s { sends = []; records = [] }

-- The step: the state after it, with what it sends and records. `f` says what clients answer.
unfoldable pub stepped : Answering → Core → NodeEvent → Core
stepped f s e = event_rule f (at_work s) e

-- ---- the start

unfoldable pub own_ring : Config → ℕ → ℕ → ℕ → Ring
own_ring c me inc network = ring_new network me inc (record { addr = addresses_on c network; every = c.every; misses = c.misses })

-- in mode rings, one for each adapter, in network order
unfoldable pub own_rings : Config → Mode → ℕ → ℕ → List Ring
own_rings c Fixed me inc = []
own_rings c Asked me inc = []
own_rings c Rings me inc = map (own_ring c me inc) (networks_of c me)

-- in mode fixed the view of all nodes, else of the node alone
unfoldable pub first_view : Config → Mode → ℕ → ℕ → ViewId
first_view c Fixed me inc = record { number = 1; coord = unwrap_or (least_node c.nodes) me; inc = 1 }
first_view c Asked me inc = record { number = 1; coord = me; inc = inc }
first_view c Rings me inc = record { number = 1; coord = me; inc = inc }

unfoldable pub first_members : Config → Mode → ℕ → ℕ → List Member
first_members c Fixed me inc = map (λ n. record { node = n; inc = 1 }) (nodes_of c.nodes)
first_members c Asked me inc = record { node = me; inc = inc } ∷ []
first_members c Rings me inc = record { node = me; inc = inc } ∷ []

unfoldable pub ring_record : ℕ → Ring → Happened
ring_record me r = happened.Ring me r.net r.id r.members (neighbour r)

-- a node that starts: its state, with what it records
unfoldable pub started : Config → ℕ → ℕ → Core
started c me inc =
    let v : ViewId = first_view c c.mode me inc in
    let ms : List Member = first_members c c.mode me inc in
    let rings : List Ring = own_rings c c.mode me inc in
    let s : Core =
    record {
      config = c;
      views = views_new me inc v ms;
      names = [];
      groups = [];
      sessions = no_sessions me inc;
      rings = rings;
      reach = reach_new me inc;
      sends = [];
      records = happened.Up me inc ∷ map (ring_record me) rings ++ happened.In me v ms ∷ [];
    }
    in
    with_sessions s (level_set s ms)

-- opens each word of this file, for a computation
unfoldable pub step_opens : Unit {0}
unfolding is_used used_if take_order view_rule take_body packet_rule event_rule stepped own_ring own_rings first_view first_members ring_record started
step_opens = tt
