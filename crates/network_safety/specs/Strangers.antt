-- What cannot change a node: bytes that are no packet, a packet to another node, and a group's packet that is not used.
use Rattle.std.specs.Prelude.{ℕ, ◌≡◌, ◌⊎◌, ◌==◌, false, List, Option, Some, None}
use Rattle.rsct_packet.specs.declared.ids.ViewId.{ViewId}
use Rattle.node_state.specs.declared.config.Config.{Config}
use Rattle.node_state.specs.declared.packet.Body.{Body}
use Rattle.node_state.specs.declared.packet.Body.TheVariants as body
use Rattle.node_state.specs.declared.packet.Packet.{Packet}
use Rattle.node_state.specs.declared.state.Core.{Core}
use Rattle.node_state.specs.HandOn.{Answering}
use Rattle.node_state.specs.Bytes.{packet_of, event_of}
use Rattle.node_state.specs.Step.{at_work, is_used, stepped}
use Rattle.daemon_model.specs.Daemon.{Daemon}
use Rattle.network_model.specs.Network.{Act, net_after}
use Rattle.network_model.specs.Fits.{IsSpelledSend, NetworkRun}

-- the view in which a group's packet was sent
abbrev pub group_view : Body → Option ViewId
group_view (body.Lookup v g) = Some v
group_view (body.Name v g leader) = Some v
group_view (body.Request v g q r phases x) = Some v
group_view (body.Tell v g q r why) = Some v
group_view (body.Entry v g place stable e) = Some v
group_view (body.Ack v g place) = Some v
group_view (body.Vote v g proto phase q vote value message) = Some v
group_view (body.Gone v g q) = Some v
group_view _ = None

-- a group's packet that is not used: it is of another view, level or domain, its sender is no member there, or the node is
-- frozen
abbrev pub IsUnusedIf : Core → Packet → Option ViewId → Type 0
IsUnusedIf s p None = ⊥
IsUnusedIf s p (Some v) = is_used s p v ≡ false

-- no packet, or one to another node, or one that is not used
abbrev pub IsNothingAt : Core → Option Packet → Type 0
IsNothingAt s None = Unit {0}
IsNothingAt s (Some p) = (p.to == s.views.me ≡ false) ⊎ IsUnusedIf s p (group_view p.body)

-- such a message changes nothing of a daemon's node, in any network and at any moment: the node sends and records nothing,
-- whatever its clients would answer
abbrev pub StrangersChangeNothing : Type 0
StrangersChangeNothing =
    (c : Config) (acts : List Act) → NetworkRun IsSpelledSend c acts → (n : ℕ) (d : Daemon) → (net_after c acts).daemons n ≡ Some d → (f : Answering) (message : List ℕ) → IsNothingAt d.core (packet_of message)
    → stepped f d.core (event_of message) ≡ at_work d.core

-- a group's packet of level 2 is not used where its domain is another one
abbrev pub OtherDomainsAreUnused : Type 0
OtherDomainsAreUnused = (s : Core) (p : Packet) (v : ViewId) → p.level ≡ 2 → (p.domain == s.config.domain) ≡ false → is_used s p v ≡ false
