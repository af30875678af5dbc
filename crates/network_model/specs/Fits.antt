-- What is asked of a network, act by act: what operators, links and clients have to keep to.
use Rattle.std.specs.Prelude.{ℕ, ◌≤◌, ◌<◌, ◌≡◌, ◌⊎◌, true, false, List, [], ◌∷◌, Option, Some, None}
use Rattle.rsct_packet.specs.Ids.{last_u32}
use Rattle.hags_io.specs.declared.link.LinkCall.{LinkCall}
use Rattle.hags_io.specs.declared.link.LinkCall.TheVariants as call
use Rattle.piece_link.specs.Pieces.{Piece, piece_at}
use Rattle.piece_link.specs.Joining.{is_status}
use Rattle.piece_link.specs.Answers.{Among}
use Rattle.node_state.specs.declared.config.Config.{Config}
use Rattle.node_state.specs.declared.packet.Body.{Body}
use Rattle.node_state.specs.declared.packet.Body.TheVariants as body
use Rattle.node_state.specs.declared.packet.Packet.{Packet}
use Rattle.node_state.specs.Settings.{is_fixed}
use Rattle.node_state.specs.Bytes.{packet_of}
use Rattle.daemon_model.specs.Sent.{Exchange, IsSpelledIf}
use Rattle.daemon_model.specs.Daemon.{Daemon}
use Rattle.daemon_model.specs.Actions.{Action, Opens, Ticks, EndsKey, Mends, Hears}
use Rattle.network_model.specs.Network.{Act, Begins, Does, Ends, Net, no_net, acted}

-- ---- what a receive brings

abbrev pub IsQuestion : Body → Type 0
IsQuestion (body.Query question what) = Unit {0}
IsQuestion _ = ⊥

-- bytes that are no packet, or a question
abbrev pub AsksAtMost : Option Packet → Type 0
AsksAtMost None = Unit {0}
AsksAtMost (Some p) = IsQuestion p.body

-- a client's: a whole message of sender 0 that is a question of a status client, or no packet, as whatever a client on
-- another machine says (`client_text_is_no_packet`)
abbrev pub IsOfClient : Option Piece → Type 0
IsOfClient None = ⊥
IsOfClient (Some p) = (is_status p.head ≡ true) × AsksAtMost (packet_of p.text)

-- a send of these bytes
abbrev pub IsSend : List ℕ → LinkCall → Type 0
IsSend bytes (call.Sent node network piece out) = piece ≡ bytes
IsSend bytes _ = ⊥

-- these bytes were sent, in a send of which this holds
pub record WasSent (P : Exchange → Type 0) (bytes : List ℕ) (wire : List Exchange) : Type 0 where
  pub send : Exchange
  pub among : Among send wire
  pub is : IsSend bytes send.call
  pub holds : P send

-- A datagram was sent, in this sense, by whatever daemon and to whatever node; or is no piece; or is a client's. So it may be
-- lost, come late, in any order, any number of times and to the wrong node; and it is never altered. A receive may also bring
-- nothing, or fail; it sends nothing.
abbrev pub MayCome : (List ℕ → Type 0) → LinkCall → Type 0
MayCome IsSent (call.Received network bytes) = IsSent bytes ⊎ (piece_at bytes ≡ None) ⊎ IsOfClient (piece_at bytes)
MayCome IsSent (call.Sent node network bytes out) = ⊥
MayCome IsSent call.Quiet = Unit {0}
MayCome IsSent call.Failed = Unit {0}

-- a send is a piece of a packet that is spelled, or of another message whose number fits
abbrev pub IsSpelledSend : Exchange → Type 0
IsSpelledSend x = IsSpelledIf x.of

-- ---- acts

-- a node from 1 to 32 starts, in a greater incarnation than all those before, where no daemon of it is up
pub record MayBegin (net : Net) (n incarnation : ℕ) : Type 0 where
  pub some : 1 ≤ n
  pub most : n ≤ 32
  pub down : net.daemons n ≡ None
  pub later : net.incarnations n < incarnation
  pub fits : incarnation ≤ last_u32

-- A receive brings what was sent before it, in a send of which this holds: not all that the definition of a daemon sends need
-- have been sent, since it may end in the midst of an act. Every other act of a daemon may happen at any time.
abbrev pub MayDo : (Exchange → Type 0) → List Exchange → Action → Type 0
MayDo P wire (Opens opening) = Unit {0}
MayDo P wire (Ticks moment answers) = Unit {0}
MayDo P wire (EndsKey key answers) = Unit {0}
MayDo P wire (Mends answers) = Unit {0}
MayDo P wire (Hears got answers) = MayCome (λ bytes. WasSent P bytes wire) got

-- a daemon of the node is up, and this holds of it
abbrev pub OfUp : (Daemon → Type 0) → Option Daemon → Type 0
OfUp P None = ⊥
OfUp P (Some d) = P d

abbrev pub MayAct : (Exchange → Type 0) → Net → Act → Type 0
MayAct P net (Begins n incarnation moment service) = MayBegin net n incarnation
MayAct P net (Does n action) = OfUp (λ d. MayDo P net.wire action) (net.daemons n)
MayAct P net (Ends n) = OfUp (λ d. Unit {0}) (net.daemons n)

abbrev pub AllMayAct : (Exchange → Type 0) → Config → Net → List Act → Type 0
AllMayAct P c net [] = Unit {0}
AllMayAct P c net (a ∷ acts) = MayAct P net a × AllMayAct P c (acted c net a) acts

-- Acts are those of a run of a network in the domain of these settings, which all its daemons have. Outside of mode fixed,
-- since a daemon of that mode starts with a view of all nodes in their first incarnations. Of each send that is received
-- this holds.
pub record NetworkRun (P : Exchange → Type 0) (c : Config) (acts : List Act) : Type 0 where
  pub mode : is_fixed c.mode ≡ false
  pub may : AllMayAct P c no_net acts
