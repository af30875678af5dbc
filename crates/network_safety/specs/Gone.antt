-- A client whose key ends is gone: its name is free, none of its providers is left, and whoever leads their groups is told so.
use Rattle.std.specs.Prelude.{ℕ, ◌≡◌, false, List, Option, Some}
use Rattle.rsct_packet.specs.Search.{Has}
use Rattle.session_state.specs.declared.state.Provider.{Provider}
use Rattle.session_state.specs.declared.state.Session.{Session}
use Rattle.node_state.specs.declared.call.CallLine.TheVariants as call
use Rattle.node_state.specs.declared.config.Config.{Config}
use Rattle.node_state.specs.declared.packet.Body.TheVariants as body
use Rattle.node_state.specs.declared.packet.Packet.{Packet}
use Rattle.node_state.specs.declared.state.Core.{Core}
use Rattle.node_state.specs.HandOn.{Answering}
use Rattle.node_state.specs.State.{frozen, leader_of}
use Rattle.node_state.specs.Step.{Calls, stepped}
use Rattle.daemon_model.specs.Daemon.{Daemon, goodbye_in, key_over}
use Rattle.daemon_model.specs.Actions.{Action, Opens, Ticks, EndsKey, Mends, Hears, did}
use Rattle.network_model.specs.Network.{Act, net_after}
use Rattle.network_model.specs.Fits.{IsSpelledSend, NetworkRun}

-- no client of the node has this name
abbrev pub IsFree : List ℕ → Core → Type 0
IsFree name s = (y : Session) → Has y s.sessions.sessions → y.name ≡ name → ⊥

-- the provider is one of the client of this name
pub record IsOf (name : List ℕ) (s : Core) (x : Provider) : Type 0 where
  pub session : Session
  pub there : Has session s.sessions.sessions
  pub token : session.token.number ≡ x.client.number
  pub named : session.name ≡ name

-- a packet that says that the provider is gone, to this leader of its group
pub record SaysGone (s : Core) (x : Provider) (leader : ℕ) (q : Packet) : Type 0 where
  pub receiver : q.to ≡ leader
  pub says : q.body ≡ body.Gone s.views.view x.group x.provider

-- from a node to the same node behind a step, which sends these packets
pub record IsGone (name : List ℕ) (s t : Core) (sends : List Packet) : Type 0 where
  pub free : IsFree name t
  pub ended : (x z : Provider) → Has x s.sessions.providers → IsOf name s x → Has z t.sessions.providers → z.provider ≡ x.provider → ⊥
  pub told : (x : Provider) (leader : ℕ) → Has x s.sessions.providers → IsOf name s x → frozen s ≡ false → leader_of s x.group ≡ Some leader → (q : Packet) × Has q sends × SaysGone s x leader q

-- In any network and at any moment: where a key of a daemon ends whose client has said no goodbye, that client is gone behind it.
-- Each of its providers is let go, and where the node is not frozen and knows the leader of the provider's group, GONE is sent
-- to that.
abbrev pub ClientsOfEndedKeysAreGone : Type 0
ClientsOfEndedKeysAreGone =
    (c : Config) (acts : List Act) → NetworkRun IsSpelledSend c acts → (n : ℕ) (d : Daemon) → (net_after c acts).daemons n ≡ Some d → (key : ℕ) (f : Answering) (name : List ℕ) → goodbye_in d.sessions key ≡ Some (call.Goodbye name)
    → IsGone name d.core (key_over key f d).core (stepped f d.core (Calls (call.Goodbye name))).sends

-- a tick, the end of a key, or an order to mend
abbrev pub IsOwnAction : Action → Type 0
IsOwnAction (Opens opening) = ⊥
IsOwnAction (Ticks moment answers) = Unit {0}
IsOwnAction (EndsKey key answers) = Unit {0}
IsOwnAction (Mends answers) = Unit {0}
IsOwnAction (Hears got answers) = ⊥

-- and its name stays free in all that a daemon does of its own
abbrev pub NamesStayFree : Type 0
NamesStayFree = (name : List ℕ) (d : Daemon) (a : Action) → IsOwnAction a → IsFree name d.core → IsFree name (did d a).core
