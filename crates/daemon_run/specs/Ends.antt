-- How a daemon ends, and what its clients have heard by then.
use Rattle.std.specs.Prelude.{◌≡◌, ℕ, ◌≤◌, List, ◌++◌, length, Option, Some, None, Result, Ok, Err}
use Rattle.client_callbacks.specs.declared.votes.VoteItem.{VoteItem}
use Rattle.client_callbacks.specs.Handed.{Handed}
use Rattle.hags_io.specs.Telling.{Telling}
use Rattle.link_use.specs.declared.stop.Stop.{Stop}
use Rattle.link_use.specs.declared.stop.Stop.TheVariants as stop
use Rattle.node_state.specs.declared.state.Core.{Core}
use Rattle.node_state.specs.Step.{at_work}
use Rattle.node_core.specs.Node.{NodeView}
use Rattle.world_model.specs.declared.script.Script.{Script}
use Rattle.daemon_model.specs.declared.options.Options.{Options}
use Rattle.daemon_model.specs.Daemon.{Daemon, Life, opening_calls, own_calls, begun_for}
use Rattle.daemon_model.specs.Actions.{Action, did_all, life_actions}
use Rattle.daemon_model.specs.Options.{first_pace, Follows}
use Rattle.daemon_model.specs.Doings.{started_doings, doings_of}
use Rattle.daemon_model.specs.Lives.{ServesAs, ServesTo, ServesToPause, first_of, last_of}
use Rattle.daemon_run.specs.declared.hosted.Hosted.{Hosted}
use Rattle.daemon_run.specs.Hosting.{Known}
use Rattle.daemon_run.specs.Audience.{Audience, no_audience, LifeHands, Attend}
use Rattle.daemon_run.specs.Doing.{WriteFails}

-- These acts, with which the life begins, handed to the clients of the sessions what `last` tells. Where it is known of some
-- of the objects that it was given for which lists they stood, and nothing of the others, each client that is one of those, or
-- none of the objects, stands now for its own list: that of its object or else an empty one, with what was handed to that
-- client behind it, in order.
pub record HandsOver {C : Type 0} (P : Known → Type 0) (R : C → List Handed → Type 0) (votes : C → Option (List (Option VoteItem))) (script : Script) (me incarnation : ℕ) (life : Life) (acts : List Action) (node : NodeView (Hosted C)) : Type 0 where
  pub last : Audience
  pub hands : LifeHands script me incarnation life acts no_audience last
  pub stand : (known : Known) → P known → Attend R votes known node.clients last

-- ---- a write that failed

-- The daemon after these acts, with which its life begins.
abbrev pub daemon_after : Script → ℕ → ℕ → Life → List Action → Daemon
daemon_after script me incarnation life acts = did_all (begun_for life.service script.config me incarnation life.start) acts

-- At most so many turns, and a write failed in the last of these acts, or as the node started where there are none. Each
-- record of theirs was written, the last of them in that write; and the node has come to where they come.
pub record ServesToWrite (script : Script) (me incarnation : ℕ) (options : Options) (turns : ℕ) (core : Core) (old new : Telling) : Type 0 where
  pub life : Life
  pub serves : life.service ≡ options.service
  pub opening : opening_calls life ≡ own_calls me script.lines
  pub follows : Follows options (first_pace life.start) (first_of script me incarnation life) life.turns
  pub at_most : length life.turns ≤ turns
  pub acts : List Action
  pub later : List Action
  pub are : acts ++ later ≡ life_actions life
  pub made : WriteFails old new (started_doings script.config me incarnation life ++ doings_of (begun_for life.service script.config me incarnation life.start) acts)
  pub core_is : core ≡ (daemon_after script me incarnation life acts).core

-- ---- the node that is left

-- it did all its turns, and its clients have what its life handed
pub record LeftByAll {C : Type 0} (P : Known → Type 0) (R : C → List Handed → Type 0) (votes : C → Option (List (Option VoteItem))) (script : Script) (me incarnation : ℕ) (options : Options) (turns : ℕ) (node : NodeView (Hosted C)) (old new : Telling) : Type 0 where
  pub serves : ServesAs script me incarnation options turns (at_work node.core) old new
  pub hands : HandsOver P R votes script me incarnation serves.life (life_actions serves.life) node

-- so many receives failed in a row, and they have what its life handed up to there
pub record LeftByLink {C : Type 0} (P : Known → Type 0) (R : C → List Handed → Type 0) (votes : C → Option (List (Option VoteItem))) (script : Script) (me incarnation : ℕ) (options : Options) (turns : ℕ) (node : NodeView (Hosted C)) (old new : Telling) : Type 0 where
  pub serves : ServesTo script me incarnation options turns old new
  pub core_is : at_work node.core ≡ (last_of script me incarnation serves.life).core
  pub hands : HandsOver P R votes script me incarnation serves.life (life_actions serves.life) node

-- a moment was read that is a pause, and they have what its life handed up to there
pub record LeftByPause {C : Type 0} (P : Known → Type 0) (R : C → List Handed → Type 0) (votes : C → Option (List (Option VoteItem))) (script : Script) (me incarnation : ℕ) (options : Options) (turns : ℕ) (node : NodeView (Hosted C)) (old new : Telling) : Type 0 where
  pub serves : ServesToPause script me incarnation options turns old new
  pub core_is : at_work node.core ≡ (last_of script me incarnation serves.life).core
  pub hands : HandsOver P R votes script me incarnation serves.life (life_actions serves.life) node

-- a write failed, and they have what the acts up to that write handed
pub record LeftByWrite {C : Type 0} (P : Known → Type 0) (R : C → List Handed → Type 0) (votes : C → Option (List (Option VoteItem))) (script : Script) (me incarnation : ℕ) (options : Options) (turns : ℕ) (node : NodeView (Hosted C)) (old new : Telling) : Type 0 where
  pub serves : ServesToWrite script me incarnation options turns (at_work node.core) old new
  pub hands : HandsOver P R votes script me incarnation serves.life serves.acts node

-- By how it ended. By nothing else is its node given back.
abbrev pub LeftBy : {C : Type 0} → (Known → Type 0) → (C → List Handed → Type 0) → (C → Option (List (Option VoteItem))) → Script → ℕ → ℕ → Options → ℕ → Result (Unit {0}) Stop → NodeView (Hosted C) → Telling → Telling → Type 0
LeftBy P R votes script me incarnation options turns (Ok u) node old new = LeftByAll P R votes script me incarnation options turns node old new
LeftBy P R votes script me incarnation options turns (Err stop.LinkFault) node old new = LeftByLink P R votes script me incarnation options turns node old new
LeftBy P R votes script me incarnation options turns (Err stop.Paused) node old new = LeftByPause P R votes script me incarnation options turns node old new
LeftBy P R votes script me incarnation options turns (Err stop.WriteFault) node old new = LeftByWrite P R votes script me incarnation options turns node old new
LeftBy P R votes script me incarnation options turns (Err e) node old new = ⊥

-- a node that has started is given back but where memory ran out
abbrev pub left_of : {C : Type 0} → Result (Unit {0}) Stop → NodeView (Hosted C) → Option (NodeView (Hosted C))
left_of (Err stop.NoMemory) node = None
left_of end node = Some node
