-- What a daemon does at once: its acts, one after another. A life is a list of them, and so is what a daemon did up to now.
use Rattle.std.specs.Prelude.{ℕ, ◌≡◌, List, [], ◌∷◌, ◌++◌, map, fold, flat_map, Option, Some, None}
use Rattle.hags_io.specs.declared.link.LinkCall.{LinkCall}
use Rattle.node_state.specs.declared.config.Config.{Config}
use Rattle.node_state.specs.HandOn.{Answering}
use Rattle.daemon_model.specs.Daemon.{Daemon, Opening, KeyEnd, Turn, Life, begun_for, opened, ticked, key_over, mended, heard, lived}

-- It carries out a call of its settings; it reads the clock, and ticks where that is due; it ends a key, or mends; or it
-- receives. Each has all that comes from outside. In each what is sent comes behind what is received.
pub data Action : Type 0 where
  Opens : (opening : Opening) → Action
  Ticks : (moment : ℕ) (answers : Answering) → Action
  EndsKey : (key : ℕ) (answers : Answering) → Action
  Mends : (answers : Answering) → Action
  Hears : (got : LinkCall) (answers : Answering) → Action

unfoldable pub did : Daemon → Action → Daemon
did d (Opens opening) = opened d opening
did d (Ticks moment answers) = ticked moment answers d
did d (EndsKey key answers) = key_over key answers d
did d (Mends answers) = mended answers d
did d (Hears got answers) = heard got answers d

unfoldable pub did_all : Daemon → List Action → Daemon
did_all d actions = fold did d actions

abbrev pub key_action : KeyEnd → Action
key_action e = EndsKey e.key e.answers

abbrev pub mend_actions : Option Answering → List Action
mend_actions None = []
mend_actions (Some f) = Mends f ∷ []

-- what it does of its own in a turn
abbrev pub own_actions : Turn → List Action
own_actions t = map key_action t.ends ++ mend_actions t.mends

-- a turn is its tick, what the daemon does of its own, and its receive
abbrev pub turn_actions : Turn → List Action
turn_actions t = Ticks t.moment t.tick ∷ own_actions t ++ Hears t.got t.answers ∷ []

abbrev pub life_actions : Life → List Action
life_actions life = map Opens life.opening ++ flat_map turn_actions life.turns

-- a daemon after a life is that after its acts
abbrev pub LivesAreActions : Type 0
LivesAreActions = (c : Config) (me incarnation : ℕ) (life : Life) → lived c me incarnation life ≡ did_all (begun_for life.service c me incarnation life.start) (life_actions life)

-- opens each word of this file, for a computation
unfoldable pub actions_opens : Unit {0}
unfolding did did_all
actions_opens = tt
