-- How a daemon that runs does of its own what its options ask.
use Rattle.std.specs.Prelude.{◌≡◌, ℕ, List, ◌++◌, map, Option, is_some}
use Rattle.hags_io.specs.Telling.{Telling}
use Rattle.node_state.specs.declared.happened.Happened.{Happened}
use Rattle.node_state.specs.declared.state.Core.{Core}
use Rattle.node_state.specs.HandOn.{Answering}
use Rattle.daemon_model.specs.declared.options.Options.{Options}
use Rattle.daemon_model.specs.Sent.{Exchange}
use Rattle.daemon_model.specs.Daemon.{Daemon, KeyEnd, goodbye_in, key_over, keys_over}
use Rattle.daemon_model.specs.Actions.{Action, key_action, mend_actions}
use Rattle.daemon_model.specs.Doings.{doings_of, MadeFront}
use Rattle.daemon_model.specs.Options.{keys_due, apart_for, is_long_apart, apart_left}
use Rattle.daemon_run.specs.declared.hosted.Hosted.{Hosted}
use Rattle.daemon_run.specs.declared.running.Running.{Running}
use Rattle.daemon_run.specs.Hosting.{Known}
use Rattle.daemon_run.specs.Audience.{Audience, LineHands}
use Rattle.daemon_run.specs.Doing.{daemon_of, Goes, Breaks, Fails, Acts, ActsBreak, ActsFail, Attends}

-- ---- the end of a key

pub record KeyEndsAs {C : Type 0} (A : Known → List (Hosted C) → Audience → Type 0) (r s : Running C) (old new : Telling) (key : ℕ) : Type 0 where
  pub answers : Answering
  pub goes : Goes r s old new (key_over key answers)
  pub attends : Attends A A r s (λ d. LineHands (goodbye_in d.sessions key) answers d.core)

pub record KeyEndBreaks {C : Type 0} (r : Running C) (old new : Telling) (key : ℕ) : Type 0 where
  pub answers : Answering
  pub breaks : Breaks r old new (key_over key answers)

pub record KeyEndFails {C : Type 0} (A : Known → List (Hosted C) → Audience → Type 0) (r s : Running C) (old new : Telling) (key : ℕ) : Type 0 where
  pub answers : Answering
  pub fails : Fails r s old new (key_over key answers)
  pub attends : Attends A A r s (λ d. LineHands (goodbye_in d.sessions key) answers d.core)

-- ---- keys, one after another

abbrev pub keys_of : List KeyEnd → List ℕ
keys_of ends = map (λ (e : KeyEnd). e.key) ends

pub record KeysEnd {C : Type 0} (A : Known → List (Hosted C) → Audience → Type 0) (r s : Running C) (keys : List ℕ) (old new : Telling) : Type 0 where
  pub ends : List KeyEnd
  pub are : keys_of ends ≡ keys
  pub acts : Acts A A r s old new (map key_action ends)

pub record KeysBreak {C : Type 0} (r : Running C) (keys : List ℕ) (old new : Telling) : Type 0 where
  pub ends : List KeyEnd
  pub are : keys_of ends ≡ keys
  pub breaks : ActsBreak r old new (map key_action ends)

-- in the last of those that ended a write failed
pub record KeysFail {C : Type 0} (A : Known → List (Hosted C) → Audience → Type 0) (r s : Running C) (keys : List ℕ) (old new : Telling) : Type 0 where
  pub ends : List KeyEnd
  pub later : List ℕ
  pub are : keys_of ends ++ later ≡ keys
  pub fails : ActsFail A A r s old new (map key_action ends)

-- ---- all that it does of its own behind a tick of its node

-- which keys end, and whether it mends; it was apart at so many ticks in a row before
pub record OwnTurn (o : Options) (ticks : ℕ) (d : Daemon) : Type 0 where
  pub ends : List KeyEnd
  pub mends : Option Answering
  pub due : keys_of ends ≡ keys_due o.silence d.sessions
  pub long : is_some mends ≡ is_long_apart o.mend (apart_for o.mend ticks (keys_over ends d).core)

abbrev pub own_acts : List KeyEnd → Option Answering → List Action
own_acts ends mends = map key_action ends ++ mend_actions mends

-- it did it, and is apart at so many ticks in a row then
pub record OwnAs {C : Type 0} (A : Known → List (Hosted C) → Audience → Type 0) (o : Options) (ticks left : ℕ) (r s : Running C) (old new : Telling) : Type 0 where
  pub ends : List KeyEnd
  pub mends : Option Answering
  pub due : keys_of ends ≡ keys_due o.silence r.sessions
  pub core : Core
  pub core_is : (before : List Exchange) (noted : List Happened) → (keys_over ends (daemon_of r before noted)).core ≡ core
  pub long : is_some mends ≡ is_long_apart o.mend (apart_for o.mend ticks core)
  pub left_is : left ≡ apart_left (apart_for o.mend ticks core) (is_some mends)
  pub acts : Acts A A r s old new (own_acts ends mends)

-- of its doings there is a front
pub record OwnFront (o : Options) (ticks : ℕ) (d : Daemon) (old new : Telling) : Type 0 where
  pub own : OwnTurn o ticks d
  pub made : MadeFront old new (doings_of d (own_acts own.ends own.mends))

abbrev pub OwnBreaks : {C : Type 0} → Options → ℕ → Running C → Telling → Telling → Type 0
OwnBreaks o ticks r old new = (before : List Exchange) (noted : List Happened) → OwnFront o ticks (daemon_of r before noted) old new

-- these are the first of its acts
pub record OwnRest (o : Options) (ticks : ℕ) (d : Daemon) (acts : List Action) : Type 0 where
  pub own : OwnTurn o ticks d
  pub later : List Action
  pub are : acts ++ later ≡ own_acts own.ends own.mends

-- in the last of its acts that it did a write failed
pub record OwnFails {C : Type 0} (A : Known → List (Hosted C) → Audience → Type 0) (o : Options) (ticks : ℕ) (r s : Running C) (old new : Telling) : Type 0 where
  pub acts : List Action
  pub fails : ActsFail A A r s old new acts
  pub rest : (before : List Exchange) (noted : List Happened) → OwnRest o ticks (daemon_of r before noted) acts
