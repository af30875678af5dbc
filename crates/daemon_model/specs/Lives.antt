-- How a daemon that ran over an outside lived as it is defined.
use Rattle.std.specs.Prelude.{◌≡◌, ℕ, ◌<◌, ◌≤◌, true, List, [], ◌∷◌, length}
use Rattle.hags_io.specs.Deeds.{Read}
use Rattle.hags_io.specs.Telling.{Telling, Did}
use Rattle.node_state.specs.declared.state.Core.{Core}
use Rattle.world_model.specs.declared.script.Script.{Script}
use Rattle.daemon_model.specs.Daemon.{Daemon, Life, Turn, opening_calls, own_calls, begun_for, opened_all, turned, lived}
use Rattle.daemon_model.specs.declared.options.Options.{Options}
use Rattle.daemon_model.specs.Options.{is_pause, first_pace, Follows, paced_all}
use Rattle.daemon_model.specs.Doings.{life_doings, Made, MadeFront}

-- so many receives that fail in a row end a daemon
abbrev pub most_failed : ℕ
most_failed = 16

-- the daemon as it is once it carried out the calls of the settings
abbrev pub first_of : Script → ℕ → ℕ → Life → Daemon
first_of script me incarnation life = opened_all (begun_for life.service script.config me incarnation life.start) life.opening

abbrev pub last_of : Script → ℕ → ℕ → Life → Daemon
last_of script me incarnation life = lived script.config me incarnation life

-- after no turn did so many receives in a row fail
abbrev pub GoesOn : Daemon → List Turn → Type 0
GoesOn d [] = Unit {0}
GoesOn d (t ∷ ts) = ((turned d t).failed < most_failed) × GoesOn (turned d t) ts

-- The daemon lived this life with these options: its calls are those of the settings, and what it did of its own is what the
-- options ask for; and what it did are the doings of that life, in their order.
pub record Lived (script : Script) (me incarnation : ℕ) (options : Options) (life : Life) (old new : Telling) : Type 0 where
  pub serves : life.service ≡ options.service
  pub opening : opening_calls life ≡ own_calls me script.lines
  pub follows : Follows options (first_pace life.start) (first_of script me incarnation life) life.turns
  pub made : Made old new (life_doings script.config me incarnation life)

-- It broke off on the way: what it did are a front of those doings.
pub record LivedFront (script : Script) (me incarnation : ℕ) (options : Options) (life : Life) (old new : Telling) : Type 0 where
  pub serves : life.service ≡ options.service
  pub opening : opening_calls life ≡ own_calls me script.lines
  pub follows : Follows options (first_pace life.start) (first_of script me incarnation life) life.turns
  pub made : MadeFront old new (life_doings script.config me incarnation life)

-- it did all its turns, and its node is in this state
pub record ServesAs (script : Script) (me incarnation : ℕ) (options : Options) (turns : ℕ) (core : Core) (old new : Telling) : Type 0 where
  pub life : Life
  pub lived : Lived script me incarnation options life old new
  pub so_many : length life.turns ≡ turns
  pub goes_on : GoesOn (first_of script me incarnation life) life.turns
  pub core_is : core ≡ (last_of script me incarnation life).core

-- at most so many turns, and in the last of them the receive failed, and so many before it in a row
pub record ServesTo (script : Script) (me incarnation : ℕ) (options : Options) (turns : ℕ) (old new : Telling) : Type 0 where
  pub life : Life
  pub lived : Lived script me incarnation options life old new
  pub at_most : length life.turns ≤ turns
  pub ended : most_failed ≤ (last_of script me incarnation life).failed

-- the moment of the last turn, or of the start
abbrev pub last_moment : Script → ℕ → ℕ → Options → Life → ℕ
last_moment script me incarnation options life = (paced_all options (first_pace life.start) (first_of script me incarnation life) life.turns).before

-- fewer turns, and then it read a moment that is a pause, and did no more
pub record ServesToPause (script : Script) (me incarnation : ℕ) (options : Options) (turns : ℕ) (old new : Telling) : Type 0 where
  pub life : Life
  pub before : Telling
  pub lived : Lived script me incarnation options life old before
  pub fewer : length life.turns < turns
  pub moment : ℕ
  pub read : Did before new (Read moment ∷ [])
  pub pause : is_pause options.gap (last_moment script me incarnation options life) moment ≡ true

-- at most so many turns, and it broke off in the last of them, or before them; or it did them all
pub record ServesFront (script : Script) (me incarnation : ℕ) (options : Options) (turns : ℕ) (old new : Telling) : Type 0 where
  pub life : Life
  pub lived : LivedFront script me incarnation options life old new
  pub at_most : length life.turns ≤ turns
