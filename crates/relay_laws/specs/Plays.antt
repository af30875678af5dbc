-- Every play of a script with relays is safe, also up to the event whose datagrams pass a number of bytes.
use Rattle.std.specs.Prelude.{ℕ, ◌≡◌, ◌++◌, true, List}
use Rattle.node_state.specs.declared.config.Config.{Config}
use Rattle.node_state.specs.declared.happened.Happened.{Happened}
use Rattle.world_model.specs.declared.event.Event.{Event}
use Rattle.world_model.specs.declared.script.Script.{Script}
use Rattle.run_safety.specs.Past as past
use Rattle.run_laws.specs.ring_runs.Rings.{NetworkAgrees}
use Rattle.run_laws.specs.seen_runs.Rings.{RingsSeen}
use Rattle.world_laws.specs.world_answers.Answers.{Answered}
use Rattle.world_safety.specs.Scripts.{IsSafe, history_in}
use Rattle.world_safety.specs.Plays.{MayPlay}
use Rattle.relay_model.specs.Play.{events_of, script_records, all_worded}
use Rattle.relay_model.specs.Limits.{kept_records}
use Rattle.relay_laws.specs.Direct.{AreDirect}

-- These are the records of the run with relays of these events, where the clients vote by the words of a script: those of a safe run of
-- the direct world, event by event; and the rings of every network agree, as the addresses of each network differ.
pub record IsSafeRelayedScript (c : Config) (es : List Event) (rs : List Happened) : Type 0 where
  pub direct : List Answered
  pub are : AreDirect c (all_worded c es) direct
  pub safe : IsSafe c direct rs
  pub rings : (net : ℕ) → NetworkAgrees c net (history_in c direct)
  pub rings_seen : (net : ℕ) → RingsSeen net (past.records_of (history_in c direct))

-- of a script that has begun
abbrev pub ScriptIsSafe : Script → Type 0
ScriptIsSafe s = s.begun ≡ true → IsSafeRelayedScript s.config (events_of s.config s.lines) (script_records s)

-- up to the event whose datagrams pass a number of bytes they are those of a front of its events
abbrev pub KeptRunIsSafe : ℕ → Script → Type 0
KeptRunIsSafe limit s = s.begun ≡ true → (es : List Event) × (fs : List Event) × (events_of s.config s.lines ≡ es ++ fs) × IsSafeRelayedScript s.config es (kept_records limit s)

abbrev pub EveryRelayedPlayIsSafe : Type 0
EveryRelayedPlayIsSafe = (s : Script) → MayPlay s → ScriptIsSafe s

abbrev pub EveryKeptRelayedPlayIsSafe : Type 0
EveryKeptRelayedPlayIsSafe = (limit : ℕ) (s : Script) → MayPlay s → KeptRunIsSafe limit s
