-- How the play of a script ends whose clients are of any kind.
use Rattle.std.specs.Prelude.{◌≡◌, ℕ, List, [], ◌++◌, Option, Some, None, Result, Ok, Err}
use Rattle.std.specs.Io.KnownBytes.{Appends}
use Rattle.hags_io.specs.Edges.{GrowsByFront}
use Rattle.rsct_packet.specs.Lists.{reverse_onto}
use Rattle.client_callbacks.specs.Handed.{Handed}
use Rattle.node_state.specs.declared.config.Config.{Config}
use Rattle.node_state.specs.declared.happened.Happened.{Happened}
use Rattle.world_model.specs.declared.script.Script.{Script}
use Rattle.world_model.specs.World.{world_new}
use Rattle.world_laws.specs.world_answers.Answers.{Items, Answered}
use Rattle.world_laws.specs.world_answers.Plays.{AnsweredPlay, starting, PlaysLines}
use Rattle.world_laws.specs.world_answers.Limits.{answered_in, limited}
use Rattle.net_script.specs.Safe.{IsSafe, MayPlay}
use Rattle.net_script.specs.declared.world.World.{World}
use Rattle.net_script.specs.Standing.{Stands}
use Rattle.run_hands.specs.Hands.{Logs, LogsStand, RunHands, empty_logs}
use Rattle.run_hands.specs.Logs.{StatesAreFolds}
use Rattle.transcript.specs.declared.kinds.Kinds.{Kinds}
use Rattle.transcript.specs.Kinds.{kinds_text}
use Rattle.play_state.specs.declared.play_fault.PlayFault.{PlayFault}
use Rattle.play_state.specs.declared.play_fault.PlayFault.TheVariants as play_fault

-- the records of a play, in order, and those before its packets pass a number of bytes
abbrev pub records_in : AnsweredPlay → List Happened
records_in p = reverse_onto p.world.trace []

abbrev pub records_within : ℕ → Config → AnsweredPlay → List Happened
records_within limit c p = reverse_onto (limited limit c p).world.trace []

-- where its packets pass the limit, the text of what is recorded before that was written; else a front of it
abbrev pub StopsAs : PlayFault → Kinds → ℕ → Config → AnsweredPlay → Option (List ℕ) → Option (List ℕ) → Type 0
StopsAs (play_fault.Kept n) kinds limit c p old new = ((limited limit c p).passed ≡ Some n) × Appends old new (kinds_text kinds (records_within limit c p))
StopsAs play_fault.WriteFault kinds limit c p old new = GrowsByFront old new (kinds_text kinds (records_within limit c p))
StopsAs play_fault.NoMemory kinds limit c p old new = GrowsByFront old new (kinds_text kinds (records_within limit c p))

-- the packets are within the limit, the text of all records was written, and the world stands for that at the end
abbrev pub EndsAs : {C : Type 0} → (C → Option Items) → (Items → Option Items) → Result (World C) PlayFault → Kinds → ℕ → Config → AnsweredPlay → Option (List ℕ) → Option (List ℕ) → Type 0
EndsAs script said (Ok w) kinds limit c p old new =
    ((limited limit c p).passed ≡ None) × (records_within limit c p ≡ records_in p) × Appends old new (kinds_text kinds (records_in p)) × Stands script said w p.world
EndsAs script said (Err e) kinds limit c p old new = StopsAs e kinds limit c p old new

-- the records before its packets pass a number of bytes are those of a safe run: that of a front of its events
abbrev pub FrontIsSafe : ℕ → Config → AnsweredPlay → Type 0
FrontIsSafe limit c p = (es : List Answered) × (fs : List Answered) × (answered_in p ≡ es ++ fs) × IsSafe c es (records_within limit c p)

-- each client of the world at the end stands for what the run of the play handed to it, in order, and for what it filled;
-- and so did those that are gone
abbrev pub ClientsStand : {C : Type 0} → (C → List Handed → Type 0) → Result (World C) PlayFault → Config → AnsweredPlay → Type 0
ClientsStand R (Ok w) c p = (logs : Logs) × RunHands R (world_new c) (answered_in p) (empty_logs (world_new c)) logs × LogsStand R w.nodes logs
ClientsStand R (Err e) c p = Unit {0}

-- the script was played: with what the clients answered, its lines come to this play, and it ended like this; its clients
-- stand for what they were handed; and where the lines of the script may happen the run of the play is safe, the whole
-- one and up to the event that passes the limit, and the states that come with what clients hear are folds
pub record PlayedAs {C : Type 0} (script : C → Option Items) (said : Items → Option Items) (R : C → List Handed → Type 0) (r : Result (World C) PlayFault) (kinds : Kinds) (limit : ℕ) (x : Script) (old new : Option (List ℕ)) : Type 0 where
  pub play : AnsweredPlay
  pub lines : PlaysLines said (starting x.config) x.lines play
  pub ends : EndsAs script said r kinds limit x.config play old new
  pub hands : ClientsStand R r x.config play
  pub safe : MayPlay x → IsSafe x.config (answered_in play) (records_in play)
  pub safe_front : MayPlay x → FrontIsSafe limit x.config play
  pub folds : MayPlay x → StatesAreFolds R x.config (answered_in play)
