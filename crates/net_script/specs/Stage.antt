-- A play as it runs, and the definitions' play that it stands for, whatever its clients answer.
use Rattle.std.specs.Prelude.{◌≡◌, ℕ, List, ◌++◌, fold, Option, Result, Ok, Err}
use Rattle.std.specs.Io.KnownBytes.{Appends}
use Rattle.hags_io.specs.Edges.{GrowsByFront}
use Rattle.client_callbacks.specs.Handed.{Handed}
use Rattle.node_state.specs.declared.happened.Happened.{Happened}
use Rattle.node_core.specs.Node.{NodeView}
use Rattle.world_model.specs.World.{World}
use Rattle.world_laws.specs.world_runs.Runs.{SameRun, Recorded}
use Rattle.world_laws.specs.world_answers.Answers.{Items, Answered, goes_on}
use Rattle.world_laws.specs.world_answers.Plays.{AnsweredPlay}
use Rattle.world_laws.specs.world_answers.Limits.{AnsweredRuns, AnsweredEnds, AnsweredTells, Grew}
use Rattle.load_script.specs.Counting.{counted}
use Rattle.net_script.specs.Standing.{Stands}
use Rattle.net_script.specs.Writing.{Writes}
use Rattle.run_hands.specs.Hands.{Logs, LogsStand, RunHands}
use Rattle.transcript.specs.declared.kinds.Kinds.{Kinds}
use Rattle.transcript.specs.Kinds.{kinds_text}
use Rattle.net_script.specs.declared.stage.Stage.{Stage}
use Rattle.play_state.specs.declared.play_fault.PlayFault.{PlayFault}
use Rattle.play_state.specs.declared.play_fault.PlayFault.TheVariants as play_fault

-- the play stands for this one; its plain events alone make the world v
pub record At {C : Type 0} (script : C → Option Items) (said : Items → Option Items) (s : Stage C) (p : AnsweredPlay) (v : World) : Type 0 where
  pub stands : Stands script said s.world p.world
  pub cuts : p.cuts ≡ s.cuts
  pub same : SameRun p.world v

-- from a world on, these events make the one nodes into the other: where each client stood for what its log told, it
-- stands for that and for what they hand to it
abbrev pub RunHears : {C : Type 0} → (C → List Handed → Type 0) → List (NodeView C) → List (NodeView C) → World → List Answered → Type 0
RunHears R ns ms w es = (old : Logs) → LogsStand R ns old → (new : Logs) × RunHands R w es old new × LogsStand R ms new

-- the play went on from p to q by these events, within the limit, and they recorded this, which was counted
pub record Moved {C : Type 0} (script : C → Option Items) (said : Items → Option Items) (R : C → List Handed → Type 0) (s t : Stage C) (p q : AnsweredPlay) (v u : World) (es : List Answered) (rs : List Happened) : Type 0 where
  pub happens : Grew p q es
  pub runs : AnsweredRuns s.world.limit s.world.kept v es t.world.kept u
  pub limit : t.world.limit ≡ s.world.limit
  pub recorded : Recorded v u rs
  pub counts : t.counts ≡ counted s.counts rs
  pub comes : u ≡ fold goes_on v es
  pub hears : RunHears R s.world.nodes t.world.nodes v es
  pub at : At script said t q u

-- and what they recorded was written, or is left to be
pub record Went {C : Type 0} (script : C → Option Items) (said : Items → Option Items) (R : C → List Handed → Type 0) (kinds : Kinds) (a b : Option (List ℕ)) (s t : Stage C) (p q : AnsweredPlay) (v : World) : Type 0 where
  pub events : List Answered
  pub records : List Happened
  pub world : World
  pub moved : Moved script said R s t p q v world events records
  pub written : Writes a s.text.items b t.text.items (kinds_text kinds records)

-- on the way from p to q an event passed the limit with this sum, and what was left and was recorded before it was written
pub record Passed {C : Type 0} (n : ℕ) (kinds : Kinds) (a b : Option (List ℕ)) (s : Stage C) (p q : AnsweredPlay) (v : World) : Type 0 where
  pub events : List Answered
  pub records : List Happened
  pub world : World
  pub happens : Grew p q events
  pub ends : AnsweredEnds s.world.limit s.world.kept v events n world
  pub recorded : Recorded v world records
  pub written : Appends a b (s.text.items ++ kinds_text kinds records)

-- on the way from p to q a front of what was left and of what is recorded was written
pub record Broke {C : Type 0} (kinds : Kinds) (a b : Option (List ℕ)) (s : Stage C) (p q : AnsweredPlay) (v : World) : Type 0 where
  pub events : List Answered
  pub records : List Happened
  pub happens : Grew p q events
  pub tells : AnsweredTells s.world.limit s.world.kept v events records
  pub front : GrowsByFront a b (s.text.items ++ kinds_text kinds records)

abbrev pub Stopped : {C : Type 0} → PlayFault → Kinds → Option (List ℕ) → Option (List ℕ) → Stage C → AnsweredPlay → AnsweredPlay → World → Type 0
Stopped (play_fault.Kept n) kinds a b s p q v = Passed n kinds a b s p q v
Stopped play_fault.WriteFault kinds a b s p q v = Broke kinds a b s p q v
Stopped play_fault.NoMemory kinds a b s p q v = Broke kinds a b s p q v

-- how a part of a play ends that is to lead from p to q
abbrev pub Outcome : {C U : Type 0} → (C → Option Items) → (Items → Option Items) → (C → List Handed → Type 0) → Result U PlayFault → Kinds → Option (List ℕ) → Option (List ℕ) → Stage C → Stage C → AnsweredPlay → AnsweredPlay → World → Type 0
Outcome script said R (Ok u) kinds a b s t p q v = Went script said R kinds a b s t p q v
Outcome script said R (Err e) kinds a b s t p q v = Stopped e kinds a b s p q v

-- how a part of a play ends that is to lead from p to one of these
pub record LeadsTo {C U : Type 0} (script : C → Option Items) (said : Items → Option Items) (R : C → List Handed → Type 0) (r : Result U PlayFault) (kinds : Kinds) (a b : Option (List ℕ)) (s t : Stage C) (p : AnsweredPlay) (IsTo : AnsweredPlay → Type 0) (v : World) : Type 0 where
  pub play : AnsweredPlay
  pub made : IsTo play
  pub outcome : Outcome script said R r kinds a b s t p play v
