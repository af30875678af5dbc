-- How the calls of the settings follow one another, and how a daemon begins.
use Rattle.std.specs.Prelude.{◌≡◌, ℕ, false, List, [], ◌++◌, map}
use Rattle.hags_io.specs.Telling.{Telling}
use Rattle.link_use.specs.Receiving.{nothing_received}
use Rattle.node_state.specs.declared.call.CallLine.{CallLine}
use Rattle.node_state.specs.declared.config.Config.{Config}
use Rattle.node_state.specs.Step.{at_work, started}
use Rattle.world_model.specs.declared.script.Script.{Script}
use Rattle.daemon_model.specs.declared.options.Service.{Service}
use Rattle.daemon_model.specs.Daemon.{Daemon, Opening, sessions_if, tells_entries, fresh, begun_for, own_calls}
use Rattle.daemon_model.specs.Actions.{Opens, did_all}
use Rattle.daemon_model.specs.Doings.{Doing, since, doings_of, Made, MadeFront}
use Rattle.daemon_run.specs.declared.hosted.Hosted.{Hosted}
use Rattle.daemon_run.specs.declared.running.Running.{Running}
use Rattle.daemon_run.specs.Hosting.{Known}
use Rattle.daemon_run.specs.Audience.{Audience, ActionsHand}
use Rattle.daemon_run.specs.Doing.{daemon_of, Acts, ActsBreak, Passes, WriteFails, ActsFail}

abbrev pub calls_in : List Opening → List CallLine
calls_in os = map (λ (o : Opening). o.call) os

-- these calls are carried out
pub record CallsAs {C : Type 0} (A B : Known → List (Hosted C) → Audience → Type 0) (r s : Running C) (calls : List CallLine) (old new : Telling) : Type 0 where
  pub opening : List Opening
  pub are : calls_in opening ≡ calls
  pub acts : Acts A B r s old new (map Opens opening)

-- one of them broke off
pub record CallsBreak {C : Type 0} (r : Running C) (calls : List CallLine) (old new : Telling) : Type 0 where
  pub opening : List Opening
  pub are : calls_in opening ≡ calls
  pub breaks : ActsBreak r old new (map Opens opening)

-- in the last of those that were carried out a write failed
pub record CallsFail {C : Type 0} (A B : Known → List (Hosted C) → Audience → Type 0) (r s : Running C) (calls : List CallLine) (old new : Telling) : Type 0 where
  pub opening : List Opening
  pub later : List CallLine
  pub are : calls_in opening ++ later ≡ calls
  pub fails : ActsFail A B r s old new (map Opens opening)

-- ---- from the start on

-- one whose node has just started; whom it serves on other machines, and what it tells of itself
abbrev pub fresh_running : {C : Type 0} → Service → Config → ℕ → ℕ → ℕ → Running C
fresh_running service c me incarnation moment = record {
  outbox = record { me = me; incarnation = incarnation; number = 1 };
  node = record { core = started c me incarnation; clients = []; halted = false };
  receiving = nothing_received;
  last = moment;
  sessions = sessions_if service.remote incarnation;
  entries = tells_entries service.remote;
  about = service.about;
  ticks = 0;
  sent = 0;
}

-- the doings of the node's start, and of these calls of the settings
abbrev pub opening_doings : Service → Config → ℕ → ℕ → ℕ → List Opening → List Doing
opening_doings service c me incarnation moment opening =
    since (fresh service c me incarnation moment) (begun_for service c me incarnation moment) ++ doings_of (begun_for service c me incarnation moment) (map Opens opening)

-- the daemon after them
abbrev pub opened_by : Service → Config → ℕ → ℕ → ℕ → List Opening → Daemon
opened_by service c me incarnation moment opening = did_all (begun_for service c me incarnation moment) (map Opens opening)

-- from no clients what these calls hand, of a daemon that has just started, comes to those now
abbrev pub BeginsWith : {C : Type 0} → (Known → List (Hosted C) → Audience → Type 0) → (Known → List (Hosted C) → Audience → Type 0) → Service → Config → ℕ → ℕ → ℕ → Running C → List Opening → Type 0
BeginsWith A B service c me incarnation moment s opening =
    (z : Audience) → (v : Audience) × ActionsHand (begun_for service c me incarnation moment) (map Opens opening) z v × Passes A B [] s.node.clients z v

-- the node started, and the calls of the settings are carried out
pub record BeginsAs {C : Type 0} (A B : Known → List (Hosted C) → Audience → Type 0) (service : Service) (script : Script) (me incarnation moment : ℕ) (s : Running C) (old new : Telling) : Type 0 where
  pub opening : List Opening
  pub are : calls_in opening ≡ own_calls me script.lines
  pub is : opened_by service script.config me incarnation moment opening
      ≡ daemon_of s (opened_by service script.config me incarnation moment opening).calls (opened_by service script.config me incarnation moment opening).records
  pub made : Made old new (opening_doings service script.config me incarnation moment opening)
  pub attends : BeginsWith A B service script.config me incarnation moment s opening

pub record BeginBreaks (service : Service) (script : Script) (me incarnation moment : ℕ) (old new : Telling) : Type 0 where
  pub opening : List Opening
  pub are : calls_in opening ≡ own_calls me script.lines
  pub made : MadeFront old new (opening_doings service script.config me incarnation moment opening)

-- A write failed in the last of the calls that were carried out, or, where there is none, as the node started. Its clients
-- have what they handed.
pub record BeginFails {C : Type 0} (A B : Known → List (Hosted C) → Audience → Type 0) (service : Service) (script : Script) (me incarnation moment : ℕ) (s : Running C) (old new : Telling) : Type 0 where
  pub opening : List Opening
  pub later : List CallLine
  pub are : calls_in opening ++ later ≡ own_calls me script.lines
  pub core : (opened_by service script.config me incarnation moment opening).core ≡ at_work s.node.core
  pub made : WriteFails old new (opening_doings service script.config me incarnation moment opening)
  pub attends : BeginsWith A B service script.config me incarnation moment s opening
