-- Daemons that `serve` runs, up to now.
use Rattle.std.specs.Prelude.{ℕ, ◌≡◌, Bool, List, map}
use Rattle.hags_io.specs.Telling.{Telling}
use Rattle.node_state.specs.declared.config.Config.{Config}
use Rattle.world_model.specs.declared.script.Script.{Script}
use Rattle.piece_link.specs.Answers.{Among}
use Rattle.daemon_model.specs.declared.options.Options.{Options}
use Rattle.daemon_model.specs.Sent.{Exchange}
use Rattle.daemon_model.specs.Daemon.{Life}
use Rattle.daemon_model.specs.Doings.{exchanges_in}
use Rattle.daemon_model.specs.Lives.{LivedFront}
use Rattle.network_model.specs.Lives.{LifeIn, life_in}
use Rattle.network_model.specs.Executions.{IsLinear, TimedLife, untimed, Execution}
use Rattle.network_safety.specs.Safe.{IsSafeExecution}

-- A daemon of a node, in the domain of these settings, up to now, and whether it has ended: what its outside told since its start
-- is a front of what its life gives. The clauses of `serve` say so at whatever end, and it holds of each moment before, since a
-- front of a front is one: of a daemon that runs, that was killed, or that broke off.
pub record Served (c : Config) (n : ℕ) : Type 0 where
  pub script : Script
  pub settings : script.config ≡ c
  pub incarnation : ℕ
  pub options : Options
  pub ended : Bool
  pub old : Telling
  pub new : Telling
  pub life : Life
  pub lived : LivedFront script n incarnation options life old new

-- its life; the act in which it broke off, or was up to now, stands there whole
abbrev pub life_of : (c : Config) (n : ℕ) → Served c n → LifeIn
life_of c n r = life_in r.incarnation r.life r.ended

-- what it received and sent up to now
abbrev pub calls_of : (c : Config) (n : ℕ) → Served c n → List Exchange
calls_of c n r = exchanges_in r.lived.made.front

-- the outside of one of these daemons told that this was sent
pub record WasTold (c : Config) (served : (n : ℕ) → List (Served c n)) (x : Exchange) : Type 0 where
  pub node : ℕ
  pub by : Served c node
  pub is : Among by (served node)
  pub told : Among x (calls_of c node by)

-- Let `serve` run daemons, for each node one after another, each act at its time; and let each datagram that one of them received
-- be sent by an act that began earlier, as the outside of its sender told. Then their acts have an order in which they are a safe
-- network, whose records at each node are those of these daemons.
abbrev pub ServedDaemonsAreSafe : Type 0 → Type 0
ServedDaemonsAreSafe T =
    (no_later : T → T → Bool) → IsLinear T no_later → (c : Config) (served : (n : ℕ) → List (Served c n)) (lives : ℕ → List (TimedLife T)) → ((n : ℕ) → map untimed (lives n) ≡ map (life_of c n) (served n))
    → Execution T no_later (WasTold c served) c lives → IsSafeExecution T no_later (WasTold c served) c lives
