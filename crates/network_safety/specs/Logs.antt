-- The logs of daemons, and that they are Seen. A network's records have more than these. Of each incarnation that a node skips they have
-- a life in which it does nothing (`idle_records`), which is just this: that the node is up; in mode rings, the ring of each of its
-- adapters; that it enters the first view of that incarnation, which is of itself alone; and that it is down. No base is among these,
-- since it had no list. And where a daemon ends they have that its node is down. No daemon writes any of that.
use Rattle.std.specs.Prelude.{ℕ, ◌≡◌, Bool, true, false, List, [], ◌∷◌, ◌++◌, codes, flat_map, map, reverse, Option, Some, None}
use Rattle.node_state.specs.declared.config.Config.{Config}
use Rattle.node_state.specs.declared.happened.Happened.{Happened}
use Rattle.log_laws.specs.Law.{ShowsAll}
use Rattle.daemon_model.specs.Sent.{Exchange}
use Rattle.daemon_model.specs.Daemon.{Daemon, begun_for}
use Rattle.daemon_model.specs.Actions.{did}
use Rattle.network_model.specs.Network.{Act, Begins, Does, Ends, Net, no_net, noted_since, acted}
use Rattle.network_model.specs.Fits.{IsSpelledSend, NetworkRun}
use Rattle.network_model.specs.Executions.{what_of, TimedLife, untimed, Ordered}
use Rattle.network_model.specs.Lives.{LifeIn, daemon_of, is_at, AreLives}
use Rattle.network_safety.specs.Served.{Served, WasTold}

-- ---- what daemons write

abbrev pub written_if : (Daemon → Daemon) → Option Daemon → List Happened
written_if f None = []
written_if f (Some d) = noted_since d (f d)

-- what a daemon writes of an act: what its node records there; nothing of its end
unfoldable pub written : Config → Net → Act → List Happened
written c net (Begins n incarnation moment service) = (begun_for service c n incarnation moment).records
written c net (Does n action) = written_if (λ d. did d action) (net.daemons n)
written c net (Ends n) = []

-- what all daemons write of acts, in the order of these
unfoldable pub logged : Config → Net → List Act → List Happened
logged c net [] = []
logged c net (a ∷ acts) = written c net a ++ logged c (acted c net a) acts

abbrev pub kept_if : Bool → List Happened → List Happened
kept_if true rs = rs
kept_if false rs = []

-- and what those of one node write
unfoldable pub logged_at : Config → ℕ → Net → List Act → List Happened
logged_at c n net [] = []
logged_at c n net (a ∷ acts) = kept_if (is_at n a) (written c net a) ++ logged_at c n (acted c net a) acts

-- the logs of a node's daemons, one after another
abbrev pub life_logs : Config → ℕ → List LifeIn → List Happened
life_logs c n ls = flat_map (λ (l : LifeIn). (daemon_of c n l).records) ls

-- what a node's daemons write are the records of their lives
abbrev pub NodesLogTheirLives : Type 0
NodesLogTheirLives =
    (c : Config) (acts : List Act) (lives : ℕ → List LifeIn) → AreLives acts lives → (n : ℕ) → logged_at c n no_net acts ≡ life_logs c n (lives n)

-- ---- the laws

-- the logs of the daemons of a network, merged in the order of its acts, show what the records of a run show; the latest stands first
abbrev pub LogsOfDaemonsAreSeen : Type 0
LogsOfDaemonsAreSeen =
    (c : Config) (acts : List Act) → NetworkRun IsSpelledSend c acts → ShowsAll c (reverse (logged c no_net acts))

-- of an execution, in this order of its acts: merged so, the logs show that; and of each node they are its daemons' logs
pub record HasSeenLogs (T : Type 0) (no_later : T → T → Bool) (P : Exchange → Type 0) (c : Config) (lives : ℕ → List (TimedLife T)) (order : Ordered T no_later P c lives) : Type 0 where
  pub shows : ShowsAll c (reverse (logged c no_net (map what_of order.acts)))
  pub own : (n : ℕ) → logged_at c n no_net (map what_of order.acts) ≡ life_logs c n (map untimed (lives n))

-- in any order of the acts that is a network's run, as every execution has one
abbrev pub LogsOfExecutionsAreSeen : Type 0 → Type 0
LogsOfExecutionsAreSeen T =
    (no_later : T → T → Bool) (c : Config) (lives : ℕ → List (TimedLife T)) (order : Ordered T no_later IsSpelledSend c lives) → HasSeenLogs T no_later IsSpelledSend c lives order

-- and so of daemons that `serve` runs
abbrev pub LogsOfServedAreSeen : Type 0 → Type 0
LogsOfServedAreSeen T =
    (no_later : T → T → Bool) (c : Config) (served : (n : ℕ) → List (Served c n)) (lives : ℕ → List (TimedLife T)) (order : Ordered T no_later (WasTold c served) c lives) → HasSeenLogs T no_later (WasTold c served) c lives order

-- ---- a worked example

-- what the daemons of a node write that ends and starts again, skipping an incarnation: of it, and of the end, nothing
abbrev pub logged_again_lines : List ℕ
logged_again_lines =
    codes "up 1 1\nring 1 1 1.1.1 1 1\nin 1 1.1.1 1.1\nup 1 3\nring 1 1 1.3.1 1 1\nin 1 1.1.3 1.3\n"

-- opens each word of this file, for a computation
unfoldable pub logs_opens : Unit {0}
unfolding written logged logged_at
logs_opens = tt
