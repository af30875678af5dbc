-- The lives of a network's daemons: the acts of each node are the lives of its daemons, one after another.
use Rattle.std.specs.Prelude.{ℕ, zero, suc, ◌+◌, ◌-◌, ◌==◌, ◌≡◌, Bool, true, false, List, [], ◌∷◌, ◌++◌, length, drop, filter, flat_map, map}
use Rattle.node_state.specs.declared.config.Config.{Config}
use Rattle.node_state.specs.declared.happened.Happened.{Happened}
use Rattle.node_state.specs.declared.happened.Happened.TheVariants as happened
use Rattle.node_state.specs.Step.{started}
use Rattle.daemon_model.specs.declared.options.Service.{Service}
use Rattle.daemon_model.specs.Daemon.{Daemon, Life, begun_for}
use Rattle.daemon_model.specs.Actions.{Action, did_all, life_actions}
use Rattle.network_model.specs.Network.{Act, Begins, Does, Ends, Net, no_net, acted}

-- a life that a daemon lived up to now: its incarnation, what it serves, what its clock said as it
-- started, its acts, and whether it has ended
pub record LifeIn : Type 0 where
  pub incarnation : ℕ
  pub service : Service
  pub start : ℕ
  pub actions : List Action
  pub ended : Bool

-- a life of turns, that has ended or not
abbrev pub life_in : ℕ → Life → Bool → LifeIn
life_in incarnation life ended = record { incarnation = incarnation; service = life.service; start = life.start; actions = life_actions life; ended = ended }

-- the daemon at the end of it
unfoldable pub daemon_of : Config → ℕ → LifeIn → Daemon
daemon_of c n l = did_all (begun_for l.service c n l.incarnation l.start) l.actions

abbrev pub end_of : ℕ → Bool → List Act
end_of n true = Ends n ∷ []
end_of n false = []

unfoldable pub acts_of : ℕ → LifeIn → List Act
acts_of n l = Begins n l.incarnation l.start l.service ∷ map (Does n) l.actions ++ end_of n l.ended

abbrev pub is_at : ℕ → Act → Bool
is_at n (Begins node incarnation moment service) = node == n
is_at n (Does node action) = node == n
is_at n (Ends node) = node == n

-- the acts of each node are these lives of its daemons, one after another; the acts of different nodes come in any order
abbrev pub AreLives : List Act → (ℕ → List LifeIn) → Type 0
AreLives acts lives = (n : ℕ) → filter (is_at n) acts ≡ flat_map (acts_of n) (lives n)

-- ---- what a node records

abbrev pub noted_if : Bool → Net → Net → List Happened
noted_if true old new = drop (length old.records) new.records
noted_if false old new = []

-- what was recorded in the acts of a node, in their order
unfoldable pub records_at : Config → ℕ → Net → List Act → List Happened
records_at c n net [] = []
records_at c n net (a ∷ acts) = noted_if (is_at n a) net (acted c net a) ++ records_at c n (acted c net a) acts

-- the records of so many lives, in the incarnations after this one, in which the node starts and is down at once
unfoldable pub idle_records : Config → ℕ → ℕ → ℕ → List Happened
idle_records c n last zero = []
idle_records c n last (suc k) = (started c n (last + 1)).records ++ happened.Down n ∷ idle_records c n (last + 1) k

abbrev pub down_of : ℕ → Bool → List Happened
down_of n true = happened.Down n ∷ []
down_of n false = []

-- of lives one after another: those of the skipped incarnations, what the daemon recorded, and that the node is down where it
-- ended
unfoldable pub lives_records : Config → ℕ → ℕ → List LifeIn → List Happened
lives_records c n last [] = []
lives_records c n last (l ∷ ls) =
    idle_records c n last (l.incarnation - 1 - last) ++ ((daemon_of c n l).records ++ (down_of n l.ended ++ lives_records c n l.incarnation ls))

-- what each node records in a network are the records of its daemons' lives
abbrev pub NodesRecordTheirLives : Type 0
NodesRecordTheirLives =
    (c : Config) (acts : List Act) (lives : ℕ → List LifeIn) → AreLives acts lives → (n : ℕ) → records_at c n no_net acts ≡ lives_records c n 0 (lives n)

-- opens each word of this file, for a computation
unfoldable pub lives_opens : Unit {0}
unfolding daemon_of acts_of records_at idle_records lives_records
lives_opens = tt
