-- At which moments a daemon ticks, and how far they are apart.
use Rattle.std.specs.Prelude.{◌≡◌, ℕ, ◌+◌, ◌*◌, ◌≤◌, nat_le, Bool, true, false, List, [], ◌∷◌, ◌++◌, length, if◌then◌else◌}
use Rattle.daemon_model.specs.Daemon.{Daemon, is_due}
use Rattle.daemon_model.specs.Actions.{Action, Ticks, did}

-- The moments at which a daemon's node makes the step of a tick, in what the daemon does. Elsewhere what reads the clock leaves the
-- daemon as it is.
abbrev pub ticks_at : Bool → ℕ → List ℕ
ticks_at true moment = moment ∷ []
ticks_at false moment = []

abbrev pub ticks_by : Daemon → Action → List ℕ
ticks_by d (Ticks moment answers) = ticks_at (is_due d.last moment) moment
ticks_by d _ = []

abbrev pub ticks_in : Daemon → List Action → List ℕ
ticks_in d [] = []
ticks_in d (a ∷ acts) = ticks_by d a ++ ticks_in (did d a) acts

-- the moments that it reads
abbrev pub read_by : Action → List ℕ
read_by (Ticks moment answers) = moment ∷ []
read_by _ = []

abbrev pub reads_in : List Action → List ℕ
reads_in [] = []
reads_in (a ∷ acts) = read_by a ++ reads_in acts

-- of these moments each at which 100 milliseconds have passed since the one before that is taken
abbrev pub taken_from : ℕ → List ℕ → List ℕ
taken_from last [] = []
taken_from last (m ∷ ms) = if nat_le (last + 100) m then m ∷ taken_from m ms else taken_from last ms

-- each is at least 100 milliseconds after the one before
abbrev pub AreApart : ℕ → List ℕ → Type 0
AreApart last [] = Unit {0}
AreApart last (m ∷ ms) = (last + 100 ≤ m) × AreApart m ms

abbrev pub last_from : ℕ → List ℕ → ℕ
last_from last [] = last
last_from last (m ∷ ms) = last_from m ms

-- Whatever a daemon does, its node ticks at a moment that it reads just where 100 milliseconds have passed since the last tick, or
-- since the start; so ticks are apart, and so many take at least that long by the daemon's own clock.
pub record TicksAreDue (d : Daemon) (acts : List Action) : Type 0 where
  pub just : ticks_in d acts ≡ taken_from d.last (reads_in acts)
  pub apart : AreApart d.last (ticks_in d acts)
  pub long : d.last + 100 * length (ticks_in d acts) ≤ last_from d.last (ticks_in d acts)

abbrev pub TicksAlwaysAreDue : Type 0
TicksAlwaysAreDue = (d : Daemon) (acts : List Action) → TicksAreDue d acts
