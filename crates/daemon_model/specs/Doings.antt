-- What a daemon does at its edges, in its order: of each step the lines of its records are written first, and then its
-- packets go out. And how what an outside tells compares with that.
use Rattle.std.specs.Prelude.{◌≡◌, ℕ, true, List, [], ◌∷◌, ◌++◌, drop, length, map}
use Rattle.hags_io.specs.Deeds.{Deed, Read, Exchanged, Wrote}
use Rattle.hags_io.specs.Telling.{Telling}
use Rattle.hags_io.specs.Fronts.{Went, WentFront}
use Rattle.node_state.specs.declared.config.Config.{Config}
use Rattle.node_state.specs.declared.happened.Happened.{Happened}
use Rattle.daemon_model.specs.Sent.{Exchange, plain, as_sent, IsSpelledIf}
use Rattle.daemon_model.specs.Daemon.{Daemon, Life, fresh, begun_for, opened, ticked, key_over, mended, received, heard, records_text}
use Rattle.daemon_model.specs.Actions.{Action, Opens, Ticks, EndsKey, Mends, Hears, did, life_actions}

-- a moment is read; a datagram is received or a piece is sent; the lines of records are written, all at once
pub data Doing : Type 0 where
  Reads : (moment : ℕ) → Doing
  Exchanges : (exchange : Exchange) → Doing
  Writes : (records : List Happened) → Doing

-- nothing is written where nothing was recorded
abbrev pub writes : List Happened → List Doing
writes [] = []
writes (r ∷ rs) = Writes (r ∷ rs) ∷ []

-- what a step does that recorded this, and whose packets make these exchanges
abbrev pub step_doings : List Happened → List Exchange → List Doing
step_doings records exchanges = writes records ++ map Exchanges exchanges

-- what a daemon did from the first to the second, in one step
unfoldable pub since : Daemon → Daemon → List Doing
since d e = step_doings (drop (length d.records) e.records) (drop (length d.calls) e.calls)

unfoldable pub doings : Daemon → Action → List Doing
doings d (Opens opening) = since d (opened d opening)
doings d (Ticks moment answers) = Reads moment ∷ since d (ticked moment answers d)
doings d (EndsKey key answers) = since d (key_over key answers d)
doings d (Mends answers) = since d (mended answers d)
doings d (Hears got answers) = Exchanges (plain (as_sent got)) ∷ since (received got d) (heard got answers d)

unfoldable pub doings_of : Daemon → List Action → List Doing
doings_of d [] = []
doings_of d (a ∷ actions) = doings d a ++ doings_of (did d a) actions

-- the clock is read, the node starts, and then come the acts
abbrev pub started_doings : Config → ℕ → ℕ → Life → List Doing
started_doings c me incarnation life =
    Reads life.start ∷ since (fresh life.service c me incarnation life.start) (begun_for life.service c me incarnation life.start)

unfoldable pub life_doings : Config → ℕ → ℕ → Life → List Doing
life_doings c me incarnation life =
    started_doings c me incarnation life ++ doings_of (begun_for life.service c me incarnation life.start) (life_actions life)

-- ---- as deeds

abbrev pub deed_of : Doing → Deed
deed_of (Reads moment) = Read moment
deed_of (Exchanges x) = Exchanged x.call
deed_of (Writes records) = Wrote (records_text records) true

-- what is sent is spelled
abbrev pub AreSpelled : List Doing → Type 0
AreSpelled [] = Unit {0}
AreSpelled (Exchanges x ∷ ds) = IsSpelledIf x.of × AreSpelled ds
AreSpelled (d ∷ ds) = AreSpelled ds

-- all of this was done, where a send that fails is a lost piece; and each message that was sent is spelled
pub record Made (old new : Telling) (more : List Doing) : Type 0 where
  pub went : Went old new (map deed_of more)
  pub spelled : AreSpelled more

-- a front of this was done, of which the last may be a write that failed; and each message that was sent is spelled
pub record MadeFront (old new : Telling) (more : List Doing) : Type 0 where
  pub front : List Doing
  pub back : List Doing
  pub whole : front ++ back ≡ more
  pub went : WentFront old new (map deed_of front)
  pub all : length went.deeds ≡ length front
  pub spelled : AreSpelled front

-- ---- what a daemon exchanged and recorded, as its share

abbrev pub exchanges_in : List Doing → List Exchange
exchanges_in [] = []
exchanges_in (Exchanges x ∷ ds) = x ∷ exchanges_in ds
exchanges_in (d ∷ ds) = exchanges_in ds

abbrev pub records_in : List Doing → List Happened
records_in [] = []
records_in (Writes rs ∷ ds) = rs ++ records_in ds
records_in (d ∷ ds) = records_in ds

-- opens each word of this file, for a computation
unfoldable pub doings_opens : Unit {0}
unfolding since doings doings_of life_doings
doings_opens = tt
