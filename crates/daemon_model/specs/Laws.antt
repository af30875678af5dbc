-- What holds of the doings of every life.
use Rattle.std.specs.Prelude.{◌≡◌, ℕ, List, [], ◌∷◌, ◌++◌, map}
use Rattle.hags_io.specs.declared.link.Places.{Places}
use Rattle.hags_io.specs.Deeds.{Deed, Wrote}
use Rattle.hags_io.specs.Telling.{Telling, calls_in, placed_by}
use Rattle.hags_io.specs.Fronts.{as_gone, AreFront}
use Rattle.node_state.specs.declared.config.Config.{Config}
use Rattle.daemon_model.specs.Sent.{Exchange, call_of, as_sent, AllSpelled}
use Rattle.daemon_model.specs.Daemon.{Life, lived, records_text}
use Rattle.daemon_model.specs.Doings.{Doing, life_doings, deed_of, exchanges_in, records_in, MadeFront}
use Rattle.daemon_model.specs.Settings.{placings, all_places}

-- what a daemon exchanged and recorded are its doings, each kind in its order
abbrev pub LivesAreDoings : Type 0
LivesAreDoings =
    (c : Config) (me incarnation : ℕ) (life : Life) → ((lived c me incarnation life).calls ≡ exchanges_in (life_doings c me incarnation life)) × ((lived c me incarnation life).records ≡ records_in (life_doings c me incarnation life))

-- What was done up to now is a front, where all that was done later is one.
abbrev pub FrontsOfFronts : Type 0
FrontsOfFronts = (deeds later doings : List Deed) → AreFront (deeds ++ later) doings → AreFront deeds doings

-- all that was written
abbrev pub wrote_in : List Deed → List ℕ
wrote_in [] = []
wrote_in (Wrote bytes whole ∷ ds) = bytes ++ wrote_in ds
wrote_in (d ∷ ds) = wrote_in ds

-- these deeds are those of a front of the doings, all of it, and the lines of its records are what was written
pub record DoneWhole (deeds : List Deed) (doings : List Doing) : Type 0 where
  pub front : List Doing
  pub back : List Doing
  pub whole : front ++ back ≡ doings
  pub are : map as_gone deeds ≡ map deed_of front
  pub written : wrote_in deeds ≡ records_text (records_in front)

-- What was done before another deed was done whole. So where a packet of a step goes out, the lines of all records up to
-- that step's are written.
abbrev pub WrittenFirst : Type 0
WrittenFirst = (deeds later : List Deed) (next : Deed) (doings : List Doing) → AreFront (deeds ++ next ∷ later) (map deed_of doings) → DoneWhole deeds doings

-- of a front of a life's doings, what was exchanged: a front of all that the life exchanges, each message of which is spelled
pub record FrontExchanges (c : Config) (me incarnation : ℕ) (life : Life) (deeds : List Deed) : Type 0 where
  pub front : List Exchange
  pub back : List Exchange
  pub whole : front ++ back ≡ (lived c me incarnation life).calls
  pub told : map as_sent (calls_in deeds) ≡ map as_sent (map call_of front)
  pub spelled : AllSpelled front

abbrev pub FrontsExchange : Type 0
FrontsExchange =
    (c : Config) (me incarnation : ℕ) (life : Life) (old new : Telling) (h : MadeFront old new (life_doings c me incarnation life)) → FrontExchanges c me incarnation life h.went.deeds

-- the places that a daemon tells are those of the adapters of its settings
abbrev pub PlacingsArePlaces : Type 0
PlacingsArePlaces = (c : Config) (places : Places) → placed_by (placings c) places ≡ all_places c places
