-- Why entries say that providers failed, where whoever is gone without a goodbye did not pass.
use Rattle.std.specs.Prelude.{◌⊎◌, ℕ, List, [], ◌∷◌}
use Rattle.rsct_packet.specs.declared.ids.ViewId.{ViewId}
use Rattle.rsct_packet.specs.declared.ids.ProviderId.{ProviderId}
use Rattle.node_state.specs.declared.config.Config.{Config}
use Rattle.node_state.specs.declared.happened.Happened.{Happened}
use Rattle.node_state.specs.declared.happened.Happened.TheVariants.{Put}
use Rattle.run_safety.specs.Past.{History, records_of, earlier, EachEvent}
use Rattle.step_refinement.specs.Tied.{Scene}
use Rattle.row_laws.specs.failed_rows.Failures.{SaidGoodbye, EntryFails, IsFirst, Since, state_held}
use Rattle.row_laws.specs.failed_rows.Scenes.{Played}
use Rattle.run_laws.specs.failed_causes.Passed.{DidNotPass}

-- by these events its own client said goodbye, or it did not pass into the view of the run
abbrev pub ExactCause : List Happened → History → ViewId → List ℕ → ProviderId → Type 0
ExactCause run before v g p =
    SaidGoodbye before p ⊎ DidNotPass run (records_of before) v g p

-- who puts a place first has these causes, in its state before it
abbrev pub PutHasCause : List Happened → List Happened → History → Happened → Type 0
PutHasCause run now before (Put n v g i e) =
    IsFirst (earlier now before) v g i → EntryFails (ExactCause run before v g) (λ h. state_held n h (earlier now before)) (state_held n g (earlier now before)) e
PutHasCause run now before _ = Unit {0}

abbrev pub EachPutHasCause : List Happened → List Happened → History → Type 0
EachPutHasCause run [] before = Unit {0}
EachPutHasCause run (r ∷ now) before = Since r (PutHasCause run now before r × EachPutHasCause run now before)

abbrev pub FailuresHaveExactCauses : History → Type 0
FailuresHaveExactCauses h = EachEvent (λ e before. EachPutHasCause (records_of h) e.records before) h

-- of every scene that events lead to, where the history names calls
abbrev pub FailuresAreExact : Type 0
FailuresAreExact = (c : Config) (w : Scene) → Played c w → FailuresHaveExactCauses w.before
