-- What follows from the fields of a safe run.
use Rattle.node_state.specs.declared.config.Config.{Config}
use Rattle.node_state.specs.declared.happened.Happened.{Happened}
use Rattle.std.specs.Prelude.{List}
use Rattle.run_safety.specs.SafeLists.{OneEntry}
use Rattle.row_laws.specs.hearing.Hearing.{NoGap}
use Rattle.world_laws.specs.world_answers.Answers.{Answered}
use Rattle.world_safety.specs.Scripts.{IsSafe, history_in}

-- two entries at one place of one view's list of a group are the same, in the run's own records: from `safe`
abbrev pub SafeRunsHaveOneList : Type 0
SafeRunsHaveOneList = (c : Config) (es : List Answered) (rs : List Happened) → IsSafe c es rs → OneEntry (history_in c es)

-- between two places that a provider hears it hears every place: from `hears`
abbrev pub SafeRunsLeaveNoGap : Type 0
SafeRunsLeaveNoGap = (c : Config) (es : List Answered) (rs : List Happened) → IsSafe c es rs → NoGap (history_in c es)
