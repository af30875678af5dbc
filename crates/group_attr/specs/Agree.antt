-- When attributes agree: all fields are equal.
use Rattle.std.specs.Prelude.{ℕ, Bool, true, false, ◌==◌, ◌&&◌, List, Option, Some, None}
use Rattle.std.specs.Str.{bytes_eq}
use Rattle.group_attr.specs.declared.attrs.Attrs.{Attrs}
use Rattle.group_attr.specs.declared.attrs.Phases.{Phases}
use Rattle.group_attr.specs.declared.attrs.Phases.TheVariants.{One, Many}
use Rattle.group_attr.specs.declared.attrs.Batch.{Batch}
use Rattle.group_attr.specs.declared.attrs.Batch.TheVariants.{Neither, Joins, Failures, Both}
use Rattle.group_attr.specs.declared.attrs.DefaultVote.{DefaultVote}
use Rattle.group_attr.specs.declared.attrs.DefaultVote.TheVariants.{Approve, Reject}

abbrev pub same_phases : Phases → Phases → Bool
same_phases One One = true
same_phases One Many = false
same_phases Many One = false
same_phases Many Many = true

abbrev pub batch_number : Batch → ℕ
batch_number Neither = 0
batch_number Joins = 1
batch_number Failures = 2
batch_number Both = 3

abbrev pub same_default : DefaultVote → DefaultVote → Bool
same_default Approve Approve = true
same_default Approve Reject = false
same_default Reject Approve = false
same_default Reject Reject = true

abbrev pub same_source : Option (List ℕ) → Option (List ℕ) → Bool
same_source None None = true
same_source None (Some b) = false
same_source (Some a) None = false
same_source (Some a) (Some b) = bytes_eq a b

unfoldable pub agree : Attrs → Attrs → Bool
agree a b =
    same_phases a.phases b.phases && (batch_number a.batch == batch_number b.batch) && same_default a.default_vote b.default_vote && (a.limit == b.limit)
    && same_source a.source b.source && same_phases a.source_phases b.source_phases && (a.source_limit == b.source_limit)
