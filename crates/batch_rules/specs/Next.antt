-- What becomes of a join, and what begins next: failures before joins.
use Rattle.std.specs.Prelude.{Bool, ◌==◌, ◌||◌, List, [], ◌∷◌, length, Option, Some, None, if◌then◌else◌}
use Rattle.rsct_packet.specs.declared.ids.ProviderId.{ProviderId}
use Rattle.group_attr.specs.declared.attrs.Batch.{Batch}
use Rattle.proposal_core.specs.declared.proposal.Failure.{Failure}
use Rattle.batch_rules.specs.declared.waiting.Added.{Added}
use Rattle.batch_rules.specs.declared.waiting.Added.TheVariants.{Queued, Full, DuplicateInstance}
use Rattle.batch_rules.specs.declared.waiting.Chosen.{Chosen}
use Rattle.batch_rules.specs.declared.waiting.Chosen.TheVariants as chosen
use Rattle.batch_rules.specs.Waiting.{WaitingView, max_waiting, has_instance, waits_join, next_failures, failures_left, next_joins, joins_left}

-- a provider with its node and instance number is present or waits
abbrev pub is_duplicate : ProviderId → List ProviderId → WaitingView → Bool
is_duplicate p present w = has_instance present p || has_instance w.joins p

abbrev pub added_as : ProviderId → List ProviderId → WaitingView → Added
added_as p present w = if is_duplicate p present w then DuplicateInstance else if length w.joins == max_waiting then Full else Queued

abbrev pub joined_as : ProviderId → WaitingView → Added → WaitingView
joined_as p w Queued = waits_join p w
joined_as p w Full = w
joined_as p w DuplicateInstance = w

abbrev pub add_join : ProviderId → List ProviderId → WaitingView → WaitingView
add_join p present w = joined_as p w (added_as p present w)

abbrev pub next_of_joins : Batch → WaitingView → List ProviderId → Option Chosen
next_of_joins b w [] = None
next_of_joins b w (p ∷ ps) = Some (chosen.Joins (record { items = next_joins b w }))

abbrev pub next_of_failures : Batch → WaitingView → List Failure → Option Chosen
next_of_failures b w [] = next_of_joins b w w.joins
next_of_failures b w (f ∷ fs) = Some (chosen.Failures (record { items = next_failures b w }))

-- none exactly where nothing waits
abbrev pub next_chosen : Batch → WaitingView → Option Chosen
next_chosen b w = next_of_failures b w w.failures

abbrev pub left_after : Batch → WaitingView → List Failure → WaitingView
left_after b w [] = joins_left b w
left_after b w (f ∷ fs) = failures_left b w

-- what still waits
abbrev pub next_left : Batch → WaitingView → WaitingView
next_left b w = left_after b w w.failures
