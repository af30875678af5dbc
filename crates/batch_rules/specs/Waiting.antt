-- What waits to begin.
use Rattle.std.specs.Prelude.{ℕ, Bool, true, false, not, ◌==◌, ◌&&◌, ◌++◌, List, [], ◌∷◌, take, drop, length, nat_lt, if◌then◌else◌}
use Rattle.std.specs.List.{list_any}
use Rattle.rsct_packet.specs.declared.ids.ProviderId.{ProviderId}
use Rattle.rsct_packet.specs.Providers.{same_provider, without}
use Rattle.group_attr.specs.declared.attrs.Batch.{Batch}
use Rattle.group_attr.specs.declared.attrs.Batch.TheVariants.{Neither, Joins, Failures, Both}
use Rattle.proposal_core.specs.declared.proposal.Cause.{Cause}
use Rattle.proposal_core.specs.declared.proposal.Failure.{Failure}

-- oldest first
pub record WaitingView : Type 0 where
  pub joins : List ProviderId
  pub failures : List Failure

abbrev pub nothing_waits : WaitingView
nothing_waits = record { joins = []; failures = [] }

abbrev pub same_instance : ProviderId → ProviderId → Bool
same_instance a b = (a.node == b.node) && (a.instance == b.instance)

-- one of them has the node and the instance number
abbrev pub has_instance : List ProviderId → ProviderId → Bool
has_instance ps p = list_any (λ q. same_instance q p) ps

abbrev pub waits_join : ProviderId → WaitingView → WaitingView
waits_join p w = record w { joins = w.joins ++ p ∷ [] }

abbrev pub is_failure_of : ProviderId → Failure → Bool
is_failure_of p f = same_provider f.provider p

-- the provider waits as a failure
abbrev pub is_failing : ProviderId → WaitingView → Bool
is_failing p w = list_any (is_failure_of p) w.failures

-- how many joins and how many failures wait at most
abbrev pub max_waiting : ℕ
max_waiting = 64

-- it does not wait as a failure yet, and there is room
abbrev pub takes_failure : ProviderId → WaitingView → Bool
takes_failure p w = not (is_failing p w) && nat_lt (length w.failures) max_waiting

-- a provider that waits as a failure keeps its first cause
abbrev pub add_failure : ProviderId → Cause → WaitingView → WaitingView
add_failure p c w = if takes_failure p w then record w { failures = w.failures ++ record { provider = p; cause = c } ∷ [] } else w

abbrev pub drop_join : ProviderId → WaitingView → WaitingView
drop_join p w = record w { joins = without w.joins p }

abbrev pub batches_joins : Batch → Bool
batches_joins Neither = false
batches_joins Joins = true
batches_joins Failures = false
batches_joins Both = true

abbrev pub batches_failures : Batch → Bool
batches_failures Neither = false
batches_failures Joins = false
batches_failures Failures = true
batches_failures Both = true

-- all of them where the batch control has them, else the oldest one
abbrev pub chosen_of : {A : Type 0} → Bool → List A → List A
chosen_of true xs = xs
chosen_of false xs = take 1 xs

abbrev pub left_of : {A : Type 0} → Bool → List A → List A
left_of true xs = []
left_of false xs = drop 1 xs

abbrev pub next_failures : Batch → WaitingView → List Failure
next_failures b w = chosen_of (batches_failures b) w.failures

abbrev pub failures_left : Batch → WaitingView → WaitingView
failures_left b w = record w { failures = left_of (batches_failures b) w.failures }

abbrev pub next_joins : Batch → WaitingView → List ProviderId
next_joins b w = chosen_of (batches_joins b) w.joins

abbrev pub joins_left : Batch → WaitingView → WaitingView
joins_left b w = record w { joins = left_of (batches_joins b) w.joins }
