-- The parts of a beginning of waiting failures.
use Rattle.std.specs.Prelude.{ℕ, List, filter}
use Rattle.rsct_packet.specs.declared.ids.ProviderId.{ProviderId}
use Rattle.rsct_packet.specs.Providers.{among}
use Rattle.proposal_core.specs.declared.proposal.Failure.{Failure}
use Rattle.batch_rules.specs.Waiting.{next_failures, failures_left}
use Rattle.node_state.specs.declared.state.Core.{Core}
use Rattle.node_state.specs.State.{led_of, state_of}
use Rattle.node_state.specs.Leading.{with_waiting}

-- the failures of those who are members still
unfoldable pub of_members : List ProviderId → List Failure → List Failure
of_members members fs = filter (λ (x : Failure). among members x.provider) fs

-- those that begin next
unfoldable pub failures_chosen : Core → List ℕ → List Failure
failures_chosen s g = of_members (state_of s g).members (next_failures (state_of s g).attrs.batch (led_of s g).waiting)

-- they wait no more
unfoldable pub failures_taken : Core → List ℕ → Core
failures_taken s g = with_waiting s g (failures_left (state_of s g).attrs.batch)
