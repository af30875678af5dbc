-- The parts of a beginning of waiting joins.
use Rattle.std.specs.Prelude.{ℕ, not, List, filter, Option}
use Rattle.rsct_packet.specs.declared.ids.ProviderId.{ProviderId}
use Rattle.group_attr.specs.declared.attrs.Attrs.{Attrs}
use Rattle.batch_rules.specs.Waiting.{next_joins, joins_left}
use Rattle.node_state.specs.declared.state.Core.{Core}
use Rattle.node_state.specs.State.{led_of, state_of}
use Rattle.node_state.specs.Leading.{with_waiting}
use Rattle.node_state.specs.Deciding.{lacks_source}
use Rattle.node_state.specs.Ending.{attrs_for, source_refused}

-- those who join next
unfoldable pub chosen_joins : Core → List ℕ → List ProviderId
chosen_joins s g = next_joins (state_of s g).attrs.batch (led_of s g).waiting

unfoldable pub chosen_attrs : Core → List ℕ → Attrs
chosen_attrs s g = attrs_for (state_of s g) (led_of s g).join_attrs (chosen_joins s g)

-- those of them on whose nodes a member of the source stands, and the others
unfoldable pub sourced : Core → Option (List ℕ) → List ProviderId → List ProviderId
sourced s source ps = filter (λ (p : ProviderId). not (lacks_source s source p.node)) ps

unfoldable pub unsourced : Core → Option (List ℕ) → List ProviderId → List ProviderId
unsourced s source ps = filter (λ (p : ProviderId). lacks_source s source p.node) ps

-- they wait no more, and the others are refused
unfoldable pub joins_chosen : Core → List ℕ → Core
joins_chosen s g =
    source_refused (with_waiting s g (joins_left (state_of s g).attrs.batch)) g (chosen_attrs s g).source (unsourced s (chosen_attrs s g).source (chosen_joins s g))
