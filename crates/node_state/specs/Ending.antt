-- The end of every step: what waits begins.
use Rattle.std.specs.Prelude.{ℕ, zero, suc, Bool, true, false, not, ◌&&◌, ◌*◌, List, [], ◌∷◌, filter, find, fold, length, Option, Some, None, is_none}
use Rattle.std.specs.Option.{option_map}
use Rattle.rsct_packet.specs.declared.ids.ProviderId.{ProviderId}
use Rattle.rsct_packet.specs.Lists.{is_empty}
use Rattle.rsct_packet.specs.Providers.{same_provider, among}
use Rattle.group_attr.specs.declared.attrs.Attrs.{Attrs}
use Rattle.proposal_core.specs.declared.proposal.Failure.{Failure}
use Rattle.proposal_core.specs.declared.proposal.Proposal.TheVariants.{Join, Fail, Reflect}
use Rattle.proposal_core.specs.declared.group_state.GroupState.{GroupState}
use Rattle.proposal_core.specs.Lists.{max_places, list_or_new, is_at_limit}
use Rattle.proposal_core.specs.GroupView.{GroupView}
use Rattle.batch_rules.specs.Waiting.{batches_failures, chosen_of, next_failures, failures_left, next_joins, joins_left}
use Rattle.source_target.specs.declared.Due.{Due}
use Rattle.source_target.specs.declared.Due.TheVariants as due
use Rattle.source_target.specs.Due as target
use Rattle.client_callbacks.specs.declared.told.Why.TheVariants.{NoSource}
use Rattle.node_state.specs.declared.group.GroupRow.{GroupRow}
use Rattle.node_state.specs.declared.group.JoinAttrs.{JoinAttrs}
use Rattle.node_state.specs.declared.state.Core.{Core}
use Rattle.node_state.specs.State.{row_of, led_of, state_of, len_of, frozen, led_groups}
use Rattle.node_state.specs.HandOn.{Answering}
use Rattle.node_state.specs.Leading.{with_waiting, begins}
use Rattle.node_state.specs.Deciding.{refused, known_state, lacks_source, source_len}

-- a state, and whether something has begun
pub record Pass : Type 0 where
  pub core : Core
  pub began : Bool

abbrev pub quiet : Core → Pass
quiet s = record { core = s; began = false }

abbrev pub begun_now : Core → Pass
begun_now s = record { core = s; began = true }

-- waiting failures: one that is no member any more is left out, and a choice that is left out whole begins nothing
unfoldable pub failures_begin : ℕ → Answering → Core → List ℕ → Pass
failures_begin zero f s g = quiet s
failures_begin (suc n) f s g =
    let st : GroupState = state_of s g in
    let out : List Failure = filter (λ (x : Failure). among st.members x.provider) (next_failures st.attrs.batch (led_of s g).waiting) in
    let t : Core = with_waiting s g (failures_left st.attrs.batch) in
    elim (is_empty out) [
      | true ↦ failures_begin n f t g
      | false ↦ begun_now (begins f t g (Fail out) st.attrs.phases)
    ]

-- a cast-out, one by one where failures are not batched, or a reflection
unfoldable pub due_begins : Answering → Core → List ℕ → GroupState → List ℕ → Option Due → Pass
due_begins f s g st h None = quiet s
due_begins f s g st h (Some (due.CastOut out)) = begun_now (begins f s g (Fail (chosen_of (batches_failures st.attrs.batch) out)) st.attrs.phases)
due_begins f s g st h (Some (due.Reflect v i)) = begun_now (begins f s g (Reflect v i (state_of s h).value) st.attrs.source_phases)

unfoldable pub source_begins : Answering → Core → List ℕ → GroupState → Option (List ℕ) → Pass
source_begins f s g st None = quiet s
source_begins f s g st (Some h) = due_begins f s g st h (target.due st (known_state s h))

abbrev pub attrs_or : Attrs → Option JoinAttrs → Attrs
attrs_or a None = a
attrs_or a (Some j) = j.attrs

-- a join carries the attributes of its request where that was decided in an empty idle group, else the group's own
unfoldable pub attrs_for : GroupState → List JoinAttrs → List ProviderId → Attrs
attrs_for st js [] = st.attrs
attrs_for st js (p ∷ ps) = attrs_or st.attrs (find (λ (j : JoinAttrs). same_provider j.provider p) js)

-- a join into a group with a source carries the length of the source's list
unfoldable pub carried_len : Core → Option (List ℕ) → Option ℕ
carried_len s source = option_map (len_of s) source

unfoldable pub source_refused : Core → List ℕ → Option (List ℕ) → List ProviderId → Core
source_refused s g source ps = fold (λ t (p : ProviderId). refused t g p p.join (NoSource (source_len t source))) s ps

-- waiting joins: joiners without a source provider are refused and left out
unfoldable pub joins_begin : ℕ → Answering → Core → List ℕ → Pass
joins_begin zero f s g = quiet s
joins_begin (suc n) f s g =
    let st : GroupState = state_of s g in
    let chosen : List ProviderId = next_joins st.attrs.batch (led_of s g).waiting in
    let a : Attrs = attrs_for st (led_of s g).join_attrs chosen in
    let ps : List ProviderId = filter (λ (p : ProviderId). not (lacks_source s a.source p.node)) chosen in
    let out : List ProviderId = filter (λ (p : ProviderId). lacks_source s a.source p.node) chosen in
    let t : Core = source_refused (with_waiting s g (joins_left st.attrs.batch)) g a.source out in
    elim (is_empty ps) [
      | true ↦ joins_begin n f t g
      | false ↦ begun_now (begins f t g (Join ps a (carried_len t a.source)) a.phases)
    ]

unfoldable pub or_due : Answering → List ℕ → Pass → Pass
or_due f g p = elim p.began [ true ↦ p | false ↦ source_begins f p.core g (state_of p.core g) (state_of p.core g).attrs.source ]

unfoldable pub or_joins : Answering → List ℕ → Pass → Pass
or_joins f g p = elim p.began [ true ↦ p | false ↦ joins_begin (length (led_of p.core g).waiting.joins) f p.core g ]

-- nothing runs, and the list is below its limits
unfoldable pub may_begin : GroupView → Bool
may_begin l = is_none l.state.running && not (is_at_limit l)

-- the first of the four that is there
unfoldable pub first_begins : Answering → Core → List ℕ → GroupRow → Pass
first_begins f s g row =
    elim (may_begin (list_or_new row.list)) [
      | false ↦ quiet s
      | true ↦ or_joins f g (or_due f g (failures_begin (length row.led.waiting.failures) f s g))
    ]

-- so many in one group, until nothing begins there
unfoldable pub group_begins : ℕ → Answering → List ℕ → Pass → Pass
group_begins zero f g p = p
group_begins (suc n) f g p =
    let q : Pass = first_begins f p.core g (row_of p.core g) in
    elim q.began [ true ↦ group_begins n f g q | false ↦ record { core = q.core; began = p.began } ]

-- over the led groups in name order
unfoldable pub one_pass : ℕ → Answering → Core → Pass
one_pass most f s = fold (λ p g. group_begins most f g p) (quiet s) (led_groups s)

unfoldable pub passes : ℕ → ℕ → Answering → Core → Core
passes zero most f s = s
passes (suc n) most f s =
    let p : Pass = one_pass most f s in elim p.began [ true ↦ passes n most f p.core | false ↦ p.core ]

-- each beginning appends, and nothing begins in a full list
unfoldable pub most_begun : Core → ℕ
most_begun s = suc (length s.groups * max_places)

-- the pass is repeated until it begins nothing
unfoldable pub end_step : Answering → Core → Core
end_step f s = elim (frozen s) [ true ↦ s | false ↦ passes (most_begun s) (most_begun s) f s ]

-- opens each word of this file, for a computation
unfoldable pub ending_opens : Unit {0}
unfolding failures_begin due_begins source_begins attrs_for carried_len source_refused joins_begin or_due or_joins may_begin first_begins group_begins one_pass passes most_begun end_step
ending_opens = tt
