-- How the leader of a group decides requests.
use Rattle.std.specs.Prelude.{ℕ, Bool, true, false, not, ◌&&◌, ◌||◌, ◌++◌, List, [], ◌∷◌, length, Option, Some, None, nat_le, is_none}
use Rattle.std.specs.Option.{option_map}
use Rattle.std.specs.List.{list_any}
use Rattle.rsct_packet.specs.declared.ids.ProviderId.{ProviderId}
use Rattle.rsct_packet.specs.Lists.{is_empty, drop_where}
use Rattle.rsct_packet.specs.Providers.{same_provider, among}
use Rattle.group_attr.specs.declared.attrs.Attrs.{Attrs}
use Rattle.group_attr.specs.declared.attrs.Phases.{Phases}
use Rattle.group_attr.specs.Agree.{agree, same_source}
use Rattle.proposal_core.specs.declared.proposal.Proposal.{Proposal}
use Rattle.proposal_core.specs.declared.proposal.Proposal.TheVariants.{Join, Expel, Attributes}
use Rattle.proposal_core.specs.declared.group_state.GroupState.{GroupState}
use Rattle.proposal_core.specs.declared.group_state.Running.{Running}
use Rattle.proposal_core.specs.Fold.{max_providers, present}
use Rattle.proposal_core.specs.Lists.{is_at_limit}
use Rattle.batch_rules.specs.Waiting.{has_instance, waits_join}
use Rattle.source_target.specs.Due.{allowed}
use Rattle.client_callbacks.specs.declared.told.Why.{Why}
use Rattle.client_callbacks.specs.declared.told.Why.TheVariants as why
use Rattle.node_state.specs.declared.group.JoinAttrs.{JoinAttrs}
use Rattle.node_state.specs.declared.packet.Body.TheVariants as body
use Rattle.node_state.specs.declared.state.Core.{Core}
use Rattle.node_state.specs.State.{row_of, with_led, led_of, list_of, state_of, len_of, decisions_with}
use Rattle.node_state.specs.Sending.{sent}
use Rattle.node_state.specs.HandOn.{Answering}
use Rattle.node_state.specs.Leading.{begins}

unfoldable pub keep_decision : Core → List ℕ → ProviderId → ℕ → Option Why → Core
keep_decision s g p r y = with_led s g (λ l. record l { decided = decisions_with (record { provider = p; request = r; why = y }) l.decided })

-- a refusal is kept and sent to the requester's node
unfoldable pub refused : Core → List ℕ → ProviderId → ℕ → Why → Core
refused s g p r y = sent (keep_decision s g p r (Some y)) p.node (body.Tell s.views.view g p r y)

-- the state of a group at this node, if it holds a list of it
unfoldable pub known_state : Core → List ℕ → Option GroupState
known_state s g = option_map (λ l. l.state) (row_of s g).list

-- no member of the source stands on the node
unfoldable pub lacks_source : Core → Option (List ℕ) → ℕ → Bool
lacks_source s None n = false
lacks_source s (Some g) n = not (allowed (known_state s g) n)

unfoldable pub source_len : Core → Option (List ℕ) → ℕ
source_len s None = 0
source_len s (Some g) = len_of s g

-- ---- a join

-- nobody is there, and nothing runs
unfoldable pub is_idle_empty : GroupState → Bool
is_idle_empty st = is_empty st.members && is_none st.running

-- in an empty idle group the attributes meant are the request's
unfoldable pub meant_attrs : GroupState → Attrs → Bool → Attrs
meant_attrs st a true = a
meant_attrs st a false = st.attrs

-- why a join is refused: the first of these that holds
unfoldable pub join_refusal : Core → List ℕ → ProviderId → Attrs → Option Why
join_refusal s g p a =
    let st : GroupState = state_of s g in
    let idle : Bool = is_idle_empty st in
    let here : List ProviderId = present st ++ (led_of s g).waiting.joins in
    let source : Option (List ℕ) = (meant_attrs st a idle).source in
    elim (not idle && not (agree a st.attrs)) [
      | true ↦ Some why.BadAttributes
      | false ↦ elim (has_instance here p) [
        | true ↦ Some why.DuplicateInstance
        | false ↦ elim (lacks_source s source p.node) [
          | true ↦ Some (why.NoSource (source_len s source))
          | false ↦ elim (nat_le max_providers (length here)) [
            | true ↦ Some (why.GroupFull 64)
            | false ↦ elim (is_none st.running && is_at_limit (list_of s g)) [
              | true ↦ Some (why.ListFull (list_of s g).len (list_of s g).bytes)
              | false ↦ None
            ]
          ]
        ]
      ]
    ]

-- the attributes of a request that is decided in an empty idle group are kept
unfoldable pub keep_attrs : List JoinAttrs → ProviderId → Attrs → Bool → List JoinAttrs
keep_attrs js p a false = drop_where (λ (j : JoinAttrs). same_provider j.provider p) js
keep_attrs js p a true = drop_where (λ (j : JoinAttrs). same_provider j.provider p) js ++ record { provider = p; attrs = a } ∷ []

unfoldable pub wait_join : Core → List ℕ → ProviderId → ℕ → Attrs → Bool → Core
wait_join s g p r a idle =
    with_led (keep_decision s g p r None) g (λ l. record l { waiting = waits_join p l.waiting; join_attrs = keep_attrs l.join_attrs p a idle })

unfoldable pub decide_join : Core → List ℕ → ProviderId → ℕ → Attrs → Option Why → Core
decide_join s g p r a None = wait_join s g p r a (is_idle_empty (state_of s g))
decide_join s g p r a (Some y) = refused s g p r y

-- ---- another request

unfoldable pub expelled_by : Proposal → List ProviderId
expelled_by (Expel p r out) = out
expelled_by _ = []

unfoldable pub has_other_source : Attrs → Proposal → Bool
has_other_source old (Attributes p r a) = not (same_source a.source old.source)
has_other_source old _ = false

-- the requester is no member, failed or gone, or one of the expelled is no member
unfoldable pub is_no_member : GroupState → List ProviderId → ProviderId → Proposal → Bool
is_no_member st gone p x =
    not (among st.members p) || among st.failed p || among gone p || list_any (λ q. not (among st.members q)) (expelled_by x)

unfoldable pub full_refusal : Core → List ℕ → Option Why
full_refusal s g = elim (is_at_limit (list_of s g)) [ true ↦ Some (why.ListFull (list_of s g).len (list_of s g).bytes) | false ↦ None ]

unfoldable pub collide_refusal : Core → List ℕ → Option Running → Option Why
collide_refusal s g (Some run) = Some (why.Collide run.proto)
collide_refusal s g None = full_refusal s g

-- why another request is refused: the first of these that holds
unfoldable pub other_refusal : Core → List ℕ → ProviderId → Proposal → Option Why
other_refusal s g p x =
    let st : GroupState = state_of s g in
    elim (is_no_member st (led_of s g).gone p x) [
      | true ↦ Some why.NotAMember
      | false ↦ elim (has_other_source st.attrs x) [ true ↦ Some why.BadAttributes | false ↦ collide_refusal s g st.running ]
    ]

unfoldable pub decide_change : Answering → Core → List ℕ → ProviderId → ℕ → Phases → Proposal → Option Why → Core
decide_change f s g p r phases x None = begins f (keep_decision s g p r None) g x phases
decide_change f s g p r phases x (Some y) = refused s g p r y

-- the leader decides a request
unfoldable pub decided : Answering → Core → List ℕ → ProviderId → ℕ → Phases → Proposal → Core
decided f s g p r phases (Join ps a n) = decide_join s g p r a (join_refusal s g p a)
decided f s g p r phases x = decide_change f s g p r phases x (other_refusal s g p x)

-- opens each word of this file, for a computation
unfoldable pub deciding_opens : Unit {0}
unfolding keep_decision refused known_state lacks_source source_len is_idle_empty meant_attrs join_refusal keep_attrs wait_join decide_join expelled_by has_other_source is_no_member full_refusal collide_refusal other_refusal decide_change decided
deciding_opens = tt
