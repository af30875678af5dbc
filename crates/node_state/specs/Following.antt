-- The rules of the packets of a view.
use Rattle.std.specs.Prelude.{ℕ, Bool, true, false, not, ◌==◌, ◌&&◌, ◌||◌, ◌++◌, List, [], ◌∷◌, filter, fold, length, Option, Some, None, nat_le, nat_lt, is_none}
use Rattle.std.specs.Option.{unwrap_or}
use Rattle.std.specs.Str.{bytes_eq}
use Rattle.rsct_packet.specs.declared.ids.ProviderId.{ProviderId}
use Rattle.rsct_packet.specs.declared.ids.ProtoId.{ProtoId}
use Rattle.rsct_packet.specs.Providers.{among}
use Rattle.group_attr.specs.declared.attrs.Phases.{Phases}
use Rattle.proposal_core.specs.declared.proposal.Cause.TheVariants.{Gone}
use Rattle.proposal_core.specs.declared.proposal.Proposal.{Proposal}
use Rattle.proposal_core.specs.declared.entry.Vote.{Vote}
use Rattle.proposal_core.specs.declared.entry.Entry.{Entry}
use Rattle.proposal_core.specs.Fold.{runs, present}
use Rattle.vote_phases.specs.declared.tally.Cast.{Cast}
use Rattle.vote_phases.specs.declared.tally.Cast.TheVariants.{Recorded}
use Rattle.vote_phases.specs.Tally.{TallyView, tally_cast, tally_fail, cast_answer}
use Rattle.batch_rules.specs.Waiting.{add_failure, drop_join}
use Rattle.name_server.specs.Names as names
use Rattle.client_callbacks.specs.declared.told.Why.{Why}
use Rattle.client_callbacks.specs.declared.told.Why.TheVariants.{GroupsFull}
use Rattle.session_state.specs.declared.state.Request.{Request}
use Rattle.session_state.specs.State.{outstanding}
use Rattle.session_state.specs.HandOn.{is_numbered, take_telling}
use Rattle.node_state.specs.declared.group.Decision.{Decision}
use Rattle.node_state.specs.declared.group.Given.{Given}
use Rattle.node_state.specs.declared.group.Led.{Led}
use Rattle.node_state.specs.declared.happened.Happened.TheVariants as happened
use Rattle.node_state.specs.declared.packet.Body.TheVariants as body
use Rattle.node_state.specs.declared.state.Core.{Core}
use Rattle.node_state.specs.Settings.{is_fixed}
use Rattle.node_state.specs.State.{led_of, with_led, state_of, len_of, holds, held_rows, fits_at_end, forget_below, coordinates, leader_of, leads, set_leader, acked_raised, decision_of, recorded, with_sessions}
use Rattle.node_state.specs.Sending.{sent, send_request}
use Rattle.node_state.specs.HandOn.{Answering}
use Rattle.node_state.specs.Leading.{put_and_hand, forget_least, with_waiting, with_tally, closes}
use Rattle.node_state.specs.Deciding.{decided}

-- how many groups a view has
abbrev pub max_groups : ℕ
max_groups = 64

-- ---- LOOKUP and NAME

-- the coordinator answers with the table's node, 0 where it is full
unfoldable pub take_lookup : Core → ℕ → List ℕ → Core
take_lookup s from g =
    elim (coordinates s) [
      | false ↦ s
      | true ↦
          sent (record s { names = names.lookup g from s.names }) from (body.Name s.views.view g (unwrap_or (names.looked_up g from s.names) 0))
    ]

-- a telling of a refusal is the client's where its request is outstanding
unfoldable pub told_if : Core → ProviderId → ℕ → Why → Bool → Core
told_if s p r y false = s
told_if s p r y true = recorded (with_sessions s (take_telling s.sessions p r y)) (happened.Told p r y)

-- TELL
unfoldable pub take_tell : Core → ProviderId → ℕ → Why → Core
take_tell s p r y = told_if s p r y (is_numbered r (outstanding s.sessions p))

-- in order of number
unfoldable pub requests_of : Core → List ℕ → List Request
requests_of s g = filter (λ (q : Request). bytes_eq q.group g) s.sessions.requests

unfoldable pub named : Core → List ℕ → ℕ → Bool → Core
named s g n true = fold (λ t (q : Request). take_tell t q.provider q.request (GroupsFull 64)) s (requests_of s g)
named s g n false = fold send_request (set_leader s g n) (requests_of s g)

-- used where the leader is unknown, and with leader 0 in mode fixed
unfoldable pub is_name_used : Core → List ℕ → ℕ → Bool
is_name_used s g n = is_none (leader_of s g) || (is_fixed s.config.mode && n == 0)

unfoldable pub take_name : Core → List ℕ → ℕ → Core
take_name s g n = elim (is_name_used s g n) [ true ↦ named s g n (n == 0) | false ↦ s ]

-- ---- REQUEST

unfoldable pub tell_again : Core → List ℕ → ProviderId → ℕ → Option Why → Core
tell_again s g p r None = s
tell_again s g p r (Some y) = sent s p.node (body.Tell s.views.view g p r y)

-- the node notes itself as leader and decides
unfoldable pub decide_new : Answering → Core → List ℕ → ProviderId → ℕ → Phases → Proposal → Core
decide_new f s g p r phases x = decided f (set_leader s g s.views.me) g p r phases x

-- a number less than the last one, that number, or a greater one
unfoldable pub request_after : Answering → Core → List ℕ → ProviderId → ℕ → Phases → Proposal → Decision → Bool → Bool → Core
request_after f s g p r phases x d true same = s
request_after f s g p r phases x d false true = tell_again s g p r d.why
request_after f s g p r phases x d false false = decide_new f s g p r phases x

unfoldable pub request_at : Answering → Core → List ℕ → ProviderId → ℕ → Phases → Proposal → Option Decision → Core
request_at f s g p r phases x None = decide_new f s g p r phases x
request_at f s g p r phases x (Some d) = request_after f s g p r phases x d (nat_lt r d.request) (r == d.request)

-- in mode fixed, a new group where 64 lists are held
unfoldable pub is_group_refused : Core → List ℕ → Bool
is_group_refused s g = is_fixed s.config.mode && not (holds s g) && nat_le max_groups (length (held_rows s))

unfoldable pub take_request : Answering → Core → ℕ → List ℕ → ProviderId → ℕ → Phases → Proposal → Core
take_request f s from g p r phases x =
    elim (is_group_refused s g) [
      | true ↦ sent s from (body.Name s.views.view g 0)
      | false ↦ request_at f s g p r phases x (decision_of (led_of s g) p)
    ]

-- ---- ENTRY and ACK

-- at the length: put, handed on, acknowledged; the sender is noted as leader
unfoldable pub entry_next : Answering → Core → ℕ → List ℕ → ℕ → Entry → Bool → Core
entry_next f s from g stable e false = s
entry_next f s from g stable e true =
    let t : Core = put_and_hand f s (Some from) g e in
    forget_below (set_leader (sent t from (body.Ack t.views.view g (len_of t g))) g from) g stable

-- below the length, or above it
unfoldable pub entry_elsewhere : Core → ℕ → List ℕ → ℕ → Bool → Core
entry_elsewhere s from g stable true = forget_below (sent s from (body.Ack s.views.view g (len_of s g))) g stable
entry_elsewhere s from g stable false = elim (holds s g) [ true ↦ forget_below s g stable | false ↦ s ]

unfoldable pub take_entry : Answering → Core → ℕ → List ℕ → ℕ → ℕ → Entry → Core
take_entry f s from g place stable e =
    elim (place == len_of s g) [
      | true ↦ entry_next f s from g stable e (fits_at_end s g e)
      | false ↦ entry_elsewhere s from g stable (nat_lt place (len_of s g))
    ]

unfoldable pub acked : Core → ℕ → List ℕ → ℕ → Core
acked s from g n = forget_least (with_led s g (λ l. record l { acked = acked_raised from n l.acked })) g

-- of a list that the node leads, up to its length
unfoldable pub take_ack : Core → ℕ → List ℕ → ℕ → Core
take_ack s from g n = elim (leads s g && nat_le n (len_of s g)) [ true ↦ acked s from g n | false ↦ s ]

-- ---- VOTE

-- what a ballot carries is kept where its vote is recorded
unfoldable pub given_with : List Given → ProviderId → Option (List ℕ) → Option (List ℕ) → Cast → List Given
given_with gs p value message Recorded = gs ++ record { provider = p; value = value; message = message } ∷ []
given_with gs p value message _ = gs

unfoldable pub vote_cast : Led → ProviderId → Vote → Option (List ℕ) → Option (List ℕ) → Option TallyView → Led
vote_cast l p v value message None = l
vote_cast l p v value message (Some t) = record l { tally = Some (tally_cast p v t); given = given_with l.given p value message (cast_answer p t) }

-- on the tally of the phase that runs; close where there is an outcome
unfoldable pub take_vote : Answering → Core → List ℕ → ProtoId → ℕ → ProviderId → Vote → Option (List ℕ) → Option (List ℕ) → Core
take_vote f s g proto phase p v value message =
    elim (leads s g && runs proto phase (state_of s g).running) [
      | true ↦ closes f (with_led s g (λ l. vote_cast l p v value message l.tally)) g
      | false ↦ s
    ]

-- ---- GONE

unfoldable pub tally_failed : Answering → Core → List ℕ → ProviderId → Option TallyView → Core
tally_failed f s g p None = s
tally_failed f s g p (Some t) = closes f (with_tally s g (Some (tally_fail p t))) g

unfoldable pub wait_gone : Core → List ℕ → ProviderId → Core
wait_gone s g p = elim (among (state_of s g).members p) [ true ↦ with_waiting s g (add_failure p Gone) | false ↦ s ]

unfoldable pub marked : List ProviderId → ProviderId → List ProviderId
marked ps p = elim (among ps p) [ true ↦ ps | false ↦ ps ++ p ∷ [] ]

-- mark, fail, close; then one that is a member waits as a failure
unfoldable pub gone_present : Answering → Core → List ℕ → ProviderId → Core
gone_present f s g p =
    let t : Core = with_led s g (λ l. record l { gone = marked l.gone p }) in
    wait_gone (tally_failed f t g p (led_of t g).tally) g p

-- of one that is there, that waits to join, or neither
unfoldable pub gone_of : Answering → Core → List ℕ → ProviderId → Bool → Bool → Core
gone_of f s g p true waits = gone_present f s g p
gone_of f s g p false true = with_waiting s g (drop_join p)
gone_of f s g p false false = s

unfoldable pub take_gone : Answering → Core → List ℕ → ProviderId → Core
take_gone f s g p =
    elim (leads s g) [ true ↦ gone_of f s g p (among (present (state_of s g)) p) (among (led_of s g).waiting.joins p) | false ↦ s ]

-- opens each word of this file, for a computation
unfoldable pub following_opens : Unit {0}
unfolding take_lookup told_if take_tell requests_of named is_name_used take_name tell_again decide_new request_after request_at is_group_refused take_request entry_next entry_elsewhere take_entry acked take_ack given_with vote_cast take_vote tally_failed wait_gone marked gone_present gone_of take_gone
following_opens = tt
