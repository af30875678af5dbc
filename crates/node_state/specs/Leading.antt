-- What the leader of a group does: it appends, opens phases and closes them, and begins protocols.
use Rattle.std.specs.Prelude.{ℕ, zero, suc, Bool, true, false, not, ◌||◌, List, [], ◌∷◌, filter, fold, find, Option, Some, None, nat_le}
use Rattle.std.specs.Option.{option_or}
use Rattle.rsct_packet.specs.declared.ids.ProviderId.{ProviderId}
use Rattle.rsct_packet.specs.Providers.{same_provider, among}
use Rattle.group_attr.specs.declared.attrs.Attrs.{Attrs}
use Rattle.group_attr.specs.declared.attrs.Phases.{Phases}
use Rattle.group_attr.specs.declared.attrs.Phases.TheVariants.{One, Many}
use Rattle.proposal_core.specs.declared.proposal.Cause.TheVariants.{Died, Gone}
use Rattle.proposal_core.specs.declared.proposal.Proposal.{Proposal}
use Rattle.proposal_core.specs.declared.proposal.Proposal.TheVariants as proposal
use Rattle.proposal_core.specs.declared.entry.Vote.{Vote}
use Rattle.proposal_core.specs.declared.entry.Vote.TheVariants as vote
use Rattle.proposal_core.specs.declared.entry.Closed.{Closed}
use Rattle.proposal_core.specs.declared.entry.Entry.{Entry}
use Rattle.proposal_core.specs.declared.entry.Entry.TheVariants.{Once, Begin, Phase, Approve, Reject}
use Rattle.proposal_core.specs.declared.group_state.GroupState.{GroupState}
use Rattle.proposal_core.specs.declared.group_state.Running.{Running}
use Rattle.proposal_core.specs.Fold.{max_phases, voters}
use Rattle.proposal_core.specs.Lists.{list_or_new, with_entry}
use Rattle.vote_phases.specs.declared.voter.Voter.{Voter}
use Rattle.vote_phases.specs.Tally.{TallyView, tally_new, tally_fail, rows_of, outcome}
use Rattle.batch_rules.specs.Waiting.{WaitingView, add_failure}
use Rattle.node_state.specs.declared.group.Given.{Given}
use Rattle.node_state.specs.declared.group.Led.{Led}
use Rattle.node_state.specs.declared.happened.Happened.TheVariants as happened
use Rattle.node_state.specs.declared.packet.Body.TheVariants as body
use Rattle.node_state.specs.declared.state.Core.{Core}
use Rattle.node_state.specs.State.{with_row, with_led, led_of, state_of, len_of, fits_at_end, forget_below, leader_of, others, least_acked, recorded}
use Rattle.node_state.specs.Sending.{send_all}
use Rattle.node_state.specs.HandOn.{Answering, hand_on}

-- ---- appending

-- the entry is put at the end of the list, and this is recorded
unfoldable pub put : Core → List ℕ → Entry → Core
put s g e =
    recorded
    (with_row s g (λ row. record row { list = Some (with_entry (list_or_new row.list) s.views.view e) }))
    (happened.Put s.views.me s.views.view g (len_of s g) e)

-- put and handed on; ballots go to the node that is given
unfoldable pub put_and_hand : Answering → Core → Option ℕ → List ℕ → Entry → Core
put_and_hand f s to g e =
    let t : Core = put s g e in hand_on f t to g (len_of s g) (state_of s g) (state_of t g) e

-- the leader forgets what all members acknowledged
unfoldable pub forget_least : Core → List ℕ → Core
forget_least s g = forget_below s g (least_acked s g)

unfoldable pub with_waiting : Core → List ℕ → (WaitingView → WaitingView) → Core
with_waiting s g change = with_led s g (λ l. record l { waiting = change l.waiting })

-- one who failed waits with that cause, also where it is gone
unfoldable pub wait_if : Core → List ℕ → ProviderId → Bool → Bool → Core
wait_if s g p true gone = with_waiting s g (add_failure p Died)
wait_if s g p false true = with_waiting s g (add_failure p Gone)
wait_if s g p false false = s

-- a failed or gone joiner waits as a failure once it is a member
unfoldable pub new_members_wait : Core → List ℕ → GroupState → GroupState → Core
new_members_wait s g before after =
    fold (λ t p. wait_if t g p (among after.failed p) (among (led_of s g).gone p)) s (filter (λ p. not (among before.members p)) after.members)

-- an entry that fits: put, sent to each other member, handed on; then what all have is forgotten
unfoldable pub appended : Answering → Core → List ℕ → Entry → Core
appended f s g e =
    let t : Core = put s g e in
    let u : Core = send_all t (others t) (body.Entry t.views.view g (len_of s g) (least_acked t g) e) in
    let w : Core = hand_on f u (leader_of u g) g (len_of s g) (state_of s g) (state_of t g) e in
    new_members_wait (forget_least w g) g (state_of s g) (state_of t g)

-- the leader appends no entry that does not fit
unfoldable pub append_if_fits : Answering → Core → List ℕ → Entry → Bool → Core
append_if_fits f s g e false = s
append_if_fits f s g e true = appended f s g e

-- ---- the tally of a phase

unfoldable pub limit_for : Attrs → Proposal → ℕ
limit_for a (proposal.Reflect view place value) = a.source_limit
limit_for a _ = a.limit

unfoldable pub limit_of : Attrs → Option Running → ℕ
limit_of a None = 0
limit_of a (Some run) = limit_for a run.proposal

unfoldable pub fails_if : List ProviderId → List ProviderId → TallyView → ProviderId → TallyView
fails_if failed gone t p = elim (among failed p || among gone p) [ true ↦ tally_fail p t | false ↦ t ]

-- with the voters, failed and gone ones failed at once
unfoldable pub tally_for : GroupState → List ProviderId → TallyView
tally_for st gone = fold (fails_if st.failed gone) (tally_new (voters st) st.attrs.default_vote (limit_of st.attrs st.running)) (voters st)

unfoldable pub with_tally : Core → List ℕ → Option TallyView → Core
with_tally s g t = with_led s g (λ l. record l { tally = t })

-- opened anew: no ballot has been recorded
unfoldable pub tally_set : Core → List ℕ → Option TallyView → Core
tally_set s g t = with_led s g (λ l. record l { tally = t; given = [] })

unfoldable pub tally_opened : Core → List ℕ → Core
tally_opened s g = tally_set s g (Some (tally_for (state_of s g) (led_of s g).gone))

-- ---- closing a phase

abbrev pub carried_in : (Given → Option (List ℕ)) → Option Given → Option (List ℕ)
carried_in part None = None
carried_in part (Some x) = part x

-- what the earliest ballot carries, in voters' order, that carries it
unfoldable pub first_carried : (Given → Option (List ℕ)) → List Given → List Voter → Option (List ℕ)
first_carried part gs [] = None
first_carried part gs (x ∷ xs) = option_or (carried_in part (find (λ y. same_provider y.provider x.provider) gs)) (first_carried part gs xs)

unfoldable pub value_of : Led → TallyView → Option (List ℕ)
value_of l t = first_carried (λ x. x.value) l.given t.voters

unfoldable pub closed_by : Led → TallyView → Running → Option (List ℕ) → Closed
closed_by l t run value =
    record { proto = run.proto; phase = run.phase; rows = rows_of t.voters; value = value; message = first_carried (λ x. x.message) l.given t.voters }

-- CONTINUE rejects in the last phase
unfoldable pub closing : Led → TallyView → Running → Vote → Bool → Entry
closing l t run vote.Approve last = Approve (closed_by l t run (value_of l t))
closing l t run vote.Reject last = Reject (closed_by l t run None)
closing l t run vote.Continue true = Reject (closed_by l t run None)
closing l t run vote.Continue false = Phase (closed_by l t run (value_of l t))

unfoldable pub closing_of : Led → TallyView → Running → Option Vote → Option Entry
closing_of l t run None = None
closing_of l t run (Some v) = Some (closing l t run v (nat_le max_phases run.phase))

-- the entry that closes the phase, where there is an outcome
unfoldable pub closing_entry : Led → Option TallyView → Option Running → Option Entry
closing_entry l None run = None
closing_entry l (Some t) None = None
closing_entry l (Some t) (Some run) = closing_of l t run (outcome t)

unfoldable pub is_phase : Entry → Bool
is_phase (Phase c) = true
is_phase _ = false

-- a next tally that has an outcome at once is closed too: at most once for each phase
unfoldable pub closes_from : ℕ → Answering → Core → List ℕ → Core
closes_from zero f s g = s
closes_from (suc n) f s g =
    elim (closing_entry (led_of s g) (led_of s g).tally (state_of s g).running) [
      | None ↦ s
      | Some e ↦ elim (fits_at_end s g e) [
        | false ↦ s
        | true ↦ elim (is_phase e) [
          | true ↦ closes_from n f (tally_opened (appended f s g e) g) g
          | false ↦ tally_set (appended f s g e) g None
        ]
      ]
    ]

-- Close, where there is an outcome
unfoldable pub closes : Answering → Core → List ℕ → Core
closes f s g = closes_from max_phases f s g

-- ---- beginning

unfoldable pub begin_many : Answering → Core → List ℕ → Proposal → Bool → Core
begin_many f s g x false = s
begin_many f s g x true = closes f (tally_opened (appended f s g (Begin x)) g) g

-- Begin: at once, or with a tally
unfoldable pub begins : Answering → Core → List ℕ → Proposal → Phases → Core
begins f s g x One = append_if_fits f s g (Once x) (fits_at_end s g (Once x))
begins f s g x Many = begin_many f s g x (fits_at_end s g (Begin x))

-- opens each word of this file, for a computation
unfoldable pub leading_opens : Unit {0}
unfolding put put_and_hand forget_least with_waiting wait_if new_members_wait appended append_if_fits limit_for limit_of fails_if tally_for with_tally tally_set tally_opened first_carried value_of closed_by closing closing_of closing_entry is_phase closes_from closes begin_many begins
leading_opens = tt
