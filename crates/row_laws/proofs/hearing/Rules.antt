-- What the rules of a step do, change by change, where the view stays.
use Rattle.std.proofs.Common.{◌≡◌, ℕ, ◌+◌, ◌-◌, List, [], ◌∷◌, take, drop, Option, Some, None, Bool, true, false, refl, sym, subst, inl, inr, arith}
use Rattle.std.specs.Prelude.{not, ◌==◌, ◌&&◌, filter, find, fold, nat_lt, nat_le, Result, Ok, Err}
use Rattle.std.specs.Option.{unwrap_or}
use Rattle.std.specs.List.{last_or}
use Rattle.rsct_packet.specs.declared.ids.ProviderId.{ProviderId}
use Rattle.rsct_packet.specs.declared.ids.ProtoId.{ProtoId}
use Rattle.rsct_packet.specs.declared.mask.Mask.{Mask}
use Rattle.rsct_packet.specs.Mask.{nodes_of}
use Rattle.rsct_packet.specs.Providers.{among}
use Rattle.rsct_packet.specs.Search.{Has}
use Rattle.packet_bodies.specs.declared.body.ReportRow.{ReportRow}
use Rattle.group_attr.specs.declared.attrs.Attrs.{Attrs}
use Rattle.group_attr.specs.declared.attrs.Phases.{Phases}
use Rattle.proposal_core.specs.declared.proposal.Cause.TheVariants.{Gone}
use Rattle.proposal_core.specs.declared.proposal.Proposal.{Proposal}
use Rattle.proposal_core.specs.declared.proposal.Proposal.TheVariants.{Join}
use Rattle.proposal_core.specs.declared.entry.Vote.{Vote}
use Rattle.proposal_core.specs.declared.entry.Entry.{Entry}
use Rattle.proposal_core.specs.declared.entry.Entry.TheVariants.{Late}
use Rattle.proposal_core.specs.declared.group_state.Running.{Running}
use Rattle.proposal_core.specs.Fold.{runs, present, max_phases}
use Rattle.proposal_core.specs.GroupView.{GroupView}
use Rattle.proposal_core.specs.Lists.{state_in}
use Rattle.vote_phases.specs.Tally.{TallyView, tally_fail, open_voters, expires}
use Rattle.batch_rules.specs.Waiting.{add_failure, waits_join, drop_join}
use Rattle.name_server.specs.Names as names
use Rattle.adapter_ring.specs.declared.ring.Ring.{Ring}
use Rattle.adapter_ring.specs.declared.ring.RingSet.{RingSet}
use Rattle.adapter_ring.specs.declared.packet.RingSend.{RingSend}
use Rattle.adapter_ring.specs.declared.packet.RingPacket.{RingPacket}
use Rattle.adapter_ring.specs.declared.packet.RingEvent.TheVariants as ring_event
use Rattle.adapter_ring.specs.declared.work.RingWork.{RingWork}
use Rattle.adapter_ring.specs.Rings.{ring_step}
use Rattle.node_reach.specs.Reach as reach
use Rattle.client_callbacks.specs.declared.told.Why.{Why}
use Rattle.client_callbacks.specs.declared.told.Why.TheVariants as why
use Rattle.client_callbacks.specs.declared.ballot.Filled.{Filled}
use Rattle.session_state.specs.declared.fault.GsFault.{GsFault}
use Rattle.session_state.specs.declared.state.Provider.{Provider}
use Rattle.session_state.specs.declared.state.Request.{Request}
use Rattle.session_state.specs.declared.state.KeptBallot.{KeptBallot}
use Rattle.session_state.specs.declared.state.SessionState.{SessionState}
use Rattle.session_state.specs.State.{is_member_of, client_token, outstanding}
use Rattle.session_state.specs.Calls.{join_asked, joined, is_empty, inited, add_session, ballot_of, keeps, request_made, left, expelled, state_changed, message_sent, attributes_changed, voted, subscribe_taken, unsubscribe_taken, end_session, goodbye_taken}
use Rattle.subscribe_core.specs.Subs.{subs_add, subs_remove}
use Rattle.session_state.specs.HandOn.{is_numbered, take_telling}
use Rattle.node_state.specs.declared.call.CallLine.{CallLine}
use Rattle.node_state.specs.declared.call.CallLine.TheVariants as call
use Rattle.node_state.specs.declared.group.Decision.{Decision}
use Rattle.node_state.specs.declared.group.GroupRow.{GroupRow}
use Rattle.node_state.specs.declared.group.Led.{Led}
use Rattle.node_state.specs.declared.happened.Happened.{Happened}
use Rattle.node_state.specs.declared.happened.Happened.TheVariants as happened
use Rattle.node_state.specs.declared.packet.Body.TheVariants as body
use Rattle.node_state.specs.declared.state.Core.{Core}
use Rattle.node_state.specs.Settings.{is_rings}
use Rattle.node_state.specs.State.{row_of, led_of, with_led, state_of, len_of, holds, held_rows, fits_at_end, forget_below, frozen, coordinates, leader_of, leads, set_leader, led_groups, others, least_acked, acked_by, acked_raised, decision_of, decisions_with, recorded, recorded_all, with_sessions}
use Rattle.node_state.specs.Sending.{sent, send_on, send_all, send_if_known, send_request_to, send_request, send_requests, send_kept_to, send_kept, kept_sent_if, kept_sent_again, send_votes_again}
use Rattle.node_state.specs.HandOn.{Answering}
use Rattle.node_state.specs.Leading.{put_and_hand, forget_least, with_waiting, with_tally, append_if_fits, closes, begins}
use Rattle.node_state.specs.Deciding.{keep_decision, join_refusal, is_idle_empty, keep_attrs, wait_join, decide_join, decide_change, decided}
use Rattle.node_state.specs.Following.{take_lookup, told_if, take_tell, requests_of, named, is_name_used, take_name, tell_again, decide_new, request_after, request_at, is_group_refused, take_request, entry_next, entry_elsewhere, take_entry, acked, take_ack, vote_cast, take_vote, tally_failed, wait_gone, marked, gone_present, gone_of, take_gone}
use Rattle.node_state.specs.Ticks.{ring_put, set_records, ring_taken, ring_rule_of, ring_rule, take_report, rings_union, report_of, send_report, rings_tick, tick_rings, is_lost, lost_told, tick_owed, late_appended, announced, ticked_in, tally_ticks, entries_sent, list_sent_again, sent_again, tick_group, tick_led}
use Rattle.node_state.specs.Calls.{caller, subscriber, refuse_call, changed, ask_last, proposed, record_ballot, ballot_sent_if, cast_last, give_ballot, send_gone, send_all_gone, goodbye_said, take_call}
use Rattle.step_walk.proofs.Kept.{last_is}
use Rattle.row_laws.specs.hearing.Changes.{Records, Loses, Joins, Votes, Inner, Fewer, voting, Unentered}
use Rattle.row_laws.proofs.hearing.Changes.{inner_unentered, calm_same, calm_all, Sends, sends_nothing, sends_then, sends_fold, sends_on, sends_one, sends_all, sends_known, Onward, onward_same, onward_then, onward_sends, onward_row, onward_led, onward_records, put_handed_onward}
use Rattle.row_laws.proofs.hearing.Leading.{forgets_onward, appended_onward, closes_onward, begins_onward, refused_onward, waits_onward}
use Rattle.row_laws.proofs.hearing.Sessions.{fewer_same, fewer_told, fewer_ended, unless_is, fewer_unless, fewer_if, fewer_asks, fewer_changes, Casts, casts_voted}

-- ---- what is owed is sent

pub request_sends : (c : Core) (q : Request) → Sends c (send_request c q)
unfolding send_request send_request_to
request_sends c q = by (frozen c)
  where
    to : (o : Option ℕ) → Sends c (send_request_to c q o)
    to None = sends_one c _ _
    to (Some n) = sends_one c _ _

    by : (b : Bool) → Sends c (elim b as (λ _. Core) [ true ↦ c | false ↦ send_request_to c q (leader_of c q.group) ])
    by true = sends_nothing c
    by false = to (leader_of c q.group)

requests_sends : (c : Core) → Sends c (send_requests c)
unfolding send_requests
requests_sends c = sends_fold send_request request_sends c.sessions.requests c

pub kept_sends : (c : Core) (k : KeptBallot) → Sends c (send_kept c k)
unfolding send_kept send_kept_to
kept_sends c k = by k.ballot.filled
  where
    by : (o : Option Filled) → Sends c (send_kept_to c k (leader_of c k.group) o)
    by None = sends_nothing c
    by (Some b) = sends_known c _ _

pub gone_sends : (c : Core) (xs : List Provider) → Sends c (send_all_gone c xs)
unfolding send_all_gone send_gone
gone_sends c xs = by (frozen c)
  where
    by : (b : Bool) → Sends c (elim b as (λ _. Core) [ true ↦ c | false ↦ fold send_gone c xs ])
    by true = sends_nothing c
    by false = sends_fold send_gone (λ t x. sends_known t _ _) xs c

kept_again_sends : (c : Core) (k : KeptBallot) → Sends c (kept_sent_again c k)
unfolding kept_sent_again kept_sent_if
kept_again_sends c k = by (runs k.proto k.phase (state_of c k.group).running)
  where
    by : (b : Bool) → Sends c (kept_sent_if c k b)
    by false = sends_nothing c
    by true = kept_sends c k

votes_sends : (c : Core) → Sends c (send_votes_again c)
unfolding send_votes_again
votes_sends c = sends_fold kept_sent_again kept_again_sends c.sessions.kept c

pub owed_sends : (c : Core) → Sends c (send_votes_again (send_requests c))
owed_sends c = sends_then c (send_requests c) (send_votes_again (send_requests c)) (requests_sends c) (votes_sends (send_requests c))

lost_sends : (c : Core) (row : GroupRow) → Sends c (lost_told c row)
unfolding lost_told
lost_sends c row = sends_fold (λ t p. send_if_known t (leader_of t row.name) (body.Gone t.views.view row.name p)) (λ t p. sends_known t _ _) (filter (is_lost c) (present (state_in row.list))) c

pub owed_part_onward : (c : Core) → Onward c (tick_owed c)
unfolding tick_owed
owed_part_onward c = by (frozen c)
  where
    t : Core
    t = send_requests c

    u : Core
    u = fold lost_told t (held_rows t)

    by : (b : Bool) → Onward c (elim b as (λ _. Core) [ true ↦ c | false ↦ send_votes_again u ])
    by true = onward_same c
    by false = onward_sends c (send_votes_again u) (sends_then c t (send_votes_again u) (requests_sends c) (sends_then t u (send_votes_again u) (sends_fold lost_told lost_sends (held_rows t) t) (votes_sends u)))

-- ---- sessions and records

pub onward_loses : (c : Core) (t : SessionState) → Fewer c.sessions t → Onward c (with_sessions c t)
unfolding with_sessions
onward_loses c t k o = record { order = o; views = refl; does = Loses c t k; calm = calm_same c (with_sessions c t) refl }

pub onward_record : (c : Core) (r : Happened) → Inner r → Onward c (recorded c r)
unfolding recorded recorded_all
onward_record c r a o = record { order = o; views = refl; does = Records c r a; calm = calm_all (r ∷ []) c (one r a) }
  where
    one : (r : Happened) → Inner r → (q : Happened) → Has q (r ∷ []) → Unentered q
    one r a q (inl e) = subst Unentered (sym e) (inner_unentered r a)
    one r a q (inr z) = absurd z

pub onward_fold : {A : Type 0} (f : Core → A → Core) → ((c : Core) (x : A) → Onward c (f c x)) → (xs : List A) (c : Core) → Onward c (fold f c xs)
onward_fold f one [] c = onward_same c
onward_fold f one (x ∷ xs) c = onward_then c (f c x) (fold f (f c x) xs) (one c x) (onward_fold f one xs (f c x))

led_by_onward : (c : Core) (h : List ℕ) (n : ℕ) → Onward c (set_leader c h n)
unfolding set_leader
led_by_onward c h n = onward_row c h (λ row. record row { leader = Some n }) (λ x. refl) (λ row. refl) (λ row. refl)

-- ---- requests are decided

kept_onward : (c : Core) (h : List ℕ) (p : ProviderId) (r : ℕ) (y : Option Why) → Onward c (keep_decision c h p r y)
unfolding keep_decision
kept_onward c h p r y = onward_led c h (λ l. record l { decided = decisions_with (record { provider = p; request = r; why = y }) l.decided })

decided_join_onward : (c : Core) (h : List ℕ) (p : ProviderId) (r : ℕ) (a : Attrs) (o : Option Why) → Onward c (decide_join c h p r a o)
unfolding decide_join wait_join
decided_join_onward c h p r a None =
    let idle : Bool = is_idle_empty (state_of c h) in
    let d : Core = keep_decision c h p r None in
    let F : Led → Led = λ l. record l { waiting = waits_join p l.waiting; join_attrs = keep_attrs l.join_attrs p a idle } in
    onward_then c d (with_led d h F) (kept_onward c h p r None) (onward_led d h F)
decided_join_onward c h p r a (Some y) = refused_onward c h p r y

decided_other_onward : (f : Answering) (c : Core) (h : List ℕ) (p : ProviderId) (r : ℕ) (phases : Phases) (x : Proposal) (o : Option Why) → Onward c (decide_change f c h p r phases x o)
unfolding decide_change
decided_other_onward f c h p r phases x None =
    let d : Core = keep_decision c h p r None in onward_then c d (begins f d h x phases) (kept_onward c h p r None) (begins_onward f d h x phases)
decided_other_onward f c h p r phases x (Some y) = refused_onward c h p r y

decided_onward : (f : Answering) (c : Core) (h : List ℕ) (p : ProviderId) (r : ℕ) (phases : Phases) (x : Proposal) → Onward c (decided f c h p r phases x)
unfolding decided
decided_onward f c h p r phases (Join ps a n) = decided_join_onward c h p r a (join_refusal c h p a)
decided_onward f c h p r phases x = decided_other_onward f c h p r phases x _

-- ---- packets of a view

pub lookup_onward : (c : Core) (from : ℕ) (h : List ℕ) → Onward c (take_lookup c from h)
unfolding take_lookup
lookup_onward c from h = by (coordinates c)
  where
    named_too : Core
    named_too = record c { names = names.lookup h from c.names }

    sends : Sends c named_too
    sends = record { groups = refl; views = refl; sessions = refl; records = refl }

    by : (b : Bool) → Onward c (elim b as (λ _. Core) [ false ↦ c | true ↦ sent named_too from (body.Name c.views.view h (unwrap_or (names.looked_up h from c.names) 0)) ])
    by false = onward_same c
    by true = onward_sends c _ (sends_then c named_too _ sends (sends_one named_too _ _))

pub tell_onward : (c : Core) (p : ProviderId) (r : ℕ) (y : Why) → Onward c (take_tell c p r y)
unfolding take_tell told_if
tell_onward c p r y = by (is_numbered r (outstanding c.sessions p))
  where
    by : (b : Bool) → Onward c (told_if c p r y b)
    by false = onward_same c
    by true =
        let d : Core = with_sessions c (take_telling c.sessions p r y) in
        onward_then c d (recorded d (happened.Told p r y)) (onward_loses c (take_telling c.sessions p r y) (fewer_told c.sessions p r y)) (onward_record d (happened.Told p r y) tt)

pub name_onward : (c : Core) (h : List ℕ) (n : ℕ) → Onward c (take_name c h n)
unfolding take_name named
name_onward c h n = by (is_name_used c h n)
  where
    of_number : (b : Bool) → Onward c (named c h n b)
    of_number true = onward_fold (λ t (q : Request). take_tell t q.provider q.request (why.GroupsFull 64)) (λ t q. tell_onward t q.provider q.request (why.GroupsFull 64)) (requests_of c h) c
    of_number false =
        let d : Core = set_leader c h n in onward_then c d (fold send_request d (requests_of c h)) (led_by_onward c h n) (onward_sends d _ (sends_fold send_request request_sends (requests_of c h) d))

    by : (b : Bool) → Onward c (elim b as (λ _. Core) [ true ↦ named c h n (n == 0) | false ↦ c ])
    by true = of_number (n == 0)
    by false = onward_same c

request_new_onward : (f : Answering) (c : Core) (h : List ℕ) (p : ProviderId) (r : ℕ) (phases : Phases) (x : Proposal) → Onward c (decide_new f c h p r phases x)
unfolding decide_new
request_new_onward f c h p r phases x =
    let d : Core = set_leader c h c.views.me in onward_then c d (decided f d h p r phases x) (led_by_onward c h c.views.me) (decided_onward f d h p r phases x)

request_at_onward : (f : Answering) (c : Core) (h : List ℕ) (p : ProviderId) (r : ℕ) (phases : Phases) (x : Proposal) (o : Option Decision) → Onward c (request_at f c h p r phases x o)
unfolding request_at request_after tell_again
request_at_onward f c h p r phases x None = request_new_onward f c h p r phases x
request_at_onward f c h p r phases x (Some d) = by (nat_lt r d.request) (r == d.request)
  where
    told : (o : Option Why) → Onward c (tell_again c h p r o)
    told None = onward_same c
    told (Some y) = onward_sends c _ (sends_one c _ _)

    by : (a b : Bool) → Onward c (request_after f c h p r phases x d a b)
    by true b = onward_same c
    by false true = told d.why
    by false false = request_new_onward f c h p r phases x

pub request_onward : (f : Answering) (c : Core) (from : ℕ) (h : List ℕ) (p : ProviderId) (r : ℕ) (phases : Phases) (x : Proposal) → Onward c (take_request f c from h p r phases x)
unfolding take_request
request_onward f c from h p r phases x = by (is_group_refused c h)
  where
    by : (b : Bool) → Onward c (elim b as (λ _. Core) [ true ↦ sent c from (body.Name c.views.view h 0) | false ↦ request_at f c h p r phases x (decision_of (led_of c h) p) ])
    by true = onward_sends c _ (sends_one c _ _)
    by false = request_at_onward f c h p r phases x (decision_of (led_of c h) p)

pub entry_onward : (f : Answering) (c : Core) (from : ℕ) (h : List ℕ) (place stable : ℕ) (e : Entry) → Onward c (take_entry f c from h place stable e)
unfolding take_entry entry_next entry_elsewhere
entry_onward f c from h place stable e = by (place == len_of c h)
  where
    next : (b : Bool) → Onward c (entry_next f c from h stable e b)
    next false = onward_same c
    next true =
        let t : Core = put_and_hand f c (Some from) h e in
        let u : Core = sent t from (body.Ack t.views.view h (len_of t h)) in
        let w : Core = set_leader u h from in
        onward_then c t (forget_below w h stable) (put_handed_onward f c (Some from) h e) (onward_then t u (forget_below w h stable) (onward_sends t u (sends_one t _ _)) (onward_then u w (forget_below w h stable) (led_by_onward u h from) (forgets_onward w h stable)))

    held : (b : Bool) → Onward c (elim b as (λ _. Core) [ true ↦ forget_below c h stable | false ↦ c ])
    held true = forgets_onward c h stable
    held false = onward_same c

    elsewhere : (b : Bool) → Onward c (entry_elsewhere c from h stable b)
    elsewhere true =
        let u : Core = sent c from (body.Ack c.views.view h (len_of c h)) in onward_then c u (forget_below u h stable) (onward_sends c u (sends_one c _ _)) (forgets_onward u h stable)
    elsewhere false = held (holds c h)

    by : (b : Bool) → Onward c (elim b as (λ _. Core) [ true ↦ entry_next f c from h stable e (fits_at_end c h e) | false ↦ entry_elsewhere c from h stable (nat_lt place (len_of c h)) ])
    by true = next (fits_at_end c h e)
    by false = elsewhere (nat_lt place (len_of c h))

pub ack_onward : (c : Core) (from : ℕ) (h : List ℕ) (n : ℕ) → Onward c (take_ack c from h n)
unfolding take_ack acked forget_least
ack_onward c from h n = by (leads c h && nat_le n (len_of c h))
  where
    d : Core
    d = with_led c h (λ l. record l { acked = acked_raised from n l.acked })

    by : (b : Bool) → Onward c (elim b as (λ _. Core) [ true ↦ forget_below d h (least_acked d h) | false ↦ c ])
    by true = onward_then c d (forget_below d h (least_acked d h)) (onward_led c h (λ l. record l { acked = acked_raised from n l.acked })) (forgets_onward d h (least_acked d h))
    by false = onward_same c

pub closes_on : (f : Answering) (c : Core) (h : List ℕ) → Onward c (closes f c h)
unfolding closes
closes_on f c h = closes_onward max_phases f c h

pub vote_onward : (f : Answering) (c : Core) (h : List ℕ) (proto : ProtoId) (phase : ℕ) (p : ProviderId) (v : Vote) (value message : Option (List ℕ)) → Onward c (take_vote f c h proto phase p v value message)
unfolding take_vote
vote_onward f c h proto phase p v value message = by (leads c h && runs proto phase (state_of c h).running)
  where
    d : Core
    d = with_led c h (λ l. vote_cast l p v value message l.tally)

    by : (b : Bool) → Onward c (elim b as (λ _. Core) [ true ↦ closes f d h | false ↦ c ])
    by true = onward_then c d (closes f d h) (onward_led c h (λ l. vote_cast l p v value message l.tally)) (closes_on f d h)
    by false = onward_same c

tally_onward : (c : Core) (h : List ℕ) (o : Option TallyView) → Onward c (with_tally c h o)
unfolding with_tally
tally_onward c h o = onward_led c h (λ l. record l { tally = o })

gone_present_onward : (f : Answering) (c : Core) (h : List ℕ) (p : ProviderId) → Onward c (gone_present f c h p)
unfolding gone_present tally_failed wait_gone state_of
gone_present_onward f c h p =
    let e : Core = tally_failed f d h p (led_of d h).tally in
    onward_then c d (wait_gone e h p) (onward_led c h (λ l. record l { gone = marked l.gone p })) (onward_then d e (wait_gone e h p) (failed (led_of d h).tally) (waits e (among (state_of e h).members p)))
  where
    d : Core
    d = with_led c h (λ l. record l { gone = marked l.gone p })

    failed : (o : Option TallyView) → Onward d (tally_failed f d h p o)
    failed None = onward_same d
    failed (Some t) = onward_then d (with_tally d h (Some (tally_fail p t))) (closes f (with_tally d h (Some (tally_fail p t))) h) (tally_onward d h (Some (tally_fail p t))) (closes_on f (with_tally d h (Some (tally_fail p t))) h)

    waits : (e : Core) (b : Bool) → Onward e (elim b as (λ _. Core) [ true ↦ with_waiting e h (add_failure p Gone) | false ↦ e ])
    waits e true = waits_onward e h p Gone
    waits e false = onward_same e

pub gone_onward : (f : Answering) (c : Core) (h : List ℕ) (p : ProviderId) → Onward c (take_gone f c h p)
unfolding take_gone gone_of with_waiting
gone_onward f c h p = by (leads c h)
  where
    of : (a b : Bool) → Onward c (gone_of f c h p a b)
    of true b = gone_present_onward f c h p
    of false true = onward_led c h (λ l. record l { waiting = drop_join p l.waiting })
    of false false = onward_same c

    by : (b : Bool) → Onward c (elim b as (λ _. Core) [ true ↦ gone_of f c h p (among (present (state_of c h)) p) (among (led_of c h).waiting.joins p) | false ↦ c ])
    by true = of (among (present (state_of c h)) p) (among (led_of c h).waiting.joins p)
    by false = onward_same c

-- ---- rings

ring_taken_onward : (c : Core) (x : RingWork) → Onward c (ring_taken c x)
unfolding ring_taken set_records
ring_taken_onward c x =
    let d : Core = record c { rings = ring_put c.rings x.ring } in
    let e : Core = fold (λ u (y : RingSend). send_on u y.network y.to (body.Ring y.packet)) d x.sends in
    let sends : Sends c d = record { groups = refl; views = refl; sessions = refl; records = refl } in
    onward_then c e (recorded_all e (set_records c.views.me x.ring.net x.set)) (onward_sends c e (sends_then c d e sends (sends_fold (λ u (y : RingSend). send_on u y.network y.to (body.Ring y.packet)) (λ u y. sends_on u _ _ _) x.sends d))) (onward_records (set_records c.views.me x.ring.net x.set) e (aside x.set))
  where
    aside : (o : Option RingSet) (r : Happened) → Has r (set_records c.views.me x.ring.net o) → Inner r
    aside None r h = absurd h
    aside (Some y) r (inl e) = subst Inner (sym e) tt
    aside (Some y) r (inr z) = absurd z

pub ring_onward : (c : Core) (network from inc : ℕ) (p : RingPacket) → Onward c (ring_rule c network from inc p)
unfolding ring_rule ring_rule_of
ring_onward c network from inc p = by (find (λ (r : Ring). r.net == network) c.rings)
  where
    by : (o : Option Ring) → Onward c (ring_rule_of c from inc p o)
    by None = onward_same c
    by (Some r) = ring_taken_onward c (ring_step r (ring_event.Packet from inc p))

pub report_onward : (c : Core) (rows : List ReportRow) → Onward c (take_report c rows)
unfolding take_report
report_onward c rows = onward_sends c _ (record { groups = refl; views = refl; sessions = refl; records = refl })

report_sends : (c : Core) (m : Mask) → Sends c (send_report c m)
unfolding send_report
report_sends c m =
    let t : Core = record c { reach = reach.set_own c.reach m } in
    sends_then c t (send_all t (filter (λ n. not (n == c.views.me)) (nodes_of m)) (body.Report (report_of t.reach))) (record { groups = refl; views = refl; sessions = refl; records = refl }) (sends_all t _ _)

pub rings_onward : (c : Core) → Onward c (tick_rings c)
unfolding tick_rings rings_tick
rings_onward c = by (is_rings c.config.mode)
  where
    t : Core
    t = fold (λ u (r : Ring). ring_taken u (ring_step r ring_event.Tick)) c c.rings

    by : (b : Bool) → Onward c (elim b as (λ _. Core) [ true ↦ send_report t (rings_union t.rings) | false ↦ c ])
    by false = onward_same c
    by true =
        onward_then c t (send_report t (rings_union t.rings)) (onward_fold (λ u (r : Ring). ring_taken u (ring_step r ring_event.Tick)) (λ u r. ring_taken_onward u (ring_step r ring_event.Tick)) c.rings c) (onward_sends t _ (report_sends t (rings_union t.rings)))

-- ---- the tick of what is led

appended_if_onward : (f : Answering) (c : Core) (h : List ℕ) (e : Entry) (b : Bool) → Onward c (append_if_fits f c h e b)
unfolding append_if_fits
appended_if_onward f c h e false = onward_same c
appended_if_onward f c h e true = appended_onward f c h e

announced_onward : (f : Answering) (c : Core) (h : List ℕ) (t : TallyView) (b : Bool) → Onward c (announced f c h t b)
unfolding announced late_appended
announced_onward f c h t false = onward_same c
announced_onward f c h t true = by (state_of c h).running
  where
    by : (o : Option Running) → Onward c (late_appended f c h t o)
    by None = onward_same c
    by (Some run) = appended_if_onward f c h (Late run.proto run.phase (open_voters t)) (fits_at_end c h (Late run.proto run.phase (open_voters t)))

tally_ticks_onward : (f : Answering) (c : Core) (h : List ℕ) (o : Option TallyView) → Onward c (tally_ticks f c h o)
unfolding tally_ticks
tally_ticks_onward f c h None = onward_same c
tally_ticks_onward f c h (Some t) =
    let u : Core = announced f c h t (c.sessions.level == 2 && expires t) in
    let w : Core = with_tally u h (ticked_in (led_of u h).tally) in
    onward_then c u (closes f w h) (announced_onward f c h t (c.sessions.level == 2 && expires t)) (onward_then u w (closes f w h) (tally_onward u h (ticked_in (led_of u h).tally)) (closes_on f w h))

entries_sends : (to : ℕ) (h : List ℕ) (stable : ℕ) (es : List Entry) (i : ℕ) (c : Core) → Sends c (entries_sent to h i stable es c)
unfolding entries_sent
entries_sends to h stable [] i c = sends_nothing c
entries_sends to h stable (e ∷ es) i c =
    let d : Core = sent c to (body.Entry c.views.view h i stable e) in sends_then c d (entries_sent to h (i + 1) stable es d) (sends_one c _ _) (entries_sends to h stable es (i + 1) d)

again_sends : (h : List ℕ) (c : Core) (n : ℕ) → Sends c (sent_again h c n)
unfolding sent_again list_sent_again
again_sends h c n = by (row_of c h).list
  where
    by : (o : Option GroupView) → Sends c (list_sent_again c h n (acked_by c (row_of c h) n) o)
    by None = sends_nothing c
    by (Some l) = entries_sends n h (least_acked c h) (take 16 (drop (acked_by c (row_of c h) n - l.start) l.entries)) (acked_by c (row_of c h) n) c

group_ticks_onward : (f : Answering) (c : Core) (h : List ℕ) → Onward c (tick_group f c h)
unfolding tick_group
group_ticks_onward f c h =
    let t : Core = tally_ticks f c h (led_of c h).tally in
    onward_then c t (fold (sent_again h) t (others t)) (tally_ticks_onward f c h (led_of c h).tally) (onward_sends t _ (sends_fold (sent_again h) (again_sends h) (others t) t))

pub led_part_onward : (f : Answering) (c : Core) → Onward c (tick_led f c)
unfolding tick_led
led_part_onward f c = by (frozen c)
  where
    by : (b : Bool) → Onward c (elim b as (λ _. Core) [ true ↦ c | false ↦ fold (tick_group f) c (led_groups c) ])
    by true = onward_same c
    by false = onward_fold (tick_group f) (group_ticks_onward f) (led_groups c) c

-- ---- calls

changed_onward : (c : Core) (client : List ℕ) (r : Result SessionState GsFault) → ((u : SessionState) → r ≡ Ok u → Fewer c.sessions u) → Onward c (changed c client r)
unfolding changed refuse_call
changed_onward c client (Ok u) k = onward_loses c u (k u refl)
changed_onward c client (Err fault) k = onward_record c (happened.Refused c.views.me client fault) tt

last_asked_onward : (c : Core) (o : Option Request) → Onward c (ask_last c o)
unfolding ask_last
last_asked_onward c None = onward_same c
last_asked_onward c (Some q) =
    let d : Core = recorded c (happened.Asked q.provider q.request q.group q.proposal) in
    onward_then c d (send_request d q) (onward_record c (happened.Asked q.provider q.request q.group q.proposal) tt) (onward_sends d _ (request_sends d q))

proposed_onward : (c : Core) (client : List ℕ) (r : Result SessionState GsFault) → ((u : SessionState) → r ≡ Ok u → Onward c (with_sessions c u)) → Onward c (proposed c client r)
unfolding proposed refuse_call
proposed_onward c client (Ok u) k =
    let d : Core = with_sessions c u in onward_then c d (ask_last d (last_or None u.requests)) (k u refl) (last_asked_onward d (last_or None u.requests))
proposed_onward c client (Err fault) k = onward_record c (happened.Refused c.views.me client fault) tt

-- a ballot that is kept is recorded, and sent
given_onward : (c : Core) (client : List ℕ) (r : Result SessionState GsFault) → ((u : SessionState) → r ≡ Ok u → Casts c.sessions u) → Onward c (give_ballot c client r)
unfolding give_ballot refuse_call cast_last record_ballot ballot_sent_if with_sessions recorded recorded_all
given_onward c client (Err fault) k = onward_record c (happened.Refused c.views.me client fault) tt
given_onward c client (Ok u) k =
    let v : Casts c.sessions u = k u refl in
    let one : KeptBallot = record { provider = (v.by).provider; group = (v.by).group; proto = (v.phase).proto; phase = (v.phase).phase; ballot = ballot_of c.sessions.level v.ballot } in
    let t : Core = voting c v.by v.phase v.ballot in
    subst (λ (z : SessionState). Onward c (cast_last (with_sessions c z) (last_or None z.kept))) (sym v.is) (subst (λ o. Onward c (cast_last (with_sessions c (keeps c.sessions v.by v.phase v.ballot)) o)) (sym (last_is c.sessions.kept one None)) (onward_then c t (ballot_sent_if t one (frozen (with_sessions c (keeps c.sessions v.by v.phase v.ballot)))) (voted_onward v) (sends t one (frozen (with_sessions c (keeps c.sessions v.by v.phase v.ballot))))))
  where
    told : {u : SessionState} → Casts c.sessions u → Happened
    told v = happened.Cast (v.by).provider (v.phase).proto (v.phase).phase (v.ballot).vote (v.ballot).value (v.ballot).message

    one : {u : SessionState} (v : Casts c.sessions u) (q : Happened) → Has q (told v ∷ []) → Unentered q
    one v q (inl e) = subst Unentered (sym e) tt
    one v q (inr z) = absurd z

    voted_onward : {u : SessionState} (v : Casts c.sessions u) → Onward c (voting c v.by v.phase v.ballot)
    voted_onward v o = record { order = o; views = refl; does = Votes c v.by v.phase v.ballot v.found v.opened v.unkept; calm = calm_all (told v ∷ []) c (λ q h. one v q h) }

    sends : (d : Core) (k : KeptBallot) (b : Bool) → Onward d (ballot_sent_if d k b)
    sends d k true = onward_same d
    sends d k false = onward_sends d _ (kept_sends d k)

said_onward : (c : Core) (client : List ℕ) (ended : List Provider) (r : Result SessionState GsFault) → ((u : SessionState) → r ≡ Ok u → Fewer c.sessions u) → Onward c (goodbye_said c client ended r)
unfolding goodbye_said refuse_call
said_onward c client ended (Ok u) k =
    let d : Core = with_sessions c u in onward_then c d (send_all_gone d ended) (onward_loses c u (k u refl)) (onward_sends d (send_all_gone d ended) (gone_sends d ended))
said_onward c client ended (Err fault) k = onward_record c (happened.Refused c.views.me client fault) tt

-- a provider has one client
abbrev pub OneOwner : SessionState → Type 0
OneOwner s = (a b : Provider) → Has a s.providers → Has b s.providers → a.provider ≡ b.provider → a.client ≡ b.client

pub call_onward : (c : Core) (x : CallLine) → OneOwner c.sessions → c.records ≡ [] → Onward c (take_call c x)
unfolding take_call inited add_session joined left expelled state_changed message_sent request_made attributes_changed voted subscribe_taken unsubscribe_taken goodbye_taken with_sessions
call_onward c (call.Init node name votes) own none =
    changed_onward c name _ (λ u e. fewer_unless c.sessions _ (add_session c.sessions name) u (fewer_same c.sessions (add_session c.sessions name) refl refl (omega arith) refl refl) e)
call_onward c (call.Join client h instance attrs) own none =
    proposed_onward c client _ (λ u e. subst (λ z. Onward c (with_sessions c z)) (sym (unless_is _ (join_asked c.sessions (client_token c.sessions client) h instance attrs) u e)) (λ o. record { order = o; views = refl; does = Joins c (client_token c.sessions client) h instance attrs none; calm = calm_same c (with_sessions c (join_asked c.sessions (client_token c.sessions client) h instance attrs)) refl }))
call_onward c (call.Leave client h phases) own none =
    proposed_onward c client _ (λ u e. onward_loses c u (fewer_if c.sessions (is_empty c.sessions.sessions) _ u (λ u e. fewer_asks c.sessions (find (is_member_of (caller c.sessions client h)) c.sessions.providers) phases _ _ u e) e))
call_onward c (call.Expel client h phases out) own none =
    proposed_onward c client _ (λ u e. onward_loses c u (fewer_if c.sessions (is_empty c.sessions.sessions) _ u (λ u e. fewer_asks c.sessions (find (is_member_of (caller c.sessions client h)) c.sessions.providers) phases _ _ u e) e))
call_onward c (call.ChangeState client h phases value) own none =
    proposed_onward c client _ (λ u e. onward_loses c u (fewer_if c.sessions (is_empty c.sessions.sessions) _ u (λ u e. fewer_asks c.sessions (find (is_member_of (caller c.sessions client h)) c.sessions.providers) phases _ _ u e) e))
call_onward c (call.SendMessage client h phases bytes) own none =
    proposed_onward c client _ (λ u e. onward_loses c u (fewer_if c.sessions (is_empty c.sessions.sessions) _ u (λ u e. fewer_asks c.sessions (find (is_member_of (caller c.sessions client h)) c.sessions.providers) phases _ _ u e) e))
call_onward c (call.ChangeAttributes client h phases attrs) own none =
    proposed_onward c client _ (λ u e. onward_loses c u (fewer_if c.sessions (is_empty c.sessions.sessions) _ u (λ u e. fewer_changes c.sessions (find (is_member_of (caller c.sessions client h)) c.sessions.providers) phases attrs u e) e))
call_onward c (call.Vote client h v value) own none =
    given_onward c client _ (λ u e. casts_voted c.sessions (caller c.sessions client h) v value u e)
call_onward c (call.Subscribe client h) own none =
    changed_onward c client _ (λ u e. let t : SessionState = record (c.sessions) { subs = subs_add (client_token c.sessions client) h c.sessions.subs } in fewer_unless c.sessions _ t u (fewer_same c.sessions t refl refl (omega arith) refl refl) e)
call_onward c (call.Unsubscribe client h) own none =
    changed_onward c client _ (λ u e. let t : SessionState = record (c.sessions) { subs = subs_remove (subscriber c.sessions client h) c.sessions.subs } in fewer_unless c.sessions _ t u (fewer_same c.sessions t refl refl (omega arith) refl refl) e)
call_onward c (call.Goodbye client) own none =
    said_onward c client _ _ (λ u e. fewer_unless c.sessions _ (end_session c.sessions (client_token c.sessions client)) u (fewer_ended c.sessions (client_token c.sessions client) own) e)
