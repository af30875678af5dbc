-- What sends, tells, and is recorded beside lists and views keeps what calm changes and silent records keep: entries that are
-- heard, rings, calls, and what follows as a view is entered.
use Rattle.std.proofs.Common.{append_assoc, append-nil, ℕ, List, [], ◌∷◌, length, Option, Some, None, Bool, true, false, refl, sym, subst, inl, inr, ⊎_elim, ◌≡◌}
use Rattle.std.specs.Prelude.{nat_lt, ◌==◌, not, map, filter, find, fold, flat_map, Result, Ok, Err, ◌&&◌}
use Rattle.std.specs.List.{last_or}
use Rattle.std.specs.Str.{bytes_eq}
use Rattle.rsct_packet.specs.declared.ids.ProviderId.{ProviderId}
use Rattle.rsct_packet.specs.declared.ids.ProtoId.{ProtoId}
use Rattle.rsct_packet.specs.Search.{Has}
use Rattle.rsct_packet.proofs.HasLaws.{has_append, has_map}
use Rattle.rsct_packet.specs.declared.ids.ViewId.{ViewId}
use Rattle.rsct_packet.specs.Providers.{among}
use Rattle.group_attr.specs.Attrs.{host_membership}
use Rattle.group_attr.specs.declared.attrs.Phases.{Phases}
use Rattle.proposal_core.specs.declared.entry.Entry.{Entry}
use Rattle.proposal_core.specs.declared.group_state.GroupState.{GroupState}
use Rattle.proposal_core.specs.Fold.{present}
use Rattle.proposal_core.specs.Lists.{state_in}
use Rattle.proposal_core.specs.declared.proposal.Cause.TheVariants.{Gone}
use Rattle.proposal_core.specs.declared.proposal.Proposal.{Proposal}
use Rattle.batch_rules.specs.Waiting.{add_failure, drop_join}
use Rattle.subscribe_core.specs.declared.subs.Subscription.{Subscription}
use Rattle.subscribe_core.specs.Subs.{is_of_group, differs}
use Rattle.adapter_ring.specs.declared.ring.Ring.{Ring}
use Rattle.adapter_ring.specs.declared.ring.RingSet.{RingSet}
use Rattle.adapter_ring.specs.declared.packet.RingSend.{RingSend}
use Rattle.adapter_ring.specs.declared.packet.RingPacket.{RingPacket}
use Rattle.adapter_ring.specs.declared.packet.RingEvent.TheVariants as ring_event
use Rattle.adapter_ring.specs.declared.work.RingWork.{RingWork}
use Rattle.adapter_ring.specs.Rings.{ring_step}
use Rattle.packet_bodies.specs.declared.body.ReportRow.{ReportRow}
use Rattle.view_state.specs.declared.install.Base.{Base}
use Rattle.view_state.specs.Bases.{base_named}
use Rattle.view_state.specs.declared.packet.ViewPacket.TheVariants as packet
use Rattle.client_callbacks.specs.declared.told.Why.{Why}
use Rattle.client_callbacks.specs.declared.ballot.Filled.{Filled}
use Rattle.client_callbacks.specs.Ballots.{BallotView}
use Rattle.client_callbacks.specs.declared.told.Told.TheVariants as told
use Rattle.client_callbacks.specs.declared.told.Why.TheVariants.{Dissolved}
use Rattle.session_state.specs.declared.casts.Cast.{Cast}
use Rattle.session_state.specs.declared.fault.GsFault.{GsFault}
use Rattle.session_state.specs.declared.state.KeptBallot.{KeptBallot}
use Rattle.session_state.specs.declared.state.Provider.{Provider}
use Rattle.session_state.specs.declared.state.Request.{Request}
use Rattle.session_state.specs.declared.state.SessionState.{SessionState}
use Rattle.session_state.specs.State.{outstanding, provider_of, is_client_of, client_token}
use Rattle.session_state.specs.HandOn.{hearers, casts_out, is_numbered, take_telling}
use Rattle.session_state.specs.HandOn as session
use Rattle.session_state.specs.Calls.{inited, joined, left, expelled, state_changed, message_sent, attributes_changed, voted, subscribe_taken, unsubscribe_taken, goodbye_taken}
use Rattle.node_state.specs.declared.call.CallLine.{CallLine}
use Rattle.node_state.specs.declared.call.CallLine.TheVariants as call
use Rattle.node_state.specs.declared.group.GroupRow.{GroupRow}
use Rattle.node_state.specs.declared.happened.Happened.{Happened}
use Rattle.node_state.specs.declared.happened.Happened.TheVariants as happened
use Rattle.node_state.specs.declared.packet.Body.{Body}
use Rattle.node_state.specs.declared.packet.Body.TheVariants as body
use Rattle.node_state.specs.declared.state.Core.{Core}
use Rattle.node_state.specs.Settings.{is_rings}
use Rattle.node_state.specs.State.{leads, with_led, led_of, decision_of, state_of, frozen, recorded, recorded_all, with_sessions, holds}
use Rattle.node_state.specs.Sending.{send_on, sent, send_request, send_requests, send_kept, send_votes_again}
use Rattle.node_state.specs.HandOn.{Answering, fills, cast_record, cast_records, heard, note_of, notes, noted, casts_sent, hand_on, subscriber_name}
use Rattle.node_state.specs.declared.group.Decision.{Decision}
use Rattle.node_state.specs.Following.{take_gone, gone_of, gone_present, wait_gone, tally_failed, marked, told_if, take_tell, tell_again, decide_new, request_after, request_at, is_group_refused, take_request}
use Rattle.node_state.specs.Ticks.{ring_put, set_records, ring_taken, ring_rule_of, ring_rule, take_report, rings_union, send_report, rings_tick, tick_rings}
use Rattle.node_state.specs.Calls.{refuse_call, changed, ask_last, proposed, record_ballot, ballot_sent_if, cast_last, give_ballot, send_gone, send_all_gone, goodbye_said, take_call, caller, subscriber}
use Rattle.node_state.specs.Leading.{with_waiting}
use Rattle.node_state.specs.Applying.{is_in_base, number_of, dissolved, dissolved_if, group_dissolved, sides_dissolved, base_note, entering_note, entering_noted, taken_sent, owed_sent}
use Rattle.step_refinement.proofs.SessionLaws.{handed_later}
use Rattle.entry_laws.proofs.closing_rows.Calms.{Silent, AllSilent, Calm, calm_then, calm_fold, calm_on, calm_sent, calm_known, calm_sessions, calm_casts, request_calm, kept_calm, owed_calm, report_calm}
use Rattle.entry_laws.proofs.closing_rows.Levels.{SameLevel, inited_level, joined_level, left_level, expelled_level, state_level, message_level, attributes_level, subscribe_level, unsubscribe_level, goodbye_level, voted_level, telling_level}

-- what calm changes and silent records keep
pub record KeepsQuiet (P : Core → Type 0) : Type 0 where
  pub calm : (c d : Core) → Calm c d → P c → P d
  pub silent : (s : Core) (r : Happened) → Silent r → P s → P (recorded s r)

pub at_fold : (P : Core → Type 0) {A : Type 0} (f : Core → A → Core) (xs : List A) → ((s : Core) (x : A) → Has x xs → P s → P (f s x)) → (s : Core) → P s → P (fold f s xs)
at_fold P f [] step s a = a
at_fold P f (x ∷ xs) step s a = at_fold P f xs (λ t y i k. step t y (inr i) k) (f s x) (step s x (inl refl) a)

-- ---- records that are silent

cast_silent : (p : ProviderId) (c : Option (ProtoId × ℕ × BallotView)) → AllSilent (cast_records p c)
unfolding cast_records cast_record
cast_silent p None r i = absurd i
cast_silent p (Some x) r i = by (x.2).filled i
  where
    by : (b : Option Filled) → Has r (cast_record p x.0 x.1 b) → Silent r
    by None i = absurd i
    by (Some b) (inl e) = subst Silent (sym e) tt
    by (Some b) (inr z) = absurd z

heard_silent : (s : Core) (g : List ℕ) (i : ℕ) (e : Entry) (after : GroupState) (cs : List Cast) → AllSilent (flat_map (heard s g i e after) cs)
unfolding heard
heard_silent s g i e after [] r j = absurd j
heard_silent s g i e after (c ∷ cs) r j =
    ⊎_elim (λ (k : Has r (heard s g i e after c)). by k) (λ (k : Has r (flat_map (heard s g i e after) cs)). heard_silent s g i e after cs r k) (has_append r (heard s g i e after c) (flat_map (heard s g i e after) cs) j)
  where
    by : Has r (heard s g i e after c) → Silent r
    by (inl q) = subst Silent (sym q) tt
    by (inr k) = cast_silent c.provider c.cast r k

set_silent : (n network : ℕ) (o : Option RingSet) → AllSilent (set_records n network o)
unfolding set_records
set_silent n network None r i = absurd i
set_silent n network (Some x) r (inl e) = subst Silent (sym e) tt
set_silent n network (Some x) r (inr z) = absurd z

note_silent : (s : Core) (bs : List Base) (u : Subscription) → AllSilent (entering_note s bs u)
unfolding entering_note base_note note_of
note_silent s bs u r i = by (bytes_eq u.group host_membership) i
  where
    base : (o : Option Base) → Has r (base_note s u o) → Silent r
    base None j = absurd j
    base (Some b) (inl e) = subst Silent (sym e) tt
    base (Some b) (inr z) = absurd z

    by : (b : Bool) → Has r (elim b as (λ _. List Happened) [ true ↦ happened.Noted s.views.me (subscriber_name s.sessions u) s.views.view None (told.Hosts s.views.view s.views.members) ∷ [] | false ↦ base_note s u (base_named bs u.group) ]) → Silent r
    by true (inl e) = subst Silent (sym e) tt
    by true (inr z) = absurd z
    by false j = base (base_named bs u.group) j

notes_silent : (s : Core) (bs : List Base) (us : List Subscription) → AllSilent (flat_map (entering_note s bs) us)
notes_silent s bs [] r i = absurd i
notes_silent s bs (u ∷ us) r i =
    ⊎_elim (λ (j : Has r (entering_note s bs u)). note_silent s bs u r j) (λ (j : Has r (flat_map (entering_note s bs) us)). notes_silent s bs us r j) (has_append r (entering_note s bs u) (flat_map (entering_note s bs) us) i)

module _ {P : Core → Type 0} (keeps : KeepsQuiet P) where
  pub at_recorded_all : (rs : List Happened) (s : Core) → AllSilent rs → P s → P (recorded_all s rs)
  unfolding recorded_all recorded
  at_recorded_all [] s none a = subst (λ l. P (record s { records = l })) (sym (append-nil s.records)) a
  at_recorded_all (r ∷ rs) s none a =
      subst (λ l. P (record s { records = l })) (append_assoc s.records (r ∷ []) rs) (at_recorded_all rs (recorded s r) (λ x i. none x (inr i)) (keeps.silent s r (none r (inl refl)) a))

  pub at_sent : (s : Core) (to : ℕ) (b : Body) → P s → P (sent s to b)
  at_sent s to b a = keeps.calm s (sent s to b) (calm_sent s to b) a

  pub at_sent_on : (s : Core) (network to : ℕ) (b : Body) → P s → P (send_on s network to b)
  at_sent_on s network to b a = keeps.calm s (send_on s network to b) (calm_on s network to b) a

  -- ---- handing on

  pub at_notes : (s : Core) (g : List ℕ) (place : Option ℕ) (st : GroupState) → P s → P (notes s g place st)
  unfolding notes note_of
  at_notes s g place st a =
      let live : List Subscription = filter (is_of_group g) s.sessions.subs.live in
      at_recorded_all (map (note_of s g place st) live) s (λ r k. let q = has_map (note_of s g place st) r live k in subst Silent (sym q.2) tt) a

  pub at_handed : (f : Answering) (s : Core) (to : Option ℕ) (g : List ℕ) (i : ℕ) (before after : GroupState) (e : Entry) → P s → P (hand_on f s to g i before after e)
  unfolding hand_on noted notes recorded_all
  at_handed f s to g i before after e a =
      let t : Core = with_sessions (noted c g i before after) u in
      keeps.calm t (casts_sent t g to cs) (calm_casts t g to cs) (noted_it (differs before after))
    where
      cs : List Cast
      cs = casts_out s.sessions g before after e (fills f (length s.records) s.sessions e after (hearers s.sessions g before e))

      c : Core
      c = recorded_all s (flat_map (heard s g i e after) cs)

      u : SessionState
      u = session.handed_on s.sessions g before after e (fills f (length s.records) s.sessions e after (hearers s.sessions g before e))

      level : u.level ≡ s.sessions.level
      level = (handed_later s.sessions g before after e (fills f (length s.records) s.sessions e after (hearers s.sessions g before e))).level

      heard_it : P c
      heard_it = at_recorded_all (flat_map (heard s g i e after) cs) s (heard_silent s g i e after cs) a

      noted_it : (b : Bool) → P (with_sessions (elim b as (λ _. Core) [ true ↦ notes c g (Some i) after | false ↦ c ]) u)
      noted_it true = keeps.calm (notes c g (Some i) after) (with_sessions (notes c g (Some i) after) u) (calm_sessions (notes c g (Some i) after) u level) (at_notes c g (Some i) after heard_it)
      noted_it false = keeps.calm c (with_sessions c u) (calm_sessions c u level) heard_it

  at_told : (s : Core) (p : ProviderId) (r : ℕ) (y : Why) → P s → P (recorded (with_sessions s (take_telling s.sessions p r y)) (happened.Told p r y))
  at_told s p r y a =
      let t : Core = with_sessions s (take_telling s.sessions p r y) in
      keeps.silent t (happened.Told p r y) tt (keeps.calm s t (calm_sessions s (take_telling s.sessions p r y) (telling_level s.sessions p r y)) a)

  pub at_tell : (s : Core) (p : ProviderId) (r : ℕ) (y : Why) → P s → P (take_tell s p r y)
  unfolding take_tell told_if
  at_tell s p r y a = by (is_numbered r (outstanding s.sessions p))
    where
      by : (b : Bool) → P (told_if s p r y b)
      by false = a
      by true = at_told s p r y a

  -- a request, where what is decided of a new one keeps it
  module _ (f : Answering) (s : Core) (g : List ℕ) (p : ProviderId) (r : ℕ) (phases : Phases) (x : Proposal) (a : P s) (decided_new : P (decide_new f s g p r phases x)) where
    at_request_after : (d : Decision) (b c : Bool) → P (request_after f s g p r phases x d b c)
    unfolding request_after tell_again
    at_request_after d true c = a
    at_request_after d false true = again d.why
      where
        again : (o : Option Why) → P (tell_again s g p r o)
        again None = a
        again (Some y) = at_sent s p.node (body.Tell s.views.view g p r y) a
    at_request_after d false false = decided_new

    pub at_request_taken : (from : ℕ) → P (take_request f s from g p r phases x)
    unfolding take_request request_at
    at_request_taken from = by (is_group_refused s g)
      where
        of : (o : Option Decision) → P (request_at f s g p r phases x o)
        of None = decided_new
        of (Some d) = at_request_after d (nat_lt r d.request) (r == d.request)

        by : (b : Bool) → P (elim b as (λ _. Core) [ true ↦ sent s from (body.Name s.views.view g 0) | false ↦ request_at f s g p r phases x (decision_of (led_of s g) p) ])
        by true = at_sent s from (body.Name s.views.view g 0) a
        by false = of (decision_of (led_of s g) p)

  -- ---- rings

  at_ring_taken : (s : Core) (x : RingWork) → P s → P (ring_taken s x)
  unfolding ring_taken
  at_ring_taken s x a =
      let d : Core = record s { rings = ring_put s.rings x.ring } in
      let e : Core = fold (λ u (y : RingSend). send_on u y.network y.to (body.Ring y.packet)) d x.sends in
      at_recorded_all (set_records s.views.me x.ring.net x.set) e (set_silent s.views.me x.ring.net x.set) (keeps.calm s e (calm_then s d e (record { groups = refl; views = refl; config = refl; names = refl; records = refl; level = refl; sends = λ p i. i }) (calm_fold (λ u (y : RingSend). send_on u y.network y.to (body.Ring y.packet)) (λ u y. calm_on u _ _ _) x.sends d)) a)

  pub at_ring : (s : Core) (network from inc : ℕ) (p : RingPacket) → P s → P (ring_rule s network from inc p)
  unfolding ring_rule ring_rule_of
  at_ring s network from inc p a = by (find (λ (r : Ring). r.net == network) s.rings)
    where
      by : (o : Option Ring) → P (ring_rule_of s from inc p o)
      by None = a
      by (Some r) = at_ring_taken s (ring_step r (ring_event.Packet from inc p)) a

  pub at_report : (s : Core) (rows : List ReportRow) → P s → P (take_report s rows)
  unfolding take_report
  at_report s rows a = keeps.calm s _ (record { groups = refl; views = refl; config = refl; names = refl; records = refl; level = refl; sends = λ p i. i }) a

  pub at_rings_part : (s : Core) → P s → P (tick_rings s)
  unfolding tick_rings rings_tick
  at_rings_part s a = by (is_rings s.config.mode)
    where
      t : Core
      t = fold (λ u (r : Ring). ring_taken u (ring_step r ring_event.Tick)) s s.rings

      by : (b : Bool) → P (elim b as (λ _. Core) [ true ↦ send_report t (rings_union t.rings) | false ↦ s ])
      by false = a
      by true = keeps.calm t (send_report t (rings_union t.rings)) (report_calm t (rings_union t.rings)) (at_fold P (λ u (r : Ring). ring_taken u (ring_step r ring_event.Tick)) s.rings (λ u r i k. at_ring_taken u (ring_step r ring_event.Tick) k) s a)

  -- ---- calls

  at_refused_call : (s : Core) (client : List ℕ) (fault : GsFault) → P s → P (refuse_call s client fault)
  unfolding refuse_call
  at_refused_call s client fault a = keeps.silent s (happened.Refused s.views.me client fault) tt a

  at_changed : (s : Core) (client : List ℕ) (r : Result SessionState GsFault) → SameLevel s.sessions r → P s → P (changed s client r)
  unfolding changed
  at_changed s client (Ok t) level a = keeps.calm s (with_sessions s t) (calm_sessions s t level) a
  at_changed s client (Err fault) level a = at_refused_call s client fault a

  at_last_asked : (s : Core) (o : Option Request) → P s → P (ask_last s o)
  unfolding ask_last
  at_last_asked s None a = a
  at_last_asked s (Some q) a =
      let t : Core = recorded s (happened.Asked q.provider q.request q.group q.proposal) in
      keeps.calm t (send_request t q) (request_calm t q) (keeps.silent s (happened.Asked q.provider q.request q.group q.proposal) tt a)

  at_proposed : (s : Core) (client : List ℕ) (r : Result SessionState GsFault) → SameLevel s.sessions r → P s → P (proposed s client r)
  unfolding proposed
  at_proposed s client (Ok t) level a = at_last_asked (with_sessions s t) (last_or None t.requests) (keeps.calm s (with_sessions s t) (calm_sessions s t level) a)
  at_proposed s client (Err fault) level a = at_refused_call s client fault a

  at_last_cast : (s : Core) (o : Option KeptBallot) → P s → P (cast_last s o)
  unfolding cast_last record_ballot ballot_sent_if
  at_last_cast s None a = a
  at_last_cast s (Some k) a = sends (record_ballot s k k.ballot.filled) (frozen s) (by k.ballot.filled)
    where
      by : (o : Option Filled) → P (record_ballot s k o)
      by None = a
      by (Some b) = keeps.silent s (happened.Cast k.provider k.proto k.phase b.vote b.value b.message) tt a

      sends : (d : Core) (b : Bool) → P d → P (ballot_sent_if d k b)
      sends d true x = x
      sends d false x = keeps.calm d (send_kept d k) (kept_calm d k) x

  at_given : (s : Core) (client : List ℕ) (r : Result SessionState GsFault) → SameLevel s.sessions r → P s → P (give_ballot s client r)
  unfolding give_ballot
  at_given s client (Ok t) level a = at_last_cast (with_sessions s t) (last_or None t.kept) (keeps.calm s (with_sessions s t) (calm_sessions s t level) a)
  at_given s client (Err fault) level a = at_refused_call s client fault a

  at_said : (s : Core) (client : List ℕ) (over : List Provider) (r : Result SessionState GsFault) → SameLevel s.sessions r → P s → P (goodbye_said s client over r)
  unfolding goodbye_said send_all_gone send_gone frozen
  at_said s client over (Ok t) level a = by (with_sessions s t) (frozen (with_sessions s t)) (keeps.calm s (with_sessions s t) (calm_sessions s t level) a)
    where
      by : (d : Core) (b : Bool) → P d → P (elim b as (λ _. Core) [ true ↦ d | false ↦ fold send_gone d over ])
      by d true x = x
      by d false x = keeps.calm d (fold send_gone d over) (calm_fold send_gone (λ t x. calm_known t _ _) over d) x
  at_said s client over (Err fault) level a = at_refused_call s client fault a

  pub at_call : (s : Core) (c : CallLine) → P s → P (take_call s c)
  unfolding take_call
  at_call s (call.Init node name votes) a = at_changed s name (inited s.sessions name) (inited_level s.sessions name) a
  at_call s (call.Join client g instance attrs) a = at_proposed s client (joined s.sessions (client_token s.sessions client) g instance attrs) (joined_level s.sessions (client_token s.sessions client) g instance attrs) a
  at_call s (call.Leave client g phases) a = at_proposed s client (left s.sessions (caller s.sessions client g) phases) (left_level s.sessions (caller s.sessions client g) phases) a
  at_call s (call.Expel client g phases out) a = at_proposed s client (expelled s.sessions (caller s.sessions client g) phases out) (expelled_level s.sessions (caller s.sessions client g) phases out) a
  at_call s (call.ChangeState client g phases value) a = at_proposed s client (state_changed s.sessions (caller s.sessions client g) phases value) (state_level s.sessions (caller s.sessions client g) phases value) a
  at_call s (call.SendMessage client g phases bytes) a = at_proposed s client (message_sent s.sessions (caller s.sessions client g) phases bytes) (message_level s.sessions (caller s.sessions client g) phases bytes) a
  at_call s (call.ChangeAttributes client g phases attrs) a = at_proposed s client (attributes_changed s.sessions (caller s.sessions client g) phases attrs) (attributes_level s.sessions (caller s.sessions client g) phases attrs) a
  at_call s (call.Vote client g v value) a = at_given s client (voted s.sessions (caller s.sessions client g) v value) (voted_level s.sessions (caller s.sessions client g) v value) a
  at_call s (call.Subscribe client g) a = at_changed s client (subscribe_taken s.sessions (client_token s.sessions client) g (holds s g)) (subscribe_level s.sessions (client_token s.sessions client) g (holds s g)) a
  at_call s (call.Unsubscribe client g) a = at_changed s client (unsubscribe_taken s.sessions (client_token s.sessions client) (subscriber s.sessions client g)) (unsubscribe_level s.sessions (client_token s.sessions client) (subscriber s.sessions client g)) a
  at_call s (call.Goodbye client) a = at_said s client (filter (is_client_of (client_token s.sessions client)) s.sessions.providers) (goodbye_taken s.sessions (client_token s.sessions client)) (goodbye_level s.sessions (client_token s.sessions client)) a

  -- ---- as a view is entered

  at_dissolved_if : (s : Core) (g : List ℕ) (old : ViewId) (b : Option Base) (o : Option Provider) → P s → P (dissolved_if s g old b o)
  unfolding dissolved_if dissolved
  at_dissolved_if s g old b None a = a
  at_dissolved_if s g old b (Some x) a = by (x.takes_part && bytes_eq x.group g && not (is_in_base old x.provider b))
    where
      by : (c : Bool) → P (elim c as (λ _. Core) [ true ↦ dissolved s x.provider (number_of (outstanding s.sessions x.provider)) | false ↦ s ])
      by true = at_told s x.provider (number_of (outstanding s.sessions x.provider)) Dissolved a
      by false = a

  at_group_dissolved : (old : ViewId) (bs : List Base) (s : Core) (row : GroupRow) → P s → P (group_dissolved old bs s row)
  unfolding group_dissolved
  at_group_dissolved old bs s row a =
      at_fold P (λ (t : Core) p. dissolved_if t row.name old (base_named bs row.name) (provider_of t.sessions p)) (present (state_in row.list)) (λ t p i k. at_dissolved_if t row.name old (base_named bs row.name) (provider_of t.sessions p) k) s a

  at_sides : (s : Core) (rows : List GroupRow) (old : ViewId) (bs : List Base) → P s → P (sides_dissolved s rows old bs)
  unfolding sides_dissolved
  at_sides s rows old bs a = at_fold P (group_dissolved old bs) rows (λ t row i k. at_group_dissolved old bs t row k) s a

  at_entering_noted : (s : Core) (bs : List Base) → P s → P (entering_noted s bs)
  unfolding entering_noted
  at_entering_noted s bs a = at_recorded_all (flat_map (entering_note s bs) s.sessions.subs.live) s (notes_silent s bs s.sessions.subs.live) a

  at_taken_sent : (s : Core) → P s → P (taken_sent s)
  unfolding taken_sent
  at_taken_sent s a = by (s.views.view.coord == s.views.me)
    where
      by : (b : Bool) → P (elim b as (λ _. Core) [ true ↦ s | false ↦ sent s s.views.view.coord (body.View (packet.Taken s.views.view)) ])
      by true = a
      by false = at_sent s s.views.view.coord (body.View (packet.Taken s.views.view)) a

  -- what is told, noted and sent in a view that was entered
  pub at_rest_entered : (s : Core) (rows : List GroupRow) (old : ViewId) (bs : List Base) → P s → P (owed_sent (taken_sent (entering_noted (sides_dissolved s rows old bs) bs)))
  unfolding owed_sent
  at_rest_entered s rows old bs a =
      let d : Core = entering_noted (sides_dissolved s rows old bs) bs in
      keeps.calm (taken_sent d) (send_votes_again (send_requests (taken_sent d))) (owed_calm (taken_sent d)) (at_taken_sent d (at_entering_noted (sides_dissolved s rows old bs) bs (at_sides s rows old bs a)))

-- a provider is gone, where what fails, what waits and what no longer joins keep it
pub at_gone_taken : (P : Core → Type 0) (f : Answering) (s : Core) (g : List ℕ) (p : ProviderId) → (leads s g ≡ true → let t : Core = with_led s g (λ l. record l { gone = marked l.gone p }) in P (tally_failed f t g p (led_of t g).tally)) → ((t : Core) → P t → P (with_waiting t g (add_failure p Gone))) → P (with_waiting s g (drop_join p)) → P s → P (take_gone f s g p)
unfolding take_gone gone_of gone_present wait_gone
at_gone_taken P f s g p failed waits drops a = by (leads s g) refl
  where
    t : Core
    t = with_led s g (λ l. record l { gone = marked l.gone p })

    waited : (u : Core) → P u → P (wait_gone u g p)
    waited u k = fails (among (state_of u g).members p)
      where
        fails : (b : Bool) → P (elim b as (λ _. Core) [ true ↦ with_waiting u g (add_failure p Gone) | false ↦ u ])
        fails true = waits u k
        fails false = k

    of : leads s g ≡ true → (b c : Bool) → P (gone_of f s g p b c)
    of led true c = waited (tally_failed f t g p (led_of t g).tally) (failed led)
    of led false true = drops
    of led false false = a

    by : (b : Bool) → leads s g ≡ b → P (elim b as (λ _. Core) [ true ↦ gone_of f s g p (among (present (state_of s g)) p) (among (led_of s g).waiting.joins p) | false ↦ s ])
    by true led = of led (among (present (state_of s g)) p) (among (led_of s g).waiting.joins p)
    by false led = a
