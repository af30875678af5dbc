-- What keeps each change keeps what is owed, the rules of packets of groups, and the tick of what is led.
use Rattle.proposal_core.specs.Fold.{joins_of}
use Rattle.proposal_core.specs.Lists.{list_or_new}
use Rattle.std.proofs.Common.{◌++◌}
use Rattle.std.specs.Prelude.{not, length}
use Rattle.std.specs.Str.{bytes_eq}
use Rattle.std.proofs.lemmas.Bool.{and_parts}
use Rattle.group_attr.specs.Agree.{agree}
use Rattle.proposal_core.specs.declared.group_state.Running.{Running}
use Rattle.proposal_core.specs.declared.group_state.GroupState.{GroupState}
use Rattle.proposal_core.specs.Fold.{max_providers}
use Rattle.proposal_core.specs.Lists.{is_at_limit}
use Rattle.batch_rules.specs.Waiting.{has_instance}
use Rattle.node_state.specs.declared.group.Led.{Led}
use Rattle.node_state.specs.State.{list_of}
use Rattle.node_state.specs.Deciding.{lacks_source, source_len, is_idle_empty, meant_attrs, has_other_source, is_no_member, full_refusal, collide_refusal}
use Rattle.std.proofs.Common.{◌≡◌, ◌⊎◌, ◌∙◌, sym, ℕ, ◌+◌, ◌-◌, List, [], ◌∷◌, take, drop, Option, Some, None, Bool, true, false, refl, subst, inl, inr}
use Rattle.std.specs.Prelude.{◌==◌, ◌&&◌, ◌||◌, filter, nat_lt, nat_le, is_none}
use Rattle.std.specs.Option.{unwrap_or}
use Rattle.rsct_packet.specs.declared.ids.ProviderId.{ProviderId}
use Rattle.rsct_packet.specs.declared.ids.ProtoId.{ProtoId}
use Rattle.rsct_packet.specs.Providers.{among}
use Rattle.group_attr.specs.declared.attrs.Attrs.{Attrs}
use Rattle.group_attr.specs.declared.attrs.Phases.{Phases}
use Rattle.proposal_core.specs.declared.proposal.Cause.TheVariants.{Gone}
use Rattle.proposal_core.specs.declared.proposal.Proposal.{Proposal}
use Rattle.proposal_core.specs.declared.proposal.Proposal.TheVariants.{Join, Leave, Fail, Expel, State, Message, Attributes, Reflect}
use Rattle.proposal_core.specs.declared.entry.Vote.{Vote}
use Rattle.proposal_core.specs.declared.entry.Entry.{Entry}
use Rattle.proposal_core.specs.Fold.{runs, present}
use Rattle.proposal_core.specs.GroupView.{GroupView}
use Rattle.proposal_core.specs.Lists.{state_in}
use Rattle.vote_phases.specs.Tally.{TallyView, tally_fail, expires}
use Rattle.batch_rules.specs.Waiting.{add_failure, drop_join}
use Rattle.name_server.specs.Names as names
use Rattle.client_callbacks.specs.declared.told.Why.{Why}
use Rattle.client_callbacks.specs.declared.told.Why.TheVariants as why
use Rattle.client_callbacks.specs.declared.ballot.Filled.{Filled}
use Rattle.session_state.specs.declared.state.Request.{Request}
use Rattle.session_state.specs.declared.state.KeptBallot.{KeptBallot}
use Rattle.session_state.specs.State.{outstanding}
use Rattle.session_state.specs.HandOn.{is_numbered}
use Rattle.node_state.specs.declared.group.Decision.{Decision}
use Rattle.node_state.specs.declared.group.GroupRow.{GroupRow}
use Rattle.node_state.specs.declared.packet.Body.TheVariants as body
use Rattle.node_state.specs.declared.packet.Packet.{Packet}
use Rattle.node_state.specs.declared.state.Core.{Core}
use Rattle.node_state.specs.State.{row_of, led_of, with_row, with_led, state_of, len_of, holds, held_rows, fits_at_end, frozen, coordinates, leader_of, leads, set_leader, led_groups, others, least_acked, acked_by, acked_raised, decision_of}
use Rattle.node_state.specs.Sending.{send_on, sent, send_if_known, send_request_to, send_request, send_requests, vote_of, send_kept_to, send_kept, kept_sent_if, kept_sent_again, send_votes_again}
use Rattle.node_state.specs.HandOn.{Answering}
use Rattle.node_state.specs.Leading.{put_and_hand, with_tally, closes, begins}
use Rattle.node_state.specs.Step.{is_used}
use Rattle.node_state.specs.Settings.{is_fixed}
use Rattle.session_state.specs.declared.state.SessionState.{SessionState}
use Rattle.session_state.specs.HandOn.{is_dissolved}
use Rattle.node_state.specs.Deciding.{keep_decision, refused, join_refusal, decide_join, other_refusal, decide_change, decided}
use Rattle.node_state.specs.Following.{take_lookup, told_if, take_tell, requests_of, named, is_name_used, take_name, tell_again, decide_new, request_after, request_at, is_group_refused, take_request, entry_next, entry_elsewhere, take_entry, acked, take_ack, vote_cast, take_vote, tally_failed, wait_gone, marked, gone_present, gone_of, take_gone}
use Rattle.node_state.specs.Ticks.{is_lost, lost_told, tick_owed, announced, ticked_in, tally_ticks, entries_sent, list_sent_again, sent_again, tick_group, tick_led}
use Rattle.std.specs.Prelude.{fold}
use Rattle.rsct_packet.specs.declared.ids.ViewId.{ViewId}
use Rattle.rsct_packet.specs.Search.{Has}
use Rattle.rsct_packet.proofs.HasLaws.{has_drop, has_filter, has_take}
use Rattle.step_walk.proofs.Waiting.{fails_apart, dropped_apart, fails_few, dropped_few}
use Rattle.step_walk.proofs.Changes.{Any, Fairly, Telling}
use Rattle.step_walk.proofs.Evidence.{IsLed, KeepsBeside, Keeping, KeepsPackets}
use Rattle.step_walk.proofs.Steady.{AsLed, Steady, begun, are_led, led_now, as_row, as_delivered, steadily, steady_beside, steady_between, steady_led}
use Rattle.step_walk.proofs.Asides.{at_either, at_fold, at_sent, at_known, at_rest_put, at_led, at_forgets, at_forgets_least, at_waiting}
use Rattle.step_walk.proofs.Appending.{at_closes, at_begins, at_late, at_refused}

-- a ballot leaves the decisions as they are
pub cast_decided : (l : Led) (q : ProviderId) (v : Vote) (value message : Option (List ℕ)) (o : Option TallyView) → (vote_cast l q v value message o).decided ≡ l.decided
unfolding vote_cast
cast_decided l q v value message None = refl
cast_decided l q v value message (Some t) = refl

-- ---- why requests are refused

pub join_fair : (s : Core) (g : List ℕ) (q : ProviderId) (a : Attrs) → Fairly (join_refusal s g q a)
unfolding join_refusal
join_fair s g q a =
    by (not idle && not (agree a st.attrs)) (has_instance here q) (lacks_source s source q.node) (nat_le max_providers (length here)) (is_none st.running && is_at_limit (list_of s g))
  where
    st : GroupState
    st = state_of s g

    idle : Bool
    idle = is_idle_empty st

    here : List ProviderId
    here = present st ++ (led_of s g).waiting.joins

    source : Option (List ℕ)
    source = (meant_attrs st a idle).source

    by : (b0 b1 b2 b3 b4 : Bool) → Fairly (elim b0 as (λ _. Option Why) [ true ↦ Some why.BadAttributes | false ↦ elim b1 as (λ _. Option Why) [ true ↦ Some why.DuplicateInstance | false ↦ elim b2 as (λ _. Option Why) [ true ↦ Some (why.NoSource (source_len s source)) | false ↦ elim b3 as (λ _. Option Why) [ true ↦ Some (why.GroupFull 64) | false ↦ elim b4 as (λ _. Option Why) [ true ↦ Some (why.ListFull (list_of s g).len (list_of s g).bytes) | false ↦ None ] ] ] ] ])
    by true b1 b2 b3 b4 = refl
    by false true b2 b3 b4 = refl
    by false false true b3 b4 = refl
    by false false false true b4 = refl
    by false false false false true = refl
    by false false false false false = tt

full_fair : (s : Core) (g : List ℕ) (o : Option Running) → Fairly (collide_refusal s g o)
unfolding collide_refusal full_refusal
full_fair s g (Some run) = refl
full_fair s g None = by (is_at_limit (list_of s g))
  where
    by : (b : Bool) → Fairly (elim b as (λ _. Option Why) [ true ↦ Some (why.ListFull (list_of s g).len (list_of s g).bytes) | false ↦ None ])
    by true = refl
    by false = tt

pub other_fair : (s : Core) (g : List ℕ) (q : ProviderId) (x : Proposal) → Fairly (other_refusal s g q x)
unfolding other_refusal
other_fair s g q x = by (is_no_member (state_of s g) (led_of s g).gone q x) (has_other_source (state_of s g).attrs x)
  where
    by : (a b : Bool) → Fairly (elim a as (λ _. Option Why) [ true ↦ Some why.NotAMember | false ↦ elim b as (λ _. Option Why) [ true ↦ Some why.BadAttributes | false ↦ collide_refusal s g (state_of s g).running ] ])
    by true b = refl
    by false true = refl
    by false false = full_fair s g (state_of s g).running

-- what sends a kept ballot leaves those that are kept
kept_again_same : (s : Core) (b : KeptBallot) → (kept_sent_again s b).sessions ≡ s.sessions
unfolding kept_sent_again kept_sent_if send_kept send_kept_to send_if_known sent send_on
kept_again_same s b = by (runs b.proto b.phase (state_of s b.group).running) (leader_of s b.group) b.ballot.filled
  where
    by : (c : Bool) (to : Option ℕ) (o : Option Filled) → (elim c as (λ _. Core) [ false ↦ s | true ↦ send_kept_to s b to o ]).sessions ≡ s.sessions
    by false to o = refl
    by true to None = refl
    by true None (Some x) = refl
    by true (Some n) (Some x) = refl

-- and so does what sends a request
request_same : (s : Core) (q : Request) → (send_request s q).sessions ≡ s.sessions
unfolding send_request send_request_to sent send_on
request_same s q = by (frozen s) (leader_of s q.group)
  where
    by : (c : Bool) (o : Option ℕ) → (elim c as (λ _. Core) [ true ↦ s | false ↦ send_request_to s q o ]).sessions ≡ s.sessions
    by true o = refl
    by false None = refl
    by false (Some n) = refl

module _ (P : Core → Type 0) (k : KeepsBeside P Any) where
  -- ---- what is owed is sent

  pub at_request_sent : {s : Core} (q : Request) → Has q s.sessions.requests → P s → P (send_request s q)
  unfolding send_request send_request_to
  at_request_sent {s} q i p = at_either P (frozen s) p (by (leader_of s q.group))
    where
      by : (o : Option ℕ) → P (send_request_to s q o)
      by None = at_sent P Any k s.views.view.coord (body.Lookup s.views.view q.group) tt p
      by (Some n) = at_sent P Any k n (body.Request s.views.view q.group q.provider q.request q.phases q.proposal) (q, i, refl) p

  at_all_requests : (qs : List Request) (s : Core) → ((q : Request) → Has q qs → Has q s.sessions.requests) → P s → P (fold send_request s qs)
  at_all_requests [] s all p = p
  at_all_requests (q ∷ qs) s all p =
      at_all_requests qs (send_request s q) (λ x i. subst (λ (z : SessionState). Has x z.requests) (sym (request_same s q)) (all x (inr i))) (at_request_sent q (all q (inl refl)) p)

  pub at_requests : {s : Core} → P s → P (send_requests s)
  unfolding send_requests
  at_requests {s} p = at_all_requests s.sessions.requests s (λ q i. i) p

  -- the requests of a group
  pub at_requests_of : (s : Core) (g : List ℕ) (t : Core) → t.sessions ≡ s.sessions → P t → P (fold send_request t (requests_of s g))
  unfolding requests_of
  at_requests_of s g t same p =
      at_all_requests (requests_of s g) t (λ q i. subst (λ (z : SessionState). Has q z.requests) (sym same) (has_filter (λ (x : Request). bytes_eq x.group g) q s.sessions.requests i).0) p

  pub at_kept_sent : {s : Core} (b : KeptBallot) → Has b s.sessions.kept → P s → P (send_kept s b)
  unfolding send_kept send_kept_to vote_of
  at_kept_sent {s} b i p = by b.ballot.filled refl
    where
      by : (o : Option Filled) → b.ballot.filled ≡ o → P (send_kept_to s b (leader_of s b.group) o)
      by None e = p
      by (Some x) e = at_known P Any k (leader_of s b.group) _ (inr (b, i, refl, refl, refl, e)) p

  at_kept_again : {s : Core} (b : KeptBallot) → Has b s.sessions.kept → P s → P (kept_sent_again s b)
  unfolding kept_sent_again kept_sent_if
  at_kept_again {s} b i p = by (runs b.proto b.phase (state_of s b.group).running)
    where
      by : (c : Bool) → P (kept_sent_if s b c)
      by false = p
      by true = at_kept_sent b i p

  at_all_again : (bs : List KeptBallot) (s : Core) → ((b : KeptBallot) → Has b bs → Has b s.sessions.kept) → P s → P (fold kept_sent_again s bs)
  at_all_again [] s all p = p
  at_all_again (b ∷ bs) s all p =
      at_all_again bs (kept_sent_again s b) (λ x i. subst (λ (z : SessionState). Has x z.kept) (sym (kept_again_same s b)) (all x (inr i))) (at_kept_again b (all b (inl refl)) p)

  pub at_votes : (s : Core) → P s → P (send_votes_again s)
  unfolding send_votes_again
  at_votes s p = at_all_again s.sessions.kept s (λ b i. i) p

  at_lost : {s : Core} (row : GroupRow) → P s → P (lost_told s row)
  unfolding lost_told
  at_lost {s} row p =
      at_fold P (λ t q. send_if_known t (leader_of t row.name) (body.Gone t.views.view row.name q)) (λ t q h. at_known P Any k (leader_of t row.name) (body.Gone t.views.view row.name q) tt h) (filter (is_lost s) (present (state_in row.list))) p

  pub at_owed_part : {s : Core} → P s → P (tick_owed s)
  unfolding tick_owed
  at_owed_part {s} p =
      let t : Core = send_requests s in
      at_either P (frozen s) p (at_votes (fold lost_told t (held_rows t)) (at_fold P lost_told (λ u row h. at_lost row h) (held_rows t) (at_requests p)))

  -- ---- what is acknowledged

  at_entry_elsewhere : {s : Core} (from : ℕ) (g : List ℕ) (stable : ℕ) (c : Bool) → P s → P (entry_elsewhere s from g stable c)
  unfolding entry_elsewhere
  at_entry_elsewhere {s} from g stable true p = at_forgets P Any k g tt stable (at_sent P Any k from (body.Ack s.views.view g (len_of s g)) tt p)
  at_entry_elsewhere {s} from g stable false p = at_either P (holds s g) (at_forgets P Any k g tt stable p) p

  pub at_ack : {s : Core} (from : ℕ) (g : List ℕ) (n : ℕ) → P s → P (take_ack s from g n)
  unfolding take_ack acked
  at_ack {s} from g n p =
      at_either P (leads s g && nat_le n (len_of s g)) (at_forgets_least P Any k g tt (at_led P Any k g tt (λ l. record l { acked = acked_raised from n l.acked }) (λ l. refl) (λ l w. w) (λ l e. e) (λ l. refl) (λ l. refl) p)) p

  -- ---- what was put is sent again

  at_entries_sent : (to : ℕ) (g : List ℕ) (stable : ℕ) (es : List Entry) (i : ℕ) (s : Core) → ((e : Entry) → Has e es → Has e (list_of s g).entries) → P s → P (entries_sent to g i stable es s)
  unfolding entries_sent sent send_on list_of row_of
  at_entries_sent to g stable [] i s all p = p
  at_entries_sent to g stable (e ∷ es) i s all p =
      at_entries_sent to g stable es (i + 1) (sent s to (body.Entry s.views.view g i stable e)) (λ x j. all x (inr j)) (at_sent P Any k to (body.Entry s.views.view g i stable e) (all e (inl refl)) p)

  pub at_again : {s : Core} (g : List ℕ) (n : ℕ) → P s → P (sent_again g s n)
  unfolding sent_again list_sent_again list_of
  at_again {s} g n p = by (row_of s g).list refl
    where
      there : (l : GroupView) → (row_of s g).list ≡ Some l → (m : ℕ) (e : Entry) → Has e (take 16 (drop m l.entries)) → Has e (list_of s g).entries
      there l q m e i = subst (λ o. Has e (list_or_new o).entries) (sym q) (has_drop m l.entries e (has_take 16 (drop m l.entries) e i))

      by : (o : Option GroupView) → (row_of s g).list ≡ o → P (list_sent_again s g n (acked_by s (row_of s g) n) o)
      by None q = p
      by (Some l) q = at_entries_sent n g (least_acked s g) (take 16 (drop (acked_by s (row_of s g) n - l.start) l.entries)) (acked_by s (row_of s g) n) s (there l q (acked_by s (row_of s g) n - l.start)) p

module _ (P : Core → Type 0) (Between : List ℕ → Core → Type 0) (Begun : Core → List ℕ → Phases → Proposal → Type 0) (Unasked : Type 0) (Given : Core → Packet → Type 0) (rules : KeepsPackets P Between Begun Unasked Given) where
  k : Keeping P Between Begun Unasked
  k = rules.keeping

  b : KeepsBeside P Any
  b = rules.keeping.beside

  -- ---- in groups that a node leads as it did in that state

  module _ (f : Answering) (s0 : Core) where
    abbrev pub S : Core → Type 0
    S = Steady P Unasked s0

    sb : KeepsBeside S (IsLed Unasked s0)
    sb = steady_beside P Between Begun Unasked k s0

    any : KeepsBeside S Any
    any = steadily Unasked s0 P k.order Any b

    pub closed_still : {s : Core} (g : List ℕ) → IsLed Unasked s0 g → S s → S (closes f s g)
    closed_still g ok p = at_closes S (λ g. Steady (Between g) Unasked s0) Begun (IsLed Unasked s0) sb (steady_between P Between Begun Unasked k s0) (steady_led P Between Begun Unasked k s0) f g ok p

    -- a tally changes
    counted : {s : Core} (g : List ℕ) (t : Option TallyView) → P (with_tally s g t) → S s → S (with_tally s g t)
    unfolding with_tally with_led
    counted {s} g t new p = (new, as_row Unasked s0 s g _ (λ row. refl) (λ row. refl) (k.order s p.0) p.1)

    failed_still : {s : Core} (g : List ℕ) (q : ProviderId) → IsLed Unasked s0 g → (o : Option TallyView) → (led_of s g).tally ≡ o → S s → S (tally_failed f s g q o)
    unfolding tally_failed
    failed_still g q ok None e p = p
    failed_still {s} g q ok (Some t) e p =
        closed_still g ok (counted g (Some (tally_fail q t)) (rules.fails s g q t (led_now Unasked s0 s g ok p.1) e p.0) p)

    gone_still : (g : List ℕ) (q : ProviderId) → IsLed Unasked s0 g → S s0 → S (gone_present f s0 g q)
    unfolding gone_present wait_gone
    gone_still g q ok p =
        let t : Core = with_led s0 g (λ l. record l { gone = marked l.gone q }) in
        let u : Core = tally_failed f t g q (led_of t g).tally in
        let h : S u = failed_still g q ok (led_of t g).tally refl (at_led S Any any g tt (λ l. record l { gone = marked l.gone q }) (λ l. refl) (λ l w. w) (λ l e. e) (λ l. refl) (λ l. refl) p) in
        at_either S (among (state_of u g).members q) (at_waiting S Any any g tt (add_failure q Gone) (fails_few q Gone) (fails_apart q Gone) h) h

    -- ---- the tick of what is led

    late_still : {s : Core} (g : List ℕ) → IsLed Unasked s0 g → (t : TallyView) → (led_of s g).tally ≡ Some t → (c : Bool) → (s.sessions.level == 2 && expires t) ≡ c → S s → S (announced f s g t c)
    unfolding announced
    late_still g ok t e false due p = p
    late_still {s} g ok t e true due p =
        at_late S (λ g. Steady (Between g) Unasked s0) Begun (IsLed Unasked s0) sb (steady_between P Between Begun Unasked k s0) (steady_led P Between Begun Unasked k s0) f g ok t e (and_parts (s.sessions.level == 2) (expires t) due).1 (state_of s g).running refl p

    ticks_still : {s : Core} (g : List ℕ) → IsLed Unasked s0 g → (o : Option TallyView) → (led_of s g).tally ≡ o → S s → S (tally_ticks f s g o)
    unfolding tally_ticks
    ticks_still g ok None e p = p
    ticks_still {s} g ok (Some t) e p =
        let u : Core = announced f s g t (s.sessions.level == 2 && expires t) in
        let h : S u = late_still g ok t e (s.sessions.level == 2 && expires t) refl p in
        closed_still g ok (counted g (ticked_in (led_of u g).tally) (rules.ticks u g (led_now Unasked s0 u g ok h.1) h.0) h)

    group_still : {s : Core} (g : List ℕ) → IsLed Unasked s0 g → S s → S (tick_group f s g)
    unfolding tick_group
    group_still {s} g ok p =
        let t : Core = tally_ticks f s g (led_of s g).tally in
        at_fold S (sent_again g) (λ u n h. at_again S any g n h) (others t) (ticks_still g ok (led_of s g).tally refl p)

    pub groups_still : (one : Core → List ℕ → Core) → ((s : Core) (g : List ℕ) → IsLed Unasked s0 g → S s → S (one s g)) → (gs : List (List ℕ)) → ((g : List ℕ) → Has g gs → IsLed Unasked s0 g) → (s : Core) → S s → S (fold one s gs)
    groups_still one step [] all s p = p
    groups_still one step (g ∷ gs) all s p = groups_still one step gs (λ h i. all h (inr i)) (one s g) (step s g (all g (inl refl)) p)

    -- what is done in each group that the node leads
    pub led_still : (one : Core → List ℕ → Core) → ((s : Core) (g : List ℕ) → IsLed Unasked s0 g → S s → S (one s g)) → P s0 → P (fold one s0 (led_groups s0))
    led_still one step p = (groups_still one step (led_groups s0) (are_led P Between Begun Unasked k s0 p) s0 (begun P Unasked s0 p)).0

    begins_still : {s : Core} (g : List ℕ) → IsLed Unasked s0 g → (x : Proposal) (phases : Phases) → Begun s g phases x → S s → S (begins f s g x phases)
    begins_still g ok x phases begun p = at_begins S (λ g. Steady (Between g) Unasked s0) Begun (IsLed Unasked s0) sb (steady_between P Between Begun Unasked k s0) (steady_led P Between Begun Unasked k s0) f g ok x phases begun p

    refused_still : {s : Core} (g : List ℕ) → IsLed Unasked s0 g → (q : ProviderId) (r : ℕ) (y : Why) → is_dissolved y ≡ false → S s → S (refused s g q r y)
    refused_still g ok q r y fair p = at_refused S (λ g. Steady (Between g) Unasked s0) Begun (IsLed Unasked s0) sb (steady_between P Between Begun Unasked k s0) (steady_led P Between Begun Unasked k s0) g ok q r y fair p

    decides_still : (g : List ℕ) → IsLed Unasked s0 g → (q : ProviderId) (r : ℕ) (y : Option Why) → Fairly y → S s0 → S (keep_decision s0 g q r y)
    decides_still g ok q r y fair p = (steady_led P Between Begun Unasked k s0).decides s0 g q r y ok fair p

  pub at_led_part : (f : Answering) (s : Core) → P s → P (tick_led f s)
  unfolding tick_led
  at_led_part f s p = at_either P (frozen s) p (led_still f s (tick_group f) (λ t g ok h. group_still f s g ok h) p)

  -- ---- requests are decided

  at_decided_join : (f : Answering) (s : Core) (g : List ℕ) → IsLed Unasked s g → (q : ProviderId) (r : ℕ) (a : Attrs) (o : Option Why) → join_refusal s g q a ≡ o → P s → P (decide_join s g q r a o)
  unfolding decide_join
  at_decided_join f s g ok q r a None e p = rules.joins s g q r a e p
  at_decided_join f s g ok q r a (Some y) e p = (refused_still f s g ok q r y (subst Fairly e (join_fair s g q a)) (begun P Unasked s p)).0

  -- what is begun, where the change is not refused
  abbrev Changes : Core → List ℕ → ProviderId → ℕ → Phases → Proposal → Type 0
  Changes s g q r phases x = joins_of x ≡ [] → other_refusal s g q x ≡ None → Begun (keep_decision s g q r None) g phases x

  at_decided_other : (f : Answering) (s : Core) (g : List ℕ) → IsLed Unasked s g → (q : ProviderId) (r : ℕ) (phases : Phases) (x : Proposal) (o : Option Why) → other_refusal s g q x ≡ o → joins_of x ≡ [] → Changes s g q r phases x → Fairly o → P s → P (decide_change f s g q r phases x o)
  unfolding decide_change
  at_decided_other f s g ok q r phases x None e none changes fair p = (begins_still f s g ok x phases (changes none e) (decides_still f s g ok q r None tt (begun P Unasked s p))).0
  at_decided_other f s g ok q r phases x (Some y) e none changes fair p = (refused_still f s g ok q r y fair (begun P Unasked s p)).0

  at_decided : (f : Answering) (s : Core) (g : List ℕ) → IsLed Unasked s g → (q : ProviderId) (r : ℕ) (phases : Phases) (x : Proposal) → Changes s g q r phases x → P s → P (decided f s g q r phases x)
  unfolding decided
  at_decided f s g ok q r phases (Join ps a n) changes p = at_decided_join f s g ok q r a (join_refusal s g q a) refl p
  at_decided f s g ok q r phases (Leave a c) changes p = at_decided_other f s g ok q r phases (Leave a c) (other_refusal s g q (Leave a c)) refl refl changes (other_fair s g q (Leave a c)) p
  at_decided f s g ok q r phases (Fail out) changes p = at_decided_other f s g ok q r phases (Fail out) (other_refusal s g q (Fail out)) refl refl changes (other_fair s g q (Fail out)) p
  at_decided f s g ok q r phases (Expel a c out) changes p = at_decided_other f s g ok q r phases (Expel a c out) (other_refusal s g q (Expel a c out)) refl refl changes (other_fair s g q (Expel a c out)) p
  at_decided f s g ok q r phases (State a c value) changes p = at_decided_other f s g ok q r phases (State a c value) (other_refusal s g q (State a c value)) refl refl changes (other_fair s g q (State a c value)) p
  at_decided f s g ok q r phases (Message a c bytes) changes p = at_decided_other f s g ok q r phases (Message a c bytes) (other_refusal s g q (Message a c bytes)) refl refl changes (other_fair s g q (Message a c bytes)) p
  at_decided f s g ok q r phases (Attributes a c attrs) changes p = at_decided_other f s g ok q r phases (Attributes a c attrs) (other_refusal s g q (Attributes a c attrs)) refl refl changes (other_fair s g q (Attributes a c attrs)) p
  at_decided f s g ok q r phases (Reflect v i value) changes p = at_decided_other f s g ok q r phases (Reflect v i value) (other_refusal s g q (Reflect v i value)) refl refl changes (other_fair s g q (Reflect v i value)) p

  -- ---- packets of a view

  pub at_lookup : {s : Core} (from : ℕ) (g : List ℕ) → P s → P (take_lookup s from g)
  unfolding take_lookup
  at_lookup {s} from g p = by (coordinates s)
    where
      t : Core
      t = record s { names = names.lookup g from s.names }

      by : (c : Bool) → P (elim c as (λ _. Core) [ false ↦ s | true ↦ sent t from (body.Name s.views.view g (unwrap_or (names.looked_up g from s.names) 0)) ])
      by false = p
      by true =
          at_sent P Any b from (body.Name s.views.view g (unwrap_or (names.looked_up g from s.names) 0)) tt (rules.names s (names.lookup g from s.names) p)

  pub at_tell : {s : Core} (q : ProviderId) (r : ℕ) (y : Why) → Telling (Given s) y → P s → P (take_tell s q r y)
  unfolding take_tell told_if
  at_tell {s} q r y telling p = by (is_numbered r (outstanding s.sessions q)) refl
    where
      by : (c : Bool) → is_numbered r (outstanding s.sessions q) ≡ c → P (told_if s q r y c)
      by false e = p
      by true e = rules.tells s q r y telling e p

  pub at_name : {s : Core} (g : List ℕ) (n : ℕ) → P s → P (take_name s g n)
  unfolding take_name named is_name_used set_leader with_row
  at_name {s} g n p = by (n == 0) (is_none (leader_of s g)) (is_fixed s.config.mode) refl
    where
      full : P (fold (λ t (q : Request). take_tell t q.provider q.request (why.GroupsFull 64)) s (requests_of s g))
      full = at_fold P (λ t (q : Request). take_tell t q.provider q.request (why.GroupsFull 64)) (λ t q h. at_tell q.provider q.request (why.GroupsFull 64) (inl refl) h) (requests_of s g) p

      by : (zero none fixed : Bool) → is_none (leader_of s g) ≡ none → P (elim (none || (fixed && zero)) as (λ _. Core) [ true ↦ named s g n zero | false ↦ s ])
      by true true fixed e = full
      by true false true e = full
      by true false false e = p
      by false true fixed e = at_requests_of P b s g (set_leader s g n) refl (rules.named s g n e p)
      by false false true e = p
      by false false false e = p

  -- ---- REQUEST

  module _ (f : Answering) (s : Core) (q : Packet) (v : ViewId) (g : List ℕ) (a : ProviderId) (r : ℕ) (phases : Phases) (x : Proposal) (given : Given s q) (to : q.to ≡ s.views.me) (is : q.body ≡ body.Request v g a r phases x) (used : is_used s q v ≡ true) where
    at_request_new : P s → P (decide_new f s g a r phases x)
    unfolding decide_new
    at_request_new p =
        let led = rules.requested s q v g a r phases x given to is used p in at_decided f (set_leader s g s.views.me) g led.1 a r phases x (λ none fair. rules.changes s q v g a r phases x given to is used none fair) led.0

    at_request_at : (o : Option Decision) → decision_of (led_of s g) a ≡ o → P s → P (request_at f s g a r phases x o)
    unfolding request_at tell_again request_after
    at_request_at None e p = at_request_new p
    at_request_at (Some d) e p = by (nat_lt r d.request) (r == d.request)
      where
        told : (o : Option Why) → d.why ≡ o → P (tell_again s g a r o)
        told None w = p
        told (Some y) w = at_sent P Any b a.node (body.Tell s.views.view g a r y) (inr (g, a, d, e, w)) p

        by : (c d0 : Bool) → P (request_after f s g a r phases x d c d0)
        by true d0 = p
        by false true = told d.why refl
        by false false = at_request_new p

    pub at_request : P s → P (take_request f s q.from g a r phases x)
    unfolding take_request
    at_request p =
        at_either P (is_group_refused s g) (at_sent P Any b q.from (body.Name s.views.view g 0) tt p) (at_request_at (decision_of (led_of s g) a) refl p)

  -- ---- ENTRY

  module _ (f : Answering) (s : Core) (q : Packet) (v : ViewId) (g : List ℕ) (place stable : ℕ) (e : Entry) (given : Given s q) (to : q.to ≡ s.views.me) (is : q.body ≡ body.Entry v g place stable e) (used : is_used s q v ≡ true) where
    unled : (t : Core) → (leads s g ≡ false) ⊎ Unasked → AsLed Unasked s t → (leads t g ≡ false) ⊎ Unasked
    unled t (inl e) (inl same) = inl (same g ∙ e)
    unled t (inr u) same = inr u
    unled t e (inr u) = inr u

    at_entry_next : (place == len_of s g) ≡ true → (c : Bool) → fits_at_end s g e ≡ c → P s → P (entry_next f s q.from g stable e c)
    unfolding entry_next
    at_entry_next at false fits p = p
    at_entry_next at true fits p =
        let t : Core = put_and_hand f s (Some q.from) g e in
        let u : Core = sent t q.from (body.Ack t.views.view g (len_of t g)) in
        let k1 : KeepsBeside (Steady P Unasked s) Any = steadily Unasked s P k.order Any b in
        let put : Steady P Unasked s t = at_rest_put (Steady P Unasked s) Any k1 f s (Some q.from) g e (λ bs. ((rules.comes s q v g place stable e bs given to is used at fits p).0, as_delivered Unasked s s g e [] 0 bs (k.order s p) (inl (λ h. refl)))) in
        let acks : Steady P Unasked s u = at_sent (Steady P Unasked s) Any k1 q.from (body.Ack t.views.view g (len_of t g)) tt put in
        at_forgets P Any b g tt stable (rules.follows u g q.from (unled u (rules.comes s q v g place stable e [] given to is used at fits p).1 acks.1) acks.0)

    pub at_entry : P s → P (take_entry f s q.from g place stable e)
    unfolding take_entry
    at_entry p = by (place == len_of s g) refl
      where
        by : (c : Bool) → (place == len_of s g) ≡ c → P (elim c as (λ _. Core) [ true ↦ entry_next f s q.from g stable e (fits_at_end s g e) | false ↦ entry_elsewhere s q.from g stable (nat_lt place (len_of s g)) ])
        by true at = at_entry_next at (fits_at_end s g e) refl p
        by false at = at_entry_elsewhere P b q.from g stable (nat_lt place (len_of s g)) p

  -- ---- VOTE and GONE

  pub at_vote : (f : Answering) (s : Core) (q : Packet) (v : ViewId) (g : List ℕ) (proto : ProtoId) (phase : ℕ) (a : ProviderId) (vote : Vote) (value message : Option (List ℕ)) → Given s q → q.body ≡ body.Vote v g proto phase a vote value message → P s → P (take_vote f s g proto phase a vote value message)
  unfolding take_vote with_led
  at_vote f s q v g proto phase a vote value message given is p = by (leads s g) (runs proto phase (state_of s g).running) refl refl
    where
      t : Core
      t = with_led s g (λ l. vote_cast l a vote value message l.tally)

      led : leads s g ≡ true → IsLed Unasked t g
      led l = led_now Unasked s t g (inl l) (as_row Unasked s s g _ (λ row. refl) (λ row. refl) (k.order s p) (inl (λ h. refl)))

      by : (c d : Bool) → leads s g ≡ c → runs proto phase (state_of s g).running ≡ d → P (elim (c && d) as (λ _. Core) [ true ↦ closes f t g | false ↦ s ])
      by true true l r = (closed_still f t g (led l) (begun P Unasked t (rules.casts s q v g proto phase a vote value message given is l r p))).0
      by true false l r = p
      by false d l r = p

  pub at_gone : (f : Answering) (s : Core) (g : List ℕ) (q : ProviderId) → P s → P (take_gone f s g q)
  unfolding take_gone gone_of
  at_gone f s g q p = by (leads s g) (among (present (state_of s g)) q) (among (led_of s g).waiting.joins q) refl
    where
      by : (l c d : Bool) → leads s g ≡ l → P (elim l as (λ _. Core) [ true ↦ gone_of f s g q c d | false ↦ s ])
      by true true d e = (gone_still f s g q (inl e) (begun P Unasked s p)).0
      by true false true e = at_waiting P Any b g tt (drop_join q) (dropped_few q) (dropped_apart q) p
      by true false false e = p
      by false c d e = p
