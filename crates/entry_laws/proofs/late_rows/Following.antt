-- The rows of packets keep what a leader counts.
use Rattle.std.proofs.Common.{◌≡◌, ℕ, List, Option, Some, None, Bool, true, false, refl, sym, ap, ◌∙◌, subst}
use Rattle.std.specs.Prelude.{◌==◌, ◌&&◌, ◌||◌, reverse, nat_le, nat_lt, is_none}
use Rattle.std.specs.Option.{unwrap_or}
use Rattle.rsct_packet.specs.declared.ids.ProviderId.{ProviderId}
use Rattle.rsct_packet.specs.declared.ids.ProtoId.{ProtoId}
use Rattle.group_attr.specs.declared.attrs.Phases.{Phases}
use Rattle.proposal_core.specs.declared.proposal.Cause.TheVariants.{Gone}
use Rattle.proposal_core.specs.declared.proposal.Proposal.{Proposal}
use Rattle.proposal_core.specs.declared.entry.Entry.{Entry}
use Rattle.proposal_core.specs.declared.entry.Vote.{Vote}
use Rattle.proposal_core.specs.Fold.{runs}
use Rattle.proposal_core.specs.Lists.{state_in}
use Rattle.batch_rules.specs.Waiting.{add_failure, drop_join}
use Rattle.name_server.specs.Names as names
use Rattle.name_server.specs.declared.names.Leader.{Leader}
use Rattle.vote_phases.specs.Tally.{TallyView, tally_cast, tally_fail}
use Rattle.client_callbacks.specs.declared.told.Why.TheVariants.{GroupsFull}
use Rattle.session_state.specs.declared.state.Request.{Request}
use Rattle.node_state.specs.declared.group.GroupRow.{GroupRow}
use Rattle.node_state.specs.declared.packet.Body.TheVariants as body
use Rattle.node_state.specs.declared.state.Core.{Core}
use Rattle.node_state.specs.Settings.{is_fixed}
use Rattle.node_state.specs.State.{row_of, with_row, with_led, led_of, list_of, state_of, len_of, holds, fits_at_end, forget_below, coordinates, is_this, leader_in, leader_of, leads_in, leads, set_leader, acked_raised}
use Rattle.node_state.specs.Sending.{sent, send_on, send_request}
use Rattle.node_state.specs.HandOn.{Answering}
use Rattle.node_state.specs.Leading.{put_and_hand, with_tally, closes}
use Rattle.node_state.specs.Deciding.{decided}
use Rattle.node_state.specs.Following.{take_lookup, take_tell, requests_of, named, is_name_used, take_name, decide_new, take_request, entry_next, entry_elsewhere, take_entry, acked, take_ack, vote_cast, take_vote, tally_failed, marked, take_gone}
use Rattle.node_state.proofs.NameOrder.{row_here}
use Rattle.entry_laws.proofs.closing_rows.Following.{rows_after}
use Rattle.entry_laws.proofs.closing_rows.Quiet.{at_fold, at_sent, at_tell, at_request_taken, at_gone_taken}
use Rattle.entry_laws.proofs.closing_rows.Calms.{request_calm}
use Rattle.entry_laws.specs.late_rows.Late.{RecordLate}
use Rattle.entry_laws.specs.late_rows.Announced.{RecordTold}
use Rattle.entry_laws.proofs.late_rows.At.{at_row_any, Turn, ticks_now, TallyIs, Settled, TallyRuns, RowIs, found, leads_row, leads_is, At, at_for, at_row_for, keeps_quiet}
use Rattle.entry_laws.proofs.late_rows.Puts.{put_record}
use Rattle.entry_laws.proofs.late_rows.Tallies.{failed_late, voted_late, failed_settled, voted_settled}
use Rattle.node_state.specs.declared.group.Led.{Led}
use Rattle.entry_laws.proofs.late_rows.Leading.{at_put_and_handed_for, at_led, at_waits, at_forgets, at_forgets_least, at_closes}
use Rattle.entry_laws.proofs.late_rows.Ending.{Every, NoGroup, every_may, at_decided}

voted_is : (led : Led) (p : ProviderId) (v : Vote) (value message : Option (List ℕ)) (t u : TallyView) → (vote_cast led p v value message (Some t)).tally ≡ Some u → tally_cast p v t ≡ u
unfolding vote_cast
voted_is led p v value message t u e = cc

untold : (led : Led) (p : ProviderId) (v : Vote) (value message : Option (List ℕ)) (u : TallyView) → led.tally ≡ None → (vote_cast led p v value message None).tally ≡ Some u → ⊥
unfolding vote_cast
untold led p v value message u q e = let z : None ≡ Some u = sym q ∙ e in cc

-- a vote is counted
row_voted : (ticks less : ℕ) (led : Bool) (row : GroupRow) (p : ProviderId) (v : Vote) (value message : Option (List ℕ)) → RowIs ticks less led row → RowIs ticks less led (record row { led = vote_cast row.led p v value message row.led.tally })
row_voted ticks less led row p v value message k u e = by row.led.tally refl e
  where
    one : (t : TallyView) → row.led.tally ≡ Some t → (vote_cast row.led p v value message (Some t)).tally ≡ Some u → (led ≡ true) × TallyRuns (vote_cast row.led p v value message (Some t)) row.list ticks less u
    one t q e =
        let z : tally_cast p v t ≡ u = voted_is row.led p v value message t u e in
        let j = k t q in
        (j.0, λ run r. let w = j.1 run r in subst (λ y. TallyIs (state_in row.list) ticks less y × Settled (vote_cast row.led p v value message (Some t)) row.list y) z (voted_late (state_in row.list) ticks less p v t w.0, voted_settled row.led row.list p v value message t w.1))

    by : (o : Option TallyView) → row.led.tally ≡ o → (vote_cast row.led p v value message o).tally ≡ Some u → (led ≡ true) × TallyRuns (vote_cast row.led p v value message o) row.list ticks less u
    by None q e = absurd (untold row.led p v value message u q e)
    by (Some t) q e = one t q e

-- where a row has a tally the node leads the group
untallied : (ticks : ℕ) (led : Bool) (row : GroupRow) → (led ≡ true → ⊥) → RowIs ticks 0 led row → row.led.tally ≡ None
untallied ticks led row not_led k = by row.led.tally refl
  where
    by : (o : Option TallyView) → row.led.tally ≡ o → o ≡ None
    by None q = refl
    by (Some t) q = absurd (not_led (k t q).0)

module _ (h : Turn) where
  abbrev Full : Core → Type 0
  Full s = At h Every NoGroup ⊥ s

  at_names : (s : Core) (ns : List Leader) → Full s → Full (record s { names = ns })
  at_names s ns a = a

  -- a leader is known
  at_led_by : (s : Core) (g : List ℕ) (n : ℕ) → RowIs (ticks_now h g (reverse s.records)) 0 (leads_row s (record (found s g) { leader = Some n })) (record (found s g) { leader = Some n }) → Full s → Full (set_leader s g n)
  unfolding set_leader
  at_led_by s g n own a =
      at_row_any h Every Every NoGroup ⊥ s g (λ row. record row { leader = Some n }) (λ x. refl) (refl, refl, refl) (λ k less u ne. u) (λ less u. subst (λ z. RowIs (ticks_now h g (reverse s.records)) z (leads_row s (record (found s g) { leader = Some n })) (record (found s g) { leader = Some n })) (sym u) own) (λ z. absurd z) a

  -- one group that the node leads
  abbrev Only : List ℕ → List ℕ → Type 0
  Only g k = g ≡ k

  only_led : (s : Core) (g : List ℕ) → leads s g ≡ true → Full s → At h Every (Only g) ⊥ s
  only_led s g led a = at_for h Every Every NoGroup (Only g) ⊥ ⊥ s (λ k less t. t) (λ k e. subst (λ z. leads_row s (found s z) ≡ true) e (leads_is s g ∙ led)) (λ z. z) a

  all_again : (s : Core) (g : List ℕ) → At h Every (Only g) ⊥ s → Full s
  all_again s g a = at_for h Every Every (Only g) NoGroup ⊥ ⊥ s (λ k less t. t) (λ k z. absurd z) (λ z. z) a

  -- ---- LOOKUP, NAME and TELL

  pub at_lookup : (s : Core) (from : ℕ) (g : List ℕ) → Full s → Full (take_lookup s from g)
  unfolding take_lookup
  at_lookup s from g a = by (coordinates s)
    where
      by : (b : Bool) → Full (elim b as (λ _. Core) [ false ↦ s | true ↦ sent (record s { names = names.lookup g from s.names }) from (body.Name s.views.view g (unwrap_or (names.looked_up g from s.names) 0)) ])
      by false = a
      by true = at_sent (keeps_quiet h Every NoGroup ⊥) (record s { names = names.lookup g from s.names }) from (body.Name s.views.view g (unwrap_or (names.looked_up g from s.names) 0)) (at_names s (names.lookup g from s.names) a)

  pub at_name : (s : Core) (g : List ℕ) (n : ℕ) → Full s → Full (take_name s g n)
  unfolding take_name named is_name_used leader_of leader_in row_of
  at_name s g n a = by (n == 0) (is_none (leader_in s (found s g))) (is_fixed s.config.mode) refl
    where
      idle : is_none (leader_in s (found s g)) ≡ true → (found s g).led.tally ≡ None
      idle e = untallied (ticks_now h g (reverse s.records)) (leads_row s (found s g)) (found s g) (unled (leader_in s (found s g)) e) (a.tallies g 0 refl)
        where
          unled : (o : Option ℕ) → is_none o ≡ true → is_this s.views.me o ≡ true → ⊥
          unled None e q = absurd (cc)
          unled (Some k) e q = absurd (cc)

      by : (zero none fixed : Bool) → is_none (leader_in s (found s g)) ≡ none → Full (elim (none || (fixed && zero)) as (λ _. Core) [ true ↦ named s g n zero | false ↦ s ])
      by true true fixed e = at_fold (At h Every NoGroup ⊥) (λ t (q : Request). take_tell t q.provider q.request (GroupsFull 64)) (requests_of s g) (λ t q i k. at_tell (keeps_quiet h Every NoGroup ⊥) t q.provider q.request (GroupsFull 64) k) s a
      by true false true e = at_fold (At h Every NoGroup ⊥) (λ t (q : Request). take_tell t q.provider q.request (GroupsFull 64)) (requests_of s g) (λ t q i k. at_tell (keeps_quiet h Every NoGroup ⊥) t q.provider q.request (GroupsFull 64) k) s a
      by true false false e = a
      by false true fixed e = at_fold (At h Every NoGroup ⊥) send_request (requests_of s g) (λ t q i k. (keeps_quiet h Every NoGroup ⊥).calm t (send_request t q) (request_calm t q) k) (set_leader s g n) (at_led_by s g n (λ t q. absurd (let z = idle e in cc)) a)
      by false false true e = a
      by false false false e = a

  -- ---- REQUEST

  -- noting itself as leader, the node leads
  module _ (f : Answering) (s : Core) (g : List ℕ) (leads_it : leads (set_leader s g s.views.me) g ≡ true) where
    at_noted : Full s → Full (set_leader s g s.views.me)
    unfolding set_leader with_row leads leads_in leader_in row_of
    at_noted a = at_led_by s g s.views.me (λ t q. (now, (a.tallies g 0 refl t q).1)) a
      where
        now : leads_row s (record (found s g) { leader = Some s.views.me }) ≡ true
        now = ap (leads_row s) (sym (row_here g (λ row. record row { leader = Some s.views.me }) (λ x. refl) s a.order)) ∙ leads_it

    at_request_new : (p : ProviderId) (r : ℕ) (phases : Phases) (x : Proposal) → Full s → Full (decide_new f s g p r phases x)
    unfolding decide_new
    at_request_new p r phases x a =
        let t : Core = set_leader s g s.views.me in
        all_again (decided f t g p r phases x) g (at_decided h Every (Only g) ⊥ f t g p r phases x (every_may h (Only g) ⊥ g refl) (only_led t g leads_it (at_noted a)))

    pub at_request : (from : ℕ) (p : ProviderId) (r : ℕ) (phases : Phases) (x : Proposal) → Full s → Full (take_request f s from g p r phases x)
    at_request from p r phases x a = at_request_taken (keeps_quiet h Every NoGroup ⊥) f s g p r phases x a (at_request_new p r phases x a) from

  -- ---- ENTRY and ACK

  -- what is counted stays where an entry is put
  -- what the node does not lead is not counted there
  module _ (f : Answering) (s : Core) (from : ℕ) (g : List ℕ) (stable : ℕ) (e : Entry) where
    abbrev Known : Type 0
    Known = RecordLate h.event (reverse s.records) h.before (put_record h s g e) × RecordTold h.config (reverse s.records) h.before (put_record h s g e)

    at_next : Known → (leads s g ≡ true → ⊥) → Full s → Full (entry_next f s from g stable e true)
    unfolding entry_next sent send_on
    at_next before follows a =
        let t : Core = put_and_hand f s (Some from) g e in
        let u : Core = sent t from (body.Ack t.views.view g (len_of t g)) in
        let b : Full t = at_put_and_handed_for h Every Every NoGroup ⊥ f s (Some from) g e before.0 before.1 (λ k less u ne. u) (λ less u t q. absurd (let z = none in cc)) a in
        let c : Full u = at_sent (keeps_quiet h Every NoGroup ⊥) t from (body.Ack t.views.view g (len_of t g)) b in
        at_forgets h Every NoGroup ⊥ (set_leader u g from) g stable (at_led_by u g from (λ t q. absurd (let z = after in cc)) c)
      where
        none : (found s g).led.tally ≡ None
        none = untallied (ticks_now h g (reverse s.records)) (leads_row s (found s g)) (found s g) (λ q. follows (sym (leads_is s g) ∙ q)) (a.tallies g 0 refl)

        after : (found (put_and_hand f s (Some from) g e) g).led.tally ≡ None
        after = rows_after f s from g e a.order ∙ none

    at_next_if : Known → (leads s g ≡ true → ⊥) → (b : Bool) → Full s → Full (entry_next f s from g stable e b)
    unfolding entry_next
    at_next_if before follows false a = a
    at_next_if before follows true a = at_next before follows a

    at_elsewhere : (b : Bool) → Full s → Full (entry_elsewhere s from g stable b)
    unfolding entry_elsewhere
    at_elsewhere true a = at_forgets h Every NoGroup ⊥ (sent s from (body.Ack s.views.view g (len_of s g))) g stable (at_sent (keeps_quiet h Every NoGroup ⊥) s from (body.Ack s.views.view g (len_of s g)) a)
    at_elsewhere false a = by (holds s g)
      where
        by : (b : Bool) → Full (elim b as (λ _. Core) [ true ↦ forget_below s g stable | false ↦ s ])
        by true = at_forgets h Every NoGroup ⊥ s g stable a
        by false = a

    pub at_entry : (place : ℕ) → ((place == len_of s g) ≡ true → Known × (leads s g ≡ true → ⊥)) → Full s → Full (take_entry f s from g place stable e)
    unfolding take_entry
    at_entry place follows a = by (place == len_of s g) refl
      where
        by : (b : Bool) → (place == len_of s g) ≡ b → Full (elim b as (λ _. Core) [ true ↦ entry_next f s from g stable e (fits_at_end s g e) | false ↦ entry_elsewhere s from g stable (nat_lt place (len_of s g)) ])
        by true q = let k = follows q in at_next_if k.0 k.1 (fits_at_end s g e) a
        by false q = at_elsewhere (nat_lt place (len_of s g)) a

  at_acked : (s : Core) (from : ℕ) (g : List ℕ) (n : ℕ) → Full s → Full (acked s from g n)
  unfolding acked
  at_acked s from g n a =
      let t : Core = with_led s g (λ l. record l { acked = acked_raised from n l.acked }) in
      at_forgets_least h Every NoGroup ⊥ t g (at_led h Every NoGroup ⊥ s g (λ l. record l { acked = acked_raised from n l.acked }) (λ l. (refl, refl)) a)

  pub at_ack : (s : Core) (from : ℕ) (g : List ℕ) (n : ℕ) → Full s → Full (take_ack s from g n)
  unfolding take_ack
  at_ack s from g n a = by (leads s g && nat_le n (len_of s g))
    where
      by : (b : Bool) → Full (elim b as (λ _. Core) [ true ↦ acked s from g n | false ↦ s ])
      by true = at_acked s from g n a
      by false = a

  -- ---- VOTE

  pub at_vote : (f : Answering) (s : Core) (g : List ℕ) (proto : ProtoId) (phase : ℕ) (p : ProviderId) (v : Vote) (value message : Option (List ℕ)) → Full s → Full (take_vote f s g proto phase p v value message)
  unfolding take_vote state_of list_of row_of with_led
  at_vote f s g proto phase p v value message a = by (leads s g) (runs proto phase (state_in (found s g).list).running) refl
    where
      counted : leads s g ≡ true → At h Every (Only g) ⊥ (with_led s g (λ l. vote_cast l p v value message l.tally))
      counted led =
          let b : At h Every (Only g) ⊥ s = only_led s g led a in
          at_row_for h Every Every (Only g) ⊥ s g (λ row. record row { led = vote_cast row.led p v value message row.led.tally }) (λ x. refl) (λ x. refl) (λ x. (refl, refl, refl)) (λ k less t ne. t) (λ less t. row_voted (ticks_now h g (reverse s.records)) less (leads_row s (found s g)) (found s g) p v value message (b.tallies g less t)) b

      by : (b c : Bool) → leads s g ≡ b → Full (elim (b && c) as (λ _. Core) [ true ↦ closes f (with_led s g (λ l. vote_cast l p v value message l.tally)) g | false ↦ s ])
      by true true q = all_again (closes f (with_led s g (λ l. vote_cast l p v value message l.tally)) g) g (at_closes h Every (Only g) ⊥ f (with_led s g (λ l. vote_cast l p v value message l.tally)) g (every_may h (Only g) ⊥ g refl) (counted q))
      by true false q = a
      by false c q = a

  -- ---- GONE

  at_failed : (f : Answering) (s : Core) (g : List ℕ) (p : ProviderId) (o : Option TallyView) → (found s g).led.tally ≡ o → At h Every (Only g) ⊥ s → At h Every (Only g) ⊥ (tally_failed f s g p o)
  unfolding tally_failed with_tally with_led
  at_failed f s g p None e a = a
  at_failed f s g p (Some t) e a =
      at_closes h Every (Only g) ⊥ f (with_tally s g (Some (tally_fail p t))) g (every_may h (Only g) ⊥ g refl) (at_row_for h Every Every (Only g) ⊥ s g (λ row. record row { led = record (row.led) { tally = Some (tally_fail p t) } }) (λ x. refl) (λ x. refl) (λ x. (refl, refl, refl)) (λ k less t ne. t) (λ less u. own less (a.tallies g less u)) a)
    where
      now : ℕ
      now = ticks_now h g (reverse s.records)

      own : (less : ℕ) → RowIs now less (leads_row s (found s g)) (found s g) → RowIs now less (leads_row s (found s g)) (record (found s g) { led = record ((found s g).led) { tally = Some (tally_fail p t) } })
      own less k u q =
          let z : tally_fail p t ≡ u = cc in
          let j = k t e in
          (j.0, λ run r. let w = j.1 run r in subst (λ y. TallyIs (state_in (found s g).list) now less y × Settled (record ((found s g).led) { tally = Some (tally_fail p t) }) (found s g).list y) z (failed_late (state_in (found s g).list) now less p t w.0, failed_settled (found s g).led (record ((found s g).led) { tally = Some (tally_fail p t) }) (found s g).list p t refl w.1))

  pub at_gone : (f : Answering) (s : Core) (g : List ℕ) (p : ProviderId) → Full s → Full (take_gone f s g p)
  unfolding led_of row_of
  at_gone f s g p a =
      let t : Core = with_led s g (λ l. record l { gone = marked l.gone p }) in
      at_gone_taken Full f s g p (λ led. all_again (tally_failed f t g p (found t g).led.tally) g (at_failed f t g p (found t g).led.tally refl (at_led h Every (Only g) ⊥ s g (λ l. record l { gone = marked l.gone p }) (λ l. (refl, refl)) (only_led s g led a)))) (λ u k. at_waits h Every NoGroup ⊥ u g (add_failure p Gone) k) (at_waits h Every NoGroup ⊥ s g (drop_join p) a) a
