-- The rows of packets of a view.
use Rattle.std.proofs.Common.{◌≡◌, ℕ, List, [], Option, Some, None, Bool, true, false, refl, sym, ap, subst, inl}
use Rattle.std.specs.Prelude.{◌==◌, ◌&&◌, reverse, nat_le, nat_lt}
use Rattle.std.specs.Option.{unwrap_or}
use Rattle.rsct_packet.specs.declared.ids.ProviderId.{ProviderId}
use Rattle.rsct_packet.specs.declared.ids.ProtoId.{ProtoId}
use Rattle.rsct_packet.specs.Search.{Has}
use Rattle.group_attr.specs.declared.attrs.Phases.{Phases}
use Rattle.proposal_core.specs.declared.proposal.Cause.TheVariants.{Gone}
use Rattle.group_attr.specs.declared.attrs.Attrs.{Attrs}
use Rattle.proposal_core.specs.declared.proposal.Proposal.{Proposal}
use Rattle.proposal_core.specs.declared.proposal.Proposal.TheVariants.{Join}
use Rattle.proposal_core.specs.declared.entry.Entry.{Entry}
use Rattle.proposal_core.specs.declared.entry.Vote.{Vote}
use Rattle.proposal_core.specs.Fold.{runs}
use Rattle.proposal_core.specs.Lists.{state_in, len_in}
use Rattle.batch_rules.specs.Waiting.{add_failure, drop_join}
use Rattle.vote_phases.specs.Tally.{TallyView, tally_fail}
use Rattle.name_server.specs.Names as names
use Rattle.client_callbacks.specs.declared.told.Why.TheVariants.{GroupsFull}
use Rattle.session_state.specs.declared.state.Request.{Request}
use Rattle.node_state.specs.declared.group.GroupRow.{GroupRow}
use Rattle.node_state.specs.declared.group.Led.{Led}
use Rattle.node_state.specs.declared.packet.Body.TheVariants as body
use Rattle.node_state.specs.declared.state.Core.{Core}
use Rattle.node_state.specs.State.{InNameOrder, with_led, led_of, list_of, state_of, len_of, holds, fits_at_end, forget_below, coordinates, leads, set_leader, acked_raised}
use Rattle.node_state.specs.Sending.{sent, send_request}
use Rattle.node_state.specs.HandOn.{Answering}
use Rattle.node_state.specs.Deciding.{is_idle_empty}
use Rattle.node_state.proofs.NameOrder.{row_here}
use Rattle.node_state.specs.Leading.{put_and_hand, with_tally, closes}
use Rattle.node_state.specs.Following.{take_lookup, take_tell, requests_of, named, is_name_used, take_name, decide_new, take_request, entry_next, entry_elsewhere, take_entry, acked, take_ack, vote_cast, take_vote, tally_failed, marked, take_gone}
use Rattle.run_safety.specs.Requests as requests
use Rattle.entry_laws.proofs.closing_rows.Quiet.{at_fold, at_tell, at_request_taken, at_sent, at_gone_taken}
use Rattle.entry_laws.proofs.closing_rows.At.{found}
use Rattle.entry_laws.proofs.closing_rows.Calms.{request_calm, calm_fold}
use Rattle.entry_laws.specs.source_order.Meant.{Decided}
use Rattle.entry_laws.proofs.source_order.Holding.{Turn, so_far, Fewer, fewer_self, failure_fewer, dropped_fewer, Going, going_row, going_looked}
use Rattle.entry_laws.proofs.source_order.At.{PutFact, At, at_calm, at_table, keeps_quiet}
use Rattle.entry_laws.proofs.source_order.Leading.{at_put_and_handed, at_led, at_led_by, at_waits, at_forgets, at_forgets_least, at_tally, at_closes}
use Rattle.entry_laws.proofs.source_order.Deciding.{at_decided}

-- who leads is no part of the state
pub led_state : (s : Core) (g : List ℕ) (n : ℕ) → InNameOrder s.groups → state_of (set_leader s g n) g ≡ state_of s g
unfolding state_of list_of set_leader
led_state s g n order = ap (λ (row : GroupRow). state_in row.list) (row_here g (λ row. record row { leader = Some n }) (λ x. refl) s order)

vote_fewer : (l : Led) (p : ProviderId) (v : Vote) (value message : Option (List ℕ)) (o : Option TallyView) → Fewer l (vote_cast l p v value message o)
unfolding vote_cast
vote_fewer l p v value message None = fewer_self l
vote_fewer l p v value message (Some t) = record { joins = λ q e. e; attrs = refl }

module _ (h : Turn) (P : Type 0) where
  abbrev Full : Core → Type 0
  Full s = At h P s

  -- ---- LOOKUP and NAME

  pub at_lookup : (s : Core) (from : ℕ) (g : List ℕ) → Going h s → (coordinates s ≡ true → h.looked ≡ Some (g, from)) → Full s → Full (take_lookup s from g)
  unfolding take_lookup
  at_lookup s from g going looked a = by (coordinates s) refl
    where
      t : Core
      t = record s { names = names.lookup g from s.names }

      by : (b : Bool) → coordinates s ≡ b → Full (elim b as (λ _. Core) [ false ↦ s | true ↦ sent t from (body.Name s.views.view g (unwrap_or (names.looked_up g from s.names) 0)) ])
      by false e = a
      by true e = at_sent (keeps_quiet h P) t from (body.Name s.views.view g (unwrap_or (names.looked_up g from s.names) 0)) (at_table h P s (names.lookup g from s.names) (inl (going_looked h s g from (looked e) going)) a)

  pub at_name : (s : Core) (g : List ℕ) (n : ℕ) → Full s → Full (take_name s g n)
  unfolding take_name named
  at_name s g n a = by (n == 0) (is_name_used s g n)
    where
      by : (zero used : Bool) → Full (elim used as (λ _. Core) [ true ↦ named s g n zero | false ↦ s ])
      by zero false = a
      by true true = at_fold (At h P) (λ t (q : Request). take_tell t q.provider q.request (GroupsFull 64)) (requests_of s g) (λ t q i k. at_tell (keeps_quiet h P) t q.provider q.request (GroupsFull 64) k) s a
      by false true = at_calm h P (set_leader s g n) _ (calm_fold send_request request_calm (requests_of s g) (set_leader s g n)) (at_led_by h P s g n a)

  -- ---- REQUEST

  module _ (f : Answering) (s : Core) (g : List ℕ) (p : ProviderId) (r : ℕ) (phases : Phases) (x : Proposal) (asked : Has (p, r) (requests.requests_of x)) (going : Going h s) (order : InNameOrder s.groups) (taken : (ps : List ProviderId) (attrs : Attrs) (k : Option ℕ) → x ≡ Join ps attrs k → Decided (so_far h []) h.node h.view g p (is_idle_empty (state_of s g)) attrs) where
    at_request_new : Full s → Full (decide_new f s g p r phases x)
    unfolding decide_new set_leader
    at_request_new a =
        at_decided h P f (set_leader s g s.views.me) g p r phases x asked (going_row h s g (λ row. record row { leader = Some s.views.me }) (λ y. refl) (λ y. fewer_self y.led) going) (λ ps attrs k e. subst (λ st. Decided (so_far h []) h.node h.view g p (is_idle_empty st) attrs) (sym (led_state s g s.views.me order)) (taken ps attrs k e)) (at_led_by h P s g s.views.me a)

    pub at_request : (from : ℕ) → Full s → Full (take_request f s from g p r phases x)
    at_request from a = at_request_taken (keeps_quiet h P) f s g p r phases x a (at_request_new a) from

  -- ---- ENTRY and ACK

  -- the entry was put by someone
  module _ (f : Answering) (s : Core) (from : ℕ) (g : List ℕ) (stable : ℕ) (e : Entry) where
    abbrev Known : Type 0
    Known = PutFact h.what (reverse s.records) h.before s.views.me s.views.view g (len_in (found s g).list) e

    at_next : Known → (b : Bool) → Full s → Full (entry_next f s from g stable e b)
    unfolding entry_next
    at_next fact false a = a
    at_next fact true a =
        let t : Core = put_and_hand f s (Some from) g e in
        let u : Core = sent t from (body.Ack t.views.view g (len_of t g)) in
        at_forgets h P (set_leader u g from) g stable (at_led_by h P u g from (at_sent (keeps_quiet h P) t from (body.Ack t.views.view g (len_of t g)) (at_put_and_handed h P f s (Some from) g e fact a)))

    at_elsewhere : (b : Bool) → Full s → Full (entry_elsewhere s from g stable b)
    unfolding entry_elsewhere
    at_elsewhere true a = at_forgets h P (sent s from (body.Ack s.views.view g (len_of s g))) g stable (at_sent (keeps_quiet h P) s from (body.Ack s.views.view g (len_of s g)) a)
    at_elsewhere false a = by (holds s g)
      where
        by : (b : Bool) → Full (elim b as (λ _. Core) [ true ↦ forget_below s g stable | false ↦ s ])
        by true = at_forgets h P s g stable a
        by false = a

    pub at_entry : (place : ℕ) → ((place == len_of s g) ≡ true → Known) → Full s → Full (take_entry f s from g place stable e)
    unfolding take_entry
    at_entry place fact a = by (place == len_of s g) refl
      where
        by : (b : Bool) → (place == len_of s g) ≡ b → Full (elim b as (λ _. Core) [ true ↦ entry_next f s from g stable e (fits_at_end s g e) | false ↦ entry_elsewhere s from g stable (nat_lt place (len_of s g)) ])
        by true q = at_next (fact q) (fits_at_end s g e) a
        by false q = at_elsewhere (nat_lt place (len_of s g)) a

  pub at_ack : (s : Core) (from : ℕ) (g : List ℕ) (n : ℕ) → Full s → Full (take_ack s from g n)
  unfolding take_ack acked
  at_ack s from g n a = by (leads s g && nat_le n (len_of s g))
    where
      t : Core
      t = with_led s g (λ l. record l { acked = acked_raised from n l.acked })

      by : (b : Bool) → Full (elim b as (λ _. Core) [ true ↦ acked s from g n | false ↦ s ])
      by true = at_forgets_least h P t g (at_led h P s g (λ l. record l { acked = acked_raised from n l.acked }) (λ l. record { joins = λ p e. e; attrs = refl }) a)
      by false = a

  -- ---- VOTE and GONE

  pub at_vote : (f : Answering) (s : Core) (g : List ℕ) (proto : ProtoId) (phase : ℕ) (p : ProviderId) (v : Vote) (value message : Option (List ℕ)) → Full s → Full (take_vote f s g proto phase p v value message)
  unfolding take_vote
  at_vote f s g proto phase p v value message a = by (leads s g && runs proto phase (state_of s g).running)
    where
      t : Core
      t = with_led s g (λ l. vote_cast l p v value message l.tally)

      by : (b : Bool) → Full (elim b as (λ _. Core) [ true ↦ closes f t g | false ↦ s ])
      by true = at_closes h P f t g (at_led h P s g (λ l. vote_cast l p v value message l.tally) (λ l. vote_fewer l p v value message l.tally) a)
      by false = a

  at_failed : (f : Answering) (s : Core) (g : List ℕ) (p : ProviderId) (o : Option TallyView) → Full s → Full (tally_failed f s g p o)
  unfolding tally_failed
  at_failed f s g p None a = a
  at_failed f s g p (Some t) a = at_closes h P f (with_tally s g (Some (tally_fail p t))) g (at_tally h P s g (Some (tally_fail p t)) a)

  pub at_gone : (f : Answering) (s : Core) (g : List ℕ) (p : ProviderId) → Full s → Full (take_gone f s g p)
  at_gone f s g p a =
      let t : Core = with_led s g (λ l. record l { gone = marked l.gone p }) in
      at_gone_taken Full f s g p (λ led. at_failed f t g p (led_of t g).tally (at_led h P s g (λ l. record l { gone = marked l.gone p }) (λ l. record { joins = λ q e. e; attrs = refl }) a)) (λ u k. at_waits h P u g (add_failure p Gone) (λ l. failure_fewer l p Gone) k) (at_waits h P s g (drop_join p) (λ l. dropped_fewer l p) a) a
