-- The rows of packets of a view.
use Rattle.std.proofs.Common.{◌≡◌, ◌≤◌, ◌⊎◌, ℕ, ◌+◌, List, Option, Some, None, Bool, true, false, refl, sym, ap, ◌∙◌, subst, inl, inr, arith}
use Rattle.std.specs.Prelude.{◌==◌, ◌&&◌, ◌||◌, find, fold, reverse, nat_le, nat_lt, is_none, is_some}
use Rattle.std.specs.Option.{unwrap_or}
use Rattle.rsct_packet.specs.declared.ids.ProviderId.{ProviderId}
use Rattle.rsct_packet.specs.declared.ids.ProtoId.{ProtoId}
use Rattle.group_attr.specs.declared.attrs.Phases.{Phases}
use Rattle.proposal_core.specs.declared.proposal.Cause.TheVariants.{Gone}
use Rattle.proposal_core.specs.declared.proposal.Proposal.{Proposal}
use Rattle.proposal_core.specs.declared.entry.Entry.{Entry}
use Rattle.proposal_core.specs.declared.entry.Vote.{Vote}
use Rattle.proposal_core.specs.Fold.{runs}
use Rattle.proposal_core.specs.GroupView.{GroupView}
use Rattle.proposal_core.specs.Lists.{state_in, len_in, with_entry, list_or_new}
use Rattle.batch_rules.specs.Waiting.{add_failure, drop_join}
use Rattle.vote_phases.specs.Tally.{TallyView, tally_fail}
use Rattle.name_server.specs.Names as names
use Rattle.client_callbacks.specs.declared.told.Why.TheVariants.{GroupsFull}
use Rattle.session_state.specs.declared.state.Request.{Request}
use Rattle.view_state.specs.declared.views.Views.{Views}
use Rattle.node_state.specs.declared.group.GroupRow.{GroupRow}
use Rattle.node_state.specs.declared.group.Led.{Led}
use Rattle.node_state.specs.declared.packet.Body.TheVariants as body
use Rattle.node_state.specs.declared.state.Core.{Core}
use Rattle.node_state.specs.Settings.{is_fixed}
use Rattle.node_state.specs.State.{acked_from, leader_by, InNameOrder, row_found, row_of, with_row, with_led, led_of, state_of, len_of, holds, fits_at_end, forget_below, coordinates, is_this, leader_in, leader_of, leads_in, leads, set_leader, acked_raised, recorded, has_name}
use Rattle.node_state.specs.Sending.{sent, send_on, send_request}
use Rattle.node_state.specs.HandOn.{Answering}
use Rattle.node_state.specs.Leading.{forget_least, put, put_and_hand, with_tally, closes}
use Rattle.node_state.specs.Deciding.{decided}
use Rattle.node_state.specs.Following.{take_lookup, take_tell, requests_of, named, is_name_used, take_name, decide_new, take_request, entry_next, entry_elsewhere, take_entry, acked, take_ack, vote_cast, take_vote, tally_failed, marked, take_gone}
use Rattle.run_safety.specs.Past.{earlier}
use Rattle.node_state.proofs.NameOrder.{row_here, rows_ordered}
use Rattle.step_refinement.proofs.Appending.{handed_rows}
use Rattle.entry_laws.proofs.closing_rows.Quiet.{at_fold, at_tell, at_request_taken, at_gone_taken}
use Rattle.entry_laws.specs.closing_rows.Rows.{TallyFits, start_in}
use Rattle.row_laws.proofs.hearing.Changes.{put_handed_onward}
use Rattle.entry_laws.proofs.closing_rows.At.{found, leads_row, leads_is, seat, leader_at, leads_by, least_at, loosened, loosen_beside, RowStarts, RowIs, Frame, PutFact, StateIs, At, at_for, at_calm, at_table, at_row, at_row_for, row_with, keeps_quiet}
use Rattle.entry_laws.proofs.closing_rows.Calms.{calm_sent, request_calm, calm_fold}
use Rattle.entry_laws.proofs.closing_rows.Tallies.{failed_fits, voted_fits}
use Rattle.entry_laws.proofs.closing_rows.Leading.{put_row, raised, acknowledged, acked_beside, row_named, row_noted, row_followed, row_away, row_known, row_acked, at_put_and_handed_for, at_led, at_waits, at_forgets_least, at_told, at_told_next, at_told_less, at_closes}
use Rattle.entry_laws.proofs.closing_rows.Ending.{Every, NoGroup, at_decided}

-- a vote is counted
row_voted : (led : Bool) (row : GroupRow) (p : ProviderId) (v : Vote) (value message : Option (List ℕ)) → RowIs led row → RowIs led (record row { led = vote_cast row.led p v value message row.led.tally })
unfolding vote_cast
row_voted led row p v value message k = by row.led.tally refl k
  where
    by : (o : Option TallyView) → row.led.tally ≡ o → RowIs led row → ((vote_cast row.led p v value message o).tally ≡ None) ⊎ ((led ≡ true) × TallyFits (vote_cast row.led p v value message o).tally (state_in row.list))
    by None e j = inl e
    by (Some t) e (inl none) = let z : Some t ≡ None = sym e ∙ none in absurd (cc)
    by (Some t) e (inr j) = inr (j.0, voted_fits p v t (state_in row.list) (subst (λ z. TallyFits z (state_in row.list)) e j.1))

-- what is acknowledged stays where a vote is counted
voted_acks : (l : Led) (p : ProviderId) (v : Vote) (value message : Option (List ℕ)) (o : Option TallyView) (m : ℕ) → acked_from m (vote_cast l p v value message o).acked ≡ acked_from m l.acked
unfolding vote_cast
voted_acks l p v value message None m = refl
voted_acks l p v value message (Some t) m = refl

not_true : (b : Bool) → (b ≡ true → ⊥) → b ≡ false
not_true true never = absurd (never refl)
not_true false never = refl

-- an ACK is taken
abbrev pub acked_if : Frame → List ℕ → ℕ → ℕ → Bool → Frame
acked_if h g m n true = record h { floors = acknowledged h.floors g m n }
acked_if h g m n false = h

-- an ENTRY is taken: at the end of the list one that fits there
abbrev pub is_taken : Core → List ℕ → ℕ → Entry → Bool
is_taken s g place e = elim (place == len_of s g) [ true ↦ fits_at_end s g e | false ↦ true ]

-- then it tells a place
abbrev pub told_if : Frame → List ℕ → ℕ → Bool → Frame
told_if h g stable true = record h { floors = raised h.floors g stable }
told_if h g stable false = h

-- a leader is known
at_led_by : (h : Frame) (s : Core) (g : List ℕ) (n : ℕ) → RowIs (leads_row s (record (found s g) { leader = Some n })) (record (found s g) { leader = Some n }) → RowStarts h.floors (seat s) g (record (found s g) { leader = Some n }) → At h Every NoGroup s → At h Every NoGroup (set_leader s g n)
unfolding set_leader with_row
at_led_by h s g n own begins a =
    record {
      came = a.came;
      rows = record { order = rows_ordered g f (λ x. refl) s a.rows.order; starts = row_with (RowStarts h.floors (seat s)) s g f (λ x. refl) a.rows.order begins (λ k ne. a.rows.starts k); tallies = λ k u. row_with (λ k row. RowIs (leads_row s row) row) s g f (λ x. refl) a.rows.order own (λ k ne. a.rows.tallies k tt) k; led = λ k z. absurd z };
      facts = a.facts;
      states = λ fresh. row_with (λ k row. StateIs s.views.me s.views.view k row.list (earlier (reverse s.records) h.history)) s g f (λ x. refl) a.rows.order (a.states fresh g) (λ k ne. a.states fresh k);
    }
  where
    f : GroupRow → GroupRow
    f row = record row { leader = Some n }

-- an entry that is put and heard leaves the tally
pub rows_after : (f : Answering) (s : Core) (from : ℕ) (g : List ℕ) (e : Entry) → InNameOrder s.groups → (found (put_and_hand f s (Some from) g e) g).led.tally ≡ (found s g).led.tally
unfolding put_and_hand put recorded with_row row_of
rows_after f s from g e order =
    ap (λ rows. (row_found g (find (has_name g) rows)).led.tally) (handed_rows f (put s g e) (Some from) g (len_of s g) (state_of s g) (state_of (put s g e) g) e).0 ∙ ap (λ (z : GroupRow). z.led.tally) (row_here g (λ row. record row { list = Some (with_entry (list_or_new row.list) s.views.view e) }) (λ x. refl) s order)

module _ (h : Frame) where
  abbrev Full : Core → Type 0
  Full s = At h Every NoGroup s

  -- one group that the node leads
  abbrev Only : List ℕ → List ℕ → Type 0
  Only g k = g ≡ k

  only_led : (s : Core) (g : List ℕ) → leads s g ≡ true → Full s → At h Every (Only g) s
  only_led s g led a = at_for h Every NoGroup Every (Only g) s (λ k t. t) (λ k e. subst (λ z. leads_row s (found s z) ≡ true) e (leads_is s g ∙ led)) a

  all_again : (s : Core) (g : List ℕ) → At h Every (Only g) s → Full s
  all_again s g a = at_for h Every (Only g) Every NoGroup s (λ k t. t) (λ k z. absurd z) a

  -- ---- LOOKUP and NAME

  pub at_lookup : (s : Core) (from : ℕ) (g : List ℕ) → Full s → Full (take_lookup s from g)
  unfolding take_lookup
  at_lookup s from g a = by (coordinates s)
    where
      t : Core
      t = record s { names = names.lookup g from s.names }

      by : (b : Bool) → Full (elim b as (λ _. Core) [ false ↦ s | true ↦ sent t from (body.Name s.views.view g (unwrap_or (names.looked_up g from s.names) 0)) ])
      by false = a
      by true = at_calm h Every NoGroup t _ (calm_sent t from (body.Name s.views.view g (unwrap_or (names.looked_up g from s.names) 0))) (at_table h Every NoGroup s (names.lookup g from s.names) a)

  pub at_name : (s : Core) (g : List ℕ) (n : ℕ) → h.floors.settled g ≡ true → Full s → Full (take_name s g n)
  unfolding take_name named is_name_used leader_of leader_in row_of
  at_name s g n settled a = by (n == 0) (is_none (leader_in s (found s g))) (is_fixed s.config.mode) refl
    where
      unled : (o : Option ℕ) → is_none o ≡ true → is_this s.views.me o ≡ true → ⊥
      unled None e q = absurd (cc)
      unled (Some k) e q = absurd (cc)

      none_of : (o : Option ℕ) → is_none o ≡ true → o ≡ None
      none_of None e = refl
      none_of (Some k) e = absurd (cc)

      idle : is_none (leader_in s (found s g)) ≡ true → (found s g).led.tally ≡ None
      idle e = at (a.rows.tallies g tt)
        where
          at : RowIs (leads_row s (found s g)) (found s g) → (found s g).led.tally ≡ None
          at (inl z) = z
          at (inr k) = absurd (unled (leader_in s (found s g)) e k.0)

      told : Full (fold (λ t (q : Request). take_tell t q.provider q.request (GroupsFull 64)) s (requests_of s g))
      told = at_fold (At h Every NoGroup) (λ t (q : Request). take_tell t q.provider q.request (GroupsFull 64)) (requests_of s g) (λ t q i k. at_tell (keeps_quiet h Every NoGroup) t q.provider q.request (GroupsFull 64) k) s a

      by : (zero none fixed : Bool) → is_none (leader_in s (found s g)) ≡ none → Full (elim (none || (fixed && zero)) as (λ _. Core) [ true ↦ named s g n zero | false ↦ s ])
      by true true fixed e = told
      by true false true e = told
      by true false false e = a
      by false true fixed e = at_calm h Every NoGroup (set_leader s g n) _ (calm_fold send_request request_calm (requests_of s g) (set_leader s g n)) (at_led_by h s g n (inl (idle e)) (row_named h.floors (seat s) g (found s g) n settled (none_of (leader_in s (found s g)) e) (a.rows.starts g)) a)
      by false false true e = a
      by false false false e = a

  -- ---- REQUEST

  -- noting itself as leader, the node leads
  module _ (f : Answering) (s : Core) (g : List ℕ) (leads_it : leads (set_leader s g s.views.me) g ≡ true) (known : (m : ℕ) → leader_at (seat s) (found s g) ≡ Some m → m ≡ s.views.me) (settled : h.floors.settled g ≡ true) where
    at_noted : Full s → Full (set_leader s g s.views.me)
    unfolding set_leader with_row leads leads_in leader_in row_of
    at_noted a = at_led_by h s g s.views.me (own (a.rows.tallies g tt)) (row_noted h.floors (seat s) g (found s g) s.views.me settled known now (a.rows.starts g)) a
      where
        now : leads_row s (record (found s g) { leader = Some s.views.me }) ≡ true
        now = ap (leads_row s) (sym (row_here g (λ row. record row { leader = Some s.views.me }) (λ x. refl) s a.rows.order)) ∙ leads_it

        own : RowIs (leads_row s (found s g)) (found s g) → RowIs (leads_row s (record (found s g) { leader = Some s.views.me })) (record (found s g) { leader = Some s.views.me })
        own (inl e) = inl e
        own (inr k) = inr (now, k.1)

    at_request_new : (p : ProviderId) (r : ℕ) (phases : Phases) (x : Proposal) → Full s → Full (decide_new f s g p r phases x)
    unfolding decide_new
    at_request_new p r phases x a =
        let t : Core = set_leader s g s.views.me in
        all_again (decided f t g p r phases x) g (at_decided h Every (Only g) f t g p r phases x tt refl (only_led t g leads_it (at_noted a)))

    pub at_request : (from : ℕ) (p : ProviderId) (r : ℕ) (phases : Phases) (x : Proposal) → Full s → Full (take_request f s from g p r phases x)
    at_request from p r phases x a = at_request_taken (keeps_quiet h Every NoGroup) f s g p r phases x a (at_request_new p r phases x a) from

  -- ---- ENTRY and ACK

  -- what is counted stays where an entry is put
  -- who leads stays, too
  leads_after : (f : Answering) (s : Core) (from : ℕ) (g : List ℕ) (e : Entry) → InNameOrder s.groups → leads_row (put_and_hand f s (Some from) g e) (found (put_and_hand f s (Some from) g e) g) ≡ leads_row s (found s g)
  unfolding put_and_hand put recorded with_row row_of
  leads_after f s from g e order =
      let c : Core = put s g e in
      let rows = handed_rows f c (Some from) g (len_of s g) (state_of s g) (state_of c g) e in
      let views = (put_handed_onward f s (Some from) g e order).views in
      let leader = ap (λ (l : List GroupRow). (row_found g (find (has_name g) l)).leader) rows.0 ∙ ap (λ (z : GroupRow). z.leader) (row_here g (λ row. put_row h s row e) (λ x. refl) s order) in
      λ i. is_this (views i).me (leader_by (rows.1 i).mode (views i).view.coord (leader i))

  -- and its list is longer
  len_after : (f : Answering) (s : Core) (from : ℕ) (g : List ℕ) (e : Entry) → InNameOrder s.groups → len_in (found (put_and_hand f s (Some from) g e) g).list ≡ len_in (found s g).list + 1
  unfolding put_and_hand put recorded with_row row_of with_entry
  len_after f s from g e order =
      ap (λ rows. len_in (row_found g (find (has_name g) rows)).list) (handed_rows f (put s g e) (Some from) g (len_of s g) (state_of s g) (state_of (put s g e) g) e).0 ∙ ap (λ (z : GroupRow). len_in z.list) (row_here g (λ row. put_row h s row e) (λ x. refl) s order)

  -- its row where a leader is noted
  noted_row : (s : Core) (g : List ℕ) (n : ℕ) → InNameOrder s.groups → found (set_leader s g n) g ≡ record (found s g) { leader = Some n }
  unfolding set_leader with_row row_of
  noted_row s g n order = row_here g (λ row. record row { leader = Some n }) (λ x. refl) s order

  noted_list : (s : Core) (g : List ℕ) (n : ℕ) → InNameOrder s.groups → (found (set_leader s g n) g).list ≡ (found s g).list
  noted_list s g n order = ap (λ (z : GroupRow). z.list) (noted_row s g n order)

  -- what the node does not lead is not counted there; the entry was put by someone, and the node is told a place that it has
  module _ (f : Answering) (s : Core) (from : ℕ) (g : List ℕ) (stable : ℕ) (e : Entry) (le : stable ≤ len_in (found s g).list) (held : leads_row s (found s g) ≡ true → stable ≤ least_at (seat s) (found s g)) where
    abbrev Loose : Core → Type 0
    Loose c = At (record h { floors = loosened h.floors g }) Every NoGroup c

    abbrev Told : Core → Type 0
    Told c = At (record h { floors = raised h.floors g stable }) Every NoGroup c

    at_next : PutFact (reverse s.records) h.history s.views.me s.views.view g (len_in (found s g).list) e → (leads s g ≡ true → ⊥) → (from ≡ s.views.me → ⊥) → Full s → Told (entry_next f s from g stable e true)
    unfolding entry_next sent send_on set_leader with_row
    at_next fact follows foreign a =
        let t : Core = put_and_hand f s (Some from) g e in
        let u : Core = sent t from (body.Ack t.views.view g (len_of t g)) in
        let j : Frame = record h { floors = loosened h.floors g } in
        let b : Loose t = at_put_and_handed_for h Every NoGroup Every f s (Some from) g e fact (λ k u ne. u) (λ u. inl none) a in
        let c : Loose u = at_calm j Every NoGroup t u (calm_sent t from (body.Ack t.views.view g (len_of t g))) b in
        let apart : leads_row u (found u g) ≡ false = leads_after f s from g e a.rows.order ∙ not_true (leads_row s (found s g)) (λ q. follows (sym (leads_is s g) ∙ q)) in
        let other : leads_by (seat u) (record (found u g) { leader = Some from }) ≡ false = row_away (seat u) (found u g) from apart (λ q. foreign (q ∙ ap (λ (z : Views). z.me) (put_handed_onward f s (Some from) g e a.rows.order).views)) in
        let d : Loose (set_leader u g from) = at_led_by j u g from (inl after) (row_followed h.floors (seat u) g (found u g) from apart other (c.rows.starts g)) c in
        at_told_next h Every NoGroup (set_leader u g from) g stable (long (len_in (found s g).list) (len_in (found (set_leader u g from) g).list) (ap len_in (noted_list u g from c.rows.order) ∙ len_after f s from g e a.rows.order) le) (ap (leads_by (seat u)) (noted_row u g from c.rows.order) ∙ other) (λ q. row_known (seat u) (found u g) from (sym (ap (leader_at (seat u)) (noted_row u g from c.rows.order)) ∙ q)) d
      where
        long : (i j : ℕ) → j ≡ i + 1 → stable ≤ i → stable ≤ j
        long i j e k = omega arith

        none : (found s g).led.tally ≡ None
        none = at (a.rows.tallies g tt)
          where
            at : RowIs (leads_row s (found s g)) (found s g) → (found s g).led.tally ≡ None
            at (inl z) = z
            at (inr k) = absurd (follows (sym (leads_is s g) ∙ k.0))

        t : Core
        t = put_and_hand f s (Some from) g e

        after : (found (sent t from (body.Ack t.views.view g (len_of t g))) g).led.tally ≡ None
        after = rows_after f s from g e a.rows.order ∙ none

    at_next_if : PutFact (reverse s.records) h.history s.views.me s.views.view g (len_in (found s g).list) e → (leads s g ≡ true → ⊥) → (from ≡ s.views.me → ⊥) → (b : Bool) → Full s → At (told_if h g stable b) Every NoGroup (entry_next f s from g stable e b)
    unfolding entry_next
    at_next_if fact follows foreign false a = a
    at_next_if fact follows foreign true a = at_next fact follows foreign a

    at_elsewhere : (b : Bool) → Full s → Told (entry_elsewhere s from g stable b)
    unfolding entry_elsewhere holds row_of sent send_on
    at_elsewhere true a = at_told h Every NoGroup (sent s from (body.Ack s.views.view g (len_of s g))) g stable le held (at_calm h Every NoGroup s _ (calm_sent s from (body.Ack s.views.view g (len_of s g))) a)
    at_elsewhere false a = by (holds s g) refl
      where
        bare : (l : Option GroupView) → is_some l ≡ false → stable ≤ len_in l → stable ≤ start_in l
        bare None e k = k
        bare (Some l) e k = absurd (cc)

        lacks : holds s g ≡ false → stable ≤ start_in (found s g).list
        lacks e = bare (found s g).list e le

        by : (b : Bool) → holds s g ≡ b → Told (elim b as (λ _. Core) [ true ↦ forget_below s g stable | false ↦ s ])
        by true e = at_told h Every NoGroup s g stable le held a
        by false e = at_told_less h Every NoGroup s g stable (lacks e) a

    pub at_entry : (place : ℕ) → ((place == len_of s g) ≡ true → PutFact (reverse s.records) h.history s.views.me s.views.view g (len_in (found s g).list) e) → ((place == len_of s g) ≡ true → leads s g ≡ true → ⊥) → ((place == len_of s g) ≡ true → from ≡ s.views.me → ⊥) → Full s → At (told_if h g stable (is_taken s g place e)) Every NoGroup (take_entry f s from g place stable e)
    unfolding take_entry
    at_entry place fact follows foreign a = by (place == len_of s g) refl
      where
        by : (b : Bool) → (place == len_of s g) ≡ b → At (told_if h g stable (elim b as (λ _. Bool) [ true ↦ fits_at_end s g e | false ↦ true ])) Every NoGroup (elim b as (λ _. Core) [ true ↦ entry_next f s from g stable e (fits_at_end s g e) | false ↦ entry_elsewhere s from g stable (nat_lt place (len_of s g)) ])
        by true q = at_next_if (fact q) (follows q) (foreign q) (fits_at_end s g e) a
        by false q = at_elsewhere (nat_lt place (len_of s g)) a

  at_acked : (s : Core) (from : ℕ) (g : List ℕ) (n : ℕ) → leads s g ≡ true → Full s → At (record h { floors = acknowledged h.floors g from n }) Every NoGroup (acked s from g n)
  unfolding acked with_led
  at_acked s from g n led a =
      let j : Frame = record h { floors = acknowledged h.floors g from n } in
      let u : Frame = record h { floors = loosened (acknowledged h.floors g from n) g } in
      let t : Core = with_led s g (λ l. record l { acked = acked_raised from n l.acked }) in
      let b : At u Every (Only g) t = at_row_for h Every (Only g) (loosened (acknowledged h.floors g from n) g) Every s g (λ row. record row { led = record (row.led) { acked = acked_raised from n row.led.acked } }) (λ x. refl) (λ x. refl) (λ x. refl) (λ x. refl) (λ k z ne. z) (λ z. own (a.rows.tallies g z)) (row_acked h.floors (seat s) g (found s g) from n (a.rows.starts g)) (λ k ne z. loosen_beside (acknowledged h.floors g from n) (seat s) g k (found s k) ne (acked_beside h.floors (seat s) g from n k (found s k) ne z)) (only_led s g led a) in
      at_for j Every (Only g) Every NoGroup (forget_least t g) (λ k z. z) (λ k z. absurd z) (at_forgets_least j Every (Only g) t g (b.rows.led g refl) b)
    where
      own : RowIs (leads_row s (found s g)) (found s g) → RowIs (leads_row s (found s g)) (record (found s g) { led = record ((found s g).led) { acked = acked_raised from n (found s g).led.acked } })
      own (inl z) = inl z
      own (inr z) = inr z

  pub at_ack : (s : Core) (from : ℕ) (g : List ℕ) (n : ℕ) → Full s → At (acked_if h g from n (leads s g && nat_le n (len_of s g))) Every NoGroup (take_ack s from g n)
  unfolding take_ack
  at_ack s from g n a = by (leads s g) (nat_le n (len_of s g)) refl
    where
      by : (b c : Bool) → leads s g ≡ b → At (acked_if h g from n (b && c)) Every NoGroup (elim (b && c) as (λ _. Core) [ true ↦ acked s from g n | false ↦ s ])
      by true true q = at_acked s from g n q a
      by true false q = a
      by false c q = a

  -- ---- VOTE

  pub at_vote : (f : Answering) (s : Core) (g : List ℕ) (proto : ProtoId) (phase : ℕ) (p : ProviderId) (v : Vote) (value message : Option (List ℕ)) → Full s → Full (take_vote f s g proto phase p v value message)
  unfolding take_vote with_led
  at_vote f s g proto phase p v value message a = by (leads s g) (runs proto phase (state_of s g).running) refl
    where
      t : Core
      t = with_led s g (λ l. vote_cast l p v value message l.tally)

      counted : leads s g ≡ true → At h Every (Only g) t
      counted led =
          let b : At h Every (Only g) s = only_led s g led a in
          at_row h Every (Only g) s g (λ row. record row { led = vote_cast row.led p v value message row.led.tally }) (λ x. refl) (λ x. refl) (λ x. refl) (λ x. refl) (λ x. refl) (λ x m. voted_acks x.led p v value message x.led.tally m) (λ t. row_voted (leads_row s (found s g)) (found s g) p v value message (b.rows.tallies g t)) b

      by : (b c : Bool) → leads s g ≡ b → Full (elim (b && c) as (λ _. Core) [ true ↦ closes f t g | false ↦ s ])
      by true true q = all_again (closes f t g) g (at_closes h Every (Only g) f t g tt refl (counted q))
      by true false q = a
      by false c q = a

  -- ---- GONE

  at_failed : (f : Answering) (s : Core) (g : List ℕ) (p : ProviderId) (o : Option TallyView) → (found s g).led.tally ≡ o → At h Every (Only g) s → At h Every (Only g) (tally_failed f s g p o)
  unfolding tally_failed with_tally with_led
  at_failed f s g p None e a = a
  at_failed f s g p (Some t) e a =
      at_closes h Every (Only g) f (with_tally s g (Some (tally_fail p t))) g tt refl (at_row h Every (Only g) s g (λ row. record row { led = record (row.led) { tally = Some (tally_fail p t) } }) (λ x. refl) (λ x. refl) (λ x. refl) (λ x. refl) (λ x. refl) (λ x m. refl) (λ u. own (a.rows.tallies g u)) a)
    where
      own : RowIs (leads_row s (found s g)) (found s g) → RowIs (leads_row s (found s g)) (record (found s g) { led = record ((found s g).led) { tally = Some (tally_fail p t) } })
      own (inl none) = let z : Some t ≡ None = sym e ∙ none in absurd (cc)
      own (inr k) = inr (k.0, failed_fits p t (state_in (found s g).list) (subst (λ z. TallyFits z (state_in (found s g).list)) e k.1))

  pub at_gone : (f : Answering) (s : Core) (g : List ℕ) (p : ProviderId) → Full s → Full (take_gone f s g p)
  unfolding led_of row_of
  at_gone f s g p a =
      let t : Core = with_led s g (λ l. record l { gone = marked l.gone p }) in
      at_gone_taken Full f s g p (λ led. all_again (tally_failed f t g p (found t g).led.tally) g (at_failed f t g p (found t g).led.tally refl (at_led h Every (Only g) s g (λ l. record l { gone = marked l.gone p }) (λ l. refl) (λ l. refl) (only_led s g led a)))) (λ u k. at_waits h Every NoGroup u g (add_failure p Gone) k) (at_waits h Every NoGroup s g (drop_join p) a) a
