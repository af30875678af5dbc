-- What the parts of a tick send.
use Rattle.std.proofs.Common.{◌≡◌, ◌≤◌, ℕ, ◌+◌, ◌*◌, ◌-◌, List, [], ◌∷◌, length, filter, fold, take, drop, Some, None, Option, Bool, true, false, refl, subst, arith}
use Rattle.std.specs.Prelude.{not, ◌&&◌, ◌==◌, find}
use Rattle.std.proofs.lemmas.List.{length-take}
use Rattle.rsct_packet.specs.declared.mask.Mask.{Mask}
use Rattle.rsct_packet.specs.Mask.{nodes_of}
use Rattle.proposal_core.specs.declared.entry.Entry.{Entry}
use Rattle.proposal_core.specs.declared.entry.Entry.TheVariants.{Late}
use Rattle.proposal_core.specs.declared.group_state.Running.{Running}
use Rattle.proposal_core.specs.GroupView.{GroupView}
use Rattle.proposal_core.specs.Fold.{runs}
use Rattle.adapter_ring.specs.declared.ring.Ring.{Ring}
use Rattle.adapter_ring.specs.declared.ring.RingSet.{RingSet}
use Rattle.adapter_ring.specs.declared.packet.RingSend.{RingSend}
use Rattle.adapter_ring.specs.declared.packet.RingPacket.{RingPacket}
use Rattle.adapter_ring.specs.declared.packet.RingEvent.TheVariants as ring_event
use Rattle.adapter_ring.specs.declared.work.RingWork.{RingWork}
use Rattle.adapter_ring.specs.Rings.{ring_step}
use Rattle.node_reach.specs.declared.reach.Reach.{Reach}
use Rattle.node_reach.specs.Reach as reach
use Rattle.packet_bodies.specs.declared.body.ReportRow.{ReportRow}
use Rattle.vote_phases.specs.Tally.{TallyView, expires, open_voters}
use Rattle.session_state.specs.declared.state.KeptBallot.{KeptBallot}
use Rattle.node_state.specs.declared.packet.Body.{Body}
use Rattle.node_state.specs.declared.packet.Body.TheVariants as body
use Rattle.node_state.specs.declared.state.Core.{Core}
use Rattle.node_state.specs.Settings.{is_rings}
use Rattle.node_state.specs.State.{row_of, led_of, list_of, state_of, frozen, led_groups, others, acked_by, least_acked, recorded_all}
use Rattle.node_state.specs.Sending.{sent, send_on, send_all, send_request, send_requests, kept_sent_if, kept_sent_again, send_votes_again}
use Rattle.node_state.specs.HandOn.{Answering}
use Rattle.node_state.specs.Leading.{with_tally, closes}
use Rattle.node_state.specs.Ticks.{ring_put, set_records, ring_taken, ring_rule_of, ring_rule, row_reported, take_report, rings_union, report_of, send_report, rings_tick, tick_rings, late_appended, announced, ticked_in, tally_ticks, entries_sent, list_sent_again, sent_again, tick_group, tick_led}
use Rattle.send_laws.specs.Bound.{puts_of, Stands}
use Rattle.send_laws.proofs.Counts.{kept_few}
use Rattle.send_laws.proofs.Parts.{Goes, times, times_each, goes_same, goes_then, goes_more, then_free, free_then, goes_fold, fold_each, goes_sent, goes_sent_on, goes_sent_all, goes_recorded_all}
use Rattle.send_laws.proofs.Leads.{others_few, goes_appended_if, goes_with_tally, goes_closes}
use Rattle.send_laws.proofs.Rules.{nothing_of, goes_request_sent}
use Rattle.send_laws.proofs.Calls.{goes_kept_sent}
use Rattle.send_laws.proofs.RingSends.{nodes_few, ring_tick_few, ring_packet_few}

-- ---- rings and reach

goes_rings : (s : Core) (rs : List Ring) → length rs ≤ length s.rings → Stands s → Goes 0 s (record s { rings = rs })
unfolding state_of list_of row_of
goes_rings s rs few k =
    record {
      within = omega arith;
      stands = record { few = k.few; order = k.order; room = k.room };
      views = refl;
      config = refl;
      lasts = λ h. record { rings = omega (arith, few, h.rings); waits = h.waits; views = h.views; sent = h.sent };
    }

put_long : (rs : List Ring) (r : Ring) → length (ring_put rs r) ≤ length rs
unfolding ring_put
put_long [] r = omega arith
put_long (x ∷ xs) r = by (x.net == r.net) (put_long xs r)
  where
    by : (b : Bool) → length (ring_put xs r) ≤ length xs → length (elim b as (λ _. List Ring) [ true ↦ r ∷ xs | false ↦ x ∷ ring_put xs r ]) ≤ length (x ∷ xs)
    by true h = omega arith
    by false h = omega (arith, h)

goes_reach : (s : Core) (r : Reach) → Stands s → Goes 0 s (record s { reach = r })
unfolding state_of list_of row_of
goes_reach s r k =
    record {
      within = omega arith;
      stands = record { few = k.few; order = k.order; room = k.room };
      views = refl;
      config = refl;
      lasts = λ h. record { rings = h.rings; waits = h.waits; views = h.views; sent = h.sent };
    }

no_put_set : (n network : ℕ) (o : Option RingSet) → puts_of (set_records n network o) ≡ 0
unfolding set_records
no_put_set n network None = refl
no_put_set n network (Some x) = refl

goes_ring_taken : (c : ℕ) (s : Core) (w : RingWork) → length w.sends ≤ c → Stands s → Goes c s (ring_taken s w)
unfolding ring_taken
goes_ring_taken c s w few k =
    let r : Core = record s { rings = ring_put s.rings w.ring } in
    let gr : Goes 0 s r = goes_rings s (ring_put s.rings w.ring) (put_long s.rings w.ring) k in
    let f : Core → RingSend → Core = λ u (x : RingSend). send_on u x.network x.to (body.Ring x.packet) in
    let t : Core = fold f r w.sends in
    let gt : Goes (length w.sends) r t = fold_each f (λ u x h. goes_sent_on u x.network x.to (body.Ring x.packet) tt h) w.sends r gr.stands in
    let z : Core = recorded_all t (set_records s.views.me w.ring.net w.set) in
    let gz : Goes 0 t z = goes_recorded_all t (set_records s.views.me w.ring.net w.set) (no_put_set s.views.me w.ring.net w.set) gt.stands in
    goes_more (length w.sends) c s z few (free_then (length w.sends) s r z gr (then_free (length w.sends) r t z gt gz))

-- a packet of a ring
pub goes_ring_rule : (s : Core) (network from inc : ℕ) (p : RingPacket) → Stands s → Goes 64 s (ring_rule s network from inc p)
unfolding ring_rule ring_rule_of
goes_ring_rule s network from inc p k = by (find (λ (r : Ring). r.net == network) s.rings)
  where
    by : (o : Option Ring) → Goes 64 s (ring_rule_of s from inc p o)
    by None = nothing_of 64 s k
    by (Some r) = goes_ring_taken 64 s (ring_step r (ring_event.Packet from inc p)) (ring_packet_few r from inc p) k

pub goes_report : (s : Core) (rows : List ReportRow) → Stands s → Goes 0 s (take_report s rows)
unfolding take_report
goes_report s rows k = goes_reach s (fold row_reported s.reach rows) k

goes_report_sent : (s : Core) (m : Mask) → Stands s → Goes 32 s (send_report s m)
unfolding send_report
goes_report_sent s m k =
    let t : Core = record s { reach = reach.set_own s.reach m } in
    let a : Goes 0 s t = goes_reach s (reach.set_own s.reach m) k in
    let ns : List ℕ = filter (λ n. not (n == s.views.me)) (nodes_of m) in
    let b : Body = body.Report (report_of t.reach) in
    let few : length ns ≤ 32 = omega (arith, kept_few (λ n. not (n == s.views.me)) (nodes_of m), nodes_few m) in
    goes_more (length ns) 32 s (send_all t ns b) few (free_then (length ns) s t (send_all t ns b) a (goes_sent_all ns t b tt a.stands))

-- (1) of at most four rings
pub goes_rings_part : (s : Core) → length s.rings ≤ 4 → Stands s → Goes 420 s (tick_rings s)
unfolding tick_rings rings_tick
goes_rings_part s four k = by (is_rings s.config.mode)
  where
    f : Core → Ring → Core
    f u r = ring_taken u (ring_step r ring_event.Tick)

    t : Core
    t = fold f s s.rings

    gt : Goes (times 97 s.rings) s t
    gt = goes_fold 97 f (λ u r h. goes_ring_taken 97 u (ring_step r ring_event.Tick) (ring_tick_few r) h) s.rings s k

    by : (b : Bool) → Goes 420 s (elim b [ true ↦ send_report t (rings_union t.rings) | false ↦ s ])
    by true =
        goes_more (times 97 s.rings + 32) 420 s (send_report t (rings_union t.rings)) (omega (arith, times_each 97 s.rings, four)) (goes_then (times 97 s.rings) 32 s t (send_report t (rings_union t.rings)) gt (goes_report_sent t (rings_union t.rings) gt.stands))
    by false = nothing_of 420 s k

-- ---- what is owed

pub goes_requests_sent : (s : Core) → Stands s → Goes (length s.sessions.requests) s (send_requests s)
unfolding send_requests
goes_requests_sent s k = fold_each send_request goes_request_sent s.sessions.requests s k

goes_kept_again : (s : Core) (x : KeptBallot) → Stands s → Goes 1 s (kept_sent_again s x)
unfolding kept_sent_again kept_sent_if
goes_kept_again s x k = by (runs x.proto x.phase (state_of s x.group).running)
  where
    by : (b : Bool) → Goes 1 s (kept_sent_if s x b)
    by false = nothing_of 1 s k
    by true = goes_kept_sent s x k

pub goes_votes_again : (s : Core) → Stands s → Goes (length s.sessions.kept) s (send_votes_again s)
unfolding send_votes_again
goes_votes_again s k = fold_each kept_sent_again goes_kept_again s.sessions.kept s k

-- ---- what is led

goes_late : (f : Answering) (s : Core) (g : List ℕ) (t : TallyView) (o : Option Running) → Stands s → Goes 0 s (late_appended f s g t o)
unfolding late_appended
goes_late f s g t None k = goes_same s k
goes_late f s g t (Some run) k = goes_appended_if f s g (Late run.proto run.phase (open_voters t)) k

goes_announced : (f : Answering) (s : Core) (g : List ℕ) (t : TallyView) (b : Bool) → Stands s → Goes 0 s (announced f s g t b)
unfolding announced
goes_announced f s g t false k = goes_same s k
goes_announced f s g t true k = goes_late f s g t (state_of s g).running k

pub goes_tally_ticks : (f : Answering) (s : Core) (g : List ℕ) (o : Option TallyView) → Stands s → Goes 0 s (tally_ticks f s g o)
unfolding tally_ticks
goes_tally_ticks f s g None k = goes_same s k
goes_tally_ticks f s g (Some t) k =
    let u : Core = announced f s g t (s.sessions.level == 2 && expires t) in
    let gu : Goes 0 s u = goes_announced f s g t (s.sessions.level == 2 && expires t) k in
    let v : Core = with_tally u g (ticked_in (led_of u g).tally) in
    let gv : Goes 0 u v = goes_with_tally u g (ticked_in (led_of u g).tally) gu.stands in
    then_free 0 s u (closes f v g) gu (then_free 0 u v (closes f v g) gv (goes_closes f v g gv.stands))

goes_entries : (to : ℕ) (g : List ℕ) (i stable : ℕ) (es : List Entry) (s : Core) → Stands s → Goes (length es) s (entries_sent to g i stable es s)
unfolding entries_sent
goes_entries to g i stable [] s k = goes_same s k
goes_entries to g i stable (e ∷ es) s k =
    let t : Core = sent s to (body.Entry s.views.view g i stable e) in
    let a : Goes 1 s t = goes_sent s to (body.Entry s.views.view g i stable e) tt k in
    let b : Goes (length es) t (entries_sent to g (i + 1) stable es t) = goes_entries to g (i + 1) stable es t a.stands in
    goes_more (1 + length es) (length (e ∷ es)) s (entries_sent to g (i + 1) stable es t) (omega arith) (goes_then 1 (length es) s t (entries_sent to g (i + 1) stable es t) a b)

goes_list_again : (s : Core) (g : List ℕ) (n first : ℕ) (o : Option GroupView) → Stands s → Goes 16 s (list_sent_again s g n first o)
unfolding list_sent_again
goes_list_again s g n first None k = nothing_of 16 s k
goes_list_again s g n first (Some l) k =
    let es : List Entry = take 16 (drop (first - l.start) l.entries) in
    goes_more (length es) 16 s (entries_sent n g first (least_acked s g) es s) (omega (arith, length-take 16 (drop (first - l.start) l.entries))) (goes_entries n g first (least_acked s g) es s k)

pub goes_group_ticks : (f : Answering) (s : Core) (g : List ℕ) → Stands s → Goes 512 s (tick_group f s g)
unfolding tick_group sent_again
goes_group_ticks f s g k =
    let t : Core = tally_ticks f s g (led_of s g).tally in
    let a : Goes 0 s t = goes_tally_ticks f s g (led_of s g).tally k in
    let u : Core = fold (sent_again g) t (others t) in
    let b : Goes (times 16 (others t)) t u = goes_fold 16 (sent_again g) (λ x n h. goes_list_again x g n (acked_by x (row_of x g) n) (row_of x g).list h) (others t) t a.stands in
    goes_more (times 16 (others t)) 512 s u (omega (arith, times_each 16 (others t), others_few t a.stands)) (free_then (times 16 (others t)) s t u a b)

-- (5) of each led group up to 16 entries again to each other member
pub goes_led_part : (f : Answering) (s : Core) → Stands s → Goes (512 * length (led_groups s)) s (tick_led f s)
unfolding tick_led
goes_led_part f s k = by (frozen s)
  where
    by : (b : Bool) → Goes (512 * length (led_groups s)) s (elim b [ true ↦ s | false ↦ fold (tick_group f) s (led_groups s) ])
    by true = nothing_of (512 * length (led_groups s)) s k
    by false =
        subst (λ c. Goes c s (fold (tick_group f) s (led_groups s))) (times_each 512 (led_groups s)) (goes_fold 512 (tick_group f) (goes_group_ticks f) (led_groups s) s k)
