-- What no group sees: rings, reports, and questions.
use Rattle.std.proofs.Common.{ℕ, List, [], ◌∷◌, Option, Some, None, Bool, true, false, refl, sym, subst}
use Rattle.std.specs.Prelude.{◌==◌, not, filter, find, fold}
use Rattle.std.proofs.lemmas.List.{append-nil}
use Rattle.rsct_packet.specs.declared.mask.Mask.{Mask}
use Rattle.rsct_packet.specs.Mask.{nodes_of}
use Rattle.packet_bodies.specs.declared.body.ReportRow.{ReportRow}
use Rattle.packet_bodies.specs.declared.body.What.{What}
use Rattle.adapter_ring.specs.declared.ring.Ring.{Ring}
use Rattle.adapter_ring.specs.declared.ring.RingSet.{RingSet}
use Rattle.adapter_ring.specs.declared.packet.RingSend.{RingSend}
use Rattle.adapter_ring.specs.declared.packet.RingPacket.{RingPacket}
use Rattle.adapter_ring.specs.declared.packet.RingEvent.TheVariants as ring_event
use Rattle.adapter_ring.specs.declared.work.RingWork.{RingWork}
use Rattle.adapter_ring.specs.Rings.{ring_step}
use Rattle.node_reach.specs.declared.reach.Reach.{Reach}
use Rattle.node_reach.specs.Reach as reach
use Rattle.node_state.specs.declared.happened.Happened.TheVariants as happened
use Rattle.node_state.specs.declared.packet.Body.{Body}
use Rattle.node_state.specs.declared.packet.Body.TheVariants as body
use Rattle.node_state.specs.declared.packet.Packet.{Packet}
use Rattle.node_state.specs.declared.state.Core.{Core}
use Rattle.node_state.specs.Settings.{is_rings}
use Rattle.node_state.specs.State.{row_of, recorded, recorded_all}
use Rattle.node_state.specs.Sending.{sent, send_on, send_all}
use Rattle.node_state.specs.HandOn.{Answering}
use Rattle.node_state.specs.Ticks.{ring_put, set_records, ring_taken, ring_rule_of, ring_rule, take_report, rings_union, report_of, send_report, rings_tick, tick_rings}
use Rattle.node_state.specs.Status.{status_text}
use Rattle.node_state.specs.Step.{take_body}
use Rattle.step_refinement.specs.Ghost.{Ghost}
use Rattle.step_refinement.specs.Tied.{ShowsBody, Scene, Tied}
use Rattle.step_refinement.proofs.Works.{tied_sent_on, tied_sent, tied_unseen}

module _ (g : List ℕ) (w : Scene) (n : ℕ) where
  -- rings and reach are no group's
  rings_set : (s : Core) (rings : List Ring) → Tied g w n s → Tied g w n (record s { rings = rings })
  unfolding row_of
  rings_set s rings t = record { ghost = t.ghost; life = t.life; lines = t.lines; own = t.own; others = t.others; packets = t.packets; sound = t.sound; placed = t.placed; nobody = t.nobody; turns = t.turns }

  reach_set : (s : Core) (r : Reach) → Tied g w n s → Tied g w n (record s { reach = r })
  unfolding row_of
  reach_set s r t = record { ghost = t.ghost; life = t.life; lines = t.lines; own = t.own; others = t.others; packets = t.packets; sound = t.sound; placed = t.placed; nobody = t.nobody; turns = t.turns }

  sends_tied : (xs : List RingSend) (s : Core) → Tied g w n s → Tied g w n (fold (λ u (x : RingSend). send_on u x.network x.to (body.Ring x.packet)) s xs)
  sends_tied [] s t = t
  sends_tied (x ∷ xs) s t =
      sends_tied xs (send_on s x.network x.to (body.Ring x.packet)) (tied_sent_on g w n s t x.network x.to (body.Ring x.packet) tt)

  ring_tied : (s : Core) (x : RingWork) → Tied g w n s → Tied g w n (ring_taken s x)
  unfolding ring_taken set_records recorded_all recorded
  ring_tied s x t = by x.set
    where
      sent_now : Core
      sent_now = fold (λ u (x : RingSend). send_on u x.network x.to (body.Ring x.packet)) (record s { rings = ring_put s.rings x.ring }) x.sends

      now : Tied g w n sent_now
      now = sends_tied x.sends (record s { rings = ring_put s.rings x.ring }) (rings_set s (ring_put s.rings x.ring) t)

      by : (o : Option RingSet) → Tied g w n (recorded_all sent_now (set_records s.views.me x.ring.net o))
      by None = subst (λ z. Tied g w n (record sent_now { records = z })) (sym (append-nil sent_now.records)) now
      by (Some r) = tied_unseen g w n sent_now now (happened.Ring s.views.me x.ring.net r.id r.members r.neighbour) ((λ rs. refl), λ m o. refl)

  rings_fold : (rs : List Ring) (s : Core) → Tied g w n s → Tied g w n (fold (λ u (r : Ring). ring_taken u (ring_step r ring_event.Tick)) s rs)
  rings_fold [] s t = t
  rings_fold (r ∷ rs) s t =
      rings_fold rs (ring_taken s (ring_step r ring_event.Tick)) (ring_tied s (ring_step r ring_event.Tick) t)

  -- what shows nothing is sent to many
  all_sent : (ns : List ℕ) (s : Core) (b : Body) → ((x : Ghost) (me inc to : ℕ) → ShowsBody x g me inc to b) → Tied g w n s → Tied g w n (send_all s ns b)
  unfolding send_all
  all_sent [] s b ok t = t
  all_sent (m ∷ ns) s b ok t = all_sent ns (sent s m b) b ok (tied_sent g w n s t m b (ok t.ghost s.views.me s.views.inc m))

  report_tied : (s : Core) (m : Mask) → Tied g w n s → Tied g w n (send_report s m)
  unfolding send_report
  report_tied s m t =
      let d : Core = record s { reach = reach.set_own s.reach m } in
      all_sent (filter (λ k. not (k == s.views.me)) (nodes_of m)) d (body.Report (report_of d.reach)) (λ x me inc to. tt) (reach_set s (reach.set_own s.reach m) t)

-- the tick, part (1)
pub rings_part_tied : (g : List ℕ) (w : Scene) (n : ℕ) (s : Core) → Tied g w n s → Tied g w n (tick_rings s)
unfolding tick_rings rings_tick
rings_part_tied g w n s t = by (is_rings s.config.mode)
  where
    ticked : Core
    ticked = fold (λ u (r : Ring). ring_taken u (ring_step r ring_event.Tick)) s s.rings

    by : (b : Bool) → Tied g w n (elim b as (λ _. Core) [ true ↦ send_report ticked (rings_union ticked.rings) | false ↦ s ])
    by true = report_tied g w n ticked (rings_union ticked.rings) (rings_fold g w n s.rings s t)
    by false = t

pub ring_is_tied : (x : RingPacket) (g : List ℕ) (w : Scene) (n : ℕ) (f : Answering) (s : Core) (p : Packet) → Tied g w n s → Tied g w n (take_body f s p (body.Ring x))
unfolding take_body ring_rule ring_rule_of
ring_is_tied x g w n f s p t = by (find (λ (r : Ring). r.net == p.network) s.rings)
  where
    by : (o : Option Ring) → Tied g w n (ring_rule_of s p.from p.inc x o)
    by None = t
    by (Some r) = ring_tied g w n s (ring_step r (ring_event.Packet p.from p.inc x)) t

pub report_is_tied : (rows : List ReportRow) (g : List ℕ) (w : Scene) (n : ℕ) (f : Answering) (s : Core) (p : Packet) → Tied g w n s → Tied g w n (take_body f s p (body.Report rows))
unfolding take_body take_report
report_is_tied rows g w n f s p t = reach_set g w n s (take_report s rows).reach t

-- questions and answers
pub query_is_tied : (question : ℕ) (what : What) (g : List ℕ) (w : Scene) (n : ℕ) (f : Answering) (s : Core) (p : Packet) → Tied g w n s → Tied g w n (take_body f s p (body.Query question what))
unfolding take_body
query_is_tied question what g w n f s p t =
    tied_sent_on g w n s t p.network p.from (body.Reply question (status_text s what)) tt

pub reply_is_tied : (question : ℕ) (text : List ℕ) (g : List ℕ) (w : Scene) (n : ℕ) (f : Answering) (s : Core) (p : Packet) → Tied g w n s → Tied g w n (take_body f s p (body.Reply question text))
unfolding take_body
reply_is_tied question text g w n f s p t = t
