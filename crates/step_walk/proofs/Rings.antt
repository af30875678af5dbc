-- The rules of rings keep what is kept as a ring is set, and by what it sends and what is recorded of it.
use Rattle.std.proofs.Common.{append-nil, ℕ, Option, Some, None, sym, subst}
use Rattle.std.specs.Prelude.{not, ◌==◌, filter, find, fold}
use Rattle.rsct_packet.specs.Mask.{nodes_of}
use Rattle.adapter_ring.specs.declared.ring.Ring.{Ring}
use Rattle.adapter_ring.specs.declared.ring.RingSet.{RingSet}
use Rattle.adapter_ring.specs.declared.packet.RingPacket.{RingPacket}
use Rattle.adapter_ring.specs.declared.packet.RingSend.{RingSend}
use Rattle.adapter_ring.specs.declared.packet.RingEvent.TheVariants as ring_event
use Rattle.adapter_ring.specs.declared.work.RingWork.{RingWork}
use Rattle.adapter_ring.specs.Rings.{ring_step}
use Rattle.node_reach.specs.Reach as reach
use Rattle.node_state.specs.declared.packet.Body.TheVariants as body
use Rattle.node_state.specs.declared.packet.Packet.{Packet}
use Rattle.node_state.specs.declared.state.Core.{Core}
use Rattle.node_state.specs.Settings.{is_rings}
use Rattle.node_state.specs.Sending.{send_on}
use Rattle.node_state.specs.Ticks.{ring_put, set_records, ring_taken, ring_rule_of, ring_rule, rings_union, report_of, send_report, rings_tick, tick_rings}
use Rattle.node_state.specs.State.{recorded, recorded_all}
use Rattle.node_reach.specs.declared.reach.Reach.{Reach}
use Rattle.step_walk.proofs.Changes.{Any, KeepsRing}
use Rattle.step_walk.proofs.Evidence.{KeepsBeside}
use Rattle.step_walk.proofs.Asides.{at_either, at_fold, at_sent_all}
use Rattle.step_walk.proofs.Stepping.{KeepsRinging}

module _ (P : Core → Type 0) (Given : Core → Packet → Type 0) (k : KeepsBeside P Any) (reaches : (s : Core) (x : Reach) → P s → P (record s { reach = x })) (ring : KeepsRing P) where
  at_set : {s : Core} (n network : ℕ) (o : Option RingSet) → P s → P (recorded_all s (set_records n network o))
  unfolding recorded recorded_all set_records
  at_set {s} n network None p = subst (λ z. P (record s { records = z })) (sym (append-nil s.records)) p
  at_set {s} n network (Some x) p = ring.records s n network x.id x.members x.neighbour p

  at_taken : {s : Core} (x : RingWork) → P s → P (ring_taken s x)
  unfolding ring_taken
  at_taken {s} x p =
      let d : Core = record s { rings = ring_put s.rings x.ring } in
      let e : Core = fold (λ u (y : RingSend). send_on u y.network y.to (body.Ring y.packet)) d x.sends in
      at_set s.views.me x.ring.net x.set (at_fold P (λ u (y : RingSend). send_on u y.network y.to (body.Ring y.packet)) (λ u y q. ring.sends u y.network y.to y.packet q) x.sends (ring.rings s (ring_put s.rings x.ring) p))

  at_ring : {s : Core} (network from inc : ℕ) (x : RingPacket) → P s → P (ring_rule s network from inc x)
  unfolding ring_rule ring_rule_of
  at_ring {s} network from inc x p = by (find (λ (r : Ring). r.net == network) s.rings)
    where
      by : (o : Option Ring) → P (ring_rule_of s from inc x o)
      by None = p
      by (Some r) = at_taken (ring_step r (ring_event.Packet from inc x)) p

  at_rings : {s : Core} → P s → P (tick_rings s)
  unfolding tick_rings rings_tick send_report
  at_rings {s} p =
      let t : Core = fold (λ u (r : Ring). ring_taken u (ring_step r ring_event.Tick)) s s.rings in
      let d : Core = record t { reach = reach.set_own t.reach (rings_union t.rings) } in
      at_either P (is_rings s.config.mode) (at_sent_all P Any k (filter (λ n. not (n == t.views.me)) (nodes_of (rings_union t.rings))) (body.Report (report_of d.reach)) (λ u. tt) (reaches t (reach.set_own t.reach (rings_union t.rings)) (at_fold P (λ u (r : Ring). ring_taken u (ring_step r ring_event.Tick)) (λ u r q. at_taken (ring_step r ring_event.Tick) q) s.rings p))) p

  pub by_rings : KeepsRinging P Given
  by_rings = record { ticks = λ s p. at_rings p; takes = λ s q x given to is p. at_ring q.network q.from q.inc x p }
