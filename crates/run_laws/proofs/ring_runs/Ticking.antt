-- The rules of rings: a tick, and a packet of a ring, happen to the network.
use Rattle.std.proofs.Common.{◌≡◌, ◌≢◌, ℕ, List, [], ◌∷◌, ◌++◌, Option, Some, None, Bool, true, false, refl, sym, ap, ◌∙◌, subst, inl, inr, ⊎_elim}
use Rattle.std.specs.Prelude.{◌==◌, not, filter, fold, find, slice_get}
use Rattle.std.proofs.lemmas.Bool.{cases_eq, eqb-true}
use Rattle.rsct_packet.specs.declared.mask.Mask.{Mask}
use Rattle.rsct_packet.specs.Mask.{nodes_of}
use Rattle.rsct_packet.specs.Search.{Has}
use Rattle.rsct_packet.proofs.HasLaws.{append_has_right, find_has, has_get}
use Rattle.adapter_ring.specs.declared.packet.RingPacket.{RingPacket}
use Rattle.adapter_ring.specs.declared.packet.RingSend.{RingSend}
use Rattle.adapter_ring.specs.declared.packet.RingEvent.TheVariants as ring_event
use Rattle.adapter_ring.specs.declared.ring.Ring.{Ring}
use Rattle.adapter_ring.specs.declared.work.RingWork.{RingWork}
use Rattle.adapter_ring.specs.Rings.{ring_step}
use Rattle.adapter_ring.specs.Network.{Ticks, Given, Sent, Network, ring_at, step_taken, stepped_in, given_in, happens}
use Rattle.node_reach.specs.Reach as reach
use Rattle.node_state.specs.declared.packet.Body.TheVariants as body
use Rattle.node_state.specs.declared.packet.Packet.{Packet}
use Rattle.node_state.specs.declared.state.Core.{Core}
use Rattle.node_state.specs.Settings.{is_rings}
use Rattle.node_state.specs.State.{recorded_all}
use Rattle.node_state.specs.Sending.{send_on}
use Rattle.node_state.specs.Ticks.{ring_put, ring_taken, ring_rule_of, ring_rule, rings_union, report_of, send_report, rings_tick, tick_rings}
use Rattle.step_refinement.specs.Tied.{Scene}
use Rattle.run_laws.specs.ring_runs.Rings.{ring_settings}
use Rattle.run_laws.proofs.ring_runs.Stepping.{own_step}
use Rattle.step_walk.proofs.Changes.{Any, KeepsRings}
use Rattle.step_walk.proofs.Leading.{on_sent_all}
use Rattle.run_laws.proofs.ring_runs.Finding.{is_on, nets_of, Differ, has_net, found_own, put_there}
use Rattle.run_laws.proofs.ring_runs.Playing.{Carried, Comes, comes_on, Played, played_rules, other_taken, this_taken}

sends_rings : (xs : List RingSend) (s : Core) → (fold (λ u (y : RingSend). send_on u y.network y.to (body.Ring y.packet)) s xs).rings ≡ s.rings
unfolding send_on
sends_rings [] s = refl
sends_rings (x ∷ xs) s = sends_rings xs (send_on s x.network x.to (body.Ring x.packet))

taken_rings : (s : Core) (x : RingWork) → (ring_taken s x).rings ≡ ring_put s.rings x.ring
unfolding ring_taken recorded_all
taken_rings s x = sends_rings x.sends (record s { rings = ring_put s.rings x.ring })

module _ (net : ℕ) (w : Scene) (n : ℕ) where
  abbrev P : Core → Type 0
  P s = Played net w n s

  abbrev ticked : Core → Ring → Core
  ticked u r = ring_taken u (ring_step r ring_event.Tick)

  -- a ring of the node ticks
  ring_ticks : (u : Core) (r : Ring) → find (is_on r.net) u.rings ≡ Some r → P u → P (ticked u r)
  unfolding happens stepped_in
  ring_ticks u r is p = ⊎_elim this other (cases_eq r.net net)
    where
      this : r.net ≡ net → P (ticked u r)
      this on =
          let here : find (is_on net) u.rings ≡ Some r = subst (λ k. find (is_on k) u.rings ≡ Some r) on is in
          let comes : Comes net (ring_settings w.config net) (stepped_in p.0 ring_event.Tick (ring_at p.0 n)) = comes_on net (ring_settings w.config net) p.0 (Ticks n) p.1 in
          (step_taken p.0 (ring_step r ring_event.Tick), subst (λ o. Comes net (ring_settings w.config net) (stepped_in p.0 ring_event.Tick o)) (sym p.2.ring ∙ here) comes, this_taken net w n p.0 u r ring_event.Tick here on p.2)

      other : r.net ≢ net → P (ticked u r)
      other off = (p.0, p.1, other_taken net w n p.0 u r ring_event.Tick (find_has (is_on r.net) u.rings r is).0 off p.2)

  -- each in turn: none takes the place of another
  rings_tick_on : (rs : List Ring) (u : Core) → Differ (nets_of rs) → ((r : Ring) → Has r rs → find (is_on r.net) u.rings ≡ Some r) → P u → P (fold ticked u rs)
  rings_tick_on [] u apart is p = p
  rings_tick_on (r ∷ rs) u apart is p = rings_tick_on rs (ticked u r) apart.1 later (ring_ticks u r (is r (inl refl)) p)
    where
      later : (q : Ring) → Has q rs → find (is_on q.net) (ticked u r).rings ≡ Some q
      later q h =
          let own = own_step r ring_event.Tick in
          let ne : (ring_step r ring_event.Tick).ring.net ≢ q.net = λ e. apart.0 (subst (λ k. Has k (nets_of rs)) (sym e ∙ own.net_is) (has_net q rs h)) in
          ap (find (is_on q.net)) (taken_rings u (ring_step r ring_event.Tick)) ∙ put_there q.net u.rings (ring_step r ring_event.Tick).ring ne ∙ is q (inr h)

  reported : (s : Core) (m : Mask) → P s → P (send_report s m)
  unfolding send_report
  reported s m p =
      let t : Core = record s { reach = reach.set_own s.reach m } in
      on_sent_all (Played net w n) Any (played_rules net w n).keeps (filter (λ n. not (n == s.views.me)) (nodes_of m)) (body.Report (report_of t.reach)) (λ u. tt) ((played_rules net w n).reach s (reach.set_own s.reach m) p)

  rings_part_played : (s : Core) → Played net w n s → Played net w n (tick_rings s)
  unfolding tick_rings rings_tick
  rings_part_played s p = by (is_rings s.config.mode)
    where
      t : Core
      t = fold ticked s s.rings

      by : (b : Bool) → P (elim b as (λ _. Core) [ true ↦ send_report t (rings_union t.rings) | false ↦ s ])
      by true = reported t (rings_union t.rings) (rings_tick_on s.rings s p.2.own.apart (λ r h. found_own s.rings r p.2.own.apart h) p)
      by false = p

  -- a packet that was sent is given to the ring of its network
  ring_row_played : (s : Core) (p : Packet) (x : RingPacket) → Has p w.sent → p.to ≡ s.views.me → p.body ≡ body.Ring x → Played net w n s → Played net w n (ring_rule s p.network p.from p.inc x)
  unfolding ring_rule ring_rule_of happens given_in stepped_in
  ring_row_played s p x sent to is h = by (find (is_on p.network) s.rings) refl
    where
      v : Network
      v = h.0

      by : (o : Option Ring) → find (is_on p.network) s.rings ≡ o → P (ring_rule_of s p.from p.inc x o)
      by None e = h
      by (Some r) e = ⊎_elim this other (cases_eq r.net net)
        where
          on_its : (Has r s.rings) × (r.net ≡ p.network)
          on_its = let f = find_has (is_on p.network) s.rings r e in (f.0, eqb-true r.net p.network f.1)

          other : r.net ≢ net → P (ring_taken s (ring_step r (ring_event.Packet p.from p.inc x)))
          other off = (v, h.1, other_taken net w n v s r (ring_event.Packet p.from p.inc x) on_its.0 off h.2)

          this : r.net ≡ net → P (ring_taken s (ring_step r (ring_event.Packet p.from p.inc x)))
          this on =
              let here : find (is_on net) s.rings ≡ Some r = subst (λ k. find (is_on k) s.rings ≡ Some r) (sym on_its.1 ∙ on) e in
              let y : Sent = record { from = p.from; inc = p.inc; to = p.to; packet = x } in
              let carried : Carried net v p (body.Ring x) = subst (Carried net v p) is (h.2.sends p (was p sent)) in
              let got = has_get y v.sent (carried (sym on_its.1 ∙ on)) in
              let comes : Comes net (ring_settings w.config net) (given_in v (slice_get v.sent got.0)) = comes_on net (ring_settings w.config net) v (Given got.0) h.1 in
              let given : Comes net (ring_settings w.config net) (stepped_in v (ring_event.Packet p.from p.inc x) (ring_at v p.to)) = subst (λ o. Comes net (ring_settings w.config net) (given_in v o)) got.2 comes in
              let ring : ring_at v p.to ≡ Some r = ap (ring_at v) (to ∙ h.2.own.me) ∙ sym h.2.ring ∙ here in
              (step_taken v (ring_step r (ring_event.Packet p.from p.inc x)), subst (λ o. Comes net (ring_settings w.config net) (stepped_in v (ring_event.Packet p.from p.inc x) o)) ring given, this_taken net w n v s r (ring_event.Packet p.from p.inc x) here on h.2)
            where
              was : (q : Packet) → Has q w.sent → Has q (s.sends ++ w.sent)
              was q i = append_has_right q s.sends w.sent i

  pub played_rings : KeepsRings (Played net w n) (λ p. Has p w.sent)
  played_rings = record { ticks = rings_part_played; takes = ring_row_played }
