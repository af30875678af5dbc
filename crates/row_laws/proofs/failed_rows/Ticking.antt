-- A tick.
use Rattle.std.proofs.Common.{◌⊎◌, ◌≡◌, ℕ, ◌+◌, ◌-◌, List, [], ◌∷◌, ◌++◌, take, drop, Option, Some, None, Bool, true, false, refl, sym, ap, ◌∙◌, subst, inl, inr}
use Rattle.std.specs.Prelude.{◌==◌, ◌&&◌, not, filter, fold, find, reverse, is_none, is_some}
use Rattle.std.specs.List.{list_any}
use Rattle.std.proofs.lemmas.Bool.{eqb-true, and_parts}
use Rattle.rsct_packet.specs.declared.ids.ProviderId.{ProviderId}
use Rattle.rsct_packet.specs.declared.mask.Mask.{Mask}
use Rattle.rsct_packet.specs.Mask.{nodes_of}
use Rattle.rsct_packet.specs.Providers.{among, same_provider}
use Rattle.rsct_packet.specs.Search.{Has}
use Rattle.rsct_packet.proofs.HasLaws.{has_filter, find_none}
use Rattle.node_state.proofs.NameOrder.{found_itself}
use Rattle.proposal_core.specs.declared.entry.Entry.{Entry}
use Rattle.proposal_core.specs.declared.group_state.GroupState.{GroupState}
use Rattle.proposal_core.specs.declared.group_state.Running.{Running}
use Rattle.proposal_core.specs.Fold.{present}
use Rattle.proposal_core.specs.GroupView.{GroupView}
use Rattle.proposal_core.specs.Lists.{state_in}
use Rattle.adapter_ring.specs.declared.ring.Ring.{Ring}
use Rattle.adapter_ring.specs.declared.ring.RingSet.{RingSet}
use Rattle.adapter_ring.specs.declared.packet.RingSend.{RingSend}
use Rattle.adapter_ring.specs.declared.packet.RingPacket.{RingPacket}
use Rattle.adapter_ring.specs.declared.packet.RingEvent.TheVariants as ring_event
use Rattle.adapter_ring.specs.declared.work.RingWork.{RingWork}
use Rattle.adapter_ring.specs.Rings.{ring_step}
use Rattle.node_reach.specs.declared.reach.Reach.{Reach}
use Rattle.node_reach.specs.Reach as reach
use Rattle.packet_bodies.specs.declared.body.ReportRow.{ReportRow}
use Rattle.vote_phases.specs.Tally.{TallyView, expires, open_voters}
use Rattle.session_state.specs.State.{is_provider, provider_of}
use Rattle.view_state.specs.Views.{views_at_work, gathering_ticks, install_again}
use Rattle.node_state.specs.declared.group.GroupRow.{GroupRow}
use Rattle.node_state.specs.declared.happened.Happened.{Happened}
use Rattle.node_state.specs.declared.packet.Body.TheVariants as body
use Rattle.node_state.specs.declared.state.Core.{Core}
use Rattle.node_state.specs.Settings.{is_rings}
use Rattle.node_state.specs.State.{row_found, row_of, led_of, state_of, held_rows, frozen, leader_of, led_groups, others, acked_by, least_acked, with_led, has_name}
use Rattle.node_state.specs.Sending.{sent, send_on, send_if_known, send_requests, send_votes_again}
use Rattle.node_state.specs.HandOn.{Answering}
use Rattle.node_state.specs.Leading.{with_tally}
use Rattle.node_state.specs.Applying.{own_parts, views_taken}
use Rattle.node_state.specs.Ticks.{ring_put, set_records, ring_taken, ring_rule_of, ring_rule, row_reported, take_report, rings_union, report_of, send_report, rings_tick, tick_rings, ring_ask, tick_views, is_lost, lost_told, tick_owed, late_appended, announced, ticked_in, tally_ticks, entries_sent, list_sent_again, sent_again, tick_group, tick_led}
use Rattle.run_safety.specs.Past.{History, records_of}
use Rattle.run_safety.specs.Stays.{stays, asks_join}
use Rattle.step_refinement.proofs.SessionLaws.{provider_self}
use Rattle.row_laws.proofs.hearing.Handing.{has_among}
use Rattle.row_laws.proofs.honest_votes.At.{found, leads_row}
use Rattle.row_laws.proofs.honest_votes.Changes.{Every, NoGroup}
use Rattle.row_laws.specs.failed_rows.Failures.{GoneCause, StoodThere, IsOver}
use Rattle.row_laws.proofs.hearing.InView.{stay_ticks, stay_reminds}
use Rattle.row_laws.proofs.failed_rows.Facts.{TallyFails, TallyIs, Quiet, Lives}
use Rattle.row_laws.proofs.failed_rows.Origin.{Origin}
use Rattle.row_laws.proofs.failed_rows.At.{At, at_fold, at_sent, at_sent_on, at_recorded_all, at_row_for}
use Rattle.row_laws.proofs.failed_rows.Tallies.{ticked_fails}
use Rattle.row_laws.proofs.failed_rows.Sends.{at_sent_all, at_requests_sent, at_votes_again}
use Rattle.row_laws.proofs.failed_rows.Leading.{at_closes, at_announces}
use Rattle.row_laws.proofs.failed_rows.Ending.{at_led_groups}
use Rattle.row_laws.proofs.failed_rows.Entering.{at_views_taken}

ticked : (gone : ProviderId → Type 0) (led : Bool) (t : Option TallyView) (st : GroupState) → TallyIs gone led t st → TallyIs gone led (ticked_in t) st
ticked gone led t st (inl e) = inl (ap ticked_in e)
ticked gone led t st (inr k) = inr (k.0, by t k.1)
  where
    by : (o : Option TallyView) → TallyFails gone st o → TallyFails gone st (ticked_in o)
    by None z = tt
    by (Some t) z = ticked_fails gone st t z

module _ (h : History) (said : ProviderId → Type 0) (origin : Origin) (P L M : Type 0) (live : L) where
  abbrev Full : Core → Type 0
  Full s = At h said origin P L M Every NoGroup Every s

  -- ---- rings and reach

  at_rings : (s : Core) (rs : List Ring) → Full s → Full (record s { rings = rs })
  at_rings s rs a = record { inc = a.inc; counted = a.counted; own = a.own; slim = a.slim; sends = a.sends; puts = a.puts; accepted = a.accepted; whose = a.whose; order = a.order; tracks = a.tracks; marks = a.marks; tallies = a.tallies; queues = a.queues; apart = a.apart; led = a.led; whys = a.whys; takers = a.takers }

  at_reach : (s : Core) (r : Reach) → Full s → Full (record s { reach = r })
  at_reach s r a = record { inc = a.inc; counted = a.counted; own = a.own; slim = a.slim; sends = a.sends; puts = a.puts; accepted = a.accepted; whose = a.whose; order = a.order; tracks = a.tracks; marks = a.marks; tallies = a.tallies; queues = a.queues; apart = a.apart; led = a.led; whys = a.whys; takers = a.takers }

  set_quiet : (n network : ℕ) (o : Option RingSet) (r : Happened) → Has r (set_records n network o) → Quiet r
  unfolding set_records
  set_quiet n network None r i = absurd i
  set_quiet n network (Some x) r (inl e) = subst Quiet (sym e) tt
  set_quiet n network (Some x) r (inr z) = absurd z

  at_ring_taken : (s : Core) (w : RingWork) → Full s → Full (ring_taken s w)
  unfolding ring_taken
  at_ring_taken s w a =
      let t : Core = fold (λ u (x : RingSend). send_on u x.network x.to (body.Ring x.packet)) (record s { rings = ring_put s.rings w.ring }) w.sends in
      at_recorded_all h said origin P L M Every NoGroup Every (set_records s.views.me w.ring.net w.set) t (set_quiet s.views.me w.ring.net w.set) (at_fold h said origin P L M Every NoGroup Every (λ u (x : RingSend). send_on u x.network x.to (body.Ring x.packet)) w.sends (λ u x i k. at_sent_on h said origin P L M Every NoGroup Every u x.network x.to (body.Ring x.packet) tt k) (record s { rings = ring_put s.rings w.ring }) (at_rings s (ring_put s.rings w.ring) a))

  pub at_ring_rule : (s : Core) (network from inc : ℕ) (x : RingPacket) → Full s → Full (ring_rule s network from inc x)
  unfolding ring_rule ring_rule_of
  at_ring_rule s network from inc x a = by (find (λ (r : Ring). r.net == network) s.rings)
    where
      by : (o : Option Ring) → Full (ring_rule_of s from inc x o)
      by None = a
      by (Some r) = at_ring_taken s (ring_step r (ring_event.Packet from inc x)) a

  pub at_report : (s : Core) (rows : List ReportRow) → Full s → Full (take_report s rows)
  unfolding take_report
  at_report s rows a = at_reach s (fold row_reported s.reach rows) a

  at_report_sent : (s : Core) (m : Mask) → Full s → Full (send_report s m)
  unfolding send_report
  at_report_sent s m a =
      let t : Core = record s { reach = reach.set_own s.reach m } in
      at_sent_all h said origin P L M Every NoGroup Every (filter (λ n. not (n == s.views.me)) (nodes_of m)) t (body.Report (report_of t.reach)) tt (at_reach s (reach.set_own s.reach m) a)

  pub at_rings_part : (s : Core) → Full s → Full (tick_rings s)
  unfolding tick_rings rings_tick
  at_rings_part s a = by (is_rings s.config.mode)
    where
      t : Core
      t = fold (λ u (r : Ring). ring_taken u (ring_step r ring_event.Tick)) s s.rings

      by : (b : Bool) → Full (elim b as (λ _. Core) [ true ↦ send_report t (rings_union t.rings) | false ↦ s ])
      by true =
          at_report_sent t (rings_union t.rings) (at_fold h said origin P L M Every NoGroup Every (λ u (r : Ring). ring_taken u (ring_step r ring_event.Tick)) s.rings (λ u r i k. at_ring_taken u (ring_step r ring_event.Tick) k) s a)
      by false = a

  -- ---- views

  pub at_views_part : (f : Answering) (s : Core) → Full s → Full (tick_views f s)
  unfolding tick_views
  at_views_part f s a =
      let t : Core = views_taken f s (gathering_ticks (views_at_work s.views) (ring_ask s) (own_parts s)) in
      let j = stay_ticks (views_at_work s.views) (ring_ask s) (own_parts s) in
      let k = stay_reminds (views_at_work t.views) in
      at_views_taken h said origin P L M live f t (install_again (views_at_work t.views)) k.0 k.1 k.2 (at_views_taken h said origin P L M live f s (gathering_ticks (views_at_work s.views) (ring_ask s) (own_parts s)) j.0 j.1 j.2 a)

  -- ---- what is owed

  -- who is there, and lost at the node, stood there
  stood : (s : Core) (row : GroupRow) (p : ProviderId) → found s row.name ≡ row → p.node ≡ s.views.me → Has p (present (state_in row.list)) → IsOver (reverse s.records ++ records_of h) p → Full s → StoodThere (reverse s.records ++ records_of h) s.views.view row.name p
  stood s row p is node there over a =
      let t = a.tracks live row.name in
      record {
        newer = [];
        older = reverse s.records ++ records_of h;
        moment = refl;
        stay = t.stay;
        rest = t.older;
        stays_so = ap (λ n. stays n row.name (reverse s.records ++ records_of h)) node ∙ t.is;
        view = t.view;
        holds = ap (λ (z : GroupState). among (present z) p) (t.state ∙ ap (λ (z : GroupRow). state_in z.list) is) ∙ has_among (present (state_in row.list)) p there;
        over = over;
      }

  -- whoever is there was asked for
  abbrev KnownIn : List GroupRow → List Happened → Type 0
  KnownIn rows rs =
      (g : List ℕ) (p : ProviderId) → Has p (present (state_in (row_found g (find (has_name g) rows)).list)) → list_any (asks_join p) (reverse rs ++ records_of h) ≡ true

  abbrev Known : Core → Type 0
  Known s = KnownIn s.groups s.records

  -- so GONE has its cause
  gone_of : (s : Core) (row : GroupRow) (p : ProviderId) → Known s → found s row.name ≡ row → p.node ≡ s.views.me → p.inc ≡ s.views.inc → is_none (provider_of s.sessions p) ≡ true → Has p (present (state_in row.list)) → Full s → said p ⊎ StoodThere (reverse s.records ++ records_of h) s.views.view row.name p
  unfolding provider_of
  gone_of s row p known is node inc lost there a =
      over (a.own p node (inc ∙ a.inc) (known row.name p (subst (λ (z : GroupRow). Has p (present (state_in z.list))) (sym is) there)))
    where
      over : Lives said s.sessions (reverse s.records ++ records_of h) p → said p ⊎ StoodThere (reverse s.records ++ records_of h) s.views.view row.name p
      over (inl k) = absurd (find_none (is_provider p) s.sessions.providers k.0 lost k.1 (ap (λ z. same_provider z p) k.2 ∙ provider_self p))
      over (inr (inl k)) = inl k
      over (inr (inr k)) = inr (stood s row p is node there k a)

  at_losts : (row : GroupRow) (ps : List ProviderId) (s : Core) → Known s → found s row.name ≡ row → ((p : ProviderId) → Has p ps → (p.node ≡ s.views.me) × (p.inc ≡ s.views.inc) × (is_none (provider_of s.sessions p) ≡ true) × Has p (present (state_in row.list))) → Full s → Full (fold (λ t p. send_if_known t (leader_of t row.name) (body.Gone t.views.view row.name p)) s ps)
  unfolding send_if_known sent send_on
  at_losts row [] s known is all a = a
  at_losts row (p ∷ ps) s known is all a = by (leader_of s row.name) (at_losts row ps)
    where
      by : (o : Option ℕ) → ((s : Core) → Known s → found s row.name ≡ row → ((p : ProviderId) → Has p ps → (p.node ≡ s.views.me) × (p.inc ≡ s.views.inc) × (is_none (provider_of s.sessions p) ≡ true) × Has p (present (state_in row.list))) → Full s → Full (fold (λ t p. send_if_known t (leader_of t row.name) (body.Gone t.views.view row.name p)) s ps)) → Full (fold (λ t p. send_if_known t (leader_of t row.name) (body.Gone t.views.view row.name p)) (send_if_known s o (body.Gone s.views.view row.name p)) ps)
      by None rest = rest s known is (λ q i. all q (inr i)) a
      by (Some n) rest =
          let k = all p (inl refl) in
          rest (sent s n (body.Gone s.views.view row.name p)) known is (λ q i. all q (inr i)) (at_sent h said origin P L M Every NoGroup Every s n (body.Gone s.views.view row.name p) (gone_of s row p known is k.0 k.1 k.2 k.3 a) a)

  at_lost : (s : Core) (row : GroupRow) → Known s → found s row.name ≡ row → Full s → Full (lost_told s row)
  unfolding lost_told is_lost
  at_lost s row known is a = at_losts row (filter (is_lost s) (present (state_in row.list))) s known is all a
    where
      all : (p : ProviderId) → Has p (filter (is_lost s) (present (state_in row.list))) → (p.node ≡ s.views.me) × (p.inc ≡ s.views.inc) × (is_none (provider_of s.sessions p) ≡ true) × Has p (present (state_in row.list))
      all p i =
          let k = has_filter (is_lost s) p (present (state_in row.list)) i in
          let j = and_parts (p.node == s.views.me && p.inc == s.views.inc) (is_none (provider_of s.sessions p)) k.1 in
          (eqb-true p.node s.views.me (and_parts (p.node == s.views.me) (p.inc == s.views.inc) j.0).0, eqb-true p.inc s.views.inc (and_parts (p.node == s.views.me) (p.inc == s.views.inc) j.0).1, j.1, k.0)

  -- what is sent changes no row
  losts_rows : (row : GroupRow) (ps : List ProviderId) (s : Core) → (fold (λ t p. send_if_known t (leader_of t row.name) (body.Gone t.views.view row.name p)) s ps).groups ≡ s.groups
  unfolding send_if_known sent send_on
  losts_rows row [] s = refl
  losts_rows row (p ∷ ps) s = losts_rows row ps (send_if_known s (leader_of s row.name) (body.Gone s.views.view row.name p)) ∙ by (leader_of s row.name)
    where
      by : (o : Option ℕ) → (send_if_known s o (body.Gone s.views.view row.name p)).groups ≡ s.groups
      by None = refl
      by (Some n) = refl

  losts_records : (row : GroupRow) (ps : List ProviderId) (s : Core) → (fold (λ t p. send_if_known t (leader_of t row.name) (body.Gone t.views.view row.name p)) s ps).records ≡ s.records
  unfolding send_if_known sent send_on
  losts_records row [] s = refl
  losts_records row (p ∷ ps) s = losts_records row ps (send_if_known s (leader_of s row.name) (body.Gone s.views.view row.name p)) ∙ by (leader_of s row.name)
    where
      by : (o : Option ℕ) → (send_if_known s o (body.Gone s.views.view row.name p)).records ≡ s.records
      by None = refl
      by (Some n) = refl

  lost_records : (s : Core) (row : GroupRow) → (lost_told s row).records ≡ s.records
  unfolding lost_told
  lost_records s row = losts_records row (filter (is_lost s) (present (state_in row.list))) s

  lost_rows : (s : Core) (row : GroupRow) → (lost_told s row).groups ≡ s.groups
  unfolding lost_told
  lost_rows s row = losts_rows row (filter (is_lost s) (present (state_in row.list))) s

  at_all_lost : (rows : List GroupRow) (s : Core) → Known s → ((row : GroupRow) → Has row rows → Has row s.groups) → Full s → Full (fold lost_told s rows)
  at_all_lost [] s known all a = a
  at_all_lost (row ∷ rows) s known all a =
      at_all_lost rows (lost_told s row) (subst (λ (z : List GroupRow × List Happened). KnownIn z.0 z.1) (λ i. (sym (lost_rows s row) i, sym (lost_records s row) i)) known) (λ x i. subst (Has x) (sym (lost_rows s row)) (all x (inr i))) (at_lost s row known (ap (row_found row.name) (found_itself s.groups row a.order (all row (inl refl)))) a)

  pub at_owed_part : (s : Core) → Known (send_requests s) → Full s → Full (tick_owed s)
  unfolding tick_owed held_rows
  at_owed_part s known a = by (frozen s)
    where
      t : Core
      t = send_requests s

      rows : List GroupRow
      rows = filter (λ (row : GroupRow). is_some row.list) t.groups

      by : (b : Bool) → Full (elim b as (λ _. Core) [ true ↦ s | false ↦ send_votes_again (fold lost_told t rows) ])
      by true = a
      by false =
          at_votes_again h said origin P L M Every NoGroup Every (fold lost_told t rows) (at_all_lost rows t known (λ row i. (has_filter (λ (row : GroupRow). is_some row.list) row t.groups i).0) (at_requests_sent h said origin P L M Every NoGroup Every s a))

  -- ---- what is led

  module _ (f : Answering) (G : List ℕ → Type 0) where
    abbrev Mine : Core → Type 0
    Mine s = At h said origin P L M Every G Every s

    at_late : (s : Core) (g : List ℕ) (t : TallyView) (o : Option Running) → G g → Mine s → Mine (late_appended f s g t o)
    unfolding late_appended
    at_late s g t None led a = a
    at_late s g t (Some run) led a = at_announces h said origin P L M Every G Every f s g run.proto run.phase (open_voters t) live led a

    at_announced : (s : Core) (g : List ℕ) (t : TallyView) (b : Bool) → G g → Mine s → Mine (announced f s g t b)
    unfolding announced
    at_announced s g t false led a = a
    at_announced s g t true led a = at_late s g t (state_of s g).running led a

    at_ticked : (s : Core) (g : List ℕ) → Mine s → Mine (with_tally s g (ticked_in (led_of s g).tally))
    unfolding with_tally with_led led_of row_of
    at_ticked s g a =
        at_row_for h said origin P L M Every G Every Every Every s g (λ row. record row { led = record (row.led) { tally = ticked_in (found s g).led.tally } }) (λ x. refl) (λ x. refl) (λ x. refl) (λ x. refl) (λ x z. z) (λ y p i. a.marks y g p i) (λ k t ne. t) (λ k t ne. t) (λ t. ticked (GoneCause h s.views.view g) (leads_row s (found s g)) (found s g).led.tally (state_in (found s g).list) (a.tallies g t)) (λ fit q. a.queues fit g q) a

    at_tally_ticks : (s : Core) (g : List ℕ) (o : Option TallyView) → G g → Mine s → Mine (tally_ticks f s g o)
    unfolding tally_ticks
    at_tally_ticks s g None led a = a
    at_tally_ticks s g (Some t) led a =
        let u : Core = announced f s g t (s.sessions.level == 2 && expires t) in
        at_closes h said origin P L M Every G Every f (with_tally u g (ticked_in (led_of u g).tally)) g live tt led (at_ticked u g (at_announced s g t (s.sessions.level == 2 && expires t) led a))

    at_entries_sent : (to : ℕ) (g : List ℕ) (i stable : ℕ) (es : List Entry) (s : Core) → Mine s → Mine (entries_sent to g i stable es s)
    unfolding entries_sent
    at_entries_sent to g i stable [] s a = a
    at_entries_sent to g i stable (e ∷ es) s a =
        at_entries_sent to g (i + 1) stable es (sent s to (body.Entry s.views.view g i stable e)) (at_sent h said origin P L M Every G Every s to (body.Entry s.views.view g i stable e) tt a)

    at_again : (g : List ℕ) (s : Core) (n : ℕ) → Mine s → Mine (sent_again g s n)
    unfolding sent_again list_sent_again row_of
    at_again g s n a = by (found s g).list
      where
        by : (o : Option GroupView) → Mine (list_sent_again s g n (acked_by s (found s g) n) o)
        by None = a
        by (Some l) = at_entries_sent n g (acked_by s (found s g) n) (least_acked s g) (take 16 (drop (acked_by s (found s g) n - l.start) l.entries)) s a

    at_group_ticks : (s : Core) (g : List ℕ) → G g → Mine s → Mine (tick_group f s g)
    unfolding tick_group
    at_group_ticks s g led a =
        let t : Core = tally_ticks f s g (led_of s g).tally in
        at_fold h said origin P L M Every G Every (sent_again g) (others t) (λ u n i k. at_again g u n k) t (at_tally_ticks s g (led_of s g).tally led a)

  pub at_led_part : (f : Answering) (s : Core) → Full s → Full (tick_led f s)
  unfolding tick_led
  at_led_part f s a = by (frozen s)
    where
      by : (b : Bool) → Full (elim b as (λ _. Core) [ true ↦ s | false ↦ fold (tick_group f) s (led_groups s) ])
      by true = a
      by false = at_led_groups h said origin P L M live (tick_group f) (at_group_ticks f) s a
