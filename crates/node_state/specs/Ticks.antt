-- A node's tick.
use Rattle.std.specs.Prelude.{ℕ, Bool, true, false, not, ◌==◌, ◌&&◌, ◌||◌, ◌+◌, ◌-◌, List, [], ◌∷◌, map, filter, find, fold, flat_map, take, drop, Option, Some, None, nat_le, is_none}
use Rattle.std.specs.List.{list_any}
use Rattle.std.specs.Cmp.Lexicographic.{pointwise}
use Rattle.rsct_packet.specs.declared.mask.Mask.{Mask}
use Rattle.rsct_packet.specs.declared.ids.ProviderId.{ProviderId}
use Rattle.rsct_packet.specs.declared.ids.Member.{Member}
use Rattle.rsct_packet.specs.Ids.{same_member}
use Rattle.rsct_packet.specs.Mask.{no_nodes, union_of, nodes_of, node_numbers}
use Rattle.proposal_core.specs.declared.entry.Entry.{Entry}
use Rattle.proposal_core.specs.declared.entry.Entry.TheVariants.{Late}
use Rattle.proposal_core.specs.declared.group_state.Running.{Running}
use Rattle.proposal_core.specs.Fold.{present}
use Rattle.proposal_core.specs.GroupView.{GroupView}
use Rattle.proposal_core.specs.Lists.{list_or_new, state_in}
use Rattle.adapter_ring.specs.declared.ring.Ring.{Ring}
use Rattle.adapter_ring.specs.declared.ring.RingSet.{RingSet}
use Rattle.adapter_ring.specs.declared.packet.RingSend.{RingSend}
use Rattle.adapter_ring.specs.declared.packet.RingPacket.{RingPacket}
use Rattle.adapter_ring.specs.declared.packet.RingEvent.TheVariants as ring_event
use Rattle.adapter_ring.specs.declared.work.RingWork.{RingWork}
use Rattle.adapter_ring.specs.Rings.{ring_step}
use Rattle.node_reach.specs.declared.reach.Reach.{Reach}
use Rattle.node_reach.specs.declared.reach.ReachRow.{ReachRow}
use Rattle.node_reach.specs.Reach as reach
use Rattle.vote_phases.specs.Tally.{TallyView, expires, open_voters, tally_tick}
use Rattle.session_state.specs.State.{provider_of}
use Rattle.view_state.specs.declared.views.RingAsk.{RingAsk}
use Rattle.view_state.specs.Views.{views_at_work, gathering_ticks, install_again}
use Rattle.node_state.specs.declared.group.GroupRow.{GroupRow}
use Rattle.node_state.specs.declared.happened.Happened.{Happened}
use Rattle.node_state.specs.declared.happened.Happened.TheVariants as happened
use Rattle.packet_bodies.specs.declared.body.ReportRow.{ReportRow}
use Rattle.node_state.specs.declared.packet.Body.TheVariants as body
use Rattle.node_state.specs.declared.state.Core.{Core}
use Rattle.node_state.specs.Settings.{is_rings, least_node}
use Rattle.node_state.specs.State.{row_of, led_of, state_of, held_rows, fits_at_end, frozen, leader_of, led_groups, others, acked_by, least_acked, recorded_all}
use Rattle.node_state.specs.Sending.{sent, send_on, send_all, send_if_known, send_requests, send_votes_again}
use Rattle.node_state.specs.HandOn.{Answering}
use Rattle.node_state.specs.Leading.{append_if_fits, with_tally, closes}
use Rattle.node_state.specs.Ending.{end_step}
use Rattle.node_state.specs.Applying.{own_parts, views_taken}

-- ---- rings and reach

-- with a ring in place of that of its network
unfoldable pub ring_put : List Ring → Ring → List Ring
ring_put [] r = []
ring_put (x ∷ xs) r = elim (x.net == r.net) [ true ↦ r ∷ xs | false ↦ x ∷ ring_put xs r ]

unfoldable pub set_records : ℕ → ℕ → Option RingSet → List Happened
set_records n network None = []
set_records n network (Some x) = happened.Ring n network x.id x.members x.neighbour ∷ []

-- what a ring's step leaves: the ring, what it sends on its network, and the ring that it was set to
unfoldable pub ring_taken : Core → RingWork → Core
ring_taken s w =
    let t : Core = fold (λ u (x : RingSend). send_on u x.network x.to (body.Ring x.packet)) (record s { rings = ring_put s.rings w.ring }) w.sends in
    recorded_all t (set_records s.views.me w.ring.net w.set)

unfoldable pub ring_rule_of : Core → ℕ → ℕ → RingPacket → Option Ring → Core
ring_rule_of s from inc p None = s
ring_rule_of s from inc p (Some r) = ring_taken s (ring_step r (ring_event.Packet from inc p))

-- a packet of a ring goes to the ring of the network that its head names
unfoldable pub ring_rule : Core → ℕ → ℕ → ℕ → RingPacket → Core
ring_rule s network from inc p = ring_rule_of s from inc p (find (λ (r : Ring). r.net == network) s.rings)

unfoldable pub row_reported : Reach → ReportRow → Reach
row_reported r x = reach.reported r x.node (record { inc = x.inc; seq = x.seq; mask = x.mask })

-- REPORT: each row is taken
unfoldable pub take_report : Core → List ReportRow → Core
take_report s rows = record s { reach = fold row_reported s.reach rows }

unfoldable pub rings_union : List Ring → Mask
rings_union rs = fold (λ m (r : Ring). union_of m r.members) no_nodes rs

unfoldable pub row_listed : ℕ → Option ReachRow → List ReportRow
row_listed n None = []
row_listed n (Some row) = record { node = n; inc = row.inc; seq = row.seq; mask = row.mask } ∷ []

-- all kept rows, nodes ascending
unfoldable pub report_of : Reach → List ReportRow
report_of r = flat_map (λ n. row_listed n (reach.row_of r n)) node_numbers

unfoldable pub send_report : Core → Mask → Core
send_report s m =
    let t : Core = record s { reach = reach.set_own s.reach m } in
    send_all t (filter (λ n. not (n == s.views.me)) (nodes_of m)) (body.Report (report_of t.reach))

-- (1) the rings tick in network order; the own row is their union, and all rows go to its nodes
unfoldable pub rings_tick : Core → Core
rings_tick s =
    let t : Core = fold (λ u (r : Ring). ring_taken u (ring_step r ring_event.Tick)) s s.rings in send_report t (rings_union t.rings)

unfoldable pub tick_rings : Core → Core
tick_rings s = elim (is_rings s.config.mode) [ true ↦ rings_tick s | false ↦ s ]

-- ---- views

abbrev pub inc_in : Option ReachRow → ℕ
inc_in None = 0
inc_in (Some row) = row.inc

-- the nodes reached, with the incarnations of their rows
unfoldable pub reached : Core → Mask → List Member
reached s m = map (λ n. record { node = n; inc = inc_in (reach.row_of s.reach n) }) (nodes_of m)

unfoldable pub is_long : GroupView → Bool
is_long l = nat_le 3000 l.len || nat_le 196608 l.bytes

unfoldable pub is_due : Core → Mask → Bool
is_due s m = not (pointwise same_member s.views.members (reached s m)) || list_any (λ (row : GroupRow). is_long (list_or_new row.list)) s.groups

abbrev pub is_first : ℕ → Option ℕ → Bool
is_first n None = false
is_first n (Some m) = m == n

unfoldable pub ring_ask_for : Core → Mask → RingAsk
ring_ask_for s m = record { mask = m; is_least = is_first s.views.me (least_node m); is_due = is_due s m }

-- what the rings say; nothing in the other modes
unfoldable pub ring_ask : Core → Option RingAsk
ring_ask s = elim (is_rings s.config.mode) [ true ↦ Some (ring_ask_for s (reach.reach_of s.reach)) | false ↦ None ]

-- (2) asking, or PREPARE again; (3) INSTALL again
unfoldable pub tick_views : Answering → Core → Core
tick_views f s =
    let t : Core = views_taken f s (gathering_ticks (views_at_work s.views) (ring_ask s) (own_parts s)) in
    views_taken f t (install_again (views_at_work t.views))

-- ---- what is owed

-- of the own incarnation, and no live provider of it
unfoldable pub is_lost : Core → ProviderId → Bool
is_lost s p = p.node == s.views.me && p.inc == s.views.inc && is_none (provider_of s.sessions p)

unfoldable pub lost_told : Core → GroupRow → Core
lost_told s row =
    fold (λ t p. send_if_known t (leader_of t row.name) (body.Gone t.views.view row.name p)) s (filter (is_lost s) (present (state_in row.list)))

-- (4) requests, then GONE for those who are lost, then votes
unfoldable pub tick_owed : Core → Core
tick_owed s =
    elim (frozen s) [ true ↦ s | false ↦ let t : Core = send_requests s in send_votes_again (fold lost_told t (held_rows t)) ]

-- ---- what the node leads

unfoldable pub late_appended : Answering → Core → List ℕ → TallyView → Option Running → Core
late_appended f s g t None = s
late_appended f s g t (Some run) = let e : Entry = Late run.proto run.phase (open_voters t) in append_if_fits f s g e (fits_at_end s g e)

-- at level 2 an entry announces who passes the limit in this tick
unfoldable pub announced : Answering → Core → List ℕ → TallyView → Bool → Core
announced f s g t false = s
announced f s g t true = late_appended f s g t (state_of s g).running

abbrev pub ticked_in : Option TallyView → Option TallyView
ticked_in None = None
ticked_in (Some t) = Some (tally_tick t)

unfoldable pub tally_ticks : Answering → Core → List ℕ → Option TallyView → Core
tally_ticks f s g None = s
tally_ticks f s g (Some t) =
    let u : Core = announced f s g t (s.sessions.level == 2 && expires t) in closes f (with_tally u g (ticked_in (led_of u g).tally)) g

unfoldable pub entries_sent : ℕ → List ℕ → ℕ → ℕ → List Entry → Core → Core
entries_sent to g i stable [] s = s
entries_sent to g i stable (e ∷ es) s = entries_sent to g (i + 1) stable es (sent s to (body.Entry s.views.view g i stable e))

unfoldable pub list_sent_again : Core → List ℕ → ℕ → ℕ → Option GroupView → Core
list_sent_again s g n first None = s
list_sent_again s g n first (Some l) = entries_sent n g first (least_acked s g) (take 16 (drop (first - l.start) l.entries)) s

-- up to 16 entries, from the acknowledged length on
unfoldable pub sent_again : List ℕ → Core → ℕ → Core
sent_again g s n = list_sent_again s g n (acked_by s (row_of s g) n) (row_of s g).list

unfoldable pub tick_group : Answering → Core → List ℕ → Core
tick_group f s g = let t : Core = tally_ticks f s g (led_of s g).tally in fold (sent_again g) t (others t)

-- (5) each led group in name order
unfoldable pub tick_led : Answering → Core → Core
tick_led f s = elim (frozen s) [ true ↦ s | false ↦ fold (tick_group f) s (led_groups s) ]

-- the parts of a tick; (6) is the end of every step
unfoldable pub tick_rule : Answering → Core → Core
tick_rule f s = end_step f (tick_led f (tick_owed (tick_views f (tick_rings s))))

-- opens each word of this file, for a computation
unfoldable pub ticks_opens : Unit {0}
unfolding ring_put set_records ring_taken ring_rule_of ring_rule row_reported take_report rings_union row_listed report_of send_report rings_tick tick_rings reached is_long is_due ring_ask_for ring_ask tick_views is_lost lost_told tick_owed late_appended announced tally_ticks entries_sent list_sent_again sent_again tick_group tick_led tick_rule
ticks_opens = tt
