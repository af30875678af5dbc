-- How many packets a tick sends: in the view that the node is in, or, where it asks itself alone, in that one and in the
-- next, in which it is alone.
use Rattle.std.proofs.Common.{◌≡◌, ◌≤◌, ℕ, ◌+◌, ◌*◌, List, [], ◌∷◌, length, map, filter, fold, Some, None, Option, Bool, true, false, refl, sym, ap, ◌∙◌, subst, arith}
use Rattle.std.specs.Prelude.{not, ◌==◌, is_some}
use Rattle.rsct_packet.specs.declared.ids.ViewId.{ViewId}
use Rattle.rsct_packet.specs.declared.mask.Mask.{Mask}
use Rattle.rsct_packet.specs.Mask.{nodes_of}
use Rattle.rsct_packet.specs.Search.{Has}
use Rattle.adapter_ring.specs.declared.ring.Ring.{Ring}
use Rattle.adapter_ring.specs.declared.packet.RingSend.{RingSend}
use Rattle.adapter_ring.specs.declared.packet.RingEvent.TheVariants as ring_event
use Rattle.adapter_ring.specs.declared.work.RingWork.{RingWork}
use Rattle.adapter_ring.specs.Rings.{ring_step}
use Rattle.node_reach.specs.Reach as reach
use Rattle.session_state.specs.declared.state.SessionState.{SessionState}
use Rattle.view_state.specs.declared.install.Install.{Install}
use Rattle.view_state.specs.Answers.{opened, with_answer, install_of}
use Rattle.view_state.specs.declared.views.Views.{Views}
use Rattle.view_state.specs.declared.views.ViewWork.{ViewWork}
use Rattle.view_state.specs.Views.{others_of, views_at_work, gathering_ticks, install_again}
use Rattle.node_state.specs.declared.config.Config.{Config}
use Rattle.node_state.specs.declared.config.Mode.{Mode}
use Rattle.node_state.specs.declared.group.GroupRow.{GroupRow}
use Rattle.node_state.specs.declared.packet.Body.{Body}
use Rattle.node_state.specs.declared.packet.Body.TheVariants as body
use Rattle.node_state.specs.declared.state.Core.{Core}
use Rattle.node_state.specs.Settings.{is_rings}
use Rattle.node_state.specs.State.{leader_by, is_this, leader_in, leads_in, led_groups, held_rows, frozen, others, recorded_all}
use Rattle.node_state.specs.Sending.{sent, send_on, send_all, send_requests, send_votes_again}
use Rattle.node_state.specs.HandOn.{Answering}
use Rattle.node_state.specs.Applying.{Lacking, lacking, own_parts, entered, entered_if, apply_install, views_taken}
use Rattle.node_state.specs.Ticks.{ring_put, ring_taken, rings_union, report_of, send_report, rings_tick, tick_rings, ring_ask, tick_views, lost_told, tick_owed, tick_led, tick_rule}
use Rattle.node_state.specs.Ending.{end_step}
use Rattle.send_laws.specs.Bound.{Stands, Fine, EndsAt, ListsEnd, owned_of, owed_count, led_count}
use Rattle.send_laws.proofs.Parts.{Goes}
use Rattle.send_laws.proofs.Ends.{goes_ended}
use Rattle.send_laws.proofs.Ticks.{goes_rings_part, goes_led_part}
use Rattle.send_laws.proofs.Owed.{Sends, goes_owed_part, sends_then, sends_fold, sends_sent, sends_requests, sends_lost, sends_votes, views_same}
use Rattle.send_laws.proofs.ViewSends.{Works, works_ticks, works_install_again}
use Rattle.send_laws.proofs.ViewKeeps.{few_ticks, few_install_again}
use Rattle.send_laws.proofs.Entering.{Moves, view_step, Viewed, row_viewed, moves_entered}
use Rattle.send_laws.proofs.Asking.{part_in, alone, alone_fine, AloneIf, ticks_alone}
use Rattle.send_laws.proofs.Purse.{owned}
use Rattle.send_laws.proofs.Alone.{Solitary, alone_enters, alone_led, others_same}

-- ---- what a tick leaves as it was until it leads

-- the groups, the sessions, the settings and the view
pub record Same (s t : Core) : Type 0 where
  pub groups : t.groups ≡ s.groups
  pub sessions : t.sessions ≡ s.sessions
  pub config : t.config ≡ s.config
  pub me : t.views.me ≡ s.views.me
  pub inc : t.views.inc ≡ s.views.inc
  pub view : t.views.view ≡ s.views.view

same_itself : (s : Core) → Same s s
same_itself s = record { groups = refl; sessions = refl; config = refl; me = refl; inc = refl; view = refl }

same_then : (s t u : Core) → Same s t → Same t u → Same s u
same_then s t u a b =
    record { groups = b.groups ∙ a.groups; sessions = b.sessions ∙ a.sessions; config = b.config ∙ a.config; me = b.me ∙ a.me; inc = b.inc ∙ a.inc; view = b.view ∙ a.view }

same_fold : {A : Type 0} (f : Core → A → Core) → ((s : Core) (x : A) → Same s (f s x)) → (xs : List A) (s : Core) → Same s (fold f s xs)
same_fold f one [] s = same_itself s
same_fold f one (x ∷ xs) s = same_then s (f s x) (fold f (f s x) xs) (one s x) (same_fold f one xs (f s x))

same_sends : (s t : Core) → Sends s t → Same s t
unfolding Sends
same_sends s t a =
    record {
      groups = ap (λ (z : Core). z.groups) a.1;
      sessions = ap (λ (z : Core). z.sessions) a.1;
      config = ap (λ (z : Core). z.config) a.1;
      me = ap (λ (z : Core). z.views.me) a.1;
      inc = ap (λ (z : Core). z.views.inc) a.1;
      view = ap (λ (z : Core). z.views.view) a.1;
    }

same_sent_on : (s : Core) (network to : ℕ) (b : Body) → Same s (send_on s network to b)
unfolding send_on
same_sent_on s network to b = record { groups = refl; sessions = refl; config = refl; me = refl; inc = refl; view = refl }

same_ring : (s : Core) (w : RingWork) → Same s (ring_taken s w)
unfolding ring_taken recorded_all
same_ring s w =
    let r : Core = record s { rings = ring_put s.rings w.ring } in
    let f : Core → RingSend → Core = λ u (x : RingSend). send_on u x.network x.to (body.Ring x.packet) in
    let a : Same r (fold f r w.sends) = same_fold f (λ u x. same_sent_on u x.network x.to (body.Ring x.packet)) w.sends r in
    record { groups = a.groups; sessions = a.sessions; config = a.config; me = a.me; inc = a.inc; view = a.view }

same_rings : (s : Core) → Same s (tick_rings s)
unfolding tick_rings rings_tick send_report send_all
same_rings s = by (is_rings s.config.mode)
  where
    f : Core → Ring → Core
    f u r = ring_taken u (ring_step r ring_event.Tick)

    t : Core
    t = fold f s s.rings

    v : Core
    v = record t { reach = reach.set_own t.reach (rings_union t.rings) }

    ns : List ℕ
    ns = filter (λ n. not (n == t.views.me)) (nodes_of (rings_union t.rings))

    step : Core → ℕ → Core
    step u n = sent u n (body.Report (report_of v.reach))

    a : Same s t
    a = same_fold f (λ u r. same_ring u (ring_step r ring_event.Tick)) s.rings s

    b : Same v (fold step v ns)
    b = same_fold step (λ u n. same_sends u (step u n) (sends_sent u n (body.Report (report_of v.reach)))) ns v

    by : (c : Bool) → Same s (elim c [ true ↦ fold step v ns | false ↦ s ])
    by true = record { groups = b.groups ∙ a.groups; sessions = b.sessions ∙ a.sessions; config = b.config ∙ a.config; me = b.me ∙ a.me; inc = b.inc ∙ a.inc; view = b.view ∙ a.view }
    by false = same_itself s

pub owed_same : (s t : Core) → Same s t → owed_count t ≡ owed_count s
unfolding owed_count
owed_same s t a =
    let r : length t.sessions.requests ≡ length s.sessions.requests = ap (λ (x : SessionState). length x.requests) a.sessions in
    let q : length t.sessions.kept ≡ length s.sessions.kept = ap (λ (x : SessionState). length x.kept) a.sessions in
    let p : length t.sessions.providers ≡ length s.sessions.providers = ap (λ (x : SessionState). length x.providers) a.sessions in
    let o : owned_of t.views.me t.views.inc t.groups ≡ owned_of s.views.me s.views.inc s.groups =
    ap (λ n. owned_of n t.views.inc t.groups) a.me ∙ ap (λ i. owned_of s.views.me i t.groups) a.inc ∙ ap (λ rows. owned_of s.views.me s.views.inc rows) a.groups in
    omega (arith, r, q, p, o)

abbrev led_in : ℕ → Mode → ℕ → List GroupRow → List (List ℕ)
led_in me mode coord rows = map (λ (row : GroupRow). row.name) (filter (λ (row : GroupRow). is_this me (leader_by mode coord row.leader)) rows)

pub led_same : (s t : Core) → Same s t → led_groups t ≡ led_groups s
unfolding led_groups leads_in leader_in
led_same s t a =
    ap (λ n. led_in n t.config.mode t.views.view.coord t.groups) a.me ∙ ap (λ (c : Config). led_in s.views.me c.mode t.views.view.coord t.groups) a.config ∙ ap (λ (v : ViewId). led_in s.views.me s.config.mode v.coord t.groups) a.view ∙ ap (λ rows. led_in s.views.me s.config.mode s.views.view.coord rows) a.groups

-- ---- views

-- nothing but packets differs, and what views are asked and gathered for
same_viewed : (c : ℕ) (s t : Core) (w : ViewWork) → Works c (views_at_work s.views) w → Sends (record s { views = w.views }) t → Same s t
same_viewed c s t w works a =
    let z : Same (record s { views = w.views }) t = same_sends (record s { views = w.views }) t a in
    record { groups = z.groups; sessions = z.sessions; config = z.config; me = z.me ∙ works.me; inc = z.inc ∙ works.inc; view = z.view ∙ works.view }

others_viewed : (c : ℕ) (s t : Core) (w : ViewWork) → Works c (views_at_work s.views) w → Sends (record s { views = w.views }) t → others t ≡ others s
unfolding others
others_viewed c s t w works a =
    ap (λ (v : Views). others_of v.me v.members) (views_same (record s { views = w.views }) t a) ∙ (λ j. others_of (works.me j) (works.members j))

-- INSTALL again enters nothing
record Again (s t : Core) : Type 0 where
  moves : Moves 32 s t
  same : Same s t
  others : others t ≡ others s

again : (f : Answering) (s : Core) → Stands s → Again s (views_taken f s (install_again (views_at_work s.views)))
unfolding views_taken apply_install
again f s k = subst (λ o. Again s (apply_install f t o)) (sym z.1) here
  where
    w : ViewWork
    w = install_again (views_at_work s.views)

    z : Works 32 (views_at_work s.views) w × (w.install ≡ None)
    z = works_install_again (views_at_work s.views) k.few refl

    t : Core
    t = fold view_step (record s { views = w.views }) w.sends

    v : Viewed 32 s t w.views
    v = row_viewed 32 s w z.0 (few_install_again (views_at_work s.views)) k

    here : Again s t
    here = record { moves = record { within = v.within; stands = v.stands; lasts = v.lasts }; same = same_viewed 32 s t w z.0 v.sends; others = others_viewed 32 s t w z.0 v.sends }

-- ---- the parts of a tick

same_owed : (s : Core) → Same s (tick_owed s)
unfolding tick_owed
same_owed s = by (frozen s)
  where
    t : Core
    t = send_requests s

    u : Core
    u = fold lost_told t (held_rows t)

    all : Sends s (send_votes_again u)
    all = sends_then s t (send_votes_again u) (sends_requests s) (sends_then t u (send_votes_again u) (sends_fold lost_told sends_lost (held_rows t) t) (sends_votes u))

    by : (b : Bool) → Same s (elim b [ true ↦ s | false ↦ send_votes_again u ])
    by true = same_itself s
    by false = same_sends s (send_votes_again u) all

-- what follows once the node asked, or entered a view
abbrev rest : Answering → Core → Core
rest f u = end_step f (tick_led f (tick_owed (views_taken f u (install_again (views_at_work u.views)))))

rest_stayed : (f : Answering) (u : Core) → Stands u → Moves (32 + owed_count u + 512 * length (led_groups u)) u (rest f u)
rest_stayed f u k =
    let v : Core = views_taken f u (install_again (views_at_work u.views)) in
    let a : Again u v = again f u k in
    let y : Core = tick_owed v in
    let gy : Goes (owed_count v) v y = goes_owed_part v a.moves.stands in
    let owed : owed_count v ≡ owed_count u = owed_same u v a.same in
    let led : length (led_groups y) ≡ length (led_groups u) = ap length (led_same u y (same_then u v y a.same (same_owed v))) in
    let z : Core = tick_led f y in
    let gz : Goes (512 * length (led_groups y)) y z = goes_led_part f y gy.stands in
    let ge : Goes 0 z (end_step f z) = goes_ended f z gz.stands in
    record { within = omega (arith, a.moves.within, gy.within, gz.within, ge.within, owed, led); stands = ge.stands; lasts = λ h. ge.lasts (gz.lasts (gy.lasts (a.moves.lasts h))) }

rest_alone : (f : Answering) (u : Core) → others u ≡ [] → Stands u → Moves (32 + owed_count u) u (rest f u)
rest_alone f u none k =
    let v : Core = views_taken f u (install_again (views_at_work u.views)) in
    let a : Again u v = again f u k in
    let y : Core = tick_owed v in
    let gy : Goes (owed_count v) v y = goes_owed_part v a.moves.stands in
    let owed : owed_count v ≡ owed_count u = owed_same u v a.same in
    let z : Core = tick_led f y in
    let gz : Goes 0 y z = alone_led f y (others_same v y gy.views ∙ a.others ∙ none) gy.stands in
    let ge : Goes 0 z (end_step f z) = goes_ended f z gz.stands in
    record { within = omega (arith, a.moves.within, gy.within, gz.within, ge.within, owed); stands = ge.stands; lasts = λ h. ge.lasts (gz.lasts (gy.lasts (a.moves.lasts h))) }

owed_is : (s : Core) → owed_count s ≡ length s.sessions.requests + length s.sessions.kept + length s.sessions.providers + owned s s.groups
unfolding owed_count
owed_is s = refl

-- the own answer is of the same lists
alone_same : (t a : Core) → Same t a → (v : ViewId) (mask : Mask) → alone t v mask ≡ alone a v mask
unfolding own_parts held_rows
alone_same t a e v mask =
    let parts : own_parts t ≡ own_parts a = ap (λ rows. map part_in (filter (λ (row : GroupRow). is_some row.list) rows)) (sym e.groups) in
    λ j. install_of (with_answer (opened v mask) (record { node = sym e.me j; inc = sym e.inc j; view = sym e.view j; parts = parts j }))

pub moves_tick : (f : Answering) (s : Core) → length s.rings ≤ 4 → ListsEnd s → Stands s → Moves (486 + 2 * owed_count s + 512 * led_count s) s (tick_rule f s)
unfolding tick_rule tick_views views_taken apply_install entered_if
moves_tick f s four ends k = by w.install (ticks_alone t (ring_ask t))
  where
    t : Core
    t = tick_rings s

    gt : Goes 420 s t
    gt = goes_rings_part s four k

    w : ViewWork
    w = gathering_ticks (views_at_work t.views) (ring_ask t) (own_parts t)

    works : Works 33 (views_at_work t.views) w
    works = works_ticks (views_at_work t.views) (ring_ask t) (own_parts t)

    a : Core
    a = fold view_step (record t { views = w.views }) w.sends

    va : Viewed 33 t a w.views
    va = row_viewed 33 t w works (few_ticks (views_at_work t.views) (ring_ask t) (own_parts t)) gt.stands

    ta : Same t a
    ta = same_viewed 33 t a w works va.sends

    sa : Same s a
    sa = same_then s t a (same_rings s) ta

    owed : owed_count a ≡ owed_count s
    owed = owed_same s a sa

    ends_a : ListsEnd a
    ends_a = subst (λ (rows : List GroupRow). (row : GroupRow) → Has row rows → EndsAt row.list) (sym sa.groups) ends

    stayed : Moves (486 + 2 * owed_count s + 512 * led_count s) s (rest f a)
    stayed =
        let m : Moves (32 + owed_count a + 512 * length (led_groups a)) a (rest f a) = rest_stayed f a va.stands in
        let led : length (led_groups a) ≡ length (led_groups s) = ap length (led_same s a sa) in
        record { within = omega (arith, gt.within, va.within, m.within, owed, led); stands = m.stands; lasts = λ h. m.lasts (va.lasts (gt.lasts h)) }

    alone_in : (i : Install) (v : ViewId) (mask : Mask) (xs : List Lacking) → i ≡ alone a v mask → lacking a i ≡ Some xs → Moves (486 + 2 * owed_count s + 512 * led_count s) s (rest f (entered f a i xs))
    alone_in i v mask xs e q =
        let u : Core = entered f a i xs in
        let fine : Fine a.views.view i = subst (Fine a.views.view) (sym e) (alone_fine a v mask va.stands) in
        let m : Moves (1 + length a.sessions.requests + length a.sessions.kept) a u = moves_entered f a i xs fine q va.stands in
        let only : Solitary a u = subst (λ z. Solitary a (entered f a z xs)) (sym e) (alone_enters f a v mask xs va.stands ends_a (subst (λ z. lacking a z ≡ Some xs) e q)) in
        let r : Moves (32 + owed_count u) u (rest f u) = rest_alone f u only.others m.stands in
        record {
          within = omega (arith, gt.within, va.within, only.within, r.within, owed, owed_is a, owed_is u);
          stands = r.stands;
          lasts = λ h. r.lasts (m.lasts (va.lasts (gt.lasts h)));
        }

    by : (o : Option Install) → AloneIf t o → Moves (486 + 2 * owed_count s + 512 * led_count s) s (rest f (apply_install f a o))
    by None z = stayed
    by (Some i) z = at (lacking a i) refl
      where
        at : (o : Option (List Lacking)) → lacking a i ≡ o → Moves (486 + 2 * owed_count s + 512 * led_count s) s (rest f (entered_if f a i o))
        at None q = stayed
        at (Some xs) q = alone_in i z.0 z.1 xs (z.2 ∙ alone_same t a ta z.0 z.1) q
