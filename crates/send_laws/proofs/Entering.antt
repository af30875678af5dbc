-- What a node sends as it enters a view: what it owes, TAKEN, and a hundred packets for each put.
use Rattle.std.proofs.Common.{◌≡◌, ◌≤◌, ℕ, ◌+◌, List, [], ◌∷◌, length, map, filter, fold, flat_map, Some, None, Option, Bool, true, false, cond, refl, sym, ap, ◌∙◌, subst, inl, inr, arith, length-append}
use Rattle.std.specs.Prelude.{not, ◌&&◌, ◌==◌, find, is_some}
use Rattle.std.specs.Str.{bytes_eq}
use Rattle.rsct_packet.specs.declared.ids.ProviderId.{ProviderId}
use Rattle.rsct_packet.specs.declared.ids.ViewId.{ViewId}
use Rattle.rsct_packet.specs.Providers.{among}
use Rattle.rsct_packet.specs.Search.{Has}
use Rattle.group_attr.specs.Attrs.{host_membership}
use Rattle.proposal_core.specs.declared.proposal.Cause.TheVariants.{Died}
use Rattle.proposal_core.specs.declared.group_state.GroupState.{GroupState}
use Rattle.proposal_core.specs.Fold.{present}
use Rattle.proposal_core.specs.Lists.{state_in}
use Rattle.batch_rules.specs.Waiting.{add_failure}
use Rattle.subscribe_core.specs.declared.subs.Subscription.{Subscription}
use Rattle.client_callbacks.specs.declared.told.Told.TheVariants as told
use Rattle.client_callbacks.specs.declared.told.Why.TheVariants.{Dissolved}
use Rattle.session_state.specs.declared.state.Provider.{Provider}
use Rattle.session_state.specs.declared.state.SessionState.{SessionState}
use Rattle.session_state.specs.State.{provider_of, outstanding}
use Rattle.session_state.specs.HandOn.{take_telling}
use Rattle.view_state.specs.declared.install.Install.{Install}
use Rattle.view_state.specs.declared.install.Base.{Base}
use Rattle.view_state.specs.Bases.{parts_from, bases_of, base_named}
use Rattle.view_state.specs.declared.packet.ViewPacket.TheVariants as packet
use Rattle.view_state.specs.declared.packet.ViewSend.{ViewSend}
use Rattle.view_state.specs.declared.views.Views.{Views}
use Rattle.view_state.specs.declared.views.ViewWork.{ViewWork}
use Rattle.view_state.specs.Views.{own_install, views_at_work, views_entered}
use Rattle.node_state.specs.declared.group.GroupRow.{GroupRow}
use Rattle.node_state.specs.declared.happened.Happened.{Happened}
use Rattle.node_state.specs.declared.happened.Happened.TheVariants as happened
use Rattle.node_state.specs.declared.packet.Body.TheVariants as body
use Rattle.node_state.specs.declared.packet.Packet.{Packet}
use Rattle.node_state.specs.declared.state.Core.{Core}
use Rattle.node_state.specs.State.{row_found, row_of, list_of, state_of, held_rows, led_groups, recorded, recorded_all, with_sessions, has_name}
use Rattle.node_state.specs.Sending.{network_to, packet_on, send_on, sent, send_requests, send_votes_again}
use Rattle.node_state.specs.HandOn.{Answering, subscriber_name, note_of}
use Rattle.node_state.specs.Leading.{with_waiting, tally_opened, closes}
use Rattle.node_state.specs.Applying.{Lacking, lacking, fill_lists, level_set, base_row, base_leader, base_record, view_entered, is_in_base, number_of, dissolved, dissolved_if, group_dissolved, sides_dissolved, base_note, entering_note, entering_noted, taken_sent, owed_sent, wait_failed, phase_reopened, lead, lead_groups, entered, entered_if, apply_install, views_taken}
use Rattle.step_refinement.proofs.BaseOrder.{bases_ordered}
use Rattle.send_laws.specs.Bound.{puts_of, waits_of, Room, Stands, Within, Fine, FineIf}
use Rattle.send_laws.specs.Lasting.{WaitsFew, FewIn, FewIf, FewView, FewSent, FewViews, Lasting}
use Rattle.send_laws.proofs.Counts.{puts_both}
use Rattle.send_laws.proofs.Parts.{Goes, goes_same, goes_then, then_free, fold_free, sent_few, goes_sent, goes_recorded_all, goes_recorded, goes_sessions}
use Rattle.send_laws.proofs.Leads.{goes_waits_failure, goes_opened, goes_closes}
use Rattle.send_laws.proofs.Ticks.{goes_requests_sent, goes_votes_again}
use Rattle.send_laws.proofs.Owed.{Sends, sends_none, sends_then, sends_sent, sends_requests, groups_same, records_same, views_same, kept_same, sessions_same}
use Rattle.send_laws.proofs.Sessions.{Less, less_told}
use Rattle.send_laws.proofs.Filling.{Holds, holds_same, holds_then, holds_free, holds_fold, holds_goes, holds_by, FilledAll, filled}
use Rattle.send_laws.proofs.ViewSends.{Works}
use Rattle.send_laws.proofs.ViewKeeps.{FewWork}

-- from one state to another, maybe in another view
pub record Moves (c : ℕ) (s t : Core) : Type 0 where
  pub within : Within c s t
  pub stands : Stands t
  pub lasts : Lasting s → Lasting t

pub moves_goes : (c : ℕ) (s t : Core) → Goes c s t → Moves c s t
moves_goes c s t g = record { within = g.within; stands = g.stands; lasts = g.lasts }

pub moves_then : (a b : ℕ) (s t u : Core) → Moves a s t → Moves b t u → Moves (a + b) s u
moves_then a b s t u x y = record { within = omega (arith, x.within, y.within); stands = y.stands; lasts = λ h. y.lasts (x.lasts h) }

pub moves_more : (a b : ℕ) (s t : Core) → a ≤ b → Moves a s t → Moves b s t
moves_more a b s t le x = record { within = omega (arith, x.within, le); stands = x.stands; lasts = x.lasts }

-- ---- the bases

found_room : (g : List ℕ) (bs : List Base) → ((b : Base) → Has b bs → Room b.state) → Room (state_in (row_found g (find (has_name g) (map base_row bs))).list)
unfolding base_row
found_room g [] h = omega arith
found_room g (b ∷ bs) h = by (bytes_eq b.name g) (found_room g bs (λ x k. h x (inr k)))
  where
    by : (t : Bool) → Room (state_in (row_found g (find (has_name g) (map base_row bs))).list) → Room (state_in (row_found g (cond t (Some (base_row b)) (find (has_name g) (map base_row bs)))).list)
    by true k = h b (inl refl)
    by false k = k

found_waits : (g : List ℕ) (bs : List Base) → WaitsFew (row_found g (find (has_name g) (map base_row bs)))
unfolding base_row
found_waits g [] = record { few = omega arith; known = inl refl }
found_waits g (b ∷ bs) = by (bytes_eq b.name g) (found_waits g bs)
  where
    by : (t : Bool) → WaitsFew (row_found g (find (has_name g) (map base_row bs))) → WaitsFew (row_found g (cond t (Some (base_row b)) (find (has_name g) (map base_row bs))))
    by true k = record { few = omega arith; known = inl refl }
    by false k = k

own_few : (v : Views) (i : Install) → FewIn i → FewIf (own_install v i)
unfolding own_install
own_few v i few = by (i.view.coord == v.me && i.view.inc == v.inc)
  where
    by : (b : Bool) → FewIf (elim b [ true ↦ Some i | false ↦ None ])
    by true = few
    by false = tt

no_waits : (bs : List Base) → waits_of (map base_row bs) ≡ 0
unfolding base_row
no_waits [] = refl
no_waits (b ∷ bs) = let h : waits_of (map base_row bs) ≡ 0 = no_waits bs in omega arith

no_put_bases : (s : Core) (bs : List Base) → puts_of (map (base_record s) bs) ≡ 0
unfolding base_record
no_put_bases s [] = refl
no_put_bases s (b ∷ bs) = let h : puts_of (map (base_record s) bs) ≡ 0 = no_put_bases s bs in omega arith

abbrev entered_at : Core → Install → List Base → Core
entered_at s i bs = record s { views = views_entered s.views i; sessions = level_set s i.members; groups = map base_row bs; names = map base_leader bs }

pub holds_entered : (v : ViewId) (s : Core) (i : Install) → Fine v i → Holds 0 s (view_entered s i (bases_of i))
unfolding view_entered recorded_all views_entered level_set state_of list_of row_of bases_of
holds_entered v s i fine =
    let bs : List Base = bases_of i in
    let t : Core = view_entered s i bs in
    let rs : List Happened = map (base_record (entered_at s i bs)) bs in
    record {
      within = omega (arith, puts_both s.records (happened.In (entered_at s i bs).views.me i.view i.members ∷ rs), no_put_bases (entered_at s i bs) bs, no_waits bs);
      stands = record { few = fine.few; order = bases_ordered i; room = λ g. found_room g bs fine.room };
      lasts = λ h. record { rings = h.rings; waits = λ g. found_waits g bs; views = record { gathering = tt; install = own_few s.views i fine.few }; sent = h.sent };
    }

-- ---- who is dissolved, and who is told

holds_dissolved : (s : Core) (p : ProviderId) (r : ℕ) → Stands s → Holds 0 s (dissolved s p r)
unfolding dissolved recorded with_sessions
holds_dissolved s p r k =
    let t : Core = with_sessions s (take_telling s.sessions p r Dissolved) in
    let a : Goes 0 s t = goes_sessions s (take_telling s.sessions p r Dissolved) k in
    let u : Core = recorded t (happened.Told p r Dissolved) in
    let b : Goes 0 t u = goes_recorded t (happened.Told p r Dissolved) refl a.stands in
    told_holds s u (then_free 0 s t u a b) (less_told s.sessions p r Dissolved)
  where
    told_holds : (s u : Core) → Goes 0 s u → Less 0 s.sessions u.sessions → Holds 0 s u
    told_holds s u g l = record { within = omega (arith, g.within, l.kept, l.requests); stands = g.stands; lasts = g.lasts }

holds_dissolved_if : (s : Core) (g : List ℕ) (old : ViewId) (b : Option Base) (o : Option Provider) → Stands s → Holds 0 s (dissolved_if s g old b o)
unfolding dissolved_if
holds_dissolved_if s g old b None k = holds_same s k
holds_dissolved_if s g old b (Some x) k = by (x.takes_part && bytes_eq x.group g && not (is_in_base old x.provider b))
  where
    by : (c : Bool) → Holds 0 s (elim c [ true ↦ dissolved s x.provider (number_of (outstanding s.sessions x.provider)) | false ↦ s ])
    by true = holds_dissolved s x.provider (number_of (outstanding s.sessions x.provider)) k
    by false = holds_same s k

pub holds_sides : (s : Core) (rows : List GroupRow) (old : ViewId) (bs : List Base) → Stands s → Holds 0 s (sides_dissolved s rows old bs)
unfolding sides_dissolved group_dissolved
holds_sides s rows old bs k =
    holds_fold (group_dissolved old bs) (λ t row h. holds_fold (λ (u : Core) p. dissolved_if u row.name old (base_named bs row.name) (provider_of u.sessions p)) (λ u p j. holds_dissolved_if u row.name old (base_named bs row.name) (provider_of u.sessions p) j) (present (state_in row.list)) t h) rows s k

no_put_note : (s : Core) (bs : List Base) (u : Subscription) → puts_of (entering_note s bs u) ≡ 0
unfolding entering_note base_note note_of
no_put_note s bs u = by (bytes_eq u.group host_membership)
  where
    at : (o : Option Base) → puts_of (base_note s u o) ≡ 0
    at None = refl
    at (Some b) = refl

    by : (b : Bool) → puts_of (elim b [ true ↦ happened.Noted s.views.me (subscriber_name s.sessions u) s.views.view None (told.Hosts s.views.view s.views.members) ∷ [] | false ↦ base_note s u (base_named bs u.group) ]) ≡ 0
    by true = refl
    by false = at (base_named bs u.group)

no_put_entering : (s : Core) (bs : List Base) (us : List Subscription) → puts_of (flat_map (entering_note s bs) us) ≡ 0
no_put_entering s bs [] = refl
no_put_entering s bs (u ∷ us) =
    omega (arith, puts_both (entering_note s bs u) (flat_map (entering_note s bs) us), no_put_note s bs u, no_put_entering s bs us)

pub holds_noted : (s : Core) (bs : List Base) → Stands s → Holds 0 s (entering_noted s bs)
unfolding entering_noted recorded_all
holds_noted s bs k =
    holds_goes s (recorded_all s (flat_map (entering_note s bs) s.sessions.subs.live)) refl (goes_recorded_all s (flat_map (entering_note s bs) s.sessions.subs.live) (no_put_entering s bs s.sessions.subs.live) k)

pub holds_taken : (s : Core) → Stands s → Holds 1 s (taken_sent s)
unfolding taken_sent
holds_taken s k = by (s.views.view.coord == s.views.me)
  where
    t : Core
    t = sent s s.views.view.coord (body.View (packet.Taken s.views.view))

    g : Goes 1 s t
    g = goes_sent s s.views.view.coord (body.View (packet.Taken s.views.view)) tt k

    same : t.sessions ≡ s.sessions
    same = sessions_same s t (sends_sent s s.views.view.coord (body.View (packet.Taken s.views.view)))

    by : (b : Bool) → Holds 1 s (elim b [ true ↦ s | false ↦ t ])
    by true = record { within = omega arith; stands = k; lasts = λ h. h }
    by false = holds_by 1 s t same g

-- ---- what is owed, and what is led

pub goes_owed : (s : Core) → Stands s → Goes (length s.sessions.requests + length s.sessions.kept) s (owed_sent s)
unfolding owed_sent
goes_owed s k =
    let t : Core = send_requests s in
    let a : Goes (length s.sessions.requests) s t = goes_requests_sent s k in
    let kept : t.sessions.kept ≡ s.sessions.kept = kept_same s t (sends_requests s) in
    let b : Goes (length s.sessions.kept) t (send_votes_again t) = subst (λ z. Goes (length z) t (send_votes_again t)) kept (goes_votes_again t a.stands) in
    goes_then (length s.sessions.requests) (length s.sessions.kept) s t (send_votes_again t) a b

goes_reopened : (f : Answering) (s : Core) (g : List ℕ) (b : Bool) → Stands s → Goes 0 s (phase_reopened f s g b)
unfolding phase_reopened
goes_reopened f s g false k = goes_same s k
goes_reopened f s g true k =
    let t : Core = tally_opened s g in
    let a : Goes 0 s t = goes_opened s g k in then_free 0 s t (closes f t g) a (goes_closes f t g a.stands)

goes_group_led : (f : Answering) (s : Core) (g : List ℕ) → Stands s → Goes 0 s (lead f s g)
unfolding lead wait_failed
goes_group_led f s g k =
    let st : GroupState = state_of s g in
    let ps : List ProviderId = filter (among st.members) st.failed in
    let t : Core = fold (λ t p. with_waiting t g (add_failure p Died)) s ps in
    let a : Goes 0 s t = fold_free (λ t p. with_waiting t g (add_failure p Died)) (λ t p h. goes_waits_failure t g p Died h) ps s k in
    then_free 0 s t (phase_reopened f t g (is_some st.running)) a (goes_reopened f t g (is_some st.running) a.stands)

goes_groups_led : (f : Answering) (s : Core) → Stands s → Goes 0 s (lead_groups f s)
unfolding lead_groups
goes_groups_led f s k = fold_free (lead f) (goes_group_led f) (led_groups s) s k

-- ---- the whole

pub moves_entered : (f : Answering) (s : Core) (i : Install) (xs : List Lacking) → Fine s.views.view i → lacking s i ≡ Some xs → Stands s → Moves (1 + length s.sessions.requests + length s.sessions.kept) s (entered f s i xs)
unfolding entered lacking
moves_entered f s i xs fine e k =
    let t : Core = fill_lists f s xs in
    let ft : FilledAll s t = filled f s (parts_from i s.views.view) xs fine.apart e k in
    let bs : List Base = bases_of i in
    let u : Core = view_entered t i bs in
    let hu : Holds 0 t u = holds_entered s.views.view t i fine in
    let w : Core = sides_dissolved u (held_rows t) t.views.view bs in
    let hw : Holds 0 u w = holds_sides u (held_rows t) t.views.view bs hu.stands in
    let x : Core = entering_noted w bs in
    let hx : Holds 0 w x = holds_noted w bs hw.stands in
    let y : Core = taken_sent x in
    let hy : Holds 1 x y = holds_taken x hx.stands in
    let z : Core = owed_sent y in
    let gz : Goes (length y.sessions.requests + length y.sessions.kept) y z = goes_owed y hy.stands in
    let gl : Goes 0 z (lead_groups f z) = goes_groups_led f z gz.stands in
    let su : Holds 0 s u = holds_free s t u ft.holds hu in
    let sw : Holds 0 s w = holds_free s u w su hw in
    let sx : Holds 0 s x = holds_free s w x sw hx in
    let sy : Holds 1 s y = holds_then 0 1 s x y sx hy in
    record { within = omega (arith, sy.within, gz.within, gl.within); stands = gl.stands; lasts = λ h. gl.lasts (gz.lasts (sy.lasts h)) }

moves_applied : (f : Answering) (s : Core) (o : Option Install) → FineIf s.views.view o → Stands s → Moves (1 + length s.sessions.requests + length s.sessions.kept) s (apply_install f s o)
unfolding apply_install entered_if
moves_applied f s None fine k = record { within = omega arith; stands = k; lasts = λ h. h }
moves_applied f s (Some i) fine k = by (lacking s i) refl
  where
    by : (o : Option (List Lacking)) → lacking s i ≡ o → Moves (1 + length s.sessions.requests + length s.sessions.kept) s (entered_if f s i o)
    by None e = record { within = omega arith; stands = k; lasts = λ h. h }
    by (Some xs) e = moves_entered f s i xs fine e k

pub stands_views : (s : Core) (v : Views) → v.members ≡ s.views.members → Stands s → Stands (record s { views = v })
unfolding state_of list_of row_of
stands_views s v e k = record { few = subst (λ ms. length ms ≤ 32) (sym e) k.few; order = k.order; room = k.room }

lasts_views : (s : Core) (v : Views) → FewViews v → Lasting s → Lasting (record s { views = v })
unfolding row_of
lasts_views s v few h = record { rings = h.rings; waits = h.waits; views = few; sent = h.sent }

stands_sends : (s t : Core) → Sends s t → Stands s → Stands t
unfolding Sends state_of list_of row_of
stands_sends s t a k = subst Stands (sym a.1) (record { few = k.few; order = k.order; room = k.room })

lasts_sends : (s t : Core) → Sends s t → Lasting s → FewSent t.sends → Lasting t
unfolding Sends row_of
lasts_sends s t a h few =
    subst Lasting (sym a.1) (record { rings = h.rings; waits = h.waits; views = h.views; sent = subst FewSent (ap (λ (z : Core). z.sends) a.1) few })

-- ---- what a rule of views sends

-- packets of views are sent one after another
record SentViews (ws : List ViewSend) (s t : Core) : Type 0 where
  long : length t.sends ≡ length s.sends + length ws
  sends : Sends s t
  few : ((x : ViewSend) → Has x ws → FewView x.packet) → FewSent s.sends → FewSent t.sends

abbrev pub view_step : Core → ViewSend → Core
view_step t x = sent t x.to (body.View x.packet)

sent_views : (ws : List ViewSend) (s : Core) → SentViews ws s (fold view_step s ws)
unfolding sent send_on packet_on
sent_views [] s = record { long = omega arith; sends = sends_none s; few = λ a b. b }
sent_views (x ∷ ws) s =
    let t : Core = view_step s x in
    let r : SentViews ws t (fold view_step t ws) = sent_views ws t in
    let p : Packet = packet_on s (network_to s x.to) x.to (body.View x.packet) in
    record {
      long = omega (arith, r.long, length-append s.sends (p ∷ []));
      sends = sends_then s t (fold view_step t ws) (sends_sent s x.to (body.View x.packet)) r.sends;
      few = λ a b. r.few (λ y i. a y (inr i)) (sent_few s.sends p (a x (inl refl)) b);
    }

-- a rule of views, up to the install that it applies
pub record Viewed (c : ℕ) (s t : Core) (v : Views) : Type 0 where
  pub within : Within c s t
  pub stands : Stands t
  pub lasts : Lasting s → Lasting t
  pub sends : Sends (record s { views = v }) t

pub row_viewed : (c : ℕ) (s : Core) (w : ViewWork) → Works c (views_at_work s.views) w → (FewWork (views_at_work s.views) → FewWork w) → Stands s → Viewed c s (fold view_step (record s { views = w.views }) w.sends) w.views
row_viewed c s w works few k =
    let a : Core = record s { views = w.views } in
    let t : Core = fold view_step a w.sends in
    let z : SentViews w.sends a t = sent_views w.sends a in
    record {
      within = by t z.sends z.long works.sends;
      stands = stands_sends a t z.sends (stands_views s w.views works.members k);
      lasts = λ h. let y = few (record { views = h.views; sends = λ x i. absurd i }) in lasts_sends a t z.sends (lasts_views s w.views y.views h) (z.few y.sends h.sent);
      sends = z.sends;
    }
  where
    by : (t : Core) → Sends (record s { views = w.views }) t → length t.sends ≡ length s.sends + length w.sends → length w.sends ≤ 0 + c → Within c s t
    by t e long few =
        let g : waits_of t.groups ≡ waits_of s.groups = ap waits_of (groups_same (record s { views = w.views }) t e) in
        let r : puts_of t.records ≡ puts_of s.records = ap puts_of (records_same (record s { views = w.views }) t e) in
        omega (arith, long, few, g, r)

-- a rule of views, with the install that it applies
pub moves_taken : (c : ℕ) (f : Answering) (s : Core) (w : ViewWork) → Works c (views_at_work s.views) w → (FewWork (views_at_work s.views) → FewWork w) → FineIf s.views.view w.install → Stands s → Moves (c + 1 + length s.sessions.requests + length s.sessions.kept) s (views_taken f s w)
unfolding views_taken
moves_taken c f s w works few fine k =
    let a : Core = record s { views = w.views } in
    let t : Core = fold view_step a w.sends in
    let gt : Viewed c s t w.views = row_viewed c s w works few k in
    let same : t.sessions ≡ s.sessions = sessions_same a t gt.sends in
    let view : t.views.view ≡ s.views.view = ap (λ (v : Views). v.view) (views_same a t gt.sends) ∙ works.view in
    let r : length t.sessions.requests ≡ length s.sessions.requests = ap (λ (x : SessionState). length x.requests) same in
    let q : length t.sessions.kept ≡ length s.sessions.kept = ap (λ (x : SessionState). length x.kept) same in
    let m : Moves (1 + length t.sessions.requests + length t.sessions.kept) t (apply_install f t w.install) = moves_applied f t w.install (subst (λ v. FineIf v w.install) (sym view) fine) gt.stands in
    record { within = omega (arith, gt.within, m.within, r, q); stands = m.stands; lasts = λ h. m.lasts (gt.lasts h) }
