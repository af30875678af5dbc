-- What the rules of views do, change by change; and a whole step.
use Rattle.std.proofs.Common.{◌≡◌, ℕ, List, [], ◌∷◌, Option, Some, None, Bool, true, false, refl, sym, ap, ◌∙◌, subst, inl, inr, ⊎_elim}
use Rattle.std.specs.Prelude.{not, ◌==◌, ◌&&◌, filter, fold, flat_map, is_some}
use Rattle.std.specs.Str.{bytes_eq}
use Rattle.rsct_packet.specs.declared.ids.ViewId.{ViewId}
use Rattle.rsct_packet.specs.declared.ids.ProviderId.{ProviderId}
use Rattle.rsct_packet.specs.declared.mask.Mask.{Mask}
use Rattle.rsct_packet.specs.Providers.{among}
use Rattle.rsct_packet.specs.Search.{Has}
use Rattle.rsct_packet.proofs.HasLaws.{has_append}
use Rattle.group_attr.specs.Attrs.{host_membership}
use Rattle.proposal_core.specs.declared.proposal.Cause.TheVariants.{Died}
use Rattle.proposal_core.specs.declared.entry.Entry.{Entry}
use Rattle.proposal_core.specs.Fold.{present}
use Rattle.proposal_core.specs.Lists.{state_in}
use Rattle.batch_rules.specs.Waiting.{add_failure}
use Rattle.subscribe_core.specs.declared.subs.Subscription.{Subscription}
use Rattle.client_callbacks.specs.declared.told.Told.TheVariants as told
use Rattle.session_state.specs.declared.state.Provider.{Provider}
use Rattle.session_state.specs.State.{provider_of, outstanding}
use Rattle.view_state.specs.declared.answer.Answer.{Answer}
use Rattle.view_state.specs.declared.install.Install.{Install}
use Rattle.view_state.specs.declared.install.Base.{Base}
use Rattle.view_state.specs.Bases.{bases_of, base_named}
use Rattle.view_state.specs.declared.packet.ViewPacket.{ViewPacket}
use Rattle.view_state.specs.declared.packet.ViewPacket.TheVariants as packet
use Rattle.view_state.specs.declared.packet.ViewSend.{ViewSend}
use Rattle.view_core.specs.declared.step.ViewEvent.TheVariants as event
use Rattle.view_state.specs.declared.views.ViewWork.{ViewWork}
use Rattle.view_state.specs.Views.{views_entered, is_coordinator, is_frozen, install_again_of, view_sent_all, views_at_work, ask_rule, prepare_rule, answer_rule, refuse_rule, install_rule, taken_rule, gathering_ticks, install_again}
use Rattle.view_core.specs.Steps.{view_stepped}
use Rattle.view_core.specs.Steps as steps
use Rattle.view_core.specs.Laws.{AreViews, IsNext, AppliesNext, Goes}
use Rattle.view_core.proofs.Promises.{promises_stand, views_rise}
use Rattle.node_state.specs.declared.group.GroupRow.{GroupRow}
use Rattle.node_state.specs.declared.happened.Happened.{Happened}
use Rattle.node_state.specs.declared.happened.Happened.TheVariants as happened
use Rattle.node_state.specs.declared.packet.Body.{Body}
use Rattle.node_state.specs.declared.packet.Body.TheVariants as body
use Rattle.node_state.specs.declared.packet.Packet.{Packet}
use Rattle.node_state.specs.declared.state.Core.{Core}
use Rattle.node_state.specs.Settings.{is_fixed}
use Rattle.node_state.specs.State.{InNameOrder, state_of, len_of, list_of, row_of, held_rows, led_groups, recorded, recorded_all, with_sessions}
use Rattle.node_state.specs.Sending.{sent, send_requests, send_votes_again}
use Rattle.node_state.specs.HandOn.{Answering, note_of, subscriber_name}
use Rattle.node_state.specs.Leading.{put_and_hand, with_waiting, tally_opened, closes}
use Rattle.node_state.specs.Applying.{Lacking, lacking, own_parts, fill_lists, view_entered, is_in_base, number_of, dissolved, dissolved_if, group_dissolved, sides_dissolved, base_note, entering_note, entering_noted, taken_sent, owed_sent, wait_failed, phase_reopened, lead, lead_groups, entered, entered_if, apply_install, views_taken}
use Rattle.node_state.specs.Ticks.{ring_ask, tick_views, tick_rings, tick_owed, tick_led, tick_rule}
use Rattle.node_state.specs.Ending.{end_step}
use Rattle.node_state.specs.Status.{status_text}
use Rattle.node_state.specs.Calls.{take_call}
use Rattle.node_state.specs.Step.{NodeEvent, Ticks, Asks, Given, Calls, Garbage, is_used, used_if, take_order, view_rule, take_body, packet_rule, event_rule, stepped, at_work}
use Rattle.run_safety.specs.ViewOrder.{is_before, Lt}
use Rattle.step_refinement.proofs.BaseOrder.{bases_ordered}
use Rattle.row_laws.specs.hearing.Changes.{Same, Does, Stays, Then, Enters, Inner, entering, Unentered}
use Rattle.row_laws.proofs.hearing.Changes.{Sends, sends_nothing, sends_fold, sends_on, sends_one, Keeps, Onward, onward_same, onward_then, onward_sends, onward_records, put_handed_onward}
use Rattle.row_laws.proofs.hearing.Leading.{waits_onward, opened_onward, end_onward}
use Rattle.row_laws.proofs.hearing.Rules.{OneOwner, onward_fold, owed_sends, owed_part_onward, lookup_onward, tell_onward, name_onward, request_onward, entry_onward, ack_onward, closes_on, vote_onward, gone_onward, ring_onward, report_onward, rings_onward, led_part_onward, call_onward}
use Rattle.row_laws.proofs.hearing.InView.{stay_asks, stay_prepares, stay_answers, stay_refuses, stay_installs, stay_takes, stay_ticks, stay_reminds}

-- rows stand in the order of their names, and the promise is no less than the view
pub record Fit (c : Core) : Type 0 where
  pub order : InNameOrder c.groups
  pub views : AreViews c.views

-- no view was entered in the event
abbrev pub NoneEntered : Core → Type 0
NoneEntered c = (r : Happened) → Has r c.records → Unentered r

-- what comes of it all, where a view is entered at most once
pub data Once (c d : Core) : Type 0 where
  Stayed : Does c d → d.views.view ≡ c.views.view → Once c d
  Entered : (t : Core) (i : Install) → Does c t → t.views.view ≡ c.views.view → Lt t.views.view i.view → NoneEntered t → Does (entering t i) d → d.views.view ≡ i.view → Once c d

pub record Makes (c d : Core) : Type 0 where
  pub fit : Fit d
  pub once : Once c d

-- what a row makes of a state that fits
abbrev pub Comes : Core → Core → Type 0
Comes c d = Fit c → Makes c d

pub once_does : (c d : Core) → Once c d → Does c d
once_does c d (Stayed a e) = a
once_does c d (Entered t i a e lt none b q) = Then c t d a (Then t (entering t i) d (Enters t i lt none) b)

once_before : (a b c : Core) → Does a b → b.views.view ≡ a.views.view → Once b c → Once a c
once_before a b c d e (Stayed x q) = Stayed (Then a b c d x) (q ∙ e)
once_before a b c d e (Entered t i x q lt none y r) = Entered t i (Then a b t d x) (q ∙ e) lt none y r

once_after : (a b c : Core) → Once a b → Does b c → c.views.view ≡ b.views.view → Once a c
once_after a b c (Stayed x q) d e = Stayed (Then a b c x d) (e ∙ q)
once_after a b c (Entered t i x q lt none y r) d e = Entered t i x q lt none (Then (entering t i) b c y d) (e ∙ r)

-- no view is entered
pub record Remains (c d : Core) : Type 0 where
  fit : Fit d
  does : Does c d
  view : d.views.view ≡ c.views.view

pub remains : (c d : Core) → Onward c d → Fit c → Remains c d
remains c d k h =
    let x = k h.order in
    record { fit = record { order = x.order; views = subst AreViews (sym x.views) h.views }; does = x.does; view = ap (λ z. z.view) x.views }

pub comes_keeps : (c d : Core) → Onward c d → Comes c d
comes_keeps c d k h = let x = remains c d k h in record { fit = x.fit; once = Stayed x.does x.view }

pub comes_same : (c : Core) → Comes c c
comes_same c = comes_keeps c c (onward_same c)

pub comes_before : (a b c : Core) → Onward a b → Comes b c → Comes a c
comes_before a b c p q h =
    let x = remains a b p h in
    let y = q x.fit in record { fit = y.fit; once = once_before a b c x.does x.view y.once }

pub comes_remains : (a b c : Core) → Comes a b → (Fit b → Remains b c) → Comes a c
comes_remains a b c p q h =
    let x = p h in
    let y = q x.fit in record { fit = y.fit; once = once_after a b c x.once y.does y.view }

pub comes_after : (a b c : Core) → Comes a b → Onward b c → Comes a c
comes_after a b c p q = comes_remains a b c p (remains b c q)

-- ---- entering a view

pub filled_onward : (f : Answering) (xs : List Lacking) (c : Core) → Onward c (fill_lists f c xs)
unfolding fill_lists
filled_onward f xs c =
    onward_fold (λ t (x : Lacking). fold (λ u e. put_and_hand f u None x.name e) t x.entries) (λ t x. onward_fold (λ u (e : Entry). put_and_hand f u None x.name e) (λ u e. put_handed_onward f u None x.name e) x.entries t) xs c

-- who is dissolved leaves rows and views as they are
pub record Stands (c d : Core) : Type 0 where
  pub groups : d.groups ≡ c.groups
  pub views : d.views ≡ c.views

pub stands_fold : {A : Type 0} (f : Core → A → Core) → ((c : Core) (x : A) → Stands c (f c x)) → (xs : List A) (c : Core) → Stands c (fold f c xs)
stands_fold f one [] c = record { groups = refl; views = refl }
stands_fold f one (x ∷ xs) c =
    let a = one c x in
    let b = stands_fold f one xs (f c x) in record { groups = b.groups ∙ a.groups; views = b.views ∙ a.views }

pub dissolved_stands : (c : Core) (h : List ℕ) (old : ViewId) (b : Option Base) (o : Option Provider) → Stands c (dissolved_if c h old b o)
unfolding dissolved_if dissolved recorded with_sessions
dissolved_stands c h old b None = record { groups = refl; views = refl }
dissolved_stands c h old b (Some x) = by (x.takes_part && bytes_eq x.group h && not (is_in_base old x.provider b))
  where
    by : (t : Bool) → Stands c (elim t as (λ _. Core) [ true ↦ dissolved c x.provider (number_of (outstanding c.sessions x.provider)) | false ↦ c ])
    by true = record { groups = refl; views = refl }
    by false = record { groups = refl; views = refl }

pub sides_stand : (c : Core) (rows : List GroupRow) (old : ViewId) (bs : List Base) → Stands c (sides_dissolved c rows old bs)
unfolding sides_dissolved group_dissolved
sides_stand c rows old bs =
    stands_fold (group_dissolved old bs) (λ t row. stands_fold (λ (u : Core) p. dissolved_if u row.name old (base_named bs row.name) (provider_of u.sessions p)) (λ u p. dissolved_stands u row.name old (base_named bs row.name) (provider_of u.sessions p)) (present (state_in row.list)) t) rows c

pub noted_onward : (c : Core) (bs : List Base) → Onward c (entering_noted c bs)
unfolding entering_noted base_note note_of entering_note
noted_onward c bs = onward_records (flat_map (entering_note c bs) c.sessions.subs.live) c (all c.sessions.subs.live)
  where
    of_base : (u : Subscription) (o : Option Base) (r : Happened) → Has r (base_note c u o) → Inner r
    of_base u None r k = absurd k
    of_base u (Some b) r (inl e) = subst Inner (sym e) tt
    of_base u (Some b) r (inr z) = absurd z

    one : (u : Subscription) (t : Bool) (r : Happened) → Has r (elim t as (λ _. List Happened) [ true ↦ happened.Noted c.views.me (subscriber_name c.sessions u) c.views.view None (told.Hosts c.views.view c.views.members) ∷ [] | false ↦ base_note c u (base_named bs u.group) ]) → Inner r
    one u true r (inl e) = subst Inner (sym e) tt
    one u true r (inr z) = absurd z
    one u false r k = of_base u (base_named bs u.group) r k

    all : (us : List Subscription) (r : Happened) → Has r (flat_map (entering_note c bs) us) → Inner r
    all [] r k = absurd k
    all (u ∷ us) r k =
        ⊎_elim (λ (a : Has r (entering_note c bs u)). one u (bytes_eq u.group host_membership) r a) (λ (b : Has r (flat_map (entering_note c bs) us)). all us r b) (has_append r (entering_note c bs u) (flat_map (entering_note c bs) us) k)

pub taken_sends : (c : Core) → Sends c (taken_sent c)
unfolding taken_sent
taken_sends c = by (c.views.view.coord == c.views.me)
  where
    by : (b : Bool) → Sends c (elim b as (λ _. Core) [ true ↦ c | false ↦ sent c c.views.view.coord (body.View (packet.Taken c.views.view)) ])
    by true = sends_nothing c
    by false = sends_one c _ _

pub group_led_onward : (f : Answering) (c : Core) (h : List ℕ) → Onward c (lead f c h)
unfolding lead wait_failed phase_reopened
group_led_onward f c h =
    let out : List ProviderId = filter (among (state_of c h).members) (state_of c h).failed in
    let d : Core = fold (λ t p. with_waiting t h (add_failure p Died)) c out in
    onward_then c d (phase_reopened f d h (is_some (state_of c h).running)) (onward_fold (λ t (p : ProviderId). with_waiting t h (add_failure p Died)) (λ t p. waits_onward t h p Died) out c) (by d (is_some (state_of c h).running))
  where
    by : (d : Core) (b : Bool) → Onward d (phase_reopened f d h b)
    by d false = onward_same d
    by d true = onward_then d (tally_opened d h) (closes f (tally_opened d h) h) (opened_onward d h) (closes_on f (tally_opened d h) h)

pub entered_comes : (f : Answering) (c : Core) (i : Install) (xs : List Lacking) → NoneEntered c → IsNext c.views i.view → Comes c (entered f c i xs)
unfolding entered owed_sent lead_groups view_entered views_entered recorded_all is_before
entered_comes f c i xs none next h =
    let filled : Keeps c t = filled_onward f xs c h.order in
    let here : IsNext t.views i.view = subst (λ v. IsNext v i.view) (sym filled.views) next in
    let stands = sides_stand (view_entered t i bs) (held_rows t) t.views.view bs in
    let fit : Fit e = record { order = subst InNameOrder (sym stands.groups) now_order; views = subst AreViews (sym stands.views) (now_views here) } in
    let rest : Remains e last = remains e last (onward_then e n last (noted_onward e bs) (onward_then n k last (onward_sends n k (taken_sends n)) (onward_then k o last (onward_sends k o (owed_sends k)) (onward_fold (lead f) (group_led_onward f) (led_groups o) o)))) fit in
    record { fit = rest.fit; once = Entered t i filled.does (ap (λ z. z.view) filled.views) (lt here) (λ r k. ⊎_elim (λ (a : Has r c.records). none r a) (λ (a : Unentered r). a) (filled.calm r k)) rest.does (rest.view ∙ ap (λ z. z.view) stands.views ∙ now_view) }
  where
    t : Core
    t = fill_lists f c xs

    bs : List Base
    bs = bases_of i

    e : Core
    e = sides_dissolved (view_entered t i bs) (held_rows t) t.views.view bs

    n : Core
    n = entering_noted e bs

    k : Core
    k = taken_sent n

    o : Core
    o = send_votes_again (send_requests k)

    last : Core
    last = fold (lead f) o (led_groups o)

    now_order : InNameOrder (view_entered t i bs).groups
    now_order = bases_ordered i

    now_views : IsNext t.views i.view → AreViews (view_entered t i bs).views
    now_views here = (views_rise t.views i here).views

    now_view : (view_entered t i bs).views.view ≡ i.view
    now_view = refl

    lt : IsNext t.views i.view → Lt t.views.view i.view
    lt here = here.above

-- ---- what a rule of views leaves

pub taken_comes : (f : Answering) (c : Core) (w : ViewWork) → NoneEntered c → (AreViews c.views → Goes c.views w) → w.views.me ≡ c.views.me → w.views.inc ≡ c.views.inc → Comes c (views_taken f c w)
unfolding views_taken len_of state_of list_of row_of entered_if apply_install
taken_comes f c w none goes me inc h =
    let k = goes h.views in
    let a : Fit d = record { order = h.order; views = k.views } in
    let sends : Sends d u = sends_fold (λ t (x : ViewSend). sent t x.to (body.View x.packet)) (λ t x. sends_one t _ _) w.sends d in
    let rest : Makes d (apply_install f u w.install) = comes_before d u (apply_install f u w.install) (onward_sends d u sends) (by w.install (subst (λ v. AppliesNext v w.install) (sym sends.views) k.applies)) a in
    record { fit = rest.fit; once = once_before c d (apply_install f u w.install) (Stays c d (same k.view)) k.view rest.once }
  where
    d : Core
    d = record c { views = w.views }

    u : Core
    u = fold (λ t (x : ViewSend). sent t x.to (body.View x.packet)) d w.sends

    same : w.views.view ≡ c.views.view → Same c d
    same view = record { me = me; inc = inc; view = view; sessions = refl; records = refl; lens = λ j. refl; states = λ j. refl }

    calm : Sends d u
    calm = sends_fold (λ t (x : ViewSend). sent t x.to (body.View x.packet)) (λ t x. sends_one t _ _) w.sends d

    if_lacking : (i : Install) (o : Option (List Lacking)) → IsNext u.views i.view → Comes u (entered_if f u i o)
    if_lacking i None next = comes_same u
    if_lacking i (Some xs) next = entered_comes f u i xs (λ r k. none r (subst (Has r) calm.records k)) next

    by : (o : Option Install) → AppliesNext u.views o → Comes u (apply_install f u o)
    by None next = comes_same u
    by (Some i) next = if_lacking i (lacking u i) next

-- where no install is to be applied, the view stays
pub taken_remains : (f : Answering) (c : Core) (w : ViewWork) → (AreViews c.views → Goes c.views w) → w.views.me ≡ c.views.me → w.views.inc ≡ c.views.inc → w.install ≡ None → Fit c → Remains c (views_taken f c w)
unfolding views_taken len_of state_of list_of row_of apply_install
taken_remains f c w goes me inc none h =
    let k = goes h.views in
    let x = remains d u (onward_sends d u sends) (record { order = h.order; views = k.views }) in
    subst (λ o. Remains c (apply_install f u o)) (sym none) (record { fit = x.fit; does = Then c d u (Stays c d (record { me = me; inc = inc; view = k.view; sessions = refl; records = refl; lens = λ j. refl; states = λ j. refl })) x.does; view = x.view ∙ k.view })
  where
    d : Core
    d = record c { views = w.views }

    u : Core
    u = fold (λ t (x : ViewSend). sent t x.to (body.View x.packet)) d w.sends

    sends : Sends d u
    sends = sends_fold (λ t (x : ViewSend). sent t x.to (body.View x.packet)) (λ t x. sends_one t _ _) w.sends d

-- the rules of views: their promise stands, and what is to be applied comes next
module _ (f : Answering) (c : Core) (none : NoneEntered c) where
  ask_comes : (mask : Mask) → Comes c (views_taken f c (ask_rule (views_at_work c.views) mask (own_parts c)))
  unfolding view_stepped steps.view_rule
  ask_comes mask =
      let k = stay_asks (views_at_work c.views) mask (own_parts c) in
      taken_comes f c (ask_rule (views_at_work c.views) mask (own_parts c)) none (λ a. promises_stand c.views (event.Ask mask) (own_parts c) a) k.0 k.2

  pub order_comes : (mask : Mask) → Comes c (take_order f c mask)
  unfolding take_order
  order_comes mask = by (is_fixed c.config.mode)
    where
      by : (b : Bool) → Comes c (elim b as (λ _. Core) [ true ↦ c | false ↦ views_taken f c (ask_rule (views_at_work c.views) mask (own_parts c)) ])
      by true = comes_same c
      by false = ask_comes mask

  pub view_comes : (from inc : ℕ) (y : ViewPacket) → Comes c (view_rule f c from inc y)
  unfolding view_rule view_stepped steps.view_rule
  view_comes from inc (packet.Prepare v mask) =
      let k = stay_prepares (views_at_work c.views) from inc v mask (own_parts c) in
      taken_comes f c (prepare_rule (views_at_work c.views) from inc v mask (own_parts c)) none (λ a. promises_stand c.views (event.Prepare from inc v mask) (own_parts c) a) k.0 k.2
  view_comes from inc (packet.Answer v old parts) =
      let x : Answer = record { node = from; inc = inc; view = old; parts = parts } in
      let k = stay_answers (views_at_work c.views) v x in
      taken_comes f c (answer_rule (views_at_work c.views) v x) none (λ a. promises_stand c.views (event.Answer from inc v (record { view = old; parts = parts })) (own_parts c) a) k.0 k.2
  view_comes from inc (packet.Refuse v n) =
      let k = stay_refuses (views_at_work c.views) v n in
      taken_comes f c (refuse_rule (views_at_work c.views) v n) none (λ a. promises_stand c.views (event.Refuse v n) (own_parts c) a) k.0 k.2
  view_comes from inc (packet.Install i) =
      let k = stay_installs (views_at_work c.views) i in
      taken_comes f c (install_rule (views_at_work c.views) i) none (λ a. promises_stand c.views (event.Install i) (own_parts c) a) k.0 k.2
  view_comes from inc (packet.Taken v) =
      let k = stay_takes (views_at_work c.views) from v in
      taken_comes f c (taken_rule (views_at_work c.views) from v) none (λ a. promises_stand c.views (event.Taken from v) (own_parts c) a) k.0 k.2

  tick_comes : Comes c (views_taken f c (gathering_ticks (views_at_work c.views) (ring_ask c) (own_parts c)))
  unfolding view_stepped steps.view_rule
  tick_comes =
      let k = stay_ticks (views_at_work c.views) (ring_ask c) (own_parts c) in
      taken_comes f c (gathering_ticks (views_at_work c.views) (ring_ask c) (own_parts c)) none (λ a. promises_stand c.views (event.Tick (ring_ask c)) (own_parts c) a) k.0 k.2

module _ (f : Answering) (c : Core) where
  pub reminds_only : (install_again (views_at_work c.views)).install ≡ None
  unfolding install_again install_again_of view_sent_all
  reminds_only = by (is_coordinator c.views && not (is_frozen c.views))
    where
      w : ViewWork
      w = views_at_work c.views

      at : (o : Option Install) → (install_again_of w o).install ≡ None
      at None = refl
      at (Some i) = refl

      by : (b : Bool) → (elim b as (λ _. ViewWork) [ true ↦ install_again_of w c.views.install | false ↦ w ]).install ≡ None
      by true = at c.views.install
      by false = refl

  pub remind_remains : Fit c → Remains c (views_taken f c (install_again (views_at_work c.views)))
  unfolding view_stepped steps.view_rule
  remind_remains =
      let k = stay_reminds (views_at_work c.views) in
      taken_remains f c (install_again (views_at_work c.views)) (λ a. promises_stand c.views event.Remind (own_parts c) a) k.0 k.2 reminds_only

pub views_part_comes : (f : Answering) (c : Core) → NoneEntered c → Comes c (tick_views f c)
unfolding tick_views
views_part_comes f c none =
    let t : Core = views_taken f c (gathering_ticks (views_at_work c.views) (ring_ask c) (own_parts c)) in
    comes_remains c t (views_taken f t (install_again (views_at_work t.views))) (tick_comes f c none) (remind_remains f t)

-- ---- a whole step

pub used_comes : (c d : Core) (b : Bool) → Comes c d → Comes c (used_if c d b)
unfolding used_if
used_comes c d true k = k
used_comes c d false k = comes_same c

module _ (f : Answering) (c : Core) (none : NoneEntered c) where
  body_comes : (p : Packet) (b : Body) → Comes c (take_body f c p b)
  unfolding take_body
  body_comes p (body.Ring x) = comes_keeps c _ (ring_onward c p.network p.from p.inc x)
  body_comes p (body.Report rows) = comes_keeps c _ (report_onward c rows)
  body_comes p (body.View x) = view_comes f c none p.from p.inc x
  body_comes p (body.Lookup v g) = used_comes c _ (is_used c p v) (comes_keeps c _ (lookup_onward c p.from g))
  body_comes p (body.Name v g n) = used_comes c _ (is_used c p v) (comes_keeps c _ (name_onward c g n))
  body_comes p (body.Request v g q r phases x) = used_comes c _ (is_used c p v) (comes_keeps c _ (request_onward f c p.from g q r phases x))
  body_comes p (body.Tell v g q r y) = used_comes c _ (is_used c p v) (comes_keeps c _ (tell_onward c q r y))
  body_comes p (body.Entry v g place stable e) = used_comes c _ (is_used c p v) (comes_keeps c _ (entry_onward f c p.from g place stable e))
  body_comes p (body.Ack v g n) = used_comes c _ (is_used c p v) (comes_keeps c _ (ack_onward c p.from g n))
  body_comes p (body.Vote v g proto phase q vote value message) = used_comes c _ (is_used c p v) (comes_keeps c _ (vote_onward f c g proto phase q vote value message))
  body_comes p (body.Gone v g q) = used_comes c _ (is_used c p v) (comes_keeps c _ (gone_onward f c g q))
  body_comes p (body.Query question what) = comes_keeps c _ (onward_sends c _ (sends_on c p.network p.from (body.Reply question (status_text c what))))
  body_comes p (body.Reply question text) = comes_same c

  packet_comes : (p : Packet) → Comes c (packet_rule f c p)
  unfolding packet_rule
  packet_comes p = by (p.to == c.views.me)
    where
      by : (b : Bool) → Comes c (elim b as (λ _. Core) [ true ↦ take_body f c p p.body | false ↦ c ])
      by true = body_comes p p.body
      by false = comes_same c

  ended_comes : (d : Core) → Comes c d → Comes c (end_step f d)
  ended_comes d k = comes_after c d (end_step f d) k (end_onward f d)

  event_comes : (e : NodeEvent) → OneOwner c.sessions → c.records ≡ [] → InNameOrder c.groups → Comes c (event_rule f c e)
  unfolding event_rule tick_rule
  event_comes Ticks own empty order =
      let a : Core = tick_rings c in
      let b : Core = tick_views f a in
      let d : Core = tick_owed b in
      let e : Core = tick_led f d in
      ended_comes e (comes_before c a e (rings_onward c) (comes_after a b e (views_part_comes f a (λ r k. ⊎_elim (λ (i : Has r c.records). none r i) (λ (u : Unentered r). u) ((rings_onward c order).calm r k))) (onward_then b d e (owed_part_onward b) (led_part_onward f d))))
  event_comes (Asks mask) own empty order = ended_comes (take_order f c mask) (order_comes f c none mask)
  event_comes (Given p) own empty order = ended_comes (packet_rule f c p) (packet_comes p)
  event_comes (Calls x) own empty order = ended_comes (take_call c x) (comes_keeps c (take_call c x) (call_onward c x own empty))
  event_comes Garbage own empty order = ended_comes c (comes_same c)

-- a step, from a state that fits
pub step_comes : (f : Answering) (c : Core) (e : NodeEvent) → OneOwner c.sessions → Fit c → Makes (at_work c) (stepped f c e)
unfolding stepped
step_comes f c e own h = event_comes f (at_work c) (λ r k. absurd k) e own refl h.order (record { order = h.order; views = h.views })
