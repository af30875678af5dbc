-- A whole step keeps what a leader counts.
use Rattle.std.proofs.Common.{◌≡◌, ℕ, List, [], ◌++◌, Option, Some, Bool, true, false, refl, sym, ◌∙◌, subst, arith}
use Rattle.std.specs.Prelude.{◌==◌, reverse}
use Rattle.std.proofs.lemmas.Bool.{eqb-true}
use Rattle.rsct_packet.specs.declared.ids.ViewId.{ViewId}
use Rattle.rsct_packet.specs.declared.mask.Mask.{Mask}
use Rattle.rsct_packet.specs.Search.{Has}
use Rattle.rsct_packet.proofs.HasLaws.{append_has_right}
use Rattle.proposal_core.specs.declared.entry.Entry.{Entry}
use Rattle.view_state.specs.declared.install.Install.{Install}
use Rattle.view_state.specs.declared.exchange.Exchange.{Exchange}
use Rattle.view_state.specs.Answers.{opened, with_answer, install_of}
use Rattle.view_state.specs.declared.packet.ViewPacket.{ViewPacket}
use Rattle.view_state.specs.declared.packet.ViewPacket.TheVariants as view
use Rattle.view_state.specs.declared.views.ViewWork.{ViewWork}
use Rattle.view_state.specs.Views.{views_at_work, own_answer, next_view, gathering_ticks, install_again, ask_rule, prepare_rule, answer_rule, refuse_rule, install_rule, taken_rule}
use Rattle.node_state.specs.declared.packet.Body.{Body}
use Rattle.node_state.specs.declared.packet.Body.TheVariants as body
use Rattle.node_state.specs.declared.packet.Packet.{Packet}
use Rattle.node_state.specs.declared.state.Core.{Core}
use Rattle.node_state.specs.Settings.{is_fixed}
use Rattle.node_state.specs.State.{row_of, list_of, len_of}
use Rattle.node_state.specs.HandOn.{Answering}
use Rattle.node_state.specs.Following.{take_lookup, take_name, take_request, take_tell, take_entry, take_ack, take_vote, take_gone}
use Rattle.node_state.specs.Applying.{own_parts, views_taken}
use Rattle.node_state.specs.Status.{status_text}
use Rattle.node_state.specs.Ticks.{ring_ask, tick_rings, tick_views, tick_owed}
use Rattle.node_state.specs.Step.{NodeEvent, Ticks, Asks, Given, Calls, Garbage, is_used, used_if, take_order, view_rule, take_body, packet_rule, stepped, at_work}
use Rattle.world_model.specs.declared.event.Event.{Event}
use Rattle.run_safety.specs.Past.{records_of}
use Rattle.step_refinement.proofs.Steps.{stepped_is}
use Rattle.step_refinement.specs.Tied.{ShowsBody, ShowsEntry, Scene, Tied}
use Rattle.step_refinement.specs.Rules.{acted, Arises}
use Rattle.step_refinement.proofs.Acks.{used_is}
use Rattle.step_refinement.proofs.Rings.{rings_part_tied}
use Rattle.step_refinement.proofs.ViewTicks.{rings_free}
use Rattle.step_refinement.proofs.Gatherings.{counted_tied, opened_tied}
use Rattle.step_refinement.proofs.Founding.{lacking_same}
use Rattle.entry_laws.proofs.closing_rows.Quiet.{at_sent_on, at_tell, at_ring, at_report, at_rings_part, at_call}
use Rattle.entry_laws.proofs.closing_rows.Calms.{owed_part_calm}
use Rattle.entry_laws.specs.late_rows.Late.{tick_of, PutBefore}
use Rattle.entry_laws.proofs.late_rows.At.{Turn, At, keeps_quiet}
use Rattle.entry_laws.proofs.late_rows.Ending.{Every, NoGroup, at_step_ended}
use Rattle.entry_laws.proofs.late_rows.Brought.{Brings, sent_before, sent_brings, made_brings}
use Rattle.entry_laws.proofs.late_rows.ViewWorks.{Work, Alone, begun_work, ask_work, prepare_work, answer_work, refuse_work, install_work, taken_work, ticks_work, install_again_work}
use Rattle.entry_laws.proofs.late_rows.Entering.{Brought, Fresh, at_views_taken}
use Rattle.entry_laws.proofs.late_rows.Ticking.{Unticked, at_led_part}
use Rattle.entry_laws.proofs.late_rows.Following.{at_lookup, at_name, at_request, at_entry, at_ack, at_vote, at_gone}
use Rattle.row_laws.proofs.honest_votes.Steps.{entry_follows, request_leads}

-- an entry that comes at a list's end was put before
entry_before : (v : ViewId) (g : List ℕ) (place stable : ℕ) (e : Entry) (w : Scene) (n : ℕ) (s : Core) (p : Packet) → p.body ≡ body.Entry v g place stable e → Has p w.sent → Tied g w n s → is_used s p v ≡ true → (place == len_of s g) ≡ true → PutBefore (reverse s.records ++ records_of w.before) s.views.view g (len_of s g)
entry_before v g place stable e w n s p is delivered t used at =
    let k = used_is s p v used in
    let shown : ShowsEntry t.ghost p.from p.inc v place stable e = (subst (ShowsBody t.ghost g p.from p.inc p.to) is (t.packets p (append_has_right p s.sends w.sent delivered))) refl in
    let b : PutBefore (reverse s.records ++ records_of w.before) v g place = sent_before g w n s t v place e shown.sent in
    subst (λ (z : ViewId × ℕ). PutBefore (reverse s.records ++ records_of w.before) z.0 g z.1) (λ i. (k.0 i, eqb-true place (len_of s g) at i)) b

module _ (own : Option Event) (w : Scene) (n : ℕ) (f : Answering) (s : Core) (all : (h : List ℕ) → Tied h w n s) where
  abbrev x : Turn
  x = record { config = w.config; node = n; event = own; before = w.before }

  brought_of : (i : Install) → ((g : List ℕ) → Brings g w n s (all g) i) → Brought w.before s i
  brought_of i b = record { bound = λ g. (b g).bound; put = λ g j lt. (b g).put j lt; fits = λ xs e g. (b g).fits xs e }

  -- what is gathered to the end, as the node comes to it
  gathered_brings : (promise : ViewId) (e : Exchange) → ((g : List ℕ) → Tied g w n (record s { views = record (s.views) { promise = promise; gathering = Some e } })) → Brought w.before s (install_of e)
  unfolding len_of list_of row_of
  gathered_brings promise e tied =
      let c : Core = record s { views = record (s.views) { promise = promise; gathering = Some e } } in
      let b = λ (g : List ℕ). made_brings g w n c (tied g) e refl in
      record { bound = λ g. (b g).bound; put = λ g j lt. (b g).put j lt; fits = λ xs q g. (b g).fits xs (sym (lacking_same s c (install_of e) refl refl) ∙ q) }

  asked_alone : is_fixed s.config.mode ≡ false → (mask : Mask) → Alone (Brought w.before s) s.views s.views mask (own_parts s)
  asked_alone free mask there answered =
      gathered_brings (next_view s.views) (with_answer (opened (next_view s.views) mask) (own_answer s.views (own_parts s))) (λ g. opened_tied mask g w n s (all g) free there)

  -- the tick of views
  at_views_part : (T : List ℕ → ℕ → Type 0) → Fresh x T → At x T NoGroup ⊥ s → At x T NoGroup ⊥ (tick_views f s)
  unfolding tick_views
  at_views_part T fresh a =
      let work : ViewWork = gathering_ticks (views_at_work s.views) (ring_ask s) (own_parts s) in
      let t : Core = views_taken f s work in
      let k : At x T NoGroup ⊥ t = at_views_taken x T fresh f s work (ticks_work (Brought w.before s) s.views (views_at_work s.views) (ring_ask s) (own_parts s) (λ b e. asked_alone (rings_free s b e) b.mask) (begun_work (Brought w.before s) s.views)) a in
      at_views_taken x T fresh f t (install_again (views_at_work t.views)) (install_again_work (Brought w.before t) t.views (views_at_work t.views) (begun_work (Brought w.before t) t.views)) k

  module _ (a : At x Every NoGroup ⊥ s) where
    abbrev Full : Core → Type 0
    Full c = At x Every NoGroup ⊥ c

    used : (t : Core) (b : Bool) → (b ≡ true → Full t) → Full (used_if s t b)
    unfolding used_if
    used t true k = k refl
    used t false k = a

    fresh : Fresh x Every
    fresh g = ((0, refl), λ less e. omega arith)

    taken : (y : ViewWork) → Work (Brought w.before s) s.views y → Full (views_taken f s y)
    taken y k = at_views_taken x Every fresh f s y k a

    begun : Work (Brought w.before s) s.views (views_at_work s.views)
    begun = begun_work (Brought w.before s) s.views

    view_at : (p : Packet) (y : ViewPacket) → p.body ≡ body.View y → Has p w.sent → Full (view_rule f s p.from p.inc y)
    unfolding view_rule
    view_at p (view.Prepare v mask) is sent = taken (prepare_rule (views_at_work s.views) p.from p.inc v mask (own_parts s)) (prepare_work (Brought w.before s) s.views (views_at_work s.views) p.from p.inc v mask (own_parts s) begun)
    view_at p (view.Answer v old parts) is sent =
        taken (answer_rule (views_at_work s.views) v (record { node = p.from; inc = p.inc; view = old; parts = parts })) (answer_work (Brought w.before s) s.views (views_at_work s.views) v (record { node = p.from; inc = p.inc; view = old; parts = parts }) (λ e q r z. gathered_brings s.views.promise (with_answer e (record { node = p.from; inc = p.inc; view = old; parts = parts })) (λ g. counted_tied v old parts g w n s p is sent e q r (all g))) begun)
    view_at p (view.Refuse v k) is sent = taken (refuse_rule (views_at_work s.views) v k) (refuse_work (Brought w.before s) s.views (views_at_work s.views) v k begun)
    view_at p (view.Install i) is sent =
        taken (install_rule (views_at_work s.views) i) (install_work (Brought w.before s) s.views (views_at_work s.views) i (brought_of i (λ g. sent_brings g w n s (all g) i (subst (ShowsBody (all g).ghost g p.from p.inc p.to) is ((all g).packets p (append_has_right p s.sends w.sent sent))))) begun)
    view_at p (view.Taken v) is sent = taken (taken_rule (views_at_work s.views) p.from v) (taken_work (Brought w.before s) s.views (views_at_work s.views) p.from v begun)

    body_at : (p : Packet) (b : Body) → p.body ≡ b → p.to ≡ n → Has p w.sent → Full (take_body f s p b)
    unfolding take_body
    body_at p (body.Ring y) is to sent = at_ring (keeps_quiet x Every NoGroup ⊥) s p.network p.from p.inc y a
    body_at p (body.Report rows) is to sent = at_report (keeps_quiet x Every NoGroup ⊥) s rows a
    body_at p (body.View y) is to sent = view_at p y is sent
    body_at p (body.Lookup v g) is to sent = used (take_lookup s p.from g) (is_used s p v) (λ u. at_lookup x s p.from g a)
    body_at p (body.Name v g k) is to sent = used (take_name s g k) (is_used s p v) (λ u. at_name x s g k a)
    body_at p (body.Request v g q r phases y) is to sent =
        used (take_request f s p.from g q r phases y) (is_used s p v) (λ u. at_request x f s g (request_leads v g q r phases y w n s p is to sent (all g) u) p.from q r phases y a)
    body_at p (body.Tell v g q r why) is to sent = used (take_tell s q r why) (is_used s p v) (λ u. at_tell (keeps_quiet x Every NoGroup ⊥) s q r why a)
    body_at p (body.Entry v g i k e) is to sent =
        used (take_entry f s p.from g i k e) (is_used s p v) (λ u. at_entry x f s p.from g k e i (λ at. let before = entry_before v g i k e w n s p is sent (all g) u at in ((λ first. absurd (first before), λ first two. absurd (first before)), λ led. entry_follows v g i k e w n s p is sent (all g) u at led)) a)
    body_at p (body.Ack v g k) is to sent = used (take_ack s p.from g k) (is_used s p v) (λ u. at_ack x s p.from g k a)
    body_at p (body.Vote v g proto phase q ballot value message) is to sent =
        used (take_vote f s g proto phase q ballot value message) (is_used s p v) (λ u. at_vote x f s g proto phase q ballot value message a)
    body_at p (body.Gone v g q) is to sent = used (take_gone f s g q) (is_used s p v) (λ u. at_gone x f s g q a)
    body_at p (body.Query question what) is to sent = at_sent_on (keeps_quiet x Every NoGroup ⊥) s p.network p.from (body.Reply question (status_text s what)) a
    body_at p (body.Reply question text) is to sent = a

    order_at : (mask : Mask) → Full (take_order f s mask)
    unfolding take_order
    order_at mask = by (is_fixed s.config.mode) refl
      where
        by : (b : Bool) → is_fixed s.config.mode ≡ b → Full (elim b as (λ _. Core) [ true ↦ s | false ↦ views_taken f s (ask_rule (views_at_work s.views) mask (own_parts s)) ])
        by true e = a
        by false e = taken (ask_rule (views_at_work s.views) mask (own_parts s)) (ask_work (Brought w.before s) s.views (views_at_work s.views) mask (own_parts s) (asked_alone e mask) begun)

    given_at : (p : Packet) → Has p w.sent → Full (packet_rule f s p)
    unfolding packet_rule
    given_at p sent = by (p.to == s.views.me) refl
      where
        by : (b : Bool) → (p.to == s.views.me) ≡ b → Full (elim b as (λ _. Core) [ true ↦ take_body f s p p.body | false ↦ s ])
        by false e = a
        by true e = body_at p p.body refl (eqb-true p.to s.views.me e ∙ (all []).own.0.stands.me) sent

-- what is claimed as a step begins: a tick is still to count
abbrev pub Begins : NodeEvent → List ℕ → ℕ → Type 0
Begins Ticks g less = less ≡ 1
Begins _ g less = less ≡ 0

-- the event of a tick is one
abbrev pub TicksIn : ℕ → NodeEvent → Option Event → Type 0
TicksIn n Ticks own = tick_of n own ≡ 1
TicksIn n _ own = Unit {0}

module _ (own : Option Event) (w : Scene) (n : ℕ) (f : Answering) (s : Core) (all : (h : List ℕ) → Tied h w n s) where
  abbrev y : Turn
  y = record { config = w.config; node = n; event = own; before = w.before }

  acted_at : (e : NodeEvent) → Arises w e → TicksIn n e own → At y (Begins e) NoGroup ⊥ s → At y Every NoGroup ⊥ (acted f s e)
  acted_at Ticks arises noted a =
      let r : Core = tick_rings s in
      let tied : (h : List ℕ) → Tied h w n r = λ h. rings_part_tied h w n s (all h) in
      let fresh : Fresh y Unticked = λ g. ((1, refl), λ less q. omega arith) in
      let v : Core = tick_views f r in
      at_led_part y f (tick_owed v) ((keeps_quiet y Unticked NoGroup ⊥).calm v (tick_owed v) (owed_part_calm v) (at_views_part own w n f r tied Unticked fresh (at_rings_part (keeps_quiet y Unticked NoGroup ⊥) s a)))
  acted_at (Asks mask) arises noted a = order_at own w n f s all a mask
  acted_at (Calls c) arises noted a = at_call (keeps_quiet y Every NoGroup ⊥) s c a
  acted_at Garbage arises noted a = a
  acted_at (Given p) arises noted a = given_at own w n f s all a p arises

pub at_stepped : (own : Option Event) (w : Scene) (n : ℕ) (f : Answering) (s : Core) (e : NodeEvent) → ((h : List ℕ) → Tied h w n (at_work s)) → Arises w e → TicksIn n e own → At (record { config = w.config; node = n; event = own; before = w.before }) (Begins e) NoGroup ⊥ (at_work s) → At (record { config = w.config; node = n; event = own; before = w.before }) Every NoGroup ⊥ (stepped f s e)
at_stepped own w n f s e all arises noted a =
    let x : Turn = record { config = w.config; node = n; event = own; before = w.before } in
    subst (At x Every NoGroup ⊥) (sym (stepped_is f s e)) (at_step_ended x ⊥ f (acted f (at_work s) e) (acted_at own w n f (at_work s) all e arises noted a))
