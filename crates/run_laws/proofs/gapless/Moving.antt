-- A step as it goes: what comes before a view is entered, the view, and what comes after it; no refusal is that a group was dissolved,
-- and a call enters no view.
use Rattle.std.proofs.Common.{◌≡◌, ℕ, List, Option, Some, None, Bool, true, false, refl, sym, ap, ◌∙◌, subst}
use Rattle.std.specs.Prelude.{◌==◌, map, fold}
use Rattle.std.proofs.lemmas.Bool.{eqb-true}
use Rattle.rsct_packet.specs.declared.mask.Mask.{Mask}
use Rattle.rsct_packet.specs.Search.{Has}
use Rattle.rsct_packet.proofs.HasLaws.{has_map}
use Rattle.view_state.specs.declared.answer.Answer.{Answer}
use Rattle.view_state.specs.declared.install.Install.{Install}
use Rattle.view_state.specs.declared.install.Base.{Base}
use Rattle.view_state.specs.Bases.{bases_of}
use Rattle.view_state.specs.declared.packet.ViewPacket.{ViewPacket}
use Rattle.view_state.specs.declared.packet.ViewPacket.TheVariants as packet
use Rattle.view_state.specs.declared.packet.ViewSend.{ViewSend}
use Rattle.view_core.specs.declared.step.ViewEvent.TheVariants as event
use Rattle.view_state.specs.declared.views.ViewWork.{ViewWork}
use Rattle.view_state.specs.Views.{views_at_work, ask_rule, prepare_rule, answer_rule, refuse_rule, install_rule, taken_rule, gathering_ticks, install_again}
use Rattle.view_core.specs.Steps.{view_stepped}
use Rattle.view_core.specs.Steps as steps
use Rattle.view_core.specs.Laws.{AreViews, IsNext, AppliesNext, Goes}
use Rattle.view_core.proofs.Promises.{promises_stand}
use Rattle.node_state.specs.declared.group.Decision.{Decision}
use Rattle.node_state.specs.declared.group.GroupRow.{GroupRow}
use Rattle.node_state.specs.declared.packet.Body.{Body}
use Rattle.node_state.specs.declared.packet.Body.TheVariants as body
use Rattle.node_state.specs.declared.packet.Packet.{Packet}
use Rattle.node_state.specs.declared.state.Core.{Core}
use Rattle.node_state.specs.Settings.{is_fixed}
use Rattle.node_state.specs.State.{InNameOrder, row_of, list_of, state_of, len_of, held_rows, recorded_all}
use Rattle.node_state.specs.Sending.{sent}
use Rattle.node_state.specs.HandOn.{Answering}
use Rattle.node_state.specs.Applying.{Lacking, lacking, own_parts, fill_lists, base_row, view_entered, entered, entered_if, apply_install, views_taken}
use Rattle.node_state.specs.Ticks.{ring_ask, tick_rings, tick_views, tick_owed, tick_led, tick_rule}
use Rattle.node_state.specs.Step.{NodeEvent, Ticks, Asks, Given, Calls, Garbage, take_order, view_rule, take_body, packet_rule, event_rule, stepped, at_work}
use Rattle.node_state.specs.Ending.{end_step}
use Rattle.run_safety.specs.ViewOrder.{is_before, Lt}
use Rattle.row_laws.specs.hearing.Changes.{Same, Does, Stays, Then, entering}
use Rattle.row_laws.proofs.hearing.Changes.{Sends, sends_fold, sends_one, same_sends}
use Rattle.row_laws.proofs.hearing.Rules.{rings_onward}
use Rattle.row_laws.proofs.hearing.Viewing.{Fit, sides_stand, filled_onward, reminds_only}
use Rattle.row_laws.proofs.hearing.InView.{stay_asks, stay_prepares, stay_answers, stay_refuses, stay_installs, stay_takes, stay_ticks}
use Rattle.step_walk.proofs.Changes.{Fairly}
use Rattle.step_walk.proofs.Ending.{on_ended}
use Rattle.step_walk.proofs.Rules.{on_owed_part, on_led_part}
use Rattle.step_walk.proofs.Calling.{on_call}
use Rattle.step_walk.proofs.Entering.{on_filled, on_views_sent, on_rest, on_body}
use Rattle.run_laws.proofs.gapless.Fair.{FairBody, FairGiven, Speaks, Fair, fair_self, fair_then, fair_rules, fair_rings, fair_calls, fair_views}
use Rattle.run_laws.proofs.gapless.Tellings.{sides_send}

-- it is no packet of views
abbrev NoView : Body → Type 0
NoView (body.View x) = ⊥
NoView _ = Unit {0}

-- what holds of a node in the middle of a step, and goes on to hold up to where it enters a view
pub record Carries (Q : Core → Type 0) (f : Answering) : Type 0 where
  pub alike : (s t : Core) → Same s t → t.groups ≡ s.groups → Q s → Q t
  pub rings : (s : Core) → Q s → Q (tick_rings s)
  pub fills : (s : Core) (xs : List Lacking) → Q s → Q (fill_lists f s xs)

-- what comes of it all: no view is entered; or the node is at t then, enters a view, and goes on
pub data Moves (Q : Core → Type 0) (X : Type 0) (c d : Core) : Type 0 where
  Remains : Fair c d → Moves Q X c d
  Enters : X → (t : Core) (i : Install) → Does c t → Fair c t → Q t → t.views.view ≡ c.views.view → Lt t.views.view i.view → Fair (entering t i) d → Moves Q X c d

module _ (Q : Core → Type 0) (X : Type 0) where
  moves_after : (a b c : Core) → ((r : Core) → Fair r b → Fair r c) → Moves Q X a b → Moves Q X a c
  moves_after a b c next (Remains k) = Remains (next a k)
  moves_after a b c next (Enters x t i d k q v lt z) = Enters x t i d k q v lt (next (entering t i) z)

  moves_before : (a b c : Core) → Does a b → b.views.view ≡ a.views.view → Fair a b → Moves Q X b c → Moves Q X a c
  moves_before a b c d e p (Remains k) = Remains (fair_then a b c p k)
  moves_before a b c d e p (Enters x t i y k q v lt z) = Enters x t i (Then a b t d y) (fair_then a b t p k) q (v ∙ e) lt z

-- who entered a view decided nothing there
entering_speaks : (t : Core) (i : Install) → Speaks t → Speaks (entering t i)
unfolding view_entered recorded_all base_row
entering_speaks t i k =
    record { spoken = λ x h. k.spoken x (subst (Has x) (sides_send (view_entered t i bs) t.views.view bs (held_rows t)) h); decided = λ row h d j. bare row (subst (Has row) (sides_stand (view_entered t i bs) (held_rows t) t.views.view bs).groups h) d j }
  where
    bs : List Base
    bs = bases_of i

    bare : (row : GroupRow) → Has row (map base_row bs) → (d : Decision) → Has d row.led.decided → Fairly d.why
    bare row h d j = let q = has_map base_row row bs h in absurd (subst (λ (z : GroupRow). Has d z.led.decided) q.2 j)

-- ---- rules of views

module _ (Q : Core → Type 0) (X : Type 0) (x : X) (f : Answering) (carries : Carries Q f) (c : Core) (order : InNameOrder c.groups) (views : AreViews c.views) (speaks : Speaks c) (holds : Q c) where
  self : Fair c c
  self = fair_self c speaks

  taken_moves : (w : ViewWork) → Goes c.views w → w.views.me ≡ c.views.me → w.views.inc ≡ c.views.inc → Moves Q X c (views_taken f c w)
  unfolding views_taken apply_install entered_if entered is_before len_of state_of list_of row_of
  taken_moves w goes me inc = by w.install goes.applies
    where
      d : Core
      d = record c { views = w.views }

      u : Core
      u = fold (λ t (y : ViewSend). sent t y.to (body.View y.packet)) d w.sends

      sends : Sends d u
      sends = sends_fold (λ t (y : ViewSend). sent t y.to (body.View y.packet)) (λ t y. sends_one t _ _) w.sends d

      same : Same c d
      same = record { me = me; inc = inc; view = goes.view; sessions = refl; records = refl; lens = λ j. refl; states = λ j. refl }

      fair : Fair c u
      fair = on_views_sent (Fair c) FairGiven (fair_rules c) w.sends (fair_views c c w.views self)

      -- what is lacking is put, and the view is entered
      fills : (i : Install) (xs : List Lacking) → IsNext w.views i.view → Moves Q X c (entered f u i xs)
      fills i xs next =
          let t : Core = fill_lists f u xs in
          let filled = filled_onward f xs u (subst InNameOrder (sym sends.groups) order) in
          let there : t.views ≡ w.views = filled.views ∙ sends.views in
          let before : Fair c t = on_filled (Fair c) FairGiven (fair_rules c) f xs fair in
          let e : Core = entering t i in
          Enters x t i (Then c d t (Stays c d same) (Then d u t (Stays d u (same_sends d u sends)) filled.does)) before (carries.fills u xs (carries.alike d u (same_sends d u sends) sends.groups (carries.alike c d same refl holds))) (ap (λ z. z.view) there ∙ goes.view) (subst (λ z. Lt z.view i.view) (sym there) next.above) (on_rest (Fair e) FairGiven (fair_rules e) f (bases_of i) (fair_self e (entering_speaks t i before.speaks)))

      if_lacking : (i : Install) (o : Option (List Lacking)) → IsNext w.views i.view → Moves Q X c (entered_if f u i o)
      if_lacking i None next = Remains fair
      if_lacking i (Some xs) next = fills i xs next

      by : (o : Option Install) → AppliesNext w.views o → Moves Q X c (apply_install f u o)
      by None next = Remains fair
      by (Some i) next = if_lacking i (lacking u i) next

  ask_moves : (mask : Mask) → Moves Q X c (views_taken f c (ask_rule (views_at_work c.views) mask (own_parts c)))
  unfolding view_stepped steps.view_rule
  ask_moves mask =
      let k = stay_asks (views_at_work c.views) mask (own_parts c) in
      taken_moves (ask_rule (views_at_work c.views) mask (own_parts c)) (promises_stand c.views (event.Ask mask) (own_parts c) views) k.0 k.2

  order_moves : (mask : Mask) → Moves Q X c (take_order f c mask)
  unfolding take_order
  order_moves mask = by (is_fixed c.config.mode)
    where
      by : (b : Bool) → Moves Q X c (elim b as (λ _. Core) [ true ↦ c | false ↦ views_taken f c (ask_rule (views_at_work c.views) mask (own_parts c)) ])
      by true = Remains self
      by false = ask_moves mask

  view_moves : (from inc : ℕ) (y : ViewPacket) → Moves Q X c (view_rule f c from inc y)
  unfolding view_rule view_stepped steps.view_rule
  view_moves from inc (packet.Prepare v mask) =
      let k = stay_prepares (views_at_work c.views) from inc v mask (own_parts c) in
      taken_moves (prepare_rule (views_at_work c.views) from inc v mask (own_parts c)) (promises_stand c.views (event.Prepare from inc v mask) (own_parts c) views) k.0 k.2
  view_moves from inc (packet.Answer v old parts) =
      let a : Answer = record { node = from; inc = inc; view = old; parts = parts } in
      let k = stay_answers (views_at_work c.views) v a in
      taken_moves (answer_rule (views_at_work c.views) v a) (promises_stand c.views (event.Answer from inc v (record { view = old; parts = parts })) (own_parts c) views) k.0 k.2
  view_moves from inc (packet.Refuse v n) =
      let k = stay_refuses (views_at_work c.views) v n in
      taken_moves (refuse_rule (views_at_work c.views) v n) (promises_stand c.views (event.Refuse v n) (own_parts c) views) k.0 k.2
  view_moves from inc (packet.Install i) =
      let k = stay_installs (views_at_work c.views) i in
      taken_moves (install_rule (views_at_work c.views) i) (promises_stand c.views (event.Install i) (own_parts c) views) k.0 k.2
  view_moves from inc (packet.Taken v) =
      let k = stay_takes (views_at_work c.views) from v in
      taken_moves (taken_rule (views_at_work c.views) from v) (promises_stand c.views (event.Taken from v) (own_parts c) views) k.0 k.2

  tick_moves : Moves Q X c (views_taken f c (gathering_ticks (views_at_work c.views) (ring_ask c) (own_parts c)))
  unfolding view_stepped steps.view_rule
  tick_moves =
      let k = stay_ticks (views_at_work c.views) (ring_ask c) (own_parts c) in
      taken_moves (gathering_ticks (views_at_work c.views) (ring_ask c) (own_parts c)) (promises_stand c.views (event.Tick (ring_ask c)) (own_parts c) views) k.0 k.2

  -- ---- packets

  inside : (p : Packet) (b : Body) → FairBody p.body → p.to ≡ c.views.me → p.body ≡ b → NoView b → Moves Q X c (take_body f c p b)
  inside p b fair to is away =
      Remains (on_body (Fair c) FairGiven (fair_rules c) (fair_rings c) f p b fair to is (λ y e. absurd (subst NoView e away)) self)

  body_moves : (p : Packet) (b : Body) → FairBody p.body → p.to ≡ c.views.me → p.body ≡ b → Moves Q X c (take_body f c p b)
  unfolding take_body
  body_moves p (body.View y) fair to is = view_moves p.from p.inc y
  body_moves p b fair to is = inside p b fair to is tt

  packet_moves : (p : Packet) → FairBody p.body → Moves Q X c (packet_rule f c p)
  unfolding packet_rule
  packet_moves p fair = by (p.to == c.views.me) refl
    where
      by : (b : Bool) → (p.to == c.views.me) ≡ b → Moves Q X c (elim b as (λ _. Core) [ true ↦ take_body f c p p.body | false ↦ c ])
      by true e = body_moves p p.body fair (eqb-true p.to c.views.me e) refl
      by false e = Remains self

-- INSTALL that is sent again applies nothing
module _ (f : Answering) (c : Core) where
  remind_fair : (r : Core) → Fair r c → Fair r (views_taken f c (install_again (views_at_work c.views)))
  unfolding views_taken apply_install
  remind_fair r k =
      let w : ViewWork = install_again (views_at_work c.views) in
      subst (λ o. Fair r (apply_install f (fold (λ t (y : ViewSend). sent t y.to (body.View y.packet)) (record c { views = w.views }) w.sends) o)) (sym (reminds_only f c)) (on_views_sent (Fair r) FairGiven (fair_rules r) w.sends (fair_views r c w.views k))

-- ---- a whole step

abbrev pub NotCall : NodeEvent → Type 0
NotCall (Calls c) = ⊥
NotCall _ = Unit {0}

abbrev pub FairEvent : NodeEvent → Type 0
FairEvent (Given p) = FairBody p.body
FairEvent _ = Unit {0}

module _ (Q : Core → Type 0) (f : Answering) (carries : Carries Q f) where
  ended_moves : (X : Type 0) (a b : Core) → Moves Q X a b → Moves Q X a (end_step f b)
  ended_moves X a b k = moves_after Q X a b (end_step f b) (λ r z. on_ended (Fair r) (fair_rules r).keeps f z) k

  pub step_moves : (s : Core) (e : NodeEvent) → Fit s → Speaks (at_work s) → FairEvent e → Q (at_work s) → Moves Q (NotCall e) (at_work s) (stepped f s e)
  unfolding stepped event_rule tick_rule tick_views
  step_moves s Ticks fit speaks fair holds =
      let a : Core = at_work s in
      let b : Core = tick_rings a in
      let t : Core = views_taken f b (gathering_ticks (views_at_work b.views) (ring_ask b) (own_parts b)) in
      let d : Core = views_taken f t (install_again (views_at_work t.views)) in
      let k = rings_onward a fit.order in
      let rings : Fair a b = (fair_rings a).ticks a (fair_self a speaks) in
      let ticks : Moves Q (Unit {0}) b t = tick_moves Q (Unit {0}) tt f carries b k.order (subst AreViews (sym k.views) fit.views) rings.speaks (carries.rings a holds) in
      let reminded : Moves Q (Unit {0}) a d = moves_after Q (Unit {0}) a t d (remind_fair f t) (moves_before Q (Unit {0}) a b t k.does (ap (λ z. z.view) k.views) rings ticks) in
      ended_moves (Unit {0}) a (tick_led f (tick_owed d)) (moves_after Q (Unit {0}) a d (tick_led f (tick_owed d)) (λ r z. on_led_part (Fair r) FairGiven (fair_rules r) f (on_owed_part (Fair r) FairGiven (fair_rules r) z)) reminded)
  step_moves s (Asks mask) fit speaks fair holds =
      ended_moves (Unit {0}) (at_work s) (take_order f (at_work s) mask) (order_moves Q (Unit {0}) tt f carries (at_work s) fit.order fit.views speaks holds mask)
  step_moves s (Given p) fit speaks fair holds =
      ended_moves (Unit {0}) (at_work s) (packet_rule f (at_work s) p) (packet_moves Q (Unit {0}) tt f carries (at_work s) fit.order fit.views speaks holds p fair)
  step_moves s (Calls x) fit speaks fair holds =
      Remains (on_ended (Fair (at_work s)) (fair_rules (at_work s)).keeps f (on_call (Fair (at_work s)) FairGiven (fair_rules (at_work s)) (fair_calls (at_work s)) x (fair_self (at_work s) speaks)))
  step_moves s Garbage fit speaks fair holds =
      Remains (on_ended (Fair (at_work s)) (fair_rules (at_work s)).keeps f (fair_self (at_work s) speaks))
