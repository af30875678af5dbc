-- A whole step.
use Rattle.std.proofs.Common.{◌≡◌, ℕ, List, [], Option, Some, None, Bool, true, false, refl, sym, ap, ◌∙◌, subst, inl, inr}
use Rattle.std.specs.Prelude.{◌==◌, ◌&&◌, if◌then◌else◌}
use Rattle.rsct_packet.specs.declared.ids.ViewId.{ViewId}
use Rattle.rsct_packet.specs.declared.mask.Mask.{Mask}
use Rattle.rsct_packet.specs.Search.{Has}
use Rattle.view_state.specs.declared.packet.ViewPacket.{ViewPacket}
use Rattle.view_state.specs.declared.packet.ViewPacket.TheVariants as view
use Rattle.view_state.specs.declared.views.ViewWork.{ViewWork}
use Rattle.view_state.specs.Views.{views_at_work, ask_rule, prepare_rule, answer_rule, refuse_rule, install_rule, taken_rule}
use Rattle.node_state.specs.declared.group.GroupRow.{GroupRow}
use Rattle.node_state.specs.declared.packet.Body.{Body}
use Rattle.node_state.specs.declared.packet.Body.TheVariants as body
use Rattle.node_state.specs.declared.packet.Packet.{Packet}
use Rattle.node_state.specs.declared.state.Core.{Core}
use Rattle.node_state.specs.Settings.{is_fixed}
use Rattle.node_state.specs.State.{coordinates}
use Rattle.node_state.specs.HandOn.{Answering}
use Rattle.node_state.specs.Following.{take_lookup, take_name, take_request, take_tell, take_entry, take_ack, take_vote, take_gone}
use Rattle.node_state.specs.Applying.{own_parts, views_taken}
use Rattle.node_state.specs.Status.{status_text}
use Rattle.node_state.specs.Ticks.{tick_rings, tick_views, tick_owed}
use Rattle.node_state.specs.Step.{NodeEvent, Ticks, Asks, Given, Calls, Garbage, is_used, used_if, take_order, view_rule, take_body, packet_rule, stepped, at_work}
use Rattle.world_model.specs.declared.event.Event.{Event}
use Rattle.step_refinement.proofs.Steps.{acted_tied, begun_at_work, stepped_is}
use Rattle.step_refinement.specs.Tied.{Scene, Begun, Rests, Tied}
use Rattle.step_refinement.specs.Rules.{acted, Arises}
use Rattle.step_refinement.proofs.Begins.{begin_tied}
use Rattle.entry_laws.proofs.closing_rows.Steps.{entry_had_put}
use Rattle.entry_laws.proofs.closing_rows.Quiet.{at_tell, at_ring, at_report, at_rings_part, at_call}
use Rattle.entry_laws.proofs.closing_rows.Calms.{calm_on, owed_part_calm}
use Rattle.entry_laws.proofs.closing_rows.Works.{Stays, begun_stays, ask_stays, prepare_stays, answer_stays, refuse_stays, install_stays, taken_stays}
use Rattle.entry_laws.specs.source_order.Meant.{IsDelivery, DeliveryNoted}
use Rattle.entry_laws.proofs.source_order.Holding.{Turn, so_far, RowHolds, Going, Holds, row_on}
use Rattle.entry_laws.proofs.source_order.At.{At, at_calm, keeps_quiet}
use Rattle.entry_laws.proofs.source_order.Following.{at_lookup, at_name, at_request, at_entry, at_ack, at_vote, at_gone}
use Rattle.entry_laws.proofs.source_order.Entering.{at_views_taken}
use Rattle.entry_laws.proofs.source_order.Ticking.{at_views_part, at_led_part}
use Rattle.entry_laws.proofs.source_order.Ending.{at_step_ended}
use Rattle.entry_laws.proofs.source_order.Tied.{states_tied, request_carries, request_decided}

-- the group that is looked up, where the node is the coordinator
abbrev pub looked_at : Core → Packet → Body → Option (List ℕ × ℕ)
looked_at s p (body.Lookup v g) = if p.to == s.views.me && (is_used s p v && coordinates s) then Some (g, p.from) else None
looked_at s p _ = None

abbrev pub looked_by : Core → NodeEvent → Option (List ℕ × ℕ)
looked_by s (Given p) = looked_at s p p.body
looked_by s _ = None

abbrev pub turn_of : Event → Scene → ℕ → Core → NodeEvent → List Packet → Turn
turn_of v w n s e sent = record { what = Some v; before = w.before; node = n; view = s.views.view; table = s.names; looked = looked_by s e; sent = sent }

-- up to its end a leader puts neither joins nor reflections
module _ (w : Scene) (n : ℕ) (f : Answering) (s : Core) (v : Event) (e : NodeEvent) (noted : DeliveryNoted n e v) (none : s.records ≡ []) (all : (h : List ℕ) → Tied h w n s) (going : Going (turn_of v w n s e []) s) (a : At (turn_of v w n s e []) ⊥ s) where
  abbrev Full : Core → Type 0
  Full c = At (turn_of v w n s e []) ⊥ c

  used : (t : Core) (b : Bool) → (b ≡ true → Full t) → Full (used_if s t b)
  unfolding used_if
  used t true k = k refl
  used t false k = a

  taken : (y : ViewWork) → Stays s.views y → Full (views_taken f s y)
  taken y k = at_views_taken (turn_of v w n s e []) refl f s y k a

  view_at : (from inc : ℕ) (y : ViewPacket) → Full (view_rule f s from inc y)
  unfolding view_rule
  view_at from inc (view.Prepare u mask) = taken (prepare_rule (views_at_work s.views) from inc u mask (own_parts s)) (prepare_stays s.views (views_at_work s.views) from inc u mask (own_parts s) (begun_stays s.views))
  view_at from inc (view.Answer u old parts) = taken (answer_rule (views_at_work s.views) u (record { node = from; inc = inc; view = old; parts = parts })) (answer_stays s.views (views_at_work s.views) u (record { node = from; inc = inc; view = old; parts = parts }) (begun_stays s.views))
  view_at from inc (view.Refuse u k) = taken (refuse_rule (views_at_work s.views) u k) (refuse_stays s.views (views_at_work s.views) u k (begun_stays s.views))
  view_at from inc (view.Install i) = taken (install_rule (views_at_work s.views) i) (install_stays s.views (views_at_work s.views) i (begun_stays s.views))
  view_at from inc (view.Taken u) = taken (taken_rule (views_at_work s.views) from u) (taken_stays s.views (views_at_work s.views) from u (begun_stays s.views))

  -- a packet that is given is noted as a delivery
  delivery : (p : Packet) → e ≡ Given p → IsDelivery n (Some v)
  delivery p is = subst (λ z. DeliveryNoted n z v) is noted

  -- who is looked up
  looked : (p : Packet) (u : ViewId) (g : List ℕ) → e ≡ Given p → p.body ≡ body.Lookup u g → (p.to == s.views.me) ≡ true → is_used s p u ≡ true → coordinates s ≡ true → looked_by s e ≡ Some (g, p.from)
  looked p u g event is mine now coord =
      ap (looked_by s) event ∙ ap (looked_at s p) is ∙ ap (λ b. if b && (is_used s p u && coordinates s) then Some (g, p.from) else None) mine ∙ ap (λ b. if b && coordinates s then Some (g, p.from) else None) now ∙ ap (λ b. if b then Some (g, p.from) else None) coord

  body_at : (p : Packet) (b : Body) → e ≡ Given p → p.body ≡ b → (p.to == s.views.me) ≡ true → Has p w.sent → Full (take_body f s p b)
  unfolding take_body
  body_at p (body.Ring y) event is mine sent = at_ring (keeps_quiet (turn_of v w n s e []) ⊥) s p.network p.from p.inc y a
  body_at p (body.Report rows) event is mine sent = at_report (keeps_quiet (turn_of v w n s e []) ⊥) s rows a
  body_at p (body.View y) event is mine sent = view_at p.from p.inc y
  body_at p (body.Lookup u g) event is mine sent = used (take_lookup s p.from g) (is_used s p u) (λ now. at_lookup (turn_of v w n s e []) ⊥ s p.from g going (looked p u g event is mine now) a)
  body_at p (body.Name u g k) event is mine sent = used (take_name s g k) (is_used s p u) (λ now. at_name (turn_of v w n s e []) ⊥ s g k a)
  body_at p (body.Request u g q r phases y) event is mine sent =
      used (take_request f s p.from g q r phases y) (is_used s p u) (λ now. at_request (turn_of v w n s e []) ⊥ f s g q r phases y (request_carries u g q r phases y w n s p is sent (all g)) going (all g).own.0.order (λ ps attrs k join. inl (request_decided (Some v) u g q r phases ps attrs k w n s p (is ∙ ap (body.Request u g q r phases) join) sent (delivery p event) none (all g))) p.from a)
  body_at p (body.Tell u g q r y) event is mine sent = used (take_tell s q r y) (is_used s p u) (λ now. at_tell (keeps_quiet (turn_of v w n s e []) ⊥) s q r y a)
  body_at p (body.Entry u g i k y) event is mine sent =
      used (take_entry f s p.from g i k y) (is_used s p u) (λ now. at_entry (turn_of v w n s e []) ⊥ f s p.from g k y i (λ at. inr (entry_had_put u g i k y w n s p is sent (all g) now at)) a)
  body_at p (body.Ack u g k) event is mine sent = used (take_ack s p.from g k) (is_used s p u) (λ now. at_ack (turn_of v w n s e []) ⊥ s p.from g k a)
  body_at p (body.Vote u g proto phase q ballot value message) event is mine sent =
      used (take_vote f s g proto phase q ballot value message) (is_used s p u) (λ now. at_vote (turn_of v w n s e []) ⊥ f s g proto phase q ballot value message a)
  body_at p (body.Gone u g q) event is mine sent = used (take_gone f s g q) (is_used s p u) (λ now. at_gone (turn_of v w n s e []) ⊥ f s g q a)
  body_at p (body.Query question what) event is mine sent = at_calm (turn_of v w n s e []) ⊥ s _ (calm_on s p.network p.from (body.Reply question (status_text s what))) a
  body_at p (body.Reply question text) event is mine sent = a

  order_at : (mask : Mask) → Full (take_order f s mask)
  unfolding take_order
  order_at mask = by (is_fixed s.config.mode)
    where
      by : (b : Bool) → Full (elim b as (λ _. Core) [ true ↦ s | false ↦ views_taken f s (ask_rule (views_at_work s.views) mask (own_parts s)) ])
      by true = a
      by false = taken (ask_rule (views_at_work s.views) mask (own_parts s)) (ask_stays s.views (views_at_work s.views) mask (own_parts s) (begun_stays s.views))

  acted_at : (y : NodeEvent) → e ≡ y → Arises w y → Full (acted f s y)
  unfolding packet_rule
  acted_at Ticks is arises =
      let t : Core = tick_views f (tick_rings s) in
      at_led_part (turn_of v w n s e []) f (tick_owed t) (at_calm (turn_of v w n s e []) ⊥ t (tick_owed t) (owed_part_calm t) (at_views_part (turn_of v w n s e []) refl f (tick_rings s) (at_rings_part (keeps_quiet (turn_of v w n s e []) ⊥) s a)))
  acted_at (Asks mask) is arises = order_at mask
  acted_at (Calls c) is arises = at_call (keeps_quiet (turn_of v w n s e []) ⊥) s c a
  acted_at Garbage is arises = a
  acted_at (Given p) is arises = by (p.to == s.views.me) refl
    where
      by : (b : Bool) → (p.to == s.views.me) ≡ b → Full (elim b as (λ _. Core) [ true ↦ take_body f s p p.body | false ↦ s ])
      by false mine = a
      by true mine = body_at p p.body is refl mine arises

-- what is held does not depend on what was sent
holds_sent : (v : Event) (w : Scene) (n : ℕ) (s : Core) (e : NodeEvent) (xs ys : List Packet) (c : Core) → Holds (turn_of v w n s e xs) c → Holds (turn_of v w n s e ys) c
holds_sent v w n s e xs ys c (inl k) = inl (record { me = k.me; view = k.view; waits = k.waits; named = k.named })
holds_sent v w n s e xs ys c (inr k) = inr k

-- then what waits begins, and the records say what states the lists have; what was sent before stays sent
pub at_stepped : (w : Scene) (n : ℕ) (f : Answering) (s : Core) (e : NodeEvent) (v : Event) → w.cores n ≡ Some s → ((h : List ℕ) → Rests h w) → Arises w e → DeliveryNoted n e v → ((row : GroupRow) → Has row s.groups → RowHolds w.before n s.views.view row) → At (turn_of v w n (at_work s) e (acted f (at_work s) e).sends) (Unit {0}) (stepped f s e)
at_stepped w n f s e v up rests arises noted held =
    let x : Turn = turn_of v w n (at_work s) e [] in
    let began : (h : List ℕ) → Tied h w n (at_work s) = λ h. begin_tied h w n s up (rests h) in
    let first : (h : List ℕ) → Begun h (at_work s) = λ h. begun_at_work h s ((rests h).begun n s up) in
    let c : Core = acted f (at_work s) e in
    let y : Turn = turn_of v w n (at_work s) e c.sends in
    let tied : (h : List ℕ) → Tied h w n c = λ h. acted_tied w n f (at_work s) refl first began e arises h in
    let going : Going x (at_work s) = record { me = (began []).own.0.stands.me; view = refl; waits = λ row i. row_on w.before (so_far x []) n s.views.view row (λ g p idle a d. inr d) (held row i); named = λ g m q. inl q } in
    let a : At x ⊥ c = acted_at w n f (at_work s) v e noted refl began going (record { facts = tt; holds = inl going; sends = λ p i. absurd i; order = λ z. absurd z; states = λ z. absurd z }) e refl arises in
    subst (At y (Unit {0})) (sym (stepped_is f s e)) (at_step_ended y f c (record { facts = a.facts; holds = holds_sent v w n (at_work s) e [] c.sends c a.holds; sends = λ p i. i; order = λ z. (tied []).own.0.order; states = λ z g. states_tied g w n c (tied g) }))
