-- A whole step: its row, and its end.
use Rattle.std.proofs.Common.{◌≡◌, ℕ, List, [], ◌∷◌, Option, Some, None, Bool, true, false, refl, sym, ap, ◌∙◌, subst, inl, inr, ⊎_elim}
use Rattle.std.specs.Prelude.{◌==◌, not, filter, fold}
use Rattle.std.proofs.lemmas.Bool.{eqb-true}
use Rattle.rsct_packet.specs.declared.ids.ViewId.{ViewId}
use Rattle.rsct_packet.specs.declared.ids.ProviderId.{ProviderId}
use Rattle.rsct_packet.specs.declared.mask.Mask.{Mask}
use Rattle.rsct_packet.specs.Mask.{nodes_of}
use Rattle.rsct_packet.specs.Search.{Has}
use Rattle.rsct_packet.proofs.HasLaws.{has_append}
use Rattle.group_attr.specs.declared.attrs.Phases.{Phases}
use Rattle.proposal_core.specs.declared.proposal.Proposal.{Proposal}
use Rattle.adapter_ring.specs.declared.ring.Ring.{Ring}
use Rattle.adapter_ring.specs.declared.ring.RingSet.{RingSet}
use Rattle.adapter_ring.specs.declared.packet.RingSend.{RingSend}
use Rattle.adapter_ring.specs.declared.packet.RingEvent.TheVariants as ring_event
use Rattle.adapter_ring.specs.declared.work.RingWork.{RingWork}
use Rattle.adapter_ring.specs.Rings.{ring_step}
use Rattle.node_reach.specs.Reach as reach
use Rattle.view_state.specs.declared.packet.ViewPacket.{ViewPacket}
use Rattle.view_state.specs.declared.packet.ViewPacket.TheVariants as view
use Rattle.node_state.specs.declared.happened.Happened.{Happened}
use Rattle.node_state.specs.declared.packet.Body.{Body}
use Rattle.node_state.specs.declared.packet.Body.TheVariants as body
use Rattle.node_state.specs.declared.packet.Packet.{Packet}
use Rattle.node_state.specs.declared.state.Core.{Core}
use Rattle.node_state.specs.Settings.{is_rings}
use Rattle.node_state.specs.State.{row_of, leader_in, leads_in, leads, recorded_all}
use Rattle.node_state.specs.Sending.{send_on}
use Rattle.node_state.specs.HandOn.{Answering}
use Rattle.node_state.specs.Ticks.{set_records, ring_put, ring_taken, rings_union, report_of, send_report, rings_tick, tick_rings, tick_views, tick_owed, tick_rule}
use Rattle.node_state.specs.Ending.{end_step}
use Rattle.node_state.specs.Step.{NodeEvent, Ticks, Asks, Given, Calls, Garbage, take_body, packet_rule, event_rule, stepped, at_work}
use Rattle.world_model.specs.declared.event.Event.{Event}
use Rattle.run_safety.specs.Sight.{lines_of}
use Rattle.run_safety.specs.Group.{kept}
use Rattle.run_safety.specs.Moves.{Quiet}
use Rattle.step_refinement.specs.Tied.{Scene, Begun, Rests, lines_now, Tied}
use Rattle.step_refinement.specs.Rules.{ended, acted, Arises}
use Rattle.step_refinement.proofs.Works.{Unseen, lines_none}
use Rattle.step_refinement.proofs.Begins.{begin_tied, end_tied}
use Rattle.step_refinement.proofs.ViewRules.{taken_is_tied, refuse_is_tied, prepare_is_tied}
use Rattle.step_refinement.proofs.Acks.{ack_is_tied}
use Rattle.step_refinement.proofs.Entries.{entry_is_tied}
use Rattle.step_refinement.proofs.Tellings.{tell_is_tied}
use Rattle.step_refinement.proofs.Named.{lookup_is_tied, name_is_tied}
use Rattle.step_refinement.proofs.Requests.{request_is_tied}
use Rattle.step_refinement.proofs.Votes.{vote_is_tied, gone_is_tied}
use Rattle.step_refinement.proofs.Rings.{rings_part_tied, ring_is_tied, report_is_tied, query_is_tied, reply_is_tied}
use Rattle.step_refinement.proofs.Installs.{install_rule_tied}
use Rattle.step_refinement.proofs.FoundingRules.{founding_answer_tied, founding_ask_tied, founding_tick_tied}
use Rattle.step_refinement.proofs.Owed.{owed_part_tied}
use Rattle.step_refinement.proofs.LedTicks.{led_part_tied}
use Rattle.step_refinement.proofs.Calls.{call_is_tied}
use Rattle.step_refinement.proofs.Appending.{sent_all_is}
use Rattle.step_refinement.proofs.Ends.{step_end_tied, step_begun}
use Rattle.step_refinement.proofs.JoinsFirst.{joins_first}

-- ---- rings are no group's

module _ (g : List ℕ) where
  abbrev UnseenAll : List Happened → Type 0
  UnseenAll rs = (r : Happened) → Has r rs → Unseen g r

  sends_records : (xs : List RingSend) (s : Core) → (fold (λ u (x : RingSend). send_on u x.network x.to (body.Ring x.packet)) s xs).records ≡ s.records
  unfolding send_on
  sends_records [] s = refl
  sends_records (x ∷ xs) s = sends_records xs (send_on s x.network x.to (body.Ring x.packet))

  taken_unseen : (s : Core) (x : RingWork) → UnseenAll s.records → UnseenAll (ring_taken s x).records
  unfolding ring_taken recorded_all set_records
  taken_unseen s x all r h =
      let now : Core = fold (λ u (x : RingSend). send_on u x.network x.to (body.Ring x.packet)) (record s { rings = ring_put s.rings x.ring }) x.sends in
      ⊎_elim (λ (i : Has r now.records). all r (subst (Has r) (sends_records x.sends (record s { rings = ring_put s.rings x.ring })) i)) (λ (i : Has r (set_records s.views.me x.ring.net x.set)). by x.set i) (has_append r now.records (set_records s.views.me x.ring.net x.set) h)
    where
      by : (o : Option RingSet) → Has r (set_records s.views.me x.ring.net o) → Unseen g r
      by None i = absurd i
      by (Some y) (inl e) = subst (Unseen g) (sym e) (λ rs. refl)
      by (Some y) (inr z) = absurd z

  fold_unseen : (rs : List Ring) (s : Core) → UnseenAll s.records → UnseenAll (fold (λ u (r : Ring). ring_taken u (ring_step r ring_event.Tick)) s rs).records
  fold_unseen [] s all = all
  fold_unseen (r ∷ rs) s all = fold_unseen rs (ring_taken s (ring_step r ring_event.Tick)) (taken_unseen s (ring_step r ring_event.Tick) all)

  report_records : (s : Core) (m : Mask) → (send_report s m).records ≡ s.records
  unfolding send_report
  report_records s m =
      let t : Core = record s { reach = reach.set_own s.reach m } in
      ap (λ (z : Core). z.records) (sent_all_is (filter (λ n. not (n == s.views.me)) (nodes_of m)) t (body.Report (report_of t.reach)))

  rings_unseen : (s : Core) → UnseenAll s.records → UnseenAll (tick_rings s).records
  unfolding tick_rings rings_tick
  rings_unseen s all = by (is_rings s.config.mode)
    where
      ticked : Core
      ticked = fold (λ u (r : Ring). ring_taken u (ring_step r ring_event.Tick)) s s.rings

      by : (b : Bool) → UnseenAll (elim b as (λ _. Core) [ true ↦ send_report ticked (rings_union ticked.rings) | false ↦ s ]).records
      by false = all
      by true = λ r h. fold_unseen s.rings s all r (subst (Has r) (report_records ticked (rings_union ticked.rings)) h)

  -- no node put anything
  pub rings_quiet : (w : Scene) (s : Core) → s.records ≡ [] → Quiet (kept (lines_now g w (tick_rings s)))
  rings_quiet w s none =
      let all : UnseenAll (tick_rings s).records = rings_unseen s (λ r h. absurd (subst (Has r) none h)) in
      subst (λ l. Quiet (kept l)) (sym (lines_none g (tick_rings s).records w.before (lines_of g w.before) all)) (record { at = λ m u. refl })

-- ---- rows

-- REQUEST, given to whom it was sent
pub request_given : (v : ViewId) (h : List ℕ) (q : ProviderId) (r : ℕ) (phases : Phases) (x : Proposal) (w : Scene) (n : ℕ) (f : Answering) (s : Core) (p : Packet) → p.to ≡ n → p.body ≡ body.Request v h q r phases x → Has p w.sent → s.records ≡ [] → ((k : List ℕ) → Begun k s) → ((k : List ℕ) → Tied k w n s) → (g : List ℕ) → Tied g w n (take_body f s p (body.Request v h q r phases x))
request_given v h q r phases x w n f s p to is sent none begun all g =
    request_is_tied v h q r phases x g w n f s p to is sent (joins_first w n s none all v h q r phases x p is sent) (begun h) (all g)

module _ (w : Scene) (n : ℕ) (f : Answering) (s : Core) (none : s.records ≡ []) (begun : (h : List ℕ) → Begun h s) (all : (h : List ℕ) → Tied h w n s) where
  view_tied : (p : Packet) (y : ViewPacket) → p.body ≡ body.View y → Has p w.sent → (g : List ℕ) → Tied g w n (take_body f s p (body.View y))
  unfolding take_body
  view_tied p (view.Prepare v mask) is sent g = prepare_is_tied v mask g w n f s p is sent (all g)
  view_tied p (view.Answer v old parts) is sent g = founding_answer_tied v old parts w n f s p is sent none all g
  view_tied p (view.Refuse v k) is sent g = refuse_is_tied v k g w n f s p.from p.inc (all g)
  view_tied p (view.Install i) is sent g = install_rule_tied i g w n f s p is sent none (all g)
  view_tied p (view.Taken v) is sent g = taken_is_tied v g w n f s p.from p.inc (all g)

  body_tied : (p : Packet) (b : Body) → p.body ≡ b → p.to ≡ n → Has p w.sent → (g : List ℕ) → Tied g w n (take_body f s p b)
  body_tied p (body.Ring x) is to sent g = ring_is_tied x g w n f s p (all g)
  body_tied p (body.Report rows) is to sent g = report_is_tied rows g w n f s p (all g)
  body_tied p (body.View y) is to sent g = view_tied p y is sent g
  body_tied p (body.Lookup v h) is to sent g = lookup_is_tied v h g w n f s p is sent (all g)
  body_tied p (body.Name v h k) is to sent g = name_is_tied v h k g w n f s p is sent (all g)
  body_tied p (body.Request v h q r phases x) is to sent g = request_given v h q r phases x w n f s p to is sent none begun all g
  body_tied p (body.Tell v h q r why) is to sent g = tell_is_tied v h q r why g w n f s p is sent (all g)
  body_tied p (body.Entry v h i k e) is to sent g = entry_is_tied v h i k e g w n f s p is sent (all g)
  body_tied p (body.Ack v h k) is to sent g = ack_is_tied v h k g w n f s p is sent (all g)
  body_tied p (body.Vote v h proto phase q ballot value message) is to sent g = vote_is_tied v h proto phase q ballot value message g w n f s p (all g)
  body_tied p (body.Gone v h q) is to sent g = gone_is_tied v h q g w n f s p (all g)
  body_tied p (body.Query question what) is to sent g = query_is_tied question what g w n f s p (all g)
  body_tied p (body.Reply question text) is to sent g = reply_is_tied question text g w n f s p (all g)

  -- the rule of the event
  pub acted_tied : (e : NodeEvent) → Arises w e → (g : List ℕ) → Tied g w n (acted f s e)
  unfolding packet_rule
  acted_tied Ticks arises g =
      let rings : (h : List ℕ) → Tied h w n (tick_rings s) = λ h. rings_part_tied h w n s (all h) in
      let viewed = founding_tick_tied w n f (tick_rings s) rings g (rings_quiet g w s none) in
      led_part_tied g w n f (tick_owed (tick_views f (tick_rings s))) (owed_part_tied g w n (tick_views f (tick_rings s)) viewed)
  acted_tied (Asks mask) arises g = founding_ask_tied mask w n f s none all g
  acted_tied (Calls c) arises g = call_is_tied c g w n s (all g)
  acted_tied Garbage arises g = all g
  acted_tied (Given p) arises g = by (p.to == s.views.me) refl
    where
      by : (b : Bool) → (p.to == s.views.me) ≡ b → Tied g w n (elim b as (λ _. Core) [ true ↦ take_body f s p p.body | false ↦ s ])
      by false e = all g
      by true e = body_tied p p.body refl (eqb-true p.to s.views.me e ∙ (all g).own.0.stands.me) arises g

-- a step is its rule, and the end
pub stepped_is : (f : Answering) (s : Core) (e : NodeEvent) → stepped f s e ≡ end_step f (acted f (at_work s) e)
unfolding stepped event_rule tick_rule
stepped_is f s Ticks = refl
stepped_is f s (Asks mask) = refl
stepped_is f s (Given p) = refl
stepped_is f s (Calls c) = refl
stepped_is f s Garbage = refl

pub begun_at_work : (g : List ℕ) (s : Core) → Begun g s → Begun g (at_work s)
unfolding leads leads_in leader_in row_of
begun_at_work g s h = h

-- from one event to the next
pub step_tied : (w : Scene) (n : ℕ) (f : Answering) (s : Core) (e : NodeEvent) (v : Event) → w.cores n ≡ Some s → ((h : List ℕ) → Rests h w) → Arises w e → (g : List ℕ) → Rests g (ended w n v (stepped f s e))
step_tied w n f s e v is all arises g =
    let began : (h : List ℕ) → Tied h w n (at_work s) = λ h. begin_tied h w n s is (all h) in
    let first : (h : List ℕ) → Begun h (at_work s) = λ h. begun_at_work h s ((all h).begun n s is) in
    let acts = acted_tied w n f (at_work s) refl first began e arises g in
    let is_end = sym (stepped_is f s e) in
    end_tied g w n (stepped f s e) v (subst (Begun g) is_end (step_begun g w n f (acted f (at_work s) e) acts)) (λ m c ne up. (all g).begun m c up) (subst (Tied g w n) is_end (step_end_tied g w n f (acted f (at_work s) e) acts))
