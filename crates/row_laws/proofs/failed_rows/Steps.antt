-- A whole step.
use Rattle.std.proofs.Common.{◌≡◌, ℕ, List, [], ◌∷◌, ◌++◌, Option, Some, None, Bool, true, false, refl, sym, ap, ◌∙◌, subst}
use Rattle.std.specs.Prelude.{◌==◌, slice_get, reverse}
use Rattle.std.proofs.lemmas.Bool.{eqb-true}
use Rattle.rsct_packet.specs.declared.ids.ViewId.{ViewId}
use Rattle.rsct_packet.specs.declared.ids.ProviderId.{ProviderId}
use Rattle.rsct_packet.specs.declared.mask.Mask.{Mask}
use Rattle.rsct_packet.specs.Search.{Has}
use Rattle.rsct_packet.proofs.HasLaws.{append_has_right, has_map}
use Rattle.proposal_core.specs.declared.entry.Entry.{Entry}
use Rattle.proposal_core.specs.declared.proposal.Proposal.{Proposal}
use Rattle.proposal_core.specs.declared.proposal.Proposal.TheVariants.{Join, Leave, Fail, Expel, State, Message, Attributes, Reflect}
use Rattle.proposal_core.specs.Lists.{len_in}
use Rattle.session_state.specs.declared.state.Provider.{Provider}
use Rattle.session_state.specs.declared.state.Request.{Request}
use Rattle.session_state.specs.HandOn.{is_join, is_dissolved}
use Rattle.view_state.specs.declared.packet.ViewPacket.{ViewPacket}
use Rattle.view_state.specs.declared.packet.ViewPacket.TheVariants as view
use Rattle.view_state.specs.declared.views.ViewWork.{ViewWork}
use Rattle.view_state.specs.Views.{views_at_work, ask_rule, prepare_rule, answer_rule, refuse_rule, install_rule, taken_rule}
use Rattle.node_state.specs.declared.call.CallLine.{CallLine}
use Rattle.node_state.specs.declared.happened.Happened.TheVariants as happened
use Rattle.node_state.specs.declared.packet.Body.{Body}
use Rattle.node_state.specs.declared.packet.Body.TheVariants as body
use Rattle.node_state.specs.declared.packet.Packet.{Packet}
use Rattle.node_state.specs.declared.state.Core.{Core}
use Rattle.node_state.specs.Settings.{is_fixed}
use Rattle.node_state.specs.State.{row_of, len_of, list_of}
use Rattle.node_state.specs.HandOn.{Answering}
use Rattle.node_state.specs.Following.{take_lookup, take_name, take_request, take_tell, take_entry, take_ack, take_vote, take_gone}
use Rattle.node_state.specs.Applying.{own_parts, views_taken}
use Rattle.node_state.specs.Status.{status_text}
use Rattle.node_state.specs.Ticks.{tick_rings, tick_views, tick_owed}
use Rattle.node_state.specs.Step.{NodeEvent, Ticks, Asks, Given, Calls, Garbage, is_used, used_if, take_order, view_rule, take_body, packet_rule, stepped, at_work}
use Rattle.world_model.specs.Run.{Happening}
use Rattle.run_safety.specs.Past.{History, records_of, view_now}
use Rattle.run_safety.specs.Stays.{is_join_of}
use Rattle.run_safety.specs.Group as group
use Rattle.run_safety.specs.Requests.{requests_of, carried}
use Rattle.run_safety.proofs.Whole.{Whole}
use Rattle.run_safety.proofs.Lives.{whole}
use Rattle.step_refinement.specs.Ghost.{asking}
use Rattle.step_refinement.specs.Tied.{Owed, ShowsBody, ShowsEntry, Scene, opening_of, lines_now, Tied}
use Rattle.step_refinement.specs.Rules.{acted, Arises}
use Rattle.step_refinement.proofs.Acks.{used_is}
use Rattle.step_refinement.proofs.JoinsFirst.{seen}
use Rattle.step_refinement.proofs.Steps.{stepped_is}
use Rattle.row_laws.proofs.honest_votes.At.{found}
use Rattle.row_laws.proofs.honest_votes.Changes.{Every, NoGroup}
use Rattle.row_laws.proofs.honest_votes.Steps.{entry_follows, request_leads}
use Rattle.row_laws.specs.failed_rows.Failures.{IsRefused, GoneCause}
use Rattle.row_laws.proofs.failed_rows.Fitting.{put_back}
use Rattle.row_laws.proofs.failed_rows.Asked.{join_carried, lost_asked}
use Rattle.row_laws.proofs.hearing.InView.{InView, stay_asks, stay_prepares, stay_answers, stay_refuses, stay_installs, stay_takes}
use Rattle.node_state.specs.Calls.{take_call}
use Rattle.row_laws.proofs.failed_rows.Origin.{origin_of, root_of}
use Rattle.row_laws.proofs.failed_rows.At.{At, at_sent_on, at_rooted}
use Rattle.row_laws.proofs.failed_rows.Ending.{NoFailure, at_step_ended}
use Rattle.row_laws.proofs.failed_rows.Entering.{at_views_taken}
use Rattle.row_laws.proofs.failed_rows.Ticking.{at_ring_rule, at_report, at_rings_part, at_views_part, at_owed_part, at_led_part}
use Rattle.row_laws.proofs.failed_rows.Following.{at_lookup, at_name, at_request, at_tell, at_entry, at_ack, at_vote, at_gone}
use Rattle.row_laws.proofs.failed_rows.Living.{IsLive}
use Rattle.row_laws.proofs.failed_rows.Calling.{Taken, Ended, at_call}

-- what was sent to a node of who is gone has its cause, and no telling says that a group was dissolved
abbrev pub BodyGone : History → Body → Type 0
BodyGone h (body.Gone v g p) = GoneCause h v g p
BodyGone h (body.Tell v g p r y) = is_dissolved y ≡ false
BodyGone h _ = Unit {0}

-- whatever was asked is no failure leave
no_failure : (p : ProviderId) (r : ℕ) (x : Proposal) → Has (p, r) (requests_of x) → NoFailure x
no_failure p r (Fail out) i = absurd i
no_failure p r (Reflect v k value) i = absurd i
no_failure p r _ i = tt

join_number : (p : ProviderId) (r : ℕ) (x : Proposal) → is_join x ≡ true → Has (p, r) (requests_of x) → r ≡ p.join
join_number p r (Join ps attrs n) e i =
    let k = has_map (λ (q : ProviderId). (q, q.join)) (p, r) ps i in ap (λ (z : ProviderId × ℕ). z.1) k.2 ∙ ap (λ (z : ProviderId × ℕ). (z.0).join) (sym k.2)
join_number p r (Leave q k) e i = absurd (cc)
join_number p r (Fail out) e i = absurd (cc)
join_number p r (Expel q k out) e i = absurd (cc)
join_number p r (State q k value) e i = absurd (cc)
join_number p r (Message q k bytes) e i = absurd (cc)
join_number p r (Attributes q k attrs) e i = absurd (cc)
join_number p r (Reflect v k value) e i = absurd (cc)

-- an entry that was sent was put before
entry_put : (v : ViewId) (g : List ℕ) (place stable : ℕ) (e : Entry) (w : Scene) (n : ℕ) (s : Core) (p : Packet) → p.body ≡ body.Entry v g place stable e → Has p w.sent → Tied g w n s → is_used s p v ≡ true → (place == len_of s g) ≡ true → (m : ℕ) × (d : Entry) × Has (happened.Put m s.views.view g (len_in (found s g).list) d) (reverse s.records ++ records_of w.before)
unfolding len_of list_of row_of
entry_put v g place stable e w n s p is delivered t used at =
    let k = used_is s p v used in
    let shown : ShowsEntry t.ghost p.from p.inc v place stable e = (subst (ShowsBody t.ghost g p.from p.inc p.to) is (t.packets p (append_has_right p s.sends w.sent delivered))) refl in
    let o : Whole (opening_of w.config) t.ghost.nodes t.ghost.ps t.ghost.all t.ghost.leads t.ghost.bases = whole t.life in
    let get : slice_get (o.log v) place ≡ Some e = o.good.inv.packet (group.Append v place e) shown.sent in
    let was = o.firsts.put v place e get in
    let line : Has (group.Put was.0 v place was.1) (group.kept (lines_now g w s)) = subst (λ z. Has (group.Put was.0 v place was.1) (group.kept z)) t.lines was.2 in
    let now : Happening = record { event = None; records = reverse s.records } in
    let rec = put_back was.0 v g place was.1 (now ∷ w.before) line in
    (was.0, was.1, subst (λ (z : ViewId × ℕ). Has (happened.Put was.0 z.0 g z.1 was.1) (reverse s.records ++ records_of w.before)) (λ i. (k.0 i, eqb-true place (len_of s g) at i)) rec)

-- ---- a join that is outstanding was put in no group

module _ (w : Scene) (n : ℕ) (s : Core) (none : s.records ≡ []) (all : (h : List ℕ) → Tied h w n s) where
  unput : (q : Request) → Has q s.sessions.requests → q.request ≡ q.provider.join → (v : ViewId) (g : List ℕ) (i : ℕ) (e : Entry) → Has (happened.Put q.provider.node v g i e) (records_of w.before) → is_join_of q.provider e ≡ true → ⊥
  unput q there join v g i e put names = owed.unput v i e (subst (λ m. Has (group.Put m v i e) (group.kept t.ghost.all)) own.0 line) carries
    where
      t : Tied g w n s
      t = all g

      o : Whole (opening_of w.config) t.ghost.nodes t.ghost.ps t.ghost.all t.ghost.leads t.ghost.bases
      o = whole t.life

      own : (q.provider.node ≡ n) × (q.provider.inc ≡ s.views.inc) × Has (asking q.provider q.request q.group) t.ghost.asked × Has (q.provider, q.request) (requests_of q.proposal)
      own = t.own.0.owes.own q there

      line : Has (group.Put q.provider.node v i e) (group.kept t.ghost.all)
      line = seen w n s none all g q.provider.node v i e put

      asked : Has (asking q.provider q.provider.join g) t.ghost.asked
      asked =
          let get : slice_get (o.log v) i ≡ Some e = o.good.inv.records (group.Put q.provider.node v i e) line in
          let a = o.once.asked v i q.provider q.provider.join e get (join_carried q.provider e names) in
          let b = o.once.sent v q.provider q.provider.join a.0 a.1 in
          t.sound.asked q.provider q.provider.join a.0 b.1

      same : q.group ≡ g
      same = t.sound.one q.provider q.provider.join q.group g (subst (λ r. Has (asking q.provider r q.group) t.ghost.asked) join own.2) asked

      owed : Owed t.ghost n s.views.inc q
      owed = t.own.0.owes.requests q there same

      carries : Has {A = ProviderId × ℕ} (q.provider, q.request) (carried e)
      carries = subst (λ r. Has {A = ProviderId × ℕ} (q.provider, r) (carried e)) (sym join) (join_carried q.provider e names)

  -- so it is one that may be refused
  pub may_refuse : (q : Request) → Has q s.sessions.requests → is_join q.proposal ≡ true → IsRefused (reverse s.records ++ records_of w.before) q.provider q.request
  may_refuse q i j =
      record {
        join = join;
        in_view = (s.views.view, ap (λ m. view_now m (reverse s.records ++ records_of w.before)) ((all []).own.0.owes.own q i).0 ∙ (all []).placed.0);
        unput = λ v g k e put. unput q i join v g k e (subst (λ z. Has (happened.Put q.provider.node v g k e) (reverse z ++ records_of w.before)) none put);
      }
    where
      join : q.request ≡ q.provider.join
      join = join_number q.provider q.request q.proposal j ((all []).own.0.owes.own q i).3

-- what is asked of a call: that it is taken, and what a goodbye says
pub record Calling (s : Core) (said : ProviderId → Type 0) (M : Type 0) (e : NodeEvent) : Type 0 where
  pub mine : (p : ProviderId) → IsLive s.sessions p → p.node ≡ s.views.me
  pub me : s.sessions.me ≡ s.views.me
  pub taken : (c : CallLine) → e ≡ Calls c → M → Taken s.sessions c
  pub says : (c : CallLine) → e ≡ Calls c → Taken s.sessions c → (x : Provider) → Has x (Ended s.sessions c) → said x.provider
  pub owner : (a b : Provider) → Has a s.sessions.providers → Has b s.sessions.providers → a.provider ≡ b.provider → a.client ≡ b.client

module _ (w : Scene) (n : ℕ) (f : Answering) (s : Core) (root : Option Core) (said : ProviderId → Type 0) (M : Type 0) (were : (p : Packet) → Has p w.sent → BodyGone w.before p.body) (nothing : s.records ≡ []) (all : (h : List ℕ) → Tied h w n s) (a : At w.before said (origin_of s root) (Unit {0}) (Unit {0}) M Every NoGroup Every s) where
  abbrev Full : Core → Type 0
  Full c = At w.before said (origin_of s root) (Unit {0}) (Unit {0}) M Every NoGroup Every c

  numbered : (q : Request) → Has q s.sessions.requests → is_join q.proposal ≡ true → IsRefused (reverse s.records ++ records_of w.before) q.provider q.request
  numbered = may_refuse w n s nothing all

  used : (t : Core) (b : Bool) → (b ≡ true → Full t) → Full (used_if s t b)
  unfolding used_if
  used t true k = k refl
  used t false k = a

  taken : (x : ViewWork) → InView (views_at_work s.views) x → Full (views_taken f s x)
  taken x k = at_views_taken w.before said (origin_of s root) (Unit {0}) (Unit {0}) M tt f s x k.0 k.1 k.2 a

  view_at : (from inc : ℕ) (y : ViewPacket) → Full (view_rule f s from inc y)
  unfolding view_rule
  view_at from inc (view.Prepare v mask) = taken (prepare_rule (views_at_work s.views) from inc v mask (own_parts s)) (stay_prepares (views_at_work s.views) from inc v mask (own_parts s))
  view_at from inc (view.Answer v old parts) = taken (answer_rule (views_at_work s.views) v (record { node = from; inc = inc; view = old; parts = parts })) (stay_answers (views_at_work s.views) v (record { node = from; inc = inc; view = old; parts = parts }))
  view_at from inc (view.Refuse v k) = taken (refuse_rule (views_at_work s.views) v k) (stay_refuses (views_at_work s.views) v k)
  view_at from inc (view.Install i) = taken (install_rule (views_at_work s.views) i) (stay_installs (views_at_work s.views) i)
  view_at from inc (view.Taken v) = taken (taken_rule (views_at_work s.views) from v) (stay_takes (views_at_work s.views) from v)

  body_at : (p : Packet) (b : Body) → p.body ≡ b → p.to ≡ n → Has p w.sent → BodyGone w.before b → Full (take_body f s p b)
  unfolding take_body
  body_at p (body.Ring x) is to sent ok = at_ring_rule w.before said (origin_of s root) (Unit {0}) (Unit {0}) M tt s p.network p.from p.inc x a
  body_at p (body.Report rows) is to sent ok = at_report w.before said (origin_of s root) (Unit {0}) (Unit {0}) M tt s rows a
  body_at p (body.View y) is to sent ok = view_at p.from p.inc y
  body_at p (body.Lookup v g) is to sent ok = used (take_lookup s p.from g) (is_used s p v) (λ u. at_lookup w.before said (origin_of s root) (Unit {0}) (Unit {0}) M tt s p.from g a)
  body_at p (body.Name v g k) is to sent ok = used (take_name s g k) (is_used s p v) (λ u. at_name w.before said (origin_of s root) (Unit {0}) (Unit {0}) M tt s g k numbered a)
  body_at p (body.Request v g q r phases x) is to sent ok =
      used (take_request f s p.from g q r phases x) (is_used s p v) (λ u. at_request w.before said (origin_of s root) (Unit {0}) (Unit {0}) M tt f s g (request_leads v g q r phases x w n s p is to sent (all g) u) p.from q r phases x (no_failure q r x ((subst (ShowsBody (all g).ghost g p.from p.inc p.to) is ((all g).packets p (append_has_right p s.sends w.sent sent))).1)) a)
  body_at p (body.Tell v g q r why) is to sent ok = used (take_tell s q r why) (is_used s p v) (λ u. at_tell w.before said (origin_of s root) (Unit {0}) (Unit {0}) M tt s q r why ok numbered a)
  body_at p (body.Entry v g i k e) is to sent ok =
      used (take_entry f s p.from g i k e) (is_used s p v) (λ u. at_entry w.before said (origin_of s root) (Unit {0}) (Unit {0}) M tt f s p.from g k e i (λ at. entry_put v g i k e w n s p is sent (all g) u at) (λ at led. entry_follows v g i k e w n s p is sent (all g) u at led) a)
  body_at p (body.Ack v g k) is to sent ok = used (take_ack s p.from g k) (is_used s p v) (λ u. at_ack w.before said (origin_of s root) (Unit {0}) (Unit {0}) M tt s p.from g k a)
  body_at p (body.Vote v g proto phase q ballot value message) is to sent ok =
      used (take_vote f s g proto phase q ballot value message) (is_used s p v) (λ u. at_vote w.before said (origin_of s root) (Unit {0}) (Unit {0}) M tt f s g proto phase q ballot value message a)
  body_at p (body.Gone v g q) is to sent ok =
      used (take_gone f s g q) (is_used s p v) (λ u. at_gone w.before said (origin_of s root) (Unit {0}) (Unit {0}) M tt f s g q (subst (λ z. GoneCause w.before z g q) (used_is s p v u).0 ok) a)
  body_at p (body.Query question what) is to sent ok = at_sent_on w.before said (origin_of s root) (Unit {0}) (Unit {0}) M Every NoGroup Every s p.network p.from (body.Reply question (status_text s what)) tt a
  body_at p (body.Reply question text) is to sent ok = a

  order_at : (mask : Mask) → Full (take_order f s mask)
  unfolding take_order
  order_at mask = by (is_fixed s.config.mode)
    where
      by : (b : Bool) → Full (elim b as (λ _. Core) [ true ↦ s | false ↦ views_taken f s (ask_rule (views_at_work s.views) mask (own_parts s)) ])
      by true = a
      by false = taken (ask_rule (views_at_work s.views) mask (own_parts s)) (stay_asks (views_at_work s.views) mask (own_parts s))

  pub acted_at : (e : NodeEvent) → ((c : CallLine) → e ≡ Calls c → root ≡ None) → Arises w e → Calling s said M e → Full (acted f s e)
  unfolding packet_rule
  acted_at Ticks free arises calls =
      at_led_part w.before said (origin_of s root) (Unit {0}) (Unit {0}) M tt f (tick_owed (tick_views f (tick_rings s))) (at_owed_part w.before said (origin_of s root) (Unit {0}) (Unit {0}) M tt (tick_views f (tick_rings s)) (lost_asked w n f s nothing all) (at_views_part w.before said (origin_of s root) (Unit {0}) (Unit {0}) M tt f (tick_rings s) (at_rings_part w.before said (origin_of s root) (Unit {0}) (Unit {0}) M tt s a)))
  acted_at (Asks mask) free arises calls = order_at mask
  acted_at (Calls c) free arises calls = at_call w.before said (origin_of s root) (free c refl) (Unit {0}) (Unit {0}) M s c (calls.taken c refl) (calls.says c refl) calls.mine calls.owner calls.me a
  acted_at Garbage free arises calls = a
  acted_at (Given p) free arises calls = by (p.to == s.views.me) refl
    where
      by : (b : Bool) → (p.to == s.views.me) ≡ b → Full (elim b as (λ _. Core) [ true ↦ take_body f s p p.body | false ↦ s ])
      by false e = a
      by true e = body_at p p.body refl (eqb-true p.to s.views.me e ∙ (all []).own.0.stands.me) arises (were p arises)

pub at_stepped : (w : Scene) (n : ℕ) (f : Answering) (s : Core) (said : ProviderId → Type 0) (M : Type 0) (e : NodeEvent) (were : (p : Packet) → Has p w.sent → BodyGone w.before p.body) (all : (h : List ℕ) → Tied h w n (at_work s)) → Arises w e → (a : At w.before said (origin_of s None) (Unit {0}) (Unit {0}) M Every NoGroup Every (at_work s)) → Calling (at_work s) said M e → At w.before said (origin_of s (Some (root_of (at_work s) e))) (Unit {0}) (Unit {0}) M Every NoGroup Every (stepped f s e)
at_stepped w n f s said M e were all arises a calls =
    subst (At w.before said (origin_of s (Some (root_of (at_work s) e))) (Unit {0}) (Unit {0}) M Every NoGroup Every) (sym (stepped_is f s e)) (at_step_ended w.before said (origin_of s (Some (root_of (at_work s) e))) (Unit {0}) (Unit {0}) M tt f (acted f (at_work s) e) (by e arises calls))
  where
    rooted : (c : Core) → At w.before said (origin_of s None) (Unit {0}) (Unit {0}) M Every NoGroup Every c → At w.before said (origin_of s (Some c)) (Unit {0}) (Unit {0}) M Every NoGroup Every c
    rooted c k = at_rooted w.before said s.views.inc None (Unit {0}) (Unit {0}) M Every NoGroup Every c k

    -- no call
    other : (e : NodeEvent) → ((c : CallLine) → e ≡ Calls c → Some (at_work s) ≡ None) → Arises w e → Calling (at_work s) said M e → At w.before said (origin_of s (Some (at_work s))) (Unit {0}) (Unit {0}) M Every NoGroup Every (acted f (at_work s) e)
    other e none arises calls = acted_at w n f (at_work s) (Some (at_work s)) said M were refl all (rooted (at_work s) a) e none arises calls

    by : (e : NodeEvent) → Arises w e → Calling (at_work s) said M e → At w.before said (origin_of s (Some (root_of (at_work s) e))) (Unit {0}) (Unit {0}) M Every NoGroup Every (acted f (at_work s) e)
    by (Calls c) arises calls = rooted (take_call (at_work s) c) (acted_at w n f (at_work s) None said M were refl all a (Calls c) (λ d q. refl) arises calls)
    by Ticks arises calls = other Ticks (λ c q. absurd (cc)) arises calls
    by (Asks mask) arises calls = other (Asks mask) (λ c q. absurd (cc)) arises calls
    by (Given p) arises calls = other (Given p) (λ c q. absurd (cc)) arises calls
    by Garbage arises calls = other Garbage (λ c q. absurd (cc)) arises calls
