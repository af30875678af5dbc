-- A whole step keeps that votes were cast.
use Rattle.std.proofs.Common.{◌≡◌, ℕ, List, [], ◌∷◌, ◌++◌, length, Some, Bool, true, false, refl, sym, ap, ◌∙◌, subst}
use Rattle.std.specs.Prelude.{◌==◌, slice_get}
use Rattle.std.proofs.lemmas.Bool.{eqb-true, eq-eqb}
use Rattle.rsct_packet.specs.declared.ids.ViewId.{ViewId}
use Rattle.rsct_packet.specs.declared.ids.ProviderId.{ProviderId}
use Rattle.rsct_packet.specs.Search.{Has}
use Rattle.rsct_packet.proofs.HasLaws.{append_has_right}
use Rattle.group_attr.specs.declared.attrs.Phases.{Phases}
use Rattle.proposal_core.specs.declared.entry.Entry.{Entry}
use Rattle.proposal_core.specs.declared.proposal.Proposal.{Proposal}
use Rattle.node_state.specs.declared.config.Mode.{Mode}
use Rattle.node_state.specs.declared.config.Mode.TheVariants.{Fixed, Asked, Rings}
use Rattle.node_state.specs.declared.group.GroupRow.{GroupRow}
use Rattle.node_state.specs.declared.packet.Body.TheVariants as body
use Rattle.node_state.specs.declared.packet.Packet.{Packet}
use Rattle.node_state.specs.declared.state.Core.{Core}
use Rattle.node_state.specs.Settings.{is_fixed}
use Rattle.node_state.specs.State.{row_of, with_row, len_of, is_this, leader_by, leader_in, leads_in, leads, set_leader}
use Rattle.node_state.specs.HandOn.{Answering}
use Rattle.node_state.specs.Step.{NodeEvent, Ticks, Asks, Given, Calls, Garbage, is_used, stepped, at_work}
use Rattle.run_safety.specs.Past.{records_of}
use Rattle.run_safety.specs.Group.{member}
use Rattle.run_safety.specs.Group as group
use Rattle.run_safety.proofs.Whole.{Whole}
use Rattle.run_safety.proofs.Lives.{whole}
use Rattle.run_safety.proofs.Parts.{member_parts}
use Rattle.node_state.proofs.NameOrder.{row_here}
use Rattle.step_refinement.specs.Tied.{ShowsBody, ShowsEntry, ShowsLeader, ShowsRequest, Scene, opening_of, Tied}
use Rattle.step_refinement.specs.Rules.{Arises}
use Rattle.step_refinement.proofs.Acks.{used_is}
use Rattle.step_refinement.proofs.Leads.{leader_inc, leads_known}
use Rattle.step_refinement.proofs.RowWorks.{len_is}
use Rattle.row_laws.specs.honest_votes.Casts.{BodyCast}
use Rattle.step_walk.proofs.Called.{at_call}
use Rattle.step_walk.proofs.Rings.{by_rings}
use Rattle.step_walk.proofs.Stepping.{called, GivenTo}
use Rattle.step_walk.proofs.Stepping as stepping
use Rattle.row_laws.proofs.honest_votes.More.{body_on}
use Rattle.row_laws.proofs.honest_votes.At.{At}
use Rattle.row_laws.proofs.honest_votes.Changes.{NamesApart, Every, But, Known, Works, Leaving, beside, ending, packets, calling, entering, ring}

pub past_end : (xs : List Entry) (e : Entry) → slice_get xs (length xs) ≡ Some e → ⊥
past_end [] e q = absurd (cc)
past_end (x ∷ xs) e q = past_end xs e q

-- a leader has all that was sent of its view: no entry comes to it at its length
pub entry_follows : (v : ViewId) (g : List ℕ) (place stable : ℕ) (e : Entry) (w : Scene) (n : ℕ) (s : Core) (p : Packet) → p.body ≡ body.Entry v g place stable e → Has p w.sent → Tied g w n s → is_used s p v ≡ true → (place == len_of s g) ≡ true → leads s g ≡ true → ⊥
entry_follows v g place stable e w n s p is delivered t used at led =
    let k = used_is s p v used in
    let shown : ShowsEntry t.ghost p.from p.inc v place stable e = (subst (ShowsBody t.ghost g p.from p.inc p.to) is (t.packets p (append_has_right p s.sends w.sent delivered))) refl in
    let o : Whole (opening_of w.config) t.ghost.nodes t.ghost.ps t.ghost.all t.ghost.leads t.ghost.bases = whole t.life in
    let stands = t.own.0.stands in
    let get : slice_get (o.log v) place ≡ Some e = o.good.inv.packet (group.Append v place e) shown.sent in
    let known = leads_known g w n s t led in
    let list : (t.ghost.nodes n).list ≡ o.log (t.ghost.nodes n).view = (o.good.inv.node n).whole s.views.inc (ap t.ghost.leads stands.view ∙ known) in
    let here : (t.ghost.nodes n).view ≡ v = stands.view ∙ sym k.0 in
    let all : (t.ghost.nodes n).list ≡ o.log v = list ∙ ap o.log here in
    let end : place ≡ length (t.ghost.nodes n).list = eqb-true place (len_of s g) at ∙ len_is g w n s t in
    let past : slice_get (t.ghost.nodes n).list (length (t.ghost.nodes n).list) ≡ slice_get (o.log v) place = λ i. slice_get (all i) (sym end i) in
    past_end (t.ghost.nodes n).list e (past ∙ get)

-- a node that is sent a request leads the group, once it has noted that
pub request_leads : (v : ViewId) (g : List ℕ) (q : ProviderId) (r : ℕ) (phases : Phases) (x : Proposal) (w : Scene) (n : ℕ) (s : Core) (p : Packet) → p.body ≡ body.Request v g q r phases x → p.to ≡ n → Has p w.sent → Tied g w n s → is_used s p v ≡ true → leads (set_leader s g s.views.me) g ≡ true
unfolding leads leads_in leader_in set_leader with_row
request_leads v g q r phases x w n s p is to delivered t used = by s.config.mode t.own.0.led
  where
    shown : ShowsRequest t.ghost p.to v q r x
    shown = (subst (ShowsBody t.ghost g p.from p.inc p.to) is (t.packets p (append_has_right p s.sends w.sent delivered))).2 refl

    here : t.ghost.leads s.views.view ≡ Some (member n s.views.inc)
    here =
        let k = shown.leader in
        leader_inc g w n s t (record { inc = k.inc; leads = ap t.ghost.leads (sym (used_is s p v used).0) ∙ k.leads ∙ ap (λ m. Some (member m k.inc)) to })

    coordinates : ShowsLeader t.ghost s.views.view s.views.view.coord → s.views.view.coord ≡ n
    coordinates k = (member_parts s.views.view.coord n k.inc s.views.inc (sym k.leads ∙ here)).0

    row : (row_of (with_row s g (λ row. record row { leader = Some s.views.me })) g).leader ≡ Some s.views.me
    row = ap (λ (z : GroupRow). z.leader) (row_here g (λ row. record row { leader = Some s.views.me }) (λ z. refl) s t.own.0.order)

    by : (mode : Mode) → (is_fixed mode ≡ true → ShowsLeader t.ghost s.views.view s.views.view.coord) → is_this s.views.me (leader_by mode s.views.view.coord (row_of (with_row s g (λ row. record row { leader = Some s.views.me })) g).leader) ≡ true
    by Fixed led = eq-eqb s.views.view.coord s.views.me (coordinates (led refl) ∙ sym t.own.0.stands.me)
    by Asked led = ap (is_this s.views.me) row ∙ eq-eqb s.views.me s.views.me refl
    by Rings led = ap (is_this s.views.me) row ∙ eq-eqb s.views.me s.views.me refl

-- what is known of a step of a node as it begins
module _ (w : Scene) (n : ℕ) (s : Core) (were : (p : Packet) → Has p w.sent → BodyCast (records_of w.before) p.body) (all : (h : List ℕ) → Tied h w n (at_work s)) where
  unled : (b : Bool) → (b ≡ true → ⊥) → b ≡ false
  unled true no_it = absurd (no_it refl)
  unled false no_it = refl

  known : (p : Packet) → Has p w.sent → Known w.before (at_work s) p
  known p sent =
      record {
        cast = body_on (records_of w.before) ((at_work s).records ++ records_of w.before) (λ r i. append_has_right r (at_work s).records (records_of w.before) i) p.body (were p sent);
        entry = λ v g place stable e is used at. unled (leads (at_work s) g) (λ led. entry_follows v g place stable e w n (at_work s) p is sent (all g) used at led);
        request = λ v g q r phases x is to used. request_leads v g q r phases x w n (at_work s) p is (to ∙ (all []).own.0.stands.me) sent (all g) used;
      }

  given : (e : NodeEvent) → Arises w e → GivenTo (Known w.before) (at_work s) e
  given Ticks arises = tt
  given (Asks mask) arises = tt
  given (Given p) arises = known p arises
  given (Calls c) arises = tt
  given Garbage arises = tt

  after_call : (e : NodeEvent) → At w.before Every (at_work s) → At w.before Every (called (at_work s) e)
  after_call (Calls c) a = at_call (At w.before Every) (beside w.before Every) (calling w.before) (at_work s) c a
  after_call Ticks a = a
  after_call (Asks mask) a = a
  after_call (Given p) a = a
  after_call Garbage a = a

  pub at_stepped : (f : Answering) (e : NodeEvent) → Arises w e → At w.before Every (at_work s) → At w.before Every (stepped f s e)
  at_stepped f e arises a =
      stepping.at_stepped (At w.before Every) (λ g. At w.before (But g)) NamesApart ⊥ (Known w.before) (Works w.before) (Leaving w.before) (packets w.before) (by_rings (At w.before Every) (Known w.before) (beside w.before Every) (packets w.before).reach (ring w.before)) (entering w.before) (ending w.before) f s e (given e arises) (after_call e a)
