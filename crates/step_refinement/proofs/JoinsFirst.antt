-- No REQUEST is given while an older join of its provider waits: the provider asks for more once its join was put.
use Rattle.std.proofs.Common.{◌≡◌, ◌≤◌, ℕ, List, [], ◌∷◌, ◌++◌, Some, true, refl, sym, ap, ◌∙◌, subst, inr, ⊎_elim, arith}
use Rattle.std.specs.Prelude.{slice_get, reverse}
use Rattle.rsct_packet.specs.declared.ids.ViewId.{ViewId}
use Rattle.rsct_packet.specs.declared.ids.ProviderId.{ProviderId}
use Rattle.rsct_packet.specs.Providers.{among}
use Rattle.rsct_packet.specs.Search.{Has}
use Rattle.rsct_packet.proofs.HasLaws.{append_has_right}
use Rattle.group_attr.specs.declared.attrs.Phases.{Phases}
use Rattle.proposal_core.specs.declared.entry.Entry.{Entry}
use Rattle.proposal_core.specs.declared.proposal.Proposal.{Proposal}
use Rattle.node_state.specs.declared.happened.Happened.TheVariants as happened
use Rattle.node_state.specs.declared.packet.Body.TheVariants as body
use Rattle.node_state.specs.declared.packet.Packet.{Packet}
use Rattle.node_state.specs.declared.state.Core.{Core}
use Rattle.node_state.specs.State.{row_of, led_of}
use Rattle.run_safety.specs.ViewOrder.{Le}
use Rattle.run_safety.specs.Past.{records_of}
use Rattle.run_safety.specs.Sight.{lines_with, lines_of}
use Rattle.run_safety.specs.Group.{member, Kept, Begins, Put, kept}
use Rattle.run_safety.specs.Group as group
use Rattle.run_safety.specs.Requests.{carried}
use Rattle.run_safety.proofs.Order.{le_antisym}
use Rattle.run_safety.proofs.SightLaws.{put_seen}
use Rattle.run_safety.proofs.Whole.{Whole}
use Rattle.run_safety.proofs.Lives.{whole}
use Rattle.step_refinement.specs.Tied.{ShowsBody, Waits, JoinPut, Scene, opening_of, Tied}
use Rattle.step_refinement.proofs.RowWorks.{waits_of}

module _ (w : Scene) (n : ℕ) (s : Core) (none : s.records ≡ []) (all : (h : List ℕ) → Tied h w n s) where
  -- what was put before the event, its group sees
  pub seen : (h : List ℕ) (m : ℕ) (u : ViewId) (k : ℕ) (e : Entry) → Has (happened.Put m u h k e) (records_of w.before) → Has (Put m u k e) (kept (all h).ghost.all)
  seen h m u k e i =
      let lines : (all h).ghost.all ≡ Kept Begins ∷ lines_of h w.before = (all h).lines ∙ ap (λ z. lines_with h (reverse z) w.before (lines_of h w.before)) none in
      subst (λ z. Has (Put m u k e) (kept z)) (sym lines) (inr (put_seen m u h k e w.before i))

  -- a join that waits in a group was put in no other
  same_group : (g h : List ℕ) (q : ProviderId) (u : ViewId) (k : ℕ) (e : Entry) → among (row_of s g).led.waiting.joins q ≡ true → Has (happened.Put q.node u h k e) (records_of w.before) → Has (q, q.join) (carried e) → h ≡ g
  same_group g h q u k e waiting i c =
      let t = all h in
      let o : Whole (opening_of w.config) t.ghost.nodes t.ghost.ps t.ghost.all t.ghost.leads t.ghost.bases = whole t.life in
      let a = o.once.asked u k q q.join e (o.good.inv.records (Put q.node u k e) (seen h q.node u k e i)) c in
      let b = o.once.sent u q q.join a.0 a.1 in
      t.sound.one q q.join h g (t.sound.asked q q.join a.0 b.1) (waits_of h w n s t g q waiting)

  module _ (g : List ℕ) (q : ProviderId) (waiting : among (row_of s g).led.waiting.joins q ≡ true) where
    abbrev t : Tied g w n s
    t = all g

    o : Whole (opening_of w.config) t.ghost.nodes t.ghost.ps t.ghost.all t.ghost.leads t.ghost.bases
    o = whole t.life

    led : t.ghost.leads s.views.view ≡ Some (member n s.views.inc)
    led = t.own.0.decides.leads_it q waiting

    waits : Waits t.ghost s.views.view (t.ghost.nodes n).list (row_of s g).led q
    waits = t.own.0.decides.waiting q led waiting

    -- it was put in no view up to this one
    unput : (u : ViewId) (k : ℕ) (e : Entry) → Has (happened.Put q.node u g k e) (records_of w.before) → Has (q, q.join) (carried e) → Le u s.views.view → ⊥
    unput u k e i c le =
        let there : Has (Put q.node u k e) (kept t.ghost.all) = seen g q.node u k e i in
        let from : Le s.views.view u = (o.once.sent s.views.view q q.join waits.proposal waits.sent).2 u k e there c in
        let here : (t.ghost.nodes n).view ≡ u = t.own.0.stands.view ∙ sym (le_antisym u s.views.view le from) in
        let list : (t.ghost.nodes n).list ≡ o.log u = (o.good.inv.node n).whole s.views.inc (ap t.ghost.leads t.own.0.stands.view ∙ led) ∙ ap o.log here in
        waits.unbegun k e (subst (λ z. slice_get z k ≡ Some e) (sym list) (o.good.inv.records (Put q.node u k e) there)) c

  -- of a packet that was sent
  pub joins_first : (v : ViewId) (g : List ℕ) (q : ProviderId) (r : ℕ) (phases : Phases) (x : Proposal) (p : Packet) → p.body ≡ body.Request v g q r phases x → Has p w.sent → v ≡ s.views.view → among (led_of s g).waiting.joins q ≡ true → r ≤ q.join
  unfolding led_of
  joins_first v g q r phases x p is delivered here waiting =
      ⊎_elim (λ (a : r ≡ q.join). number a) (λ (a : JoinPut (s.records ++ records_of w.before) q v). absurd (put a)) ((all g).turns.sent v q r x sent)
    where
      number : r ≡ q.join → r ≤ q.join
      number e = omega arith

      sent : Has (group.Request v q r x) (all g).ghost.ps
      sent = ((subst (ShowsBody (all g).ghost g p.from p.inc p.to) is ((all g).packets p (append_has_right p s.sends w.sent delivered))).2 refl).sent

      put : JoinPut (s.records ++ records_of w.before) q v → ⊥
      put a =
          let i : Has (happened.Put q.node a.at_view a.named a.place a.entry) (records_of w.before) = subst (λ z. Has (happened.Put q.node a.at_view a.named a.place a.entry) (z ++ records_of w.before)) none a.put in
          let same : a.named ≡ g = same_group g a.named q a.at_view a.place a.entry waiting i a.joins in
          unput g q waiting a.at_view a.place a.entry (subst (λ h. Has (happened.Put q.node a.at_view h a.place a.entry) (records_of w.before)) same i) a.joins (subst (Le a.at_view) here a.by_then)
