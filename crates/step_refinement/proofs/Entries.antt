-- ENTRY.
use Rattle.std.proofs.Common.{◌≡◌, ◌⊎◌, ℕ, List, length, Option, Some, Bool, true, false, refl, sym, ap, ◌∙◌, subst, inl, inr}
use Rattle.std.specs.Prelude.{◌==◌, nat_lt}
use Rattle.std.proofs.lemmas.Bool.{eqb-true}
use Rattle.rsct_packet.specs.declared.ids.ViewId.{ViewId}
use Rattle.rsct_packet.specs.declared.ids.ProviderId.{ProviderId}
use Rattle.rsct_packet.specs.Search.{Has}
use Rattle.rsct_packet.proofs.HasLaws.{append_has_right}
use Rattle.proposal_core.specs.declared.entry.Entry.{Entry}
use Rattle.proposal_core.specs.declared.group_state.GroupState.{GroupState}
use Rattle.client_callbacks.specs.declared.ballot.Filled.{Filled}
use Rattle.session_state.specs.declared.state.SessionState.{SessionState}
use Rattle.session_state.specs.HandOn.{hearers}
use Rattle.session_state.specs.HandOn as session
use Rattle.view_state.specs.declared.views.Views.{Views}
use Rattle.node_state.specs.declared.packet.Body.TheVariants as body
use Rattle.node_state.specs.declared.packet.Packet.{Packet}
use Rattle.node_state.specs.declared.state.Core.{Core}
use Rattle.node_state.specs.State.{with_row, state_of, len_of, holds, fits_at_end, set_leader, forget_below, recorded, with_sessions}
use Rattle.node_state.specs.Sending.{sent, send_on}
use Rattle.node_state.specs.HandOn.{Answering, fills}
use Rattle.node_state.specs.Leading.{put, put_and_hand}
use Rattle.node_state.specs.Following.{entry_next, entry_elsewhere, take_entry}
use Rattle.node_state.specs.Step.{is_used, used_if, take_body}
use Rattle.run_safety.specs.Group.{member}
use Rattle.run_safety.specs.Group as group
use Rattle.step_refinement.specs.Ghost.{IsStable}
use Rattle.step_refinement.specs.Tied.{ShowsBody, ShowsEntry, KnowsLeader, Scene, Tied}
use Rattle.node_state.proofs.NameOrder.{cases_text}
use Rattle.step_refinement.proofs.RowWorks.{tied_forgets, tied_led_by, tied_acks}
use Rattle.step_refinement.proofs.Acks.{used_is}
use Rattle.step_refinement.proofs.SessionLaws.{handed_later, handed_gone, hearer_has}
use Rattle.step_refinement.proofs.Puts.{Leaves, put_other, put_own}
use Rattle.step_refinement.proofs.Handed.{Stepping, handed_tied}
use Rattle.step_refinement.proofs.Turns.{handed_fewer}

module _ (v : ViewId) (h : List ℕ) (place stable : ℕ) (e : Entry) (g : List ℕ) (w : Scene) (n : ℕ) (f : Answering) (s : Core) (p : Packet) (is : p.body ≡ body.Entry v h place stable e) (delivered : Has p w.sent) (t : Tied g w n s) (view_is : v ≡ s.views.view) (thawed : s.views.promise ≡ s.views.view) (among : Has (member p.from p.inc) s.views.members) where
  -- what the packet shows, at any moment
  shown : (c : Core) (k : Tied g w n c) → h ≡ g → ShowsEntry k.ghost p.from p.inc v place stable e
  shown c k = subst (ShowsBody k.ghost g p.from p.inc p.to) is (k.packets p (append_has_right p c.sends w.sent delivered))

  stable_is : (c : Core) (k : Tied g w n c) → c.views ≡ s.views → h ≡ g → IsStable k.ghost c.views.view stable
  stable_is c k same q =
      subst (λ (z : Views). IsStable k.ghost z.view stable) (sym same) (subst (λ z. IsStable k.ghost z stable) view_is (shown c k q).stable)

  leader_is : (c : Core) (k : Tied g w n c) → c.views ≡ s.views → h ≡ g → KnowsLeader k.ghost c.views.view c.views.members (Some p.from)
  leader_is c k same q =
      subst (λ (z : Views). KnowsLeader k.ghost z.view z.members (Some p.from)) (sym same) (p.inc, among, ap k.ghost.leads (sym view_is) ∙ (shown c k q).leads)

  -- acknowledged, and what is stable is forgotten
  after_ack : (c : Core) (k : Tied g w n c) → c.views ≡ s.views → Tied g w n (forget_below (sent c p.from (body.Ack c.views.view h (len_of c h))) h stable)
  unfolding sent send_on
  after_ack c k same =
      let a : Tied g w n (sent c p.from (body.Ack c.views.view h (len_of c h))) = tied_acks g w n c k p.from h in
      tied_forgets g w n (sent c p.from (body.Ack c.views.view h (len_of c h))) a h stable (stable_is (sent c p.from (body.Ack c.views.view h (len_of c h))) a same)

  after_next : (c : Core) (k : Tied g w n c) → c.views ≡ s.views → Tied g w n (forget_below (set_leader (sent c p.from (body.Ack c.views.view h (len_of c h))) h p.from) h stable)
  unfolding sent send_on set_leader with_row
  after_next c k same =
      let d : Core = sent c p.from (body.Ack c.views.view h (len_of c h)) in
      let a : Tied g w n d = tied_acks g w n c k p.from h in
      let b : Tied g w n (set_leader d h p.from) = tied_led_by g w n d a h p.from (leader_is d a same) in
      tied_forgets g w n (set_leader d h p.from) b h stable (stable_is (set_leader d h p.from) b same)

  -- put and handed on
  next : place ≡ len_of s h → fits_at_end s h e ≡ true → Tied g w n (entry_next f s p.from h stable e true)
  unfolding entry_next put_and_hand put recorded with_row with_sessions
  next at room = let k = handed_tied g w n h s.views.view (len_of s h) e (state_of (put s h e) h) s.views f (Some p.from) (put s h e) (state_of s h) refl hears (begun (cases_text h g)) in
      after_next (put_and_hand f s (Some p.from) h e) k.tied k.same
    where
      after : GroupState
      after = state_of (put s h e) h

      bs : List (Option Filled)
      bs = fills f (length (put s h e).records) s.sessions e after (hearers s.sessions h (state_of s h) e)

      u : SessionState
      u = session.handed_on s.sessions h (state_of s h) after e bs

      leaves : Leaves s.sessions u e
      leaves = record { later = handed_later s.sessions h (state_of s h) after e bs; gone = handed_gone s.sessions h (state_of s h) after e bs; fewer = handed_fewer s.sessions h (state_of s h) after e bs }

      hears : (q : ProviderId) → Has q (hearers s.sessions h (state_of s h) e) → q.node ≡ n
      hears q i =
          let k = hearer_has s.sessions h (state_of s h) e q i in
          ap (λ (z : ProviderId). z.node) (sym k.2) ∙ (t.own.0.owes.providers k.0 k.1).0

      begun : (h ≡ g) ⊎ (h ≡ g → ⊥) → Stepping g w n h s.views.view (len_of s h) e after s.views (with_sessions (put s h e) u)
      begun (inl q) =
          let P : List ℕ → Type 0 = λ k. Stepping g w n h s.views.view (len_of s k) e (state_of (put s k e) k) s.views (with_sessions (put s k e) u) in
          let sent_it : Has (group.Append s.views.view (len_of s g) e) t.ghost.ps = subst (λ (k : ViewId × ℕ). Has (group.Append k.0 k.1 e) t.ghost.ps) (λ i. (view_is i, (at ∙ ap (len_of s) q) i)) (shown s t q).sent in
          let k = put_own g w n s t e u leaves (subst (λ z. fits_at_end s z e ≡ true) q room) thawed sent_it in
          let own : P g = record { tied = k.0; same = refl; after = λ r. k.1 } in
          subst P (sym q) own
      begun (inr ne) = record { tied = put_other g w n s t h e u leaves thawed ne; same = refl; after = λ q. absurd (ne q) }

pub entry_is_tied : (v : ViewId) (h : List ℕ) (place stable : ℕ) (e : Entry) (g : List ℕ) (w : Scene) (n : ℕ) (f : Answering) (s : Core) (p : Packet) → p.body ≡ body.Entry v h place stable e → Has p w.sent → Tied g w n s → Tied g w n (take_body f s p (body.Entry v h place stable e))
unfolding take_body used_if take_entry entry_next entry_elsewhere
entry_is_tied v h place stable e g w n f s p is delivered t = by (is_used s p v) refl
  where
    by : (b : Bool) → is_used s p v ≡ b → Tied g w n (used_if s (take_entry f s p.from h place stable e) b)
    by false q = t
    by true q = at (place == len_of s h) (fits_at_end s h e) (nat_lt place (len_of s h)) (holds s h) refl refl
      where
        k : (v ≡ s.views.view) × (s.views.promise ≡ s.views.view) × Has (member p.from p.inc) s.views.members
        k = used_is s p v q

        at : (a b c d : Bool) → (place == len_of s h) ≡ a → fits_at_end s h e ≡ b → Tied g w n (elim a [ true ↦ entry_next f s p.from h stable e b | false ↦ entry_elsewhere s p.from h stable c ])
        at true false c d r y = t
        at true true c d r y = next v h place stable e g w n f s p is delivered t k.0 k.1 k.2 (eqb-true place (len_of s h) r) y
        at false b true d r y = after_ack v h place stable e g w n f s p is delivered t k.0 k.1 k.2 s t refl
        at false b false d r y = last (holds s h)
          where
            last : (d : Bool) → Tied g w n (elim d [ true ↦ forget_below s h stable | false ↦ s ])
            last true = tied_forgets g w n s t h stable (stable_is v h place stable e g w n f s p is delivered t k.0 k.1 k.2 s t refl)
            last false = t
