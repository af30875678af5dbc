-- What a daemon's node did, by some answers of its clients, and what it handed to them.
use Rattle.std.proofs.Common.{◌≡◌, ℕ, false, List, [], Option, IsTrue, refl, sym, ap, ◌∙◌, subst}
use Rattle.std.specs.Prelude.{map, drop, is_none, IfSome}
use Rattle.client_callbacks.specs.declared.votes.VoteItem.{VoteItem}
use Rattle.client_callbacks.specs.Handed.{Handed}
use Rattle.session_state.specs.State.{client_token, client_place}
use Rattle.session_state.specs.Calls.{inited, removed_at}
use Rattle.node_state.specs.declared.call.CallLine.{CallLine}
use Rattle.node_state.specs.declared.call.CallLine.TheVariants as call
use Rattle.node_state.specs.declared.state.Core.{Core}
use Rattle.node_state.specs.HandOn.{Answering}
use Rattle.node_state.specs.State.{InNameOrder}
use Rattle.node_state.specs.Step.{NodeEvent, Calls, at_work, stepped}
use Rattle.node_calls.specs.Calling.{clients_with, is_within_session}
use Rattle.entry_delivery.specs.Received.{after_handings, Receive}
use Rattle.entry_delivery.specs.Doing.{Does}
use Rattle.group_leading.proofs.AnswerLaws.{does_some}
use Rattle.node_core.specs.declared.events.NodeEvent as events
use Rattle.node_core.specs.Event.{called, is_taken}
use Rattle.node_core.specs.Event as taken
use Rattle.node_core.specs.Node.{NodeView}
use Rattle.daemon_run.specs.declared.hosted.Hosted.{Hosted}
use Rattle.daemon_run.specs.declared.running.Running.{Running}
use Rattle.daemon_run.specs.Hosting.{Known, hosted_stands}
use Rattle.daemon_run.specs.Audience.{Audience, is_boxed, object_for, next_for, first_for, left_for, audience_called, attended, StepHands, client_stands, client_script, Attend, AttendWith}
use Rattle.daemon_run.specs.Doing.{Passes, IsStep}
use Rattle.daemon_run.proofs.AudienceLaws.{called_order, within_attended, taken_attended, attend_with, attend_without, attend_rows, first_taken, left_taken, taken_boxed, first_none, rows_hand}

-- a step begins with a node at work
pub from_work : (f : Answering) (s : Core) (e : NodeEvent) → stepped f (at_work s) e ≡ stepped f s e
unfolding stepped
from_work f s e = refl

module _ {C : Type 0} {script : C → Option (List (Option VoteItem))} {R : C → List Handed → Type 0} where
  -- where these clients are there as the rules of the step begin
  is_step : {A B : Known → List (Hosted C) → Audience → Type 0} {scripts : List (Option (List (Option VoteItem)))} (r : Running C) (n : NodeView (Hosted C)) (e : NodeEvent) (cs : List (Hosted C))
      → ((known : Known) (x : Audience) → A known r.node.clients x → Attend R script known cs (attended (at_work r.node.core) e x))
      → ((known : Known) (x y : Audience) → A known r.node.clients x → y.next ≡ (attended (at_work r.node.core) e x).next → Attend R script known n.clients y → B known n.clients y)
      → InNameOrder r.node.core.groups → map (client_script script) n.clients ≡ map (client_script script) cs → Does scripts (Receive (hosted_stands R) cs n.clients) (called (at_work r.node.core) e) n.core (λ f. stepped f r.node.core e) → IsStep A B r (record r { node = n }) e
  is_step {scripts = scripts} r n e cs begin end order same d =
      let w : Core = at_work r.node.core in
      let some : (f : Answering) × (n.core ≡ stepped f r.node.core e) = does_some scripts (Receive (hosted_stands R) cs n.clients) (called w e) n.core (λ f. stepped f r.node.core e) d in
      record {
        answers = some.0;
        core = some.1;
        is = refl;
        attends = λ x.
            let y : Audience = record (attended w e x) { logs = after_handings d.handings (attended w e x).logs } in (
              y,
              rows_hand (called w e) n.core (stepped some.0 w e) (attended w e x) (some.1 ∙ sym (from_work some.0 r.node.core e)) (called_order r.node.core e order) d,
              λ known h. end known x y h refl (attend_rows R script known cs n.clients (attended w e x) d.handings d.received same (begin known x h)),
            );
      }

  -- ---- an event that neither begins nor ends a session

  pub happened : {scripts : List (Option (List (Option VoteItem)))} (r : Running C) (n : NodeView (Hosted C)) (e : events.NodeEvent) → IsTrue (is_taken e) → InNameOrder r.node.core.groups → map (client_script script) n.clients ≡ map (client_script script) r.node.clients
      → Does scripts (Receive (hosted_stands R) r.node.clients n.clients) (called (at_work r.node.core) (taken.event_in e)) n.core (λ f. stepped f r.node.core (taken.event_in e))
      → IsStep (Attend R script) (Attend R script) r (record r { node = n }) (taken.event_in e)
  happened r n e h order same d =
      is_step r n (taken.event_in e) r.node.clients (λ known x a. subst (Attend R script known r.node.clients) (sym (taken_attended e h (at_work r.node.core) x)) a) (λ known x y a next b. b) order same d

  -- ---- a session that begins

  pub begins : {P Q : Known → Type 0} {scripts : List (Option (List (Option VoteItem)))} (r : Running C) (n : NodeView (Hosted C)) (node : ℕ) (name votes : List ℕ) (c : Hosted C)
      → ((left : Known) → P left → IfSome (first_for votes left) (client_stands R c) × Q (left_for votes left)) → is_none (script c.client) ≡ is_boxed votes
      → InNameOrder r.node.core.groups → map (client_script script) n.clients ≡ map (client_script script) (clients_with c r.node.clients (inited r.node.core.sessions name))
      → Does scripts (Receive (hosted_stands R) (clients_with c r.node.clients (inited r.node.core.sessions name)) n.clients) (called (at_work r.node.core) (Calls (call.Init node name votes))) n.core (λ f. stepped f r.node.core (Calls (call.Init node name votes)))
      → IsStep (AttendWith P R script) (AttendWith Q R script) r (record r { node = n }) (Calls (call.Init node name votes))
  begins {Q = Q} r n node name votes c gives boxed order same d =
      is_step r n (Calls (call.Init node name votes)) (clients_with c r.node.clients (inited r.node.core.sessions name))
      (λ known x a. attend_with R script known c r.node.clients x (next_for votes x.next) (object_for votes x.next) (inited r.node.core.sessions name)
      (first_taken (client_stands R c) votes x.next known (gives (drop x.next known) a.left).0) (taken_boxed votes x.next (is_none (script c.client)) boxed) a.attend)
      (λ known x y a next b. record { left = left_taken Q votes x.next y.next known next (gives (drop x.next known) a.left).1; attend = b }) order same d

  -- one whose client is none of the objects
  pub begins_plain : {scripts : List (Option (List (Option VoteItem)))} (r : Running C) (n : NodeView (Hosted C)) (node : ℕ) (name votes : List ℕ) (c : Hosted C) → is_boxed votes ≡ false → R c.client [] → is_none (script c.client) ≡ is_boxed votes
      → InNameOrder r.node.core.groups → map (client_script script) n.clients ≡ map (client_script script) (clients_with c r.node.clients (inited r.node.core.sessions name))
      → Does scripts (Receive (hosted_stands R) (clients_with c r.node.clients (inited r.node.core.sessions name)) n.clients) (called (at_work r.node.core) (Calls (call.Init node name votes))) n.core (λ f. stepped f r.node.core (Calls (call.Init node name votes)))
      → IsStep (Attend R script) (Attend R script) r (record r { node = n }) (Calls (call.Init node name votes))
  begins_plain r n node name votes c plain none boxed order same d =
      is_step r n (Calls (call.Init node name votes)) (clients_with c r.node.clients (inited r.node.core.sessions name))
      (λ known x a. attend_with R script known c r.node.clients x (next_for votes x.next) (object_for votes x.next) (inited r.node.core.sessions name)
      (first_none (client_stands R c) votes x.next known plain none) (taken_boxed votes x.next (is_none (script c.client)) boxed) a)
      (λ known x y a next b. b) order same d

  -- ---- one that ends

  pub ends : {scripts : List (Option (List (Option VoteItem)))} (r : Running C) (n : NodeView (Hosted C)) (client : List ℕ)
      → InNameOrder r.node.core.groups → map (client_script script) n.clients ≡ map (client_script script) (removed_at (client_place r.node.core.sessions (client_token r.node.core.sessions client)) r.node.clients)
      → Does scripts (Receive (hosted_stands R) (removed_at (client_place r.node.core.sessions (client_token r.node.core.sessions client)) r.node.clients) n.clients) (called (at_work r.node.core) (Calls (call.Goodbye client))) n.core (λ f. stepped f r.node.core (Calls (call.Goodbye client)))
      → IsStep (Attend R script) (Attend R script) r (record r { node = n }) (Calls (call.Goodbye client))
  ends r n client order same d =
      let place : Option ℕ = client_place r.node.core.sessions (client_token r.node.core.sessions client) in
      is_step r n (Calls (call.Goodbye client)) (removed_at place r.node.clients) (λ known x a. attend_without R script known place r.node.clients x a) (λ known x y a next b. b) order same d

  -- ---- calls that take no object

  kept : {P : Known → Type 0} (r s : Running C) (c : CallLine) → ((x : Audience) → (audience_called (at_work r.node.core) c x).next ≡ x.next) → IsStep (Attend R script) (Attend R script) r s (Calls c) → IsStep (AttendWith P R script) (AttendWith P R script) r s (Calls c)
  kept {P = P} r s c none h = record {
    answers = h.answers;
    core = h.core;
    is = h.is;
    attends = λ x.
        let t : (y : Audience) × StepHands h.answers (Calls c) (at_work r.node.core) x y × Passes (Attend R script) (Attend R script) r.node.clients s.node.clients x y = h.attends x in
        let next : t.0.next ≡ x.next = ap (λ (z : Audience). z.next) t.1.logs ∙ none x in (
          t.0,
          t.1,
          λ known a. record { left = subst (λ (n : ℕ). P (drop n known)) (sym next) a.left; attend = t.2 known a.attend },
        );
  }

  pub within_kept : {P : Known → Type 0} (r s : Running C) (c : CallLine) → IsTrue (is_within_session c) → IsStep (Attend R script) (Attend R script) r s (Calls c) → IsStep (AttendWith P R script) (AttendWith P R script) r s (Calls c)
  within_kept r s c within h = kept r s c (λ x. ap (λ (z : Audience). z.next) (within_attended c within (at_work r.node.core) x)) h

  pub goodbye_kept : {P : Known → Type 0} (r s : Running C) (client : List ℕ) → IsStep (Attend R script) (Attend R script) r s (Calls (call.Goodbye client)) → IsStep (AttendWith P R script) (AttendWith P R script) r s (Calls (call.Goodbye client))
  goodbye_kept r s client h = kept r s (call.Goodbye client) (λ x. refl) h
