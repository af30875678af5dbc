-- What a step of a node hands to its clients.
use Rattle.std.proofs.Common.{◌≡◌, ℕ, zero, suc, List, [], ◌∷◌, ◌++◌, Option, Some, None, Result, Ok, Err, IsTrue, refl, sym, ap, ◌∙◌, subst}
use Rattle.std.specs.Prelude.{map, remove}
use Rattle.std.proofs.lemmas.List.{map-append}
use Rattle.client_callbacks.specs.Handed.{Handed}
use Rattle.client_callbacks.specs.declared.votes.VoteItem.{VoteItem}
use Rattle.session_clients.specs.Clients.{StandFor}
use Rattle.session_state.specs.declared.fault.GsFault.{GsFault}
use Rattle.session_state.specs.declared.state.SessionState.{SessionState}
use Rattle.session_state.specs.Calls.{removed_at}
use Rattle.node_calls.specs.Calling.{clients_with}
use Rattle.node_state.specs.declared.call.CallLine.TheVariants as call
use Rattle.node_state.specs.declared.happened.Happened.{Happened}
use Rattle.node_state.specs.declared.packet.Packet.{Packet}
use Rattle.node_state.specs.declared.state.Core.{Core}
use Rattle.node_state.specs.Bytes.{packet_of, event_in, event_of}
use Rattle.node_state.specs.HandOn.{Answering}
use Rattle.node_state.specs.Step.{NodeEvent, Calls, at_work}
use Rattle.node_state.specs.State.{InNameOrder, state_of}
use Rattle.node_state.specs.Handed.{handed_in, state_along, Along, Logged, logged_in}
use Rattle.node_state.proofs.AlongLaws.{state_as, along_then, logged_same, logged_both}
use Rattle.entry_delivery.specs.Received.{handed_by, AreLogs, WereHanded, AreFor, told_by, logged_by, after_handings, Receive}
use Rattle.entry_delivery.specs.Doing.{Does}
use Rattle.node_core.specs.declared.events.NodeEvent.TheVariants as event
use Rattle.node_core.specs.declared.events.NodeEvent as events
use Rattle.node_core.specs.Event.{called, is_taken}
use Rattle.node_core.specs.Event as taken
use Rattle.node_core.specs.Node.{NodeView}
use Rattle.net_script.specs.declared.steps.Left.{Left}
use Rattle.net_script.specs.Standing.{Leaves}
use Rattle.run_hands.specs.Hands.{logs_called, given_by, StepHands}
use Rattle.net_script.specs.Hearing.{StepHears}
use Rattle.net_script.proofs.CalledLaws.{CallHands, called_hands, is_within}

-- ---- events that neither begin nor end a session

within_packet : (p : Option Packet) → IsTrue (is_within (event_in p))
within_packet None = refl
within_packet (Some p) = refl

-- those that a step takes
pub taken_within : (e : events.NodeEvent) → IsTrue (is_taken e) → IsTrue (is_within (taken.event_in e))
unfolding event_of
taken_within event.Tick h = refl
taken_within (event.Ask mask) h = refl
taken_within (event.Datagram bytes) h = within_packet (packet_of bytes.now)
taken_within (event.Call c) h = h

-- the logs stay as they are
pub within_logs : (s : Core) (ev : NodeEvent) (ls : List (List Logged)) → IsTrue (is_within ev) → logs_called s ev ls ≡ ls
within_logs s (Calls (call.Init node name votes)) ls h = absurd cc
within_logs s (Calls (call.Goodbye client)) ls h = absurd cc
within_logs s (Calls _) ls h = refl
within_logs s _ ls h = refl

-- ---- what does not depend on what an earlier step left

work_logs : (s : Core) (ev : NodeEvent) (ls : List (List Logged)) → logs_called (at_work s) ev ls ≡ logs_called s ev ls
work_logs s (Calls (call.Init node name votes)) ls = refl
work_logs s (Calls (call.Goodbye client)) ls = refl
work_logs s (Calls _) ls = refl
work_logs s _ ls = refl

-- the groups have the same states
same_states : (s t : Core) → at_work s ≡ at_work t → (g : List ℕ) → state_of s g ≡ state_of t g
same_states s t e g = state_as t s g (ap (λ (z : Core). z.groups) e)

-- the same step of the node that it stands for
pub hands_as : (s t : Core) (ev : NodeEvent) (rs : List Happened) (old new : List (List Logged)) → at_work s ≡ at_work t → StepHands s ev rs old new → StepHands t ev rs old new
hands_as s t ev rs old new e h = record {
  handings = h.handings;
  told = h.told ∙ ap (λ (z : Core). handed_in (given_by z ev) ++ told_by h.handings) e;
  stated = logged_same rs (state_of t) (state_of s) (same_states t s (sym e))
      ∙ (h.stated
      ∙ (ap (λ (z : Core). logged_in (given_by z ev) (state_of s) ++ logged_by h.handings) e
      ∙ ap (λ (ls : List Logged). ls ++ logged_by h.handings) (logged_same (given_by (at_work t) ev) (state_of s) (state_of t) (same_states s t e))));
  owned = subst (λ (z : Core). AreFor (called z ev).sessions h.handings) e h.owned;
  logs = h.logs ∙ ap (after_handings h.handings) (sym (work_logs s ev old) ∙ (ap (λ (z : Core). logs_called z ev old) e ∙ work_logs t ev old));
}

-- ---- clients that come and go

logs_added : (rss : List (List Logged)) → AreLogs rss → AreLogs (rss ++ [] ∷ [])
logs_added [] h = (tt, tt)
logs_added (rs ∷ rss) h = (h.0, logs_added rss h.1)

logs_removed : (i : ℕ) (rss : List (List Logged)) → AreLogs rss → AreLogs (remove rss i)
logs_removed zero [] h = tt
logs_removed (suc i) [] h = tt
logs_removed zero (rs ∷ rss) h = h.1
logs_removed (suc i) (rs ∷ rss) h = (h.0, logs_removed i rss h.1)

told_removed : (i : ℕ) (rss : List (List Logged)) → map handed_by (remove rss i) ≡ remove (map handed_by rss) i
told_removed zero [] = refl
told_removed (suc i) [] = refl
told_removed zero (rs ∷ rss) = refl
told_removed (suc i) (rs ∷ rss) = ap (λ (xss : List (List Handed)). handed_by rs ∷ xss) (told_removed i rss)

module _ {C : Type 0} (R : C → List Handed → Type 0) where
  stand_added : (cs : List C) (xss : List (List Handed)) (c : C) → R c [] → StandFor R cs xss → StandFor R (cs ++ c ∷ []) (xss ++ [] ∷ [])
  stand_added [] [] c new h = (new, tt)
  stand_added [] (xs ∷ xss) c new h = absurd h
  stand_added (d ∷ cs) [] c new h = absurd h
  stand_added (d ∷ cs) (xs ∷ xss) c new h = (h.0, stand_added cs xss c new h.1)

  stand_removed : (i : ℕ) (cs : List C) (xss : List (List Handed)) → StandFor R cs xss → StandFor R (remove cs i) (remove xss i)
  stand_removed zero [] [] h = tt
  stand_removed (suc i) [] [] h = tt
  stand_removed i [] (xs ∷ xss) h = absurd h
  stand_removed i (c ∷ cs) [] h = absurd h
  stand_removed zero (c ∷ cs) (xs ∷ xss) h = h.1
  stand_removed (suc i) (c ∷ cs) (xs ∷ xss) h = (h.0, stand_removed i cs xss h.1)

  -- a session that begins has handed nothing to its client yet
  pub handed_with : (c : C) (cs : List C) (rss : List (List Logged)) (r : Result SessionState GsFault) → R c [] → WereHanded R cs rss → WereHanded R (clients_with c cs r) (clients_with [] rss r)
  handed_with c cs rss (Ok t) new h =
      record { stand = subst (StandFor R (cs ++ c ∷ [])) (sym (map-append handed_by rss ([] ∷ []))) (stand_added cs (map handed_by rss) c new h.stand); logs = logs_added rss h.logs }
  handed_with c cs rss (Err f) new h = h

  -- a session that ends takes its client and its log away
  pub handed_without : (place : Option ℕ) (cs : List C) (rss : List (List Logged)) → WereHanded R cs rss → WereHanded R (removed_at place cs) (removed_at place rss)
  handed_without None cs rss h = h
  handed_without (Some i) cs rss h = record { stand = subst (StandFor R (remove cs i)) (sym (told_removed i rss)) (stand_removed i cs (map handed_by rss) h.stand); logs = logs_removed i rss h.logs }

  -- ---- a step

  -- a step whose rows begin with these clients
  pub hears_from : (n m o : NodeView C) (l : Left) (cs : List C) (ev : NodeEvent) (ss : List (Option (List (Option VoteItem)))) (row : Answering → Core) (k : ℕ)
      → InNameOrder n.core.groups → ((rss : List (List Logged)) → WereHanded R n.clients rss → WereHanded R cs (logs_called n.core ev rss))
      → Does ss (Receive R cs m.clients) (called (at_work n.core) ev) m.core row → Leaves m o l k → StepHears R n o l.records ev
  unfolding along_then
  hears_from n m o l cs ev ss row k order begun d left rss were =
      let mid : List (List Logged) = logs_called n.core ev rss in
      let w : Core = at_work n.core in
      let a : Core = called w ev in
      let hands : CallHands w a (given_by w ev) = called_hands n.core ev in
      let before : Along w a = hands.along in
      let all : Along w m.core = along_then w a m.core before d.along in (
        after_handings d.handings mid,
        record {
          handings = d.handings;
          told = ap handed_in left.records ∙ (d.told ∙ ap (λ (rs : List Happened). rs ++ told_by d.handings) hands.told);
          stated = ap (λ rs. logged_in rs (state_of n.core)) (left.records ∙ all.more)
              ∙ (logged_same all.records (state_of n.core) (state_of w) (λ g. state_as w n.core g refl)
              ∙ (logged_both before.records d.along.records (state_of w)
              ∙ (ap (λ (ls : List Logged). ls ++ logged_in d.along.records (λ g. state_along g before.records (state_of w g)))
              (ap (λ rs. logged_in rs (state_of w)) (sym before.more) ∙ (hands.stated (state_of w) ∙ logged_same (given_by w ev) (state_of w) (state_of n.core) (λ g. state_as n.core w g refl)))
              ∙ ap (λ (ls : List Logged). logged_in (given_by w ev) (state_of n.core) ++ ls)
              (logged_same d.along.records (λ g. state_along g before.records (state_of w g)) (state_of a) (λ g. sym (before.states order g)) ∙ d.stated (before.order order)))));
          owned = d.owned;
          logs = refl;
        },
        subst (λ (z : NodeView C). WereHanded R z.clients (after_handings d.handings mid)) (sym left.node) (d.received [] mid (begun rss were)),
      )

  -- one that neither begins nor ends a session
  pub hears_within : (n m o : NodeView C) (l : Left) (ev : NodeEvent) (ss : List (Option (List (Option VoteItem)))) (row : Answering → Core) (k : ℕ) → InNameOrder n.core.groups → IsTrue (is_within ev)
      → Does ss (Receive R n.clients m.clients) (called (at_work n.core) ev) m.core row → Leaves m o l k → StepHears R n o l.records ev
  hears_within n m o l ev ss row k order within d left = hears_from n m o l n.clients ev ss row k order (λ rss were. subst (WereHanded R n.clients) (sym (within_logs n.core ev rss within)) were) d left
