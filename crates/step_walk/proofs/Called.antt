-- The calls of clients keep what is kept by each change.
use Rattle.std.proofs.Common.{◌≡◌, ℕ, List, Option, Some, None, Bool, true, false}
use Rattle.std.specs.Prelude.{Result, Ok, Err}
use Rattle.std.specs.List.{last_or}
use Rattle.session_state.specs.declared.fault.GsFault.{GsFault}
use Rattle.session_state.specs.declared.state.Provider.{Provider}
use Rattle.session_state.specs.declared.state.Request.{Request}
use Rattle.session_state.specs.declared.state.SessionState.{SessionState}
use Rattle.node_state.specs.declared.call.CallLine.{CallLine}
use Rattle.node_state.specs.declared.call.CallLine.TheVariants as call
use Rattle.node_state.specs.declared.packet.Body.TheVariants as body
use Rattle.node_state.specs.declared.state.Core.{Core}
use Rattle.node_state.specs.State.{frozen, leader_of}
use Rattle.node_state.specs.Calls.{refuse_call, changed, ask_last, proposed, record_ballot, ballot_sent_if, cast_last, give_ballot, send_gone, send_all_gone, goodbye_said, take_call}
use Rattle.std.proofs.Common.{◌⊎◌, ◌∙◌, ap, sym, subst, refl, inr}
use Rattle.session_state.specs.State.{client_token}
use Rattle.node_state.specs.State.{holds, recorded, with_sessions}
use Rattle.node_state.specs.Calls.{caller, subscriber}
use Rattle.step_walk.proofs.Changes.{Any}
use Rattle.std.specs.Prelude.{filter}
use Rattle.std.proofs.Common.{[], ◌∷◌, inl}
use Rattle.rsct_packet.specs.Search.{Has}
use Rattle.rsct_packet.proofs.HasLaws.{append_has_right}
use Rattle.session_state.specs.State.{is_client_of}
use Rattle.session_state.specs.Calls.{inited, joined, left, expelled, state_changed, message_sent, attributes_changed, voted, subscribe_taken, unsubscribe_taken, goodbye_taken}
use Rattle.node_state.specs.declared.happened.Happened.TheVariants as happened
use Rattle.step_walk.proofs.Kept.{NoMore, Votes, inited_no_more, joined_no_more, left_no_more, expelled_no_more, state_no_more, message_no_more, attributes_no_more, subscribe_no_more, unsubscribe_no_more, goodbye_no_more, voted_more, last_has, last_is}
use Rattle.step_walk.proofs.Evidence.{KeepsBeside, KeepsCalling}
use Rattle.step_walk.proofs.Asides.{at_either, at_fold, at_known}
use Rattle.step_walk.proofs.Packets.{at_request_sent, at_kept_sent}

last_there : (xs : List Request) (q : Request) → last_or None xs ≡ Some q → Has q xs
last_there xs q e = by (last_has xs q None e)
  where
    by : Has q xs ⊎ (None ≡ Some q) → Has q xs
    by (inl i) = i
    by (inr z) = absurd (cc)

module _ (P : Core → Type 0) (k : KeepsBeside P Any) (calls : KeepsCalling P) where
  at_fault : {s : Core} (client : List ℕ) (fault : GsFault) → P s → P (refuse_call s client fault)
  unfolding refuse_call
  at_fault {s} client fault p = calls.refuses s s.views.me client fault p

  at_changed : {s : Core} (client : List ℕ) (r : Result SessionState GsFault) → NoMore s.sessions r → P s → P (changed s client r)
  unfolding changed
  at_changed {s} client (Ok t) less p = calls.sessions s t less p
  at_changed client (Err fault) less p = at_fault client fault p

  at_last_asked : {s : Core} (o : Option Request) → last_or None s.sessions.requests ≡ o → P s → P (ask_last s o)
  unfolding ask_last recorded
  at_last_asked None last p = p
  at_last_asked {s} (Some q) last p = at_request_sent P k q (last_there s.sessions.requests q last) (calls.asks s q.provider q.request q.group q.proposal p)

  at_proposed : {s : Core} (client : List ℕ) (r : Result SessionState GsFault) → NoMore s.sessions r → P s → P (proposed s client r)
  unfolding proposed with_sessions
  at_proposed {s} client (Ok t) less p = at_last_asked {s = with_sessions s t} (last_or None t.requests) refl (calls.sessions s t less p)
  at_proposed client (Err fault) less p = at_fault client fault p

  -- a vote is kept, recorded and sent
  at_given : {s : Core} (client : List ℕ) (r : Result SessionState GsFault) → Votes s.sessions r → P s → P (give_ballot s client r)
  unfolding give_ballot cast_last record_ballot ballot_sent_if recorded with_sessions
  at_given {s} client (Ok t) m p =
      subst (λ o. P (cast_last (with_sessions s t) o)) (sym (ap (last_or None) m.more ∙ last_is s.sessions.kept m.ballot None)) (subst (λ b. P (ballot_sent_if (record_ballot (with_sessions s t) m.ballot b) m.ballot (frozen (with_sessions s t)))) (sym m.full) (sends (frozen (with_sessions s t))))
    where
      now : P (recorded (with_sessions s t) (happened.Cast m.ballot.provider m.ballot.proto m.ballot.phase m.filled.vote m.filled.value m.filled.message))
      now = calls.votes s t m p

      sends : (c : Bool) → P (ballot_sent_if (recorded (with_sessions s t) (happened.Cast m.ballot.provider m.ballot.proto m.ballot.phase m.filled.vote m.filled.value m.filled.message)) m.ballot c)
      sends true = now
      sends false = at_kept_sent P k m.ballot (subst (Has m.ballot) (sym m.more) (append_has_right m.ballot s.sessions.kept (m.ballot ∷ []) (inl refl))) now
  at_given client (Err fault) m p = at_fault client fault p

  at_all_gone : {s : Core} (ended : List Provider) → P s → P (send_all_gone s ended)
  unfolding send_all_gone send_gone
  at_all_gone {s} ended p =
      at_either P (frozen s) p (at_fold P send_gone (λ t x h. at_known P Any k (leader_of t x.group) (body.Gone t.views.view x.group x.provider) tt h) ended p)

  at_said : {s : Core} (client : List ℕ) (ended : List Provider) (r : Result SessionState GsFault) → NoMore s.sessions r → P s → P (goodbye_said s client ended r)
  unfolding goodbye_said
  at_said {s} client ended (Ok t) less p = at_all_gone ended (calls.sessions s t less p)
  at_said client ended (Err fault) less p = at_fault client fault p

  pub at_call : (s : Core) (x : CallLine) → P s → P (take_call s x)
  unfolding take_call
  at_call s (call.Init node name votes) a = at_changed name (inited s.sessions name) (inited_no_more s.sessions name) a
  at_call s (call.Join client g instance attrs) a = at_proposed client (joined s.sessions (client_token s.sessions client) g instance attrs) (joined_no_more s.sessions (client_token s.sessions client) g instance attrs) a
  at_call s (call.Leave client g phases) a = at_proposed client (left s.sessions (caller s.sessions client g) phases) (left_no_more s.sessions (caller s.sessions client g) phases) a
  at_call s (call.Expel client g phases out) a = at_proposed client (expelled s.sessions (caller s.sessions client g) phases out) (expelled_no_more s.sessions (caller s.sessions client g) phases out) a
  at_call s (call.ChangeState client g phases value) a = at_proposed client (state_changed s.sessions (caller s.sessions client g) phases value) (state_no_more s.sessions (caller s.sessions client g) phases value) a
  at_call s (call.SendMessage client g phases bytes) a = at_proposed client (message_sent s.sessions (caller s.sessions client g) phases bytes) (message_no_more s.sessions (caller s.sessions client g) phases bytes) a
  at_call s (call.ChangeAttributes client g phases attrs) a = at_proposed client (attributes_changed s.sessions (caller s.sessions client g) phases attrs) (attributes_no_more s.sessions (caller s.sessions client g) phases attrs) a
  at_call s (call.Vote client g v value) a = at_given client (voted s.sessions (caller s.sessions client g) v value) (voted_more s.sessions (caller s.sessions client g) v value) a
  at_call s (call.Subscribe client g) a = at_changed client (subscribe_taken s.sessions (client_token s.sessions client) g (holds s g)) (subscribe_no_more s.sessions (client_token s.sessions client) g (holds s g)) a
  at_call s (call.Unsubscribe client g) a = at_changed client (unsubscribe_taken s.sessions (client_token s.sessions client) (subscriber s.sessions client g)) (unsubscribe_no_more s.sessions (client_token s.sessions client) (subscriber s.sessions client g)) a
  at_call s (call.Goodbye client) a = at_said client (filter (is_client_of (client_token s.sessions client)) s.sessions.providers) (goodbye_taken s.sessions (client_token s.sessions client)) (goodbye_no_more s.sessions (client_token s.sessions client)) a
