-- A key that has ended stays so.
use Rattle.std.proofs.Common.{◌≡◌, ℕ, ◌⊎◌, Bool, true, false, cond, List, [], ◌∷◌, Option, Some, None, refl, sym, ap, subst, ◌∙◌, inl, inr, arith}
use Rattle.std.specs.Prelude.{◌&&◌, nat_lt, is_none, is_some, slice_get}
use Rattle.std.proofs.lemmas.Bool.{ltb-true, and_parts, cases_eq}
use Rattle.remote_session.specs.declared.far.DownSeen.{DownSeen}
use Rattle.remote_session.specs.declared.far.DownSeen.TheVariants as seen
use Rattle.remote_session.specs.Messages.{UpIn, up_of, down_text}
use Rattle.remote_session.specs.Daemon.{KeysFull, KnownKey, CallMade, max_keys, session_of, is_ended, is_full_for, call_made, kept, ended_key_in, ended_up, up_seen, up_seen_as, up_seen_by, up_taken, up_taken_as, up_taken_by, remote_new, done_told, event_added, down_as, down_for}
use Rattle.remote_session.specs.Ending.{remote_ticked, may_end, without, with_ended, key_ended}
use Rattle.remote_session.specs.Client.{FarState, far_new, may_call, far_called, far_seen, far_taken}
use Rattle.remote_session.specs.World.{World, Happening, Begins, Calls, Sends_up, Up_comes, Answers, Occurs, Ticks, Ends, Sends_down, Down_comes, Restarts, with_far, added, added_in, is_key, is_line, is_event, has_open, calls_at, sends_up_at, given_out, up_comes_at, answer_heard, down_comes_at, happens}
use Rattle.remote_session.specs.Laws.{StaysEnded, EndedKeysStay, NothingEndsUnasked}
use Rattle.remote_session.proofs.ListLaws.{added_in_other_key}
use Rattle.remote_session.proofs.EndLaws.{ended_same, ended_other}
use Rattle.remote_session.proofs.Parts.{Fine}
use Rattle.remote_session.proofs.DaemonSteps.{not_ended, alive_some}
use Rattle.remote_session.proofs.Runs.{open_session, kept_session, fine_after}

module _ (w : World) (fine : Fine w) (key : ℕ) (gone : is_ended key w.remote.ended ≡ true) where
  abbrev life : ℕ
  life = w.remote.incarnation

  same : StaysEnded key w w
  same = record { ended = gone; given = refl; told = refl; events = refl }

  either : (b : Bool) (v : World) → (b ≡ true → StaysEnded key w v) → StaysEnded key w (cond b v w)
  either true v h = h refl
  either false v h = same

  -- a key that has not ended is another one
  others : (k : ℕ) → is_ended k w.remote.ended ≡ false → key ≡ k → ⊥
  others k own e = absurd (let yes = gone in let no : is_ended key w.remote.ended ≡ false = subst (λ (j : ℕ). is_ended j w.remote.ended ≡ false) (sym e) own in cc)

  calls_stays : (k : ℕ) (line : List ℕ) (o : Option FarState) → StaysEnded key w (calls_at k line w o)
  unfolding calls_at
  calls_stays k line None = same
  calls_stays k line (Some f) = either (is_line line && may_call f) (record w { fars = with_far k (far_called line f) w.fars; called = added k line w.called }) (λ e. record { ended = gone; given = refl; told = refl; events = refl })

  sends_stays : (o : Option FarState) → StaysEnded key w (sends_up_at w o)
  unfolding sends_up_at
  sends_stays None = same
  sends_stays (Some f) = record { ended = gone; given = refl; told = refl; events = refl }

  -- an Up of a key that has not ended
  given_stays : (o : Option UpIn) → ended_key_in w.remote.ended o ≡ None → StaysEnded key w (given_out (up_seen_as w.remote.sessions o) (record w { remote = record w.remote { sessions = up_taken_as w.remote.sessions o } }))
  unfolding up_seen_as up_taken_as given_out
  given_stays None e = record { ended = gone; given = refl; told = refl; events = refl }
  given_stays (Some u) e = by (is_full_for u.key w.remote.sessions) (call_made u (kept u.key w.remote.sessions))
    where
      by : (full made : Bool) → StaysEnded key w (given_out (cond full (KeysFull u.key max_keys) (cond made (CallMade u.key u.line) (KnownKey u.key))) (record w { remote = record w.remote { sessions = up_taken_as w.remote.sessions (Some u) } }))
      by true made = record { ended = gone; given = refl; told = refl; events = refl }
      by false true = record { ended = gone; given = added_in_other_key u.line life u.key key w.given (others u.key (not_ended u w.remote.ended e)); told = refl; events = refl }
      by false false = record { ended = gone; given = refl; told = refl; events = refl }

  up_stays : (bytes : List ℕ) (o : Option ℕ) → ended_up w.remote bytes ≡ o
      → StaysEnded key w (given_out (up_seen_by o w.remote.sessions (up_of bytes)) (record w { remote = record w.remote { sessions = up_taken_by o w.remote.sessions (up_of bytes) } }))
  unfolding ended_up given_out
  up_stays bytes (Some k) e = same
  up_stays bytes None e = given_stays (up_of bytes) e

  up_comes_stays : (o : Option (List ℕ)) → StaysEnded key w (up_comes_at w o)
  unfolding up_comes_at up_seen up_taken
  up_comes_stays None = same
  up_comes_stays (Some bytes) = up_stays bytes (ended_up w.remote bytes) refl

  seen_stays : (k : ℕ) (s : DownSeen) (fars : ℕ → Option FarState) → StaysEnded key w (answer_heard k s (record w { fars = fars }))
  unfolding answer_heard
  seen_stays k seen.NoMessage fars = record { ended = gone; given = refl; told = refl; events = refl }
  seen_stays k seen.Nothing fars = record { ended = gone; given = refl; told = refl; events = refl }
  seen_stays k (seen.Answer taken) fars = record { ended = gone; given = refl; told = refl; events = refl }
  seen_stays k (seen.Lost first now) fars = record { ended = gone; given = refl; told = refl; events = refl }
  seen_stays k seen.Full fars = record { ended = gone; given = refl; told = refl; events = refl }

  down_stays : (k : ℕ) (o : Option (List ℕ)) (f : Option FarState) → StaysEnded key w (down_comes_at k w o f)
  unfolding down_comes_at
  down_stays k None f = same
  down_stays k (Some bytes) None = same
  down_stays k (Some bytes) (Some f) = seen_stays k (far_seen f bytes) (with_far k (far_taken f bytes) w.fars)

  ends_stays : (k : ℕ) (b : Bool) → StaysEnded key w (record w { remote = cond b (record w.remote { sessions = without k w.remote.sessions; ended = with_ended k w.remote.ended }) w.remote })
  ends_stays k true = record { ended = by (cases_eq key k); given = refl; told = refl; events = refl }
    where
      by : (key ≡ k) ⊎ (key ≡ k → ⊥) → is_ended key (with_ended k w.remote.ended) ≡ true
      by (inl e) = subst (λ (j : ℕ). is_ended j (with_ended k w.remote.ended) ≡ true) (sym e) (ended_same k w.remote.ended)
      by (inr ne) = ended_other key k w.remote.ended ne ∙ gone
  ends_stays k false = same

  restarts_stays : (incarnation : ℕ) (b : Bool) → (nat_lt w.remote.incarnation incarnation && is_key incarnation) ≡ b → (cond b (record w { remote = remote_new incarnation }) w).remote.incarnation ≡ life → StaysEnded key w (cond b (record w { remote = remote_new incarnation }) w)
  unfolding remote_new
  restarts_stays incarnation true e is =
      let lt = ltb-true w.remote.incarnation incarnation (and_parts (nat_lt w.remote.incarnation incarnation) (is_key incarnation) e).0 in
      absurd (omega (arith, is, lt))
  restarts_stays incarnation false e is = same

  stays : (h : Happening) → (happens w h).remote.incarnation ≡ life → StaysEnded key w (happens w h)
  unfolding happens done_told event_added remote_ticked key_ended
  stays (Begins k) is = either (is_key k && is_none (w.fars k)) (record w { fars = with_far k (far_new k) w.fars }) (λ e. record { ended = gone; given = refl; told = refl; events = refl })
  stays (Calls k line) is = calls_stays k line (w.fars k)
  stays (Sends_up k) is = sends_stays (w.fars k)
  stays (Up_comes place) is = up_comes_stays (slice_get w.ups place)
  stays (Answers k taken) is =
      either (has_open k w.remote.sessions) (record w { remote = done_told k taken w.remote; told = added_in life k taken w.told })
      (λ e. let s = open_session k w.remote.sessions e in record { ended = gone; given = refl; told = added_in_other_key taken life k key w.told (others k (alive_some w fine k s.0 s.1)); events = refl })
  stays (Occurs k line) is =
      either (is_some (session_of k w.remote.sessions) && is_event line) (record w { remote = event_added k line w.remote; events = added_in life k line w.events })
      (λ e.
      let p = and_parts (is_some (session_of k w.remote.sessions)) (is_event line) e in
      let s = kept_session k w.remote.sessions p.0 in
      record { ended = gone; given = refl; told = refl; events = added_in_other_key line life k key w.events (others k (alive_some w fine k s.0 s.1)) })
  stays Ticks is = record { ended = gone; given = refl; told = refl; events = refl }
  stays (Ends k) is = either (is_some (session_of k w.remote.sessions)) (record w { remote = key_ended k w.remote }) (λ e. ends_stays k (may_end w.remote))
  stays (Sends_down k) is = either (is_key k) (record w { downs = down_text (down_for w.remote k) ∷ w.downs }) (λ e. record { ended = gone; given = refl; told = refl; events = refl })
  stays (Down_comes place k) is = down_stays k (slice_get w.downs place) (w.fars k)
  stays (Restarts incarnation) is = restarts_stays incarnation (nat_lt w.remote.incarnation incarnation && is_key incarnation) refl is

pub ended_stay : EndedKeysStay
ended_stay incarnation fits happenings next key gone is = stays _ (fine_after incarnation fits happenings) key gone next is

-- where none has ended

none_in : (o : Option UpIn) → ended_key_in [] o ≡ None
none_in None = refl
none_in (Some u) = refl

pub none_unasked : NothingEndsUnasked
unfolding ended_up down_for
none_unasked r e =
    record {
      ups = λ bytes. ap (λ (ended : List ℕ). ended_key_in ended (up_of bytes)) e ∙ none_in (up_of bytes);
      downs = λ key. ap (λ (ended : List ℕ). down_as (cond (is_ended key ended) 0 r.incarnation) key (session_of key r.sessions)) e;
    }
