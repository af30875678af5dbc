-- What holds after any happenings.
use Rattle.std.proofs.Common.{◌≡◌, ℕ, Bool, true, false, cond, List, [], ◌∷◌, length, Option, Some, None, refl, sym, subst, arith}
use Rattle.std.specs.Prelude.{◌&&◌, nat_lt, is_none, is_some, slice_get}
use Rattle.std.specs.Option.{option_map_or}
use Rattle.std.proofs.lemmas.Bool.{ltb-true, and_parts}
use Rattle.rsct_packet.specs.Fields.{IsU32}
use Rattle.rsct_packet.specs.Search.{Has}
use Rattle.rsct_packet.proofs.HasLaws.{get_has}
use Rattle.remote_session.specs.declared.session.Session.{Session}
use Rattle.remote_session.specs.Daemon.{Sessions, session_of, remote_new, ended_up, up_seen, up_seen_by, up_taken, up_taken_by, done_told, event_added}
use Rattle.remote_session.specs.Messages.{up_of}
use Rattle.remote_session.specs.Ending.{key_ended}
use Rattle.remote_session.specs.Client.{FarState, far_new, may_call, far_called}
use Rattle.remote_session.specs.World.{Happening, Begins, Calls, Sends_up, Up_comes, Answers, Occurs, Ticks, Ends, Sends_down, Down_comes, Restarts, World, quiet, with_far, added, added_in, is_key, is_line, is_event, has_open, calls_at, sends_up_at, given_out, up_comes_at, down_comes_at, happens, after}
use Rattle.remote_session.specs.Laws.{IsPrefixOf, IsHeardIn, AreAnswersOf, CallsComeOnceAndInOrder, HeardIsAPrefix, AnswersAreThoseTold, NoAnswerWithoutCall}
use Rattle.remote_session.proofs.ListLaws.{prefix_none}
use Rattle.remote_session.proofs.Parts.{HeardOk, Fine}
use Rattle.remote_session.proofs.Steps.{none_is, some_far, begins_fine, calls_fine, sends_up_fine}
use Rattle.remote_session.proofs.DaemonSteps.{up_fine, answers_fine, occurs_fine, ticks_fine, ends_fine, sends_down_fine, restarts_fine}
use Rattle.remote_session.proofs.FarSteps.{down_fine}

quiet_fine : (incarnation : ℕ) → IsU32 incarnation → Fine (quiet incarnation)
unfolding quiet remote_new
quiet_fine incarnation fits =
    record {
      life = fits;
      later = λ l k lt. record { given_none = refl; told_none = refl; events_none = refl };
      session = λ k own. record { given_none = refl; told_none = refl; events_none = refl };
      ended = λ k gone. absurd cc;
      given = λ l k. prefix_none [];
      told = λ l k. omega arith;
      short = λ l k. tt;
      far = λ k. (refl, refl);
      up = λ bytes h. absurd h;
      down = λ bytes h. absurd h;
    }

-- a happening that cannot be changes nothing
either_fine : (b : Bool) (w v : World) → Fine w → (b ≡ true → Fine v) → Fine (cond b v w)
either_fine true w v fine changes = changes refl
either_fine false w v fine changes = fine

calls_at_fine : (w : World) (fine : Fine w) (key : ℕ) (line : List ℕ) (o : Option FarState) → w.fars key ≡ o → Fine (calls_at key line w o)
unfolding calls_at
calls_at_fine w fine key line None is = fine
calls_at_fine w fine key line (Some f) is =
    either_fine (is_line line && may_call f) w (record w { fars = with_far key (far_called line f) w.fars; called = added key line w.called }) fine
    (λ e. let p = and_parts (is_line line) (may_call f) e in calls_fine w fine key line f is p.0 p.1)

sends_up_at_fine : (w : World) (fine : Fine w) (key : ℕ) (o : Option FarState) → w.fars key ≡ o → Fine (sends_up_at w o)
unfolding sends_up_at
sends_up_at_fine w fine key None is = fine
sends_up_at_fine w fine key (Some f) is = sends_up_fine w fine key f is

up_comes_fine : (w : World) (fine : Fine w) (o : Option (List ℕ)) → ((bytes : List ℕ) → o ≡ Some bytes → Has bytes w.ups) → Fine (up_comes_at w o)
unfolding up_comes_at up_seen up_taken given_out
up_comes_fine w fine None has = fine
up_comes_fine w fine (Some bytes) has = by (ended_up w.remote bytes) refl
  where
    by : (o : Option ℕ) → ended_up w.remote bytes ≡ o → Fine (given_out (up_seen_by o w.remote.sessions (up_of bytes)) (record w { remote = record w.remote { sessions = up_taken_by o w.remote.sessions (up_of bytes) } }))
    by (Some key) e = fine
    by None e = up_fine w fine bytes (has bytes refl) e

pub open_session : (key : ℕ) (sessions : Sessions) → has_open key sessions ≡ true → (s : Session) × (session_of key sessions ≡ Some s) × (s.is_open ≡ true)
open_session key sessions e = by (session_of key sessions) refl e
  where
    by : (o : Option Session) → session_of key sessions ≡ o → option_map_or (λ (s : Session). s.is_open) o false ≡ true → (s : Session) × (session_of key sessions ≡ Some s) × (s.is_open ≡ true)
    by None is h = absurd cc
    by (Some s) is h = (s, is, h)

pub kept_session : (key : ℕ) (sessions : Sessions) → is_some (session_of key sessions) ≡ true → (s : Session) × (session_of key sessions ≡ Some s)
kept_session key sessions e = by (session_of key sessions) refl e
  where
    by : (o : Option Session) → session_of key sessions ≡ o → is_some o ≡ true → (s : Session) × (session_of key sessions ≡ Some s)
    by None is h = absurd cc
    by (Some s) is h = (s, is)

down_comes_fine : (w : World) (fine : Fine w) (key : ℕ) (o : Option (List ℕ)) (far : Option FarState) → ((bytes : List ℕ) → o ≡ Some bytes → Has bytes w.downs) → w.fars key ≡ far → Fine (down_comes_at key w o far)
unfolding down_comes_at
down_comes_fine w fine key None far has is = fine
down_comes_fine w fine key (Some bytes) None has is = fine
down_comes_fine w fine key (Some bytes) (Some f) has is = down_fine w fine key f bytes is (has bytes refl)

happens_fine : (w : World) (fine : Fine w) (h : Happening) → Fine (happens w h)
unfolding happens
happens_fine w fine (Begins key) =
    either_fine (is_key key && is_none (w.fars key)) w (record w { fars = with_far key (far_new key) w.fars }) fine
    (λ e. let p = and_parts (is_key key) (is_none (w.fars key)) e in begins_fine w fine key p.0 (none_is (w.fars key) p.1))
happens_fine w fine (Calls key line) = calls_at_fine w fine key line (w.fars key) refl
happens_fine w fine (Sends_up key) = sends_up_at_fine w fine key (w.fars key) refl
happens_fine w fine (Up_comes place) = up_comes_fine w fine (slice_get w.ups place) (λ bytes e. get_has w.ups place bytes e)
happens_fine w fine (Answers key taken) =
    either_fine (has_open key w.remote.sessions) w (record w { remote = done_told key taken w.remote; told = added_in w.remote.incarnation key taken w.told }) fine
    (λ e. let s = open_session key w.remote.sessions e in answers_fine w fine key taken s.0 s.1 s.2)
happens_fine w fine (Occurs key line) =
    either_fine (is_some (session_of key w.remote.sessions) && is_event line) w (record w { remote = event_added key line w.remote; events = added_in w.remote.incarnation key line w.events }) fine
    (λ e.
    let p = and_parts (is_some (session_of key w.remote.sessions)) (is_event line) e in
    let s = kept_session key w.remote.sessions p.0 in
    occurs_fine w fine key line s.0 s.1 (ltb-true (length line) 65536 p.1))
happens_fine w fine Ticks = ticks_fine w fine
happens_fine w fine (Ends key) = either_fine (is_some (session_of key w.remote.sessions)) w (record w { remote = key_ended key w.remote }) fine (λ e. ends_fine w fine key)
happens_fine w fine (Sends_down key) = either_fine (is_key key) w _ fine (λ e. sends_down_fine w fine key e)
happens_fine w fine (Down_comes place key) = down_comes_fine w fine key (slice_get w.downs place) (w.fars key) (λ bytes e. get_has w.downs place bytes e) refl
happens_fine w fine (Restarts incarnation) =
    either_fine (nat_lt w.remote.incarnation incarnation && is_key incarnation) w (record w { remote = remote_new incarnation }) fine
    (λ e. let p = and_parts (nat_lt w.remote.incarnation incarnation) (is_key incarnation) e in restarts_fine w fine incarnation p.0 p.1)

after_fine : (w : World) (happenings : List Happening) → Fine w → Fine (after w happenings)
unfolding after
after_fine w [] fine = fine
after_fine w (h ∷ hs) fine = after_fine (happens w h) hs (happens_fine w fine h)

pub fine_after : (incarnation : ℕ) → IsU32 incarnation → (happenings : List Happening) → Fine (after (quiet incarnation) happenings)
fine_after incarnation fits happenings = after_fine (quiet incarnation) happenings (quiet_fine incarnation fits)

-- the laws

pub given_first : CallsComeOnceAndInOrder
given_first incarnation fits happenings life key = (fine_after incarnation fits happenings).given life key

pub told_of_given : NoAnswerWithoutCall
told_of_given incarnation fits happenings life key = (fine_after incarnation fits happenings).told life key

heard_of : (w : World) (key : ℕ) (f : FarState) → f.key ≡ key → (o : Option ℕ) → HeardOk f.heard (w.answered key) (λ l. w.told l key) (λ l. w.events l key) o → IsHeardIn w f o
heard_of w key f is None h = h.0
heard_of w key f is (Some life) h = subst (λ (k : ℕ). IsPrefixOf f.heard (w.events life k)) (sym is) h.events_first

answers_of : (w : World) (key : ℕ) (f : FarState) → f.key ≡ key → (o : Option ℕ) → HeardOk f.heard (w.answered key) (λ l. w.told l key) (λ l. w.events l key) o → AreAnswersOf w f o
answers_of w key f is None h = subst (λ (k : ℕ). w.answered k ≡ []) (sym is) h.1
answers_of w key f is (Some life) h = subst (λ (k : ℕ). IsPrefixOf (w.answered k) (w.told life k)) (sym is) h.answers_first

pub heard_first : HeardIsAPrefix
heard_first incarnation fits happenings key f is =
    let w = after (quiet incarnation) happenings in
    let far = some_far w (fine_after incarnation fits happenings) key f is in
    heard_of w key f far.key_is f.incarnation far.hears

pub answers_first : AnswersAreThoseTold
answers_first incarnation fits happenings key f is =
    let w = after (quiet incarnation) happenings in
    let far = some_far w (fine_after incarnation fits happenings) key f is in
    answers_of w key f far.key_is f.incarnation far.hears
