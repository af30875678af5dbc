-- What happens at the daemon keeps what holds of a world.
use Rattle.std.proofs.Common.{◌≡◌, ℕ, ◌+◌, ◌<◌, ◌≤◌, ◌⊎◌, Bool, true, false, cond, List, [], ◌∷◌, ◌++◌, length, take, drop, Option, Some, None, refl, sym, ap, subst, ◌∙◌, inl, inr, arith}
use Rattle.std.specs.Prelude.{nat_eq, nat_lt, unwrap_or, slice_get, option_map}
use Rattle.std.specs.Option.{option_map_or}
use Rattle.std.proofs.lemmas.Bool.{ltb-true, leb-true, cases_eq}
use Rattle.std.proofs.lemmas.List.{length_push, length-take, drop_all, take-append-drop}
use Rattle.std.proofs.lemmas.Map.Made.{lookup-map_values}
use Rattle.rsct_packet.specs.Fields.{IsU32, AreShort}
use Rattle.rsct_packet.specs.Format.{EachFits}
use Rattle.rsct_packet.specs.Lists.{is_empty}
use Rattle.rsct_packet.specs.Search.{Has}
use Rattle.rsct_packet.specs.Ids.{risen, last_u32}
use Rattle.remote_session.specs.declared.session.Session.{Session}
use Rattle.remote_session.specs.Messages.{max_events, UpIn, IsUp, up_of, down_text}
use Rattle.remote_session.specs.Daemon.{Sessions, session_of, edited, kept, new_session, max_keys, is_full_for, call_made, makes_call, acknowledged, opened, session_up, session_done, session_event, KeysFull, KnownKey, CallMade, spoken, remote_new, is_ended, life_told, up_seen_as, up_taken_as, ended_key_in, ended_up, done_told, event_added, down_as, down_for}
use Rattle.remote_session.specs.Ending.{silent_longer, waited, remote_ticked, may_end, without, with_ended, key_ended}
use Rattle.remote_session.specs.Client.{FarState}
use Rattle.remote_session.specs.World.{World, is_key, added_in, given_out}
use Rattle.remote_session.specs.Laws.{IsPrefixOf}
use Rattle.remote_session.proofs.SessionLaws.{kept_same, kept_other, edited_same, edited_other}
use Rattle.remote_session.proofs.EndLaws.{without_same, without_other, ended_same, ended_other}
use Rattle.remote_session.proofs.MessageLaws.{up_again}
use Rattle.remote_session.proofs.ListLaws.{IsPiece, prefix_same, prefix_then, prefix_next, prefix_length, each_append, each_drop, each_take, piece_of, piece_kept, added_in_all, added_in_grows}
use Rattle.remote_session.proofs.Parts.{Lines, Blank, SessionIs, SessionOk, HeardOk, FarOk, DownIs, Fine, down_told_kept, down_events_kept}
use Rattle.remote_session.proofs.Changes.{new_is, spoken_is, longer_is, acknowledged_is, acknowledged_open, acknowledged_done, MakesCall, makes_call_is, opened_is, same_opened, done_is, event_is, risen_below, risen_last}

-- told and events that grow keep what was heard
hears_kept : (heard : Lines) (answered : List Bool) (told more : ℕ → List Bool) (events later : ℕ → Lines) → ((l : ℕ) → IsPrefixOf (told l) (more l)) → ((l : ℕ) → IsPrefixOf (events l) (later l))
    → (o : Option ℕ) → HeardOk heard answered told events o → HeardOk heard answered more later o
hears_kept heard answered told more events later tells grows None h = h
hears_kept heard answered told more events later tells grows (Some l) h =
    record { events_first = prefix_then heard (events l) (later l) h.events_first (grows l); answers_first = prefix_then answered (told l) (more l) h.answers_first (tells l) }

far_kept : (called : Lines) (answered : List Bool) (told more : ℕ → List Bool) (events later : ℕ → Lines) (key : ℕ) → ((l : ℕ) → IsPrefixOf (told l) (more l)) → ((l : ℕ) → IsPrefixOf (events l) (later l))
    → (o : Option FarState) → FarOk called answered told events key o → FarOk called answered more later key o
far_kept called answered told more events later key tells grows None h = h
far_kept called answered told more events later key tells grows (Some f) h =
    record {
      key_is = h.key_is;
      key_fits = h.key_fits;
      number_is = h.number_is;
      number_fits = h.number_fits;
      few = h.few;
      call = h.call;
      hears = hears_kept f.heard answered told more events later tells grows f.incarnation h.hears;
    }

-- the session of a key that is kept
kept_is : (given : Lines) (told : List Bool) (events : Lines) (o : Option Session) → SessionOk given told events o → SessionIs given told events (unwrap_or o new_session)
kept_is given told events None h = new_is given told events h
kept_is given told events (Some s) h = h

-- an Up comes

module _ (w : World) (fine : Fine w) (u : UpIn) (fits : IsUp u) (alive : is_ended u.key w.remote.ended ≡ false) (line : (u.line ≡ []) ⊎ ((n : ℕ) × (u.number ≡ n + 1) × (slice_get (w.called u.key) n ≡ Some u.line))) where
  abbrev life : ℕ
  life = w.remote.incarnation

  abbrev before : Session
  before = unwrap_or (session_of u.key w.remote.sessions) new_session

  abbrev new_sessions : Sessions
  new_sessions = edited u.key (session_up u) (kept u.key w.remote.sessions)

  is_before : SessionIs (w.given life u.key) (w.told life u.key) (w.events life u.key) before
  is_before = kept_is (w.given life u.key) (w.told life u.key) (w.events life u.key) (session_of u.key w.remote.sessions) (fine.session u.key alive)

  abbrev heard_from : Session
  heard_from = spoken (acknowledged u.ack before)

  is_acked : SessionIs (w.given life u.key) (w.told life u.key) (w.events life u.key) heard_from
  is_acked = let ack = fits.ack in spoken_is (w.given life u.key) (w.told life u.key) (w.events life u.key) (acknowledged u.ack before) (acknowledged_is (w.given life u.key) (w.told life u.key) (w.events life u.key) u.ack before (omega (arith, ack)) is_before)

  session_is : (b : Bool) → makes_call u before ≡ b → session_of u.key new_sessions ≡ Some (opened b heard_from)
  unfolding session_up
  session_is b e =
      edited_same u.key (session_up u) (kept u.key w.remote.sessions) before (kept_same u.key w.remote.sessions)
      ∙ ap (λ (c : Bool). Some (opened c heard_from)) e

  session_others : (k : ℕ) → (k ≡ u.key → ⊥) → session_of k new_sessions ≡ session_of k w.remote.sessions
  session_others k ne = edited_other k u.key (session_up u) (kept u.key w.remote.sessions) ne ∙ kept_other k u.key w.remote.sessions ne

  -- no key that ended has a session
  none_ended : (k : ℕ) → is_ended k w.remote.ended ≡ true → session_of k new_sessions ≡ None
  none_ended k gone =
      session_others k (λ (h : k ≡ u.key). absurd (let yes = gone in let no : is_ended k w.remote.ended ≡ false = subst (λ (j : ℕ). is_ended j w.remote.ended ≡ false) (sym h) alive in cc)) ∙ fine.ended k gone

  -- it brings no call
  known_fine : makes_call u before ≡ false → Fine (record w { remote = record w.remote { sessions = new_sessions } })
  known_fine e =
      record {
        life = fine.life;
        later = fine.later;
        session = λ k. session_at k (cases_eq k u.key);
        ended = none_ended;
        given = fine.given;
        told = fine.told;
        short = fine.short;
        far = fine.far;
        up = fine.up;
        down = fine.down;
      }
    where
      session_at : (k : ℕ) → (k ≡ u.key) ⊎ (k ≡ u.key → ⊥) → is_ended k w.remote.ended ≡ false → SessionOk (w.given life k) (w.told life k) (w.events life k) (session_of k new_sessions)
      session_at k (inl g) own =
          subst (λ (j : ℕ). SessionOk (w.given life j) (w.told life j) (w.events life j) (session_of j new_sessions)) (sym g)
          (subst (λ (o : Option Session). SessionOk (w.given life u.key) (w.told life u.key) (w.events life u.key) o) (sym (session_is false e ∙ ap (λ (s : Session). Some s) (same_opened heard_from))) is_acked)
      session_at k (inr ne) own = subst (λ (o : Option Session). SessionOk (w.given life k) (w.told life k) (w.events life k) o) (sym (session_others k ne)) (fine.session k own)

  -- it brings the next call
  call_fine : makes_call u before ≡ true → Fine (record w { remote = record w.remote { sessions = new_sessions }; given = added_in life u.key u.line w.given })
  call_fine e =
      record {
        life = fine.life;
        later = added_in_all u.line life u.key w.given (λ l k xs. life < l → Blank xs (w.told l k) (w.events l k)) (λ lt. absurd (omega arith)) (λ l k ne. fine.later l k);
        session = λ k. session_all life k refl;
        ended = none_ended;
        given = added_in_all u.line life u.key w.given (λ l k xs. IsPrefixOf xs (w.called k)) next (λ l k ne. fine.given l k);
        told = λ l k. let more = prefix_length (w.given l k) (added_in life u.key u.line w.given l k) (added_in_grows u.line life u.key w.given l k) in let le = fine.told l k in omega (arith, more, le);
        short = fine.short;
        far = fine.far;
        up = fine.up;
        down = fine.down;
      }
    where
      made : MakesCall u before
      made = makes_call_is u before e

      given_len : length (w.given life u.key) ≡ before.done
      given_len = is_before.idle made.idle

      next : IsPrefixOf (w.given life u.key ++ u.line ∷ []) (w.called u.key)
      next =
          elim line [
            | inl none ↦ absurd (let no : is_empty u.line ≡ true = ap is_empty none in let yes = made.line in cc)
            | inr x ↦
                let number = x.1 in
                let due = made.next in
                let place : x.0 ≡ length (w.given life u.key) = omega (arith, number, due, given_len) in
                prefix_next (w.given life u.key) (w.called u.key) u.line (fine.given life u.key) (subst (λ (n : ℕ). slice_get (w.called u.key) n ≡ Some u.line) place x.2)
          ]

      below : before.done < last_u32
      below = let number = fits.number in let due = made.next in omega (arith, number, due)

      own : SessionIs (w.given life u.key ++ u.line ∷ []) (w.told life u.key) (w.events life u.key) (opened true heard_from)
      own = opened_is (w.given life u.key) (w.told life u.key) (w.events life u.key) u.line heard_from (acknowledged_open u.ack before ∙ made.idle) (let lt = below in let same = acknowledged_done u.ack before in omega (arith, same, lt)) is_acked

      session_all : (l k : ℕ) → l ≡ life → is_ended k w.remote.ended ≡ false → SessionOk (added_in life u.key u.line w.given l k) (w.told l k) (w.events l k) (session_of k new_sessions)
      session_all =
          added_in_all u.line life u.key w.given (λ l k xs. l ≡ life → is_ended k w.remote.ended ≡ false → SessionOk xs (w.told l k) (w.events l k) (session_of k new_sessions))
          (λ _ _. subst (λ (o : Option Session). SessionOk (w.given life u.key ++ u.line ∷ []) (w.told life u.key) (w.events life u.key) o) (sym (session_is true e)) own)
          (λ l k ne g own.
          subst (λ (j : ℕ). SessionOk (w.given j k) (w.told j k) (w.events j k) (session_of k new_sessions)) (sym g)
          (subst (λ (o : Option Session). SessionOk (w.given life k) (w.told life k) (w.events life k) o) (sym (session_others k (ne g))) (fine.session k own)))

  made_is : call_made u (kept u.key w.remote.sessions) ≡ makes_call u before
  unfolding call_made
  made_is = ap (λ (o : Option Session). option_map_or (makes_call u) o false) (kept_same u.key w.remote.sessions)

  seen_fine : Fine (given_out (up_seen_as w.remote.sessions (Some u)) (record w { remote = record w.remote { sessions = up_taken_as w.remote.sessions (Some u) } }))
  unfolding up_seen_as up_taken_as given_out
  seen_fine = by_full (is_full_for u.key w.remote.sessions)
    where
      by_made : (b : Bool) → makes_call u before ≡ b → Fine (given_out (cond b (CallMade u.key u.line) (KnownKey u.key)) (record w { remote = record w.remote { sessions = new_sessions } }))
      by_made true e = call_fine e
      by_made false e = known_fine e

      by_full : (b : Bool) → Fine (given_out (cond b (KeysFull u.key max_keys) (cond (call_made u (kept u.key w.remote.sessions)) (CallMade u.key u.line) (KnownKey u.key))) (record w { remote = record w.remote { sessions = cond b w.remote.sessions new_sessions } }))
      by_full true = fine
      by_full false = by_made (call_made u (kept u.key w.remote.sessions)) (sym made_is)

pub not_ended : (u : UpIn) (ended : List ℕ) → ended_key_in ended (Some u) ≡ None → is_ended u.key ended ≡ false
not_ended u ended = by (is_ended u.key ended)
  where
    by : (b : Bool) → cond b (Some u.key) None ≡ None → b ≡ false
    by true e = absurd cc
    by false e = refl

pub up_fine : (w : World) (fine : Fine w) (bytes : List ℕ) → Has bytes w.ups → ended_up w.remote bytes ≡ None
    → Fine (given_out (up_seen_as w.remote.sessions (up_of bytes)) (record w { remote = record w.remote { sessions = up_taken_as w.remote.sessions (up_of bytes) } }))
unfolding ended_up
up_fine w fine bytes h none =
    let s = fine.up bytes h in
    let read : up_of bytes ≡ Some s.up = ap up_of s.spelled ∙ up_again s.up s.fits in
    let alive : is_ended s.up.key w.remote.ended ≡ false = not_ended s.up w.remote.ended (sym (ap (ended_key_in w.remote.ended) read) ∙ none) in
    subst (λ (o : Option UpIn). Fine (given_out (up_seen_as w.remote.sessions o) (record w { remote = record w.remote { sessions = up_taken_as w.remote.sessions o } }))) (sym read) (seen_fine w fine s.up s.fits alive s.line)

-- the session of a key, where it has one

pub alive_some : (w : World) (fine : Fine w) (key : ℕ) (s : Session) → session_of key w.remote.sessions ≡ Some s → is_ended key w.remote.ended ≡ false
alive_some w fine key s e = by (is_ended key w.remote.ended) refl
  where
    by : (b : Bool) → is_ended key w.remote.ended ≡ b → b ≡ false
    by true gone = absurd (let none = fine.ended key gone in cc)
    by false gone = refl

session_some : (w : World) (fine : Fine w) (key : ℕ) (s : Session) → session_of key w.remote.sessions ≡ Some s → SessionIs (w.given w.remote.incarnation key) (w.told w.remote.incarnation key) (w.events w.remote.incarnation key) s
session_some w fine key s e =
    subst (λ (o : Option Session). SessionOk (w.given w.remote.incarnation key) (w.told w.remote.incarnation key) (w.events w.remote.incarnation key) o) e (fine.session key (alive_some w fine key s e))

-- no key that ended has a session once that of a key which has one was changed
none_edited : (w : World) (fine : Fine w) (key : ℕ) (s : Session) (f : Session → Session) → session_of key w.remote.sessions ≡ Some s → (k : ℕ) → is_ended k w.remote.ended ≡ true → session_of k (edited key f w.remote.sessions) ≡ None
none_edited w fine key s f is k gone =
    let alive = alive_some w fine key s is in
    edited_other k key f w.remote.sessions (λ (h : k ≡ key). absurd (let yes = gone in let no : is_ended k w.remote.ended ≡ false = subst (λ (j : ℕ). is_ended j w.remote.ended ≡ false) (sym h) alive in cc)) ∙ fine.ended k gone

-- the open call of a key is answered

module _ (w : World) (fine : Fine w) (key : ℕ) (taken : Bool) (s : Session) (is : session_of key w.remote.sessions ≡ Some s) (open_is : s.is_open ≡ true) where
  abbrev told_after : ℕ → ℕ → List Bool
  told_after = added_in w.remote.incarnation key taken w.told

  abbrev answered_sessions : Sessions
  answered_sessions = edited key (session_done taken) w.remote.sessions

  pub answers_fine : Fine (record w { remote = done_told key taken w.remote; told = told_after })
  unfolding done_told
  answers_fine =
      record {
        life = fine.life;
        later = added_in_all taken w.remote.incarnation key w.told (λ l k xs. w.remote.incarnation < l → Blank (w.given l k) xs (w.events l k)) (λ lt. absurd (omega arith)) (λ l k ne. fine.later l k);
        session = λ k. session_all w.remote.incarnation k refl;
        ended = none_edited w fine key s (session_done taken) is;
        given = fine.given;
        told = added_in_all taken w.remote.incarnation key w.told (λ l k xs. length xs ≤ length (w.given l k)) told_one (λ l k ne. fine.told l k);
        short = fine.short;
        far = λ k. far_kept (w.called k) (w.answered k) (λ l. w.told l k) (λ l. told_after l k) (λ l. w.events l k) (λ l. w.events l k) k (λ l. added_in_grows taken w.remote.incarnation key w.told l k) (λ l. prefix_same (w.events l k)) (w.fars k) (fine.far k);
        up = fine.up;
        down = λ bytes h. down_told_kept w.told told_after w.events (added_in_grows taken w.remote.incarnation key w.told) bytes (fine.down bytes h);
      }
    where
      before_is : SessionIs (w.given w.remote.incarnation key) (w.told w.remote.incarnation key) (w.events w.remote.incarnation key) s
      before_is = session_some w fine key s is

      told_one : length (w.told w.remote.incarnation key ++ taken ∷ []) ≤ length (w.given w.remote.incarnation key)
      told_one =
          let len = length_push (w.told w.remote.incarnation key) taken in
          let done = before_is.done in
          let busy = (before_is.busy open_is).0 in
          omega (arith, len, done, busy)

      session_all : (l k : ℕ) → l ≡ w.remote.incarnation → is_ended k w.remote.ended ≡ false → SessionOk (w.given l k) (told_after l k) (w.events l k) (session_of k answered_sessions)
      session_all =
          added_in_all taken w.remote.incarnation key w.told (λ l k xs. l ≡ w.remote.incarnation → is_ended k w.remote.ended ≡ false → SessionOk (w.given l k) xs (w.events l k) (session_of k answered_sessions))
          (λ _ _.
          subst (λ (o : Option Session). SessionOk (w.given w.remote.incarnation key) (w.told w.remote.incarnation key ++ taken ∷ []) (w.events w.remote.incarnation key) o)
          (sym (edited_same key (session_done taken) w.remote.sessions s is))
          (done_is (w.given w.remote.incarnation key) (w.told w.remote.incarnation key) (w.events w.remote.incarnation key) taken s open_is before_is))
          (λ l k ne g own.
          subst (λ (j : ℕ). SessionOk (w.given j k) (w.told j k) (w.events j k) (session_of k answered_sessions)) (sym g)
          (subst (λ (o : Option Session). SessionOk (w.given w.remote.incarnation k) (w.told w.remote.incarnation k) (w.events w.remote.incarnation k) o) (sym (edited_other k key (session_done taken) w.remote.sessions (ne g))) (fine.session k own)))

-- the client of a key is to hear a line

module _ (w : World) (fine : Fine w) (key : ℕ) (line : List ℕ) (s : Session) (is : session_of key w.remote.sessions ≡ Some s) (short : AreShort line) where
  abbrev events_after : ℕ → ℕ → Lines
  events_after = added_in w.remote.incarnation key line w.events

  abbrev heard_sessions : Sessions
  heard_sessions = edited key (session_event line) w.remote.sessions

  pub occurs_fine : Fine (record w { remote = event_added key line w.remote; events = events_after })
  unfolding event_added
  occurs_fine =
      record {
        life = fine.life;
        later = added_in_all line w.remote.incarnation key w.events (λ l k xs. w.remote.incarnation < l → Blank (w.given l k) (w.told l k) xs) (λ lt. absurd (omega arith)) (λ l k ne. fine.later l k);
        session = λ k. session_all w.remote.incarnation k refl;
        ended = none_edited w fine key s (session_event line) is;
        given = fine.given;
        told = fine.told;
        short = added_in_all line w.remote.incarnation key w.events (λ l k xs. EachFits AreShort xs) (each_append AreShort (w.events w.remote.incarnation key) (line ∷ []) (fine.short w.remote.incarnation key) (short, tt)) (λ l k ne. fine.short l k);
        far = λ k. far_kept (w.called k) (w.answered k) (λ l. w.told l k) (λ l. w.told l k) (λ l. w.events l k) (λ l. events_after l k) k (λ l. prefix_same (w.told l k)) (λ l. added_in_grows line w.remote.incarnation key w.events l k) (w.fars k) (fine.far k);
        up = fine.up;
        down = λ bytes h. down_events_kept w.told w.events events_after (added_in_grows line w.remote.incarnation key w.events) bytes (fine.down bytes h);
      }
    where
      session_all : (l k : ℕ) → l ≡ w.remote.incarnation → is_ended k w.remote.ended ≡ false → SessionOk (w.given l k) (w.told l k) (events_after l k) (session_of k heard_sessions)
      session_all =
          added_in_all line w.remote.incarnation key w.events (λ l k xs. l ≡ w.remote.incarnation → is_ended k w.remote.ended ≡ false → SessionOk (w.given l k) (w.told l k) xs (session_of k heard_sessions))
          (λ _ _.
          subst (λ (o : Option Session). SessionOk (w.given w.remote.incarnation key) (w.told w.remote.incarnation key) (w.events w.remote.incarnation key ++ line ∷ []) o)
          (sym (edited_same key (session_event line) w.remote.sessions s is))
          (event_is (w.given w.remote.incarnation key) (w.told w.remote.incarnation key) (w.events w.remote.incarnation key) line s (session_some w fine key s is)))
          (λ l k ne g own.
          subst (λ (j : ℕ). SessionOk (w.given j k) (w.told j k) (w.events j k) (session_of k heard_sessions)) (sym g)
          (subst (λ (o : Option Session). SessionOk (w.given w.remote.incarnation k) (w.told w.remote.incarnation k) (w.events w.remote.incarnation k) o) (sym (edited_other k key (session_event line) w.remote.sessions (ne g))) (fine.session k own)))

-- a Down is sent

risen_fits : (n : ℕ) → n ≤ last_u32 → risen n ≤ last_u32
risen_fits n le =
    elim (cases_eq n last_u32) [
      | inl e ↦ let r = risen_last n e in omega (arith, r)
      | inr ne ↦ let lt : n < last_u32 = omega arith in let r = risen_below n lt in omega (arith, r)
    ]

down_pieces : (events : Lines) (s : Session) → s.ack ≤ last_u32 → s.newest ≤ last_u32 → s.events ≡ drop s.ack (take s.newest events) → IsPiece (risen s.ack) (take max_events s.events) events
down_pieces events s ack newest kept = by (cases_eq s.ack last_u32)
  where
    len : length (take s.newest events) ≤ s.newest
    len = let m = length-take s.newest events in omega (arith, m)

    by : (s.ack ≡ last_u32) ⊎ (s.ack ≡ last_u32 → ⊥) → IsPiece (risen s.ack) (take max_events s.events) events
    by (inl e) =
        let l = len in
        let none : s.events ≡ [] = kept ∙ drop_all s.ack (take s.newest events) (omega (arith, l, e, newest)) in
        subst (λ (t : Lines). IsPiece (risen s.ack) (take max_events t) events) (sym none) tt
    by (inr ne) =
        let lt : s.ack < last_u32 = omega arith in
        let piece = piece_kept (s.ack + 1) (take max_events (drop s.ack (take s.newest events))) (take s.newest events) events (drop s.newest events, take-append-drop s.newest events) (piece_of s.ack max_events (take s.newest events)) in
        subst (λ (n : ℕ). IsPiece n (take max_events s.events) events) (sym (risen_below s.ack lt))
        (subst (λ (t : Lines). IsPiece (s.ack + 1) (take max_events t) events) (sym kept) piece)

-- of a key that is not kept
sent_full : (told : ℕ → ℕ → List Bool) (events : ℕ → ℕ → Lines) (incarnation key : ℕ) → IsU32 incarnation → IsU32 key → DownIs told events (down_text (down_as incarnation key None))
unfolding down_as
sent_full told events incarnation key life fits =
    record {
      down = down_as incarnation key None;
      spelled = refl;
      fits = record { key = fits; incarnation = life; done = omega arith; first = omega arith; few = omega arith; each = tt };
      answer = inl refl;
      pieces = tt;
    }

sent_down : (told : ℕ → ℕ → List Bool) (events : ℕ → ℕ → Lines) (given : Lines) (incarnation key : ℕ) (o : Option Session) → IsU32 incarnation → IsU32 key → EachFits AreShort (events incarnation key) → SessionOk given (told incarnation key) (events incarnation key) o
    → DownIs told events (down_text (down_as incarnation key o))
unfolding down_as
sent_down told events given incarnation key None life fits short h = sent_full told events incarnation key life fits
sent_down told events given incarnation key (Some s) life fits short h =
    let done = h.done_fits in
    let first = risen_fits s.ack h.ack_fits in
    let few = length-take max_events s.events in
    let each : EachFits AreShort s.events = subst (EachFits AreShort) (sym h.kept) (each_drop AreShort s.ack (take s.newest (events incarnation key)) (each_take AreShort s.newest (events incarnation key) short)) in
    record {
      down = down_as incarnation key (Some s);
      spelled = refl;
      fits = record { key = fits; incarnation = life; done = omega (arith, done); first = omega (arith, first); few = omega (arith, few); each = each_take AreShort max_events s.events each };
      answer = inr (λ n e. h.answer n (sym h.done ∙ e));
      pieces = down_pieces (events incarnation key) s h.ack_fits h.newest_fits h.kept;
    }

pub sends_down_fine : (w : World) (fine : Fine w) (key : ℕ) → is_key key ≡ true → Fine (record w { downs = down_text (down_for w.remote key) ∷ w.downs })
unfolding down_for
sends_down_fine w fine key fits =
    record {
      life = fine.life;
      later = fine.later;
      session = fine.session;
      ended = fine.ended;
      given = fine.given;
      told = fine.told;
      short = fine.short;
      far = fine.far;
      up = fine.up;
      down = λ bytes h. elim h [ inl e ↦ subst (DownIs w.told w.events) (sym e) sent | inr t ↦ fine.down bytes t ];
    }
  where
    key_fits : IsU32 key
    key_fits = let le = leb-true key last_u32 fits in omega (arith, le)

    by : (b : Bool) → is_ended key w.remote.ended ≡ b → DownIs w.told w.events (down_text (down_as (cond b 0 w.remote.incarnation) key (session_of key w.remote.sessions)))
    by true gone = subst (λ (o : Option Session). DownIs w.told w.events (down_text (down_as 0 key o))) (sym (fine.ended key gone)) (sent_full w.told w.events 0 key (omega arith) key_fits)
    by false own = sent_down w.told w.events (w.given w.remote.incarnation key) w.remote.incarnation key (session_of key w.remote.sessions) fine.life key_fits (fine.short w.remote.incarnation key) (fine.session key own)

    sent : DownIs w.told w.events (down_text (down_as (life_told key w.remote) key (session_of key w.remote.sessions)))
    sent = by (is_ended key w.remote.ended) refl

-- the daemon ticks

ok_longer : (given : Lines) (told : List Bool) (events : Lines) (o : Option Session) → SessionOk given told events o → SessionOk given told events (option_map silent_longer o)
ok_longer given told events None h = h
ok_longer given told events (Some s) h = longer_is given told events s h

none_longer : (o : Option Session) → o ≡ None → option_map silent_longer o ≡ None
none_longer o e = ap (λ (p : Option Session). option_map silent_longer p) e

pub ticks_fine : (w : World) (fine : Fine w) → Fine (record w { remote = remote_ticked w.remote })
unfolding remote_ticked waited
ticks_fine w fine =
    record {
      life = fine.life;
      later = fine.later;
      session = λ k own.
          subst (λ (o : Option Session). SessionOk (w.given w.remote.incarnation k) (w.told w.remote.incarnation k) (w.events w.remote.incarnation k) o) (sym (longer k))
          (ok_longer (w.given w.remote.incarnation k) (w.told w.remote.incarnation k) (w.events w.remote.incarnation k) (session_of k w.remote.sessions) (fine.session k own));
      ended = λ k gone. longer k ∙ none_longer (session_of k w.remote.sessions) (fine.ended k gone);
      given = fine.given;
      told = fine.told;
      short = fine.short;
      far = fine.far;
      up = fine.up;
      down = fine.down;
    }
  where
    longer : (k : ℕ) → session_of k (waited w.remote.sessions) ≡ option_map silent_longer (session_of k w.remote.sessions)
    longer k = lookup-map_values silent_longer (nat_eq k) w.remote.sessions

-- a key ends

module _ (w : World) (fine : Fine w) (key : ℕ) where
  left : (k : ℕ) → (k ≡ key) ⊎ (k ≡ key → ⊥) → is_ended k (with_ended key w.remote.ended) ≡ false → SessionOk (w.given w.remote.incarnation k) (w.told w.remote.incarnation k) (w.events w.remote.incarnation k) (session_of k (without key w.remote.sessions))
  left k (inl g) own = absurd (let no = own in let yes : is_ended k (with_ended key w.remote.ended) ≡ true = subst (λ (j : ℕ). is_ended j (with_ended key w.remote.ended) ≡ true) (sym g) (ended_same key w.remote.ended) in cc)
  left k (inr ne) own =
      subst (λ (o : Option Session). SessionOk (w.given w.remote.incarnation k) (w.told w.remote.incarnation k) (w.events w.remote.incarnation k) o) (sym (without_other k key w.remote.sessions ne))
      (fine.session k (sym (ended_other k key w.remote.ended ne) ∙ own))

  gone_with : (k : ℕ) → (k ≡ key) ⊎ (k ≡ key → ⊥) → is_ended k (with_ended key w.remote.ended) ≡ true → session_of k (without key w.remote.sessions) ≡ None
  gone_with k (inl g) gone = subst (λ (j : ℕ). session_of j (without key w.remote.sessions) ≡ None) (sym g) (without_same key w.remote.sessions)
  gone_with k (inr ne) gone = without_other k key w.remote.sessions ne ∙ fine.ended k (sym (ended_other k key w.remote.ended ne) ∙ gone)

  pub ends_fine : Fine (record w { remote = key_ended key w.remote })
  unfolding key_ended
  ends_fine = by (may_end w.remote)
    where
      by : (b : Bool) → Fine (record w { remote = cond b (record w.remote { sessions = without key w.remote.sessions; ended = with_ended key w.remote.ended }) w.remote })
      by true =
          record {
            life = fine.life;
            later = fine.later;
            session = λ k. left k (cases_eq k key);
            ended = λ k. gone_with k (cases_eq k key);
            given = fine.given;
            told = fine.told;
            short = fine.short;
            far = fine.far;
            up = fine.up;
            down = fine.down;
          }
      by false = fine

-- the daemon starts anew

pub restarts_fine : (w : World) (fine : Fine w) (incarnation : ℕ) → nat_lt w.remote.incarnation incarnation ≡ true → is_key incarnation ≡ true → Fine (record w { remote = remote_new incarnation })
unfolding remote_new
restarts_fine w fine incarnation greater fits =
    let lt = ltb-true w.remote.incarnation incarnation greater in
    record {
      life = let le = leb-true incarnation last_u32 fits in omega (arith, le);
      later = λ l k more. fine.later l k (omega arith);
      session = λ k own. fine.later incarnation k lt;
      ended = λ k gone. absurd cc;
      given = fine.given;
      told = fine.told;
      short = fine.short;
      far = fine.far;
      up = fine.up;
      down = fine.down;
    }
