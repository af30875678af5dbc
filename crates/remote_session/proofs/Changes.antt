-- What each change of a session keeps.
use Rattle.std.proofs.Common.{◌≡◌, ℕ, ◌+◌, ◌-◌, ◌<◌, ◌≤◌, Bool, true, false, cond, List, [], ◌∷◌, ◌++◌, length, take, drop, refl, sym, ap, subst, ◌∙◌, inl, inr, arith}
use Rattle.std.specs.Prelude.{◌==◌, ◌&&◌, not, nat_lt, nat_le, if◌then◌else◌}
use Rattle.std.proofs.lemmas.Bool.{ltb-true, leb-true, leb-false, eqb-true, eqb-false, ne_eqb, eq-eqb, and_parts, not-true}
use Rattle.std.proofs.lemmas.List.{drop-drop, take_all, take-append-le, drop-append-le, drop_all, length_push}
use Rattle.rsct_packet.specs.Lists.{is_empty}
use Rattle.rsct_packet.specs.Ids.{risen, last_u32}
use Rattle.remote_session.specs.declared.session.Session.{Session}
use Rattle.remote_session.specs.Messages.{UpIn}
use Rattle.remote_session.specs.Daemon.{new_session, acknowledged, makes_call, opened, answer_told, session_done, with_event, session_event, spoken}
use Rattle.remote_session.specs.Ending.{silent_longer}
use Rattle.remote_session.specs.Client.{is_taken}
use Rattle.remote_session.proofs.ListLaws.{get_last}
use Rattle.remote_session.proofs.Parts.{Lines, Blank, SessionIs}

pub new_is : (given : Lines) (told : List Bool) (events : Lines) → Blank given told events → SessionIs given told events new_session
unfolding new_session
new_is given told events b =
    let g : length given ≡ 0 = ap length b.given_none in
    let t : length told ≡ 0 = ap length b.told_none in
    let e : length events ≡ 0 = ap length b.events_none in
    record {
      done = sym t;
      done_fits = omega arith;
      idle = λ _. g;
      busy = λ h. absurd cc;
      answer = λ n h. absurd (omega arith);
      ack_fits = omega arith;
      newest_fits = omega arith;
      within = omega arith;
      all = inl (sym e);
      kept = refl;
    }

pub acknowledged_is : (given : Lines) (told : List Bool) (events : Lines) (ack : ℕ) (s : Session) → ack ≤ last_u32 → SessionIs given told events s → SessionIs given told events (acknowledged ack s)
unfolding acknowledged
acknowledged_is given told events ack s fits h = by (nat_lt s.ack ack) refl
  where
    by : (b : Bool) → nat_lt s.ack ack ≡ b → SessionIs given told events (cond b (record s { ack = ack; events = drop (ack - s.ack) s.events }) s)
    by true e =
        let lt : s.ack < ack = ltb-true s.ack ack e in
        let sum : s.ack + (ack - s.ack) ≡ ack = omega arith in
        record {
          done = h.done;
          done_fits = h.done_fits;
          idle = h.idle;
          busy = h.busy;
          answer = h.answer;
          ack_fits = fits;
          newest_fits = h.newest_fits;
          within = h.within;
          all = h.all;
          kept =
              ap (drop (ack - s.ack)) h.kept
              ∙ (drop-drop (ack - s.ack) s.ack (take s.newest events) ∙ ap (λ (n : ℕ). drop n (take s.newest events)) sum);
        }
    by false e = h

-- how long a key was silent is no part of it

pub spoken_is : (given : Lines) (told : List Bool) (events : Lines) (s : Session) → SessionIs given told events s → SessionIs given told events (spoken s)
spoken_is given told events s h =
    record {
      done = h.done;
      done_fits = h.done_fits;
      idle = h.idle;
      busy = h.busy;
      answer = h.answer;
      ack_fits = h.ack_fits;
      newest_fits = h.newest_fits;
      within = h.within;
      all = h.all;
      kept = h.kept;
    }

pub longer_is : (given : Lines) (told : List Bool) (events : Lines) (s : Session) → SessionIs given told events s → SessionIs given told events (silent_longer s)
longer_is given told events s h =
    record {
      done = h.done;
      done_fits = h.done_fits;
      idle = h.idle;
      busy = h.busy;
      answer = h.answer;
      ack_fits = h.ack_fits;
      newest_fits = h.newest_fits;
      within = h.within;
      all = h.all;
      kept = h.kept;
    }

pub acknowledged_open : (ack : ℕ) (s : Session) → (acknowledged ack s).is_open ≡ s.is_open
unfolding acknowledged
acknowledged_open ack s = elim (nat_lt s.ack ack) as (λ b. (cond b (record s { ack = ack; events = drop (ack - s.ack) s.events }) s).is_open ≡ s.is_open) [ true ↦ refl | false ↦ refl ]

pub acknowledged_done : (ack : ℕ) (s : Session) → (acknowledged ack s).done ≡ s.done
unfolding acknowledged
acknowledged_done ack s = elim (nat_lt s.ack ack) as (λ b. (cond b (record s { ack = ack; events = drop (ack - s.ack) s.events }) s).done ≡ s.done) [ true ↦ refl | false ↦ refl ]

-- what is known where an Up makes a call
pub record MakesCall (u : UpIn) (s : Session) : Type 0 where
  pub next : u.number ≡ s.done + 1
  pub line : is_empty u.line ≡ false
  pub idle : s.is_open ≡ false

pub makes_call_is : (u : UpIn) (s : Session) → makes_call u s ≡ true → MakesCall u s
unfolding makes_call
makes_call_is u s e =
    let p = and_parts ((u.number == s.done + 1) && not (is_empty u.line)) (not s.is_open) e in
    let q = and_parts (u.number == s.done + 1) (not (is_empty u.line)) p.0 in
    record { next = eqb-true u.number (s.done + 1) q.0; line = not-true (is_empty u.line) q.1; idle = not-true s.is_open p.1 }

pub opened_is : (given : Lines) (told : List Bool) (events : Lines) (line : List ℕ) (s : Session) → s.is_open ≡ false → s.done < last_u32 → SessionIs given told events s → SessionIs (given ++ line ∷ []) told events (opened true s)
unfolding opened
opened_is given told events line s shut lt h =
    record {
      done = h.done;
      done_fits = h.done_fits;
      idle = λ e. absurd cc;
      busy = λ _. (length_push given line ∙ ap (λ (n : ℕ). n + 1) (h.idle shut), lt);
      answer = h.answer;
      ack_fits = h.ack_fits;
      newest_fits = h.newest_fits;
      within = h.within;
      all = h.all;
      kept = h.kept;
    }

pub same_opened : (s : Session) → opened false s ≡ s
unfolding opened
same_opened s = refl

taken_told : (taken : Bool) → is_taken (answer_told taken) ≡ taken
unfolding answer_told
taken_told true = refl
taken_told false = refl

pub risen_below : (n : ℕ) → n < last_u32 → risen n ≡ n + 1
unfolding risen
risen_below n lt = let e : n == last_u32 ≡ false = ne_eqb n last_u32 (omega arith) in rw (e, risen) refl

pub risen_last : (n : ℕ) → n ≡ last_u32 → risen n ≡ last_u32
unfolding risen
risen_last n e = rw (eq-eqb n last_u32 e, risen) e

pub done_is : (given : Lines) (told : List Bool) (events : Lines) (taken : Bool) (s : Session) → s.is_open ≡ true → SessionIs given told events s → SessionIs given (told ++ taken ∷ []) events (session_done taken s)
unfolding session_done
done_is given told events taken s is_open h =
    let b = h.busy is_open in
    let n : risen s.done ≡ s.done + 1 = risen_below s.done b.1 in
    let len : length (told ++ taken ∷ []) ≡ length told + 1 = length_push told taken in
    let d = h.done in
    let lt = b.1 in
    let open_is = is_open in
    subst (λ (o : Bool). SessionIs given (told ++ taken ∷ []) events (if o then record s { done = risen s.done; answer = answer_told taken; is_open = false } else s)) (sym open_is)
    (record {
      done = omega (arith, n, len, d);
      done_fits = omega (arith, n, lt);
      idle = λ _. b.0 ∙ sym n;
      busy = λ e. absurd cc;
      answer = λ k e.
          let place : k ≡ length told = omega (arith, len, e) in
          rw (place, taken_told taken) (get_last told taken);
      ack_fits = h.ack_fits;
      newest_fits = h.newest_fits;
      within = h.within;
      all = h.all;
      kept = h.kept;
    })

-- the events that are kept with one more
with_event_is : (events : Lines) (line : List ℕ) (s : Session) → s.newest ≡ length events → s.events ≡ drop s.ack (take s.newest events) → with_event line s ≡ drop s.ack (take (s.newest + 1) (events ++ line ∷ []))
unfolding with_event
with_event_is events line s newest kept = by (nat_le s.ack s.newest) refl
  where
    len : length (events ++ line ∷ []) ≡ length events + 1
    len = length_push events line

    whole : take (s.newest + 1) (events ++ line ∷ []) ≡ events ++ line ∷ []
    whole = take_all (s.newest + 1) (events ++ line ∷ []) (omega (arith, len, newest))

    before : s.events ≡ drop s.ack events
    before = kept ∙ ap (drop s.ack) (take_all s.newest events (omega (arith, newest)))

    by : (b : Bool) → nat_le s.ack s.newest ≡ b → cond b (s.events ++ line ∷ []) s.events ≡ drop s.ack (take (s.newest + 1) (events ++ line ∷ []))
    by true e =
        let le : s.ack ≤ s.newest = leb-true s.ack s.newest e in
        ap (λ (t : Lines). t ++ line ∷ []) before
        ∙ (sym (drop-append-le s.ack events (line ∷ []) (omega (arith, newest))) ∙ ap (drop s.ack) (sym whole))
    by false e =
        let lt : s.newest < s.ack = leb-false s.ack s.newest e in
        before
        ∙ (drop_all s.ack events (omega (arith, newest)) ∙ (sym (drop_all s.ack (events ++ line ∷ []) (omega (arith, len, newest))) ∙ ap (drop s.ack) (sym whole)))

pub event_is : (given : Lines) (told : List Bool) (events : Lines) (line : List ℕ) (s : Session) → SessionIs given told events s → SessionIs given told (events ++ line ∷ []) (session_event line s)
unfolding session_event
event_is given told events line s h = by (s.newest == last_u32) refl
  where
    len : length (events ++ line ∷ []) ≡ length events + 1
    len = length_push events line

    by : (b : Bool) → s.newest == last_u32 ≡ b → SessionIs given told (events ++ line ∷ []) (cond b s (record s { newest = s.newest + 1; events = with_event line s }))
    by true e =
        let w = h.within in
        record {
          done = h.done;
          done_fits = h.done_fits;
          idle = h.idle;
          busy = h.busy;
          answer = h.answer;
          ack_fits = h.ack_fits;
          newest_fits = h.newest_fits;
          within = omega (arith, len, w);
          all = inr (eqb-true s.newest last_u32 e);
          kept = h.kept ∙ ap (drop s.ack) (sym (take-append-le s.newest events (line ∷ []) w));
        }
    by false e =
        let newest : s.newest ≡ length events = elim h.all [ inl x ↦ x | inr x ↦ absurd (eqb-false s.newest last_u32 e x) ] in
        let le = h.newest_fits in
        let ne = eqb-false s.newest last_u32 e in
        record {
          done = h.done;
          done_fits = h.done_fits;
          idle = h.idle;
          busy = h.busy;
          answer = h.answer;
          ack_fits = h.ack_fits;
          newest_fits = omega (arith, le, ne);
          within = omega (arith, len, newest);
          all = inl (omega (arith, len, newest));
          kept = with_event_is events line s newest h.kept;
        }
