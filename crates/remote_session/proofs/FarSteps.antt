-- What a Down does to a client's end keeps what holds of a world.
use Rattle.std.proofs.Common.{◌≡◌, ℕ, ◌+◌, ◌-◌, ◌<◌, ◌≤◌, ◌⊎◌, Bool, true, false, cond, List, [], ◌∷◌, ◌++◌, length, Option, Some, None, refl, sym, ap, subst, ◌∙◌, inl, inr, arith}
use Rattle.std.specs.Prelude.{◌==◌, ◌&&◌, nat_lt, is_some, unwrap_or, slice_get}
use Rattle.std.proofs.lemmas.Bool.{ltb-true, eqb-true, and_parts}
use Rattle.std.proofs.lemmas.List.{length_push}
use Rattle.rsct_packet.specs.Search.{Has}
use Rattle.rsct_packet.specs.Ids.{last_u32}
use Rattle.remote_session.specs.declared.far.DownSeen.{DownSeen}
use Rattle.remote_session.specs.declared.far.DownSeen.TheVariants as seen
use Rattle.remote_session.specs.Messages.{DownIn, down_of}
use Rattle.remote_session.specs.Client.{FarState, heard_next, heard_with, is_answered, is_full, is_taken, own_down, first_incarnation, far_seen_as, far_seen, far_heard, far_taken_as, far_taken}
use Rattle.remote_session.specs.World.{World, with_far, added, answer_heard}
use Rattle.remote_session.specs.Laws.{IsPrefixOf}
use Rattle.remote_session.proofs.MessageLaws.{down_again}
use Rattle.remote_session.proofs.ListLaws.{IsPiece, prefix_none, prefix_next, added_same, added_other}
use Rattle.remote_session.proofs.Parts.{Lines, CallOk, HeardIs, HeardOk, FarIs, FarOk, Fine}
use Rattle.remote_session.proofs.Steps.{put_far, some_far}

-- events

next_cases : (P : Lines → Type 0) (heard : Lines) (number : ℕ) (line : List ℕ) → (number ≡ length heard + 1 → length heard < last_u32 → P (heard ++ line ∷ [])) → P heard → P (heard_next heard number line)
next_cases P heard number line takes stays = by ((number == length heard + 1) && nat_lt (length heard) last_u32) refl
  where
    by : (b : Bool) → ((number == length heard + 1) && nat_lt (length heard) last_u32) ≡ b → P (cond b (heard ++ line ∷ []) heard)
    by true e =
        let p = and_parts (number == length heard + 1) (nat_lt (length heard) last_u32) e in
        takes (eqb-true number (length heard + 1) p.0) (ltb-true (length heard) last_u32 p.1)
    by false e = stays

-- a front of the events stays one
heard_prefix : (heard : Lines) (number : ℕ) (lines events : Lines) → IsPrefixOf heard events → IsPiece number lines events → IsPrefixOf (heard_with heard number lines) events
unfolding heard_with
heard_prefix heard number [] events p h = p
heard_prefix heard number (line ∷ lines) events p h =
    heard_prefix (heard_next heard number line) (number + 1) lines events
    (next_cases (λ t. IsPrefixOf t events) heard number line
    (λ e lt.
    let place : number - 1 ≡ length heard = omega arith in
    prefix_next heard events line p (subst (λ (n : ℕ). slice_get events n ≡ Some line) place h.1))
    p)
    h.2

heard_few : (heard : Lines) (number : ℕ) (lines : Lines) → length heard ≤ last_u32 → length (heard_with heard number lines) ≤ last_u32
unfolding heard_with
heard_few heard number [] le = le
heard_few heard number (line ∷ lines) le =
    heard_few (heard_next heard number line) (number + 1) lines
    (next_cases (λ t. length t ≤ last_u32) heard number line (λ e lt. let len = length_push heard line in omega (arith, len)) le)

-- the world with another end

pub far_fine : (w : World) (fine : Fine w) (key : ℕ) (f : FarState) → FarIs (w.called key) (w.answered key) (λ l. w.told l key) (λ l. w.events l key) key f → Fine (record w { fars = with_far key f w.fars })
far_fine w fine key f own =
    record {
      life = fine.life;
      later = fine.later;
      session = fine.session;
      ended = fine.ended;
      given = fine.given;
      told = fine.told;
      short = fine.short;
      far = put_far w.called w.answered w.told w.events w.fars key f own (λ k ne. fine.far k);
      up = fine.up;
      down = fine.down;
    }

pub answer_fine : (w : World) (fine : Fine w) (key : ℕ) (f : FarState) (taken : Bool) → FarIs (w.called key) (w.answered key ++ taken ∷ []) (λ l. w.told l key) (λ l. w.events l key) key f
    → Fine (record w { fars = with_far key f w.fars; answered = added key taken w.answered })
answer_fine w fine key f taken own =
    record {
      life = fine.life;
      later = fine.later;
      session = fine.session;
      ended = fine.ended;
      given = fine.given;
      told = fine.told;
      short = fine.short;
      far =
          put_far w.called (added key taken w.answered) w.told w.events w.fars key f
          (subst (λ (a : List Bool). FarIs (w.called key) a (λ l. w.told l key) (λ l. w.events l key) key f) (sym (added_same taken key key w.answered refl)) own)
          (λ k ne. subst (λ (a : List Bool). FarOk (w.called k) a (λ l. w.told l k) (λ l. w.events l k) k (w.fars k)) (sym (added_other taken key k w.answered ne)) (fine.far k));
      up = fine.up;
      down = fine.down;
    }

-- what the end had heard, in the life of this Down
hears_in : (heard : Lines) (answered : List Bool) (told : ℕ → List Bool) (events : ℕ → Lines) (o : Option ℕ) (life : ℕ) → unwrap_or o life ≡ life → HeardOk heard answered told events o → HeardIs heard answered (told life) (events life)
hears_in heard answered told events None life e h =
    record {
      events_first = subst (λ (t : Lines). IsPrefixOf t (events life)) (sym h.0) (prefix_none (events life));
      answers_first = subst (λ (t : List Bool). IsPrefixOf t (told life)) (sym h.1) (prefix_none (told life));
    }
hears_in heard answered told events (Some l) life e h = subst (λ (j : ℕ). HeardIs heard answered (told j) (events j)) e h

-- a Down of this key and of the end's incarnation comes

module _ (w : World) (fine : Fine w) (key : ℕ) (f : FarState) (own : FarIs (w.called key) (w.answered key) (λ l. w.told l key) (λ l. w.events l key) key f) (d : DownIn)
    (answer : (is_full d.answer ≡ true) ⊎ ((n : ℕ) → d.done ≡ n + 1 → slice_get (w.told d.incarnation d.key) n ≡ Some (is_taken d.answer)))
    (pieces : IsPiece d.first d.events (w.events d.incarnation d.key)) (mine : d.key ≡ f.key) (same : first_incarnation f d ≡ d.incarnation) where
  is_key : d.key ≡ key
  is_key = mine ∙ own.key_is

  hears : HeardIs f.heard (w.answered key) (w.told d.incarnation key) (w.events d.incarnation key)
  hears = hears_in f.heard (w.answered key) (λ l. w.told l key) (λ l. w.events l key) f.incarnation d.incarnation same own.hears

  events_first : IsPrefixOf (heard_with f.heard d.first d.events) (w.events d.incarnation key)
  events_first = heard_prefix f.heard d.first d.events (w.events d.incarnation key) hears.events_first (subst (λ (k : ℕ). IsPiece d.first d.events (w.events d.incarnation k)) is_key pieces)

  full_far : FarIs (w.called key) (w.answered key) (λ l. w.told l key) (λ l. w.events l key) key (record f { incarnation = Some (first_incarnation f d) })
  full_far =
      record {
        key_is = own.key_is;
        key_fits = own.key_fits;
        number_is = own.number_is;
        number_fits = own.number_fits;
        few = own.few;
        call = own.call;
        hears = subst (λ (l : ℕ). HeardIs f.heard (w.answered key) (w.told l key) (w.events l key)) (sym same) hears;
      }

  quiet_far : FarIs (w.called key) (w.answered key) (λ l. w.told l key) (λ l. w.events l key) key (record f { incarnation = Some (first_incarnation f d); heard = heard_with f.heard d.first d.events })
  quiet_far =
      record {
        key_is = own.key_is;
        key_fits = own.key_fits;
        number_is = own.number_is;
        number_fits = own.number_fits;
        few = heard_few f.heard d.first d.events own.few;
        call = own.call;
        hears =
            subst (λ (l : ℕ). HeardIs (heard_with f.heard d.first d.events) (w.answered key) (w.told l key) (w.events l key)) (sym same)
            (record { events_first = events_first; answers_first = hears.answers_first });
      }

  calling_is : (o : Option (List ℕ)) → is_some o ≡ true → CallOk (w.called key) (w.answered key) f.number o → f.number ≡ length (w.answered key) + 1
  calling_is None e h = absurd cc
  calling_is (Some line) e h = h.number_is

  answered_far : is_full d.answer ≡ false → is_answered f d ≡ true
      → FarIs (w.called key) (w.answered key ++ is_taken d.answer ∷ []) (λ l. w.told l key) (λ l. w.events l key) key (record f { calling = None; incarnation = Some (first_incarnation f d); heard = heard_with f.heard d.first d.events })
  unfolding is_answered
  answered_far not_full e =
      let p = and_parts (is_some f.calling) (d.done == f.number) e in
      let number = calling_is f.calling p.0 own.call in
      let done : d.done ≡ f.number = eqb-true d.done f.number p.1 in
      let place : d.done ≡ length (w.answered key) + 1 = done ∙ number in
      let len = length_push (w.answered key) (is_taken d.answer) in
      let told : slice_get (w.told d.incarnation key) (length (w.answered key)) ≡ Some (is_taken d.answer) =
      elim answer [
        | inl full ↦ absurd cc
        | inr x ↦ subst (λ (k : ℕ). slice_get (w.told d.incarnation k) (length (w.answered key)) ≡ Some (is_taken d.answer)) is_key (x (length (w.answered key)) place)
      ] in
      record {
        key_is = own.key_is;
        key_fits = own.key_fits;
        number_is = own.number_is;
        number_fits = own.number_fits;
        few = heard_few f.heard d.first d.events own.few;
        call = number ∙ sym len;
        hears =
            subst (λ (l : ℕ). HeardIs (heard_with f.heard d.first d.events) (w.answered key ++ is_taken d.answer ∷ []) (w.told l key) (w.events l key)) (sym same)
            (record { events_first = events_first; answers_first = prefix_next (w.answered key) (w.told d.incarnation key) (is_taken d.answer) hears.answers_first told });
      }

  abbrev seen_by : Bool → Bool → DownSeen
  seen_by full answered = cond full seen.Full (cond answered (seen.Answer (is_taken d.answer)) seen.Nothing)

  abbrev taken_by : Bool → Bool → FarState
  taken_by full answered =
      cond full (record f { incarnation = Some (first_incarnation f d) }) (record f { calling = cond answered None f.calling; incarnation = Some (first_incarnation f d); heard = heard_with f.heard d.first d.events })

  pub taken_fine : (full answered : Bool) → is_full d.answer ≡ full → is_answered f d ≡ answered → Fine (answer_heard key (seen_by full answered) (record w { fars = with_far key (taken_by full answered) w.fars }))
  unfolding answer_heard
  taken_fine true answered e g = far_fine w fine key (record f { incarnation = Some (first_incarnation f d) }) full_far
  taken_fine false true e g = answer_fine w fine key (record f { calling = None; incarnation = Some (first_incarnation f d); heard = heard_with f.heard d.first d.events }) (is_taken d.answer) (answered_far e g)
  taken_fine false false e g = far_fine w fine key (record f { incarnation = Some (first_incarnation f d); heard = heard_with f.heard d.first d.events }) quiet_far

-- a Down that is not of this key, or not believed

module _ (w : World) (fine : Fine w) (key : ℕ) (f : FarState) (own : FarIs (w.called key) (w.answered key) (λ l. w.told l key) (λ l. w.events l key) key f) (d : DownIn)
    (answer : (is_full d.answer ≡ true) ⊎ ((n : ℕ) → d.done ≡ n + 1 → slice_get (w.told d.incarnation d.key) n ≡ Some (is_taken d.answer)))
    (pieces : IsPiece d.first d.events (w.events d.incarnation d.key)) where
  believed_fine : (b : Bool) → d.key ≡ f.key → first_incarnation f d == d.incarnation ≡ b
      → Fine (answer_heard key (cond b (cond (is_full d.answer) seen.Full (cond (is_answered f d) (seen.Answer (is_taken d.answer)) seen.Nothing)) (seen.Lost (first_incarnation f d) d.incarnation))
      (record w { fars = with_far key (cond b (cond (is_full d.answer) (record f { incarnation = Some (first_incarnation f d) }) (far_heard f d)) f) w.fars }))
  unfolding answer_heard far_heard
  believed_fine true mine e = taken_fine w fine key f own d answer pieces mine (eqb-true (first_incarnation f d) d.incarnation e) (is_full d.answer) (is_answered f d) refl refl
  believed_fine false mine e = far_fine w fine key f own

  own_fine : (b : Bool) → d.key == f.key ≡ b → Fine (answer_heard key (far_seen_as f (cond b (Some d) None)) (record w { fars = with_far key (far_taken_as f (cond b (Some d) None)) w.fars }))
  unfolding answer_heard far_seen_as far_taken_as
  own_fine true e = believed_fine (first_incarnation f d == d.incarnation) (eqb-true d.key f.key e) refl
  own_fine false e = far_fine w fine key f own

  read_fine : Fine (answer_heard key (far_seen_as f (own_down f.key (Some d))) (record w { fars = with_far key (far_taken_as f (own_down f.key (Some d))) w.fars }))
  unfolding own_down
  read_fine = own_fine (d.key == f.key) refl

pub down_fine : (w : World) (fine : Fine w) (key : ℕ) (f : FarState) (bytes : List ℕ) → w.fars key ≡ Some f → Has bytes w.downs → Fine (answer_heard key (far_seen f bytes) (record w { fars = with_far key (far_taken f bytes) w.fars }))
unfolding far_seen far_taken
down_fine w fine key f bytes is h =
    let s = fine.down bytes h in
    let read : down_of bytes ≡ Some s.down = ap down_of s.spelled ∙ down_again s.down s.fits in
    subst (λ (o : Option DownIn). Fine (answer_heard key (far_seen_as f (own_down f.key o)) (record w { fars = with_far key (far_taken_as f (own_down f.key o)) w.fars }))) (sym read)
    (read_fine w fine key f (some_far w fine key f is) s.down s.answer s.pieces)
