-- Which of the sample runs are runs of a network, and that one is an execution.
use Rattle.std.proofs.Common.{◌≡◌, ◌≤◌, ◌+◌, ℕ, Bool, List, [], ◌∷◌, Some, None, refl, sym, subst, inl, inr, arith}
use Rattle.std.specs.Prelude.{◌==◌, true, false, nat_le, flat_map, if◌then◌else◌}
use Rattle.std.proofs.lemmas.Bool.{eqb-true, le-leb}
use Rattle.piece_link.specs.Answers.{Among}
use Rattle.hags_io.specs.declared.link.LinkCall.TheVariants as call
use Rattle.daemon_model.specs.Actions.{Action}
use Rattle.network_model.specs.Fits.{WasSent, MayCome, IsSpelledSend, NetworkRun, MayBegin}
use Rattle.network_model.specs.Executions.{Timed, NeverBack, TimedLife, timed_acts, WasSentBefore, OneByOne, MayHear, Execution}
use Rattle.network_model.specs.Opens.{net_opens}
use Rattle.network_model.specs.Samples.{pair, two_speak, ticks_cross, first_piece, second_piece, ticks_and_hears, crossing, answered_at_once, client_served, never_sent, heard_before, own_before, old_incarnation, two_at_once}

pub two_speak_run : NetworkRun IsSpelledSend pair two_speak
unfolding net_opens
two_speak_run =
    record {
      mode = refl;
      may = (
        record { some = omega arith; most = omega arith; down = refl; later = omega arith; fits = omega arith },
        (
          tt,
          (
            record { some = omega arith; most = omega arith; down = refl; later = omega arith; fits = omega arith },
            (
              inl (record { send = _; among = inl refl; is = refl; holds = record { fits = omega arith; read = refl } }),
              (inl (record { send = _; among = inl refl; is = refl; holds = record { fits = omega arith; read = refl } }), tt),
            ),
          ),
        ),
      );
    }

pub ticks_cross_run : NetworkRun IsSpelledSend pair ticks_cross
unfolding net_opens
ticks_cross_run =
    record {
      mode = refl;
      may = (
        record { some = omega arith; most = omega arith; down = refl; later = omega arith; fits = omega arith },
        (
          record { some = omega arith; most = omega arith; down = refl; later = omega arith; fits = omega arith },
          (
            tt,
            (
              tt,
              (
                inl (record { send = _; among = inr (inl refl); is = refl; holds = record { fits = omega arith; read = refl } }),
                (inl (record { send = _; among = inl refl; is = refl; holds = record { fits = omega arith; read = refl } }), tt),
              ),
            ),
          ),
        ),
      );
    }

-- what holds of both nodes' lives holds of all
each_node : (P : ℕ → List (TimedLife ℕ) → Type 0) → P 1 (ticks_and_hears 0 second_piece ∷ []) → P 2 (ticks_and_hears 1 first_piece ∷ []) → ((n : ℕ) → P n []) → (n : ℕ) → P n (crossing n)
unfolding crossing
each_node P one two none n = by (n == 1) refl (n == 2) refl
  where
    by : (b : Bool) → n == 1 ≡ b → (p : Bool) → n == 2 ≡ p → P n (if b then ticks_and_hears 0 second_piece ∷ [] else if p then ticks_and_hears 1 first_piece ∷ [] else [])
    by true e p f = subst (λ m. P m (ticks_and_hears 0 second_piece ∷ [])) (sym (eqb-true n 1 e)) one
    by false e true f = subst (λ m. P m (ticks_and_hears 1 first_piece ∷ [])) (sym (eqb-true n 2 f)) two
    by false e false f = none n

in_one : {A : Type 0} (x : A) (P : A → Type 0) → P x → (a : A) → Among a (x ∷ []) → P a
in_one x P p a (inl e) = subst P (sym e) p
in_one x P p a (inr h) = absurd h

in_two : {A : Type 0} (P : A → Type 0) (x y : A) → P x → P y → (a : A) → Among a (x ∷ y ∷ []) → P a
in_two P x y p q a (inl e) = subst P (sym e) p
in_two P x y p q a (inr h) = in_one y P q a h

-- begun, a tick two later, and a receive two after that
in_turn : (n began : ℕ) (bytes : List ℕ) → NeverBack nat_le (flat_map (timed_acts n) (ticks_and_hears began bytes ∷ []))
in_turn n began bytes =
    (in_two (λ y. nat_le began y.time ≡ true) _ _ (le-leb began (began + 2) (omega arith)) (le-leb began (began + 4) (omega arith)), (in_one _ (λ y. nat_le (began + 2) y.time ≡ true) (le-leb (began + 2) (began + 4) (omega arith)), ((λ y h. absurd h), tt)))

pub crossing_execution : Execution ℕ nat_le IsSpelledSend pair crossing
unfolding net_opens
crossing_execution =
    record {
      mode = refl;
      nodes = each_node (λ n ls. (l : TimedLife ℕ) → Among l ls → (1 ≤ n) × (n ≤ 32)) (λ l h. (omega arith, omega arith)) (λ l h. (omega arith, omega arith)) (λ n l h. absurd h);
      one_by_one = each_node (λ n ls. OneByOne 0 ls) (omega arith, omega arith, tt, tt) (omega arith, omega arith, tt, tt) (λ n. tt);
      in_order = each_node (λ n ls. NeverBack nat_le (flat_map (timed_acts n) ls)) (in_turn 1 0 second_piece) (in_turn 2 1 first_piece) (λ n. tt);
      received = each_node (λ n ls. (l : TimedLife ℕ) → Among l ls → (a : Timed ℕ Action) → Among a l.actions → MayHear ℕ nat_le IsSpelledSend pair crossing a.time a.what) (in_one (ticks_and_hears 0 second_piece) Hearing (in_two Heard _ _ tt second_comes)) (in_one (ticks_and_hears 1 first_piece) Hearing (in_two Heard _ _ tt first_comes)) (λ n l h. absurd h);
    }
  where
    Heard : Timed ℕ Action → Type 0
    Heard a = MayHear ℕ nat_le IsSpelledSend pair crossing a.time a.what

    Hearing : TimedLife ℕ → Type 0
    Hearing l = (a : Timed ℕ Action) → Among a l.actions → Heard a

    second_comes : MayCome (WasSentBefore ℕ nat_le IsSpelledSend pair crossing 4) (call.Received 1 second_piece)
    second_comes = inl (record { node = 2; life = ticks_and_hears 1 first_piece; lived = inl refl; send = _; made = inl refl; earlier = refl; is = refl; holds = record { fits = omega arith; read = refl } })

    first_comes : MayCome (WasSentBefore ℕ nat_le IsSpelledSend pair crossing 5) (call.Received 1 first_piece)
    first_comes = inl (record { node = 1; life = ticks_and_hears 0 second_piece; lived = inl refl; send = _; made = inl refl; earlier = refl; is = refl; holds = record { fits = omega arith; read = refl } })

pub answered_at_once_run : NetworkRun IsSpelledSend pair answered_at_once
unfolding net_opens
answered_at_once_run =
    record {
      mode = refl;
      may = (
        record { some = omega arith; most = omega arith; down = refl; later = omega arith; fits = omega arith },
        (
          record { some = omega arith; most = omega arith; down = refl; later = omega arith; fits = omega arith },
          (
            tt,
            (
              inl (record { send = _; among = inl refl; is = refl; holds = record { fits = omega arith; read = refl } }),
              (inl (record { send = _; among = inr (inr (inl refl)); is = refl; holds = record { fits = omega arith; read = refl } }), tt),
            ),
          ),
        ),
      );
    }

pub client_served_run : NetworkRun IsSpelledSend pair client_served
unfolding net_opens
client_served_run =
    record {
      mode = refl;
      may = (
        record { some = omega arith; most = omega arith; down = refl; later = omega arith; fits = omega arith },
        (
          inr (inr (refl, tt)),
          (
            inr (inr (refl, tt)),
            (
              record { some = omega arith; most = omega arith; down = refl; later = omega arith; fits = omega arith },
              (inl (record { send = _; among = inr (inl refl); is = refl; holds = omega arith }), tt),
            ),
          ),
        ),
      );
    }

pub never_sent_run : NetworkRun IsSpelledSend pair never_sent → ⊥
unfolding net_opens
never_sent_run run =
    elim (run.may.1.1.0) [
      | inl sent ↦ (let s : WasSent IsSpelledSend _ _ = sent in absurd s.among)
      | inr other ↦ elim other [
        | inl none ↦ absurd (let e : Some _ ≡ None = none in cc)
        | inr client ↦ absurd (let e : false ≡ true = client.0 in cc)
      ]
    ]

pub heard_before_run : NetworkRun IsSpelledSend pair heard_before → ⊥
unfolding net_opens
heard_before_run run =
    elim (run.may.1.1.0) [
      | inl sent ↦ (let s : WasSent IsSpelledSend _ _ = sent in absurd s.among)
      | inr other ↦ elim other [
        | inl none ↦ absurd (let e : Some _ ≡ None = none in cc)
        | inr client ↦ absurd (let e : false ≡ true = client.0 in cc)
      ]
    ]

pub own_before_run : NetworkRun IsSpelledSend pair own_before → ⊥
unfolding net_opens
own_before_run run =
    elim (run.may.1.0) [
      | inl sent ↦ (let s : WasSent IsSpelledSend _ _ = sent in absurd s.among)
      | inr other ↦ elim other [
        | inl none ↦ absurd (let e : Some _ ≡ None = none in cc)
        | inr client ↦ absurd (let e : false ≡ true = client.0 in cc)
      ]
    ]

pub old_incarnation_run : NetworkRun IsSpelledSend pair old_incarnation → ⊥
unfolding net_opens
old_incarnation_run run = let may : MayBegin _ 1 1 = run.may.1.1.0 in absurd (omega (arith, may.later))

pub two_at_once_run : NetworkRun IsSpelledSend pair two_at_once → ⊥
unfolding net_opens
two_at_once_run run = let may : MayBegin _ 1 2 = run.may.1.0 in absurd (let e : Some _ ≡ None = may.down in cc)
