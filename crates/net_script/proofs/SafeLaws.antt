-- From what an event makes of a world to the safe run with it.
use Rattle.std.proofs.Common.{◌≡◌, List, [], ◌∷◌, ◌++◌, Option, refl, sym, ap, ◌∙◌, subst, ℕ}
use Rattle.std.proofs.lemmas.List.Sums.{fold-append}
use Rattle.rsct_packet.specs.Lists.{reverse_onto}
use Rattle.node_state.specs.declared.config.Config.{Config}
use Rattle.node_state.specs.declared.happened.Happened.{Happened}
use Rattle.world_model.specs.declared.event.Event.{Event}
use Rattle.world_model.specs.World.{empty_world, happens, world_new, world_after, records_of}
use Rattle.world_model.specs.World as world
use Rattle.world_laws.specs.world_runs.Runs.{SameRun}
use Rattle.world_laws.proofs.world_runs.Backwards.{reversed_back}
use Rattle.world_laws.proofs.world_runs.Queue.{same_happens}
use Rattle.world_laws.specs.world_answers.Answers.{Answered, events_in, happens_by, goes_on, answered_after, answered_records}
use Rattle.world_safety.specs.Events.{MayHappen, AllMayHappen}
use Rattle.world_safety.specs.Scripts.{IsSafe, IsSafeRun}
use Rattle.world_laws.proofs.world_answers.Waits.{same_goes}
use Rattle.world_safety.proofs.HeardStates.{answered_last}
use Rattle.world_safety.proofs.Turned.{onto_more}
use Rattle.world_safety.proofs.Scripts.{events_are_safe}
pub use Rattle.world_safety.proofs.Scripts.{every_answer_is_safe, every_play_is_safe, every_kept_play_is_safe}
pub use Rattle.world_safety.proofs.Lined.{scripts_may_play, plain_addresses_fit}
use Rattle.net_script.specs.declared.world.World.{World}
use Rattle.world_laws.specs.world_answers.Answers.{Items}
use Rattle.net_script.specs.Standing.{Goes, Comes, kept_empty}
use Rattle.net_script.specs.Safe.{SafeOn, AnswersSafely, GoesSafely}
use Rattle.net_script.proofs.WorldLaws.{as_worded}

one_more : (c : Config) (es : List Event) (e : Event) → AllMayHappen c es → MayHappen c e → AllMayHappen c (es ++ e ∷ [])
one_more c [] e may this = (this, tt)
one_more c (x ∷ xs) e may this = (may.0, one_more c xs e may.1 this)

one_answered : (c : Config) (es : List Answered) (e : Answered) → AllMayHappen c (events_in es) → MayHappen c e.event → AllMayHappen c (events_in (es ++ e ∷ []))
one_answered c [] e may this = (this, tt)
one_answered c (x ∷ xs) e may this = (may.0, one_answered c xs e may.1 this)

after_last : (c : Config) (es : List Event) (e : Event) → world_after c (es ++ e ∷ []) ≡ happens (world_after c es) e
unfolding world_after
after_last c es e = fold-append happens (world_new c) es (e ∷ [])

-- the records after more were added
grown : (rs old new : List Happened) → new ≡ reverse_onto rs old → reverse_onto new [] ≡ reverse_onto old [] ++ rs
grown rs old new e = ap (λ z. reverse_onto z []) e ∙ (reversed_back rs old ∙ sym (onto_more old [] rs))

same_trace : (w v : world.World) → SameRun w v → v.trace ≡ w.trace
same_trace w v e = ap (λ (z : world.World). z.trace) e

-- the records of worlds that are the same but for what waits
grown_between : (rs : List Happened) (x y w v : world.World) → SameRun x w → SameRun y v → v.trace ≡ reverse_onto rs w.trace → reverse_onto y.trace [] ≡ reverse_onto x.trace [] ++ rs
grown_between rs x y w v before after trace = grown rs x.trace y.trace (sym (same_trace y v after) ∙ (trace ∙ ap (reverse_onto rs) (same_trace x w before)))

records_on : (c : Config) (es fs : List Event) (rs : List Happened) (w v : world.World) → SameRun (world_after c es) w → SameRun (world_after c fs) v → v.trace ≡ reverse_onto rs w.trace → records_of c fs ≡ records_of c es ++ rs
unfolding records_of
records_on c es fs rs w v before after trace = grown_between rs (world_after c es) (world_after c fs) w v before after trace

answered_on : (c : Config) (es fs : List Answered) (rs : List Happened) (w v : world.World) → SameRun (answered_after c es) w → SameRun (answered_after c fs) v → v.trace ≡ reverse_onto rs w.trace
    → answered_records c fs ≡ answered_records c es ++ rs
unfolding answered_records
answered_on c es fs rs w v before after trace = grown_between rs (answered_after c es) (answered_after c fs) w v before after trace

module _ {C : Type 0} {script : C → Option Items} {said : Items → Option Items} where
  pub answers_safely : (k d : World C) (before after : List Happened) (e : Event) → Comes script said k (Goes script said k d before after) (λ f w. happens_by f w e) (λ w. happens w e) → AnswersSafely script said k d before after e
  answers_safely k d before after e goes c es may this s =
      let w : world.World = s.world in
      let a : Answered = record { event = e; answers = goes.answers } in
      let g : Goes script said k d before after w (goes_on w a) = goes.comes w s.stands in
      let same : SameRun (answered_after c (es ++ a ∷ [])) (goes_on w a) = subst (λ z. SameRun z (goes_on w a)) (sym (answered_last c es a)) (same_goes (answered_after c es) w a s.same) in (
        goes.answers,
        record {
          stands = record { world = goes_on w a; stands = g.stands; same = same };
          records = g.records;
          out = g.out;
          safe = subst (IsSafe c (es ++ a ∷ [])) (answered_on c es (es ++ a ∷ []) g.records w (goes_on w a) s.same same g.trace) (every_answer_is_safe c (es ++ a ∷ []) (one_answered c es a may this));
        },
      )

  pub goes_safely : (k d : World C) (before after : List Happened) (e : Event) → Comes script said k (Goes script said k d before after) (λ f w. happens_by f w e) (λ w. happens w e) → GoesSafely script said k d before after e
  goes_safely k d before after e goes all c es may this s =
      let w : world.World = s.world in
      let g : Goes script said k d before after w (happens w e) = as_worded goes all w s.stands in
      let same : SameRun (world_after c (es ++ e ∷ [])) (happens w e) = subst (λ z. SameRun z (happens w e)) (sym (after_last c es e)) (same_happens (world_after c es) w e s.same) in
      record {
        stands = record { world = happens w e; stands = g.stands; same = same };
        records = g.records;
        out = g.out;
        safe = subst (IsSafeRun c (es ++ e ∷ [])) (records_on c es (es ++ e ∷ []) g.records w (happens w e) s.same same g.trace) (events_are_safe c (es ++ e ∷ []) (one_more c es e may this));
      }

  -- as it begins, with the starts that come before all events
  pub begins_safely : (c : Config) (limit : ℕ) (d : World C) (before after : List Happened) → Goes script said (kept_empty c limit) d before after (empty_world c) (world_new c) → SafeOn script said d (world_new c) (IsSafeRun c []) [] before after
  unfolding world_after records_of
  begins_safely c limit d before after g = record {
    stands = record { world = world_new c; stands = g.stands; same = refl };
    records = g.records;
    out = g.out;
    safe = subst (IsSafeRun c []) (grown g.records [] (world_new c).trace g.trace) (events_are_safe c [] tt);
  }
