-- Every run is safe, whatever its clients answer, and so every run of a script.
use Rattle.std.proofs.Common.{◌≡◌, ℕ, List, [], Bool, true, false, None, refl, sym, ap, ◌∙◌, subst}
use Rattle.rsct_packet.specs.Lists.{reverse_onto}
use Rattle.node_state.specs.declared.config.Config.{Config}
use Rattle.node_state.specs.declared.happened.Happened.{Happened}
use Rattle.world_model.specs.declared.event.Event.{Event}
use Rattle.world_model.specs.World.{World, world_new, world_after, records_of}
use Rattle.world_model.specs.Play.{events_of, played_records, script_records}
use Rattle.world_model.specs.Kept.{Ended, runs_from, runs_within, ended, kept_records}
use Rattle.world_safety.specs.Events.{AllMayHappen}
use Rattle.world_laws.specs.world_answers.Answers.{Answered, events_in, answered_after, answered_records, all_worded}
use Rattle.world_laws.proofs.world_answers.Words.{all_events, worded_after}
use Rattle.world_safety.specs.Scripts.{history_in, IsSafe, IsSafeRun, IsSafeScript, EveryScriptIsSafe, EveryKeptRunIsSafe}
use Rattle.world_safety.specs.Lemmas.{SafeRunsHaveOneList, SafeRunsLeaveNoGap}
use Rattle.world_safety.proofs.Traces.{run_has_the_records}
use Rattle.world_safety.proofs.Runs.{every_run_is_safe, every_run_is_reached}
use Rattle.row_laws.specs.hearing.Hearing.{HeardInARow}
use Rattle.row_laws.proofs.hearing.Listening.{providers_hear}
use Rattle.row_laws.proofs.hearing.NoGap.{no_gap}
use Rattle.row_laws.specs.honest_votes.Casts.{VotesWereCast}
use Rattle.row_laws.proofs.honest_votes.Law.{recorded_votes}
use Rattle.entry_laws.specs.closing_rows.Rows.{RowsAreVoters}
use Rattle.entry_laws.proofs.closing_rows.Law.{rows_are_voters}
use Rattle.entry_laws.specs.late_rows.Late.{LateHadTime}
use Rattle.entry_laws.specs.late_rows.Announced.{LateWereAnnounced}
use Rattle.provider_laws.specs.attending.Places.{PlacesHeardOnce, PutNamed}
use Rattle.provider_laws.proofs.attending.Law.{places_once}
use Rattle.provider_laws.proofs.attending.States.{entries_named}
use Rattle.provider_laws.specs.single_casts.Single.{CastsOnce, CastsAfterNotice}
use Rattle.provider_laws.proofs.single_casts.Law.{cast_after_notice}
use Rattle.provider_laws.proofs.single_casts.Once.{cast_once}
use Rattle.entry_laws.specs.carried_values.Carried.{FirstBallotsCarry}
use Rattle.entry_laws.proofs.carried_values.Law.{first_ballots_carry}
use Rattle.row_laws.specs.failed_rows.Failures.{FailuresHaveCauses}
use Rattle.row_laws.proofs.failed_rows.Law.{failures_are_honest}
use Rattle.run_laws.specs.failed_causes.Causes.{FailuresHaveExactCauses}
use Rattle.run_laws.proofs.failed_causes.Causes.{failures_are_exact}
use Rattle.run_laws.specs.failed_causes.Entering.{BasesFollowEntering}
use Rattle.run_laws.proofs.failed_causes.Bases.{each_base_follows}
use Rattle.entry_laws.specs.source_order.Sources.{ReflectionsRise, ReflectionsClimb, JoinsCarryLengths, FirstsFollowSources, JoinsOverSources}
use Rattle.entry_laws.proofs.source_order.Law.{reflections_rise, reflections_climb, joins_carry_lengths, firsts_follow_sources, joins_over_sources}
use Rattle.entry_laws.proofs.late_rows.Law.{who_is_late_had_time, who_is_late_was_announced}
use Rattle.run_laws.specs.ring_runs.Rings.{AddressesFit, NetworkAgrees}
use Rattle.run_laws.proofs.ring_runs.Law.{rings_agree_in_runs}
use Rattle.run_laws.specs.seen_runs.Seen.{Seen}
use Rattle.run_laws.proofs.seen_runs.Law.{traces_seen}
use Rattle.run_laws.specs.seen_runs.Rings.{RingsSeen}
use Rattle.run_laws.proofs.seen_runs.Rings.{every_ring_seen}
use Rattle.run_laws.specs.seen_runs.Once.{RequestsBeginOnce}
use Rattle.run_laws.proofs.seen_runs.Once.{requests_once}
use Rattle.run_laws.proofs.gapless.Alike.{takers_hear_alike}
use Rattle.run_safety.proofs.SightLaws.{one_entry_seen}
use Rattle.step_refinement.specs.Tied.{opening_of}
use Rattle.world_safety.proofs.Floors.{lists_start_as_told, led_lists_start_as_held}
use Rattle.world_safety.proofs.Moments.{may_front, tails_at, sends_at}
use Rattle.world_safety.proofs.Askers.{first_askers_lead}
use Rattle.run_safety.specs.SafeLists.{Each}
use Rattle.run_safety.specs.SafeHeard.{InOrder, NotLetGo, AllHear, Dissolves}
use Rattle.provider_laws.proofs.attending.OrderLaw.{heard_in_order}
use Rattle.provider_laws.proofs.leaving.Law.{who_is_let_go}
use Rattle.run_laws.proofs.gapless.Quiet.{all_hear}
use Rattle.run_laws.proofs.gapless.Just.{just_the_left}
use Rattle.run_safety.specs.Past.{EachEvent, EachRecord, Within}
use Rattle.run_safety.specs.Past as past
use Rattle.world_safety.specs.Plays.{EveryAnswerIsSafe, EventsAreSafe, EveryPlayIsSafe, EveryKeptPlayIsSafe}
use Rattle.world_safety.proofs.Lined.{scripts_may_play}
use Rattle.world_safety.proofs.Playing.{all_front, events_may, events_come, Front, limited_front}

answers_safe : (c : Config) (es : List Answered) → AllMayHappen c (events_in es) → (trace : List Happened) → (answered_after c es).trace ≡ trace → IsSafe c es (reverse_onto trace [])
unfolding answered_records
answers_safe c es may trace e =
    let safe = every_run_is_safe c es may in
    let run = every_run_is_reached c es may in
    let heard : EachEvent (λ event before. Within (AllHear event) event.records before) (history_in c es) = subst (EachEvent (λ event before. Within (AllHear event) event.records before)) run.5 (all_hear c run.0 run.6) in
    record {
      records = run_has_the_records c es ∙ ap (λ z. reverse_onto z []) e;
      safe = safe.0;
      hears = subst HeardInARow run.5 (providers_hear c run.0 run.1);
      heard_once = subst PlacesHeardOnce run.5 (places_once c run.0 run.1);
      in_order = subst (Each InOrder) run.5 (heard_in_order c run.0 run.1);
      not_let_go = subst (EachRecord NotLetGo) run.5 (who_is_let_go c run.0 run.6);
      all_hear = heard;
      alike = takers_hear_alike (opening_of c) (history_in c es) safe.0 heard;
      dissolves = subst (EachEvent Dissolves) run.5 (just_the_left c run.0 run.6);
      bases_follow = subst BasesFollowEntering run.5 (each_base_follows c run.0 run.1);
      named = subst (EachRecord PutNamed) run.5 (entries_named c run.0 run.1);
      cast = subst VotesWereCast run.5 (recorded_votes c run.0 run.1);
      cast_once = subst CastsOnce run.5 (cast_once c run.0 run.1);
      noticed = subst CastsAfterNotice run.5 (cast_after_notice c run.0 run.1);
      rows = subst RowsAreVoters run.5 (rows_are_voters c run.0 run.1);
      late = subst LateHadTime run.5 (who_is_late_had_time c run.0 run.1 run.2);
      announced = subst (LateWereAnnounced c) run.5 (subst (λ z. LateWereAnnounced z run.0.before) run.4.scene_config (who_is_late_was_announced c run.0 run.1 run.2));
      carried = subst FirstBallotsCarry run.5 (first_ballots_carry c run.0 run.1);
      asked_first = first_askers_lead c es may;
      once = subst RequestsBeginOnce run.5 (requests_once c run.0 run.1);
      failed = subst FailuresHaveCauses run.5 (failures_are_honest c run.0 run.3);
      causes = subst FailuresHaveExactCauses run.5 (failures_are_exact c run.0 run.3);
      rises = subst ReflectionsRise run.5 (reflections_rise c run.0 run.1);
      climbs = subst ReflectionsClimb run.5 (reflections_climb c run.0 run.1);
      lengths = subst JoinsCarryLengths run.5 (joins_carry_lengths c run.0 run.1);
      sources = subst FirstsFollowSources run.5 (firsts_follow_sources c run.0 run.1 run.7);
      over = subst JoinsOverSources run.5 (joins_over_sources c run.0 run.1);
      rings = λ net fit. subst (NetworkAgrees c net) run.5 (rings_agree_in_runs c run.0 run.1 net fit);
      seen = subst (λ h. Seen (past.records_of h)) run.5 (traces_seen c run.0 run.1);
      rings_seen = λ net fit. subst (λ h. RingsSeen net (past.records_of h)) run.5 (every_ring_seen c run.0 run.1 net fit);
      tails = tails_at c es may;
      forgets = λ front rest e. lists_start_as_told c front (may_front c es may front rest e);
      forgets_least = λ front rest e. led_lists_start_as_held c front (may_front c es may front rest e);
      sends = sends_at c es may;
    }

pub every_answer_is_safe : EveryAnswerIsSafe
unfolding answered_records
every_answer_is_safe c es may = answers_safe c es may _ refl

-- ---- where the clients vote by the words of a script

safe_run : (c : Config) (es : List Event) → AllMayHappen c es → (trace : List Happened) → (world_after c es).trace ≡ trace → IsSafeRun c es (reverse_onto trace [])
safe_run c es may trace e =
    answers_safe c (all_worded c es) (subst (AllMayHappen c) (sym (all_events c es)) may) trace (ap (λ (z : World). z.trace) (worded_after c es) ∙ e)

pub events_are_safe : EventsAreSafe
unfolding records_of
events_are_safe c es may = safe_run c es may _ refl

-- where the addresses of each network differ
with_rings : (c : Config) (es : List Event) (rs : List Happened) → ((net : ℕ) → AddressesFit c net) → IsSafeRun c es rs → IsSafeScript c es rs
with_rings c es rs fit safe = record { run = safe; rings = λ net. safe.rings net (fit net); rings_seen = λ net. safe.rings_seen net (fit net) }

-- ---- what follows

pub safe_runs_have_one_list : SafeRunsHaveOneList
safe_runs_have_one_list c es rs safe = one_entry_seen (opening_of c) (history_in c es) safe.safe

pub safe_runs_leave_no_gap : SafeRunsLeaveNoGap
safe_runs_leave_no_gap c es rs safe = no_gap (history_in c es) safe.hears

-- an input without `begin` has no run
if_begun : {A : Type 0} → A → A → Bool → A
if_begun x y true = x
if_begun x y false = y

pub every_play_is_safe : EveryPlayIsSafe
unfolding script_records played_records if_begun
every_play_is_safe s may begun =
    subst (λ b. IsSafeScript s.config (events_of s.config s.lines) (if_begun (played_records s.config s.lines) [] b)) (sym begun) (with_rings s.config (events_of s.config s.lines) (played_records s.config s.lines) may.addresses (safe_run s.config (events_of s.config s.lines) (events_may s.config s.lines may.lines) _ (sym (events_come s.config s.lines may.lines))))

pub every_kept_play_is_safe : EveryKeptPlayIsSafe
unfolding kept_records ended runs_within world_after if_begun runs_from
every_kept_play_is_safe limit s may begun =
    let es : List Event = events_of s.config s.lines in
    let f : Front (world_new s.config) es (runs_from limit 0 (world_new s.config) es).world = limited_front limit 0 (world_new s.config) es in
    let front : AllMayHappen s.config f.front = all_front s.config f.front f.rest (subst (AllMayHappen s.config) f.whole (events_may s.config s.lines may.lines)) in
    let here : IsSafeRun s.config f.front (reverse_onto (runs_from limit 0 (world_new s.config) es).world.trace []) = safe_run s.config f.front front (runs_from limit 0 (world_new s.config) es).world.trace (ap (λ (z : World). z.trace) (sym f.comes)) in
    let z : Ended = runs_from limit 0 (world_new s.config) es in
    let none : Ended = record { world = world_new s.config; passed = None } in
    (f.front, f.rest, f.whole, subst (λ b. IsSafeScript s.config f.front (if_begun (reverse_onto (if_begun z none b).world.trace []) [] b)) (sym begun) (with_rings s.config f.front (reverse_onto (runs_from limit 0 (world_new s.config) es).world.trace []) may.addresses here))

-- a script that is read may play
pub every_script_is_safe : EveryScriptIsSafe
every_script_is_safe bytes s e = every_play_is_safe s (scripts_may_play bytes s e)

pub every_kept_run_is_safe : EveryKeptRunIsSafe
every_kept_run_is_safe limit bytes s e = every_kept_play_is_safe limit s (scripts_may_play bytes s e)
