-- Runs of events, and of scripts.
use Rattle.std.proofs.Common.{◌≡◌, ℕ, Bool, true, false, List, [], ◌∷◌, refl, sym, ◌∙◌, ap, subst}
use Rattle.std.specs.Prelude.{reverse}
use Rattle.node_state.specs.declared.config.Config.{Config}
use Rattle.world_model.specs.declared.event.Event.{Event}
use Rattle.world_model.specs.Play.{events_of, played_records, script_records}
use Rattle.world_model.specs.Run.{trace_of}
use Rattle.run_safety.specs.Past.{records_of}
use Rattle.run_laws.specs.ring_runs.Rings.{AddressesFit}
use Rattle.value_words.specs.Words.{split_on}
use Rattle.run_audit.specs.Audit.{judged, judged_text}
use Rattle.run_audit.specs.Table.{verdict_of}
use Rattle.world_laws.specs.world_answers.Answers.{Answered, events_in, answered_records, all_worded}
use Rattle.world_laws.proofs.world_answers.Words.{all_events}
use Rattle.world_safety.specs.Events.{AllMayHappen, run_of_events}
use Rattle.world_safety.specs.Scripts.{IsSafeScript}
use Rattle.world_safety.proofs.Lined.{scripts_may_play}
use Rattle.world_safety.proofs.Playing.{events_may}
use Rattle.world_safety.proofs.Runs.{every_run_is_reached}
use Rattle.world_safety.proofs.Scripts.{every_script_is_safe}
use Rattle.world_safety.proofs.SteadyRuns.{history_records}
use Rattle.world_safety.proofs.Traces.{run_has_the_records}
use Rattle.audit_laws.specs.Law.{IsSeenText, EveryTextIsSeen, EveryScriptTextIsSeen}
use Rattle.audit_laws.specs.Records.{OfRun}
use Rattle.audit_laws.proofs.Runs.{runs_are_audited}
use Rattle.audit_laws.proofs.Texts.{texts_are_seen}

-- the records of a run of events, the latest first
events_audited : (c : Config) (es : List Answered) → AllMayHappen c (events_in es) → ((net : ℕ) → AddressesFit c net) → OfRun (reverse (trace_of (run_of_events c es)))
events_audited c es may fit =
    let run = every_run_is_reached c es may in
    subst OfRun (ap records_of run.5 ∙ history_records (run_of_events c es)) (runs_are_audited c run.0 run.1 fit)

pub every_text_is_seen : EveryTextIsSeen
every_text_is_seen c es may fit = texts_are_seen (answered_records c es) (subst (λ rs. OfRun (reverse rs)) (run_has_the_records c es) (events_audited c es may fit))

-- a script without `begin` has no records
nothing_seen : IsSeenText []
unfolding judged_text judged split_on verdict_of
nothing_seen [] k = refl
nothing_seen (l ∷ ls) k = absurd k

pub every_script_text_is_seen : EveryScriptTextIsSeen
unfolding script_records
every_script_text_is_seen bytes s e = by s.begun refl
  where
    by : (b : Bool) → s.begun ≡ b → IsSeenText (elim b [ true ↦ played_records s.config s.lines | false ↦ [] ])
    by false f = nothing_seen
    by true f =
        let may = scripts_may_play bytes s e in
        let es : List Event = events_of s.config s.lines in
        let safe : IsSafeScript s.config es (script_records s) = every_script_is_safe bytes s e f in
        let come : AllMayHappen s.config (events_in (all_worded s.config es)) = subst (AllMayHappen s.config) (sym (all_events s.config es)) (events_may s.config s.lines may.lines) in
        let records : trace_of (run_of_events s.config (all_worded s.config es)) ≡ played_records s.config s.lines = safe.run.records ∙ ap (λ b. elim b [ true ↦ played_records s.config s.lines | false ↦ [] ]) f in
        texts_are_seen (played_records s.config s.lines) (subst (λ rs. OfRun (reverse rs)) records (events_audited s.config (all_worded s.config es) come may.addresses))
