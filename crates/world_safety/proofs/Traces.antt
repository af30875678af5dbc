-- The run of events has the records of the world.
use Rattle.std.proofs.Common.{◌≡◌, ◌-◌, List, [], ◌∷◌, ◌++◌, length, take, refl, sym, ap, ◌∙◌, append-nil}
use Rattle.std.specs.Prelude.{fold}
use Rattle.std.proofs.lemmas.Grind.{flat_map-append}
use Rattle.rsct_packet.specs.Lists.{reverse_onto}
use Rattle.node_state.specs.declared.config.Config.{Config}
use Rattle.node_state.specs.declared.config.Mode.{Mode}
use Rattle.node_state.specs.declared.config.Mode.TheVariants.{Fixed, Asked, Rings}
use Rattle.node_state.specs.declared.happened.Happened.{Happened}
use Rattle.world_model.specs.Run.{Happening, trace_of}
use Rattle.world_model.specs.World.{World, world_of, world_new}
use Rattle.world_laws.specs.world_runs.Runs.{Recorded}
use Rattle.world_laws.proofs.world_runs.Backwards.{added_since}
use Rattle.world_laws.specs.world_answers.Answers.{Answered, goes_on, answered_after, answered_records}
use Rattle.world_safety.specs.Events.{records_since, events_from, beginning}
use Rattle.world_safety.specs.Safety.{RunHasTheRecords}
use Rattle.world_safety.proofs.Turned.{onto_more}
use Rattle.world_laws.proofs.world_answers.Grown.{grows_by}

-- the records that were added since
pub since_is : (w v : World) (rs : List Happened) → Recorded w v rs → records_since w v ≡ rs
since_is w v rs e = ap (λ zs. reverse_onto (take (length zs - length w.trace) zs) []) e ∙ added_since rs w.trace

from_there : (es : List Answered) (w : World) → reverse_onto w.trace (trace_of (events_from w es)) ≡ reverse_onto (fold goes_on w es).trace []
from_there [] w = refl
from_there (e ∷ es) w =
    let v : World = goes_on w e in
    let grown = grows_by e.answers w e.event in
    let rest : List Happened = trace_of (events_from v es) in
    ap (λ rs. reverse_onto w.trace (rs ++ rest)) (since_is w v grown.0 grown.1) ∙ sym (ap (λ zs. reverse_onto zs rest) grown.1 ∙ turned_back grown.0 w.trace rest) ∙ from_there es v
  where
    turned_back : {A : Type 0} (rs zs ys : List A) → reverse_onto (reverse_onto rs zs) ys ≡ reverse_onto zs (rs ++ ys)
    turned_back [] zs ys = refl
    turned_back (r ∷ rs) zs ys = turned_back rs (r ∷ zs) ys

begins_with : (c : Config) (mode : Mode) → trace_of (beginning (world_of c mode) mode) ≡ reverse_onto (world_of c mode).trace []
unfolding world_of
begins_with c Fixed = append-nil (reverse_onto (world_of c Fixed).trace [])
begins_with c Asked = refl
begins_with c Rings = refl

pub run_has_the_records : RunHasTheRecords
unfolding world_new answered_after answered_records
run_has_the_records c es =
    let w : World = world_of c c.mode in
    flat_map-append (λ (h : Happening). h.records) (beginning w c.mode) (events_from w es) ∙ ap (λ zs. zs ++ trace_of (events_from w es)) (begins_with c c.mode) ∙ onto_more w.trace [] (trace_of (events_from w es)) ∙ from_there es w
