-- From what each part of a run says to what the run says.
use Rattle.std.proofs.Common.{◌≡◌, ℕ, ◌≤◌, List, length, Option, Some, None, IfSome, IsErr, IsErrAnd, refl, sym, ◌∙◌, subst, inl, inr}
use Rattle.std.specs.Prelude.{Result, Err}
use Rattle.std.specs.Io.KnownBytes.{Appends, IsAtEnd}
use Rattle.std.proofs.KnownBytes.{Keeps-refl}
use Rattle.hags_io.specs.Edges.{GrowsByFront, Rose}
use Rattle.node_state.specs.declared.happened.Happened.{Happened}
use Rattle.world_model.specs.declared.script.Aim.TheVariants.{Plays}
use Rattle.world_model.specs.declared.script.LineWhy.{LineWhy}
use Rattle.world_model.specs.declared.script.Script.{Script}
use Rattle.world_model.specs.Reading.{IsScript, IsNone, input_limit, script_of}
use Rattle.world_model.specs.Play.{script_records}
use Rattle.world_model.specs.Kept.{kept_past, kept_records, most_kept}
use Rattle.transcript.specs.declared.kinds.Kinds.{Kinds}
use Rattle.transcript.specs.Kinds.{kinds_text}
use Rattle.net_script.specs.PlaySafe.{ScriptIsSafe, KeptRunIsSafe, MayPlay}
use Rattle.net_script.proofs.PlaySafeLaws.{scripts_may_play}
use Rattle.play_state.specs.declared.play_fault.PlayFault.{PlayFault}
use Rattle.play_state.specs.declared.play_fault.PlayFault.TheVariants as play_fault
use Rattle.script_reader.specs.Reading.{FailsScript}
use Rattle.script_reader.specs.declared.faults.ScriptFault.{ScriptFault}
use Rattle.script_reader.specs.declared.faults.ScriptFault.TheVariants as script_fault
use Rattle.hags_cli.specs.declared.ending.Ending.{Ending}
use Rattle.hags_cli.specs.declared.input.InputFault.{InputFault}
use Rattle.hags_cli.specs.declared.input.InputFault.TheVariants as input_fault
use Rattle.hags_cli.specs.Endings.{ending_of_input, ending_of_script, ending_of_play}
use Rattle.hags_cli.specs.Run.{ReadsAs, InputFails, PlaysAll, PlaysPast, PlaysFront, MayHavePlayed, RunEnds}
use Rattle.hags_cli.proofs.EndLaws.{ended_by}
use Rattle.hags_cli.proofs.LongInputs.{reads_for, script_within}

pub reads_script : (front b : List ℕ) → ReadsAs front b → script_of b ≡ script_of front
unfolding script_of
reads_script front b h = reads_for front b h Plays

plays_all : (left old new : Option (List ℕ)) (front : List ℕ) (s : Script) (k : Kinds) → IfSome left (ReadsAs front) → script_of front ≡ IsScript s → kept_past most_kept s ≡ None → Appends old new (kinds_text k (script_records s))
    → (MayPlay s → ScriptIsSafe s) → IfSome left (PlaysAll (kinds_text k) old new)
plays_all None old new front s k h e within w safe = tt
plays_all (Some b) old new front s k h e within w safe = record { script = s; spelled = reads_script front b h ∙ e; within = within; written = w; safe = safe (scripts_may_play b s (reads_script front b h ∙ e)) }

plays_past : (left old new : Option (List ℕ)) (front : List ℕ) (s : Script) (k : Kinds) (n : ℕ) → IfSome left (ReadsAs front) → script_of front ≡ IsScript s → kept_past most_kept s ≡ Some n → Appends old new (kinds_text k (kept_records most_kept s))
    → (MayPlay s → KeptRunIsSafe most_kept s) → IfSome left (PlaysPast (kinds_text k) old new)
plays_past None old new front s k n h e past w safe = tt
plays_past (Some b) old new front s k n h e past w safe = record { script = s; spelled = reads_script front b h ∙ e; sum = n; past = past; written = w; safe = safe (scripts_may_play b s (reads_script front b h ∙ e)) }

plays_front : (left old new : Option (List ℕ)) (front : List ℕ) (s : Script) (k : Kinds) → IfSome left (ReadsAs front) → script_of front ≡ IsScript s → GrowsByFront old new (kinds_text k (kept_records most_kept s)) → (MayPlay s → KeptRunIsSafe most_kept s)
    → IfSome left (PlaysFront (kinds_text k) old new)
plays_front None old new front s k h e w safe = tt
plays_front (Some b) old new front s k h e w safe = record { script = s; spelled = reads_script front b h ∙ e; written = w; safe = safe (scripts_may_play b s (reads_script front b h ∙ e)) }

may_have_played : (left old new : Option (List ℕ)) (k : Kinds) → IfSome left (PlaysFront (kinds_text k) old new) → IfSome left (MayHavePlayed (kinds_text k) old new)
may_have_played None old new k p = tt
may_have_played (Some b) old new k p = inr p

nothing_played : (shown : List Happened → List ℕ) (left old : Option (List ℕ)) → IfSome left (MayHavePlayed shown old old)
nothing_played shown None old = tt
nothing_played shown (Some b) old = inl (Keeps-refl old)

pub has_bad_line : (left : Option (List ℕ)) (front : List ℕ) (n : ℕ) (why : LineWhy) → IfSome left (ReadsAs front) → script_of front ≡ IsNone n why → IfSome left (λ b. script_of b ≡ IsNone n why)
has_bad_line None front n why h e = tt
has_bad_line (Some b) front n why h e = reads_script front b h ∙ e

-- a script is within the limit, so all was read
pub at_end : (new : Option (List ℕ)) (front : List ℕ) (s : Script) → (length front ≤ input_limit → IsAtEnd new) → script_of front ≡ IsScript s → IsAtEnd new
at_end new front s h e = h (script_within front s e)

-- ---- how a run ends

pub input_ends : (shown : List Happened → List ℕ) (left rest held : Option (List ℕ)) (reads reads_now : ℕ) (wrote still : Type 0) (same : still) (f : InputFault) (e : Ending) → e ≡ ending_of_input f → InputFails reads reads_now f
    → RunEnds (Err e) shown left rest (Rose reads reads_now) wrote still held held
input_ends shown left rest held reads reads_now wrote still same f e is h = subst (λ (z : Ending). RunEnds (Err z) shown left rest (Rose reads reads_now) wrote still held held) (sym is) (by f h)
  where
    by : (f : InputFault) → InputFails reads reads_now f → RunEnds (Err (ending_of_input f)) shown left rest (Rose reads reads_now) wrote still held held
    by input_fault.ReadFault h = (h, same)
    by input_fault.NoMemory h = nothing_played shown left held

pub script_ends : (shown : List Happened → List ℕ) (left rest held : Option (List ℕ)) (read wrote still : Type 0) (same : still) (front : List ℕ) (f : ScriptFault) (e : Ending) → e ≡ ending_of_script f → IfSome left (ReadsAs front) → FailsScript f (script_of front)
    → RunEnds (Err e) shown left rest read wrote still held held
script_ends shown left rest held read wrote still same front f e is whole h = subst (λ (z : Ending). RunEnds (Err z) shown left rest read wrote still held held) (sym is) (by f h)
  where
    by : (f : ScriptFault) → FailsScript f (script_of front) → RunEnds (Err (ending_of_script f)) shown left rest read wrote still held held
    by (script_fault.Line number why) h = (has_bad_line left front number why whole h, same)
    by script_fault.NoMemory h = nothing_played shown left held

-- the play ended by whatever fault
pub play_ends : (k : Kinds) (left rest old new : Option (List ℕ)) (read wrote still : Type 0) (front : List ℕ) (s : Script) (r : Result (Unit {0}) Ending) (f : PlayFault) → IsErr r × IsErrAnd r (λ e. e ≡ ending_of_play f) → IfSome left (ReadsAs front) → script_of front ≡ IsScript s
    → ((n : ℕ) → f ≡ play_fault.Kept n → (kept_past most_kept s ≡ Some n) × Appends old new (kinds_text k (kept_records most_kept s))) → GrowsByFront old new (kinds_text k (kept_records most_kept s)) → (MayPlay s → KeptRunIsSafe most_kept s) → (f ≡ play_fault.WriteFault → wrote)
    → RunEnds r (kinds_text k) left rest read wrote still old new
play_ends k left rest old new read wrote still front s r f is whole spelled past grows safe rose = ended_by r (ending_of_play f) (λ q. RunEnds q (kinds_text k) left rest read wrote still old new) is (by f past rose)
  where
    part : IfSome left (PlaysFront (kinds_text k) old new)
    part = plays_front left old new front s k whole spelled grows safe

    by : (f : PlayFault) → ((n : ℕ) → f ≡ play_fault.Kept n → (kept_past most_kept s ≡ Some n) × Appends old new (kinds_text k (kept_records most_kept s))) → (f ≡ play_fault.WriteFault → wrote) → RunEnds (Err (ending_of_play f)) (kinds_text k) left rest read wrote still old new
    by (play_fault.Kept n) past rose = plays_past left old new front s k n whole spelled (past n refl).0 (past n refl).1 safe
    by play_fault.WriteFault past rose = (rose refl, part)
    by play_fault.NoMemory past rose = may_have_played left old new k part

pub play_done : (k : Kinds) (left rest old new : Option (List ℕ)) (front : List ℕ) (s : Script) → IfSome left (ReadsAs front) → (length front ≤ input_limit → IsAtEnd rest) → script_of front ≡ IsScript s
    → (kept_past most_kept s ≡ None) × Appends old new (kinds_text k (script_records s)) → (MayPlay s → ScriptIsSafe s) → IfSome left (PlaysAll (kinds_text k) old new) × IsAtEnd rest
play_done k left rest old new front s whole end spelled h safe = (plays_all left old new front s k whole spelled h.0 h.1 safe, at_end rest front s end spelled)
