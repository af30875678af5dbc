-- From what a load says to how the command ends.
use Rattle.std.proofs.Common.{◌≡◌, ℕ, List, Option, Some, None, IsErr, IsErrAnd, refl}
use Rattle.std.specs.Prelude.{Result, Err}
use Rattle.std.specs.Io.KnownBytes.{Appends, Keeps}
use Rattle.hags_io.specs.Edges.{GrowsByFront, Rose}
use Rattle.world_model.specs.Kept.{kept_past, most_kept}
use Rattle.world_model.specs.Load.{load_text}
use Rattle.load_script.specs.Script.{load_script}
use Rattle.net_script.specs.PlaySafe.{ScriptIsSafe, KeptRunIsSafe}
use Rattle.play_state.specs.declared.play_fault.PlayFault.{PlayFault}
use Rattle.play_state.specs.declared.play_fault.PlayFault.TheVariants as play_fault
use Rattle.hags_cli.specs.declared.ending.Ending.{Ending}
use Rattle.hags_cli.specs.Endings.{ending_of_play}
use Rattle.hags_cli.proofs.EndLaws.{ended_by}
use Rattle.hags_cli.specs.Tasks.{LoadsAll, LoadsPast, LoadsFront, LoadEnds}

pub load_done : (n : ℕ) (a b : Option (List ℕ)) → kept_past most_kept (load_script n) ≡ None → Appends a b (load_text n) → ScriptIsSafe (load_script n) → LoadsAll n a b
load_done n a b within w safe = record { within = within; written = w; safe = safe }

load_past : (n k : ℕ) (a b : Option (List ℕ)) → kept_past most_kept (load_script n) ≡ Some k → Keeps a b → KeptRunIsSafe most_kept (load_script n) → LoadsPast n a b
load_past n k a b past kept safe = record { sum = k; past = past; kept = kept; safe = safe }

load_front : (n : ℕ) (a b : Option (List ℕ)) → GrowsByFront a b (load_text n) → KeptRunIsSafe most_kept (load_script n) → LoadsFront n a b
load_front n a b w safe = record { written = w; safe = safe }

-- by whatever fault it ended
pub load_ends : (n faults later : ℕ) (a b : Option (List ℕ)) (r : Result (Unit {0}) Ending) (f : PlayFault) → IsErr r × IsErrAnd r (λ e. e ≡ ending_of_play f) → ((k : ℕ) → f ≡ play_fault.Kept k → (kept_past most_kept (load_script n) ≡ Some k) × Keeps a b) → GrowsByFront a b (load_text n)
    → KeptRunIsSafe most_kept (load_script n) → (f ≡ play_fault.WriteFault → Rose faults later) → LoadEnds r n faults later a b
load_ends n faults later a b r f is past front safe rose = ended_by r (ending_of_play f) (λ q. LoadEnds q n faults later a b) is (by f past rose)
  where
    by : (f : PlayFault) → ((k : ℕ) → f ≡ play_fault.Kept k → (kept_past most_kept (load_script n) ≡ Some k) × Keeps a b) → (f ≡ play_fault.WriteFault → Rose faults later) → LoadEnds (Err (ending_of_play f)) n faults later a b
    by (play_fault.Kept k) past rose = load_past n k a b (past k refl).0 (past k refl).1 safe
    by play_fault.WriteFault past rose = (rose refl, load_front n a b front safe)
    by play_fault.NoMemory past rose = load_front n a b front safe
