-- In a step that enters no view nobody is left behind.
use Rattle.std.proofs.Common.{◌≡◌, ℕ, List, true}
use Rattle.std.specs.List.{list_any}
use Rattle.rsct_packet.specs.Search.{Has}
use Rattle.node_state.specs.declared.happened.Happened.{Happened}
use Rattle.node_state.specs.declared.happened.Happened.TheVariants as happened
use Rattle.run_safety.specs.SafeHeard.{enters}
use Rattle.run_safety.proofs.Tests.{any_has}
use Rattle.run_laws.proofs.gapless.Fair.{Mild}

-- no view is entered
mild_none : (n : ℕ) (r : Happened) → Mild r → enters n r ≡ true → ⊥
mild_none n (happened.In m v ms) a q = a
mild_none n _ a q = cc

pub none_entered : (n : ℕ) (rs : List Happened) → ((r : Happened) → Has r rs → Mild r) → list_any (enters n) rs ≡ true → ⊥
none_entered n rs mild k = let z = any_has (enters n) rs k in mild_none n z.0 (mild z.0 z.1) z.2
