-- What ends by a fault.
use Rattle.std.proofs.Common.{◌≡◌, sym, subst, IsErr, IsErrAnd}
use Rattle.std.specs.Prelude.{Result, Ok, Err}
use Rattle.hags_cli.specs.declared.ending.Ending.{Ending}

-- what `?` hands on is what the fault becomes
pub ended_by : {A : Type 0} (r : Result A Ending) (e : Ending) (P : Result A Ending → Type 0) → IsErr r × IsErrAnd r (λ f. f ≡ e) → P (Err e) → P r
ended_by (Ok a) e P h p = absurd h.1
ended_by (Err f) e P h p = subst (λ (z : Ending). P (Err z)) (sym h.1) p
