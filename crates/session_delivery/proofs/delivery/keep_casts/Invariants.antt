use Rattle.std.proofs.Common.{◌≡◌, ◌++◌, take}
use Rattle.std.specs.List.{flat_map}
use Rattle.session_state.specs.HandOn.{kept_by}
use Rattle.session_delivery.proofs.delivery.keep_casts.Given as goal

abbrev pub invariant-loop-c : goal.invariant-loop-c
invariant-loop-c l = l.kept ≡ l.initial.kept ++ flat_map (λ c. kept_by l.group c.provider c.cast) (take l.c-index l.casts)
