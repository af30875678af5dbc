-- What fits and what has a spelling, computed on short histories.
use Rattle.std.proofs.Common.{◌≡◌, ◌<◌, true, [], refl, inl, arith}
use Rattle.rsct_packet.specs.Text.{is_name_of}
use Rattle.asking_laws.specs.Requests.{AllFit, RequestsAreSpelled}
use Rattle.asking_laws.specs.Samples.{joined, told}

pub small_fits : AllFit (joined 7)
small_fits =
    (record { called = (omega arith, record { limit = omega arith; source_limit = omega arith; source = tt }); started = λ r i. absurd i }, tt)

too_large : 65536 < 65536 → ⊥
too_large h = omega arith

pub large_is_none : AllFit (joined 65536) → ⊥
large_is_none f = too_large (f.0.called.0)

no_name : is_name_of [] ≡ true → ⊥
no_name e = cc

pub nameless_is_none : RequestsAreSpelled (told []) → ⊥
nameless_is_none h = no_name (h _ _ _ _ (inl refl)).group
