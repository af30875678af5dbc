use Rattle.std.proofs.Common.{◌≡◌, ◌-◌, take}
use Rattle.std.specs.Prelude.{slice_set}
use Rattle.std.specs.List.{fold}
use Rattle.world_model.specs.Reading.{plain_address}
use Rattle.script_reader.proofs.progress.set_plain_addresses.Given as goal

abbrev pub invariant-loop-n : goal.invariant-loop-n
invariant-loop-n l = l.addresses ≡ fold (λ a n. slice_set a (n - 1) (plain_address l.config n)) l.initial.addresses (take l.n-index l.nodes)
