-- The digits so far.
use Rattle.std.proofs.Common.{◌≡◌, ◌++◌, take}
use Rattle.std.specs.Prelude.{flat_map}
use Rattle.daemon_model.specs.SelfLines.{byte_digits}
use Rattle.self_lines.proofs.numbers.put_digits.Given as goal

abbrev pub invariant-loop-b : goal.invariant-loop-b
invariant-loop-b l = l.out.items ≡ l.initial.out.items ++ flat_map byte_digits (take l.b-index l.bytes)
