use Rattle.std.proofs.Common.{◌≡◌, ◌≤◌, drop}
use Rattle.value_words.specs.Words.{number_from}
use Rattle.value_words.proofs.numbers.value_of.Given as goal

abbrev pub invariant-loop-d : goal.invariant-loop-d
invariant-loop-d l = (l.value ≤ l.high) × (number_from l.value (drop l.d-index l.digits) ≡ number_from 0 l.digits)
