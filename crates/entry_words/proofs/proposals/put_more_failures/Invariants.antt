use Rattle.std.proofs.Common.{◌≡◌, ◌++◌, take}
use Rattle.std.specs.Prelude.{codes, flat_map}
use Rattle.entry_words.specs.Wording.{failure_text}
use Rattle.entry_words.proofs.proposals.put_more_failures.Given as goal

abbrev pub invariant-loop-f : goal.invariant-loop-f
invariant-loop-f l = l.out.items ≡ l.initial.out.items ++ flat_map (λ y. codes "," ++ failure_text y) (take l.f-index l.failures)
