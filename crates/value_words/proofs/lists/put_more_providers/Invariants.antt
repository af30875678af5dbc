use Rattle.std.proofs.Common.{◌≡◌, ◌++◌, take}
use Rattle.std.specs.Prelude.{codes, flat_map}
use Rattle.value_words.specs.Wording.{provider_text}
use Rattle.value_words.proofs.lists.put_more_providers.Given as goal

abbrev pub invariant-loop-p : goal.invariant-loop-p
invariant-loop-p l = l.out.items ≡ l.initial.out.items ++ flat_map (λ y. codes "," ++ provider_text y) (take l.p-index l.providers)
