use Rattle.std.proofs.Common.{◌≡◌, ◌++◌, take}
use Rattle.std.specs.Prelude.{codes, flat_map}
use Rattle.value_words.specs.Wording.{member_text}
use Rattle.value_words.proofs.lists.put_more_members.Given as goal

abbrev pub invariant-loop-m : goal.invariant-loop-m
invariant-loop-m l = l.out.items ≡ l.initial.out.items ++ flat_map (λ y. codes "," ++ member_text y) (take l.m-index l.members)
