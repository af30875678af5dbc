use Rattle.std.proofs.Common.{◌≡◌, ◌++◌, flat_map, take}
use Rattle.entry_words.specs.Words.{every_key}
use Rattle.entry_words.specs.Wording.{attr_text}
use Rattle.entry_words.proofs.attrs.put_attrs.Given as goal

abbrev pub invariant-loop-key : goal.invariant-loop-key
invariant-loop-key l = l.out.items ≡ l.initial.out.items ++ flat_map (attr_text l.attrs) (take l.key-index every_key)
