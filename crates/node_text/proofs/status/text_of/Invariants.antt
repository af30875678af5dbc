-- The text so far.
use Rattle.std.proofs.Common.{◌≡◌, ◌++◌, take}
use Rattle.std.specs.Prelude.{flat_map, codes}
use Rattle.node_text.proofs.status.text_of.Given as goal

abbrev pub invariant-loop-line : goal.invariant-loop-line
invariant-loop-line l = l.out.items ≡ flat_map (λ line. line ++ codes "\n") (take l.line-index l.ls)
