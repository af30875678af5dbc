-- One member more.
use Rattle.std.proofs.Common.{◌++◌, refl}
use Rattle.std.specs.Prelude.{codes}
use Rattle.value_words.specs.Wording.{member_text}
use Rattle.value_words.proofs.TextLaws.{pieces_on}
use Rattle.value_words.proofs.lists.put_more_members.Goals as goal

pub loop-m-preserved : goal.loop-m-preserved
loop-m-preserved c =
    pieces_on (λ y. codes "," ++ member_text y) _ c.args.members.now c.loop-m.m-index _ _ _ _ _ _ c.loop-m-test.true c.loop-m.invariant c.in_ok-put_text.ensures c.in_ok-put_member.ensures refl
