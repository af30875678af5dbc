-- One provider more.
use Rattle.std.proofs.Common.{◌++◌, refl}
use Rattle.std.specs.Prelude.{codes}
use Rattle.value_words.specs.Wording.{provider_text}
use Rattle.value_words.proofs.TextLaws.{pieces_on}
use Rattle.value_words.proofs.lists.put_more_providers.Goals as goal

pub loop-p-preserved : goal.loop-p-preserved
loop-p-preserved c =
    pieces_on (λ y. codes "," ++ provider_text y) _ c.args.providers.now c.loop-p.p-index _ _ _ _ _ _ c.loop-p-test.true c.loop-p.invariant c.in_ok-put_text.ensures c.in_ok-put_provider.ensures refl
