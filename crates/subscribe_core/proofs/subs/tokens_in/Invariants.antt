use Rattle.std.proofs.Common.{◌≡◌, take}
use Rattle.subscribe_core.specs.Subs.{tokens_among}
use Rattle.subscribe_core.proofs.subs.tokens_in.Given as goal

abbrev pub invariant-loop-subscription : goal.invariant-loop-subscription
invariant-loop-subscription l = l.tokens ≡ tokens_among l.group (take l.subscription-index l.live)
