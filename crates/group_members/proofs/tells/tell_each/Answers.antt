-- One request after another.
use Rattle.std.proofs.Common.{refl, ◌∙◌, get_or}
use Rattle.std.proofs.lemmas.List.{get_or_default}
use Rattle.node_state.specs.Following.{take_tell}
use Rattle.entry_delivery.proofs.DoingLaws.{receive_then, receive_nothing, does_nothing, does_more, does_all}
use Rattle.group_members.proofs.tells.tell_each.Goals as goal

pub loop-p-init : goal.loop-p-init
loop-p-init g c = (c.requires.aligned, refl, does_nothing _ _ c.args.core.now (receive_nothing _ _))

pub loop-p-preserved : goal.loop-p-preserved
loop-p-preserved g c = (
  c.in_ok-tell.ensures.aligned,
  c.in_ok-tell.ensures.scripts ∙ c.loop-p.invariant.1,
  does_more _ _ _ _ (receive_then _ _ _ _) c.args.core.now c.loop-p.core c.tell.new.core (λ f t x. take_tell t x.0 x.1 c.args.why) c.args.requests.now c.loop-p.p-index (get_or c.args.requests.now c.loop-p.p-index _) c.loop-p-test.true
      (get_or_default _ _ _ _ c.loop-p-test.true) c.loop-p.invariant.2 (rw c.loop-p.invariant.1 at c.in_ok-tell.ensures.does),
)

pub returns-clause-does : goal.returns-clause-does
returns-clause-does g c = does_all _ _ c.args.core.now c.loop-p.core (λ f t x. take_tell t x.0 x.1 c.args.why) c.args.requests.now c.loop-p.p-index c.loop-p-test.false c.loop-p.invariant.2
