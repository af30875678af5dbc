use Rattle.std.proofs.Common.{refl}
use Rattle.subscribe_core.proofs.SubsLaws.{rise_added}
use Rattle.subscribe_core.proofs.subs.Subs.add.Goals as goal

pub invariant_of-self-2 : goal.invariant_of-self-2
invariant_of-self-2 c = rw c.in_ok-push.ensures.ok (rise_added 0 c.self.inside.last _ c.self.inside.live refl c.self.invariant)
