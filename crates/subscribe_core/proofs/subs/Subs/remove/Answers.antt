use Rattle.std.proofs.Common.{not}
use Rattle.subscribe_core.specs.Subs.{has_token}
use Rattle.subscribe_core.proofs.SubsLaws.{rise_kept}
use Rattle.subscribe_core.proofs.subs.Subs.remove.Goals as goal

pub invariant_of-self : goal.invariant_of-self
invariant_of-self c = rw c.retain_others.ensures (rise_kept (λ x. not (has_token c.args.token x)) 0 c.self.inside.last c.self.inside.live c.self.invariant)
