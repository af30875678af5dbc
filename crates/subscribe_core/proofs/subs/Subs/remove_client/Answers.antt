use Rattle.std.proofs.Common.{not}
use Rattle.subscribe_core.specs.Subs.{is_of_client}
use Rattle.subscribe_core.proofs.SubsLaws.{rise_kept}
use Rattle.subscribe_core.proofs.subs.Subs.remove_client.Goals as goal

pub invariant_of-self : goal.invariant_of-self
invariant_of-self c =
    rw c.retain_other_clients.ensures (rise_kept (λ x. not (is_of_client c.args.client x)) 0 c.self.inside.last c.self.inside.live c.self.invariant)
