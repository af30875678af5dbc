use Rattle.rsct_packet.proofs.ProviderLaws.{AreProviders-without}
use Rattle.batch_rules.proofs.waiting.Waiting.drop_join.Goals as goal

pub invariant_of-self : goal.invariant_of-self
invariant_of-self c = rw c.remove_join.ensures (AreProviders-without _ _ c.self.invariant)
