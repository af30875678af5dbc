use Rattle.rsct_packet.proofs.ProviderLaws.{AreProviders-without_all}
use Rattle.rsct_packet.proofs.providers.Providers.retain_not.Goals as goal

pub invariant_of-self : goal.invariant_of-self
invariant_of-self c = rw c.keep_all_but.ensures (AreProviders-without_all _ _ c.self.invariant)
