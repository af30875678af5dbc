use Rattle.rsct_packet.proofs.ProviderLaws.{AreProviders-without}
use Rattle.rsct_packet.proofs.providers.Providers.without.Goals as goal

pub invariant_of-result : goal.invariant_of-result
invariant_of-result c = rw (c.in_ok-all_but.ensures, c.as_slice.ensures.value) (AreProviders-without _ _ c.self.invariant)
