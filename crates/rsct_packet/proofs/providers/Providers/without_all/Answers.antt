use Rattle.rsct_packet.proofs.ProviderLaws.{AreProviders-without_all}
use Rattle.rsct_packet.proofs.providers.Providers.without_all.Goals as goal

pub invariant_of-result : goal.invariant_of-result
invariant_of-result c = rw (c.in_ok-all_but_some.ensures, c.as_slice.ensures.value) (AreProviders-without_all _ _ c.self.invariant)
