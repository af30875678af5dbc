use Rattle.rsct_packet.proofs.ProviderLaws.{AreProviders-append}
use Rattle.rsct_packet.proofs.providers.Providers.with.Goals as goal

pub invariant_of-result : goal.invariant_of-result
invariant_of-result c = rw (c.in_ok-joined.ensures, c.as_slice.ensures.value, c.as_slice-2.ensures.value) (AreProviders-append _ _ c.self.invariant c.providers.invariant (rw (c.self.view_is, c.providers.view_is) c.requires.room) (rw (c.self.view_is, c.providers.view_is) c.requires.apart))
