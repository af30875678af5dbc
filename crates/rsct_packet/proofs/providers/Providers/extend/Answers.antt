use Rattle.rsct_packet.proofs.ProviderLaws.{AreProviders-append}
use Rattle.rsct_packet.proofs.providers.Providers.extend.Goals as goal

pub invariant_of-self-2 : goal.invariant_of-self-2
invariant_of-self-2 c = rw (c.in_ok-extend_from_slice.ensures.items, c.as_slice.ensures.value) (AreProviders-append _ _ c.self.invariant c.providers.invariant (rw (c.self.view_is, c.providers.view_is) c.requires.room) (rw (c.self.view_is, c.providers.view_is) c.requires.apart))
