use Rattle.rsct_packet.proofs.ProviderLaws.{AreProviders-push}
use Rattle.rsct_packet.proofs.providers.Providers.push.Goals as goal

pub invariant_of-self-2 : goal.invariant_of-self-2
invariant_of-self-2 c = rw c.in_ok-push.ensures.items (AreProviders-push _ _ c.self.invariant (rw c.self.view_is c.requires.room) (rw c.self.view_is c.requires.apart))
