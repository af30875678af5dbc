-- The law is the lemma's.
use Rattle.relay_laws.proofs.Carrying.{deliveries_are_direct}
use Rattle.relay_laws.proofs.deliveries_are_direct.Goals as goal

pub returns : goal.returns
returns c = deliveries_are_direct
