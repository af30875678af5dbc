use Rattle.std.proofs.Common.{◌+◌, refl}
use Rattle.link_use.proofs.PlaceLaws.{network_begins, network_next}
use Rattle.link_use.proofs.places.tell_network.Goals as goal

pub loop-before-init : goal.loop-before-init
loop-before-init g c = network_begins c.args.config.now c.args.network _

pub loop-before-preserved : goal.loop-before-preserved
loop-before-preserved g c = network_next c.args.config.now c.args.network c.loop-before.before (c.loop-before.before + 1) _ _ _ refl c.loop-before.invariant c.tell_place.ensures
