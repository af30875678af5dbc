use Rattle.std.proofs.Common.{◌≡◌, ◌+◌, refl, arith}
use Rattle.link_use.proofs.PlaceLaws.{networks_begin, networks_next, networks_all}
use Rattle.link_use.proofs.places.tell_places.Goals as goal

pub loop-before-init : goal.loop-before-init
loop-before-init g c = networks_begin c.args.config.now _

pub loop-before-preserved : goal.loop-before-preserved
loop-before-preserved g c = networks_next c.args.config.now c.loop-before.before (c.loop-before.before + 1) _ _ _ refl c.loop-before.invariant c.tell_network.ensures

pub returns : goal.returns
returns g c =
    let all : c.loop-before.before ≡ 4 = omega arith in
    networks_all c.args.config.now c.loop-before.before _ _ all c.loop-before.invariant
