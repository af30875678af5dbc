use Rattle.std.proofs.Common.{◌≡◌, length}
use Rattle.std.specs.Prelude.{◌&&◌}
use Rattle.view_state.specs.Codec.{views_ascend, views_ascend_from, each_comes_once}
use Rattle.view_exchange.specs.Coming.{each_comes_after}
use Rattle.view_exchange.proofs.install_codec.do_sources_fit.Given as goal

abbrev pub invariant-loop-source : goal.invariant-loop-source
invariant-loop-source l = (views_ascend l.sources && each_comes_once l.members l.sources) ≡ (views_ascend_from l.last l.left && each_comes_after l.come l.members l.left)

abbrev pub decreases-loop-source : goal.decreases-loop-source
decreases-loop-source l = length l.left
