-- Opens every word of this crate and of those that it stands on, for computations.
use Rattle.node_reach.specs.Opens.{all_opens}
use Rattle.node_state.specs.Opens.{spelling_opens, brought_opens}
use Rattle.node_state.specs.Bodies.{bodies_opens}
use Rattle.node_state.specs.Bytes.{bytes_opens}
use Rattle.route_state.specs.Envelope.{envelope_opens}
use Rattle.route_state.specs.Way.{way_opens}
use Rattle.route_state.specs.Samples.{samples_opens}

unfoldable pub route_opens : Unit {0}
unfolding spelling_opens brought_opens bodies_opens bytes_opens all_opens envelope_opens way_opens samples_opens
route_opens = tt
