-- The running joiners of each base fit.
use Rattle.node_views.proofs.BaseLaws.{bases_are_sound}
use Rattle.node_views.proofs.bases.bases_of.Goals as goal

pub returns-clause-sound : goal.returns-clause-sound
returns-clause-sound c = bases_are_sound c.args.install.now c.bases_in.result (c.has_tails.ensures c.if-not-has_tails.false) c.bases_in.ensures
