-- What a step leaves keeps what it is to keep.
use Rattle.std.proofs.lemmas.Result.{on_ok_weaker}
use Rattle.node_groups.proofs.KeepLaws.{keeps_as}
use Rattle.node_rings.proofs.RingLaws.{keeps_taken}
use Rattle.node_rings.proofs.rings.step.Goals as goal

pub returns-clause-keeps : goal.returns-clause-keeps
returns-clause-keeps c = on_ok_weaker c.take_step.result (λ e. keeps_as _ _ _ e (keeps_taken c.args.core.now _)) c.take_step.ensures
