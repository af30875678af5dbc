-- A safe run speaks of all groups, for any number, so the law is named here.
use Rattle.std.proofs.lemmas.Result.{IfOk-weaker}
use Rattle.net_script.proofs.SafeLaws.{begins_safely}
use Rattle.net_script.proofs.world.World.new.Goals as goal

pub returns-clause-safe : goal.returns-clause-safe
returns-clause-safe g c = IfOk-weaker c.begun.result _ _ (λ d. begins_safely c.args.config c.args.limit d c.args.out.now c.begun.new.out) c.begun.ensures.goes
