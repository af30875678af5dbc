-- A safe run speaks of all groups, for any number, so the laws are named here.
use Rattle.std.proofs.lemmas.Result.{on_ok_weaker}
use Rattle.net_script.proofs.SafeLaws.{answers_safely, goes_safely}
use Rattle.net_script.proofs.world.World.event.Goals as goal

pub returns-clause-answers : goal.returns-clause-answers
returns-clause-answers g c = on_ok_weaker c.happen.result (answers_safely c.args.self.now c.happen.new.self c.args.out.now c.happen.new.out c.args.event.now) c.happen.ensures.goes

pub returns-clause-safe : goal.returns-clause-safe
returns-clause-safe g c = on_ok_weaker c.happen.result (goes_safely c.args.self.now c.happen.new.self c.args.out.now c.happen.new.out c.args.event.now) c.happen.ensures.goes
