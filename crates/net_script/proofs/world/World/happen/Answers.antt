-- Each kind of event is what its call does.
use Rattle.world_model.specs.World.{happens}
use Rattle.world_laws.specs.world_answers.Answers.{happens_by}
use Rattle.net_script.proofs.WorldLaws.{comes_anyway}
use Rattle.net_script.proofs.world.World.happen.Goals as goal

pub returns-in_ok-start-in-Start-clause-goes : goal.returns-in_ok-start-in-Start-clause-goes
unfolding happens happens_by
returns-in_ok-start-in-Start-clause-goes g c = rw c.in-Start.is (comes_anyway _ _ _ c.in_ok-start-in-Start.ensures.goes)

pub returns-in_ok-stop-in-Stop-clause-goes : goal.returns-in_ok-stop-in-Stop-clause-goes
unfolding happens happens_by
returns-in_ok-stop-in-Stop-clause-goes g c = rw c.in-Stop.is (comes_anyway _ _ _ c.in_ok-stop-in-Stop.ensures.goes)

pub returns-in-Tick-clause-goes : goal.returns-in-Tick-clause-goes
unfolding happens happens_by
returns-in-Tick-clause-goes g c = rw c.in-Tick.is c.step.ensures.goes

pub returns-in-Ask-clause-goes : goal.returns-in-Ask-clause-goes
unfolding happens happens_by
returns-in-Ask-clause-goes g c = rw c.in-Ask.is c.step-in-Ask.ensures.goes

pub returns-in-Call-clause-goes : goal.returns-in-Call-clause-goes
unfolding happens happens_by
returns-in-Call-clause-goes g c = rw c.in-Call.is c.call.ensures.goes

pub returns-in_ok-show-in-Show-clause-goes : goal.returns-in_ok-show-in-Show-clause-goes
unfolding happens happens_by
returns-in_ok-show-in-Show-clause-goes g c = rw c.in-Show.is (comes_anyway _ _ _ c.in_ok-show-in-Show.ensures.goes)

pub returns-in-Deliver-clause-goes : goal.returns-in-Deliver-clause-goes
unfolding happens happens_by
returns-in-Deliver-clause-goes g c = rw c.in-Deliver.is c.give.ensures.goes

pub returns-in-Garbage-clause-goes : goal.returns-in-Garbage-clause-goes
unfolding happens happens_by
returns-in-Garbage-clause-goes g c = rw c.in-Garbage.is c.give_garbage.ensures.goes

pub returns-in_ok-start-in-Start-clause-hears : goal.returns-in_ok-start-in-Start-clause-hears
returns-in_ok-start-in-Start-clause-hears g c = rw c.in-Start.is c.in_ok-start-in-Start.ensures.hears

pub returns-in_ok-stop-in-Stop-clause-hears : goal.returns-in_ok-stop-in-Stop-clause-hears
returns-in_ok-stop-in-Stop-clause-hears g c = rw c.in-Stop.is c.in_ok-stop-in-Stop.ensures.hears

pub returns-in-Tick-clause-hears : goal.returns-in-Tick-clause-hears
returns-in-Tick-clause-hears g c = rw c.in-Tick.is c.step.ensures.hears

pub returns-in-Ask-clause-hears : goal.returns-in-Ask-clause-hears
returns-in-Ask-clause-hears g c = rw c.in-Ask.is c.step-in-Ask.ensures.hears

pub returns-in-Call-clause-hears : goal.returns-in-Call-clause-hears
returns-in-Call-clause-hears g c = rw c.in-Call.is c.call.ensures.hears

pub returns-in_ok-show-in-Show-clause-hears : goal.returns-in_ok-show-in-Show-clause-hears
returns-in_ok-show-in-Show-clause-hears g c = rw c.in-Show.is c.in_ok-show-in-Show.ensures.hears

pub returns-in-Deliver-clause-hears : goal.returns-in-Deliver-clause-hears
returns-in-Deliver-clause-hears g c = rw c.in-Deliver.is c.give.ensures.hears

pub returns-in-Garbage-clause-hears : goal.returns-in-Garbage-clause-hears
returns-in-Garbage-clause-hears g c = rw c.in-Garbage.is c.give_garbage.ensures.hears
